-- The round trip, all of it.
use mathlib.Core.Path.{◌≡◌, refl, sym, ap, ◌∙◌}
use mathlib.Core.Bool.{Bool, true, false}
use mathlib.Core.List.{List}
use mathlib.Mathlib.Data.Bool.Basic.{and_elim_left}
use Prim.Native.Nat.{ℕ, ◌+◌, ◌*◌, ◌≤◌}
use lib.ListN.{length, take, drop}
use lib.Seq.{take_at}
use Rattle.std.specs.Prelude.{Some, None}
use Rattle.words.specs.Output.{over}
use Rattle.errors.specs.declared.ErrorRecord.{ErrorRecord}
use Rattle.errors.specs.Reading.{is_record, record_of, decoded_of}
use Rattle.errors.specs.Writing.{is_valid, is_written, bytes_of, written_of, WriteSays}
use Rattle.errors.specs.RoundTrip.{Typed, RoundTrip}
use Rattle.errors.proofs.Ranges.{accepted as tests}
use Rattle.errors.proofs.There.{is, reads, size, more}
use Rattle.errors.proofs.Back.{typed, is_valid_law, back}

sizes : (b : List ℕ) → is_record b ≡ true → (length b ≡ 16 + 4 * (record_of b).count) × ((record_of b).count ≤ 10)
unfolding record_of
sizes b h = ((tests b h).long, (tests b h).count)

-- ---- what was written over an output's front is its front
module _ (x : ErrorRecord) (out out' : List ℕ) (count : ℕ) (t : Typed x) (w : WriteSays x out out' (Some count)) where
  -- something was written, so the test passed
  passed : (b : Bool) → is_written x (length out) ≡ b → is_written x (length out) ≡ true
  passed true h = h
  passed false h = absurd cc (rw h at w.answered)

  valid : is_valid x ≡ true
  valid = and_elim_left (is_valid x) _ (passed _ refl)

  long : count ≡ length (bytes_of x)
  long = cc (rw (passed _ refl) at w.answered)

  all : written_of x (length out) ≡ bytes_of x
  unfolding written_of
  all = rw (passed _ refl)

  front : take count out' ≡ bytes_of x
  unfolding over
  front =
      ap (take count) (w.left ∙ ap (λ (s : List ℕ). over s out) all)
      ∙ take_at (bytes_of x) (drop (length (bytes_of x)) out) count (sym long)

  written : decoded_of (take count out') ≡ Some x
  unfolding decoded_of
  written = rw (front, is x t valid, reads x t valid)

refused : (b : List ℕ) → is_record b ≡ false → decoded_of b ≡ None
unfolding decoded_of
refused b h = rw h

pub round_trip : RoundTrip
round_trip = record {
  there = λ x t h. (is x t h, reads x t h);
  back = λ b r h. (is_valid_law b h, back b h r);
  typed = typed;
  only = λ x y t u h k e. sym (reads x t h) ∙ ap record_of e ∙ reads y u k;
  long = sizes;
  size = size;
  more = more;
  written = written;
  refused = refused;
}
