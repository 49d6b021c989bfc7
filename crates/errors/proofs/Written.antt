-- What `write_record` says in its two cases: nothing is written, or the record.
use Rattle.std.proofs.Common.{◌≡◌, ◌∙◌, ℕ, ◌+◌, ◌*◌, ◌≤◌, ◌<◌, true, false, Some, None, List, length, le-leb}
use mathlib.Core.Bool.{and-false}
use mathlib.Mathlib.Data.Bool.Basic.{and_intro}
use borrow.Author.Tests.{lt-leb}
use Rattle.words.specs.Output.{put, over}
use Rattle.words.proofs.Put.{put_over}
use Rattle.errors.specs.declared.ErrorRecord.{ErrorRecord}
use Rattle.errors.specs.Writing.{is_valid, is_written, bytes_of, written_of, WriteSays}
use Rattle.errors.specs.RoundTrip.{Typed}
use Rattle.errors.proofs.There.{size}

module _ (x : ErrorRecord) (out : List ℕ) where
  nothing : is_written x (length out) ≡ false → WriteSays x out out None
  unfolding written_of over
  nothing t = record { answered = rw t; left = rw t }

  pub invalid : is_valid x ≡ false → WriteSays x out out None
  invalid h = nothing (rw h)

  pub short : length out < 16 + 4 * x.count → WriteSays x out out None
  short h = nothing (rw (lt-leb (16 + 4 * x.count) (length out) h) (and-false (is_valid x)))

  pub whole : {out' : List ℕ} → Typed x → is_valid x ≡ true → 16 + 4 * x.count ≤ length out
      → out' ≡ put out 0 (bytes_of x) → WriteSays x out out' (Some (16 + 4 * x.count))
  unfolding written_of
  whole t h room e =
      let w = and_intro h (le-leb (16 + 4 * x.count) (length out) room) in
      record { answered = rw (w, size x t h); left = rw w (e ∙ put_over out (bytes_of x)) }
