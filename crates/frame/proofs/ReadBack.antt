-- The round trip, all of it.
use mathlib.Core.Path.{◌≡◌, refl, sym, ap, ◌∙◌}
use Rattle.std.specs.Prelude.{Ok}
use Rattle.frame.specs.Reading.{frame_with}
use mathlib.Core.Bool.{Bool, true, false, ◌&&◌}
use mathlib.Core.List.{List, ◌++◌}
use mathlib.Mathlib.Data.Bool.Basic.{and_elim_left}
use Prim.Native.Nat.{ℕ, ◌+◌, ◌*◌, ◌<◌}
use native.Mathlib.Omega.{arith}
use lib.Dec.{leb}
use lib.ListN.{length, take, drop}
use lib.Seq.{slice, take_at, take-append-le}
use Rattle.words.specs.Output.{over}
use Rattle.frame.specs.declared.Fields.{Fields}
use Rattle.frame.specs.Reading.{reading_of}
use Rattle.frame.specs.Writing.{frame_bytes, is_writable, written_of, WriteSays}
use Rattle.frame.specs.RoundTrip.{SubconnectionFits, Readable, RoundTrip}
use Rattle.frame.proofs.Lengths.{length_frame}
use Rattle.frame.proofs.Written.{written as by-words}
use Rattle.frame.proofs.There.{reads, body_lies}
use Rattle.frame.proofs.Back.{within, back}

-- what was read of equal bytes is equal
only : (f g : Fields) (b c : List ℕ) → Readable f b → Readable g c → frame_bytes f b ≡ frame_bytes g c → (f ≡ g) × (b ≡ c)
only f g b c w x e =
    let r : Ok (frame_with f 20 (20 + length b)) ≡ Ok (frame_with g 20 (20 + length c)) = sym (reads f b w) ∙ ap reading_of e
    ∙ reads g c x in
    let q : frame_with f 20 (20 + length b) ≡ frame_with g 20 (20 + length c) = cc in
    let m : 20 + length b ≡ 20 + length c = ap (λ x. x.end) q in
    (ap (λ x. x.fields) q, sym (body_lies f b w) ∙ (λ i. slice 20 (m i) (e i)) ∙ body_lies g c x)

-- ---- what was written over an output's front is its front
module _ (f : Fields) (body out out' : List ℕ) (count : ℕ) (baseline : f.baseline < 65536)
    (subconnection : SubconnectionFits f.subconnection) (w : WriteSays f body out out' count) (some : 0 < count) where
  test : Bool
  test = is_writable f (length body) && leb (48 + 2 * length body) (length out)

  -- something was written, so the test passed
  passed : (b : Bool) → test ≡ b → test ≡ true
  unfolding test written_of
  passed true h = h
  passed false h =
      let n : length (written_of f body (length out)) ≡ 0 = rw h in
      absurd (omega (arith, w.counted))

  readable : Readable f body
  unfolding test
  readable = record {
    baseline = baseline;
    subconnection = subconnection;
    formed = and_elim_left (is_writable f (length body)) _ (passed test refl);
  }

  is_frame_law : written_of f body (length out) ≡ frame_bytes f body
  unfolding test written_of
  is_frame_law = rw (passed test refl)

  output : out' ≡ frame_bytes f body ++ drop (length (frame_bytes f body)) out
  unfolding over
  output = w.left ∙ ap (λ (x : List ℕ). over x out) is_frame_law

  front : take count out' ≡ frame_bytes f body
  front =
      ap (take count) output
      ∙ take_at (frame_bytes f body) _ count (sym (w.counted ∙ ap length is_frame_law))

  read_back : reading_of (take count out') ≡ Ok (frame_with f 20 (20 + length body))
  read_back = ap reading_of front ∙ reads f body readable

  body_back : slice 20 (20 + length body) out' ≡ body
  body_back =
      ap (slice 20 (20 + length body)) output
      ∙ ap (drop 20) (take-append-le (20 + length body) (frame_bytes f body) _ (omega (arith, length_frame f body)))
      ∙ body_lies f body readable

pub round_trip : RoundTrip
round_trip = record {
  there = λ f body w. (reads f body w, body_lies f body w);
  back = λ s f start end r h. back s r f start end h;
  within = within;
  only = only;
  written = λ f body out out' count t w some. (
    read_back f body out out' count t.baseline t.subconnection w some,
    body_back f body out out' count t.baseline t.subconnection w some,
  );
  words = λ f body out out' count r s some.
      let w = by-words f body out r.formed s in (
        read_back f body out out' count r.baseline r.subconnection w some,
        body_back f body out out' count r.baseline r.subconnection w some,
      );
}
