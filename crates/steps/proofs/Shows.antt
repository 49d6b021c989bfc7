-- What a show writes: too little room, or the value's width of bytes.
use mathlib.Core.Path.{◌≡◌, sym, ap, ap₂, ◌∙◌}
use mathlib.Core.List.{List, ◌++◌}
use Prim.Native.Nat.{ℕ, ◌≤◌, ◌<◌}
use lib.Dec.{leb}
use lib.ListN.{length, take, drop}
use lib.Seq.{length-take-le}
use borrow.Author.Tests.{lt-ltb, le-ltb, leb-true}
use Rattle.words.specs.Output.{over}
use mathlib.Mathlib.Data.Bool.Basic.{and_elim_left as and_left, and_elim_right as and_right}
use Rattle.endpoint.specs.declared.Settings.{Settings}
use Rattle.endpoint.specs.Endpoint.{Endpoint}
use Rattle.steps.specs.declared.Shown.{Shown}
use Rattle.steps.specs.Frames.{show_width}
use Rattle.steps.specs.Calls.{is_fail_safe, shown_of, shown_age}
use Rattle.steps.specs.Says.{ShowSays}
use Rattle.steps.proofs.Whole.{show_width_length}

pub show_width_le : (s : Settings) → show_width s ≤ 100
show_width_le s =
    leb-true (show_width s) 100
    (and_left (leb (show_width s) 100) _ (and_right (leb 4 (show_width s)) _ (show_width_length s)))

module _ (e : Endpoint) (t : ℕ) (out : List ℕ) where
  pub no_room : (r : Shown) → length out < 248 → r.count ≡ 0 → r.failsafe ≡ is_fail_safe e → r.age ≡ shown_age e t
      → ShowSays e t out out r
  unfolding over
  no_room r h n m g = let s = lt-ltb (length out) 248 h in record
      { counted = rw s n; marked = m; aged = g; output = rw s }

  pub shown : (r : Shown) (x : List ℕ) {out' : List ℕ} → 248 ≤ length out → r.count ≤ length x
      → take r.count x ≡ shown_of e → r.failsafe ≡ is_fail_safe e → r.age ≡ shown_age e t
      → out' ≡ take r.count x ++ drop r.count out → ShowSays e t out out' r
  unfolding over
  shown r x h n k m g o =
      let l = le-ltb (length out) 248 h in
      let s : r.count ≡ length (shown_of e) = sym (length-take-le r.count x n) ∙ ap length k in
      record {
        counted = rw l s;
        marked = m;
        aged = g;
        output = rw l (o ∙ ap₂ (λ (y : List ℕ) (z : ℕ). y ++ drop z out) k s);
      }
