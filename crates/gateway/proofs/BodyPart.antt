-- The part of a slice, as the code takes it.
use mathlib.Core.Path.{◌≡◌, sym, ap, ◌∙◌}
use mathlib.Core.List.{List}
use Prim.Native.Nat.{ℕ, ◌+◌, ◌-◌, ◌≤◌}
use native.Mathlib.Omega.{arith}
use lib.ListN.{length, take, drop}
use lib.Seq.{slice}
use Rattle.frame.proofs.Lengths.{slice_from}

pub part : (s : List ℕ) (start end : ℕ) → start ≤ end → end ≤ length s
    → slice start end s ≡ take (end - start) (drop start s)
part s start end h k =
    let e : start + (end - start) ≡ end = omega arith in
    ap (λ (n : ℕ). slice start n s) (sym e) ∙ slice_from start (end - start) s (omega arith)
