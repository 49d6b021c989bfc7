-- A body in an array with zeros after it, and the front of that array.
use mathlib.Core.Path.{◌≡◌, refl, sym, ap}
use mathlib.Core.List.{List, [], ◌∷◌, ◌++◌}
use Prim.Native.Nat.{ℕ, zero, suc, ◌≤◌}
use native.Mathlib.Nat.{not-suc-le-zero, le_of_suc-le-suc}
use lib.Dec.{lit≤}
use lib.ListN.{length, take, drop, replicate}
use Rattle.steps.specs.Frames.{padded_record}

pub zeros : (m n : ℕ) → m ≤ n → take m (replicate {A = ℕ} n 0) ≡ replicate m 0
zeros zero n h = refl
zeros (suc m) zero h = absurd (not-suc-le-zero h)
zeros (suc m) (suc n) h = ap (λ (l : List ℕ). 0 ∷ l) (zeros m n (le_of_suc-le-suc h))

-- the front of such an array is one itself
pub padded_front : (m n : ℕ) (b : List ℕ) → m ≤ n
    → take m (take n b ++ drop (length b) (replicate n 0)) ≡ take m b ++ drop (length b) (replicate m 0)
padded_front zero n [] h = refl
padded_front zero n (x ∷ b) h = refl
padded_front (suc m) zero b h = absurd (not-suc-le-zero h)
padded_front (suc m) (suc n) [] h = ap (λ (l : List ℕ). 0 ∷ l) (zeros m n (le_of_suc-le-suc h))
padded_front (suc m) (suc n) (x ∷ b) h =
    ap (λ (l : List ℕ). x ∷ l) (padded_front m n b (le_of_suc-le-suc h))

pub record_front : (b : List ℕ) → take 56 b ++ drop (length b) (replicate 56 0) ≡ padded_record b
record_front b = sym (padded_front 56 100 b (lit≤ tt))
