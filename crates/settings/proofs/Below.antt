-- What holds of every number below one that is counted up to.
use Rattle.std.proofs.Common.{◌≡◌, sym, ap, ◌∙◌, ℕ, ◌+◌, Bool, true, false, refl, List, [], ◌∷◌, arith}
use Prim.Native.Nat.{zero, suc}
use mathlib.Core.Bool.{◌&&◌, and-true}
use Rattle.std.proofs.Math.Bool.{and_assoc}
use Rattle.std.specs.List.{fold, list_all, range_with_len}

more : (test : ℕ → Bool) (a n k : ℕ) → a + n ≡ k
    → list_all test (range_with_len a (suc n)) ≡ (list_all test (range_with_len a n) && test k)
more test a zero k e = and-true (test a) ∙ ap test (omega (arith, e))
more test a (suc n) k e = ap (λ b. test a && b) (more test (a + 1) n k (omega (arith, e))) ∙ sym (and_assoc (test a) _ _)

pub all_below : (test f : ℕ → Bool) → f 0 ≡ true → ((n : ℕ) → f (suc n) ≡ (f n && test n)) → (n : ℕ)
    → list_all test (range_with_len 0 n) ≡ f n
all_below test f none next zero = sym none
all_below test f none next (suc n) =
    more test 0 n n (omega arith) ∙ ap (λ b. b && test n) (all_below test f none next n) ∙ sym (next n)

from_on : (p : ℕ → Bool) (a : Bool) (xs : List ℕ) → fold (λ b x. b && p x) a xs ≡ (a && list_all p xs)
from_on p true [] = refl
from_on p false [] = refl
from_on p true (x ∷ xs) = from_on p (p x) xs
from_on p false (x ∷ xs) = from_on p false xs

pub by_fold : (p : ℕ → Bool) (xs : List ℕ) → fold (λ b x. b && p x) true xs ≡ list_all p xs
by_fold p xs = from_on p true xs
