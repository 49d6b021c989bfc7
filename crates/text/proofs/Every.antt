-- Whether all bytes pass a test, asked of each in turn.
use Rattle.std.proofs.Common.{◌≡◌, refl, ℕ, Bool, true, false, ◌&&◌, List, [], ◌∷◌}
use Rattle.std.specs.List.{fold, list_all}

from_on : (p : ℕ → Bool) (a : Bool) (xs : List ℕ) → fold (λ b x. b && p x) a xs ≡ (a && list_all p xs)
from_on p true [] = refl
from_on p false [] = refl
from_on p true (x ∷ xs) = from_on p (p x) xs
from_on p false (x ∷ xs) = from_on p false xs

pub by_fold : (p : ℕ → Bool) (xs : List ℕ) → fold (λ b x. b && p x) true xs ≡ list_all p xs
by_fold p xs = from_on p true xs
