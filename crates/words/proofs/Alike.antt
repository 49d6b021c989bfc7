-- `same` tells whether two lists are equal.
use Rattle.std.proofs.Common.{◌≡◌, refl, true, ℕ, List}
use Rattle.std.specs.Bool.{Decides}
use Rattle.std.proofs.lemmas.Slice.Eq.{compares_Decides}
use Rattle.words.specs.Bytes.{same}

decides : (a b : List ℕ) → Decides (same a b) (a ≡ b)
decides = compares_Decides same record { empty = refl; shorter = λ _ _. refl; longer = λ _ _. refl; heads = λ _ _ _ _. refl }

pub same_refl : (s : List ℕ) → same s s ≡ true
same_refl s = (decides s s).1 refl

pub same_eq : (a b : List ℕ) → same a b ≡ true → a ≡ b
same_eq a b = (decides a b).0
