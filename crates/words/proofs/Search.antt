-- The search for a byte, by the library's words.
use Rattle.std.proofs.Common.{◌≡◌, refl, sym, ap, ◌∙◌, ℕ, List, length, take, not, arith}
use Rattle.std.specs.List.{prefix_len, position_or_len}
use Rattle.std.proofs.lemmas.List.Folds.{length-prefix_len}
use Rattle.std.proofs.lemmas.List.Recursion.{is_position_or_len}
use Rattle.std.proofs.Math.Seq.{take-length}
use lib.Dec.{eqb}
use Rattle.words.specs.Bytes.{slice, index_of}

place : (b : ℕ) (s : List ℕ) → index_of b s ≡ position_or_len (λ x. eqb x b) s
place b s = is_position_or_len (index_of b) (λ x. eqb x b) refl (λ _ _. grind arith) s

-- the bytes before the first b, counted
pub count_before : (b : ℕ) (s : List ℕ) → length (take (prefix_len (λ x. not (eqb x b)) s) s) ≡ index_of b s
count_before b s = length-prefix_len (λ x. not (eqb x b)) s ∙ sym (place b s)

-- the first b of all bytes, by the library's words
pub place_in_all : (b : ℕ) (s : List ℕ) → index_of b (slice 0 (length s) s) ≡ position_or_len (λ x. eqb x b) s
unfolding slice
place_in_all b s = ap (index_of b) (take-length s) ∙ place b s
