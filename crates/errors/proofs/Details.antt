-- Details in bytes and back, and the zeros after them.
use mathlib.Core.Path.{◌≡◌, refl, sym, ap, ap₂, ◌∙◌}
use mathlib.Core.Bool.{true}
use mathlib.Core.List.{List, [], ◌∷◌, ◌++◌}
use mathlib.Mathlib.Data.Bool.Basic.{and_elim_left, and_elim_right}
use Prim.Native.Nat.{ℕ, zero, suc, ◌+◌, ◌*◌, ◌≤◌}
use native.Mathlib.Omega.{arith}
use lib.Dec.{eqb}
use lib.ListN.{length, take, drop, replicate}
use lib.Seq.{take-add, drop-drop}
use borrow.Author.Tests.{eqb-true}
use Rattle.words.specs.Bytes.{Bytes}
use Rattle.words.specs.Words.{word_at, word_bytes}
use Rattle.words.proofs.Words.{of_word, word_from, word_back}
use Rattle.errors.specs.Reading.{words_in}
use Rattle.errors.specs.Writing.{are_zero, words_bytes}

pub length_words_in : (b : List ℕ) (k n : ℕ) → length (words_in b k n) ≡ n
length_words_in b k zero = refl
length_words_in b k (suc n) = ap suc (length_words_in b (k + 4) n)

pub length_words_bytes : (s : List ℕ) → length (words_bytes s) ≡ 4 * length s
length_words_bytes [] = refl
length_words_bytes (v ∷ s) = omega (arith, length_words_bytes s)

pub words_bytes_append : (s t : List ℕ) → words_bytes (s ++ t) ≡ words_bytes s ++ words_bytes t
words_bytes_append [] t = refl
words_bytes_append (v ∷ s) t = ap (λ (l : List ℕ). word_bytes v ++ l) (words_bytes_append s t)

-- words whose bytes stand at k are there
pub words_there : (b : List ℕ) (k : ℕ) (s rest : List ℕ) → drop k b ≡ words_bytes s ++ rest
    → words_in b k (length s) ≡ s
words_there b k [] rest h = refl
words_there b k (v ∷ s) rest h =
    let first : word_at b k ≡ v = sym (word_from b k) ∙ ap (λ (l : List ℕ). word_at l 0) h ∙ of_word v in
    let next : drop (k + 4) b ≡ words_bytes s ++ rest = sym (drop-drop 4 k b) ∙ ap (drop 4) h in
    ap₂ ◌∷◌ first (words_there b (k + 4) s rest next)

-- the bytes of the words from k on are those that stand there
pub words_back : (b : List ℕ) → Bytes b → (k n : ℕ) → k + 4 * n ≤ length b
    → words_bytes (words_in b k n) ≡ take (4 * n) (drop k b)
words_back b r k zero h = refl
words_back b r k (suc n) h =
    let e : 4 + 4 * n ≡ 4 * suc n = omega arith in
    ap₂ ◌++◌ (word_back b r k (omega arith)) (words_back b r (k + 4) n (omega arith))
    ∙ ap (λ (l : List ℕ). take 4 (drop k b) ++ take (4 * n) l) (sym (drop-drop 4 k b))
    ∙ sym (take-add 4 (4 * n) (drop k b)) ∙ ap (λ (m : ℕ). take m (drop k b)) e

pub zeros : (s : List ℕ) → are_zero s ≡ true → s ≡ replicate (length s) 0
zeros [] h = refl
zeros (v ∷ s) h =
    ap₂ ◌∷◌ (eqb-true v 0 (and_elim_left (eqb v 0) _ h)) (zeros s (and_elim_right (eqb v 0) _ h))

pub are_zero_law : (n : ℕ) → are_zero (replicate n 0) ≡ true
are_zero_law zero = refl
are_zero_law (suc n) = are_zero_law n
