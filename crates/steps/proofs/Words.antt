-- The words that a request carries, put into an array one after the other.
use mathlib.Core.Path.{◌≡◌, refl, sym, ap, ◌∙◌}
use mathlib.Core.List.{List, [], ◌∷◌, ◌++◌}
use Prim.Native.Nat.{ℕ, ◌+◌, ◌*◌, ◌≤◌, ◌<◌}
use native.Mathlib.Numerals.{add-one}
use native.Mathlib.Omega.{arith}
use lib.ListN.{length, get_or, take, drop, replicate, length-append, length-drop}
use lib.Seq.{take-suc, take_at, length-take-le}
use Rattle.words.specs.Words.{word_bytes}
use Rattle.words.specs.Output.{put, put_whole}
use Rattle.words.proofs.Put.{then_whole}
use Rattle.steps.specs.declared.Body.{Body}
use Rattle.steps.specs.Frames.{words_bytes}
use Rattle.steps.specs.Says.{DataSays}

length_words : (s : List ℕ) → length (words_bytes s) ≡ 4 * length s
length_words [] = refl
length_words (v ∷ s) = omega (arith, length_words s)

words_append : (s t : List ℕ) → words_bytes (s ++ t) ≡ words_bytes s ++ words_bytes t
words_append [] t = refl
words_append (v ∷ s) t = ap (λ (l : List ℕ). word_bytes v ++ l) (words_append s t)

-- ---- the loop of `of_words`: each word comes after those before it
pub put_turn : (o words : List ℕ) (i : ℕ) {o₁ o₂ : List ℕ} → i < length words → 4 * (i + 1) ≤ length o
    → o₁ ≡ put o 0 (words_bytes (take i words)) → o₂ ≡ put_whole o₁ (4 * i) (word_bytes (get_or words i 0))
    → o₂ ≡ put o 0 (words_bytes (take (i + 1) words))
put_turn o words i h l e f =
    let s = take i words in
    let v = get_or words i 0 in
    let m : length (words_bytes s) ≡ 4 * i =
    length_words s ∙ ap (λ (k : ℕ). 4 * k) (length-take-le i words (omega arith)) in
    let t : take (i + 1) words ≡ s ++ (v ∷ []) = ap (λ (k : ℕ). take k words) (add-one i) ∙ take-suc words i 0 h in
    let w : words_bytes s ++ word_bytes v ≡ words_bytes (take (i + 1) words) =
    sym (words_append s (v ∷ [])) ∙ ap words_bytes (sym t) in
    then_whole o 0 (words_bytes s) (word_bytes v) (4 * i) e f (omega (arith, m)) (omega arith) ∙ ap (put o 0) w

-- at its end they are the data
pub says : (words : List ℕ) (d : Body) → length words ≤ 25 → d.length ≡ 4 * length words
    → d.bytes ≡ put (replicate 100 0) 0 (words_bytes words) → DataSays (words_bytes words) d
unfolding put
says words d h n b =
    let w = words_bytes words in
    let m : d.length ≡ length w = n ∙ sym (length_words words) in
    record {
      counted = m;
      holds = rw (b, m) (take_at w (drop (0 + length w) (replicate 100 0)) (length w) refl);
      fits = rw b (simp (length-append, length-drop) (omega (arith, n, length_words words)));
    }
