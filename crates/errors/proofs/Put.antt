-- What `put_details` and `put` leave is one run of bytes.
use mathlib.Core.Path.{◌≡◌, refl, sym, ap, ◌∙◌}
use mathlib.Core.List.{List, [], ◌∷◌, ◌++◌, append_assoc}
use Prim.Native.Nat.{ℕ, ◌+◌, ◌*◌, ◌≤◌, ◌<◌}
use native.Mathlib.Numerals.{add-one}
use native.Mathlib.Omega.{arith}
use lib.ListN.{length, get_or, take, length-append}
use lib.Seq.{take-suc, length-take-le, sets-eq}
use Rattle.words.specs.Words.{word_bytes}
use Rattle.words.specs.Output.{put, put_whole}
use Rattle.words.proofs.Put.{whole, then, then_whole}
use Rattle.errors.specs.declared.ErrorRecord.{ErrorRecord}
use Rattle.errors.specs.Writing.{date_bytes, words_bytes, flag_of, bytes_of}
use Rattle.errors.proofs.Details.{length_words_bytes, words_bytes_append}

length_said : (details : List ℕ) (n : ℕ) → n ≤ length details → length (words_bytes (take n details)) ≡ 4 * n
length_said details n h =
    length_words_bytes (take n details) ∙ ap (λ (k : ℕ). 4 * k) (length-take-le n details h)

-- ---- the loop of `put_details`: at first nothing is written; each detail comes after those before it
pub start : (o : List ℕ) → 12 ≤ length o → o ≡ put o 12 []
unfolding put
start o h = sets-eq [] o 12 (omega arith)

pub put_turn : (o details : List ℕ) (i : ℕ) {o₁ o₂ : List ℕ} → i < length details → 12 + 4 * (i + 1) ≤ length o
    → o₁ ≡ put o 12 (words_bytes (take i details))
    → o₂ ≡ put_whole o₁ (12 + 4 * i) (word_bytes (get_or details i 0))
    → o₂ ≡ put o 12 (words_bytes (take (i + 1) details))
put_turn o details i h l e f =
    let s = take i details in
    let v = get_or details i 0 in
    let m = length_said details i (omega arith) in
    let t : take (i + 1) details ≡ s ++ (v ∷ []) = ap (λ (k : ℕ). take k details) (add-one i) ∙ take-suc details i 0 h in
    let w : words_bytes s ++ word_bytes v ≡ words_bytes (take (i + 1) details) =
    sym (words_bytes_append s (v ∷ [])) ∙ ap words_bytes (sym t) in
    then_whole o 12 (words_bytes s) (word_bytes v) (12 + 4 * i) e f (omega arith) (omega arith) ∙ ap (put o 12) w

-- ---- the calls of `put`, in order
pub puts : (o : List ℕ) (x : ErrorRecord) {o₁ o₂ o₃ o₄ : List ℕ} → x.count ≤ length x.details → 16 + 4 * x.count ≤ length o
    → o₁ ≡ put_whole o 0 (date_bytes x) → o₂ ≡ put_whole o₁ 8 (word_bytes x.count)
    → o₃ ≡ put o₂ 12 (words_bytes (take x.count x.details))
    → o₄ ≡ put_whole o₃ (12 + 4 * x.count) (word_bytes (flag_of x.more))
    → o₄ ≡ put o 0 (bytes_of x)
unfolding bytes_of date_bytes
puts o x h room e₁ e₂ e₃ e₄ =
    let d = date_bytes x in
    let n = word_bytes x.count in
    let w = words_bytes (take x.count x.details) in
    let m = length_said x.details x.count h in
    let f₁ = e₁ ∙ whole o 0 d (omega arith) in
    let f₂ = then_whole o 0 d n 8 f₁ e₂ refl (omega arith) in
    let f₃ = then o 0 (d ++ n) w 12 f₂ e₃ refl (omega arith) in
    then_whole o 0 ((d ++ n) ++ w) (word_bytes (flag_of x.more)) (12 + 4 * x.count) f₃ e₄ (omega (arith, length-append (d ++ n) w)) (omega arith)
    ∙ ap (put o 0) (append_assoc (d ++ n) w (word_bytes (flag_of x.more)))
