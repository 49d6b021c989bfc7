-- What `put_head` and `put_copies` leave is one run of bytes.
use mathlib.Core.Path.{◌≡◌, refl, ap, ◌∙◌}
use mathlib.Core.List.{List, ◌++◌, append_assoc}
use Prim.Native.Nat.{ℕ, ◌+◌, ◌*◌, ◌≤◌}
use native.Mathlib.Omega.{arith}
use borrow.Rule.Slice.PartMut.{put_mid}
use lib.ListN.{length, take, drop, length-append}
use lib.Seq.{drop-drop, take_at}
use Rattle.words.specs.Words.{word_bytes}
use Rattle.words.specs.Output.{put, put_whole}
use Rattle.words.proofs.Put.{whole, then, then_whole}
use Rattle.crc.specs.Crc.{crc}
use Rattle.frame.specs.declared.Head.{Head}
use Rattle.frame.specs.Writing.{head_bytes, with_check_word, twice}

-- a copy of s over a part of its length, back in its place
pub part : (k n : ℕ) (o s : List ℕ) {t : List ℕ} → t ≡ s → n ≡ length s → put_mid k n o t ≡ put o k s
unfolding put
part k n o s e l = rw (e, l, drop-drop, append_assoc)

-- ---- the calls of `put_head`, in order
pub head : (o : List ℕ) (h : Head) (body : List ℕ) {o₁ o₂ o₃ o₄ o₅ o₆ : List ℕ} → 20 + length body ≤ length o
    → o₁ ≡ put_whole o 0 (word_bytes h.control) → o₂ ≡ put_whole o₁ 4 (word_bytes h.connection)
    → o₃ ≡ put_whole o₂ 8 (word_bytes h.time) → o₄ ≡ put_whole o₃ 12 (word_bytes h.carry)
    → o₅ ≡ put_whole o₄ 16 (word_bytes 0) → o₆ ≡ put o₅ 20 body
    → o₆ ≡ put o 0 (head_bytes h.control h.connection h.time h.carry body)
unfolding head_bytes
head o h body l e₁ e₂ e₃ e₄ e₅ e₆ =
    let w₁ = word_bytes h.control in
    let w₂ = w₁ ++ word_bytes h.connection in
    let w₃ = w₂ ++ word_bytes h.time in
    let w₄ = w₃ ++ word_bytes h.carry in
    let f₁ = e₁ ∙ whole o 0 w₁ (omega arith) in
    let f₂ = then_whole o 0 w₁ (word_bytes h.connection) 4 f₁ e₂ refl (omega arith) in
    let f₃ = then_whole o 0 w₂ (word_bytes h.time) 8 f₂ e₃ refl (omega arith) in
    let f₄ = then_whole o 0 w₃ (word_bytes h.carry) 12 f₃ e₄ refl (omega arith) in
    let f₅ = then_whole o 0 w₄ (word_bytes 0) 16 f₄ e₅ refl (omega arith) in
    then o 0 (w₄ ++ word_bytes 0) body 20 f₅ e₆ refl (omega arith)

-- ---- the calls of `put_copies`, in order
front : (o s : List ℕ) (n : ℕ) → length s ≡ n → take n (put o 0 s) ≡ s
unfolding put
front o s n e = take_at s (drop (0 + length s) o) n e

-- the first n bytes once more, after themselves
again : (o a : List ℕ) (n : ℕ) {x y z : List ℕ} → take n o ≡ a → x ≡ take n o → y ≡ drop n o → z ≡ x
    → x ++ (z ++ drop (length x) y) ≡ put o n a
unfolding put
again o a n e ex ey ez = rw (ez, ex, ey, e, drop-drop, append_assoc)

pub copies : (o s : List ℕ) (n w : ℕ) {o₁ o₂ x y z : List ℕ} → length s ≡ n → 2 * (n + 4) ≤ length o
    → o₁ ≡ put o 0 s → w ≡ crc (take n o₁) → o₂ ≡ put_whole o₁ n (word_bytes w)
    → x ≡ take (n + 4) o₂ → y ≡ drop (n + 4) o₂ → z ≡ x
    → x ++ (z ++ drop (length x) y) ≡ put o 0 (twice (with_check_word s))
unfolding twice with_check_word
copies o s n w {o₁} {o₂} l h e₁ ew e₂ ex ey ez =
    let k : w ≡ crc s = ew ∙ ap (λ (x : List ℕ). crc (take n x)) e₁ ∙ ap crc (front o s n l) in
    let a = s ++ word_bytes (crc s) in
    let m : length a ≡ n + 4 = length-append s (word_bytes (crc s)) ∙ ap (λ (x : ℕ). x + 4) l in
    let f₂ : o₂ ≡ put o 0 a = then_whole o 0 s (word_bytes (crc s)) n e₁
    (e₂ ∙ ap (λ (x : ℕ). put_whole o₁ n (word_bytes x)) k) (omega arith) (omega arith) in
    then o 0 a a (n + 4) f₂ (again o₂ a (n + 4) (ap (take (n + 4)) f₂ ∙ front o a (n + 4) m) ex ey ez)
    (omega arith) (omega arith)
