-- Words taken apart into bytes and put together again.
use mathlib.Core.Path.{◌≡◌, refl, sym, ap, ◌∙◌}
use mathlib.Core.List.{List, [], ◌∷◌, ◌++◌}
use Prim.Native.Nat.{ℕ, zero, suc, ◌+◌, ◌/◌, ◌%◌, ◌^◌, ◌≤◌, ◌<◌}
use native.Mathlib.Nat.{add-zero}
use native.Mathlib.Numerals.{add-one, add-two, add-three}
use native.Mathlib.Omega.{arith}
use lib.Dec.{lit<}
use lib.ListN.{length, get_or, take, drop}
use lib.Seq.{drop-cons, get_or-drop, get_or-append-add, get_or-append_seam}
use Rattle.words.specs.Bytes.{Bytes, none, more}
use Rattle.words.specs.Words.{word_of, word_at, word_bytes}

-- ---- a word and its four bytes
pub of_word : (v : ℕ) → word_of (v / 16777216) (v / 65536 % 256) (v / 256 % 256) (v % 256) ≡ v
of_word v = omega arith

word_of_law : (a b c d : ℕ) → b < 256 → c < 256 → d < 256 → word_bytes (word_of a b c d) ≡ (a ∷ b ∷ c ∷ d ∷ [])
word_of_law a b c d hb hc hd =
    let v : ℕ = word_of a b c d in
    let e₁ : v / 16777216 ≡ a = omega arith in
    let e₂ : v / 65536 % 256 ≡ b = omega arith in
    let e₃ : v / 256 % 256 ≡ c = omega arith in
    let e₄ : v % 256 ≡ d = omega arith in
    cc

-- the word at the end
pub word_end : (s : List ℕ) (v n : ℕ) → n ≡ length s → word_at (s ++ word_bytes v) n ≡ v
word_end s v n e =
    ap (word_at (s ++ word_bytes v)) e
    ∙ (λ i. word_of (get_or-append_seam s (v / 16777216) (v / 65536 % 256 ∷ (v / 256 % 256 ∷ (v % 256 ∷ []))) 0 i)
    (get_or-append-add s (word_bytes v) 1 0 i) (get_or-append-add s (word_bytes v) 2 0 i)
    (get_or-append-add s (word_bytes v) 3 0 i))
    ∙ of_word v

-- the word at k is the first of what stands there
pub word_from : (s : List ℕ) (k : ℕ) → word_at (drop k s) 0 ≡ word_at s k
word_from s k = simp (get_or-drop, add-zero)

-- ---- parts of bytes
byte_at : {s : List ℕ} → Bytes s → (k : ℕ) → get_or s k 0 < 256
byte_at none k = lit< tt
byte_at (more h r) zero = h
byte_at (more h r) (suc k) = byte_at r k

pub take_bytes : {s : List ℕ} (n : ℕ) → Bytes s → Bytes (take n s)
take_bytes zero r = none
take_bytes (suc n) none = none
take_bytes (suc n) (more h r) = more h (take_bytes n r)

pub drop_bytes : {s : List ℕ} (n : ℕ) → Bytes s → Bytes (drop n s)
drop_bytes zero r = r
drop_bytes (suc n) none = none
drop_bytes (suc n) (more h r) = drop_bytes n r

-- ---- the words of bytes
module _ (a : List ℕ) (r : Bytes a) where
  four : (k : ℕ) → k + 4 ≤ length a
      → take 4 (drop k a) ≡ (get_or a k 0 ∷ get_or a (k + 1) 0 ∷ get_or a (k + 2) 0 ∷ get_or a (k + 3) 0 ∷ [])
  four k h =
      rw (add-one, add-two, add-three)
      (rw (
        drop-cons a k 0 (omega arith),
        drop-cons a (suc k) 0 (omega arith),
        drop-cons a (suc (suc k)) 0 (omega arith),
        drop-cons a (suc (suc (suc k))) 0 (omega arith),
      ) refl)

  pub word_back : (k : ℕ) → k + 4 ≤ length a → word_bytes (word_at a k) ≡ take 4 (drop k a)
  word_back k h =
      word_of_law (get_or a k 0) (get_or a (k + 1) 0) (get_or a (k + 2) 0) (get_or a (k + 3) 0)
      (byte_at r (k + 1)) (byte_at r (k + 2)) (byte_at r (k + 3))
      ∙ sym (four k h)

  pub word_lt : (k : ℕ) → word_at a k < 2 ^ 32
  word_lt k = omega (arith, byte_at r k, byte_at r (k + 1), byte_at r (k + 2), byte_at r (k + 3))
