-- Bytes that are printed are read back.
use Rattle.std.proofs.Common.{◌≡◌, ℕ, zero, suc, ◌+◌, ◌*◌, ◌/◌, ◌%◌, ◌<◌, ◌≤◌, Bool, true, false, ◌&&◌, ◌||◌, eqb, ltb, List, [], ◌∷◌, length, get_or, refl, ap, ◌∙◌, ap₂, arith, ext_get_or, ltb-false, ltb-true, le-ltb, lt-ltb, eq-eqb, le-leb}
use mathlib.Core.Bool.{or-true}
use borrow.Author.Tests.{lt-leb}
use mathlib.Mathlib.Data.Bool.Basic.{and_intro}
use Rattle.std.specs.List.{list_all}
use Rattle.std.proofs.lemmas.List.FromFn.{get_or-map-range_with_len, length-map-range_with_len}
use Rattle.text.specs.Printing.{hex_digit, hex_of, hex_text}
use Rattle.text.specs.Reading.{is_hex_digit, is_hex, digit_of, byte_at, up_to, byte_in, byte_count, bytes_from}

-- ---- one digit
low : (d : ℕ) → d < 10 → (is_hex_digit (hex_digit d) ≡ true) × (digit_of (hex_digit d) ≡ d)
low d h =
    rw (lt-ltb d 10 h, le-leb 48 (48 + d) (omega arith), le-leb (48 + d) 57 (omega arith)) (refl, omega arith)

high : (d : ℕ) → 10 ≤ d → d < 16 → (is_hex_digit (hex_digit d) ≡ true) × (digit_of (hex_digit d) ≡ d)
high d g h =
    rw (
      le-ltb d 10 g,
      le-leb 48 (87 + d) (omega arith),
      lt-leb (87 + d) 57 (omega arith),
      le-leb 97 (87 + d) (omega arith),
      le-leb (87 + d) 102 (omega arith),
    ) (refl, omega arith)

one : (d : ℕ) → d < 16 → (is_hex_digit (hex_digit d) ≡ true) × (digit_of (hex_digit d) ≡ d)
one d h = by (ltb d 10) refl
  where
    by : (p : Bool) → ltb d 10 ≡ p → (is_hex_digit (hex_digit d) ≡ true) × (digit_of (hex_digit d) ≡ d)
    by true e = low d (ltb-true d 10 e)
    by false e = high d (ltb-false d 10 e) h

length_hex : (s : List ℕ) → length (hex_of s) ≡ 2 * length s
unfolding hex_of
length_hex [] = refl
length_hex (b ∷ s) = let e = length_hex s in omega arith

-- ---- where the digits of the byte i stand
first : (s : List ℕ) (i : ℕ) → i < length s → get_or (hex_of s) (2 * i) 0 ≡ hex_digit (get_or s i 0 / 16)
unfolding hex_of
first [] i h = absurd (omega arith)
first (b ∷ s) zero h = refl
first (b ∷ s) (suc i) h =
    let e : 2 * suc i ≡ suc (suc (2 * i)) = omega arith in
    rw e (first s i (omega arith))

second : (s : List ℕ) (i : ℕ) → i < length s → get_or (hex_of s) (2 * i + 1) 0 ≡ hex_digit (get_or s i 0 % 16)
unfolding hex_of
second [] i h = absurd (omega arith)
second (b ∷ s) zero h = refl
second (b ∷ s) (suc i) h =
    let e : 2 * suc i + 1 ≡ suc (suc (2 * i + 1)) = omega arith in
    rw e (second s i (omega arith))

byte_back : (s : List ℕ) (i : ℕ) → i < length s → get_or s i 0 < 256 → byte_in (hex_of s) 0 i ≡ get_or s i 0
unfolding byte_in byte_at
byte_back s i h k =
    let b = get_or s i 0 in
    let e : 0 + 2 * i ≡ 2 * i = omega arith in
    ap (λ (n : ℕ). byte_at (hex_of s) n) e
    ∙ ap₂ (λ (x y : ℕ). 16 * digit_of x + digit_of y) (first s i h) (second s i h)
    ∙ ap₂ (λ (x y : ℕ). 16 * x + y) (one (b / 16) (omega arith)).1 (one (b % 16) (omega arith)).1
    ∙ omega arith

-- ---- all of them
all_back : (s : List ℕ) → ((i : ℕ) → get_or s i 0 < 256) → bytes_from (hex_of s) 0 ≡ s
unfolding bytes_from
all_back s h =
    let f : ℕ → ℕ = byte_in (hex_of s) 0 in
    let n : byte_count (hex_of s) 0 ≡ length s = omega (arith, length_hex s) in
    ap (λ (k : ℕ). up_to f k) n
    ∙ ext_get_or 0 (up_to f (length s)) s (length-map-range_with_len f 0 (length s))
    (λ i g.
    let k : i < length s = omega (arith, length-map-range_with_len f 0 (length s)) in
    get_or-map-range_with_len f 0 (length s) i i 0 k (omega arith) ∙ byte_back s i k (h i))

are_digits : (s : List ℕ) → ((i : ℕ) → get_or s i 0 < 256) → list_all is_hex_digit (hex_of s) ≡ true
unfolding hex_of
are_digits [] h = refl
are_digits (b ∷ s) h =
    let k : b < 256 = h 0 in
    and_intro (one (b / 16) (omega arith)).0 (and_intro (one (b % 16) (omega arith)).0 (are_digits s (λ i. h (suc i))))

-- ---- the theorem
pub bytes_back : (s : List ℕ) → ((i : ℕ) → get_or s i 0 < 256)
    → (is_hex (hex_text s) ≡ true) × (bytes_from (hex_text s) 0 ≡ s)
unfolding hex_text is_hex bytes_from
bytes_back [] h = (refl, refl)
bytes_back (b ∷ s) h =
    let t : List ℕ = hex_of (b ∷ s) in
    let l = length_hex (b ∷ s) in
    let x : Bool = eqb (length t) 1 && eqb (get_or t 0 0) 45 in
    let e = and_intro (lt-ltb 0 (length t) (omega arith))
    (and_intro (eq-eqb (length t % 2) 0 (omega arith)) (are_digits (b ∷ s) h)) in
    (ap (λ (p : Bool). x || p) e ∙ or-true x, all_back (b ∷ s) h)
