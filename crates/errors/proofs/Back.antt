-- An accepted list of bytes is what writing its record gives, and its record is valid.
use mathlib.Core.Path.{◌≡◌, refl, sym, ap, ◌∙◌}
use mathlib.Core.Bool.{true}
use mathlib.Core.List.{List, [], ◌∷◌, ◌++◌}
use mathlib.Mathlib.Data.Bool.Basic.{and_intro}
use Prim.Native.Nat.{ℕ, zero, suc, ◌+◌, ◌-◌, ◌*◌, ◌/◌, ◌%◌, ◌≤◌}
use native.Mathlib.Omega.{arith}
use lib.Dec.{eqb}
use lib.ListN.{length, get_or, take, drop, replicate, length-append, length-replicate}
use lib.Seq.{take-add, take_all, take_at, drop_at, drop-drop, drop-cons}
use borrow.Author.Tests.{le-leb}
use Rattle.words.specs.Bytes.{Bytes}
use Rattle.words.specs.Words.{word_bytes}
use Rattle.words.proofs.Words.{word_back}
use Rattle.errors.specs.Bcd.{digits}
use Rattle.errors.specs.Reading.{decimal_at, year_in, count_in, words_in, details_in, flag_in, more_follows}
use Rattle.errors.specs.Reading.{is_record, record_of}
use Rattle.errors.specs.Writing.{are_zero, is_valid, date_bytes, words_bytes, flag_of, bytes_of}
use Rattle.errors.specs.RoundTrip.{Typed}
use Rattle.errors.proofs.Digits.{decimal_le, digits_decimal}
use Rattle.errors.proofs.Details.{length_words_in, words_back, are_zero_law}
use Rattle.errors.proofs.Ranges.{Accepted, accepted}

-- n bytes from k on, one by one
abbrev listed : List ℕ → ℕ → ℕ → List ℕ
listed b k zero = []
listed b k (suc n) = get_or b k 0 ∷ listed b (suc k) n

take_listed : (b : List ℕ) (k n : ℕ) → k + n ≤ length b → take n (drop k b) ≡ listed b k n
take_listed b k zero h = refl
take_listed b k (suc n) h =
    ap (take (suc n)) (drop-cons b k 0 (omega arith))
    ∙ ap (λ (l : List ℕ). get_or b k 0 ∷ l) (take_listed b (suc k) n (omega arith))

flag_back : (k : ℕ) → k ≤ 1 → flag_of (eqb k 1) ≡ k
flag_back zero h = refl
flag_back (suc zero) h = refl
flag_back (suc (suc k)) h = absurd (omega arith)

module _ (b : List ℕ) (h : is_record b ≡ true) where
  a : Accepted b
  a = accepted b h

  n : ℕ
  n = count_in b

  -- ---- its record
  pub typed : Typed (record_of b)
  unfolding record_of n
  typed =
      let l : length (details_in b n) ≡ 10 =
      length-append (words_in b 12 n) (replicate (10 - n) 0)
      ∙ omega (arith, length_words_in b 12 n, length-replicate {A = ℕ} (10 - n) 0, a.count) in
      record { details = l }

  said : take n (details_in b n) ≡ words_in b 12 n
  said = take_at (words_in b 12 n) (replicate (10 - n) 0) n (length_words_in b 12 n)

  rest : are_zero (drop n (details_in b n)) ≡ true
  rest = ap are_zero (drop_at (words_in b 12 n) (replicate (10 - n) 0) n (length_words_in b 12 n)) ∙ are_zero_law (10 - n)

  pub is_valid_law : is_valid (record_of b) ≡ true
  unfolding is_valid record_of n
  is_valid_law =
      let d = a.digits in
      let e0 = decimal_le (get_or b 0 0) d.d0 in
      let e1 = decimal_le (get_or b 1 0) d.d1 in
      and_intro (le-leb (year_in b) 9999 (omega arith))
      (and_intro a.date (and_intro a.time (and_intro a.weekday
      (and_intro (le-leb (count_in b) 10 a.count) rest))))

  -- ---- its bytes
  dated : date_bytes (record_of b) ≡ take 8 b
  unfolding date_bytes record_of
  dated =
      let d = a.digits in
      let l = decimal_le (get_or b 1 0) d.d1 in
      let hundreds : year_in b / 100 ≡ decimal_at b 0 = omega arith in
      let ones : year_in b % 100 ≡ decimal_at b 1 = omega arith in
      let e0 = ap digits hundreds ∙ digits_decimal (get_or b 0 0) d.d0 in
      let e1 = ap digits ones ∙ digits_decimal (get_or b 1 0) d.d1 in
      let e2 = digits_decimal (get_or b 2 0) d.d2 in
      let e3 = digits_decimal (get_or b 3 0) d.d3 in
      let e4 = digits_decimal (get_or b 4 0) d.d4 in
      let e5 = digits_decimal (get_or b 5 0) d.d5 in
      let e6 = digits_decimal (get_or b 6 0) d.d6 in
      let e7 = digits_decimal (get_or b 7 0) d.d7 in
      (λ i. e0 i ∷ e1 i ∷ e2 i ∷ e3 i ∷ e4 i ∷ e5 i ∷ e6 i ∷ e7 i ∷ []) ∙ sym (take_listed b 0 8 (omega (arith, a.long)))

  module _ (r : Bytes b) where
    counted : word_bytes n ≡ take 4 (drop 8 b)
    unfolding n
    counted = word_back b r 8 (omega (arith, a.long))

    detailed : words_bytes (take n (details_in b n)) ≡ take (4 * n) (drop 12 b)
    unfolding n
    detailed = ap words_bytes said ∙ words_back b r 12 n (omega (arith, a.long))

    flagged : word_bytes (flag_of (more_follows b)) ≡ take 4 (drop (12 + 4 * n) b)
    unfolding more_follows n
    flagged =
        let e : length b - 4 ≡ 12 + 4 * n = omega (arith, a.long) in
        ap word_bytes (flag_back (flag_in b) a.flag)
        ∙ word_back b r (length b - 4) (omega (arith, a.long))
        ∙ ap (λ (k : ℕ). take 4 (drop k b)) e

    rebuilt : (m : ℕ) → take 8 b ++ (take 4 (drop 8 b) ++ (take m (drop 12 b) ++ take 4 (drop (12 + m) b)))
        ≡ take (8 + (4 + (m + 4))) b
    rebuilt m = sym (simp (take-add, drop-drop))

    pub back : bytes_of (record_of b) ≡ b
    unfolding bytes_of record_of n
    back =
        (λ i. dated i ++ (counted i ++ (detailed i ++ flagged i)))
        ∙ rebuilt (4 * n) ∙ take_all (8 + (4 + (4 * n + 4))) b (omega (arith, a.long))
