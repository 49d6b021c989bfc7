-- A written record is a record, and reads back.
use mathlib.Core.Path.{◌≡◌, refl, sym, ap, ap₂, ◌∙◌}
use mathlib.Core.Bool.{Bool, true, false}
use mathlib.Core.List.{List, ◌++◌}
use mathlib.Mathlib.Data.Bool.Basic.{and_intro}
use Prim.Native.Nat.{ℕ, ◌+◌, ◌-◌, ◌*◌, ◌/◌, ◌%◌, ◌≤◌}
use native.Mathlib.Omega.{arith}
use lib.Dec.{eqb, lit≤}
use lib.ListN.{length, take, drop, replicate, length-append, length-drop, take-append-drop}
use lib.Seq.{length-take-le}
use borrow.Author.Tests.{le-leb, eq-eqb}
use Rattle.words.specs.Words.{word_bytes}
use Rattle.words.proofs.Words.{of_word, word_end}
use Rattle.errors.specs.declared.ErrorRecord.{ErrorRecord}
use Rattle.errors.specs.Calendar.{is_date, is_time}
use Rattle.errors.specs.Reading.{decimal_at, year_in, count_in, words_in, details_in, flag_in, more_follows}
use Rattle.errors.specs.Reading.{has_digits, has_count, is_record, record_of}
use Rattle.errors.specs.Writing.{is_valid, date_bytes, words_bytes, flag_of, bytes_of}
use Rattle.errors.specs.RoundTrip.{Typed}
use Rattle.errors.proofs.Digits.{decimal_digits, are_digits}
use Rattle.errors.proofs.Details.{length_words_bytes, words_there, zeros}
use Rattle.errors.proofs.Ranges.{Date, date, Time, time, Valid, valid}

flag_le : (m : Bool) → flag_of m ≤ 1
flag_le true = lit≤ tt
flag_le false = lit≤ tt

is_flag : (m : Bool) → eqb (flag_of m) 1 ≡ m
is_flag true = refl
is_flag false = refl

module _ (x : ErrorRecord) (t : Typed x) (h : is_valid x ≡ true) where
  v : Valid x
  v = valid x h

  on : Date x.date.month x.date.day
  on = date x.date.year x.date.month x.date.day v.date

  at : Time x.time.hour x.time.minute x.time.second
  at = time x.time.hour x.time.minute x.time.second v.time

  -- the details that are written
  n : ℕ
  n = x.count

  said : List ℕ
  said = take n x.details

  length_said : length said ≡ n
  unfolding said n
  length_said = length-take-le n x.details (omega (arith, t.details, v.count))

  pub size : length (bytes_of x) ≡ 16 + 4 * x.count
  unfolding bytes_of date_bytes said n
  size =
      let w = length_words_bytes said in
      let l = length_said in
      let e = length-append (words_bytes said) (word_bytes (flag_of x.more)) in
      omega arith

  -- ---- the fields
  year : year_in (bytes_of x) ≡ x.date.year
  unfolding bytes_of date_bytes
  year =
      let a = decimal_digits (x.date.year / 100) (omega (arith, v.year)) in
      let b = decimal_digits (x.date.year % 100) (omega arith) in
      omega arith

  month : decimal_at (bytes_of x) 2 ≡ x.date.month
  unfolding bytes_of date_bytes
  month = decimal_digits x.date.month (omega (arith, v, on, at))

  day : decimal_at (bytes_of x) 3 ≡ x.date.day
  unfolding bytes_of date_bytes
  day = decimal_digits x.date.day (omega (arith, v, on, at))

  hour : decimal_at (bytes_of x) 4 ≡ x.time.hour
  unfolding bytes_of date_bytes
  hour = decimal_digits x.time.hour (omega (arith, v, on, at))

  minute : decimal_at (bytes_of x) 5 ≡ x.time.minute
  unfolding bytes_of date_bytes
  minute = decimal_digits x.time.minute (omega (arith, v, on, at))

  second : decimal_at (bytes_of x) 6 ≡ x.time.second
  unfolding bytes_of date_bytes
  second = decimal_digits x.time.second (omega (arith, v, on, at))

  weekday : decimal_at (bytes_of x) 7 ≡ x.weekday
  unfolding bytes_of date_bytes
  weekday = decimal_digits x.weekday (omega (arith, v, on, at))

  count : count_in (bytes_of x) ≡ x.count
  unfolding bytes_of date_bytes
  count = of_word x.count

  details : details_in (bytes_of x) n ≡ x.details
  unfolding bytes_of date_bytes said n
  details =
      let w : words_in (bytes_of x) 12 (length said) ≡ said = words_there (bytes_of x) 12 said _ refl in
      let e : words_in (bytes_of x) 12 n ≡ said = ap (words_in (bytes_of x) 12) (sym length_said) ∙ w in
      let l : length (drop n x.details) ≡ 10 - n = length-drop n x.details ∙ ap (λ (k : ℕ). k - n) t.details in
      let z : replicate (10 - n) 0 ≡ drop n x.details =
      sym (zeros (drop n x.details) v.rest ∙ ap (λ (k : ℕ). replicate k 0) l) in
      ap₂ ◌++◌ e z ∙ take-append-drop n x.details

  flag : flag_in (bytes_of x) ≡ flag_of x.more
  unfolding bytes_of date_bytes said n
  flag =
      let s = date_bytes x ++ (word_bytes x.count ++ words_bytes said) in
      word_end s (flag_of x.more) (length (bytes_of x) - 4)
      (omega (arith, size, length_words_bytes said, length_said))

  pub more : more_follows (bytes_of x) ≡ x.more
  unfolding more_follows
  more = ap (λ (k : ℕ). eqb k 1) flag ∙ is_flag x.more

  -- ---- all together
  pub reads : record_of (bytes_of x) ≡ x
  unfolding record_of n
  reads =
      let d = ap (details_in (bytes_of x)) count ∙ details in
      λ i. record {
        date = record { year = year i; month = month i; day = day i };
        time = record { hour = hour i; minute = minute i; second = second i };
        weekday = weekday i;
        count = count i;
        details = d i;
        more = more i;
      }

  decimals : has_digits (bytes_of x) ≡ true
  unfolding has_digits bytes_of date_bytes
  decimals =
      and_intro (are_digits (x.date.year / 100))
      (and_intro (are_digits (x.date.year % 100))
      (and_intro (are_digits x.date.month)
      (and_intro (are_digits x.date.day)
      (and_intro (are_digits x.time.hour)
      (and_intro (are_digits x.time.minute)
      (and_intro (are_digits x.time.second) (are_digits x.weekday)))))))

  pub is : is_record (bytes_of x) ≡ true
  unfolding is_record has_count
  is =
      let r = v in
      let b = bytes_of x in
      and_intro decimals
      (and_intro ((λ i. is_date (year i) (month i) (day i)) ∙ v.date)
      (and_intro ((λ i. is_time (hour i) (minute i) (second i)) ∙ v.time)
      (and_intro (le-leb (decimal_at b 7) 6 (omega (arith, weekday)))
      (and_intro
      (and_intro (le-leb (count_in b) 10 (omega (arith, count)))
      (eq-eqb (length b) (16 + 4 * count_in b) (omega (arith, count, size))))
      (le-leb (flag_in b) 1 (omega (arith, flag, flag_le x.more)))))))
