-- What the tests of a valid record, and of an accepted list of bytes, say in numbers.
use mathlib.Core.Path.{◌≡◌}
use mathlib.Core.Bool.{Bool, true, false, cond, ◌&&◌}
use mathlib.Core.List.{List}
use mathlib.Mathlib.Data.Bool.Basic.{and_elim_left, and_elim_right}
use Prim.Native.Nat.{ℕ, ◌+◌, ◌*◌, ◌≤◌}
use native.Mathlib.Omega.{arith}
use lib.Dec.{eqb, leb, lit≤}
use lib.ListN.{length, drop}
use borrow.Author.Tests.{leb-true, eqb-true}
use Rattle.errors.specs.declared.ErrorRecord.{ErrorRecord}
use Rattle.errors.specs.Calendar.{is_leap, is_month, has_thirty, days_of, days_in, is_date, is_time}
use Rattle.errors.specs.Reading.{is_decimal_at, decimal_at, year_in, count_in, flag_in, has_digits, has_count, is_record}
use Rattle.errors.specs.Writing.{are_zero, is_valid}

-- ---- dates and times
pick_le : (t : Bool) (a b n : ℕ) → a ≤ n → b ≤ n → cond t a b ≤ n
pick_le true a b n h k = h
pick_le false a b n h k = k

days_le : (year month : ℕ) → days_in year month ≤ 31
unfolding days_in days_of
days_le year month =
    pick_le (eqb month 2 && is_leap year) 29 _ 31 (lit≤ tt)
    (pick_le (has_thirty month) 30 _ 31 (lit≤ tt) (pick_le (eqb month 2) 28 31 31 (lit≤ tt) (lit≤ tt)))

pub record Date (m d : ℕ) : Type 0 where
  pub month : m ≤ 12
  pub day : d ≤ 31

pub date : (y m d : ℕ) → is_date y m d ≡ true → Date m d
unfolding is_date
date y m d h =
    let a = and_elim_left (is_month m) _ h in
    let b = and_elim_right (is_month m) _ h in
    let l = leb-true d (days_in y m) (and_elim_right (leb 1 d) _ b) in
    record { month = leb-true m 12 (and_elim_right (leb 1 m) _ a); day = omega (arith, days_le y m) }

pub record Time (h m s : ℕ) : Type 0 where
  pub hour : h ≤ 23
  pub minute : m ≤ 59
  pub second : s ≤ 59

pub time : (h m s : ℕ) → is_time h m s ≡ true → Time h m s
time h m s t =
    let r = and_elim_right (leb h 23) _ t in
    record {
      hour = leb-true h 23 (and_elim_left (leb h 23) _ t);
      minute = leb-true m 59 (and_elim_left (leb m 59) _ r);
      second = leb-true s 59 (and_elim_right (leb m 59) _ r);
    }

-- ---- a valid record
pub record Valid (x : ErrorRecord) : Type 0 where
  pub year : x.date.year ≤ 9999
  pub date : is_date x.date.year x.date.month x.date.day ≡ true
  pub time : is_time x.time.hour x.time.minute x.time.second ≡ true
  pub weekday : x.weekday ≤ 6
  pub count : x.count ≤ 10
  pub rest : are_zero (drop x.count x.details) ≡ true

pub valid : (x : ErrorRecord) → is_valid x ≡ true → Valid x
unfolding is_valid
valid x h =
    let a = and_elim_right (leb x.date.year 9999) _ h in
    let b = and_elim_right (is_date x.date.year x.date.month x.date.day) _ a in
    let c = and_elim_right (is_time x.time.hour x.time.minute x.time.second) _ b in
    let d = and_elim_right (leb x.weekday 6) _ c in
    record {
      year = leb-true x.date.year 9999 (and_elim_left (leb x.date.year 9999) _ h);
      date = and_elim_left (is_date x.date.year x.date.month x.date.day) _ a;
      time = and_elim_left (is_time x.time.hour x.time.minute x.time.second) _ b;
      weekday = leb-true x.weekday 6 (and_elim_left (leb x.weekday 6) _ c);
      count = leb-true x.count 10 (and_elim_left (leb x.count 10) _ d);
      rest = and_elim_right (leb x.count 10) _ d;
    }

-- ---- accepted bytes
pub record Digits (b : List ℕ) : Type 0 where
  pub d0 : is_decimal_at b 0 ≡ true
  pub d1 : is_decimal_at b 1 ≡ true
  pub d2 : is_decimal_at b 2 ≡ true
  pub d3 : is_decimal_at b 3 ≡ true
  pub d4 : is_decimal_at b 4 ≡ true
  pub d5 : is_decimal_at b 5 ≡ true
  pub d6 : is_decimal_at b 6 ≡ true
  pub d7 : is_decimal_at b 7 ≡ true

pub digits : (b : List ℕ) → has_digits b ≡ true → Digits b
unfolding has_digits
digits b h =
    let r1 = and_elim_right (is_decimal_at b 0) _ h in
    let r2 = and_elim_right (is_decimal_at b 1) _ r1 in
    let r3 = and_elim_right (is_decimal_at b 2) _ r2 in
    let r4 = and_elim_right (is_decimal_at b 3) _ r3 in
    let r5 = and_elim_right (is_decimal_at b 4) _ r4 in
    let r6 = and_elim_right (is_decimal_at b 5) _ r5 in
    record {
      d0 = and_elim_left (is_decimal_at b 0) _ h;
      d1 = and_elim_left (is_decimal_at b 1) _ r1;
      d2 = and_elim_left (is_decimal_at b 2) _ r2;
      d3 = and_elim_left (is_decimal_at b 3) _ r3;
      d4 = and_elim_left (is_decimal_at b 4) _ r4;
      d5 = and_elim_left (is_decimal_at b 5) _ r5;
      d6 = and_elim_left (is_decimal_at b 6) _ r6;
      d7 = and_elim_right (is_decimal_at b 6) _ r6;
    }

pub record Accepted (b : List ℕ) : Type 0 where
  pub digits : Digits b
  pub date : is_date (year_in b) (decimal_at b 2) (decimal_at b 3) ≡ true
  pub time : is_time (decimal_at b 4) (decimal_at b 5) (decimal_at b 6) ≡ true
  pub weekday : leb (decimal_at b 7) 6 ≡ true
  pub count : count_in b ≤ 10
  pub long : length b ≡ 16 + 4 * count_in b
  pub flag : flag_in b ≤ 1

pub accepted : (b : List ℕ) → is_record b ≡ true → Accepted b
unfolding is_record has_count
accepted b h =
    let r1 = and_elim_right (has_digits b) _ h in
    let r2 = and_elim_right (is_date (year_in b) (decimal_at b 2) (decimal_at b 3)) _ r1 in
    let r3 = and_elim_right (is_time (decimal_at b 4) (decimal_at b 5) (decimal_at b 6)) _ r2 in
    let r4 = and_elim_right (leb (decimal_at b 7) 6) _ r3 in
    let n = and_elim_left (has_count b) _ r4 in
    record {
      digits = digits b (and_elim_left (has_digits b) _ h);
      date = and_elim_left (is_date (year_in b) (decimal_at b 2) (decimal_at b 3)) _ r1;
      time = and_elim_left (is_time (decimal_at b 4) (decimal_at b 5) (decimal_at b 6)) _ r2;
      weekday = and_elim_left (leb (decimal_at b 7) 6) _ r3;
      count = leb-true (count_in b) 10 (and_elim_left (leb (count_in b) 10) _ n);
      long = eqb-true (length b) (16 + 4 * count_in b) (and_elim_right (leb (count_in b) 10) _ n);
      flag = leb-true (flag_in b) 1 (and_elim_right (has_count b) _ r4);
    }

pub count_le : (b : List ℕ) → is_record b ≡ true → count_in b ≤ 10
count_le b h = (accepted b h).count
