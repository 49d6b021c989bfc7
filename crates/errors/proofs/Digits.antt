-- Two decimal digits a byte and the number of them are inverse.
use mathlib.Core.Path.{◌≡◌}
use mathlib.Core.Bool.{true}
use mathlib.Mathlib.Data.Bool.Basic.{and_intro, and_elim_left, and_elim_right}
use Prim.Native.Nat.{ℕ, ◌+◌, ◌*◌, ◌/◌, ◌%◌, ◌≤◌}
use native.Mathlib.Omega.{arith}
use lib.Dec.{leb}
use borrow.Author.Tests.{le-leb, leb-true}
use Rattle.errors.specs.Bcd.{is_decimal, decimal, digits}

-- the halves of a byte of two digits
upper : (q r : ℕ) → r ≤ 9 → (16 * q + r) / 16 ≡ q
upper q r h = omega arith

lower : (q r : ℕ) → r ≤ 9 → (16 * q + r) % 16 ≡ r
lower q r h = omega arith

pub decimal_digits : (n : ℕ) → n ≤ 99 → decimal (digits n) ≡ n
decimal_digits n h =
    let tens : n / 10 % 10 ≡ n / 10 = omega arith in
    let u = upper (n / 10 % 10) (n % 10) (omega arith) in
    let l = lower (n / 10 % 10) (n % 10) (omega arith) in
    omega arith

pub are_digits : (n : ℕ) → is_decimal (digits n) ≡ true
are_digits n =
    let u = upper (n / 10 % 10) (n % 10) (omega arith) in
    let l = lower (n / 10 % 10) (n % 10) (omega arith) in
    and_intro (le-leb (digits n / 16) 9 (omega arith)) (le-leb (digits n % 16) 9 (omega arith))

pub record Decimal (b : ℕ) : Type 0 where
  pub upper : b / 16 ≤ 9
  pub lower : b % 16 ≤ 9

pub is_decimal_law : (b : ℕ) → is_decimal b ≡ true → Decimal b
is_decimal_law b h = record {
  upper = leb-true (b / 16) 9 (and_elim_left (leb (b / 16) 9) _ h);
  lower = leb-true (b % 16) 9 (and_elim_right (leb (b / 16) 9) _ h);
}

pub decimal_le : (b : ℕ) → is_decimal b ≡ true → decimal b ≤ 99
decimal_le b h = let d = is_decimal_law b h in omega arith

pub digits_decimal : (b : ℕ) → is_decimal b ≡ true → digits (decimal b) ≡ b
digits_decimal b h = let d = is_decimal_law b h in omega arith
