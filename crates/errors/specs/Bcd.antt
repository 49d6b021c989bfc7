-- Two decimal digits a byte (BCD), the upper half first.
use Rattle.std.specs.Prelude.{Bool, ◌&&◌, ℕ, ◌+◌, ◌*◌, ◌/◌, ◌%◌, leb}

-- both halves are digits
abbrev pub is_decimal : ℕ → Bool
is_decimal b = leb (b / 16) 9 && leb (b % 16) 9

-- the number of the two digits
abbrev pub decimal : ℕ → ℕ
decimal b = 10 * (b / 16) + b % 16

-- the byte of a number's last two digits
abbrev pub digits : ℕ → ℕ
digits n = 16 * (n / 10 % 10) + n % 10
