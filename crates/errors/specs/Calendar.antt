-- Dates by the Gregorian rule, and times of day.
use Rattle.std.specs.Prelude.{Bool, ◌&&◌, ◌||◌, not, cond, ℕ, ◌%◌, eqb, leb}

-- every fourth year, of the full hundreds every fourth
abbrev pub is_leap : ℕ → Bool
is_leap year = (eqb (year % 4) 0 && not (eqb (year % 100) 0)) || eqb (year % 400) 0

abbrev pub is_month : ℕ → Bool
is_month month = leb 1 month && leb month 12

-- a common year: 30 days in April, June, September and November, 28 in February, 31 in the others
abbrev pub has_thirty : ℕ → Bool
has_thirty month = eqb month 4 || (eqb month 6 || (eqb month 9 || eqb month 11))

unfoldable pub days_of : ℕ → ℕ
days_of month = cond (has_thirty month) 30 (cond (eqb month 2) 28 31)

-- 29 in February of a leap year
unfoldable pub days_in : ℕ → ℕ → ℕ
days_in year month = cond (eqb month 2 && is_leap year) 29 (days_of month)

-- days run from 1 to the month's end
unfoldable pub is_date : ℕ → ℕ → ℕ → Bool
is_date year month day = is_month month && (leb 1 day && leb day (days_in year month))

abbrev pub is_time : ℕ → ℕ → ℕ → Bool
is_time hour minute second = leb hour 23 && (leb minute 59 && leb second 59)
