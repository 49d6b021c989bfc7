-- Reading a record (document 02, note 6; number 20): a date and time, the count, the details, and whether more follow.
use Rattle.std.specs.Prelude.{Bool, Option, Some, None, ◌&&◌, cond, List, [], ◌∷◌, ◌++◌, ℕ, zero, suc, ◌+◌, ◌-◌, ◌*◌, eqb, leb, length, get_or, replicate}
use Rattle.words.specs.Words.{word_at}
use Rattle.errors.specs.declared.Date.{Date}
use Rattle.errors.specs.declared.Time.{Time}
use Rattle.errors.specs.declared.ErrorRecord.{ErrorRecord}
use Rattle.errors.specs.Bcd.{is_decimal, decimal}
use Rattle.errors.specs.Calendar.{is_date, is_time}

-- ---- where the fields stand: year in bytes 0 and 1, month 2, day 3, hour 4, minute 5, second 6, day of week 7
abbrev pub is_decimal_at : List ℕ → ℕ → Bool
is_decimal_at b k = is_decimal (get_or b k 0)

abbrev pub decimal_at : List ℕ → ℕ → ℕ
decimal_at b k = decimal (get_or b k 0)

abbrev pub year_in : List ℕ → ℕ
year_in b = 100 * decimal_at b 0 + decimal_at b 1

abbrev pub date_in : List ℕ → Date
date_in b = record { year = year_in b; month = decimal_at b 2; day = decimal_at b 3 }

abbrev pub time_in : List ℕ → Time
time_in b = record { hour = decimal_at b 4; minute = decimal_at b 5; second = decimal_at b 6 }

-- how many details there are
abbrev pub count_in : List ℕ → ℕ
count_in b = word_at b 8

-- n words from byte k on
abbrev pub words_in : List ℕ → ℕ → ℕ → List ℕ
words_in b k zero = []
words_in b k (suc n) = word_at b k ∷ words_in b (k + 4) n

-- the details, and zeros up to ten
abbrev pub details_in : List ℕ → ℕ → List ℕ
details_in b n = words_in b 12 n ++ replicate (10 - n) 0

-- the last word
abbrev pub flag_in : List ℕ → ℕ
flag_in b = word_at b (length b - 4)

unfoldable pub more_follows : List ℕ → Bool
more_follows b = eqb (flag_in b) 1

-- ---- what is right: 20 stands for all else
-- the bytes of date and time are two decimal digits each
unfoldable pub has_digits : List ℕ → Bool
has_digits b =
    is_decimal_at b 0
    && (is_decimal_at b 1
    && (is_decimal_at b 2
    && (is_decimal_at b 3
    && (is_decimal_at b 4 && (is_decimal_at b 5 && (is_decimal_at b 6 && is_decimal_at b 7))))))

-- a count of 0 to 10, and as many details
unfoldable pub has_count : List ℕ → Bool
has_count b = leb (count_in b) 10 && eqb (length b) (16 + 4 * count_in b)

-- digits, date, time, day of week (of any date), count and length, and a flag of 0 or 1
unfoldable pub is_record : List ℕ → Bool
is_record b =
    has_digits b
    && (is_date (year_in b) (decimal_at b 2) (decimal_at b 3)
    && (is_time (decimal_at b 4) (decimal_at b 5) (decimal_at b 6)
    && (leb (decimal_at b 7) 6
    && (has_count b && leb (flag_in b) 1))))

-- ---- what a record says
unfoldable pub record_of : List ℕ → ErrorRecord
record_of b = record {
  date = date_in b;
  time = time_in b;
  weekday = decimal_at b 7;
  count = count_in b;
  details = details_in b (count_in b);
  more = more_follows b;
}

-- what reading finds: the record, if there is one
unfoldable pub decoded_of : List ℕ → Option ErrorRecord
decoded_of b = cond (is_record b) (Some (record_of b)) None
