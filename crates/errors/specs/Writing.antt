-- Writing a record over the front of a lent output.
use Rattle.std.specs.Prelude.{◌≡◌, Option, Some, None, Bool, true, ◌&&◌, cond, List, [], ◌∷◌, ◌++◌, ℕ, ◌+◌, ◌*◌, ◌/◌, ◌%◌, eqb, leb, length, take, drop}
use Rattle.words.specs.Words.{word_bytes}
use Rattle.words.specs.Output.{over}
use Rattle.errors.specs.declared.ErrorRecord.{ErrorRecord}
use Rattle.errors.specs.Bcd.{digits}
use Rattle.errors.specs.Calendar.{is_date, is_time}

abbrev pub are_zero : List ℕ → Bool
are_zero [] = true
are_zero (v ∷ s) = eqb v 0 && are_zero s

-- what can be written: the year has four digits, and details past the count are 0
unfoldable pub is_valid : ErrorRecord → Bool
is_valid x =
    leb x.date.year 9999
    && (is_date x.date.year x.date.month x.date.day
    && (is_time x.time.hour x.time.minute x.time.second
    && (leb x.weekday 6
    && (leb x.count 10 && are_zero (drop x.count x.details)))))

-- date and time
unfoldable pub date_bytes : ErrorRecord → List ℕ
date_bytes x =
    digits (x.date.year / 100) ∷ digits (x.date.year % 100) ∷ digits x.date.month ∷ digits x.date.day
    ∷ digits x.time.hour ∷ digits x.time.minute ∷ digits x.time.second ∷ digits x.weekday ∷ []

abbrev pub words_bytes : List ℕ → List ℕ
words_bytes [] = []
words_bytes (v ∷ s) = word_bytes v ++ words_bytes s

abbrev pub flag_of : Bool → ℕ
flag_of more = cond more 1 0

-- date and time, the count, the details, whether more follow
unfoldable pub bytes_of : ErrorRecord → List ℕ
bytes_of x =
    date_bytes x
    ++ (word_bytes x.count ++ (words_bytes (take x.count x.details) ++ word_bytes (flag_of x.more)))

-- whether the record is written to an output of `room` bytes
abbrev pub is_written : ErrorRecord → ℕ → Bool
is_written x room = is_valid x && leb (16 + 4 * x.count) room

-- what is written: the record; nothing where it is not valid or does not fit
unfoldable pub written_of : ErrorRecord → ℕ → List ℕ
written_of x room = cond (is_written x room) (bytes_of x) []

-- what write_record answers (the length, if the record is written) and leaves in the output
pub record WriteSays (x : ErrorRecord) (out out' : List ℕ) (answer : Option ℕ) : Type 0 where
  pub answered : answer ≡ cond (is_written x (length out)) (Some (length (bytes_of x))) None
  pub left : out' ≡ over (written_of x (length out)) out
