-- The text of an answer, and lent memory that it is put into.
use Rattle.std.specs.Prelude.{◌≡◌, ℕ, zero, suc, ◌+◌, ◌/◌, ◌%◌, ◌≤◌, Bool, cond, List, [], ◌∷◌, ◌++◌, length, ◌==◌, nat_le, nat_lt, codes, decimal, Option, Some, None}
use Rattle.words.specs.Output.{put, over}
use Rattle.text.specs.declared.answer.Answer.{Answer}
use Rattle.text.specs.declared.put.Writer.{Writer}

-- ---- numbers and bytes
-- the last w decimal digits
unfoldable pub last_digits : ℕ → ℕ → List ℕ
last_digits zero n = []
last_digits (suc w) n = last_digits w (n / 10) ++ ((48 + n % 10) ∷ [])

-- 0 to 9, a to f
abbrev pub hex_digit : ℕ → ℕ
hex_digit d = cond (nat_lt d 10) (48 + d) (87 + d)

unfoldable pub hex_of : List ℕ → List ℕ
hex_of [] = []
hex_of (b ∷ s) = hex_digit (b / 16) ∷ hex_digit (b % 16) ∷ hex_of s

-- `-` for no bytes
unfoldable pub hex_text : List ℕ → List ℕ
hex_text [] = codes "-"
hex_text (b ∷ s) = hex_of (b ∷ s)

-- ---- words and lines
-- a word and the space after it
unfoldable pub word : List ℕ → List ℕ
word s = s ++ codes " "

-- `-` where the answer has no entry
unfoldable pub entry_text : Option ℕ → List ℕ
entry_text None = codes "-"
entry_text (Some entry) = decimal entry

unfoldable pub mark_text : Bool → List ℕ
mark_text mark = cond mark (codes "1") (codes "0")

-- the age of a shown value in ticks, after a space; nothing where none is told
unfoldable pub age_text : Option ℕ → List ℕ
age_text None = []
age_text (Some n) = codes " " ++ decimal n

-- ` DIRTY` where a byte past those written was changed; the newline
unfoldable pub end_text : Bool → List ℕ
end_text dirty = cond dirty (codes " DIRTY\n") (codes "\n")

-- NUMBER ENTRY COUNT MARK HEX, and AGE where one is told
unfoldable pub answer_text : Answer → List ℕ → List ℕ
answer_text a bytes =
    word (decimal a.number) ++ word (entry_text a.entry) ++ word (decimal a.count) ++ word (mark_text a.mark)
    ++ hex_text bytes ++ age_text a.age ++ end_text a.dirty

unfoldable pub check_text : ℕ → List ℕ
check_text number = decimal number ++ codes "\n"

-- `? N`
unfoldable pub wrong_text : ℕ → List ℕ
wrong_text n = codes "? " ++ decimal n ++ codes "\n"

-- ---- lent memory
-- 0xEE, with which an output is filled before it is lent
abbrev pub is_fill : ℕ → Bool
is_fill b = b == 238

-- n bytes more fit
abbrev pub HasRoom : ℕ → Writer → Type 0
HasRoom n w = w.at + n ≤ length w.out.now

-- the text at the writer's place, and the place after it; the text has at most `most` bytes
pub record Puts (most : ℕ) (text : List ℕ) (before after : Writer) : Type 0 where
  pub bytes : after.out.now ≡ put before.out.now before.at text
  pub end : after.at ≡ before.at + length text
  pub short : length text ≤ most
  pub size : length after.out.now ≡ length before.out.now
  pub same : after.out.ghost_name ≡ before.out.ghost_name

-- the text over the front of lent memory and its length; nothing where the memory is shorter than `room`
pub record Written (room : ℕ) (text before after : List ℕ) (n : ℕ) : Type 0 where
  pub bytes : after ≡ over (cond (nat_le room (length before)) text []) before
  pub count : n ≡ length (cond (nat_le room (length before)) text [])
  pub within : n ≤ length before
