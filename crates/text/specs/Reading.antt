-- What a line of a call list is made of: words, numbers, bytes and settings words.
use Rattle.std.specs.Prelude.{ℕ, ◌+◌, ◌-◌, ◌*◌, ◌/◌, ◌%◌, Bool, cond, ◌&&◌, ◌||◌, List, [], ◌∷◌, length, take, drop, map, ◌==◌, nat_le, nat_lt, slice_index, Option, Some, None}
use Rattle.std.specs.Char.{is_ascii_digit}
use Rattle.std.specs.List.{before_first, after_first, list_all, range_with_len}
use Rattle.words.specs.Words.{word_of}

-- ---- words
-- the first word: the bytes before the first space
unfoldable pub word_in : List ℕ → List ℕ
word_in s = before_first (λ b. b == 32) s

-- what follows the first space; nothing where there is none
unfoldable pub rest_of : List ℕ → List ℕ
rest_of s = after_first (λ b. b == 32) s

-- ---- numbers
-- the digits read on from a value
unfoldable pub value_from : ℕ → List ℕ → ℕ
value_from v [] = v
value_from v (b ∷ s) = value_from (10 * v + (b - 48)) s

-- the number below 2^64 that digits read on from a value are
unfoldable pub number_from : ℕ → List ℕ → Option ℕ
number_from v s =
    cond (list_all is_ascii_digit s && nat_lt (value_from v s) 18446744073709551616) (Some (value_from v s)) None

-- decimal, without sign or leading zeros, below 2^64
unfoldable pub number_of : List ℕ → Option ℕ
number_of w =
    cond (length w == 0) None
    (cond (nat_lt 1 (length w) && slice_index w 0 == 48) None (number_from 0 w))

-- ---- bytes
-- 0 to 9, a to f
abbrev pub is_hex_digit : ℕ → Bool
is_hex_digit b = is_ascii_digit b || nat_le 97 b && nat_le b 102

-- bytes: two digits each, or `-` for none
unfoldable pub is_hex : List ℕ → Bool
is_hex t =
    (length t == 1) && slice_index t 0 == 45
    || nat_lt 0 (length t) && (length t % 2 == 0 && list_all is_hex_digit t)

-- bytes of a frame: at most 512
unfoldable pub is_frame : List ℕ → Bool
is_frame t = is_hex t && nat_le (length t / 2) 512

-- the value of a digit; 0 where the byte is none
abbrev pub digit_of : ℕ → ℕ
digit_of b = cond (is_ascii_digit b) (b - 48) (cond (nat_le 97 b && nat_le b 102) (b - 87) 0)

-- the byte whose two digits stand at k
unfoldable pub byte_at : List ℕ → ℕ → ℕ
byte_at s k = 16 * digit_of (slice_index s k) + digit_of (slice_index s (k + 1))

-- the values f 0 to f (n - 1)
abbrev pub up_to : (ℕ → ℕ) → ℕ → List ℕ
up_to f n = map f (range_with_len 0 n)

-- the byte i of those whose digits begin at `start`
unfoldable pub byte_in : List ℕ → ℕ → ℕ → ℕ
byte_in s start i = byte_at s (start + 2 * i)

-- two digits a byte, to the end of the line; no byte for `-`
abbrev pub byte_count : List ℕ → ℕ → ℕ
byte_count s start = (length s - start) / 2

unfoldable pub bytes_from : List ℕ → ℕ → List ℕ
bytes_from s start = up_to (byte_in s start) (byte_count s start)

-- ---- words of 32 bits
-- exactly eight digits
unfoldable pub is_word : List ℕ → Bool
is_word t = length t == 8 && list_all is_hex_digit t

-- the word whose digits stand at k
unfoldable pub word_at : List ℕ → ℕ → ℕ
word_at s k = word_of (byte_at s k) (byte_at s (k + 2)) (byte_at s (k + 4)) (byte_at s (k + 6))

-- ---- settings words: after `load`, a space and eight digits each
-- the settings word i
unfoldable pub setting_at : List ℕ → ℕ → ℕ
setting_at s i = word_at s (5 + 9 * i)

-- nine bytes a word, to the end of the line
abbrev pub setting_count : List ℕ → ℕ
setting_count s = (length s - 4) / 9

unfoldable pub settings_in : List ℕ → List ℕ
settings_in s = up_to (setting_at s) (setting_count s)

-- a space and eight digits stand where the settings word i is
unfoldable pub is_setting_at : List ℕ → ℕ → Bool
is_setting_at s i = slice_index s (4 + 9 * i) == 32 && list_all is_hex_digit (take 8 (drop (5 + 9 * i) s))

-- the first n have this form
abbrev pub are_settings : List ℕ → ℕ → Bool
are_settings s n = list_all (is_setting_at s) (range_with_len 0 n)

-- at most 450, and nothing after the last
unfoldable pub is_load : List ℕ → Bool
is_load s = length s == 4 + 9 * setting_count s && nat_le (setting_count s) 450 && are_settings s (setting_count s)
