-- Whole lists: each connection's seven words, and no CID twice (number 18 otherwise).
use Rattle.std.specs.Prelude.{Bool, true, ◌&&◌, not, List, map, ℕ, zero, suc, ◌+◌, ◌*◌, ◌/◌, ◌%◌, eqb, leb, length, get_or}
use Rattle.std.specs.List.{range_with_len}
use Rattle.endpoint.specs.declared.Settings.{Settings}
use Rattle.settings.specs.Words.{rest_of, has_kinds, has_ranges, connection_of, settings_of}

-- the j-th word of the connection i, both counted from 0
abbrev pub word_of : List ℕ → ℕ → ℕ → ℕ
word_of ws i j = get_or ws (7 * i + j) 0

-- the seven words of the connection i
abbrev pub words_of : List ℕ → ℕ → List ℕ
words_of ws i = map (word_of ws i) (range_with_len 0 7)

unfoldable pub connection_at : List ℕ → ℕ → ℕ
connection_at ws i = connection_of (rest_of (word_of ws i 0)) (rest_of (word_of ws i 1))

unfoldable pub settings_at : List ℕ → ℕ → Settings
settings_at ws i =
    settings_of (rest_of (word_of ws i 0)) (rest_of (word_of ws i 1)) (rest_of (word_of ws i 2)) (rest_of (word_of ws i 3))
    (rest_of (word_of ws i 4)) (rest_of (word_of ws i 5)) (rest_of (word_of ws i 6))

unfoldable pub is_connection_at : List ℕ → ℕ → Bool
is_connection_at ws i =
    has_kinds (word_of ws i 0) (word_of ws i 1) (word_of ws i 2) (word_of ws i 3) (word_of ws i 4) (word_of ws i 5)
    (word_of ws i 6)
    && has_ranges (rest_of (word_of ws i 0)) (rest_of (word_of ws i 1)) (rest_of (word_of ws i 2)) (rest_of (word_of ws i 3))
    (rest_of (word_of ws i 4)) (rest_of (word_of ws i 5))

-- the CID of connection i is none of the first n
unfoldable pub is_new_at : List ℕ → ℕ → ℕ → Bool
is_new_at ws i zero = true
is_new_at ws i (suc n) = is_new_at ws i n && not (eqb (connection_at ws i) (connection_at ws n))

-- the first n connections are right
unfoldable pub are_connections : List ℕ → ℕ → Bool
are_connections ws zero = true
are_connections ws (suc n) = are_connections ws n && (is_connection_at ws n && is_new_at ws n n)

abbrev pub count_of : List ℕ → ℕ
count_of ws = length ws / 7

-- 1 to 64 connections of seven words each
unfoldable pub is_list : List ℕ → Bool
is_list ws = eqb (length ws % 7) 0 && leb 1 (count_of ws) && leb (count_of ws) 64 && are_connections ws (count_of ws)
