-- Words of 32 bits, most significant byte first.
use Rattle.std.specs.Prelude.{List, [], ◌∷◌, ℕ, ◌+◌, ◌*◌, ◌/◌, ◌%◌, get_or}

abbrev pub word_of : ℕ → ℕ → ℕ → ℕ → ℕ
word_of a b c d = 16777216 * a + (65536 * b + (256 * c + d))

-- the word whose first byte stands at k; bytes past the end count as 0
abbrev pub word_at : List ℕ → ℕ → ℕ
word_at s k = word_of (get_or s k 0) (get_or s (k + 1) 0) (get_or s (k + 2) 0) (get_or s (k + 3) 0)

abbrev pub word_bytes : ℕ → List ℕ
word_bytes v = v / 16777216 ∷ (v / 65536 % 256 ∷ (v / 256 % 256 ∷ (v % 256 ∷ [])))
