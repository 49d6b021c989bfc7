-- The seven words of one connection (document 01, "The settings list").
use Rattle.std.specs.Prelude.{Bool, ◌&&◌, not, ℕ, ◌+◌, ◌*◌, ◌/◌, ◌%◌, eqb, leb, ltb}
use Rattle.endpoint.specs.declared.Settings.{Settings}

-- the top four bits, and the 28 below
abbrev pub kind_of : ℕ → ℕ
kind_of w = w / 268435456

abbrev pub rest_of : ℕ → ℕ
rest_of w = w % 268435456

-- 1 to 65,535 ticks
abbrev pub is_ticks : ℕ → Bool
is_ticks v = leb 1 v && leb v 65535

-- 1 to 25 words
abbrev pub is_words : ℕ → Bool
is_words v = leb 1 v && leb v 25

-- kinds 1 to 7 in order
abbrev pub has_kinds : ℕ → ℕ → ℕ → ℕ → ℕ → ℕ → ℕ → Bool
has_kinds a b c d e f g =
    eqb (kind_of a) 1
    && (eqb (kind_of b) 2
    && (eqb (kind_of c) 3
    && (eqb (kind_of d) 4 && (eqb (kind_of e) 5 && (eqb (kind_of f) 6 && eqb (kind_of g) 7)))))

-- what the words hold below their kinds: addresses a and b of 16 bits that differ; c the role (bit 10), M (bits 9 to
-- 5) and S (4 to 0); I, R and A in ticks
abbrev pub has_ranges : ℕ → ℕ → ℕ → ℕ → ℕ → ℕ → Bool
has_ranges a b c i r g =
    ltb a 65536
    && (ltb b 65536
    && (not (eqb a b)
    && (ltb c 2048 && (is_words (c / 32 % 32) && (is_words (c % 32) && (is_ticks i && (is_ticks r && is_ticks g)))))))

-- CID of a master's and a slave's address, of 16 bits each
abbrev pub connection_of : ℕ → ℕ → ℕ
connection_of a b = 65536 * (a % 65536) + b % 65536

abbrev pub settings_of : ℕ → ℕ → ℕ → ℕ → ℕ → ℕ → ℕ → Settings
settings_of a b c i r g s = record {
  connection = connection_of a b;
  slave = eqb (c / 1024 % 2) 1;
  masterwords = c / 32 % 32;
  slavewords = c % 32;
  interval = i;
  roundtrip = r;
  age = g;
  station = s;
}
