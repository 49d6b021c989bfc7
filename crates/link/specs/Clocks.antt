-- Two clocks that drift (document 02, note 9): how far they may part over a while, and the moments of calls.
use Rattle.std.specs.Prelude.{Bool, true, ◌&&◌, ◌||◌, cond, List, [], ◌∷◌, ℕ, ◌+◌, ◌-◌, ◌/◌, eqb, leb}

-- n ÷ 10,000, rounded up
abbrev pub drift : ℕ → ℕ
drift n = (n + 9999) / 10000

-- "over n ticks of one clock, n at least 1, the other advances by n, give or take n ÷ 10,000 rounded up"
abbrev pub advances : ℕ → ℕ → Bool
advances n other = eqb n 0 || (leb other (n + drift n) && leb n (other + drift n))

-- a call of the slave: its reading, and its moment
pub record Reading : Type 0 where
  pub tick : ℕ
  pub moment : ℕ

-- a call and a later one: neither clock falls, and each advances by the other
abbrev pub in_pace : Reading → Reading → Bool
in_pace r q =
    leb r.tick q.tick
    && (leb r.moment q.moment
    && (advances (q.moment - r.moment) (q.tick - r.tick)
    && advances (q.tick - r.tick) (q.moment - r.moment)))

-- a call of the slave with every earlier one since its loading, not only the last; newest first
unfoldable pub keeps_pace : List Reading → Reading → Bool
keeps_pace [] q = true
keeps_pace (r ∷ rs) q = in_pace r q && keeps_pace rs q

-- a master's moment is its reading, plus a shift, so that a slave's call before the master's 0 has a moment too; a
-- slave's is the other clock's time
abbrev pub moment_of : ℕ → Bool → ℕ → ℕ → ℕ
moment_of shift slave clock other = cond slave other (clock + shift)
