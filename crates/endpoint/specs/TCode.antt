-- A slave's time in the master's clock in the standard's words, T code and CC (001, 12.7.1.4 and 12.7.2.5 to 12.7.2.7), and
-- that it is document 01's. Clock is the slave's own at sending or at receipt, offset its ts_offset.
use Rattle.std.specs.Prelude.{◌≡◌, ℕ, ◌+◌, ◌*◌, ◌/◌, ◌%◌, ◌<◌, true, cond, nat_lt}
use Rattle.endpoint.specs.Time.{master_time}

-- the lower 16 bits (of the clock: sending_time, receipt_time, current_time), and the bits above them
abbrev pub lower : ℕ → ℕ
lower x = x % 65536

abbrev pub upper : ℕ → ℕ
upper x = x / 65536

-- equations (1), (8) and (9): T code = (sending_time + ts_offset) mod 2^16
abbrev pub t_code_of : ℕ → ℕ → ℕ
t_code_of clock offset = (lower clock + lower offset) % 65536

-- what that sum carries into CC: 1 where it reaches 2^16, else 0
abbrev pub t_code_carry : ℕ → ℕ → ℕ
t_code_carry clock offset = (lower clock + lower offset) / 65536

-- CC: the sum of the bits above, with the carry, modulo 2^32
abbrev pub cc_of : ℕ → ℕ → ℕ
cc_of clock offset = (upper clock + upper offset + t_code_carry clock offset) % 4294967296

-- T code and CC joined: the stamp of what is sent, and the time of receipt
abbrev pub slave_time : ℕ → ℕ → ℕ
slave_time clock offset = 65536 * cc_of clock offset + t_code_of clock offset

-- the comparison of equation (10): 1 where a 16-bit time is lower than the one before, having passed its end, else 0
abbrev pub wrapped : ℕ → ℕ → ℕ
wrapped from to = cond (nat_lt to from) 1 0

pub record TCodeTheorem : Type 0 where
  -- for every clock and ts_offset it is document 01's (clock + ts_offset) modulo 2^48
  pub same : (clock offset : ℕ) → slave_time clock offset ≡ master_time true offset clock
  -- of which T code is thus the lower 16 bits, and CC the upper 32
  pub low : (clock offset : ℕ) → lower (master_time true offset clock) ≡ t_code_of clock offset
  pub high : (clock offset : ℕ) → upper (master_time true offset clock) ≡ cc_of clock offset
  -- at most 65,535 ticks later CC is what it was, or 1 more where T code is lower: as 12.7.2.7 keeps carry_counter
  pub counts : (clock ticks offset : ℕ) → ticks < 65536
      → cc_of (clock + ticks) offset
      ≡ (cc_of clock offset + wrapped (t_code_of clock offset) (t_code_of (clock + ticks) offset)) % 4294967296
