-- A slave's time in the standard's words is document 01's, and CC counts as carry_counter would. T code and CC are the lower 16 bits of clock + offset and the 32 above them; the rest follows from that.
use Rattle.std.proofs.Common.{◌≡◌, ℕ, ◌+◌, ◌*◌, ◌/◌, ◌%◌, ◌<◌, Bool, true, false, cond, ltb, sym, refl, ◌∙◌, arith, ltb-false, ltb-true}
use Rattle.endpoint.specs.Time.{span}
use Rattle.endpoint.specs.TCode.{t_code_of, cc_of, wrapped, TCodeTheorem}

t_code : (clock offset : ℕ) → t_code_of clock offset ≡ (clock + offset) % 65536
t_code clock offset = omega arith

cc_of_law : (clock offset : ℕ) → cc_of clock offset ≡ (clock + offset) / 65536 % 4294967296
cc_of_law clock offset = omega arith

-- a number's lower 16 bits and the 32 above them are its 48
joined : (s : ℕ) → 65536 * (s / 65536 % 4294967296) + s % 65536 ≡ s % span
joined s = omega arith

low_of : (s : ℕ) → s % span % 65536 ≡ s % 65536
low_of s = omega arith

high_of : (s : ℕ) → s % span / 65536 ≡ s / 65536 % 4294967296
high_of s = omega arith

-- they move on with d ticks: the first carries into the second
low_later : (s d : ℕ) → (s + d) % 65536 ≡ (s % 65536 + d) % 65536
low_later s d = omega arith

high_later : (s d : ℕ)
    → (s + d) / 65536 % 4294967296 ≡ (s / 65536 % 4294967296 + (s % 65536 + d) / 65536) % 4294967296
high_later s d = omega arith

-- a 16-bit time that has gone on by fewer than 2^16 ticks is below what it was just where that carried
wraps : (from d : ℕ) → from < 65536 → d < 65536 → wrapped from ((from + d) % 65536) ≡ (from + d) / 65536
wraps from d h g = by (ltb ((from + d) % 65536) from) refl
  where
    by : (t : Bool) → ltb ((from + d) % 65536) from ≡ t → cond t 1 0 ≡ (from + d) / 65536
    by true e = omega (arith, ltb-true ((from + d) % 65536) from e)
    by false e = omega (arith, ltb-false ((from + d) % 65536) from e)

counts : (clock ticks offset : ℕ) → ticks < 65536
    → cc_of (clock + ticks) offset
    ≡ (cc_of clock offset + wrapped (t_code_of clock offset) (t_code_of (clock + ticks) offset)) % 4294967296
counts clock ticks offset h =
    let s = clock + offset in
    let later : clock + ticks + offset ≡ s + ticks = omega arith in
    rw (
      cc_of_law (clock + ticks) offset,
      cc_of_law clock offset,
      t_code (clock + ticks) offset,
      t_code clock offset,
      later,
      low_later s ticks,
      wraps (s % 65536) ticks (omega arith) h,
      high_later s ticks,
    )

pub t_code_theorem : TCodeTheorem
t_code_theorem = record {
  same = λ clock offset. rw (cc_of_law clock offset, t_code clock offset) (joined (clock + offset));
  low = λ clock offset. low_of (clock + offset) ∙ sym (t_code clock offset);
  high = λ clock offset. high_of (clock + offset) ∙ sym (cc_of_law clock offset);
  counts = counts;
}
