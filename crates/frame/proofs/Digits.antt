-- The CTRL word taken apart and put together again.
use mathlib.Core.Path.{◌≡◌, ap, ap₂, ◌∙◌}
use Rattle.std.specs.Prelude.{None, Option, Some, ℕ}
use Rattle.std.specs.Result.{result_unwrap_or}
use mathlib.Core.Bool.{Bool, true, false}
use Prim.Native.Nat.{ℕ, ◌+◌, ◌*◌, ◌/◌, ◌%◌, ◌^◌, ◌≤◌, ◌<◌}
use native.Mathlib.Omega.{arith}
use lib.Arith.{digits_mod}
use lib.Dec.{lit<}
use Rattle.frame.specs.declared.Command.{Command}
use Rattle.frame.specs.declared.Command.TheVariants.{Refresh}
use Rattle.frame.specs.declared.Fields.{Fields}
use Rattle.frame.specs.Control.{code_of, command_of, listed, subconnection_bits, subconnection_of, bit, flag, control_of}
use Rattle.frame.specs.Reading.{fields_of}
use Rattle.frame.specs.Writing.{time_of, carry_of}
use Rattle.frame.specs.RoundTrip.{SubconnectionFits}

-- ---- commands
code_le : (k : Command) → code_of k ≤ 255
code_le k = grind arith

pub command_of_code : (k : Command) → command_of (code_of k) ≡ k
command_of_code k = grind arith

-- ---- a flag as a digit
digit : Bool → ℕ
digit b = flag b 1

digit_le : (b : Bool) → digit b ≤ 1
unfolding digit
digit_le b = grind arith

flag_digit : (b : Bool) (n : ℕ) → flag b n ≡ n * digit b
unfolding digit
flag_digit b n = grind arith

bit_digit : (i v : ℕ) (b : Bool) → v / 2 ^ i % 2 ≡ digit b → bit i v ≡ b
unfolding digit
bit_digit i v b e = grind arith

-- ---- Sub CID
subconnection_lt : (s : Option ℕ) → SubconnectionFits s → subconnection_bits s < 131072
subconnection_lt s h = grind arith

subconnection_of_bits : (v : ℕ) (s : Option ℕ) → SubconnectionFits s → v % 131072 ≡ subconnection_bits s
    → subconnection_of (bit 16 v) (v % 65536) ≡ s
unfolding digit
subconnection_of_bits v None h e =
    ap (λ (b : Bool). subconnection_of b (v % 65536)) (bit_digit 16 v false (omega arith))
subconnection_of_bits v (Some n) h e =
    let k : v % 65536 ≡ n = omega arith in
    let q : v / 2 ^ 16 ≡ v / 131072 * 2 + 1 = omega arith in
    ap₂ subconnection_of (bit_digit 16 v true (ap (λ (m : ℕ). m % 2) q ∙ digits_mod (v / 131072) (lit< tt))) k

-- ---- CTRL: its parts are digits of one number
record Parts (v : ℕ) (f : Fields) : Type 0 where
  sum : v ≡ 16777216 * code_of f.command +
      (8388608 * digit f.ack + (4194304 * digit f.busy + (2097152 * digit f.error
      + (1048576 * digit f.sequence + (262144 * digit f.application + subconnection_bits f.subconnection)))))
  code : code_of f.command ≤ 255
  ack : digit f.ack ≤ 1
  busy : digit f.busy ≤ 1
  error : digit f.error ≤ 1
  sequence : digit f.sequence ≤ 1
  application : digit f.application ≤ 1
  subconnection : subconnection_bits f.subconnection < 131072

parts : (f : Fields) → SubconnectionFits f.subconnection → Parts (control_of f) f
unfolding control_of
parts f h = record {
  sum = rw (
    flag_digit f.ack,
    flag_digit f.busy,
    flag_digit f.error,
    flag_digit f.sequence,
    flag_digit
        f.application,
  );
  code = code_le f.command;
  ack = digit_le f.ack;
  busy = digit_le f.busy;
  error = digit_le f.error;
  sequence = digit_le f.sequence;
  application = digit_le f.application;
  subconnection = subconnection_lt f.subconnection h;
}

-- ---- the fields of the words that fields are written as
pub fields_of_words : (f : Fields) → SubconnectionFits f.subconnection → f.baseline < 65536
    → fields_of (control_of f) f.connection (time_of f) (carry_of f) ≡ f
fields_of_words f h b =
    let v : ℕ = control_of f in
    let p = parts f h in
    let e₁ : v / 16777216 ≡ code_of f.command = omega arith in
    let k = ap command_of e₁ ∙ command_of_code f.command in
    let a = bit_digit 23 v f.ack (omega arith) in
    let y = bit_digit 22 v f.busy (omega arith) in
    let e = bit_digit 21 v f.error (omega arith) in
    let q = bit_digit 20 v f.sequence (omega arith) in
    let n = bit_digit 18 v f.application (omega arith) in
    let s = subconnection_of_bits v f.subconnection h (omega arith) in
    let t : 65536 * carry_of f + time_of f / 65536 ≡ f.timestamp = omega arith in
    let o : time_of f % 65536 ≡ f.baseline = omega arith in
    λ i. record {
      command = k i;
      ack = a i;
      busy = y i;
      error = e i;
      sequence = q i;
      application = n i;
      subconnection = s i;
      connection = f.connection;
      timestamp = t i;
      baseline = o i;
    }

-- ---- an unlisted code has no command but the one that stands in
pub listed_or_refresh : (code : ℕ) → result_unwrap_or (listed code) Refresh ≡ command_of code
listed_or_refresh code = grind arith
