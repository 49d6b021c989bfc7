-- Written records read back, and an accepted list of bytes is the only writing of its record.
use Rattle.std.specs.Prelude.{◌≡◌, Some, None, true, false, List, ℕ, ◌+◌, ◌*◌, ◌≤◌, length, take}
use Rattle.words.specs.Bytes.{Bytes}
use Rattle.errors.specs.declared.ErrorRecord.{ErrorRecord}
use Rattle.errors.specs.Reading.{is_record, record_of, more_follows, decoded_of}
use Rattle.errors.specs.Writing.{is_valid, bytes_of, WriteSays}

-- there is room for ten details
pub record Typed (x : ErrorRecord) : Type 0 where
  pub details : length x.details ≡ 10

pub record RoundTrip : Type 0 where
  -- a written record is one and reads back
  pub there : (x : ErrorRecord) → Typed x → is_valid x ≡ true
      → (is_record (bytes_of x) ≡ true) × (record_of (bytes_of x) ≡ x)
  -- an accepted list of bytes is what writing its record gives
  pub back : (b : List ℕ) → Bytes b → is_record b ≡ true → (is_valid (record_of b) ≡ true) × (bytes_of (record_of b) ≡ b)
  pub typed : (b : List ℕ) → is_record b ≡ true → Typed (record_of b)
  -- so no two records are written as the same bytes
  pub only : (x y : ErrorRecord) → Typed x → Typed y → is_valid x ≡ true → is_valid y ≡ true
      → bytes_of x ≡ bytes_of y → x ≡ y
  -- 16 bytes and four for each detail, of which there are up to ten
  pub long : (b : List ℕ) → is_record b ≡ true
      → (length b ≡ 16 + 4 * (record_of b).count) × ((record_of b).count ≤ 10)
  pub size : (x : ErrorRecord) → Typed x → is_valid x ≡ true → length (bytes_of x) ≡ 16 + 4 * x.count
  -- whether more follow is seen without reading the rest
  pub more : (x : ErrorRecord) → Typed x → is_valid x ≡ true → more_follows (bytes_of x) ≡ x.more
  -- what write_record wrote, read_record reads back
  pub written : (x : ErrorRecord) (out out' : List ℕ) (count : ℕ) → Typed x
      → WriteSays x out out' (Some count) → decoded_of (take count out') ≡ Some x
  -- what is no record is refused
  pub refused : (b : List ℕ) → is_record b ≡ false → decoded_of b ≡ None
