-- Written frames read back, and an accepted frame is the only writing of its fields.
use Rattle.std.specs.Prelude.{◌≡◌, true, List, ℕ, ◌+◌, ◌^◌, ◌≤◌, ◌<◌, length, take}
use Rattle.std.specs.Prelude.{None, Ok, Option, Some}
use Rattle.frame.specs.Reading.{frame_with}
use Rattle.std.proofs.Math.Seq.{slice}
use Rattle.words.specs.Bytes.{Bytes}
use Rattle.frame.specs.declared.Fields.{Fields}
use Rattle.frame.specs.Reading.{reading_of}
use Rattle.frame.specs.Writing.{is_writable, frame_bytes, WriteSays, head_of, HeadSays}

-- the numbers are within their types: CID of 32 bits, OBL and Sub CID of 16, bytes
abbrev pub SubconnectionFits : Option ℕ → Type 0
SubconnectionFits None = Unit {0}
SubconnectionFits (Some n) = n < 65536

pub record Typed (f : Fields) (body : List ℕ) : Type 0 where
  pub connection : f.connection < 2 ^ 32
  pub baseline : f.baseline < 65536
  pub subconnection : SubconnectionFits f.subconnection
  pub bytes : Bytes body

pub record Writable (f : Fields) (body : List ℕ) : Type 0 where
  pub typed : Typed f body
  pub formed : is_writable f (length body) ≡ true

-- what reads back: the form, and OBL and Sub CID of 16 bits; nothing is asked of the CID, nor of the body but its length
pub record Readable (f : Fields) (body : List ℕ) : Type 0 where
  pub baseline : f.baseline < 65536
  pub subconnection : SubconnectionFits f.subconnection
  pub formed : is_writable f (length body) ≡ true

pub record RoundTrip : Type 0 where
  -- a written frame has no fault and reads back as its fields, its body where the reading says
  pub there : (f : Fields) (body : List ℕ) → Readable f body
      → (reading_of (frame_bytes f body) ≡ Ok (frame_with f 20 (20 + length body)))
      × (slice 20 (20 + length body) (frame_bytes f body) ≡ body)
  -- an accepted list of bytes is what writing its fields gives
  pub back : (s : List ℕ) (f : Fields) (start end : ℕ) → Bytes s → reading_of s ≡ Ok (frame_with f start end)
      → Writable f (slice start end s) × (frame_bytes f (slice start end s) ≡ s)
  -- its body stands within the bytes
  pub within : (s : List ℕ) (f : Fields) (start end : ℕ)
      → reading_of s ≡ Ok (frame_with f start end) → (start ≤ end) × (end ≤ length s)
  -- so no two writings are the same bytes
  pub only : (f g : Fields) (b c : List ℕ) → Readable f b → Readable g c
      → frame_bytes f b ≡ frame_bytes g c → (f ≡ g) × (b ≡ c)
  -- what write_frame wrote, read_frame reads back
  pub written : (f : Fields) (body out out' : List ℕ) (count : ℕ) → Typed f body
      → WriteSays f body out out' count → 0 < count
      → (reading_of (take count out') ≡ Ok (frame_with f 20 (20 + length body)))
      × (slice 20 (20 + length body) out' ≡ body)
  -- and so is what write_head wrote of the words of fields that can be written, as the ends write
  pub words : (f : Fields) (body out out' : List ℕ) (count : ℕ) → Readable f body
      → HeadSays (head_of f) body out out' count → 0 < count
      → (reading_of (take count out') ≡ Ok (frame_with f 20 (20 + length body)))
      × (slice 20 (20 + length body) out' ≡ body)
