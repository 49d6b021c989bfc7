-- Writing a frame over the front of a lent output.
use Rattle.std.specs.Prelude.{◌≡◌, Bool, ◌&&◌, cond, List, [], ◌++◌, ℕ, ◌+◌, ◌*◌, ◌/◌, ◌%◌, ◌^◌, eqb, leb, ltb, length}
use Rattle.words.specs.Words.{word_bytes}
use Rattle.words.specs.Output.{over}
use Rattle.crc.specs.Crc.{crc}
use Rattle.frame.specs.declared.Fields.{Fields}
use Rattle.frame.specs.declared.Head.{Head}
use Rattle.frame.specs.Control.{control_of, has_form}

-- T code, the upper half, and OBL
abbrev pub time_of : Fields → ℕ
time_of f = 65536 * (f.timestamp % 65536) + f.baseline

-- CC
abbrev pub carry_of : Fields → ℕ
carry_of f = f.timestamp / 65536

-- CTRL, CID, T code with OBL, CC, RSV, then the body
unfoldable pub head_bytes : ℕ → ℕ → ℕ → ℕ → List ℕ → List ℕ
head_bytes control cid time cc body =
    word_bytes control ++ (word_bytes cid ++ (word_bytes time ++ (word_bytes cc ++ (word_bytes 0 ++ body))))

unfoldable pub with_check_word : List ℕ → List ℕ
with_check_word s = s ++ word_bytes (crc s)

unfoldable pub twice : List ℕ → List ℕ
twice s = s ++ s

-- SubPDU-A, which SubPDU-B equals
unfoldable pub sub_bytes : Fields → List ℕ → List ℕ
sub_bytes f body = with_check_word (head_bytes (control_of f) f.connection (time_of f) (carry_of f) body)

unfoldable pub frame_bytes : Fields → List ℕ → List ℕ
frame_bytes f body = twice (sub_bytes f body)

-- a body of 1 to 25 words
abbrev pub is_body_length : ℕ → Bool
is_body_length n = leb 4 n && (leb n 100 && eqb (n % 4) 0)

-- fields and a body's length that can be written
unfoldable pub is_writable : Fields → ℕ → Bool
is_writable f n = has_form f && (ltb f.timestamp (2 ^ 48) && is_body_length n)

-- what is written to an output of `room` bytes: the frame; nothing where it cannot be written or does not fit
unfoldable pub written_of : Fields → List ℕ → ℕ → List ℕ
written_of f body room =
    cond (is_writable f (length body) && leb (48 + 2 * length body) room) (frame_bytes f body) []

-- what write_frame answers (the count) and leaves in the output
pub record WriteSays (f : Fields) (body out out' : List ℕ) (count : ℕ) : Type 0 where
  pub counted : count ≡ length (written_of f body (length out))
  pub left : out' ≡ over (written_of f body (length out)) out

-- ---- a frame from its words
-- the words of fields; of a timestamp from 2^48 on, which no frame has, CC keeps the lower 32 bits
abbrev pub head_of : Fields → Head
head_of f = record { control = control_of f; connection = f.connection; time = time_of f; carry = carry_of f % 2 ^ 32 }

-- the frame of the words, whether or not fields have them
unfoldable pub frame_of : Head → List ℕ → List ℕ
frame_of h body = twice (with_check_word (head_bytes h.control h.connection h.time h.carry body))

-- what is written to an output of `room` bytes: the frame; nothing where the body is no frame's or it does not fit
unfoldable pub written_from : Head → List ℕ → ℕ → List ℕ
written_from h body room =
    cond (is_body_length (length body) && leb (48 + 2 * length body) room) (frame_of h body) []

-- what write_head answers (the count) and leaves in the output
pub record HeadSays (h : Head) (body out out' : List ℕ) (count : ℕ) : Type 0 where
  pub counted : count ≡ length (written_from h body (length out))
  pub left : out' ≡ over (written_from h body (length out)) out
