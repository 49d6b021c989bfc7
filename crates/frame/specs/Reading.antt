-- Reading a frame (document 01, "The frame"; numbers 4 to 7).
use Rattle.std.specs.Prelude.{◌≡◌, Bool, ◌&&◌, not, cond, List, ℕ, ◌+◌, ◌-◌, ◌*◌, ◌/◌, ◌%◌, eqb, leb, length, take, drop}
use Rattle.std.specs.Prelude.{Result, Err, Ok}
use Rattle.std.proofs.Math.Seq.{slice}
use Rattle.words.specs.Bytes.{same}
use Rattle.words.specs.Words.{word_at}
use Rattle.crc.specs.Crc.{crc}
use Rattle.frame.specs.declared.Fields.{Fields}
use Rattle.frame.specs.declared.Fault.{Fault}
use Rattle.frame.specs.declared.Fault.TheVariants.{Length, Copies, CheckWord, Form}
use Rattle.frame.specs.declared.Frame.{Frame}
use Rattle.frame.specs.declared.Span.{Span}
use Rattle.frame.specs.Control.{bit, command_of, subconnection_of, control_of, has_form}

-- 56, 64, .. 248
abbrev pub is_frame_length : ℕ → Bool
is_frame_length n = leb 56 n && (leb n 248 && eqb (n % 8) 0)

-- the last word of a SubPDU is the check word of the bytes before it
unfoldable pub has_check_word : List ℕ → Bool
has_check_word a = eqb (crc (take (length a - 4) a)) (word_at a (length a - 4))

-- the fields of the words CTRL, CID, T code with OBL, and CC
abbrev pub fields_of : ℕ → ℕ → ℕ → ℕ → Fields
fields_of control cid time cc = record {
  command = command_of (control / 16777216);
  ack = bit 23 control;
  busy = bit 22 control;
  error = bit 21 control;
  sequence = bit 20 control;
  application = bit 18 control;
  subconnection = subconnection_of (bit 16 control) (control % 65536);
  connection = cid;
  timestamp = 65536 * cc + time / 65536;
  baseline = time % 65536;
}

-- the fields of a SubPDU
unfoldable pub fields_in : List ℕ → Fields
fields_in a = fields_of (word_at a 0) (word_at a 4) (word_at a 8) (word_at a 12)

-- the form rule on a SubPDU's CTRL, RSV and fields: CTRL is the writing of its fields (Cmd is listed, bits 19 and 17
-- are 0, no Sub CID without its active bit), these have the form, and RSV is 0
abbrev pub is_formed : ℕ → ℕ → Fields → Bool
is_formed control reserved f = eqb control (control_of f) && (has_form f && eqb reserved 0)

-- the frame that bytes are, or the first fault
abbrev pub Reading : Type 0
Reading = Result Frame Fault

abbrev pub frame_with : Fields → ℕ → ℕ → Frame
frame_with fields start end = record { fields = fields; start = start; end = end }

-- SubPDU-A and SubPDU-B of one length
unfoldable pub reading_of_copies : List ℕ → List ℕ → Reading
reading_of_copies a b =
    cond (not (same a b)) (Err Copies)
    (cond (not (has_check_word a)) (Err CheckWord)
    (cond (not (is_formed (word_at a 0) (word_at a 16) (fields_in a))) (Err Form)
    (Ok (frame_with (fields_in a) 20 (length a - 4)))))

-- the first that applies, in the order of the numbers; else the frame
unfoldable pub reading_of : List ℕ → Reading
reading_of s =
    cond (not (is_frame_length (length s))) (Err Length)
    (reading_of_copies (take (length s / 2) s) (drop (length s / 2) s))

-- ---- without reading them: the CID and the body of bytes, should they be a frame
abbrev pub connection_in : List ℕ → ℕ
connection_in s = word_at s 4

-- in bytes of no frame's length it is empty
abbrev pub span_of : ℕ → Span
span_of n = cond (is_frame_length n) (record { start = 20; end = n / 2 - 4 }) (record { start = 0; end = 0 })

abbrev pub body_in : List ℕ → List ℕ
body_in s = slice (span_of (length s)).start (span_of (length s)).end s

-- of a frame they are its own
pub record Located (s : List ℕ) (f : Fields) (start end : ℕ) : Type 0 where
  pub connection : connection_in s ≡ f.connection
  pub body : body_in s ≡ slice start end s

abbrev pub Locates : Type 0
Locates = (s : List ℕ) (f : Fields) (start end : ℕ) → reading_of s ≡ Ok (frame_with f start end) → Located s f start end

-- document 01's number of a reading, 0 for a frame
abbrev pub fault_number : Fault → ℕ
fault_number Length = 4
fault_number Copies = 5
fault_number CheckWord = 6
fault_number Form = 7

abbrev pub number_of : Reading → ℕ
number_of (Ok read) = 0
number_of (Err fault) = fault_number fault
