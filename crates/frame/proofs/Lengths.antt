-- Lengths as numbers: of a frame, of a body, of what is written; a part of a list.
use mathlib.Core.Path.{◌≡◌, ◌∙◌}
use mathlib.Core.Bool.{true}
use mathlib.Core.List.{List}
use Prim.Native.Nat.{ℕ, ◌+◌, ◌*◌, ◌%◌, ◌^◌, ◌≤◌, ◌<◌}
use native.Mathlib.Omega.{arith}
use lib.ListN.{length, take, drop, length-append}
use lib.Seq.{slice}
use Rattle.std.proofs.lemmas.List.{drop-take}
use Rattle.words.specs.Words.{word_bytes}
use Rattle.crc.specs.Crc.{crc}
use Rattle.frame.specs.declared.Fields.{Fields}
use Rattle.frame.specs.declared.Head.{Head}
use Rattle.frame.specs.Control.{has_form, control_of}
use Rattle.frame.specs.Reading.{is_frame_length}
use Rattle.frame.specs.Writing.{time_of, carry_of, head_bytes, with_check_word, twice, sub_bytes, frame_bytes}
use Rattle.frame.specs.Writing.{is_body_length, is_writable, frame_of}

pub record FrameLength (n : ℕ) : Type 0 where
  pub least : 56 ≤ n
  pub most : n ≤ 248
  pub words : n % 8 ≡ 0

pub frame_length : (n : ℕ) → is_frame_length n ≡ true → FrameLength n
frame_length n h = grind arith

-- ---- what can be written
pub record BodyLength (n : ℕ) : Type 0 where
  pub least : 4 ≤ n
  pub most : n ≤ 100
  pub words : n % 4 ≡ 0

pub record CanBeWritten (f : Fields) (n : ℕ) : Type 0 where
  pub form : has_form f ≡ true
  pub timestamp : f.timestamp < 2 ^ 48
  pub body : is_body_length n ≡ true
  pub bounds : BodyLength n

pub can_be_written : (f : Fields) (n : ℕ) → is_writable f n ≡ true → CanBeWritten f n
unfolding is_writable
can_be_written f n h = grind arith

-- ---- what is written
pub length_head : (control cid time cc : ℕ) (body : List ℕ)
    → length (head_bytes control cid time cc body) ≡ 20 + length body
unfolding head_bytes
length_head control cid time cc body = omega arith

length_checked : (s : List ℕ) → length (with_check_word s) ≡ length s + 4
unfolding with_check_word
length_checked s = length-append s (word_bytes (crc s))

pub length_sub : (f : Fields) (body : List ℕ) → length (sub_bytes f body) ≡ 24 + length body
unfolding sub_bytes
length_sub f body =
    length_checked (head_bytes (control_of f) f.connection (time_of f) (carry_of f) body)
    ∙ omega (arith, length_head (control_of f) f.connection (time_of f) (carry_of f) body)

pub length_frame : (f : Fields) (body : List ℕ) → length (frame_bytes f body) ≡ 48 + 2 * length body
unfolding frame_bytes twice
length_frame f body = length-append (sub_bytes f body) (sub_bytes f body) ∙ omega (arith, length_sub f body)

pub length_frame_of : (h : Head) (body : List ℕ) → length (frame_of h body) ≡ 48 + 2 * length body
unfolding frame_of twice
length_frame_of h body =
    let s = head_bytes h.control h.connection h.time h.carry body in
    length-append (with_check_word s) (with_check_word s)
    ∙ omega (arith, length_checked s, length_head h.control h.connection h.time h.carry body)

-- ---- parts of a list
pub slice_from : (k m : ℕ) (l : List ℕ) → k ≤ length l → slice k (k + m) l ≡ take m (drop k l)
slice_from k m l h = drop-take k m l
