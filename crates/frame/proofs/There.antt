-- A written frame has no fault and reads back as its fields, its body where the reading says.
use mathlib.Core.Path.{◌≡◌, refl, sym, ap, ◌∙◌}
use Rattle.std.specs.Prelude.{Err, Ok}
use Rattle.frame.specs.Reading.{frame_with}
use mathlib.Core.Bool.{true, not, cond}
use mathlib.Core.List.{List, ◌++◌, append_assoc}
use mathlib.Mathlib.Data.Bool.Basic.{and_intro}
use Prim.Native.Nat.{ℕ, ◌+◌, ◌-◌, ◌/◌, ◌%◌}
use native.Mathlib.Omega.{arith}
use lib.ListN.{length, take, drop, length-append}
use lib.Seq.{slice, take_at, drop_at}
use borrow.Author.Tests.{eq-eqb, le-leb}
use Rattle.words.specs.Words.{word_at, word_bytes}
use Rattle.words.proofs.Alike.{same_refl}
use Rattle.words.proofs.Words.{of_word, word_end}
use Rattle.crc.specs.Crc.{crc}
use Rattle.frame.specs.declared.Fields.{Fields}
use Rattle.frame.specs.declared.Fault.TheVariants.{Length, Copies, CheckWord, Form}
use Rattle.frame.specs.Control.{control_of}
use Rattle.frame.specs.Reading.{is_frame_length, has_check_word, fields_of, fields_in, is_formed, reading_of_copies}
use Rattle.frame.specs.Reading.{reading_of}
use Rattle.frame.specs.Writing.{time_of, carry_of, head_bytes, with_check_word, twice, sub_bytes, frame_bytes}
use Rattle.frame.specs.RoundTrip.{Readable}
use Rattle.frame.proofs.Lengths.{CanBeWritten, can_be_written, length_sub, length_frame}
use Rattle.std.proofs.lemmas.List.{drop-take}
use Rattle.frame.proofs.Digits.{fields_of_words}

front_of : (b x y : List ℕ) → take (length b) ((b ++ x) ++ y) ≡ b
front_of b x y = rw append_assoc (take_at b (x ++ y) (length b) refl)

check_word : (s : List ℕ) → has_check_word (with_check_word s) ≡ true
unfolding has_check_word with_check_word
check_word s =
    let n : ℕ = length (s ++ word_bytes (crc s)) - 4 in
    let e : length s ≡ n = omega (arith, length-append s (word_bytes (crc s))) in
    eq-eqb _ _ (ap crc (take_at s (word_bytes (crc s)) n e) ∙ sym (word_end s (crc s) n (sym e)))

module _ (f : Fields) (body : List ℕ) (w : Readable f body) where
  sub : List ℕ
  sub = sub_bytes f body

  w0 : word_at sub 0 ≡ control_of f
  unfolding sub sub_bytes with_check_word head_bytes
  w0 = of_word (control_of f)

  w4 : word_at sub 4 ≡ f.connection
  unfolding sub sub_bytes with_check_word head_bytes
  w4 = of_word f.connection

  w8 : word_at sub 8 ≡ time_of f
  unfolding sub sub_bytes with_check_word head_bytes
  w8 = of_word (time_of f)

  w12 : word_at sub 12 ≡ carry_of f
  unfolding sub sub_bytes with_check_word head_bytes
  w12 = of_word (carry_of f)

  w16 : word_at sub 16 ≡ 0
  unfolding sub sub_bytes with_check_word head_bytes
  w16 = of_word 0

  can : CanBeWritten f (length body)
  can = can_be_written f (length body) w.formed

  fields : fields_in sub ≡ f
  unfolding fields_in
  fields = (λ i. fields_of (w0 i) (w4 i) (w8 i) (w12 i))
      ∙ fields_of_words f w.subconnection w.baseline

  formed : is_formed (word_at sub 0) (word_at sub 16) (fields_in sub) ≡ true
  formed = (λ i. is_formed (w0 i) (w16 i) (fields i))
      ∙ and_intro (eq-eqb (control_of f) (control_of f) refl) (and_intro can.form refl)

  checked : has_check_word sub ≡ true
  unfolding sub sub_bytes
  checked = check_word (head_bytes (control_of f) f.connection (time_of f) (carry_of f) body)

  len : length sub ≡ 24 + length body
  unfolding sub
  len = length_sub f body

  copies : reading_of_copies sub sub ≡ Ok (frame_with f 20 (20 + length body))
  unfolding reading_of_copies
  copies =
      let e : length sub - 4 ≡ 20 + length body = omega (arith, len) in
      λ i. cond (not (same_refl sub i)) (Err Copies) (cond (not (checked i)) (Err CheckWord)
      (cond (not (formed i)) (Err Form) (Ok (frame_with (fields i) 20 (e i)))))

  first : take (length (frame_bytes f body) / 2) (frame_bytes f body) ≡ sub
  unfolding frame_bytes twice sub
  first = take_at sub sub (length (frame_bytes f body) / 2) (omega (arith, length_frame f body, len))

  second : drop (length (frame_bytes f body) / 2) (frame_bytes f body) ≡ sub
  unfolding frame_bytes twice sub
  second = drop_at sub sub (length (frame_bytes f body) / 2) (omega (arith, length_frame f body, len))

  frame_length : is_frame_length (length (frame_bytes f body)) ≡ true
  frame_length =
      let n : ℕ = length (frame_bytes f body) in
      let l = length_frame f body in
      let c = can in
      and_intro (le-leb 56 n (omega arith)) (and_intro (le-leb n 248 (omega arith)) (eq-eqb (n % 8) 0 (omega arith)))

  pub reads : reading_of (frame_bytes f body) ≡ Ok (frame_with f 20 (20 + length body))
  unfolding reading_of
  reads = (λ i. cond (not (frame_length i)) (Err Length) (reading_of_copies (first i) (second i))) ∙ copies

  after_words : take (length body) (drop 20 (frame_bytes f body)) ≡ body
  unfolding frame_bytes twice sub_bytes with_check_word head_bytes
  after_words = front_of body _ _

  pub body_lies : slice 20 (20 + length body) (frame_bytes f body) ≡ body
  body_lies = drop-take 20 (length body) (frame_bytes f body) ∙ after_words
