-- An accepted list of bytes is what writing its fields gives, and its fields can be written.
use mathlib.Core.Path.{◌≡◌, sym, ap, ap₂, ◌∙◌, subst}
use Rattle.std.specs.Prelude.{Err, Ok}
use Rattle.frame.specs.Reading.{Reading}
use Rattle.frame.specs.Reading.{frame_with}
use mathlib.Core.Bool.{Bool, true, not, cond}
use mathlib.Core.List.{List, ◌++◌}
use mathlib.Mathlib.Data.Bool.Basic.{and_elim_left, and_elim_right, and_intro}
use Prim.Native.Nat.{ℕ, ◌+◌, ◌-◌, ◌/◌, ◌%◌, ◌^◌, ◌≤◌, ◌<◌}
use native.Mathlib.Omega.{arith}
use lib.Dec.{eqb}
use lib.ListN.{length, take, drop, length-drop, take-append-drop}
use lib.Seq.{slice, get_or-take, take-add, take-take, drop-drop, take_all, length-take-le}
use borrow.Author.Tests.{eqb-true, eq-eqb, le-leb, lt-ltb}
use Rattle.words.specs.Bytes.{Bytes, same}
use Rattle.words.specs.Words.{word_at, word_bytes}
use Rattle.words.proofs.Alike.{same_eq}
use Rattle.words.proofs.Words.{take_bytes, drop_bytes, word_back, word_lt}
use Rattle.crc.specs.Crc.{crc}
use Rattle.frame.specs.declared.Fields.{Fields}
use Rattle.frame.specs.declared.Fault.{Fault}
use Rattle.frame.specs.declared.Fault.TheVariants.{Length, Copies, CheckWord, Form}
use Rattle.frame.specs.Control.{bit, subconnection_of, control_of, has_form}
use Rattle.frame.specs.Reading.{is_frame_length, has_check_word, fields_in, is_formed, reading_of_copies, reading_of}
use Rattle.frame.specs.Reading.{body_in, Locates}
use Rattle.frame.specs.Writing.{time_of, carry_of, head_bytes, with_check_word, twice, sub_bytes, frame_bytes}
use Rattle.frame.specs.Writing.{is_writable}
use Rattle.frame.specs.RoundTrip.{SubconnectionFits, Writable}
use Rattle.std.proofs.lemmas.List.{drop-take}
use Rattle.frame.proofs.Lengths.{frame_length}

-- ---- what an accepted reading says: a refusal is no frame, so every test has passed
module _ (f : Fields) (start end : ℕ) where
  past : (t : Bool) (fault : Fault) (r : Reading) → cond (not t) (Err fault) r ≡ Ok (frame_with f start end)
      → (t ≡ true) × (r ≡ Ok (frame_with f start end))
  past t fault r h = grind arith

  record Accepted (a b : List ℕ) : Type 0 where
    alike : a ≡ b
    checked : has_check_word a ≡ true
    formed : is_formed (word_at a 0) (word_at a 16) (fields_in a) ≡ true
    fields : fields_in a ≡ f
    starts : start ≡ 20
    ends : end ≡ length a - 4

  accepted : (a b : List ℕ) → reading_of_copies a b ≡ Ok (frame_with f start end) → Accepted a b
  unfolding reading_of_copies
  accepted a b h =
      let p = past (same a b) Copies _ h in
      let q = past (has_check_word a) CheckWord _ p.1 in
      let r = past (is_formed (word_at a 0) (word_at a 16) (fields_in a)) Form _ q.1 in
      let o = r.1 in
      let e : frame_with (fields_in a) 20 (length a - 4) ≡ frame_with f start end = cc in
      record {
        alike = same_eq a b p.0;
        checked = q.0;
        formed = r.0;
        fields = ap (λ x. x.fields) e;
        starts = sym (ap (λ x. x.start) e);
        ends = sym (ap (λ x. x.end) e);
      }

-- the body of a frame stands within its bytes
pub within : (s : List ℕ) (f : Fields) (start end : ℕ) → reading_of s ≡ Ok (frame_with f start end)
    → (start ≤ end) × (end ≤ length s)
unfolding reading_of
within s f start end h =
    let n : ℕ = length s / 2 in
    let p = past f start end (is_frame_length (length s)) Length _ h in
    let q = accepted f start end (take n s) (drop n s) p.1 in
    let g = frame_length (length s) p.0 in
    let l : length (take n s) ≡ n = length-take-le n s (omega arith) in
    (omega (arith, q.starts, q.ends), omega (arith, q.ends))

-- ---- its CID and its body stand where they are sought without reading it
word_take : (s : List ℕ) (n k : ℕ) → k + 3 < n → word_at (take n s) k ≡ word_at s k
word_take s n k h =
    rw (
      get_or-take n s k 0 (omega arith),
      get_or-take n s (k + 1) 0 (omega arith),
      get_or-take n s (k + 2) 0 (omega arith),
      get_or-take n s (k + 3) 0 h,
    )

same_span : (s : List ℕ) (start end : ℕ) → is_frame_length (length s) ≡ true → start ≡ 20 → end ≡ length s / 2 - 4
    → body_in s ≡ slice start end s
same_span s start end h a b = rw (h, a, b)

pub locates : Locates
unfolding reading_of fields_in
locates s f start end h =
    let n : ℕ = length s / 2 in
    let p = past f start end (is_frame_length (length s)) Length _ h in
    let q = accepted f start end (take n s) (drop n s) p.1 in
    let g = frame_length (length s) p.0 in
    let l : length (take n s) ≡ n = length-take-le n s (omega arith) in
    record {
      connection = sym (word_take s n 4 (omega arith)) ∙ ap (λ (x : Fields). x.connection) q.fields;
      body = same_span s start end p.0 q.starts (q.ends ∙ ap (λ (m : ℕ). m - 4) l);
    }

-- ---- a SubPDU of bytes, put together again from its words and its body
subconnection_fits : (b : Bool) (v : ℕ) → SubconnectionFits (subconnection_of b (v % 65536))
subconnection_fits b v = grind arith

module _ (a : List ℕ) (r : Bytes a) where
  rebuilt : (m : ℕ)
      → take 4 a ++ (take 4 (drop 4 a) ++
      (take 4 (drop 8 a) ++ (take 4 (drop 12 a) ++ (take 4 (drop 16 a) ++ take m (drop 20 a)))))
      ≡ take (4 + (4 + (4 + (4 + (4 + m))))) a
  rebuilt m = sym (simp (take-add, drop-drop))

  module _ (long : 28 ≤ length a) (c : has_check_word a ≡ true)
      (g : is_formed (word_at a 0) (word_at a 16) (fields_in a) ≡ true) where
    control_back : control_of (fields_in a) ≡ word_at a 0
    control_back = sym (eqb-true _ _ (and_elim_left (eqb (word_at a 0) (control_of (fields_in a))) _ g))

    pub form : has_form (fields_in a) ≡ true
    form = and_elim_left (has_form (fields_in a)) _ (and_elim_right (eqb (word_at a 0) (control_of (fields_in a))) _ g)

    reserved_zero : word_at a 16 ≡ 0
    reserved_zero =
        eqb-true (word_at a 16) 0
        (and_elim_right (has_form (fields_in a)) _ (and_elim_right (eqb (word_at a 0) (control_of (fields_in a))) _ g))

    pub typed : ((fields_in a).connection < 2 ^ 32) × ((fields_in a).baseline < 65536) × ((fields_in a).timestamp < 2 ^ 48)
        × SubconnectionFits (fields_in a).subconnection
    unfolding fields_in
    typed = (
      word_lt a r 4,
      omega arith,
      omega (arith, word_lt a r 8, word_lt a r 12),
      subconnection_fits (bit 16 (word_at a 0)) (word_at a 0),
    )

    body : List ℕ
    body = take (length a - 24) (drop 20 a)

    same_words : head_bytes (control_of (fields_in a)) (fields_in a).connection (time_of (fields_in a))
        (carry_of (fields_in a)) body
        ≡ head_bytes (word_at a 0) (word_at a 4) (word_at a 8) (word_at a 12) body
    unfolding fields_in body
    same_words =
        let t : time_of (fields_in a) ≡ word_at a 8 = omega (arith, word_lt a r 8) in
        let u : carry_of (fields_in a) ≡ word_at a 12 = omega (arith, word_lt a r 8) in
        λ i. head_bytes (control_back i) (word_at a 4) (t i) (u i) (take (length a - 24) (drop 20 a))

    words_back : head_bytes (word_at a 0) (word_at a 4) (word_at a 8) (word_at a 12) body ≡ take (length a - 4) a
    unfolding head_bytes body
    words_back =
        let z : word_bytes 0 ≡ take 4 (drop 16 a) = ap word_bytes (sym reserved_zero) ∙ word_back a r 16 (omega arith) in
        let n : 4 + (4 + (4 + (4 + (4 + (length a - 24))))) ≡ length a - 4 = omega arith in
        (λ i. word_back a r 0 (omega arith) i ++ (word_back a r 4 (omega arith) i ++ (word_back a r 8 (omega arith) i
        ++ (word_back a r 12 (omega arith) i ++ (z i ++ take (length a - 24) (drop 20 a))))))
        ∙ rebuilt (length a - 24) ∙ ap (λ (k : ℕ). take k a) n

    pub sub_back : sub_bytes (fields_in a) (take (length a - 24) (drop 20 a)) ≡ a
    unfolding sub_bytes with_check_word has_check_word body
    sub_back =
        let k : ℕ = length a - 4 in
        let e = same_words ∙ words_back in
        (λ i. e i ++ word_bytes (crc (e i)))
        ∙ ap (λ (v : ℕ). take k a ++ word_bytes v) (eqb-true _ _ c)
        ∙ ap (λ (l : List ℕ). take k a ++ l)
        (word_back a r k (omega arith) ∙ take_all 4 (drop k a) (rw length-drop (omega arith)))
        ∙ take-append-drop k a

-- ---- both copies
module _ (s : List ℕ) (r : Bytes s) where
  Written : Fields → List ℕ → Type 0
  Written f b = Writable f b × (frame_bytes f b ≡ s)

  -- where the reading puts the body, seen from the first copy
  body_of : (n : ℕ) → 28 ≤ n → n ≤ length s
      → take (length (take n s) - 24) (drop 20 (take n s)) ≡ slice 20 (length (take n s) - 4) s
  body_of n g h =
      let l : length (take n s) ≡ n = length-take-le n s h in
      let e : 20 + (length (take n s) - 24) ≡ length (take n s) - 4 = omega arith in
      sym (drop-take 20 (length (take n s) - 24) (take n s))
      ∙ ap (λ (k : ℕ). slice 20 k (take n s)) e
      ∙ ap (drop 20) (take-take (length (take n s) - 4) n s (omega arith))

  pub back : (f : Fields) (start end : ℕ) → reading_of s ≡ Ok (frame_with f start end) → Writable f (slice start end s)
      × (frame_bytes f (slice start end s) ≡ s)
  unfolding reading_of frame_bytes twice is_writable Written
  back f start end h =
      let n : ℕ = length s / 2 in
      let a : List ℕ = take n s in
      let b : List ℕ = take (length a - 24) (drop 20 a) in
      let p = past f start end (is_frame_length (length s)) Length _ h in
      let q = accepted f start end a (drop n s) p.1 in
      let g = frame_length (length s) p.0 in
      let l : length a ≡ n = length-take-le n s (omega arith) in
      let long : 28 ≤ length a = omega arith in
      let t = typed a (take_bytes n r) long q.checked q.formed in
      let m : length b ≡ length a - 24 = length-take-le (length a - 24) (drop 20 a) (rw length-drop (omega arith)) in
      let e = sub_back a (take_bytes n r) long q.checked q.formed in
      let w : Writable (fields_in a) b = record {
        typed = record {
          connection = t.0;
          baseline = t.1;
          subconnection = t.3;
          bytes = take_bytes (length a - 24) (drop_bytes 20 (take_bytes n r));
        };
        formed = and_intro (form a (take_bytes n r) long q.checked q.formed)
            (and_intro (lt-ltb _ _ t.2) (and_intro (le-leb 4 (length b) (omega arith))
            (and_intro (le-leb (length b) 100 (omega arith)) (eq-eqb (length b % 4) 0 (omega arith)))));
      } in
      let k : b ≡ slice start end s =
      body_of n (omega arith) (omega arith) ∙ sym (λ i. slice (q.starts i) (q.ends i) s) in
      subst (λ (x : List ℕ). Written f x) k
      (subst (λ (x : Fields). Written x b) q.fields (w, ap₂ ◌++◌ e (e ∙ q.alike) ∙ take-append-drop n s))
