-- Error records that are exchanged: what a test finds of one it finds of the other, and no two become the same. What is
-- kept of one is read back whole. S-Data of a frame is exchanged where the frame carries a record.
use mathlib.Core.Path.{◌≡◌, refl, sym, ap, subst, ◌∙◌}
use mathlib.Core.Bool.{true, false, ◌&&◌, false≢true, true≢false}
use mathlib.Core.List.{List, ◌++◌}
use mathlib.Core.Logic.{◌⊎◌, inl, inr}
use Prim.Native.Nat.{ℕ, ◌+◌, ◌*◌, ◌/◌, ◌≤◌}
use native.Mathlib.Omega.{arith}
use mathlib.Mathlib.Data.Bool.Basic.{and_elim_left as and_left, and_elim_right as and_right, and_intro as both}
use lib.Dec.{lit<}
use lib.ListN.{length, take, drop, replicate}
use lib.Seq.{take_all, take-append-le, take-take, take-length, length-take-le}
use borrow.Author.Tests.{le-leb}
use Rattle.words.specs.Bytes.{same}
use Rattle.words.proofs.Alike.{same_refl, same_eq}
use Rattle.errors.specs.declared.ErrorRecord.{ErrorRecord}
use Rattle.errors.specs.Reading.{is_record, more_follows, record_of}
use Rattle.errors.specs.Writing.{bytes_of}
use Rattle.errors.proofs.ReadBack.{round_trip}
use Rattle.frame.specs.declared.Command.TheVariants as K
use Rattle.frame.specs.declared.Fields.{Fields}
use Rattle.frame.specs.Control.{is}
use Rattle.frame.specs.Reading.{reading_of}
use Rattle.frame.specs.Writing.{frame_bytes}
use Rattle.frame.specs.RoundTrip.{Readable}
use Rattle.frame.proofs.ReadBack.{round_trip as frame-trip}
use Rattle.endpoint.specs.declared.Settings.{Settings}
use Rattle.steps.specs.Frames.{setup_data, padded_of, is_record_count, record_width, record_in, padded_record}
use Rattle.steps.specs.Calls.{kept_record}
use Rattle.steps.proofs.Dispatch.{is_command}
use Rattle.steps.proofs.Keeps.{bcase}
use Rattle.steps.proofs.Whole.{padded_length, record_bytes_law}
use Rattle.noninterference.specs.NonInterference.{Valid, OneToOne, carries_record, is_record_in, Exchanged}
use Rattle.noninterference.specs.NonInterference.{ExchangedFrame}

-- ---- what is kept of a record is read back
-- the front of bytes in an array of 100
padded_front : (n : ℕ) (b : List ℕ) → n ≤ length b → length b ≤ 100 → take n (padded_of b) ≡ take n b
padded_front n b h k =
    ap (λ (l : List ℕ). take n (l ++ drop (length b) (replicate 100 0))) (take_all 100 b k)
    ∙ take-append-le n b (drop (length b) (replicate 100 0)) h

-- as many bytes as its count of words says
record_width_law : (b : List ℕ) → is_record b ≡ true → record_width (length b / 4) ≡ length b
record_width_law b h =
    let q = round_trip.long b h in
    let c = (record_of b).count in
    let l : length b ≡ 16 + 4 * c = q.0 in
    let m : c ≤ 10 = q.1 in
    let t : is_record_count (length b / 4) ≡ true =
    both (le-leb 4 (length b / 4) (omega (arith, l))) (le-leb (length b / 4) 14 (omega (arith, l, m))) in
    rw t (omega (arith, l))

pub kept_back : (b : List ℕ) → is_record b ≡ true → record_in (kept_record b) ≡ b
unfolding record_in
kept_back b h =
    let l = (record_bytes_law b h).0 in
    let p = padded_of b in
    let e : length (padded_record b) ≡ 56 = length-take-le 56 p (rw (padded_length b) (lit< tt)) in
    ap (λ (n : ℕ). take n (padded_of (padded_record b))) (record_width_law b h)
    ∙ padded_front (length b) (padded_record b) (omega (arith, l, e)) (omega (arith, e))
    ∙ take-take (length b) 56 p l ∙ padded_front (length b) b (omega arith) (omega (arith, l)) ∙ take-length b

-- ---- two equations that hold together
same_by : (a b a' b' : List ℕ) → (a ≡ b → a' ≡ b') → (a' ≡ b' → a ≡ b) → same a' b' ≡ same a b
same_by a b a' b' there back =
    bcase (same a b)
    (λ p. ap (same a') (sym (there (same_eq a b p))) ∙ same_refl a' ∙ sym p)
    (λ p. bcase (same a' b')
    (λ q. absurd (false≢true (sym p ∙ ap (same a) (sym (back (same_eq a' b' q))) ∙ same_refl a))) (λ q. q ∙ sym p))

-- what a test finds of bytes, and of others
pub record Alike (b b' : List ℕ) : Type 0 where
  pub records : is_record b' ≡ is_record b
  pub long : length b' ≡ length b
  pub more : more_follows b' ≡ more_follows b

-- ---- the commands that carry a record
-- a word is none
pub no_word : (b : List ℕ) → length b ≡ 4 → is_record b ≡ false
no_word b l =
    bcase (is_record b) (λ h. let q = (round_trip.long b h).0 in absurd (omega (arith, l, q))) (λ h. h)

pub write_word : (s : Settings) → length (setup_data s K.WriteErrorInfo) ≡ 4
unfolding setup_data
write_word s = refl

pub read_word : (s : Settings) → length (setup_data s K.ReadErrorInfo) ≡ 4
unfolding setup_data
read_word s = refl

pub carries_which : (f : Fields) → carries_record f ≡ true
    → (is f.command K.WriteErrorInfo ≡ true) ⊎ ((is f.command K.ReadErrorInfo ≡ true) × (f.ack ≡ true))
carries_which f h =
    bcase (is f.command K.WriteErrorInfo) (λ i. inl i)
    (λ i.
    let q : (is f.command K.ReadErrorInfo && f.ack) ≡ true = rw i at h in
    inr (and_left (is f.command K.ReadErrorInfo) f.ack q, and_right (is f.command K.ReadErrorInfo) f.ack q))

-- so the words that a master's request of these has are none either
carried_word : (s : Settings) (f : Fields) → carries_record f ≡ true → is_record (setup_data s f.command) ≡ false
carried_word s f h = go (carries_which f h)
  where
    go : (is f.command K.WriteErrorInfo ≡ true) ⊎ ((is f.command K.ReadErrorInfo ≡ true) × (f.ack ≡ true))
        → is_record (setup_data s f.command) ≡ false
    go (inl i) = rw (is_command f.command K.WriteErrorInfo i) (no_word (setup_data s K.WriteErrorInfo) (write_word s))
    go (inr i) = rw (is_command f.command K.ReadErrorInfo i.0) (no_word (setup_data s K.ReadErrorInfo) (read_word s))

-- ---- S-Data of a frame: exchanged where the frame carries a record, else the same
pub record Bodies (P : ErrorRecord → ErrorRecord) (f : Fields) (b b' : List ℕ) : Type 0 where
  pub carried : carries_record f ≡ true → Exchanged P b b'
  pub plain : carries_record f ≡ false → b' ≡ b

module _ (P : ErrorRecord → ErrorRecord) (one : OneToOne P) where
  written : (x : ErrorRecord) → Valid x → is_record (bytes_of x) ≡ true
  written x v = (round_trip.there x v.typed v.valid).0

  -- ---- what a test finds
  pub alike : {b b' : List ℕ} → Exchanged P b b' → Alike b b'
  alike (Exchanged.record' x v) =
      let w = one.valid x v in
      record {
        records = written (P x) w ∙ sym (written x v);
        long = round_trip.size (P x) w.typed w.valid ∙ ap (λ (n : ℕ). 16 + 4 * n) (one.count x v)
            ∙ sym (round_trip.size x v.typed v.valid);
        more = round_trip.more (P x) w.typed w.valid ∙ one.more x v
            ∙ sym (round_trip.more x v.typed v.valid);
      }
  alike (Exchanged.other b h) = record { records = refl; long = refl; more = refl }

  -- ---- no two become the same
  no_record : {A : Type 0} (x : ErrorRecord) (b : List ℕ) → Valid x → is_record b ≡ false → bytes_of x ≡ b → A
  no_record x b v h e = absurd (true≢false (sym (written x v) ∙ ap is_record e ∙ h))

  same_there : {a a' b b' : List ℕ} → Exchanged P a a' → Exchanged P b b' → a ≡ b → a' ≡ b'
  same_there (Exchanged.record' x v) (Exchanged.record' y w) e =
      ap (λ (z : ErrorRecord). bytes_of (P z))
      (round_trip.only x y v.typed w.typed v.valid w.valid e)
  same_there (Exchanged.record' x v) (Exchanged.other b h) e = no_record x b v h e
  same_there (Exchanged.other a h) (Exchanged.record' y w) e = no_record y a w h (sym e)
  same_there (Exchanged.other a h) (Exchanged.other b k) e = e

  same_back : {a a' b b' : List ℕ} → Exchanged P a a' → Exchanged P b b' → a' ≡ b' → a ≡ b
  same_back (Exchanged.record' x v) (Exchanged.record' y w) e =
      let p = one.valid x v in
      let q = one.valid y w in
      ap bytes_of (one.once x y v w
      (round_trip.only (P x) (P y) p.typed q.typed p.valid q.valid e))
  same_back (Exchanged.record' x v) (Exchanged.other b h) e = no_record (P x) b (one.valid x v) h e
  same_back (Exchanged.other a h) (Exchanged.record' y w) e = no_record (P y) a (one.valid y w) h (sym e)
  same_back (Exchanged.other a h) (Exchanged.other b k) e = e

  pub same_both : {a a' b b' : List ℕ} → Exchanged P a a' → Exchanged P b b' → same a' b' ≡ same a b
  same_both {a} {a'} {b} {b'} p q = same_by a b a' b' (same_there p q) (same_back p q)

  -- ---- the same for S-Data
  module _ {f : Fields} {b b' : List ℕ} (H : Bodies P f b b') where
    pub bodies_alike : Alike b b'
    bodies_alike =
        bcase (carries_record f) (λ h. alike (H.carried h))
        (λ h.
        let e = H.plain h in
        record { records = ap is_record e; long = ap length e; more = ap more_follows e })

    -- compared with the words of a request
    pub bodies_same : (s : Settings) → same b' (setup_data s f.command) ≡ same b (setup_data s f.command)
    bodies_same s =
        let d = setup_data s f.command in
        bcase (carries_record f)
        (λ h. same_both (H.carried h) (Exchanged.other d (carried_word s f h)))
        (λ h. ap (λ (l : List ℕ). same l d) (H.plain h))

  -- ---- frames of it
  pub readable_too : (f : Fields) (b b' : List ℕ) → length b' ≡ length b → Readable f b → Readable f b'
  readable_too f b b' l r = record {
    baseline = r.baseline;
    subconnection = r.subconnection;
    formed = rw l r.formed;
  }

  reads_record_law : (f : Fields) (b : List ℕ) → Readable f b
      → is_record_in (frame_bytes f b) (reading_of (frame_bytes f b)) ≡ (carries_record f && is_record b)
  reads_record_law f b r =
      let q = frame-trip.there f b r in
      ap (is_record_in (frame_bytes f b)) q.0 ∙ ap (λ (l : List ℕ). carries_record f && is_record l) q.1

  carried_frames : (f : Fields) {b b' : List ℕ} → carries_record f ≡ true → Exchanged P b b' → Readable f b
      → ExchangedFrame P (frame_bytes f b) (frame_bytes f b')
  carried_frames f h (Exchanged.record' x v) r = ExchangedFrame.record' f x v h r
  carried_frames f h (Exchanged.other b n) r =
      ExchangedFrame.other (frame_bytes f b) (reads_record_law f b r ∙ rw (h, n))

  pub frames : (f : Fields) {b b' : List ℕ} → Bodies P f b b' → Readable f b
      → ExchangedFrame P (frame_bytes f b) (frame_bytes f b')
  frames f {b} {b'} H r =
      bcase (carries_record f) (λ h. carried_frames f h (H.carried h) r)
      (λ h. subst (λ (l : List ℕ). ExchangedFrame P (frame_bytes f b) (frame_bytes f l)) (sym (H.plain h))
      (ExchangedFrame.other (frame_bytes f b) (reads_record_law f b r ∙ rw h)))
