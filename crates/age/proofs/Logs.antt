-- The log of frames as bytes, and as fields and bodies: the same frames at the same places.
use mathlib.Core.Path.{◌≡◌, refl, sym, ap, ap₂, subst, ◌∙◌}
use Rattle.std.specs.Prelude.{Ok}
use Rattle.frame.specs.Reading.{frame_with}
use mathlib.Core.Bool.{Bool, true, false, ◌&&◌, cond, beq}
use mathlib.Core.List.{List, [], ◌∷◌, ◌++◌, map}
use Prim.Native.Nat.{ℕ, zero, suc, ◌+◌, ◌≤◌, ◌<◌}
use native.Mathlib.Nat.{not-suc-le-zero, le_of_suc-le-suc}
use lib.Dec.{eqb}
use lib.ListN.{length}
use lib.Seq.{slice}
use borrow.Author.Tests.{eq-eqb}
use Rattle.frame.specs.declared.Command.TheVariants as K
use Rattle.frame.specs.declared.Fields.{Fields}
use Rattle.frame.specs.Control.{code_of, is, subconnection_bits}
use Rattle.words.specs.Bytes.{same}
use Rattle.frame.specs.Reading.{reading_of}
use Rattle.frame.specs.Writing.{frame_bytes}
use Rattle.frame.specs.RoundTrip.{Readable}
use mathlib.Mathlib.Data.Bool.Basic.{and_elim_left as and_left, and_elim_right as and_right, and_intro as both}
use Rattle.words.proofs.Alike.{same_refl, same_eq}
use Rattle.frame.proofs.ReadBack.{round_trip}
use Rattle.steps.proofs.Keeps.{bcase}
use Rattle.link.specs.Runs as L
use Rattle.link.proofs.Entries.{fields_eq}
use Rattle.runs.specs.Bus.{is_of, is_refresh_in, is_frame_of, is_refresh_of}
use Rattle.age.specs.Runs.{Sent, sent_at, last_from, last_of}

-- ---- a written frame, as the reader takes it
pub frame_of_law : (cid : ℕ) (f : Fields) (body : List ℕ) → Readable f body
    → is_frame_of cid (frame_bytes f body) ≡ eqb f.connection cid
frame_of_law cid f body w = ap (is_of cid) (round_trip.there f body w).0

pub refresh_of : (cid : ℕ) (f : Fields) (body : List ℕ) → Readable f body
    → is_refresh_of cid (frame_bytes f body) ≡ (eqb f.connection cid && is f.command K.Refresh)
refresh_of cid f body w = ap (is_refresh_in cid) (round_trip.there f body w).0

-- ---- the log
unfoldable pub to_sent : L.Sent → Sent
to_sent w = record {
  slave = w.slave;
  moment = w.moment;
  loads = w.loads;
  bytes = frame_bytes w.fields w.body;
  lent = w.lent;
}

unfoldable pub to_log : List L.Sent → List Sent
to_log l = map to_sent l

pub to_log_append : (a b : List L.Sent) → to_log (a ++ b) ≡ to_log a ++ to_log b
unfolding to_log
to_log_append [] b = refl
to_log_append (x ∷ a) b = ap (λ (l : List Sent). to_sent x ∷ l) (to_log_append a b)

pub to_log_length : (l : List L.Sent) → length (to_log l) ≡ length l
unfolding to_log
to_log_length [] = refl
to_log_length (x ∷ l) = ap suc (to_log_length l)

pub sent_at_law : (l : List L.Sent) (i : ℕ) → i < length l → sent_at (to_log l) i ≡ to_sent (L.sent_at l i)
unfolding to_log sent_at L.sent_at
sent_at_law [] i h = absurd (not-suc-le-zero h)
sent_at_law (x ∷ l) zero h = refl
sent_at_law (x ∷ l) (suc i) h = sent_at_law l i (le_of_suc-le-suc h)

-- when it was written, and after how many loadings; past the end of the log these are 0 in both
pub when_at : (l : List L.Sent) (i : ℕ)
    → ((sent_at (to_log l) i).moment ≡ (L.sent_at l i).moment) × ((sent_at (to_log l) i).loads ≡ (L.sent_at l i).loads)
unfolding to_log to_sent sent_at L.sent_at
when_at [] i = (refl, refl)
when_at (x ∷ l) zero = (refl, refl)
when_at (x ∷ l) (suc i) = when_at l i

-- every frame in the log reads back, and is of the CID
pub record Good (cid : ℕ) (w : L.Sent) : Type 0 where
  pub readable : Readable w.fields w.body
  pub has : w.fields.connection ≡ cid

pub data AllGood (cid : ℕ) : List L.Sent → Type 0 where
  no_more : AllGood cid []
  and_more : {w : L.Sent} {l : List L.Sent} → Good cid w → AllGood cid l → AllGood cid (w ∷ l)

pub good_append : (cid : ℕ) {a b : List L.Sent} → AllGood cid a → AllGood cid b → AllGood cid (a ++ b)
good_append cid no_more b = b
good_append cid (and_more g a) b = and_more g (good_append cid a b)

pub good_at : (cid : ℕ) {l : List L.Sent} → AllGood cid l → (i : ℕ) → i < length l → Good cid (L.sent_at l i)
unfolding L.sent_at
good_at cid no_more i h = absurd (not-suc-le-zero h)
good_at cid (and_more g a) zero h = g
good_at cid (and_more g a) (suc i) h = good_at cid a i (le_of_suc-le-suc h)

-- ---- the last place of a frame
beq_refl : (b : Bool) → beq b b ≡ true
beq_refl true = refl
beq_refl false = refl

fields_refl : (f : Fields) → L.same_fields f f ≡ true
unfolding L.same_fields
fields_refl f =
    both (eq-eqb (code_of f.command) _ refl)
    (both (beq_refl f.ack) (both (beq_refl f.busy) (both (beq_refl f.error)
    (both (beq_refl f.sequence) (both (beq_refl f.application)
    (both (eq-eqb (subconnection_bits f.subconnection) _ refl)
    (both (eq-eqb f.connection _ refl) (both (eq-eqb f.timestamp _ refl) (eq-eqb f.baseline _ refl)))))))))

iff : (a b : Bool) → (a ≡ true → b ≡ true) → (b ≡ true → a ≡ true) → a ≡ b
iff true b f g = sym (f refl)
iff false true f g = g refl
iff false false f g = refl

same_frames : (f g : Fields) (b c : List ℕ) → Readable f b → Readable g c
    → same (frame_bytes f b) (frame_bytes g c) ≡ (L.same_fields f g && same b c)
same_frames f g b c v w =
    iff (same (frame_bytes f b) (frame_bytes g c)) (L.same_fields f g && same b c)
    (λ h. let q = round_trip.only f g b c v w (same_eq (frame_bytes f b) (frame_bytes g c) h) in
    both (ap (L.same_fields f) (sym q.0) ∙ fields_refl f) (ap (same b) (sym q.1) ∙ same_refl b))
    (λ h.
    let p = fields_eq f g (and_left (L.same_fields f g) (same b c) h) in
    let q = same_eq b c (and_right (L.same_fields f g) (same b c) h) in
    ap (same (frame_bytes f b)) (sym (ap₂ frame_bytes p q)) ∙ same_refl (frame_bytes f b))

last_from_law : (cid n : ℕ) (f : Fields) (b : List ℕ) → Readable f b → (l : List L.Sent) → AllGood cid l → (found : ℕ)
    → last_from n (frame_bytes f b) (to_log l) found ≡ L.last_from n f b l found
unfolding last_from L.last_from to_log to_sent
last_from_law cid n f b w [] no_more found = refl
last_from_law cid n f b w (x ∷ l) (and_more g a) found =
    ap (λ (t : Bool). last_from (suc n) (frame_bytes f b) (to_log l) (cond t (suc n) found))
    (same_frames f x.fields b x.body w g.readable)
    ∙ last_from_law cid (suc n) f b w l a _

pub last_of_law : (cid : ℕ) (f : Fields) (b : List ℕ) → Readable f b → (l : List L.Sent) → AllGood cid l
    → last_of (frame_bytes f b) (to_log l) ≡ L.last_of f b l
unfolding last_of L.last_of
last_of_law cid f b w l a = last_from_law cid 0 f b w l a 0

-- ---- bytes that were written are the writing of what the reader makes of them
pub record WritingOf (s : List ℕ) (f : Fields) (body : List ℕ) : Type 0 where
  pub readable : Readable f body
  pub is : frame_bytes f body ≡ s

-- some entry has these bytes
record Origin (s : List ℕ) : Type 0 where
  fields : Fields
  body : List ℕ
  writing : WritingOf s fields body

origin : (cid n : ℕ) (s : List ℕ) (l : List L.Sent) → AllGood cid l → 1 ≤ last_from n s (to_log l) 0 → Origin s
unfolding last_from to_log to_sent
origin cid n s [] no_more h = absurd (not-suc-le-zero h)
origin cid n s (x ∷ l) (and_more g a) h =
    bcase (same s (frame_bytes x.fields x.body))
    (λ q. record {
      fields = x.fields;
      body = x.body;
      writing = record { readable = g.readable; is = sym (same_eq s (frame_bytes x.fields x.body) q) };
    })
    (λ q. origin cid (suc n) s l a
    (subst (λ (b : Bool). 1 ≤ last_from (suc n) s (to_log l) (cond b (suc n) 0)) q h))

pub writing_of : (cid : ℕ) (s : List ℕ) (l : List L.Sent) → AllGood cid l → 1 ≤ last_of s (to_log l)
    → (f : Fields) (from to : ℕ) → reading_of s ≡ Ok (frame_with f from to) → WritingOf s f (slice from to s)
unfolding last_of
writing_of cid s l a h f from to is_frame_law =
    let o = origin cid 0 s l a h in
    let w = o.writing in
    let back = round_trip.there o.fields o.body w.readable in
    let q : Ok (frame_with o.fields 20 (20 + length o.body)) ≡ Ok (frame_with f from to) =
    sym back.0 ∙ ap reading_of w.is ∙ is_frame_law in
    let r : frame_with o.fields 20 (20 + length o.body) ≡ frame_with f from to = cc in
    let p : o.fields ≡ f = ap (λ x. x.fields) r in
    let start : 20 ≡ from = ap (λ x. x.start) r in
    let end : 20 + length o.body ≡ to = ap (λ x. x.end) r in
    let b : o.body ≡ slice from to s = sym back.1 ∙ (λ i. slice (start i) (end i) (w.is i)) in
    subst (λ (x : List ℕ). WritingOf s f x) b (subst (λ (x : Fields). WritingOf s x o.body) p w)
