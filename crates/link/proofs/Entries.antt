-- The log of entries and its marks: one more at the end; the last place of a frame; what is known of a frame that is
-- handed over.
use mathlib.Core.Path.{◌≡◌, refl, sym, ap, subst, ◌∙◌}
use Rattle.std.specs.Prelude.{None, Option, Some, ℕ}
use mathlib.Core.Bool.{Bool, true, false, ◌&&◌, ◌||◌, not, cond, beq, false≢true}
use mathlib.Core.Logic.{⊎_elim}
use mathlib.Core.List.{List, [], ◌∷◌, ◌++◌}
use Prim.Native.Nat.{ℕ, zero, suc, ◌+◌, ◌-◌, ◌≤◌, ◌<◌}
use native.Mathlib.Nat.{not-suc-le-zero, le_of_suc-le-suc}
use native.Mathlib.Numerals.{add-one}
use native.Mathlib.Omega.{arith}
use native.Mathlib.Decide.{dec_lt}
use lib.Dec.{eqb, leb}
use lib.ListN.{length, length-append, get_or-append}
use lib.Seq.{get_or-append_seam}
use borrow.Author.Tests.{eqb-true, eq-eqb, leb-true}
use Rattle.frame.specs.declared.Command.{Command}
use Rattle.frame.specs.declared.Fields.{Fields}
use Rattle.frame.specs.Control.{code_of, command_of, is, is_same}
use Rattle.words.specs.Bytes.{same}
use mathlib.Mathlib.Data.Bool.Basic.{and_elim_left as and_left, and_elim_right as and_right}
use Rattle.words.proofs.Alike.{same_eq}
use Rattle.frame.proofs.Digits.{command_of_code}
use Rattle.endpoint.specs.declared.Settings.{Settings}
use Rattle.steps.specs.Steps.{deliver}
use Rattle.link.specs.Runs.{Sent, no_sent, sent_at, same_fields, last_from, last_of, Grant, may_travel, may_deliver}
use Rattle.link.proofs.Marks.{Mark, mark, size, at, snoc}
use Rattle.link.proofs.Invariant.{Given, Travels}
use Rattle.link.proofs.Relation.{numbered, who_of, mark_of, marks, Honest}

-- ---- marks
pub marks_snoc : (l : List Sent) (w : Sent) → marks (l ++ (w ∷ [])) ≡ snoc (marks l) (mark_of w)
unfolding marks snoc
marks_snoc [] w = refl
marks_snoc (x ∷ l) w = ap (λ (m : List Mark). mark_of x ∷ m) (marks_snoc l w)

pub size_marks : (l : List Sent) → size (marks l) ≡ length l
unfolding marks size
size_marks [] = refl
size_marks (x ∷ l) = ap suc (size_marks l)

pub at_marks : (l : List Sent) (i : ℕ) → i < length l → at (marks l) i ≡ mark_of (sent_at l i)
unfolding marks at sent_at
at_marks [] i h = absurd (not-suc-le-zero h)
at_marks (x ∷ l) zero h = refl
at_marks (x ∷ l) (suc i) h = at_marks l i (le_of_suc-le-suc h)

-- ---- one more entry
pub longer : (l : List Sent) (w : Sent) → length (l ++ (w ∷ [])) ≡ suc (length l)
longer l w = length-append l (w ∷ []) ∙ add-one (length l)

pub entry_old : (l : List Sent) (w : Sent) (i : ℕ) → i < length l → sent_at (l ++ (w ∷ [])) i ≡ sent_at l i
unfolding sent_at
entry_old l w i h = get_or-append l (w ∷ []) no_sent i h

pub entry_new : (l : List Sent) (w : Sent) → sent_at (l ++ (w ∷ [])) (length l) ≡ w
unfolding sent_at
entry_new l w = get_or-append_seam l w [] no_sent

pub honest_snoc : (sm : Settings) (l : List Sent) (w : Sent) → ((i : ℕ) → i < length l → Honest sm (sent_at l i))
    → Honest sm w → (i : ℕ) → i < length (l ++ (w ∷ [])) → Honest sm (sent_at (l ++ (w ∷ [])) i)
honest_snoc sm l w f h i k =
    elim (dec_lt i (length l)) [
      | yes g ↦ subst (Honest sm) (sym (entry_old l w i g)) (f i g)
      | no g ↦ let e : i ≡ length l = omega (arith, longer l w) in subst (Honest sm)
          (sym (ap (sent_at (l ++ (w ∷ []))) e ∙ entry_new l w)) h
    ]

-- ---- equal fields
beq_eq : (a b : Bool) → beq a b ≡ true → a ≡ b
beq_eq true true h = refl
beq_eq true false h = absurd (false≢true h)
beq_eq false true h = absurd (false≢true h)
beq_eq false false h = refl

pub is_eq : (a b : Command) → is a b ≡ true → a ≡ b
is_eq a b h = sym (command_of_code a) ∙ ap command_of (eqb-true (code_of a) (code_of b) h) ∙ command_of_code b

pub session_eq : (a b : Option ℕ) → is_same a b ≡ true → a ≡ b
session_eq None None h = refl
session_eq None (Some n) h = let z = eqb-true 0 (65536 + n) h in absurd (omega arith)
session_eq (Some n) None h = let z = eqb-true (65536 + n) 0 h in absurd (omega arith)
session_eq (Some n) (Some m) h =
    let z = eqb-true (65536 + n) (65536 + m) h in
    let y : n ≡ m = omega arith in
    ap Some y

pub fields_eq : (f g : Fields) → same_fields f g ≡ true → f ≡ g
unfolding same_fields
fields_eq f g h =
    let h1 = and_right (is f.command g.command) _ h in
    let h2 = and_right (beq f.ack g.ack) _ h1 in
    let h3 = and_right (beq f.busy g.busy) _ h2 in
    let h4 = and_right (beq f.error g.error) _ h3 in
    let h5 = and_right (beq f.sequence g.sequence) _ h4 in
    let h6 = and_right (beq f.application g.application) _ h5 in
    let h7 = and_right (is_same f.subconnection g.subconnection) _ h6 in
    let h8 = and_right (eqb f.connection g.connection) _ h7 in
    let h9 = and_right (eqb f.timestamp g.timestamp) _ h8 in
    let p0 = is_eq f.command g.command (and_left (is f.command g.command) _ h) in
    let p1 = beq_eq f.ack g.ack (and_left (beq f.ack g.ack) _ h1) in
    let p2 = beq_eq f.busy g.busy (and_left (beq f.busy g.busy) _ h2) in
    let p3 = beq_eq f.error g.error (and_left (beq f.error g.error) _ h3) in
    let p4 = beq_eq f.sequence g.sequence (and_left (beq f.sequence g.sequence) _ h4) in
    let p5 = beq_eq f.application g.application (and_left (beq f.application g.application) _ h5) in
    let p6 = session_eq f.subconnection g.subconnection
    (and_left (is_same f.subconnection g.subconnection) _ h6) in
    let p7 = eqb-true f.connection g.connection (and_left (eqb f.connection g.connection) _ h7) in
    let p8 = eqb-true f.timestamp g.timestamp (and_left (eqb f.timestamp g.timestamp) _ h8) in
    let p9 = eqb-true f.baseline g.baseline h9 in
    λ i. record {
      command = p0 i;
      ack = p1 i;
      busy = p2 i;
      error = p3 i;
      sequence = p4 i;
      application = p5 i;
      subconnection = p6 i;
      connection = p7 i;
      timestamp = p8 i;
      baseline = p9 i;
    }

-- ---- the last place of a frame that was written
pub record FoundAt (f : Fields) (body : List ℕ) (l : List Sent) (k : ℕ) : Type 0 where
  pub there : k < length l
  pub fields : (sent_at l k).fields ≡ f
  pub bodies : (sent_at l k).body ≡ body

-- what is found in the rest of a log, from place n on, stands there, or is what was found before
pub data Found (f : Fields) (body : List ℕ) (l : List Sent) (n found last : ℕ) : Type 0 where
  before : last ≡ found → Found f body l n found last
  here : (k : ℕ) → last ≡ suc (n + k) → FoundAt f body l k → Found f body l n found last

further : (f : Fields) (body : List ℕ) (w : Sent) (l : List Sent) (n found last : ℕ) (b : Bool)
    → (same_fields f w.fields && same body w.body) ≡ b → Found f body l (suc n) (cond b (suc n) found) last
    → Found f body (w ∷ l) n found last
unfolding sent_at
further f body w l n found last b h (here k e p) = here (suc k) (omega arith)
    (record { there = le_suc p.there; fields = p.fields; bodies = p.bodies })
  where
    le_suc : {i j : ℕ} → i < j → suc i < suc j
    le_suc {i} {j} g = omega arith
further f body w l n found last true h (before e) =
    here 0 (omega arith) (record {
      there = omega arith;
      fields = sym (fields_eq f w.fields (and_left (same_fields f w.fields) (same body w.body) h));
      bodies = sym (same_eq body w.body (and_right (same_fields f w.fields) (same body w.body) h));
    })
further f body w l n found last false h (before e) = before e

found_from : (f : Fields) (body : List ℕ) (l : List Sent) (n found : ℕ)
    → Found f body l n found (last_from n f body l found)
unfolding last_from
found_from f body [] n found = before refl
found_from f body (w ∷ l) n found =
    further f body w l n found _ (same_fields f w.fields && same body w.body) refl
    (found_from f body l (suc n) (cond (same_fields f w.fields && same body w.body) (suc n) found))

pub found_at : (f : Fields) (body : List ℕ) (l : List Sent) (k : ℕ) → last_of f body l ≡ suc k → FoundAt f body l k
unfolding last_of
found_at f body l k e = go (found_from f body l 0 0)
  where
    go : Found f body l 0 0 (last_from 0 f body l 0) → FoundAt f body l k
    go (before z) = absurd (omega arith)
    go (here j z p) = let q : j ≡ k = omega arith in subst (FoundAt f body l) q p

-- ---- a number that was given, and a frame that carries it: document 02's premise as it is computed
within : (s : Option ℕ) (n a b : ℕ) → (not (is_same s (Some n)) || leb a b) ≡ true → numbered s ≡ suc n → a ≤ b
within None n a b h e = absurd (omega arith)
within (Some m) n a b h e =
    let q : is_same (Some m) (Some n) ≡ true = eq-eqb (65536 + m) (65536 + n) (omega arith) in
    leb-true a b (rw q at h)

travels_told : (g : List Grant) (s : Option ℕ) (loads : ℕ) → may_travel g s loads ≡ true → (n e : ℕ) → Given g n e
    → numbered s ≡ suc n → e ≤ loads
unfolding may_travel
travels_told [] s loads h n e x q = absurd x
travels_told (y ∷ g) s loads h n e x q =
    let first = not (is_same s (Some y.number)) || leb y.loads loads in
    ⊎_elim
    (λ (z : (y.number ≡ n) × (y.loads ≡ e)).
    let a = z.0 in
    let b = z.1 in
    let o = within s y.number y.loads loads (and_left first _ h) (omega arith) in
    omega arith)
    (λ (z : Given g n e). travels_told g s loads (and_right first _ h) n e z q) x

-- ---- a frame that is handed over, by the place that it stands for; it may still travel
pub record Handed (given : List Grant) (f : Fields) (body : List ℕ) (l : List Sent) (k : ℕ) : Type 0 where
  pub found : FoundAt f body l k
  pub travels : may_travel given f.subconnection (sent_at l k).loads ≡ true

-- a deliver that is allowed hands over a frame of the log
pub record Delivered (given : List Grant) (f : Fields) (body : List ℕ) (l : List Sent) : Type 0 where
  pub place : ℕ
  pub last : last_of f body l ≡ suc place
  pub handed : Handed given f body l place

pub delivered : (given : List Grant) (f : Fields) (body : List ℕ) (l : List Sent)
    → may_deliver given l (deliver f body) ≡ true → Delivered given f body l
delivered given f body l h = was (last_of f body l) refl
  where
    was : (n : ℕ) → last_of f body l ≡ n → Delivered given f body l
    was zero q = absurd (false≢true (rw q at h))
    was (suc k) q =
        let z : last_of f body l - 1 ≡ k = omega arith in
        record {
          place = k;
          last = q;
          handed = record {
            found = found_at f body l k q;
            travels = subst (λ (n : ℕ). may_travel given f.subconnection (sent_at l n).loads ≡ true) z
                (and_right (leb 1 (last_of f body l)) _ h);
          };
        }

-- its mark
module _ {given : List Grant} {f : Fields} {body : List ℕ} {l : List Sent} {k : ℕ} (g : Handed given f body l k) where
  pub in_log : k < size (marks l)
  in_log = let z = g.found.there in let y = size_marks l in omega arith

  pub the_mark : at (marks l) k ≡ mark (who_of f) (code_of f.command) f.timestamp f.baseline
      (sent_at l k).moment body (numbered f.subconnection) (sent_at l k).loads
  the_mark =
      let q = g.found.fields in
      at_marks l k g.found.there
      ∙ (λ i. mark (who_of (q i)) (code_of (q i).command) (q i).timestamp (q i).baseline (sent_at l k).moment
      (g.found.bodies i) (numbered (q i).subconnection) (sent_at l k).loads)

  pub marked_code : (at (marks l) k).code ≡ code_of f.command
  marked_code = ap (λ (y : Mark). y.code) the_mark

  pub marked_stamp : (at (marks l) k).stamp ≡ f.timestamp
  marked_stamp = ap (λ (y : Mark). y.stamp) the_mark

  pub marked_body : (at (marks l) k).body ≡ body
  marked_body = ap (λ (y : Mark). y.body) the_mark

  pub marked_session : (at (marks l) k).session ≡ numbered f.subconnection
  marked_session = ap (λ (y : Mark). y.session) the_mark

  pub marked_travels : Travels given (at (marks l) k)
  marked_travels n e x s =
      let z = ap (λ (y : Mark). y.epoch) the_mark in
      let o = travels_told given f.subconnection (sent_at l k).loads g.travels n e x (sym marked_session ∙ s) in
      omega arith
