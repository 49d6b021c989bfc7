-- What a call leaves: what the clock step does, and at most one record put over it, with the settings that it had.
use mathlib.Core.Path.{◌≡◌, refl, sym, ap, subst, ◌∙◌}
use Rattle.std.specs.Prelude.{Err, None, Ok, Option, Some, ℕ}
use Rattle.frame.specs.Reading.{Reading}
use Rattle.frame.specs.Reading.{frame_with}
use mathlib.Core.Bool.{Bool, true, false, ◌&&◌, not, cond, false≢true}
use mathlib.Core.List.{List, [], ◌∷◌}
use Prim.Native.Nat.{ℕ, zero, suc, ◌≤◌, ◌<◌}
use native.Mathlib.Nat.{not-suc-le-zero, le_of_suc-le-suc}
use native.Mathlib.Omega.{arith}
use lib.Dec.{eqb}
use lib.ListN.{length, get_or, set, length-set}
use lib.Seq.{slice, get_or-set_same, get_or-set_other}
use borrow.Author.Tests.{ltb-true, eqb-true, eqb-false}
use Rattle.frame.specs.Reading.{reading_of}
use Rattle.endpoint.specs.declared.Settings.{Settings}
use Rattle.endpoint.specs.Endpoint.{Endpoint}
use Rattle.endpoint.specs.declared.Reason.{Reason}
use Rattle.endpoint.specs.declared.Reason.TheVariants as R
use Rattle.endpoint.specs.declared.Refusal.TheVariants.{Dropped, Ended}
use Rattle.endpoint.specs.Answers.{is_done}
use Rattle.endpoint.specs.Time.{is_expired}
use Rattle.steps.specs.Calls.{Outcome, send_of}
use Rattle.steps.specs.Deliveries.{deliver_of}
use Rattle.steps.specs.Steps as S
use Rattle.steps.specs.Steps.{Act, start, stop, restart, set_not_ready}
use Rattle.steps.proofs.CallLaws.{step_laws}
use Rattle.steps.proofs.Dispatch.{cond_true}
use Rattle.steps.proofs.Keeps.{bcase}
use Rattle.records.specs.declared.Record.{Record}
use Rattle.records.specs.Records.{endpoint_of, record_of}
use Rattle.lent.specs.First.{on_first, length_first, get_d_below}
use Rattle.gateway.specs.Tables.{Lent, blank_record, record_at, endpoint_at, is_entry, is_shorter, place_of, is_reading}
use Rattle.gateway.specs.Tables.{ticked, clock_step, is_timely, after_clock, placed}
use Rattle.gateway.specs.Calls.{Result, acted_of, refused_of, before_entry, on_entry, is_short}
use Rattle.gateway.specs.Calls.{before_show, show_in, by_reading}
use Rattle.gateway.proofs.Lands.{tells}
use Rattle.runs.proofs.Reaching.{lends, act_in_law}
use Rattle.runs.specs.Steps.{Call, act, send, deliver, show, act_in, call_in}
use Rattle.isolation.specs.Isolation.{entry_in, entry_of, ChangesOne, OneRecord}

-- ---- the clock step
get_d_from : {A : Type 0} (f : A → A) (n i : ℕ) (ys : List A) (d : A) → n ≤ i → get_or (on_first f n ys) i d ≡ get_or ys i d
get_d_from f zero i ys d l = refl
get_d_from f (suc n) i [] d l = refl
get_d_from f (suc n) zero (y ∷ ys) d l = absurd (not-suc-le-zero l)
get_d_from f (suc n) (suc i) (y ∷ ys) d l = get_d_from f n i ys d (le_of_suc-le-suc l)

module _ (d : Lent) (t : ℕ) where
  pub clock_count : (after_clock t d).gateway.count ≡ d.gateway.count
  unfolding clock_step
  clock_count = bcase (is_timely d t) (λ q. rw q) (λ q. rw q)

  pub clock_last : (after_clock t d).gateway.last ≡ cond (is_timely d t) t d.gateway.last
  unfolding clock_step
  clock_last = bcase (is_timely d t) (λ q. rw q) (λ q. rw q)

  pub clock_length : length (after_clock t d).records ≡ length d.records
  unfolding clock_step
  clock_length =
      bcase (is_timely d t) (λ q. rw q (length_first (ticked t) d.gateway.count d.records)) (λ q. rw q)

  pub clock_past : (i : ℕ) → d.gateway.count ≤ i
      → record_at (after_clock t d).records i ≡ record_at d.records i
  unfolding clock_step
  clock_past i l =
      bcase (is_timely d t) (λ q. rw q (get_d_from (ticked t) d.gateway.count i d.records blank_record l))
      (λ q. rw q)

  pub clock_below : (i : ℕ) → i < d.gateway.count → i < length d.records
      → record_at (after_clock t d).records i
      ≡ cond (is_timely d t) (ticked t (record_at d.records i)) (record_at d.records i)
  unfolding clock_step
  clock_below i l w =
      bcase (is_timely d t) (λ q. rw q (get_d_below (ticked t) d.gateway.count i d.records blank_record l w))
      (λ q. rw q)

-- ---- what a call leaves, which may change the record of one entry
pub data Leaves (d : Lent) (t : ℕ) (entry : Option ℕ) : Lent → Type 0 where
  clocked : Leaves d t entry (after_clock t d)
  put : (n : ℕ) (x : Endpoint) → entry ≡ Some n → n < d.gateway.count → x.settings ≡ (endpoint_at d n).settings
      → Leaves d t entry (placed n (record_of x) (after_clock t d))

record_by : (n : ℕ) (b : Bool) (x y : Result)
    → record_at (cond b x y).lent.records n
    ≡ cond b (record_at x.lent.records n) (record_at y.lent.records n)
record_by n true x y = refl
record_by n false x y = refl

module _ (d : Lent) (t : ℕ) where
  entry_leaves : (does : Endpoint → Outcome) (absent : Reason) (short : Bool) (n : ℕ)
      → ((e : Endpoint) → (does e).endpoint.settings ≡ e.settings)
      → Leaves d t (Some n) (on_entry does absent d t short n).lent
  entry_leaves does absent short n keeps =
      let x = is_expired (endpoint_at d n) t in
      bcase (is_done (before_entry absent d t short n))
      (λ h.
      let p = tells (is_reading d.gateway t) (is_shorter d) short (is_entry d n) x absent h in
      rw h (subst (λ (c : Lent). Leaves d t (Some n) (placed n (record_of (does (endpoint_at d n)).endpoint) c))
      (cond_true (is_timely d t) (clock_step t d) d (λ i. p.reading i && not (p.whole i)))
      (put n (does (endpoint_at d n)).endpoint refl (ltb-true n d.gateway.count p.entry) (keeps (endpoint_at d n)))))
      (λ h. rw h clocked)

  -- the record that it leaves there
  pub entry_record : (does : Endpoint → Outcome) (absent : Reason) (short : Bool) (n : ℕ) → n < length d.records
      → record_at (on_entry does absent d t short n).lent.records n
      ≡ cond (is_done (before_entry absent d t short n)) (record_of (does (endpoint_at d n)).endpoint)
      (record_at (after_clock t d).records n)
  unfolding clock_step
  entry_record does absent short n w =
      let a = before_entry absent d t short n in
      let o = does (endpoint_at d n) in
      let l = length_first (ticked t) d.gateway.count d.records in
      record_by n (is_done a) (acted_of o t n d) (refused_of a t n d)
      ∙ ap (λ (r : Record). cond (is_done a) r (record_at (after_clock t d).records n))
      (get_or-set_same (clock_step t d).records n (record_of o.endpoint) blank_record
      (subst (λ (m : ℕ). n < m) (sym l) w))

  act_leaves : (room : ℕ) (a : Act) (n : ℕ) → Leaves d t (Some n) (act_in d t room a n).lent
  act_leaves room a n =
      subst (λ (r : Result). Leaves d t (Some n) r.lent) (sym (act_in_law d t room a n))
      (entry_leaves (λ e. S.act_of e t a) R.Entry (lends room a) n (λ e. step_laws.keeps e t (S.act a)))

  show_leaves : (room n : ℕ) → Leaves d t None (show_in d t room n).lent
  show_leaves room n =
      bcase (is_done (before_show d t (is_short room) n))
      (λ h.
      let p = tells (is_reading d.gateway t) (is_shorter d) (is_short room) (is_entry d n) false R.Entry h in
      rw h (subst (Leaves d t None) (cond_true (is_timely d t) (clock_step t d) d (λ i. p.reading i && not (p.whole i))) clocked))
      (λ h. rw h clocked)

  reading_leaves : (room : ℕ) (s : List ℕ) (r : Reading) → Leaves d t (entry_in d r) (by_reading d t room s r).lent
  reading_leaves room s (Err fault) = clocked
  reading_leaves room s (Ok read) =
      entry_leaves (λ e. deliver_of e t read.fields (slice read.start read.end s)) R.Unknown (is_short room) (place_of read.fields.connection d)
      (λ e. step_laws.keeps e t (S.deliver read.fields (slice read.start read.end s)))

  pub leaves : (room : ℕ) (c : Call) → Leaves d t (entry_of d c) (call_in d t room c).lent
  leaves room (act a n) = act_leaves room a n
  leaves room (send n value) =
      entry_leaves (λ e. send_of e t value) R.Entry (is_short room) n (λ e. step_laws.keeps e t (S.send value))
  leaves room (deliver s) =
      bcase (eqb (length s) 0) (λ z. rw z clocked) (λ z. rw z (reading_leaves room s (reading_of s)))
  leaves room (show n) = show_leaves room n

  -- ---- so at most one record is changed
  changes : {entry : Option ℕ} {after : Lent} → Leaves d t entry after → ChangesOne d t entry after
  changes clocked =
      record { gateway = refl; whole = clock_length d t; others = λ i h. refl; past = clock_past d t }
  changes (put n x at l k) =
      let c = (after_clock t d).records in
      let r = record_of x in
      record {
        gateway = refl;
        whole = length-set c n r ∙ clock_length d t;
        others = λ i h. get_or-set_other c n i r blank_record (λ e. h (at ∙ ap Some (sym e)));
        past = λ i h. get_or-set_other c n i r blank_record (λ e. absurd (omega (arith, e))) ∙ clock_past d t i h;
      }

  -- ---- and no record of the table changes its CID
  cid_ticked : (r : Record) → (ticked t r).stored.connection ≡ r.stored.connection
  cid_ticked r = bcase (is_expired (endpoint_of r) t) (λ q. rw q) (λ q. rw q)

  cid_clocked : (i : ℕ) → i < d.gateway.count → i < length d.records
      → (record_at (after_clock t d).records i).stored.connection ≡ (record_at d.records i).stored.connection
  cid_clocked i l w =
      ap (λ (r : Record). r.stored.connection) (clock_below d t i l w)
      ∙ bcase (is_timely d t) (λ q. rw q (cid_ticked (record_at d.records i))) (λ q. rw q)

  cid_kept : {entry : Option ℕ} {after : Lent} → Leaves d t entry after
      → (i : ℕ) → i < d.gateway.count → i < length d.records
      → (record_at after.records i).stored.connection ≡ (record_at d.records i).stored.connection
  unfolding endpoint_at
  cid_kept clocked i l w = cid_clocked i l w
  cid_kept (put n x at b k) i l w =
      let c = (after_clock t d).records in
      let r = record_of x in
      let m : i < length c = subst (λ (j : ℕ). i < j) (sym (clock_length d t)) w in
      let cid : Record → ℕ = λ z. z.stored.connection in
      bcase (eqb i n)
      (λ q.
      let e = eqb-true i n q in
      ap cid (ap (λ (j : ℕ). get_or (set c j r) i blank_record) (sym e) ∙ get_or-set_same c i r blank_record m)
      ∙ ap (λ (s : Settings). s.connection) k ∙ ap (λ (j : ℕ). cid (record_at d.records j)) (sym e))
      (λ q. ap cid (get_or-set_other c n i r blank_record (eqb-false i n q)) ∙ cid_clocked i l w)

  pub call_keeps : (room : ℕ) (c : Call) (i : ℕ) → i < d.gateway.count → i < length d.records
      → (record_at (call_in d t room c).lent.records i).stored.connection ≡ (record_at d.records i).stored.connection
  call_keeps room c i l w = cid_kept (leaves room c) i l w

pub one_record : OneRecord
one_record d t room c = changes d t (leaves d t room c)
