-- Which connection a call on a gateway reaches: none, and the clock step is all; or one, whose step it takes.
use mathlib.Core.Path.{◌≡◌, refl, sym, ap, ◌∙◌}
use Rattle.std.specs.Prelude.{Err, Ok, Option, ℕ}
use Rattle.frame.specs.Reading.{Reading}
use Rattle.frame.specs.Reading.{frame_with}
use mathlib.Core.Bool.{Bool, true, false, ◌&&◌, cond, false≢true}
use mathlib.Core.List.{List}
use Prim.Native.Nat.{ℕ, ◌<◌}
use lib.Dec.{eqb}
use lib.ListN.{length}
use lib.Seq.{slice}
use borrow.Author.Tests.{ltb-true}
use Rattle.frame.specs.declared.Fields.{Fields}
use Rattle.frame.specs.Reading.{reading_of}
use Rattle.endpoint.specs.declared.Reason.{Reason}
use Rattle.endpoint.specs.declared.Reason.TheVariants as R
use Rattle.endpoint.specs.Answers.{Answer}
use Rattle.endpoint.specs.declared.Refusal.TheVariants.{Dropped, Ended}
use Rattle.endpoint.specs.Answers.{is_done}
use Rattle.endpoint.specs.Time.{is_expired, after_tick}
use Rattle.steps.specs.Frames.{nothing}
use Rattle.steps.specs.Calls.{Outcome}
use Rattle.steps.specs.Steps as S
use Rattle.steps.specs.Steps.{Act, start, stop, restart, set_not_ready, set_result, clear_result, set_record, clear_record}
use Rattle.steps.specs.Steps.{invoke, read_error, write_error}
use Rattle.steps.proofs.CallLaws.{step_laws}
use Rattle.steps.proofs.Dispatch.{cond_true, cond_false}
use Rattle.steps.proofs.Keeps.{bcase}
use Rattle.steps.proofs.Values.{step_tidy}
use Rattle.gateway.specs.Tables.{Lent, endpoint_at, is_entry, is_shorter, place_of, is_reading, clock_step, after_clock}
use Rattle.gateway.specs.Calls.{result, admit, admit_entry, refused_entry, refused_of, admit_in, acted_of}
use Rattle.gateway.specs.Calls.{before_entry, on_entry, is_short, before_show, shown_in, empty_cycle, reason_of, by_reading}
use Rattle.gateway.specs.Calls.{deliver_in}
use Rattle.gateway.proofs.Lands.{tells}
use Rattle.runs.specs.Steps.{Call, act, send, deliver, show, act_in, call_in}
use Rattle.runs.proofs.Tables.{within, Like, like_trans, like_tick, like_at, like_length, like_placed}
use Rattle.runs.proofs.Tables.{tidy_at, placed_here}

pub and_false : (b : Bool) → (b && false) ≡ false
and_false true = refl
and_false false = refl

-- ---- a call on an entry
-- whether an output that is too short was lent: only a stop is lent one
pub lends : ℕ → Act → Bool
lends room start = false
lends room stop = is_short room
lends room (restart number) = false
lends room (set_not_ready b) = false
lends room (set_result body) = false
lends room clear_result = false
lends room (set_record body) = false
lends room clear_record = false
lends room read_error = false
lends room (write_error body) = false
lends room (invoke word bytes) = false

pub act_in_law : (d : Lent) (t room : ℕ) (a : Act) (k : ℕ)
    → act_in d t room a k ≡ on_entry (λ e. S.act_of e t a) R.Entry d t (lends room a) k
unfolding lends
act_in_law d t room start k = refl
act_in_law d t room stop k = refl
act_in_law d t room (restart number) k = refl
act_in_law d t room (set_not_ready b) k = refl
act_in_law d t room (set_result body) k = refl
act_in_law d t room clear_result k = refl
act_in_law d t room (set_record body) k = refl
act_in_law d t room clear_record k = refl
act_in_law d t room read_error k = refl
act_in_law d t room (write_error body) k = refl
act_in_law d t room (invoke word bytes) k = refl

-- there is a connection at k, within the slice, and its timer has not expired
pub record Live (d : Lent) (t k : ℕ) : Type 0 where
  pub counted : k < d.gateway.count
  pub within : k < length d.records
  pub timely : is_expired (endpoint_at d k) t ≡ false

live : (absent : Reason) (d : Lent) (t : ℕ) (short : Bool) (k : ℕ) → is_done (before_entry absent d t short k) ≡ true
    → Live d t k
live absent d t short k h =
    let x = is_expired (endpoint_at d k) t in
    let told = tells (is_reading d.gateway t) (is_shorter d) short (is_entry d k) x absent h in
    let counted = ltb-true k d.gateway.count told.entry in
    record { counted = counted; within = within d k told.whole counted; timely = told.timely }

module _ (d : Lent) (t : ℕ) (by : S.Call) (k : ℕ) where
  -- what the call does to the endpoint at k
  abbrev pub does : Outcome
  does = S.step_of (endpoint_at d k) t by

  pub step_like : Like (acted_of does t k d).lent d
  step_like =
      like_trans (like_placed (clock_step t d) k does.endpoint
      (step_laws.keeps (endpoint_at d k) t by ∙ sym (like_at (like_tick d t) k))) (like_tick d t)

  -- this stands there afterwards
  pub step_at : Live d t k → endpoint_at (acted_of does t k d).lent k ≡ does.endpoint
  step_at live =
      placed_here (clock_step t d) k does.endpoint (step_tidy (endpoint_at d k) t by (tidy_at d k))
      (rw (like_length (like_tick d t)) live.within)

-- ---- every call
-- a call for the connection at k, and the same on its endpoint
pub data For (d : Lent) : Call → S.Call → ℕ → Type 0 where
  acts : (a : Act) (k : ℕ) → For d (act a k) (S.act a) k
  sends : (k : ℕ) (value : List ℕ) → For d (send k value) (S.send value) k
  delivers : (s : List ℕ) (f : Fields) (from to k : ℕ) → reading_of s ≡ Ok (frame_with f from to)
      → place_of f.connection d ≡ k
      → For d (deliver s) (S.deliver f (slice from to s)) k

-- a call that is no connection's is refused, or nothing arrived
pub data Still : Call → Answer → Type 0 where
  refused : {c : Call} {a : Answer} → is_done a ≡ false → Still c a
  empty : {s : List ℕ} {a : Answer} → eqb (length s) 0 ≡ true → Still (deliver s) a

-- what a call comes to: the clock step, and that is all; a show of the connection at k; or that connection's step
pub data Reach (d : Lent) (t room : ℕ) : Call → Type 0 where
  nowhere : {c : Call} (a : Answer) (x : Option ℕ) → Still c a
      → call_in d t room c ≡ result a x nothing (after_clock t d) → Reach d t room c
  showing : (k : ℕ) → call_in d t room (show k) ≡ shown_in (after_tick (endpoint_at d k) t) t k d
      → Reach d t room (show k)
  stepping : {c : Call} (by : S.Call) (k : ℕ) → For d c by k → call_in d t room c ≡ acted_of (does d t by k) t k d
      → Live d t k → Reach d t room c

-- refused by 1, 2 or what stands after them
not_done : (r w s : Bool) (a : Reason) → is_done (admit r w s (Err (Dropped a))) ≡ false
not_done false w s a = refl
not_done true true s a = refl
not_done true false true a = refl
not_done true false false a = refl

module _ (d : Lent) (t room : ℕ) where
  on_entry_law : {c : Call} (by : S.Call) (absent : Reason) (short : Bool) (k : ℕ) → For d c by k
      → call_in d t room c ≡ on_entry (λ e. S.step_of e t by) absent d t short k → Reach d t room c
  on_entry_law by absent short k f is =
      let a = before_entry absent d t short k in
      let o = acted_of (does d t by k) t k d in
      bcase (is_done a)
      (λ h. stepping by k f (is ∙ cond_true (is_done a) o (refused_of a t k d) h) (live absent d t short k h))
      (λ h. nowhere a (refused_entry a k) (refused h) (is ∙ cond_false (is_done a) o (refused_of a t k d) h))

  show_reach : (k : ℕ) → Reach d t room (show k)
  show_reach k =
      let a = before_show d t (is_short room) k in
      let o = shown_in (after_tick (endpoint_at d k) t) t k d in
      bcase (is_done a) (λ h. showing k (cond_true (is_done a) o (refused_of a t k d) h))
      (λ h. nowhere a (refused_entry a k) (refused h) (cond_false (is_done a) o (refused_of a t k d) h))

  module _ (s : List ℕ) where
    by_reading_law : deliver_in d t room s ≡ by_reading d t room s (reading_of s) → (r : Reading) → reading_of s ≡ r
        → Reach d t room (deliver s)
    by_reading_law arrived (Err fault) h =
        let a = admit_in d t (is_short room) (Err (Dropped (reason_of fault))) in
        nowhere a (refused_entry a 0)
        (refused (not_done (is_reading d.gateway t) (is_shorter d) (is_short room) (reason_of fault)))
        (arrived ∙ ap (by_reading d t room s) h)
    by_reading_law arrived (Ok read) h =
        on_entry_law (S.deliver read.fields (slice read.start read.end s)) R.Unknown (is_short room) (place_of read.fields.connection d)
        (delivers s read.fields read.start read.end (place_of read.fields.connection d) h refl) (arrived ∙ ap (by_reading d t room s) h)

    deliver_reach : Reach d t room (deliver s)
    deliver_reach =
        let none = empty_cycle d t (is_short room) in
        let a = admit_in d t (is_short room) (Ok tt) in
        bcase (eqb (length s) 0)
        (λ z. nowhere a (refused_entry a 0) (empty z)
        (cond_true (eqb (length s) 0) none (by_reading d t room s (reading_of s)) z))
        (λ z. by_reading_law (cond_false (eqb (length s) 0) none (by_reading d t room s (reading_of s)) z) (reading_of s) refl)

  pub reach : (c : Call) → Reach d t room c
  reach (act a k) = on_entry_law (S.act a) R.Entry (lends room a) k (acts a k) (act_in_law d t room a k)
  reach (send k value) = on_entry_law (S.send value) R.Entry (is_short room) k (sends k value) refl
  reach (deliver s) = deliver_reach s
  reach (show k) = show_reach k
