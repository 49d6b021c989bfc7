-- What a user handed over: it does not change what a step leaves, but for the bytes; and how long a reply is.
use mathlib.Core.Path.{◌≡◌, refl}
use Rattle.std.specs.Prelude.{Err, Ok}
use mathlib.Core.Bool.{Bool, true, false, ◌&&◌, cond}
use mathlib.Core.List.{List}
use Prim.Native.Nat.{ℕ, ◌%◌, ◌≤◌}
use native.Mathlib.Omega.{arith}
use lib.Dec.{eqb, leb}
use lib.ListN.{length}
use borrow.Author.Tests.{leb-true, eqb-true, not-false}
use mathlib.Mathlib.Data.Bool.Basic.{and_elim_left as and_left, and_elim_right as and_right}
use Rattle.frame.specs.declared.Command.TheVariants as K
use Rattle.frame.specs.declared.Fields.{Fields}
use Rattle.frame.specs.Control.{is}
use Rattle.frame.specs.Writing.{is_body_length}
use Rattle.endpoint.specs.Answers.{Answer}
use Rattle.endpoint.specs.declared.Refusal.TheVariants.{Dropped, Ended}
use Rattle.endpoint.specs.declared.State.TheVariants.{Refresh}
use Rattle.endpoint.specs.Endpoint.{Endpoint, core_of}
use Rattle.endpoint.specs.Table.{is_state}
use Rattle.endpoint.specs.Due.{is_command_due, is_held_back}
use Rattle.endpoint.specs.Time.{ended_of}
use Rattle.transitions.specs.ByFrame.{refreshed_of, ended_by, taken_of, heard_of}
use Rattle.errors.specs.Reading.{is_record}
use Rattle.endpoint.specs.Answers.{first_of, left_by}
use Rattle.steps.specs.Frames.{padded_of}
use Rattle.steps.specs.Deliveries.{reply_faults}
use Rattle.steps.specs.Frames.{due_data}
use Rattle.steps.specs.Values.{with_handed}
use Rattle.steps.proofs.Firsts.{first_done}
use Rattle.steps.proofs.Keeps.{bcase}
use Rattle.steps.proofs.Whole.{record_bytes_law, due_length}

-- S-Data has at most 100 bytes
pub body_le : (n : ℕ) → is_body_length n ≡ true → n ≤ 100
body_le n h =
    leb-true n 100 (and_left (leb n 100) (eqb (n % 4) 0) (and_right (leb 4 n) (leb n 100 && eqb (n % 4) 0) h))

-- ---- the bytes held do not change what a step leaves, but for the bytes
module _ (e : Endpoint) (w x : List ℕ) (t : ℕ) (f : Fields) where
  abbrev held : Endpoint
  held = with_handed w x e

  taken_core : (more : Bool) → core_of (taken_of e t f more) ≡ core_of (taken_of held t f more)
  taken_core more =
      bcase (is f.command K.Disconnect) (λ h. rw h)
      (λ h. rw h (bcase (is f.command K.WriteErrorInfo) (λ i. rw i)
      (λ i. rw i (bcase (is_state e.state Refresh)
      (λ r. rw r (bcase (is f.command K.RefreshMo) (λ b. rw b) (λ b. rw b)))
      (λ r. rw r (bcase (is_held_back e f.command) (λ b. rw b) (λ b. rw b)))))))

  pub left_core : (more done : Bool) → core_of (cond done (taken_of e t f more) (ended_by e f.timestamp))
      ≡ core_of (cond done (taken_of held t f more) (ended_by held f.timestamp))
  left_core more true = taken_core more
  left_core more false = refl

  pub heard_core : core_of (heard_of e t f) ≡ core_of (heard_of held t f)
  heard_core =
      bcase (is_state e.state Refresh) (λ r. rw r (bcase (is f.command K.RefreshMo) (λ b. rw b) (λ b. rw b)))
      (λ r. rw r (bcase f.busy (λ h. rw h) (λ h. rw h (bcase (is_command_due e) (λ b. rw b) (λ b. rw b)))))

pub refused_core : (e : Endpoint) (w x : List ℕ) (a : Answer) → core_of (left_by a e (ended_of e) e)
    ≡ core_of (left_by a (with_handed w x e) (ended_of (with_handed w x e)) (with_handed w x e))
refused_core e w x (Ok _) = refl
refused_core e w x (Err (Dropped r)) = refl
refused_core e w x (Err (Ended r)) = refl

pub refresh_core : (e : Endpoint) (w x : List ℕ) (t stamp : ℕ) (body : List ℕ) (a : Answer)
    → core_of (left_by a e (ended_of e) (refreshed_of e t stamp (padded_of body)))
    ≡ core_of (left_by a (with_handed w x e) (ended_of (with_handed w x e))
    (refreshed_of (with_handed w x e) t stamp (padded_of body)))
refresh_core e w x t stamp body (Ok _) = refl
refresh_core e w x t stamp body (Err (Dropped r)) = refl
refresh_core e w x t stamp body (Err (Ended r)) = refl

-- a reply that is done has no more than 100 bytes
pub reply_le : (e : Endpoint) (t : ℕ) (f : Fields) (body : List ℕ) → first_of (reply_faults e t f body) ≡ Ok tt → length body ≤ 100
reply_le e t f body h =
    let n = length (due_data e) in
    let d = first_done (reply_faults e t f body) h in
    bcase (is f.command K.ReadErrorInfo)
    (λ i.
    let l = (record_bytes_law body (not-false (is_record body) (rw i at d.norecord))).0 in omega (arith, l))
    (λ i.
    let q : length body ≡ n = eqb-true (length body) n (not-false (eqb (length body) n) (rw i at d.width)) in
    rw q (body_le n (due_length e)))
