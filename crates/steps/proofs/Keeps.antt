-- A send, a stop and a deliver keep the settings and what was handed over; a stop and a deliver the count of requests.
-- The other acts: Quiet, and HandedKept.
use mathlib.Core.Path.{◌≡◌, refl, ap, ◌∙◌}
use Rattle.std.specs.Prelude.{Err, Ok}
use Rattle.std.specs.Prelude.{None}
use mathlib.Core.Bool.{Bool, true, false, cond, beq}
use mathlib.Core.List.{List}
use Prim.Native.Nat.{ℕ}
use lib.ListN.{length}
use Rattle.frame.specs.declared.Command.TheVariants as K
use Rattle.frame.specs.declared.Fields.{Fields}
use Rattle.frame.specs.Control.{is}
use Rattle.endpoint.specs.declared.Settings.{Settings}
use Rattle.endpoint.specs.Endpoint.{Endpoint, Words}
use Rattle.endpoint.specs.Answers.{Answer}
use Rattle.endpoint.specs.declared.Refusal.TheVariants.{Dropped, Ended}
use Rattle.endpoint.specs.declared.State.TheVariants.{Refresh}
use Rattle.endpoint.specs.Answers.{first_of, is_done, is_dropped, left_by}
use Rattle.endpoint.specs.Table.{is_state}
use Rattle.endpoint.specs.Time.{ended_of}
use Rattle.endpoint.specs.Updates.{with_pending, with_measured, with_answered}
use Rattle.endpoint.specs.Due.{is_command_due, is_held_back}
use Rattle.errors.specs.Reading.{more_follows}
use Rattle.transitions.specs.ByFrame.{deferred_of, answered_of, reported_of, taken_of, ended_by, advanced_of, refreshed_of}
use Rattle.transitions.specs.ByFrame.{remeasured_of, adjusted_of, synchronized_of, confirmed_of, due_again_of, performed_of}
use Rattle.transitions.specs.ByFrame.{setup_heard_of, measurement_heard_of, heard_of}
use Rattle.steps.specs.Frames.{padded_of}
use Rattle.steps.specs.Calls.{Outcome, refused, is_value_due, send_faults, send_of, stop_faults, stop_of}
use Rattle.steps.specs.Deliveries.{request_faults, refresh_faults, reply_faults, take_refresh, take_request}
use Rattle.steps.specs.Deliveries.{take_reply, deliver_of}
use Rattle.steps.proofs.Dispatch.{deliver_echo, deliver_refresh, deliver_request, deliver_reply}

-- by cases on a test
pub bcase : {A : Type 0} (b : Bool) → (b ≡ true → A) → (b ≡ false → A) → A
bcase true p q = p refl
bcase false p q = q refl

-- the settings, the words and the error record; and the count of requests
abbrev pub Lasting : Type 0
Lasting = Settings × Words × Words

abbrev pub lasting : Endpoint → Lasting
lasting e = (e.settings, e.words, e.errorinfo)

abbrev pub Kept : Type 0
Kept = Settings × Words × Words × ℕ

abbrev pub kept : Endpoint → Kept
kept e = (e.settings, e.words, e.errorinfo, e.setup.requests)

lasts : (e x : Endpoint) → kept x ≡ kept e → lasting x ≡ lasting e
lasts e x k = ap (λ (s : Kept). let l : Lasting = (s.0, s.1, s.2) in l) k

left_keeps : (s : Kept) (a : Answer) (x y z : Endpoint) → kept x ≡ s → kept y ≡ s → kept z ≡ s
    → kept (left_by a x y z) ≡ s
left_keeps s (Ok _) x y z p q r = r
left_keeps s (Err (Dropped n)) x y z p q r = p
left_keeps s (Err (Ended n)) x y z p q r = q

either_keeps : (s : Kept) (b : Bool) (x y : Endpoint) → kept x ≡ s → kept y ≡ s → kept (cond b x y) ≡ s
either_keeps s true x y p q = p
either_keeps s false x y p q = q

module _ (e : Endpoint) (t : ℕ) where
  pub refused_keeps : (a : Answer) → kept (refused e a).endpoint ≡ kept e
  refused_keeps a = left_keeps (kept e) a e (ended_of e) e refl refl refl

  pub send_keeps : (value : List ℕ) → lasting (send_of e t value).endpoint ≡ lasting e
  send_keeps value =
      let a = first_of (send_faults e t (length value)) in
      bcase (is_done a) (λ h. rw h (bcase (is_state e.state Refresh)
      (λ k. rw k (bcase (is_value_due e t) (λ v. rw v) (λ v. rw v))) (λ k. rw k)))
      (λ h. rw h (lasts e (refused e a).endpoint (refused_keeps a)))

  pub stop_keeps : kept (stop_of e t).endpoint ≡ kept e
  stop_keeps = bcase (is_dropped (first_of (stop_faults e t))) (λ h. rw h) (λ h. rw h)

  pub deliver_keeps : (f : Fields) (body : List ℕ) → kept (deliver_of e t f body).endpoint ≡ kept e
  deliver_keeps f body =
      let s = kept e in
      let more = more_follows body in
      let refreshing = is_state e.state Refresh in
      let later = cond refreshing (synchronized_of e t f) (answered_of e t f) in
      let p : kept (take_refresh e t f.subconnection f.timestamp body).endpoint ≡ s =
      left_keeps s (first_of (refresh_faults e t f.subconnection f.timestamp (length body))) e (ended_of e)
      (refreshed_of e t f.timestamp (padded_of body)) refl refl refl in
      let q : kept (take_request e t f body).endpoint ≡ s =
      left_keeps s (first_of (request_faults e t f body)) e (ended_by e f.timestamp) (taken_of e t f more) refl refl
      (either_keeps s (is f.command K.Disconnect) (ended_by e f.timestamp)
      (cond (is f.command K.WriteErrorInfo) (reported_of e f.timestamp more) later) refl
      (either_keeps s (is f.command K.WriteErrorInfo) (reported_of e f.timestamp more) later refl
      (either_keeps s refreshing (synchronized_of e t f) (answered_of e t f)
      (either_keeps s (is f.command K.RefreshMo) (remeasured_of e t f) (adjusted_of e f) refl refl)
      (either_keeps s (is_held_back e f.command) (deferred_of e t f) (advanced_of e t f) refl refl)))) in
      let r : kept (take_reply e t f body).endpoint ≡ s =
      left_keeps s (first_of (reply_faults e t f body)) e (ended_of e) (heard_of e t f) refl refl
      (either_keeps s refreshing (measurement_heard_of e t f) (setup_heard_of e t f)
      (either_keeps s (is f.command K.RefreshMo) (with_pending None (with_measured t (with_answered true e)))
      (with_pending None (with_answered false e)) refl refl)
      (either_keeps s f.busy (due_again_of e t) (cond (is_command_due e) (performed_of e t) (confirmed_of e t f)) refl
      (either_keeps s (is_command_due e) (performed_of e t) (confirmed_of e t f) refl refl))) in
      let of : Outcome → Kept = λ o. kept o.endpoint in
      bcase (beq f.application e.settings.slave) (λ h. ap of (deliver_echo e t f body h))
      (λ h. bcase (is f.command K.Refresh) (λ k. ap of (deliver_refresh e t f body h k) ∙ p)
      (λ k. bcase e.settings.slave (λ m. ap of (deliver_request e t f body h k m) ∙ q)
      (λ m. ap of (deliver_reply e t f body h k m) ∙ r)))
