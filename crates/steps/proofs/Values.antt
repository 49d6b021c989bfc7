-- No call but a show looks at the bytes of the value held: each of its ends keeps the value, wipes it or fills it.
use mathlib.Core.Path.{◌≡◌, refl, sym, ap, ◌∙◌}
use Rattle.std.specs.Prelude.{Err, Ok}
use Rattle.std.specs.Prelude.{None}
use mathlib.Core.Bool.{Bool, true, false, ◌&&◌, not, cond, beq, true≢false}
use mathlib.Core.List.{List}
use Prim.Native.Nat.{ℕ, ◌/◌}
use lib.ListN.{length}
use Rattle.frame.specs.declared.Command.TheVariants as K
use Rattle.frame.specs.declared.Fields.{Fields}
use Rattle.frame.specs.Control.{is}
use Rattle.endpoint.specs.declared.State.TheVariants.{Close, Refresh}
use Rattle.endpoint.specs.Endpoint.{Endpoint, words_of, value_of}
use Rattle.endpoint.specs.declared.Reason.{Reason}
use Rattle.endpoint.specs.declared.Reason.TheVariants as R
use Rattle.endpoint.specs.Answers.{Answer}
use Rattle.endpoint.specs.declared.Refusal.TheVariants.{Dropped, Ended}
use Rattle.endpoint.specs.Answers.{record_faults, first_of, is_done, is_dropped, left_by}
use Rattle.endpoint.specs.Table.{is_state, is_terminated}
use Rattle.endpoint.specs.Due.{is_command_due, is_held_back, may_queue, may_queue_read, refresh_due}
use Rattle.errors.specs.Reading.{is_record, more_follows}
use Rattle.endpoint.specs.Time.{age_of, counted_age, no_value, Tidy, ended_of, after_tick, is_expired}
use Rattle.endpoint.specs.Updates.{holding, with_pending, with_measured, with_answered, with_words, with_error_info}
use Rattle.endpoint.specs.Updates.{with_not_ready}
use Rattle.transitions.specs.ByCall.{started_of, restarted_of, requested_of, refresh_sent_of, stopped_of, invoked_of}
use Rattle.transitions.specs.ByCall.{measurement_sent_of, read_queued_of, write_queued_of}
use Rattle.transitions.specs.ByFrame.{refreshed_of, deferred_of, advanced_of, reported_of, taken_of, ended_by, confirmed_of}
use Rattle.transitions.specs.ByFrame.{remeasured_of, adjusted_of, due_again_of, performed_of, heard_of}
use Rattle.steps.specs.Frames.{Written, nothing, frame, setup_data, due_data, request_fields, measurement_fields}
use Rattle.steps.specs.Frames.{refresh_fields, padded_of}
use Rattle.steps.specs.Calls.{Outcome, outcome, hand_faults, command_data, send_faults, send_of, stop_faults}
use Rattle.steps.specs.Calls.{is_value_due, disconnect_of, kept_record}
use Rattle.steps.specs.Deliveries.{refresh_faults, request_faults, reply_faults, take_refresh, take_request}
use Rattle.steps.specs.Deliveries.{take_reply, deliver_of}
use Rattle.steps.specs.Steps.{Act, start, stop, restart, set_not_ready, set_result, clear_result, set_record}
use Rattle.steps.specs.Steps.{clear_record, invoke, read_error, write_error, act_of}
use Rattle.steps.specs.Steps.{Call, act, send, deliver, show, step_of}
use Rattle.steps.specs.Values.{with_bytes, is_show, accepts, body_in, bytes_after, ValueLeft, ValueLaws}
use Rattle.steps.proofs.Dispatch.{cond_false}
use Rattle.steps.proofs.Keeps.{bcase}

-- a refusal accepts nothing
refuses : (k : Call) (r : Reason) → accepts k (Err (Dropped r)) ≡ false
refuses (act a) r = refl
refuses (send value) r = refl
refuses (deliver f body) r = refl
refuses show r = refl

module _ (e : Endpoint) (b : List ℕ) (h : Tidy (with_bytes b e)) where
  -- what a call comes to on e, and where e holds the bytes b
  abbrev Left : Call → Outcome → Outcome → Type 0
  Left k o o' = ValueLeft e k b o o'

  -- ---- what an end of a call does to the value
  kept : {k : Call} (a : Answer) (x : Endpoint) (w : Written) → accepts k a ≡ false → x.value.taken ≡ e.value.taken
      → Left k (outcome a x w) (outcome a (with_bytes b x) w)
  kept {k} a x w n v =
      let q : b ≡ bytes_after k (outcome a x w) b = bcase x.value.taken (λ p. rw (p, n))
      (λ p. rw p (h (sym v ∙ p))) in
      let q' = ap (λ (l : List ℕ). with_bytes l x) q in
      record { answered = refl; writes = refl; left = q'; taken = λ p n. sym v ∙ p }

  wiped : {k : Call} (a : Answer) (x : Endpoint) (w : Written)
      → Left k (outcome a (holding no_value x) w) (outcome a (holding no_value x) w)
  wiped a x w =
      record { answered = refl; writes = refl; left = refl; taken = λ p n. absurd (true≢false (sym p)) }

  filled : {k : Call} (age : ℕ) (x : Endpoint) (w : Written) → accepts k (Ok tt) ≡ true
      → let y = holding (value_of true age (padded_of (body_in k))) x in
      Left k (outcome (Ok tt) y w) (outcome (Ok tt) y w)
  filled age x w y =
      record { answered = refl; writes = refl; left = rw y; taken = λ p n. absurd (true≢false (sym y ∙ n)) }

  -- ---- which of its ends a call comes to: by a test, also of what it leaves, and by its answer
  either : {k : Call} {x x' y y' : Outcome} (c : Bool) → Left k x x' → Left k y y' → Left k (cond c x y) (cond c x' y')
  either true p q = p
  either false p q = q

  leaves : {k : Call} {x x' y y' : Endpoint} {w : Written} (c : Bool) → Left k (outcome (Ok tt) x w) (outcome (Ok tt) x' w)
      → Left k (outcome (Ok tt) y w) (outcome (Ok tt) y' w)
      → Left k (outcome (Ok tt) (cond c x y) w) (outcome (Ok tt) (cond c x' y') w)
  leaves true p q = p
  leaves false p q = q

  by_answer : {k : Call} (a : Answer) (x : Endpoint) {y y' : Endpoint} {w : Written}
      → Left k (outcome (Ok tt) y w) (outcome (Ok tt) y' w)
      → Left k (outcome a (left_by a e (holding no_value x) y) w)
      (outcome a (left_by a (with_bytes b e) (holding no_value x) y') w)
  by_answer (Ok _) x p = p
  by_answer {k} (Err (Dropped r)) x p = kept (Err (Dropped r)) e _ (refuses k r) refl
  by_answer (Err (Ended r)) x p = wiped (Err (Ended r)) x _

  module _ (t : ℕ) where
    act_left : (a : Act) → Left (act a) (act_of e t a) (act_of (with_bytes b e) t a)
    act_left start =
        either (not e.settings.slave && is_state e.state Close) (wiped (Ok tt) (started_of e t) nothing)
        (kept (Err (Dropped R.Turn)) e nothing refl refl)
    act_left stop =
        let a = first_of (stop_faults e t) in
        either (is_dropped a) (kept a e nothing refl refl) (wiped (Ok tt) (stopped_of e t) (disconnect_of e t))
    act_left (restart number) =
        either (is_terminated e.state) (wiped (Ok tt) (restarted_of e number) nothing)
        (kept (Err (Dropped R.Turn)) e nothing refl refl)
    act_left (set_not_ready r) =
        either e.settings.slave (kept (Ok tt) (with_not_ready r e) nothing refl refl)
        (kept (Err (Dropped R.Turn)) e nothing refl refl)
    act_left (set_result body) =
        let a = first_of (hand_faults e.settings.slave (length body)) in
        either (is_done a) (kept (Ok tt) (with_words (words_of (length body / 4) (padded_of body)) e) nothing refl refl)
        (kept a e nothing refl refl)
    act_left clear_result =
        either e.settings.slave (kept (Ok tt) (with_words (words_of 0 e.words.bytes) e) nothing refl refl)
        (kept (Err (Dropped R.Turn)) e nothing refl refl)
    act_left (invoke word bytes) =
        let handed = command_data word bytes in
        let a = first_of (hand_faults (may_queue e) (length handed)) in
        either (is_done a) (kept (Ok tt) (invoked_of e (words_of (length handed / 4) (padded_of handed))) nothing refl refl)
        (kept a e nothing refl refl)
    act_left (set_record body) =
        let a = first_of (record_faults (not e.settings.slave) (not (is_record body))) in
        either (is_done a) (kept (Ok tt) (with_error_info (kept_record body) e) nothing refl refl) (kept a e nothing refl refl)
    act_left clear_record =
        either e.settings.slave (kept (Ok tt) (with_error_info (words_of 0 e.errorinfo.bytes) e) nothing refl refl)
        (kept (Err (Dropped R.Turn)) e nothing refl refl)
    act_left read_error =
        either (may_queue_read e) (kept (Ok tt) (read_queued_of e) nothing refl refl)
        (kept (Err (Dropped R.Turn)) e nothing refl refl)
    act_left (write_error body) =
        let a = first_of (record_faults (not (may_queue e)) (not (is_record body))) in
        either (is_done a) (kept (Ok tt) (write_queued_of e (kept_record body)) nothing refl refl) (kept a e nothing refl refl)

    send_left : (value : List ℕ) → Left (send value) (send_of e t value) (send_of (with_bytes b e) t value)
    send_left value =
        let a = first_of (send_faults e t (length value)) in
        either (is_done a)
        (either (is_state e.state Refresh)
        (either (is_value_due e t) (kept (Ok tt) (refresh_sent_of e t) (frame (refresh_fields e t) value) refl refl)
        (kept (Ok tt) (measurement_sent_of e (refresh_due e t) t)
        (frame (measurement_fields e (refresh_due e t) t) (setup_data e.settings (refresh_due e t))) refl refl))
        (kept (Ok tt) (requested_of e t) (frame (request_fields e t) (due_data e)) refl refl))
        (by_answer a (ended_of e) (kept (Ok tt) e nothing refl refl))

    module _ (f : Fields) (body : List ℕ) where
      refresh_left : is f.command K.Refresh ≡ true
          → Left (deliver f body) (take_refresh e t f.subconnection f.timestamp body)
          (take_refresh (with_bytes b e) t f.subconnection f.timestamp body)
      refresh_left y =
          by_answer (first_of (refresh_faults e t f.subconnection f.timestamp (length body))) (ended_of e)
          (filled (counted_age (age_of e t f.timestamp)) (refreshed_of e t f.timestamp (padded_of body)) nothing y)

      abbrev more : Bool
      more = more_follows body

      module _ (n : is f.command K.Refresh ≡ false) where
        taken_left : (w : Written)
            → Left (deliver f body) (outcome (Ok tt) (taken_of e t f more) w)
            (outcome (Ok tt) (taken_of (with_bytes b e) t f more) w)
        taken_left w =
            leaves (is f.command K.Disconnect) (wiped (Ok tt) (ended_by e f.timestamp) w)
            (leaves (is f.command K.WriteErrorInfo) (wiped (Ok tt) (reported_of e f.timestamp more) w)
            (leaves (is_state e.state Refresh)
            (leaves (is f.command K.RefreshMo) (kept (Ok tt) (remeasured_of e t f) w n refl)
            (kept (Ok tt) (adjusted_of e f) w n refl))
            (leaves (is_held_back e f.command) (kept (Ok tt) (deferred_of e t f) w n refl)
            (wiped (Ok tt) (advanced_of e t f) w))))

        heard_left : (w : Written)
            → Left (deliver f body) (outcome (Ok tt) (heard_of e t f) w) (outcome (Ok tt) (heard_of (with_bytes b e) t f) w)
        heard_left w =
            leaves (is_state e.state Refresh)
            (leaves (is f.command K.RefreshMo)
            (kept (Ok tt) (with_pending None (with_measured t (with_answered true e))) w n refl)
            (kept (Ok tt) (with_pending None (with_answered false e)) w n refl))
            (leaves f.busy (kept (Ok tt) (due_again_of e t) w n refl)
            (leaves (is_command_due e) (kept (Ok tt) (performed_of e t) w n refl) (wiped (Ok tt) (confirmed_of e t f) w)))

        request_left : Left (deliver f body) (take_request e t f body) (take_request (with_bytes b e) t f body)
        request_left = by_answer (first_of (request_faults e t f body)) (ended_by e f.timestamp) (taken_left _)

        reply_left : Left (deliver f body) (take_reply e t f body) (take_reply (with_bytes b e) t f body)
        reply_left = by_answer (first_of (reply_faults e t f body)) (ended_of e) (heard_left _)

      deliver_left : Left (deliver f body) (deliver_of e t f body) (deliver_of (with_bytes b e) t f body)
      deliver_left =
          either (beq f.application e.settings.slave) (kept (Err (Dropped R.Echo)) e nothing refl refl)
          (bcase (is f.command K.Refresh) (λ y. rw y (refresh_left y))
          (λ n. rw n (either e.settings.slave (request_left n) (reply_left n))))

pub values : (e : Endpoint) (t : ℕ) (k : Call) (b : List ℕ) → is_show k ≡ false → Tidy (with_bytes b e)
    → ValueLeft e k b (step_of e t k) (step_of (with_bytes b e) t k)
values e t (act a) b s h = act_left e b h t a
values e t (send value) b s h = send_left e b h t value
values e t (deliver f body) b s h = deliver_left e b h t f body
values e t show b s h = absurd (true≢false s)

-- ---- tidy: the bytes left are those of a wiped value where none is taken
told_tidy : (e : Endpoint) (t : ℕ) (k : Call) → is_show k ≡ false → Tidy e → Tidy (step_of e t k).endpoint
told_tidy e t k s h n =
    ap (λ (x : Endpoint). x.value.bytes) (values e t k e.value.bytes s h).left ∙ cond_false _ _ _ n

pub step_tidy : (e : Endpoint) (t : ℕ) (k : Call) → Tidy e → Tidy (step_of e t k).endpoint
step_tidy e t (act a) h = told_tidy e t (act a) refl h
step_tidy e t (send value) h = told_tidy e t (send value) refl h
step_tidy e t (deliver f body) h = told_tidy e t (deliver f body) refl h
step_tidy e t show h = h

pub end_tidy : (e : Endpoint) → Tidy (ended_of e)
end_tidy e n = refl

pub tick_tidy : (e : Endpoint) (t : ℕ) → Tidy e → Tidy (after_tick e t)
tick_tidy e t h = bcase (is_expired e t) (λ q. rw q (end_tidy e)) (λ q. rw q h)

pub value_laws : ValueLaws
value_laws = record { values = values; step_tidy = step_tidy; end_tidy = end_tidy; tick_tidy = tick_tidy }
