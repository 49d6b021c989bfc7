-- No call but a send and a deliver where S-RefreshReady is due looks at the bytes of what was handed over; and each leaves
-- them, or what it hands over.
use mathlib.Core.Path.{◌≡◌, refl, sym, ap, subst}
use Rattle.std.specs.Prelude.{Err, Ok}
use Rattle.std.specs.Prelude.{None}
use mathlib.Core.Bool.{Bool, true, false, ◌&&◌, ◌||◌, not, cond, and-false, beq, true≢false}
use mathlib.Core.List.{List}
use Prim.Native.Nat.{ℕ}
use lib.Dec.{eqb}
use lib.ListN.{length}
use Rattle.words.specs.Bytes.{same}
use Rattle.errors.specs.Reading.{is_record, more_follows}
use Rattle.frame.specs.declared.Command.TheVariants as K
use Rattle.frame.specs.declared.Fields.{Fields}
use Rattle.frame.specs.Control.{is}
use Rattle.endpoint.specs.declared.State.{State}
use Rattle.endpoint.specs.declared.State.TheVariants.{Close, Starting, EstablishPending, Establish, ParamVerify}
use Rattle.endpoint.specs.declared.State.TheVariants.{FuncRunning, RefreshPending, Refresh, Terminate}
use Rattle.endpoint.specs.declared.State.TheVariants.{TerminateMore}
use Rattle.endpoint.specs.Endpoint.{Endpoint, words_of}
use Rattle.endpoint.specs.declared.Reason.TheVariants as R
use Rattle.endpoint.specs.Answers.{Answer}
use Rattle.endpoint.specs.declared.Refusal.TheVariants.{Dropped, Ended}
use Rattle.endpoint.specs.Answers.{record_faults, setup_faults, first_of, is_done, is_dropped, is_ended, left_by}
use Rattle.endpoint.specs.Table.{is_state, is_terminated, request_of, next_of, is_no}
use Rattle.endpoint.specs.Due.{is_waiting, is_command_due, answers_to, is_held_back, may_queue, may_queue_read}
use Rattle.endpoint.specs.Time.{ended_of}
use Rattle.endpoint.specs.Updates.{with_pending, with_measured, with_answered, with_words, with_error_info, with_not_ready}
use Rattle.transitions.specs.ByCall.{started_of, restarted_of, stopped_of, read_queued_of}
use Rattle.transitions.specs.ByFrame.{refreshed_of, deferred_of, advanced_of, answered_of, reported_of, taken_of, ended_by}
use Rattle.transitions.specs.ByFrame.{remeasured_of, adjusted_of, synchronized_of, due_again_of, performed_of, confirmed_of}
use Rattle.transitions.specs.ByFrame.{setup_heard_of, measurement_heard_of, heard_of}
use Rattle.steps.specs.Frames.{Written, nothing, frame, due_data, request_fields, reply_fields, is_busy, reply_data}
use Rattle.steps.specs.Frames as W
use Rattle.steps.specs.Frames.{padded_of}
use Rattle.steps.specs.Calls.{Outcome, outcome, dropped, hand_faults, command_data, send_faults, send_of}
use Rattle.steps.specs.Calls.{is_value_due, stop_faults, disconnect_of}
use Rattle.steps.specs.Deliveries.{refresh_faults, request_faults, is_result, lacks_number, replies_record}
use Rattle.steps.specs.Deliveries.{is_reply_turn, is_awaited}
use Rattle.steps.specs.Deliveries.{reply_faults, take_refresh, take_request, take_reply, deliver_of}
use Rattle.steps.specs.Steps.{Act, start, stop, restart, set_not_ready, set_result, clear_result, set_record}
use Rattle.steps.specs.Steps.{clear_record, invoke, read_error, write_error, act_of}
use Rattle.steps.specs.Steps.{Call, act, send, deliver, show, step_of}
use Rattle.steps.specs.Values.{with_handed, is_readying, looks, words_after, record_after, HandedLeft, HandedLaws}
use Rattle.steps.proofs.Dispatch.{is_command}
use Rattle.steps.proofs.Keeps.{bcase, Lasting, Kept, send_keeps, deliver_keeps}

-- ---- where S-RefreshReady is not due, a request carries nothing of the user's, and none is answered with it
plain_due : (s : State) → (is (request_of s) K.InvokeFunc ≡ false) × (is (request_of s) K.WriteErrorInfo ≡ false)
plain_due Close = (refl, refl)
plain_due Starting = (refl, refl)
plain_due EstablishPending = (refl, refl)
plain_due Establish = (refl, refl)
plain_due ParamVerify = (refl, refl)
plain_due FuncRunning = (refl, refl)
plain_due RefreshPending = (refl, refl)
plain_due Refresh = (refl, refl)
plain_due Terminate = (refl, refl)
plain_due TerminateMore = (refl, refl)

no_turn : (s : State) → is (request_of s) K.RefreshReady ≡ false
    → (is_no (next_of K.InvokeFunc s) ≡ true) × (is_no (next_of K.ReadErrorInfo s) ≡ true)
no_turn Close h = (refl, refl)
no_turn Starting h = (refl, refl)
no_turn EstablishPending h = (refl, refl)
no_turn Establish h = (refl, refl)
no_turn ParamVerify h = absurd (true≢false h)
no_turn FuncRunning h = absurd (true≢false h)
no_turn RefreshPending h = (refl, refl)
no_turn Refresh h = (refl, refl)
no_turn Terminate h = (refl, refl)
no_turn TerminateMore h = (refl, refl)

module _ (e : Endpoint) (w x : List ℕ) where
  abbrev held : Endpoint → Endpoint
  held y = with_handed w x y

  -- what a call comes to on e, and where e holds the bytes w and x
  abbrev Left : Call → Outcome → Outcome → Type 0
  Left k o o' = HandedLeft k w x o o'

  either : {k : Call} {p p' q q' : Outcome} (c : Bool) → Left k p p' → Left k q q' → Left k (cond c p q) (cond c p' q')
  either true p q = p
  either false p q = q

  -- ---- acts
  stays : {k : Call} (a : Answer) (y : Endpoint) (v : Written) → words_after k a w ≡ w → record_after k a x ≡ x
      → Left k (outcome a y v) (outcome a (held y) v)
  stays a y v p q =
      record { answered = refl; writes = refl; left = λ i. with_handed (sym p i) (sym q i) y }

  -- an act that hands over, or is refused
  hands : {k : Act} {y y' : Endpoint} (a : Answer) → Left (act k) (outcome (Ok tt) y nothing) (outcome (Ok tt) y' nothing)
      → Left (act k) (cond (is_done a) (outcome (Ok tt) y nothing) (dropped e a))
      (cond (is_done a) (outcome (Ok tt) y' nothing) (dropped (held e) a))
  hands (Ok _) p = p
  hands (Err (Dropped r)) p = stays (Err (Dropped r)) e nothing refl refl
  hands (Err (Ended r)) p = stays (Err (Ended r)) e nothing refl refl

  -- a stop hands nothing over, whatever it is answered
  no_words : (a : Answer) → words_after (act stop) a w ≡ w
  no_words a = rw (and-false (is_done a))

  no_record : (a : Answer) → record_after (act stop) a x ≡ x
  no_record a = rw (and-false (is_done a))

  refused_turn : {k : Call} → words_after k (Err (Dropped R.Turn)) w ≡ w → record_after k (Err (Dropped R.Turn)) x ≡ x
      → Left k (dropped e (Err (Dropped R.Turn))) (dropped (held e) (Err (Dropped R.Turn)))
  refused_turn p q = stays (Err (Dropped R.Turn)) e nothing p q

  module _ (t : ℕ) where
    act_left : (a : Act) → Left (act a) (act_of e t a) (act_of (held e) t a)
    act_left start =
        either (not e.settings.slave && is_state e.state Close) (stays (Ok tt) (started_of e t) nothing refl refl)
        (refused_turn refl refl)
    act_left stop =
        let a = first_of (stop_faults e t) in
        either (is_dropped a) (stays a e nothing (no_words a) (no_record a))
        (stays (Ok tt) (stopped_of e t) (disconnect_of e t) refl refl)
    act_left (restart number) =
        either (is_terminated e.state) (stays (Ok tt) (restarted_of e number) nothing refl refl) (refused_turn refl refl)
    act_left (set_not_ready r) =
        either e.settings.slave (stays (Ok tt) (with_not_ready r e) nothing refl refl) (refused_turn refl refl)
    act_left (set_result body) =
        hands (first_of (hand_faults e.settings.slave (length body)))
        (record { answered = refl; writes = refl; left = refl })
    act_left clear_result =
        either e.settings.slave (stays (Ok tt) (with_words (words_of 0 e.words.bytes) e) nothing refl refl)
        (refused_turn refl refl)
    act_left (set_record body) =
        hands (first_of (record_faults (not e.settings.slave) (not (is_record body))))
        (record { answered = refl; writes = refl; left = refl })
    act_left clear_record =
        either e.settings.slave (stays (Ok tt) (with_error_info (words_of 0 e.errorinfo.bytes) e) nothing refl refl)
        (refused_turn refl refl)
    act_left (invoke word bytes) =
        hands (first_of (hand_faults (may_queue e) (length (command_data word bytes))))
        (record { answered = refl; writes = refl; left = refl })
    act_left read_error =
        either (may_queue_read e) (stays (Ok tt) (read_queued_of e) nothing refl refl) (refused_turn refl refl)
    act_left (write_error body) =
        hands (first_of (record_faults (not (may_queue e)) (not (is_record body))))
        (record { answered = refl; writes = refl; left = refl })

    -- ---- a send and a deliver: what they leave, by a test and by the answer
    by_test : (c : Bool) (y z : Endpoint) {y' z' : Endpoint} → y' ≡ held y → z' ≡ held z
        → cond c y' z' ≡ held (cond c y z)
    by_test true y z p q = p
    by_test false y z p q = q

    by_answer : (a : Answer) (y z v : Endpoint) {v' : Endpoint} → v' ≡ held v
        → left_by a (held y) (held z) v' ≡ held (left_by a y z v)
    by_answer (Ok _) y z v p = p
    by_answer (Err (Dropped r)) y z v p = refl
    by_answer (Err (Ended r)) y z v p = refl

    module _ (s : is_readying e ≡ false) where
      due_apart : due_data (held e) ≡ due_data e
      due_apart =
          let d : is_command_due e ≡ false = rw s (and-false (is_waiting e.setup.queue)) in
          let p = plain_due e.state in
          rw (d, p.0, p.1)

      send_left : (value : List ℕ) → Left (send value) (send_of e t value) (send_of (held e) t value)
      send_left value =
          let a = first_of (send_faults e t (length value)) in
          either (is_done a)
          (either (is_state e.state Refresh)
          (either (is_value_due e t) (record { answered = refl; writes = refl; left = refl })
          (record { answered = refl; writes = refl; left = refl }))
          (record { answered = refl; writes = ap (frame (request_fields e t)) due_apart; left = refl }))
          (record { answered = refl; writes = refl; left = by_answer a e (ended_of e) e refl })

      module _ (f : Fields) (body : List ℕ) where
        refused : Left (deliver f body) (dropped e (Err (Dropped R.Turn))) (dropped (held e) (Err (Dropped R.Turn)))
        refused = refused_turn refl refl

        refresh_left : Left (deliver f body) (take_refresh e t f.subconnection f.timestamp body)
            (take_refresh (held e) t f.subconnection f.timestamp body)
        refresh_left =
            let a = first_of (refresh_faults e t f.subconnection f.timestamp (length body)) in
            let next = refreshed_of e t f.timestamp (padded_of body) in
            record { answered = refl; writes = refl; left = by_answer a e (ended_of e) next refl }

        -- the reply to another request is neither a result nor the station's error record
        other_left : is f.command K.InvokeFunc ≡ false → is f.command K.ReadErrorInfo ≡ false
            → Left (deliver f body) (take_request e t f body) (take_request (held e) t f body)
        other_left n m =
            let a = first_of (request_faults e t f body) in
            let more = more_follows body in
            let ends = ended_by e f.timestamp in
            let reports = reported_of e f.timestamp more in
            let refreshing = is_state e.state Refresh in
            let later = cond refreshing (synchronized_of e t f) (answered_of e t f) in
            let same : reply_data (held e) f.command (is_done a) body ≡ reply_data e f.command (is_done a) body =
            rw (n, m) in
            record {
              answered = refl;
              writes = ap (λ (l : List ℕ). cond (is_dropped a || is f.command K.Disconnect) nothing
                  (frame (reply_fields e f (is_done a && is_busy e f.command (length body)) (is_ended a)) l)) same;
              left = by_answer a e ends (taken_of e t f more) (by_test (is f.command K.Disconnect) ends
                  (cond (is f.command K.WriteErrorInfo) reports later) refl
                  (by_test (is f.command K.WriteErrorInfo) reports later refl
                  (by_test refreshing (synchronized_of e t f) (answered_of e t f)
                  (by_test (is f.command K.RefreshMo) (remeasured_of e t f) (adjusted_of e f) refl refl)
                  (by_test (is_held_back e f.command) (deferred_of e t f) (advanced_of e t f) refl refl))));
            }

        -- no state takes it
        out_of_turn_law : is_no (next_of f.command e.state) ≡ true
            → Left (deliver f body) (take_request e t f body) (take_request (held e) t f body)
        out_of_turn_law h = rw h refused

        request_left : Left (deliver f body) (take_request e t f body) (take_request (held e) t f body)
        request_left =
            bcase (is f.command K.InvokeFunc)
            (λ i. out_of_turn_law (rw (is_command f.command K.InvokeFunc i) (no_turn e.state s).0))
            (λ n. bcase (is f.command K.ReadErrorInfo)
            (λ i. out_of_turn_law (rw (is_command f.command K.ReadErrorInfo i) (no_turn e.state s).1))
            (λ m. other_left n m))

        -- a reply, where the request due carries d
        reply_answer : List ℕ → Answer
        reply_answer d =
            first_of (setup_faults
            (not (f.ack && is_reply_turn e f.command))
            (lacks_number e f)
            (replies_record f.command && not (is_record body))
            (not (is f.command K.ReadErrorInfo || eqb (length body) (length d)))
            (not (answers_to e.setup.pending f.timestamp && is_awaited e t f))
            (f.error || not (is_result f || same body d)))

        reply_with : List ℕ → Outcome
        reply_with d =
            let a = reply_answer d in
            outcome a (left_by a (held e) (ended_of (held e)) (heard_of (held e) t f))
            (cond (is_done a && is_result f) (W.value body) nothing)

        reply_left : Left (deliver f body) (take_reply e t f body) (take_reply (held e) t f body)
        unfolding reply_answer reply_with
        reply_left =
            let a = first_of (reply_faults e t f body) in
            let next : heard_of (held e) t f ≡ held (heard_of e t f) =
            by_test (is_state e.state Refresh) (measurement_heard_of e t f) (setup_heard_of e t f)
            (by_test (is f.command K.RefreshMo) (with_pending None (with_measured t (with_answered true e)))
            (with_pending None (with_answered false e)) refl refl)
            (by_test f.busy (due_again_of e t) (cond (is_command_due e) (performed_of e t) (confirmed_of e t f)) refl
            (by_test (is_command_due e) (performed_of e t) (confirmed_of e t f) refl refl)) in
            subst (Left (deliver f body) (take_reply e t f body)) (sym (ap reply_with due_apart))
            (record { answered = refl; writes = refl; left = by_answer a e (ended_of e) (heard_of e t f) next })

        deliver_left : Left (deliver f body) (deliver_of e t f body) (deliver_of (held e) t f body)
        deliver_left =
            either (beq f.application e.settings.slave)
            (record { answered = refl; writes = refl; left = refl })
            (either (is f.command K.Refresh) refresh_left (either e.settings.slave request_left reply_left))

apart : (e : Endpoint) (t : ℕ) (k : Call) (w x : List ℕ) → looks e k ≡ false
    → HandedLeft k w x (step_of e t k) (step_of (with_handed w x e) t k)
apart e t (act a) w x s = act_left e w x t a
apart e t (send value) w x s = send_left e w x t s value
apart e t (deliver f body) w x s = deliver_left e w x t s f body
apart e t show w x s = record { answered = refl; writes = refl; left = refl }

words : (e : Endpoint) (t : ℕ) (k : Call)
    → (step_of e t k).endpoint.words.bytes ≡ words_after k (step_of e t k).answer e.words.bytes
words e t (act a) =
    ap (λ (y : Endpoint). y.words.bytes) (act_left e e.words.bytes e.errorinfo.bytes t a).left
words e t (send value) = ap (λ (s : Lasting). s.1.bytes) (send_keeps e t value)
words e t (deliver f body) = ap (λ (s : Kept). s.1.bytes) (deliver_keeps e t f body)
words e t show = refl

errorinfo : (e : Endpoint) (t : ℕ) (k : Call)
    → (step_of e t k).endpoint.errorinfo.bytes ≡ record_after k (step_of e t k).answer e.errorinfo.bytes
errorinfo e t (act a) =
    ap (λ (y : Endpoint). y.errorinfo.bytes) (act_left e e.words.bytes e.errorinfo.bytes t a).left
errorinfo e t (send value) = ap (λ (s : Lasting). s.2.bytes) (send_keeps e t value)
errorinfo e t (deliver f body) = ap (λ (s : Kept). s.2.bytes) (deliver_keeps e t f body)
errorinfo e t show = refl

pub handed_laws : HandedLaws
handed_laws = record { apart = apart; words = words; errorinfo = errorinfo }
