-- What done tells of each call, and what dropped leaves.
use mathlib.Core.Path.{◌≡◌, refl, sym, ap, subst, ◌∙◌}
use Rattle.std.specs.Prelude.{Err, Ok}
use Rattle.std.specs.Prelude.{None, Option, Some, ℕ}
use mathlib.Core.Bool.{Bool, true, false, ◌&&◌, ◌||◌, not, cond, and-false, beq, true≢false, false≢true}
use mathlib.Core.List.{List}
use mathlib.Core.Logic.{◌⊎◌, inl, inr}
use Prim.Native.Nat.{ℕ, ◌-◌, ◌<◌}
use native.Mathlib.Omega.{arith}
use lib.Dec.{eqb, ltb}
use lib.ListN.{length}
use borrow.Author.Tests.{leb-false, ltb-false, eqb-true, not-true, not-false}
use Rattle.frame.specs.declared.Command.{Command}
use Rattle.frame.specs.declared.Command.TheVariants as K
use Rattle.frame.specs.declared.Fields.{Fields}
use Rattle.frame.specs.Control.{is, is_joined, is_same}
use Rattle.words.specs.Bytes.{same}
use mathlib.Mathlib.Data.Bool.Basic.{and_elim_left as and_left, and_elim_right as and_right}
use Rattle.words.proofs.Alike.{same_eq}
use Rattle.endpoint.specs.declared.State.{State}
use Rattle.endpoint.specs.declared.State.TheVariants.{Close, Starting, EstablishPending, Establish, ParamVerify}
use Rattle.endpoint.specs.declared.State.TheVariants.{FuncRunning, RefreshPending, Refresh, Terminate}
use Rattle.endpoint.specs.declared.State.TheVariants.{TerminateMore}
use Rattle.endpoint.specs.Endpoint.{Endpoint}
use Rattle.endpoint.specs.declared.Reason.{Reason}
use Rattle.endpoint.specs.Answers.{Answer}
use Rattle.endpoint.specs.declared.Refusal.TheVariants.{Dropped, Ended}
use Rattle.endpoint.specs.Answers.{record_faults, first_of, is_done, is_dropped}
use Rattle.endpoint.specs.Table.{is_state, is_setup, is_terminated, next_of, is_no}
use Rattle.endpoint.specs.Due.{request_due, is_pending, answers_to, may_request, request_limit, is_exhausted, may_queue}
use Rattle.endpoint.specs.Due.{may_queue_read, last_step, is_late, refresh_due, awaited_in, sequence_of}
use Rattle.errors.specs.Reading.{is_record}
use Rattle.endpoint.specs.Time.{is_above, ended_of, time_of}
use Rattle.steps.specs.Frames.{nothing, setup_data, due_data, show_width, session_of, has_record}
use Rattle.steps.specs.Calls.{Outcome, outcome, dropped, refused, start_of, restart_of, set_not_ready_of}
use Rattle.steps.specs.Calls.{hand_faults, set_result_of, clear_result_of, command_data, invoke_of, set_record_of}
use Rattle.steps.specs.Calls.{clear_record_of, read_error_of, write_error_of}
use Rattle.steps.specs.Calls.{is_value_due, send_faults, send_of, stop_faults, stop_of}
use Rattle.steps.specs.Deliveries.{refresh_faults, is_turn, is_width, is_users, request_faults, is_result, reply_faults}
use Rattle.steps.specs.Deliveries.{take_refresh, is_stray, is_reply_turn, is_awaited}
use Rattle.steps.specs.Deliveries.{take_request, take_reply, deliver_of}
use Rattle.steps.specs.Laws.{StartDone, RestartDone, NotReadySet, ResultSet, ResultCleared, CommandQueued}
use Rattle.steps.specs.Laws.{RecordSet, RecordCleared, ReadQueued, WriteQueued, RefreshSent, RequestSent, StopDone}
use Rattle.steps.specs.Laws.{RefreshTaken, RequestTaken, ReportTaken, DisconnectTaken, ReplyTaken}
use Rattle.steps.specs.Laws.{GoDue, MeasurementSent, SynchronizationTaken, MeasurementHeard}
use Rattle.steps.proofs.Carried.{may_request_law, master_requests, measurement_due}
use Rattle.steps.proofs.Dispatch.{cond_true, deliver_echo, deliver_refresh, deliver_request, deliver_reply}
use Rattle.steps.proofs.Firsts.{not_dropped, not_soon, is_done_law, first_done, sent_width, neither}
use Rattle.steps.proofs.Keeps.{bcase}
use Rattle.steps.proofs.Dispatch.{is_command}
use Rattle.steps.proofs.Quiet.{not_done, plain_done}

-- a dropped answer is not done
dropped_not_done : (a : Answer) → is_dropped a ≡ true → a ≡ Ok tt → ⊥
dropped_not_done (Ok _) h p = false≢true h
dropped_not_done (Err (Dropped r)) h p = not_done r p
dropped_not_done (Err (Ended r)) h p = false≢true h

idle_is : (p : Option ℕ) → not (is_pending p) ≡ true → p ≡ None
idle_is None h = refl
idle_is (Some t) h = absurd (false≢true h)

answers_is : (p : Option ℕ) (s : ℕ) → answers_to p s ≡ true → p ≡ Some s
answers_is None s h = absurd (false≢true h)
answers_is (Some t) s h = ap Some (eqb-true t s h)

beq_true : (a b : Bool) → beq a b ≡ true → a ≡ b
beq_true true true h = refl
beq_true true false h = absurd (false≢true h)
beq_true false true h = absurd (false≢true h)
beq_true false false h = refl

-- ---- in Refresh
in_refresh_law : (s : State) → is_state s Refresh ≡ true → s ≡ Refresh
in_refresh_law Refresh h = refl
in_refresh_law Close h = absurd (false≢true h)
in_refresh_law Starting h = absurd (false≢true h)
in_refresh_law EstablishPending h = absurd (false≢true h)
in_refresh_law Establish h = absurd (false≢true h)
in_refresh_law ParamVerify h = absurd (false≢true h)
in_refresh_law FuncRunning h = absurd (false≢true h)
in_refresh_law RefreshPending h = absurd (false≢true h)
in_refresh_law Terminate h = absurd (false≢true h)
in_refresh_law TerminateMore h = absurd (false≢true h)

-- beside S-Refresh and S-Disconnect only a measurement's requests are taken
joined_in_refresh : (k : Command) → is_no (next_of k Refresh) ≡ false → is k K.Refresh ≡ false → is k K.Disconnect ≡ false
    → is_joined k ≡ true
joined_in_refresh K.RefreshMo n r d = refl
joined_in_refresh K.RefreshGo n r d = refl
joined_in_refresh K.Connect n r d = absurd (true≢false n)
joined_in_refresh K.ConfirmNetwork n r d = absurd (true≢false n)
joined_in_refresh K.VerifyStation n r d = absurd (true≢false n)
joined_in_refresh K.InvokeFunc n r d = absurd (true≢false n)
joined_in_refresh K.ReadErrorInfo n r d = absurd (true≢false n)
joined_in_refresh K.WriteErrorInfo n r d = absurd (true≢false n)
joined_in_refresh K.RefreshReady n r d = absurd (true≢false n)
joined_in_refresh K.Refresh n r d = absurd (true≢false r)
joined_in_refresh K.Disconnect n r d = absurd (true≢false d)

by_joined : (P : Command → Type 0) (k : Command) → is_joined k ≡ true → P K.RefreshMo → P K.RefreshGo → P k
by_joined P k j mo go =
    bcase (is k K.RefreshMo) (λ h. subst P (sym (is_command k K.RefreshMo h)) mo)
    (λ h. subst P (sym (is_command k K.RefreshGo (rw h at j))) go)

no_result : (go busy : Bool)
    → let k = cond go K.RefreshGo K.RefreshMo in ((is k K.InvokeFunc && not busy) || is k K.ReadErrorInfo) ≡ false
no_result true busy = refl
no_result false busy = refl

module _ (e : Endpoint) (t : ℕ) where
  pub start_done : (start_of e t).answer ≡ Ok tt → StartDone e t
  start_done d =
      let m = not e.settings.slave in
      let z = is_state e.state Close in
      let h = plain_done (m && z) _ e _ (λ n. refl) d in
      record {
        master = not-true e.settings.slave (and_left m z h);
        closed = and_right m z h;
        comes = cond_true _ _ _ h;
      }

  pub restart_done : (number : ℕ) → (restart_of e number).answer ≡ Ok tt → RestartDone e number
  restart_done number d =
      let h = plain_done (is_terminated e.state) _ e _ (λ n. refl) d in
      record { terminated = h; comes = cond_true _ _ _ h }

  pub not_ready_set : (b : Bool) → (set_not_ready_of e b).answer ≡ Ok tt → NotReadySet e b
  not_ready_set b d =
      let h = plain_done e.settings.slave _ e _ (λ n. refl) d in
      record { slave = h; comes = cond_true _ _ _ h }

  -- words are handed over in turn
  hand_turn : (turn : Bool) (n : ℕ) → is_done (first_of (hand_faults turn n)) ≡ true → turn ≡ true
  hand_turn turn n h =
      not-false turn (first_done (hand_faults turn n) (is_done_law (first_of (hand_faults turn n)) h)).turn

  pub result_set_law : (body : List ℕ) → (set_result_of e body).answer ≡ Ok tt → ResultSet e body
  result_set_law body d =
      let h = plain_done (is_done (first_of (hand_faults e.settings.slave (length body)))) _ e _ (λ n. n) d in
      record { slave = hand_turn e.settings.slave (length body) h; comes = cond_true _ _ _ h }

  pub result_cleared : (clear_result_of e).answer ≡ Ok tt → ResultCleared e
  result_cleared d =
      let h = plain_done e.settings.slave _ e _ (λ n. refl) d in
      record { slave = h; comes = cond_true _ _ _ h }

  pub command_queued : (word : ℕ) (bytes : List ℕ) → (invoke_of e word bytes).answer ≡ Ok tt
      → CommandQueued e word bytes
  command_queued word bytes d =
      let l = length (command_data word bytes) in
      let h = plain_done (is_done (first_of (hand_faults (may_queue e) l))) _ e _ (λ n. n) d in
      record { may = hand_turn (may_queue e) l h; comes = cond_true _ _ _ h }

  -- an error record is handed over in turn
  record_turn : (turn : Bool) (body : List ℕ) → is_done (first_of (record_faults (not turn) (not (is_record body)))) ≡ true
      → turn ≡ true
  record_turn turn body h =
      let f = record_faults (not turn) (not (is_record body)) in not-false turn (first_done f (is_done_law (first_of f) h)).turn

  pub record_set : (body : List ℕ) → (set_record_of e body).answer ≡ Ok tt → RecordSet e body
  record_set body d =
      let f = record_faults (not e.settings.slave) (not (is_record body)) in
      let h = plain_done (is_done (first_of f)) _ e _ (λ n. n) d in
      record { slave = record_turn e.settings.slave body h; comes = cond_true _ _ _ h }

  pub record_cleared : (clear_record_of e).answer ≡ Ok tt → RecordCleared e
  record_cleared d =
      let h = plain_done e.settings.slave _ e _ (λ n. refl) d in
      record { slave = h; comes = cond_true _ _ _ h }

  pub read_queued : (read_error_of e).answer ≡ Ok tt → ReadQueued e
  read_queued d =
      let h = plain_done (may_queue_read e) _ e _ (λ n. refl) d in
      record { may = h; comes = cond_true _ _ _ h }

  pub write_queued : (body : List ℕ) → (write_error_of e body).answer ≡ Ok tt → WriteQueued e body
  write_queued body d =
      let f = record_faults (not (may_queue e)) (not (is_record body)) in
      let h = plain_done (is_done (first_of f)) _ e _ (λ n. n) d in
      record { may = record_turn (may_queue e) body h; comes = cond_true _ _ _ h }

  -- ---- send
  above_sent : (n : ℕ) → first_of (send_faults e t n) ≡ Ok tt → is_above e.timestamps.sent (time_of e t) ≡ true
  above_sent n h = not-false (is_above e.timestamps.sent (time_of e t)) (first_done (send_faults e t n) h).soon

  -- a request that is done was not one too many
  few_requests : (n : ℕ) → first_of (send_faults e t n) ≡ Ok tt → may_request e ≡ true → e.setup.requests < request_limit
  few_requests n h m =
      let x : (may_request e && is_exhausted e) ≡ false = (first_done (send_faults e t n) h).exhausted in
      leb-false request_limit e.setup.requests (rw m at x)

  which : (go : Bool) → refresh_due e t ≡ cond go K.RefreshGo K.RefreshMo
      → (go ≡ true → (is_pending e.setup.pending ≡ false) × (e.measurement.answered ≡ true))
      → GoDue e t ⊎ (refresh_due e t ≡ K.RefreshMo)
  which true q u =
      let z = u refl in
      inl (record { due = q; idle = idle_is e.setup.pending (rw z.0); answered = z.1 })
  which false q u = inr q

  pub send_done : (value : List ℕ) → (send_of e t value).answer ≡ Ok tt
      → RefreshSent e t value ⊎ (MeasurementSent e t value ⊎ RequestSent e t value)
  send_done value d =
      let n = length value in
      let a = first_of (send_faults e t n) in
      bcase (is_done a)
      (λ i.
      let h = is_done_law a i in
      bcase (is_state e.state Refresh)
      (λ k. bcase (is_value_due e t)
      (λ v. inl (record {
        refresh = k;
        due = v;
        width = sent_width e t n k v h;
        above = above_sent n h;
        comes = rw (i, k, v);
      }))
      (λ v.
      let q = measurement_due e t v in
      inr (inl (record {
        master = q.master;
        refresh = k;
        due = which q.go q.due q.under_way;
        above = above_sent n h;
        comes = rw (i, k, v);
      }))))
      (λ k.
      let m = may_request_law e t n k h in
      let u = and_right (not e.settings.slave) (is_setup e.state && not (is_pending e.setup.pending)) m in
      inr (inr (record {
        master = master_requests e m;
        setup = and_left (is_setup e.state) (not (is_pending e.setup.pending)) u;
        idle = idle_is e.setup.pending (and_right (is_setup e.state) (not (is_pending e.setup.pending)) u);
        few = few_requests n h m;
        above = above_sent n h;
        comes = rw (i, k);
      }))))
      (λ i. absurd (false≢true (sym i ∙ ap is_done (rw i at d))))

  pub send_dropped : (value : List ℕ) (r : Reason) → (send_of e t value).answer ≡ Err (Dropped r)
      → send_of e t value ≡ dropped e (Err (Dropped r))
  send_dropped value r d =
      let a = first_of (send_faults e t (length value)) in
      bcase (is_done a)
      (λ h. bcase (is_state e.state Refresh)
      (λ k. bcase (is_value_due e t) (λ v. absurd (not_done r (sym (rw (h, k, v) at d))))
      (λ v. absurd (not_done r (sym (rw (h, k, v) at d)))))
      (λ k. absurd (not_done r (sym (rw (h, k) at d)))))
      (λ h. let p : a ≡ Err (Dropped r) = rw h at d in rw h (ap (refused e) p))

  -- a send is done, dropped, or ends the connection
  pub send_cases : (P : Outcome → Type 0) (value : List ℕ) → ((send_of e t value).answer ≡ Ok tt → P (send_of e t value))
      → ((a : Answer) → P (dropped e a)) → ((a : Answer) → P (outcome a (ended_of e) nothing)) → P (send_of e t value)
  send_cases P value p q r = go (first_of (send_faults e t (length value))) refl
    where
      go : (a : Answer) → first_of (send_faults e t (length value)) ≡ a → P (send_of e t value)
      go (Ok _) h = p (rw h (bcase (is_state e.state Refresh)
          (λ k. rw k (bcase (is_value_due e t) (λ v. rw v) (λ v. rw v))) (λ k. rw k)))
      go (Err (Dropped x)) h = rw h (q (Err (Dropped x)))
      go (Err (Ended x)) h = rw h (r (Err (Ended x)))

  -- ---- stop
  pub stop_done : (stop_of e t).answer ≡ Ok tt → StopDone e t
  stop_done d =
      let a = first_of (stop_faults e t) in
      let above = is_above e.timestamps.sent (time_of e t) in
      bcase (is_dropped a) (λ h. absurd (dropped_not_done a h (rw h at d)))
      (λ h.
      let n = neither (is_state e.state Close) (is_terminated e.state)
      (not_dropped (stop_faults e t) refl h).turn in
      let s : (not e.settings.slave && not above) ≡ false = not_soon (stop_faults e t) refl refl refl h in
      record {
        begun = n.0;
        running = n.1;
        above = λ m. not-false above (master_above e.settings.slave above m s);
        comes = rw h;
      })
    where
      master_above : (slave above : Bool) → slave ≡ false → (not slave && not above) ≡ false → not above ≡ false
      master_above true above m s = absurd (true≢false m)
      master_above false above m s = s

  pub stop_dropped : (r : Reason) → (stop_of e t).answer ≡ Err (Dropped r) → stop_of e t ≡ dropped e (Err (Dropped r))
  stop_dropped r d =
      let a = first_of (stop_faults e t) in
      bcase (is_dropped a) (λ h. let p : a ≡ Err (Dropped r) = rw h at d in rw h (ap (dropped e) p))
      (λ h. absurd (not_done r (sym (rw h at d))))

  -- ---- deliver
  pub refresh_done : (m : Option ℕ) (stamp : ℕ) (body : List ℕ) → (take_refresh e t m stamp body).answer ≡ Ok tt
      → RefreshTaken e t m stamp body
  refresh_done m stamp body d =
      let f = first_done (refresh_faults e t m stamp (length body)) d in
      let w = eqb (length body) (show_width e.settings) in
      record {
        refresh = not-false (is_state e.state Refresh) f.turn;
        session = not-false (is_same (session_of e) m) f.session;
        width = eqb-true (length body) (show_width e.settings) (not-false w f.width);
        above = not-false (is_above e.timestamps.accepted stamp) f.repeat;
        near = f.ahead;
        young = f.late;
        comes = rw d;
      }

  -- a request that is done is one that the state takes
  takes : (f : Fields) → not (is_turn e f.command) ≡ false → is_no (next_of f.command e.state) ≡ false
  takes f h =
      let no = is_no (next_of f.command e.state) in
      not-true no (and_left (not no) (not (is f.command K.ReadErrorInfo) || has_record e)
      (not-false (is_turn e f.command) h))

  -- a request that is done has a new timestamp, and is no stray
  fresh : (f : Fields) → (not (is_above e.timestamps.accepted f.timestamp) || is_stray e t f) ≡ false
      → (is_above e.timestamps.accepted f.timestamp ≡ true) × (is_stray e t f ≡ false)
  fresh f h =
      let above = is_above e.timestamps.accepted f.timestamp in
      let n = neither (not above) (is_stray e t f) h in
      (not-false above n.0, n.1)

  pub request_done : (f : Fields) (body : List ℕ) → is_state e.state Refresh ≡ false
      → is f.command K.Disconnect ≡ false → is f.command K.WriteErrorInfo ≡ false
      → (take_request e t f body).answer ≡ Ok tt → RequestTaken e t f body
  request_done f body r k w d =
      let n = first_done (request_faults e t f body) d in
      let s = same body (setup_data e.settings f.command) in
      let u : not (is_users f.command || s) ≡ false = rw k at n.unequal in
      record {
        turn = takes f n.turn;
        session = λ i. not-false (is_same (session_of e) f.subconnection) (rw i at n.session);
        above = (fresh f n.repeat).0;
        width = not-false (is_width e.settings f.command (length body)) n.width;
        has = λ i. rw i at (and_right (not (is_no (next_of f.command e.state)))
            (not (is f.command K.ReadErrorInfo) || has_record e) (not-false (is_turn e f.command) n.turn));
        contents = λ i. same_eq body (setup_data e.settings f.command) (not-false s (rw (i, w) at u));
        comes = rw (d, k, w, r);
      }

  -- an S-RefreshGO in Refresh that is no stray
  going : (f : Fields) → is f.command K.RefreshGo ≡ true → is_state e.state Refresh ≡ true → is_stray e t f ≡ false
      → ((e.measurement.answered && not (is_late e t)) && beq f.sequence e.measurement.sequence) ≡ true
  going f g r h =
      let b = (e.measurement.answered && not (is_late e t)) && beq f.sequence e.measurement.sequence in
      let z : not b ≡ false = rw (g, r) at h in
      not-false b z

  pub synchronization_done : (f : Fields) (body : List ℕ) → is_state e.state Refresh ≡ true
      → is f.command K.Refresh ≡ false → is f.command K.Disconnect ≡ false
      → (take_request e t f body).answer ≡ Ok tt → SynchronizationTaken e t f body
  synchronization_done f body r k u d =
      let n = first_done (request_faults e t f body) d in
      let j = joined_in_refresh f.command
      (subst (λ (s : State). is_no (next_of f.command s) ≡ false) (in_refresh_law e.state r) (takes f n.turn)) k u in
      let x = fresh f n.repeat in
      let s = same body (setup_data e.settings f.command) in
      let z = by_joined (λ z. (is z K.Connect ≡ false) × (is_users z ≡ false)) f.command j (refl, refl) (refl, refl) in
      let y : not (is_users f.command || s) ≡ false = rw u at n.unequal in
      record {
        joined = j;
        session = not-false (is_same (session_of e) f.subconnection) (rw z.0 at n.session);
        above = x.0;
        answered = λ g. and_left e.measurement.answered (not (is_late e t))
            (and_left (e.measurement.answered && not (is_late e t)) _ (going f g r x.1));
        same = λ g. beq_true f.sequence e.measurement.sequence
            (and_right (e.measurement.answered && not (is_late e t)) _ (going f g r x.1));
        contents = same_eq body (setup_data e.settings f.command) (not-false s (rw z.1 at y));
        comes = bcase (is f.command K.RefreshMo)
            (λ i. let c = is_command f.command K.RefreshMo i in rw (d, c, r, and-false e.station.notready))
            (λ i.
            let c = is_command f.command K.RefreshGo (rw i at j) in
            rw (d, c, r, and-false e.station.notready));
      }

  pub report_done : (f : Fields) (body : List ℕ) → is f.command K.WriteErrorInfo ≡ true
      → (take_request e t f body).answer ≡ Ok tt
      → ReportTaken e t f body
  report_done f body k d =
      let n = first_done (request_faults e t f body) d in
      let c : f.command ≡ K.WriteErrorInfo = is_command f.command K.WriteErrorInfo k in
      record {
        turn = takes f n.turn;
        reads = not-false (is_record body) (rw k at n.norecord);
        above = (fresh f n.repeat).0;
        comes = rw (d, c, and-false e.station.notready);
      }

  pub disconnect_done : (f : Fields) (body : List ℕ) → is f.command K.Disconnect ≡ true
      → (take_request e t f body).answer ≡ Ok tt
      → DisconnectTaken e t f body
  disconnect_done f body k d =
      let n = first_done (request_faults e t f body) d in
      record {
        turn = takes f n.turn;
        above = (fresh f n.repeat).0;
        comes = rw (d, k);
      }

  -- a reply that is done is the pending request's, and of the measurement under way
  awaited : (f : Fields) → not (answers_to e.setup.pending f.timestamp && is_awaited e t f) ≡ false
      → (e.setup.pending ≡ Some f.timestamp) × (is_awaited e t f ≡ true)
  awaited f h =
      let a = answers_to e.setup.pending f.timestamp in
      let w = not-false (a && is_awaited e t f) h in
      (answers_is e.setup.pending f.timestamp (and_left a (is_awaited e t f) w), and_right a (is_awaited e t f) w)

  pub reply_done : (f : Fields) (body : List ℕ) → is_state e.state Refresh ≡ false
      → (take_reply e t f body).answer ≡ Ok tt → ReplyTaken e t f body
  reply_done f body r d =
      let n = first_done (reply_faults e t f body) d in
      let due = request_due e in
      let s = same body (due_data e) in
      let x = is_setup e.state in
      let z = is_pending e.setup.pending && is f.command due in
      let turn : (x && z) ≡ true = rw r at
      (and_right f.ack (is_reply_turn e f.command) (not-false (f.ack && is_reply_turn e f.command) n.turn)) in
      let u = neither f.error (not (is_result f || s)) n.unequal in
      record {
        setup = and_left x z turn;
        pending = (awaited f n.repeat).0;
        command = and_right (is_pending e.setup.pending) (is f.command due) (and_right x z turn);
        session = n.session;
        sound = u.0;
        reads = λ i. not-false (is_record body) (rw i at n.norecord);
        contents = λ i. same_eq body (due_data e) (not-false s (rw i at u.1));
        comes = rw (d, r);
      }

  pub measurement_heard : (f : Fields) (body : List ℕ) → is_state e.state Refresh ≡ true
      → (take_reply e t f body).answer ≡ Ok tt → MeasurementHeard e t f body
  measurement_heard f body r d =
      let n = first_done (reply_faults e t f body) d in
      let u = neither f.error (not (is_result f || same body (due_data e))) n.unequal in
      let w = awaited f n.repeat in
      let seq : beq f.sequence e.measurement.sequence ≡ true = rw r at
      (and_left (beq f.sequence (sequence_of e)) _ w.1) in
      let j : (is f.command (awaited_in e) && not (is_late e t)) ≡ true = rw r at
      (and_right (beq f.sequence (sequence_of e)) _ w.1) in
      let k = and_left (is f.command (awaited_in e)) (not (is_late e t)) j in
      let late : ltb e.settings.roundtrip (t - f.timestamp) ≡ false = subst
      (λ (p : Option ℕ). ltb e.settings.roundtrip (t - last_step p e.setup.measured) ≡ false) w.0
      (not-true (is_late e t) (and_right (is f.command (awaited_in e)) (not (is_late e t)) j)) in
      let passed = ltb-false e.settings.roundtrip (t - f.timestamp) late in
      let c = is_command f.command (awaited_in e) k in
      let q : is_result f ≡ false = rw c (no_result e.measurement.answered f.busy) in
      record {
        ack = and_left f.ack (is_reply_turn e f.command) (not-false (f.ack && is_reply_turn e f.command) n.turn);
        pending = w.0;
        command = k;
        same = beq_true f.sequence e.measurement.sequence seq;
        timely = omega arith;
        session = n.session;
        sound = u.0;
        comes = rw (d, r, q);
      }

  pub deliver_dropped : (f : Fields) (body : List ℕ) (r : Reason) → (deliver_of e t f body).answer ≡ Err (Dropped r)
      → deliver_of e t f body ≡ dropped e (Err (Dropped r))
  deliver_dropped f body r d =
      bcase (beq f.application e.settings.slave)
      (λ h. let q = deliver_echo e t f body h in q ∙ ap (dropped e) (sym (ap (λ (o : Outcome). o.answer) q) ∙ d))
      (λ h. bcase (is f.command K.Refresh)
      (λ k.
      let q = deliver_refresh e t f body h k in
      let p : first_of (refresh_faults e t f.subconnection f.timestamp (length body)) ≡ Err (Dropped r) = sym
      (ap (λ (o : Outcome). o.answer) q) ∙ d in
      q ∙ rw p)
      (λ k. bcase e.settings.slave
      (λ m.
      let q = deliver_request e t f body h k m in
      let p : first_of (request_faults e t f body) ≡ Err (Dropped r) = sym (ap (λ (o : Outcome). o.answer) q) ∙ d in
      q ∙ rw p)
      (λ m.
      let q = deliver_reply e t f body h k m in
      let p : first_of (reply_faults e t f body) ≡ Err (Dropped r) = sym (ap (λ (o : Outcome). o.answer) q) ∙ d in
      q ∙ rw p)))
