-- One connection's step in both runs: where the bytes of its error record are exchanged, and the record or the frame that
-- it is given, the answer is the same, what is written is the same but for a record that is exchanged, and so is what is
-- left.
use mathlib.Core.Path.{◌≡◌, refl, sym, ap, ap₂, subst, subst₂, ◌∙◌}
use Rattle.std.specs.Prelude.{Err, Ok}
use Rattle.std.specs.Prelude.{None}
use mathlib.Core.Bool.{Bool, true, false, ◌&&◌, ◌||◌, not, cond, and-false, or-true, beq, false≢true, true≢false}
use mathlib.Core.List.{List}
use mathlib.Core.Logic.{◌⊎◌, inl, inr}
use mathlib.Mathlib.Data.Bool.Basic.{and_elim_left as and_left, and_elim_right as and_right}
use Prim.Native.Nat.{ℕ, ◌+◌, ◌-◌, ◌*◌, ◌/◌}
use lib.Dec.{eqb, leb}
use lib.ListN.{length}
use borrow.Author.Tests.{eqb-true, not-false}
use Rattle.words.specs.Bytes.{same}
use Rattle.errors.specs.declared.ErrorRecord.{ErrorRecord}
use Rattle.errors.specs.Reading.{is_record, more_follows}
use Rattle.frame.specs.declared.Command.{Command}
use Rattle.frame.specs.declared.Command.TheVariants as K
use Rattle.frame.specs.declared.Fields.{Fields}
use Rattle.frame.specs.Control.{is, is_joined}
use Rattle.frame.proofs.Lengths.{length_frame}
use Rattle.endpoint.specs.declared.State.{State}
use Rattle.endpoint.specs.declared.State.TheVariants.{Close, Starting, EstablishPending, Establish, ParamVerify}
use Rattle.endpoint.specs.declared.State.TheVariants.{FuncRunning, RefreshPending, Refresh, Terminate}
use Rattle.endpoint.specs.declared.State.TheVariants.{TerminateMore}
use Rattle.endpoint.specs.declared.Queue.{Queue}
use Rattle.endpoint.specs.declared.Queue.TheVariants as Q
use Rattle.endpoint.specs.Endpoint.{Endpoint, Words, words_of}
use Rattle.endpoint.specs.declared.Reason.TheVariants as R
use Rattle.endpoint.specs.Answers.{Answer}
use Rattle.endpoint.specs.declared.Refusal.TheVariants.{Dropped, Ended}
use Rattle.endpoint.specs.Answers.{record_faults, setup_faults, first_of, is_done, is_dropped, is_ended, left_by}
use Rattle.endpoint.specs.Table.{is_state, is_setup, is_terminated, request_of, next_of, is_no}
use Rattle.endpoint.specs.Due.{is_waiting, is_command_due, queued_in, request_due, is_pending, answers_to, is_held_back, may_queue}
use Rattle.endpoint.specs.Due.{may_queue_read, measurement_interval, is_open, refresh_due}
use Rattle.endpoint.specs.Time.{is_above, ended_of}
use Rattle.endpoint.specs.Updates.{with_pending, with_measured, with_queue, with_answered, with_words, with_error_info}
use Rattle.endpoint.specs.Updates.{with_not_ready}
use Rattle.transitions.specs.ByCall.{started_of, restarted_of, requested_of, refresh_sent_of, stopped_of, invoked_of}
use Rattle.transitions.specs.ByCall.{measurement_sent_of, read_queued_of, write_queued_of, queue_after}
use Rattle.transitions.specs.ByFrame.{refreshed_of, deferred_of, advanced_of, remeasured_of, adjusted_of, reported_of, taken_of}
use Rattle.transitions.specs.ByFrame.{ended_by}
use Rattle.transitions.specs.ByFrame.{due_again_of, performed_of, confirmed_of, heard_of}
use Rattle.steps.specs.Frames.{Written, frame, value, record_in, has_record, setup_data, data_of, due_data, padded_of}
use Rattle.steps.specs.Frames.{padded_record, request_fields, measurement_fields, refresh_fields, disconnect_fields}
use Rattle.steps.specs.Frames.{reply_fields, is_busy, reply_data}
use Rattle.steps.specs.Frames as W
use Rattle.steps.specs.Calls.{Outcome, outcome, dropped, hand_faults, command_data, kept_record, record_with, send_faults}
use Rattle.steps.specs.Calls.{is_value_due, send_of, stop_faults, disconnect_of}
use Rattle.steps.specs.Deliveries.{refresh_faults, is_turn, lacks_session, is_width, is_users, is_stray, request_faults}
use Rattle.steps.specs.Deliveries.{replied_of, is_result, lacks_number, replies_record, is_reply_turn, is_awaited, reply_faults}
use Rattle.steps.specs.Deliveries.{take_refresh, take_request, take_reply, deliver_of}
use Rattle.steps.specs.Steps.{Act, start, stop, restart, set_not_ready, set_result, clear_result, set_record, clear_record}
use Rattle.steps.specs.Steps.{invoke, read_error, write_error, act_of}
use Rattle.steps.specs.Values.{hands_record}
use Rattle.steps.specs.Laws.{Carries}
use Rattle.steps.proofs.Carried.{may_request_law, master_requests}
use Rattle.steps.proofs.Dispatch.{is_command}
use Rattle.steps.proofs.Firsts.{is_done_law, first_done, not_dropped, neither}
use Rattle.steps.proofs.Keeps.{bcase}
use Rattle.runs.specs.Steps.{Call}
use Rattle.noninterference.specs.NonInterference.{OneToOne, carries_record, reads_record, is_writing, is_looked_at}
use Rattle.noninterference.specs.NonInterference.{Exchanged, ExchangedAct, ExchangedWritten}
use Rattle.noninterference.proofs.Records.{Alike, alike, same_both, Bodies, bodies_alike, bodies_same, frames}
use Rattle.noninterference.proofs.Records.{carries_which, kept_back, no_word, read_word}

-- an endpoint whose error record has other bytes
abbrev pub held_with : List ℕ → Endpoint → Endpoint
held_with x e = with_error_info (words_of e.errorinfo.count x) e

-- ---- the request due
-- S-WriteErrorInfo is due only where it waits
queued_write : (q : Queue) → is (queued_in q) K.WriteErrorInfo ≡ true → is_writing q ≡ true
queued_write Q.Empty h = absurd (false≢true h)
queued_write Q.InvokeFunc h = absurd (false≢true h)
queued_write Q.ReadErrorInfo h = absurd (false≢true h)
queued_write Q.WriteErrorInfo h = refl
queued_write Q.Closed h = absurd (false≢true h)

never_write : (s : State) → is (request_of s) K.WriteErrorInfo ≡ false
never_write Close = refl
never_write Starting = refl
never_write EstablishPending = refl
never_write Establish = refl
never_write ParamVerify = refl
never_write FuncRunning = refl
never_write RefreshPending = refl
never_write Refresh = refl
never_write Terminate = refl
never_write TerminateMore = refl

write_due : (e : Endpoint) → is (request_due e) K.WriteErrorInfo ≡ true → is_writing e.setup.queue ≡ true
write_due e h =
    bcase (is_command_due e) (λ d. queued_write e.setup.queue (rw d at h))
    (λ d. absurd (true≢false (sym (rw d at h) ∙ never_write e.state)))

-- ---- measurements in Refresh, which carry no record
-- no queued command is due there
no_command : (s : State) → is_state s Refresh ≡ true → is (request_of s) K.RefreshReady ≡ false
no_command Refresh h = refl
no_command Close h = absurd (false≢true h)
no_command Starting h = absurd (false≢true h)
no_command EstablishPending h = absurd (false≢true h)
no_command Establish h = absurd (false≢true h)
no_command ParamVerify h = absurd (false≢true h)
no_command FuncRunning h = absurd (false≢true h)
no_command RefreshPending h = absurd (false≢true h)
no_command Terminate h = absurd (false≢true h)
no_command TerminateMore h = absurd (false≢true h)

due_in_refresh : (e : Endpoint) → is_state e.state Refresh ≡ true → is (request_due e) K.WriteErrorInfo ≡ false
due_in_refresh e h = rw (no_command e.state h, and-false (is_waiting e.setup.queue)) (never_write e.state)

joined_plain : (k : Command) → is_joined k ≡ true → (is k K.WriteErrorInfo ≡ false) × (is k K.ReadErrorInfo ≡ false)
joined_plain K.Connect h = absurd (false≢true h)
joined_plain K.ConfirmNetwork h = absurd (false≢true h)
joined_plain K.VerifyStation h = absurd (false≢true h)
joined_plain K.InvokeFunc h = absurd (false≢true h)
joined_plain K.Disconnect h = absurd (false≢true h)
joined_plain K.ReadErrorInfo h = absurd (false≢true h)
joined_plain K.WriteErrorInfo h = absurd (false≢true h)
joined_plain K.RefreshReady h = absurd (false≢true h)
joined_plain K.RefreshMo h = (refl, refl)
joined_plain K.RefreshGo h = (refl, refl)
joined_plain K.Refresh h = absurd (false≢true h)

refresh_plain : (e : Endpoint) (t : ℕ) → is (refresh_due e t) K.WriteErrorInfo ≡ false
refresh_plain e t =
    go e.settings.slave (is_open e t) (is_pending e.setup.pending)
    (leb measurement_interval (t - e.measurement.reference))
  where
    go : (s o p m : Bool)
        → is (cond s K.Refresh (cond o (cond p K.Refresh K.RefreshGo) (cond m K.RefreshMo K.Refresh))) K.WriteErrorInfo
        ≡ false
    go true o p m = refl
    go false true true m = refl
    go false true false m = refl
    go false false p true = refl
    go false false p false = refl

-- the queue after a request waits to write only where it did
still_waits : (b : Bool) (q : Queue) → is_writing (cond b Q.Closed q) ≡ true → is_writing q ≡ true
still_waits true q h = absurd (false≢true h)
still_waits false q h = h

pub looked_by : (r m w w' : Bool) → (w ≡ true → w' ≡ true) → (r || (m && w)) ≡ true → (r || (m && w')) ≡ true
looked_by true m w w' k h = refl
looked_by false true w w' k h = k h
looked_by false false w w' k h = h

module _ (P : ErrorRecord → ErrorRecord) where
  -- ---- the two endpoints
  pub record Likes (e e' : Endpoint) : Type 0 where
    pub same : e' ≡ held_with e'.errorinfo.bytes e
    pub errorinfo : is_looked_at e ≡ true → Exchanged P (record_in e.errorinfo) (record_in e'.errorinfo)

  -- ---- what is written: frames by their S-Data
  pub data Writes (c : Call) : Written → Written → Type 0 where
    nothing : Writes c W.nothing W.nothing
    sends : (f : Fields) {b b' : List ℕ} → Bodies P f b b' → Writes c (frame f b) (frame f b')
    values : (v : List ℕ) → Writes c (value v) (value v)
    records : {b b' : List ℕ} → reads_record c ≡ true → Exchanged P b b' → Writes c (value b) (value b')

  pub record Both (c : Call) (o o' : Outcome) : Type 0 where
    pub answer : o'.answer ≡ o.answer
    pub writes : Writes c o.writes o'.writes
    pub left : Likes o.endpoint o'.endpoint

module _ (P : ErrorRecord → ErrorRecord) (one : OneToOne P) (c : Call) where
  -- ---- what is written corresponds, and has the same length
  pub written_both : (e : Endpoint) {w w' : Written} → Carries e w → Writes P c w w' → ExchangedWritten P c w w'
  written_both e r nothing = ExchangedWritten.same
  written_both e r (sends f H) = ExchangedWritten.frames (frames P one f H r.0)
  written_both e r (values v) = ExchangedWritten.values v
  written_both e r (records q p) = ExchangedWritten.records q p

  pub count_both : {w w' : Written} → Writes P c w w' → length (W.bytes_of w') ≡ length (W.bytes_of w)
  count_both nothing = refl
  count_both (sends f {b} {b'} H) =
      length_frame f b' ∙ ap (λ (n : ℕ). 48 + 2 * n) (bodies_alike P one H).long ∙ sym (length_frame f b)
  count_both (values v) = refl
  count_both (records q p) = (alike P one p).long

  -- ---- by a test, and by an answer
  either : {p p' q q' : Outcome} (b : Bool) → (b ≡ true → Both P c p p') → (b ≡ false → Both P c q q')
      → Both P c (cond b p q) (cond b p' q')
  either true p q = p refl
  either false p q = q refl

  likes_by : {y y' z z' : Endpoint} (b : Bool) → Likes P y y' → Likes P z z' → Likes P (cond b y z) (cond b y' z')
  likes_by true p q = p
  likes_by false p q = q

  likes_left : {y y' z z' v v' : Endpoint} (a : Answer) → Likes P y y' → Likes P z z' → Likes P v v'
      → Likes P (left_by a y z v) (left_by a y' z' v')
  likes_left (Ok _) p q r = r
  likes_left (Err (Dropped x)) p q r = p
  likes_left (Err (Ended x)) p q r = q

  unless : {w w' : Written} (b : Bool) → (b ≡ false → Writes P c w w')
      → Writes P c (cond b W.nothing w) (cond b W.nothing w')
  unless true p = nothing
  unless false p = p refl

  where_so : {w w' : Written} (b : Bool) → (b ≡ true → Writes P c w w')
      → Writes P c (cond b w W.nothing) (cond b w' W.nothing)
  where_so true p = p refl
  where_so false p = nothing

  -- ---- an endpoint e, and the same with the bytes x
  module _ (e : Endpoint) (x : List ℕ)
      (h : is_looked_at e ≡ true → Exchanged P (record_in e.errorinfo) (record_in (words_of e.errorinfo.count x))) where
    abbrev held : Endpoint → Endpoint
    held y = held_with x y

    -- what is left is looked at only where e was, and then has its error record
    abbrev Less : Endpoint → Type 0
    Less y = is_looked_at y ≡ true → (is_looked_at e ≡ true) × (y.errorinfo ≡ e.errorinfo)

    likes : (y : Endpoint) → Less y → Likes P y (held y)
    likes y l = record {
      same = refl;
      errorinfo = λ q.
          let p = l q in
          subst (λ (w : Words). Exchanged P (record_in w) (record_in (words_of w.count x))) (sym p.1) (h p.0);
    }

    -- with e's error record and role, and this queue
    less : (q : Queue) → (is_writing q ≡ true → is_writing e.setup.queue ≡ true)
        → (has_record e || (not e.settings.slave && is_writing q)) ≡ true → is_looked_at e ≡ true
    less q k = looked_by (has_record e) (not e.settings.slave) (is_writing q) (is_writing e.setup.queue) k

    -- where no S-WriteErrorInfo waits
    quiet : (q : Queue) → is_writing q ≡ false
        → (has_record e || (not e.settings.slave && is_writing q)) ≡ true → is_looked_at e ≡ true
    quiet q n = less q (λ z. absurd (true≢false (sym z ∙ n)))

    stays : {w w' : Written} (a : Answer) (y : Endpoint) → Less y → Writes P c w w'
        → Both P c (outcome a y w) (outcome a (held y) w')
    stays a y l w = record { answer = refl; writes = w; left = likes y l }

    dropping : (a : Answer) → Both P c (dropped e a) (dropped (held e) a)
    dropping a = stays a e (λ q. (q, refl)) nothing

    ended : Likes P (ended_of e) (held (ended_of e))
    ended = likes (ended_of e) (λ q. (quiet Q.Empty refl q, refl))

    -- ---- acts
    module _ (t : ℕ) where
      disconnects : Writes P c (disconnect_of e t) (disconnect_of e t)
      disconnects =
          unless e.settings.slave (λ s. sends (disconnect_fields e t)
          (record { carried = λ z. absurd (false≢true z); plain = λ z. refl }))

      pub act_both : (a : Act) → hands_record a ≡ false → Both P c (act_of e t a) (act_of (held e) t a)
      act_both start n =
          either (not e.settings.slave && is_state e.state Close)
          (λ k. stays (Ok tt) (started_of e t) (λ q. (quiet Q.Empty refl q, refl)) nothing) (λ k. dropping (Err (Dropped R.Turn)))
      act_both stop n =
          let a = first_of (stop_faults e t) in
          either (is_dropped a) (λ k. dropping a)
          (λ k. stays (Ok tt) (stopped_of e t) (λ q. (quiet Q.Empty refl q, refl)) disconnects)
      act_both (restart number) n =
          either (is_terminated e.state) (λ k. stays (Ok tt) (restarted_of e number) (λ q. (q, refl)) nothing)
          (λ k. dropping (Err (Dropped R.Turn)))
      act_both (set_not_ready r) n =
          either e.settings.slave (λ k. stays (Ok tt) (with_not_ready r e) (λ q. (q, refl)) nothing)
          (λ k. dropping (Err (Dropped R.Turn)))
      act_both (set_result body) n =
          let a = first_of (hand_faults e.settings.slave (length body)) in
          either (is_done a)
          (λ k. stays (Ok tt) (with_words (words_of (length body / 4) (padded_of body)) e) (λ q. (q, refl)) nothing)
          (λ k. dropping a)
      act_both clear_result n =
          either e.settings.slave
          (λ k. stays (Ok tt) (with_words (words_of 0 e.words.bytes) e) (λ q. (q, refl)) nothing)
          (λ k. dropping (Err (Dropped R.Turn)))
      act_both (set_record body) n = absurd (true≢false n)
      act_both clear_record n =
          either e.settings.slave
          (λ k. stays (Ok tt) (with_error_info (words_of 0 e.errorinfo.bytes) e)
          (λ q. let z : false ≡ true = rw k at q in absurd (false≢true z)) nothing)
          (λ k. dropping (Err (Dropped R.Turn)))
      act_both (invoke word bytes) n =
          let s = command_data word bytes in
          let a = first_of (hand_faults (may_queue e) (length s)) in
          either (is_done a)
          (λ k. stays (Ok tt) (invoked_of e (words_of (length s / 4) (padded_of s)))
          (λ q. (quiet Q.InvokeFunc refl q, refl)) nothing) (λ k. dropping a)
      act_both read_error n =
          either (may_queue_read e)
          (λ k. stays (Ok tt) (read_queued_of e) (λ q. (quiet Q.ReadErrorInfo refl q, refl)) nothing)
          (λ k. dropping (Err (Dropped R.Turn)))
      act_both (write_error body) n = absurd (true≢false n)

    -- ---- an error record that is handed over
    module _ {b b' : List ℕ} (p : Exchanged P b b') where
      kept_both : (y : Endpoint) → is_record b ≡ true
          → Likes P (with_error_info (kept_record b) y) (with_error_info (kept_record b') y)
      kept_both y r = record {
        same = ap (λ (n : ℕ). with_error_info (words_of (n / 4) (padded_record b')) y) (alike P one p).long;
        errorinfo = λ q.
            subst₂ (Exchanged P) (sym (kept_back b r)) (sym (kept_back b' ((alike P one p).records ∙ r))) p;
      }

      record_both : (turn : Bool) (next next' : Endpoint) → (is_record b ≡ true → Likes P next next')
          → Both P c (record_with turn next e b) (record_with turn next' (held e) b')
      record_both turn next next' l =
          let f = record_faults (not turn) (not (is_record b)) in
          rw (alike P one p).records (either (is_done (first_of f))
          (λ d. record {
            answer = refl;
            writes = nothing;
            left = l (not-false (is_record b) (first_done f (is_done_law (first_of f) d)).norecord);
          }) (λ d. dropping (first_of f)))

      pub set_both : (t : ℕ) → Both P c (act_of e t (set_record b)) (act_of (held e) t (set_record b'))
      set_both t =
          record_both e.settings.slave (with_error_info (kept_record b) e) (with_error_info (kept_record b') (held e))
          (kept_both e)

      pub write_both : (t : ℕ) → Both P c (act_of e t (write_error b)) (act_of (held e) t (write_error b'))
      write_both t =
          record_both (may_queue e) (write_queued_of e (kept_record b)) (write_queued_of (held e) (kept_record b'))
          (kept_both (with_queue Q.WriteErrorInfo e))

    -- ---- S-Data of the request due: a master's S-WriteErrorInfo has its record
    due_plain : is (request_due e) K.WriteErrorInfo ≡ false → due_data (held e) ≡ due_data e
    due_plain n = rw n

    due_record : e.settings.slave ≡ false → is (request_due e) K.WriteErrorInfo ≡ true
        → Exchanged P (due_data e) (due_data (held e))
    due_record m i =
        let k = is_command (request_due e) K.WriteErrorInfo i in
        let l : is_looked_at e ≡ true = rw (m, write_due e i) (or-true (has_record e)) in
        subst₂ (Exchanged P) (sym (ap (data_of e) k)) (sym (ap (data_of (held e)) k)) (h l)

    -- ---- a send
    request_bodies : (t : ℕ) → e.settings.slave ≡ false
        → Bodies P (request_fields e t) (due_data e) (due_data (held e))
    request_bodies t m =
        let w = is (request_due e) K.WriteErrorInfo in
        let r = is (request_due e) K.ReadErrorInfo in
        record {
          carried = λ q. bcase w (λ i. due_record m i)
              (λ i. absurd (false≢true (sym (and-false r) ∙ (rw i at q))));
          plain = λ q. due_plain (neither w (r && false) q).0;
        }

    measurement_bodies : (t : ℕ) → let s = setup_data e.settings (refresh_due e t) in
        Bodies P (measurement_fields e (refresh_due e t) t) s s
    measurement_bodies t = record {
      carried = λ q. absurd (false≢true (sym (and-false (is (refresh_due e t) K.ReadErrorInfo))
          ∙ (rw (refresh_plain e t) at q)));
      plain = λ q. refl;
    }

    pub send_both : (t : ℕ) (v : List ℕ) → Both P c (send_of e t v) (send_of (held e) t v)
    send_both t v =
        let a = first_of (send_faults e t (length v)) in
        let s = queue_after (request_due e) e.setup.queue in
        either (is_done a)
        (λ d. either (is_state e.state Refresh)
        (λ k. either (is_value_due e t)
        (λ v. stays (Ok tt) (refresh_sent_of e t) (λ q. (q, refl)) (sends (refresh_fields e t)
        (record { carried = λ z. absurd (false≢true z); plain = λ z. refl })))
        (λ v. stays (Ok tt) (measurement_sent_of e (refresh_due e t) t) (λ q. (q, refl))
        (sends (measurement_fields e (refresh_due e t) t) (measurement_bodies t))))
        (λ k. stays (Ok tt) (requested_of e t)
        (λ q. (less s (still_waits (is (request_due e) K.RefreshReady) e.setup.queue) q, refl))
        (sends (request_fields e t)
        (request_bodies t (master_requests e (may_request_law e t (length v) k (is_done_law a d)))))))
        (λ d. record {
          answer = refl;
          writes = nothing;
          left = likes_left a (likes e (λ q. (q, refl))) ended (likes e (λ q. (q, refl)));
        })

    -- ---- a deliver
    module _ (t : ℕ) (f : Fields) (b b' : List ℕ) (H : Bodies P f b b') where
      A : Alike b b'
      A = bodies_alike P one H

      -- S-Refresh carries no record
      refresh_both : is f.command K.Refresh ≡ true
          → Both P c (take_refresh e t f.subconnection f.timestamp b)
          (take_refresh (held e) t f.subconnection f.timestamp b')
      refresh_both k =
          let n : carries_record f ≡ false = rw (is_command f.command K.Refresh k) in
          let session = f.subconnection in
          let a = first_of (refresh_faults e t session f.timestamp (length b)) in
          let next = refreshed_of e t f.timestamp (padded_of b) in
          subst (λ (l : List ℕ). Both P c (take_refresh e t session f.timestamp b)
          (take_refresh (held e) t session f.timestamp l)) (sym (H.plain n)) (record {
            answer = refl;
            writes = nothing;
            left = likes_left a (likes e (λ q. (q, refl))) ended (likes next (λ q. (q, refl)));
          })

      -- ---- a request, at a slave: by what its tests look at
      request_answer : Bool → ℕ → Bool → Answer
      request_answer r n u =
          first_of (setup_faults (not (is_turn e f.command)) (lacks_session e f)
          (is f.command K.WriteErrorInfo && not r)
          (not (is_width e.settings f.command n))
          (not (is_above e.timestamps.accepted f.timestamp) || is_stray e t f)
          (not (is f.command K.Disconnect || (is_users f.command || u))))

      request_same : first_of (request_faults (held e) t f b') ≡ first_of (request_faults e t f b)
      unfolding request_answer
      request_same =
          λ i. request_answer (A.records i) (A.long i) (bodies_same P one H e.settings i)

      -- what the reply carries
      module _ (a : Answer) (is-a : first_of (request_faults e t f b) ≡ a) where
        write_data : is f.command K.WriteErrorInfo ≡ true
            → Exchanged P (reply_data e f.command (is_done a) b) (reply_data (held e) f.command (is_done a) b')
        write_data i =
            let q : carries_record f ≡ true = rw i in
            rw (is_command f.command K.WriteErrorInfo i) (H.carried q)

        -- S-ReadErrorInfo has its turn where a record is set, and carries one word
        record_set : is_dropped a ≡ false → is f.command K.ReadErrorInfo ≡ true → is_looked_at e ≡ true
        record_set n i =
            let k = f.command in
            let d = not_dropped (request_faults e t f b) refl (ap is_dropped is-a ∙ n) in
            let q = and_right (not (is_no (next_of k e.state))) (not (is k K.ReadErrorInfo) || has_record e)
            (not-false (is_turn e k) d.turn) in
            let r : has_record e ≡ true = rw i at q in
            rw r

        one_word : is_dropped a ≡ false → is f.command K.ReadErrorInfo ≡ true → is_record b ≡ false
        one_word n i =
            let k = f.command in
            let s = e.settings in
            let d = not_dropped (request_faults e t f b) refl (ap is_dropped is-a ∙ n) in
            let w = not-false (is_width s k (length b)) d.width in
            let q : eqb (length b) (length (setup_data s K.ReadErrorInfo)) ≡ true =
            rw (is_command k K.ReadErrorInfo i) at w in
            no_word b (eqb-true (length b) (length (setup_data s K.ReadErrorInfo)) q ∙ read_word s)

        -- its reply repeats that word, with Error 1
        repeats : is_dropped a ≡ false → is f.command K.ReadErrorInfo ≡ true → Exchanged P b b'
        repeats n i =
            bcase f.ack
            (λ k.
            let q : carries_record f ≡ true = rw (i, k) (or-true (is f.command K.WriteErrorInfo)) in
            H.carried q)
            (λ k.
            let q : carries_record f ≡ false = rw (is_command f.command K.ReadErrorInfo i, k) in
            subst (Exchanged P b) (sym (H.plain q)) (Exchanged.other b (one_word n i)))

        -- or has the record
        read_data : is_dropped a ≡ false → is f.command K.ReadErrorInfo ≡ true
            → Exchanged P (reply_data e f.command (is_done a) b) (reply_data (held e) f.command (is_done a) b')
        read_data n i =
            bcase (is_done a)
            (λ d. rw (is_command f.command K.ReadErrorInfo i, d) (h (record_set n i)))
            (λ d. rw (is_command f.command K.ReadErrorInfo i, d) (repeats n i))

        -- that of any other request has what it had
        plain_data : is f.command K.WriteErrorInfo ≡ false → is f.command K.ReadErrorInfo ≡ false
            → reply_data (held e) f.command (is_done a) b' ≡ reply_data e f.command (is_done a) b
        plain_data n m =
            let q : carries_record f ≡ false = rw (n, m) in
            rw (m, H.plain q)

        reply_bodies : (busy : Bool) → is_dropped a ≡ false
            → Bodies P (reply_fields e f busy (is_ended a)) (reply_data e f.command (is_done a) b)
            (reply_data (held e) f.command (is_done a) b')
        reply_bodies busy n =
            let w = is f.command K.WriteErrorInfo in
            let r = is f.command K.ReadErrorInfo in
            record {
              carried = λ q. bcase w (λ i. write_data i)
                  (λ i. let z : (r && true) ≡ true = rw i at q in read_data n (and_left r true z));
              plain = λ q.
                  let z = neither w (r && true) q in
                  plain_data z.0 (bcase r (λ i. absurd (true≢false (rw i at z.1))) (λ i. i));
            }

        replied_both : Writes P c (replied_of e f b a) (replied_of (held e) f b' a)
        replied_both =
            let k = f.command in
            let busy : ℕ → Bool = λ n. is_done a && is_busy e k n in
            let body = reply_data e k (is_done a) b in
            let body' = reply_data (held e) k (is_done a) b' in
            unless (is_dropped a || is k K.Disconnect)
            (λ z. subst (λ (n : ℕ). Writes P c (frame (reply_fields e f (busy (length b)) (is_ended a)) body)
            (frame (reply_fields e f (busy n) (is_ended a)) body')) (sym A.long)
            (sends (reply_fields e f (busy (length b)) (is_ended a))
            (reply_bodies (busy (length b)) (neither (is_dropped a) (is k K.Disconnect) z).0)))

      taken_both : Likes P (taken_of e t f (more_follows b)) (taken_of (held e) t f (more_follows b))
      taken_both =
          let m = more_follows b in
          likes_by (is f.command K.Disconnect)
          (likes (ended_by e f.timestamp) (λ q. (quiet Q.Empty refl q, refl)))
          (likes_by (is f.command K.WriteErrorInfo)
          (likes (reported_of e f.timestamp m) (λ q. (quiet Q.Empty refl q, refl)))
          (likes_by (is_state e.state Refresh)
          (likes_by (is f.command K.RefreshMo) (likes (remeasured_of e t f) (λ q. (q, refl)))
          (likes (adjusted_of e f) (λ q. (q, refl))))
          (likes_by (is_held_back e f.command) (likes (deferred_of e t f) (λ q. (q, refl)))
          (likes (advanced_of e t f) (λ q. (q, refl))))))

      -- with this answer, and so many records to follow
      request_with : Answer → Bool → Outcome
      request_with a m =
          outcome a (left_by a (held e) (ended_by (held e) f.timestamp) (taken_of (held e) t f m))
          (replied_of (held e) f b' a)

      request_both : Both P c (take_request e t f b) (take_request (held e) t f b')
      unfolding request_with
      request_both =
          let a = first_of (request_faults e t f b) in
          subst (Both P c (take_request e t f b)) (sym (ap₂ request_with request_same A.more))
          (record {
            answer = refl;
            writes = replied_both a refl;
            left = likes_left a (likes e (λ q. (q, refl)))
                (likes (ended_by e f.timestamp) (λ q. (quiet Q.Empty refl q, refl))) taken_both;
          })

      -- ---- a reply, at a master
      module _ (m : e.settings.slave ≡ false)
          (reads : (is f.command K.ReadErrorInfo && f.ack) ≡ true → reads_record c ≡ true) where
        abbrev turns : Bool
        turns = f.ack && is_reply_turn e f.command

        -- in setup it is to the request due
        to_due : is_state e.state Refresh ≡ false → turns ≡ true → f.command ≡ request_due e
        to_due n q =
            let p = is_pending e.setup.pending in
            let i = is f.command (request_due e) in
            let z : (is_setup e.state && (p && i)) ≡ true =
            rw n at (and_right f.ack (is_reply_turn e f.command) q) in
            is_command f.command (request_due e) (and_right p i (and_right (is_setup e.state) (p && i) z))

        -- in Refresh it is a measurement's
        to_measurement : is_state e.state Refresh ≡ true → turns ≡ true → carries_record f ≡ false
        to_measurement n q =
            let z : is_joined f.command ≡ true = rw n at (and_right f.ack (is_reply_turn e f.command) q) in
            let j = joined_plain f.command z in
            rw (j.0, j.1)

        -- whose S-Data is exchanged where the reply's is, and else the same
        due_both : f.command ≡ request_due e → carries_record f ≡ true → Exchanged P (due_data e) (due_data (held e))
        due_both k q = go (carries_which f q)
          where
            go : (is f.command K.WriteErrorInfo ≡ true) ⊎ ((is f.command K.ReadErrorInfo ≡ true) × (f.ack ≡ true))
                → Exchanged P (due_data e) (due_data (held e))
            go (inl i) = due_record m (subst (λ (z : Command). is z K.WriteErrorInfo ≡ true) k i)
            go (inr i) =
                let r = sym k ∙ is_command f.command K.ReadErrorInfo i.0 in
                subst₂ (Exchanged P) (sym (ap (data_of e) r)) (sym (ap (data_of (held e)) r))
                (Exchanged.other (setup_data e.settings K.ReadErrorInfo)
                (no_word (setup_data e.settings K.ReadErrorInfo) (read_word e.settings)))

        due_same : f.command ≡ request_due e → carries_record f ≡ false → due_data (held e) ≡ due_data e
        due_same k q =
            due_plain (subst (λ (z : Command). is z K.WriteErrorInfo ≡ false) k
            (neither (is f.command K.WriteErrorInfo) (is f.command K.ReadErrorInfo && f.ack) q).0)

        -- so its length and its contents compare alike
        abbrev lengths : List ℕ → List ℕ → Bool
        lengths l d = eqb (length l) (length d)

        compared : turns ≡ true → (lengths b' (due_data (held e)) ≡ lengths b (due_data e))
            × (same b' (due_data (held e)) ≡ same b (due_data e))
        compared q =
            bcase (is_state e.state Refresh)
            (λ n.
            let z = to_measurement n q in
            let s = due_plain (due_in_refresh e n) in
            (ap₂ lengths (H.plain z) s, ap₂ same (H.plain z) s))
            (λ n. let k = to_due n q in
            bcase (carries_record f)
            (λ z.
            let d = due_both k z in
            (ap₂ eqb A.long (alike P one d).long, same_both P one (H.carried z) d))
            (λ z. (ap₂ lengths (H.plain z) (due_same k z), ap₂ same (H.plain z) (due_same k z))))

        reply_answer : Bool → Bool → Bool → Answer
        reply_answer r w u =
            first_of (setup_faults (not turns) (lacks_number e f) (replies_record f.command && not r)
            (not (is f.command K.ReadErrorInfo || w))
            (not (answers_to e.setup.pending f.timestamp && is_awaited e t f))
            (f.error || not (is_result f || u)))

        reply_same : first_of (reply_faults (held e) t f b') ≡ first_of (reply_faults e t f b)
        unfolding reply_answer
        reply_same =
            bcase turns
            (λ q. let z = compared q in λ i. reply_answer (A.records i) (z.0 i) (z.1 i))
            (λ q. rw q)

        -- a result is the same; a station's record is exchanged
        result_both : (done : Bool) → Writes P c (cond (done && is_result f) (value b) W.nothing)
            (cond (done && is_result f) (value b') W.nothing)
        result_both done =
            where_so (done && is_result f)
            (λ z. bcase (carries_record f) (λ q. go z q (carries_which f q))
            (λ q. subst (λ (l : List ℕ). Writes P c (value b) (value l)) (sym (H.plain q)) (values b)))
          where
            go : (done && is_result f) ≡ true → carries_record f ≡ true
                → (is f.command K.WriteErrorInfo ≡ true) ⊎ ((is f.command K.ReadErrorInfo ≡ true) × (f.ack ≡ true))
                → Writes P c (value b) (value b')
            go z q (inl i) =
                let n : is_result f ≡ false = rw (is_command f.command K.WriteErrorInfo i) in
                absurd (true≢false (sym (and_right done (is_result f) z) ∙ n))
            go z q (inr i) = records (reads (rw (i.0, i.1))) (H.carried q)

        heard_both : Likes P (heard_of e t f) (heard_of (held e) t f)
        heard_both =
            likes_by (is_state e.state Refresh)
            (likes_by (is f.command K.RefreshMo)
            (likes (with_pending None (with_measured t (with_answered true e))) (λ q. (q, refl)))
            (likes (with_pending None (with_answered false e)) (λ q. (q, refl))))
            (likes_by f.busy (likes (due_again_of e t) (λ q. (q, refl)))
            (likes_by (is_command_due e) (likes (performed_of e t) (λ q. (quiet Q.Empty refl q, refl)))
            (likes (confirmed_of e t f) (λ q. (q, refl)))))

        reply_with : Answer → Outcome
        reply_with a =
            outcome a (left_by a (held e) (ended_of (held e)) (heard_of (held e) t f))
            (cond (is_done a && is_result f) (value b') W.nothing)

        reply_both : Both P c (take_reply e t f b) (take_reply (held e) t f b')
        unfolding reply_with
        reply_both =
            let a = first_of (reply_faults e t f b) in
            subst (Both P c (take_reply e t f b)) (sym (ap reply_with reply_same))
            (record {
              answer = refl;
              writes = result_both (is_done a);
              left = likes_left a (likes e (λ q. (q, refl))) ended heard_both;
            })

      deliver_held : ((is f.command K.ReadErrorInfo && f.ack) ≡ true → reads_record c ≡ true)
          → Both P c (deliver_of e t f b) (deliver_of (held e) t f b')
      deliver_held reads =
          either (beq f.application e.settings.slave) (λ z. dropping (Err (Dropped R.Echo)))
          (λ z. either (is f.command K.Refresh) refresh_both
          (λ k. either e.settings.slave (λ s. request_both) (λ s. reply_both s reads)))

  -- ---- two endpoints that correspond
  module _ (e e' : Endpoint) (L : Likes P e e') where
    abbrev bytes : List ℕ
    bytes = e'.errorinfo.bytes

    exchanged : is_looked_at e ≡ true
        → Exchanged P (record_in e.errorinfo) (record_in (words_of e.errorinfo.count bytes))
    exchanged q =
        subst (λ (w : Words). Exchanged P (record_in e.errorinfo) (record_in w))
        (ap (λ (y : Endpoint). y.errorinfo) L.same) (L.errorinfo q)

    abbrev Steps : (Endpoint → Outcome) → (Endpoint → Outcome) → Type 0
    Steps g g' = Both P c (g e) (g' e')

    as_held : (g g' : Endpoint → Outcome) → Both P c (g e) (g' (held_with bytes e)) → Steps g g'
    as_held g g' q = subst (λ (y : Endpoint). Both P c (g e) (g' y)) (sym L.same) q

    pub acts_both : (t : ℕ) {a a' : Act} → ExchangedAct P a a' → Steps (λ y. act_of y t a) (λ y. act_of y t a')
    acts_both t (ExchangedAct.same a n) =
        as_held (λ y. act_of y t a) (λ y. act_of y t a) (act_both e bytes exchanged t a n)
    acts_both t (ExchangedAct.sets {b} {b'} p) =
        as_held (λ y. act_of y t (set_record b)) (λ y. act_of y t (set_record b')) (set_both e bytes exchanged p t)
    acts_both t (ExchangedAct.writes {b} {b'} p) =
        as_held (λ y. act_of y t (write_error b)) (λ y. act_of y t (write_error b')) (write_both e bytes exchanged p t)

    pub sends_both : (t : ℕ) (v : List ℕ) → Steps (λ y. send_of y t v) (λ y. send_of y t v)
    sends_both t v = as_held (λ y. send_of y t v) (λ y. send_of y t v) (send_both e bytes exchanged t v)

    pub delivers_both : (t : ℕ) (f : Fields) (b b' : List ℕ) → Bodies P f b b'
        → ((is f.command K.ReadErrorInfo && f.ack) ≡ true → reads_record c ≡ true)
        → Steps (λ y. deliver_of y t f b) (λ y. deliver_of y t f b')
    delivers_both t f b b' H reads =
        as_held (λ y. deliver_of y t f b) (λ y. deliver_of y t f b') (deliver_held e bytes exchanged t f b b' H reads)
