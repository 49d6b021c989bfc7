-- Each call at the master keeps the relation to the invariant.
use mathlib.Core.Path.{◌≡◌, refl, sym, ap, subst, ◌∙◌}
use Rattle.std.specs.Prelude.{None, Option, Some, ℕ}
use mathlib.Core.Bool.{Bool, true, false, cond, true≢false, false≢true}
use mathlib.Core.List.{List, [], ◌∷◌, ◌++◌}
use mathlib.Core.Logic.{⊎_elim}
use Prim.Native.Nat.{ℕ, suc, ◌+◌, ◌-◌, ◌%◌, ◌^◌, ◌≤◌, ◌<◌}
use native.Mathlib.Omega.{arith}
use borrow.Author.Tests.{eqb-true}
use Rattle.frame.specs.declared.Command.{Command}
use Rattle.frame.specs.declared.Command.TheVariants as K
use Rattle.frame.specs.declared.Fields.{Fields}
use Rattle.frame.specs.Control.{is, code_of, may_be_busy, narrowed}
use Rattle.endpoint.specs.declared.Settings.{Settings}
use Rattle.endpoint.specs.declared.State.{State}
use Rattle.endpoint.specs.declared.State.TheVariants.{Close, Starting, EstablishPending, Establish, ParamVerify}
use Rattle.endpoint.specs.declared.State.TheVariants.{FuncRunning, RefreshPending, Refresh, Terminate}
use Rattle.endpoint.specs.declared.State.TheVariants.{TerminateMore}
use Rattle.endpoint.specs.declared.Timestamps.{Timestamps}
use Rattle.endpoint.specs.declared.Queue.{Queue}
use Rattle.endpoint.specs.declared.Station.{Station}
use Rattle.endpoint.specs.Endpoint.{Endpoint, Words}
use Rattle.endpoint.specs.Table.{is_state, is_setup, next_of, state_to, request_of}
use Rattle.endpoint.specs.Updates.{with_pending, with_measured, with_answered}
use Rattle.endpoint.specs.Due.{is_waiting, queued_in, is_command_due, request_due, last_step, refresh_due, awaited_in}
use Rattle.endpoint.specs.Time.{span, minus, is_above, is_too_far_ahead, is_expired, ended_of, allowance_of, counted_age}
use Rattle.endpoint.specs.Time.{held_age, time_of, age_of}
use Rattle.transitions.specs.ByCall.{session_from, started_of, restarted_of, requested_of, refresh_sent_of, measurement_sent_of}
use Rattle.transitions.specs.ByCall.{stopped_of}
use Rattle.transitions.specs.ByFrame.{refreshed_of, measured_by, session_by, confirmed_of, due_again_of, performed_of}
use Rattle.transitions.specs.ByFrame.{measurement_by, measurement_heard_of}
use Rattle.steps.specs.Frames.{setup_data, data_of, due_data, baseline_of, request_fields, measurement_fields, refresh_fields}
use Rattle.steps.specs.Calls.{is_fail_safe, shown_of}
use Rattle.steps.specs.Frames.{disconnect_fields, padded_of, session_of, session_with}
use Rattle.steps.specs.Laws.{RequestSent, GoDue, MeasurementSent, RefreshSent, StopDone, ReplyTaken, MeasurementHeard}
use Rattle.steps.specs.Laws.{RefreshTaken}
use Rattle.steps.proofs.Dispatch.{cond_false}
use Rattle.steps.proofs.Keeps.{bcase}
use Rattle.link.specs.Clocks.{Reading}
use Rattle.link.specs.Runs.{Sent, sent_at, Grant}
use Rattle.link.proofs.Marks.{Mark, mark, at, snoc, Has}
use Rattle.link.proofs.Invariant.{limit, MasterTerms, SlaveTerms, Master, MPhase, rest_m, live_m, none_m}
use Rattle.link.proofs.Invariant.{asked, got, Inv, MPh, GoOf, phased_m, wrote_m, connected_m, restarted_m}
use Rattle.link.proofs.Invariant.{took_m, frame_m, HeldByM}
use Rattle.link.proofs.Kept.{m_phase, m_ends, m_restarts, m_connects, m_got, m_leaves, m_sends, m_asks, m_goes}
use Rattle.link.proofs.Kept.{m_closes, m_takes, held_rises_m}
use Rattle.link.proofs.Bounds.{shown_m, m_shows, m_ahead}
use Rattle.link.proofs.Relation.{master_terms, slave_terms, numbered, who_of, mark_of, marks, top_of, above_top, RelM}
use Rattle.link.proofs.Relation.{LiveAtM, Honest, Linked, setup_timer, refresh_timer, go_timer, master_time_law}
use Rattle.link.proofs.Relation.{too_far, master_allows, not_late, not_ahead, told_of, narrowed_again}
use Rattle.link.proofs.Ages.{Young}
use Rattle.link.proofs.Entries.{marks_snoc, honest_snoc, is_eq, session_eq, Handed, in_log, the_mark}
use Rattle.link.proofs.Entries.{marked_code, marked_stamp, marked_body, marked_session, marked_travels}
use Rattle.link.proofs.Shown.{ShownAt, margin_at, in_refresh_law, held_shown}
use Rattle.link.proofs.Codes.{go_due, go_baseline, due_not_refresh, setup_not_refresh, refresh_not_setup}
use Rattle.link.proofs.Codes.{pending_setup, busy_due, command_due}

-- nothing is pending and something is
nothing_asked : {A : Type 0} (p : Option ℕ) (s : ℕ) → p ≡ None → p ≡ Some s → A
nothing_asked p s h k = let z : ◌≡◌ {A = ℕ} 0 1 = cc in absurd (omega arith)

module _ {shift : ℕ} {calls : List Reading} {sm ss : Settings} {loads : ℕ} {given : List Grant} {l : List Sent}
    {em es : Endpoint} {tm ts : ℕ} (t : ℕ) (lim : t ≤ limit)
    (L : Linked shift calls sm ss loads given (t + shift) l em es tm ts) where
  -- the terms of either end
  abbrev TM : MasterTerms
  TM = master_terms shift sm

  abbrev TS : SlaveTerms
  TS = slave_terms calls ss

  -- what is kept, of the log, the endpoint and the place last taken
  abbrev AtM : List Sent → Endpoint → ℕ → Type 0
  AtM x e n = Linked shift calls sm ss loads given (t + shift) x e es n ts

  abbrev Phased : MPhase → Type 0
  Phased f = MPh TM (t + shift) (marks l) L.master.held f

  role : em.settings.slave ≡ false
  role = ap (λ (s : Settings). s.slave) L.set_m ∙ L.paired.master

  time : time_of em t ≡ t
  time = master_time_law em t role lim

  -- the endpoint becomes another, and nothing is written
  become : (e : Endpoint) {n : ℕ} {M : Master} → e.settings ≡ sm → RelM e n M
      → Inv TM TS (t + shift) given (marks l) M L.slave → AtM l e n
  become e {n} {M} s r v = record {
    master = M;
    slave = L.slave;
    paired = L.paired;
    set_m = s;
    set_s = L.set_s;
    rel_m = r;
    rel_s = L.rel_s;
    honest = L.honest;
    inv = v;
  }

  -- one that waits for nothing
  idle : (e : Endpoint) (M : Master) → numbered (session_of e) ≡ M.session → top_of e.timestamps.sent ≡ M.next_out
      → top_of e.timestamps.accepted ≡ M.next_in → tm ≡ M.held → is_state e.state Refresh ≡ false
      → (is_setup e.state ≡ true → e.setup.pending ≡ None) → is_state e.state RefreshPending ≡ false
      → RelM e tm M
  idle e M m o i h r n k = record {
    session = m;
    next_out = o;
    next_in = i;
    held = h;
    live = λ h. absurd (true≢false (sym h ∙ r));
    pend = λ h x d. nothing_asked e.setup.pending x (n h) d;
    ready = λ h d. absurd (true≢false (sym h ∙ k));
  }

  -- that keeps its session number, and what it remembers of timestamps
  rest : (e : Endpoint) → e.settings ≡ sm → numbered (session_of e) ≡ numbered (session_of em)
      → top_of e.timestamps.sent ≡ top_of em.timestamps.sent
      → top_of e.timestamps.accepted ≡ top_of em.timestamps.accepted → is_state e.state Refresh ≡ false
      → (is_setup e.state ≡ true → e.setup.pending ≡ None) → is_state e.state RefreshPending ≡ false
      → AtM l e tm
  rest e s m o i r n k =
      let q = L.rel_m in
      become e s
      (idle e (phased_m L.master rest_m none_m) (m ∙ q.session) (o ∙ q.next_out) (i ∙ q.next_in) q.held r n k)
      (m_phase L.inv rest_m none_m tt tt)

  pub ended_m : AtM l (ended_of em) tm
  ended_m = rest (ended_of em) L.set_m refl refl refl refl (λ h. absurd (false≢true h)) refl

  pub started_m : AtM l (started_of em t) tm
  started_m = rest (started_of em t) L.set_m refl refl refl refl (λ h. refl) refl

  -- a restart: the session number is forgotten
  pub restarted_m_law : (number : ℕ) → AtM l (restarted_of em number) tm
  restarted_m_law number =
      let q = L.rel_m in
      become (restarted_of em number) L.set_m
      (idle (restarted_of em number) (restarted_m L.master)
      (ap (λ (b : Bool). numbered (narrowed (session_from b number))) role) q.next_out q.next_in q.held
      refl (λ h. absurd (false≢true h)) refl)
      (m_restarts L.inv)

  pub told_m : (s : Station) (q : Queue) (w x : Words) → AtM l (told_of em s q w x) tm
  told_m s q w x =
      let r = L.rel_m in
      become (told_of em s q w x) L.set_m
      (record {
        session = r.session;
        next_out = r.next_out;
        next_in = r.next_in;
        held = r.held;
        live = λ h. let v = r.live h in record {
          value = v.value;
          phase = v.phase;
          holds = v.holds;
          asks = v.asks;
          closes = v.closes;
        };
        pend = λ h y d. let a = r.pend h y d in
            record { since = a.since; rests = a.rests; measuring = a.measuring };
        ready = λ h d. let g = r.ready h d in record { measuring = g.measuring; since = g.since };
      })
      L.inv

  -- in Refresh: what a step leaves that changes at most the measurement
  module _ (r : is_state em.state Refresh ≡ true) where
    no_setup : {A : Type 0} → is_setup em.state ≡ true → A
    no_setup h = absurd (true≢false (sym h ∙ refresh_not_setup em.state r))

    still_live : (e : Endpoint) (M : Master) → e.state ≡ em.state → numbered (session_of e) ≡ M.session
        → top_of e.timestamps.sent ≡ M.next_out → top_of e.timestamps.accepted ≡ M.next_in → tm ≡ M.held
        → LiveAtM e M → RelM e tm M
    still_live e M s n o i h v = record {
      session = n;
      next_out = o;
      next_in = i;
      held = h;
      live = λ x. v;
      pend = λ x. no_setup (ap is_setup (sym s) ∙ x);
      ready = λ x. no_setup (ap is_setup (sym s) ∙ pending_setup e.state x);
    }

    -- a measurement ends: none is under way
    closed_m : AtM l (with_pending None (with_answered false em)) tm
    closed_m =
        let q = L.rel_m in
        let v = q.live r in
        let o = with_pending None (with_answered false em) in
        let M = phased_m L.master L.master.phase none_m in
        become o {M = M} L.set_m
        (still_live o M refl q.session q.next_out q.next_in q.held
        (record {
          value = v.value;
          phase = v.phase;
          holds = v.holds;
          asks = λ a s y. nothing_asked None s refl y;
          closes = λ a. absurd (false≢true a);
        }))
        (m_ends L.inv)

  -- the mark of a frame that is written, of whatever session
  abbrev written : ℕ → ℕ → List ℕ → Option ℕ → Mark
  written code baseline body n = frame_m TM L.slave code t baseline body (numbered n)

  ep : loads ≡ L.slave.epoch
  ep = L.rel_s.epoch

  -- its timestamp is above the last sent
  above_sent : is_above em.timestamps.sent (time_of em t) ≡ true → L.master.next_out ≤ t
  above_sent h =
      let z = above_top em.timestamps.sent (time_of em t) h in
      let y = time in
      let o = L.rel_m.next_out in
      omega arith

  -- the endpoint is then another
  wrote : (e : Endpoint) (w : Sent) (code baseline : ℕ) (body : List ℕ) (n : Option ℕ) (M : Master)
      → e.settings ≡ sm → mark_of w ≡ written code baseline body n → Honest sm w
      → Inv TM TS (t + shift) given (snoc (marks l) (written code baseline body n)) M L.slave → RelM e tm M
      → AtM (l ++ (w ∷ [])) e tm
  wrote e w code baseline body n M s m h v r = record {
    master = M;
    slave = L.slave;
    paired = L.paired;
    set_m = s;
    set_s = L.set_s;
    rel_m = r;
    rel_s = L.rel_s;
    honest = honest_snoc sm l w L.honest h;
    inv = subst (λ x. Inv TM TS (t + shift) given x M L.slave) (sym (marks_snoc l w ∙ ap (snoc (marks l)) m)) v;
  }

  -- OBL has 16 bits
  few : em.settings.roundtrip ≤ 65535
  few = subst (λ (s : Settings). s.roundtrip ≤ 65535) (sym L.set_m) L.inv.small_m.trip

  -- the request that is due
  module _ (value : List ℕ) (d : RequestSent em t value) (x : is_expired em t ≡ false) where
    abbrev pub asking : Sent
    asking = record {
      slave = false;
      moment = t + shift;
      loads = loads;
      fields = request_fields em t;
      body = due_data em;
      lent = Some value;
    }

    abbrev code : ℕ
    code = code_of (request_due em)

    abbrev baseline : ℕ
    baseline = baseline_of (request_due em) t em.setup.measured

    abbrev session : Option ℕ
    session = session_with em (request_due em)

    asked_mark : mark_of asking ≡ written code baseline (due_data em) session
    asked_mark = λ i. mark 0 code (time i) baseline (t + shift) (due_data em) (numbered session) (ep i)

    -- an S-Connect request carries none
    asked_session : (b : Bool) → narrowed (cond b None (session_of em)) ≡ cond b None (session_of em)
    asked_session true = refl
    asked_session false = narrowed_again em.session

    asked_honest : Honest sm asking
    asked_honest = record {
      writer = refl;
      value = λ h. absurd (true≢false (sym h ∙ due_not_refresh em.setup.queue em.state));
      busy = λ h. absurd (false≢true h);
      session = asked_session (is (request_due em) K.Connect);
      confirms = λ a h. ap (data_of em) (is_eq (request_due em) K.ConfirmNetwork h)
          ∙ ap (λ (s : Settings). setup_data s K.ConfirmNetwork) L.set_m;
    }

    go_asked : code ≡ 254 → Has (GoOf TM (marks l) (written code baseline (due_data em) session)) (marks l)
    go_asked h =
        let k = go_due em.setup.queue em.state h in
        let g = L.rel_m.ready k d.idle in
        let b = go_baseline t em.setup.measured em.setup.queue em.state k in
        let u = setup_timer em t x d.setup in
        let r = few in
        let i = g.since in
        m_goes L.inv t em.setup.measured code baseline (due_data em) (numbered session) g.measuring refl
        (above_sent d.above) (omega arith)

    pub requested_m : AtM (l ++ (asking ∷ [])) (requested_of em t) tm
    requested_m =
        let q = L.rel_m in
        let n = setup_not_refresh em.state d.setup in
        wrote (requested_of em t) asking code baseline (due_data em) session (wrote_m L.master t rest_m (asked t))
        L.set_m asked_mark asked_honest
        (m_asks L.inv t code baseline (due_data em) (numbered session) rest_m refl (omega arith)
        (above_sent d.above) go_asked tt)
        (record {
          session = q.session;
          next_out = ap suc time;
          next_in = q.next_in;
          held = q.held;
          live = λ h. absurd (true≢false (sym h ∙ n));
          pend = λ h s e. let z : s ≡ t = (let y : time_of em t ≡ s = cc in sym y ∙ time) in record
              { since = z; rests = refl; measuring = ap asked (sym z) };
          ready = λ h e. nothing_asked (Some (time_of em t)) (time_of em t) e refl;
        })

  -- ---- in Refresh
  -- S-Refresh with the lent value
  module _ (value : List ℕ) (d : RefreshSent em t value) where
    abbrev pub refreshing : Sent
    refreshing = record {
      slave = false;
      moment = t + shift;
      loads = loads;
      fields = refresh_fields em t;
      body = value;
      lent = Some value;
    }

    refresh_mark : mark_of refreshing ≡ written 255 0 value (session_of em)
    refresh_mark = λ i. mark (cond (role i) 2 0) 255 (time i) 0 (t + shift) value (numbered (session_of em)) (ep i)

    pub refresh_sent_m : AtM (l ++ (refreshing ∷ [])) (refresh_sent_of em t) tm
    refresh_sent_m =
        let q = L.rel_m in
        let v = q.live d.refresh in
        let M = wrote_m L.master t L.master.phase L.master.measuring in
        wrote (refresh_sent_of em t) refreshing 255 0 value (session_of em) M L.set_m refresh_mark
        (record {
          writer = role;
          value = λ h. refl;
          busy = λ h. absurd (false≢true h);
          session = narrowed_again em.session;
          confirms = λ a h. absurd (false≢true h);
        })
        (m_sends L.inv t 255 value (numbered (session_of em)) refl (omega arith) (above_sent d.above)
        (λ h. omega arith) (λ h. omega arith))
        (still_live d.refresh (refresh_sent_of em t) M refl q.session (ap suc time) q.next_in q.held
        (record { value = v.value; phase = v.phase; holds = v.holds; asks = v.asks; closes = v.closes }))

  -- S-RefreshMO, or S-RefreshGO once it was answered
  module _ (value : List ℕ) (d : MeasurementSent em t value) where
    abbrev pub measuring : Command → Sent
    measuring k = record {
      slave = false;
      moment = t + shift;
      loads = loads;
      fields = measurement_fields em k t;
      body = setup_data em.settings k;
      lent = Some value;
    }

    measuring_mark : (k : Command) → mark_of (measuring k)
        ≡ written (code_of k) (baseline_of k t em.setup.measured) (setup_data em.settings k) (session_of em)
    measuring_mark k = λ i. mark 0 (code_of k) (time i) (baseline_of k t em.setup.measured) (t + shift)
        (setup_data em.settings k) (numbered (session_of em)) (ep i)

    measuring_honest : (k : Command) → is k K.Refresh ≡ false → is k K.ConfirmNetwork ≡ false
        → Honest sm (measuring k)
    measuring_honest k r n = record {
      writer = refl;
      value = λ h. absurd (true≢false (sym h ∙ r));
      busy = λ h. absurd (false≢true h);
      session = narrowed_again em.session;
      confirms = λ a h. absurd (true≢false (sym h ∙ n));
    }

    -- what is kept of a frame that is written, by its command
    abbrev Measured : Command → Type 0
    Measured k = AtM (l ++ (measuring k ∷ [])) (measurement_sent_of em k t) tm

    -- another measurement begins; a late one may still stand
    mo_sent : Measured K.RefreshMo
    mo_sent =
        let q = L.rel_m in
        let v = q.live d.refresh in
        let M = wrote_m L.master t L.master.phase (asked t) in
        wrote (measurement_sent_of em K.RefreshMo t) (measuring K.RefreshMo) 253 0 _ (session_of em) M L.set_m
        (measuring_mark K.RefreshMo) (measuring_honest K.RefreshMo refl refl)
        (m_asks L.inv t 253 0 (setup_data em.settings K.RefreshMo) (numbered (session_of em)) L.master.phase
        refl (omega arith) (above_sent d.above) (λ h. absurd (omega arith)) L.inv.master.phase)
        (still_live d.refresh (measurement_sent_of em K.RefreshMo t) M refl q.session (ap suc time) q.next_in
        q.held
        (record {
          value = v.value;
          phase = v.phase;
          holds = v.holds;
          asks = λ y s e. let z : s ≡ t = (let y : time_of em t ≡ s = cc in sym y ∙ time) in ap asked (sym z);
          closes = λ y. absurd (false≢true y);
        }))

    go_sent : GoDue em t → Measured K.RefreshGo
    go_sent w =
        let q = L.rel_m in
        let v = q.live d.refresh in
        let M = wrote_m L.master t L.master.phase none_m in
        let m2 = em.setup.measured in
        let last : last_step em.setup.pending m2 ≡ m2 = ap (λ (p : Option ℕ). last_step p m2) w.idle in
        let u = go_timer em t w.due in
        let r = few in
        let b : (t - m2) % 65536 ≡ t - m2 = omega arith in
        wrote (measurement_sent_of em K.RefreshGo t) (measuring K.RefreshGo) 254 (t - m2) _ (session_of em) M L.set_m
        (measuring_mark K.RefreshGo
        ∙ ap (λ (o : ℕ). written 254 o (setup_data em.settings K.RefreshGo) (session_of em)) b)
        (measuring_honest K.RefreshGo refl refl)
        (m_closes L.inv t m2 (setup_data em.settings K.RefreshGo) (numbered (session_of em))
        (v.closes w.answered w.idle) refl (omega arith) (above_sent d.above))
        (still_live d.refresh (measurement_sent_of em K.RefreshGo t) M refl q.session (ap suc time) q.next_in
        q.held
        (record {
          value = v.value;
          phase = v.phase;
          holds = v.holds;
          asks = λ y. absurd (true≢false (sym w.answered ∙ y));
          closes = λ y e. nothing_asked (Some (time_of em t)) (time_of em t) e refl;
        }))

    pub measurement_sent_m : Measured (refresh_due em t)
    measurement_sent_m =
        ⊎_elim (λ (w : GoDue em t). subst Measured (sym w.due) (go_sent w)) (λ q. subst Measured (sym q) mo_sent)
        d.due

  -- S-Disconnect
  module _ (d : StopDone em t) where
    abbrev pub leaving : Sent
    leaving = record {
      slave = false;
      moment = t + shift;
      loads = loads;
      fields = disconnect_fields em t;
      body = setup_data em.settings K.Disconnect;
      lent = None;
    }

    abbrev zero_word : List ℕ
    zero_word = setup_data em.settings K.Disconnect

    leaving_mark : mark_of leaving ≡ written 249 0 zero_word (session_of em)
    leaving_mark = λ i. mark 0 249 (time i) 0 (t + shift) zero_word (numbered (session_of em)) (ep i)

    stop_stamp : top_of (stopped_of em t).timestamps.sent ≡ suc t
    stop_stamp = ap (λ (b : Timestamps). top_of b.sent) (cond_false em.settings.slave _ _ role) ∙ ap suc time

    stop_accepted : top_of (stopped_of em t).timestamps.accepted ≡ top_of em.timestamps.accepted
    stop_accepted = ap (λ (b : Timestamps). top_of b.accepted) (cond_false em.settings.slave _ _ role)

    pub stopped_m : AtM (l ++ (leaving ∷ [])) (stopped_of em t) tm
    stopped_m =
        let q = L.rel_m in
        wrote (stopped_of em t) leaving 249 0 zero_word (session_of em) (wrote_m L.master t rest_m none_m) L.set_m
        leaving_mark
        (record {
          writer = refl;
          value = λ h. absurd (false≢true h);
          busy = λ h. absurd (false≢true h);
          session = narrowed_again em.session;
          confirms = λ a h. absurd (false≢true h);
        })
        (m_leaves L.inv t 249 zero_word (numbered (session_of em)) refl (omega arith) (above_sent (d.above role))
        (λ h. omega arith))
        (idle (stopped_of em t) (wrote_m L.master t rest_m none_m) q.session stop_stamp (stop_accepted ∙ q.next_in)
        q.held refl (λ h. absurd (false≢true h)) refl)

  -- ---- a frame of the log, at place k, that the slave wrote
  module _ (f : Fields) (body : List ℕ) (k : ℕ) (g : Handed given f body l k) (slaves : f.application ≡ true) where
    who_is : (b : Bool) → is f.command K.Refresh ≡ b → who_of f ≡ cond b 2 1
    who_is b h = (λ i. cond (slaves i) (cond (h i) 2 1) 0)

    -- the reply to the pending request
    module _ (d : ReplyTaken em t f body) (x : is_expired em t ≡ false) where
      due : f.command ≡ request_due em
      due = is_eq f.command (request_due em) d.command

      not_refresh : is f.command K.Refresh ≡ false
      not_refresh = ap (λ (q : Command). is q K.Refresh) due
          ∙ due_not_refresh em.setup.queue em.state

      marked_reply : (at (marks l) k).who ≡ 1
      marked_reply = ap (λ (y : Mark). y.who) (the_mark g) ∙ who_is false not_refresh

      -- no queued command is due: the reply leads on
      module _ (n : is_command_due em ≡ false) where
        next_due : request_due em ≡ request_of em.state
        next_due = cond_false (is_command_due em) (queued_in em.setup.queue) (request_of em.state) n

        leads_to : (s : State) → em.state ≡ s → (confirmed_of em t f).state ≡ state_to (next_of (request_of s) s) s
        leads_to s e = ap (λ (k : Command). state_to (next_of k em.state) em.state) next_due
            ∙ ap (λ (y : State). state_to (next_of (request_of y) y) y) e

        -- the session number comes with S-Connect's, and stays with the others
        session_by_law : (s : State) → em.state ≡ s
            → session_by em f ≡ cond (is (request_of s) K.Connect) f.subconnection em.session
        session_by_law s e = ap (λ (k : Command). cond (is k K.Connect) f.subconnection em.session)
            (next_due ∙ ap request_of e)

        keeps_session : (s : State) → em.state ≡ s → is (request_of s) K.Connect ≡ false
            → numbered (session_of (confirmed_of em t f)) ≡ numbered (session_of em)
        keeps_session s e h = ap (λ (n : Option ℕ). numbered (narrowed n))
            (session_by_law s e ∙ ap (λ (b : Bool). cond b f.subconnection em.session) h)

        before : (s : State) → em.state ≡ s → is (request_of s) K.Connect ≡ false
            → is_state (state_to (next_of (request_of s) s) s) Refresh ≡ false
            → is_state (state_to (next_of (request_of s) s) s) RefreshPending ≡ false → AtM l (confirmed_of em t f) tm
        before s e k a b =
            rest (confirmed_of em t f) L.set_m (keeps_session s e k) refl refl
            (ap (λ (y : State). is_state y Refresh) (leads_to s e) ∙ a)
            (λ z. refl) (ap (λ (y : State). is_state y RefreshPending) (leads_to s e) ∙ b)

        -- S-Connect's: its number
        connected_m_law : em.state ≡ Starting → AtM l (confirmed_of em t f) tm
        connected_m_law e =
            let q = L.rel_m in
            let a = q.pend d.setup f.timestamp d.pending in
            let own : narrowed f.subconnection ≡ f.subconnection =
            subst (λ (y : Fields). narrowed y.subconnection ≡ y.subconnection) g.found.fields
            (L.honest k g.found.there).session in
            become (confirmed_of em t f) L.set_m
            (idle (confirmed_of em t f) (connected_m L.master (at (marks l) k))
            (ap (λ (n : Option ℕ). numbered (narrowed n)) (session_by_law Starting e) ∙ ap numbered own
            ∙ sym (marked_session g))
            q.next_out q.next_in q.held (ap (λ (y : State). is_state y Refresh) (leads_to Starting e))
            (λ z. refl) (ap (λ (y : State). is_state y RefreshPending) (leads_to Starting e)))
            (m_connects L.inv f.timestamp k a.rests a.measuring (in_log g) marked_reply (marked_stamp g))

        -- S-RefreshReady's: m2
        ready_m : (s : State) → em.state ≡ s → request_of s ≡ K.RefreshReady
            → state_to (next_of (request_of s) s) s ≡ RefreshPending
            → AtM l (confirmed_of em t f) tm
        ready_m s e asks to =
            let q = L.rel_m in
            let due_ready : request_due em ≡ K.RefreshReady = next_due ∙ ap request_of e ∙ asks in
            let a = q.pend d.setup f.timestamp d.pending in
            let u = setup_timer em t x d.setup in
            let r : em.settings.roundtrip ≡ sm.roundtrip = ap (λ (y : Settings). y.roundtrip) L.set_m in
            let i = a.since in
            let s2 : (confirmed_of em t f).state ≡ RefreshPending = leads_to s e ∙ to in
            let m2 : (confirmed_of em t f).setup.measured ≡ t =
            ap (λ (y : Command). measured_by y t em.setup.measured) due_ready in
            become (confirmed_of em t f) L.set_m
            (record {
              session = keeps_session s e (ap (λ (y : Command). is y K.Connect) asks) ∙ q.session;
              next_out = q.next_out;
              next_in = q.next_in;
              held = q.held;
              live = λ z. absurd (false≢true (sym (ap (λ (y : State). is_state y Refresh) s2) ∙ z));
              pend = λ z y o. nothing_asked None y refl o;
              ready = λ z y. record { measuring = ap got (sym m2); since = sym m2 };
            })
            (m_got L.inv t f.timestamp k a.measuring (omega arith) (omega arith) (in_log g) marked_reply
            (let n = marked_code g ∙ ap code_of (due ∙ due_ready) in record { from = omega arith; to = omega arith })
            (marked_stamp g))

        -- S-RefreshGO's: Refresh
        go_m : em.state ≡ RefreshPending → AtM l (confirmed_of em t f) tm
        go_m e =
            let q = L.rel_m in
            let s2 : (confirmed_of em t f).state ≡ Refresh = leads_to RefreshPending e in
            let entered : (confirmed_of em t f).measurement.answered ≡ false =
            ap (λ (y : Command). (measurement_by y t em.measurement).answered) (next_due ∙ ap request_of e) in
            become (confirmed_of em t f) {M = phased_m L.master (live_m t 0 None) none_m} L.set_m
            (record {
              session = keeps_session RefreshPending e refl ∙ q.session;
              next_out = q.next_out;
              next_in = q.next_in;
              held = q.held;
              live = λ z. record {
                value = None;
                phase = refl;
                holds = refl;
                asks = λ a y o. nothing_asked None y refl o;
                closes = λ a. absurd (false≢true (sym entered ∙ a));
              };
              pend = λ z y o. nothing_asked None y refl o;
              ready = λ z y. absurd (false≢true (sym (ap (λ (y : State). is_state y RefreshPending) s2) ∙ z));
            })
            (m_phase L.inv (live_m t 0 None) none_m (omega arith, tt) tt)

        confirmed : (s : State) → em.state ≡ s → is_setup s ≡ true
            → AtM l (confirmed_of em t f) tm
        confirmed Close e h = absurd (false≢true h)
        confirmed Starting e h = connected_m_law e
        confirmed EstablishPending e h = before EstablishPending e refl refl refl
        confirmed Establish e h = before Establish e refl refl refl
        confirmed ParamVerify e h = ready_m ParamVerify e refl refl
        confirmed FuncRunning e h = ready_m FuncRunning e refl refl
        confirmed RefreshPending e h = go_m e
        confirmed Refresh e h = absurd (false≢true h)
        confirmed Terminate e h = absurd (false≢true h)
        confirmed TerminateMore e h = absurd (false≢true h)

      -- a queued command's: nothing is pending, and m2 is not fixed yet
      performed : is_command_due em ≡ true → AtM l (performed_of em t) tm
      performed n =
          let u = command_due (is_waiting em.setup.queue) em.state n in
          rest (performed_of em t) L.set_m refl refl refl u.0 (λ h. refl) u.1

      -- Busy: the same
      due_again_law : f.busy ≡ true → AtM l (due_again_of em t) tm
      due_again_law b =
          let may : may_be_busy f.command ≡ true =
          subst (λ (y : Fields). y.busy ≡ true → may_be_busy y.command ≡ true) g.found.fields
          (L.honest k g.found.there).busy b in
          let u = busy_due em.setup.queue em.state (ap may_be_busy (sym due) ∙ may) in
          rest (due_again_of em t) L.set_m refl refl refl u.0 (λ h. refl) u.1

      abbrev Heard : Bool → Bool → Type 0
      Heard busy queued =
          AtM l (cond busy (due_again_of em t) (cond queued (performed_of em t) (confirmed_of em t f))) tm

      sound : (queued : Bool) → is_command_due em ≡ queued → Heard false queued
      sound true n = performed n
      sound false n = confirmed n em.state refl d.setup

      pub heard_m : Heard f.busy (is_command_due em)
      heard_m =
          bcase f.busy (λ b. subst (λ (y : Bool). Heard y (is_command_due em)) (sym b) (due_again_law b))
          (λ b. subst (λ (y : Bool). Heard y (is_command_due em)) (sym b) (sound (is_command_due em) refl))

    -- in Refresh the reply awaited of the measurement under way
    module _ (r : is_state em.state Refresh ≡ true) (d : MeasurementHeard em t f body) where
      abbrev Heard' : Command → Type 0
      Heard' k =
          AtM l (cond (is k K.RefreshMo) (with_pending None (with_measured t (with_answered true em)))
          (with_pending None (with_answered false em))) tm

      -- m2, and S-RefreshGO is due
      mo_heard : em.measurement.answered ≡ false → f.command ≡ K.RefreshMo → Heard' K.RefreshMo
      mo_heard a e =
          let q = L.rel_m in
          let v = q.live r in
          let o = with_pending None (with_measured t (with_answered true em)) in
          let M = phased_m L.master L.master.phase (got t) in
          let st = f.timestamp in
          let p = d.pending in
          let u = d.timely in
          let R : em.settings.roundtrip ≡ sm.roundtrip = ap (λ (y : Settings). y.roundtrip) L.set_m in
          become o {M = M} L.set_m
          (still_live r o M refl q.session q.next_out q.next_in q.held
          (record {
            value = v.value;
            phase = v.phase;
            holds = v.holds;
            asks = λ y. absurd (true≢false y);
            closes = λ y z. refl;
          }))
          (m_got L.inv t st k (v.asks a st p) (omega arith) (omega arith) (in_log g)
          (ap (λ (y : Mark). y.who) (the_mark g) ∙ who_is false (ap (λ (y : Command). is y K.Refresh) e))
          (let n = marked_code g ∙ ap code_of e in record { from = omega arith; to = omega arith }) (marked_stamp g))

      pub measurement_heard_m : AtM l (measurement_heard_of em t f) tm
      measurement_heard_m = by em.measurement.answered refl
        where
          by : (b : Bool) → em.measurement.answered ≡ b → AtM l (measurement_heard_of em t f) tm
          by true a =
              let e : f.command ≡ K.RefreshGo = is_eq f.command (awaited_in em) d.command
              ∙ ap (λ (y : Bool). cond y K.RefreshGo K.RefreshMo) a in
              subst Heard' (sym e) (closed_m r)
          by false a =
              let e : f.command ≡ K.RefreshMo = is_eq f.command (awaited_in em) d.command
              ∙ ap (λ (y : Bool). cond y K.RefreshGo K.RefreshMo) a in
              subst Heard' (sym e) (mo_heard a e)

    -- an S-Refresh of the slave
    module _ (r : is f.command K.Refresh ≡ true) where
      marked_who : (at (marks l) k).who ≡ 2
      marked_who = ap (λ (y : Mark). y.who) (the_mark g) ∙ who_is true r

      reckoned : age_of em t f.timestamp ≡ minus (t % span) (at (marks l) k).stamp
      reckoned =
          ap (λ (y : ℕ). minus y f.timestamp) (time ∙ omega arith)
          ∙ ap (minus (t % span)) (sym (marked_stamp g))

      -- a master allows R and 3 ahead
      allowance : allowance_of em.settings ≡ sm.roundtrip + 3
      allowance =
          let r : em.settings.roundtrip ≡ sm.roundtrip = ap (λ (y : Settings). y.roundtrip) L.set_m in
          master_allows em.settings role ∙ omega arith

      -- refused as too far ahead it is very old
      pub ahead_m : is_too_far_ahead (age_of em t f.timestamp) (allowance_of em.settings) ≡ true
          → (sent_at l k).moment + 2 ^ 46 < t + shift
      ahead_m h =
          let y = too_far (age_of em t f.timestamp) (allowance_of em.settings) h in
          let a = reckoned in
          let w = allowance in
          let o = ap (λ (x : Mark). x.moment) (the_mark g) in
          ⊎_elim (λ z. absurd (omega arith)) (λ z. omega arith)
          (m_ahead L.inv t k refl (omega arith) (in_log g) marked_who (omega arith))

      module _ (d : RefreshTaken em t f.subconnection f.timestamp body) where
        -- it has the master's number
        marked_own : (at (marks l) k).session ≡ L.master.session
        marked_own =
            marked_session g ∙ ap numbered (sym (session_eq (session_of em) f.subconnection d.session))
            ∙ L.rel_m.session

        young : Young (minus (t % span) (at (marks l) k).stamp) (sm.roundtrip + 3) sm.age
        young =
            let a = reckoned in
            let w = allowance in
            let g : em.settings.age ≡ sm.age = ap (λ (y : Settings). y.age) L.set_m in
            record {
              early = λ h. let z = not_ahead (age_of em t f.timestamp) (allowance_of em.settings) d.near
                  (omega arith) in omega arith;
              late = let y = ap counted_age a in
                  let z = not_late (age_of em t f.timestamp) em.settings.age d.young in
                  omega arith;
            }

        pub rises_m : tm ≤ k
        rises_m =
            let q = L.rel_m in
            let a = above_top em.timestamps.accepted f.timestamp d.above in
            let i = q.next_in in
            let s = marked_stamp g in
            let z = held_rises_m L.inv k (in_log g) marked_who (omega arith) marked_own (marked_travels g) in
            let h = q.held in
            omega arith

        pub refreshed_m : AtM l (refreshed_of em t f.timestamp (padded_of body)) (suc k)
        refreshed_m =
            let q = L.rel_m in
            let a = above_top em.timestamps.accepted f.timestamp d.above in
            let i = q.next_in in
            let s = marked_stamp g in
            let b = marked_body g in
            let v = q.live d.refresh in
            let e = refreshed_of em t f.timestamp (padded_of body) in
            let M = took_m L.master (at (marks l) k) k t in
            become e {M = M} L.set_m
            (record {
              session = q.session;
              next_out = q.next_out;
              next_in = ap suc (sym (marked_stamp g));
              held = refl;
              live = λ z. record {
                value = Some body;
                phase = λ j. live_m t (counted_age (sym reckoned j)) (Some (b j));
                holds = (refl, refl, d.width);
                asks = v.asks;
                closes = v.closes;
              };
              pend = λ z. no_setup d.refresh z;
              ready = λ z. no_setup d.refresh (pending_setup em.state z);
            })
            (m_takes L.inv t k refl (omega arith) (in_log g) marked_who
            (marked_code g ∙ eqb-true (code_of f.command) 255 r) (omega arith) young marked_own)

  -- ---- a show that is not fail-safe
  module _ (x : is_expired em t ≡ false) (n : is_fail_safe em ≡ false) where
    pub shown_m_law : ShownAt (marks l) 2 tm (t + shift) (held_age em t) (margin_at false em.settings)
        (shown_of em)
    shown_m_law =
        let v = L.rel_m.live (in_refresh_law em n) in
        let u = refresh_timer em t x (in_refresh_law em n) in
        let i : em.settings.interval ≡ sm.interval = ap (λ (y : Settings). y.interval) L.set_m in
        let r : em.settings.roundtrip ≡ sm.roundtrip = ap (λ (y : Settings). y.roundtrip) L.set_m in
        let o : em.settings.age ≡ sm.age = ap (λ (y : Settings). y.age) L.set_m in
        let s = L.inv.small_m.age in
        let s' = L.inv.small_m.hold in
        held_shown em (marks l) (HeldByM L.master.floor L.master.next_in) 2 tm t (t + shift) (shown_m TM)
        (margin_at false em.settings) v.value L.master.held n v.holds L.rel_m.held
        L.inv.master.held (λ y f. (f.who, f.code))
        (m_shows L.inv t em.since em.value.age v.value v.phase refl (omega arith))
        (λ k z. (L.inv.log.stamped k z).past)
        (record { most = omega arith; low = omega arith; high = omega arith; small = omega arith })
