-- Each call at the slave keeps the relation to the invariant.
use mathlib.Core.Path.{◌≡◌, refl, sym, ap, subst, ◌∙◌}
use Rattle.std.specs.Prelude.{None}
use Rattle.std.specs.Prelude.{Option, Some}
use mathlib.Core.Bool.{Bool, true, false, ◌||◌, not, cond, true≢false, false≢true}
use mathlib.Core.List.{List, [], ◌∷◌, ◌++◌}
use Prim.Native.Nat.{ℕ, suc, ◌+◌, ◌%◌, ◌≤◌, ◌<◌}
use native.Mathlib.Nat.{mod-eq_of_lt}
use native.Mathlib.Omega.{arith}
use lib.ListN.{length}
use borrow.Author.Tests.{eqb-true}
use Rattle.words.specs.Words.{word_at}
use Rattle.frame.specs.declared.Command.{Command}
use Rattle.frame.specs.declared.Command.TheVariants as K
use Rattle.frame.specs.declared.Fields.{Fields}
use Rattle.frame.specs.Control.{is, is_same, code_of, waits_for_station, may_be_busy, narrowed}
use mathlib.Mathlib.Data.Bool.Basic.{and_elim_right as and_right}
use Rattle.endpoint.specs.declared.Settings.{Settings}
use Rattle.endpoint.specs.declared.State.{State}
use Rattle.endpoint.specs.declared.State.TheVariants.{RefreshPending, Refresh}
use Rattle.endpoint.specs.declared.Timestamps.{Timestamps}
use Rattle.endpoint.specs.declared.Queue.{Queue}
use Rattle.endpoint.specs.declared.Measurement.{Measurement}
use Rattle.endpoint.specs.declared.Station.{Station}
use Rattle.endpoint.specs.Endpoint.{Endpoint, Words}
use Rattle.endpoint.specs.Table.{is_state, is_setup, is_no, next_of, state_to}
use Rattle.endpoint.specs.Due.{is_held_back}
use Rattle.endpoint.specs.Time.{span, minus, is_above, is_expired, ended_of, counted_age, held_age, offset_from, offset_life}
use Rattle.endpoint.specs.Time.{is_too_far_ahead, allowance_of, time_of, age_of}
use Rattle.endpoint.specs.Updates.{in_state}
use Rattle.transitions.specs.ByCall.{session_from, fresh_of, restarted_of, refresh_sent_of, stopped_of}
use Rattle.transitions.specs.ByFrame.{refreshed_of, measured_by, measurement_by, offset_by, advanced_of, remeasured_of}
use Rattle.transitions.specs.ByFrame.{adjusted_of, synchronized_of, ended_by, deferred_of}
use Rattle.steps.specs.Frames.{setup_data, refresh_fields, reply_fields, has_result, is_busy, reply_data}
use Rattle.steps.specs.Calls.{is_fail_safe, shown_of}
use Rattle.steps.specs.Frames.{padded_of, session_of}
use Rattle.steps.specs.Laws.{RefreshSent, RequestTaken, SynchronizationTaken, RefreshTaken}
use Rattle.steps.proofs.Dispatch.{cond_true}
use Rattle.steps.proofs.Keeps.{bcase}
use Rattle.link.specs.Clocks.{Reading}
use Rattle.link.specs.Runs.{Sent, Grant, grant}
use Rattle.link.specs.Fresh.{Paired}
use Rattle.link.proofs.Marks.{Mark, mark, at, snoc}
use Rattle.link.proofs.Ages.{Latest}
use Rattle.link.proofs.Invariant.{limit, MasterTerms, SlaveTerms, SPhase, rest_s, live_s, SOpen, none_s, armed}
use Rattle.link.proofs.Invariant.{Slave, Inv, granted, phased_s, heard_s, wrote_s, took_s, restarted_s, loaded_s}
use Rattle.link.proofs.Invariant.{reply_s, refresh_s, HeldByS}
use Rattle.link.proofs.Kept.{s_phase, s_restarts, s_load, s_hears, s_replies, s_arms, s_goes, s_goes_on}
use Rattle.link.proofs.Kept.{s_sends, s_takes, held_rises_s}
use Rattle.link.proofs.Bounds.{shown_s, s_shows, s_ahead}
use Rattle.link.proofs.Relation.{master_terms, slave_terms, small_of, numbered, mark_of, marks, top_of, above_top}
use Rattle.link.proofs.Relation.{LiveAtS, RelS, Honest, Linked, narrowed_again, roundtrip_in, told_of}
use Rattle.link.proofs.Relation.{setup_timer, refresh_timer, offset_timer, slave_time_law, too_far, slave_allows, not_late}
use Rattle.link.proofs.Entries.{marks_snoc, honest_snoc, is_eq, session_eq, Handed, in_log, the_mark}
use Rattle.link.proofs.Entries.{marked_code, marked_stamp, marked_body, marked_session, marked_travels}
use Rattle.link.proofs.Shown.{ShownAt, margin_at, in_refresh_law, held_shown}
use Rattle.link.proofs.Codes.{refresh_not_setup, pending_setup, target_of, leads, go_from, mo_from, held_from}
use Rattle.link.proofs.Codes.{Unfixed, is_established, refresh_established, not_established}
use Rattle.link.proofs.Codes.{stays_established, busy_may}

-- at the reading t, the last of its calls, and the moment now
module _ {shift : ℕ} {calls : List Reading} {sm ss : Settings} {loads : ℕ} {given : List Grant} {now : ℕ}
    {l : List Sent} {em es : Endpoint} {tm ts : ℕ} (t : ℕ) (lim : t ≤ limit) (ti : Latest calls t now)
    (L : Linked shift calls sm ss loads given now l em es tm ts) where
  -- the terms of either end
  abbrev TM : MasterTerms
  TM = master_terms shift sm

  abbrev TS : SlaveTerms
  TS = slave_terms calls ss

  -- what is kept, of the log, the endpoint and the place last taken
  abbrev AtS : List Sent → Endpoint → ℕ → Type 0
  AtS x e n = Linked shift calls sm ss loads given now x em e tm n

  role : es.settings.slave ≡ true
  role = ap (λ (s : Settings). s.slave) L.set_s ∙ L.paired.slave

  time : time_of es t ≡ (t + es.setup.offset) % span
  time = slave_time_law es t role

  -- the endpoint becomes another, and nothing is written; a restart gives a number
  become : (e : Endpoint) {g : List Grant} {n : ℕ} {S : Slave} → e.settings ≡ ss → RelS sm loads e n S
      → Inv TM TS now g (marks l) L.master S → Linked shift calls sm ss loads g now l em e tm n
  become e {S = S} s r v = record {
    master = L.master;
    slave = S;
    paired = L.paired;
    set_m = L.set_m;
    set_s = s;
    rel_m = L.rel_m;
    rel_s = r;
    honest = L.honest;
    inv = v;
  }

  -- one that waits for nothing
  idle : (e : Endpoint) (S : Slave) → session_of e ≡ Some S.number → loads ≡ S.epoch
      → top_of e.timestamps.sent ≡ S.next_out → top_of e.timestamps.accepted ≡ S.next_in → ts ≡ S.held
      → is_established e.state ≡ false → RelS sm loads e ts S
  idle e S m k o i h n =
      let u = not_established e.state n in
      record {
        number = m;
        epoch = k;
        next_out = o;
        next_in = i;
        held = h;
        live = λ h. absurd (true≢false (sym h ∙ u.0));
        ready = λ h. absurd (true≢false (sym h ∙ u.1));
        agreed = λ h. absurd (true≢false (sym h ∙ n));
      }

  -- that keeps its session number, and what it remembers of timestamps
  rest : (e : Endpoint) → e.settings ≡ ss → session_of e ≡ session_of es
      → top_of e.timestamps.sent ≡ top_of es.timestamps.sent
      → top_of e.timestamps.accepted ≡ top_of es.timestamps.accepted → is_established e.state ≡ false
      → AtS l e ts
  rest e s m o i n =
      let q = L.rel_s in
      become e s
      (idle e (phased_s L.slave rest_s none_s) (m ∙ q.number) q.epoch (o ∙ q.next_out) (i ∙ q.next_in) q.held n)
      (s_phase L.inv rest_s none_s tt tt)

  pub ended_s : AtS l (ended_of es) ts
  ended_s = rest (ended_of es) L.set_s refl refl refl refl

  -- a restart gives a number
  pub restarted_s_law : (number : ℕ)
      → Linked shift calls sm ss loads (grant number loads ∷ given) now l em (restarted_of es number) tm ts
  restarted_s_law number =
      let q = L.rel_s in
      let n = number % 65536 in
      become (restarted_of es number) L.set_s
      (idle (restarted_of es number) (restarted_s L.slave n)
      (ap (λ (b : Bool). narrowed (session_from b number)) role) q.epoch q.next_out q.next_in q.held refl)
      (subst (λ (k : ℕ). Inv TM TS now (granted n k ∷ given) (marks l) L.master (restarted_s L.slave n))
      (sym q.epoch) (s_restarts L.inv n))

  pub stopped_s : AtS l (stopped_of es t) ts
  stopped_s =
      let q = cond_true es.settings.slave es.timestamps _ role in
      rest (stopped_of es t) L.set_s refl (ap (λ (b : Timestamps). top_of b.sent) q)
      (ap (λ (b : Timestamps). top_of b.accepted) q) refl

  pub told_s : (s : Station) (q : Queue) (w x : Words) → AtS l (told_of es s q w x) ts
  told_s s k w x =
      let q = L.rel_s in
      become (told_of es s k w x) L.set_s
      (record {
        number = q.number;
        epoch = q.epoch;
        next_out = q.next_out;
        next_in = q.next_in;
        held = q.held;
        live = λ h. let v = q.live h in
            record { value = v.value; phase = v.phase; holds = v.holds; opens = v.opens };
        ready = λ h. let r = q.ready h in record { measuring = r.measuring; since = r.since };
        agreed = q.agreed;
      })
      L.inv

  -- in Refresh: what a step leaves that changes at most the measurement and the offset
  module _ (r : is_state es.state Refresh ≡ true) where
    still_live : (e : Endpoint) (S : Slave) → e.settings ≡ es.settings → e.state ≡ es.state
        → session_of e ≡ Some S.number → loads ≡ S.epoch → top_of e.timestamps.sent ≡ S.next_out
        → top_of e.timestamps.accepted ≡ S.next_in → ts ≡ S.held → LiveAtS e S → RelS sm loads e ts S
    still_live e S z s n k o i h v = record {
      number = n;
      epoch = k;
      next_out = o;
      next_in = i;
      held = h;
      live = λ x. v;
      ready = λ x. absurd (true≢false (sym (ap is_setup (sym s) ∙ pending_setup e.state x)
          ∙ refresh_not_setup es.state r));
      agreed = λ x. ap (λ (y : Settings). y.roundtrip) z
          ∙ L.rel_s.agreed (refresh_established es.state r);
    }

  -- a frame is written, with the slave's number; the endpoint is then another
  nu : numbered (session_of es) ≡ suc L.slave.number
  nu = ap numbered L.rel_s.number

  ep : loads ≡ L.slave.epoch
  ep = L.rel_s.epoch

  wrote : (e : Endpoint) (w : Sent) (x : Mark) (S : Slave) → e.settings ≡ ss → mark_of w ≡ x → Honest sm w
      → RelS sm loads e ts S → Inv TM TS now given (snoc (marks l) x) L.master S
      → AtS (l ++ (w ∷ [])) e ts
  wrote e w x S s m h r v = record {
    master = L.master;
    slave = S;
    paired = L.paired;
    set_m = L.set_m;
    set_s = s;
    rel_m = L.rel_m;
    rel_s = r;
    honest = honest_snoc sm l w L.honest h;
    inv = subst (λ y. Inv TM TS now given y L.master S)
        (sym (marks_snoc l w ∙ ap (snoc (marks l)) m)) v;
  }

  -- the offset serves
  served : is_expired es t ≡ false → is_state es.state Refresh ≡ true → t ≤ es.measurement.reference + offset_life
  served x r = offset_timer es t x role r

  -- S-Refresh with the lent value
  module _ (value : List ℕ) (d : RefreshSent es t value) (x : is_expired es t ≡ false) where
    abbrev pub refreshing : Sent
    refreshing = record {
      slave = true;
      moment = now;
      loads = loads;
      fields = refresh_fields es t;
      body = value;
      lent = Some value;
    }

    refresh_mark : mark_of refreshing ≡ refresh_s L.slave ((t + es.setup.offset) % span) now value
    refresh_mark = λ i. mark (cond (role i) 2 0) 255 (time i) 0 now value (nu i) (ep i)

    pub refresh_sent_s : AtS (l ++ (refreshing ∷ [])) (refresh_sent_of es t) ts
    refresh_sent_s =
        let q = L.rel_s in
        let v = q.live d.refresh in
        let a = above_top es.timestamps.sent (time_of es t) d.above in
        let y = time in
        let o = q.next_out in
        let S = wrote_s L.slave ((t + es.setup.offset) % span) in
        wrote (refresh_sent_of es t) refreshing _ S L.set_s refresh_mark
        (record {
          writer = role;
          value = λ h. refl;
          busy = λ h. absurd (false≢true h);
          session = narrowed_again es.session;
          confirms = λ a h. absurd (false≢true h);
        })
        (still_live d.refresh (refresh_sent_of es t) S refl refl q.number q.epoch (ap suc time) q.next_in
        q.held (record { value = v.value; phase = v.phase; holds = v.holds; opens = v.opens }))
        (s_sends L.inv t es.setup.offset es.measurement.reference es.since es.value.age value
        v.value v.phase ti (served x d.refresh) (omega arith))

  -- ---- a frame of the log, at place k, that the master wrote
  module _ (f : Fields) (body : List ℕ) (k : ℕ) (g : Handed given f body l k) (masters : f.application ≡ false) where
    marked_who : (at (marks l) k).who ≡ 0
    marked_who = ap (λ (y : Mark). y.who) (the_mark g)
        ∙ (λ i. cond (masters i) (cond (is f.command K.Refresh) 2 1) 0)

    marked_baseline : (at (marks l) k).baseline ≡ f.baseline
    marked_baseline = ap (λ (y : Mark). y.baseline) (the_mark g)

    small_stamp : f.timestamp < span
    small_stamp = let z = (L.inv.log.stamped k (in_log g)).small in let y = marked_stamp g in omega arith

    -- where it has the slave's number
    marked_own : is_same (session_of es) f.subconnection ≡ true → (at (marks l) k).session ≡ suc L.slave.number
    marked_own h = marked_session g ∙ ap numbered (sym (session_eq (session_of es) f.subconnection h)) ∙ nu

    -- ts_offset by S-RefreshGO
    offset : f.command ≡ K.RefreshGo
        → offset_from (at (marks l) k).stamp (at (marks l) k).baseline es.setup.measured ≡ offset_by es f
    offset e =
        (λ j. offset_from (marked_stamp g j) (marked_baseline j) es.setup.measured)
        ∙ sym (ap (λ (y : Command). cond (is y K.RefreshGo)
        (offset_from f.timestamp f.baseline es.setup.measured) es.setup.offset) e)

    module _ (a : is_above es.timestamps.accepted f.timestamp ≡ true) where
      next_below : L.slave.next_in ≤ (at (marks l) k).stamp
      next_below =
          let z = above_top es.timestamps.accepted f.timestamp a in
          let y = marked_stamp g in
          let o = L.rel_s.next_in in
          omega arith

      -- S-Disconnect: no reply
      pub heard_s_law : AtS l (ended_by es f.timestamp) ts
      heard_s_law =
          let q = L.rel_s in
          become (ended_by es f.timestamp) L.set_s
          (idle (ended_by es f.timestamp) (heard_s L.slave (at (marks l) k).stamp rest_s none_s) q.number
          q.epoch q.next_out (ap suc (sym (marked_stamp g))) q.held refl)
          (s_hears L.inv k next_below)

      -- a reply, with Busy or Error or neither, and its S-Data
      abbrev pub replying : Bool → Bool → List ℕ → Sent
      replying busy error said = record {
        slave = true;
        moment = now;
        loads = loads;
        fields = reply_fields es f busy error;
        body = said;
        lent = None;
      }

      module _ (busy error : Bool) (said : List ℕ) (may : busy ≡ true → may_be_busy f.command ≡ true)
          (n : is f.command K.Refresh ≡ false) where
        reply_mark : mark_of (replying busy error said)
            ≡ reply_s L.slave (code_of f.command) (at (marks l) k).stamp now said
        reply_mark =
            let s : f.timestamp % span ≡ (at (marks l) k).stamp = mod-eq_of_lt small_stamp
            ∙ sym (marked_stamp g) in
            λ i. mark (cond (n i) 2 1) (code_of f.command) (s i) 0 now said (nu i) (ep i)

        reply_honest : Honest sm (replying busy error said)
        reply_honest = record {
          writer = refl;
          value = λ h. absurd (true≢false (sym h ∙ n));
          busy = may;
          session = narrowed_again es.session;
          confirms = λ a h. absurd (true≢false a);
        }

        replied : (e : Endpoint) (phase : SPhase) (open' : SOpen) → e.settings ≡ ss
            → let S : Slave = heard_s L.slave (at (marks l) k).stamp phase open' in RelS sm loads e ts S
            → Inv TM TS now given
            (snoc (marks l) (reply_s L.slave (code_of f.command) (at (marks l) k).stamp now said))
            L.master S
            → AtS (l ++ (replying busy error said ∷ [])) e ts
        replied e phase open' s r v =
            wrote e (replying busy error said) _ (heard_s L.slave (at (marks l) k).stamp phase open') s reply_mark
            reply_honest r v

        -- the slave rests after its reply
        replied_rest : (e : Endpoint) → e.settings ≡ ss → session_of e ≡ session_of es
            → top_of e.timestamps.sent ≡ top_of es.timestamps.sent
            → top_of e.timestamps.accepted ≡ suc f.timestamp → Unfixed e.state
            → (is_established e.state ≡ true → e.settings.roundtrip ≡ sm.roundtrip)
            → AtS (l ++ (replying busy error said ∷ [])) e ts
        replied_rest e s m o i u a =
            let q = L.rel_s in
            replied e rest_s none_s s
            (record {
              number = m ∙ q.number;
              epoch = q.epoch;
              next_out = o ∙ q.next_out;
              next_in = i ∙ ap suc (sym (marked_stamp g));
              held = q.held;
              live = λ z. absurd (true≢false (sym z ∙ u.0));
              ready = λ z. absurd (true≢false (sym z ∙ u.1));
              agreed = a;
            })
            (s_replies L.inv k (code_of f.command) said rest_s none_s (in_log g) marked_who next_below tt tt)

      -- Busy 0
      plain : false ≡ true → may_be_busy f.command ≡ true
      plain h = absurd (false≢true h)

      pub unequal_s : is f.command K.Refresh ≡ false
          → AtS (l ++ (replying false true (reply_data es f.command false body) ∷ [])) (ended_by es f.timestamp) ts
      unequal_s n = replied_rest false true (reply_data es f.command false body) plain n (ended_by es f.timestamp)
          L.set_s refl refl refl (refl, refl) (λ h. absurd (false≢true h))

      -- S-WriteErrorInfo: its reply repeats its error record
      pub reported_s : is f.command K.Refresh ≡ false → (s : State) → is_established s ≡ false
          → AtS (l ++ (replying false false body ∷ [])) (in_state s (ended_by es f.timestamp)) ts
      reported_s n s u = replied_rest false false body plain n (in_state s (ended_by es f.timestamp)) L.set_s refl
          refl refl (not_established s u) (λ h. absurd (true≢false (sym h ∙ u)))

      -- a request that is done, before Refresh
      module _ (d : RequestTaken es t f body) (x : is_expired es t ≡ false) (n : is f.command K.Refresh ≡ false)
          (early : is_state es.state Refresh ≡ false) where
        abbrev busy : Bool
        busy = is_busy es f.command (length body)

        -- the station's result or its error record, or the request's own
        abbrev said : List ℕ
        said = reply_data es f.command true body

        may : busy ≡ true → may_be_busy f.command ≡ true
        may = busy_may es.station.notready (waits_for_station f.command) (is f.command K.InvokeFunc)
            (not (has_result es (length body)))

        to : (q : Command) → f.command ≡ q → (advanced_of es t f).state ≡ target_of q
        to q e =
            ap (λ (y : Option State). state_to y es.state) (leads f.command es.state d.turn)
            ∙ ap target_of e

        -- S-InitConfirmNetPrm has this end's own settings, and the master's
        agrees : is_established (advanced_of es t f).state ≡ true → es.settings.roundtrip ≡ sm.roundtrip
        agrees h =
            bcase (is f.command K.ConfirmNetwork)
            (λ q.
            let e = is_eq f.command K.ConfirmNetwork q in
            let own = d.contents (ap (λ (y : Command). is y K.InvokeFunc) e) ∙ ap (setup_data es.settings) e in
            let at-k = g.found in
            let theirs = (L.honest k at-k.there).confirms
            (ap (λ (y : Fields). y.application) at-k.fields ∙ masters)
            (ap (λ (y : Fields). is y.command K.ConfirmNetwork) at-k.fields ∙ q) in
            sym (roundtrip_in es.settings)
            ∙ ap (λ (b : List ℕ). word_at b 4) (sym own ∙ sym at-k.bodies ∙ theirs)
            ∙ roundtrip_in sm)
            (λ n. L.rel_s.agreed (stays_established f.command n
            (sym (ap is_established (to f.command refl)) ∙ h) es.state d.turn))

        -- S-RefreshReady: s2
        ready_s : f.command ≡ K.RefreshReady
            → AtS (l ++ (replying busy false said ∷ [])) (advanced_of es t f) ts
        ready_s e =
            let q = L.rel_s in
            let s2 = to K.RefreshReady e in
            let m2 : (advanced_of es t f).setup.measured ≡ t = ap
            (λ (y : Command). measured_by y t es.setup.measured) e in
            replied busy false said may n (advanced_of es t f) L.slave.phase (armed t) L.set_s
            (record {
              number = q.number;
              epoch = q.epoch;
              next_out = q.next_out;
              next_in = ap suc (sym (marked_stamp g));
              held = q.held;
              live = λ z. absurd (false≢true (sym (ap (λ (y : State). is_state y Refresh) s2) ∙ z));
              ready = λ z. record { measuring = ap armed (sym m2); since = sym m2 };
              agreed = agrees;
            })
            (s_arms L.inv t k (code_of f.command) said ti (omega arith) (in_log g) marked_who
            (let c = marked_code g ∙ ap code_of e in record { from = omega arith; to = omega arith }) next_below
            (marked_own (d.session (ap (λ (y : Command). is y K.Connect) e))) (marked_travels g))

        -- S-RefreshGO: ts_offset
        go_s : f.command ≡ K.RefreshGo
            → AtS (l ++ (replying busy false said ∷ [])) (advanced_of es t f) ts
        go_s e =
            let q = L.rel_s in
            let s2 = to K.RefreshGo e in
            let turn = ap (λ (y : Command). is_no (next_of y es.state)) (sym e) ∙ d.turn in
            let pending = go_from es.state early turn in
            let r = q.ready pending in
            let u = setup_timer es t x (pending_setup es.state pending) in
            let i = r.since in
            let R : es.settings.roundtrip ≡ ss.roundtrip = ap (λ (y : Settings). y.roundtrip) L.set_s in
            let m = ap (λ (y : Command). measurement_by y es.setup.measured es.measurement) e in
            replied busy false said may n (advanced_of es t f)
            (live_s (offset_from (at (marks l) k).stamp (at (marks l) k).baseline es.setup.measured)
            es.setup.measured t 0 None) none_s L.set_s
            (record {
              number = q.number;
              epoch = q.epoch;
              next_out = q.next_out;
              next_in = ap suc (sym (marked_stamp g));
              held = q.held;
              live = λ z. record {
                value = None;
                phase = λ j. live_s (offset e j) (sym m j).reference t 0 None;
                holds = refl;
                opens = λ a. absurd (false≢true (sym (ap (λ (y : Measurement). y.answered) m) ∙ a));
              };
              ready = λ z. absurd (false≢true (sym (ap (λ (y : State). is_state y RefreshPending) s2) ∙ z));
              agreed = agrees;
            })
            (s_goes L.inv t k (code_of f.command) es.setup.measured said r.measuring ti (omega arith)
            (in_log g) marked_who (marked_code g ∙ ap code_of e) next_below)

        plain_s : (q : Command) → f.command ≡ q → Unfixed (target_of q)
            → AtS (l ++ (replying busy false said ∷ [])) (advanced_of es t f) ts
        plain_s q e u =
            replied_rest busy false said may n (advanced_of es t f) L.set_s refl refl refl
            (subst Unfixed (sym (to q e)) u) agrees

        by_command_law : (q : Command) → f.command ≡ q
            → AtS (l ++ (replying busy false said ∷ [])) (advanced_of es t f) ts
        by_command_law K.Connect e = plain_s K.Connect e (refl, refl)
        by_command_law K.ConfirmNetwork e = plain_s K.ConfirmNetwork e (refl, refl)
        by_command_law K.VerifyStation e = plain_s K.VerifyStation e (refl, refl)
        by_command_law K.InvokeFunc e = plain_s K.InvokeFunc e (refl, refl)
        by_command_law K.ReadErrorInfo e = plain_s K.ReadErrorInfo e (refl, refl)
        by_command_law K.WriteErrorInfo e = plain_s K.WriteErrorInfo e (refl, refl)
        by_command_law K.RefreshReady e = ready_s e
        by_command_law K.RefreshMo e = absurd (mo_from es.state early
            (ap (λ (y : Command). is_no (next_of y es.state)) (sym e) ∙ d.turn))
        by_command_law K.RefreshGo e = go_s e
        by_command_law K.Refresh e = absurd (true≢false (sym (ap (λ (y : Command). is y K.Refresh) e) ∙ n))
        by_command_law K.Disconnect e = plain_s K.Disconnect e (refl, refl)

        advanced_s : AtS (l ++ (replying busy false said ∷ [])) (advanced_of es t f) ts
        advanced_s = by_command_law f.command refl

        -- held back: the slave rests after its Busy reply too
        deferred_s : is_held_back es f.command ≡ true
            → AtS (l ++ (replying busy false said ∷ [])) (deferred_of es t f) ts
        deferred_s b =
            let w = and_right es.station.notready (waits_for_station f.command) b in
            replied_rest busy false said may n (deferred_of es t f) L.set_s refl refl refl
            (held_from f.command w es.state d.turn) L.rel_s.agreed

        abbrev Answered : Bool → Type 0
        Answered held =
            AtS (l ++ (replying busy false said ∷ [])) (cond held (deferred_of es t f) (advanced_of es t f)) ts

        pub answered_s : Answered (is_held_back es f.command)
        answered_s =
            bcase (is_held_back es f.command) (λ b. subst Answered (sym b) (deferred_s b))
            (λ b. subst Answered (sym b) advanced_s)

      -- a measurement's, in Refresh
      module _ (r : is_state es.state Refresh ≡ true) (d : SynchronizationTaken es t f body)
          (n : is f.command K.Refresh ≡ false) where
        abbrev Synchronized : Command → Type 0
        Synchronized q =
            AtS (l ++ (replying false false body ∷ []))
            (cond (is q K.RefreshMo) (remeasured_of es t f) (adjusted_of es f)) ts

        -- S-RefreshMO: s2 of the measurement under way; the offset in use stays
        mo_s : f.command ≡ K.RefreshMo → Synchronized K.RefreshMo
        mo_s e =
            let q = L.rel_s in
            let v = q.live r in
            replied false false body plain n (remeasured_of es t f) L.slave.phase (armed t) L.set_s
            (still_live r (remeasured_of es t f) (heard_s L.slave (at (marks l) k).stamp L.slave.phase (armed t))
            refl refl q.number q.epoch q.next_out (ap suc (sym (marked_stamp g))) q.held
            (record { value = v.value; phase = v.phase; holds = v.holds; opens = λ a. refl }))
            (s_arms L.inv t k (code_of f.command) body ti (omega arith) (in_log g) marked_who
            (let c = marked_code g ∙ ap code_of e in record { from = omega arith; to = omega arith }) next_below
            (marked_own d.session) (marked_travels g))

        -- S-RefreshGO: ts_offset anew, of that s2
        adjusts_s : f.command ≡ K.RefreshGo → Synchronized K.RefreshGo
        adjusts_s e =
            let q = L.rel_s in
            let v = q.live r in
            let m2 = es.setup.measured in
            let o = offset_from (at (marks l) k).stamp (at (marks l) k).baseline m2 in
            let p = live_s o m2 es.since es.value.age v.value in
            let opened = v.opens (d.answered (ap (λ (y : Command). is y K.RefreshGo) e)) in
            replied false false body plain n (adjusted_of es f) p none_s L.set_s
            (still_live r (adjusted_of es f) (heard_s L.slave (at (marks l) k).stamp p none_s) refl refl q.number
            q.epoch q.next_out (ap suc (sym (marked_stamp g))) q.held
            (record {
              value = v.value;
              phase = ap (λ (y : ℕ). live_s y m2 es.since es.value.age v.value) (offset e);
              holds = v.holds;
              opens = λ a. absurd (false≢true a);
            }))
            (s_goes_on L.inv k (code_of f.command) m2 body es.setup.offset es.measurement.reference
            es.since es.value.age v.value v.phase opened (in_log g) marked_who
            (marked_code g ∙ ap code_of e) next_below)

        pub synchronized_s : AtS (l ++ (replying false false body ∷ [])) (synchronized_of es t f) ts
        synchronized_s =
            bcase (is f.command K.RefreshMo)
            (λ q. let e = is_eq f.command K.RefreshMo q in subst Synchronized (sym e) (mo_s e))
            (λ q.
            let e = is_eq f.command K.RefreshGo
            (ap (λ (y : Bool). y || is f.command K.RefreshGo) (sym q) ∙ d.joined) in
            subst Synchronized (sym e) (adjusts_s e))

    -- an S-Refresh of the master
    module _ (x : is_expired es t ≡ false) (r : is f.command K.Refresh ≡ true) where
      reckoned : age_of es t f.timestamp ≡ minus ((t + es.setup.offset) % span) (at (marks l) k).stamp
      reckoned =
          ap (λ (y : ℕ). minus y f.timestamp) time
          ∙ ap (minus ((t + es.setup.offset) % span)) (sym (marked_stamp g))

      -- it is not refused as too far ahead
      pub ahead_s : is_state es.state Refresh ≡ true → is_above es.timestamps.accepted f.timestamp ≡ true
          → is_too_far_ahead (age_of es t f.timestamp) (allowance_of es.settings) ≡ true → ⊥
      ahead_s z above h =
          let v = L.rel_s.live z in
          let y = too_far (age_of es t f.timestamp) (allowance_of es.settings) h in
          let a = reckoned in
          let w = slave_allows es.settings role in
          let u = refresh_timer es t x z in
          let I : es.settings.interval ≡ ss.interval = ap (λ (y : Settings). y.interval) L.set_s in
          let o = s_ahead L.inv t es.setup.offset es.measurement.reference es.since es.value.age
          v.value v.phase ti (omega arith) k (served x z) (in_log g) marked_who (next_below above)
          (omega arith) in
          omega arith

      module _ (d : RefreshTaken es t f.subconnection f.timestamp body) where
        young : counted_age (minus ((t + es.setup.offset) % span) (at (marks l) k).stamp) ≤ ss.age
        young =
            let a = ap counted_age reckoned in
            let h : es.settings.age ≡ ss.age = ap (λ (y : Settings). y.age) L.set_s in
            let z = not_late (age_of es t f.timestamp) es.settings.age d.young in
            omega arith

        pub rises_s : ts ≤ k
        rises_s =
            let q = L.rel_s in
            let z = held_rises_s L.inv k (in_log g) marked_who (next_below d.above) (marked_own d.session)
            (marked_travels g) in
            let h = q.held in
            omega arith

        pub refreshed_s : AtS l (refreshed_of es t f.timestamp (padded_of body)) (suc k)
        refreshed_s =
            let q = L.rel_s in
            let v = q.live d.refresh in
            let u = refresh_timer es t x d.refresh in
            let I : es.settings.interval ≡ ss.interval = ap (λ (y : Settings). y.interval) L.set_s in
            let b = marked_body g in
            let s2 = es.measurement.reference in
            let n = refresh_not_setup es.state d.refresh in
            become (refreshed_of es t f.timestamp (padded_of body))
            {S = took_s L.slave (at (marks l) k) k es.setup.offset s2 t} L.set_s
            (record {
              number = q.number;
              epoch = q.epoch;
              next_out = q.next_out;
              next_in = ap suc (sym (marked_stamp g));
              held = refl;
              live = λ z. record {
                value = Some body;
                phase = λ j. live_s es.setup.offset s2 t (counted_age (sym reckoned j)) (Some (b j));
                holds = (refl, refl, d.width);
                opens = v.opens;
              };
              ready = λ z. absurd (true≢false (sym (pending_setup es.state z) ∙ n));
              agreed = q.agreed;
            })
            (s_takes L.inv t es.setup.offset s2 es.since es.value.age k v.value v.phase ti
            (served x d.refresh) (omega arith) (in_log g) marked_who
            (marked_code g ∙ eqb-true (code_of f.command) 255 r) (next_below d.above) young)

  -- ---- a show that is not fail-safe
  module _ (x : is_expired es t ≡ false) (n : is_fail_safe es ≡ false) where
    pub shown_s_law : ShownAt (marks l) 0 ts now (held_age es t) (margin_at true es.settings) (shown_of es)
    shown_s_law =
        let v = L.rel_s.live (in_refresh_law es n) in
        let u = refresh_timer es t x (in_refresh_law es n) in
        let i : es.settings.interval ≡ ss.interval = ap (λ (y : Settings). y.interval) L.set_s in
        let r : es.settings.roundtrip ≡ ss.roundtrip = ap (λ (y : Settings). y.roundtrip) L.set_s in
        let o : es.settings.age ≡ ss.age = ap (λ (y : Settings). y.age) L.set_s in
        let a = L.rel_s.agreed (refresh_established es.state (in_refresh_law es n)) in
        let s = L.inv.small_s.age in
        let s' = L.inv.small_s.hold in
        held_shown es (marks l) (HeldByS L.slave.epoch L.slave.next_in) 0 ts t now (shown_s TM TS)
        (margin_at true es.settings) v.value L.slave.held n v.holds L.rel_s.held
        L.inv.slave.held (λ y f. (f.who, f.code))
        (s_shows L.inv t es.setup.offset es.measurement.reference es.since es.value.age v.value
        v.phase ti (omega arith))
        (λ k z. (L.inv.log.stamped k z).past)
        (record { most = omega arith; low = omega arith; high = omega arith; small = omega arith })

-- ---- the slave is loaded again: its settings, its number and its clock are others, and nothing is remembered at its
-- end but what it took
pub loaded_s_law : {shift : ℕ} {calls : List Reading} {sm ss : Settings} {loads : ℕ} {given : List Grant} {now : ℕ}
    {l : List Sent} {em es : Endpoint} {tm ts : ℕ} → Linked shift calls sm ss loads given now l em es tm ts
    → (s : Settings) → Paired sm s → (number : ℕ)
    → Linked shift [] sm s (suc loads) (grant number (suc loads) ∷ given) now l em (fresh_of s number) tm ts
loaded_s_law {shift} {calls} {sm} {ss} {loads} {given} {now} {l} L s p number =
    let q = L.rel_s in
    let n = number % 65536 in
    let TM = master_terms shift sm in
    let TS = slave_terms [] s in
    record {
      master = L.master;
      slave = loaded_s L.slave n;
      paired = p;
      set_m = L.set_m;
      set_s = refl;
      rel_m = L.rel_m;
      rel_s = record {
        number = ap (λ (b : Bool). narrowed (session_from b number)) p.slave;
        epoch = ap suc q.epoch;
        next_out = refl;
        next_in = refl;
        held = q.held;
        live = λ h. absurd (false≢true h);
        ready = λ h. absurd (false≢true h);
        agreed = λ h. absurd (false≢true h);
      };
      honest = L.honest;
      inv = subst (λ (k : ℕ). Inv TM TS now (granted n (suc k) ∷ given) (marks l) L.master (loaded_s L.slave n))
          (sym q.epoch) (s_load L.inv TS (small_of s p.ticks_s) n);
    }
