-- The age theorem: the invariant holds along every list of calls and loadings, so every show has its send.
use mathlib.Core.Path.{◌≡◌, refl, sym, ap, subst, ◌∙◌}
use mathlib.Core.Bool.{Bool, true, false, not, cond, false≢true}
use mathlib.Core.List.{List, [], ◌∷◌, ◌++◌, append-nil}
use mathlib.Core.Logic.{inl}
use Prim.Native.Nat.{ℕ, ◌+◌, ◌%◌, ◌≤◌, ◌<◌}
use native.Mathlib.Nat.{not-suc-le-zero}
use native.Mathlib.Omega.{arith}
use lib.Dec.{leb}
use lib.ListN.{length}
use borrow.Author.Tests.{leb-true}
use mathlib.Mathlib.Data.Bool.Basic.{and_elim_left as and_left, and_elim_right as and_right}
use Rattle.frame.specs.Control.{narrowed}
use Rattle.endpoint.specs.declared.Settings.{Settings}
use Rattle.endpoint.specs.Endpoint.{Endpoint}
use Rattle.endpoint.specs.Time.{is_expired, held_age}
use Rattle.transitions.specs.ByCall.{session_from}
use Rattle.steps.specs.Calls.{is_fail_safe, shown_of}
use Rattle.steps.proofs.Dispatch.{cond_false}
use Rattle.steps.proofs.Keeps.{bcase}
use Rattle.steps.specs.Steps.{Call, act, send, deliver, show, call_of}
use Rattle.link.specs.Clocks.{Reading, keeps_pace, moment_of}
use Rattle.link.specs.Runs.{Event, called, loaded, Sent, sent_at, logged, Grant, grant, Show, shown, show_at, Link}
use Rattle.link.specs.Runs.{may_deliver, took_by, shown_by, never_falls, is_reading, is_paced, is_slaves, after_load}
use Rattle.link.specs.Runs.{after_event, after_all, begun}
use Rattle.link.specs.Fresh.{Paired, ItsSend, Fresh, run_of, AgeTheorem, Silence}
use Rattle.link.proofs.Marks.{size}
use Rattle.link.proofs.Ages.{latest}
use Rattle.link.proofs.Invariant.{limit, rest_m, none_m, Master, master_of, rest_s, none_s, Slave, slave_of, Inv}
use Rattle.link.proofs.Kept.{later, later_called}
use Rattle.link.proofs.Relation.{master_terms, slave_terms, small_of, numbered, marks, Honest, Linked}
use Rattle.link.proofs.Ends.{at_master_law, at_slave}
use Rattle.link.proofs.AtMaster.{shown_m_law}
use Rattle.link.proofs.AtSlave.{shown_s_law, loaded_s_law}
use Rattle.link.proofs.Shown.{ShownAt, margin_at}
use Rattle.link.proofs.Sends.{ShowsInv, reloaded, grow, add, sent_by}

-- the slave's settings of its last loading; where it was not loaded again they are those of the first, ss
pub record RunInv (sm ss : Settings) (l : Link) : Type 0 where
  pub settings : Settings
  pub first : l.loads ≡ 0 → settings ≡ ss
  pub linked : Linked l.shift l.readings sm settings l.loads l.given l.latest l.log l.master
      l.slave l.master_took l.slave_took
  pub shown : ShowsInv sm ss l.loads l.log l.master_took l.slave_took l.shows

-- time passes, to a call of the master or of the slave
module _ {shift : ℕ} {calls : List Reading} {sm ss : Settings} {loads : ℕ} {given : List Grant} {now : ℕ}
    {log : List Sent} {em es : Endpoint} {tm ts : ℕ}
    (L : Linked shift calls sm ss loads given now log em es tm ts) where
  until : {m : ℕ} {x : List Reading}
      → Inv (master_terms shift sm) (slave_terms x ss) m given (marks log) L.master L.slave
      → Linked shift x sm ss loads given m log em es tm ts
  until v = record {
    master = L.master;
    slave = L.slave;
    paired = L.paired;
    set_m = L.set_m;
    set_s = L.set_s;
    rel_m = L.rel_m;
    rel_s = L.rel_s;
    honest = L.honest;
    inv = v;
  }

  pub linked_later : (m : ℕ) → now ≤ m → Linked shift calls sm ss loads given m log em es tm ts
  linked_later m h = until (later L.inv m h)

  pub linked_called : (r : Reading) → now ≤ r.moment
      → Linked shift (r ∷ calls) sm ss loads given r.moment log em es tm ts
  linked_called r h = until (later_called L.inv r h)

-- a master is paired with whatever settings are a slave's, as a loaded list has them
pairs_too : {sm ss s : Settings} → Paired sm ss → is_slaves s ≡ true → Paired sm s
pairs_too {s = s} p h =
    let o = and_right s.slave _ h in
    let a = and_right (leb 1 s.interval) _ o in
    let b = and_right (leb s.interval 65535) _ a in
    record {
      master = p.master;
      slave = and_left s.slave _ h;
      ticks_m = p.ticks_m;
      ticks_s = record {
        some = leb-true 1 s.interval (and_left (leb 1 s.interval) _ o);
        interval = leb-true s.interval 65535 (and_left (leb s.interval 65535) _ a);
        roundtrip = leb-true s.roundtrip 65535 (and_left (leb s.roundtrip 65535) _ b);
        age = leb-true s.age 65535 (and_right (leb s.roundtrip 65535) _ b);
      };
    }

-- what a call that is allowed keeps to
pub record Allowed (l : Link) (slave : Bool) (t other : ℕ) (call : Call) : Type 0 where
  pub before : l.allowed ≡ true
  pub delivers : may_deliver l.given l.log call ≡ true
  pub rises : l.latest ≤ moment_of l.shift slave t other
  pub within : t ≤ limit
  pub paced : is_paced l slave (record { tick = t; moment = moment_of l.shift slave t other }) ≡ true

pub allowed_call : (l : Link) (slave : Bool) (t other : ℕ) (call : Call)
    → (after_event l (called slave t other call)).allowed ≡ true → Allowed l slave t other call
allowed_call l slave t other call h =
    let m = moment_of l.shift slave t other in
    let a = and_right l.allowed _ h in
    let b = and_right (may_deliver l.given l.log call) _ a in
    let c = and_right (never_falls l m) _ b in
    record {
      before = and_left l.allowed _ h;
      delivers = and_left (may_deliver l.given l.log call) _ a;
      rises = let z = leb-true _ m (and_left (never_falls l m) _ b) in omega arith;
      within = let z = leb-true t _ (and_left (is_reading t) _ c) in omega arith;
      paced = and_right (is_reading t) _ c;
    }

module _ (sm ss : Settings) where
  -- ---- what a call adds to the shows
  quiet : (loads : ℕ) (log : List Sent) (tm ts : ℕ) (shows : List Show) → ShowsInv sm ss loads log tm ts shows
      → ShowsInv sm ss loads log tm ts (shows ++ [])
  quiet loads log tm ts shows v = subst (ShowsInv sm ss loads log tm ts) (sym (append-nil shows)) v

  -- at the slave's end or the master's, where the endpoint is e, has that role, and has settings of its own loading
  module _ (slave : Bool) (loads : ℕ) (log : List Sent) (tm ts m t : ℕ) (shows : List Show) (e : Endpoint)
      (role : e.settings.slave ≡ slave) (few : e.settings.interval ≤ 65535)
      (own : (slave ≡ true → loads ≡ 0) → e.settings ≡ cond slave ss sm)
      (honest : (i : ℕ) → i < length log → Honest sm (sent_at log i))
      (v : ShowsInv sm ss loads log tm ts shows) where
    -- a show whose value has its send
    shows_at : (is_fail_safe e ≡ false → ShownAt (marks log) (cond slave 0 2) (cond slave ts tm) m (held_age e t)
        (margin_at slave e.settings) (shown_of e))
        → ShowsInv sm ss loads log tm ts (shows ++ shown_by slave m t (cond slave ts tm) (length log) show e)
    shows_at its =
        let x = shown slave e.settings m (shown_of e) (held_age e t) (cond slave ts tm) (length log) in
        bcase (is_fail_safe e) (λ f. rw f (quiet loads log tm ts shows v))
        (λ f. subst (λ (y : List Show). ShowsInv sm ss loads log tm ts (shows ++ y))
        (sym (cond_false (is_fail_safe e) [] (x ∷ []) f))
        (add sm ss loads log tm ts shows x
        (sent_by sm e.settings log slave (cond slave ts tm) m (held_age e t) (shown_of e) role few honest (its f)) own
        refl v))

    -- whatever the call; what it writes and takes comes after
    adds : (is_expired e t ≡ false → is_fail_safe e ≡ false → ShownAt (marks log) (cond slave 0 2) (cond slave ts tm) m
        (held_age e t) (margin_at slave e.settings) (shown_of e))
        → (call : Call) → ShowsInv sm ss loads log tm ts
        (shows ++ shown_by slave m t (cond slave ts tm) (length log) call (call_of e t call).endpoint)
    adds its (act a) = quiet loads log tm ts shows v
    adds its (send value) = quiet loads log tm ts shows v
    adds its (deliver f body) = quiet loads log tm ts shows v
    adds its show =
        bcase (is_expired e t) (λ x. rw x (quiet loads log tm ts shows v)) (λ x. rw x (shows_at (its x)))

  -- ---- one event
  at_m : (l : Link) (t other : ℕ) (call : Call) → may_deliver l.given l.log call ≡ true
      → l.latest ≤ t + l.shift → t ≤ limit → RunInv sm ss l → RunInv sm ss (after_event l (called false t other call))
  at_m l t other call h k lim v =
      let m = t + l.shift in
      let o = call_of l.master t call in
      let L = linked_later v.linked m k in
      let A = at_master_law t lim L call h in
      record {
        settings = v.settings;
        first = v.first;
        linked = A.0;
        shown = grow sm ss l.loads l.log (logged false m l.loads call o.writes) l.master_took
            l.slave_took (took_by l.log call o.answer l.master_took) l.slave_took
            (l.shows ++ shown_by false m t l.master_took (length l.log) call o.endpoint) A.1 (omega arith)
            (adds false l.loads l.log l.master_took l.slave_took m t l.shows l.master
            (ap (λ (s : Settings). s.slave) L.set_m ∙ L.paired.master)
            (subst (λ (s : Settings). s.interval ≤ 65535) (sym L.set_m) L.inv.small_m.hold) (λ f. L.set_m)
            L.honest v.shown (shown_m_law t lim L) call);
      }

  at_s : (l : Link) (t other : ℕ) (call : Call) → may_deliver l.given l.log call ≡ true → l.latest ≤ other
      → t ≤ limit → keeps_pace l.readings (record { tick = t; moment = other }) ≡ true → RunInv sm ss l
      → RunInv sm ss (after_event l (called true t other call))
  at_s l t m call h k lim paced v =
      let o = call_of l.slave t call in
      let r : Reading = record { tick = t; moment = m } in
      let L = linked_called v.linked r k in
      let ti = latest l.readings r paced in
      let A = at_slave t lim ti L call h in
      record {
        settings = v.settings;
        first = v.first;
        linked = A.0;
        shown = grow sm ss l.loads l.log (logged true m l.loads call o.writes) l.master_took
            l.slave_took l.master_took (took_by l.log call o.answer l.slave_took)
            (l.shows ++ shown_by true m t l.slave_took (length l.log) call o.endpoint) (omega arith) A.1
            (adds true l.loads l.log l.master_took l.slave_took m t l.shows l.slave
            (ap (λ (s : Settings). s.slave) L.set_s ∙ L.paired.slave)
            (subst (λ (s : Settings). s.interval ≤ 65535) (sym L.set_s) L.inv.small_s.hold)
            (λ f. L.set_s ∙ v.first (f refl)) L.honest v.shown (shown_s_law t lim ti L) call);
      }

  reload : (l : Link) (s : Settings) (number : ℕ) → is_slaves s ≡ true → RunInv sm ss l
      → RunInv sm ss (after_load l s number)
  reload l s number h v =
      record {
        settings = s;
        first = λ e. absurd (omega arith);
        linked = loaded_s_law v.linked s (pairs_too v.linked.paired h) number;
        shown = reloaded v.shown;
      }

  -- ---- every list: what is allowed at the end was allowed all along
  allowed_before : (l : Link) (v : Event) → (after_event l v).allowed ≡ true → l.allowed ≡ true
  allowed_before l (called slave t other call) h = and_left l.allowed _ h
  allowed_before l (loaded s number) h = and_left l.allowed _ h

  kept_allowed : (l : Link) (vs : List Event) → (after_all l vs).allowed ≡ true → l.allowed ≡ true
  kept_allowed l [] h = h
  kept_allowed l (v ∷ vs) h = allowed_before l v (kept_allowed (after_event l v) vs h)

  event : (l : Link) (v : Event) → (after_event l v).allowed ≡ true → RunInv sm ss l → RunInv sm ss (after_event l v)
  event l (called false t other call) h r =
      let a = allowed_call l false t other call h in
      at_m l t other call a.delivers a.rises a.within r
  event l (called true t other call) h r =
      let a = allowed_call l true t other call h in
      at_s l t other call a.delivers a.rises a.within a.paced r
  event l (loaded s number) h r = reload l s number (and_right l.allowed _ h) r

  pub along : (l : Link) (vs : List Event) → (after_all l vs).allowed ≡ true → RunInv sm ss l
      → RunInv sm ss (after_all l vs)
  along l [] h r = r
  along l (v ∷ vs) h r = along (after_event l v) vs h (event l v (kept_allowed (after_event l v) vs h) r)

  -- ---- two endpoints just loaded
  module _ (p : Paired sm ss) (number shift : ℕ) where
    abbrev first_m : Master
    first_m = master_of 0 0 0 0 0 rest_m none_m

    abbrev first_s : Slave
    first_s = slave_of (number % 65536) 0 0 0 0 rest_s none_s

    nothing_yet : Inv (master_terms shift sm) (slave_terms [] ss) 0 (grant number 0 ∷ []) (marks []) first_m first_s
    unfolding marks size
    nothing_yet = record {
      small_m = small_of sm p.ticks_m;
      small_s = small_of ss p.ticks_s;
      log = record {
        stamped = λ i h. absurd (not-suc-le-zero h);
        rising = λ i j h k. absurd (not-suc-le-zero k);
        go = λ i h. absurd (not-suc-le-zero h);
        carries = λ i h. absurd (not-suc-le-zero h);
      };
      master = record {
        out = λ i h. absurd (not-suc-le-zero h);
        given = λ n e. absurd (omega arith);
        held = tt;
        phase = tt;
        measuring = tt;
      };
      slave = record {
        epochs = λ i h. absurd (not-suc-le-zero h);
        given = inl (refl, refl);
        replies = λ i h. absurd (not-suc-le-zero h);
        sent = λ i h. absurd (not-suc-le-zero h);
        held = tt;
        phase = tt;
        measuring = tt;
      };
    }

    pub at_first : RunInv sm ss (begun sm ss number shift)
    at_first = record {
      settings = ss;
      first = λ e. refl;
      linked = record {
        master = first_m;
        slave = first_s;
        paired = p;
        set_m = refl;
        set_s = refl;
        rel_m = record {
          session = ap (λ (b : Bool). numbered (narrowed (session_from b number))) p.master;
          next_out = refl;
          next_in = refl;
          held = refl;
          live = λ h. absurd (false≢true h);
          pend = λ h s e. absurd (false≢true h);
          ready = λ h e. absurd (false≢true h);
        };
        rel_s = record {
          number = ap (λ (b : Bool). narrowed (session_from b number)) p.slave;
          epoch = refl;
          next_out = refl;
          next_in = refl;
          held = refl;
          live = λ h. absurd (false≢true h);
          ready = λ h. absurd (false≢true h);
          agreed = λ h. absurd (false≢true h);
        };
        honest = λ i h. absurd (not-suc-le-zero h);
        inv = nothing_yet;
      };
      shown = record {
        its = λ i h. absurd (not-suc-le-zero h);
        own = λ i h. absurd (not-suc-le-zero h);
        below = λ i h. absurd (not-suc-le-zero h);
        order = λ i j h k. absurd (not-suc-le-zero k);
      };
    }

  -- ---- what the invariant says of the shows
  pub fresh_of_law : (l : Link) → RunInv sm ss l → Fresh sm ss l
  fresh_of_law l r = record {
    there = λ i h. let s = r.shown.its i h in let a = s.sent in let b = s.early in let n = s.known in
        (omega arith, omega arith, omega arith);
    its_send = λ i k h e.
        let s = r.shown.its i h in
        let a = s.sent in
        let q : s.place ≡ k = omega arith in
        subst (λ (n : ℕ). ItsSend (show_at l.shows i) (sent_at l.log n)) q s.fits;
    in_order = r.shown.order;
    own = r.shown.own;
  }

pub run_inv : (sm ss : Settings) (number shift : ℕ) (vs : List Event) → Paired sm ss
    → (run_of sm ss number shift vs).allowed ≡ true → RunInv sm ss (run_of sm ss number shift vs)
run_inv sm ss number shift vs p h = along sm ss (begun sm ss number shift) vs h (at_first sm ss p number shift)

pub age_theorem : AgeTheorem
age_theorem sm ss number shift vs p h =
    fresh_of_law sm ss (run_of sm ss number shift vs) (run_inv sm ss number shift vs p h)

pub silence : Silence
silence sm ss number shift vs slave last p h before i k e =
    let s = (run_inv sm ss number shift vs p h).shown.its i k in
    let f = s.fits in
    let m = before s.place (let a = s.early in let b = s.known in omega arith) (f.other ∙ ap not e)
    f.refresh in
    let y = f.bounded in
    omega arith
