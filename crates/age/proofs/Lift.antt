-- Demand 3: every list on two gateways has a list on the two endpoints of the CID that writes, takes, gives and shows
-- the same, so the theorem on endpoints gives the one on gateways.
use mathlib.Core.Path.{◌≡◌, refl, sym, ap, ap₂, subst, ◌∙◌}
use mathlib.Core.Bool.{Bool, true, false, not, cond, beq}
use mathlib.Core.List.{List, [], ◌∷◌, ◌++◌}
use Prim.Native.Nat.{ℕ, suc, ◌-◌, ◌≤◌, ◌<◌}
use native.Mathlib.Omega.{arith}
use lib.Dec.{leb}
use borrow.Author.Tests.{le-leb, eq-eqb}
use lib.ListN.{length}
use mathlib.Mathlib.Data.Bool.Basic.{and_elim_left as and_left, and_elim_right as and_right, and_intro as both}
use Rattle.endpoint.specs.declared.Settings.{Settings}
use Rattle.endpoint.specs.Endpoint.{Endpoint}
use Rattle.endpoint.specs.Answers.{is_done}
use Rattle.endpoint.specs.Time.{last_reading}
use Rattle.transitions.specs.ByCall.{fresh_of}
use Rattle.steps.specs.Calls.{Outcome}
use Rattle.steps.specs.Steps as S
use Rattle.steps.proofs.Dispatch.{cond_true, cond_false}
use Rattle.steps.proofs.Firsts.{is_done_law}
use Rattle.steps.proofs.Keeps.{bcase}
use Rattle.records.specs.declared.Record.{Record}
use Rattle.gateway.specs.declared.Gateway.{Gateway}
use Rattle.gateway.specs.Tables.{Lent, endpoint_at, is_entry, place_of, is_reading}
use Rattle.gateway.specs.Calls.{Result}
use Rattle.gateway.specs.Loading.{loaded_of}
use Rattle.link.specs.Clocks.{Reading, moment_of}
use Rattle.link.specs.Runs as L
use Rattle.link.specs.Fresh as F
use Rattle.link.proofs.AgeProof.{age_theorem}
use Rattle.runs.specs.Steps.{Call, call_in}
use Rattle.runs.proofs.Tables.{Like, like_trans}
use Rattle.runs.proofs.Loaded.{Table, loaded_table}
use Rattle.runs.proofs.Reaching.{reach}
use Rattle.age.specs.Runs.{Event, called, loaded, Sent, sent_at, Run, begun, lent_at, lent_after, is_accepted}
use Rattle.age.specs.Runs.{is_paced, readings_after, never_falls, may_deliver, took_by, took_at, took_after, settings_for}
use Rattle.age.specs.Runs.{shown_by, after_call, holds_slave, after_load, after_event, after_all}
use Rattle.age.specs.Demand.{Holds, settings_in, ItsSend, Fresh, run_of, Demand, Silence}
use Rattle.age.proofs.Logs.{refresh_of, to_sent, to_log, to_log_append, to_log_length, sent_at_law, AllGood, no_more}
use Rattle.age.proofs.Logs.{good_append, good_at}
use Rattle.age.proofs.OneCall.{Matches}
use Rattle.age.proofs.EachCall.{matches}

reading_limit : (g : Gateway) (t : ℕ) → is_reading g t ≡ true → leb t last_reading ≡ true
reading_limit g t h = and_right (leb g.last t) (leb t last_reading) h

-- what holds at both ends; and after a call at one, by whether an end is that one
on_both : (P : Bool → Type 0) → P false → P true → (end : Bool) → P end
on_both P a b false = a
on_both P a b true = b

by_end : (P : Bool → Bool → Type 0) (slave : Bool) → P slave true → ((end : Bool) → P end false)
    → (end : Bool) → P end (beq end slave)
by_end P true own other true = own
by_end P true own other false = other false
by_end P false own other true = other true
by_end P false own other false = own

-- ---- the run of the two endpoints of a CID, at their places, with the log as fields and bodies
abbrev pub link_of : Run → (Bool → ℕ) → List L.Sent → L.Link
link_of l place log = record {
  master = endpoint_at l.master (place false);
  slave = endpoint_at l.slave (place true);
  shift = l.shift;
  readings = l.readings;
  loads = l.loads;
  given = l.given;
  log = log;
  shows = l.shows;
  master_took = l.master_took;
  slave_took = l.slave_took;
  latest = l.latest;
  allowed = l.allowed;
}

-- the endpoint at an end
pub end_of : (l : Run) (place : Bool → ℕ) (log : List L.Sent) (end : Bool)
    → L.endpoint_at (link_of l place log) end ≡ endpoint_at (lent_at l end) (place end)
end_of l place log true = refl
end_of l place log false = refl

module _ (cid : ℕ) where
  -- one end's gateway, beside what it was when last loaded
  pub record Side (place : ℕ) (d : Lent) : Type 0 where
    pub number : ℕ
    pub first : Lent
    pub table : Table number first cid place
    pub like : Like d first

  -- a run of gateways, and one of endpoints that goes along
  pub record Sim (l : Run) (x : L.Link) : Type 0 where
    pub place : Bool → ℕ
    pub log : List L.Sent
    pub sides : (end : Bool) → Side (place end) (lent_at l end)
    pub logs : l.log ≡ to_log log
    pub good : AllGood cid log
    pub is : x ≡ link_of l place log

  record Next (l : Run) (x : L.Link) : Type 0 where
    event : L.Event
    sim : Sim l (L.after_event x event)

  -- ---- a gateway just loaded
  module _ {number : ℕ} {ws : List ℕ} {rs : List Record} {slave : Bool} (h : Holds number ws rs cid slave) where
    abbrev d : Lent
    d = (loaded_of number ws rs).lent

    table_of : Table number d cid (place_of cid d)
    table_of = loaded_table number ws rs cid h.done h.there

    side_of : Side (place_of cid d) d
    side_of = record {
      number = number;
      first = d;
      table = table_of;
      like = record { counts = refl; settings = refl };
    }

  -- ---- a call that is not given 1
  abbrev reading_at : Run → Bool → ℕ → ℕ → Reading
  reading_at l slave t other = record { tick = t; moment = moment_of l.shift slave t other }

  -- what the list's premise says of it
  record Kept (l : Run) (slave : Bool) (t other : ℕ) (c : Call) : Type 0 where
    before : l.allowed ≡ true
    may : may_deliver cid l.given l.log c ≡ true
    later : never_falls l (moment_of l.shift slave t other) ≡ true
    paced : is_paced l slave (reading_at l slave t other) ≡ true

  kept : (l : Run) (slave : Bool) (t other : ℕ) (c : Call) (r : Result)
      → (after_call cid l slave t other c r).allowed ≡ true → Kept l slave t other c
  kept l slave t other c r h =
      let a = and_right l.allowed _ h in
      let b = and_right (may_deliver cid l.given l.log c) _ a in
      let later = never_falls l (moment_of l.shift slave t other) in
      record {
        before = and_left l.allowed _ h;
        may = and_left (may_deliver cid l.given l.log c) _ a;
        later = and_left later _ b;
        paced = and_right later _ b;
      }

  abbrev pub after : Run → Bool → ℕ → ℕ → ℕ → Call → Run
  after l slave t other room c = after_call cid l slave t other c (call_in (lent_at l slave) t room c)

  module _ (l : Run) (x : L.Link) (sim : Sim l x) (slave : Bool) (t other room : ℕ) (c : Call)
      (reading : is_accepted l slave t ≡ true) (h : (after l slave t other room c).allowed ≡ true) where
    abbrev r : Result
    r = call_in (lent_at l slave) t room c

    abbrev m : ℕ
    m = moment_of l.shift slave t other

    abbrev pub place : Bool → ℕ
    place = sim.place

    abbrev pub x₀ : L.Link
    x₀ = link_of l place sim.log

    premise : Kept l slave t other c
    premise = kept l slave t other c r h

    pub may_deliver_law : may_deliver cid l.given (to_log sim.log) c ≡ true
    may_deliver_law = ap (λ (z : List Sent). may_deliver cid l.given z c) (sym sim.logs) ∙ premise.may

    match : Matches cid slave m l.loads l.given (lent_at l slave) (place slave) t room sim.log
        (took_at l slave) c
    match =
        let side = sim.sides slave in
        matches cid slave m l.loads l.given side.number side.first (place slave) side.table
        (lent_at l slave) side.like t room reading sim.log sim.good (took_at l slave)
        (reach (lent_at l slave) t room c)
        may_deliver_law

    abbrev by : S.Call
    by = match.by

    abbrev o : Outcome
    o = S.call_of (endpoint_at (lent_at l slave) (place slave)) t by

    abbrev more : List L.Sent
    more = L.logged slave m l.loads by o.writes

    -- what each end has afterwards: its gateway, its endpoint, and what it took
    sides_after : (end : Bool) → Side (place end) (lent_after end l slave r)
    sides_after =
        let side = sim.sides slave in
        by_end (λ end own. Side (place end) (cond own r.lent (lent_at l end))) slave
        (record {
          number = side.number;
          first = side.first;
          table = side.table;
          like = like_trans match.like side.like;
        }) sim.sides

    endpoints : (end : Bool) → L.endpoint_after end x₀ slave o ≡ endpoint_at (lent_after end l slave r) (place end)
    endpoints end =
        ap (λ (e : Endpoint). cond (beq end slave) o.endpoint e) (end_of l place sim.log end)
        ∙ by_end (λ end own. cond own o.endpoint (endpoint_at (lent_at l end) (place end))
        ≡ endpoint_at (cond own r.lent (lent_at l end)) (place end)) slave (sym match.endpoint) (λ end. refl) end

    tooks : (end : Bool) → L.took_after end x₀ slave by o ≡ took_after end cid l slave c r
    tooks =
        by_end (λ end own. cond own (L.took_by sim.log by o.answer (took_at l end)) (took_at l end)
        ≡ cond own (took_by cid l.log c (is_done r.answer) (took_at l end)) (took_at l end)) slave
        (sym (ap (λ (z : List Sent). took_by cid z c (is_done r.answer) (took_at l slave)) sim.logs
        ∙ match.takes)) (λ end. refl)

    shows : L.shown_by slave m t (took_at l slave) (length sim.log) by o.endpoint
        ≡ shown_by cid slave (lent_at l slave) m (took_at l slave) (length l.log) c r
    shows =
        sym (ap (λ (n : ℕ). shown_by cid slave (lent_at l slave) m (took_at l slave) n c r)
        (ap length sim.logs ∙ to_log_length sim.log) ∙ match.shows)

    -- a call on the endpoint keeps to what its list runs over too, where what it hands over may be
    pub still : (k : S.Call) (y : Outcome) → L.may_deliver l.given sim.log k ≡ true
        → (L.after_call x₀ slave t other k y).allowed ≡ true
    still k y may =
        both premise.before (both may
        (both premise.later (both (reading_limit (lent_at l slave).gateway t reading) premise.paced)))

    link_after : L.after_call x₀ slave t other by o ≡ link_of (after l slave t other room c) place (sim.log ++ more)
    link_after = λ i. record {
      master = endpoints false i;
      slave = endpoints true i;
      shift = l.shift;
      readings = readings_after l slave (reading_at l slave t other);
      loads = l.loads;
      given = sym match.gives i;
      log = sim.log ++ more;
      shows = l.shows ++ shows i;
      master_took = tooks false i;
      slave_took = tooks true i;
      latest = m;
      allowed = (still by o match.may ∙ sym h) i;
    }

    next : Next (after l slave t other room c) x
    next = record {
      event = L.called slave t other by;
      sim = record {
        place = place;
        log = sim.log ++ more;
        sides = on_both (λ end. Side (place end) (lent_at (after l slave t other room c) end)) (sides_after false)
            (sides_after true);
        logs = ap₂ ◌++◌ sim.logs match.logs ∙ sym (to_log_append sim.log more);
        good = good_append cid sim.good match.good;
        is = ap (λ (y : L.Link). L.after_event y (L.called slave t other by)) sim.is
            ∙ ap (λ (e : Endpoint). L.after_call x₀ slave t other by (S.call_of e t by))
            (end_of l place sim.log slave) ∙ link_after;
      };
    }

  -- ---- a loading of the slave's gateway
  module _ (number : ℕ) (ws : List ℕ) (rs : List Record) (h : holds_slave cid (loaded_of number ws rs) ≡ true) where
    abbrev dl : Lent
    dl = (loaded_of number ws rs).lent

    holds_slave_law : Holds number ws rs cid true
    holds_slave_law =
        let a = and_right (is_done (loaded_of number ws rs).answer) _ h in
        record {
          done = is_done_law (loaded_of number ws rs).answer (and_left (is_done (loaded_of number ws rs).answer) _ h);
          there = and_left (is_entry dl (place_of cid dl)) _ a;
          role = and_right (is_entry dl (place_of cid dl)) _ a;
        }

    is_slaves_law : L.is_slaves (settings_for cid dl) ≡ true
    is_slaves_law =
        let t = (table_of holds_slave_law).ticks in
        both holds_slave_law.role (both (le-leb 1 _ t.some)
        (both (le-leb _ 65535 t.interval) (both (le-leb _ 65535 t.roundtrip) (le-leb _ 65535 t.age))))

    loads : (l : Run) (x : L.Link) → Sim l x → l.allowed ≡ true
        → Next (after_load cid l number (loaded_of number ws rs)) x
    loads l x sim before =
        let to = after_load cid l number (loaded_of number ws rs) in
        let place : Bool → ℕ = λ end. cond end (place_of cid dl) (sim.place false) in
        let link : L.after_load (link_of l sim.place sim.log) (settings_for cid dl) number
        ≡ link_of to place sim.log = λ i. record {
          master = endpoint_at l.master (sim.place false);
          slave = sym (table_of holds_slave_law).fresh i;
          shift = to.shift;
          readings = to.readings;
          loads = to.loads;
          given = to.given;
          log = sim.log;
          shows = l.shows;
          master_took = l.master_took;
          slave_took = l.slave_took;
          latest = l.latest;
          allowed = (both before is_slaves_law ∙ sym (both before h)) i;
        } in
        record {
          event = L.loaded (settings_for cid dl) number;
          sim = record {
            place = place;
            log = sim.log;
            sides = on_both (λ end. Side (place end) (lent_at to end)) (sim.sides false) (side_of holds_slave_law);
            logs = sim.logs;
            good = sim.good;
            is = ap (λ (y : L.Link). L.after_event y (L.loaded (settings_for cid dl) number)) sim.is ∙ link;
          };
        }

  -- ---- a list on the two endpoints that goes along
  pub record Lifted (x : L.Link) (l : Run) : Type 0 where
    pub events : List L.Event
    pub sim : Sim l (L.after_all x events)

  one_more : (x : L.Link) (vs : List L.Event) (v : L.Event)
      → L.after_all x (vs ++ (v ∷ [])) ≡ L.after_event (L.after_all x vs) v
  one_more x [] v = refl
  one_more x (u ∷ vs) v = one_more (L.after_event x u) vs v

  -- a call that is not given 1, and one that is: it changes nothing
  pub counts : (l : Run) (slave : Bool) (t other room : ℕ) (c : Call) → is_accepted l slave t ≡ true
      → after_event cid l (called slave t other room c) ≡ after l slave t other room c
  counts l slave t other room c q = cond_true (is_accepted l slave t) (after l slave t other room c) l q

  left_out : (l : Run) (slave : Bool) (t other room : ℕ) (c : Call) → is_accepted l slave t ≡ false
      → after_event cid l (called slave t other room c) ≡ l
  left_out l slave t other room c q = cond_false (is_accepted l slave t) (after l slave t other room c) l q

  module _ (x : L.Link) where
    lengthened : {l l' : Run} (f : Lifted x l) → Next l' (L.after_all x f.events) → Lifted x l'
    lengthened {l} {l'} f n = record {
      events = f.events ++ (n.event ∷ []);
      sim = subst (Sim l') (sym (one_more x f.events n.event)) n.sim;
    }

    step : (l : Run) (v : Event) → Lifted x l → (after_event cid l v).allowed ≡ true → Lifted x (after_event cid l v)
    step l (called slave t other room c) f h =
        bcase (is_accepted l slave t)
        (λ q.
        let p = counts l slave t other room c q in
        subst (Lifted x) (sym p) (lengthened f
        (next l (L.after_all x f.events) f.sim slave t other room c q
        (ap (λ (r : Run). r.allowed) (sym p) ∙ h))))
        (λ q. subst (Lifted x) (sym (left_out l slave t other room c q)) f)
    step l (loaded number ws rs) f h =
        lengthened f (loads number ws rs (and_right l.allowed _ h) l (L.after_all x f.events) f.sim
        (and_left l.allowed _ h))

    pub allowed_first : (l : Run) (v : Event) → (after_event cid l v).allowed ≡ true → l.allowed ≡ true
    allowed_first l (called slave t other room c) h =
        bcase (is_accepted l slave t)
        (λ q. (kept l slave t other c (call_in (lent_at l slave) t room c)
        (ap (λ (r : Run). r.allowed) (sym (counts l slave t other room c q)) ∙ h)).before)
        (λ q. ap (λ (r : Run). r.allowed) (sym (left_out l slave t other room c q)) ∙ h)
    allowed_first l (loaded number ws rs) h = and_left l.allowed _ h

    allowed_before : (l : Run) (vs : List Event) → (after_all cid l vs).allowed ≡ true → l.allowed ≡ true
    unfolding after_all
    allowed_before l [] h = h
    allowed_before l (v ∷ vs) h = allowed_first l v (allowed_before (after_event cid l v) vs h)

    along : (l : Run) (vs : List Event) → Lifted x l → (after_all cid l vs).allowed ≡ true → Lifted x (after_all cid l vs)
    unfolding after_all
    along l [] f h = f
    along l (v ∷ vs) f h =
        let l' = after_event cid l v in along l' vs (step l v f (allowed_before l' vs h)) h

  -- ---- what holds of the endpoints' list holds of the gateways'
  module _ (sm ss : Settings) (l : Run) (x : L.Link) (sim : Sim l x)
      (A : F.Fresh sm ss (link_of l sim.place sim.log)) where
    longs : length sim.log ≡ length l.log
    longs = sym (to_log_length sim.log) ∙ ap length (sym sim.logs)

    sends : (y : L.Show) (k : ℕ) → k < length sim.log → F.ItsSend y (L.sent_at sim.log k)
        → ItsSend cid y (sent_at l.log k)
    unfolding to_sent
    sends y k h w =
        let g = good_at cid sim.good k h in
        let e = L.sent_at sim.log k in
        subst (ItsSend cid y) (sym (ap (λ (z : List Sent). sent_at z k) sim.logs ∙ sent_at_law sim.log k h)) (record {
          other = w.other;
          refresh = refresh_of cid e.fields e.body g.readable
              ∙ both (eq-eqb e.fields.connection cid g.has) w.refresh;
          value = w.value;
          bounded = w.bounded;
          aged = w.aged;
          sharper = w.sharper;
        })

    fresh : Fresh cid sm ss l
    fresh = record {
      there = λ i h. let r = A.there i h in
          (r.0, r.1, subst (λ (n : ℕ). (L.show_at l.shows i).written ≤ n) longs r.2);
      its_send = λ i k h e. let r = A.there i h in
          let n : k < length sim.log = let a = r.1 in let b = r.2 in omega arith in
          sends (L.show_at l.shows i) k n (A.its_send i k h e);
      in_order = A.in_order;
      own = A.own;
    }

-- a master looks at no session number
no_number : (s : Settings) (a b : ℕ) → s.slave ≡ false → fresh_of s a ≡ fresh_of s b
no_number s a b h = rw h refl

module _ (nm ns : ℕ) (wm ws : List ℕ) (rm rs : List Record) (cid : ℕ) (hm : Holds nm wm rm cid false)
    (hs : Holds ns ws rs cid true) (shift : ℕ) where
  abbrev pub first : Run
  first = begun (loaded_of nm wm rm).lent (loaded_of ns ws rs).lent ns shift

  abbrev pub first_link : L.Link
  first_link = L.begun (settings_in hm) (settings_in hs) ns shift

  at_first : Lifted cid first_link first
  unfolding to_log
  at_first =
      let place : Bool → ℕ = λ end. place_of cid (lent_at first end) in
      record {
        events = [];
        sim = record {
          place = place;
          log = [];
          sides = on_both (λ end. Side cid (place end) (lent_at first end)) (side_of cid hm) (side_of cid hs);
          logs = refl;
          good = no_more;
          is = λ i. record {
            master = (no_number (settings_in hm) ns nm hm.role ∙ sym (table_of cid hm).fresh) i;
            slave = sym (table_of cid hs).fresh i;
            shift = shift;
            readings = [];
            loads = 0;
            given = L.grant ns 0 ∷ [];
            log = [];
            shows = [];
            master_took = 0;
            slave_took = 0;
            latest = 0;
            allowed = true;
          };
        };
      }

  pub paired : F.Paired (settings_in hm) (settings_in hs)
  paired = record {
    master = hm.role;
    slave = hs.role;
    ticks_m = (table_of cid hm).ticks;
    ticks_s = (table_of cid hs).ticks;
  }

  pub lifted : (vs : List Event) → (after_all cid first vs).allowed ≡ true → Lifted cid first_link (after_all cid first vs)
  lifted vs h = along cid first_link first vs at_first h

pub demand : Demand
demand nm ns wm ws rm rs cid hm hs shift vs h =
    let f = lifted nm ns wm ws rm rs cid hm hs shift vs h in
    let sm = settings_in hm in
    let ss = settings_in hs in
    fresh cid sm ss (run_of nm wm rm ns ws rs cid shift vs) (F.run_of sm ss ns shift f.events) f.sim
    (subst (F.Fresh sm ss) f.sim.is
    (age_theorem sm ss ns shift f.events (paired nm ns wm ws rm rs cid hm hs shift)
    (ap (λ (y : L.Link). y.allowed) f.sim.is ∙ h)))

pub silence : Silence
silence nm ns wm ws rm rs cid hm hs shift vs slave last h quiet i k e =
    let l = run_of nm wm rm ns ws rs cid shift vs in
    let A = demand nm ns wm ws rm rs cid hm hs shift vs h in
    let y = L.show_at l.shows i in
    let r = A.there i k in
    let j : ℕ = y.sent - 1 in
    let q : y.sent ≡ suc j = let a = r.0 in omega arith in
    let w = A.its_send i j k q in
    let n : j < length l.log = let a = r.1 in let b = r.2 in omega arith in
    let z = quiet j n (w.other ∙ ap not e) w.refresh in
    let v = w.bounded in
    omega arith
