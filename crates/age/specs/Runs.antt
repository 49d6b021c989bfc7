-- Two gateways over a list of calls, to be read beside document 01, "What demand 3 runs over", and document 02, notes 8
-- and 9: their sentences stand here in document 01's order, each above what says it; their devices are gateways. All is
-- for one CID that both hold.
use Rattle.std.specs.Prelude.{Bool, true, false, ◌&&◌, ◌||◌, not, cond, List, [], ◌∷◌, ◌++◌, ℕ, suc, ◌-◌, eqb, leb, length, get_or}
use Rattle.std.specs.Prelude.{None, Option, Some}
use Rattle.std.specs.Bool.{beq}
use Rattle.words.specs.Bytes.{same}
use Rattle.endpoint.specs.declared.Settings.{Settings}
use Rattle.endpoint.specs.Answers.{is_done}
use Rattle.steps.specs.Frames.{Written, bytes_of}
use Rattle.records.specs.declared.Record.{Record}
use Rattle.gateway.specs.Tables.{Lent, endpoint_at, is_entry, place_of, is_reading}
use Rattle.gateway.specs.Loading.{Loaded, loaded_of}
use Rattle.gateway.specs.Calls.{Result, ticks_in}
use Rattle.runs.specs.Steps.{Call, act, send, deliver, show, call_in}
use Rattle.runs.specs.Bus.{on_bus, is_frame_of, is_refresh_of, session_in}
use Rattle.link.specs.Clocks.{Reading, keeps_pace, moment_of}
use Rattle.link.specs.Runs.{Grant, grant, given_by, may_travel, Show, shown}

-- ---- what is kept along the list
-- a frame of the CID that was written: by whom, when, after how many loadings of the slave, the first not counted, the
-- bytes, and the value lent to the call
pub record Sent : Type 0 where
  pub slave : Bool
  pub moment : ℕ
  pub loads : ℕ
  pub bytes : List ℕ
  pub lent : Option (List ℕ)

abbrev pub sent : Bool → ℕ → ℕ → List ℕ → Option (List ℕ) → Sent
sent slave moment loads bytes lent =
    record { slave = slave; moment = moment; loads = loads; bytes = bytes; lent = lent }

-- what stands past the end of the log is of no account
abbrev pub no_sent : Sent
no_sent = sent false 0 0 [] None

unfoldable pub sent_at : List Sent → ℕ → Sent
sent_at l i = get_or l i no_sent

pub record Run : Type 0 where
  -- each end's gateway and slice of records
  pub master : Lent
  pub slave : Lent
  -- how far the moments of the master's calls are above their readings
  pub shift : ℕ
  -- the calls at the slave's gateway since its last loading, newest first
  pub readings : List Reading
  -- how often the slave's gateway was loaded again, and the session numbers given to the slave
  pub loads : ℕ
  pub given : List Grant
  -- the frames of the CID that were written, oldest first
  pub log : List Sent
  -- the done shows of the CID's entry that were not fail-safe, oldest first
  pub shows : List Show
  -- one more than the place of the S-Refresh of the CID last taken at each end; 0: none
  pub master_took : ℕ
  pub slave_took : ℕ
  -- the last call's moment
  pub latest : ℕ
  -- whether the list kept to what demand 3 runs over
  pub allowed : Bool

-- ---- "Two devices, just loaded with answer 0, hold one common CID, one as master, the other as slave, beside
-- whatever others." How they hold it is Holds in Demand. The slave's was loaded with a session number.
abbrev pub begun : Lent → Lent → ℕ → ℕ → Run
begun dm ds number shift = record {
  master = dm;
  slave = ds;
  shift = shift;
  readings = [];
  loads = 0;
  given = grant number 0 ∷ [];
  log = [];
  shows = [];
  master_took = 0;
  slave_took = 0;
  latest = 0;
  allowed = true;
}

-- ---- "The list has any calls but load on either, for whatever entry, refused ones and kinds that a later paper adds
-- included." Note 8: "The list then holds such loadings too, answer 0": "Loading a slave, its clock begun anew, while
-- old frames travel". Note 9: "the list gives each call the other clock's time too, a whole number".
-- a call at the slave's gateway or the master's, with its clock reading, the other clock's time, and the length of the
-- output lent to it; or the slave's gateway is loaded again: with a session number, a settings list and whatever slice
-- of records
pub data Event : Type 0 where
  called : (slave : Bool) (clock other room : ℕ) → Call → Event
  loaded : (number : ℕ) → List ℕ → List Record → Event

-- ---- "Each call gets its device as that device's last call returned it; nobody else writes it meanwhile." Document
-- 02, note 11: "The age promise counts on the slice being lent whole each time and as the last call left it." A run has
-- each end's slice beside its gateway, and a call gets both as they stand there.
abbrev pub lent_at : Run → Bool → Lent
lent_at l slave = cond slave l.slave l.master

-- what an end has after a call at the slave's gateway or the master's
abbrev pub lent_after : Bool → Run → Bool → Result → Lent
lent_after end l slave r = cond (beq end slave) r.lent (lent_at l end)

-- ---- "A call's moment is its reading at the master, its reading plus D at the slave, D one whole number for the
-- list." Note 9: "It replaces D: the list gives each call the other clock's time too, a whole number, and the master's
-- is its moment." So a call's moment is its reading at the master, the other clock's time at the slave: moment_of in
-- crates/link/specs/Clocks.antt. To the master's readings one number is added, the same along the list, so that a
-- slave's call before the master's 0 has its moment too.

-- ---- Note 9: "From now on the premise is: over n ticks of one clock, n at least 1, the other advances by n, give or
-- take n ÷ 10,000 rounded up." For two calls this is in_pace in crates/link/specs/Clocks.antt, for a call and all before
-- it keeps_pace. The paper has it of any two calls; here it is asked of calls at the slave's only, and the other clock's
-- time of a call at the master's is not looked at, so that more lists keep to it.
-- a call at the slave's gateway is in pace with each before it since its loading
abbrev pub is_paced : Run → Bool → Reading → Bool
is_paced l slave r = cond slave (keeps_pace l.readings r) true

abbrev pub readings_after : Run → Bool → Reading → List Reading
readings_after l slave r = cond slave (r ∷ l.readings) l.readings

-- Note 8: "D, and any later premise on the clocks, begins anew at each [loading], and moments still never fall." A
-- loading takes no reading and has no moment; the slave's next call has none before it to be in pace with.

-- ---- "Leaving out calls given 1, moments never fall along the list, and at no call is either clock past a reading's
-- limit."
-- number 1 is given where this is false; so no call that counts has its own clock past the limit, and the other's is
-- not asked
abbrev pub is_accepted : Run → Bool → ℕ → Bool
is_accepted l slave t = is_reading (lent_at l slave).gateway t

-- m, a call's moment, is not before the last call's
abbrev pub never_falls : Run → ℕ → Bool
never_falls l m = leb l.latest m

-- ---- "A deliver hands over a frame of this CID that an earlier send, stop or slave's deliver in the list wrote, at
-- either end; or bytes that the reader takes for no frame, or for one under another CID."
-- only a send is lent a value
abbrev pub lent_to : Call → Option (List ℕ)
lent_to (act a n) = None
lent_to (send n value) = Some value
lent_to (deliver s) = None
lent_to (show n) = None

-- what a call put on the bus is logged where the reader takes it for a frame of the CID
abbrev pub logged : ℕ → Bool → ℕ → ℕ → Call → Written → List Sent
logged cid slave m loads c w =
    cond (is_frame_of cid (on_bus w)) (sent slave m loads (on_bus w) (lent_to c) ∷ []) []

-- one more than the last place of these bytes, counted on from n; found where none is left
unfoldable pub last_from : ℕ → List ℕ → List Sent → ℕ → ℕ
last_from n s [] found = found
last_from n s (w ∷ l) found = last_from (suc n) s l (cond (same s w.bytes) (suc n) found)

-- 0 where they were not written
unfoldable pub last_of : List ℕ → List Sent → ℕ
last_of s l = last_from 0 s l 0

-- Note 8: "provided neither that number nor one given at a later restart is in any of those frames that still travels
-- then." A frame of the CID that is handed over carries no number that was given after a loading which it was written
-- before: may_travel in crates/link/specs/Runs.antt. Of bytes that were written more than once the last writing counts.
abbrev pub travels : List Grant → List ℕ → List Sent → Bool
travels given s l = may_travel given (session_in s) (sent_at l (last_of s l - 1)).loads

abbrev pub may_deliver : ℕ → List Grant → List Sent → Call → Bool
may_deliver cid given l (act a n) = true
may_deliver cid given l (send n value) = true
may_deliver cid given l (deliver s) = not (is_frame_of cid s) || (leb 1 (last_of s l) && travels given s l)
may_deliver cid given l (show n) = true

-- a number is given by each loading, and by each restart of the slave's entry that is done
abbrev pub given_after : ℕ → Bool → Lent → ℕ → Call → Bool → List Grant → List Grant
given_after cid slave d loads (act a n) done given =
    cond (slave && (eqb (place_of cid d) n && done)) (given_by loads a) [] ++ given
given_after cid slave d loads (send n value) done given = given
given_after cid slave d loads (deliver s) done given = given
given_after cid slave d loads (show n) done given = given

-- ---- "A done show of this CID's entry that is not fail-safe has its send: one by the other end, earlier in the list,
-- that wrote the frame of the showing end's last done deliver of S-Refresh on this CID before the show."
-- a done show of the CID's entry that is not fail-safe
abbrev pub shows_value : ℕ → Lent → Call → Result → Bool
shows_value cid d (act a n) r = false
shows_value cid d (send n value) r = false
shows_value cid d (deliver s) r = false
shows_value cid d (show n) r =
    eqb (place_of cid d) n && (is_done r.answer && not r.failsafe)

-- the frame of an end's last done deliver of S-Refresh on this CID, by one more than its place in the log: this call's,
-- or the one before
abbrev pub took_by : ℕ → List Sent → Call → Bool → ℕ → ℕ
took_by cid l (act a n) done last = last
took_by cid l (send n value) done last = last
took_by cid l (deliver s) done last = cond (done && is_refresh_of cid s) (last_of s l) last
took_by cid l (show n) done last = last

abbrev pub took_at : Run → Bool → ℕ
took_at l slave = cond slave l.slave_took l.master_took

abbrev pub took_after : Bool → ℕ → Run → Bool → Call → Result → ℕ
took_after end cid l slave c r =
    cond (beq end slave) (took_by cid l.log c (is_done r.answer) (took_at l end)) (took_at l end)

-- the settings of the CID's entry
abbrev pub settings_for : ℕ → Lent → Settings
settings_for cid d = (endpoint_at d (place_of cid d)).settings

-- the show: at which end, its settings, when, the bytes, the age told, that place, and how many frames had been written
abbrev pub shown_by : ℕ → Bool → Lent → ℕ → ℕ → ℕ → Call → Result → List Show
shown_by cid slave d m took n c r =
    cond (shows_value cid d c r)
    (shown slave (settings_for cid d) m (bytes_of r.writes) (ticks_in r.age) took n ∷ []) []

-- ---- all of it, along the list
-- a call at an end with its reading and the other clock's time, and what it came to
abbrev pub after_call : ℕ → Run → Bool → ℕ → ℕ → Call → Result → Run
after_call cid l slave t other c r =
    let m = moment_of l.shift slave t other in
    let q : Reading = record { tick = t; moment = m } in
    record {
      master = lent_after false l slave r;
      slave = lent_after true l slave r;
      shift = l.shift;
      readings = readings_after l slave q;
      loads = l.loads;
      given = given_after cid slave (lent_at l slave) l.loads c (is_done r.answer) l.given;
      log = l.log ++ logged cid slave m l.loads c r.writes;
      shows = l.shows ++ shown_by cid slave (lent_at l slave) m (took_at l slave) (length l.log) c r;
      master_took = took_after false cid l slave c r;
      slave_took = took_after true cid l slave c r;
      latest = m;
      allowed = l.allowed && (may_deliver cid l.given l.log c && (never_falls l m && is_paced l slave q));
    }

-- a loading has answer 0, and its list holds the CID as slave
abbrev pub holds_slave : ℕ → Loaded → Bool
holds_slave cid d =
    is_done d.answer && (is_entry d.lent (place_of cid d.lent) && (settings_for cid d.lent).slave)

abbrev pub after_load : ℕ → Run → ℕ → Loaded → Run
after_load cid l number d = record {
  master = l.master;
  slave = d.lent;
  shift = l.shift;
  readings = [];
  loads = suc l.loads;
  given = grant number (suc l.loads) ∷ l.given;
  log = l.log;
  shows = l.shows;
  master_took = l.master_took;
  slave_took = l.slave_took;
  latest = l.latest;
  allowed = l.allowed && holds_slave cid d;
}

-- a call given 1 is left out
abbrev pub after_event : ℕ → Run → Event → Run
after_event cid l (called slave t other room c) =
    cond (is_accepted l slave t) (after_call cid l slave t other c (call_in (lent_at l slave) t room c)) l
after_event cid l (loaded number ws rs) = after_load cid l number (loaded_of number ws rs)

unfoldable pub after_all : ℕ → Run → List Event → Run
after_all cid l [] = l
after_all cid l (v ∷ vs) = after_all cid (after_event cid l v) vs
