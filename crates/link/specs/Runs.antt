-- Two endpoints of one CID over a list of calls (document 01, "What demand 3 runs over") and loadings of the slave
-- (document 02, note 8), with clocks that drift (note 9), and with frames as fields and bodies.
use Rattle.std.specs.Prelude.{Bool, true, false, ◌&&◌, ◌||◌, not, cond, List, [], ◌∷◌, ◌++◌, ℕ, suc, ◌-◌, ◌%◌, eqb, leb, length, get_or}
use Rattle.std.specs.Prelude.{None, Option, Some}
use Rattle.std.specs.Bool.{beq}
use Rattle.frame.specs.declared.Command.TheVariants as K
use Rattle.frame.specs.declared.Fields.{Fields}
use Rattle.frame.specs.Control.{is, is_same}
use Rattle.words.specs.Bytes.{same}
use Rattle.endpoint.specs.declared.Settings.{Settings}
use Rattle.endpoint.specs.Endpoint.{Endpoint}
use Rattle.endpoint.specs.Answers.{Answer}
use Rattle.endpoint.specs.Answers.{is_done}
use Rattle.endpoint.specs.Time.{last_reading, held_age}
use Rattle.transitions.specs.ByCall.{fresh_of}
use Rattle.steps.specs.Frames.{Written, nothing, frame, sent_fields}
use Rattle.steps.specs.Frames as W
use Rattle.steps.specs.Calls.{Outcome, is_fail_safe, shown_of}
use Rattle.steps.specs.Steps.{Act, start, stop, restart, set_not_ready, set_result, clear_result, set_record, clear_record}
use Rattle.steps.specs.Steps.{invoke, read_error, write_error, Call, act, send, deliver, show, call_of}
use Rattle.link.specs.Clocks.{Reading, keeps_pace, moment_of}

-- ---- calls and loadings
-- a call at the slave's end or the master's, with its clock reading: "the list gives each call the other clock's time
-- too, a whole number, and the master's is its moment"; or the slave is loaded again: its settings and its session
-- number
pub data Event : Type 0 where
  called : (slave : Bool) (clock other : ℕ) → Call → Event
  loaded : Settings → (number : ℕ) → Event

-- ---- the frames written, oldest first
-- by whom, when, after how many loadings of the slave, the fields and the body, and the value lent to the call: only a
-- send is lent one
pub record Sent : Type 0 where
  pub slave : Bool
  pub moment : ℕ
  pub loads : ℕ
  pub fields : Fields
  pub body : List ℕ
  pub lent : Option (List ℕ)

-- what stands past the end of the log is of no account
abbrev pub no_sent : Sent
no_sent = record {
  slave = false;
  moment = 0;
  loads = 0;
  fields = sent_fields K.Connect false false None 0 0 0;
  body = [];
  lent = None;
}

unfoldable pub sent_at : List Sent → ℕ → Sent
sent_at l i = get_or l i no_sent

abbrev pub lent_to : Call → Option (List ℕ)
lent_to (act a) = None
lent_to (send value) = Some value
lent_to (deliver f body) = None
lent_to show = None

-- what is written for a user is no frame, whatever bytes it is
abbrev pub logged : Bool → ℕ → ℕ → Call → Written → List Sent
logged slave m loads call nothing = []
logged slave m loads call (frame f body) =
    record { slave = slave; moment = m; loads = loads; fields = f; body = body; lent = lent_to call } ∷ []
logged slave m loads call (W.value bytes) = []

-- ---- the frame that a deliver hands over is named by its last place in the log
unfoldable pub same_fields : Fields → Fields → Bool
same_fields f g =
    is f.command g.command
    && (beq f.ack g.ack
    && (beq f.busy g.busy
    && (beq f.error g.error
    && (beq f.sequence g.sequence
    && (beq f.application g.application
    && (is_same f.subconnection g.subconnection
    && (eqb f.connection g.connection
    && (eqb f.timestamp g.timestamp
    && eqb f.baseline g.baseline))))))))

-- one more than the last place, counted on from n; found where none is left
unfoldable pub last_from : ℕ → Fields → List ℕ → List Sent → ℕ → ℕ
last_from n f body [] found = found
last_from n f body (w ∷ l) found =
    last_from (suc n) f body l (cond (same_fields f w.fields && same body w.body) (suc n) found)

-- 0 where the frame was not written
unfoldable pub last_of : Fields → List ℕ → List Sent → ℕ
last_of f body l = last_from 0 f body l 0

-- ---- the session numbers given to the slave
-- a number, of 16 bits, and after how many loadings it was given, the first not counted
pub record Grant : Type 0 where
  pub number : ℕ
  pub loads : ℕ

abbrev pub grant : ℕ → ℕ → Grant
grant number loads = record { number = number % 65536; loads = loads }

-- a loading gives one, and a restart that is done
abbrev pub given_by : ℕ → Act → List Grant
given_by loads start = []
given_by loads stop = []
given_by loads (restart number) = grant number loads ∷ []
given_by loads (set_not_ready b) = []
given_by loads (set_result body) = []
given_by loads clear_result = []
given_by loads (set_record body) = []
given_by loads clear_record = []
given_by loads (invoke word bytes) = []
given_by loads read_error = []
given_by loads (write_error body) = []

abbrev pub given_after : Bool → ℕ → Call → Answer → List Grant → List Grant
given_after slave loads (act a) answer given = cond (slave && is_done answer) (given_by loads a) [] ++ given
given_after slave loads (send value) answer given = given
given_after slave loads (deliver f body) answer given = given
given_after slave loads show answer given = given

-- "provided neither that number nor one given at a later restart is in any of those frames that still travels then": of
-- a frame's number and the loadings before it, that no number which it carries was given after a later loading
unfoldable pub may_travel : List Grant → Option ℕ → ℕ → Bool
may_travel [] session loads = true
may_travel (g ∷ gs) session loads =
    (not (is_same session (Some g.number)) || leb g.loads loads) && may_travel gs session loads

-- ---- what is shown
pub record Show : Type 0 where
  pub slave : Bool
  -- of the end that shows it, as it was last loaded
  pub settings : Settings
  pub moment : ℕ
  pub bytes : List ℕ
  -- the age that it is shown with, in ticks
  pub age : ℕ
  -- one more than the place of the S-Refresh that this end last took
  pub sent : ℕ
  -- how many frames had been written by then
  pub written : ℕ

abbrev pub shown : Bool → Settings → ℕ → List ℕ → ℕ → ℕ → ℕ → Show
shown slave settings moment bytes age sent n = record {
  slave = slave;
  settings = settings;
  moment = moment;
  bytes = bytes;
  age = age;
  sent = sent;
  written = n;
}

abbrev pub no_settings : Settings
no_settings = record {
  connection = 0;
  slave = false;
  masterwords = 0;
  slavewords = 0;
  interval = 0;
  roundtrip = 0;
  age = 0;
  station = 0;
}

abbrev pub no_show : Show
no_show = shown false no_settings 0 [] 0 0 0

unfoldable pub show_at : List Show → ℕ → Show
show_at l i = get_or l i no_show

-- ---- a run
pub record Link : Type 0 where
  pub master : Endpoint
  pub slave : Endpoint
  -- how far a master's moments are above its readings
  pub shift : ℕ
  -- the slave's calls since its last loading, newest first
  pub readings : List Reading
  -- how often the slave was loaded again, and the session numbers given to it
  pub loads : ℕ
  pub given : List Grant
  pub log : List Sent
  pub shows : List Show
  -- one more than the place of the S-Refresh last taken at each end; 0: none
  pub master_took : ℕ
  pub slave_took : ℕ
  pub latest : ℕ
  -- whether the list kept to what demand 3 runs over
  pub allowed : Bool

abbrev pub endpoint_at : Link → Bool → Endpoint
endpoint_at l slave = cond slave l.slave l.master

abbrev pub took_at : Link → Bool → ℕ
took_at l slave = cond slave l.slave_took l.master_took

-- a deliver hands over a frame that was written, and may still travel
abbrev pub may_deliver : List Grant → List Sent → Call → Bool
may_deliver given l (act a) = true
may_deliver given l (send value) = true
may_deliver given l (deliver f body) =
    leb 1 (last_of f body l) && may_travel given f.subconnection (sent_at l (last_of f body l - 1)).loads
may_deliver given l show = true

-- one more than the place of what a call took, an S-Refresh that was done; else what was taken before
abbrev pub took_by : List Sent → Call → Answer → ℕ → ℕ
took_by l (act b) a last = last
took_by l (send value) a last = last
took_by l (deliver f body) a last = cond (is_done a && is f.command K.Refresh) (last_of f body l) last
took_by l show a last = last

abbrev pub shown_by : Bool → ℕ → ℕ → ℕ → ℕ → Call → Endpoint → List Show
shown_by slave m t took n (act a) e = []
shown_by slave m t took n (send value) e = []
shown_by slave m t took n (deliver f body) e = []
shown_by slave m t took n show e =
    cond (is_fail_safe e) [] (shown slave e.settings m (shown_of e) (held_age e t) took n ∷ [])

-- the endpoint at an end, and the place last taken there, after a call at the slave's end or the master's
abbrev pub endpoint_after : Bool → Link → Bool → Outcome → Endpoint
endpoint_after end l slave o = cond (beq end slave) o.endpoint (endpoint_at l end)

abbrev pub took_after : Bool → Link → Bool → Call → Outcome → ℕ
took_after end l slave call o =
    cond (beq end slave) (took_by l.log call o.answer (took_at l end)) (took_at l end)

-- moments never fall
abbrev pub never_falls : Link → ℕ → Bool
never_falls l m = leb l.latest m

abbrev pub is_reading : ℕ → Bool
is_reading t = leb t last_reading

-- a slave's call is in pace with each before it since its loading: of the calls of both ends, only these need be
abbrev pub is_paced : Link → Bool → Reading → Bool
is_paced l slave r = cond slave (keeps_pace l.readings r) true

abbrev pub readings_after : Link → Bool → Reading → List Reading
readings_after l slave r = cond slave (r ∷ l.readings) l.readings

-- a call at an end with its reading and the other clock's time, and what it came to
abbrev pub after_call : Link → Bool → ℕ → ℕ → Call → Outcome → Link
after_call l slave t other call o =
    let m = moment_of l.shift slave t other in
    let r : Reading = record { tick = t; moment = m } in
    record {
      master = endpoint_after false l slave o;
      slave = endpoint_after true l slave o;
      shift = l.shift;
      readings = readings_after l slave r;
      loads = l.loads;
      given = given_after slave l.loads call o.answer l.given;
      log = l.log ++ logged slave m l.loads call o.writes;
      shows = l.shows ++ shown_by slave m t (took_at l slave) (length l.log) call o.endpoint;
      master_took = took_after false l slave call o;
      slave_took = took_after true l slave call o;
      latest = m;
      allowed = l.allowed
          && (may_deliver l.given l.log call && (never_falls l m && (is_reading t && is_paced l slave r)));
    }

-- settings of a slave, as a loaded list has them
abbrev pub is_slaves : Settings → Bool
is_slaves s =
    s.slave
    && (leb 1 s.interval
    && (leb s.interval 65535 && (leb s.roundtrip 65535 && leb s.age 65535)))

-- the slave is loaded again: nothing is remembered at its end but what it took, "and any later premise on the clocks
-- begins anew"; a loading has no moment
abbrev pub after_load : Link → Settings → ℕ → Link
after_load l s number = record {
  master = l.master;
  slave = fresh_of s number;
  shift = l.shift;
  readings = [];
  loads = suc l.loads;
  given = grant number (suc l.loads) ∷ l.given;
  log = l.log;
  shows = l.shows;
  master_took = l.master_took;
  slave_took = l.slave_took;
  latest = l.latest;
  allowed = l.allowed && is_slaves s;
}

abbrev pub after_event : Link → Event → Link
after_event l (called slave t other k) = after_call l slave t other k (call_of (endpoint_at l slave) t k)
after_event l (loaded s number) = after_load l s number

abbrev pub after_all : Link → List Event → Link
after_all l [] = l
after_all l (v ∷ vs) = after_all (after_event l v) vs

-- two endpoints just loaded, the slave with a session number
abbrev pub begun : Settings → Settings → ℕ → ℕ → Link
begun sm ss number shift = record {
  master = fresh_of sm number;
  slave = fresh_of ss number;
  shift = shift;
  readings = [];
  loads = 0;
  given = grant number 0 ∷ [];
  log = [];
  shows = [];
  master_took = 0;
  slave_took = 0;
  latest = 0;
  allowed = true;
}
