-- A record is an endpoint in numbers and bytes: every record is an endpoint's, whatever it holds, and every endpoint has
-- its record.
use Rattle.std.specs.Prelude.{◌≡◌, Bool, not, cond, List, ℕ, eqb}
use Rattle.std.specs.Prelude.{Option, is_some, unwrap_or}
use Rattle.std.specs.Bool.{then_some}
use Rattle.std.specs.Int.{from_bool}
use Rattle.frame.specs.Control.{subconnection_of}
use Rattle.endpoint.specs.declared.State.{State}
use Rattle.endpoint.specs.declared.State.TheVariants.{Close, Starting, EstablishPending, Establish, ParamVerify}
use Rattle.endpoint.specs.declared.State.TheVariants.{FuncRunning, RefreshPending, Refresh, Terminate}
use Rattle.endpoint.specs.declared.State.TheVariants.{TerminateMore}
use Rattle.endpoint.specs.declared.Queue.{Queue}
use Rattle.endpoint.specs.declared.Queue.TheVariants.{Empty, InvokeFunc, ReadErrorInfo, WriteErrorInfo, Closed}
use Rattle.endpoint.specs.Endpoint.{Endpoint, no_bytes, no_record, words_of, value_of}
use Rattle.endpoint.specs.Table.{row_of}
use Rattle.endpoint.specs.Time.{is_expired, ended_of, Tidy}
use Rattle.records.specs.declared.Stored.{Stored}
use Rattle.records.specs.declared.Record.{Record}

-- ---- flags and numbers
abbrev pub is_set : ℕ → Bool
is_set x = not (eqb x 0)

abbrev pub flag_of : Bool → ℕ
flag_of b = from_bool b

-- past the ten states a number is Terminate's
abbrev pub state_from : ℕ → State
state_from x =
    cond (eqb x 0) Close
    (cond (eqb x 1) Starting
    (cond (eqb x 2) EstablishPending
    (cond (eqb x 3) Establish
    (cond (eqb x 4) ParamVerify
    (cond (eqb x 5) FuncRunning
    (cond (eqb x 6) RefreshPending
    (cond (eqb x 7) Refresh
    (cond (eqb x 9) TerminateMore Terminate))))))))

abbrev pub timestamp_from : Bool → ℕ → Option ℕ
timestamp_from has t = then_some has t

abbrev pub is_at : Option ℕ → Bool
is_at x = is_some x

abbrev pub time_in : Option ℕ → ℕ
time_in x = unwrap_or x 0

abbrev pub pending_from : Bool → ℕ → Option ℕ
pending_from has t = then_some has t

abbrev pub is_asked : Option ℕ → Bool
is_asked x = is_some x

abbrev pub asked_in : Option ℕ → ℕ
asked_in x = unwrap_or x 0

-- past the five a number is Closed's
abbrev pub queue_from : ℕ → Queue
queue_from x =
    cond (eqb x 0) Empty
    (cond (eqb x 1) InvokeFunc
    (cond (eqb x 2) ReadErrorInfo
    (cond (eqb x 3) WriteErrorInfo Closed)))

abbrev pub queue_number : Queue → ℕ
queue_number Empty = 0
queue_number InvokeFunc = 1
queue_number ReadErrorInfo = 2
queue_number WriteErrorInfo = 3
queue_number Closed = 4

abbrev pub session_in : Option ℕ → ℕ
session_in x = unwrap_or x 0

-- ---- a record and its endpoint
-- the endpoint that is stored, with the bytes of its value, of its words and of its error record
abbrev pub whole_of : Stored → List ℕ → List ℕ → List ℕ → Endpoint
whole_of s bytes words errorinfo = record {
  settings = record {
    connection = s.connection;
    slave = is_set s.slave;
    masterwords = s.masterwords;
    slavewords = s.slavewords;
    interval = s.interval;
    roundtrip = s.roundtrip;
    age = s.age;
    station = s.station;
  };
  state = state_from s.state;
  session = subconnection_of (is_set s.hassession) s.session;
  since = s.since;
  timestamps = record {
    sent = timestamp_from (is_set s.hassent) s.sent;
    accepted = timestamp_from (is_set s.hasaccepted) s.accepted;
  };
  setup = record {
    pending = pending_from (is_set s.hasasked) s.asked;
    measured = s.measured;
    offset = s.offset;
    requests = s.requests;
    queue = queue_from s.queue;
    invoked = is_set s.invoked;
  };
  measurement = record {
    answered = is_set s.answered;
    sequence = is_set s.sequence;
    reference = s.reference;
  };
  station = record { notready = is_set s.notready };
  words = words_of s.words words;
  errorinfo = words_of s.errorinfo errorinfo;
  value = value_of (is_set s.taken) s.valueage bytes;
}

-- the same with all three left out: what a call that does not touch them starts from
abbrev pub bare_of : Stored → Endpoint
bare_of s = whole_of s no_bytes no_bytes no_record

-- the value's bytes count where a value is taken; of the words' and the error record's nobody looks past their count, so
-- they count as they stand
abbrev pub held_in : Record → List ℕ
held_in r = cond (is_set r.stored.taken) r.value no_bytes

abbrev pub endpoint_of : Record → Endpoint
endpoint_of r = whole_of r.stored (held_in r) r.words r.errorinfo

abbrev pub stored_of : Endpoint → Stored
stored_of e = record {
  since = e.since;
  sent = time_in e.timestamps.sent;
  accepted = time_in e.timestamps.accepted;
  asked = asked_in e.setup.pending;
  measured = e.setup.measured;
  offset = e.setup.offset;
  connection = e.settings.connection;
  interval = e.settings.interval;
  roundtrip = e.settings.roundtrip;
  age = e.settings.age;
  station = e.settings.station;
  state = row_of e.state;
  slave = flag_of e.settings.slave;
  masterwords = e.settings.masterwords;
  slavewords = e.settings.slavewords;
  hassent = flag_of (is_at e.timestamps.sent);
  hasaccepted = flag_of (is_at e.timestamps.accepted);
  hasasked = flag_of (is_asked e.setup.pending);
  requests = e.setup.requests;
  queue = queue_number e.setup.queue;
  invoked = flag_of e.setup.invoked;
  notready = flag_of e.station.notready;
  words = e.words.count;
  errorinfo = e.errorinfo.count;
  taken = flag_of e.value.taken;
  valueage = e.value.age;
  session = session_in e.session;
  hassession = flag_of (is_some e.session);
  answered = flag_of e.measurement.answered;
  sequence = flag_of e.measurement.sequence;
  reference = e.measurement.reference;
}

abbrev pub record_with : Stored → List ℕ → List ℕ → List ℕ → Record
record_with s value words errorinfo = record { stored = s; value = value; words = words; errorinfo = errorinfo }

abbrev pub record_of : Endpoint → Record
record_of e = record_with (stored_of e) e.value.bytes e.words.bytes e.errorinfo.bytes

-- ---- an end, in numbers
-- Terminate, no command waits, and no value is taken; all else as it stands
abbrev pub ended_stored : Stored → Stored
ended_stored s = record {
  since = s.since;
  sent = s.sent;
  accepted = s.accepted;
  asked = s.asked;
  measured = s.measured;
  offset = s.offset;
  connection = s.connection;
  interval = s.interval;
  roundtrip = s.roundtrip;
  age = s.age;
  station = s.station;
  state = row_of Terminate;
  slave = s.slave;
  masterwords = s.masterwords;
  slavewords = s.slavewords;
  hassent = s.hassent;
  hasaccepted = s.hasaccepted;
  hasasked = s.hasasked;
  requests = s.requests;
  queue = queue_number Empty;
  invoked = s.invoked;
  notready = s.notready;
  words = s.words;
  errorinfo = s.errorinfo;
  taken = 0;
  valueage = 0;
  session = s.session;
  hassession = s.hassession;
  answered = s.answered;
  sequence = s.sequence;
  reference = s.reference;
}

-- and what the clock step leaves
abbrev pub ticked_stored : Stored → ℕ → Stored
ticked_stored s t = cond (is_expired (bare_of s) t) (ended_stored s) s

abbrev pub ended_record : Record → Record
ended_record r = record_with (ended_stored r.stored) no_bytes r.words r.errorinfo

-- ---- the two are inverse, and an end in numbers is the endpoint's
pub record RecordTheorem : Type 0 where
  -- the record of an endpoint is that endpoint's
  pub back : (e : Endpoint) → Tidy e → endpoint_of (record_of e) ≡ e
  -- and that of any record is such a one
  pub tidy : (r : Record) → Tidy (endpoint_of r)
  pub ended : (r : Record) → endpoint_of (ended_record r) ≡ ended_of (endpoint_of r)
