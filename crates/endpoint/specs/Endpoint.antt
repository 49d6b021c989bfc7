-- An endpoint as the definitions have it: all that a connection keeps, with the value that it holds and the words and the
-- error record that its user has handed over. In memory it is a record (the crate records); the code hands on by value
-- its core, which is all but the bytes of these three.
use Rattle.std.specs.Prelude.{ℕ, Bool, List, replicate}
use Rattle.std.specs.Prelude.{Option}
use Rattle.endpoint.specs.declared.Settings.{Settings}
use Rattle.endpoint.specs.declared.State.{State}
use Rattle.endpoint.specs.declared.Timestamps.{Timestamps}
use Rattle.endpoint.specs.declared.Setup.{Setup}
use Rattle.endpoint.specs.declared.Measurement.{Measurement}
use Rattle.endpoint.specs.declared.Station.{Station}
use Rattle.endpoint.specs.declared.Core.{Core}

-- the last value accepted in this Refresh, with its age then, in ticks, and zeros after it; the fail-safe value, of age
-- 0, where there is none
pub record Value : Type 0 where
  pub taken : Bool
  pub age : ℕ
  pub bytes : List ℕ

abbrev pub value_of : Bool → ℕ → List ℕ → Value
value_of taken age bytes = record { taken = taken; age = age; bytes = bytes }

-- S-Data that its user has handed over, from the front of the bytes; 0 words where none is set
pub record Words : Type 0 where
  pub count : ℕ
  pub bytes : List ℕ

pub record Endpoint : Type 0 where
  pub settings : Settings
  pub state : State
  -- the session number: at a slave its user's, at a master that of the S-Connect reply, none before it
  pub session : Option ℕ
  -- where the timer starts
  pub since : ℕ
  pub timestamps : Timestamps
  pub setup : Setup
  pub measurement : Measurement
  pub station : Station
  -- at a master its queued S-InvokeFunc, at a slave the station's result
  pub words : Words
  -- at a master the error record of its queued S-WriteErrorInfo, at a slave the station's own
  pub errorinfo : Words
  pub value : Value

-- the fail-safe value
abbrev pub no_bytes : List ℕ
no_bytes = replicate 100 0

-- no error record
abbrev pub no_record : List ℕ
no_record = replicate 56 0

abbrev pub words_of : ℕ → List ℕ → Words
words_of count bytes = record { count = count; bytes = bytes }

-- the core of an endpoint, and the endpoint of a core, the bytes of its value, words and error record left out
abbrev pub core_of : Endpoint → Core
core_of e = record {
  settings = e.settings;
  state = e.state;
  session = e.session;
  since = e.since;
  timestamps = e.timestamps;
  setup = e.setup;
  measurement = e.measurement;
  station = e.station;
  words = e.words.count;
  errorinfo = e.errorinfo.count;
  taken = e.value.taken;
  valueage = e.value.age;
}

abbrev pub bare : Core → Endpoint
bare c = record {
  settings = c.settings;
  state = c.state;
  session = c.session;
  since = c.since;
  timestamps = c.timestamps;
  setup = c.setup;
  measurement = c.measurement;
  station = c.station;
  words = words_of c.words no_bytes;
  errorinfo = words_of c.errorinfo no_record;
  value = value_of c.taken c.valueage no_bytes;
}
