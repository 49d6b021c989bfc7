-- What C is told by a call that it lends, and what the lent call then holds: the gateway of the answer.
use Rattle.std.specs.Prelude.{◌≡◌, false, List, ℕ}
use Rattle.std.specs.Prelude.{None}
use Rattle.words.specs.Output.{over}
use Rattle.steps.specs.Frames.{bytes_of}
use Rattle.records.specs.declared.Record.{Record}
use Rattle.gateway.specs.declared.Gateway.{Gateway}
use Rattle.gateway.specs.declared.Call.{Call}
use Rattle.gateway.specs.declared.Called.{Called}
use Rattle.gateway.specs.declared.Told.{Told}
use Rattle.gateway.specs.Loading.{loaded_of}
use Rattle.gateway.specs.Calls.{Result, called_of, called_by, is_named, entry_number, is_aged, ticks_in}
use Rattle.endpoint.specs.Answers.{number_of}
use Rattle.records.specs.Records.{flag_of}

-- all but the gateway
abbrev pub told_of : Called → Told
told_of t = record {
  count = t.count;
  entry = entry_number t.entry;
  age = ticks_in t.age;
  named = flag_of (is_named t.entry);
  number = number_of t.answer;
  failsafe = flag_of t.failsafe;
  aged = flag_of (is_aged t.age);
}

-- all else of the call stays
abbrev pub with_gateway : Call → Gateway → Call
with_gateway c g = record {
  gateway = g;
  clock = c.clock;
  entry = c.entry;
  notready = c.notready;
  session = c.session;
  word = c.word;
}

-- a lent call that is lent no output
pub record LentCallSays (r : Result) (c c' : Call) (records : List Record) (t : Told) : Type 0 where
  pub told : t ≡ told_of (called_of r)
  pub kept : c' ≡ with_gateway c r.lent.gateway
  pub left : records ≡ r.lent.records

-- a lent output: the written bytes stand over its front, the rest stays
pub record LentOutputSays (r : Result) (c c' : Call) (records : List Record) (out out' : List ℕ) (t : Told)
    : Type 0 where
  pub told : t ≡ told_of (called_of r)
  pub kept : c' ≡ with_gateway c r.lent.gateway
  pub left : records ≡ r.lent.records
  pub output : out' ≡ over (bytes_of r.writes) out

-- loading answers no entry, and writes nothing; of the call it reads the session number
pub record LentLoadSays (ws : List ℕ) (rs : List Record) (c c' : Call) (records : List Record) (t : Told) : Type 0 where
  pub told : t ≡ told_of (called_by (loaded_of c.session ws rs).lent.gateway (loaded_of c.session ws rs).answer
      None 0 false None)
  pub kept : c' ≡ with_gateway c (loaded_of c.session ws rs).lent.gateway
  pub left : records ≡ (loaded_of c.session ws rs).lent.records
