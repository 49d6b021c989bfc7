-- The record of an endpoint is that endpoint's.
use mathlib.Core.Path.{◌≡◌, refl, sym}
use Rattle.std.specs.Prelude.{None, Option, Some, is_some, unwrap_or}
use Rattle.std.specs.Bool.{then_some}
use mathlib.Core.Bool.{Bool, true, false, cond, true≢false}
use mathlib.Core.List.{List}
use Prim.Native.Nat.{ℕ}
use Rattle.frame.specs.Control.{subconnection_of}
use Rattle.endpoint.specs.declared.State.{State}
use Rattle.endpoint.specs.declared.State.TheVariants.{Close, Starting, EstablishPending, Establish, ParamVerify}
use Rattle.endpoint.specs.declared.State.TheVariants.{FuncRunning, RefreshPending, Refresh, Terminate}
use Rattle.endpoint.specs.declared.State.TheVariants.{TerminateMore}
use Rattle.endpoint.specs.declared.Queue.{Queue}
use Rattle.endpoint.specs.declared.Queue.TheVariants.{Empty, InvokeFunc, ReadErrorInfo, WriteErrorInfo, Closed}
use Rattle.endpoint.specs.Endpoint.{Endpoint, no_bytes}
use Rattle.endpoint.specs.Table.{row_of}
use Rattle.endpoint.specs.Time.{Tidy}
use Rattle.records.specs.Records.{is_set, flag_of, state_from, queue_from, queue_number, session_in, endpoint_of, record_of, RecordTheorem}

pub flag_back : (b : Bool) → is_set (flag_of b) ≡ b
flag_back true = refl
flag_back false = refl

state_back : (s : State) → state_from (row_of s) ≡ s
state_back Close = refl
state_back Starting = refl
state_back EstablishPending = refl
state_back Establish = refl
state_back ParamVerify = refl
state_back FuncRunning = refl
state_back RefreshPending = refl
state_back Refresh = refl
state_back Terminate = refl
state_back TerminateMore = refl

time_back : (x : Option ℕ) → then_some (is_set (flag_of (is_some x))) (unwrap_or x 0) ≡ x
time_back None = refl
time_back (Some t) = refl

queue_back : (q : Queue) → queue_from (queue_number q) ≡ q
queue_back Empty = refl
queue_back InvokeFunc = refl
queue_back ReadErrorInfo = refl
queue_back WriteErrorInfo = refl
queue_back Closed = refl

session_back : (x : Option ℕ) → subconnection_of (is_set (flag_of (is_some x))) (session_in x) ≡ x
session_back None = refl
session_back (Some n) = refl

bytes_back : (taken : Bool) (bytes : List ℕ) → (taken ≡ false → bytes ≡ no_bytes)
    → cond (is_set (flag_of taken)) bytes no_bytes ≡ bytes
bytes_back true bytes h = refl
bytes_back false bytes h = sym (h refl)

back : (e : Endpoint) → Tidy e → endpoint_of (record_of e) ≡ e
back e tidy =
    rw (
      bytes_back e.value.taken e.value.bytes tidy,
      flag_back e.settings.slave,
      state_back e.state,
      session_back e.session,
      time_back e.timestamps.sent,
      time_back e.timestamps.accepted,
      time_back e.setup.pending,
      queue_back e.setup.queue,
      flag_back e.setup.invoked,
      flag_back e.station.notready,
      flag_back e.value.taken,
      flag_back e.measurement.answered,
      flag_back e.measurement.sequence,
    )

untaken : (taken : Bool) (bytes : List ℕ) → taken ≡ false → cond taken bytes no_bytes ≡ no_bytes
untaken true bytes h = absurd (true≢false h)
untaken false bytes h = refl

pub records : RecordTheorem
records = record { back = back; tidy = λ r. untaken (is_set r.stored.taken) r.value; ended = λ r. refl }
