-- The request due from a master, what can hold it back, whether a command may be queued, and what holds a station's
-- reply back; in Refresh the measurement that is due, or under way.
use Rattle.std.specs.Prelude.{ℕ, ◌-◌, Bool, true, false, cond, not, ◌&&◌, ◌||◌, ◌==◌, nat_le, nat_lt}
use Rattle.std.specs.Prelude.{None, Option, Some}
use Rattle.frame.specs.declared.Command.{Command}
use Rattle.frame.specs.declared.Command.TheVariants as K
use Rattle.frame.specs.Control.{is, waits_for_station}
use Rattle.endpoint.specs.declared.Queue.{Queue}
use Rattle.endpoint.specs.declared.Queue.TheVariants.{Empty, InvokeFunc, ReadErrorInfo, WriteErrorInfo, Closed}
use Rattle.endpoint.specs.Endpoint.{Endpoint}
use Rattle.endpoint.specs.declared.State.TheVariants.{Refresh}
use Rattle.endpoint.specs.Table.{is_state, is_setup, request_of}

abbrev pub is_waiting : Queue → Bool
is_waiting Empty = false
is_waiting InvokeFunc = true
is_waiting ReadErrorInfo = true
is_waiting WriteErrorInfo = true
is_waiting Closed = false

abbrev pub is_empty : Queue → Bool
is_empty Empty = true
is_empty InvokeFunc = false
is_empty ReadErrorInfo = false
is_empty WriteErrorInfo = false
is_empty Closed = false

-- the command that waits, or S-RefreshReady, in whose place it goes
abbrev pub queued_in : Queue → Command
queued_in Empty = K.RefreshReady
queued_in InvokeFunc = K.InvokeFunc
queued_in ReadErrorInfo = K.ReadErrorInfo
queued_in WriteErrorInfo = K.WriteErrorInfo
queued_in Closed = K.RefreshReady

-- the queued command is due where S-RefreshReady would be: "the send that would write S-RefreshReady writes the queued one"
abbrev pub is_command_due : Endpoint → Bool
is_command_due e = is_waiting e.setup.queue && is (request_of e.state) K.RefreshReady

-- the request due from a master: the one that it sends next, or that is pending
abbrev pub request_due : Endpoint → Command
request_due e = cond (is_command_due e) (queued_in e.setup.queue) (request_of e.state)

abbrev pub is_pending : Option ℕ → Bool
is_pending None = false
is_pending (Some stamp) = true

-- the pending request has this timestamp
abbrev pub answers_to : Option ℕ → ℕ → Bool
answers_to None stamp = false
answers_to (Some asked) stamp = asked == stamp

-- a master may send the request due: in setup, with none pending
abbrev pub may_request : Endpoint → Bool
may_request e = not e.settings.slave && (is_setup e.state && not (is_pending e.setup.pending))

-- a start writes at most 45 requests (document 02, note 3)
abbrev pub request_limit : ℕ
request_limit = 45

-- a further request would be one too many
abbrev pub is_exhausted : Endpoint → Bool
is_exhausted e = nat_le request_limit e.setup.requests

-- a master's user may queue a command in setup, one at a time, until S-RefreshReady has gone
abbrev pub may_queue : Endpoint → Bool
may_queue e = not e.settings.slave && (is_setup e.state && is_empty e.setup.queue)

-- S-ReadErrorInfo, until S-InvokeFunc has gone
abbrev pub may_queue_read : Endpoint → Bool
may_queue_read e = may_queue e && not e.setup.invoked

-- a station that is not ready answers S-InitConfirmNetPrm, S-InitVerifyStnPrm and S-RefreshReady with Busy 1
abbrev pub is_held_back : Endpoint → Command → Bool
is_held_back e k = e.station.notready && waits_for_station k

-- ---- measurements of the clocks in Refresh (document 02, note 9)
-- a master measures again so many ticks after its last S-RefreshMO, or after entry into Refresh
abbrev pub measurement_interval : ℕ
measurement_interval = 10000

-- when its last step was taken: a request of a master that is pending was sent, else a reply was taken or given
abbrev pub last_step : Option ℕ → ℕ → ℕ
last_step None measured = measured
last_step (Some stamp) measured = stamp

-- "a measurement whose next step takes over R ticks of an end's clock is dropped there": what is late is none, until
-- another begins
abbrev pub is_late : Endpoint → ℕ → Bool
is_late e t = nat_lt e.settings.roundtrip (t - last_step e.setup.pending e.setup.measured)

-- one is open at a master: S-RefreshMO waits for its reply, was answered, or S-RefreshGO waits for its reply
abbrev pub is_open : Endpoint → ℕ → Bool
is_open e t = (is_pending e.setup.pending || e.measurement.answered) && not (is_late e t)

-- what a send in Refresh writes: a master's "the GO due, else, with none open, an MO 10,000 ticks or more after the last or
-- entry, else S-Refresh"; a slave's S-Refresh
abbrev pub refresh_due : Endpoint → ℕ → Command
refresh_due e t =
    cond e.settings.slave K.Refresh
    (cond (is_open e t) (cond (is_pending e.setup.pending) K.Refresh K.RefreshGo)
    (cond (nat_le measurement_interval (t - e.measurement.reference)) K.RefreshMo K.Refresh))

-- whose reply a master awaits in Refresh, if any is pending
abbrev pub awaited_in : Endpoint → Command
awaited_in e = cond e.measurement.answered K.RefreshGo K.RefreshMo

-- Offset op seq of the measurement under way: setup's is 0
abbrev pub sequence_of : Endpoint → Bool
sequence_of e = is_state e.state Refresh && e.measurement.sequence

-- a slave that may take S-RefreshGO has a measurement under way: in setup by its state
abbrev pub is_measuring : Endpoint → ℕ → Bool
is_measuring e t = not (is_state e.state Refresh) || (e.measurement.answered && not (is_late e t))
