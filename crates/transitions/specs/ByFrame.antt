-- What a frame of this connection that is taken leaves.
use Rattle.std.specs.Prelude.{ℕ, Bool, true, false, cond, List}
use Rattle.std.specs.Prelude.{None, Option}
use Rattle.frame.specs.declared.Command.{Command}
use Rattle.frame.specs.declared.Command.TheVariants as K
use Rattle.frame.specs.declared.Fields.{Fields}
use Rattle.frame.specs.Control.{is}
use Rattle.endpoint.specs.declared.State.TheVariants.{Refresh, Terminate, TerminateMore}
use Rattle.endpoint.specs.declared.Queue.TheVariants.{Empty}
use Rattle.endpoint.specs.declared.Measurement.{Measurement}
use Rattle.endpoint.specs.Endpoint.{Endpoint, value_of}
use Rattle.endpoint.specs.Table.{is_state, next_of, state_to}
use Rattle.endpoint.specs.Due.{is_command_due, request_due, is_held_back}
use Rattle.endpoint.specs.Time.{age_of, counted_age, offset_from, no_value, ended_of}
use Rattle.endpoint.specs.Updates.{in_state, timed_from, with_accepted, with_pending, with_measured, with_offset, with_queue}
use Rattle.endpoint.specs.Updates.{with_session, measurement_of, with_measurement, with_answered, holding}

-- ---- S-Refresh, at either end
-- its value, of this age, is held
abbrev pub refreshed_at : Endpoint → ℕ → ℕ → ℕ → List ℕ → Endpoint
refreshed_at e t stamp age bytes = timed_from t (with_accepted stamp (holding (value_of true age bytes) e))

-- the same, with the age that its timestamp counts as
abbrev pub refreshed_of : Endpoint → ℕ → ℕ → List ℕ → Endpoint
refreshed_of e t stamp bytes = refreshed_at e t stamp (counted_age (age_of e t stamp)) bytes

-- ---- a request at a slave
-- ended, and the frame's timestamp counts as accepted
abbrev pub ended_by : Endpoint → ℕ → Endpoint
ended_by e stamp = with_accepted stamp (ended_of e)

-- s2, or m2, is the clock at S-RefreshReady's reply
abbrev pub measured_by : Command → ℕ → ℕ → ℕ
measured_by k t measured = cond (is k K.RefreshReady) t measured

-- ts_offset comes with S-RefreshGO
abbrev pub offset_by : Endpoint → Fields → ℕ
offset_by e f =
    cond (is f.command K.RefreshGo) (offset_from f.timestamp f.baseline e.setup.measured) e.setup.offset

-- S-RefreshGO leads into Refresh, where none is measured yet: a slave's offset is that of s2, a master counts from entry
abbrev pub measurement_by : Command → ℕ → Measurement → Measurement
measurement_by k reference m = cond (is k K.RefreshGo) (measurement_of false false reference) m

-- the next state
abbrev pub advanced_of : Endpoint → ℕ → Fields → Endpoint
advanced_of e t f =
    in_state (state_to (next_of f.command e.state) e.state)
    (timed_from t (with_accepted f.timestamp
    (with_measured (measured_by f.command t e.setup.measured) (with_offset (offset_by e f)
    (with_measurement (measurement_by f.command e.setup.measured e.measurement) (holding no_value e))))))

-- a station that is not ready: its state stays, s2 too; the timestamp counts as accepted, and the timer runs from the
-- Busy reply (001: ST26, ST30, ST33)
abbrev pub deferred_of : Endpoint → ℕ → Fields → Endpoint
deferred_of e t f = timed_from t (with_accepted f.timestamp e)

-- what a request that is done leaves once it has its reply; S-InvokeFunc's leads on with Busy too
abbrev pub answered_of : Endpoint → ℕ → Fields → Endpoint
answered_of e t f = cond (is_held_back e f.command) (deferred_of e t f) (advanced_of e t f)

-- in Refresh S-RefreshMO: s2 is the clock at its reply, the offset in use stays
abbrev pub remeasured_of : Endpoint → ℕ → Fields → Endpoint
remeasured_of e t f =
    with_accepted f.timestamp (with_measured t
    (with_measurement (measurement_of true f.sequence e.measurement.reference) e))

-- in Refresh S-RefreshGO: the offset anew, of that s2
abbrev pub adjusted_of : Endpoint → Fields → Endpoint
adjusted_of e f =
    with_accepted f.timestamp (with_offset (offset_by e f)
    (with_measurement (measurement_of false e.measurement.sequence e.setup.measured) e))

-- either: the state stays, the timer and the value
abbrev pub synchronized_of : Endpoint → ℕ → Fields → Endpoint
synchronized_of e t f = cond (is f.command K.RefreshMo) (remeasured_of e t f) (adjusted_of e f)

-- S-WriteErrorInfo: Terminate, where further error records are taken while more follow
abbrev pub reported_of : Endpoint → ℕ → Bool → Endpoint
reported_of e stamp more = in_state (cond more TerminateMore Terminate) (ended_by e stamp)

-- what a request that is done leaves; `more`: it has an error record, and more follow
abbrev pub taken_of : Endpoint → ℕ → Fields → Bool → Endpoint
taken_of e t f more =
    cond (is f.command K.Disconnect) (ended_by e f.timestamp)
    (cond (is f.command K.WriteErrorInfo) (reported_of e f.timestamp more)
    (cond (is_state e.state Refresh) (synchronized_of e t f) (answered_of e t f)))

-- ---- a reply at a master: to its pending request
-- the session number comes with the reply to S-Connect
abbrev pub session_by : Endpoint → Fields → Option ℕ
session_by e f = cond (is (request_due e) K.Connect) f.subconnection e.session

-- the next state
abbrev pub confirmed_of : Endpoint → ℕ → Fields → Endpoint
confirmed_of e t f =
    in_state (state_to (next_of (request_due e) e.state) e.state)
    (timed_from t (with_pending None (with_session (session_by e f)
    (with_measured (measured_by (request_due e) t e.setup.measured)
    (with_measurement (measurement_by (request_due e) t e.measurement) (holding no_value e))))))

-- Busy: the request is due again, with a new timestamp; the timer starts afresh, the state and m2 stay (001: MT30 to
-- MT32)
abbrev pub due_again_of : Endpoint → ℕ → Endpoint
due_again_of e t = timed_from t (with_pending None e)

-- the queued command has its reply and waits no longer: the state stays
abbrev pub performed_of : Endpoint → ℕ → Endpoint
performed_of e t = timed_from t (with_pending None (with_queue Empty e))

-- in setup
abbrev pub setup_heard_of : Endpoint → ℕ → Fields → Endpoint
setup_heard_of e t f = cond f.busy (due_again_of e t) (cond (is_command_due e) (performed_of e t) (confirmed_of e t f))

-- in Refresh: m2 comes with the reply to S-RefreshMO, and S-RefreshGO is due; its own reply closes the measurement
abbrev pub measurement_heard_of : Endpoint → ℕ → Fields → Endpoint
measurement_heard_of e t f =
    cond (is f.command K.RefreshMo) (with_pending None (with_measured t (with_answered true e)))
    (with_pending None (with_answered false e))

-- what a reply that is done leaves
abbrev pub heard_of : Endpoint → ℕ → Fields → Endpoint
heard_of e t f = cond (is_state e.state Refresh) (measurement_heard_of e t f) (setup_heard_of e t f)
