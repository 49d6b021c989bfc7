-- What a user's call that is done leaves.
use Rattle.std.specs.Prelude.{ℕ, ◌+◌, ◌%◌, Bool, false, cond, not, ◌||◌}
use Rattle.std.specs.Prelude.{None, Option, Some}
use Rattle.frame.specs.declared.Command.{Command}
use Rattle.frame.specs.declared.Command.TheVariants as K
use Rattle.frame.specs.Control.{is}
use Rattle.endpoint.specs.declared.Settings.{Settings}
use Rattle.endpoint.specs.declared.State.TheVariants.{Close, Starting}
use Rattle.endpoint.specs.declared.Queue.{Queue}
use Rattle.endpoint.specs.declared.Measurement.{Measurement}
use Rattle.endpoint.specs.declared.Queue.TheVariants as Q
use Rattle.endpoint.specs.Endpoint.{Endpoint, Words, no_bytes, no_record, words_of}
use Rattle.endpoint.specs.Due.{request_due}
use Rattle.endpoint.specs.Time.{no_value, ended_of, time_of}
use Rattle.endpoint.specs.Updates.{endpoint_of, in_state, timed_from, with_timestamps, with_sent, with_pending, with_requests}
use Rattle.endpoint.specs.Updates.{with_session, with_queue, with_invoked, measurement_of, with_measurement, with_words}
use Rattle.endpoint.specs.Updates.{with_error_info, holding}

-- the session number after a loading or a restart: a slave's user gives it; a master has none until the S-Connect reply
abbrev pub session_from : Bool → ℕ → Option ℕ
session_from slave number = cond slave (Some number) None

-- a connection as loaded, with this session number
abbrev pub fresh_of : Settings → ℕ → Endpoint
fresh_of s number =
    endpoint_of s Close (session_from s.slave number) 0 (record { sent = None; accepted = None })
    (record { pending = None; measured = 0; offset = 0; requests = 0; queue = Q.Empty; invoked = false })
    (measurement_of false false 0) (record { notready = false }) (words_of 0 no_bytes) (words_of 0 no_record) no_value

-- start; the count of requests begins anew, and the queue
abbrev pub started_of : Endpoint → ℕ → Endpoint
started_of e t =
    in_state Starting (timed_from t (with_invoked false (with_queue Q.Empty (with_requests 0 (with_pending None
    (holding no_value e))))))

-- restart, with this session number; what is remembered of timestamps stays, and the count of requests
abbrev pub restarted_of : Endpoint → ℕ → Endpoint
restarted_of e number = in_state Close (with_session (session_from e.settings.slave number) (holding no_value e))

-- how many requests have been written once this command is, in 8 bits: S-Disconnect is not counted
abbrev pub counted_of : Endpoint → Command → ℕ
counted_of e k = cond (is k K.Disconnect) e.setup.requests ((e.setup.requests + 1) % 256)

-- the queue is closed once S-RefreshReady has gone
abbrev pub queue_after : Command → Queue → Queue
queue_after k q = cond (is k K.RefreshReady) Q.Closed q

-- S-InvokeFunc has gone once it has
abbrev pub invoked_after : Command → Bool → Bool
invoked_after k b = is k K.InvokeFunc || b

-- send: a request with this timestamp
abbrev pub requested_at : Endpoint → ℕ → ℕ → Endpoint
requested_at e t stamp =
    timed_from t (with_sent stamp (with_invoked (invoked_after (request_due e) e.setup.invoked)
    (with_queue (queue_after (request_due e) e.setup.queue)
    (with_requests (counted_of e (request_due e)) (with_pending (Some stamp) e)))))

-- the same, with the endpoint's time
abbrev pub requested_of : Endpoint → ℕ → Endpoint
requested_of e t = requested_at e t (time_of e t)

-- send: S-Refresh
abbrev pub refresh_sent_of : Endpoint → ℕ → Endpoint
refresh_sent_of e t = with_sent (time_of e t) e

-- S-RefreshMO begins a measurement, with the other Offset op seq; S-RefreshGO goes on with it
abbrev pub measurement_after : Command → ℕ → Measurement → Measurement
measurement_after k t m = cond (is k K.RefreshMo) (measurement_of false (not m.sequence) t) m

-- send: one of the two, with this timestamp; its reply is awaited
abbrev pub measurement_sent_at : Endpoint → Command → ℕ → ℕ → Endpoint
measurement_sent_at e k t stamp =
    with_sent stamp (with_pending (Some stamp) (with_measurement (measurement_after k t e.measurement) e))

-- the same, with the endpoint's time
abbrev pub measurement_sent_of : Endpoint → Command → ℕ → Endpoint
measurement_sent_of e k t = measurement_sent_at e k t (time_of e t)

-- stop; a master's has sent S-Disconnect with this timestamp
abbrev pub stopped_at : Endpoint → ℕ → Endpoint
stopped_at e stamp =
    with_timestamps (cond e.settings.slave e.timestamps (with_sent stamp e).timestamps)
    (with_requests (counted_of e K.Disconnect) (ended_of e))

-- the same, with the endpoint's time
abbrev pub stopped_of : Endpoint → ℕ → Endpoint
stopped_of e t = stopped_at e (time_of e t)

-- invoke: S-InvokeFunc of these words waits
abbrev pub invoked_of : Endpoint → Words → Endpoint
invoked_of e w = with_queue Q.InvokeFunc (with_words w e)

-- read error: S-ReadErrorInfo waits
abbrev pub read_queued_of : Endpoint → Endpoint
read_queued_of e = with_queue Q.ReadErrorInfo e

-- write error: S-WriteErrorInfo waits, with this error record
abbrev pub write_queued_of : Endpoint → Words → Endpoint
write_queued_of e w = with_queue Q.WriteErrorInfo (with_error_info w e)
