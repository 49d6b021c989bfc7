-- An endpoint with a part of it changed, the others as they were.
use Rattle.std.specs.Prelude.{ℕ, Bool}
use Rattle.std.specs.Prelude.{Option, Some}
use Rattle.endpoint.specs.declared.Settings.{Settings}
use Rattle.endpoint.specs.declared.State.{State}
use Rattle.endpoint.specs.declared.Timestamps.{Timestamps}
use Rattle.endpoint.specs.declared.Queue.{Queue}
use Rattle.endpoint.specs.declared.Setup.{Setup}
use Rattle.endpoint.specs.declared.Measurement.{Measurement}
use Rattle.endpoint.specs.declared.Station.{Station}
use Rattle.endpoint.specs.Endpoint.{Value, Words}
use Rattle.endpoint.specs.Endpoint.{Endpoint}

abbrev pub endpoint_of : Settings → State → Option ℕ → ℕ → Timestamps → Setup → Measurement → Station → Words
    → Words → Value → Endpoint
endpoint_of settings state session since timestamps setup measurement station words errorinfo value = record {
  settings = settings;
  state = state;
  session = session;
  since = since;
  timestamps = timestamps;
  setup = setup;
  measurement = measurement;
  station = station;
  words = words;
  errorinfo = errorinfo;
  value = value;
}

abbrev pub in_state : State → Endpoint → Endpoint
in_state s e =
    endpoint_of e.settings s e.session e.since e.timestamps e.setup e.measurement e.station e.words e.errorinfo
    e.value

-- its timer starts at t
abbrev pub timed_from : ℕ → Endpoint → Endpoint
timed_from t e =
    endpoint_of e.settings e.state e.session t e.timestamps e.setup e.measurement e.station e.words e.errorinfo
    e.value

abbrev pub with_session : Option ℕ → Endpoint → Endpoint
with_session n e =
    endpoint_of e.settings e.state n e.since e.timestamps e.setup e.measurement e.station e.words e.errorinfo
    e.value

abbrev pub with_timestamps : Timestamps → Endpoint → Endpoint
with_timestamps ts e =
    endpoint_of e.settings e.state e.session e.since ts e.setup e.measurement e.station e.words e.errorinfo
    e.value

-- this timestamp is remembered as the last sent, or as the last accepted
abbrev pub with_sent : ℕ → Endpoint → Endpoint
with_sent stamp e = with_timestamps (record { sent = Some stamp; accepted = e.timestamps.accepted }) e

abbrev pub with_accepted : ℕ → Endpoint → Endpoint
with_accepted stamp e = with_timestamps (record { sent = e.timestamps.sent; accepted = Some stamp }) e

abbrev pub with_setup : Option ℕ → ℕ → ℕ → ℕ → Queue → Bool → Endpoint → Endpoint
with_setup pending measured offset requests queue invoked e =
    endpoint_of e.settings e.state e.session e.since e.timestamps
    (record {
      pending = pending;
      measured = measured;
      offset = offset;
      requests = requests;
      queue = queue;
      invoked = invoked;
    })
    e.measurement e.station e.words e.errorinfo e.value

abbrev pub with_pending : Option ℕ → Endpoint → Endpoint
with_pending p e =
    with_setup p e.setup.measured e.setup.offset e.setup.requests e.setup.queue e.setup.invoked e

-- s2 or m2, and ts_offset
abbrev pub with_measured : ℕ → Endpoint → Endpoint
with_measured n e =
    with_setup e.setup.pending n e.setup.offset e.setup.requests e.setup.queue e.setup.invoked e

abbrev pub with_offset : ℕ → Endpoint → Endpoint
with_offset n e =
    with_setup e.setup.pending e.setup.measured n e.setup.requests e.setup.queue e.setup.invoked e

-- so many setup requests have been written since the last start or loading
abbrev pub with_requests : ℕ → Endpoint → Endpoint
with_requests n e =
    with_setup e.setup.pending e.setup.measured e.setup.offset n e.setup.queue e.setup.invoked e

abbrev pub with_queue : Queue → Endpoint → Endpoint
with_queue q e =
    with_setup e.setup.pending e.setup.measured e.setup.offset e.setup.requests q e.setup.invoked e

-- S-InvokeFunc has gone since the last start, or has not
abbrev pub with_invoked : Bool → Endpoint → Endpoint
with_invoked b e =
    with_setup e.setup.pending e.setup.measured e.setup.offset e.setup.requests e.setup.queue b e

abbrev pub measurement_of : Bool → Bool → ℕ → Measurement
measurement_of answered sequence reference =
    record { answered = answered; sequence = sequence; reference = reference }

abbrev pub with_measurement : Measurement → Endpoint → Endpoint
with_measurement m e =
    endpoint_of e.settings e.state e.session e.since e.timestamps e.setup m e.station e.words
    e.errorinfo e.value

-- its measurement was answered and is not closed, or is
abbrev pub with_answered : Bool → Endpoint → Endpoint
with_answered b e =
    with_measurement (measurement_of b e.measurement.sequence e.measurement.reference) e

-- S-Data that its user has handed over
abbrev pub with_words : Words → Endpoint → Endpoint
with_words w e =
    endpoint_of e.settings e.state e.session e.since e.timestamps e.setup e.measurement e.station w e.errorinfo
    e.value

-- an error record that its user has handed over
abbrev pub with_error_info : Words → Endpoint → Endpoint
with_error_info w e =
    endpoint_of e.settings e.state e.session e.since e.timestamps e.setup e.measurement e.station e.words w
    e.value

abbrev pub holding : Value → Endpoint → Endpoint
holding v e =
    endpoint_of e.settings e.state e.session e.since e.timestamps e.setup e.measurement e.station e.words
    e.errorinfo v

-- its user says whether the station is not ready
abbrev pub with_not_ready : Bool → Endpoint → Endpoint
with_not_ready b e =
    endpoint_of e.settings e.state e.session e.since e.timestamps e.setup e.measurement (record { notready = b })
    e.words e.errorinfo e.value
