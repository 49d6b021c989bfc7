-- What holds of the calls, for whoever uses them and does not look at their text.
use Rattle.std.specs.Prelude.{◌≡◌, Bool, true, false, ◌&&◌, cond, List, ◌⊎◌, ℕ, ◌+◌, ◌/◌, ◌≤◌, ◌<◌, length}
use Rattle.std.specs.Prelude.{Err, Ok}
use Rattle.std.specs.Prelude.{None, Option, Some}
use Rattle.frame.specs.declared.Command.TheVariants as K
use Rattle.frame.specs.declared.Fields.{Fields}
use Rattle.frame.specs.Control.{is, is_joined, is_same}
use Rattle.frame.specs.RoundTrip.{Readable}
use Rattle.errors.specs.Reading.{is_record, more_follows}
use Rattle.endpoint.specs.declared.Settings.{Settings}
use Rattle.endpoint.specs.declared.State.TheVariants.{Close, Refresh}
use Rattle.endpoint.specs.Endpoint.{Endpoint, words_of}
use Rattle.endpoint.specs.declared.Reason.{Reason}
use Rattle.endpoint.specs.declared.Refusal.TheVariants.{Dropped}
use Rattle.endpoint.specs.Table.{is_state, is_setup, is_terminated, is_no, next_of}
use Rattle.endpoint.specs.Due.{request_due, request_limit, may_queue, may_queue_read, refresh_due, awaited_in}
use Rattle.endpoint.specs.Answers.{is_done}
use Rattle.endpoint.specs.Time.{is_above, is_too_far_ahead, is_too_late, allowance_of, time_of, age_of}
use Rattle.endpoint.specs.Updates.{with_words, with_error_info, with_not_ready}
use Rattle.transitions.specs.ByCall.{started_of, restarted_of, requested_of, refresh_sent_of, stopped_of, invoked_of}
use Rattle.transitions.specs.ByCall.{read_queued_of, write_queued_of}
use Rattle.transitions.specs.ByFrame.{refreshed_of, answered_of, synchronized_of, reported_of, ended_by, setup_heard_of}
use Rattle.transitions.specs.ByFrame.{measurement_heard_of}
use Rattle.steps.specs.Frames.{Written, nothing, frame, setup_data, due_data, send_width, show_width, request_fields}
use Rattle.steps.specs.Frames.{session_of, refresh_fields, reply_fields, is_busy, has_record, reply_data, is_request}
use Rattle.steps.specs.Frames as W
use Rattle.steps.specs.Calls.{outcome, dropped, is_value_due, measurement_outcome, disconnect_of, start_of, restart_of, set_not_ready_of, send_of, stop_of}
use Rattle.steps.specs.Frames.{padded_of}
use Rattle.steps.specs.Calls.{set_result_of, clear_result_of, command_data, invoke_of, kept_record, set_record_of}
use Rattle.steps.specs.Calls.{clear_record_of, read_error_of, write_error_of}
use Rattle.steps.specs.Deliveries.{is_width, is_result, lacks_number, replies_record, take_refresh, take_request}
use Rattle.steps.specs.Deliveries.{take_reply}
use Rattle.steps.specs.Steps.{begins, Call, act, send, deliver, show, step_of}

-- a frame that is written reads back, and carries the endpoint's CID and its role's Application bit
abbrev pub Carries : Endpoint → Written → Type 0
Carries e nothing = Unit {0}
Carries e (frame f body) =
    Readable f body × (f.connection ≡ e.settings.connection) × (f.application ≡ e.settings.slave)
Carries e (W.value bytes) = Unit {0}

-- settings whose times are a loaded list's
pub record Ticks (s : Settings) : Type 0 where
  pub some : 1 ≤ s.interval
  pub interval : s.interval ≤ 65535
  pub roundtrip : s.roundtrip ≤ 65535
  pub age : s.age ≤ 65535

-- ---- the count of setup requests
-- how many requests are written, and how many of them in setup
abbrev pub requests_in : Written → ℕ
requests_in nothing = 0
requests_in (frame f body) = cond (is_request f) 1 0
requests_in (W.value bytes) = 0

abbrev pub setup_requests_in : Endpoint → Written → ℕ
setup_requests_in e w = cond (is_setup e.state) (requests_in w) 0

abbrev pub is_start : Call → Bool
is_start (act a) = begins a
is_start (send value) = false
is_start (deliver f body) = false
is_start show = false

-- ---- what a call that is done tells of the endpoint, and what it comes to
pub record StartDone (e : Endpoint) (t : ℕ) : Type 0 where
  pub master : e.settings.slave ≡ false
  pub closed : is_state e.state Close ≡ true
  pub comes : start_of e t ≡ outcome (Ok tt) (started_of e t) nothing

pub record RestartDone (e : Endpoint) (number : ℕ) : Type 0 where
  pub terminated : is_terminated e.state ≡ true
  pub comes : restart_of e number ≡ outcome (Ok tt) (restarted_of e number) nothing

pub record NotReadySet (e : Endpoint) (b : Bool) : Type 0 where
  pub slave : e.settings.slave ≡ true
  pub comes : set_not_ready_of e b ≡ outcome (Ok tt) (with_not_ready b e) nothing

pub record ResultSet (e : Endpoint) (body : List ℕ) : Type 0 where
  pub slave : e.settings.slave ≡ true
  pub comes : set_result_of e body ≡ outcome (Ok tt) (with_words (words_of (length body / 4) (padded_of body)) e) nothing

pub record ResultCleared (e : Endpoint) : Type 0 where
  pub slave : e.settings.slave ≡ true
  pub comes : clear_result_of e ≡ outcome (Ok tt) (with_words (words_of 0 e.words.bytes) e) nothing

pub record CommandQueued (e : Endpoint) (word : ℕ) (bytes : List ℕ) : Type 0 where
  pub may : may_queue e ≡ true
  pub comes : invoke_of e word bytes
      ≡ outcome (Ok tt) (invoked_of e (words_of (length (command_data word bytes) / 4) (padded_of (command_data word bytes))))
      nothing

pub record RecordSet (e : Endpoint) (body : List ℕ) : Type 0 where
  pub slave : e.settings.slave ≡ true
  pub comes : set_record_of e body ≡ outcome (Ok tt) (with_error_info (kept_record body) e) nothing

pub record RecordCleared (e : Endpoint) : Type 0 where
  pub slave : e.settings.slave ≡ true
  pub comes : clear_record_of e ≡ outcome (Ok tt) (with_error_info (words_of 0 e.errorinfo.bytes) e) nothing

pub record ReadQueued (e : Endpoint) : Type 0 where
  pub may : may_queue_read e ≡ true
  pub comes : read_error_of e ≡ outcome (Ok tt) (read_queued_of e) nothing

pub record WriteQueued (e : Endpoint) (body : List ℕ) : Type 0 where
  pub may : may_queue e ≡ true
  pub comes : write_error_of e body ≡ outcome (Ok tt) (write_queued_of e (kept_record body)) nothing

pub record RefreshSent (e : Endpoint) (t : ℕ) (value : List ℕ) : Type 0 where
  pub refresh : is_state e.state Refresh ≡ true
  pub due : is_value_due e t ≡ true
  pub width : length value ≡ send_width e.settings
  pub above : is_above e.timestamps.sent (time_of e t) ≡ true
  pub comes : send_of e t value ≡ outcome (Ok tt) (refresh_sent_of e t) (frame (refresh_fields e t) value)

-- S-RefreshGO, whose S-RefreshMO was answered in time, or S-RefreshMO
pub record GoDue (e : Endpoint) (t : ℕ) : Type 0 where
  pub due : refresh_due e t ≡ K.RefreshGo
  pub idle : e.setup.pending ≡ None
  pub answered : e.measurement.answered ≡ true

pub record MeasurementSent (e : Endpoint) (t : ℕ) (value : List ℕ) : Type 0 where
  pub master : e.settings.slave ≡ false
  pub refresh : is_state e.state Refresh ≡ true
  pub due : GoDue e t ⊎ (refresh_due e t ≡ K.RefreshMo)
  pub above : is_above e.timestamps.sent (time_of e t) ≡ true
  pub comes : send_of e t value ≡ measurement_outcome e (refresh_due e t) t

pub record RequestSent (e : Endpoint) (t : ℕ) (value : List ℕ) : Type 0 where
  pub master : e.settings.slave ≡ false
  pub setup : is_setup e.state ≡ true
  pub idle : e.setup.pending ≡ None
  pub few : e.setup.requests < request_limit
  pub above : is_above e.timestamps.sent (time_of e t) ≡ true
  pub comes : send_of e t value
      ≡ outcome (Ok tt) (requested_of e t) (frame (request_fields e t) (due_data e))

pub record StopDone (e : Endpoint) (t : ℕ) : Type 0 where
  pub begun : is_state e.state Close ≡ false
  pub running : is_terminated e.state ≡ false
  pub above : e.settings.slave ≡ false → is_above e.timestamps.sent (time_of e t) ≡ true
  pub comes : stop_of e t ≡ outcome (Ok tt) (stopped_of e t) (disconnect_of e t)

pub record RefreshTaken (e : Endpoint) (t : ℕ) (n : Option ℕ) (stamp : ℕ) (body : List ℕ) : Type 0 where
  pub refresh : is_state e.state Refresh ≡ true
  pub session : is_same (session_of e) n ≡ true
  pub width : length body ≡ show_width e.settings
  pub above : is_above e.timestamps.accepted stamp ≡ true
  pub near : is_too_far_ahead (age_of e t stamp) (allowance_of e.settings) ≡ false
  pub young : is_too_late (age_of e t stamp) e.settings.age ≡ false
  pub comes : take_refresh e t n stamp body ≡ outcome (Ok tt) (refreshed_of e t stamp (padded_of body)) nothing

pub record RequestTaken (e : Endpoint) (t : ℕ) (f : Fields) (body : List ℕ) : Type 0 where
  pub turn : is_no (next_of f.command e.state) ≡ false
  pub session : is f.command K.Connect ≡ false → is_same (session_of e) f.subconnection ≡ true
  pub above : is_above e.timestamps.accepted f.timestamp ≡ true
  pub width : is_width e.settings f.command (length body) ≡ true
  pub has : is f.command K.ReadErrorInfo ≡ true → has_record e ≡ true
  pub contents : is f.command K.InvokeFunc ≡ false → body ≡ setup_data e.settings f.command
  pub comes : take_request e t f body
      ≡ outcome (Ok tt) (answered_of e t f)
      (frame (reply_fields e f (is_busy e f.command (length body)) false) (reply_data e f.command true body))

-- in Refresh: S-RefreshMO, or S-RefreshGO of the measurement under way
pub record SynchronizationTaken (e : Endpoint) (t : ℕ) (f : Fields) (body : List ℕ) : Type 0 where
  pub joined : is_joined f.command ≡ true
  pub session : is_same (session_of e) f.subconnection ≡ true
  pub above : is_above e.timestamps.accepted f.timestamp ≡ true
  pub answered : is f.command K.RefreshGo ≡ true → e.measurement.answered ≡ true
  pub same : is f.command K.RefreshGo ≡ true → f.sequence ≡ e.measurement.sequence
  pub contents : body ≡ setup_data e.settings f.command
  pub comes : take_request e t f body ≡ outcome (Ok tt) (synchronized_of e t f) (frame (reply_fields e f false false) body)

pub record ReportTaken (e : Endpoint) (t : ℕ) (f : Fields) (body : List ℕ) : Type 0 where
  pub turn : is_no (next_of f.command e.state) ≡ false
  pub reads : is_record body ≡ true
  pub above : is_above e.timestamps.accepted f.timestamp ≡ true
  pub comes : take_request e t f body
      ≡ outcome (Ok tt) (reported_of e f.timestamp (more_follows body)) (frame (reply_fields e f false false) body)

pub record DisconnectTaken (e : Endpoint) (t : ℕ) (f : Fields) (body : List ℕ) : Type 0 where
  pub turn : is_no (next_of f.command e.state) ≡ false
  pub above : is_above e.timestamps.accepted f.timestamp ≡ true
  pub comes : take_request e t f body ≡ outcome (Ok tt) (ended_by e f.timestamp) nothing

pub record ReplyTaken (e : Endpoint) (t : ℕ) (f : Fields) (body : List ℕ) : Type 0 where
  pub setup : is_setup e.state ≡ true
  pub pending : e.setup.pending ≡ Some f.timestamp
  pub command : is f.command (request_due e) ≡ true
  pub session : lacks_number e f ≡ false
  pub sound : f.error ≡ false
  pub reads : replies_record f.command ≡ true → is_record body ≡ true
  pub contents : is_result f ≡ false → body ≡ due_data e
  pub comes : take_reply e t f body ≡ outcome (Ok tt) (setup_heard_of e t f) (cond (is_result f) (W.value body) nothing)

-- in Refresh: the reply awaited of the measurement under way
pub record MeasurementHeard (e : Endpoint) (t : ℕ) (f : Fields) (body : List ℕ) : Type 0 where
  pub ack : f.ack ≡ true
  pub pending : e.setup.pending ≡ Some f.timestamp
  pub command : is f.command (awaited_in e) ≡ true
  pub same : f.sequence ≡ e.measurement.sequence
  pub timely : t ≤ f.timestamp + e.settings.roundtrip
  pub session : lacks_number e f ≡ false
  pub sound : f.error ≡ false
  pub comes : take_reply e t f body ≡ outcome (Ok tt) (measurement_heard_of e t f) nothing

pub record StepLaws : Type 0 where
  -- settings never change
  pub keeps : (e : Endpoint) (t : ℕ) (call : Call) → (step_of e t call).endpoint.settings ≡ e.settings
  -- a frame that is written reads back, and is the endpoint's
  pub carries : (e : Endpoint) (t : ℕ) (call : Call) → Carries e (step_of e t call).writes
  -- a refusal that does not end the connection leaves all as it was
  pub drops : (e : Endpoint) (t : ℕ) (call : Call) (r : Reason) → (step_of e t call).answer ≡ Err (Dropped r)
      → step_of e t call ≡ dropped e (Err (Dropped r))
  -- a start that is done begins the count of requests anew, each request written in setup adds one; it keeps its limit
  pub counts : (e : Endpoint) (t : ℕ) (call : Call) → (step_of e t call).endpoint.setup.requests
      ≡ cond (is_start call && is_done (step_of e t call).answer) 0
      (e.setup.requests + setup_requests_in e (step_of e t call).writes)
  pub limited : (e : Endpoint) (t : ℕ) (call : Call) → e.setup.requests ≤ request_limit
      → (step_of e t call).endpoint.setup.requests ≤ request_limit
  -- what done tells
  pub start_done : (e : Endpoint) (t : ℕ) → (start_of e t).answer ≡ Ok tt → StartDone e t
  pub restart_done : (e : Endpoint) (number : ℕ) → (restart_of e number).answer ≡ Ok tt → RestartDone e number
  pub not_ready_set : (e : Endpoint) (b : Bool) → (set_not_ready_of e b).answer ≡ Ok tt → NotReadySet e b
  pub result_set_law : (e : Endpoint) (body : List ℕ) → (set_result_of e body).answer ≡ Ok tt → ResultSet e body
  pub result_cleared : (e : Endpoint) → (clear_result_of e).answer ≡ Ok tt → ResultCleared e
  pub command_queued : (e : Endpoint) (word : ℕ) (bytes : List ℕ) → (invoke_of e word bytes).answer ≡ Ok tt
      → CommandQueued e word bytes
  pub record_set : (e : Endpoint) (body : List ℕ) → (set_record_of e body).answer ≡ Ok tt → RecordSet e body
  pub record_cleared : (e : Endpoint) → (clear_record_of e).answer ≡ Ok tt → RecordCleared e
  pub read_queued : (e : Endpoint) → (read_error_of e).answer ≡ Ok tt → ReadQueued e
  pub write_queued : (e : Endpoint) (body : List ℕ) → (write_error_of e body).answer ≡ Ok tt → WriteQueued e body
  pub send_done : (e : Endpoint) (t : ℕ) (value : List ℕ) → (send_of e t value).answer ≡ Ok tt
      → RefreshSent e t value ⊎ (MeasurementSent e t value ⊎ RequestSent e t value)
  pub stop_done : (e : Endpoint) (t : ℕ) → (stop_of e t).answer ≡ Ok tt → StopDone e t
  pub refresh_done : (e : Endpoint) (t : ℕ) (n : Option ℕ) (stamp : ℕ) (body : List ℕ)
      → (take_refresh e t n stamp body).answer ≡ Ok tt → RefreshTaken e t n stamp body
  pub request_done : (e : Endpoint) (t : ℕ) (f : Fields) (body : List ℕ) → is_state e.state Refresh ≡ false
      → is f.command K.Disconnect ≡ false → is f.command K.WriteErrorInfo ≡ false → (take_request e t f body).answer ≡ Ok tt → RequestTaken e t f body
  pub synchronization_done : (e : Endpoint) (t : ℕ) (f : Fields) (body : List ℕ) → is_state e.state Refresh ≡ true
      → is f.command K.Refresh ≡ false → is f.command K.Disconnect ≡ false → (take_request e t f body).answer ≡ Ok tt
      → SynchronizationTaken e t f body
  pub report_done : (e : Endpoint) (t : ℕ) (f : Fields) (body : List ℕ) → is f.command K.WriteErrorInfo ≡ true
      → (take_request e t f body).answer ≡ Ok tt → ReportTaken e t f body
  pub disconnect_done : (e : Endpoint) (t : ℕ) (f : Fields) (body : List ℕ) → is f.command K.Disconnect ≡ true
      → (take_request e t f body).answer ≡ Ok tt → DisconnectTaken e t f body
  pub reply_done : (e : Endpoint) (t : ℕ) (f : Fields) (body : List ℕ) → is_state e.state Refresh ≡ false
      → (take_reply e t f body).answer ≡ Ok tt → ReplyTaken e t f body
  pub measurement_heard : (e : Endpoint) (t : ℕ) (f : Fields) (body : List ℕ) → is_state e.state Refresh ≡ true
      → (take_reply e t f body).answer ≡ Ok tt → MeasurementHeard e t f body
