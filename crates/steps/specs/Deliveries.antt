-- What a frame of this connection does when it is delivered: fields and body as the reader gives them.
use Rattle.std.specs.Prelude.{Bool, ◌&&◌, ◌||◌, not, cond, List, ℕ, eqb, length}
use Rattle.std.specs.Prelude.{Err}
use Rattle.std.specs.Prelude.{Option}
use Rattle.std.specs.Bool.{beq}
use Rattle.frame.specs.declared.Command.{Command}
use Rattle.frame.specs.declared.Command.TheVariants as K
use Rattle.frame.specs.declared.Fields.{Fields}
use Rattle.frame.specs.Control.{is, is_joined, is_absent, is_same}
use Rattle.frame.specs.Writing.{is_body_length}
use Rattle.words.specs.Bytes.{same}
use Rattle.errors.specs.Reading.{is_record, more_follows}
use Rattle.endpoint.specs.declared.State.TheVariants.{Refresh}
use Rattle.endpoint.specs.declared.Settings.{Settings}
use Rattle.endpoint.specs.Endpoint.{Endpoint}
use Rattle.endpoint.specs.declared.Reason.TheVariants as R
use Rattle.endpoint.specs.Answers.{Answer}
use Rattle.endpoint.specs.declared.Refusal.TheVariants.{Dropped}
use Rattle.endpoint.specs.declared.Faults.{Faults}
use Rattle.endpoint.specs.Answers.{setup_faults, value_faults, first_of, is_done, is_dropped, is_ended, left_by}
use Rattle.endpoint.specs.Table.{is_state, is_setup, next_of, is_no}
use Rattle.endpoint.specs.Due.{request_due, is_pending, answers_to, is_late, awaited_in, sequence_of, is_measuring}
use Rattle.endpoint.specs.Time.{age_of, is_above, is_too_far_ahead, allowance_of, is_too_late, ended_of}
use Rattle.transitions.specs.ByFrame.{refreshed_of, ended_by, taken_of, heard_of}
use Rattle.steps.specs.Frames.{Written, nothing, frame, setup_data, due_data, show_width, reply_fields, is_busy}
use Rattle.steps.specs.Frames.{session_of, has_record, reply_data}
use Rattle.steps.specs.Frames as W
use Rattle.steps.specs.Frames.{padded_of}
use Rattle.steps.specs.Calls.{Outcome, outcome, dropped}

-- ---- the session number
-- another number than the endpoint's own, or none where it has one: number 21
abbrev pub is_foreign : Endpoint → Option ℕ → Bool
is_foreign e session = not (is_same (session_of e) session)

-- ---- S-Refresh, at either end
-- whose timestamp has this age
abbrev pub refresh_faults_at : Endpoint → ℕ → Option ℕ → ℕ → ℕ → Faults
refresh_faults_at e age session stamp width =
    value_faults (not (is_state e.state Refresh)) (is_foreign e session) (not (eqb width (show_width e.settings)))
    (not (is_above e.timestamps.accepted stamp))
    (is_too_far_ahead age (allowance_of e.settings))
    (is_too_late age e.settings.age)

-- the same, by the endpoint's time
abbrev pub refresh_faults : Endpoint → ℕ → Option ℕ → ℕ → ℕ → Faults
refresh_faults e t session stamp width = refresh_faults_at e (age_of e t stamp) session stamp width

abbrev pub take_refresh : Endpoint → ℕ → Option ℕ → ℕ → List ℕ → Outcome
take_refresh e t session stamp body =
    let a = first_of (refresh_faults e t session stamp (length body)) in
    outcome a (left_by a e (ended_of e) (refreshed_of e t stamp (padded_of body))) nothing

-- ---- a request at a slave
-- the state takes it; S-ReadErrorInfo with an error record set only
abbrev pub is_turn : Endpoint → Command → Bool
is_turn e k = not (is_no (next_of k e.state)) && (not (is k K.ReadErrorInfo) || has_record e)

-- of S-Connect no session number is asked
abbrev pub lacks_session : Endpoint → Fields → Bool
lacks_session e f = not (is f.command K.Connect) && is_foreign e f.subconnection

-- it is S-WriteErrorInfo, and its S-Data is no error record
abbrev pub lacks_record : Command → List ℕ → Bool
lacks_record k body = is k K.WriteErrorInfo && not (is_record body)

-- its S-Data has the right length: of S-InvokeFunc any that S-Data can have, of S-WriteErrorInfo any error record's
abbrev pub is_width : Settings → Command → ℕ → Bool
is_width s k n = cond (is k K.InvokeFunc) (is_body_length n) (is k K.WriteErrorInfo || eqb n (length (setup_data s k)))

-- and the right contents: not looked at in S-Disconnect, and in S-InvokeFunc and S-WriteErrorInfo the user's own
abbrev pub is_users : Command → Bool
is_users k = is k K.InvokeFunc || is k K.WriteErrorInfo

abbrev pub is_expected : Settings → Command → List ℕ → Bool
is_expected s k body = is k K.Disconnect || (is_users k || same body (setup_data s k))

-- S-RefreshGO of another measurement than the one under way, or of none
abbrev pub is_stray : Endpoint → ℕ → Fields → Bool
is_stray e t f =
    is f.command K.RefreshGo && not (is_measuring e t && beq f.sequence (sequence_of e))

abbrev pub request_faults : Endpoint → ℕ → Fields → List ℕ → Faults
request_faults e t f body =
    setup_faults (not (is_turn e f.command))
    (lacks_session e f)
    (lacks_record f.command body)
    (not (is_width e.settings f.command (length body)))
    (not (is_above e.timestamps.accepted f.timestamp) || is_stray e t f)
    (not (is_expected e.settings f.command body))

-- the reply, with Error 1 and never Busy where the contents differ; S-Disconnect has none
abbrev pub replied_of : Endpoint → Fields → List ℕ → Answer → Written
replied_of e f body a =
    cond (is_dropped a || is f.command K.Disconnect) nothing
    (frame (reply_fields e f (is_done a && is_busy e f.command (length body)) (is_ended a))
    (reply_data e f.command (is_done a) body))

abbrev pub take_request : Endpoint → ℕ → Fields → List ℕ → Outcome
take_request e t f body =
    let a = first_of (request_faults e t f body) in
    outcome a (left_by a e (ended_by e f.timestamp) (taken_of e t f (more_follows body))) (replied_of e f body a)

-- ---- a reply at a master: to its pending request, of setup or of a measurement
-- the result of a queued command or the station's error record, which is not compared with its request and goes to the
-- output
abbrev pub is_result : Fields → Bool
is_result f = (is f.command K.InvokeFunc && not f.busy) || is f.command K.ReadErrorInfo

-- S-Connect's brings the session number, whichever it is; all others have it
abbrev pub lacks_number : Endpoint → Fields → Bool
lacks_number e f =
    cond (is f.command K.Connect) (is_absent f.subconnection) (is_foreign e f.subconnection)

-- the replies that have to be error records
abbrev pub replies_record : Command → Bool
replies_record k = is k K.ReadErrorInfo || is k K.WriteErrorInfo

-- the state takes it: in setup the pending request's, in Refresh a measurement's
abbrev pub is_reply_turn : Endpoint → Command → Bool
is_reply_turn e k =
    cond (is_state e.state Refresh) (is_joined k)
    (is_setup e.state && (is_pending e.setup.pending && is k (request_due e)))

-- it is of the measurement under way, of its last step and in time
abbrev pub is_awaited : Endpoint → ℕ → Fields → Bool
is_awaited e t f =
    beq f.sequence (sequence_of e)
    && (not (is_state e.state Refresh) || (is f.command (awaited_in e) && not (is_late e t)))

abbrev pub reply_faults : Endpoint → ℕ → Fields → List ℕ → Faults
reply_faults e t f body =
    setup_faults
    (not (f.ack && is_reply_turn e f.command))
    (lacks_number e f)
    (replies_record f.command && not (is_record body))
    (not (is f.command K.ReadErrorInfo || eqb (length body) (length (due_data e))))
    (not (answers_to e.setup.pending f.timestamp && is_awaited e t f))
    (f.error || not (is_result f || same body (due_data e)))

abbrev pub take_reply : Endpoint → ℕ → Fields → List ℕ → Outcome
take_reply e t f body =
    let a = first_of (reply_faults e t f body) in
    outcome a (left_by a e (ended_of e) (heard_of e t f)) (cond (is_done a && is_result f) (W.value body) nothing)

-- ---- a frame of this connection: one's own reflected first (number 10), then by its command and the role
abbrev pub deliver_of : Endpoint → ℕ → Fields → List ℕ → Outcome
deliver_of e t f body =
    cond (beq f.application e.settings.slave) (dropped e (Err (Dropped R.Echo)))
    (cond (is f.command K.Refresh) (take_refresh e t f.subconnection f.timestamp body)
    (cond e.settings.slave (take_request e t f body) (take_reply e t f body)))
