-- What each user's call does: start, send, stop, restart, set not ready, set and clear result, set and clear record,
-- invoke, read error, write error, show.
use Rattle.std.specs.Prelude.{Bool, false, ◌&&◌, ◌||◌, not, cond, List, ◌++◌, ℕ, ◌/◌, eqb, length, take, replicate}
use Rattle.std.specs.Prelude.{Err, Ok}
use Rattle.std.specs.Prelude.{None, Option, Some}
use Rattle.frame.specs.declared.Command.{Command}
use Rattle.frame.specs.declared.Command.TheVariants as K
use Rattle.frame.specs.Control.{is}
use Rattle.frame.specs.Writing.{is_body_length}
use Rattle.words.specs.Words.{word_bytes}
use Rattle.errors.specs.Reading.{is_record}
use Rattle.endpoint.specs.declared.State.TheVariants.{Close, Refresh}
use Rattle.endpoint.specs.Endpoint.{Endpoint, Words, words_of}
use Rattle.endpoint.specs.declared.Reason.TheVariants as R
use Rattle.endpoint.specs.Answers.{Answer}
use Rattle.endpoint.specs.declared.Refusal.TheVariants.{Dropped}
use Rattle.endpoint.specs.declared.Faults.{Faults}
use Rattle.endpoint.specs.Answers.{call_faults, record_faults, first_of, is_done, is_dropped, left_by}
use Rattle.endpoint.specs.Table.{is_state, is_terminated}
use Rattle.endpoint.specs.Due.{may_request, is_exhausted, may_queue, may_queue_read, refresh_due}
use Rattle.endpoint.specs.Time.{is_above, held_age, ended_of, time_of}
use Rattle.endpoint.specs.Updates.{with_words, with_error_info, with_not_ready}
use Rattle.transitions.specs.ByCall.{started_of, restarted_of, requested_of, refresh_sent_of, stopped_of, invoked_of}
use Rattle.transitions.specs.ByCall.{measurement_sent_of, read_queued_of, write_queued_of}
use Rattle.steps.specs.Frames.{Written, nothing, frame, setup_data, due_data, send_width, show_width, request_fields}
use Rattle.steps.specs.Frames.{measurement_fields, refresh_fields, disconnect_fields, padded_of, padded_record}

-- what a call comes to: its answer, the endpoint it leaves, what it writes
pub record Outcome : Type 0 where
  pub answer : Answer
  pub endpoint : Endpoint
  pub writes : Written

abbrev pub outcome : Answer → Endpoint → Written → Outcome
outcome a e w = record { answer = a; endpoint = e; writes = w }

-- refused: the endpoint stays, nothing is written
abbrev pub dropped : Endpoint → Answer → Outcome
dropped e a = outcome a e nothing

-- refused: the endpoint stays, or ends where the answer says so; nothing is written
abbrev pub refused : Endpoint → Answer → Outcome
refused e a = outcome a (left_by a e (ended_of e) e) nothing

-- ---- start: a master's, in Close
abbrev pub start_of : Endpoint → ℕ → Outcome
start_of e t =
    cond (not e.settings.slave && is_state e.state Close) (outcome (Ok tt) (started_of e t) nothing)
    (dropped e (Err (Dropped R.Turn)))

-- ---- restart: from Terminate, with a session number
abbrev pub restart_of : Endpoint → ℕ → Outcome
restart_of e number =
    cond (is_terminated e.state) (outcome (Ok tt) (restarted_of e number) nothing) (dropped e (Err (Dropped R.Turn)))

-- ---- not ready, set or cleared: a slave's, in any state
abbrev pub set_not_ready_of : Endpoint → Bool → Outcome
set_not_ready_of e b =
    cond e.settings.slave (outcome (Ok tt) (with_not_ready b e) nothing) (dropped e (Err (Dropped R.Turn)))

-- ---- S-Data that a user hands over: 1 to 25 words, or 12
-- of a call that hands over so many bytes, and has its turn or not
abbrev pub hand_faults : Bool → ℕ → Faults
hand_faults turn n = call_faults (not turn) (not (is_body_length n)) false false

-- a result, set by a slave's user in any state: n bytes of S-Data, from the front of these
abbrev pub result_with : Endpoint → ℕ → List ℕ → Outcome
result_with e n bytes =
    let a = first_of (hand_faults e.settings.slave n) in
    cond (is_done a) (outcome (Ok tt) (with_words (words_of (n / 4) bytes) e) nothing) (dropped e a)

abbrev pub set_result_of : Endpoint → List ℕ → Outcome
set_result_of e body = result_with e (length body) (padded_of body)

-- cleared: it has no words; the bytes stay, and nobody looks at them
abbrev pub clear_result_of : Endpoint → Outcome
clear_result_of e =
    cond e.settings.slave (outcome (Ok tt) (with_words (words_of 0 e.words.bytes) e) nothing)
    (dropped e (Err (Dropped R.Turn)))

-- S-InvokeFunc, queued by a master's user in setup: n bytes of S-Data, from the front of these
abbrev pub invoke_with : Endpoint → ℕ → List ℕ → Outcome
invoke_with e n bytes =
    let a = first_of (hand_faults (may_queue e) n) in
    cond (is_done a) (outcome (Ok tt) (invoked_of e (words_of (n / 4) bytes)) nothing) (dropped e a)

-- the command word, and 0 to 24 further words
abbrev pub command_data : ℕ → List ℕ → List ℕ
command_data word bytes = word_bytes word ++ bytes

abbrev pub invoke_of : Endpoint → ℕ → List ℕ → Outcome
invoke_of e word bytes = invoke_with e (length (command_data word bytes)) (padded_of (command_data word bytes))

-- ---- an error record that a user hands over, or 20
abbrev pub kept_record : List ℕ → Words
kept_record body = words_of (length body / 4) (padded_record body)

-- of a call that has its turn or not; it leaves `next`
abbrev pub record_with : Bool → Endpoint → Endpoint → List ℕ → Outcome
record_with turn next e body =
    let a = first_of (record_faults (not turn) (not (is_record body))) in
    cond (is_done a) (outcome (Ok tt) next nothing) (dropped e a)

-- the station's own, set by a slave's user in any state
abbrev pub set_record_of : Endpoint → List ℕ → Outcome
set_record_of e body = record_with e.settings.slave (with_error_info (kept_record body) e) e body

-- cleared: it has no words; the bytes stay, and nobody looks at them
abbrev pub clear_record_of : Endpoint → Outcome
clear_record_of e =
    cond e.settings.slave (outcome (Ok tt) (with_error_info (words_of 0 e.errorinfo.bytes) e) nothing)
    (dropped e (Err (Dropped R.Turn)))

-- S-WriteErrorInfo, queued by a master's user in setup
abbrev pub write_error_of : Endpoint → List ℕ → Outcome
write_error_of e body = record_with (may_queue e) (write_queued_of e (kept_record body)) e body

-- S-ReadErrorInfo, queued by a master's user in setup, until S-InvokeFunc has gone
abbrev pub read_error_of : Endpoint → Outcome
read_error_of e = cond (may_queue_read e) (outcome (Ok tt) (read_queued_of e) nothing) (dropped e (Err (Dropped R.Turn)))

-- ---- send: a master's next request in setup if none is pending; in Refresh a measurement's, or S-Refresh
-- it writes the value that is lent; S-RefreshMO and S-RefreshGO go whatever it is
abbrev pub is_value_due : Endpoint → ℕ → Bool
is_value_due e t = is (refresh_due e t) K.Refresh

-- of a send with this timestamp
abbrev pub send_faults_at : Endpoint → ℕ → ℕ → ℕ → Faults
send_faults_at e t stamp width =
    call_faults (not (is_state e.state Refresh || may_request e))
    (is_state e.state Refresh && (is_value_due e t && not (eqb width (send_width e.settings))))
    (may_request e && is_exhausted e) (not (is_above e.timestamps.sent stamp))

-- the same, with the endpoint's time
abbrev pub send_faults : Endpoint → ℕ → ℕ → Faults
send_faults e t width = send_faults_at e t (time_of e t) width

-- what a send of S-RefreshMO or S-RefreshGO in Refresh comes to
abbrev pub measurement_outcome : Endpoint → Command → ℕ → Outcome
measurement_outcome e k t =
    outcome (Ok tt) (measurement_sent_of e k t) (frame (measurement_fields e k t) (setup_data e.settings k))

-- what a send that is done comes to
abbrev pub sent_of : Endpoint → ℕ → List ℕ → Outcome
sent_of e t value =
    cond (is_state e.state Refresh)
    (cond (is_value_due e t) (outcome (Ok tt) (refresh_sent_of e t) (frame (refresh_fields e t) value))
    (measurement_outcome e (refresh_due e t) t))
    (outcome (Ok tt) (requested_of e t) (frame (request_fields e t) (due_data e)))

abbrev pub send_of : Endpoint → ℕ → List ℕ → Outcome
send_of e t value =
    cond (is_done (first_of (send_faults e t (length value)))) (sent_of e t value)
    (refused e (first_of (send_faults e t (length value))))

-- ---- stop: from any state but Close and Terminate; a master's writes S-Disconnect
-- of a stop with this timestamp
abbrev pub stop_faults_at : Endpoint → ℕ → Faults
stop_faults_at e stamp =
    call_faults (is_state e.state Close || is_terminated e.state) false false
    (not e.settings.slave && not (is_above e.timestamps.sent stamp))

-- the same, with the endpoint's time
abbrev pub stop_faults : Endpoint → ℕ → Faults
stop_faults e t = stop_faults_at e (time_of e t)

abbrev pub disconnect_of : Endpoint → ℕ → Written
disconnect_of e t = cond e.settings.slave nothing
    (frame (disconnect_fields e t) (setup_data e.settings K.Disconnect))

abbrev pub stop_of : Endpoint → ℕ → Outcome
stop_of e t =
    cond (is_dropped (first_of (stop_faults e t))) (dropped e (first_of (stop_faults e t)))
    (outcome (Ok tt) (stopped_of e t) (disconnect_of e t))

-- ---- show: the last value accepted in this Refresh; else fail-safe, zero bytes of the same width
abbrev pub is_fail_safe : Endpoint → Bool
is_fail_safe e = not (is_state e.state Refresh && e.value.taken)

-- the fail-safe value, or the one held
abbrev pub held_or : Bool → List ℕ → List ℕ
held_or safe bytes = cond safe (replicate 100 0) bytes

abbrev pub shown_of : Endpoint → List ℕ
shown_of e = take (show_width e.settings) (held_or (is_fail_safe e) e.value.bytes)

-- and how old it is; a fail-safe show has no age
abbrev pub shown_age : Endpoint → ℕ → Option ℕ
shown_age e t = cond (is_fail_safe e) None (Some (held_age e t))
