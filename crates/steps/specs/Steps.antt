-- Every call on an endpoint, and what it comes to.
use Rattle.std.specs.Prelude.{Bool, true, false, cond, List, ℕ}
use Rattle.std.specs.Prelude.{Err, Ok}
use Rattle.frame.specs.declared.Fields.{Fields}
use Rattle.endpoint.specs.Endpoint.{Endpoint}
use Rattle.endpoint.specs.declared.Reason.TheVariants as R
use Rattle.endpoint.specs.declared.Refusal.TheVariants.{Ended}
use Rattle.endpoint.specs.Time.{is_expired, ended_of}
use Rattle.steps.specs.Frames as W
use Rattle.steps.specs.Calls.{Outcome, outcome, start_of, send_of, stop_of, restart_of, set_not_ready_of, set_result_of}
use Rattle.steps.specs.Calls.{clear_result_of, set_record_of, clear_record_of, invoke_of, read_error_of, write_error_of, shown_of}
use Rattle.steps.specs.Deliveries.{deliver_of}

-- the calls that hand over no value and no frame, and show nothing
pub data Act : Type 0 where
  start : Act
  stop : Act
  -- with a session number
  restart : ℕ → Act
  set_not_ready : Bool → Act
  set_result : List ℕ → Act
  clear_result : Act
  set_record : List ℕ → Act
  clear_record : Act
  invoke : ℕ → List ℕ → Act
  read_error : Act
  write_error : List ℕ → Act

-- only a start begins the count of requests anew
abbrev pub begins : Act → Bool
begins start = true
begins stop = false
begins (restart number) = false
begins (set_not_ready b) = false
begins (set_result body) = false
begins clear_result = false
begins (set_record body) = false
begins clear_record = false
begins (invoke word bytes) = false
begins read_error = false
begins (write_error body) = false

pub data Call : Type 0 where
  act : Act → Call
  send : List ℕ → Call
  deliver : Fields → List ℕ → Call
  show : Call

abbrev pub act_of : Endpoint → ℕ → Act → Outcome
act_of e t start = start_of e t
act_of e t stop = stop_of e t
act_of e t (restart number) = restart_of e number
act_of e t (set_not_ready b) = set_not_ready_of e b
act_of e t (set_result body) = set_result_of e body
act_of e t clear_result = clear_result_of e
act_of e t (set_record body) = set_record_of e body
act_of e t clear_record = clear_record_of e
act_of e t (invoke word bytes) = invoke_of e word bytes
act_of e t read_error = read_error_of e
act_of e t (write_error body) = write_error_of e body

-- what a call does to an endpoint whose timer has not expired; a show changes nothing
abbrev pub step_of : Endpoint → ℕ → Call → Outcome
step_of e t (act a) = act_of e t a
step_of e t (send value) = send_of e t value
step_of e t (deliver f body) = deliver_of e t f body
step_of e t show = outcome (Ok tt) e (W.value (shown_of e))

-- the clock step first: number 9
abbrev pub call_of : Endpoint → ℕ → Call → Outcome
call_of e t call = cond (is_expired e t) (outcome (Err (Ended R.Expired)) (ended_of e) W.nothing) (step_of e t call)
