-- Every step on a gateway, loading or another call, and what it comes to as the contracts of `gateway` have it.
use Rattle.std.specs.Prelude.{Bool, false, List, ℕ, eqb}
use Rattle.std.specs.Prelude.{None, Option, Some}
use Rattle.steps.specs.Frames.{nothing}
use Rattle.steps.specs.Steps.{Act, start, stop, restart, set_not_ready, set_result, clear_result, set_record, clear_record}
use Rattle.steps.specs.Steps.{invoke, read_error, write_error}
use Rattle.records.specs.declared.Record.{Record}
use Rattle.gateway.specs.Tables.{Lent}
use Rattle.gateway.specs.Loading.{loaded_of}
use Rattle.gateway.specs.Calls.{Result, result, start_in, send_in, stop_in, restart_in, set_not_ready_in}
use Rattle.gateway.specs.Calls.{set_result_in, clear_result_in, set_record_in, clear_record_in, invoke_in, read_error_in}
use Rattle.gateway.specs.Calls.{write_error_in, show_in, deliver_in}

-- every call but load, for whatever entry
pub data Call : Type 0 where
  act : Act → ℕ → Call
  send : ℕ → List ℕ → Call
  deliver : List ℕ → Call
  show : ℕ → Call

-- a settings list that is loaded with a session number into whatever slice of records; or a call with its clock reading
-- and the length of the output lent to it, which is lent the slice as the last step left it
pub data Step : Type 0 where
  load : (number : ℕ) → List ℕ → List Record → Step
  call : (clock room : ℕ) → Call → Step

abbrev pub act_in : Lent → ℕ → ℕ → Act → ℕ → Result
act_in d t room start n = start_in d t n
act_in d t room stop n = stop_in d t room n
act_in d t room (restart number) n = restart_in d t n number
act_in d t room (set_not_ready b) n = set_not_ready_in d t n b
act_in d t room (set_result body) n = set_result_in d t n body
act_in d t room clear_result n = clear_result_in d t n
act_in d t room (set_record body) n = set_record_in d t n body
act_in d t room clear_record n = clear_record_in d t n
act_in d t room (invoke word bytes) n = invoke_in d t n word bytes
act_in d t room read_error n = read_error_in d t n
act_in d t room (write_error body) n = write_error_in d t n body

abbrev pub call_in : Lent → ℕ → ℕ → Call → Result
call_in d t room (act a n) = act_in d t room a n
call_in d t room (send n value) = send_in d t room n value
call_in d t room (deliver s) = deliver_in d t room s
call_in d t room (show n) = show_in d t room n

-- a load has no entry and writes nothing
abbrev pub step_in : Lent → Step → Result
step_in d (load number ws rs) = result (loaded_of number ws rs).answer None nothing (loaded_of number ws rs).lent
step_in d (call t room c) = call_in d t room c

-- a call's entry is the one at n
abbrev pub is_at : Option ℕ → ℕ → Bool
is_at None n = false
is_at (Some m) n = eqb m n
