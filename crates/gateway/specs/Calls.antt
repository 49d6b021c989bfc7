-- What each call on a gateway comes to: its answer, its entry, what it writes, and what it leaves of what it was lent.
use Rattle.std.specs.Prelude.{◌≡◌, Bool, true, false, not, cond, List, ℕ, eqb, ltb, length}
use Rattle.std.specs.Prelude.{Err, None, Ok, Option, Some}
use Rattle.frame.specs.Reading.{Reading}
use Rattle.std.proofs.Math.Seq.{slice}
use Rattle.words.specs.Output.{over}
use Rattle.frame.specs.declared.Fault.{Fault}
use Rattle.frame.specs.declared.Fault.TheVariants as F
use Rattle.frame.specs.Reading.{reading_of}
use Rattle.endpoint.specs.Endpoint.{Endpoint}
use Rattle.endpoint.specs.declared.Reason.{Reason}
use Rattle.endpoint.specs.declared.Reason.TheVariants as R
use Rattle.endpoint.specs.Answers.{Answer}
use Rattle.endpoint.specs.declared.Refusal.TheVariants.{Dropped, Ended}
use Rattle.endpoint.specs.Answers.{is_done, is_ended}
use Rattle.endpoint.specs.Time.{is_expired, after_tick}
use Rattle.steps.specs.Frames.{Written, nothing, bytes_of}
use Rattle.steps.specs.Frames as W
use Rattle.steps.specs.Calls.{Outcome, start_of, send_of, stop_of, restart_of, set_not_ready_of, set_result_of, clear_result_of}
use Rattle.steps.specs.Calls.{set_record_of, clear_record_of, invoke_of, read_error_of, write_error_of, is_fail_safe, shown_of, shown_age}
use Rattle.steps.specs.Deliveries.{deliver_of}
use Rattle.records.specs.declared.Record.{Record}
use Rattle.records.specs.Records.{record_of}
use Rattle.gateway.specs.declared.Gateway.{Gateway}
use Rattle.gateway.specs.declared.Called.{Called}
use Rattle.gateway.specs.Tables.{Lent, endpoint_at, is_entry, is_shorter, place_of, is_reading, clock_step, after_clock}
use Rattle.gateway.specs.Tables.{placed}
use Rattle.gateway.specs.Loading.{loaded_of}

pub record Result : Type 0 where
  pub answer : Answer
  -- the entry that the answer carries, if any: none is not entry 0
  pub entry : Option ℕ
  pub writes : Written
  pub failsafe : Bool
  -- of a shown value
  pub age : Option ℕ
  pub lent : Lent

abbrev pub result_of : Answer → Option ℕ → Written → Bool → Option ℕ → Lent → Result
result_of answer entry writes failsafe age lent =
    record { answer = answer; entry = entry; writes = writes; failsafe = failsafe; age = age; lent = lent }

-- of a call that shows nothing
abbrev pub result : Answer → Option ℕ → Written → Lent → Result
result answer entry writes lent = result_of answer entry writes false None lent

-- ---- refusals before a connection's own
-- number 1; 2 for a slice shorter than the table, then for an output under 248 bytes; else what comes after them
abbrev pub admit : Bool → Bool → Bool → Answer → Answer
admit reading shorter short then =
    cond (not reading) (Err (Dropped R.Clock)) (cond shorter (Err (Dropped R.Buffer)) (cond short (Err (Dropped R.Buffer)) then))

-- number 3, or 8 for a frame; else what comes after it
abbrev pub admit_entry : Bool → Reason → Answer → Answer
admit_entry within absent then = cond (not within) (Err (Dropped absent)) then

-- number 9: this call's clock step ends the connection
abbrev pub timely : Endpoint → ℕ → Answer
timely e t = cond (is_expired e t) (Err (Ended R.Expired)) (Ok tt)

-- from 9 on with its entry
abbrev pub refused_entry : Answer → ℕ → Option ℕ
refused_entry a n = cond (is_ended a) (Some n) None

-- refused before the connection's own step
abbrev pub refused_of : Answer → ℕ → ℕ → Lent → Result
refused_of a t n d = result a (refused_entry a n) nothing (after_clock t d)

-- what a call comes to that goes on where nothing of this refuses it
abbrev pub unless_refused : Answer → ℕ → ℕ → Lent → Result → Result
unless_refused a t n d r = cond (is_done a) r (refused_of a t n d)

-- numbers 1 and 2, or what comes after them
abbrev pub admit_in : Lent → ℕ → Bool → Answer → Answer
admit_in d t short then = admit (is_reading d.gateway t) (is_shorter d) short then

-- ---- a call on an entry
-- the connection's own step, put back into the table that the clock step left
abbrev pub acted_of : Outcome → ℕ → ℕ → Lent → Result
acted_of o t n d = result o.answer (Some n) o.writes (placed n (record_of o.endpoint) (clock_step t d))

-- numbers 1, 2, 3 or 8, and 9, the first that applies; `short`: an output was lent and is under 248 bytes
abbrev pub before_entry : Reason → Lent → ℕ → Bool → ℕ → Answer
before_entry absent d t short n =
    admit_in d t short (admit_entry (is_entry d n) absent (timely (endpoint_at d n) t))

-- then what the call does to an endpoint whose timer has not expired
abbrev pub on_entry : (Endpoint → Outcome) → Reason → Lent → ℕ → Bool → ℕ → Result
on_entry act absent d t short n =
    unless_refused (before_entry absent d t short n) t n d (acted_of (act (endpoint_at d n)) t n d)

abbrev pub is_short : ℕ → Bool
is_short room = ltb room 248

-- ---- start, send, stop, restart, set not ready, set and clear result, set and clear record, invoke, read and write
-- error: of what is lent, the clock reading, the output's length, the entry
abbrev pub start_in : Lent → ℕ → ℕ → Result
start_in d t n = on_entry (λ e. start_of e t) R.Entry d t false n

abbrev pub send_in : Lent → ℕ → ℕ → ℕ → List ℕ → Result
send_in d t room n value = on_entry (λ e. send_of e t value) R.Entry d t (is_short room) n

abbrev pub stop_in : Lent → ℕ → ℕ → ℕ → Result
stop_in d t room n = on_entry (λ e. stop_of e t) R.Entry d t (is_short room) n

abbrev pub restart_in : Lent → ℕ → ℕ → ℕ → Result
restart_in d t n number = on_entry (λ e. restart_of e number) R.Entry d t false n

abbrev pub set_not_ready_in : Lent → ℕ → ℕ → Bool → Result
set_not_ready_in d t n b = on_entry (λ e. set_not_ready_of e b) R.Entry d t false n

abbrev pub set_result_in : Lent → ℕ → ℕ → List ℕ → Result
set_result_in d t n body = on_entry (λ e. set_result_of e body) R.Entry d t false n

abbrev pub clear_result_in : Lent → ℕ → ℕ → Result
clear_result_in d t n = on_entry (λ e. clear_result_of e) R.Entry d t false n

abbrev pub set_record_in : Lent → ℕ → ℕ → List ℕ → Result
set_record_in d t n body = on_entry (λ e. set_record_of e body) R.Entry d t false n

abbrev pub clear_record_in : Lent → ℕ → ℕ → Result
clear_record_in d t n = on_entry (λ e. clear_record_of e) R.Entry d t false n

abbrev pub invoke_in : Lent → ℕ → ℕ → ℕ → List ℕ → Result
invoke_in d t n word bytes = on_entry (λ e. invoke_of e word bytes) R.Entry d t false n

abbrev pub read_error_in : Lent → ℕ → ℕ → Result
read_error_in d t n = on_entry (λ e. read_error_of e) R.Entry d t false n

abbrev pub write_error_in : Lent → ℕ → ℕ → List ℕ → Result
write_error_in d t n body = on_entry (λ e. write_error_of e body) R.Entry d t false n

-- ---- show: never 9; what the clock step left is shown, and stays
abbrev pub before_show : Lent → ℕ → Bool → ℕ → Answer
before_show d t short n = admit_in d t short (admit_entry (is_entry d n) R.Entry (Ok tt))

abbrev pub shown_in : Endpoint → ℕ → ℕ → Lent → Result
shown_in e t n d = result_of (Ok tt) (Some n) (W.value (shown_of e)) (is_fail_safe e) (shown_age e t) (clock_step t d)

abbrev pub show_in : Lent → ℕ → ℕ → ℕ → Result
show_in d t room n =
    unless_refused (before_show d t (is_short room) n) t n d (shown_in (after_tick (endpoint_at d n) t) t n d)

-- ---- deliver: a frame, or nothing; for a frame 4 to 7 by the reader, then 8, in the place of 3
abbrev pub reason_of : Fault → Reason
reason_of F.Length = R.Length
reason_of F.Copies = R.Copies
reason_of F.CheckWord = R.CheckWord
reason_of F.Form = R.Form

abbrev pub by_reading : Lent → ℕ → ℕ → List ℕ → Reading → Result
by_reading d t room s (Err fault) = refused_of (admit_in d t (is_short room) (Err (Dropped (reason_of fault)))) t 0 d
by_reading d t room s (Ok read) =
    on_entry (λ e. deliver_of e t read.fields (slice read.start read.end s)) R.Unknown d t (is_short room) (place_of read.fields.connection d)

-- a cycle in which nothing arrived (document 02, note 1): the clock step; no connection's, so never 9
abbrev pub empty_cycle : Lent → ℕ → Bool → Result
empty_cycle d t short = refused_of (admit_in d t short (Ok tt)) t 0 d

abbrev pub deliver_in : Lent → ℕ → ℕ → List ℕ → Result
deliver_in d t room s =
    cond (eqb (length s) 0) (empty_cycle d t (is_short room)) (by_reading d t room s (reading_of s))

-- ---- how a function's result, the records and its lent output stand to a result
-- what a program in C is told of these two: a flag, and a number beside it
abbrev pub is_named : Option ℕ → Bool
is_named None = false
is_named (Some n) = true

abbrev pub entry_number : Option ℕ → ℕ
entry_number None = 0
entry_number (Some n) = n

abbrev pub is_aged : Option ℕ → Bool
is_aged None = false
is_aged (Some n) = true

abbrev pub ticks_in : Option ℕ → ℕ
ticks_in None = 0
ticks_in (Some n) = n

abbrev pub called_by : Gateway → Answer → Option ℕ → ℕ → Bool → Option ℕ → Called
called_by g a entry count failsafe age = record {
  gateway = g;
  answer = a;
  entry = entry;
  count = count;
  failsafe = failsafe;
  age = age;
}

abbrev pub called_of : Result → Called
called_of r =
    called_by r.lent.gateway r.answer r.entry (length (bytes_of r.writes)) r.failsafe r.age

-- a call that is lent no output
pub record CallSays (r : Result) (records : List Record) (c : Called) : Type 0 where
  pub told : c ≡ called_of r
  pub left : records ≡ r.lent.records

-- a lent output: the written bytes stand over its front, the rest stays
pub record OutputSays (r : Result) (records : List Record) (out out' : List ℕ) (c : Called) : Type 0 where
  pub told : c ≡ called_of r
  pub left : records ≡ r.lent.records
  pub output : out' ≡ over (bytes_of r.writes) out

-- loading answers no entry, and writes nothing
pub record LoadSays (number : ℕ) (ws : List ℕ) (rs records : List Record) (c : Called) : Type 0 where
  pub told : c ≡ called_by (loaded_of number ws rs).lent.gateway (loaded_of number ws rs).answer None 0 false None
  pub left : records ≡ (loaded_of number ws rs).lent.records
