-- The parts of a call: what it picks of the records, what its own step makes of that, and what is then stored.
use Rattle.std.specs.Prelude.{◌≡◌, Bool, true, false, ◌&&◌, not, cond, List, [], ℕ, eqb, ltb, length, set}
use Rattle.std.specs.Prelude.{Err, None, Ok, Option, Result, Some, ◌<◌, ◌≤◌}
use Rattle.frame.specs.Reading.{Reading}
use Rattle.std.proofs.Math.Seq.{slice}
use Rattle.words.specs.Output.{over}
use Rattle.frame.specs.declared.Command.TheVariants as K
use Rattle.frame.specs.Control.{is}
use Rattle.frame.specs.Reading.{reading_of}
use Rattle.endpoint.specs.Endpoint.{Endpoint, no_bytes, bare, core_of}
use Rattle.endpoint.specs.declared.Reason.{Reason}
use Rattle.endpoint.specs.declared.Reason.TheVariants as R
use Rattle.endpoint.specs.Answers.{Answer}
use Rattle.endpoint.specs.declared.Refusal.TheVariants.{Dropped}
use Rattle.endpoint.specs.Answers.{is_done, is_ended}
use Rattle.endpoint.specs.Time.{is_expired, after_tick}
use Rattle.steps.specs.declared.Stepped.{Stepped}
use Rattle.steps.specs.Frames.{nothing, bytes_of}
use Rattle.steps.specs.Calls.{Outcome, outcome, is_fail_safe, shown_of, shown_age}
use Rattle.steps.specs.Deliveries.{deliver_of}
use Rattle.steps.specs.Says.{stepped_of}
use Rattle.steps.specs.Values.{with_bytes, with_handed}
use Rattle.settings.specs.Lists.{count_of, is_list}
use Rattle.records.specs.declared.Stored.{Stored}
use Rattle.records.specs.declared.Record.{Record}
use Rattle.records.specs.Records.{bare_of, stored_of, record_with, ended_stored}
use Rattle.lent.specs.First.{on_first, seek_in}
use Rattle.gateway.specs.declared.Call.{Call}
use Rattle.gateway.specs.declared.Called.{Called}
use Rattle.gateway.specs.declared.Picked.{Picked}
use Rattle.gateway.specs.declared.Moved.{Moved}
use Rattle.gateway.specs.Tables.{blank_record, record_at, has_connection, is_reading, at_clock}
use Rattle.gateway.specs.Calls.{admit, admit_entry, timely, is_short, reason_of, called_by}

-- ---- one field of a record replaced
abbrev pub with_stored : Record → Stored → Record
with_stored r s = record_with s r.value r.words r.errorinfo

abbrev pub with_value : Record → List ℕ → Record
with_value r bytes = record_with r.stored bytes r.words r.errorinfo

abbrev pub with_words : Record → List ℕ → Record
with_words r bytes = record_with r.stored r.value bytes r.errorinfo

abbrev pub with_error_info : Record → List ℕ → Record
with_error_info r bytes = record_with r.stored r.value r.words bytes

abbrev pub stored_at : ℕ → Stored → List Record → List Record
stored_at n s rs = set rs n (with_stored (record_at rs n) s)

abbrev pub value_at : ℕ → List ℕ → List Record → List Record
value_at n bytes rs = set rs n (with_value (record_at rs n) bytes)

-- ---- what a call picks: by its entry, or by a frame's CID
abbrev pub picked : Stored → Call → ℕ → ℕ → Picked
picked s c room spot = record { stored = s; call = c; room = room; spot = spot }

abbrev pub picked_of : List Record → Call → Picked
picked_of rs c = picked (record_at rs c.entry).stored c (length rs) c.entry

-- what its user has handed over
pub record Handed : Type 0 where
  pub words : List ℕ
  pub errorinfo : List ℕ

abbrev pub handed : List ℕ → List ℕ → Handed
handed words errorinfo = record { words = words; errorinfo = errorinfo }

abbrev pub with_held : Handed → Endpoint → Endpoint
with_held h e = with_handed h.words h.errorinfo e

abbrev pub handed_of : Record → Handed
handed_of r = handed r.words r.errorinfo

-- a frame's CID
abbrev pub spot_of : List Record → Call → ℕ → ℕ
spot_of rs c cid = seek_in (has_connection cid) c.gateway.count rs

-- where no record of the table has it, past the slice
abbrev pub met_of : List Record → Call → ℕ → Picked
met_of rs c cid =
    cond (ltb (spot_of rs c cid) c.gateway.count && ltb (spot_of rs c cid) (length rs))
    (picked (record_at rs (spot_of rs c cid)).stored c (length rs) (spot_of rs c cid))
    (picked blank_record.stored c (length rs) (length rs))

-- ---- what is stored
-- the clock step on the first `steps` records, by their stored part
abbrev pub is_over : Stored → ℕ → Bool
is_over s t = is_expired (bare_of s) t

abbrev pub stepped_record : ℕ → Record → Record
stepped_record t r =
    cond (is_over r.stored t) (with_value (with_stored r (ended_stored r.stored)) no_bytes) r

-- then one stored part at `spot`, and the fail-safe value at `wipe`
abbrev pub settled : List Record → Moved → List Record
settled rs m =
    value_at m.wipe no_bytes (stored_at m.spot m.stored (on_first (stepped_record m.clock) m.steps rs))

-- then one record by what is made of it; past the slice none
pub record PutBy (R : Record → Record → Type 0) (n : ℕ) (rs rs' : List Record) : Type 0 where
  pub past : length rs ≤ n → rs' ≡ rs
  pub kept : n < length rs → (r : Record) × R (record_at rs n) r × (rs' ≡ set rs n r)

-- ---- a call's own step
module _ (p : Picked) where
  abbrev reading_in : Bool
  reading_in = is_reading p.call.gateway p.call.clock

  abbrev shorter_in : Bool
  shorter_in = ltb p.room p.call.gateway.count

  -- whether the clock step is taken
  abbrev pub opens : Bool
  opens = reading_in && not shorter_in

  abbrev pub admitted : Bool → Answer → Answer
  admitted short then = admit reading_in shorter_in short then

  abbrev pub admitted_entry : Bool → Reason → Answer → Answer
  admitted_entry short absent then =
      admitted short (admit_entry (ltb p.spot p.call.gateway.count) absent then)

  -- numbers 1, 2, 3 or 8, and 9
  abbrev pub before : Bool → Reason → Answer
  before short absent = admitted_entry short absent (timely (bare_of p.stored) p.call.clock)

  abbrev pub moved : Stored → Called → Bool → ℕ → ℕ → ℕ → Moved
  moved s told took spot wipe keep = record {
    stored = s;
    told = told;
    steps = cond took p.call.gateway.count 0;
    clock = p.call.clock;
    spot = spot;
    wipe = wipe;
    keep = keep;
  }

  -- refused before the connection's own step: the clock step where it is taken, and nothing else
  abbrev pub refused_move : Answer → Moved
  refused_move a =
      moved p.stored
      (called_by (cond opens (at_clock p.call.clock p.call.gateway) p.call.gateway) a
      (cond (is_ended a) (Some p.spot) None) 0 false None)
      opens p.room p.room p.room

  -- the connection's own step: its stored part; the value is wiped where none is taken, and a new one kept, or what was
  -- handed over
  abbrev pub acted_move : Stepped → Bool → Moved
  acted_move s kept =
      moved (stored_of (bare s.core))
      (called_by (at_clock p.call.clock p.call.gateway) s.answer (Some p.spot) s.count false None)
      true p.spot (cond s.core.taken p.room p.spot)
      (cond kept p.spot p.room)

  abbrev pub shown_move : ℕ → Bool → Option ℕ → Moved
  shown_move count failsafe age =
      moved p.stored
      (called_by (at_clock p.call.clock p.call.gateway) (Ok tt) (Some p.spot) count failsafe age)
      true p.room p.room p.room

  -- a call that is lent no output, whose own step is one of those that `gives` allows
  pub record ActMoves (gives : Stepped → Type 0) (hands : Bool) (m : Moved) : Type 0 where
    pub refused : is_done (before false R.Entry) ≡ false → m ≡ refused_move (before false R.Entry)
    pub acted : is_done (before false R.Entry) ≡ true
        → (s : Stepped) × gives s × (m ≡ acted_move s (is_done s.answer && hands))

  -- a call that is lent no output
  abbrev pub plain_move : Answer → Stepped → Bool → Moved
  plain_move a s kept = cond (is_done a) (acted_move s kept) (refused_move a)

  -- a call that is lent one
  abbrev pub outcome_move : Answer → Outcome → Bool → Moved
  outcome_move a o kept =
      cond (is_done a) (acted_move (stepped_of o.answer (core_of o.endpoint) (length (bytes_of o.writes))) kept)
      (refused_move a)

  pub record StepMoves (a : Answer) (o : Outcome) (kept : Bool) (out out' : List ℕ) (m : Moved) : Type 0 where
    pub moves : m ≡ outcome_move a o kept
    pub output : out' ≡ over (cond (is_done a) (bytes_of o.writes) []) out

  -- a show, of the value's bytes
  abbrev pub to_show : List ℕ → Endpoint
  to_show bytes = with_bytes bytes (after_tick (bare_of p.stored) p.call.clock)

  abbrev pub show_answer : Bool → Answer
  show_answer short = admitted_entry short R.Entry (Ok tt)

  pub record ShowMoves (bytes : List ℕ) (out out' : List ℕ) (m : Moved) : Type 0 where
    pub moves : m ≡ cond (is_done (show_answer (is_short (length out))))
        (shown_move (length (shown_of (to_show bytes))) (is_fail_safe (to_show bytes)) (shown_age (to_show bytes) p.call.clock))
        (refused_move (show_answer (is_short (length out))))
    pub output : out' ≡ over (cond (is_done (show_answer (is_short (length out)))) (shown_of (to_show bytes)) []) out

  -- a deliver, where w has been handed over
  abbrev pub frame_outcome : Handed → List ℕ → Reading → Outcome
  frame_outcome w s (Err fault) = outcome (Ok tt) (bare_of p.stored) nothing
  frame_outcome w s (Ok read) =
      deliver_of (with_held w (bare_of p.stored)) p.call.clock read.fields (slice read.start read.end s)

  abbrev pub frame_answer : Bool → Reading → Answer
  frame_answer short (Err fault) = admitted short (Err (Dropped (reason_of fault)))
  frame_answer short (Ok read) = before short R.Unknown

  abbrev pub accepts_value : Reading → Answer → Bool
  accepts_value (Err fault) a = false
  accepts_value (Ok read) a = is_done a && is read.fields.command K.Refresh

  -- what a frame does, or bytes that are none
  abbrev pub FrameMoves : Handed → List ℕ → Reading → List ℕ → List ℕ → Moved → Type 0
  FrameMoves w s r out out' m =
      StepMoves (frame_answer (is_short (length out)) r) (frame_outcome w s r)
      (accepts_value r (frame_outcome w s r).answer) out out' m

  pub record EmptyMoves (out out' : List ℕ) (m : Moved) : Type 0 where
    pub moves : m ≡ refused_move (admitted (is_short (length out)) (Ok tt))
    pub output : out' ≡ out

  -- an empty cycle, or a frame
  pub record DeliverMoves (w : Handed) (s out out' : List ℕ) (m : Moved) : Type 0 where
    pub empty : eqb (length s) 0 ≡ true → EmptyMoves out out' m
    pub frame : eqb (length s) 0 ≡ false → FrameMoves w s (reading_of s) out out' m

-- ---- loading: how many records are made
abbrev pub plan_of : List ℕ → ℕ → Result ℕ Reason
plan_of ws n =
    cond (is_list ws) (cond (ltb n (count_of ws)) (Err R.Buffer) (Ok (count_of ws))) (Err R.Settings)
