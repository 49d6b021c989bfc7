-- Answers: document 01's numbers, and the first refusal that applies.
use Rattle.std.specs.Prelude.{ℕ, Bool, true, false, cond}
use Rattle.std.specs.Prelude.{Result, Err, Ok}
use Rattle.endpoint.specs.declared.Reason.{Reason}
use Rattle.endpoint.specs.declared.Reason.TheVariants as R
use Rattle.endpoint.specs.declared.Refusal.{Refusal}
use Rattle.endpoint.specs.declared.Refusal.TheVariants.{Dropped, Ended}
use Rattle.endpoint.specs.declared.Faults.{Faults}
use Rattle.endpoint.specs.Endpoint.{Endpoint}

-- done; refused; or refused with the connection ended
abbrev pub Answer : Type 0
Answer = Result Unit Refusal

abbrev pub reason_number : Reason → ℕ
reason_number R.Clock = 1
reason_number R.Buffer = 2
reason_number R.Entry = 3
reason_number R.Length = 4
reason_number R.Copies = 5
reason_number R.CheckWord = 6
reason_number R.Form = 7
reason_number R.Unknown = 8
reason_number R.Expired = 9
reason_number R.Echo = 10
reason_number R.Turn = 11
reason_number R.Width = 12
reason_number R.Repeat = 13
reason_number R.Ahead = 14
reason_number R.Late = 15
reason_number R.Unequal = 16
reason_number R.TooSoon = 17
reason_number R.Settings = 18
reason_number R.Exhausted = 19
reason_number R.Record = 20
reason_number R.Session = 21

-- document 01's number of an answer, 0 for done
abbrev pub number_of : Answer → ℕ
number_of (Ok _) = 0
number_of (Err (Dropped r)) = reason_number r
number_of (Err (Ended r)) = reason_number r

-- what can refuse a user's call: 11, 12, 19 and 17
abbrev pub call_faults : Bool → Bool → Bool → Bool → Faults
call_faults turn width exhausted soon = record {
  turn = turn;
  session = false;
  norecord = false;
  width = width;
  exhausted = exhausted;
  repeat = false;
  ahead = false;
  late = false;
  unequal = false;
  soon = soon;
}

-- what can refuse a user's call that hands over an error record: 11 and 20
abbrev pub record_faults : Bool → Bool → Faults
record_faults turn norecord = record {
  turn = turn;
  session = false;
  norecord = norecord;
  width = false;
  exhausted = false;
  repeat = false;
  ahead = false;
  late = false;
  unequal = false;
  soon = false;
}

-- what can refuse a setup frame: 11, 21, 20, 12, 13 and 16
abbrev pub setup_faults : Bool → Bool → Bool → Bool → Bool → Bool → Faults
setup_faults turn session norecord width repeat unequal = record {
  turn = turn;
  session = session;
  norecord = norecord;
  width = width;
  exhausted = false;
  repeat = repeat;
  ahead = false;
  late = false;
  unequal = unequal;
  soon = false;
}

-- what can refuse an S-Refresh: 11, 21 and 12 to 15
abbrev pub value_faults : Bool → Bool → Bool → Bool → Bool → Bool → Faults
value_faults turn session width repeat ahead late = record {
  turn = turn;
  session = session;
  norecord = false;
  width = width;
  exhausted = false;
  repeat = repeat;
  ahead = ahead;
  late = late;
  unequal = false;
  soon = false;
}

-- the first that applies, in the order of the numbers, but for 21, which comes after 11, 20, which stands in 12's place
-- and before it, and 19, which comes after 12; 15, 16 and 19 end the connection
abbrev pub first_of : Faults → Answer
first_of f =
    cond f.turn (Err (Dropped R.Turn))
    (cond f.session (Err (Dropped R.Session))
    (cond f.norecord (Err (Dropped R.Record))
    (cond f.width (Err (Dropped R.Width))
    (cond f.exhausted (Err (Ended R.Exhausted))
    (cond f.repeat (Err (Dropped R.Repeat))
    (cond f.ahead (Err (Dropped R.Ahead))
    (cond f.late (Err (Ended R.Late))
    (cond f.unequal (Err (Ended R.Unequal))
    (cond f.soon (Err (Dropped R.TooSoon)) (Ok tt))))))))))

abbrev pub is_done : Answer → Bool
is_done (Ok _) = true
is_done (Err (Dropped r)) = false
is_done (Err (Ended r)) = false

abbrev pub is_dropped : Answer → Bool
is_dropped (Ok _) = false
is_dropped (Err (Dropped r)) = true
is_dropped (Err (Ended r)) = false

abbrev pub is_ended : Answer → Bool
is_ended (Ok _) = false
is_ended (Err (Dropped r)) = false
is_ended (Err (Ended r)) = true

-- the endpoint that an answer leaves
abbrev pub left_by : Answer → Endpoint → Endpoint → Endpoint → Endpoint
left_by (Ok _) stays ends next = next
left_by (Err (Dropped r)) stays ends next = stays
left_by (Err (Ended r)) stays ends next = ends
