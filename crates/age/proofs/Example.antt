-- The theorem's premises can be met: two gateways are loaded into slices that were in use, and the line starts; the
-- slave's gateway loses its power and is loaded again, with another session number, list and clock. The line starts
-- anew while a frame from before still travels; its station performs a command, and is at first not ready. When the
-- slave's clock has gained two ticks its offset is measured anew; the line refreshes both ways, and shows both values.
-- All of it is computed.
use mathlib.Core.Path.{◌≡◌, refl, ap}
use Rattle.std.specs.Prelude.{None, Some}
use mathlib.Core.Bool.{Bool, true, false, cond}
use mathlib.Core.List.{List, [], ◌∷◌, ◌++◌}
use Prim.Native.Nat.{ℕ, ◌+◌}
use lib.ListN.{replicate}
use Rattle.crc.specs.Crc.{bit_step, bit_steps, byte_step, crc_from, crc}
use Rattle.frame.specs.declared.Command.{Command}
use Rattle.frame.specs.declared.Command.TheVariants as K
use Rattle.frame.specs.Control.{is, control_of, has_form}
use Rattle.frame.specs.Reading.{has_check_word, fields_in, reading_of_copies, reading_of}
use Rattle.frame.specs.Writing.{head_bytes, with_check_word, twice, sub_bytes, frame_bytes, is_writable}
use Rattle.endpoint.specs.declared.Settings.{Settings}
use Rattle.transitions.specs.ByCall.{fresh_of}
use Rattle.transitions.specs.ByFrame.{refreshed_of}
use Rattle.steps.specs.Frames.{sent_fields, ack_fields, setup_data, handed_over}
use Rattle.settings.specs.Lists.{connection_at, settings_at, is_connection_at, is_new_at, are_connections, is_list}
use Rattle.records.specs.declared.Record.{Record}
use Rattle.records.specs.Records.{record_of}
use Rattle.gateway.specs.Tables.{endpoint_at, place_of, clock_step}
use Rattle.steps.specs.Steps.{start, stop, restart, set_not_ready, set_result, invoke}
use Rattle.link.specs.Clocks.{keeps_pace}
use Rattle.link.specs.Runs as L
use Rattle.runs.specs.Steps.{Call, act, send, deliver, show}
use Rattle.age.specs.Runs.{Event, called, loaded, sent_at, last_from, last_of, Run, after_all}
use Rattle.age.specs.Demand.{Holds, run_of}

list : ℕ → List ℕ
list role = 0x10000102 ∷ 0x20000103 ∷ role ∷ 0x40004E20 ∷ 0x50000032 ∷ 0x60000032 ∷ 0x70000007 ∷ []

-- another connection stands before it
longer : List ℕ
longer =
    (0x10000104 ∷ 0x20000105 ∷ 0x30000021 ∷ 0x40000064 ∷ 0x50000032 ∷ 0x60000032 ∷ 0x70000007 ∷ [])
    ++ list 0x30000421

-- moments are 5,000 above the master's readings; the slave's clock is some ticks ahead of the master's: 5,000 at first,
-- 1,000 once it is loaded again, and later 1,002
at_master_law : ℕ → Call → Event
at_master_law t c = called false t 0 248 c

at_slave : (ahead t : ℕ) → Call → Event
at_slave ahead t c = called true (ahead + t) (5000 + t) 248 c

cid : ℕ
cid = 0x01020103

-- what the lists say of it
settings : Bool → Settings
settings slave = record {
  connection = cid;
  slave = slave;
  masterwords = 1;
  slavewords = 1;
  interval = 20000;
  roundtrip = 50;
  age = 50;
  station = 7;
}

-- lent to both: each record is of the CID and holds another value; the lists that are loaded first leave one over
slice : List Record
slice = used ∷ used ∷ []
  where
    used : Record
    used = record_of (refreshed_of (fresh_of (settings true) 9) 5 3 (replicate 100 9))

data_of_law : Command → List ℕ
data_of_law k = setup_data (settings false) k

-- what a master with the session number n writes; an S-Connect request carries none
request : ℕ → Bool → ℕ → Command → ℕ → List ℕ → List ℕ
request n sequence t k baseline body =
    frame_bytes (sent_fields k sequence false (cond (is k K.Connect) None (Some n)) cid t baseline) body

-- with the session number n, and the slave's clock so far ahead
module _ (n ahead : ℕ) where
  -- a request written at t, taken by the slave, and its reply, Busy or not, taken by the master one tick later each
  answered : (busy sequence : Bool) → ℕ → Command → ℕ → List ℕ → List ℕ → List Event
  answered busy sequence t k baseline body reply =
      at_master_law t (send 0 [])
      ∷ at_slave ahead (1 + t) (deliver (request n sequence t k baseline body))
      ∷ at_master_law (2 + t) (deliver (frame_bytes (ack_fields k busy false sequence (Some n) cid t) reply)) ∷ []

  -- a request of setup or of a measurement, whose reply repeats its data
  repeated : (busy sequence : Bool) → ℕ → Command → ℕ → List Event
  repeated busy sequence t k baseline = answered busy sequence t k baseline (data_of_law k) (data_of_law k)

  exchange : ℕ → Command → ℕ → List Event
  exchange t k baseline = repeated false false t k baseline

  -- a measurement in Refresh, the first, whose Offset op seq is 1
  measured : ℕ → List Event
  measured t = repeated false true t K.RefreshMo 0 ++ repeated false true (5 + t) K.RefreshGo 3

-- a queued command, first with Busy, since the station has no result yet, and then with its result
command : List ℕ
command = 0 ∷ 0 ∷ 0 ∷ 7 ∷ []

result : List ℕ
result = 9 ∷ 8 ∷ 7 ∷ 6 ∷ []

performed : ℕ → List Event
performed t =
    (at_master_law t (act (invoke 7 []) 0) ∷ [])
    ++ (answered 8 1000 true false t K.InvokeFunc 0 command command
    ++ ((at_slave 1000 (2 + t) (act (set_result result) 1) ∷ [])
    ++ answered 8 1000 false false (3 + t) K.InvokeFunc 0 command result))

-- connected with number 7; then the slave's gateway is loaded with number 8, and its connection is at entry 1
cycled : List Event
cycled =
    (at_master_law 1 (act start 0) ∷ [])
    ++ (exchange 7 5000 2 K.Connect 0
    ++ (at_master_law 5 (send 0 [])
    ∷ loaded 8 longer slice
    ∷ at_master_law 6 (act stop 0)
    ∷ at_master_law 7 (act (restart 0) 0)
    ∷ at_master_law 8 (act start 0) ∷ []))

line : List Event
line =
    cycled
    ++ (exchange 8 1000 10 K.Connect 0
    -- a request from before, with number 7: no reply to it is among the frames written
    ++ ((at_slave 1000 13 (deliver (request 7 false 5 K.ConfirmNetwork 0 (data_of_law K.ConfirmNetwork))) ∷ [])
    ++ (exchange 8 1000 20 K.ConfirmNetwork 0
    ++ (exchange 8 1000 30 K.VerifyStation 0
    ++ (performed 33
    ++ ((at_slave 1000 39 (act (set_not_ready true) 1) ∷ [])
    ++ (repeated 8 1000 true false 39 K.RefreshReady 0
    ++ ((at_slave 1000 41 (act (set_not_ready false) 1) ∷ [])
    ++ (exchange 8 1000 42 K.RefreshReady 0
    ++ (exchange 8 1000 50 K.RefreshGo 6
    ++ (measured 8 1002 10060
    ++ (at_master_law 10070 (send 0 (1 ∷ 2 ∷ 3 ∷ 4 ∷ []))
    ∷ at_slave 1002 10071 (deliver (request 8 false 10070 K.Refresh 0 (1 ∷ 2 ∷ 3 ∷ 4 ∷ [])))
    -- another entry, bytes that are no frame, and a cycle in which nothing arrived
    ∷ at_slave 1002 10072 (show 0)
    ∷ at_slave 1002 10073 (deliver (1 ∷ 2 ∷ 3 ∷ []))
    ∷ at_slave 1002 10074 (deliver [])
    ∷ at_slave 1002 10080 (show 1)
    ∷ at_slave 1002 10081 (send 1 (5 ∷ 6 ∷ 7 ∷ 8 ∷ []))
    -- a reading before the last: number 1
    ∷ at_slave 1002 10000 (show 1)
    -- the slave reckons the master's time a tick high, which is what the reply to S-RefreshMO took
    ∷ at_master_law 10082
    (deliver (frame_bytes (sent_fields K.Refresh false true (Some 8) cid 10082 0) (5 ∷ 6 ∷ 7 ∷ 8 ∷ [])))
    ∷ at_master_law 10090 (show 0) ∷ []))))))))))))

run : Run
run = run_of 0 (list 0x30000021) slice 7 (list 0x30000421) slice cid 5000 line

-- each gateway holds the CID
master : Holds 0 (list 0x30000021) slice cid false
unfolding list cid slice connection_at settings_at is_connection_at is_new_at are_connections is_list endpoint_at place_of
master = record { done = refl; there = refl; role = refl }

slave : Holds 7 (list 0x30000421) slice cid true
unfolding list cid slice connection_at settings_at is_connection_at is_new_at are_connections is_list endpoint_at place_of
slave = record { done = refl; there = refl; role = refl }

values : List L.Show
values =
    L.shown true (settings true) 15080 (1 ∷ 2 ∷ 3 ∷ 4 ∷ []) 11 25 25
    ∷ L.shown false (settings false) 15090 (5 ∷ 6 ∷ 7 ∷ 8 ∷ []) 8 26 26 ∷ []

-- both facts at once, so that the run is computed once
abbrev told : Run → Bool × List L.Show
told r = (r.allowed, r.shows)

computed : told run ≡ (true, values)
unfolding run line cycled performed command result measured exchange repeated answered request data_of_law at_master_law
    at_slave longer list cid settings slice values after_all sent_at last_from last_of keeps_pace L.may_travel endpoint_at
    place_of clock_step
    connection_at settings_at is_connection_at is_new_at are_connections is_list setup_data handed_over control_of has_form
    has_check_word fields_in reading_of_copies reading_of head_bytes with_check_word twice sub_bytes frame_bytes is_writable
    bit_step bit_steps byte_step crc_from crc
computed = refl

allowed : run.allowed ≡ true
allowed = ap (λ (x : Bool × List L.Show). x.0) computed

shown : run.shows ≡ values
shown = ap (λ (x : Bool × List L.Show). x.1) computed
