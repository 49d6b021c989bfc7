-- The theorem's premises can be met: two gateways with one station at entry 1, beside other connections, its line
-- started, a command performed and a value shown there, with other calls in between. The premises and both runs are
-- computed.
use mathlib.Core.Path.{◌≡◌, refl, sym, ◌∙◌}
use Rattle.std.specs.Prelude.{Err, Ok}
use Rattle.std.specs.Prelude.{None, Option, Some, ℕ}
use mathlib.Core.Bool.{true, false, cond}
use mathlib.Core.List.{List, [], ◌∷◌, ◌++◌}
use Prim.Native.Nat.{ℕ, ◌+◌}
use lib.Dec.{lit<}
use lib.ListN.{replicate}
use Rattle.crc.specs.Crc.{bit_step, bit_steps, byte_step, crc_from, crc}
use Rattle.frame.specs.declared.Command.{Command}
use Rattle.frame.specs.declared.Command.TheVariants as K
use Rattle.frame.specs.Control.{is, control_of, has_form}
use Rattle.frame.specs.Reading.{has_check_word, fields_in, reading_of_copies, reading_of}
use Rattle.frame.specs.Writing.{head_bytes, with_check_word, twice, sub_bytes, frame_bytes}
use Rattle.endpoint.specs.declared.Reason.TheVariants as R
use Rattle.endpoint.specs.Answers.{Answer}
use Rattle.endpoint.specs.declared.Refusal.TheVariants.{Dropped}
use Rattle.steps.specs.Frames.{Written, nothing, frame, value, sent_fields, ack_fields, setup_data, handed_over}
use Rattle.steps.specs.Steps.{start, set_not_ready, set_result, clear_result, invoke}
use Rattle.settings.specs.Lists.{connection_at, settings_at, is_connection_at, is_new_at, are_connections, is_list}
use Rattle.records.specs.declared.Record.{Record}
use Rattle.gateway.specs.Tables.{blank_record, endpoint_at, place_of, clock_step}
use Rattle.gateway.specs.Loading.{loaded_of}
use Rattle.runs.specs.Steps.{Call, act, send, deliver, show}
use Rattle.isolation.specs.Isolation.{LoadedAlike, Event, event, same, others, AlikeAll, none, next, Told, told_of}
use Rattle.isolation.proofs.Isolation.{isolation}

-- a connection of a master's address, a slave's and a role
seven : ℕ → ℕ → ℕ → List ℕ
seven a b role =
    (0x10000000 + a) ∷ (0x20000000 + b) ∷ role ∷ 0x40000064 ∷ 0x50000032 ∷ 0x60000032 ∷ 0x70000007 ∷ []

station : List ℕ
station = seven 0x0102 0x0103 0x30000421

list : List ℕ
list = seven 0x0110 0x0111 0x30000021 ++ station

list' : List ℕ
list' = seven 0x0120 0x0121 0x30000421 ++ (station ++ seven 0x0110 0x0111 0x30000021)

-- the second slice is longer than its table
lent : List Record
lent = replicate 2 blank_record

lent' : List Record
lent' = replicate 4 blank_record

cid : ℕ
cid = 0x01020103

-- the session number of both loadings
number : ℕ
number = 7

loads : LoadedAlike number 1 list list' lent lent'
unfolding seven station list list' lent lent' connection_at settings_at is_connection_at is_new_at are_connections is_list
loads = record { done = refl; done' = refl; entry = lit< tt; entry' = lit< tt; alike = refl }

data_of_law : Command → List ℕ
data_of_law k = setup_data (settings_at station 0) k

-- a request of the station's master, at the station; S-Connect has no session number
session_for : Command → Option ℕ
session_for k = cond (is k K.Connect) None (Some number)

request : ℕ → Command → ℕ → Event
request t k baseline =
    event (5001 + t) 248 (deliver (frame_bytes (sent_fields k false false (session_for k) cid t baseline) (data_of_law k)))

-- the station's result, and the call that sets it
result : List ℕ
result = 9 ∷ 8 ∷ 7 ∷ 6 ∷ []

result_set : Event
result_set = event 5034 0 (act (set_result result) 1)

refresh : Event
refresh =
    event 5061 248
    (deliver (frame_bytes (sent_fields K.Refresh false false (session_for K.Refresh) cid 60 0) (1 ∷ 2 ∷ 3 ∷ 4 ∷ [])))

-- a frame of a CID that the first gateway holds at entry 0, the second at entry 2
elsewhere : Call
elsewhere = deliver (frame_bytes (sent_fields K.Refresh false true None 0x01100111 60 0) (9 ∷ 9 ∷ 9 ∷ 9 ∷ []))

run : List Event
run =
    event 5000 0 (act start 0)
    ∷ request 10 K.Connect 0
    ∷ event 5012 248 (send 0 [])
    ∷ request 20 K.ConfirmNetwork 0
    ∷ request 30 K.VerifyStation 0
    ∷ event 5033 0 (act (invoke 7 []) 0)
    ∷ result_set
    ∷ request 35 K.InvokeFunc 0
    ∷ request 40 K.RefreshReady 0
    ∷ request 50 K.RefreshGo 8
    ∷ event 5055 248 (deliver (1 ∷ 2 ∷ 3 ∷ []))
    ∷ refresh
    ∷ event 5062 248 elsewhere
    ∷ event 5070 100 (show 1) ∷ event 5071 248 (show 1) ∷ []

run' : List Event
run' =
    event 5000 248 (deliver [])
    ∷ request 10 K.Connect 0
    ∷ event 5012 7 (show 9)
    ∷ request 20 K.ConfirmNetwork 0
    ∷ request 30 K.VerifyStation 0
    ∷ event 5033 0 (act clear_result 0)
    ∷ result_set
    ∷ request 35 K.InvokeFunc 0
    ∷ request 40 K.RefreshReady 0
    ∷ request 50 K.RefreshGo 8
    ∷ event 5055 0 (act (set_not_ready true) 0)
    ∷ refresh
    ∷ event 5062 3 elsewhere
    ∷ event 5070 100 (show 1) ∷ event 5071 248 (show 1) ∷ []

alike : AlikeAll 1 (connection_at list 1) run run'
unfolding number session_for run run' request result result_set refresh elsewhere data_of_law seven station list cid connection_at settings_at
    setup_data control_of has_form has_check_word fields_in reading_of_copies reading_of head_bytes with_check_word twice sub_bytes
    frame_bytes bit_step bit_steps byte_step crc_from crc
alike =
    next (others _ _ _ _ _ refl refl) (next (same _ _ _ refl) (next (others _ _ _ _ _ refl refl)
    (next (same _ _ _ refl) (next (same _ _ _ refl) (next (others _ _ _ _ _ refl refl) (next (same _ _ _ refl)
    (next (same _ _ _ refl) (next (same _ _ _ refl) (next (same _ _ _ refl) (next (others _ _ _ _ _ refl refl)
    (next (same _ _ _ refl) (next (others _ _ _ _ _ refl refl) (next (same _ _ _ refl)
    (next (same _ _ _ refl) none))))))))))))))

-- ---- what the station's calls tell
abbrev telling : Option ℕ → Answer → Option ℕ → Written → Told
telling age a n w = record { answer = a; entry = n; writes = w; failsafe = false; age = age }

abbrev tell : Answer → Option ℕ → Written → Told
tell a n w = telling None a n w

replied_with : List ℕ → ℕ → Command → Told
replied_with body t k = tell (Ok tt) (Some 1) (frame (ack_fields k false false false (Some number) cid t) body)

replied : ℕ → Command → Told
replied t k = replied_with (data_of_law k) t k

-- a reply to each request, the command's with its result; S-Refresh is taken; a show that is lent too little; the value and
-- its age
answers : List Told
answers =
    replied 10 K.Connect
    ∷ replied 20 K.ConfirmNetwork
    ∷ replied 30 K.VerifyStation
    ∷ tell (Ok tt) (Some 1) nothing
    ∷ replied_with result 35 K.InvokeFunc
    ∷ replied 40 K.RefreshReady
    ∷ replied 50 K.RefreshGo
    ∷ tell (Ok tt) (Some 1) nothing
    ∷ tell (Err (Dropped R.Buffer)) None nothing
    ∷ telling (Some 12) (Ok tt) (Some 1) (value (1 ∷ 2 ∷ 3 ∷ 4 ∷ [])) ∷ []

computed : told_of 1 (connection_at list 1) (loaded_of number list lent).lent run ≡ answers
unfolding number session_for run request result result_set refresh elsewhere data_of_law seven station list lent cid replied_with replied
    answers told_of endpoint_at place_of clock_step connection_at settings_at is_connection_at is_new_at are_connections is_list
    setup_data handed_over control_of has_form has_check_word fields_in reading_of_copies reading_of head_bytes with_check_word
    twice sub_bytes frame_bytes bit_step bit_steps byte_step crc_from crc
computed = refl

computed' : told_of 1 (connection_at list 1) (loaded_of number list' lent').lent run' ≡ answers
unfolding number session_for run' request result result_set refresh elsewhere data_of_law seven station list list' lent' cid replied_with
    replied answers told_of endpoint_at place_of clock_step connection_at settings_at is_connection_at is_new_at are_connections
    is_list setup_data handed_over control_of has_form has_check_word fields_in reading_of_copies reading_of head_bytes
    with_check_word twice sub_bytes frame_bytes bit_step bit_steps byte_step crc_from crc
computed' = refl

-- the same by the theorem, from the first run alone
told_same : told_of 1 (connection_at list 1) (loaded_of number list' lent').lent run' ≡ answers
told_same = sym (isolation number 1 list list' lent lent' loads run run' alike) ∙ computed
