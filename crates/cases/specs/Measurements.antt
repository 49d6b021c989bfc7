-- The cases of measurements of the clocks in Refresh (document 02, note 9): what the definitions give beside what the
-- paper states.
use Rattle.std.specs.Prelude.{Bool, true, false, List, [], ◌∷◌, ◌++◌, ℕ}
use Rattle.std.specs.Prelude.{None, Option, Some}
use Rattle.frame.specs.declared.Command.{Command}
use Rattle.frame.specs.declared.Command.TheVariants as K
use Rattle.frame.specs.Control.{flag}
use Rattle.endpoint.specs.declared.Settings.{Settings}
use Rattle.endpoint.specs.declared.State.{State}
use Rattle.endpoint.specs.declared.State.TheVariants.{ParamVerify, RefreshPending, Refresh, Terminate}
use Rattle.endpoint.specs.Endpoint.{Endpoint}
use Rattle.endpoint.specs.Answers.{number_of}
use Rattle.endpoint.specs.Table.{row_of}
use Rattle.endpoint.specs.Updates.{with_sent, with_accepted, with_pending, with_requests, with_not_ready, measurement_of}
use Rattle.endpoint.specs.Updates.{with_measurement}
use Rattle.steps.specs.Frames.{Written, nothing, frame, value, sent_fields, ack_fields}
use Rattle.steps.specs.Calls.{Outcome}
use Rattle.steps.specs.Steps.{send, deliver, call_of}
use Rattle.settings.specs.Words.{settings_of}
use Rattle.gateway.specs.Tables.{endpoint_at}
use Rattle.gateway.specs.Calls.{deliver_in}
use Rattle.cases.specs.Cases.{Case, row, case, seven, endpoint_in, cid, word, zero_word, stamp_of, pending_of}
use Rattle.cases.specs.Cases.{control_in, stamp_in, data_in, calling, refreshed, taking, alone, aging, form_of}

-- ---- what a row asks
-- of what a call writes: OBL
abbrev baseline_in : Written → ℕ
baseline_in nothing = 0
baseline_in (frame f body) = f.baseline
baseline_in (value bytes) = 0

-- the state and the timer's start; whether S-RefreshMO was answered, Offset op seq, the reference, the pending request,
-- s2 or m2, ts_offset, and the last timestamp accepted
abbrev measurement_in : Endpoint → List ℕ
measurement_in e =
    row_of e.state ∷ e.since ∷ flag e.measurement.answered 1 ∷ flag e.measurement.sequence 1
    ∷ e.measurement.reference ∷ pending_of e.setup.pending ∷ e.setup.measured ∷ e.setup.offset
    ∷ stamp_of e.timestamps.accepted ∷ []

-- a call: its number; CTRL, the timestamp and OBL written; what it leaves; S-Data
abbrev measuring : Outcome → List ℕ
measuring o =
    number_of o.answer ∷ control_in o.writes ∷ stamp_in o.writes ∷ baseline_in o.writes
    ∷ measurement_in o.endpoint ++ data_in o.writes

-- nothing is written, and this is left
abbrev only : ℕ → List ℕ → List ℕ
only number left = number ∷ 0 ∷ 0 ∷ 0 ∷ left

-- ---- at a master: I and A of 65,535 ticks, R of 50
abbrev master : ℕ → Settings
master roundtrip = settings_of 0x0102 0x0103 0x021 65535 roundtrip 65535 7

-- in Refresh since 5: whether S-RefreshMO was answered, Offset op seq, the reference, the pending request, and m2
abbrev in_refresh : Bool → Bool → ℕ → Option ℕ → ℕ → Endpoint
in_refresh isAnswered sequence reference pending measured =
    with_measurement (measurement_of isAnswered sequence reference)
    (with_pending pending (endpoint_in (master 50) Refresh 5 measured 0))

-- just entered; S-RefreshMO sent at 10,005, its reply taken at 10,055, S-RefreshGO sent at 10,058, its reply taken: as the
-- rows have each left by the last
abbrev entered : Endpoint
entered = in_refresh false false 5 None 4

abbrev asked : Endpoint
asked = in_refresh false true 10005 (Some 10005) 4

abbrev heard : Endpoint
heard = in_refresh true true 10005 None 10055

abbrev gone : Endpoint
gone = in_refresh true true 10005 (Some 10058) 10055

abbrev closed : Endpoint
closed = in_refresh false true 10005 None 10055

-- a send, with this value lent
abbrev sent : Endpoint → ℕ → List ℕ → Outcome
sent e t v = call_of e t (send v)

-- a reply, with this timestamp and Offset op seq
abbrev replied : Endpoint → ℕ → Command → ℕ → Bool → Outcome
replied e t k stamp sequence = call_of e t (deliver (ack_fields k false false sequence seven cid stamp) zero_word)

-- what is left of each
abbrev left_of : ℕ → ℕ → ℕ → ℕ → ℕ → List ℕ
left_of isAnswered sequence reference pending measured =
    row_of Refresh ∷ 5 ∷ isAnswered ∷ sequence ∷ reference ∷ pending ∷ measured ∷ 0 ∷ 0 ∷ []

abbrev resting : List ℕ
resting = left_of 0 0 5 0 4

abbrev asking : List ℕ
asking = left_of 0 1 10005 10005 4

abbrev hearing : List ℕ
hearing = left_of 1 1 10005 0 10055

abbrev going : List ℕ
going = left_of 1 1 10005 10058 10055

abbrev closing : List ℕ
closing = left_of 0 1 10005 0 10055

-- S-Refresh is written
abbrev values : ℕ → List ℕ → List ℕ
values t left = 0 ∷ 0xFF010007 ∷ t ∷ 0 ∷ left ++ word

unfoldable pub measurements : List Case
measurements =
    -- entered at 5: at 10,004 S-Refresh is written, with the width that it must have; at 10,005 S-RefreshMO, whatever
    -- value is lent, with a zero word, OBL 0 and Offset op seq 1; the timer is not restarted
    row (measuring (sent entered 10004 word)) (values 10004 resting)
    ∷ row (measuring (sent entered 10004 [])) (only 12 resting)
    ∷ row (measuring (sent entered 10005 [])) (0 ∷ 0xFD110007 ∷ 10005 ∷ 0 ∷ asking ++ zero_word)
    ∷ row (measuring (sent entered 10005 word)) (0 ∷ 0xFD110007 ∷ 10005 ∷ 0 ∷ asking ++ zero_word)
    -- while it is open, values
    ∷ row (measuring (sent asked 10006 word)) (values 10006 asking)
    ∷ row (measuring (sent asked 10006 [])) (only 12 asking)
    -- its reply after R ticks is taken, and m2 is its moment; again: 13
    ∷ row (measuring (replied asked 10055 K.RefreshMo 10005 true)) (only 0 hearing)
    ∷ row (measuring (replied heard 10055 K.RefreshMo 10005 true)) (only 13 hearing)
    -- S-RefreshGO is due, whatever value is lent: OBL = m3 − m2 = 3, the same Offset op seq
    ∷ row (measuring (sent heard 10058 [])) (0 ∷ 0xFE110007 ∷ 10058 ∷ 3 ∷ going ++ zero_word)
    ∷ row (measuring (sent gone 10059 word)) (values 10059 going)
    -- its reply closes the measurement, and values are sent again; the next, 10,000 ticks after the last, has Offset op
    -- seq 0
    ∷ row (measuring (replied gone 10059 K.RefreshGo 10058 true)) (only 0 closing)
    ∷ row (measuring (sent closed 20004 word)) (values 20004 closing)
    ∷ row (measuring (sent closed 20005 []))
    (0 ∷ 0xFD010007 ∷ 20005 ∷ 0 ∷ left_of 0 0 20005 20005 10055 ++ zero_word)
    -- no setup request: not counted, and not held back by the limit of a start
    ∷ row (calling (sent (with_requests 45 entered) 10005 [])) (0 ∷ 0xFD110007 ∷ 10005 ∷ row_of Refresh ∷ 45 ∷ [])
    -- due in the tick of the last timestamp sent: 17, and Offset op seq does not turn
    ∷ row (measuring (sent (with_sent 10005 entered) 10005 [])) (only 17 resting)
    ∷ []

unfoldable pub measurement_drops : List Case
measurement_drops =
    -- a step after more than R ticks: dropped; the reply is 13, S-RefreshGO is not written, and the connection stays
    row (measuring (replied asked 10056 K.RefreshMo 10005 true)) (only 13 asking)
    ∷ row (measuring (sent asked 10056 word)) (values 10056 asking)
    ∷ row (measuring (sent heard 10105 [])) (0 ∷ 0xFE110007 ∷ 10105 ∷ 50 ∷ left_of 1 1 10005 10105 10055 ++ zero_word)
    ∷ row (measuring (sent heard 10106 word)) (values 10106 hearing)
    ∷ row (measuring (replied gone 10108 K.RefreshGo 10058 true)) (only 0 closing)
    ∷ row (measuring (replied gone 10109 K.RefreshGo 10058 true)) (only 13 going)
    -- one that was dropped turns Offset op seq all the same, and the next comes 10,000 ticks after it
    ∷ row (measuring (sent asked 20004 word)) (values 20004 asking)
    ∷ row (measuring (sent asked 20005 [])) (0 ∷ 0xFD010007 ∷ 20005 ∷ 0 ∷ left_of 0 0 20005 20005 4 ++ zero_word)
    ∷ []

-- a reply at a master in RefreshPending, its S-RefreshGO of 5 pending
abbrev replied_in_setup : Command → Bool → List ℕ
replied_in_setup k sequence =
    measuring (replied (with_pending (Some 5) (endpoint_in (master 50) RefreshPending 5 4 0)) 10 k 5 sequence)

abbrev in_setup : List ℕ
in_setup = row_of RefreshPending ∷ 5 ∷ 0 ∷ 0 ∷ 0 ∷ 5 ∷ 4 ∷ 0 ∷ 0 ∷ []

-- S-RefreshMO's reply at 10,010, with Error or not, in this session, with this timestamp and S-Data
abbrev heard_as : Bool → Option ℕ → ℕ → List ℕ → List ℕ
heard_as error n stamp body =
    measuring (call_of asked 10010 (deliver (ack_fields K.RefreshMo false error true n cid stamp) body))

abbrev ended : List ℕ
ended = row_of Terminate ∷ 5 ∷ 0 ∷ 1 ∷ 10005 ∷ 10005 ∷ 4 ∷ 0 ∷ 0 ∷ []

unfoldable pub measurement_replies : List Case
measurement_replies =
    -- another Offset op seq, another timestamp, the reply of another step: 13
    row (measuring (replied asked 10010 K.RefreshMo 10005 false)) (only 13 asking)
    ∷ row (measuring (replied asked 10010 K.RefreshMo 10004 true)) (only 13 asking)
    ∷ row (measuring (replied asked 10010 K.RefreshGo 10005 true)) (only 13 asking)
    ∷ row (measuring (replied gone 10060 K.RefreshMo 10058 true)) (only 13 going)
    ∷ row (measuring (replied gone 10060 K.RefreshGo 10058 false)) (only 13 going)
    -- of no measurement: 13, also S-RefreshGO's of setup once more
    ∷ row (measuring (replied entered 10 K.RefreshGo 5 false)) (only 13 resting)
    ∷ row (measuring (replied entered 10 K.RefreshMo 5 false)) (only 13 resting)
    -- setup's Offset op seq is 0
    ∷ row (replied_in_setup K.RefreshGo true) (only 13 in_setup)
    ∷ row (replied_in_setup K.RefreshGo false) (only 0 (row_of Refresh ∷ 10 ∷ 0 ∷ 0 ∷ 10 ∷ 0 ∷ 4 ∷ 0 ∷ 0 ∷ []))
    -- S-RefreshMO's in setup, S-RefreshReady's in Refresh: 11
    ∷ row (replied_in_setup K.RefreshMo true) (only 11 in_setup)
    ∷ row (measuring (replied asked 10010 K.RefreshReady 10005 false)) (only 11 asking)
    -- 21 before 12, 12 before 13, 13 before 16
    ∷ row (heard_as false (Some 8) 10005 []) (only 21 asking)
    ∷ row (heard_as false None 10005 zero_word) (only 21 asking)
    ∷ row (heard_as false seven 10004 []) (only 12 asking)
    ∷ row (heard_as true seven 10004 zero_word) (only 13 asking)
    -- Error, or a word that is not zero: 16
    ∷ row (heard_as true seven 10005 zero_word) (only 16 ended)
    ∷ row (heard_as false seven 10005 word) (only 16 ended)
    ∷ []

-- ---- at a slave of the same settings
abbrev slave : ℕ → Settings
slave roundtrip = settings_of 0x0102 0x0103 0x421 65535 roundtrip 65535 7

-- in Refresh since 6,004, s2 = 6,003: its time in the master's clock is 4,999 ticks back; 1,004 is the last accepted
abbrev started : Endpoint
started =
    with_measurement (measurement_of false false 6003)
    (with_accepted 1004 (endpoint_in (slave 50) Refresh 6004 6003 281474976705657))

-- a request with this Offset op seq, timestamp and OBL
abbrev requested : Endpoint → ℕ → Command → Bool → ℕ → ℕ → Outcome
requested e t k sequence stamp baseline =
    call_of e t (deliver (sent_fields k sequence false seven cid stamp baseline) zero_word)

-- S-RefreshMO taken at 16,002, its S-RefreshGO, of OBL 3, after R ticks
abbrev armed : Endpoint
armed = (requested started 16002 K.RefreshMo true 11000 0).endpoint

abbrev adjusted : Outcome
adjusted = requested armed 16052 K.RefreshGo true 11050 3

-- what is left: as it was; S-RefreshMO answered
abbrev lasting_of : ℕ → ℕ → ℕ → ℕ → ℕ → ℕ → List ℕ
lasting_of isAnswered sequence reference measured offset accepted =
    row_of Refresh ∷ 6004 ∷ isAnswered ∷ sequence ∷ reference ∷ 0 ∷ measured ∷ offset ∷ accepted ∷ []

abbrev lasting : List ℕ
lasting = lasting_of 0 0 6003 6003 281474976705657 1004

abbrev arming : List ℕ
arming = lasting_of 1 1 6003 16002 281474976705657 11000

unfoldable pub measurement_requests : List Case
measurement_requests =
    -- S-RefreshMO: the reply at once, with the same Offset op seq; s2 is its moment; the offset in use stays, and so do
    -- the state, the timer and "not ready"
    row (measuring (requested started 16002 K.RefreshMo true 11000 0)) (0 ∷ 0xFD950007 ∷ 11000 ∷ 0 ∷ arming ++ zero_word)
    ∷ row (measuring (requested (with_not_ready true started) 16002 K.RefreshMo true 11000 0))
    (0 ∷ 0xFD950007 ∷ 11000 ∷ 0 ∷ arming ++ zero_word)
    -- any Offset op seq is taken, and a new one takes the place of the one that is open
    ∷ row (measuring (requested started 16002 K.RefreshMo false 11000 0))
    (0 ∷ 0xFD850007 ∷ 11000 ∷ 0 ∷ lasting_of 1 0 6003 16002 281474976705657 11000 ++ zero_word)
    ∷ row (measuring (requested armed 16010 K.RefreshMo true 11008 0))
    (0 ∷ 0xFD950007 ∷ 11008 ∷ 0 ∷ lasting_of 1 1 6003 16010 281474976705657 11008 ++ zero_word)
    -- S-RefreshGO after R ticks: ts_offset = 11,050 − 3 − 16,002, and that s2 is the one it was reckoned with; what it
    -- stamps from now on
    ∷ row (measuring adjusted)
    (0 ∷ 0xFE950007 ∷ 11050 ∷ 0 ∷ lasting_of 0 1 16002 16002 281474976705701 11050 ++ zero_word)
    ∷ row (calling (sent started 16060 word)) (0 ∷ 0xFF050007 ∷ 11061 ∷ row_of Refresh ∷ 0 ∷ [])
    ∷ row (calling (sent adjusted.endpoint 16060 word)) (0 ∷ 0xFF050007 ∷ 11105 ∷ row_of Refresh ∷ 0 ∷ [])
    -- a tick later it is dropped: 13
    ∷ row (measuring (requested armed 16053 K.RefreshGo true 11051 3)) (only 13 arming)
    -- of another measurement, of none, and once more: 13
    ∷ row (measuring (requested armed 16010 K.RefreshGo false 11008 0)) (only 13 arming)
    ∷ row (measuring (requested started 16002 K.RefreshGo true 11000 0)) (only 13 lasting)
    ∷ row (measuring (requested started 16002 K.RefreshGo false 11000 0)) (only 13 lasting)
    ∷ row (measuring (requested adjusted.endpoint 16053 K.RefreshGo true 11051 3))
    (only 13 (lasting_of 0 1 16002 16002 281474976705701 11050))
    -- a timestamp that is not above the last accepted: 13; after it the measurement is still open
    ∷ row (measuring (requested started 16002 K.RefreshMo true 1004 0)) (only 13 lasting)
    ∷ row (measuring (requested armed 16010 K.RefreshGo true 11000 0)) (only 13 arming)
    ∷ []

-- at a slave in setup, since 6,004; a request there
abbrev requested_in_setup : State → Command → Bool → List ℕ
requested_in_setup state k sequence =
    measuring (requested (with_accepted 1004 (endpoint_in (slave 50) state 6004 6003 0)) 6010 k sequence 1010 0)

abbrev setup_in : State → List ℕ
setup_in state = row_of state ∷ 6004 ∷ 0 ∷ 0 ∷ 0 ∷ 0 ∷ 6003 ∷ 0 ∷ 1004 ∷ []

-- S-RefreshMO or S-RefreshGO at 16,010 while one is open, in this session, with this timestamp and S-Data
abbrev requested_as : Command → Option ℕ → ℕ → List ℕ → List ℕ
requested_as k n stamp body = measuring (call_of armed 16010 (deliver (sent_fields k true false n cid stamp 0) body))

abbrev ended_after : List ℕ
ended_after = row_of Terminate ∷ 6004 ∷ 1 ∷ 1 ∷ 6003 ∷ 0 ∷ 16002 ∷ 281474976705657 ∷ 11008 ∷ []

unfoldable pub measurement_refusals : List Case
measurement_refusals =
    -- S-RefreshMO in setup: 11; S-RefreshGO there with Offset op seq 1: 13
    row (requested_in_setup ParamVerify K.RefreshMo false) (only 11 (setup_in ParamVerify))
    ∷ row (requested_in_setup RefreshPending K.RefreshMo true) (only 11 (setup_in RefreshPending))
    ∷ row (requested_in_setup RefreshPending K.RefreshGo true) (only 13 (setup_in RefreshPending))
    ∷ row (requested_in_setup RefreshPending K.RefreshGo false)
    (0 ∷ 0xFE850007 ∷ 1010 ∷ 0
    ∷ (row_of Refresh ∷ 6010 ∷ 0 ∷ 0 ∷ 6003 ∷ 0 ∷ 6003 ∷ 281474976705663 ∷ 1010 ∷ []) ++ zero_word)
    ∷ row (requested_in_setup ParamVerify K.RefreshGo true) (only 11 (setup_in ParamVerify))
    -- 21 before 12, 12 before 13, 13 before 16
    ∷ row (requested_as K.RefreshMo (Some 8) 11008 []) (only 21 arming)
    ∷ row (requested_as K.RefreshGo None 11008 zero_word) (only 21 arming)
    ∷ row (requested_as K.RefreshMo seven 11000 []) (only 12 arming)
    ∷ row (requested_as K.RefreshGo seven 11000 word) (only 13 arming)
    -- a word that is not zero: 16, the reply with Error and the same Offset op seq
    ∷ row (requested_as K.RefreshMo seven 11008 word) (16 ∷ 0xFDB50007 ∷ 11008 ∷ 0 ∷ ended_after ++ word)
    ∷ row (requested_as K.RefreshGo seven 11008 word) (16 ∷ 0xFEB50007 ∷ 11008 ∷ 0 ∷ ended_after ++ word)
    ∷ []

-- with a value that was accepted at 16,000, 10 ticks old; then measured
abbrev valued : Endpoint
valued = (refreshed started 16000 10991 0x01020304).endpoint

abbrev valued_anew : Endpoint
valued_anew =
    (requested (requested valued 16002 K.RefreshMo true 11000 0).endpoint 16052 K.RefreshGo true 11050 3).endpoint

-- a slave of R = 40,000 whose S-RefreshGO comes 30,002 ticks after s2
abbrev patient : Outcome
patient = requested (endpoint_in (slave 40000) RefreshPending 6003 6003 0) 36005 K.RefreshGo false 1010 0

unfoldable pub offset_lives : List Case
offset_lives =
    -- an offset serves for 30,000 ticks from the s2 that it was reckoned with; then 9, and a show is fail-safe
    row (measuring (requested started 36003 K.RefreshMo true 31004 0))
    (0 ∷ 0xFD950007 ∷ 31004 ∷ 0 ∷ lasting_of 1 1 6003 36003 281474976705657 31004 ++ zero_word)
    ∷ row (measuring (requested started 36004 K.RefreshMo true 31005 0))
    (only 9 (row_of Terminate ∷ 6004 ∷ 0 ∷ 0 ∷ 6003 ∷ 0 ∷ 6003 ∷ 281474976705657 ∷ 1004 ∷ []))
    ∷ row (aging valued 36003) (0 ∷ 0x01020304 ∷ 20014 ∷ [])
    ∷ row (aging valued 36004) (1 ∷ 0 ∷ 0 ∷ [])
    -- S-RefreshMO alone does not renew it
    ∷ row (measuring (requested (requested started 36003 K.RefreshMo true 31004 0).endpoint 36004 K.RefreshGo true 31005
    0)) (only 9 (row_of Terminate ∷ 6004 ∷ 1 ∷ 1 ∷ 6003 ∷ 0 ∷ 36003 ∷ 281474976705657 ∷ 31004 ∷ []))
    -- S-RefreshGO does, from its s2 of 16,002; the value's age at acceptance stays, and the ticks since count on
    ∷ row (aging valued_anew 16060) (0 ∷ 0x01020304 ∷ 71 ∷ [])
    ∷ row (aging valued_anew 46002) (0 ∷ 0x01020304 ∷ 30013 ∷ [])
    ∷ row (aging valued_anew 46003) (1 ∷ 0 ∷ 0 ∷ [])
    -- in another connection's call it ends silently; a master's has no such end
    ∷ row (measurement_in (endpoint_at (deliver_in (alone started) 36004 248 []).lent 0))
    (row_of Terminate ∷ 6004 ∷ 0 ∷ 0 ∷ 6003 ∷ 0 ∷ 6003 ∷ 281474976705657 ∷ 1004 ∷ [])
    ∷ row (measurement_in (endpoint_at (deliver_in (alone entered) 40000 248 []).lent 0)) resting
    -- S-RefreshGO of setup, R being longer, is taken; the next reading ends the connection, the same one too
    ∷ row (calling patient) (0 ∷ 0xFE850007 ∷ 1010 ∷ row_of Refresh ∷ 0 ∷ [])
    ∷ row (calling (sent patient.endpoint 36005 word)) (9 ∷ 0 ∷ 0 ∷ row_of Terminate ∷ 0 ∷ [])
    ∷ []

unfoldable pub drift_allowances : List Case
drift_allowances =
    -- the slave counts 1,011 at 6,010: 4 ticks ahead 14, 3 ticks ahead age 0
    row (taking (refreshed started 6010 1015 0x01020304)) (14 ∷ row_of Refresh ∷ 6004 ∷ 1004 ∷ 0 ∷ 0 ∷ [])
    ∷ row (taking (refreshed started 6010 1014 0x01020304)) (0 ∷ row_of Refresh ∷ 6010 ∷ 1014 ∷ 0 ∷ 0x01020304 ∷ [])
    -- the master with R = 50, at 1,000: 54 ahead 14, 53 ahead age 0
    ∷ row (taking (refreshed entered 1000 1054 0x01020304)) (14 ∷ row_of Refresh ∷ 5 ∷ 0 ∷ 0 ∷ 0 ∷ [])
    ∷ row (taking (refreshed entered 1000 1053 0x01020304)) (0 ∷ row_of Refresh ∷ 1000 ∷ 1053 ∷ 0 ∷ 0x01020304 ∷ [])
    -- the highest clock reading: 2^48 − 131,073
    ∷ case (number_of (deliver_in (alone entered) 281474976579583 248 []).answer) 0
    ∷ case (number_of (deliver_in (alone entered) 281474976579584 248 []).answer) 1
    ∷ []

unfoldable pub measurement_forms : List Case
measurement_forms =
    -- S-RefreshMO and S-RefreshGO, requests, replies and replies with Error, with either Offset op seq
    case (form_of 0xFD000000) 0
    ∷ case (form_of 0xFD100000) 0
    ∷ case (form_of 0xFD840000) 0
    ∷ case (form_of 0xFD940000) 0
    ∷ case (form_of 0xFDB40000) 0
    ∷ case (form_of 0xFE100000) 0
    ∷ case (form_of 0xFE940000) 0
    -- in a session
    ∷ case (form_of 0xFD110007) 0
    ∷ case (form_of 0xFE950007) 0
    -- Busy in S-RefreshMO's reply, MO busy, an Application that is not Ack's: 7
    ∷ case (form_of 0xFDC40000) 7
    ∷ case (form_of 0xFD080000) 7
    ∷ case (form_of 0xFD140000) 7
    ∷ case (form_of 0xFD900000) 7
    -- Offset op seq 1 in S-RefreshReady and in any other Cmd: 7
    ∷ case (form_of 0xFC100000) 7
    ∷ case (form_of 0xFC940000) 7
    ∷ case (form_of 0xFF140000) 7
    ∷ case (form_of 0xF9100000) 7
    ∷ case (form_of 0x00100000) 7
    ∷ []

abbrev pub measurement_cases : List Case
measurement_cases =
    measurements ++ (measurement_drops ++ (measurement_replies ++ (measurement_requests ++ (measurement_refusals
    ++ (offset_lives ++ (drift_allowances ++ measurement_forms))))))
