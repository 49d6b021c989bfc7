-- The cases of session numbers (document 02, note 8): what the definitions give beside what the paper states.
use Rattle.std.specs.Prelude.{Bool, true, false, List, [], ◌∷◌, ◌++◌, ℕ, suc}
use Rattle.std.specs.Prelude.{None, Option, Some}
use Rattle.frame.specs.declared.Command.{Command}
use Rattle.frame.specs.declared.Command.TheVariants as K
use Rattle.endpoint.specs.declared.State.{State}
use Rattle.endpoint.specs.declared.State.TheVariants.{Close, Starting, EstablishPending, Establish, ParamVerify}
use Rattle.endpoint.specs.declared.State.TheVariants.{FuncRunning, RefreshPending, Refresh, Terminate}
use Rattle.endpoint.specs.declared.State.TheVariants.{TerminateMore}
use Rattle.endpoint.specs.Endpoint.{Endpoint}
use Rattle.endpoint.specs.Answers.{number_of}
use Rattle.endpoint.specs.Table.{row_of}
use Rattle.endpoint.specs.Updates.{with_accepted, with_pending}
use Rattle.transitions.specs.ByCall.{fresh_of}
use Rattle.steps.specs.Frames.{setup_data, sent_fields, ack_fields}
use Rattle.steps.specs.Calls.{Outcome, start_of, restart_of, send_of, stop_of}
use Rattle.steps.specs.Deliveries.{deliver_of}
use Rattle.gateway.specs.Tables.{blank_record, endpoint_at}
use Rattle.gateway.specs.Loading.{loaded_of}
use Rattle.cases.specs.Cases.{Case, row, case, list_of, master_settings, slave_settings, seven, endpoint_in, cid}
use Rattle.cases.specs.Cases.{word, zero_word, stamp_of, pending_of, control_in, calling, form_of}

-- ---- what a row asks
-- a session number, counted from 1; 0 for none
abbrev numbered : Option ℕ → ℕ
numbered None = 0
numbered (Some n) = suc n

-- its number; CTRL written; the state, the timer's start, the last timestamp accepted, the pending request and the
-- session number that it leaves
abbrev leaving : Outcome → List ℕ
leaving o =
    number_of o.answer ∷ control_in o.writes ∷ row_of o.endpoint.state ∷ o.endpoint.since
    ∷ stamp_of o.endpoint.timestamps.accepted ∷ pending_of o.endpoint.setup.pending
    ∷ numbered o.endpoint.session ∷ []

-- ---- at a slave whose number is 7
-- in a state since 6,000, with 5 the last timestamp accepted
abbrev slave_in : State → Endpoint
slave_in state = with_accepted 5 (endpoint_in slave_settings state 6000 5 0)

-- a frame at 6,010 with this timestamp, session number and S-Data
abbrev framed : Endpoint → Command → ℕ → Option ℕ → List ℕ → Outcome
framed e k stamp n body = deliver_of e 6010 (sent_fields k false false n cid stamp 0) body

-- a request with the data that it compares, of timestamp 10
abbrev asked : State → Command → Option ℕ → List ℕ
asked state k n = leaving (framed (slave_in state) k 10 n (setup_data slave_settings k))

-- nothing is written and nothing changes
abbrev stays : ℕ → State → List ℕ
stays number state = number ∷ 0 ∷ row_of state ∷ 6000 ∷ 5 ∷ 0 ∷ 8 ∷ []

-- its reply
abbrev taken : ℕ → State → List ℕ
taken control state = 0 ∷ control ∷ row_of state ∷ 6010 ∷ 10 ∷ 0 ∷ 8 ∷ []

abbrev eight : Option ℕ
eight = Some 8

-- S-Connect at a slave that was loaded with number 0
abbrev zeroth : Outcome
zeroth = framed (fresh_of slave_settings 0) K.Connect 10 None word

unfoldable pub sessions_at_slave : List Case
sessions_at_slave =
    -- an S-Connect request carries none; every reply carries the number
    row (asked Close K.Connect None) (taken 0x00850007 EstablishPending)
    ∷ row (asked EstablishPending K.Connect None) (taken 0x00850007 EstablishPending)
    ∷ row (asked EstablishPending K.ConfirmNetwork seven) (taken 0x01850007 Establish)
    ∷ row (asked ParamVerify K.RefreshReady seven) (taken 0xFC850007 RefreshPending)
    -- with Error too
    ∷ row (leaving (framed (slave_in Establish) K.VerifyStation 10 seven word))
    (16 ∷ 0x02A50007 ∷ row_of Terminate ∷ 6000 ∷ 10 ∷ 0 ∷ 8 ∷ [])
    -- another number, and none, in each command that the state takes
    ∷ row (asked EstablishPending K.ConfirmNetwork eight) (stays 21 EstablishPending)
    ∷ row (asked EstablishPending K.ConfirmNetwork None) (stays 21 EstablishPending)
    ∷ row (asked Establish K.VerifyStation eight) (stays 21 Establish)
    ∷ row (asked ParamVerify K.InvokeFunc eight) (stays 21 ParamVerify)
    ∷ row (asked ParamVerify K.RefreshReady eight) (stays 21 ParamVerify)
    ∷ row (asked RefreshPending K.RefreshGo eight) (stays 21 RefreshPending)
    ∷ row (asked Refresh K.Refresh eight) (stays 21 Refresh)
    ∷ row (asked Refresh K.Refresh None) (stays 21 Refresh)
    -- S-Disconnect likewise; with the number it ends the connection, and the number stays
    ∷ row (asked FuncRunning K.Disconnect None) (stays 21 FuncRunning)
    ∷ row (asked RefreshPending K.Disconnect None) (stays 21 RefreshPending)
    ∷ row (asked Refresh K.Disconnect eight) (stays 21 Refresh)
    ∷ row (asked Refresh K.Disconnect seven) (0 ∷ 0 ∷ row_of Terminate ∷ 6000 ∷ 10 ∷ 0 ∷ 8 ∷ [])
    -- 21 after 11: in a state that does not take it, S-ReadErrorInfo without a record, S-WriteErrorInfo where none
    -- follows
    ∷ row (asked Refresh K.ConfirmNetwork eight) (stays 11 Refresh)
    ∷ row (asked ParamVerify K.ReadErrorInfo eight) (stays 11 ParamVerify)
    ∷ row (asked Terminate K.WriteErrorInfo eight) (stays 11 Terminate)
    -- and before 20, 12, 13 and 16; also of S-WriteErrorInfo in Terminate where more follow
    ∷ row (asked ParamVerify K.WriteErrorInfo eight) (stays 21 ParamVerify)
    ∷ row (asked TerminateMore K.WriteErrorInfo eight) (stays 21 TerminateMore)
    ∷ row (leaving (framed (slave_in EstablishPending) K.ConfirmNetwork 10 eight word)) (stays 21 EstablishPending)
    ∷ row (leaving (framed (slave_in Establish) K.VerifyStation 5 eight word)) (stays 21 Establish)
    ∷ row (leaving (framed (slave_in Refresh) K.Refresh 5 eight (word ++ word))) (stays 21 Refresh)
    -- number 0 is a number
    ∷ row (leaving zeroth) (0 ∷ 0x00850000 ∷ row_of EstablishPending ∷ 6010 ∷ 10 ∷ 0 ∷ 1 ∷ [])
    ∷ row (leaving (framed zeroth.endpoint K.Disconnect 20 None zero_word))
    (21 ∷ 0 ∷ row_of EstablishPending ∷ 6010 ∷ 10 ∷ 0 ∷ 1 ∷ [])
    -- a restart gives another, which the next reply carries; a refused one gives none
    ∷ row (leaving (restart_of (slave_in Terminate) 8)) (0 ∷ 0 ∷ row_of Close ∷ 6000 ∷ 5 ∷ 0 ∷ 9 ∷ [])
    ∷ row (leaving (framed (restart_of (slave_in TerminateMore) 8).endpoint K.Connect 10 None word))
    (0 ∷ 0x00850008 ∷ row_of EstablishPending ∷ 6010 ∷ 10 ∷ 0 ∷ 9 ∷ [])
    ∷ row (leaving (restart_of (slave_in Refresh) 8)) (stays 11 Refresh)
    ∷ []

-- ---- at a master
-- started at 1,000, its S-Connect sent at 1,010
abbrev started : Endpoint
started = (start_of (fresh_of master_settings 7) 1000).endpoint

abbrev connecting : Endpoint
connecting = (send_of started 1010 []).endpoint

-- a reply to it at 1,030, with this timestamp and session number
abbrev connected : Bool → ℕ → Option ℕ → Outcome
connected error stamp n = deliver_of connecting 1030 (ack_fields K.Connect false error false n cid stamp) word

-- a master in a state since 1,000 whose number is 7, with a request of 1,000 pending; a reply at 1,030
abbrev replied : Command → State → Option ℕ → Outcome
replied k state n =
    deliver_of (with_pending (Some 1000) (endpoint_in master_settings state 1000 5 0)) 1030
    (ack_fields k false false false n cid 1000) (setup_data master_settings k)

-- a value at 1,030 at a master in Refresh
abbrev valued : Option ℕ → Outcome
valued n = deliver_of (endpoint_in master_settings Refresh 1000 5 0) 1030 (sent_fields K.Refresh false true n cid 1020 0) word

unfoldable pub sessions_at_master : List Case
sessions_at_master =
    -- its S-Connect request carries none
    row (calling (send_of started 1010 [])) (0 ∷ 0x00000000 ∷ 1010 ∷ row_of Starting ∷ 1 ∷ [])
    -- the reply has to bring one, whichever it is; it is kept when the reply is accepted, and not where 13 or 16 refuses it
    ∷ row (leaving (connected false 1010 None)) (21 ∷ 0 ∷ row_of Starting ∷ 1010 ∷ 0 ∷ 1010 ∷ 0 ∷ [])
    ∷ row (leaving (connected false 1010 (Some 9))) (0 ∷ 0 ∷ row_of EstablishPending ∷ 1030 ∷ 0 ∷ 0 ∷ 10 ∷ [])
    ∷ row (leaving (connected false 1010 (Some 0))) (0 ∷ 0 ∷ row_of EstablishPending ∷ 1030 ∷ 0 ∷ 0 ∷ 1 ∷ [])
    ∷ row (leaving (connected false 1009 (Some 9))) (13 ∷ 0 ∷ row_of Starting ∷ 1010 ∷ 0 ∷ 1010 ∷ 0 ∷ [])
    ∷ row (leaving (connected true 1010 (Some 9))) (16 ∷ 0 ∷ row_of Terminate ∷ 1010 ∷ 0 ∷ 1010 ∷ 0 ∷ [])
    -- later frames carry it; S-Disconnect before there is one does not
    ∷ row (calling (send_of (connected false 1010 (Some 9)).endpoint 1040 []))
    (0 ∷ 0x01010009 ∷ 1040 ∷ row_of EstablishPending ∷ 2 ∷ [])
    ∷ row (calling (send_of (endpoint_in master_settings Refresh 1000 5 0) 1040 word))
    (0 ∷ 0xFF010007 ∷ 1040 ∷ row_of Refresh ∷ 0 ∷ [])
    ∷ row (calling (stop_of (connected false 1010 None).endpoint 1040)) (0 ∷ 0xF9000000 ∷ 1040 ∷ row_of Terminate ∷ 1 ∷ [])
    ∷ row (calling (stop_of (connected false 1010 (Some 9)).endpoint 1040))
    (0 ∷ 0xF9010009 ∷ 1040 ∷ row_of Terminate ∷ 1 ∷ [])
    -- another number in any other reply and in a value, or none
    ∷ row (leaving (replied K.ConfirmNetwork EstablishPending eight))
    (21 ∷ 0 ∷ row_of EstablishPending ∷ 1000 ∷ 0 ∷ 1000 ∷ 8 ∷ [])
    ∷ row (leaving (replied K.RefreshReady ParamVerify None)) (21 ∷ 0 ∷ row_of ParamVerify ∷ 1000 ∷ 0 ∷ 1000 ∷ 8 ∷ [])
    ∷ row (leaving (replied K.RefreshReady ParamVerify seven)) (0 ∷ 0 ∷ row_of RefreshPending ∷ 1030 ∷ 0 ∷ 0 ∷ 8 ∷ [])
    ∷ row (leaving (valued eight)) (21 ∷ 0 ∷ row_of Refresh ∷ 1000 ∷ 0 ∷ 0 ∷ 8 ∷ [])
    ∷ row (leaving (valued None)) (21 ∷ 0 ∷ row_of Refresh ∷ 1000 ∷ 0 ∷ 0 ∷ 8 ∷ [])
    ∷ row (leaving (valued seven)) (0 ∷ 0 ∷ row_of Refresh ∷ 1030 ∷ 1020 ∷ 0 ∷ 8 ∷ [])
    -- stop keeps it, a restart forgets it, whichever number it is handed
    ∷ row (leaving (stop_of (endpoint_in master_settings Refresh 1000 5 0) 1040))
    (0 ∷ 0xF9010007 ∷ row_of Terminate ∷ 1000 ∷ 0 ∷ 0 ∷ 8 ∷ [])
    ∷ row (leaving (restart_of (endpoint_in master_settings Terminate 1000 5 0) 8))
    (0 ∷ 0 ∷ row_of Close ∷ 1000 ∷ 0 ∷ 0 ∷ 0 ∷ [])
    ∷ []

-- ---- loading and the form
-- the session number of a connection that is loaded with this one
abbrev loaded_with : ℕ → ℕ → ℕ
loaded_with role n = numbered (endpoint_at (loaded_of n (list_of role) (blank_record ∷ [])).lent 0).session

unfoldable pub session_forms : List Case
session_forms =
    -- at a slave the number that is given, at a master none
    case (loaded_with 0x30000421 7) 8
    ∷ case (loaded_with 0x30000421 65535) 65536
    ∷ case (loaded_with 0x30000021 7) 0
    -- an S-Connect request with the active bit, and a Sub CID other than 0 without it, are of no form
    ∷ case (form_of 0x00010007) 7
    ∷ case (form_of 0x00010000) 7
    ∷ case (form_of 0x00000007) 7
    ∷ case (form_of 0xFF040007) 7
    -- any other frame may carry one or none
    ∷ case (form_of 0x00850007) 0
    ∷ case (form_of 0x00840000) 0
    ∷ case (form_of 0xFF050000) 0
    ∷ case (form_of 0xFF01FFFF) 0
    ∷ case (form_of 0xF9000000) 0
    ∷ []

abbrev pub session_cases : List Case
session_cases = sessions_at_slave ++ (sessions_at_master ++ session_forms)
