-- The cases of document 02's note 6: error records, S-ReadErrorInfo and S-WriteErrorInfo.
use Rattle.std.specs.Prelude.{Bool, true, false, cond, List, [], ◌∷◌, ◌++◌, ℕ, ◌+◌, length}
use Rattle.std.specs.Prelude.{Ok}
use Rattle.frame.specs.Reading.{frame_with}
use Rattle.errors.specs.Reading.{is_record}
use Rattle.frame.specs.declared.Command.{Command}
use Rattle.frame.specs.declared.Command.TheVariants as K
use Rattle.words.specs.Words.{word_at, word_bytes}
use Rattle.endpoint.specs.declared.State.{State}
use Rattle.endpoint.specs.declared.State.TheVariants.{Close, Starting, EstablishPending, Establish, ParamVerify}
use Rattle.endpoint.specs.declared.State.TheVariants.{FuncRunning, RefreshPending, Refresh, Terminate, TerminateMore}
use Rattle.endpoint.specs.Endpoint.{Endpoint}
use Rattle.endpoint.specs.Answers.{number_of}
use Rattle.endpoint.specs.Table.{row_of}
use Rattle.endpoint.specs.Updates.{in_state, with_requests, with_not_ready}
use Rattle.steps.specs.Frames.{bytes_of, words_bytes, session_with, sent_fields, ack_fields}
use Rattle.steps.specs.Calls.{Outcome, start_of, restart_of, set_record_of, clear_record_of, invoke_of, read_error_of, write_error_of}
use Rattle.steps.specs.Calls.{send_of, stop_of, is_fail_safe}
use Rattle.steps.specs.Deliveries.{deliver_of}
use Rattle.records.specs.Records.{queue_number, record_of}
use Rattle.gateway.specs.Tables.{Lent, endpoint_at}
use Rattle.gateway.specs.Loading.{loaded_of}
use Rattle.gateway.specs.Calls.{Result, stop_in, restart_in, set_record_in, clear_record_in, read_error_in, write_error_in, by_reading}
use Rattle.cases.specs.Cases.{Case, row, case, list_of, slave_settings, endpoint_in, cid, word, zero_word, pending_of}
use Rattle.cases.specs.Cases.{ordinal_of, data_in, calling, replying, alone, master, waiting, commanded}
use Rattle.cases.specs.Cases.{seven, answered_by, form_of}

-- ---- records
-- eight bytes of date and time, details, and the word 'more follows'
abbrev record_bytes : List ℕ → List ℕ → ℕ → List ℕ
record_bytes date details more = date ++ (word_bytes (length details) ++ (words_bytes details ++ word_bytes more))

-- of a day: year in two bytes, month, day; at 10:41:05, day of week 2
abbrev day_of : ℕ → ℕ → ℕ → ℕ → List ℕ
day_of century year month day =
    record_bytes (century ∷ year ∷ month ∷ day ∷ 0x10 ∷ 0x41 ∷ 0x05 ∷ 0x02 ∷ []) [] 0

-- of a time on 17 November 2026: hour, minute, second, day of week
abbrev time_of : ℕ → ℕ → ℕ → ℕ → List ℕ
time_of hour minute second weekday =
    record_bytes (0x20 ∷ 0x26 ∷ 0x11 ∷ 0x17 ∷ hour ∷ minute ∷ second ∷ weekday ∷ []) [] 0

abbrev date : List ℕ
date = 0x20 ∷ 0x26 ∷ 0x11 ∷ 0x17 ∷ 0x10 ∷ 0x41 ∷ 0x05 ∷ 0x02 ∷ []

-- of six words: the last one, one of other details, one after which more follow
abbrev fault : List ℕ
fault = record_bytes date (0xE1 ∷ 0xE2 ∷ []) 0

abbrev another : List ℕ
another = record_bytes date (0xE1 ∷ 0xE3 ∷ []) 0

abbrev followed : List ℕ
followed = record_bytes date (0xE1 ∷ 0xE2 ∷ []) 1

-- of four words, and of fourteen
abbrev shortest : List ℕ
shortest = record_bytes date [] 0

abbrev longest : List ℕ
longest = record_bytes date (1 ∷ 2 ∷ 3 ∷ 4 ∷ 5 ∷ 6 ∷ 7 ∷ 8 ∷ 9 ∷ 10 ∷ []) 1

-- six words that are none: their flag is 2
abbrev no_record : List ℕ
no_record = record_bytes date (0xE1 ∷ 0xE2 ∷ []) 2

-- 1 for a record, else 20
abbrev reads : List ℕ → Case
reads b = case (cond (is_record b) 1 20) 1

abbrev refuses : List ℕ → Case
refuses b = case (cond (is_record b) 1 20) 20

unfoldable pub records : List Case
records =
    -- counts of 0 to 10: 16 to 56 bytes; more follow or not
    reads shortest ∷ reads fault ∷ reads followed ∷ reads longest
    -- a count of 11, a flag of 2, and lengths that do not go with the count
    ∷ refuses (record_bytes date (1 ∷ 2 ∷ 3 ∷ 4 ∷ 5 ∷ 6 ∷ 7 ∷ 8 ∷ 9 ∷ 10 ∷ 11 ∷ []) 0) ∷ refuses no_record
    ∷ refuses (fault ++ zero_word) ∷ refuses (shortest ++ (0 ∷ [])) ∷ refuses date ∷ refuses []
    -- hours to 23, minutes and seconds to 59, day of week 0 to 6
    ∷ reads (time_of 0x23 0x59 0x59 0x06) ∷ reads (time_of 0x00 0x00 0x00 0x00)
    ∷ refuses (time_of 0x24 0x00 0x00 0x00) ∷ refuses (time_of 0x00 0x60 0x00 0x00)
    ∷ refuses (time_of 0x00 0x00 0x60 0x00) ∷ refuses (time_of 0x00 0x00 0x00 0x07)
    -- two decimal digits a byte, in every byte
    ∷ refuses (day_of 0x1A 0x26 0x11 0x17) ∷ refuses (day_of 0xA0 0x26 0x11 0x17) ∷ refuses (day_of 0x20 0x2A 0x11 0x17)
    ∷ refuses (day_of 0x20 0x26 0x0A 0x17) ∷ refuses (day_of 0x20 0x26 0x11 0x1A) ∷ refuses (time_of 0x0A 0x00 0x00 0x00)
    ∷ refuses (time_of 0x00 0x0A 0x00 0x00) ∷ refuses (time_of 0x00 0x00 0x0A 0x00)
    ∷ []

unfoldable pub days : List Case
days =
    -- any year of four digits
    reads (day_of 0x00 0x00 0x01 0x01) ∷ reads (day_of 0x99 0x99 0x12 0x31)
    -- months 1 to 12, days from 1 to the month's end
    ∷ refuses (day_of 0x20 0x26 0x00 0x01) ∷ refuses (day_of 0x20 0x26 0x13 0x01) ∷ refuses (day_of 0x20 0x26 0x01 0x00)
    ∷ reads (day_of 0x20 0x26 0x01 0x31) ∷ refuses (day_of 0x20 0x26 0x01 0x32)
    ∷ reads (day_of 0x20 0x26 0x02 0x28) ∷ refuses (day_of 0x20 0x26 0x02 0x29)
    ∷ reads (day_of 0x20 0x26 0x03 0x31) ∷ refuses (day_of 0x20 0x26 0x03 0x32)
    ∷ reads (day_of 0x20 0x26 0x04 0x30) ∷ refuses (day_of 0x20 0x26 0x04 0x31)
    ∷ reads (day_of 0x20 0x26 0x05 0x31) ∷ refuses (day_of 0x20 0x26 0x05 0x32)
    ∷ reads (day_of 0x20 0x26 0x06 0x30) ∷ refuses (day_of 0x20 0x26 0x06 0x31)
    ∷ reads (day_of 0x20 0x26 0x07 0x31) ∷ refuses (day_of 0x20 0x26 0x07 0x32)
    ∷ reads (day_of 0x20 0x26 0x08 0x31) ∷ refuses (day_of 0x20 0x26 0x08 0x32)
    ∷ reads (day_of 0x20 0x26 0x09 0x30) ∷ refuses (day_of 0x20 0x26 0x09 0x31)
    ∷ reads (day_of 0x20 0x26 0x10 0x31) ∷ refuses (day_of 0x20 0x26 0x10 0x32)
    ∷ reads (day_of 0x20 0x26 0x11 0x30) ∷ refuses (day_of 0x20 0x26 0x11 0x31)
    ∷ reads (day_of 0x20 0x26 0x12 0x31) ∷ refuses (day_of 0x20 0x26 0x12 0x32)
    -- the Gregorian rule: 29 February in 2024, 2000, 0400 and 0000, not in 1900, 2100 and 0100
    ∷ reads (day_of 0x20 0x24 0x02 0x29) ∷ reads (day_of 0x20 0x00 0x02 0x29) ∷ reads (day_of 0x04 0x00 0x02 0x29)
    ∷ reads (day_of 0x00 0x00 0x02 0x29) ∷ refuses (day_of 0x19 0x00 0x02 0x29) ∷ refuses (day_of 0x21 0x00 0x02 0x29)
    ∷ refuses (day_of 0x01 0x00 0x02 0x29)
    ∷ []

-- ---- at a station
-- in a state since 6,000, with an s2 of 5, and this record set; of no bytes none is
abbrev station : State → List ℕ → Endpoint
station state b = (set_record_of (endpoint_in slave_settings state 6000 5 0) b).endpoint

-- a request there, with this timestamp, at 6,030 and as many ticks
abbrev asked : Endpoint → Command → ℕ → List ℕ → Outcome
asked e k stamp body = deliver_of e (6030 + stamp) (sent_fields k false false (session_with e k) cid stamp 0) body

-- what replying tells; then how many words of a record are set, and the reply's S-Data
abbrev reporting : Outcome → List ℕ
reporting o = replying o ++ (o.endpoint.errorinfo.count ∷ data_in o.writes)

abbrev read_at : State → List ℕ → List ℕ
read_at state b = reporting (asked (station state b) K.ReadErrorInfo 10 zero_word)

unfoldable pub readings : List Case
readings =
    -- CTRL of request and reply; Busy in the reply: 7; Error in it passes the form
    case (form_of 0xFA000000) 0 ∷ case (form_of 0xFA840000) 0 ∷ case (form_of 0xFAC40000) 7 ∷ case (form_of 0xFAA40000) 0
    ∷ case (form_of 0xFB000000) 0 ∷ case (form_of 0xFB840000) 0 ∷ case (form_of 0xFBC40000) 7 ∷ case (form_of 0xFBA40000) 0
    -- in ParamVerify the reply is the record that is set; the state stays, the timer runs from the reply, the timestamp
    -- counts as accepted, and the record stays set
    ∷ row (read_at ParamVerify fault) (0 ∷ 0xFA850007 ∷ 10 ∷ row_of ParamVerify ∷ 6040 ∷ 5 ∷ 10 ∷ 6 ∷ fault)
    ∷ row (read_at ParamVerify longest) (0 ∷ 0xFA850007 ∷ 10 ∷ row_of ParamVerify ∷ 6040 ∷ 5 ∷ 10 ∷ 14 ∷ longest)
    -- none set: 11, before 12
    ∷ row (read_at ParamVerify []) (11 ∷ 0 ∷ 0 ∷ row_of ParamVerify ∷ 6000 ∷ 5 ∷ 0 ∷ 0 ∷ [])
    ∷ row (reporting (asked (station ParamVerify []) K.ReadErrorInfo 10 []))
    (11 ∷ 0 ∷ 0 ∷ row_of ParamVerify ∷ 6000 ∷ 5 ∷ 0 ∷ 0 ∷ [])
    -- in other states: 11, in FuncRunning and Terminate too
    ∷ row (read_at Close fault) (11 ∷ 0 ∷ 0 ∷ row_of Close ∷ 6000 ∷ 5 ∷ 0 ∷ 6 ∷ [])
    ∷ row (read_at EstablishPending fault) (11 ∷ 0 ∷ 0 ∷ row_of EstablishPending ∷ 6000 ∷ 5 ∷ 0 ∷ 6 ∷ [])
    ∷ row (read_at Establish fault) (11 ∷ 0 ∷ 0 ∷ row_of Establish ∷ 6000 ∷ 5 ∷ 0 ∷ 6 ∷ [])
    ∷ row (read_at FuncRunning fault) (11 ∷ 0 ∷ 0 ∷ row_of FuncRunning ∷ 6000 ∷ 5 ∷ 0 ∷ 6 ∷ [])
    ∷ row (read_at RefreshPending fault) (11 ∷ 0 ∷ 0 ∷ row_of RefreshPending ∷ 6000 ∷ 5 ∷ 0 ∷ 6 ∷ [])
    ∷ row (read_at Refresh fault) (11 ∷ 0 ∷ 0 ∷ row_of Refresh ∷ 6000 ∷ 5 ∷ 0 ∷ 6 ∷ [])
    ∷ row (read_at Terminate fault) (11 ∷ 0 ∷ 0 ∷ row_of Terminate ∷ 6000 ∷ 5 ∷ 0 ∷ 6 ∷ [])
    ∷ row (read_at TerminateMore fault) (11 ∷ 0 ∷ 0 ∷ row_of TerminateMore ∷ 6000 ∷ 5 ∷ 0 ∷ 6 ∷ [])
    -- another length: 12; another word: 16, with the request's own word, and Terminate
    ∷ row (reporting (asked (station ParamVerify fault) K.ReadErrorInfo 10 fault))
    (12 ∷ 0 ∷ 0 ∷ row_of ParamVerify ∷ 6000 ∷ 5 ∷ 0 ∷ 6 ∷ [])
    ∷ row (reporting (asked (station ParamVerify fault) K.ReadErrorInfo 10 word))
    (16 ∷ 0xFAA50007 ∷ 10 ∷ row_of Terminate ∷ 6000 ∷ 5 ∷ 10 ∷ 6 ∷ word)
    -- the same frame again: 13; 'not ready' has no say
    ∷ row (reporting (asked (asked (station ParamVerify fault) K.ReadErrorInfo 10 zero_word).endpoint K.ReadErrorInfo 10
    zero_word)) (13 ∷ 0 ∷ 0 ∷ row_of ParamVerify ∷ 6040 ∷ 5 ∷ 10 ∷ 6 ∷ [])
    ∷ row (reporting (asked (with_not_ready true (station ParamVerify fault)) K.ReadErrorInfo 10 zero_word))
    (0 ∷ 0xFA850007 ∷ 10 ∷ row_of ParamVerify ∷ 6040 ∷ 5 ∷ 10 ∷ 6 ∷ fault)
    ∷ []

-- a record is written there; what stands afterwards where one was set before is that one
abbrev written : State → List ℕ → Outcome
written state b = asked (station state shortest) K.WriteErrorInfo 10 b

abbrev taken : State → List ℕ
taken state = reporting (written state fault)

abbrev ends_in : State → List ℕ → List ℕ
ends_in state b = 0 ∷ 0xFB850007 ∷ 10 ∷ row_of state ∷ 6000 ∷ 5 ∷ 10 ∷ 4 ∷ b

abbrev out_of_turn : State → List ℕ
out_of_turn state = 11 ∷ 0 ∷ 0 ∷ row_of state ∷ 6000 ∷ 5 ∷ 0 ∷ 4 ∷ []

-- after a record with which more follow, at 6,040
abbrev reported : Endpoint
reported = (written ParamVerify followed).endpoint

unfoldable pub writings : List Case
writings =
    -- in every setup state the reply repeats it, and the connection ends; it is not kept
    row (taken EstablishPending) (ends_in Terminate fault)
    ∷ row (taken Establish) (ends_in Terminate fault)
    ∷ row (taken ParamVerify) (ends_in Terminate fault)
    ∷ row (taken FuncRunning) (ends_in Terminate fault)
    ∷ row (taken RefreshPending) (ends_in Terminate fault)
    ∷ row (reporting (asked (with_not_ready true (station ParamVerify shortest)) K.WriteErrorInfo 10 fault))
    (ends_in Terminate fault)
    -- in Close, Refresh and Terminate: 11
    ∷ row (taken Close) (out_of_turn Close)
    ∷ row (taken Refresh) (out_of_turn Refresh)
    ∷ row (taken Terminate) (out_of_turn Terminate)
    -- no record: 20, before 13, and the connection stays; a record with an old timestamp: 13
    ∷ row (reporting (written ParamVerify no_record)) (20 ∷ 0 ∷ 0 ∷ row_of ParamVerify ∷ 6000 ∷ 5 ∷ 0 ∷ 4 ∷ [])
    ∷ row (reporting (asked (asked (station ParamVerify shortest) K.ReadErrorInfo 10 zero_word).endpoint K.WriteErrorInfo 10
    no_record)) (20 ∷ 0 ∷ 0 ∷ row_of ParamVerify ∷ 6040 ∷ 5 ∷ 10 ∷ 4 ∷ [])
    ∷ row (reporting (asked (asked (station ParamVerify shortest) K.ReadErrorInfo 10 zero_word).endpoint K.WriteErrorInfo 10
    fault)) (13 ∷ 0 ∷ 0 ∷ row_of ParamVerify ∷ 6040 ∷ 5 ∷ 10 ∷ 4 ∷ [])
    -- while more follow, Terminate takes a further one, and the last closes it
    ∷ row (reporting (written RefreshPending followed)) (ends_in TerminateMore followed)
    ∷ row (reporting (asked reported K.WriteErrorInfo 20 longest))
    (0 ∷ 0xFB850007 ∷ 20 ∷ row_of TerminateMore ∷ 6000 ∷ 5 ∷ 20 ∷ 4 ∷ longest)
    ∷ row (reporting (asked reported K.WriteErrorInfo 20 fault))
    (0 ∷ 0xFB850007 ∷ 20 ∷ row_of Terminate ∷ 6000 ∷ 5 ∷ 20 ∷ 4 ∷ fault)
    ∷ row (reporting (asked (asked reported K.WriteErrorInfo 20 fault).endpoint K.WriteErrorInfo 30 fault))
    (11 ∷ 0 ∷ 0 ∷ row_of Terminate ∷ 6000 ∷ 5 ∷ 20 ∷ 4 ∷ [])
    -- a refused one changes nothing: more follow still
    ∷ row (reporting (asked reported K.WriteErrorInfo 10 fault))
    (13 ∷ 0 ∷ 0 ∷ row_of TerminateMore ∷ 6000 ∷ 5 ∷ 10 ∷ 4 ∷ [])
    ∷ row (reporting (asked reported K.WriteErrorInfo 20 no_record))
    (20 ∷ 0 ∷ 0 ∷ row_of TerminateMore ∷ 6000 ∷ 5 ∷ 10 ∷ 4 ∷ [])
    -- no other command is taken there, nor stop or send; it shows fail-safe; restart leads to Close and forgets that more
    -- follow
    ∷ row (reporting (asked reported K.Connect 20 word)) (11 ∷ 0 ∷ 0 ∷ row_of TerminateMore ∷ 6000 ∷ 5 ∷ 10 ∷ 4 ∷ [])
    ∷ row (reporting (asked reported K.Disconnect 20 zero_word)) (11 ∷ 0 ∷ 0 ∷ row_of TerminateMore ∷ 6000 ∷ 5 ∷ 10 ∷ 4 ∷ [])
    ∷ row (calling (stop_of reported 6050)) (11 ∷ 0 ∷ 0 ∷ row_of TerminateMore ∷ 0 ∷ [])
    ∷ row (calling (send_of reported 6050 word)) (11 ∷ 0 ∷ 0 ∷ row_of TerminateMore ∷ 0 ∷ [])
    ∷ case (cond (is_fail_safe reported) 1 0) 1
    ∷ row (reporting (asked (restart_of reported 7).endpoint K.WriteErrorInfo 20 fault))
    (11 ∷ 0 ∷ 0 ∷ row_of Close ∷ 6000 ∷ 5 ∷ 10 ∷ 4 ∷ [])
    ∷ []

-- ---- what users hand over
-- the queue (2 S-ReadErrorInfo waits, 3 S-WriteErrorInfo does), how many words the error record has, and its last word
-- but one: its second detail, where it has six
abbrev handed : Endpoint → List ℕ
handed e = queue_number e.setup.queue ∷ e.errorinfo.count ∷ word_at e.errorinfo.bytes 16 ∷ []

-- a call of a gateway of this connection alone: its number, entry and count; the state, the timer's start and what is
-- handed over that it leaves
abbrev handing : Result → List ℕ
handing r =
    let e = endpoint_at r.lent 0 in
    number_of r.answer ∷ ordinal_of r.entry ∷ length (bytes_of r.writes) ∷ row_of e.state ∷ e.since
    ∷ handed e

abbrev setting : Endpoint → List ℕ → List ℕ
setting e b = handing (set_record_in (alone e) 6020 0 b)

abbrev reading : Endpoint → List ℕ
reading e = handing (read_error_in (alone e) 1020 0)

abbrev writing : Endpoint → List ℕ → List ℕ
writing e b = handing (write_error_in (alone e) 1020 0 b)

unfoldable pub user_records : List Case
user_records =
    -- a record is set in any state; a later one replaces it; the timer is not restarted
    row (setting (station Close []) fault) (0 ∷ 1 ∷ 0 ∷ row_of Close ∷ 6000 ∷ 0 ∷ 6 ∷ 0xE2 ∷ [])
    ∷ row (setting (station Refresh fault) another) (0 ∷ 1 ∷ 0 ∷ row_of Refresh ∷ 6000 ∷ 0 ∷ 6 ∷ 0xE3 ∷ [])
    ∷ row (setting (station ParamVerify fault) longest) (0 ∷ 1 ∷ 0 ∷ row_of ParamVerify ∷ 6000 ∷ 0 ∷ 14 ∷ 2 ∷ [])
    -- what is none: 20, and the one before stays; a master's: 11, before 20
    ∷ row (setting (station ParamVerify fault) no_record) (20 ∷ 1 ∷ 0 ∷ row_of ParamVerify ∷ 6000 ∷ 0 ∷ 6 ∷ 0xE2 ∷ [])
    ∷ row (setting (station ParamVerify fault) []) (20 ∷ 1 ∷ 0 ∷ row_of ParamVerify ∷ 6000 ∷ 0 ∷ 6 ∷ 0xE2 ∷ [])
    ∷ row (setting (master Close) no_record) (11 ∷ 1 ∷ 0 ∷ row_of Close ∷ 1000 ∷ 0 ∷ 0 ∷ 0 ∷ [])
    -- cleared, S-ReadErrorInfo finds none; to clear none is done all the same; a master's: 11
    ∷ row (reporting (asked (clear_record_of (station ParamVerify fault)).endpoint K.ReadErrorInfo 10 zero_word))
    (11 ∷ 0 ∷ 0 ∷ row_of ParamVerify ∷ 6000 ∷ 5 ∷ 0 ∷ 0 ∷ [])
    ∷ row (handing (clear_record_in (alone (station Close [])) 6020 0)) (0 ∷ 1 ∷ 0 ∷ row_of Close ∷ 6000 ∷ 0 ∷ 0 ∷ 0 ∷ [])
    ∷ row (handing (clear_record_in (alone (master Close)) 6020 0)) (11 ∷ 1 ∷ 0 ∷ row_of Close ∷ 1000 ∷ 0 ∷ 0 ∷ 0 ∷ [])
    -- it stays after stop, after an end by 9 and after restart; after loading it is unset
    ∷ row (handing (stop_in (alone (station ParamVerify fault)) 6020 248 0))
    (0 ∷ 1 ∷ 0 ∷ row_of Terminate ∷ 6000 ∷ 0 ∷ 6 ∷ 0xE2 ∷ [])
    ∷ row (handing (set_record_in (alone (station ParamVerify fault)) 6051 0 another))
    (9 ∷ 1 ∷ 0 ∷ row_of Terminate ∷ 6000 ∷ 0 ∷ 6 ∷ 0xE2 ∷ [])
    ∷ row (handing (restart_in (alone (station Terminate fault)) 6051 0 7))
    (0 ∷ 1 ∷ 0 ∷ row_of Close ∷ 6000 ∷ 0 ∷ 6 ∷ 0xE2 ∷ [])
    ∷ row (handed (endpoint_at (loaded_of 7 (list_of 0x30000421) (record_of (station Close fault) ∷ [])).lent 0))
    (0 ∷ 0 ∷ 0 ∷ [])
    ∷ []

-- ---- at a master
-- S-ReadErrorInfo waits, and S-WriteErrorInfo with the record of six words
abbrev to_read : State → Endpoint
to_read state = (read_error_of (master state)).endpoint

abbrev to_write : State → Endpoint
to_write state = (write_error_of (master state) fault).endpoint

-- S-InvokeFunc was sent at 1,010 and has its result
abbrev invoked : Endpoint
invoked = answered_by false (word_bytes 1 ++ word_bytes 2)

-- what calling tells; then the pending request and the queue, and the S-Data written
abbrev sending : Outcome → List ℕ
sending o =
    calling o
    ++ (pending_of o.endpoint.setup.pending ∷ queue_number o.endpoint.setup.queue ∷ data_in o.writes)

unfoldable pub queued : List Case
queued =
    -- each waits in setup, nothing is written, and the timer is not restarted
    row (reading (master Starting)) (0 ∷ 1 ∷ 0 ∷ row_of Starting ∷ 1000 ∷ 2 ∷ 0 ∷ 0 ∷ [])
    ∷ row (writing (master Establish) fault) (0 ∷ 1 ∷ 0 ∷ row_of Establish ∷ 1000 ∷ 3 ∷ 6 ∷ 0xE2 ∷ [])
    -- in Close, in Refresh and at a slave: 11, before 20
    ∷ row (reading (master Close)) (11 ∷ 1 ∷ 0 ∷ row_of Close ∷ 1000 ∷ 0 ∷ 0 ∷ 0 ∷ [])
    ∷ row (reading (master Refresh)) (11 ∷ 1 ∷ 0 ∷ row_of Refresh ∷ 1000 ∷ 0 ∷ 0 ∷ 0 ∷ [])
    ∷ row (reading (station ParamVerify fault)) (11 ∷ 1 ∷ 0 ∷ row_of ParamVerify ∷ 6000 ∷ 0 ∷ 6 ∷ 0xE2 ∷ [])
    ∷ row (writing (master Close) no_record) (11 ∷ 1 ∷ 0 ∷ row_of Close ∷ 1000 ∷ 0 ∷ 0 ∷ 0 ∷ [])
    ∷ row (writing (master Refresh) fault) (11 ∷ 1 ∷ 0 ∷ row_of Refresh ∷ 1000 ∷ 0 ∷ 0 ∷ 0 ∷ [])
    ∷ row (writing (station ParamVerify fault) another) (11 ∷ 1 ∷ 0 ∷ row_of ParamVerify ∷ 6000 ∷ 0 ∷ 6 ∷ 0xE2 ∷ [])
    -- what is no record: 20, and nothing is queued
    ∷ row (writing (master Establish) no_record) (20 ∷ 1 ∷ 0 ∷ row_of Establish ∷ 1000 ∷ 0 ∷ 0 ∷ 0 ∷ [])
    -- one queue for all three: 11 while one waits
    ∷ row (reading (waiting Establish)) (11 ∷ 1 ∷ 0 ∷ row_of Establish ∷ 1000 ∷ 1 ∷ 0 ∷ 0 ∷ [])
    ∷ row (writing (to_read Establish) fault) (11 ∷ 1 ∷ 0 ∷ row_of Establish ∷ 1000 ∷ 2 ∷ 0 ∷ 0 ∷ [])
    ∷ row (reading (to_write Establish)) (11 ∷ 1 ∷ 0 ∷ row_of Establish ∷ 1000 ∷ 3 ∷ 6 ∷ 0xE2 ∷ [])
    ∷ row (calling (invoke_of (to_write Establish) 7 [])) (11 ∷ 0 ∷ 0 ∷ row_of Establish ∷ 0 ∷ [])
    -- once S-InvokeFunc has gone since start, S-ReadErrorInfo: 11; S-WriteErrorInfo is queued, and after it still 11; a
    -- start forgets it
    ∷ row (reading invoked) (11 ∷ 1 ∷ 0 ∷ row_of ParamVerify ∷ 1030 ∷ 0 ∷ 0 ∷ 0 ∷ [])
    ∷ row (writing invoked fault) (0 ∷ 1 ∷ 0 ∷ row_of ParamVerify ∷ 1030 ∷ 3 ∷ 6 ∷ 0xE2 ∷ [])
    ∷ row (reading (start_of (in_state Close invoked) 1010).endpoint) (0 ∷ 1 ∷ 0 ∷ row_of Starting ∷ 1010 ∷ 2 ∷ 0 ∷ 0 ∷ [])
    -- once S-RefreshReady has gone: 11
    ∷ row (reading (send_of (master ParamVerify) 1010 []).endpoint) (11 ∷ 1 ∷ 0 ∷ row_of ParamVerify ∷ 1010 ∷ 4 ∷ 0 ∷ 0 ∷ [])
    ∷ row (writing (send_of (master ParamVerify) 1010 []).endpoint fault)
    (11 ∷ 1 ∷ 0 ∷ row_of ParamVerify ∷ 1010 ∷ 4 ∷ 0 ∷ 0 ∷ [])
    -- earlier requests go first; the send that would write S-RefreshReady writes it, and counts it
    ∷ row (sending (send_of (to_read Establish) 1010 []))
    (0 ∷ 0x02010007 ∷ 1010 ∷ row_of Establish ∷ 1 ∷ 1010 ∷ 2 ∷ word_bytes 7)
    ∷ row (sending (send_of (to_read ParamVerify) 1010 []))
    (0 ∷ 0xFA010007 ∷ 1010 ∷ row_of ParamVerify ∷ 1 ∷ 1010 ∷ 2 ∷ zero_word)
    ∷ row (sending (send_of (to_write ParamVerify) 1010 []))
    (0 ∷ 0xFB010007 ∷ 1010 ∷ row_of ParamVerify ∷ 1 ∷ 1010 ∷ 3 ∷ fault)
    -- dropped with the connection's end
    ∷ row (sending (send_of (with_requests 45 (to_write ParamVerify)) 1010 []))
    (19 ∷ 0 ∷ 0 ∷ row_of Terminate ∷ 45 ∷ 0 ∷ 0 ∷ [])
    ∷ []

-- the request sent at 1,010, and its reply at 1,030: Error, timestamp and S-Data
abbrev replied_to : Endpoint → Command → Bool → ℕ → List ℕ → Outcome
replied_to e k error stamp body = deliver_of (send_of e 1010 []).endpoint 1030 (ack_fields k false error false seven cid stamp) body

abbrev read_reply : Bool → ℕ → List ℕ → Outcome
read_reply error stamp body = replied_to (to_read ParamVerify) K.ReadErrorInfo error stamp body

abbrev write_reply : Bool → ℕ → List ℕ → Outcome
write_reply error stamp body = replied_to (to_write ParamVerify) K.WriteErrorInfo error stamp body

-- its number; the state, the timer's start, m2, the pending request and the queue that it leaves; what its user gets
abbrev hearing : Outcome → List ℕ
hearing o =
    let e = o.endpoint in
    number_of o.answer ∷ row_of e.state ∷ e.since ∷ e.setup.measured ∷ pending_of e.setup.pending
    ∷ queue_number e.setup.queue ∷ data_in o.writes

-- the same by a gateway: its number, entry and count, and the bytes written
abbrev delivered : List ℕ → List ℕ
delivered body =
    let r = by_reading (alone (send_of (to_read ParamVerify) 1010 []).endpoint) 1030 248 body
    (Ok (frame_with (ack_fields K.ReadErrorInfo false false false seven cid 1010) 0 (length body))) in
    number_of r.answer ∷ ordinal_of r.entry ∷ length (bytes_of r.writes) ∷ bytes_of r.writes

abbrev stays : ℕ → ℕ → List ℕ
stays number queue = number ∷ row_of ParamVerify ∷ 1010 ∷ 5 ∷ 1010 ∷ queue ∷ []

abbrev ends : List ℕ
ends = 16 ∷ row_of Terminate ∷ 1010 ∷ 5 ∷ 1010 ∷ 0 ∷ []

unfoldable pub read_replies : List Case
read_replies =
    -- the reply to S-ReadErrorInfo: a record of any length goes to the output; the setup does not advance, and nothing
    -- waits
    row (delivered fault) (0 ∷ 1 ∷ 24 ∷ fault)
    ∷ row (hearing (read_reply false 1010 fault)) (0 ∷ row_of ParamVerify ∷ 1030 ∷ 5 ∷ 0 ∷ 0 ∷ fault)
    ∷ row (hearing (read_reply false 1010 longest)) (0 ∷ row_of ParamVerify ∷ 1030 ∷ 5 ∷ 0 ∷ 0 ∷ longest)
    -- no record: 20, before 13 and 16, and the request stays pending; another timestamp: 13; Error with a record: 16
    ∷ row (delivered no_record) (20 ∷ 1 ∷ 0 ∷ [])
    ∷ row (hearing (read_reply false 1010 no_record)) (stays 20 2)
    ∷ row (hearing (read_reply false 1009 zero_word)) (stays 20 2)
    ∷ row (hearing (read_reply true 1010 zero_word)) (stays 20 2)
    ∷ row (hearing (read_reply false 1009 fault)) (stays 13 2)
    ∷ row (hearing (read_reply true 1010 fault)) ends
    -- after 20 a good reply is still taken; another command's reply: 11, before 20
    ∷ row (hearing (deliver_of (read_reply false 1010 no_record).endpoint 1040
    (ack_fields K.ReadErrorInfo false false false seven cid 1010) fault)) (0 ∷ row_of ParamVerify ∷ 1040 ∷ 5 ∷ 0 ∷ 0 ∷ fault)
    ∷ row (hearing (replied_to (to_read ParamVerify) K.WriteErrorInfo false 1010 no_record)) (stays 11 2)
    ∷ []

unfoldable pub write_replies : List Case
write_replies =
    -- the reply to S-WriteErrorInfo: compared, nothing is written, the setup does not advance, and nothing waits
    row (hearing (write_reply false 1010 fault)) (0 ∷ row_of ParamVerify ∷ 1030 ∷ 5 ∷ 0 ∷ 0 ∷ [])
    -- no record: 20, before 13; one of another length: 12, before 13; another timestamp: 13; another command's reply: 11
    ∷ row (hearing (write_reply false 1009 no_record)) (stays 20 3)
    ∷ row (hearing (write_reply false 1009 zero_word)) (stays 20 3)
    ∷ row (hearing (write_reply false 1009 shortest)) (stays 12 3)
    ∷ row (hearing (write_reply false 1009 fault)) (stays 13 3)
    ∷ row (hearing (replied_to (to_write ParamVerify) K.ReadErrorInfo false 1010 fault)) (stays 11 3)
    -- another record, or Error: 16
    ∷ row (hearing (write_reply false 1010 another)) ends
    ∷ row (hearing (write_reply true 1010 fault)) ends
    ∷ []

abbrev pub record_cases : List Case
record_cases = records ++ (days ++ (readings ++ (writings ++ (user_records ++ (queued ++ (read_replies ++ write_replies))))))
