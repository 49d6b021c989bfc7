-- Document 01's cases that are proved ("Cases at each edge", the rows marked P), and document 02's: what the
-- definitions give beside what the papers state.
use Rattle.std.specs.Prelude.{◌≡◌, Bool, true, false, not, cond, List, [], ◌∷◌, ◌++◌, map, ℕ, zero, suc, ◌+◌, ◌-◌, ◌/◌, ◌%◌, eqb, length, replicate}
use Rattle.std.specs.Prelude.{None, Ok, Option, Some}
use Rattle.frame.specs.Reading.{frame_with}
use Rattle.frame.specs.declared.Command.{Command}
use Rattle.frame.specs.declared.Command.TheVariants as K
use Rattle.frame.specs.declared.Fields.{Fields}
use Rattle.words.specs.Words.{word_at, word_bytes}
use Rattle.frame.specs.Control.{control_of}
use Rattle.frame.specs.Reading as Reader
use Rattle.frame.specs.Writing.{head_bytes, with_check_word, twice, frame_bytes}
use Rattle.endpoint.specs.declared.Settings.{Settings}
use Rattle.endpoint.specs.declared.State.{State}
use Rattle.endpoint.specs.declared.State.TheVariants.{Close, Starting, EstablishPending, Establish, ParamVerify}
use Rattle.endpoint.specs.declared.State.TheVariants.{FuncRunning, RefreshPending, Refresh, Terminate}
use Rattle.endpoint.specs.declared.Queue.TheVariants.{Empty}
use Rattle.endpoint.specs.Endpoint.{Endpoint}
use Rattle.endpoint.specs.Answers.{number_of}
use Rattle.endpoint.specs.Table.{row_of}
use Rattle.endpoint.specs.Time.{after_tick}
use Rattle.endpoint.specs.Updates.{in_state, timed_from, with_timestamps, with_setup, with_pending, with_requests}
use Rattle.endpoint.specs.Updates.{with_session, with_not_ready}
use Rattle.endpoint.specs.TCode.{t_code_of, cc_of, slave_time}
use Rattle.transitions.specs.ByCall.{fresh_of}
use Rattle.steps.specs.Frames.{Written, nothing, frame, value, bytes_of, setup_data, session_with, sent_fields, ack_fields}
use Rattle.steps.specs.Calls.{Outcome, start_of, restart_of, set_result_of, clear_result_of, command_data, invoke_of, send_of}
use Rattle.steps.specs.Calls.{stop_of, is_fail_safe, shown_of, shown_age}
use Rattle.steps.specs.Deliveries.{deliver_of}
use Rattle.settings.specs.Words.{settings_of}
use Rattle.settings.specs.Lists.{settings_at}
use Rattle.records.specs.declared.Record.{Record}
use Rattle.records.specs.Records.{queue_number, endpoint_of, record_of}
use Rattle.gateway.specs.declared.Gateway.{Gateway}
use Rattle.gateway.specs.Tables.{Lent, lent, blank_record, endpoint_at, at_clock}
use Rattle.gateway.specs.Loading.{loaded_with, loaded_of}
use Rattle.gateway.specs.Calls.{Result, start_in, send_in, stop_in, restart_in, set_not_ready_in, set_result_in, clear_result_in}
use Rattle.gateway.specs.Calls.{invoke_in, show_in, by_reading, deliver_in}

-- master 1/2, slave 1/3, one word each way, I = 100, R = 50, A = 50: kinds 1 to 7
abbrev pub list_of : ℕ → List ℕ
list_of role =
    0x10000102 ∷ 0x20000103 ∷ role ∷ 0x40000064 ∷ 0x50000032 ∷ 0x60000032 ∷ 0x70000007 ∷ []

abbrev pub master_settings : Settings
master_settings = settings_at (list_of 0x30000021) 0

abbrev pub slave_settings : Settings
slave_settings = settings_at (list_of 0x30000421) 0

-- the master's settings with age 0, so that only what counts as age 0 is accepted
abbrev ageless : Settings
ageless = settings_of 0x0102 0x0103 0x021 100 50 0 7

-- the session number of the cases
abbrev pub seven : Option ℕ
seven = Some 7

-- an endpoint in a state since some reading, with what it has measured, its ts_offset and this session number
abbrev pub endpoint_in : Settings → State → ℕ → ℕ → ℕ → Endpoint
endpoint_in s state since measured offset =
    in_state state (timed_from since (with_setup None measured offset 0 Empty false (with_session seven (fresh_of s 7))))

abbrev pub cid : ℕ
cid = 0x01020103

-- one word, and the zero word
abbrev pub word : List ℕ
word = word_bytes 1

abbrev pub zero_word : List ℕ
zero_word = word_bytes 0

-- ---- parts as numbers, 0 for none
abbrev pub stamp_of : Option ℕ → ℕ
stamp_of None = 0
stamp_of (Some s) = s

abbrev pub pending_of : Option ℕ → ℕ
pending_of None = 0
pending_of (Some s) = s

-- an entry, counted from 1
abbrev pub ordinal_of : Option ℕ → ℕ
ordinal_of None = 0
ordinal_of (Some n) = suc n

-- the last reading
abbrev last_in : Gateway → ℕ
last_in g = g.last

abbrev mark_of : Result → ℕ
mark_of r = cond r.failsafe 1 0

-- the age that a show gives, counted from 1
abbrev aged_in : Option ℕ → ℕ
aged_in None = 0
aged_in (Some n) = suc n

-- of what a call writes: CTRL and the timestamp
abbrev pub control_in : Written → ℕ
control_in nothing = 0
control_in (frame f body) = control_of f
control_in (value bytes) = 0

abbrev pub stamp_in : Written → ℕ
stamp_in nothing = 0
stamp_in (frame f body) = f.timestamp
stamp_in (value bytes) = 0

-- S-Data of a frame, or what its user gets
abbrev pub data_in : Written → List ℕ
data_in nothing = []
data_in (frame f body) = body
data_in (value bytes) = bytes

-- ---- calls, each with what a row asks of it
-- a user's call: its number; CTRL and the timestamp written; the state and the count of requests that it leaves
abbrev pub calling : Outcome → List ℕ
calling o =
    number_of o.answer ∷ control_in o.writes ∷ stamp_in o.writes ∷ row_of o.endpoint.state
    ∷ o.endpoint.setup.requests ∷ []

-- the slave's S-Refresh by its bytes: CTRL, CID, T code, OBL, CC
abbrev sent_bytes : Endpoint → ℕ → List ℕ
sent_bytes e t =
    let s = bytes_of (send_of e t word).writes in
    word_at s 0 ∷ word_at s 4 ∷ word_at s 8 / 65536 ∷ word_at s 8 % 65536 ∷ word_at s 12 ∷ []

-- a request at 6,040 with timestamp 10, at a station that is ready or not, in a state since 6,000, with an s2 of 5
abbrev asked : Bool → State → Command → List ℕ → Outcome
asked notready state k body =
    let e = with_not_ready notready (endpoint_in slave_settings state 6000 5 0) in
    deliver_of e 6040 (sent_fields k false false (session_with e k) cid 10 0) body

-- at one that is not ready, with the data that it compares
abbrev asked_right : State → Command → Outcome
asked_right state k = asked true state k (setup_data slave_settings k)

-- its number; CTRL and the timestamp of the reply; the state, the timer's start, s2 and the last timestamp accepted
-- that it leaves
abbrev pub replying : Outcome → List ℕ
replying o =
    number_of o.answer ∷ control_in o.writes ∷ stamp_in o.writes ∷ row_of o.endpoint.state
    ∷ o.endpoint.since ∷ o.endpoint.setup.measured ∷ stamp_of o.endpoint.timestamps.accepted ∷ []

-- a reply at 1,030 at a master whose S-RefreshReady of 1,000 is pending, with an m2 of 5
abbrev reply : Bool → Bool → List ℕ → Outcome
reply busy error body =
    deliver_of (with_pending (Some 1000) (endpoint_in master_settings ParamVerify 1000 5 0)) 1030
    (ack_fields K.RefreshReady busy error false seven cid 1000) body

-- its number; the state, the timer's start, m2 and the pending request that it leaves
abbrev hearing : Outcome → List ℕ
hearing o =
    number_of o.answer ∷ row_of o.endpoint.state ∷ o.endpoint.since ∷ o.endpoint.setup.measured
    ∷ pending_of o.endpoint.setup.pending ∷ []

abbrev due_again : Endpoint
due_again = (reply true false zero_word).endpoint

-- Readying: S-RefreshGO, sent at 1,040 with OBL 10, taken by the slave whose s2 is 6,010
abbrev readying : Outcome
readying =
    deliver_of (endpoint_in slave_settings RefreshPending 6010 6010 0) 6050 (sent_fields K.RefreshGo false false seven cid 1040 10)
    zero_word

abbrev ready : Endpoint
ready = readying.endpoint

-- an S-Refresh of the other end with this timestamp and word
abbrev pub refreshed : Endpoint → ℕ → ℕ → ℕ → Outcome
refreshed e t stamp w =
    deliver_of e t (sent_fields K.Refresh false (not e.settings.slave) seven cid stamp 0) (word_bytes w)

-- the state, the timer's start, the last timestamp accepted, the age then of the value held, and its word
abbrev held : Endpoint → List ℕ
held e =
    row_of e.state ∷ e.since ∷ stamp_of e.timestamps.accepted ∷ e.value.age ∷ word_at e.value.bytes 0 ∷ []

-- its number; what it leaves
abbrev pub taking : Outcome → List ℕ
taking o = number_of o.answer ∷ held o.endpoint

-- the master in Refresh since 1,040 that is handed the timestamp 1,120
abbrev at_master : ℕ → Outcome
at_master t = refreshed (endpoint_in ageless Refresh 1040 1030 0) t 1120 1

-- the slave in Refresh, its time in the master's clock 4,980 ticks back: one S-Refresh at 6,180, then a later one,
-- timestamp 1,200, with another value
abbrev first : Outcome
first = refreshed (endpoint_in slave_settings Refresh 6150 6010 281474976705676) 6180 1195 0x05060708

abbrev later : ℕ → Outcome
later t = refreshed first.endpoint t 1200 0x01020304

-- the later one taken at 6,230: the timer has passed at 6,331
abbrev in_refresh : Record
in_refresh = record_of (later 6230).endpoint

-- a gateway of so many connections with that last reading, lent these records
abbrev gateway_of : ℕ → List Record → Lent
gateway_of count rs = lent (at_clock 6230 (loaded_with count)) rs

-- of this connection alone
abbrev shown_from : Lent
shown_from = gateway_of 1 (in_refresh ∷ [])

-- a gateway never loaded, and no records
abbrev unloaded : Lent
unloaded = lent (loaded_with 0) []

abbrev state_in : Result → ℕ
state_in r = row_of (endpoint_at r.lent 0).state

-- a show there: its number, entry, count, mark, the word shown and its age; the state that it leaves
abbrev showing : ℕ → ℕ → List ℕ
showing t room =
    let r = show_in shown_from t room 0 in
    let s = bytes_of r.writes in
    number_of r.answer ∷ ordinal_of r.entry ∷ length s ∷ mark_of r ∷ word_at s 0 ∷ aged_in r.age ∷ state_in r ∷ []

-- a delivery of these bytes: its number, entry and count; the last reading and the state that it leaves
abbrev delivering : Lent → ℕ → ℕ → List ℕ → List ℕ
delivering d t room s =
    let r = deliver_in d t room s in
    number_of r.answer ∷ ordinal_of r.entry ∷ length (bytes_of r.writes) ∷ last_in r.lent.gateway
    ∷ state_in r ∷ []

-- a cycle without a frame
abbrev empty_at : Lent → ℕ → ℕ → List ℕ
empty_at d t room = delivering d t room []

-- ---- the records that a gateway is lent (document 02, note 11)
abbrev each_held : List Record → List ℕ
each_held [] = []
each_held (r ∷ rs) = held (endpoint_of r) ++ each_held rs

-- the last reading, the size of the table and each record
abbrev leaving : Lent → List ℕ
leaving d = last_in d.gateway ∷ d.gateway.count ∷ each_held d.records

-- a call: its number, entry, count and mark; what it leaves
abbrev answering : Result → List ℕ
answering r =
    number_of r.answer ∷ ordinal_of r.entry ∷ length (bytes_of r.writes) ∷ mark_of r ∷ leaving r.lent

-- one record of a table of two; both; one more than the table
abbrev short : Lent
short = gateway_of 2 (in_refresh ∷ [])

abbrev whole : Lent
whole = gateway_of 2 (in_refresh ∷ blank_record ∷ [])

abbrev longer : Lent
longer = gateway_of 1 (in_refresh ∷ in_refresh ∷ [])

-- lent whole again after a call
abbrev whole_after : Result → Lent
whole_after r = lent r.lent.gateway (r.lent.records ++ (blank_record ∷ []))

-- an S-Refresh that is later than the one accepted, in bytes
abbrev arrived : List ℕ
arrived = frame_bytes (sent_fields K.Refresh false false seven cid 1220 0) (word_bytes 0x090A0B0C)

-- what is held of each record: as it was; with that S-Refresh taken at 6,240; ended; blank
abbrev as_it_was : List ℕ
as_it_was = row_of Refresh ∷ 6230 ∷ 1200 ∷ 50 ∷ 0x01020304 ∷ []

abbrev renewed : List ℕ
renewed = row_of Refresh ∷ 6240 ∷ 1220 ∷ 40 ∷ 0x090A0B0C ∷ []

abbrev ended : List ℕ
ended = row_of Terminate ∷ 6230 ∷ 1200 ∷ 0 ∷ 0 ∷ []

abbrev blank : List ℕ
blank = row_of Close ∷ 0 ∷ 0 ∷ 0 ∷ 0 ∷ []

-- nothing changed of one record of two
abbrev unchanged : ℕ → List ℕ
unchanged number = number ∷ 0 ∷ 0 ∷ 0 ∷ 6230 ∷ 2 ∷ as_it_was

-- the clock step of 6,331 on both of two
abbrev stepped_to : ℕ → ℕ → List ℕ
stepped_to number entry = number ∷ entry ∷ 0 ∷ 0 ∷ 6331 ∷ 2 ∷ ended ++ blank

-- n connections from the i-th on: master 1/i, slave 128/i
abbrev connections_from : ℕ → ℕ → List ℕ
connections_from i zero = []
connections_from i (suc n) =
    (0x10000100 + i) ∷ (0x20008000 + i) ∷ 0x30000021 ∷ 0x40000014 ∷ 0x50000014 ∷ 0x60000014 ∷ 0x70000000
    ∷ connections_from (suc i) n

abbrev pub connections : ℕ → List ℕ
connections n = connections_from 0 n

-- a loading: its number; what it leaves
abbrev loading : List ℕ → List Record → List ℕ
loading ws rs = number_of (loaded_of 7 ws rs).answer ∷ leaving (loaded_of 7 ws rs).lent

-- of so many connections into as many records: its number, the size of the table and the CID of its last record
abbrev pub loading_all : ℕ → List ℕ
loading_all n =
    let l = loaded_of 7 (connections n) (replicate n blank_record) in
    number_of l.answer ∷ l.lent.gateway.count ∷ (endpoint_at l.lent (n - 1)).settings.connection ∷ []

-- the frame check of a frame with this CTRL
abbrev pub form_of : ℕ → ℕ
form_of control = Reader.number_of (Reader.reading_of (twice (with_check_word (head_bytes control cid 0 0 word))))

-- a master since 1,000 in a state, with that last timestamp sent, after so many requests; its send with one word lent
abbrev after : ℕ → State → Endpoint
after n state =
    with_requests n
    (with_timestamps (record { sent = Some 1000; accepted = None }) (endpoint_in master_settings state 1000 5 0))

abbrev sent_after : ℕ → State → ℕ → Outcome
sent_after n state t = send_of (after n state) t word

-- ---- commands and results (document 02, note 5)
-- two words that a master's user invokes, and two that a station's user sets
abbrev tare : List ℕ
tare = command_data 0x54415245 (word_bytes 5)

abbrev weighed : List ℕ
weighed = word_bytes 0x01020304 ++ word_bytes 0x05060708

-- a station as in asked, with this result; of no bytes none is set
abbrev station : Bool → State → List ℕ → Endpoint
station notready state result =
    (set_result_of (with_not_ready notready (endpoint_in slave_settings state 6000 5 0)) result).endpoint

-- S-InvokeFunc there, with this timestamp, at 6,030 and as many ticks
abbrev invoked : Endpoint → ℕ → List ℕ → Outcome
invoked e stamp body = deliver_of e (6030 + stamp) (sent_fields K.InvokeFunc false false seven cid stamp 0) body

-- once, with timestamp 10
abbrev performed : Bool → State → List ℕ → Outcome
performed notready state result = invoked (station notready state result) 10 tare

-- what replying tells; then how many words are set, and the reply's S-Data
abbrev performing : Outcome → List ℕ
performing o = replying o ++ (o.endpoint.words.count ∷ data_in o.writes)

-- a gateway of this connection alone, its last reading 1,000
abbrev pub alone : Endpoint → Lent
alone e = lent (at_clock 1000 (loaded_with 1)) (record_of e ∷ [])

-- what a show of this connection gives: the mark, the word shown and its age
abbrev pub aging : Endpoint → ℕ → List ℕ
aging e t =
    let x = after_tick e t in
    cond (is_fail_safe x) 1 0 ∷ word_at (shown_of x) 0 ∷ aged_in (shown_age x t) ∷ []

-- the master in Refresh since 1,040 with A = 50 that takes the timestamp 1,120
abbrev taken_at_master : ℕ → Endpoint
taken_at_master t = (refreshed (endpoint_in master_settings Refresh 1040 1030 0) t 1120 1).endpoint

-- the queue (0 nothing waits, 1 S-InvokeFunc does, 4 it is closed), how many words are handed over, and the first
abbrev handed : Endpoint → List ℕ
handed e = queue_number e.setup.queue ∷ e.words.count ∷ word_at e.words.bytes 0 ∷ []

-- a call of that connection: its number, entry and count; the state, the timer's start and what is handed over that it
-- leaves
abbrev handing : Result → List ℕ
handing r =
    let e = endpoint_at r.lent 0 in
    number_of r.answer ∷ ordinal_of r.entry ∷ length (bytes_of r.writes) ∷ row_of e.state ∷ e.since
    ∷ handed e

-- a master in a state since 1,000, with an m2 of 5; with the command queued
abbrev pub master : State → Endpoint
master state = endpoint_in master_settings state 1000 5 0

abbrev pub waiting : State → Endpoint
waiting state = (invoke_of (master state) 0x54415245 (word_bytes 5)).endpoint

-- its user's invoke at 1,020 with this word and these bytes
abbrev invoking : Endpoint → ℕ → List ℕ → List ℕ
invoking e w bytes = handing (invoke_in (alone e) 1020 0 w bytes)

-- the station's user sets a result at 6,020
abbrev setting : Endpoint → List ℕ → List ℕ
setting e body = handing (set_result_in (alone e) 6020 0 body)

-- what calling tells; then the pending request and the queue, and the S-Data written
abbrev commanding : Outcome → List ℕ
commanding o =
    calling o
    ++ (pending_of o.endpoint.setup.pending ∷ queue_number o.endpoint.setup.queue ∷ data_in o.writes)

-- the command sent at 1,010
abbrev pub commanded : Endpoint
commanded = (send_of (waiting ParamVerify) 1010 []).endpoint

-- its reply at 1,030 as the reader hands it on: Busy, Error, timestamp and S-Data
abbrev answered : Bool → Bool → ℕ → List ℕ → Result
answered busy error stamp body =
    by_reading (alone commanded) 1030 248 body (Ok (frame_with (ack_fields K.InvokeFunc busy error false seven cid stamp) 0 (length body)))

-- the result in bytes
abbrev result_bytes : List ℕ
result_bytes = frame_bytes (ack_fields K.InvokeFunc false false false seven cid 1010) weighed

-- its number, entry and count; the state, the timer's start, m2, the pending request and the queue that it leaves; the
-- bytes written
abbrev hearing_in : Result → List ℕ
hearing_in r =
    let e = endpoint_at r.lent 0 in
    number_of r.answer ∷ ordinal_of r.entry ∷ length (bytes_of r.writes) ∷ row_of e.state ∷ e.since
    ∷ e.setup.measured ∷ pending_of e.setup.pending ∷ queue_number e.setup.queue ∷ bytes_of r.writes

-- the endpoint that it leaves
abbrev pub answered_by : Bool → List ℕ → Endpoint
answered_by busy body =
    (deliver_of commanded 1030 (ack_fields K.InvokeFunc busy false false seven cid 1010) body).endpoint

-- S-RefreshReady sent at 1,010, and answered Busy at 1,030
abbrev ready_gone : Endpoint
ready_gone =
    (deliver_of (send_of (master ParamVerify) 1010 []).endpoint 1030 (ack_fields K.RefreshReady true false false seven cid 1010)
    zero_word).endpoint

pub record Case : Type 0 where
  pub given : List ℕ
  pub stated : List ℕ

abbrev pub row : List ℕ → List ℕ → Case
row g s = record { given = g; stated = s }

-- one number
abbrev pub case : ℕ → ℕ → Case
case g s = row (g ∷ []) (s ∷ [])

-- ---- document 01; its T code in the standard's words too (document 02, note 4)
unfoldable pub edges : List Case
edges =
    -- CID of master 1/2, slave 1/3
    case master_settings.connection 0x01020103
    -- the slave's S-Refresh has CTRL 0xFF050007; sending time 65,530, ts_offset 10: T code 4, CC 1
    ∷ row (sent_bytes (endpoint_in slave_settings Refresh 0 0 10) 65530) (0xFF050007 ∷ 0x01020103 ∷ 4 ∷ 0 ∷ 1 ∷ [])
    -- the S-Connect reply has CTRL 0x00850007
    ∷ row (replying (asked false Close K.Connect word))
    (0 ∷ 0x00850007 ∷ 10 ∷ row_of EstablishPending ∷ 6040 ∷ 5 ∷ 10 ∷ [])
    -- ts_offset, and what the slave sending at 6,100 stamps
    ∷ row (replying readying) (0 ∷ 0xFE850007 ∷ 1040 ∷ row_of Refresh ∷ 6050 ∷ 6010 ∷ 1040 ∷ [])
    ∷ case ready.setup.offset 281474976705676
    ∷ row (calling (send_of ready 6100 word)) (0 ∷ 0xFF050007 ∷ 1120 ∷ row_of Refresh ∷ 0 ∷ [])
    -- both in the standard's words; and the highest clock and ts_offset that the code can be handed
    ∷ case (t_code_of 65530 10) 4
    ∷ case (cc_of 65530 10) 1
    ∷ case (slave_time 6100 281474976705676) 1120
    ∷ case (slave_time 18446744073709551615 18446744073709551615) 281474976710654
    -- with R = 50 the master at 1,105 counts age 0; at 1,066 number 14, at 1,067 age 0 (1,069 and 1,070 before document
    -- 02's note 9); age 1 would be too late for it
    ∷ row (taking (at_master 1105)) (0 ∷ row_of Refresh ∷ 1105 ∷ 1120 ∷ 0 ∷ 1 ∷ [])
    ∷ row (taking (at_master 1066)) (14 ∷ row_of Refresh ∷ 1040 ∷ 0 ∷ 0 ∷ 0 ∷ [])
    ∷ row (taking (at_master 1067)) (0 ∷ row_of Refresh ∷ 1067 ∷ 1120 ∷ 0 ∷ 1 ∷ [])
    ∷ row (taking (at_master 1121)) (15 ∷ row_of Terminate ∷ 1040 ∷ 0 ∷ 0 ∷ 0 ∷ [])
    -- one S-Refresh accepted at 6,180; stamp 1,200 at 6,230 accepted, at 6,231 number 15
    ∷ row (taking first) (0 ∷ row_of Refresh ∷ 6180 ∷ 1195 ∷ 5 ∷ 0x05060708 ∷ [])
    ∷ row (taking (later 6230)) (0 ∷ row_of Refresh ∷ 6230 ∷ 1200 ∷ 50 ∷ 0x01020304 ∷ [])
    ∷ row (taking (later 6231)) (15 ∷ row_of Terminate ∷ 6180 ∷ 1195 ∷ 0 ∷ 0 ∷ [])
    -- accepted at 6,230: shown at 6,330, fail-safe in a show at 6,331; to an output one byte short, neither
    ∷ row (showing 6330 248) (0 ∷ 1 ∷ 4 ∷ 0 ∷ 0x01020304 ∷ 151 ∷ row_of Refresh ∷ [])
    ∷ row (showing 6331 248) (0 ∷ 1 ∷ 4 ∷ 1 ∷ 0 ∷ 0 ∷ row_of Terminate ∷ [])
    ∷ row (showing 6330 247) (2 ∷ 0 ∷ 0 ∷ 0 ∷ 0 ∷ 0 ∷ row_of Refresh ∷ [])
    ∷ []

-- ---- document 02, note 1
unfoldable pub empty_cycles : List Case
empty_cycles =
    -- zero bytes: in time, the connection stays; late, it ends, and the number is 0 all the same
    row (empty_at shown_from 6330 248) (0 ∷ 0 ∷ 0 ∷ 6330 ∷ row_of Refresh ∷ [])
    ∷ row (empty_at shown_from 6331 248) (0 ∷ 0 ∷ 0 ∷ 6331 ∷ row_of Terminate ∷ [])
    -- a reading before the last changes nothing; an output one byte short; a gateway never loaded
    ∷ row (empty_at shown_from 6229 248) (1 ∷ 0 ∷ 0 ∷ 6230 ∷ row_of Refresh ∷ [])
    ∷ row (empty_at shown_from 6331 247) (2 ∷ 0 ∷ 0 ∷ 6331 ∷ row_of Terminate ∷ [])
    ∷ row (empty_at unloaded 5 248) (0 ∷ 0 ∷ 0 ∷ 5 ∷ row_of Close ∷ [])
    -- another wrong length; the frame check of zero bytes
    ∷ row (delivering shown_from 6330 248 (0 ∷ [])) (4 ∷ 0 ∷ 0 ∷ 6330 ∷ row_of Refresh ∷ [])
    ∷ case (Reader.number_of (Reader.reading_of [])) 4
    ∷ []

-- ---- note 2
unfoldable pub busy_replies : List Case
busy_replies =
    -- a station that is not ready: Busy in replies to 0x01, 0x02 and 0xFC, and in no others; with Busy it stays in its
    -- state, its timer runs from the reply, and s2 is not fixed
    row (replying (asked_right EstablishPending K.ConfirmNetwork))
    (0 ∷ 0x01C50007 ∷ 10 ∷ row_of EstablishPending ∷ 6040 ∷ 5 ∷ 10 ∷ [])
    ∷ row (replying (asked_right Establish K.VerifyStation))
    (0 ∷ 0x02C50007 ∷ 10 ∷ row_of Establish ∷ 6040 ∷ 5 ∷ 10 ∷ [])
    ∷ row (replying (asked_right ParamVerify K.RefreshReady))
    (0 ∷ 0xFCC50007 ∷ 10 ∷ row_of ParamVerify ∷ 6040 ∷ 5 ∷ 10 ∷ [])
    ∷ row (replying (asked_right Close K.Connect))
    (0 ∷ 0x00850007 ∷ 10 ∷ row_of EstablishPending ∷ 6040 ∷ 5 ∷ 10 ∷ [])
    ∷ row (replying (asked_right RefreshPending K.RefreshGo))
    (0 ∷ 0xFE850007 ∷ 10 ∷ row_of Refresh ∷ 6040 ∷ 5 ∷ 10 ∷ [])
    -- ready, it fixes s2
    ∷ row (replying (asked false ParamVerify K.RefreshReady zero_word))
    (0 ∷ 0xFC850007 ∷ 10 ∷ row_of RefreshPending ∷ 6040 ∷ 6040 ∷ 10 ∷ [])
    -- unequal contents: 16, with Error and without Busy
    ∷ row (replying (asked true ParamVerify K.RefreshReady word))
    (16 ∷ 0xFCA50007 ∷ 10 ∷ row_of Terminate ∷ 6000 ∷ 5 ∷ 10 ∷ [])
    -- a master on a Busy reply: its state stays, its timer starts afresh, m2 is not fixed, and the same Cmd is due
    -- again with a new timestamp; without Busy it moves on, and m2 is fixed
    ∷ row (hearing (reply true false zero_word)) (0 ∷ row_of ParamVerify ∷ 1030 ∷ 5 ∷ 0 ∷ [])
    ∷ row (calling (send_of due_again 1031 [])) (0 ∷ 0xFC010007 ∷ 1031 ∷ row_of ParamVerify ∷ 1 ∷ [])
    ∷ row (hearing (reply false false zero_word)) (0 ∷ row_of RefreshPending ∷ 1030 ∷ 1030 ∷ 0 ∷ [])
    -- with Error, or with other contents: 16
    ∷ row (hearing (reply true true zero_word)) (16 ∷ row_of Terminate ∷ 1000 ∷ 5 ∷ 1000 ∷ [])
    ∷ row (hearing (reply true false word)) (16 ∷ row_of Terminate ∷ 1000 ∷ 5 ∷ 1000 ∷ [])
    -- Busy in the replies to 0x01, 0x02 and 0xFC; in another reply, in a request, in an S-Refresh: 7
    ∷ case (form_of 0x01C40000) 0
    ∷ case (form_of 0x02C40000) 0
    ∷ case (form_of 0xFCC40000) 0
    ∷ case (form_of 0x00C40000) 7
    ∷ case (form_of 0xFEC40000) 7
    ∷ case (form_of 0xFC400000) 7
    ∷ case (form_of 0xFF440000) 7
    ∷ []

-- ---- note 3
unfoldable pub request_limits : List Case
request_limits =
    -- request 45 is written and counted; request 46 is 19: nothing is written, and the connection ends
    row (calling (sent_after 44 EstablishPending 1010)) (0 ∷ 0x01010007 ∷ 1010 ∷ row_of EstablishPending ∷ 45 ∷ [])
    ∷ row (calling (sent_after 45 EstablishPending 1010)) (19 ∷ 0 ∷ 0 ∷ row_of Terminate ∷ 45 ∷ [])
    -- 19 before 17, and after 11; a count that no call leaves
    ∷ row (calling (sent_after 44 EstablishPending 1000)) (17 ∷ 0 ∷ 0 ∷ row_of EstablishPending ∷ 44 ∷ [])
    ∷ row (calling (sent_after 45 EstablishPending 1000)) (19 ∷ 0 ∷ 0 ∷ row_of Terminate ∷ 45 ∷ [])
    ∷ row (calling (send_of (with_pending (Some 1000) (after 45 EstablishPending)) 1010 word))
    (11 ∷ 0 ∷ 0 ∷ row_of EstablishPending ∷ 45 ∷ [])
    ∷ row (calling (sent_after 255 EstablishPending 1010)) (19 ∷ 0 ∷ 0 ∷ row_of Terminate ∷ 255 ∷ [])
    -- S-Refresh and S-Disconnect are no requests
    ∷ row (calling (sent_after 45 Refresh 1010)) (0 ∷ 0xFF010007 ∷ 1010 ∷ row_of Refresh ∷ 45 ∷ [])
    ∷ row (calling (stop_of (after 45 EstablishPending) 1010)) (0 ∷ 0xF9010007 ∷ 1010 ∷ row_of Terminate ∷ 45 ∷ [])
    -- a restart keeps the count, a start begins it anew
    ∷ row (calling (restart_of (after 45 Terminate) 7)) (0 ∷ 0 ∷ 0 ∷ row_of Close ∷ 45 ∷ [])
    ∷ row (calling (start_of (after 45 Close) 1010)) (0 ∷ 0 ∷ 0 ∷ row_of Starting ∷ 0 ∷ [])
    ∷ []

-- ---- note 5
-- S-InvokeFunc at a slave
unfoldable pub results : List Case
results =
    -- no result: Busy, the words repeated; it leads to FuncRunning all the same, and the timer runs from the reply
    row (performing (performed false ParamVerify []))
    (0 ∷ 0x03C50007 ∷ 10 ∷ row_of FuncRunning ∷ 6040 ∷ 5 ∷ 10 ∷ 0 ∷ tare)
    -- a result of the request's length is the reply, and stays set
    ∷ row (performing (performed false ParamVerify weighed))
    (0 ∷ 0x03850007 ∷ 10 ∷ row_of FuncRunning ∷ 6040 ∷ 5 ∷ 10 ∷ 2 ∷ weighed)
    -- one of another length: Busy
    ∷ row (performing (performed false ParamVerify word))
    (0 ∷ 0x03C50007 ∷ 10 ∷ row_of FuncRunning ∷ 6040 ∷ 5 ∷ 10 ∷ 1 ∷ tare)
    -- again in FuncRunning: Busy; the same result answers a later command; once it is cleared, Busy
    ∷ row (performing (invoked (performed false ParamVerify []).endpoint 20 tare))
    (0 ∷ 0x03C50007 ∷ 20 ∷ row_of FuncRunning ∷ 6050 ∷ 5 ∷ 20 ∷ 0 ∷ tare)
    ∷ row (performing (invoked (performed false ParamVerify weighed).endpoint 20 weighed))
    (0 ∷ 0x03850007 ∷ 20 ∷ row_of FuncRunning ∷ 6050 ∷ 5 ∷ 20 ∷ 2 ∷ weighed)
    ∷ row (performing (invoked (clear_result_of (performed false ParamVerify weighed).endpoint).endpoint 20 tare))
    (0 ∷ 0x03C50007 ∷ 20 ∷ row_of FuncRunning ∷ 6050 ∷ 5 ∷ 20 ∷ 0 ∷ tare)
    -- the same frame again: 13
    ∷ row (performing (invoked (performed false ParamVerify weighed).endpoint 10 tare))
    (13 ∷ 0 ∷ 0 ∷ row_of FuncRunning ∷ 6040 ∷ 5 ∷ 10 ∷ 2 ∷ [])
    -- 1 to 25 words pass
    ∷ row (performing (invoked (station false ParamVerify []) 10 word))
    (0 ∷ 0x03C50007 ∷ 10 ∷ row_of FuncRunning ∷ 6040 ∷ 5 ∷ 10 ∷ 0 ∷ word)
    ∷ row (performing (invoked (station false ParamVerify (replicate 100 9)) 10 (replicate 100 1)))
    (0 ∷ 0x03850007 ∷ 10 ∷ row_of FuncRunning ∷ 6040 ∷ 5 ∷ 10 ∷ 25 ∷ replicate 100 9)
    -- "not ready" has no say
    ∷ row (performing (performed true ParamVerify weighed))
    (0 ∷ 0x03850007 ∷ 10 ∷ row_of FuncRunning ∷ 6040 ∷ 5 ∷ 10 ∷ 2 ∷ weighed)
    -- in other states: 11
    ∷ row (performing (performed false Establish weighed)) (11 ∷ 0 ∷ 0 ∷ row_of Establish ∷ 6000 ∷ 5 ∷ 0 ∷ 2 ∷ [])
    ∷ row (performing (performed false RefreshPending weighed))
    (11 ∷ 0 ∷ 0 ∷ row_of RefreshPending ∷ 6000 ∷ 5 ∷ 0 ∷ 2 ∷ [])
    ∷ row (performing (performed false Terminate weighed)) (11 ∷ 0 ∷ 0 ∷ row_of Terminate ∷ 6000 ∷ 5 ∷ 0 ∷ 2 ∷ [])
    -- S-RefreshReady leaves FuncRunning as it leaves ParamVerify: not ready, Busy, and it stays there; ready, it fixes
    -- s2; unequal contents, 16; and FuncRunning takes no earlier command
    ∷ row (replying (asked_right FuncRunning K.RefreshReady))
    (0 ∷ 0xFCC50007 ∷ 10 ∷ row_of FuncRunning ∷ 6040 ∷ 5 ∷ 10 ∷ [])
    ∷ row (replying (asked false FuncRunning K.RefreshReady zero_word))
    (0 ∷ 0xFC850007 ∷ 10 ∷ row_of RefreshPending ∷ 6040 ∷ 6040 ∷ 10 ∷ [])
    ∷ row (replying (asked false FuncRunning K.RefreshReady word))
    (16 ∷ 0xFCA50007 ∷ 10 ∷ row_of Terminate ∷ 6000 ∷ 5 ∷ 10 ∷ [])
    ∷ row (replying (asked_right FuncRunning K.VerifyStation)) (11 ∷ 0 ∷ 0 ∷ row_of FuncRunning ∷ 6000 ∷ 5 ∷ 0 ∷ [])
    ∷ []

-- what a station's user sets and clears
unfoldable pub user_results : List Case
user_results =
    -- a result is set in any state, of 1 to 25 words; a later one replaces it; the timer is not restarted
    row (setting (station false Close []) weighed) (0 ∷ 1 ∷ 0 ∷ row_of Close ∷ 6000 ∷ 0 ∷ 2 ∷ 0x01020304 ∷ [])
    ∷ row (setting (station false ParamVerify weighed) (replicate 100 9))
    (0 ∷ 1 ∷ 0 ∷ row_of ParamVerify ∷ 6000 ∷ 0 ∷ 25 ∷ 0x09090909 ∷ [])
    -- 0 bytes, 104, or no whole words: 12, and the one before stays; a master's: 11, before 12
    ∷ row (setting (station false Close weighed) []) (12 ∷ 1 ∷ 0 ∷ row_of Close ∷ 6000 ∷ 0 ∷ 2 ∷ 0x01020304 ∷ [])
    ∷ row (setting (station false Close weighed) (replicate 104 9))
    (12 ∷ 1 ∷ 0 ∷ row_of Close ∷ 6000 ∷ 0 ∷ 2 ∷ 0x01020304 ∷ [])
    ∷ row (setting (station false Close weighed) (9 ∷ [])) (12 ∷ 1 ∷ 0 ∷ row_of Close ∷ 6000 ∷ 0 ∷ 2 ∷ 0x01020304 ∷ [])
    ∷ row (setting (master Close) []) (11 ∷ 1 ∷ 0 ∷ row_of Close ∷ 1000 ∷ 0 ∷ 0 ∷ 0 ∷ [])
    -- none set, to clear it is done all the same; a master's: 11
    ∷ row (handing (clear_result_in (alone (station false Close [])) 6020 0))
    (0 ∷ 1 ∷ 0 ∷ row_of Close ∷ 6000 ∷ 0 ∷ 0 ∷ 0 ∷ [])
    ∷ row (handing (clear_result_in (alone (master Close)) 6020 0)) (11 ∷ 1 ∷ 0 ∷ row_of Close ∷ 1000 ∷ 0 ∷ 0 ∷ 0 ∷ [])
    -- a result stays after stop, after an end by 9 and after restart; after loading it is unset
    ∷ row (handing (stop_in (alone (station false ParamVerify weighed)) 6020 248 0))
    (0 ∷ 1 ∷ 0 ∷ row_of Terminate ∷ 6000 ∷ 0 ∷ 2 ∷ 0x01020304 ∷ [])
    ∷ row (handing (set_result_in (alone (station false ParamVerify weighed)) 6051 0 (replicate 100 9)))
    (9 ∷ 1 ∷ 0 ∷ row_of Terminate ∷ 6000 ∷ 0 ∷ 2 ∷ 0x01020304 ∷ [])
    ∷ row (handing (restart_in (alone (station false Terminate weighed)) 6051 0 7))
    (0 ∷ 1 ∷ 0 ∷ row_of Close ∷ 6000 ∷ 0 ∷ 2 ∷ 0x01020304 ∷ [])
    ∷ row (handed (endpoint_at (loaded_of 7 (list_of 0x30000421) (record_of (station false Close weighed) ∷ [])).lent 0))
    (0 ∷ 0 ∷ 0 ∷ [])
    -- and no command waits at a master that is loaded
    ∷ row (handed (endpoint_at (loaded_of 7 (list_of 0x30000021) (record_of (waiting ParamVerify) ∷ [])).lent 0))
    (0 ∷ 0 ∷ 0 ∷ [])
    ∷ []

-- S-InvokeFunc's form, and a command that a master's user queues, until it is sent
unfoldable pub commands : List Case
commands =
    -- CTRL of the request, of its reply and of its Busy reply; Busy in a request: 7; the next Cmd is unlisted
    case (form_of 0x03000000) 0
    ∷ case (form_of 0x03840000) 0
    ∷ case (form_of 0x03C40000) 0
    ∷ case (form_of 0x03400000) 7
    ∷ case (form_of 0x04000000) 7
    -- invoke in setup: the command waits, nothing is written, and the timer is not restarted; so too while a request is
    -- pending
    ∷ row (invoking (master Starting) 7 []) (0 ∷ 1 ∷ 0 ∷ row_of Starting ∷ 1000 ∷ 1 ∷ 1 ∷ 7 ∷ [])
    ∷ row (invoking (with_pending (Some 1000) (master Establish)) 7 word)
    (0 ∷ 1 ∷ 0 ∷ row_of Establish ∷ 1000 ∷ 1 ∷ 2 ∷ 7 ∷ [])
    -- in Close, in Refresh and at a slave: 11, before 12
    ∷ row (invoking (master Close) 7 []) (11 ∷ 1 ∷ 0 ∷ row_of Close ∷ 1000 ∷ 0 ∷ 0 ∷ 0 ∷ [])
    ∷ row (invoking (master Refresh) 7 (replicate 100 1)) (11 ∷ 1 ∷ 0 ∷ row_of Refresh ∷ 1000 ∷ 0 ∷ 0 ∷ 0 ∷ [])
    ∷ row (invoking (station false ParamVerify weighed) 7 [])
    (11 ∷ 1 ∷ 0 ∷ row_of ParamVerify ∷ 6000 ∷ 0 ∷ 2 ∷ 0x01020304 ∷ [])
    -- a second one while the first waits, is sent, or was answered Busy: 11, and the first stays
    ∷ row (invoking (waiting Starting) 7 []) (11 ∷ 1 ∷ 0 ∷ row_of Starting ∷ 1000 ∷ 1 ∷ 2 ∷ 0x54415245 ∷ [])
    ∷ row (invoking commanded 7 []) (11 ∷ 1 ∷ 0 ∷ row_of ParamVerify ∷ 1010 ∷ 1 ∷ 2 ∷ 0x54415245 ∷ [])
    ∷ row (handing (invoke_in (alone (answered_by true tare)) 1040 0 7 []))
    (11 ∷ 1 ∷ 0 ∷ row_of ParamVerify ∷ 1030 ∷ 1 ∷ 2 ∷ 0x54415245 ∷ [])
    -- 0 to 24 words beside the command word pass: 96 bytes; with 97, 100 or 1: 12
    ∷ row (invoking (master Starting) 7 (replicate 96 1)) (0 ∷ 1 ∷ 0 ∷ row_of Starting ∷ 1000 ∷ 1 ∷ 25 ∷ 7 ∷ [])
    ∷ row (invoking (master Starting) 7 (replicate 97 1)) (12 ∷ 1 ∷ 0 ∷ row_of Starting ∷ 1000 ∷ 0 ∷ 0 ∷ 0 ∷ [])
    ∷ row (invoking (master Starting) 7 (replicate 100 1)) (12 ∷ 1 ∷ 0 ∷ row_of Starting ∷ 1000 ∷ 0 ∷ 0 ∷ 0 ∷ [])
    ∷ row (invoking (master Starting) 7 (1 ∷ [])) (12 ∷ 1 ∷ 0 ∷ row_of Starting ∷ 1000 ∷ 0 ∷ 0 ∷ 0 ∷ [])
    -- earlier requests go first; the send that would write S-RefreshReady writes the command, and counts it
    ∷ row (commanding (send_of (waiting Establish) 1010 []))
    (0 ∷ 0x02010007 ∷ 1010 ∷ row_of Establish ∷ 1 ∷ 1010 ∷ 1 ∷ word_bytes 7)
    ∷ row (commanding (send_of (waiting ParamVerify) 1010 []))
    (0 ∷ 0x03010007 ∷ 1010 ∷ row_of ParamVerify ∷ 1 ∷ 1010 ∷ 1 ∷ tare)
    ∷ []

-- its reply, and its end
unfoldable pub command_replies : List Case
command_replies =
    -- its reply without Busy: the words go to the output, whatever they are; the setup does not advance, m2 is not
    -- fixed, and nothing waits
    row (hearing_in (answered false false 1010 weighed))
    (0 ∷ 1 ∷ 8 ∷ row_of ParamVerify ∷ 1030 ∷ 5 ∷ 0 ∷ 0 ∷ weighed)
    ∷ row (hearing_in (deliver_in (alone commanded) 1030 248 result_bytes))
    (0 ∷ 1 ∷ 8 ∷ row_of ParamVerify ∷ 1030 ∷ 5 ∷ 0 ∷ 0 ∷ weighed)
    -- then another may be queued; else the next send writes S-RefreshReady
    ∷ row (handing (invoke_in (alone (answered_by false weighed)) 1040 0 7 []))
    (0 ∷ 1 ∷ 0 ∷ row_of ParamVerify ∷ 1030 ∷ 1 ∷ 1 ∷ 7 ∷ [])
    ∷ row (commanding (send_of (answered_by false weighed) 1040 []))
    (0 ∷ 0xFC010007 ∷ 1040 ∷ row_of ParamVerify ∷ 2 ∷ 1040 ∷ 4 ∷ zero_word)
    -- with Busy and the same words: nothing is written, and the command is due again with a new timestamp
    ∷ row (hearing_in (answered true false 1010 tare)) (0 ∷ 1 ∷ 0 ∷ row_of ParamVerify ∷ 1030 ∷ 5 ∷ 0 ∷ 1 ∷ [])
    ∷ row (commanding (send_of (answered_by true tare) 1040 []))
    (0 ∷ 0x03010007 ∷ 1040 ∷ row_of ParamVerify ∷ 2 ∷ 1040 ∷ 1 ∷ tare)
    -- Busy with other words, or Error: 16, nothing is written, and the command is gone
    ∷ row (hearing_in (answered true false 1010 weighed)) (16 ∷ 1 ∷ 0 ∷ row_of Terminate ∷ 1010 ∷ 5 ∷ 1010 ∷ 0 ∷ [])
    ∷ row (hearing_in (answered false true 1010 weighed)) (16 ∷ 1 ∷ 0 ∷ row_of Terminate ∷ 1010 ∷ 5 ∷ 1010 ∷ 0 ∷ [])
    -- of another length: 12, before 13; with another timestamp: 13; another command's reply: 11
    ∷ row (hearing_in (answered false false 1009 word)) (12 ∷ 1 ∷ 0 ∷ row_of ParamVerify ∷ 1010 ∷ 5 ∷ 1010 ∷ 1 ∷ [])
    ∷ row (hearing_in (answered true false 1010 word)) (12 ∷ 1 ∷ 0 ∷ row_of ParamVerify ∷ 1010 ∷ 5 ∷ 1010 ∷ 1 ∷ [])
    ∷ row (hearing_in (answered false false 1009 weighed)) (13 ∷ 1 ∷ 0 ∷ row_of ParamVerify ∷ 1010 ∷ 5 ∷ 1010 ∷ 1 ∷ [])
    ∷ row (hearing (deliver_of commanded 1030 (ack_fields K.RefreshReady false false false seven cid 1010) zero_word))
    (11 ∷ row_of ParamVerify ∷ 1010 ∷ 5 ∷ 1010 ∷ [])
    -- once S-RefreshReady has gone since start: 11, also when it was answered Busy
    ∷ row (invoking (send_of (master ParamVerify) 1010 []).endpoint 7 [])
    (11 ∷ 1 ∷ 0 ∷ row_of ParamVerify ∷ 1010 ∷ 4 ∷ 0 ∷ 0 ∷ [])
    ∷ row (handing (invoke_in (alone ready_gone) 1040 0 7 [])) (11 ∷ 1 ∷ 0 ∷ row_of ParamVerify ∷ 1030 ∷ 4 ∷ 0 ∷ 0 ∷ [])
    -- the connection's end: by stop, by 9 in whatever call, by 19; nothing waits then, nor after the next start
    ∷ row (commanding (stop_of (waiting ParamVerify) 1010))
    (0 ∷ 0xF9010007 ∷ 1010 ∷ row_of Terminate ∷ 0 ∷ 0 ∷ 0 ∷ zero_word)
    ∷ row (handing (deliver_in (alone (waiting ParamVerify)) 1051 248 []))
    (0 ∷ 0 ∷ 0 ∷ row_of Terminate ∷ 1000 ∷ 0 ∷ 2 ∷ 0x54415245 ∷ [])
    ∷ row (handing (invoke_in (alone (waiting ParamVerify)) 1051 0 7 []))
    (9 ∷ 1 ∷ 0 ∷ row_of Terminate ∷ 1000 ∷ 0 ∷ 2 ∷ 0x54415245 ∷ [])
    ∷ row (commanding (send_of (with_requests 45 (waiting ParamVerify)) 1010 []))
    (19 ∷ 0 ∷ 0 ∷ row_of Terminate ∷ 45 ∷ 0 ∷ 0 ∷ [])
    ∷ row (commanding (start_of (in_state Close ready_gone) 1060)) (0 ∷ 0 ∷ 0 ∷ row_of Starting ∷ 0 ∷ 0 ∷ 0 ∷ [])
    ∷ []

-- ---- note 7: the last number of a row is the age that is shown and 1 more, or 0 for none
unfoldable pub ages_at_slave : List Case
ages_at_slave =
    -- 5 at acceptance at 6,180, and the ticks since
    row (aging first.endpoint 6180) (0 ∷ 0x05060708 ∷ 6 ∷ [])
    ∷ row (aging first.endpoint 6200) (0 ∷ 0x05060708 ∷ 26 ∷ [])
    -- what it sends in between changes nothing
    ∷ row (aging (send_of first.endpoint 6190 word).endpoint 6200) (0 ∷ 0x05060708 ∷ 26 ∷ [])
    -- a later value has its own age, 50, which is A; shown for the last time it is A + I
    ∷ row (aging (later 6230).endpoint 6230) (0 ∷ 0x01020304 ∷ 51 ∷ [])
    ∷ row (aging (later 6230).endpoint 6330) (0 ∷ 0x01020304 ∷ 151 ∷ [])
    ∷ []

unfoldable pub ages_at_master : List Case
ages_at_master =
    -- ahead by 53 and by 15 counts 0; 10 behind counts 10
    row (aging (taken_at_master 1067) 1067) (0 ∷ 1 ∷ 1 ∷ [])
    ∷ row (aging (taken_at_master 1067) 1167) (0 ∷ 1 ∷ 101 ∷ [])
    ∷ row (aging (taken_at_master 1105) 1110) (0 ∷ 1 ∷ 6 ∷ [])
    ∷ row (aging (taken_at_master 1130) 1135) (0 ∷ 1 ∷ 16 ∷ [])
    ∷ []

unfoldable pub no_ages : List Case
no_ages =
    -- fail-safe shows have none: before the first value, after the last one's time, after an end and a restart
    row (aging ready 6060) (1 ∷ 0 ∷ 0 ∷ [])
    ∷ row (aging (later 6230).endpoint 6331) (1 ∷ 0 ∷ 0 ∷ [])
    ∷ row (aging (stop_of first.endpoint 6190).endpoint 6200) (1 ∷ 0 ∷ 0 ∷ [])
    ∷ row (aging (restart_of (stop_of first.endpoint 6190).endpoint 7).endpoint 6200) (1 ∷ 0 ∷ 0 ∷ [])
    ∷ []

-- ---- note 11
unfoldable pub lent_slices : List Case
lent_slices =
    -- a slice shorter than the table: 2, before any clock step and with nothing changed, whatever the call
    row (answering (start_in short 6331 0)) (unchanged 2)
    ∷ row (answering (send_in short 6331 248 0 word)) (unchanged 2)
    ∷ row (answering (stop_in short 6331 248 0)) (unchanged 2)
    ∷ row (answering (restart_in short 6331 0 7)) (unchanged 2)
    ∷ row (answering (set_not_ready_in short 6331 0 true)) (unchanged 2)
    ∷ row (answering (set_result_in short 6331 0 word)) (unchanged 2)
    ∷ row (answering (clear_result_in short 6331 0)) (unchanged 2)
    ∷ row (answering (invoke_in short 6331 0 7 [])) (unchanged 2)
    ∷ row (answering (show_in short 6331 248 0)) (unchanged 2)
    ∷ row (answering (deliver_in short 6331 248 [])) (unchanged 2)
    ∷ row (answering (deliver_in short 6331 248 arrived)) (unchanged 2)
    -- after 1: a reading before the last, and one above the limit
    ∷ row (answering (show_in short 6229 248 0)) (unchanged 1)
    ∷ row (answering (show_in short 281474976579584 248 0)) (unchanged 1)
    -- before 9, a short output's 2, 3 and 4, which come after the clock step
    ∷ row (answering (start_in whole 6331 0)) (stepped_to 9 1)
    ∷ row (answering (show_in short 6331 247 0)) (unchanged 2)
    ∷ row (answering (show_in whole 6331 247 0)) (stepped_to 2 0)
    ∷ row (answering (start_in short 6331 2)) (unchanged 2)
    ∷ row (answering (start_in whole 6331 2)) (stepped_to 3 0)
    ∷ row (answering (deliver_in short 6331 248 (0 ∷ []))) (unchanged 2)
    ∷ row (answering (deliver_in whole 6331 248 (0 ∷ []))) (stepped_to 4 0)
    -- lent whole again: 6,331 is not the last reading, and the value is shown
    ∷ row (answering (show_in (whole_after (show_in short 6331 248 0)) 6330 248 0))
    (0 ∷ 1 ∷ 4 ∷ 0 ∷ 6330 ∷ 2 ∷ as_it_was ++ blank)
    -- a record past the table stays, is no entry (3), and no frame is its (8)
    ∷ row (answering (deliver_in longer 6240 248 arrived)) (0 ∷ 1 ∷ 0 ∷ 0 ∷ 6240 ∷ 1 ∷ renewed ++ as_it_was)
    ∷ row (answering (deliver_in longer 6331 248 [])) (0 ∷ 0 ∷ 0 ∷ 0 ∷ 6331 ∷ 1 ∷ ended ++ as_it_was)
    ∷ row (answering (stop_in longer 6240 248 1)) (3 ∷ 0 ∷ 0 ∷ 0 ∷ 6240 ∷ 1 ∷ as_it_was ++ as_it_was)
    ∷ row (answering (deliver_in (gateway_of 0 (in_refresh ∷ [])) 6331 248 arrived))
    (8 ∷ 0 ∷ 0 ∷ 0 ∷ 6331 ∷ 0 ∷ as_it_was)
    -- no connections and no records: not shorter
    ∷ row (answering (show_in unloaded 5 248 0)) (3 ∷ 0 ∷ 0 ∷ 0 ∷ 5 ∷ 0 ∷ [])
    ∷ []

unfoldable pub loadings : List Case
loadings =
    -- the first records are the list's connections, and the others stay
    row (loading (connections 2) (replicate 3 in_refresh)) (0 ∷ 0 ∷ 2 ∷ blank ++ (blank ++ as_it_was))
    -- a slice that is too short: 2; it stays, and the table is of no connections
    ∷ row (loading (connections 2) (in_refresh ∷ [])) (2 ∷ 0 ∷ 0 ∷ as_it_was)
    ∷ row (loading (connections 2) []) (2 ∷ 0 ∷ 0 ∷ [])
    ∷ row (answering (show_in (loaded_of 7 (connections 2) (in_refresh ∷ [])).lent 5 248 0))
    (3 ∷ 0 ∷ 0 ∷ 0 ∷ 5 ∷ 0 ∷ as_it_was)
    -- after 18: one CID twice, no words
    ∷ row (loading (connections 1 ++ connections 1) (in_refresh ∷ [])) (18 ∷ 0 ∷ 0 ∷ as_it_was)
    ∷ row (loading [] []) (18 ∷ 0 ∷ 0 ∷ [])
    -- 9 connections pass, 65 do not
    ∷ row (loading_all 9) (0 ∷ 9 ∷ 0x01088008 ∷ [])
    ∷ row (loading_all 65) (18 ∷ 0 ∷ 0 ∷ [])
    ∷ []

-- 64 pass
unfoldable pub full_table : List Case
full_table = row (loading_all 64) (0 ∷ 64 ∷ 0x013F803F ∷ []) ∷ []

-- documents 01 and 02, but for note 6
abbrev pub main_cases : List Case
main_cases =
    edges ++ (empty_cycles ++ (busy_replies ++ (request_limits
    ++ (results ++ (user_results ++ (commands ++ (command_replies ++ (ages_at_slave ++ (ages_at_master
    ++ (no_ages ++ (lent_slices ++ (loadings ++ full_table))))))))))))

-- each row gives what the paper states
unfoldable pub Hold : List Case → Type 0
Hold cs = map (λ (c : Case). c.given) cs ≡ map (λ (c : Case). c.stated) cs
