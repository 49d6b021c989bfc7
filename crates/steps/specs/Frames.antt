-- The frames that an endpoint writes: fields and body.
use Rattle.std.specs.Prelude.{Bool, true, false, ◌&&◌, ◌||◌, not, cond, List, [], ◌∷◌, ◌++◌, ℕ, ◌+◌, ◌-◌, ◌*◌, ◌%◌, eqb, leb, length, take, drop, replicate}
use Rattle.std.specs.Prelude.{None, Option}
use Rattle.frame.specs.declared.Command.{Command}
use Rattle.frame.specs.declared.Command.TheVariants as K
use Rattle.frame.specs.declared.Fields.{Fields}
use Rattle.words.specs.Words.{word_bytes}
use Rattle.frame.specs.Control.{is, is_joined, narrowed}
use Rattle.frame.specs.Writing.{frame_bytes}
use Rattle.endpoint.specs.declared.Settings.{Settings}
use Rattle.endpoint.specs.Endpoint.{Endpoint, Words}
use Rattle.endpoint.specs.Due.{request_due, is_held_back}
use Rattle.endpoint.specs.Time.{span, time_of}
use Rattle.transitions.specs.ByCall.{measurement_after}

-- what a call writes: a frame for the bus, or bytes for its user
pub data Written : Type 0 where
  nothing : Written
  frame : Fields → List ℕ → Written
  value : List ℕ → Written

abbrev pub bytes_of : Written → List ℕ
bytes_of nothing = []
bytes_of (frame f body) = frame_bytes f body
bytes_of (value bytes) = bytes

-- words as bytes
abbrev pub words_bytes : List ℕ → List ℕ
words_bytes [] = []
words_bytes (w ∷ ws) = word_bytes w ++ words_bytes ws

-- the words that a request carries, in setup or of a measurement, and that the slave compares; S-Disconnect's zero word is not looked at, and
-- those of S-InvokeFunc and S-WriteErrorInfo are its user's (data_of)
abbrev pub setup_words : Settings → Command → List ℕ
setup_words s K.Connect = 1 ∷ []
setup_words s K.ConfirmNetwork = s.interval ∷ s.roundtrip ∷ s.age ∷ (32 * s.masterwords + s.slavewords) ∷ []
setup_words s K.VerifyStation = s.station ∷ []
setup_words s K.InvokeFunc = 0 ∷ []
setup_words s K.ReadErrorInfo = 0 ∷ []
setup_words s K.WriteErrorInfo = 0 ∷ []
setup_words s K.RefreshReady = 0 ∷ []
setup_words s K.RefreshMo = 0 ∷ []
setup_words s K.RefreshGo = 0 ∷ []
setup_words s K.Refresh = 0 ∷ []
setup_words s K.Disconnect = 0 ∷ []

unfoldable pub setup_data : Settings → Command → List ℕ
setup_data s k = words_bytes (setup_words s k)

-- S-Data has 1 to 25 words
abbrev pub is_count : ℕ → Bool
is_count words = leb 1 words && leb words 25

-- bytes of so many words; a count outside 1 to 25, which no loaded list has, is taken for 1
abbrev pub width_of : ℕ → ℕ
width_of words = 4 * cond (is_count words) words 1

-- bytes in an array of 100, with zeros after them
abbrev pub padded_of : List ℕ → List ℕ
padded_of body = take 100 body ++ drop (length body) (replicate 100 0)

-- the words that its user has handed over, as bytes, from the front of what is held; past its end there are zeros
unfoldable pub handed_over : Words → List ℕ
handed_over w = take (width_of w.count) (padded_of w.bytes)

-- an error record has 4 to 14 words
abbrev pub is_record_count : ℕ → Bool
is_record_count words = leb 4 words && leb words 14

abbrev pub record_width : ℕ → ℕ
record_width words = 4 * cond (is_record_count words) words 4

-- the error record that its user has handed over, likewise
unfoldable pub record_in : Words → List ℕ
record_in w = take (record_width w.count) (padded_of w.bytes)

-- what is kept of an error record: an array of 56 bytes, with zeros after it
abbrev pub padded_record : List ℕ → List ℕ
padded_record body = take 56 (padded_of body)

-- what a request of a master carries: its user's words, its user's error record, or those of a setup request
abbrev pub data_of : Endpoint → Command → List ℕ
data_of e k =
    cond (is k K.InvokeFunc) (handed_over e.words)
    (cond (is k K.WriteErrorInfo) (record_in e.errorinfo) (setup_data e.settings k))

-- what the request due carries
abbrev pub due_data : Endpoint → List ℕ
due_data e = data_of e (request_due e)

-- bytes of the value that an endpoint sends, and of the one that it shows
abbrev pub send_width : Settings → ℕ
send_width s = width_of (cond s.slave s.slavewords s.masterwords)

abbrev pub show_width : Settings → ℕ
show_width s = width_of (cond s.slave s.masterwords s.slavewords)

-- the session number that an endpoint's frames carry (of 16 bits), if it has one; an S-Connect request carries none
abbrev pub session_of : Endpoint → Option ℕ
session_of e = narrowed e.session

abbrev pub session_with : Endpoint → Command → Option ℕ
session_with e k = cond (is k K.Connect) None (session_of e)

-- a frame that is no reply: a request, S-Refresh or S-Disconnect; Application tells the direction
abbrev pub sent_fields : Command → Bool → Bool → Option ℕ → ℕ → ℕ → ℕ → Fields
sent_fields k sequence application session connection timestamp baseline = record {
  command = k;
  ack = false;
  busy = false;
  error = false;
  sequence = sequence;
  application = application;
  subconnection = session;
  connection = connection;
  timestamp = timestamp;
  baseline = baseline;
}

-- a slave's reply
abbrev pub ack_fields : Command → Bool → Bool → Bool → Option ℕ → ℕ → ℕ → Fields
ack_fields k busy error sequence session connection timestamp = record {
  command = k;
  ack = true;
  busy = busy;
  error = error;
  sequence = sequence;
  application = true;
  subconnection = session;
  connection = connection;
  timestamp = timestamp;
  baseline = 0;
}

-- OBL of the request k: m3 − m2 in S-RefreshGO, 16 bits of it
abbrev pub baseline_of : Command → ℕ → ℕ → ℕ
baseline_of k t measured = cond (is k K.RefreshGo) ((t - measured) % 65536) 0

-- a master's setup request
abbrev pub request_fields : Endpoint → ℕ → Fields
request_fields e t =
    sent_fields (request_due e) false false (session_with e (request_due e)) e.settings.connection (time_of e t)
    (baseline_of (request_due e) t e.setup.measured)

-- a master's S-RefreshMO or S-RefreshGO in Refresh
abbrev pub measurement_fields : Endpoint → Command → ℕ → Fields
measurement_fields e k t =
    sent_fields k (measurement_after k t e.measurement).sequence false (session_of e) e.settings.connection
    (time_of e t) (baseline_of k t e.setup.measured)

-- S-Refresh, of either end
abbrev pub refresh_fields : Endpoint → ℕ → Fields
refresh_fields e t =
    sent_fields K.Refresh false e.settings.slave (session_of e) e.settings.connection (time_of e t) 0

-- a master's S-Disconnect
abbrev pub disconnect_fields : Endpoint → ℕ → Fields
disconnect_fields e t = sent_fields K.Disconnect false false (session_of e) e.settings.connection (time_of e t) 0

-- the reply to a request: its Cmd, its Offset op seq and its timestamp (of 48 bits)
abbrev pub reply_fields : Endpoint → Fields → Bool → Bool → Fields
reply_fields e f busy error =
    ack_fields f.command busy error (is_joined f.command && f.sequence) (session_of e) e.settings.connection
    (f.timestamp % span)

-- a station's result is set, and of a request's length
abbrev pub has_result : Endpoint → ℕ → Bool
has_result e n = is_count e.words.count && eqb n (width_of e.words.count)

-- S-InvokeFunc has its result: "which while set is the reply if of the same length"
abbrev pub is_performed : Endpoint → Command → ℕ → Bool
is_performed e k n = is k K.InvokeFunc && has_result e n

-- Busy: the station is not ready, or "else work is in progress"
abbrev pub is_busy : Endpoint → Command → ℕ → Bool
is_busy e k n = is_held_back e k || (is k K.InvokeFunc && not (has_result e n))

-- a station's error record is set
abbrev pub has_record : Endpoint → Bool
has_record e = is_record_count e.errorinfo.count

-- the S-Data of the reply: the result, the error record where the request is done, or the request's own
abbrev pub reply_data : Endpoint → Command → Bool → List ℕ → List ℕ
reply_data e k done body =
    cond (is_performed e k (length body)) (handed_over e.words)
    (cond (is k K.ReadErrorInfo && done) (record_in e.errorinfo) body)

-- a request: no reply, and neither S-Refresh nor S-Disconnect; a setup request where its writer is in setup
abbrev pub is_request : Fields → Bool
is_request f = not f.ack && not (is f.command K.Refresh || is f.command K.Disconnect)
