-- What error records say changes nothing but what carries them, to be read beside document 02, note 6: "Two runs alike
-- but for valid records' dates and details, exchanged one to one throughout, counts kept and check words to match, show
-- the same values."
use Rattle.std.specs.Prelude.{◌≡◌, Bool, true, false, ◌&&◌, ◌||◌, not, List, [], ◌∷◌, ℕ, length}
use Rattle.std.specs.Prelude.{Err, Ok}
use Rattle.frame.specs.Reading.{Reading}
use Rattle.frame.specs.Reading.{frame_with}
use Rattle.std.proofs.Math.Seq.{slice}
use Rattle.errors.specs.declared.ErrorRecord.{ErrorRecord}
use Rattle.errors.specs.Reading.{is_record}
use Rattle.errors.specs.Writing.{is_valid, bytes_of}
use Rattle.errors.specs.RoundTrip.{Typed}
use Rattle.frame.specs.declared.Command.TheVariants as K
use Rattle.frame.specs.declared.Fields.{Fields}
use Rattle.frame.specs.Control.{is}
use Rattle.frame.specs.Reading.{reading_of}
use Rattle.frame.specs.Writing.{frame_bytes}
use Rattle.frame.specs.RoundTrip.{Readable}
use Rattle.endpoint.specs.declared.Queue.{Queue}
use Rattle.endpoint.specs.declared.Queue.TheVariants as Q
use Rattle.endpoint.specs.Endpoint.{Endpoint}
use Rattle.steps.specs.Frames.{Written, frame, value, record_in, has_record}
use Rattle.steps.specs.Frames as W
use Rattle.steps.specs.Steps.{Act, set_record, write_error}
use Rattle.steps.specs.Values.{hands_record}
use Rattle.records.specs.declared.Record.{Record}
use Rattle.records.specs.Records.{endpoint_of}
use Rattle.gateway.specs.Parts.{with_error_info}
use Rattle.gateway.specs.declared.Gateway.{Gateway}
use Rattle.gateway.specs.Tables.{Lent, lent, record_at}
use Rattle.gateway.specs.Loading.{loaded_of}
use Rattle.gateway.specs.Calls.{Result}
use Rattle.runs.specs.Steps.{Call, act, send, deliver, show, call_in}

-- a record that can be written
pub record Valid (x : ErrorRecord) : Type 0 where
  pub typed : Typed x
  pub valid : is_valid x ≡ true

-- ---- "exchanged one to one .., counts kept": a map of valid records; "but for dates and details": it keeps whether more
-- follow
pub record OneToOne (P : ErrorRecord → ErrorRecord) : Type 0 where
  pub valid : (x : ErrorRecord) → Valid x → Valid (P x)
  pub once : (x y : ErrorRecord) → Valid x → Valid y → P x ≡ P y → x ≡ y
  pub count : (x : ErrorRecord) → Valid x → (P x).count ≡ x.count
  pub more : (x : ErrorRecord) → Valid x → (P x).more ≡ x.more

-- frames that carry an error record: S-WriteErrorInfo and its reply, and the reply to S-ReadErrorInfo
abbrev pub carries_record : Fields → Bool
carries_record f = is f.command K.WriteErrorInfo || (is f.command K.ReadErrorInfo && f.ack)

-- bytes that are such a frame, with a record in it
abbrev pub is_record_in : List ℕ → Reading → Bool
is_record_in s (Ok read) = carries_record read.fields && is_record (slice read.start read.end s)
is_record_in s (Err fault) = false

-- a master's deliver hands the station's record to its user: the reply to S-ReadErrorInfo
abbrev pub is_read_reply : Reading → Bool
is_read_reply (Ok read) = is read.fields.command K.ReadErrorInfo && read.fields.ack
is_read_reply (Err fault) = false

abbrev pub reads_record : Call → Bool
reads_record (act a n) = false
reads_record (send n v) = false
reads_record (deliver s) = is_read_reply (reading_of s)
reads_record (show n) = false

-- where the bytes of an error record count: where one is set, and at a master where one waits to be written
abbrev pub is_writing : Queue → Bool
is_writing Q.Empty = false
is_writing Q.InvokeFunc = false
is_writing Q.ReadErrorInfo = false
is_writing Q.WriteErrorInfo = true
is_writing Q.Closed = false

abbrev pub is_looked_at : Endpoint → Bool
is_looked_at e = has_record e || (not e.settings.slave && is_writing e.setup.queue)

module _ (P : ErrorRecord → ErrorRecord) where
  -- ---- "alike but for valid records' dates and details, exchanged": bytes that are a record's, and others
  pub data Exchanged : List ℕ → List ℕ → Type 0 where
    record' : (x : ErrorRecord) → Valid x → Exchanged (bytes_of x) (bytes_of (P x))
    other : (b : List ℕ) → is_record b ≡ false → Exchanged b b

  -- "check words to match": a frame with a record, and other bytes, those that are no frame too
  pub data ExchangedFrame : List ℕ → List ℕ → Type 0 where
    record' : (f : Fields) (x : ErrorRecord) → Valid x → carries_record f ≡ true → Readable f (bytes_of x)
        → ExchangedFrame (frame_bytes f (bytes_of x)) (frame_bytes f (bytes_of (P x)))
    other : (s : List ℕ) → is_record_in s (reading_of s) ≡ false → ExchangedFrame s s

  -- ---- one call of each run: what a user lends as a record and the frames that are delivered are exchanged
  pub data ExchangedAct : Act → Act → Type 0 where
    same : (a : Act) → hands_record a ≡ false → ExchangedAct a a
    sets : {b b' : List ℕ} → Exchanged b b' → ExchangedAct (set_record b) (set_record b')
    writes : {b b' : List ℕ} → Exchanged b b' → ExchangedAct (write_error b) (write_error b')

  pub data ExchangedCall : Call → Call → Type 0 where
    acts : {a a' : Act} (n : ℕ) → ExchangedAct a a' → ExchangedCall (act a n) (act a' n)
    sends : (n : ℕ) (v : List ℕ) → ExchangedCall (send n v) (send n v)
    delivers : {s s' : List ℕ} → ExchangedFrame s s' → ExchangedCall (deliver s) (deliver s')
    shows : (n : ℕ) → ExchangedCall (show n) (show n)

  -- ---- the connections: all is the same but the bytes of the error record; these are exchanged where they count
  pub record ExchangedRecord (r r' : Record) : Type 0 where
    pub same : r' ≡ with_error_info r r'.errorinfo
    pub errorinfo : is_looked_at (endpoint_of r) ≡ true
        → Exchanged (record_in (endpoint_of r).errorinfo) (record_in (endpoint_of r').errorinfo)

  pub record ExchangedLent (d d' : Lent) : Type 0 where
    pub gateway : d'.gateway ≡ d.gateway
    pub whole : length d'.records ≡ length d.records
    pub records : (i : ℕ) → ExchangedRecord (record_at d.records i) (record_at d'.records i)

  -- ---- what a call of each run comes to
  -- frames for the bus correspond by the map, so that each can be delivered in its run; what a user is handed is the same,
  -- but for a station's record
  pub data ExchangedWritten (c : Call) : Written → Written → Type 0 where
    same : ExchangedWritten c W.nothing W.nothing
    frames : {f : Fields} {b b' : List ℕ} → ExchangedFrame (frame_bytes f b) (frame_bytes f b')
        → ExchangedWritten c (frame f b) (frame f b')
    values : (v : List ℕ) → ExchangedWritten c (value v) (value v)
    records : {b b' : List ℕ} → reads_record c ≡ true → Exchanged b b' → ExchangedWritten c (value b) (value b')

  -- every answer and so its number, every entry, count and mark is the same; so is what is shown, which is a value
  pub record ExchangedResult (c : Call) (r r' : Result) : Type 0 where
    pub answer : r'.answer ≡ r.answer
    pub entry : r'.entry ≡ r.entry
    pub failsafe : r'.failsafe ≡ r.failsafe
    pub age : r'.age ≡ r.age
    pub count : length (W.bytes_of r'.writes) ≡ length (W.bytes_of r.writes)
    pub writes : ExchangedWritten c r.writes r'.writes
    pub lent : ExchangedLent r.lent r'.lent

  -- ---- two lists of calls, with the same clock readings and lengths of lent outputs, each call lent what the last left
  pub data ExchangedRuns : Lent → Lent → List (ℕ × ℕ × Call) → List (ℕ × ℕ × Call) → Type 0 where
    none : {d d' : Lent} → ExchangedLent d d' → ExchangedRuns d d' [] []
    next : {d d' : Lent} (t room : ℕ) (c c' : Call) {vs vs' : List (ℕ × ℕ × Call)}
        → ExchangedResult c (call_in d t room c) (call_in d' t room c')
        → ExchangedRuns (call_in d t room c).lent (call_in d' t room c').lent vs vs'
        → ExchangedRuns d d' ((t, room, c) ∷ vs) ((t, room, c') ∷ vs')

  -- the same, call by call
  pub data ExchangedCalls : List (ℕ × ℕ × Call) → List (ℕ × ℕ × Call) → Type 0 where
    none : ExchangedCalls [] []
    next : (t room : ℕ) {c c' : Call} {vs vs' : List (ℕ × ℕ × Call)} → ExchangedCall c c' → ExchangedCalls vs vs'
        → ExchangedCalls ((t, room, c) ∷ vs) ((t, room, c') ∷ vs')

pub record NonInterference : Type 0 where
  -- one list, loaded in both runs with one session number into slices that correspond
  pub loaded : (P : ErrorRecord → ErrorRecord) (number : ℕ) (ws : List ℕ) (g : Gateway) (rs rs' : List Record)
      → ExchangedLent P (lent g rs) (lent g rs')
      → ExchangedLent P (loaded_of number ws rs).lent (loaded_of number ws rs').lent
  -- from connections that correspond, for every list of calls
  pub runs : (P : ErrorRecord → ErrorRecord) → OneToOne P → (d d' : Lent) → ExchangedLent P d d'
      → (vs vs' : List (ℕ × ℕ × Call)) → ExchangedCalls P vs vs' → ExchangedRuns P d d' vs vs'
