-- A frame that can be written is written whole to an output of 248 bytes or more; and every frame that an endpoint
-- writes can be.
use mathlib.Core.Path.{◌≡◌, refl, ◌∙◌}
use Rattle.std.specs.Prelude.{Option, ℕ}
use mathlib.Core.Bool.{Bool, true, false, ◌&&◌, ◌||◌, not, cond, or-true}
use mathlib.Core.List.{List}
use Prim.Native.Nat.{ℕ, ◌+◌, ◌-◌, ◌*◌, ◌%◌, ◌^◌, ◌≤◌, ◌<◌}
use native.Mathlib.Omega.{arith}
use lib.Dec.{eqb, leb, lit<}
use lib.ListN.{length, take, drop, replicate, length-append, length-drop}
use lib.Seq.{length-take-le, take_all}
use borrow.Author.Tests.{le-leb, leb-true, leb-false, lt-ltb, eq-eqb}
use Rattle.frame.specs.declared.Command.{Command}
use Rattle.frame.specs.declared.Command.TheVariants as K
use Rattle.frame.specs.declared.Fields.{Fields}
use Rattle.frame.specs.Control.{is, is_absent, waits_for_station, may_be_busy, is_joined, has_form}
use Rattle.frame.specs.Writing.{frame_bytes, is_body_length, is_writable, written_of, head_of, HeadSays}
use mathlib.Mathlib.Data.Bool.Basic.{and_elim_left as and_left, and_elim_right as and_right, and_intro as both}
use Rattle.frame.proofs.Lengths.{can_be_written}
use Rattle.frame.proofs.Written.{written}
use Rattle.words.specs.Output.{over}
use Rattle.errors.specs.Reading.{is_record, record_of}
use Rattle.errors.proofs.ReadBack.{round_trip}
use Rattle.endpoint.specs.declared.Settings.{Settings}
use Rattle.endpoint.specs.declared.State.{State}
use Rattle.endpoint.specs.declared.State.TheVariants.{Close, Starting, EstablishPending, Establish, ParamVerify}
use Rattle.endpoint.specs.declared.State.TheVariants.{FuncRunning, RefreshPending, Refresh, Terminate}
use Rattle.endpoint.specs.declared.State.TheVariants.{TerminateMore}
use Rattle.endpoint.specs.declared.Queue.{Queue}
use Rattle.endpoint.specs.declared.Queue.TheVariants as Q
use Rattle.endpoint.specs.Endpoint.{Endpoint, Words}
use Rattle.endpoint.specs.Table.{request_of}
use Rattle.endpoint.specs.Due.{is_command_due, queued_in, request_due}
use Rattle.endpoint.specs.Time.{span, time_of}
use Rattle.transitions.specs.ByCall.{measurement_after}
use Rattle.steps.specs.Frames.{setup_data, is_count, width_of, padded_of, handed_over, is_record_count, record_width}
use Rattle.steps.specs.Frames.{record_in, data_of, due_data, send_width, show_width, session_of, session_with, sent_fields}
use Rattle.steps.specs.Frames.{ack_fields, baseline_of, request_fields, refresh_fields, disconnect_fields, reply_fields}
use Rattle.steps.specs.Frames.{measurement_fields, has_result, is_performed, is_busy, reply_data}
use Rattle.steps.proofs.Keeps.{bcase}

-- the frame of the fields, all of it, and the rest of the output stays
pub record WholeSays (f : Fields) (body out out' : List ℕ) (count : ℕ) : Type 0 where
  pub counted : count ≡ length (frame_bytes f body)
  pub output : out' ≡ over (frame_bytes f body) out

pub whole : (f : Fields) (body out : List ℕ) {out' : List ℕ} {count : ℕ} → 248 ≤ length out
    → is_writable f (length body) ≡ true
    → HeadSays (head_of f) body out out' count → WholeSays f body out out' count
unfolding written_of
whole f body out h w s =
    let c = can_be_written f (length body) w in
    let x = written f body out w s in
    let t : (is_writable f (length body) && leb (48 + 2 * length body) (length out)) ≡ true =
    both w (le-leb (48 + 2 * length body) (length out) (omega arith)) in
    record { counted = rw t at x.counted; output = rw t at x.left }

-- ---- lengths of bodies
pub setup_length : (s : Settings) (k : Command) → is_body_length (length (setup_data s k)) ≡ true
unfolding setup_data
setup_length s K.Connect = refl
setup_length s K.ConfirmNetwork = refl
setup_length s K.VerifyStation = refl
setup_length s K.InvokeFunc = refl
setup_length s K.ReadErrorInfo = refl
setup_length s K.WriteErrorInfo = refl
setup_length s K.RefreshReady = refl
setup_length s K.RefreshMo = refl
setup_length s K.RefreshGo = refl
setup_length s K.Refresh = refl
setup_length s K.Disconnect = refl

pub value_length : (words : ℕ) → is_body_length (width_of words) ≡ true
value_length words = by_test (is_count words) refl
  where
    by_test : (b : Bool) → is_count words ≡ b → is_body_length (4 * cond b words 1) ≡ true
    by_test true h =
        let l = leb-true 1 words (and_left (leb 1 words) (leb words 25) h) in
        let m = leb-true words 25 (and_right (leb 1 words) (leb words 25) h) in
        both (le-leb 4 (4 * words) (omega arith))
        (both (le-leb (4 * words) 100 (omega arith)) (eq-eqb (4 * words % 4) 0 (omega arith)))
    by_test false h = refl

pub width_le : (words : ℕ) → width_of words ≤ 100
width_le words =
    leb-true (width_of words) 100
    (and_left (leb (width_of words) 100) _ (and_right (leb 4 (width_of words)) _ (value_length words)))

-- an array of 100
pub padded_length : (b : List ℕ) → length (padded_of b) ≡ 100
padded_length b =
    length-append (take 100 b) (drop (length b) (replicate {A = ℕ} 100 0)) ∙ by_test (leb 100 (length b)) refl
  where
    by_test : (t : Bool) → leb 100 (length b) ≡ t
        → length (take 100 b) + length (drop (length b) (replicate {A = ℕ} 100 0)) ≡ 100
    by_test true h =
        let l = leb-true 100 (length b) h in
        rw (length-take-le 100 b l, length-drop) (omega (arith, l))
    by_test false h =
        let l = leb-false 100 (length b) h in
        rw (take_all 100 b (omega (arith, l)), length-drop) (omega (arith, l))

-- the words that its user handed over: as many as are counted
pub handed_length : (w : Words) → length (handed_over w) ≡ width_of w.count
unfolding handed_over
handed_length w =
    length-take-le (width_of w.count) (padded_of w.bytes)
    (rw (padded_length w.bytes) (width_le w.count))

-- the error record likewise
pub record_width_length : (words : ℕ) → is_body_length (record_width words) ≡ true
record_width_length words = by_test (is_record_count words) refl
  where
    by_test : (b : Bool) → is_record_count words ≡ b → is_body_length (4 * cond b words 4) ≡ true
    by_test true h =
        let l = leb-true 4 words (and_left (leb 4 words) (leb words 14) h) in
        let m = leb-true words 14 (and_right (leb 4 words) (leb words 14) h) in
        both (le-leb 4 (4 * words) (omega arith))
        (both (le-leb (4 * words) 100 (omega arith)) (eq-eqb (4 * words % 4) 0 (omega arith)))
    by_test false h = refl

pub record_width_le : (words : ℕ) → record_width words ≤ 100
record_width_le words =
    leb-true (record_width words) 100
    (and_left (leb (record_width words) 100) _ (and_right (leb 4 (record_width words)) _ (record_width_length words)))

pub record_length : (w : Words) → length (record_in w) ≡ record_width w.count
unfolding record_in
record_length w =
    length-take-le (record_width w.count) (padded_of w.bytes)
    (rw (padded_length w.bytes) (record_width_le w.count))

-- what is an error record has 16 to 56 bytes, a whole number of words
pub record_bytes_law : (b : List ℕ) → is_record b ≡ true → (length b ≤ 56) × (is_body_length (length b) ≡ true)
record_bytes_law b h =
    let q = round_trip.long b h in
    let n = (record_of b).count in
    let l : length b ≡ 16 + 4 * n = q.0 in
    let m : n ≤ 10 = q.1 in (
      omega (arith, l, m),
      both (le-leb 4 (length b) (omega (arith, l)))
          (both (le-leb (length b) 100 (omega (arith, l, m))) (eq-eqb (length b % 4) 0 (omega (arith, l)))),
    )

-- what a request of a master carries, and a slave's reply
data_length : (e : Endpoint) (k : Command) → is_body_length (length (data_of e k)) ≡ true
data_length e k =
    bcase (is k K.InvokeFunc) (λ h. rw (h, handed_length e.words) (value_length e.words.count))
    (λ h. rw h (bcase (is k K.WriteErrorInfo)
    (λ i. rw (i, record_length e.errorinfo) (record_width_length e.errorinfo.count))
    (λ i. rw i (setup_length e.settings k))))

pub due_length : (e : Endpoint) → is_body_length (length (due_data e)) ≡ true
due_length e = data_length e (request_due e)

pub reply_length : (e : Endpoint) (k : Command) (done : Bool) (body : List ℕ) → is_body_length (length body) ≡ true
    → is_body_length (length (reply_data e k done body)) ≡ true
reply_length e k done body l =
    bcase (is_performed e k (length body))
    (λ h. rw (h, handed_length e.words) (value_length e.words.count))
    (λ h. rw h (bcase (is k K.ReadErrorInfo && done)
    (λ i. rw (i, record_length e.errorinfo) (record_width_length e.errorinfo.count)) (λ i. rw i l)))

-- ---- the form of each frame
-- a request carries no session number, or is not S-Connect
abbrev Carried : Option ℕ → Command → Type 0
Carried n k = (is_absent n || not (is k K.Connect)) ≡ true

carried : (e : Endpoint) (k : Command) → Carried (session_with e k) k
carried e k = bcase (is k K.Connect) (λ h. rw h) (λ h. rw h (or-true (is_absent (session_of e))))

request_form : (s : State) (n : Option ℕ) (connection timestamp t measured : ℕ) → Carried n (request_of s)
    → has_form (sent_fields (request_of s) false false n connection timestamp (baseline_of (request_of s) t measured)) ≡ true
unfolding has_form
request_form Close n connection timestamp t measured c = c
request_form Starting n connection timestamp t measured c = c
request_form EstablishPending n connection timestamp t measured c = c
request_form Establish n connection timestamp t measured c = c
request_form ParamVerify n connection timestamp t measured c = c
request_form FuncRunning n connection timestamp t measured c = c
request_form RefreshPending n connection timestamp t measured c = rw (or-true (eqb ((t - measured) % 65536) 0)) c
request_form Refresh n connection timestamp t measured c = c
request_form Terminate n connection timestamp t measured c = c
request_form TerminateMore n connection timestamp t measured c = c

-- OBL has 16 bits
pub baseline_fits_law : (k : Command) (t measured : ℕ) → baseline_of k t measured < 65536
baseline_fits_law k t measured = go (is k K.RefreshGo)
  where
    go : (b : Bool) → cond b ((t - measured) % 65536) 0 < 65536
    go true = omega arith
    go false = lit< tt

-- a reply: to any command but S-Refresh and S-Disconnect
reply_form : (k : Command) (busy error sequence : Bool) (n : Option ℕ) (connection timestamp : ℕ)
    → is k K.Refresh ≡ false → is k K.Disconnect ≡ false → (not busy || may_be_busy k) ≡ true
    → (not sequence || is_joined k) ≡ true → has_form (ack_fields k busy error sequence n connection timestamp) ≡ true
unfolding has_form
reply_form k busy error sequence n connection timestamp r d b s =
    rw (r, d, b, s, or-true (not error), or-true (is_absent n))

-- Offset op seq is repeated where it may stand
joined_fits : (j s : Bool) → (not (j && s) || j) ≡ true
joined_fits true s = or-true (not s)
joined_fits false s = refl

-- S-RefreshGO in Refresh, or S-RefreshMO
measurement_form : (go sequence : Bool) (n : Option ℕ) (connection timestamp t measured : ℕ)
    → let k = cond go K.RefreshGo K.RefreshMo in
    has_form (sent_fields k sequence false n connection timestamp (baseline_of k t measured)) ≡ true
unfolding has_form
measurement_form true sequence n connection timestamp t measured =
    rw (or-true (eqb ((t - measured) % 65536) 0), or-true (not sequence), or-true (is_absent n))
measurement_form false sequence n connection timestamp t measured = rw (or-true (not sequence), or-true (is_absent n))

queued_form : (q : Queue) (n : Option ℕ) (connection timestamp t measured : ℕ) → Carried n (queued_in q)
    → has_form (sent_fields (queued_in q) false false n connection timestamp (baseline_of (queued_in q) t measured)) ≡ true
unfolding has_form
queued_form Q.Empty n connection timestamp t measured c = c
queued_form Q.InvokeFunc n connection timestamp t measured c = c
queued_form Q.ReadErrorInfo n connection timestamp t measured c = c
queued_form Q.WriteErrorInfo n connection timestamp t measured c = c
queued_form Q.Closed n connection timestamp t measured c = c

-- the queued command in S-RefreshReady's place
due_form : (e : Endpoint) (n : Option ℕ) (connection timestamp t measured : ℕ) → Carried n (request_due e)
    → has_form (sent_fields (request_due e) false false n connection timestamp (baseline_of (request_due e) t measured)) ≡ true
due_form e n connection timestamp t measured c =
    bcase (is_command_due e) (λ h. rw h (queued_form e.setup.queue n connection timestamp t measured (rw h at c)))
    (λ h. rw h (request_form e.state n connection timestamp t measured (rw h at c)))

-- Busy in the replies that may have it: a done, n not ready, w waits for the station, i S-InvokeFunc, r has its result
busy_fits_law : (a n w i r : Bool) → (not (a && ((n && w) || (i && not r))) || (w || i)) ≡ true
busy_fits_law false n w i r = refl
busy_fits_law true true true i r = refl
busy_fits_law true true false true r = or-true (not (not r))
busy_fits_law true true false false r = refl
busy_fits_law true false true i r = or-true (not (i && not r))
busy_fits_law true false false true r = or-true (not (not r))
busy_fits_law true false false false r = refl

-- a timestamp below 2^48 and a body's length complete the form
writable : (f : Fields) (n : ℕ) → has_form f ≡ true → f.timestamp < 2 ^ 48 → is_body_length n ≡ true
    → is_writable f n ≡ true
unfolding is_writable
writable f n h t l = both h (both (lt-ltb f.timestamp (2 ^ 48) t) l)

-- ---- every frame that an endpoint writes can be written
module _ (e : Endpoint) (t : ℕ) where
  pub request_writable : is_writable (request_fields e t) (length (due_data e)) ≡ true
  request_writable =
      writable (request_fields e t) (length (due_data e))
      (due_form e (session_with e (request_due e)) e.settings.connection (time_of e t) t e.setup.measured
      (carried e (request_due e))) (omega arith) (due_length e)

  pub measurement_writable : (go : Bool) → let k = cond go K.RefreshGo K.RefreshMo in
      is_writable (measurement_fields e k t) (length (setup_data e.settings k)) ≡ true
  measurement_writable go =
      let k = cond go K.RefreshGo K.RefreshMo in
      writable (measurement_fields e k t) (length (setup_data e.settings k))
      (measurement_form go (measurement_after k t e.measurement).sequence (session_of e)
      e.settings.connection (time_of e t) t e.setup.measured) (omega arith) (setup_length e.settings k)

  pub refresh_writable : (n : ℕ) → is_body_length n ≡ true → is_writable (refresh_fields e t) n ≡ true
  unfolding has_form
  refresh_writable n l = writable (refresh_fields e t) n (or-true (is_absent (session_of e))) (omega arith) l

  pub disconnect_writable : is_writable (disconnect_fields e t) (length (setup_data e.settings K.Disconnect)) ≡ true
  unfolding has_form
  disconnect_writable =
      writable (disconnect_fields e t) (length (setup_data e.settings K.Disconnect)) (or-true (is_absent (session_of e)))
      (omega arith)
      (setup_length e.settings K.Disconnect)

  pub reply_writable : (f : Fields) (done error : Bool) (body : List ℕ) → is f.command K.Refresh ≡ false
      → is f.command K.Disconnect ≡ false → is_body_length (length body) ≡ true
      → is_writable (reply_fields e f (done && is_busy e f.command (length body)) error)
      (length (reply_data e f.command done body)) ≡ true
  reply_writable f done error body r d l =
      let busy = done && is_busy e f.command (length body) in
      writable (reply_fields e f busy error) (length (reply_data e f.command done body))
      (reply_form f.command busy error (is_joined f.command && f.sequence) (session_of e)
      e.settings.connection (f.timestamp % span) r d
      (busy_fits_law done e.station.notready (waits_for_station f.command) (is f.command K.InvokeFunc)
      (has_result e (length body))) (joined_fits (is_joined f.command) f.sequence)) (omega arith) (reply_length e f.command done body l)

pub send_width_length : (s : Settings) → is_body_length (send_width s) ≡ true
send_width_length s = value_length (cond s.slave s.slavewords s.masterwords)

pub show_width_length : (s : Settings) → is_body_length (show_width s) ≡ true
show_width_length s = value_length (cond s.slave s.masterwords s.slavewords)
