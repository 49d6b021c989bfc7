-- The theorem's premises can be met: the day of week moved on by one is a map that is not the identity; for every such map
-- bytes and frames have their exchange; and a station's record is set, read and written in two runs.
use mathlib.Core.Path.{◌≡◌, refl, sym, ap, subst, ◌∙◌}
use Rattle.std.specs.Prelude.{Err, None, Ok, Option, Some, ℕ}
use Rattle.frame.specs.Reading.{Reading}
use Rattle.frame.specs.Reading.{frame_with}
use mathlib.Core.Bool.{Bool, true, false, cond, ◌&&◌, false≢true, true≢false}
use mathlib.Core.List.{List, [], ◌∷◌}
use mathlib.Mathlib.Data.Bool.Basic.{and_elim_left as and_left, and_elim_right as and_right}
use Prim.Native.Nat.{ℕ, zero, suc, ◌+◌, ◌%◌, ◌≤◌}
use native.Mathlib.Omega.{arith}
use lib.Dec.{leb, lit<}
use lib.ListN.{length, get_or, replicate}
use lib.Seq.{slice}
use borrow.Author.Tests.{le-leb, leb-true}
use Rattle.words.specs.Bytes.{Bytes, same}
use Rattle.crc.specs.Crc.{bit_step, bit_steps, byte_step, crc_from, crc}
use Rattle.errors.specs.declared.ErrorRecord.{ErrorRecord}
use Rattle.errors.specs.Calendar.{is_date, is_time, days_in, days_of}
use Rattle.errors.specs.Reading.{is_record, record_of, has_digits, has_count, more_follows}
use Rattle.errors.specs.Writing.{is_valid, date_bytes, bytes_of}
use Rattle.errors.proofs.ReadBack.{round_trip}
use Rattle.frame.specs.declared.Command.{Command}
use Rattle.frame.specs.declared.Command.TheVariants as K
use Rattle.frame.specs.declared.Fields.{Fields}
use Rattle.frame.specs.Control.{is, control_of, has_form}
use Rattle.frame.specs.Reading.{has_check_word, fields_in, reading_of_copies, reading_of}
use Rattle.frame.specs.Writing.{head_bytes, with_check_word, twice, sub_bytes, frame_bytes, is_writable}
use Rattle.frame.specs.RoundTrip.{SubconnectionFits, Readable}
use Rattle.frame.proofs.ReadBack.{round_trip as frame-trip}
use Rattle.steps.specs.Frames.{Written, nothing, frame, sent_fields, ack_fields, setup_data, handed_over, record_in}
use Rattle.steps.specs.Steps.{set_record}
use Rattle.steps.proofs.Keeps.{bcase}
use Rattle.settings.specs.Lists.{connection_at, settings_at, is_connection_at, is_new_at, are_connections, is_list}
use Rattle.gateway.specs.Tables.{Lent, lent, blank_record, endpoint_at, place_of, clock_step}
use Rattle.gateway.specs.Loading.{loaded_with, loaded_of}
use Rattle.runs.specs.Steps.{Call, act, deliver, call_in}
use Rattle.noninterference.specs.NonInterference.{Valid, OneToOne, carries_record, is_record_in, Exchanged}
use Rattle.noninterference.specs.NonInterference.{ExchangedFrame, ExchangedAct, ExchangedCall, ExchangedRecord}
use Rattle.noninterference.specs.NonInterference.{ExchangedLent, ExchangedRuns, ExchangedCalls}
use Rattle.noninterference.proofs.Records.{frames}
use Rattle.noninterference.proofs.NonInterference.{non_interference}

-- ---- the day of week, of 0 to 6, moved on by one
turned : ErrorRecord → ErrorRecord
turned x = record {
  date = x.date;
  time = x.time;
  weekday = (x.weekday + 1) % 7;
  count = x.count;
  details = x.details;
  more = x.more;
}

week_fits : (x : ErrorRecord) → is_valid x ≡ true → x.weekday ≤ 6
unfolding is_valid
week_fits x h =
    let a = and_right (leb x.date.year 9999) _ h in
    let b = and_right (is_date x.date.year x.date.month x.date.day) _ a in
    let c = and_right (is_time x.time.hour x.time.minute x.time.second) _ b in
    leb-true x.weekday 6 (and_left (leb x.weekday 6) _ c)

turned_valid : (x : ErrorRecord) → Valid x → Valid (turned x)
unfolding is_valid turned
turned_valid x v =
    let n = x.weekday in
    let l = week_fits x v.valid in
    let p : leb ((n + 1) % 7) 6 ≡ leb n 6 =
    le-leb ((n + 1) % 7) 6 (omega arith) ∙ sym (le-leb n 6 l) in
    record { typed = record { details = v.typed.details }; valid = rw p v.valid }

turned_once : (x y : ErrorRecord) → Valid x → Valid y → turned x ≡ turned y → x ≡ y
unfolding turned
turned_once x y v w e =
    let q : (x.weekday + 1) % 7 ≡ (y.weekday + 1) % 7 = ap (λ (z : ErrorRecord). z.weekday) e in
    let l = week_fits x v.valid in
    let m = week_fits y w.valid in
    let d : x.weekday ≡ y.weekday = omega (arith, q, l, m) in
    λ i. record {
      date = (e i).date;
      time = (e i).time;
      weekday = d i;
      count = (e i).count;
      details = (e i).details;
      more = (e i).more;
    }

one_to_one : OneToOne turned
unfolding turned
one_to_one = record {
  valid = turned_valid;
  once = turned_once;
  count = λ x v. refl;
  more = λ x v. refl;
}

-- ---- every map: what bytes say, and frames, can be exchanged
module _ (P : ErrorRecord → ErrorRecord) where
  valid_in : (b : List ℕ) → Bytes b → is_record b ≡ true → Valid (record_of b)
  valid_in b s h = record { typed = round_trip.typed b h; valid = (round_trip.back b s h).0 }

  bytes_exchanged : (b : List ℕ) → Bytes b → (b' : List ℕ) × Exchanged P b b'
  bytes_exchanged b s =
      bcase (is_record b)
      (λ h. (
        bytes_of (P (record_of b)),
        subst (λ (l : List ℕ). Exchanged P l (bytes_of (P (record_of b)))) (round_trip.back b s h).1
            (Exchanged.record' (record_of b) (valid_in b s h)),
      ))
      (λ h. (b, Exchanged.other b h))

  frame_exchanged : (s : List ℕ) → Bytes s → (s' : List ℕ) × ExchangedFrame P s s'
  frame_exchanged s y = go (reading_of s) refl
    where
      go : (r : Reading) → reading_of s ≡ r → (s' : List ℕ) × ExchangedFrame P s s'
      go (Err fault) e = (s, ExchangedFrame.other s (ap (is_record_in s) e))
      go (Ok read) e =
          let b = slice read.start read.end s in
          let x = record_of b in
          let w = frame-trip.back s read.fields read.start read.end y e in
          bcase (carries_record read.fields && is_record b)
          (λ h.
          let i = and_right (carries_record read.fields) (is_record b) h in
          let q = (round_trip.back b w.0.typed.bytes i).1 in
          let r : Readable read.fields b = record {
            baseline = w.0.typed.baseline;
            subconnection = w.0.typed.subconnection;
            formed = w.0.formed;
          } in (
            frame_bytes read.fields (bytes_of (P x)),
            subst (λ (l : List ℕ). ExchangedFrame P l (frame_bytes read.fields (bytes_of (P x)))) (ap (frame_bytes read.fields) q ∙ w.1)
                (ExchangedFrame.record' read.fields x (valid_in b w.0.typed.bytes i)
                (and_left (carries_record read.fields) (is_record b) h) (subst (Readable read.fields) (sym q) r)),
          ))
          (λ h. (s, ExchangedFrame.other s (ap (is_record_in s) e ∙ h)))

-- ---- two runs: a station whose record is set and then read, and that is handed one
list : List ℕ
list = 0x10000102 ∷ 0x20000103 ∷ 0x30000421 ∷ 0x40000064 ∷ 0x50000032 ∷ 0x60000032 ∷ 0x70000007 ∷ []

cid : ℕ
cid = 0x01020103

-- the station's session number
number : ℕ
number = 7

-- 29 February 2024, a Thursday, with one detail
thursday : ErrorRecord
thursday = record {
  date = record { year = 2024; month = 2; day = 29 };
  time = record { hour = 12; minute = 34; second = 56 };
  weekday = 4;
  count = 1;
  details = 7 ∷ replicate 9 0;
  more = false;
}

-- the same date, a Friday
not_same : same (bytes_of thursday) (bytes_of (turned thursday)) ≡ false
unfolding thursday turned date_bytes bytes_of
not_same = refl

is_valid_law : Valid thursday
unfolding thursday is_valid is_date days_in days_of
is_valid_law = record { typed = record { details = refl }; valid = refl }

-- an S-Connect request carries none
session : Bool → Option ℕ
session connects = cond connects None (Some number)

fits : (connects : Bool) → SubconnectionFits (session connects)
unfolding number session
fits true = tt
fits false = lit< tt

fields : ℕ → Command → Fields
fields t k = sent_fields k false false (session (is k K.Connect)) cid t 0

body_of : Command → List ℕ
body_of k = setup_data (settings_at list 0) k

-- a call that delivers a frame of the master's
delivered : ℕ → Command → List ℕ → ℕ × ℕ × Call
delivered t k body = (5001 + t, 248, deliver (frame_bytes (fields t k) body))

run : ErrorRecord → List (ℕ × ℕ × Call)
run x =
    delivered 10 K.Connect (body_of K.Connect)
    ∷ delivered 20 K.ConfirmNetwork (body_of K.ConfirmNetwork)
    ∷ delivered 30 K.VerifyStation (body_of K.VerifyStation)
    ∷ (5033, 0, act (set_record (bytes_of x)) 0)
    ∷ delivered 35 K.ReadErrorInfo (body_of K.ReadErrorInfo)
    ∷ delivered 40 K.WriteErrorInfo (bytes_of x) ∷ []

-- a frame that can be written, and carries no record or the one that is exchanged
plain : (t : ℕ) (k : Command) (body : List ℕ) → carries_record (fields t k) ≡ false
    → is_writable (fields t k) (length body) ≡ true
    → ExchangedFrame turned (frame_bytes (fields t k) body) (frame_bytes (fields t k) body)
unfolding fields
plain t k body n w =
    frames turned one_to_one (fields t k)
    (record { carried = λ q. absurd (true≢false (sym q ∙ n)); plain = λ q. refl })
    (record { baseline = lit< tt; subconnection = fits (is k K.Connect); formed = w })

met : ExchangedCalls turned (run thursday) (run (turned thursday))
unfolding list number session settings_at setup_data body_of fields delivered run is_writable has_form thursday turned
    date_bytes bytes_of
met =
    ExchangedCalls.next _ _ (ExchangedCall.delivers (plain 10 K.Connect (body_of K.Connect) refl refl))
    (ExchangedCalls.next _ _
    (ExchangedCall.delivers (plain 20 K.ConfirmNetwork (body_of K.ConfirmNetwork) refl refl))
    (ExchangedCalls.next _ _ (ExchangedCall.delivers (plain 30 K.VerifyStation (body_of K.VerifyStation) refl refl))
    (ExchangedCalls.next _ _ (ExchangedCall.acts 0 (ExchangedAct.sets (Exchanged.record' thursday is_valid_law)))
    (ExchangedCalls.next _ _ (ExchangedCall.delivers (plain 35 K.ReadErrorInfo (body_of K.ReadErrorInfo) refl refl))
    (ExchangedCalls.next _ _
    (ExchangedCall.delivers (ExchangedFrame.record' (fields 40 K.WriteErrorInfo) thursday is_valid_law refl
    (record { baseline = lit< tt; subconnection = fits false; formed = refl }))) ExchangedCalls.none)))))

-- ---- the theorem, from a blank slice of one record
loaded : Lent
loaded = (loaded_of number list (replicate 1 blank_record)).lent

blank : ExchangedRecord turned blank_record blank_record
blank = record { same = refl; errorinfo = λ q. absurd (false≢true q) }

blanks : ExchangedLent turned (lent (loaded_with 0) (replicate 1 blank_record)) (lent (loaded_with 0) (replicate 1 blank_record))
blanks = record { gateway = refl; whole = refl; records = at }
  where
    at : (i : ℕ) → ExchangedRecord turned (get_or (replicate 1 blank_record) i blank_record)
        (get_or (replicate 1 blank_record) i blank_record)
    at zero = blank
    at (suc i) = blank

told : ExchangedRuns turned loaded loaded (run thursday) (run (turned thursday))
unfolding loaded
told =
    non_interference.runs turned one_to_one loaded loaded
    (non_interference.loaded turned number list (loaded_with 0) (replicate 1 blank_record) (replicate 1 blank_record)
    blanks)
    (run thursday) (run (turned thursday)) met

-- ---- what each run writes: the station's replies, the last two with the record
wrote : Lent → List (ℕ × ℕ × Call) → List Written
wrote d [] = []
wrote d (v ∷ vs) = let r = call_in d v.0 v.1 v.2 in r.writes ∷ wrote r.lent vs

replied : ℕ → Command → List ℕ → Written
replied t k body = frame (ack_fields k false false false (Some number) cid t) body

replies : ErrorRecord → List Written
replies x =
    replied 10 K.Connect (body_of K.Connect)
    ∷ replied 20 K.ConfirmNetwork (body_of K.ConfirmNetwork)
    ∷ replied 30 K.VerifyStation (body_of K.VerifyStation)
    ∷ nothing ∷ replied 35 K.ReadErrorInfo (bytes_of x) ∷ replied 40 K.WriteErrorInfo (bytes_of x) ∷ []

computed : wrote loaded (run thursday) ≡ replies thursday
unfolding wrote replied replies loaded list cid number session thursday fields body_of delivered run endpoint_at place_of
    clock_step connection_at settings_at is_connection_at is_new_at are_connections is_list setup_data handed_over record_in
    is_record has_digits has_count is_date days_in days_of date_bytes bytes_of more_follows control_of has_form has_check_word
    fields_in reading_of_copies reading_of head_bytes with_check_word twice sub_bytes frame_bytes bit_step bit_steps byte_step
    crc_from crc
computed = refl

computed' : wrote loaded (run (turned thursday)) ≡ replies (turned thursday)
unfolding wrote replied replies loaded list cid number session thursday turned fields body_of delivered run endpoint_at
    place_of clock_step connection_at settings_at is_connection_at is_new_at are_connections is_list setup_data handed_over record_in
    is_record has_digits has_count is_date days_in days_of date_bytes bytes_of more_follows control_of has_form has_check_word
    fields_in reading_of_copies reading_of head_bytes with_check_word twice sub_bytes frame_bytes bit_step bit_steps byte_step
    crc_from crc
computed' = refl
