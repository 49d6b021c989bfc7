-- A connection of a gateway beside the others, to be read beside document 02, note 11: the sentences that are about
-- this stand here, each above what says it.
use Rattle.std.specs.Prelude.{◌≡◌, Bool, true, false, cond, List, [], ◌∷◌, ℕ, ◌+◌, ◌*◌, ◌≤◌, ◌<◌, eqb, length, take}
use Rattle.std.specs.Prelude.{Err, None, Ok, Option, Some}
use Rattle.frame.specs.Reading.{Reading}
use Rattle.frame.specs.Reading.{frame_with}
use Rattle.std.proofs.Math.Seq.{slice}
use Rattle.frame.specs.Reading.{reading_of}
use Rattle.endpoint.specs.Answers.{Answer}
use Rattle.steps.specs.Frames.{Written}
use Rattle.settings.specs.Lists.{connection_at, count_of}
use Rattle.records.specs.declared.Record.{Record}
use Rattle.gateway.specs.Tables.{Lent, record_at, place_of, after_clock}
use Rattle.gateway.specs.Loading.{loaded_of}
use Rattle.gateway.specs.Calls.{Result}
use Rattle.runs.specs.Steps.{Call, act, send, deliver, show, call_in}
use Rattle.runs.specs.Bus.{is_frame_of}

-- ---- "a delivery changes at most one record besides the clock step"; so does every other call
-- a frame's entry is that of its CID; bytes that are no frame have none
abbrev pub entry_in : Lent → Reading → Option ℕ
entry_in d (Ok read) = Some (place_of read.fields.connection d)
entry_in d (Err fault) = None

-- the entry whose record a call may change: the one that it names, or its frame's; a show changes none
abbrev pub entry_of : Lent → Call → Option ℕ
entry_of d (act a n) = Some n
entry_of d (send n value) = Some n
entry_of d (deliver s) = entry_in d (reading_of s)
entry_of d (show n) = None

-- what a call at t leaves of d, which may change the record of one entry
pub record ChangesOne (d : Lent) (t : ℕ) (entry : Option ℕ) (after : Lent) : Type 0 where
  pub gateway : after.gateway ≡ (after_clock t d).gateway
  pub whole : length after.records ≡ length d.records
  -- every other record is as the clock step leaves it
  pub others : (i : ℕ) → (entry ≡ Some i → ⊥)
      → record_at after.records i ≡ record_at (after_clock t d).records i
  -- "Records past the table stay."
  pub past : (i : ℕ) → d.gateway.count ≤ i → record_at after.records i ≡ record_at d.records i

-- whatever is lent, and for every call
abbrev pub OneRecord : Type 0
OneRecord = (d : Lent) (t room : ℕ) (c : Call) → ChangesOne d t (entry_of d c) (call_in d t room c).lent

-- ---- "for two runs from loaded lists alike up to and with one entry and from one session number"
-- the seven words of the entry e are enough, whatever other connections stand before it: no CID is twice in a list
abbrev pub AlikeAt : ℕ → List ℕ → List ℕ → Type 0
AlikeAt e ws ws' = slice (7 * e) (7 * e + 7) ws ≡ slice (7 * e) (7 * e + 7) ws'

-- the sentence to the letter gives this
abbrev pub AlikeUpTo : ℕ → List ℕ → List ℕ → Type 0
AlikeUpTo e ws ws' = take (7 * e + 7) ws ≡ take (7 * e + 7) ws'

abbrev pub UpTo : Type 0
UpTo = (e : ℕ) (ws ws' : List ℕ) → AlikeUpTo e ws ws' → AlikeAt e ws ws'

-- two lists loaded with one session number and answer 0, into whatever slices; e is an entry of both
pub record LoadedAlike (number e : ℕ) (ws ws' : List ℕ) (rs rs' : List Record) : Type 0 where
  pub done : (loaded_of number ws rs).answer ≡ Ok tt
  pub done' : (loaded_of number ws' rs').answer ≡ Ok tt
  pub entry : e < count_of ws
  pub entry' : e < count_of ws'
  pub alike : AlikeAt e ws ws'

-- ---- "with no later loading, with the same clock readings call by call, and the same calls and frames for that
-- connection, .. other connections' calls at will"
-- a call, its clock reading, and the length of the output lent to it
pub record Event : Type 0 where
  pub clock : ℕ
  pub room : ℕ
  pub call : Call

abbrev pub event : ℕ → ℕ → Call → Event
event clock room call = record { clock = clock; room = room; call = call }

-- a call for the connection of this entry and CID: it names the entry, or delivers bytes that the reader takes for a
-- frame of the CID
abbrev pub is_for : ℕ → ℕ → Call → Bool
is_for e cid (act a n) = eqb n e
is_for e cid (send n value) = eqb n e
is_for e cid (deliver s) = is_frame_of cid s
is_for e cid (show n) = eqb n e

-- one call of each run, at one reading: the same call for this connection; or any two that are not for it
pub data Alike (e cid : ℕ) : Event → Event → Type 0 where
  same : (t room : ℕ) (c : Call) → is_for e cid c ≡ true → Alike e cid (event t room c) (event t room c)
  others : (t room room' : ℕ) (c c' : Call) → is_for e cid c ≡ false → is_for e cid c' ≡ false
      → Alike e cid (event t room c) (event t room' c')

-- the same, call by call
pub data AlikeAll (e cid : ℕ) : List Event → List Event → Type 0 where
  none : AlikeAll e cid [] []
  next : {v v' : Event} {vs vs' : List Event} → Alike e cid v v' → AlikeAll e cid vs vs'
      → AlikeAll e cid (v ∷ vs) (v' ∷ vs')

-- ---- "its answers, frames and shown values are the same"
-- what a call tells: its answer and so its number, its entry, the frame, the value or the result that it writes, the
-- mark 'fail-safe'
pub record Told : Type 0 where
  pub answer : Answer
  pub entry : Option ℕ
  pub writes : Written
  pub failsafe : Bool
  pub age : Option ℕ

abbrev pub told : Result → Told
told r =
    record { answer = r.answer; entry = r.entry; writes = r.writes; failsafe = r.failsafe; age = r.age }

-- what the calls for this connection tell, in order; each call is lent what the last one left: "the slice being lent
-- whole each time and as the last call left it"
unfoldable pub told_of : ℕ → ℕ → Lent → List Event → List Told
told_of e cid d [] = []
told_of e cid d (v ∷ vs) =
    let r = call_in d v.clock v.room v.call in
    let rest = told_of e cid r.lent vs in
    cond (is_for e cid v.call) (told r ∷ rest) rest

abbrev pub Isolation : Type 0
Isolation = (number e : ℕ) (ws ws' : List ℕ) (rs rs' : List Record) → LoadedAlike number e ws ws' rs rs'
    → (vs vs' : List Event) → AlikeAll e (connection_at ws e) vs vs'
    → told_of e (connection_at ws e) (loaded_of number ws rs).lent vs
    ≡ told_of e (connection_at ws e) (loaded_of number ws' rs').lent vs'
