-- Demand 3: for two gateways just loaded that hold one CID, every value shown has its send, in order, and is not too
-- old, also where the slave's is loaded again in mid-list (document 02, note 8) and where their clocks drift (note 9);
-- and the age that it is shown with is close to the true one (notes 7 and 9).
use Rattle.std.specs.Prelude.{◌≡◌, Bool, true, false, not, cond, List, ℕ, suc, ◌+◌, ◌-◌, ◌^◌, ◌≤◌, ◌<◌, length}
use Rattle.std.specs.Prelude.{Err, Ok}
use Rattle.std.specs.Prelude.{Some}
use Rattle.endpoint.specs.declared.Settings.{Settings}
use Rattle.endpoint.specs.declared.Reason.TheVariants as R
use Rattle.endpoint.specs.declared.Refusal.TheVariants.{Dropped}
use Rattle.endpoint.specs.Time.{drift_allowance, bound_of}
use Rattle.records.specs.declared.Record.{Record}
use Rattle.gateway.specs.Tables.{is_entry, place_of}
use Rattle.gateway.specs.Loading.{loaded_of}
use Rattle.link.specs.Clocks.{moment_of}
use Rattle.link.specs.Runs.{Show, show_at}
use Rattle.link.specs.Fresh.{Aged, drift_share}
use Rattle.runs.specs.Steps.{deliver, call_in}
use Rattle.runs.specs.Bus.{is_frame_of, is_refresh_of}
use Rattle.age.specs.Runs.{Sent, sent_at, last_of, Event, called, Run, lent_at, settings_for, begun, after_event}
use Rattle.age.specs.Runs.{after_all}

-- loaded with answer 0 and a session number into some slice of records, a gateway holds the CID at an entry, as the
-- slave or as the master
pub record Holds (number : ℕ) (list : List ℕ) (records : List Record) (cid : ℕ) (slave : Bool) : Type 0 where
  pub done : (loaded_of number list records).answer ≡ Ok tt
  pub there : is_entry (loaded_of number list records).lent (place_of cid (loaded_of number list records).lent) ≡ true
  pub role : (settings_for cid (loaded_of number list records).lent).slave ≡ slave

abbrev pub settings_in : {number : ℕ} {list : List ℕ} {records : List Record} {cid : ℕ} {slave : Bool}
    → Holds number list records cid slave → Settings
settings_in {number} {list} {records} {cid} h = settings_for cid (loaded_of number list records).lent

-- the send of a show: by the other end, an S-Refresh of the CID, lent the value shown, and as old as Aged says, by the
-- settings of the end that shows it, as it was last loaded
pub record ItsSend (cid : ℕ) (x : Show) (w : Sent) : Type 0 where
  pub other : w.slave ≡ not x.slave
  pub refresh : is_refresh_of cid w.bytes ≡ true
  pub value : w.lent ≡ Some x.bytes
  -- note 9: "Ages are then bounded by A + I + 10 at the slave and A + I + R + 10 at the master, in the master's ticks"
  pub bounded : x.moment ≤ w.moment + bound_of x.settings
  -- "Note 7's figures may fall 10 lower"
  pub aged : Aged drift_allowance x w.moment
  -- of these 10 a smaller share is used where I is small, and at the master
  pub sharper : Aged (drift_share x) x w.moment

-- the settings sm and ss are those of the two ends, as they were first loaded
pub record Fresh (cid : ℕ) (sm ss : Settings) (l : Run) : Type 0 where
  -- each show's send was written before it: the frame of the S-Refresh that the showing end took last
  pub there : (i : ℕ) → i < length l.shows
      → (1 ≤ (show_at l.shows i).sent) × ((show_at l.shows i).sent ≤ (show_at l.shows i).written)
      × ((show_at l.shows i).written ≤ length l.log)
  pub its_send : (i k : ℕ) → i < length l.shows → (show_at l.shows i).sent ≡ suc k
      → ItsSend cid (show_at l.shows i) (sent_at l.log k)
  -- a later show at the same end never has an earlier send
  pub in_order : (i j : ℕ) → i < j → j < length l.shows → (show_at l.shows i).slave ≡ (show_at l.shows j).slave
      → (show_at l.shows i).sent ≤ (show_at l.shows j).sent
  -- the master's settings are those of the first loading, and so are the slave's where it was not loaded again
  pub own : (i : ℕ) → i < length l.shows → ((show_at l.shows i).slave ≡ true → l.loads ≡ 0)
      → (show_at l.shows i).settings ≡ cond (show_at l.shows i).slave ss sm

-- two gateways just loaded, the master's and the slave's, each with its number, list and slice of records, after a list
-- of calls and loadings of the slave's; the master's number is not looked at
abbrev pub run_of : ℕ → List ℕ → List Record → ℕ → List ℕ → List Record → ℕ → ℕ → List Event → Run
run_of nm wm rm ns ws rs cid shift vs =
    after_all cid (begun (loaded_of nm wm rm).lent (loaded_of ns ws rs).lent ns shift) vs

-- demand 3, for every list that keeps to what it runs over
abbrev pub Demand : Type 0
Demand = (nm ns : ℕ) (wm ws : List ℕ) (rm rs : List Record) (cid : ℕ)
    (hm : Holds nm wm rm cid false) (hs : Holds ns ws rs cid true) (shift : ℕ) (vs : List Event)
    → (run_of nm wm rm ns ws rs cid shift vs).allowed ≡ true
    → Fresh cid (settings_in hm) (settings_in hs) (run_of nm wm rm ns ws rs cid shift vs)

-- an end has written no S-Refresh of the CID after a moment
abbrev pub SilentSince : ℕ → Bool → ℕ → Run → Type 0
SilentSince cid slave last l =
    (k : ℕ) → k < length l.log → (sent_at l.log k).slave ≡ slave → is_refresh_of cid (sent_at l.log k).bytes ≡ true
    → (sent_at l.log k).moment ≤ last

-- then every show at the other end that is not fail-safe comes within the bound after it
abbrev pub Silence : Type 0
Silence = (nm ns : ℕ) (wm ws : List ℕ) (rm rs : List Record) (cid : ℕ)
    (hm : Holds nm wm rm cid false) (hs : Holds ns ws rs cid true) (shift : ℕ) (vs : List Event)
    (slave : Bool) (last : ℕ) → let l = run_of nm wm rm ns ws rs cid shift vs in
    l.allowed ≡ true → SilentSince cid (not slave) last l
    → (i : ℕ) → i < length l.shows → (show_at l.shows i).slave ≡ slave
    → (show_at l.shows i).moment ≤ last + bound_of (show_at l.shows i).settings

-- a frame of the CID that is handed over after a list, both as demand 3 runs over them, and refused as too far ahead,
-- number 14, was written more than 2^46 ticks before, some 285 years
abbrev pub NeverAhead : Type 0
NeverAhead = (nm ns : ℕ) (wm ws : List ℕ) (rm rs : List Record) (cid : ℕ)
    (hm : Holds nm wm rm cid false) (hs : Holds ns ws rs cid true) (shift : ℕ) (vs : List Event)
    (slave : Bool) (t other room : ℕ) (s : List ℕ) → let l = run_of nm wm rm ns ws rs cid shift vs in
    (after_event cid l (called slave t other room (deliver s))).allowed ≡ true → is_frame_of cid s ≡ true
    → (call_in (lent_at l slave) t room (deliver s)).answer ≡ Err (Dropped R.Ahead)
    → (sent_at l.log (last_of s l.log - 1)).moment + 2 ^ 46 < moment_of shift slave t other
