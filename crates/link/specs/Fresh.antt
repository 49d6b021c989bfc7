-- Demand 3 for two endpoints: every value shown has its send, in order, and is not too old; and the age that it is
-- shown with is close to the true one.
use Rattle.std.specs.Prelude.{◌≡◌, Bool, true, false, not, cond, List, ℕ, suc, ◌+◌, ◌≤◌, ◌<◌, length}
use Rattle.std.specs.Prelude.{Some}
use Rattle.frame.specs.declared.Command.TheVariants as K
use Rattle.frame.specs.Control.{is}
use Rattle.endpoint.specs.declared.Settings.{Settings}
use Rattle.endpoint.specs.Time.{drift_allowance, bound_of}
use Rattle.steps.specs.Laws.{Ticks}
use Rattle.link.specs.Clocks.{drift}
use Rattle.link.specs.Runs.{Event, Sent, sent_at, Show, show_at, Link, after_all, begun}

-- settings as a loaded list has them, one end master and the other slave; that they name one CID is not needed
pub record Paired (sm ss : Settings) : Type 0 where
  pub master : sm.slave ≡ false
  pub slave : ss.slave ≡ true
  pub ticks_m : Ticks sm
  pub ticks_s : Ticks ss

-- how old a shown value is that was sent at a moment; A, I and R are those of the end that shows it, as it was last
-- loaded, and the drift of the clocks has a share
pub record Aged (share : ℕ) (x : Show) (sent : ℕ) : Type 0 where
  -- no older than the bound: A + I and the share at the slave, A + I + R and the share at the master
  pub before : sent ≤ x.moment
  pub young : x.moment
      ≤ sent + (x.settings.age + (x.settings.interval + (cond x.slave 0 x.settings.roundtrip + share)))
  -- the age that it is shown with: at the slave the true one or up to R above, at the master the true one or up to R
  -- below
  pub low : x.moment ≤ sent + x.age + (cond x.slave 0 x.settings.roundtrip + share)
  pub high : sent + x.age ≤ x.moment + (cond x.slave x.settings.roundtrip 0 + share)
  -- and at most A + I
  pub most : x.age ≤ x.settings.age + x.settings.interval

-- the drift's share: 3 ticks where an age is reckoned, and at the slave, whose ticks are not those of moments, what it
-- comes to while the value is held
abbrev pub drift_share : Show → ℕ
drift_share x = 3 + cond x.slave (drift x.settings.interval) 0

-- the send of a show: by the other end, an S-Refresh, lent the value shown, and not too old
pub record ItsSend (x : Show) (w : Sent) : Type 0 where
  pub other : w.slave ≡ not x.slave
  pub refresh : is w.fields.command K.Refresh ≡ true
  pub value : w.lent ≡ Some x.bytes
  -- "Ages are then bounded by A + I + 10 at the slave and A + I + R + 10 at the master, in the master's ticks. Note 7's
  -- figures may fall 10 lower."
  pub bounded : x.moment ≤ w.moment + bound_of x.settings
  pub aged : Aged drift_allowance x w.moment
  -- of these 10 a smaller share is used where I is small, and at the master
  pub sharper : Aged (drift_share x) x w.moment

pub record Fresh (sm ss : Settings) (l : Link) : Type 0 where
  -- each show's send was written before it: the frame of the S-Refresh that the showing end took last
  pub there : (i : ℕ) → i < length l.shows
      → (1 ≤ (show_at l.shows i).sent) × ((show_at l.shows i).sent ≤ (show_at l.shows i).written)
      × ((show_at l.shows i).written ≤ length l.log)
  pub its_send : (i k : ℕ) → i < length l.shows → (show_at l.shows i).sent ≡ suc k
      → ItsSend (show_at l.shows i) (sent_at l.log k)
  -- a later show at the same end never has an earlier send
  pub in_order : (i j : ℕ) → i < j → j < length l.shows → (show_at l.shows i).slave ≡ (show_at l.shows j).slave
      → (show_at l.shows i).sent ≤ (show_at l.shows j).sent
  -- the master's settings are those of the first loading, and so are the slave's where it was not loaded again
  pub own : (i : ℕ) → i < length l.shows → ((show_at l.shows i).slave ≡ true → l.loads ≡ 0)
      → (show_at l.shows i).settings ≡ cond (show_at l.shows i).slave ss sm

-- two endpoints just loaded, after a list of calls and loadings of the slave
abbrev pub run_of : Settings → Settings → ℕ → ℕ → List Event → Link
run_of sm ss number shift vs = after_all (begun sm ss number shift) vs

-- demand 3, for every list that keeps to what it runs over
abbrev pub AgeTheorem : Type 0
AgeTheorem = (sm ss : Settings) (number shift : ℕ) (vs : List Event) → Paired sm ss
    → (run_of sm ss number shift vs).allowed ≡ true → Fresh sm ss (run_of sm ss number shift vs)

-- an end has written no S-Refresh after a moment
abbrev pub SilentSince : Bool → ℕ → Link → Type 0
SilentSince slave last l =
    (k : ℕ) → k < length l.log → (sent_at l.log k).slave ≡ slave
    → is (sent_at l.log k).fields.command K.Refresh ≡ true → (sent_at l.log k).moment ≤ last

-- then every show at the other end that is not fail-safe comes within the bound after it
abbrev pub Silence : Type 0
Silence = (sm ss : Settings) (number shift : ℕ) (vs : List Event) (slave : Bool) (last : ℕ) → Paired sm ss
    → let l = run_of sm ss number shift vs in
    l.allowed ≡ true → SilentSince (not slave) last l
    → (i : ℕ) → i < length l.shows → (show_at l.shows i).slave ≡ slave
    → (show_at l.shows i).moment ≤ last + bound_of (show_at l.shows i).settings
