-- The invariant of a master, a slave that may be loaded anew, and the log between them, over plain numbers.
use mathlib.Core.Path.{◌≡◌}
use Rattle.std.specs.Prelude.{None, Option, Some}
use mathlib.Core.List.{List, [], ◌∷◌}
use mathlib.Core.Logic.{◌⊎◌}
use Prim.Native.Nat.{ℕ, zero, suc, ◌+◌, ◌-◌, ◌%◌, ◌^◌, ◌≤◌, ◌<◌}
use native.Mathlib.Omega.{arith}
use Rattle.endpoint.specs.Time.{span, minus, counted_age}
use Rattle.link.specs.Clocks.{drift, Reading}
use Rattle.link.specs.Runs.{Grant}
use Rattle.link.proofs.Marks.{Mark, mark, size, at, Each, Has, Pairs}
use Rattle.link.proofs.Ages.{Near, Pace, Among, Latest, pace_in}

-- a stamp, a master's reading or R and 3 ticks ahead of it, is still below 2^48
abbrev pub limit : ℕ
limit = 2 ^ 48 - 131072

-- the master's terms: its clock's distance from moments; round trip, interval, age. Below they are c
pub record MasterTerms : Type 0 where
  pub shift : ℕ
  pub trip : ℕ
  pub hold : ℕ
  pub age : ℕ

-- the slave's: its calls since its load, newest first. A load gives it others. Below they are d
pub record SlaveTerms : Type 0 where
  pub calls : List Reading
  pub trip : ℕ
  pub hold : ℕ
  pub age : ℕ

-- over no tick at all two calls may part by one, and the drift of 0 ticks is 0
pub record Small (r i a : ℕ) : Type 0 where
  pub trip : r ≤ 65535
  pub hold : i ≤ 65535
  pub some : 1 ≤ i
  pub age : a ≤ 65535

abbrev pub called : SlaveTerms → Reading → SlaveTerms
called d r = record { calls = r ∷ d.calls; trip = d.trip; hold = d.hold; age = d.age }

-- the slave's readings since its load and their moments, and how far these may part: while an offset serves, while a
-- value is held
abbrev pub At : SlaveTerms → ℕ → ℕ → Type 0
At d t m = Among d.calls t m

abbrev pub serves : ℕ
serves = 30000

abbrev pub wobble : ℕ
wobble = 3

abbrev pub creep : SlaveTerms → ℕ
creep d = drift d.hold

pub pace : (d : SlaveTerms) (t m t' m' : ℕ) → Latest d.calls t' m' → At d t m → t' ≤ t + serves
    → Pace wobble t m t' m'
pace d t m t' m' p a h = pace_in serves t m t' m' (p.paced t m a) (omega arith) h

pub pace_hold : (d : SlaveTerms) (t m t' m' : ℕ) → 1 ≤ d.hold → Latest d.calls t' m' → At d t m
    → t' ≤ t + d.hold → Pace (creep d) t m t' m'
pace_hold d t m t' m' k p a h = pace_in d.hold t m t' m' (p.paced t m a) k h

-- ---- the session numbers given to the slave, by its loads and its restarts
abbrev pub granted : ℕ → ℕ → Grant
granted n e = record { number = n; loads = e }

-- a number given in an epoch
abbrev pub Given : List Grant → ℕ → ℕ → Type 0
Given [] n e = ⊥
Given (g ∷ gs) n e = ((g.number ≡ n) × (g.loads ≡ e)) ⊎ Given gs n e

-- document 02's premise on a frame that is handed over: where it carries a number that was given, it was written after
-- the last load before the number was given
abbrev pub Travels : List Grant → Mark → Type 0
Travels gs w = (n e : ℕ) → Given gs n e → w.session ≡ suc n → e ≤ w.epoch

-- ---- the ends
-- next_out, next_in: one above the last stamp sent, taken (0: none); held: one above the place of the S-Refresh last
-- taken. An end rests or is live: since when, and the value held with its age then; at a slave its offset and the s2
-- that this was reckoned with come first. Beside it a request may be open. At a master, asked: that of this stamp has
-- no reply yet, and which one it is the reply's own command tells; got: the reply of one that measures came then. At a
-- slave, armed: s2 of its reply
pub data MPhase : Type 0 where
  rest_m : MPhase
  live_m : ℕ → ℕ → Option (List ℕ) → MPhase

pub data MOpen : Type 0 where
  none_m : MOpen
  asked : ℕ → MOpen
  got : ℕ → MOpen

-- session: 0, or one above its number; floor: the epoch that its number was given in
pub record Master : Type 0 where
  pub session : ℕ
  pub floor : ℕ
  pub next_out : ℕ
  pub next_in : ℕ
  pub held : ℕ
  pub phase : MPhase
  pub measuring : MOpen

abbrev pub master_of : ℕ → ℕ → ℕ → ℕ → ℕ → MPhase → MOpen → Master
master_of n f o i h p q =
    record { session = n; floor = f; next_out = o; next_in = i; held = h; phase = p; measuring = q }

pub data SPhase : Type 0 where
  rest_s : SPhase
  live_s : ℕ → ℕ → ℕ → ℕ → Option (List ℕ) → SPhase

pub data SOpen : Type 0 where
  none_s : SOpen
  armed : ℕ → SOpen

-- epoch: its loads so far, the first not counted
pub record Slave : Type 0 where
  pub number : ℕ
  pub epoch : ℕ
  pub next_out : ℕ
  pub next_in : ℕ
  pub held : ℕ
  pub phase : SPhase
  pub measuring : SOpen

abbrev pub slave_of : ℕ → ℕ → ℕ → ℕ → ℕ → SPhase → SOpen → Slave
slave_of n e o i h p q =
    record { number = n; epoch = e; next_out = o; next_in = i; held = h; phase = p; measuring = q }

-- ---- what a step leaves of an end
abbrev pub phased_m : Master → MPhase → MOpen → Master
phased_m m p q = master_of m.session m.floor m.next_out m.next_in m.held p q

-- a stamp sent
abbrev pub wrote_m : Master → ℕ → MPhase → MOpen → Master
wrote_m m t p q = master_of m.session m.floor (suc t) m.next_in m.held p q

-- an S-Connect reply w taken: its number
abbrev pub connected_m : Master → Mark → Master
connected_m m w = master_of w.session w.epoch m.next_out m.next_in m.held rest_m none_m

-- a restart: no number
abbrev pub restarted_m : Master → Master
restarted_m m = master_of 0 m.floor m.next_out m.next_in m.held rest_m none_m

-- an S-Refresh w taken, of place k, at the reading t
abbrev pub took_m : Master → Mark → ℕ → ℕ → Master
took_m m w k t = master_of m.session w.epoch m.next_out (suc w.stamp) (suc k)
    (live_m t (counted_age (minus (t % span) w.stamp)) (Some w.body)) m.measuring

abbrev pub phased_s : Slave → SPhase → SOpen → Slave
phased_s s p q = slave_of s.number s.epoch s.next_out s.next_in s.held p q

-- a request of stamp r taken
abbrev pub heard_s : Slave → ℕ → SPhase → SOpen → Slave
heard_s s r p q = slave_of s.number s.epoch s.next_out (suc r) s.held p q

-- a stamp sent
abbrev pub wrote_s : Slave → ℕ → Slave
wrote_s s r = slave_of s.number s.epoch (suc r) s.next_in s.held s.phase s.measuring

-- an S-Refresh w taken, of place k, at the reading t with the offset o reckoned with s2
abbrev pub took_s : Slave → Mark → ℕ → ℕ → ℕ → ℕ → Slave
took_s s w k o s2 t = slave_of s.number s.epoch s.next_out (suc w.stamp) (suc k)
    (live_s o s2 t (counted_age (minus ((t + o) % span) w.stamp)) (Some w.body)) s.measuring

-- a restart with a number
abbrev pub restarted_s : Slave → ℕ → Slave
restarted_s s n = slave_of n s.epoch s.next_out s.next_in s.held rest_s none_s

-- a load with a number: nothing is remembered; what was shown before is still what was shown
abbrev pub loaded_s : Slave → ℕ → Slave
loaded_s s n = slave_of n (suc s.epoch) 0 0 s.held rest_s none_s

-- ---- what they write: code, stamp, (OBL,) body; a master with any session, a slave with its number
abbrev pub frame_m : MasterTerms → Slave → ℕ → ℕ → ℕ → List ℕ → ℕ → Mark
frame_m c s code t baseline b n = mark 0 code t baseline (t + c.shift) b n s.epoch

abbrev pub reply_s : Slave → ℕ → ℕ → ℕ → List ℕ → Mark
reply_s s code r μ b = mark 1 code r 0 μ b (suc s.number) s.epoch

abbrev pub refresh_s : Slave → ℕ → ℕ → List ℕ → Mark
refresh_s s r μ b = mark 2 255 r 0 μ b (suc s.number) s.epoch

-- ---- the log
-- S-RefreshReady or S-RefreshMO: what measures
pub record Measures (code : ℕ) : Type 0 where
  pub from : 252 ≤ code
  pub to : code ≤ 253

-- a GO w and the reply r that it closes; no other request that measures between the two
pub record GoOf (c : MasterTerms) (l : List Mark) (w r : Mark) : Type 0 where
  pub who : r.who ≡ 1
  pub code : Measures r.code
  pub below : r.stamp < w.stamp
  pub lag : w.baseline ≤ w.stamp
  pub early : r.moment ≤ w.stamp - w.baseline + c.shift
  pub late : w.stamp - w.baseline ≤ r.stamp + c.trip
  pub last : Each (λ x. x.who ≡ 0 → Measures x.code → x.stamp < w.stamp → x.stamp ≤ r.stamp) l

-- what a mark says of the time it was written
pub record Stamped (c : MasterTerms) (now : ℕ) (w : Mark) : Type 0 where
  pub past : w.moment ≤ now
  pub small : w.stamp < span
  pub master : w.who ≡ 0 → w.stamp + c.shift ≡ w.moment
  pub reply : w.who ≡ 1 → w.stamp + c.shift ≤ w.moment
  pub low : w.who ≡ 2 → w.moment ≤ limit + c.shift → w.moment ≤ w.stamp + c.shift + wobble
  pub high : w.who ≡ 2 → w.moment ≤ limit + c.shift → w.stamp + c.shift ≤ w.moment + c.trip + wobble

-- of an earlier mark and a later: stamps of one kind rise, the slave's from load to load; a master's stamp is above
-- those answered before it; loads are counted up
pub record Rising (x y : Mark) : Type 0 where
  pub master : x.who ≡ 0 → y.who ≡ 0 → x.stamp < y.stamp
  pub slave : x.who ≡ y.who → x.epoch ≡ y.epoch → x.stamp < y.stamp
  pub across : x.who ≡ 1 → y.who ≡ 0 → x.stamp < y.stamp
  pub loads : x.epoch ≤ y.epoch

-- a slave's mark carries a number that was given in its epoch
pub record Carries (g : List Grant) (w : Mark) : Type 0 where
  pub number : ℕ
  pub session : w.session ≡ suc number
  pub given : Given g number w.epoch

pub record LogInv (c : MasterTerms) (now : ℕ) (g : List Grant) (l : List Mark) : Type 0 where
  pub stamped : Each (Stamped c now) l
  pub rising : Pairs Rising l
  pub go : (i : ℕ) → i < size l → (at l i).who ≡ 0 → (at l i).code ≡ 254 → Has (GoOf c l (at l i)) l
  pub carries : Each (λ w. 1 ≤ w.who → Carries g w) l

-- ---- the S-Refresh last taken: at the master below the next stamp, and of no later epoch than the floor; at the slave
-- below the next stamp if it was written since the load
pub record HeldByM (floor next : ℕ) (w : Mark) : Type 0 where
  pub who : w.who ≡ 2
  pub code : w.code ≡ 255
  pub below : w.stamp < next
  pub old : w.epoch ≤ floor

pub record HeldByS (epoch next : ℕ) (w : Mark) : Type 0 where
  pub who : w.who ≡ 0
  pub code : w.code ≡ 255
  pub below : w.epoch ≡ epoch → w.stamp < next

pub record HeldAt (P : Mark → Type 0) (l : List Mark) (k : ℕ) : Type 0 where
  pub there : k < size l
  pub fits : P (at l k)

abbrev pub Held : (Mark → Type 0) → List Mark → ℕ → Type 0
Held P l zero = Unit {0}
Held P l (suc k) = HeldAt P l k

-- an age kept with a value: the most that it is, and how far it may be below the true one or above it
pub record Margin : Type 0 where
  pub most : ℕ
  pub low : ℕ
  pub high : ℕ

abbrev pub margin_m : MasterTerms → Margin
margin_m c = record { most = c.age; low = c.trip + wobble; high = wobble }

abbrev pub margin_s : MasterTerms → SlaveTerms → Margin
margin_s c d = record { most = d.age; low = wobble; high = c.trip + wobble }

-- its value, taken at moment m with age f
pub record ValueIs (m f : ℕ) (a : Margin) (v : List ℕ) (w : Mark) : Type 0 where
  pub body : w.body ≡ v
  pub low : m ≤ w.moment + f + a.low
  pub high : w.moment + f ≤ m + a.high
  pub most : f ≤ a.most

abbrev pub ValueOf : List Mark → ℕ → ℕ → ℕ → Margin → Option (List ℕ) → Type 0
ValueOf l held m f a None = Unit {0}
ValueOf l zero m f a (Some v) = ⊥
ValueOf l (suc k) m f a (Some v) = ValueIs m f a v (at l k)

-- ---- the master
-- no request of it that measures is above a stamp
abbrev pub NoneAbove : ℕ → Mark → Type 0
NoneAbove s x = x.who ≡ 0 → Measures x.code → x.stamp ≤ s

-- a reply r to the last request that measures; S-Refreshes may stand after that
pub record GotOf (c : MasterTerms) (l : List Mark) (next ready : ℕ) (r : Mark) : Type 0 where
  pub who : r.who ≡ 1
  pub code : Measures r.code
  pub below : r.stamp < next
  pub last : Each (NoneAbove r.stamp) l
  pub early : r.moment ≤ ready + c.shift
  pub late : ready ≤ r.stamp + c.trip

pub record Request (s : ℕ) (r : Mark) : Type 0 where
  pub who : r.who ≡ 0
  pub stamp : r.stamp ≡ s

-- while a master rests, its request stands after the S-Refresh last taken
abbrev pub Behind : MPhase → ℕ → ℕ → Type 0
Behind rest_m held place = held ≤ place
Behind (live_m t f v) held place = Unit {0}

pub record AskedIn (l : List Mark) (next held : ℕ) (p : MPhase) (s : ℕ) : Type 0 where
  pub below : s < next
  pub last : Each (NoneAbove s) l
  pub place : ℕ
  pub there : place < size l
  pub fits : Request s (at l place)
  pub after : Behind p held place

-- by the moment and the place held; Refresh began by now, so a show counts the ticks since
abbrev pub MPh : MasterTerms → ℕ → List Mark → ℕ → MPhase → Type 0
MPh c now l h rest_m = Unit {0}
MPh c now l h (live_m t f v) = (t + c.shift ≤ now) × ValueOf l h (t + c.shift) f (margin_m c) v

-- by the next stamp to send, the place held and the phase
abbrev pub MOp : MasterTerms → List Mark → ℕ → ℕ → MPhase → MOpen → Type 0
MOp c l n h p none_m = Unit {0}
MOp c l n h p (asked s) = AskedIn l n h p s
MOp c l n h p (got r) = Has (GotOf c l n r) l

-- a stamp of the master's or a reply's, below the next
abbrev pub Out : ℕ → Mark → Type 0
Out next w = w.who ≤ 1 → w.stamp < next

pub record MInv (c : MasterTerms) (now : ℕ) (g : List Grant) (l : List Mark) (m : Master) : Type 0 where
  pub out : Each (Out m.next_out) l
  pub given : (n : ℕ) → m.session ≡ suc n → Given g n m.floor
  pub held : Held (HeldByM m.floor m.next_in) l m.held
  pub phase : MPh c now l m.held m.phase
  pub measuring : MOp c l m.next_out m.held m.phase m.measuring

-- ---- the slave
pub record ArmedOf (d : SlaveTerms) (ep m1 s2 : ℕ) (r : Mark) : Type 0 where
  pub who : r.who ≡ 1
  pub epoch : r.epoch ≡ ep
  pub last : r.stamp ≡ m1
  pub moment : At d s2 r.moment

-- a request that measures, written since the load
pub record ReadyOf (ep m1 : ℕ) (r : Mark) : Type 0 where
  pub who : r.who ≡ 0
  pub code : Measures r.code
  pub stamp : r.stamp ≡ m1
  pub epoch : r.epoch ≡ ep

-- no reply to a later one since the load
abbrev pub Top : ℕ → ℕ → Mark → Type 0
Top ep m1 x = x.who ≡ 1 → Measures x.code → x.epoch ≡ ep → x.stamp ≤ m1

pub record Armed (d : SlaveTerms) (l : List Mark) (ep next s2 : ℕ) : Type 0 where
  pub small : s2 < span
  pub m1 : ℕ
  pub below : m1 < next
  pub by : Has (ArmedOf d ep m1 s2) l
  pub asked' : Has (ReadyOf ep m1) l
  pub top : Each (Top ep m1) l

-- m2 and m are the moments of s2 and of t
pub record LiveS (c : MasterTerms) (d : SlaveTerms) (l : List Mark) (next held o s2 t f : ℕ) (v : Option (List ℕ)) :
    Type 0 where
  pub m2 : ℕ
  pub m : ℕ
  pub at2 : At d s2 m2
  pub at' : At d t m
  pub near : Near c.shift c.trip o s2 m2
  pub fresh : m ≤ next + c.shift + 2 ^ 30
  pub value : ValueOf l held m f (margin_s c d) v

-- by the next stamp to take and the place held
abbrev pub SPh : MasterTerms → SlaveTerms → List Mark → ℕ → ℕ → SPhase → Type 0
SPh c d l n h rest_s = Unit {0}
SPh c d l n h (live_s o s2 t f v) = LiveS c d l n h o s2 t f v

-- by the epoch and the next stamp to take
abbrev pub SOp : SlaveTerms → List Mark → ℕ → ℕ → SOpen → Type 0
SOp d l ep n none_s = Unit {0}
SOp d l ep n (armed s2) = Armed d l ep n s2

-- a stamp of one kind, since the load, below the next
abbrev pub Since : ℕ → ℕ → ℕ → Mark → Type 0
Since kind ep next w = w.who ≡ kind → w.epoch ≡ ep → w.stamp < next

pub record SInv (c : MasterTerms) (d : SlaveTerms) (g : List Grant) (l : List Mark) (s : Slave) : Type 0 where
  pub epochs : Each (λ w. w.epoch ≤ s.epoch) l
  pub given : Given g s.number s.epoch
  pub replies : Each (Since 1 s.epoch s.next_in) l
  pub sent : Each (Since 2 s.epoch s.next_out) l
  pub held : Held (HeldByS s.epoch s.next_in) l s.held
  pub phase : SPh c d l s.next_in s.held s.phase
  pub measuring : SOp d l s.epoch s.next_in s.measuring

pub record Inv (c : MasterTerms) (d : SlaveTerms) (now : ℕ) (g : List Grant) (l : List Mark) (m : Master) (s : Slave) :
    Type 0 where
  pub small_m : Small c.trip c.hold c.age
  pub small_s : Small d.trip d.hold d.age
  pub log : LogInv c now g l
  pub master : MInv c now g l m
  pub slave : SInv c d g l s
