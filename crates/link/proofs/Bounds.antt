-- What the invariant says of a value shown, of its age, and of a frame that comes in time.
use mathlib.Core.Path.{◌≡◌, subst}
use Rattle.std.specs.Prelude.{None, Option, Some}
use mathlib.Core.List.{List}
use mathlib.Core.Logic.{◌⊎◌, inl, inr, ⊎_elim}
use Prim.Native.Nat.{ℕ, zero, suc, ◌+◌, ◌-◌, ◌%◌, ◌^◌, ◌≤◌, ◌<◌}
use native.Mathlib.Omega.{arith}
use Rattle.endpoint.specs.Time.{span, half, minus}
use Rattle.link.specs.Runs.{Grant}
use Rattle.link.proofs.Marks.{Mark, size, at}
use Rattle.link.proofs.Ages.{Latest, le_or_lt, ahead_slave}
use Rattle.link.proofs.Invariant.{limit, MasterTerms, SlaveTerms, serves, wobble, creep, pace, pace_hold, live_m}
use Rattle.link.proofs.Invariant.{Master, live_s, Slave, Margin, ValueIs, ValueOf, MPh, LiveS, SPh, Inv}

-- the margin of what is shown: held for the interval, while the slave's clock may have crept
abbrev pub shown_m : MasterTerms → Margin
shown_m c = record { most = c.age + c.hold; low = c.trip + wobble; high = wobble }

abbrev pub shown_s : MasterTerms → SlaveTerms → Margin
shown_s c d =
    record { most = d.age + d.hold; low = wobble + creep d; high = c.trip + (wobble + creep d) }

-- so a bound on the true age
pub aged : {m f : ℕ} {a : Margin} {v : List ℕ} {w : Mark} → ValueIs m f a v w → m ≤ w.moment + (a.most + a.low)
aged x = let y = x.low in let z = x.most in omega arith

-- a value held for n ticks more
held_on : (l : List Mark) (h m m' f n : ℕ) (a b : Margin) (v : Option (List ℕ)) → m' + a.low ≤ m + n + b.low
    → m + n + a.high ≤ m' + b.high → a.most + n ≤ b.most → ValueOf l h m f a v → ValueOf l h m' (f + n) b v
held_on l h m m' f n a b None x y z w = w
held_on l zero m m' f n a b (Some v) x y z w = w
held_on l (suc k) m m' f n a b (Some v) x y z w = record {
  body = w.body;
  low = let u = w.low in omega arith;
  high = let u = w.high in omega arith;
  most = let u = w.most in omega arith;
}

module _ {c : MasterTerms} {d : SlaveTerms} {now : ℕ} {g : List Grant} {l : List Mark} {m : Master} {s : Slave}
    (i : Inv c d now g l m s) where
  -- ---- the master, at its reading t, while its timer has not expired
  pub m_shows : (t since age : ℕ) (v : Option (List ℕ)) → m.phase ≡ live_m since age v → now ≡ t + c.shift
      → t ≤ since + c.hold → ValueOf l m.held now (age + (t - since)) (shown_m c) v
  m_shows t since age v e n h =
      let f : MPh c now l m.held (live_m since age v) = subst (MPh c now l m.held) e i.master.phase in
      let past = f.0 in
      held_on l m.held (since + c.shift) now age (t - since) _ (shown_m c) v (omega arith) (omega arith)
      (omega arith) f.1

  -- an S-Refresh of the slave is at most R and 3 ticks ahead of the master's clock, or very old
  pub m_ahead : (t k : ℕ) → now ≡ t + c.shift → t ≤ limit → k < size l → (at l k).who ≡ 2
      → let x = minus (t % span) (at l k).stamp in
      half ≤ x → (span - x ≤ c.trip + wobble) ⊎ ((at l k).moment + 2 ^ 46 < now)
  m_ahead t k n h there a y =
      let w = i.log.stamped k there in
      let past = w.past in
      let small = w.small in
      let lo = w.low a (omega arith) in
      let hi = w.high a (omega arith) in
      let r = i.small_m.trip in
      ⊎_elim (λ p. inl (omega arith)) (λ p. inr (omega arith)) (le_or_lt t (at l k).stamp)

  -- ---- the slave, at its reading t, the last of its calls
  module _ (t o s2 since age : ℕ) (v : Option (List ℕ)) (e : s.phase ≡ live_s o s2 since age v)
      (la : Latest d.calls t now) (h : t ≤ since + d.hold) where
    live : LiveS c d l s.next_in s.held o s2 since age v
    live = subst (SPh c d l s.next_in s.held) e i.slave.phase

    pub s_shows : ValueOf l s.held now (age + (t - since)) (shown_s c d) v
    s_shows =
        let f = live in
        let P = pace_hold d since f.m t now i.small_s.some la f.at' h in
        let past = (la.paced since f.m f.at').ticks in
        held_on l s.held f.m now age (t - since) _ (shown_s c d) v (omega arith) (omega arith) (omega arith)
        f.value

    -- a frame of the master, not older than the last taken, is at most 3 ticks ahead of the slave's reckoning
    pub s_ahead : (k : ℕ) → t ≤ s2 + serves → k < size l → (at l k).who ≡ 0 → s.next_in ≤ (at l k).stamp
        → let x = minus ((t + o) % span) (at l k).stamp in half ≤ x → span - x ≤ wobble
    s_ahead k h2 there a n =
        let f = live in
        let w = i.log.stamped k there in
        let past = w.past in
        let stamp = w.master a in
        let fresh = f.fresh in
        let r = i.small_m.trip in
        let hold = i.small_s.hold in
        let P = pace d s2 f.m2 t now la f.at2 h2 in
        let H = pace_hold d since f.m t now i.small_s.some la f.at' h in
        ahead_slave c.shift c.trip wobble o s2 f.m2 t now (at l k).stamp f.near
        (la.paced s2 f.m2 f.at2).ticks P w.small (omega arith) (omega arith) (omega arith)
