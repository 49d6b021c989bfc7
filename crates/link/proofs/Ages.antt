-- Arithmetic of clocks modulo 2^48: two clocks that drift, an offset reckoned from a round trip, and ages by it. Plain
-- numbers only.
use mathlib.Core.Path.{◌≡◌, refl, sym, ap, subst, ◌∙◌}
use mathlib.Core.Bool.{Bool, true, false, ◌&&◌, ◌||◌}
use mathlib.Core.List.{List, [], ◌∷◌}
use mathlib.Core.Logic.{◌⊎◌, inl, inr, ⊎_elim}
use Prim.Native.Nat.{ℕ, ◌+◌, ◌-◌, ◌*◌, ◌%◌, ◌≤◌, ◌<◌}
use native.Mathlib.Omega.{arith}
use native.Mathlib.Decide.{dec_le}
use lib.Dec.{eqb, leb}
use borrow.Author.Tests.{le-ltb, lt-ltb, le-leb, lt-leb, leb-true, eqb-true}
use native.Mathlib.Nat.{mod-eq_of_lt, add-mul-mod_self_right, mod-add-mod}
use mathlib.Mathlib.Data.Bool.Basic.{and_elim_left as and_left, and_elim_right as and_right}
use Rattle.endpoint.specs.Time.{span, half, minus, counted_age, offset_from}
use Rattle.link.specs.Clocks.{drift, advances, Reading, in_pace, keeps_pace}

-- what a comparison comes to where the order is known
pub ruleset compared = (le-leb, lt-leb, le-ltb, lt-ltb)

pub le_or_lt : (a b : ℕ) → (a ≤ b) ⊎ (b < a)
le_or_lt a b = elim (dec_le a b) [ yes h ↦ inl h | no h ↦ inr (omega arith) ]

-- two readings of one clock and their moments: they part by at most k
pub record Pace (k t m t' m' : ℕ) : Type 0 where
  pub up : m' + t ≤ m + t' + k
  pub down : m + t' ≤ m' + t + k

-- ---- a slave's calls since its loading
-- a reading and its moment are one of them
abbrev pub Among : List Reading → ℕ → ℕ → Type 0
Among [] t m = ⊥
Among (r ∷ rs) t m = ((r.tick ≡ t) × (r.moment ≡ m)) ⊎ Among rs t m

-- over n ticks of one clock, n at least 1, the other advances as far, give or take drift n
abbrev Advances : ℕ → ℕ → Type 0
Advances n k = 1 ≤ n → (k ≤ n + drift n) × (n ≤ k + drift n)

-- a reading t of moment m and a later one
pub record Paced (t m t' m' : ℕ) : Type 0 where
  pub ticks : t ≤ t'
  pub moments : m ≤ m'
  pub by_ticks : Advances (t' - t) (m' - m)
  pub by_moments : Advances (m' - m) (t' - t)

-- the call that is made: it is in pace with each
pub record Latest (l : List Reading) (t m : ℕ) : Type 0 where
  pub here : Among l t m
  pub paced : (s n : ℕ) → Among l s n → Paced s n t m

advances_told : (n k : ℕ) → advances n k ≡ true → Advances n k
advances_told n k h some = by (eqb n 0) refl
  where
    by : (b : Bool) → eqb n 0 ≡ b → (k ≤ n + drift n) × (n ≤ k + drift n)
    by true e = let z = eqb-true n 0 e in absurd (omega arith)
    by false e =
        let near = leb k (n + drift n) in
        let g = sym (ap (λ (b : Bool). b || (near && leb n (k + drift n))) e) ∙ h in
        (leb-true k (n + drift n) (and_left near _ g), leb-true n (k + drift n) (and_right near _ g))

paced_told : (r q : Reading) → in_pace r q ≡ true → Paced r.tick r.moment q.tick q.moment
paced_told r q h =
    let a = and_right (leb r.tick q.tick) _ h in
    let b = and_right (leb r.moment q.moment) _ a in
    let c = advances (q.moment - r.moment) (q.tick - r.tick) in
    record {
      ticks = leb-true r.tick q.tick (and_left _ _ h);
      moments = leb-true r.moment q.moment (and_left _ _ a);
      by_ticks = advances_told _ _ (and_right c _ b);
      by_moments = advances_told _ _ (and_left c _ b);
    }

pace_kept : (l : List Reading) (q : Reading) → keeps_pace l q ≡ true → (s n : ℕ) → Among l s n
    → Paced s n q.tick q.moment
unfolding keeps_pace
pace_kept [] q h s n a = absurd a
pace_kept (r ∷ l) q h s n a = ⊎_elim
    (λ (e : (r.tick ≡ s) × (r.moment ≡ n)).
    subst (λ (x : ℕ). Paced x n q.tick q.moment) e.0
    (subst (λ (x : ℕ). Paced r.tick x q.tick q.moment) e.1 (paced_told r q (and_left (in_pace r q) _ h))))
    (pace_kept l q (and_right (in_pace r q) _ h) s n) a

paced_itself : (t m s n : ℕ) → t ≡ s → m ≡ n → Paced s n t m
paced_itself t m s n e f = record {
  ticks = omega arith;
  moments = omega arith;
  by_ticks = λ k. absurd (omega arith);
  by_moments = λ k. absurd (omega arith);
}

-- what the premise comes to for one call more
pub latest : (l : List Reading) (q : Reading) → keeps_pace l q ≡ true → Latest (q ∷ l) q.tick q.moment
latest l q h = record {
  here = inl (refl, refl);
  paced = λ s n a. ⊎_elim
      (λ (e : (q.tick ≡ s) × (q.moment ≡ n)). paced_itself q.tick q.moment s n e.0 e.1)
      (pace_kept l q h s n) a;
}

-- over at most n ticks of the slave's clock, n at least 1, the moments advance as far, give or take drift n
pub pace_in : (n t m t' m' : ℕ) → Paced t m t' m' → 1 ≤ n → t' ≤ t + n → Pace (drift n) t m t' m'
pace_in n t m t' m' p h g = ⊎_elim
    (λ q. ⊎_elim (λ r. record { up = omega arith; down = omega arith })
    (λ r. let z = p.by_moments (omega arith) in record { up = omega arith; down = omega arith })
    (le_or_lt m' m))
    (λ q. let z = p.by_ticks (omega arith) in record { up = omega arith; down = omega arith })
    (le_or_lt t' t)

-- ---- ts_offset
-- an offset reckoned from the reply at s2, of moment m, whose arrival m2 is at most r later
pub record Near (cm r o s2 m : ℕ) : Type 0 where
  pub m2 : ℕ
  pub turns : ℕ
  pub few : turns ≤ 1
  pub sum : o + s2 ≡ m2 + turns * span
  pub low : m ≤ m2 + cm
  pub high : m2 + cm ≤ m + r

-- a residue is what is left of some turns
pub residue : (n k d : ℕ) → n ≡ d + k * span → d < span → n % span ≡ d
residue n k d e h = ap (λ (x : ℕ). x % span) e ∙ (add-mul-mod_self_right d k span ∙ mod-eq_of_lt h)

-- ts_offset, s2 and OBL add up to the stamp m3, modulo 2^48
offset_sum : (m3 baseline s2 : ℕ) → m3 < span → baseline < span → s2 < span
    → (offset_from m3 baseline s2 + (s2 + baseline)) % span ≡ m3
offset_sum m3 baseline s2 h g k = simp (mod-eq_of_lt, mod-add-mod) (omega arith)

-- so ts_offset and s2 add up to m2 = m3 − OBL, or to a turn more
near_of : (cm r m3 baseline s2 o m : ℕ) → m3 < span → s2 < span → baseline ≤ m3 → m ≤ m3 - baseline + cm
    → m3 - baseline + cm ≤ m + r → o < span → (o + (s2 + baseline)) % span ≡ m3 → Near cm r o s2 m
near_of cm r m3 baseline s2 o m h k g lo hi small sum = ⊎_elim
    (λ p. record { m2 = m3 - baseline; turns = 0; few = omega arith; sum = omega arith; low = lo; high = hi })
    (λ p. record { m2 = m3 - baseline; turns = 1; few = omega arith; sum = omega arith; low = lo; high = hi })
    (le_or_lt s2 (m3 - baseline))

pub offset_near : (cm r m3 baseline s2 m : ℕ) → m3 < span → s2 < span → baseline ≤ m3 → m ≤ m3 - baseline + cm
    → m3 - baseline + cm ≤ m + r → Near cm r (offset_from m3 baseline s2) s2 m
offset_near cm r m3 baseline s2 m h k g lo hi =
    near_of cm r m3 baseline s2 (offset_from m3 baseline s2) m h k g lo hi (omega arith)
    (offset_sum m3 baseline s2 h (omega arith) k)

-- the slave's estimate of the master's time at moment m'
pub estimate : (cm r k o s2 m t m' : ℕ) → Near cm r o s2 m → s2 ≤ t → Pace k s2 m t m' → m' + r + k < cm + span
    → (m' ≤ (t + o) % span + cm + k) × ((t + o) % span + cm ≤ m' + r + k)
estimate cm r k o s2 m t m' n b p h = let d = n.m2 + (t - s2) in let e : (t + o) % span ≡ d = residue (t + o)
    n.turns d (omega arith) (omega arith) in rw e (omega arith, omega arith)

-- what an age comes to
counted_ahead : (x : ℕ) → half ≤ x → counted_age x ≡ 0
counted_ahead x h = simp compared

counted_past : (x : ℕ) → x < half → counted_age x ≡ x
counted_past x h = simp compared

-- an age as reckoned passes: where ahead, within the allowance, and not above the limit
pub record Young (x ahead age : ℕ) : Type 0 where
  pub early : half ≤ x → span - x ≤ ahead
  pub late : counted_age x ≤ age

pub young_more : (x a a' g : ℕ) → a ≤ a' → Young x a g → Young x a' g
young_more x a a' g h y = record { early = λ q. let z = y.early q in omega arith; late = y.late }

-- the master's reckoning of a stamp at most r ahead is exact
pub lapse_master : (t s r : ℕ) → t + r < span → s < span → r < half → s ≤ t + r
    → let x = minus (t % span) s in (half ≤ x → span - x ≤ r) → counted_age x ≡ t - s
lapse_master t s r h k g d y =
    let x = minus (t % span) s in
    ⊎_elim
    (λ p. let e : x ≡ t - s = omega arith in
    ⊎_elim (λ u. let z = y u in absurd (omega arith)) (λ u. counted_past x u ∙ e) (le_or_lt half x))
    (λ p. let e : t - s ≡ 0 = omega arith in counted_ahead x (omega arith) ∙ sym e)
    (le_or_lt s t)

-- a slave's reckoning of a stamp, by its estimate d of the master's time
module _ (n o t s d : ℕ) (e : t + o ≡ d + n * span) (h : s < span) where
  reckoned : (k x : ℕ) → t + o + (span - s) ≡ x + k * span → x < span → minus ((t + o) % span) s ≡ x
  reckoned k x q u = ap (λ (z : ℕ). ((t + o) % span + (span - z)) % span) (mod-eq_of_lt h)
      ∙ (mod-add-mod (t + o) span (span - s) ∙ residue (t + o + (span - s)) k x q u)

  -- not ahead, or ahead
  reckon_past : s ≤ d → d < s + half → minus ((t + o) % span) s ≡ d - s
  reckon_past p past = reckoned (n + 1) (d - s) (omega arith) (omega arith)

  reckon_ahead : d < s → s ≤ d + 65535 → minus ((t + o) % span) s ≡ d + span - s
  reckon_ahead p near = reckoned n (d + span - s) (omega arith) (omega arith)

  -- a stamp that is past, and not by half a turn; how far ahead the slave allows is of no account
  reckon_slave : d < s + half → s ≤ d + 65535 → counted_age (minus ((t + o) % span) s) ≡ d - s
  reckon_slave past near = ⊎_elim
      (λ p. ap counted_age (reckon_past p past) ∙ counted_past (d - s) (omega arith))
      (λ p. let z : d - s ≡ 0 = omega arith in
      ap counted_age (reckon_ahead p near) ∙ counted_ahead (d + span - s) (omega arith) ∙ sym z)
      (le_or_lt s d)

-- by an offset that is near, of the moment m'
module _ (cm r k o s2 m t m' s : ℕ) (n : Near cm r o s2 m) (b : s2 ≤ t) (p : Pace k s2 m t m') (h : s < span)
    (g : s + cm ≤ m') (w : m' + r + k < s + cm + half) (u : k ≤ 65535) where
  pub lapse_slave : let f = counted_age (minus ((t + o) % span) s) in
      (m' ≤ s + cm + f + k) × (s + cm + f ≤ m' + r + k)
  lapse_slave =
      let d = n.m2 + (t - s2) in
      let e = reckon_slave n.turns o t s d (omega arith) h (omega arith) (omega arith) in
      rw e (omega arith, omega arith)

  -- at most k ahead
  pub ahead_slave : let x = minus ((t + o) % span) s in half ≤ x → span - x ≤ k
  ahead_slave y =
      let d = n.m2 + (t - s2) in
      ⊎_elim (λ q. let z = reckon_past n.turns o t s d (omega arith) h q (omega arith) in absurd (omega arith))
      (λ q. let z = reckon_ahead n.turns o t s d (omega arith) h q (omega arith) in omega arith)
      (le_or_lt s d)
