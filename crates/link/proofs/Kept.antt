-- Each step of a master or a slave keeps the invariant.
use mathlib.Core.Path.{◌≡◌, refl, ap, sym, subst}
use Rattle.std.specs.Prelude.{None, Option, Some}
use mathlib.Core.List.{List, ◌∷◌}
use mathlib.Core.Logic.{inl, inr, ⊎_elim}
use Prim.Native.Nat.{ℕ, zero, suc, ◌+◌, ◌-◌, ◌%◌, ◌≤◌, ◌<◌}
use native.Mathlib.Omega.{arith}
use native.Mathlib.Decide.{ℕ_discrete, dec_lt}
use Rattle.endpoint.specs.Time.{span, minus, counted_age, offset_from}
use Rattle.link.specs.Clocks.{Reading}
use Rattle.link.specs.Runs.{Grant}
use Rattle.link.proofs.Marks.{Mark, size, at, snoc, Each, Has, still, longer, each_snoc, has_snoc, has_new}
use Rattle.link.proofs.Marks.{pairs_snoc, size_snoc, at_new}
use Rattle.link.proofs.Ages.{Young, Near, Latest, le_or_lt, pace_in, offset_near, estimate, lapse_slave}
use Rattle.link.proofs.Ages.{lapse_master}
use Rattle.link.proofs.Invariant.{limit, MasterTerms, SlaveTerms, Small, called, At, serves, wobble, pace}
use Rattle.link.proofs.Invariant.{pace_hold, granted, Given, Travels, MPhase, rest_m, live_m, MOpen, none_m, asked}
use Rattle.link.proofs.Invariant.{got, Master, SPhase, rest_s, live_s, SOpen, none_s, armed, Slave, phased_m, wrote_m}
use Rattle.link.proofs.Invariant.{connected_m, restarted_m, took_m, phased_s, heard_s, wrote_s, took_s, restarted_s}
use Rattle.link.proofs.Invariant.{loaded_s, frame_m, reply_s, refresh_s, Measures, GoOf, Stamped, Rising, Carries}
use Rattle.link.proofs.Invariant.{LogInv, HeldByM, HeldByS, Held, Margin, margin_m, margin_s, ValueIs, ValueOf}
use Rattle.link.proofs.Invariant.{NoneAbove, GotOf, Request, Behind, AskedIn, MPh, MOp, Out, MInv, ArmedOf}
use Rattle.link.proofs.Invariant.{ReadyOf, Top, Armed, LiveS, SPh, SOp, Since, SInv, Inv}

-- ---- time passes
log_later : (c : MasterTerms) (now m : ℕ) (g : List Grant) (l : List Mark) → now ≤ m → LogInv c now g l
    → LogInv c m g l
log_later c now m g l h v = record {
  stamped = λ i k. let s = v.stamped i k in record
      { past = omega arith; small = s.small; master = s.master; reply = s.reply; low = s.low; high = s.high };
  rising = v.rising;
  go = v.go;
  carries = v.carries;
}

mph_later : (c : MasterTerms) (now m : ℕ) (l : List Mark) (h : ℕ) (p : MPhase) → now ≤ m → MPh c now l h p
    → MPh c m l h p
mph_later c now m l h rest_m k v = v
mph_later c now m l h (live_m t f o) k v = let z = v.0 in (omega arith, v.1)

-- ---- one call more of the slave
sph_called : (c : MasterTerms) (d : SlaveTerms) (r : Reading) (l : List Mark) (n h : ℕ) (p : SPhase) → SPh c d l n h p
    → SPh c (called d r) l n h p
sph_called c d r l n h rest_s v = v
sph_called c d r l n h (live_s o s2 t f a) v = record {
  m2 = v.m2;
  m = v.m;
  at2 = inr v.at2;
  at' = inr v.at';
  near = v.near;
  fresh = v.fresh;
  value = v.value;
}

sop_called : (d : SlaveTerms) (r : Reading) (l : List Mark) (ep n : ℕ) (p : SOpen) → SOp d l ep n p
    → SOp (called d r) l ep n p
sop_called d r l ep n none_s v = v
sop_called d r l ep n (armed s2) v = let f = v.by.fits in record {
  small = v.small;
  m1 = v.m1;
  below = v.below;
  by = record {
    place = v.by.place;
    there = v.by.there;
    fits = record { who = f.who; epoch = f.epoch; last = f.last; moment = inr f.moment };
  };
  asked' = v.asked';
  top = v.top;
}

-- ---- a number more was given
carries_more : (x : Grant) (g : List Grant) (w : Mark) → Carries g w → Carries (x ∷ g) w
carries_more x g w v = record { number = v.number; session = v.session; given = inr v.given }

log_more : (c : MasterTerms) (now : ℕ) (x : Grant) (g : List Grant) (l : List Mark) → LogInv c now g l
    → LogInv c now (x ∷ g) l
log_more c now x g l v = record {
  stamped = v.stamped;
  rising = v.rising;
  go = v.go;
  carries = λ i h e. carries_more x g (at l i) (v.carries i h e);
}

minv_more : (c : MasterTerms) (now : ℕ) (x : Grant) (g : List Grant) (l : List Mark) (m : Master) → MInv c now g l m
    → MInv c now (x ∷ g) l m
minv_more c now x g l m v = record {
  out = v.out;
  given = λ n e. inr (v.given n e);
  held = v.held;
  phase = v.phase;
  measuring = v.measuring;
}

-- ---- a longer log
held_snoc : (P : Mark → Type 0) (l : List Mark) (w : Mark) (h : ℕ) → Held P l h → Held P (snoc l w) h
held_snoc P l w zero v = v
held_snoc P l w (suc h) v = record { there = longer l w h v.there; fits = still P l w h v.there v.fits }

held_map : (P Q : Mark → Type 0) (l : List Mark) (h : ℕ) → Each (λ x. P x → Q x) l → Held P l h → Held Q l h
held_map P Q l zero f v = v
held_map P Q l (suc h) f v = record { there = v.there; fits = f h v.there v.fits }

held_in : (P : Mark → Type 0) (l : List Mark) (h : ℕ) → Held P l h → h ≤ size l
held_in P l zero v = omega arith
held_in P l (suc h) v = v.there

value_snoc : (P : Mark → Type 0) (l : List Mark) (w : Mark) (h m f : ℕ) (a : Margin) (v : Option (List ℕ))
    → Held P l h → ValueOf l h m f a v → ValueOf (snoc l w) h m f a v
value_snoc P l w h m f a None g p = p
value_snoc P l w zero m f a (Some v) g p = p
value_snoc P l w (suc h) m f a (Some v) g p = still (ValueIs m f a v) l w h g.there p

go_snoc : (c : MasterTerms) (l : List Mark) (x w : Mark) → (w.who ≡ 0 → x.stamp ≤ w.stamp) → Has (GoOf c l x) l
    → Has (GoOf c (snoc l w) x) (snoc l w)
go_snoc c l x w h v = let f = v.fits in has_snoc (GoOf c (snoc l w) x) l w
    (record {
      place = v.place;
      there = v.there;
      fits = record {
        who = f.who;
        code = f.code;
        below = f.below;
        lag = f.lag;
        early = f.early;
        late = f.late;
        last = each_snoc
            (λ y. y.who ≡ 0 → Measures y.code → y.stamp < x.stamp → y.stamp ≤ (at l v.place).stamp) l w
            f.last (λ e u k. let g = h e in omega arith);
      };
    })

mph_snoc : (c : MasterTerms) (now : ℕ) (P : Mark → Type 0) (l : List Mark) (w : Mark) (h : ℕ) (p : MPhase)
    → Held P l h → MPh c now l h p → MPh c now (snoc l w) h p
mph_snoc c now P l w h rest_m g v = v
mph_snoc c now P l w h (live_m t f o) g v = (v.0, value_snoc P l w h (t + c.shift) f (margin_m c) o g v.1)

-- an open request of the master, and the next stamp to send may rise: only a request that measures stands against it
mop_snoc : (c : MasterTerms) (l : List Mark) (w : Mark) (n n' h : ℕ) (p : MPhase) (q : MOpen) → n ≤ n'
    → (w.who ≡ 0 → Measures w.code → ⊥) → MOp c l n h p q → MOp c (snoc l w) n' h p q
mop_snoc c l w n n' h p none_m a u v = v
mop_snoc c l w n n' h p (asked s) a u v = record {
  below = let z = v.below in omega arith;
  last = each_snoc (NoneAbove s) l w v.last (λ e y. absurd (u e y));
  place = v.place;
  there = longer l w v.place v.there;
  fits = still (Request s) l w v.place v.there v.fits;
  after = v.after;
}
mop_snoc c l w n n' h p (got r) a u v = let f = v.fits in has_snoc (GotOf c (snoc l w) n' r) l w
    (record {
      place = v.place;
      there = v.there;
      fits = record {
        who = f.who;
        code = f.code;
        below = let z = f.below in omega arith;
        last = each_snoc (NoneAbove (at l v.place).stamp) l w f.last (λ e y. absurd (u e y));
        early = f.early;
        late = f.late;
      };
    })

-- a live slave; the next stamp to take may rise
sph_snoc : (c : MasterTerms) (d : SlaveTerms) (P : Mark → Type 0) (l : List Mark) (w : Mark) (n n' h : ℕ) (p : SPhase)
    → n ≤ n' → Held P l h → SPh c d l n h p → SPh c d (snoc l w) n' h p
sph_snoc c d P l w n n' h rest_s u g v = v
sph_snoc c d P l w n n' h (live_s o s2 t f a) u g v = record {
  m2 = v.m2;
  m = v.m;
  at2 = v.at2;
  at' = v.at';
  near = v.near;
  fresh = let z = v.fresh in omega arith;
  value = value_snoc P l w h v.m f (margin_s c d) a g v.value;
}

-- an open measurement of the slave: a later stamp taken leaves it, and only a reply that measures stands against it
sop_up : (d : SlaveTerms) (l : List Mark) (ep n n' : ℕ) (p : SOpen) → n ≤ n' → SOp d l ep n p → SOp d l ep n' p
sop_up d l ep n n' none_s a v = v
sop_up d l ep n n' (armed s2) a v = record {
  small = v.small;
  m1 = v.m1;
  below = let z = v.below in omega arith;
  by = v.by;
  asked' = v.asked';
  top = v.top;
}

sop_snoc : (d : SlaveTerms) (l : List Mark) (w : Mark) (ep n : ℕ) (p : SOpen) → (w.who ≡ 1 → ⊥) → SOp d l ep n p
    → SOp d (snoc l w) ep n p
sop_snoc d l w ep n none_s u v = v
sop_snoc d l w ep n (armed s2) u v = record {
  small = v.small;
  m1 = v.m1;
  below = v.below;
  by = has_snoc (ArmedOf d ep v.m1 s2) l w v.by;
  asked' = has_snoc (ReadyOf ep v.m1) l w v.asked';
  top = each_snoc (Top ep v.m1) l w v.top (λ e. absurd (u e));
}

-- a mark more
log_snoc : (c : MasterTerms) (now : ℕ) (g : List Grant) (l : List Mark) (w : Mark) → LogInv c now g l → Stamped c now w
    → Each (λ x. Rising x w) l → (w.who ≡ 0 → w.code ≡ 254 → Has (GoOf c l w) l) → (1 ≤ w.who → Carries g w)
    → LogInv c now g (snoc l w)
log_snoc c now g l w v s r o n = record {
  stamped = each_snoc (Stamped c now) l w v.stamped s;
  rising = pairs_snoc Rising l w v.rising r;
  go = each_snoc (λ x. x.who ≡ 0 → x.code ≡ 254 → Has (GoOf c (snoc l w) x) (snoc l w)) l w
      (λ i h e k. go_snoc c l (at l i) w (λ q. let z = (r i h).master e q in omega arith)
      (v.go i h e k)) (λ e k. go_snoc c l w w (λ q. omega arith) (o e k));
  carries = each_snoc (λ x. 1 ≤ x.who → Carries g x) l w v.carries n;
}

-- a slave's mark and the master
minv_snoc : (c : MasterTerms) (now : ℕ) (g : List Grant) (l : List Mark) (w : Mark) (m : Master) → 1 ≤ w.who
    → Out m.next_out w → MInv c now g l m → MInv c now g (snoc l w) m
minv_snoc c now g l w m y h v =
    let P = HeldByM m.floor m.next_in in
    record {
      out = each_snoc (Out m.next_out) l w v.out h;
      given = v.given;
      held = held_snoc P l w m.held v.held;
      phase = mph_snoc c now P l w m.held m.phase v.held v.phase;
      measuring = mop_snoc c l w m.next_out m.next_out m.held m.phase m.measuring (omega arith)
          (λ e u. omega arith) v.measuring;
    }

-- a master's mark and the slave
sinv_snoc : (c : MasterTerms) (d : SlaveTerms) (g : List Grant) (l : List Mark) (w : Mark) (s : Slave) → w.who ≡ 0
    → w.epoch ≤ s.epoch → SInv c d g l s → SInv c d g (snoc l w) s
sinv_snoc c d g l w s h y v =
    let P = HeldByS s.epoch s.next_in in
    record {
      epochs = each_snoc (λ x. x.epoch ≤ s.epoch) l w v.epochs y;
      given = v.given;
      replies = each_snoc (Since 1 s.epoch s.next_in) l w v.replies (λ e. omega arith);
      sent = each_snoc (Since 2 s.epoch s.next_out) l w v.sent (λ e. omega arith);
      held = held_snoc P l w s.held v.held;
      phase = sph_snoc c d P l w s.next_in s.next_in s.held s.phase (omega arith) v.held v.phase;
      measuring = sop_snoc d l w s.epoch s.next_in s.measuring (λ e. omega arith) v.measuring;
    }

-- whatever rises above what is held stands later
held_rises : (P : Mark → Type 0) (c : MasterTerms) (now : ℕ) (g : List Grant) (l : List Mark) (h k : ℕ)
    → LogInv c now g l → Held P l h → (P (at l k) → ⊥) → Each (λ x. Rising (at l k) x → P x → ⊥) l → h ≤ k
held_rises P c now g l zero k v x f r = omega arith
held_rises P c now g l (suc j) k v x f r =
    elim (ℕ_discrete k j) [
      | yes e ↦ absurd (f (subst (λ (y : ℕ). P (at l y)) (sym e) x.fits))
      | no e ↦ ⊎_elim
          (λ (p : k ≤ j). absurd (r j x.there (v.rising k j (omega arith) x.there) x.fits))
          (λ (p : j < k). p) (le_or_lt k j)
    ]

behind : (p : MPhase) (h k : ℕ) → h ≤ k → Behind p h k
behind rest_m h k g = g
behind (live_m t f v) h k g = tt

-- once an S-Refresh is taken, no request has to stand behind it
now_live : (c : MasterTerms) (l : List Mark) (n h h' t f : ℕ) (v : Option (List ℕ)) (p : MPhase) (q : MOpen)
    → MOp c l n h p q → MOp c l n h' (live_m t f v) q
now_live c l n h h' t f v p none_m x = x
now_live c l n h h' t f v p (asked s) x = record {
  below = x.below;
  last = x.last;
  place = x.place;
  there = x.there;
  fits = x.fits;
  after = tt;
}
now_live c l n h h' t f v p (got r) x = x

module _ {c : MasterTerms} {d : SlaveTerms} {now : ℕ} {g : List Grant} {l : List Mark} {m : Master} {s : Slave}
    (v : Inv c d now g l m s) where
  -- ---- time
  log_and_master : (n : ℕ) → now ≤ n → LogInv c n g l × MInv c n g l m
  log_and_master n h = let p = v.master in (
    log_later c now n g l h v.log,
    record {
      out = p.out;
      given = p.given;
      held = p.held;
      phase = mph_later c now n l m.held m.phase h p.phase;
      measuring = p.measuring;
    },
  )

  -- before a call of the master
  pub later : (n : ℕ) → now ≤ n → Inv c d n g l m s
  later n h = let p = log_and_master n h in record {
    small_m = v.small_m;
    small_s = v.small_s;
    log = p.0;
    master = p.1;
    slave = v.slave;
  }

  -- before a call of the slave, which is one more of its calls
  pub later_called : (r : Reading) → now ≤ r.moment → Inv c (called d r) r.moment g l m s
  later_called r h =
      let p = log_and_master r.moment h in
      let q = v.slave in
      record {
        small_m = v.small_m;
        small_s = v.small_s;
        log = p.0;
        master = p.1;
        slave = record {
          epochs = q.epochs;
          given = q.given;
          replies = q.replies;
          sent = q.sent;
          held = q.held;
          phase = sph_called c d r l s.next_in s.held s.phase q.phase;
          measuring = sop_called d r l s.epoch s.next_in s.measuring q.measuring;
        };
      }

  -- ---- the master
  -- what a step leaves of it
  to_m : {m' : Master} → MInv c now g l m' → Inv c d now g l m' s
  to_m h = record { small_m = v.small_m; small_s = v.small_s; log = v.log; master = h; slave = v.slave }

  -- another phase: rest and Refresh with no value are free, and so is no open request
  pub m_phase : (p : MPhase) (q : MOpen) → MPh c now l m.held p → MOp c l m.next_out m.held p q
      → Inv c d now g l (phased_m m p q) s
  m_phase p q h k = let r = v.master in
      to_m (record { out = r.out; given = r.given; held = r.held; phase = h; measuring = k })

  -- a measurement ended by the reply to its GO
  pub m_ends : Inv c d now g l (phased_m m m.phase none_m) s
  m_ends = m_phase m.phase none_m v.master.phase tt

  -- a restart
  pub m_restarts : Inv c d now g l (restarted_m m) s
  m_restarts = let q = v.master in to_m
      (record { out = q.out; given = λ n e. absurd (omega arith); held = q.held; phase = tt; measuring = tt })

  asked_in : (st : ℕ) → m.measuring ≡ asked st → AskedIn l m.next_out m.held m.phase st
  asked_in st e = subst (MOp c l m.next_out m.held m.phase) e v.master.measuring

  -- the S-Connect reply, or any to the open request of a master that rests: its number, and its epoch as the floor
  pub m_connects : (st k : ℕ) → m.phase ≡ rest_m → m.measuring ≡ asked st → k < size l → (at l k).who ≡ 1
      → (at l k).stamp ≡ st → Inv c d now g l (connected_m m (at l k)) s
  m_connects st k rests e i a b =
      let q = v.master in
      let p = asked_in st e in
      let w = p.fits.who in
      let z = p.fits.stamp in
      let y = v.log.carries k i (omega arith) in
      let behind' : m.held ≤ p.place = subst (λ (x : MPhase). Behind x m.held p.place) rests p.after in
      let after : p.place ≤ k = ⊎_elim (λ (h : p.place ≤ k). h)
      (λ (h : k < p.place). let x = (v.log.rising k p.place h p.there).across a w in absurd (omega arith))
      (le_or_lt p.place k) in
      to_m (record {
        out = q.out;
        given = λ n h. let t = y.session in subst (λ (x : ℕ). Given g x (at l k).epoch) (omega arith) y.given;
        held = older m.held (omega arith) q.held;
        phase = tt;
        measuring = tt;
      })
    where
      older : (h : ℕ) → h ≤ k → Held (HeldByM m.floor m.next_in) l h
          → Held (HeldByM (at l k).epoch m.next_in) l h
      older zero y x = x
      older (suc j) y x = let f = x.fits in record {
        there = x.there;
        fits = record {
          who = f.who;
          code = f.code;
          below = f.below;
          old = (v.log.rising j k (omega arith) i).loads;
        };
      }

  -- the reply to a request that measures
  pub m_got : (t st k : ℕ) → m.measuring ≡ asked st → now ≤ t + c.shift → t ≤ st + c.trip → k < size l
      → (at l k).who ≡ 1 → Measures (at l k).code → (at l k).stamp ≡ st
      → Inv c d now g l (phased_m m m.phase (got t)) s
  m_got t st k e h o i a b y =
      let n = asked_in st e in
      let z = (v.log.stamped k i).past in
      m_phase m.phase (got t) v.master.phase
      (record {
        place = k;
        there = i;
        fits = record {
          who = a;
          code = b;
          below = let x = n.below in omega arith;
          last = λ j u x x'. let z' = n.last j u x x' in omega arith;
          early = omega arith;
          late = omega arith;
        };
      })

  -- a frame written by the master, with or without a number; what is open holds in the longer log
  wrote : (t code baseline : ℕ) (b : List ℕ) (n : ℕ) (p : MPhase) (o : MOpen) → now ≡ t + c.shift → t < span
      → m.next_out ≤ t → let w = frame_m c s code t baseline b n in (code ≡ 254 → Has (GoOf c l w) l)
      → MPh c now l m.held p → MOp c (snoc l w) (suc t) m.held p o
      → Inv c d now g (snoc l w) (wrote_m m t p o) s
  wrote t code baseline b n p o e h a go ph op =
      let q = v.master in
      let w = frame_m c s code t baseline b n in
      let P = HeldByM m.floor m.next_in in
      record {
        small_m = v.small_m;
        small_s = v.small_s;
        log = log_snoc c now g l w v.log
            (record {
              past = omega arith;
              small = h;
              master = λ q'. refl;
              reply = omega arith;
              low = omega arith;
              high = omega arith;
            })
            (λ i k. record {
              master = λ x y. let z = q.out i k (omega arith) in omega arith;
              slave = λ x y. let z = q.out i k (omega arith) in omega arith;
              across = λ x y. let z = q.out i k (omega arith) in omega arith;
              loads = v.slave.epochs i k;
            }) (λ x. go) (λ x. absurd (omega arith));
        master = record {
          out = each_snoc (Out (suc t)) l w (λ i k x. let z = q.out i k x in omega arith) (λ x. omega arith);
          given = q.given;
          held = held_snoc P l w m.held q.held;
          phase = mph_snoc c now P l w m.held p q.held ph;
          measuring = op;
        };
        slave = sinv_snoc c d g l w s refl (omega arith) v.slave;
      }

  -- S-Disconnect: nothing is open then
  pub m_leaves : (t code : ℕ) (b : List ℕ) (n : ℕ) → now ≡ t + c.shift → t < span → m.next_out ≤ t
      → (code ≡ 254 → ⊥) → Inv c d now g (snoc l (frame_m c s code t 0 b n)) (wrote_m m t rest_m none_m) s
  m_leaves t code b n e h o f = wrote t code 0 b n rest_m none_m e h o (λ x. absurd (f x)) tt tt

  -- S-Refresh: what measures not, and is no GO; what is open stays so
  pub m_sends : (t code : ℕ) (b : List ℕ) (n : ℕ) → now ≡ t + c.shift → t < span → m.next_out ≤ t
      → (Measures code → ⊥) → (code ≡ 254 → ⊥)
      → Inv c d now g (snoc l (frame_m c s code t 0 b n)) (wrote_m m t m.phase m.measuring) s
  m_sends t code b n e h o f f' =
      wrote t code 0 b n m.phase m.measuring e h o (λ x. absurd (f' x)) v.master.phase
      (mop_snoc c l (frame_m c s code t 0 b n) m.next_out (suc t) m.held m.phase m.measuring (omega arith)
      (λ x y. f y) v.master.measuring)

  -- a request: each of setup, where the master rests, and S-RefreshMO in Refresh
  pub m_asks : (t code baseline : ℕ) (b : List ℕ) (n : ℕ) (p : MPhase) → now ≡ t + c.shift → t < span
      → m.next_out ≤ t → let w = frame_m c s code t baseline b n in (code ≡ 254 → Has (GoOf c l w) l)
      → MPh c now l m.held p → Inv c d now g (snoc l w) (wrote_m m t p (asked t)) s
  m_asks t code baseline b n p e h o go ph =
      let w = frame_m c s code t baseline b n in
      let z = size_snoc l w in
      wrote t code baseline b n p (asked t) e h o go ph
      (record {
        below = omega arith;
        last = each_snoc (NoneAbove t) l w (λ i k x y. let z' = v.master.out i k (omega arith) in omega arith)
            (λ x y. omega arith);
        place = size l;
        there = omega arith;
        fits = subst (Request t) (sym (at_new l w)) (record { who = refl; stamp = refl });
        after = behind p m.held (size l)
            (held_in (HeldByM m.floor m.next_in) l m.held v.master.held);
      })

  -- S-RefreshGO, in setup and in Refresh
  pub m_goes : (t r code baseline : ℕ) (b : List ℕ) (n : ℕ) → m.measuring ≡ got r → now ≡ t + c.shift
      → m.next_out ≤ t → baseline ≡ t - r → Has (GoOf c l (frame_m c s code t baseline b n)) l
  m_goes t r code baseline b n e o g' y =
      let q : Has (GotOf c l m.next_out r) l =
      subst (MOp c l m.next_out m.held m.phase) e v.master.measuring in
      let f = q.fits in
      let z = (v.log.stamped q.place q.there).past in
      let below = f.below in
      record {
        place = q.place;
        there = q.there;
        fits = record {
          who = f.who;
          code = f.code;
          below = omega arith;
          lag = omega arith;
          early = omega arith;
          late = omega arith;
          last = λ i k a u y'. f.last i k a u;
        };
      }

  -- in Refresh the value and its timer stay, and nothing more is asked of the reply
  pub m_closes : (t r : ℕ) (b : List ℕ) (n : ℕ) → m.measuring ≡ got r → now ≡ t + c.shift → t < span
      → m.next_out ≤ t → Inv c d now g (snoc l (frame_m c s 254 t (t - r) b n)) (wrote_m m t m.phase none_m) s
  m_closes t r b n e k h o = wrote t 254 (t - r) b n m.phase none_m k h o
      (λ x. m_goes t r 254 (t - r) b n e k o refl) v.master.phase tt

  -- an S-Refresh taken by the master; what is open stays so
  pub m_takes : (t k : ℕ) → now ≡ t + c.shift → t ≤ limit → k < size l → (at l k).who ≡ 2 → (at l k).code ≡ 255
      → m.next_in ≤ (at l k).stamp → Young (minus (t % span) (at l k).stamp) (c.trip + wobble) c.age
      → (at l k).session ≡ m.session → Inv c d now g l (took_m m (at l k) k t) s
  m_takes t k n h i a b o y ss =
      let q = v.master in
      let w = v.log.stamped k i in
      let p = w.past in
      let j : (at l k).moment ≤ limit + c.shift = omega arith in
      let lo = w.low a j in
      let hi = w.high a j in
      let r = v.small_m.trip in
      let x = v.log.carries k i (omega arith) in
      let age = counted_age (minus (t % span) (at l k).stamp) in
      let f : age ≡ t - (at l k).stamp = lapse_master t (at l k).stamp (c.trip + wobble) (omega arith) w.small
      (omega arith) (omega arith) y.early in
      to_m (record {
        out = q.out;
        given = λ u e. let z = x.session in subst (λ (u' : ℕ). Given g u' (at l k).epoch) (omega arith) x.given;
        held = record { there = i; fits = record { who = a; code = b; below = omega arith; old = omega arith } };
        phase = (omega arith, record { body = refl; low = omega arith; high = omega arith; most = y.late });
        measuring = now_live c l m.next_out m.held (suc k) t age (Some (at l k).body) m.phase m.measuring
            q.measuring;
      })

  -- whoever wrote an S-Refresh that carries the master's number was loaded no earlier than the floor
  at_floor : (k : ℕ) → k < size l → 1 ≤ (at l k).who → (at l k).session ≡ m.session → Travels g (at l k)
      → m.floor ≤ (at l k).epoch
  at_floor k i a n t =
      let y = v.log.carries k i a in
      let e = y.session in
      t y.number _ (v.master.given y.number (omega arith)) e

  -- so it stands later than the one before
  pub held_rises_m : (k : ℕ) → k < size l → (at l k).who ≡ 2 → m.next_in ≤ (at l k).stamp
      → (at l k).session ≡ m.session → Travels g (at l k) → m.held ≤ k
  held_rises_m k i a o ss tr =
      let fl = at_floor k i (omega arith) ss tr in
      held_rises (HeldByM m.floor m.next_in) c now g l m.held k v.log v.master.held
      (λ f. let be = f.below in omega arith)
      (λ j h r f. let wh = f.who in let be = f.below in let ol = f.old in let lo = r.loads in
      let z = r.slave (omega arith) (omega arith) in omega arith)

  -- ---- the slave
  -- what a step leaves of it
  to_s : {s' : Slave} → SInv c d g l s' → Inv c d now g l m s'
  to_s h = record { small_m = v.small_m; small_s = v.small_s; log = v.log; master = v.master; slave = h }

  -- another phase: rest is free, and so is no measurement
  pub s_phase : (p : SPhase) (o : SOpen) → SPh c d l s.next_in s.held p → SOp d l s.epoch s.next_in o
      → Inv c d now g l m (phased_s s p o)
  s_phase p o h k = let q = v.slave in to_s (record {
    epochs = q.epochs;
    given = q.given;
    replies = q.replies;
    sent = q.sent;
    held = q.held;
    phase = h;
    measuring = k;
  })

  -- a restart with a number
  pub s_restarts : (n : ℕ) → Inv c d now (granted n s.epoch ∷ g) l m (restarted_s s n)
  s_restarts n =
      let q = v.slave in
      let x = granted n s.epoch in
      record {
        small_m = v.small_m;
        small_s = v.small_s;
        log = log_more c now x g l v.log;
        master = minv_more c now x g l m v.master;
        slave = record {
          epochs = q.epochs;
          given = inl (refl, refl);
          replies = q.replies;
          sent = q.sent;
          held = q.held;
          phase = tt;
          measuring = tt;
        };
      }

  -- a load with a number and other terms: a new epoch
  pub s_load : (d' : SlaveTerms) → Small d'.trip d'.hold d'.age → (n : ℕ)
      → Inv c d' now (granted n (suc s.epoch) ∷ g) l m (loaded_s s n)
  s_load d' ok n =
      let q = v.slave in
      let x = granted n (suc s.epoch) in
      record {
        small_m = v.small_m;
        small_s = ok;
        log = log_more c now x g l v.log;
        master = minv_more c now x g l m v.master;
        slave = record {
          epochs = λ i h. let z = q.epochs i h in omega arith;
          given = inl (refl, refl);
          replies = λ i h e u. let z = q.epochs i h in absurd (omega arith);
          sent = λ i h e u. let z = q.epochs i h in absurd (omega arith);
          held = held_map (HeldByS s.epoch s.next_in) (HeldByS (suc s.epoch) 0) l s.held
              (λ i h f. let z = q.epochs i h in
              record { who = f.who; code = f.code; below = λ e. absurd (omega arith) }) q.held;
          phase = tt;
          measuring = tt;
        };
      }

  -- a later stamp taken leaves what is held below the next
  held_up : (r : ℕ) → s.next_in ≤ r → Held (HeldByS s.epoch (suc r)) l s.held
  held_up r o = held_map (HeldByS s.epoch s.next_in) (HeldByS s.epoch (suc r)) l s.held
      (λ i k f. record { who = f.who; code = f.code; below = λ e. let z = f.below e in omega arith })
      v.slave.held

  -- a request taken by the slave with no reply: S-Disconnect
  pub s_hears : (k : ℕ) → s.next_in ≤ (at l k).stamp → Inv c d now g l m (heard_s s (at l k).stamp rest_s none_s)
  s_hears k o = let q = v.slave in to_s (record {
    epochs = q.epochs;
    given = q.given;
    replies = λ j h e u. let z = q.replies j h e u in omega arith;
    sent = q.sent;
    held = held_up (at l k).stamp o;
    phase = tt;
    measuring = tt;
  })

  -- a request taken with its reply, which carries the slave's number
  pub s_replies : (k code : ℕ) (b : List ℕ) (p : SPhase) (o : SOpen) → k < size l → (at l k).who ≡ 0
      → s.next_in ≤ (at l k).stamp
      → let w = reply_s s code (at l k).stamp now b in
      SPh c d (snoc l w) (suc (at l k).stamp) s.held p → SOp d (snoc l w) s.epoch (suc (at l k).stamp) o
      → Inv c d now g (snoc l w) m (heard_s s (at l k).stamp p o)
  s_replies k code b p o i a n ph op =
      let q = v.slave in
      let x = v.log.stamped k i in
      let w = reply_s s code (at l k).stamp now b in
      let u = x.past in
      let y = x.master a in
      let out = v.master.out k i (omega arith) in
      record {
        small_m = v.small_m;
        small_s = v.small_s;
        log = log_snoc c now g l w v.log
            (record {
              past = omega arith;
              small = x.small;
              master = λ e. omega arith;
              reply = λ e. omega arith;
              low = λ e. omega arith;
              high = λ e. omega arith;
            })
            (λ j h. record {
              master = λ e e'. absurd (omega arith);
              slave = λ e e'. let z = q.replies j h e e' in omega arith;
              across = λ e e'. absurd (omega arith);
              loads = q.epochs j h;
            })
            (λ e e'. absurd (omega arith))
            (λ e. record { number = s.number; session = refl; given = q.given });
        master = minv_snoc c now g l w m (omega arith) (λ e. out) v.master;
        slave = record {
          epochs = each_snoc (λ r. r.epoch ≤ s.epoch) l w q.epochs (omega arith);
          given = q.given;
          replies = each_snoc (Since 1 s.epoch (suc (at l k).stamp)) l w
              (λ j h e e'. let z = q.replies j h e e' in omega arith) (λ e e'. omega arith);
          sent = each_snoc (Since 2 s.epoch s.next_out) l w q.sent (λ e. omega arith);
          held = held_snoc (HeldByS s.epoch (suc (at l k).stamp)) l w s.held (held_up (at l k).stamp n);
          phase = ph;
          measuring = op;
        };
      }

  -- whatever carries the slave's number and is handed over was written since the load
  since_load : (k : ℕ) → k < size l → (at l k).session ≡ suc s.number → Travels g (at l k)
      → (at l k).epoch ≡ s.epoch
  since_load k i n t =
      let y = t s.number s.epoch v.slave.given n in
      let z = v.slave.epochs k i in
      omega arith

  -- a request that measures: S-RefreshReady in setup, S-RefreshMO in Refresh, where the slave stays live
  pub s_arms : (t k code : ℕ) (b : List ℕ) → Latest d.calls t now → t < span → k < size l → (at l k).who ≡ 0
      → Measures (at l k).code → s.next_in ≤ (at l k).stamp → (at l k).session ≡ suc s.number → Travels g (at l k)
      → Inv c d now g (snoc l (reply_s s code (at l k).stamp now b)) m (heard_s s (at l k).stamp s.phase (armed t))
  s_arms t k code b ti h i a a' o ss tr =
      let w = reply_s s code (at l k).stamp now b in
      s_replies k code b s.phase (armed t) i a o
      (sph_snoc c d (HeldByS s.epoch s.next_in) l w s.next_in (suc (at l k).stamp) s.held s.phase
      (omega arith) v.slave.held v.slave.phase)
      (record {
        small = h;
        m1 = (at l k).stamp;
        below = omega arith;
        by = has_new (ArmedOf d s.epoch (at l k).stamp t) l w
            (record { who = refl; epoch = refl; last = refl; moment = ti.here });
        asked' = has_snoc (ReadyOf s.epoch (at l k).stamp) l w
            (record {
              place = k;
              there = i;
              fits = record { who = a; code = a'; stamp = refl; epoch = since_load k i ss tr };
            });
        top = each_snoc (Top s.epoch (at l k).stamp) l w
            (λ j h' e u y. let z = v.slave.replies j h' e y in omega arith) (λ e u y. omega arith);
      })

  -- the reply before a GO is the one that armed the slave: a reply of an older epoch stands before the request that the
  -- slave took since its load, and so is below it
  go_matches : (s2 : ℕ) (w : Mark) → s.next_in ≤ w.stamp → Armed d l s.epoch s.next_in s2
      → (r : Has (GoOf c l w) l) → At d s2 (at l r.place).moment
  go_matches s2 w h A r =
      elim (ℕ_discrete (at l r.place).epoch s.epoch) [ yes e ↦ this e | no e ↦ absurd (other e) ]
    where
      low : A.m1 ≤ (at l r.place).stamp
      low =
          let x = A.asked' in
          let lt = A.below in
          let e = x.fits.stamp in
          let z = r.fits.last x.place x.there x.fits.who x.fits.code (omega arith) in
          omega arith

      other : ((at l r.place).epoch ≡ s.epoch → ⊥) → ⊥
      other ne =
          let x = A.asked' in
          let e = x.fits.stamp in
          let e' = x.fits.epoch in
          let wh = x.fits.who in
          let lo = low in
          let up = v.slave.epochs r.place r.there in
          ⊎_elim
          (λ (p : x.place ≤ r.place). elim (ℕ_discrete x.place r.place) [
            | yes q ↦ let z : (at l x.place).epoch ≡ (at l r.place).epoch =
                ap (λ (y : ℕ). (at l y).epoch) q in ne (omega arith)
            | no q ↦ let z = (v.log.rising x.place r.place (omega arith) r.there).loads in ne (omega arith)
          ])
          (λ (p : r.place < x.place). let z = (v.log.rising r.place x.place p x.there).across
          r.fits.who wh in omega arith)
          (le_or_lt x.place r.place)

      same : (i j : ℕ) → (i < j → ⊥) → (j < i → ⊥) → At d s2 (at l j).moment → At d s2 (at l i).moment
      same i j p q e = subst (λ (k : ℕ). At d s2 (at l k).moment)
          (elim (dec_lt i j) [
            | yes y ↦ absurd (p y)
            | no y ↦ elim (dec_lt j i)
                [ yes z ↦ absurd (q z) | no z ↦ omega arith ]
          ]) e

      this : (at l r.place).epoch ≡ s.epoch → At d s2 (at l r.place).moment
      this e =
          let a = A.by in
          let b = a.fits in
          let f = r.fits in
          let up = A.top r.place r.there f.who f.code e in
          let lo = low in
          let e0 = b.last in
          let e1 = f.who in
          let e2 = b.who in
          let e3 = b.epoch in
          same r.place a.place
          (λ p. let z = (v.log.rising r.place a.place p a.there).slave (omega arith) (omega arith) in
          omega arith)
          (λ p. let z = (v.log.rising a.place r.place p r.there).slave (omega arith) (omega arith) in
          omega arith)
          b.moment

  -- what a GO leaves: the offset is near again, reckoned with s2 of moment m2
  record Measured (o s2 stamp : ℕ) : Type 0 where
    pub m2 : ℕ
    pub at2 : At d s2 m2
    pub since : m2 ≤ stamp + c.shift
    pub near : Near c.shift c.trip o s2 m2

  measured : (k s2 : ℕ) → s.measuring ≡ armed s2 → k < size l → (at l k).who ≡ 0 → (at l k).code ≡ 254
      → s.next_in ≤ (at l k).stamp
      → Measured (offset_from (at l k).stamp (at l k).baseline s2) s2 (at l k).stamp
  measured k s2 e i a b o =
      let q : Armed d l s.epoch s.next_in s2 = subst (SOp d l s.epoch s.next_in) e v.slave.measuring in
      let r = v.log.go k i a b in
      let f = r.fits in
      let y = (v.log.stamped r.place r.there).reply f.who in
      record {
        m2 = (at l r.place).moment;
        at2 = go_matches s2 (at l k) o q r;
        since = let z = f.early in omega arith;
        near = offset_near c.shift c.trip (at l k).stamp (at l k).baseline s2 (at l r.place).moment
            (v.log.stamped k i).small q.small f.lag f.early (omega arith);
      }

  -- S-RefreshGO in setup
  pub s_goes : (t k code s2 : ℕ) (b : List ℕ) → s.measuring ≡ armed s2 → Latest d.calls t now
      → t ≤ s2 + d.trip → k < size l → (at l k).who ≡ 0 → (at l k).code ≡ 254 → s.next_in ≤ (at l k).stamp
      → Inv c d now g (snoc l (reply_s s code (at l k).stamp now b)) m
      (heard_s s (at l k).stamp (live_s (offset_from (at l k).stamp (at l k).baseline s2) s2 t 0 None) none_s)
  s_goes t k code s2 b e ti h i a f o =
      let M = measured k s2 e i a f o in
      let u = v.small_s.trip in
      let P = pace_in 65535 s2 M.m2 t now (ti.paced s2 M.m2 M.at2) (omega arith) (omega arith) in
      s_replies k code b (live_s (offset_from (at l k).stamp (at l k).baseline s2) s2 t 0 None) none_s i a o
      (record {
        m2 = M.m2;
        m = now;
        at2 = M.at2;
        at' = ti.here;
        near = M.near;
        fresh = let z = M.since in omega arith;
        value = tt;
      }) tt

  live_in : (o s2 since age : ℕ) (val : Option (List ℕ)) → s.phase ≡ live_s o s2 since age val
      → LiveS c d l s.next_in s.held o s2 since age val
  live_in o s2 since age val e = subst (SPh c d l s.next_in s.held) e v.slave.phase

  -- S-RefreshGO in Refresh: a new offset; the value, its age and the timer stay
  pub s_goes_on : (k code s2 : ℕ) (b : List ℕ) (o former since age : ℕ) (val : Option (List ℕ))
      → s.phase ≡ live_s o former since age val → s.measuring ≡ armed s2 → k < size l → (at l k).who ≡ 0
      → (at l k).code ≡ 254 → s.next_in ≤ (at l k).stamp
      → Inv c d now g (snoc l (reply_s s code (at l k).stamp now b)) m
      (heard_s s (at l k).stamp (live_s (offset_from (at l k).stamp (at l k).baseline s2) s2 since age val) none_s)
  s_goes_on k code s2 b o former since age val p e i a f n =
      let M = measured k s2 e i a f n in
      let x = live_in o former since age val p in
      let w = reply_s s code (at l k).stamp now b in
      s_replies k code b (live_s (offset_from (at l k).stamp (at l k).baseline s2) s2 since age val) none_s i a n
      (record {
        m2 = M.m2;
        m = x.m;
        at2 = M.at2;
        at' = x.at';
        near = M.near;
        fresh = let z = x.fresh in omega arith;
        value = value_snoc (HeldByS s.epoch s.next_in) l w s.held x.m age (margin_s c d) val
            v.slave.held x.value;
      }) tt

  -- an S-Refresh written by the slave
  pub s_sends : (t o s2 since age : ℕ) (b : List ℕ) (val : Option (List ℕ)) → s.phase ≡ live_s o s2 since age val
      → Latest d.calls t now → t ≤ s2 + serves → s.next_out ≤ (t + o) % span
      → Inv c d now g (snoc l (refresh_s s ((t + o) % span) now b)) m (wrote_s s ((t + o) % span))
  s_sends t o s2 since age b val e ti h a =
      let q = v.slave in
      let f = live_in o s2 since age val e in
      let w = refresh_s s ((t + o) % span) now b in
      let P = HeldByS s.epoch s.next_in in
      let u = v.small_m.trip in
      let pa = pace d s2 f.m2 t now ti f.at2 h in
      let be = (ti.paced s2 f.m2 f.at2).ticks in
      let near = estimate c.shift c.trip wobble o s2 f.m2 t now f.near be pa in
      record {
        small_m = v.small_m;
        small_s = v.small_s;
        log = log_snoc c now g l w v.log
            (record {
              past = omega arith;
              small = omega arith;
              master = λ y. omega arith;
              reply = λ y. omega arith;
              low = λ y z. (near (omega arith)).0;
              high = λ y z. (near (omega arith)).1;
            })
            (λ j h. record {
              master = λ y y'. absurd (omega arith);
              slave = λ y y'. let z = q.sent j h y y' in omega arith;
              across = λ y y'. absurd (omega arith);
              loads = q.epochs j h;
            })
            (λ y y'. absurd (omega arith))
            (λ y. record { number = s.number; session = refl; given = q.given });
        master = minv_snoc c now g l w m (omega arith) (λ y. absurd (omega arith)) v.master;
        slave = record {
          epochs = each_snoc (λ r. r.epoch ≤ s.epoch) l w q.epochs (omega arith);
          given = q.given;
          replies = each_snoc (Since 1 s.epoch s.next_in) l w q.replies (λ y. omega arith);
          sent = each_snoc (Since 2 s.epoch (suc ((t + o) % span))) l w
              (λ j h y y'. let z = q.sent j h y y' in omega arith) (λ y y'. omega arith);
          held = held_snoc P l w s.held q.held;
          phase = sph_snoc c d P l w s.next_in s.next_in s.held s.phase (omega arith) q.held q.phase;
          measuring = sop_snoc d l w s.epoch s.next_in s.measuring (λ y. omega arith) q.measuring;
        };
      }

  -- an S-Refresh taken by the slave; an open measurement stays so
  pub s_takes : (t o s2 since age k : ℕ) (val : Option (List ℕ)) → s.phase ≡ live_s o s2 since age val
      → Latest d.calls t now → t ≤ s2 + serves → t ≤ since + d.hold → k < size l → (at l k).who ≡ 0
      → (at l k).code ≡ 255 → s.next_in ≤ (at l k).stamp
      → counted_age (minus ((t + o) % span) (at l k).stamp) ≤ d.age → Inv c d now g l m (took_s s (at l k) k o s2 t)
  s_takes t o s2 since age k val e ti h2 h i a b a' y =
      let q = v.slave in
      let f = live_in o s2 since age val e in
      let x = v.log.stamped k i in
      let p = x.past in
      let r = x.master a in
      let fr = f.fresh in
      let u = v.small_m.trip in
      let u' = v.small_s.hold in
      let P = pace d s2 f.m2 t now ti f.at2 h2 in
      let H = pace_hold d since f.m t now v.small_s.some ti f.at' h in
      let be = (ti.paced s2 f.m2 f.at2).ticks in
      let z = lapse_slave c.shift c.trip wobble o s2 f.m2 t now (at l k).stamp f.near be P x.small
      (omega arith) (omega arith) (omega arith) in
      let lo = z.0 in
      let hi = z.1 in
      to_s (record {
        epochs = q.epochs;
        given = q.given;
        replies = λ j h' w w'. let z' = q.replies j h' w w' in omega arith;
        sent = q.sent;
        held = record { there = i; fits = record { who = a; code = b; below = λ w. omega arith } };
        phase = record {
          m2 = f.m2;
          m = now;
          at2 = f.at2;
          at' = ti.here;
          near = f.near;
          fresh = let u'' = v.small_s.age in omega arith;
          value = record { body = refl; low = omega arith; high = omega arith; most = y };
        };
        measuring = sop_up d l s.epoch s.next_in (suc (at l k).stamp) s.measuring (omega arith)
            q.measuring;
      })

  -- it carries the slave's number, so it stands later than the one before
  pub held_rises_s : (k : ℕ) → k < size l → (at l k).who ≡ 0 → s.next_in ≤ (at l k).stamp
      → (at l k).session ≡ suc s.number → Travels g (at l k) → s.held ≤ k
  held_rises_s k i a o ss tr =
      let ep = since_load k i ss tr in
      held_rises (HeldByS s.epoch s.next_in) c now g l s.held k v.log v.slave.held
      (λ f. let be = f.below ep in omega arith)
      (λ j h r f. let lo = r.loads in let up = v.slave.epochs j h in let be = f.below (omega arith) in
      let z = r.master a f.who in omega arith)
