-- A gateway's table along calls: the settings stay, and so the place of each CID; what the clock step and a step put
-- back leave at a place.
use mathlib.Core.Path.{◌≡◌, refl, sym, ap, ap₂, ◌∙◌}
use mathlib.Core.Bool.{Bool, true, false, cond}
use mathlib.Core.List.{List, [], ◌∷◌, map}
use Prim.Native.Nat.{ℕ, zero, suc, ◌≤◌, ◌<◌}
use native.Mathlib.Nat.{not-suc-le-zero, le_of_suc-le-suc}
use native.Mathlib.Omega.{arith}
use lib.Dec.{eqb, ltb}
use lib.ListN.{length, get_or, length-map, get_or-map}
use lib.Seq.{get_or-set_same, get_or-set_other, map-set_same}
use borrow.Author.Tests.{ltb-false, eqb-true}
use Rattle.endpoint.specs.declared.Settings.{Settings}
use Rattle.endpoint.specs.Endpoint.{Endpoint}
use Rattle.endpoint.specs.Time.{Tidy, is_expired, ended_of, after_tick}
use Rattle.steps.proofs.Keeps.{bcase, Kept, kept}
use Rattle.records.specs.declared.Record.{Record}
use Rattle.records.specs.Records.{endpoint_of, record_of, ended_record}
use Rattle.records.proofs.Records.{flag_back, records}
use Rattle.lent.specs.First.{on_first, seek_in, get_d_below}
use Rattle.gateway.specs.Tables.{Lent, blank_record, record_at, endpoint_at, is_shorter, has_connection, place_of, ticked}
use Rattle.gateway.specs.Tables.{clock_step, placed}

-- the slice is as long as the table, so that an entry is within it
abbrev pub Whole : Lent → Type 0
Whole d = is_shorter d ≡ false

pub within : (d : Lent) (i : ℕ) → Whole d → i < d.gateway.count → i < length d.records
within d i w h = let z = ltb-false (length d.records) d.gateway.count w in omega arith

-- ---- settings
abbrev pub sets : List Record → List Settings
sets rs = map (λ (r : Record). (endpoint_of r).settings) rs

-- two gateways of the same settings
pub record Like (d d' : Lent) : Type 0 where
  pub counts : d.gateway.count ≡ d'.gateway.count
  pub settings : sets d.records ≡ sets d'.records

pub like_trans : {d d' d'' : Lent} → Like d d' → Like d' d'' → Like d d''
like_trans a b = record { counts = a.counts ∙ b.counts; settings = a.settings ∙ b.settings }

-- the settings at a place
settings_at_law : (d : Lent) (i : ℕ)
    → (endpoint_at d i).settings ≡ get_or (sets d.records) i (endpoint_of blank_record).settings
unfolding endpoint_at
settings_at_law d i = sym (get_or-map (λ (r : Record). (endpoint_of r).settings) d.records i blank_record)

pub like_at : {d d' : Lent} → Like d d' → (i : ℕ) → (endpoint_at d i).settings ≡ (endpoint_at d' i).settings
like_at {d} {d'} l i =
    settings_at_law d i ∙ ap (λ (s : List Settings). get_or s i (endpoint_of blank_record).settings) l.settings
    ∙ sym (settings_at_law d' i)

pub like_length : {d d' : Lent} → Like d d' → length d.records ≡ length d'.records
like_length {d} {d'} l =
    sym (length-map d.records (λ (r : Record). (endpoint_of r).settings)) ∙ ap length l.settings
    ∙ length-map d'.records (λ (r : Record). (endpoint_of r).settings)

pub like_whole : {d d' : Lent} → Like d d' → Whole d' → Whole d
like_whole l w = ap₂ ltb (like_length l) l.counts ∙ w

-- ---- the clock step
-- it keeps the settings, the words handed over and the count of requests
pub tick_keeps : (e : Endpoint) (t : ℕ) → kept (after_tick e t) ≡ kept e
tick_keeps e t = go (is_expired e t)
  where
    go : (b : Bool) → kept (cond b (ended_of e) e) ≡ kept e
    go true = refl
    go false = refl

-- of a record, it is that of its endpoint
ticked_record : (r : Record) (t : ℕ) → endpoint_of (ticked t r) ≡ after_tick (endpoint_of r) t
ticked_record r t = go (is_expired (endpoint_of r) t)
  where
    go : (b : Bool) → endpoint_of (cond b (ended_record r) r) ≡ cond b (ended_of (endpoint_of r)) (endpoint_of r)
    go true = records.ended r
    go false = refl

sets_tick : (n : ℕ) (rs : List Record) (t : ℕ) → sets (on_first (ticked t) n rs) ≡ sets rs
sets_tick zero rs t = refl
sets_tick (suc n) [] t = refl
sets_tick (suc n) (r ∷ rs) t = ap₂ (λ (s : Settings) (l : List Settings). s ∷ l)
    (ap (λ (e : Endpoint). e.settings) (ticked_record r t)
    ∙ ap (λ (s : Kept). s.0) (tick_keeps (endpoint_of r) t)) (sets_tick n rs t)

pub like_tick : (d : Lent) (t : ℕ) → Like (clock_step t d) d
unfolding clock_step
like_tick d t = record { counts = refl; settings = sets_tick d.gateway.count d.records t }

-- at an entry; past the table a record stays
pub ticked_at : (d : Lent) (t i : ℕ) → Whole d → i < d.gateway.count
    → endpoint_at (clock_step t d) i ≡ after_tick (endpoint_at d i) t
unfolding clock_step endpoint_at
ticked_at d t i w h =
    ap endpoint_of (get_d_below (ticked t) d.gateway.count i d.records blank_record h (within d i w h))
    ∙ ticked_record (record_at d.records i) t

first_past : {R : Type 0} (f : R → R) (n i : ℕ) (ys : List R) (y : R) → n ≤ i → get_or (on_first f n ys) i y ≡ get_or ys i y
first_past f zero i ys y h = refl
first_past f (suc n) i [] y h = refl
first_past f (suc n) zero (x ∷ ys) y h = absurd (not-suc-le-zero h)
first_past f (suc n) (suc i) (x ∷ ys) y h = first_past f n i ys y (le_of_suc-le-suc h)

pub ticked_past : (d : Lent) (t i : ℕ) → d.gateway.count ≤ i → endpoint_at (clock_step t d) i ≡ endpoint_at d i
unfolding clock_step endpoint_at
ticked_past d t i h = ap endpoint_of (first_past (ticked t) d.gateway.count i d.records blank_record h)

-- ---- a step put back
pub tidy_at : (d : Lent) (i : ℕ) → Tidy (endpoint_at d i)
unfolding endpoint_at
tidy_at d i = records.tidy (record_at d.records i)

pub placed_here : (d : Lent) (n : ℕ) (e : Endpoint) → Tidy e → n < length d.records
    → endpoint_at (placed n (record_of e) d) n ≡ e
unfolding endpoint_at
placed_here d n e tidy h =
    ap endpoint_of (get_or-set_same d.records n (record_of e) blank_record h) ∙ records.back e tidy

pub placed_there : (d : Lent) (n i : ℕ) (r : Record) → (i ≡ n → ⊥) → endpoint_at (placed n r d) i ≡ endpoint_at d i
unfolding endpoint_at
placed_there d n i r h = ap endpoint_of (get_or-set_other d.records n i r blank_record h)

settings_back : (e : Endpoint) → (endpoint_of (record_of e)).settings ≡ e.settings
settings_back e = rw (flag_back e.settings.slave)

pub like_placed : (d : Lent) (n : ℕ) (e : Endpoint) → e.settings ≡ (endpoint_at d n).settings
    → Like (placed n (record_of e) d) d
unfolding endpoint_at
like_placed d n e h = record {
  counts = refl;
  settings = map-set_same (λ (r : Record). (endpoint_of r).settings) d.records n (record_of e) blank_record
      (settings_back e ∙ h);
}

-- ---- the place of a CID
seek_sets : (cid n : ℕ) (rs : List Record)
    → seek_in (has_connection cid) n rs ≡ seek_in (λ (s : Settings). eqb s.connection cid) n (sets rs)
seek_sets cid zero rs = refl
seek_sets cid (suc n) [] = refl
seek_sets cid (suc n) (r ∷ rs) = ap (λ (i : ℕ). cond (has_connection cid r) 0 (suc i)) (seek_sets cid n rs)

pub place_like : {d d' : Lent} → Like d d' → (cid : ℕ) → place_of cid d ≡ place_of cid d'
unfolding place_of
place_like {d} {d'} l cid =
    seek_sets cid d.gateway.count d.records
    ∙ ap₂ (seek_in (λ (s : Settings). eqb s.connection cid)) l.counts l.settings
    ∙ sym (seek_sets cid d'.gateway.count d'.records)

seek_has : {R : Type 0} (hit : R → Bool) (n : ℕ) (ys : List R) (y : R) → seek_in hit n ys < n
    → seek_in hit n ys < length ys → hit (get_or ys (seek_in hit n ys) y) ≡ true
seek_has hit zero ys y h k = absurd (not-suc-le-zero h)
seek_has hit (suc n) [] y h k = absurd (not-suc-le-zero k)
seek_has hit (suc n) (x ∷ ys) y h k =
    bcase (hit x) (λ q. rw q q)
    (λ q. rw q (seek_has hit n ys y (le_of_suc-le-suc (rw q at h)) (le_of_suc-le-suc (rw q at k))))

-- where it is an entry, it has the CID
pub place_has : (cid : ℕ) (d : Lent) → Whole d → place_of cid d < d.gateway.count
    → (endpoint_at d (place_of cid d)).settings.connection ≡ cid
unfolding place_of endpoint_at
place_has cid d w h =
    eqb-true _ cid (seek_has (has_connection cid) d.gateway.count d.records blank_record h
    (within d (seek_in (has_connection cid) d.gateway.count d.records) w h))
