-- Two endpoints and their log against the invariant's master, slave and marks.
use mathlib.Core.Path.{◌≡◌, refl, sym, ap, ◌∙◌}
use Rattle.std.specs.Prelude.{None, Option, Some, ℕ}
use mathlib.Core.Bool.{Bool, true, false, ◌&&◌, ◌||◌, cond, and-false, true≢false, false≢true}
use mathlib.Core.Logic.{⊎_elim}
use mathlib.Core.List.{List, map}
use Prim.Native.Nat.{ℕ, suc, ◌+◌, ◌-◌, ◌%◌, ◌≤◌, ◌<◌}
use native.Mathlib.Omega.{arith}
use lib.Dec.{ltb, leb}
use lib.ListN.{length}
use borrow.Author.Tests.{ltb-true, ltb-false, not-true}
use mathlib.Mathlib.Data.Bool.Basic.{and_elim_right as and_right}
use Rattle.frame.specs.declared.Command.TheVariants as K
use Rattle.frame.specs.declared.Fields.{Fields}
use Rattle.frame.specs.Control.{is, code_of, may_be_busy, narrowed}
use Rattle.words.specs.Words.{word_at}
use Rattle.endpoint.specs.declared.Settings.{Settings}
use Rattle.endpoint.specs.declared.State.TheVariants.{Refresh, RefreshPending}
use Rattle.endpoint.specs.declared.Queue.{Queue}
use Rattle.endpoint.specs.declared.Station.{Station}
use Rattle.endpoint.specs.Endpoint.{Value, Words, Endpoint}
use Rattle.endpoint.specs.Table.{is_state, is_setup}
use Rattle.endpoint.specs.Due.{is_pending, measurement_interval, last_step, is_late, is_open, refresh_due}
use Rattle.endpoint.specs.Time.{span, half, master_time, is_above, is_too_far_ahead, allowance_of, counted_age, is_too_late}
use Rattle.endpoint.specs.Time.{is_over, offset_life, is_outdated, is_expired, time_of}
use Rattle.endpoint.specs.Updates.{endpoint_of, with_queue}
use Rattle.steps.specs.Frames.{setup_data, padded_of, show_width, session_of}
use Rattle.steps.specs.Laws.{Ticks}
use Rattle.steps.proofs.Firsts.{neither}
use Rattle.link.specs.Clocks.{Reading}
use Rattle.link.specs.Runs.{Sent, sent_at, Grant}
use Rattle.link.specs.Fresh.{Paired}
use Rattle.link.proofs.Ages.{compared, le_or_lt}
use Rattle.link.proofs.Marks.{Mark, mark}
use Rattle.link.proofs.Invariant.{limit, MasterTerms, SlaveTerms, Small, rest_m, live_m, asked, got, Master}
use Rattle.link.proofs.Invariant.{live_s, armed, Slave, Inv}
use Rattle.link.proofs.Codes.{is_established}

-- ---- what the invariant's numbers are
abbrev pub master_terms : ℕ → Settings → MasterTerms
master_terms shift s = record { shift = shift; trip = s.roundtrip; hold = s.interval; age = s.age }

abbrev pub slave_terms : List Reading → Settings → SlaveTerms
slave_terms calls s = record { calls = calls; trip = s.roundtrip; hold = s.interval; age = s.age }

pub small_of : (s : Settings) → Ticks s → Small s.roundtrip s.interval s.age
small_of s p = record { trip = p.roundtrip; hold = p.interval; some = p.some; age = p.age }

-- one above the session number in a frame, 0 where it has none
abbrev pub numbered : Option ℕ → ℕ
numbered None = 0
numbered (Some n) = suc n

-- 0 the master, 1 the slave's reply, 2 the slave's S-Refresh
abbrev pub who_of : Fields → ℕ
who_of f = cond f.application (cond (is f.command K.Refresh) 2 1) 0

abbrev pub mark_of : Sent → Mark
mark_of w = mark (who_of w.fields) (code_of w.fields.command) w.fields.timestamp w.fields.baseline
    w.moment w.body (numbered w.fields.subconnection) w.loads

unfoldable pub marks : List Sent → List Mark
marks l = map mark_of l

-- one above a remembered timestamp
abbrev pub top_of : Option ℕ → ℕ
top_of None = 0
top_of (Some r) = suc r

pub above_top : (o : Option ℕ) (s : ℕ) → is_above o s ≡ true → top_of o ≤ s
above_top None s h = omega arith
above_top (Some r) s h = ltb-true r s h

-- ---- what its user tells an endpoint: whether the station is ready, the queue, the words and the error record handed
-- over; nothing that the relation turns on
abbrev pub told_of : Endpoint → Station → Queue → Words → Words → Endpoint
told_of e s q w r =
    endpoint_of e.settings e.state e.session e.since e.timestamps (with_queue q e).setup e.measurement
    s w r e.value

-- ---- the value held
abbrev pub Holds : Settings → Value → Option (List ℕ) → Type 0
Holds s v None = v.taken ≡ false
Holds s v (Some b) = (v.taken ≡ true) × (v.bytes ≡ padded_of b) × (length b ≡ show_width s)

-- ---- a master
-- in Refresh, with the measurement that is under way, or is late: S-RefreshMO has no reply yet, or has one and no
-- S-RefreshGO. Once this has gone nothing more is asked
pub record LiveAtM (e : Endpoint) (m : Master) : Type 0 where
  pub value : Option (List ℕ)
  pub phase : m.phase ≡ live_m e.since e.value.age value
  pub holds : Holds e.settings e.value value
  pub asks : e.measurement.answered ≡ false → (s : ℕ) → e.setup.pending ≡ Some s → m.measuring ≡ asked s
  pub closes : e.measurement.answered ≡ true → e.setup.pending ≡ None
      → m.measuring ≡ got e.setup.measured

pub record AskedAt (e : Endpoint) (m : Master) (s : ℕ) : Type 0 where
  pub since : s ≡ e.since
  pub rests : m.phase ≡ rest_m
  pub measuring : m.measuring ≡ asked s

pub record GotAt (e : Endpoint) (m : Master) : Type 0 where
  pub measuring : m.measuring ≡ got e.setup.measured
  pub since : e.since ≡ e.setup.measured

pub record RelM (e : Endpoint) (took : ℕ) (m : Master) : Type 0 where
  pub session : numbered (session_of e) ≡ m.session
  pub next_out : top_of e.timestamps.sent ≡ m.next_out
  pub next_in : top_of e.timestamps.accepted ≡ m.next_in
  pub held : took ≡ m.held
  pub live : is_state e.state Refresh ≡ true → LiveAtM e m
  pub pend : is_setup e.state ≡ true → (s : ℕ) → e.setup.pending ≡ Some s → AskedAt e m s
  pub ready : is_state e.state RefreshPending ≡ true → e.setup.pending ≡ None → GotAt e m

-- ---- a slave
-- in Refresh, with the measurement that is under way, or is late: S-RefreshMO was answered
pub record LiveAtS (e : Endpoint) (s : Slave) : Type 0 where
  pub value : Option (List ℕ)
  pub phase : s.phase ≡ live_s e.setup.offset e.measurement.reference e.since e.value.age value
  pub holds : Holds e.settings e.value value
  pub opens : e.measurement.answered ≡ true → s.measuring ≡ armed e.setup.measured

pub record ArmedAt (e : Endpoint) (s : Slave) : Type 0 where
  pub measuring : s.measuring ≡ armed e.setup.measured
  pub since : e.since ≡ e.setup.measured

pub record RelS (sm : Settings) (loads : ℕ) (e : Endpoint) (took : ℕ) (s : Slave) : Type 0 where
  pub number : session_of e ≡ Some s.number
  pub epoch : loads ≡ s.epoch
  pub next_out : top_of e.timestamps.sent ≡ s.next_out
  pub next_in : top_of e.timestamps.accepted ≡ s.next_in
  pub held : took ≡ s.held
  pub live : is_state e.state Refresh ≡ true → LiveAtS e s
  pub ready : is_state e.state RefreshPending ≡ true → ArmedAt e s
  -- once S-InitConfirmNetPrm was taken, R is the master's
  pub agreed : is_established e.state ≡ true → e.settings.roundtrip ≡ sm.roundtrip

-- ---- both, and the log
-- an entry's frame tells its writer; an S-Refresh that a send was lent its body; Busy stands where it may; a session
-- number has 16 bits; and the master's S-InitConfirmNetPrm has its own settings
pub record Honest (sm : Settings) (w : Sent) : Type 0 where
  pub writer : w.fields.application ≡ w.slave
  pub value : is w.fields.command K.Refresh ≡ true → w.lent ≡ Some w.body
  pub busy : w.fields.busy ≡ true → may_be_busy w.fields.command ≡ true
  pub session : narrowed w.fields.subconnection ≡ w.fields.subconnection
  pub confirms : w.fields.application ≡ false → is w.fields.command K.ConfirmNetwork ≡ true
      → w.body ≡ setup_data sm K.ConfirmNetwork

-- R is the second of its words
pub roundtrip_in : (s : Settings) → word_at (setup_data s K.ConfirmNetwork) 4 ≡ s.roundtrip
unfolding setup_data
roundtrip_in s = omega arith

-- a session number as an endpoint's frames carry it has no more to lose
pub narrowed_again : (s : Option ℕ) → narrowed (narrowed s) ≡ narrowed s
narrowed_again None = refl
narrowed_again (Some n) = let z : n % 65536 % 65536 ≡ n % 65536 = omega arith in ap Some z

-- calls and ss are the slave's calls and settings as it was last loaded, after so many loads
pub record Linked (shift : ℕ) (calls : List Reading) (sm ss : Settings) (loads : ℕ) (given : List Grant) (now : ℕ)
    (l : List Sent) (em es : Endpoint) (tm ts : ℕ) : Type 0 where
  pub master : Master
  pub slave : Slave
  pub paired : Paired sm ss
  pub set_m : em.settings ≡ sm
  pub set_s : es.settings ≡ ss
  pub rel_m : RelM em tm master
  pub rel_s : RelS sm loads es ts slave
  pub honest : (i : ℕ) → i < length l → Honest sm (sent_at l i)
  pub inv : Inv (master_terms shift sm) (slave_terms calls ss) now given (marks l) master slave

-- ---- timers that have not expired, and times
not_both : (a b : Bool) → (a && b) ≡ false → a ≡ true → b ≡ false
not_both true b h p = h
not_both false b h p = absurd (false≢true p)

-- an offset that is too old ends its slave
old_ends : (e : Endpoint) (t : ℕ) → e.settings.slave ≡ true → is_state e.state Refresh ≡ true
    → offset_life < t - e.measurement.reference → is_outdated e t ≡ true
old_ends e t s p k = rw (s, p) (simp compared)

module _ (e : Endpoint) (t : ℕ) (h : is_expired e t ≡ false) where
  abbrev over : Bool
  over = is_over e.state e.settings.roundtrip e.settings.interval (t - e.since)

  abbrev in_setup : Bool
  in_setup = is_setup e.state && ltb e.settings.roundtrip (t - e.since)

  abbrev in_refresh : Bool
  in_refresh = is_state e.state Refresh && ltb e.settings.interval (t - e.since)

  pub setup_timer : is_setup e.state ≡ true → t ≤ e.since + e.settings.roundtrip
  setup_timer p =
      let o = (neither over (is_outdated e t) h).0 in
      let z = ltb-false e.settings.roundtrip (t - e.since)
      (not_both (is_setup e.state) _ (neither in_setup in_refresh o).0 p) in
      omega arith

  pub refresh_timer : is_state e.state Refresh ≡ true → t ≤ e.since + e.settings.interval
  refresh_timer p =
      let o = (neither over (is_outdated e t) h).0 in
      let z = ltb-false e.settings.interval (t - e.since)
      (not_both (is_state e.state Refresh) _ (neither in_setup in_refresh o).1 p) in
      omega arith

  -- a slave's offset serves
  pub offset_timer : e.settings.slave ≡ true → is_state e.state Refresh ≡ true
      → t ≤ e.measurement.reference + offset_life
  offset_timer s p =
      let o = (neither over (is_outdated e t) h).1 in
      ⊎_elim (λ z. omega arith) (λ z. absurd (true≢false (sym (old_ends e t s p z) ∙ o)))
      (le_or_lt (t - e.measurement.reference) offset_life)

-- a measurement whose next step takes over R ticks is late
late_told : (e : Endpoint) (t : ℕ) → e.settings.roundtrip < t - last_step e.setup.pending e.setup.measured
    → is_late e t ≡ true
late_told e t k = simp compared

-- where S-RefreshGO is due one is open, and so is not late
go_open : (slave opened pending due : Bool)
    → is (cond slave K.Refresh (cond opened (cond pending K.Refresh K.RefreshGo) (cond due K.RefreshMo K.Refresh)))
    K.RefreshGo ≡ true
    → opened ≡ true
go_open true o p d h = absurd (false≢true h)
go_open false true p d h = refl
go_open false false p true h = absurd (false≢true h)
go_open false false p false h = absurd (false≢true h)

pub go_timer : (e : Endpoint) (t : ℕ) → refresh_due e t ≡ K.RefreshGo
    → t ≤ last_step e.setup.pending e.setup.measured + e.settings.roundtrip
go_timer e t h =
    let o = go_open e.settings.slave (is_open e t) (is_pending e.setup.pending)
    (leb measurement_interval (t - e.measurement.reference)) (ap (λ k. is k K.RefreshGo) h) in
    let n = not-true (is_late e t) (and_right (is_pending e.setup.pending || e.measurement.answered) _ o) in
    ⊎_elim (λ z. omega arith) (λ z. absurd (true≢false (sym (late_told e t z) ∙ n)))
    (le_or_lt (t - last_step e.setup.pending e.setup.measured) e.settings.roundtrip)

pub master_time_law : (e : Endpoint) (t : ℕ) → e.settings.slave ≡ false → t ≤ limit → time_of e t ≡ t
master_time_law e t h k =
    let p : master_time e.settings.slave e.setup.offset t ≡ (t + 0) % span = ap
    (λ (b : Bool). master_time b e.setup.offset t) h in
    p ∙ omega arith

pub slave_time_law : (e : Endpoint) (t : ℕ) → e.settings.slave ≡ true → time_of e t ≡ (t + e.setup.offset) % span
slave_time_law e t h = ap (λ (b : Bool). master_time b e.setup.offset t) h

-- ---- an age that is neither too far ahead nor too late
-- what is refused: an age above the limit, and one that is ahead by more than the allowance
late_refused : (age limit : ℕ) → limit < counted_age age → is_too_late age limit ≡ true
late_refused age limit h = simp compared

ahead_refused : (age allowance : ℕ) → half ≤ age → allowance < span - age → is_too_far_ahead age allowance ≡ true
ahead_refused age allowance h k = simp compared

-- and what is not: an age that is not ahead, and one within the allowance
behind_taken : (age allowance : ℕ) → age < half → is_too_far_ahead age allowance ≡ false
behind_taken age allowance h = simp (compared, and-false)

near_taken : (age allowance : ℕ) → span - age ≤ allowance → is_too_far_ahead age allowance ≡ false
near_taken age allowance h = simp (compared, and-false)

-- so one that is refused is neither
pub too_far : (age allowance : ℕ) → is_too_far_ahead age allowance ≡ true → (half ≤ age) × (allowance < span - age)
too_far age allowance h = (
  ⊎_elim (λ p. p) (λ p. absurd (true≢false (sym h ∙ behind_taken age allowance p))) (le_or_lt half age),
  ⊎_elim (λ p. absurd (true≢false (sym h ∙ near_taken age allowance p))) (λ p. p) (le_or_lt (span - age) allowance),
)

-- what each end allows
pub master_allows : (s : Settings) → s.slave ≡ false → allowance_of s ≡ s.roundtrip + 3
master_allows s h = rw h

pub slave_allows : (s : Settings) → s.slave ≡ true → allowance_of s ≡ 3
slave_allows s h = rw h

-- an age that is taken is neither
pub not_late : (age limit : ℕ) → is_too_late age limit ≡ false → counted_age age ≤ limit
not_late age limit late = ⊎_elim (λ p. p) (λ p. absurd (true≢false (sym (late_refused age limit p) ∙ late)))
    (le_or_lt (counted_age age) limit)

pub not_ahead : (age allowance : ℕ) → is_too_far_ahead age allowance ≡ false → half ≤ age → span - age ≤ allowance
not_ahead age allowance far h = ⊎_elim (λ p. p)
    (λ p. absurd (true≢false (sym (ahead_refused age allowance h p) ∙ far))) (le_or_lt (span - age) allowance)
