-- No frame is refused as too far ahead, number 14, but one that is very old.
use mathlib.Core.Path.{◌≡◌, refl, sym, ap, subst, ◌∙◌}
use Rattle.std.specs.Prelude.{Err, Ok}
use mathlib.Core.Bool.{Bool, true, false, not, cond, beq, false≢true}
use mathlib.Core.List.{List, [], ◌∷◌}
use Prim.Native.Nat.{ℕ, ◌+◌, ◌-◌, ◌^◌, ◌<◌}
use lib.ListN.{length}
use native.Mathlib.Omega.{arith}
use borrow.Author.Tests.{not-false}
use Rattle.frame.specs.declared.Command.TheVariants as K
use Rattle.frame.specs.declared.Fields.{Fields}
use Rattle.frame.specs.Control.{is}
use Rattle.endpoint.specs.declared.Settings.{Settings}
use Rattle.endpoint.specs.declared.State.TheVariants.{Refresh}
use Rattle.endpoint.specs.declared.Reason.TheVariants as R
use Rattle.endpoint.specs.Answers.{Answer}
use Rattle.endpoint.specs.declared.Refusal.TheVariants.{Dropped, Ended}
use Rattle.endpoint.specs.declared.Faults.{Faults}
use Rattle.endpoint.specs.Endpoint.{Endpoint}
use Rattle.endpoint.specs.Answers.{number_of, first_of}
use Rattle.endpoint.specs.Table.{is_state}
use Rattle.endpoint.specs.Time.{is_above, is_too_far_ahead, allowance_of, age_of, is_expired}
use Rattle.steps.specs.Calls.{Outcome}
use Rattle.steps.specs.Deliveries.{refresh_faults, request_faults, reply_faults, deliver_of}
use Rattle.steps.specs.Steps.{deliver, call_of}
use Rattle.steps.proofs.Dispatch.{deliver_echo, deliver_refresh, deliver_request, deliver_reply}
use Rattle.steps.proofs.Keeps.{bcase}
use Rattle.link.specs.Clocks.{Reading}
use Rattle.link.specs.Runs.{Event, called, loaded, sent_at, last_of, Link, after_event, after_all, begun}
use Rattle.link.specs.Fresh.{run_of}
use Rattle.link.specs.Ahead.{NeverAhead}
use Rattle.link.proofs.Ages.{latest}
use Rattle.link.proofs.Entries.{delivered}
use Rattle.link.proofs.AtMaster.{ahead_m}
use Rattle.link.proofs.AtSlave.{ahead_s}
use Rattle.link.proofs.Ends.{other_bit}
use Rattle.link.proofs.AgeProof.{RunInv, linked_later, linked_called, Allowed, allowed_call, run_inv}

-- ---- the tests before number 14
not_first : (b : Bool) (a x : Answer) → (number_of a ≡ 14 → ⊥) → number_of (cond b a x) ≡ 14
    → (b ≡ false) × (number_of x ≡ 14)
not_first true a x n h = absurd (n h)
not_first false a x n h = (refl, h)

-- the turn came, the timestamp is no repeat, and it is ahead
record FirstAhead (f : Faults) : Type 0 where
  pub turn : f.turn ≡ false
  pub repeat : f.repeat ≡ false
  pub ahead : f.ahead ≡ true

is_ahead_law : (b : Bool) (x : Answer) → (number_of x ≡ 14 → ⊥) → number_of (cond b (Err (Dropped R.Ahead)) x) ≡ 14 → b ≡ true
is_ahead_law true x n h = refl
is_ahead_law false x n h = absurd (n h)

-- what comes after it is another
none_after : (f : Faults)
    → number_of (cond f.late (Err (Ended R.Late))
    (cond f.unequal (Err (Ended R.Unequal)) (cond f.soon (Err (Dropped R.TooSoon)) (Ok tt)))) ≡ 14
    → ⊥
none_after f h =
    let l = not_first f.late (Err (Ended R.Late)) _ (λ z. omega arith) h in
    let u = not_first f.unequal (Err (Ended R.Unequal)) _ (λ z. omega arith) l.1 in
    let s = not_first f.soon (Err (Dropped R.TooSoon)) (Ok tt) (λ z. omega arith) u.1 in
    omega arith

first_ahead : (f : Faults) → number_of (first_of f) ≡ 14 → FirstAhead f
first_ahead f h =
    let t = not_first f.turn (Err (Dropped R.Turn)) _ (λ z. omega arith) h in
    let s = not_first f.session (Err (Dropped R.Session)) _ (λ z. omega arith) t.1 in
    let n = not_first f.norecord (Err (Dropped R.Record)) _ (λ z. omega arith) s.1 in
    let w = not_first f.width (Err (Dropped R.Width)) _ (λ z. omega arith) n.1 in
    let e = not_first f.exhausted (Err (Ended R.Exhausted)) _ (λ z. omega arith) w.1 in
    let p = not_first f.repeat (Err (Dropped R.Repeat)) _ (λ z. omega arith) e.1 in
    record { turn = t.0; repeat = p.0; ahead = is_ahead_law f.ahead _ (none_after f) p.1 }

-- ---- a frame that is refused so is an S-Refresh of the other end, in Refresh
record ValueAhead (e : Endpoint) (t : ℕ) (f : Fields) : Type 0 where
  pub other : beq f.application e.settings.slave ≡ false
  pub refresh : is f.command K.Refresh ≡ true
  pub state : is_state e.state Refresh ≡ true
  pub above : is_above e.timestamps.accepted f.timestamp ≡ true
  pub ahead : is_too_far_ahead (age_of e t f.timestamp) (allowance_of e.settings) ≡ true

module _ (e : Endpoint) (t : ℕ) (f : Fields) (body : List ℕ) where
  -- as a part of the delivery has it
  by_part : {o : Outcome} → deliver_of e t f body ≡ o → number_of (deliver_of e t f body).answer ≡ 14
      → number_of o.answer ≡ 14
  by_part q h = sym (ap (λ (o : Outcome). number_of o.answer) q) ∙ h

  value_ahead : number_of (deliver_of e t f body).answer ≡ 14 → ValueAhead e t f
  value_ahead h =
      bcase (beq f.application e.settings.slave)
      (λ q. let z = by_part (deliver_echo e t f body q) h in absurd (omega arith))
      (λ q. bcase (is f.command K.Refresh)
      (λ r.
      let k = first_ahead (refresh_faults e t f.subconnection f.timestamp (length body))
      (by_part (deliver_refresh e t f body q r) h) in
      record {
        other = q;
        refresh = r;
        state = not-false (is_state e.state Refresh) k.turn;
        above = not-false (is_above e.timestamps.accepted f.timestamp) k.repeat;
        ahead = k.ahead;
      })
      (λ r. bcase e.settings.slave
      (λ s. absurd (false≢true
      (first_ahead (request_faults e t f body) (by_part (deliver_request e t f body q r s) h)).ahead))
      (λ s. absurd (false≢true
      (first_ahead (reply_faults e t f body) (by_part (deliver_reply e t f body q r s) h)).ahead))))

-- the clock step refuses nothing so
after_tick_law : (e : Endpoint) (t : ℕ) (f : Fields) (body : List ℕ) → number_of (call_of e t (deliver f body)).answer ≡ 14
    → (is_expired e t ≡ false) × (number_of (deliver_of e t f body).answer ≡ 14)
after_tick_law e t f body h =
    bcase (is_expired e t) (λ x. let z : ◌≡◌ {A = ℕ} 9 14 = rw x at h in absurd (omega arith)) (λ x. (x, rw x at h))

-- the shift stays
shift_kept : (l : Link) (vs : List Event) → (after_all l vs).shift ≡ l.shift
shift_kept l [] = refl
shift_kept l (v ∷ vs) = shift_kept (after_event l v) vs ∙ by v
  where
    by : (v : Event) → (after_event l v).shift ≡ l.shift
    by (called slave t other call) = refl
    by (loaded s number) = refl

module _ (sm ss : Settings) (l : Link) (v : RunInv sm ss l) (t other : ℕ) (f : Fields) (body : List ℕ) where
  abbrev Old : ℕ → Type 0
  Old m = (sent_at l.log (last_of f body l.log - 1)).moment + 2 ^ 46 < m

  at_m : Allowed l false t other (deliver f body) → number_of (call_of l.master t (deliver f body)).answer ≡ 14
      → Old (t + l.shift)
  at_m A h =
      let lim = A.within in
      let L = linked_later v.linked (t + l.shift) A.rises in
      let x = after_tick_law l.master t f body h in
      let w = value_ahead l.master t f body x.1 in
      let d = delivered l.given f body l.log A.delivers in
      let role = ap (λ (s : Settings). s.slave) L.set_m ∙ L.paired.master in
      let k : last_of f body l.log - 1 ≡ d.place = let z = d.last in omega arith in
      subst (λ (n : ℕ). (sent_at l.log n).moment + 2 ^ 46 < t + l.shift) (sym k)
      (ahead_m t lim L f body d.place d.handed
      (other_bit l.master f w.other ∙ ap not role) w.refresh w.ahead)

  at_s : Allowed l true t other (deliver f body) → number_of (call_of l.slave t (deliver f body)).answer ≡ 14 → ⊥
  at_s A h =
      let lim = A.within in
      let r : Reading = record { tick = t; moment = other } in
      let L = linked_called v.linked r A.rises in
      let ti = latest l.readings r A.paced in
      let x = after_tick_law l.slave t f body h in
      let w = value_ahead l.slave t f body x.1 in
      let d = delivered l.given f body l.log A.delivers in
      let role = ap (λ (s : Settings). s.slave) L.set_s ∙ L.paired.slave in
      ahead_s t lim ti L f body d.place d.handed
      (other_bit l.slave f w.other ∙ ap not role) x.0 w.refresh
      w.state w.above w.ahead

pub never_ahead : NeverAhead
never_ahead sm ss number shift vs false t other f body p h a =
    let l = run_of sm ss number shift vs in
    let A = allowed_call l false t other (deliver f body) h in
    let e = shift_kept (begun sm ss number shift) vs in
    let z = at_m sm ss l (run_inv sm ss number shift vs p A.before) t other f body A (ap number_of a) in
    omega arith
never_ahead sm ss number shift vs true t other f body p h a =
    let l = run_of sm ss number shift vs in
    let A = allowed_call l true t other (deliver f body) h in
    absurd (at_s sm ss l (run_inv sm ss number shift vs p A.before) t other f body A (ap number_of a))
