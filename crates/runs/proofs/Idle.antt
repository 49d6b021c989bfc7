-- A call that does not reach an endpoint takes the clock step on it, and that is all: in a run of two endpoints some
-- refused call does the same.
use mathlib.Core.Path.{◌≡◌, refl, sym, ap, ◌∙◌}
use Rattle.std.specs.Prelude.{Err, Ok}
use mathlib.Core.Bool.{Bool, true, false, ◌&&◌, not, cond}
use Prim.Native.Nat.{ℕ}
use lib.Dec.{eqb}
use borrow.Author.Tests.{eqb-true}
use Rattle.endpoint.specs.declared.State.{State}
use Rattle.endpoint.specs.declared.State.TheVariants.{Close, Terminate, TerminateMore}
use Rattle.endpoint.specs.Endpoint.{Endpoint}
use Rattle.endpoint.specs.declared.Reason.TheVariants as R
use Rattle.endpoint.specs.Answers.{Answer}
use Rattle.endpoint.specs.declared.Refusal.TheVariants.{Dropped, Ended}
use Rattle.endpoint.specs.Answers.{is_done}
use Rattle.endpoint.specs.Table.{row_of, is_state, is_terminated}
use Rattle.endpoint.specs.Time.{is_expired, ended_of, after_tick}
use Rattle.transitions.specs.ByCall.{started_of, restarted_of}
use Rattle.steps.specs.Frames.{nothing}
use Rattle.steps.specs.Calls.{outcome, dropped}
use Rattle.steps.specs.Steps.{Act, start, restart, Call, act, step_of, call_of}
use Rattle.steps.proofs.Dispatch.{cond_true, cond_false}
use Rattle.steps.proofs.Keeps.{bcase}

-- a call that is refused, and that changes and writes nothing else
pub record Idle (e : Endpoint) (t : ℕ) : Type 0 where
  pub by : Act
  pub answer : Answer
  pub refused : is_done answer ≡ false
  pub comes : call_of e t (act by) ≡ outcome answer (after_tick e t) nothing

-- what a call comes to where the timer has expired, and where it has not
pub call_expired : (e : Endpoint) (t : ℕ) (k : Call) → is_expired e t ≡ true
    → call_of e t k ≡ outcome (Err (Ended R.Expired)) (ended_of e) nothing
call_expired e t k h = cond_true (is_expired e t) _ (step_of e t k) h

pub call_timely : (e : Endpoint) (t : ℕ) (k : Call) → is_expired e t ≡ false → call_of e t k ≡ step_of e t k
call_timely e t k h = cond_false (is_expired e t) _ (step_of e t k) h

pub tick_expired : (e : Endpoint) (t : ℕ) → is_expired e t ≡ true → after_tick e t ≡ ended_of e
tick_expired e t h = cond_true (is_expired e t) (ended_of e) e h

pub tick_timely : (e : Endpoint) (t : ℕ) → is_expired e t ≡ false → after_tick e t ≡ e
tick_timely e t h = cond_false (is_expired e t) (ended_of e) e h

not_closed : (s : State) → is_terminated s ≡ true → is_state s Close ≡ false
not_closed s h =
    bcase (is_state s Terminate) (λ x. apart (row_of Terminate) x refl)
    (λ x. let y : is_state s TerminateMore ≡ true = rw x at h in apart (row_of TerminateMore) y refl)
  where
    apart : (n : ℕ) → eqb (row_of s) n ≡ true → eqb n (row_of Close) ≡ false → is_state s Close ≡ false
    apart n x y = ap (λ (m : ℕ). eqb m (row_of Close)) (eqb-true (row_of s) n x) ∙ y

start_refused : (e : Endpoint) (t : ℕ) (m b : Bool) → b ≡ false
    → cond (m && b) (outcome (Ok tt) (started_of e t) nothing) (dropped e (Err (Dropped R.Turn))) ≡ dropped e (Err (Dropped R.Turn))
start_refused e t true b h = cond_false b _ (dropped e (Err (Dropped R.Turn))) h
start_refused e t false b h = refl

pub idle_at : (e : Endpoint) (t : ℕ) → Idle e t
idle_at e t =
    bcase (is_expired e t)
    (λ x. record {
      by = restart 0;
      answer = Err (Ended R.Expired);
      refused = refl;
      comes = call_expired e t (act (restart 0)) x
          ∙ ap (λ (y : Endpoint). outcome (Err (Ended R.Expired)) y nothing) (sym (tick_expired e t x));
    })
    (λ x. bcase (is_terminated e.state)
    (λ s. record {
      by = start;
      answer = Err (Dropped R.Turn);
      refused = refl;
      comes = call_timely e t (act start) x
          ∙ start_refused e t (not e.settings.slave) (is_state e.state Close) (not_closed e.state s)
          ∙ ap (λ (y : Endpoint). dropped y (Err (Dropped R.Turn))) (sym (tick_timely e t x));
    })
    (λ s. record {
      by = restart 0;
      answer = Err (Dropped R.Turn);
      refused = refl;
      comes = call_timely e t (act (restart 0)) x
          ∙ cond_false (is_terminated e.state) (outcome (Ok tt) (restarted_of e 0) nothing)
          (dropped e (Err (Dropped R.Turn))) s
          ∙ ap (λ (y : Endpoint). dropped y (Err (Dropped R.Turn))) (sym (tick_timely e t x));
    }))
