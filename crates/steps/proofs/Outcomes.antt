-- The ways a call with a lent output ends: too little room, nothing written, a frame written.
use mathlib.Core.Path.{◌≡◌, ap, ◌∙◌}
use mathlib.Core.Bool.{Bool, true, false, cond}
use Rattle.std.specs.Prelude.{Err, Ok}
use mathlib.Core.List.{List}
use Prim.Native.Nat.{ℕ, ◌≤◌, ◌<◌}
use lib.ListN.{length}
use borrow.Author.Tests.{lt-ltb, le-ltb}
use Rattle.frame.specs.declared.Fields.{Fields}
use Rattle.words.specs.Output.{over}
use Rattle.endpoint.specs.Endpoint.{Endpoint, bare, core_of}
use Rattle.endpoint.specs.declared.Core.{Core}
use Rattle.endpoint.specs.declared.Reason.TheVariants as R
use Rattle.endpoint.specs.Answers.{Answer}
use Rattle.endpoint.specs.declared.Refusal.TheVariants.{Dropped}
use Rattle.steps.specs.declared.Stepped.{Stepped}
use Rattle.steps.specs.Frames.{nothing, frame}
use Rattle.steps.specs.Frames as W
use Rattle.steps.specs.Calls.{Outcome, outcome, dropped}
use Rattle.steps.specs.Says.{with_room, stepped_of, plain_step, StepSays}
use Rattle.steps.proofs.Whole.{WholeSays}

-- ---- an outcome that writes nothing, one that writes a frame, and one that writes a value
module _ (out : List ℕ) (o : Outcome) (a : Answer) (x : Endpoint) where
  pub quiet_step : {r : Stepped} → o ≡ outcome a x nothing → r ≡ stepped_of a (core_of x) 0 → StepSays o out out r
  unfolding over
  quiet_step q s = record { answered = rw (s, q); left = rw (s, q); counted = rw (s, q); output = rw q }

  pub loud_step : (f : Fields) (body : List ℕ) {out' : List ℕ} {n : ℕ} {r : Stepped} → o ≡ outcome a x (frame f body)
      → WholeSays f body out out' n → r ≡ stepped_of a (core_of x) n → StepSays o out out' r
  loud_step f body q w s =
      record { answered = rw (s, q); left = rw (s, q); counted = rw (s, q) w.counted; output = rw q w.output }

  -- bytes for the user
  pub value_step : (bytes : List ℕ) {out' : List ℕ} {n : ℕ} {r : Stepped} → o ≡ outcome a x (W.value bytes)
      → n ≡ length bytes → out' ≡ over bytes out → r ≡ stepped_of a (core_of x) n → StepSays o out out' r
  value_step bytes q l w s = record { answered = rw (s, q); left = rw (s, q); counted = rw (s, q) l; output = rw q w }

-- ---- the same where the output was found long enough, and where it was not
module _ (out : List ℕ) (e : Endpoint) (o : Outcome) where
  pub short : {r : Stepped} → length out < 248 → r ≡ stepped_of (Err (Dropped R.Buffer)) (core_of e) 0
      → StepSays (with_room (length out) e o) out out r
  short h s =
      let t = lt-ltb (length out) 248 h in
      quiet_step out (with_room (length out) e o) (Err (Dropped R.Buffer)) e (rw t) s

  pub roomy : {out' : List ℕ} {r : Stepped} → 248 ≤ length out → StepSays o out out' r
      → StepSays (with_room (length out) e o) out out' r
  roomy h s = rw (le-ltb (length out) 248 h) s

  module _ (h : 248 ≤ length out) (a : Answer) (x : Endpoint) where
    pub quiet : {r : Stepped} → o ≡ outcome a x nothing → r ≡ stepped_of a (core_of x) 0
        → StepSays (with_room (length out) e o) out out r
    quiet q s = roomy h (quiet_step out o a x q s)

    pub loud : (f : Fields) (body : List ℕ) {out' : List ℕ} {n : ℕ} {r : Stepped} → o ≡ outcome a x (frame f body)
        → WholeSays f body out out' n → r ≡ stepped_of a (core_of x) n → StepSays (with_room (length out) e o) out out' r
    loud f body q w s = roomy h (loud_step out o a x f body q w s)

-- ---- a call that is done where its user has the turn
pub turn_step : (turn : Bool) (e : Core) (x : Endpoint) {next : Core} {r : Stepped} → next ≡ core_of x
    → r ≡ cond turn (stepped_of (Ok tt) next 0) (stepped_of (Err (Dropped R.Turn)) e 0)
    → r ≡ plain_step (cond turn (outcome (Ok tt) x nothing) (dropped (bare e) (Err (Dropped R.Turn))))
turn_step true e x p q = q ∙ ap (λ (y : Core). stepped_of (Ok tt) y 0) p
turn_step false e x p q = q
