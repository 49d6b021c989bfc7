-- How a function's result and its lent output stand to an outcome.
use Rattle.std.specs.Prelude.{◌≡◌, cond, List, [], ℕ, ◌≤◌, ltb, length, take}
use Rattle.std.specs.Prelude.{Err}
use Rattle.words.specs.Output.{over}
use Rattle.endpoint.specs.declared.Core.{Core}
use Rattle.endpoint.specs.Endpoint.{Endpoint, core_of}
use Rattle.endpoint.specs.declared.Reason.TheVariants as R
use Rattle.endpoint.specs.Answers.{Answer}
use Rattle.endpoint.specs.declared.Refusal.TheVariants.{Dropped}
use Rattle.steps.specs.declared.Stepped.{Stepped}
use Rattle.steps.specs.declared.Shown.{Shown}
use Rattle.steps.specs.declared.Body.{Body}
use Rattle.steps.specs.Frames.{bytes_of}
use Rattle.steps.specs.Calls.{Outcome, dropped, is_fail_safe, shown_of, shown_age}

-- number 2: the lent output is under 248 bytes
abbrev pub with_room : ℕ → Endpoint → Outcome → Outcome
with_room room e o = cond (ltb room 248) (dropped e (Err (Dropped R.Buffer))) o

-- S-Data: the first bytes of an array
abbrev pub bytes_in : Body → List ℕ
bytes_in d = take d.length d.bytes

pub record DataSays (carried : List ℕ) (d : Body) : Type 0 where
  pub counted : d.length ≡ length carried
  pub holds : bytes_in d ≡ carried
  pub fits : d.length ≤ length d.bytes

abbrev pub stepped_of : Answer → Core → ℕ → Stepped
stepped_of a e n = record { answer = a; core = e; count = n }

-- a call that is lent no output, and writes nothing
abbrev pub plain_step : Outcome → Stepped
plain_step o = stepped_of o.answer (core_of o.endpoint) 0

-- a call that is lent an output: the written bytes stand over its front, the rest stays
pub record StepSays (o : Outcome) (out out' : List ℕ) (r : Stepped) : Type 0 where
  pub answered : r.answer ≡ o.answer
  pub left : r.core ≡ core_of o.endpoint
  pub counted : r.count ≡ length (bytes_of o.writes)
  pub output : out' ≡ over (bytes_of o.writes) out

-- what a show writes to an output of `room` bytes; under 248 nothing
abbrev pub shown_to : ℕ → Endpoint → List ℕ
shown_to room e = cond (ltb room 248) [] (shown_of e)

pub record ShowSays (e : Endpoint) (t : ℕ) (out out' : List ℕ) (r : Shown) : Type 0 where
  pub counted : r.count ≡ length (shown_to (length out) e)
  pub marked : r.failsafe ≡ is_fail_safe e
  pub aged : r.age ≡ shown_age e t
  pub output : out' ≡ over (shown_to (length out) e) out
