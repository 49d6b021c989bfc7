-- `steps::deliver::take_reply` meets its contract: refused, a result, or another reply.
use mathlib.Core.Bool.{true, false}
use mathlib.Core.Path.{◌≡◌, sym, ap, ◌∙◌}
use native.Mathlib.Omega.{arith}
use Prim.Native.Nat.{◌≤◌}
use lib.ListN.{length}
use Rattle.endpoint.specs.declared.Core.{Core}
use Rattle.endpoint.specs.Endpoint.{Endpoint, bare}
use Rattle.endpoint.specs.Answers.{is_done, left_by}
use Rattle.endpoint.specs.Time.{ended_of}
use Rattle.transitions.specs.ByFrame.{heard_of}
use Rattle.steps.specs.Calls.{outcome}
use Rattle.steps.specs.Deliveries.{is_result, take_reply}
use Rattle.steps.specs.Frames.{nothing}
use Rattle.steps.specs.Frames as W
use Rattle.steps.specs.Says.{stepped_of}
use Rattle.steps.specs.Values.{with_handed}
use Rattle.words.proofs.Put.{fits, fits_count}
use Rattle.steps.proofs.Handed.{heard_core, refused_core, reply_le}
use Rattle.steps.proofs.Left.{left_refused, refused_by, done_by}
use Rattle.steps.proofs.Outcomes.{quiet_step, value_step}
use Rattle.steps.proofs.deliver.take_reply.Goals as goal

pub returns-then-is_err : goal.returns-then-is_err
returns-then-is_err c =
    let a = c.args in
    let b = bare a.e in
    let e = with_handed a.handed.words.now a.handed.errorinfo.now b in
    let r = c.reply_answer-answer.result in
    let x = left_by r e (ended_of e) e in
    let h : is_done r ≡ false = refused_by r (sym c.is_err.ensures.value ∙ c.if-is_err.true) in
    let q : take_reply e a.clock a.f a.body.now ≡ outcome r x nothing =
    rw (← c.reply_answer-answer.ensures, h) (ap (λ (y : Endpoint). outcome r y nothing)
    (left_refused e (ended_of e) (heard_of e a.clock a.f) r h)) in
    quiet_step a.out.now (take_reply e a.clock a.f a.body.now) r x q
    (c.refused.ensures ∙ ap (λ (y : Core). stepped_of r y 0) (refused_core b a.handed.words.now a.handed.errorinfo.now r))

pub returns-then-not-is_result : goal.returns-then-not-is_result
returns-then-not-is_result c =
    let a = c.args in
    let b = bare a.e in
    let e = with_handed a.handed.words.now a.handed.errorinfo.now b in
    let x = heard_of e a.clock a.f in
    let r = c.reply_answer-answer.result in
    let h = done_by r (sym c.is_err.ensures.value ∙ c.if-is_err.false) in
    let result : is_result a.f ≡ false = sym c.is_result.ensures ∙ c.if-not-is_result.true in
    let q : take_reply e a.clock a.f a.body.now ≡ outcome r x nothing =
    rw (← c.reply_answer-answer.ensures, h, result) in
    quiet_step a.out.now (take_reply e a.clock a.f a.body.now) r x q
    (c.plain.ensures ∙ ap (λ (y : Core). stepped_of r y 0)
    (c.heard-core.ensures ∙ heard_core b a.handed.words.now a.handed.errorinfo.now a.clock a.f))

pub returns : goal.returns
returns c =
    let a = c.args in
    let b = bare a.e in
    let e = with_handed a.handed.words.now a.handed.errorinfo.now b in
    let body = a.body.now in
    let x = heard_of e a.clock a.f in
    let r = c.reply_answer-answer.result in
    let h = done_by r (sym c.is_err.ensures.value ∙ c.if-is_err.false) in
    let result : is_result a.f ≡ true = sym c.is_result.ensures ∙ c.if-not-is_result.false in
    let q : take_reply e a.clock a.f body ≡ outcome r x (W.value body) =
    rw (← c.reply_answer-answer.ensures, h, result) in
    let l = reply_le e a.clock a.f a.body.now (sym c.reply_answer-answer.ensures ∙ h) in
    let m = c.requires in
    let room : length body ≤ length a.out.now = omega arith in
    value_step a.out.now (take_reply e a.clock a.f body) r x body q
    (c.copy.ensures.count ∙ fits_count body a.out.now room)
    (c.copy.ensures.written ∙ fits a.out.now body room)
    (ap (λ (y : Core). stepped_of r y c.copy.result)
    (c.heard-core.ensures ∙ heard_core b a.handed.words.now a.handed.errorinfo.now a.clock a.f))
