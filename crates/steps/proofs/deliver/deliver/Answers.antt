-- `steps::deliver::deliver` meets its contract: too little room, one's own frame, and the three kinds of frame.
use Rattle.std.proofs.Common.{rules}
use mathlib.Core.Path.{sym, ap, subst, ◌∙◌}
use Rattle.std.specs.Prelude.{Err}
use Rattle.steps.proofs.Dispatch.{deliver_echo, deliver_refresh, deliver_request, deliver_reply}
use Rattle.steps.proofs.Handed.{refresh_core}
use Rattle.steps.proofs.Outcomes.{quiet, roomy}
use Rattle.steps.specs.Calls.{Outcome}
use Rattle.steps.specs.Deliveries.{take_refresh, deliver_of}
use Rattle.steps.specs.Says.{stepped_of, StepSays}
use Rattle.steps.specs.Values.{with_handed}
use Rattle.endpoint.specs.declared.Refusal.TheVariants.{Dropped}
use Rattle.endpoint.specs.declared.Reason.TheVariants as R
use Rattle.endpoint.specs.declared.Core.{Core}
use Rattle.endpoint.specs.Endpoint.{bare}
use Rattle.steps.proofs.deliver.deliver.Goals as goal

pub returns-then-f-e : goal.returns-then-f-e
returns-then-f-e c =
    let a = c.args in
    let b = bare a.e in
    let e = with_handed a.handed.words.now a.handed.errorinfo.now b in
    quiet a.out.now b (deliver_of e a.clock a.f a.body.now) c.if-out-lt-LONGEST_FRAME.false (Err (Dropped R.Echo)) e
    (deliver_echo e a.clock a.f a.body.now c.if-f-e.true) c.dropped-then-f-e.ensures

pub returns-then-eq : goal.returns-then-eq
returns-then-eq c =
    let a = c.args in
    let b = bare a.e in
    let e = with_handed a.handed.words.now a.handed.errorinfo.now b in
    let o = take_refresh e a.clock a.f.subconnection a.f.timestamp a.body.now in
    quiet a.out.now b (deliver_of e a.clock a.f a.body.now) c.if-out-lt-LONGEST_FRAME.false o.answer o.endpoint
    (deliver_refresh e a.clock a.f a.body.now c.if-f-e.false
    (search rules))
    (c.take_refresh.ensures ∙ ap (λ (y : Core). stepped_of o.answer y 0)
    (refresh_core b a.handed.words.now a.handed.errorinfo.now a.clock a.f.timestamp a.body.now o.answer))

pub returns-then-setup : goal.returns-then-setup
returns-then-setup c =
    let a = c.args in
    let b = bare a.e in
    let e = with_handed a.handed.words.now a.handed.errorinfo.now b in
    let o = a.out.now in
    let q = deliver_request e a.clock a.f a.body.now c.if-f-e.false
    (search rules) c.if-setup.true in
    roomy o b (deliver_of e a.clock a.f a.body.now) c.if-out-lt-LONGEST_FRAME.false
    (subst (λ (x : Outcome). StepSays x o c.take_request.new.out c.take_request.result) (sym q)
    c.take_request.ensures)

pub returns : goal.returns
returns c =
    let a = c.args in
    let b = bare a.e in
    let e = with_handed a.handed.words.now a.handed.errorinfo.now b in
    let o = a.out.now in
    let q = deliver_reply e a.clock a.f a.body.now c.if-f-e.false
    (search rules) c.if-setup.false in
    roomy o b (deliver_of e a.clock a.f a.body.now) c.if-out-lt-LONGEST_FRAME.false
    (subst (λ (x : Outcome). StepSays x o c.take_reply.new.out c.take_reply.result) (sym q)
    c.take_reply.ensures)
