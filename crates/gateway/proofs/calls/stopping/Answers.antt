-- Refused, or the connection's own step.
use Rattle.std.proofs.Common.{refl, sym, ap, subst, ◌∙◌, false, length}
use Rattle.endpoint.specs.declared.Core.{Core}
use mathlib.Core.Bool.{and-false}
use Rattle.endpoint.specs.declared.Reason.TheVariants as R
use Rattle.endpoint.specs.Answers.{is_done}
use Rattle.endpoint.specs.Endpoint.{bare}
use Rattle.steps.specs.Calls.{stop_of}
use Rattle.steps.specs.Says.{with_room, StepSays}
use Rattle.records.specs.Records.{bare_of}
use Rattle.gateway.specs.Calls.{is_short}
use Rattle.gateway.specs.Parts.{before, refused_move, acted_move}
use Rattle.gateway.proofs.OwnStep.{undone, refused_moves, acted_moves}
use Rattle.gateway.proofs.calls.stopping.Goals as goal

pub returns-in-Ok : goal.returns-in-Ok
returns-in-Ok c =
    let p = c.args.p in
    let out = c.args.out.now in
    acted_moves p out c.stop.new.out R.Entry (stop_of (bare_of p.stored) p.call.clock) (λ a. false) c.stop.result c.acted.result
    (ap is_done (sym c.before-2.ensures ∙ c.in-Ok.is))
    (subst (λ (e : Core). StepSays (with_room (length out) (bare e) (stop_of (bare e) p.call.clock)) out c.stop.new.out c.stop.result)
    c.core.ensures c.stop.ensures)
    (c.acted.ensures ∙ ap (acted_move p c.stop.result) (and-false (is_done c.stop.result.answer)))

pub returns-in_default : goal.returns-in_default
returns-in_default c =
    let p = c.args.p in
    let out = c.args.out.now in
    refused_moves p out out (before p (is_short (length out)) R.Entry) (stop_of (bare_of p.stored) p.call.clock) false c.refused.result
    (ap is_done (sym c.before-2.ensures) ∙ undone c.before-2.result c.in_default.not-Ok)
    (c.refused.ensures ∙ ap (refused_move p) c.before-2.ensures) refl
