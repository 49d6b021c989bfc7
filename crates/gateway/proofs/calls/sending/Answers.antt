-- Refused, or the connection's own step.
use Rattle.std.proofs.Common.{refl, sym, ap, ◌∙◌, false, length}
use mathlib.Core.Bool.{and-false}
use Rattle.endpoint.specs.declared.Reason.TheVariants as R
use Rattle.endpoint.specs.Answers.{is_done}
use Rattle.steps.specs.Calls.{send_of}
use Rattle.records.specs.Records.{bare_of}
use Rattle.gateway.specs.Calls.{is_short}
use Rattle.gateway.specs.Parts.{before, refused_move, acted_move, with_held, handed_of}
use Rattle.gateway.proofs.OwnStep.{undone, refused_moves, acted_moves, given}
use Rattle.gateway.proofs.calls.sending.Goals as goal

pub returns-in-Ok : goal.returns-in-Ok
returns-in-Ok c =
    let p = c.args.p in
    let r = c.args.record.now in
    let value = c.args.value.now in
    let out = c.args.out.now in
    acted_moves p out c.send.new.out R.Entry (send_of (with_held (handed_of r) (bare_of p.stored)) p.call.clock value) (λ a. false)
    c.send.result c.acted.result (ap is_done (sym c.before-2.ensures ∙ c.in-Ok.is))
    (given p out c.send.new.out r (λ e. send_of e p.call.clock value) c.core.result _ _ c.send.result c.core.ensures
    c.held.ensures c.send.ensures)
    (c.acted.ensures ∙ ap (acted_move p c.send.result) (and-false (is_done c.send.result.answer)))

pub returns-in_default : goal.returns-in_default
returns-in_default c =
    let p = c.args.p in
    let out = c.args.out.now in
    refused_moves p out out (before p (is_short (length out)) R.Entry)
    (send_of (with_held (handed_of c.args.record.now) (bare_of p.stored)) p.call.clock c.args.value.now) false c.refused.result
    (ap is_done (sym c.before-2.ensures) ∙ undone c.before-2.result c.in_default.not-Ok)
    (c.refused.ensures ∙ ap (refused_move p) c.before-2.ensures) refl
