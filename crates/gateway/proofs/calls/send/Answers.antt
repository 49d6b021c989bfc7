-- What its user has handed over is the record's.
use Rattle.std.proofs.Common.{subst, false, length}
use Rattle.endpoint.specs.declared.Reason.TheVariants as R
use Rattle.steps.specs.Calls.{send_of}
use Rattle.records.specs.declared.Record.{Record}
use Rattle.records.specs.Records.{bare_of}
use Rattle.gateway.specs.declared.Picked.{Picked}
use Rattle.gateway.specs.Tables.{record_at}
use Rattle.gateway.specs.Calls.{is_short}
use Rattle.gateway.specs.Parts.{before, with_held, handed_of, StepMoves}
use Rattle.gateway.proofs.Follows.{send_follows}
use Rattle.gateway.proofs.calls.send.Goals as goal

pub returns : goal.returns
returns c =
    let ys = c.args.rs.now in
    let value = c.args.value.now in
    let out = c.args.out.now in
    let out' = c.sending-m.new.out in
    let m = c.sending-m.result in
    send_follows ys c.args.c value out out' m
    (subst (λ (p : Picked). StepMoves p (before p (is_short (length out)) R.Entry)
    (send_of (with_held (handed_of (record_at ys c.args.c.entry)) (bare_of p.stored)) p.call.clock value) false out out' m) c.pick.ensures
    (subst (λ (r : Record). StepMoves c.pick.result (before c.pick.result (is_short (length out)) R.Entry)
    (send_of (with_held (handed_of r) (bare_of c.pick.result.stored)) c.pick.result.call.clock value) false out out' m)
    c.record_at.ensures c.sending-m.ensures)) _ _ c.settle.ensures
