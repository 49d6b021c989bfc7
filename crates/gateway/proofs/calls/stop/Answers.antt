use Rattle.std.proofs.Common.{subst, false, length}
use Rattle.endpoint.specs.declared.Reason.TheVariants as R
use Rattle.steps.specs.Calls.{stop_of}
use Rattle.records.specs.Records.{bare_of}
use Rattle.gateway.specs.declared.Picked.{Picked}
use Rattle.gateway.specs.Calls.{is_short}
use Rattle.gateway.specs.Parts.{before, StepMoves}
use Rattle.gateway.proofs.Follows.{stop_follows}
use Rattle.gateway.proofs.calls.stop.Goals as goal

pub returns : goal.returns
returns c =
    let out = c.args.out.now in
    let out' = c.stopping-m.new.out in
    let m = c.stopping-m.result in
    stop_follows c.args.rs.now c.args.c out out' m
    (subst (λ (p : Picked). StepMoves p (before p (is_short (length out)) R.Entry)
    (stop_of (bare_of p.stored) p.call.clock) false out out' m) c.pick.ensures c.stopping-m.ensures) _ _ c.settle.ensures
