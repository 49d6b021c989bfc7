use Rattle.std.proofs.Common.{refl, rules}
use Rattle.steps.specs.Steps as S
use Rattle.records.specs.Records.{is_set}
use Rattle.gateway.proofs.Follows.{plain_follows}
use Rattle.gateway.proofs.calls.set_not_ready.Goals as goal

pub returns : goal.returns
returns c =
    let x = c.plain.ensures in
    plain_follows c.args.rs.now c.args.c (S.set_not_ready (is_set c.args.c.notready)) refl refl _ (λ s k. search rules) x.0 x.1 _ _ x.2 x.3
