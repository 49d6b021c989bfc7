use Rattle.std.proofs.Common.{refl, rules}
use Rattle.steps.specs.Steps as S
use Rattle.gateway.proofs.Follows.{plain_follows}
use Rattle.gateway.proofs.calls.clear_result.Goals as goal

pub returns : goal.returns
returns c =
    let x = c.plain.ensures in
    plain_follows c.args.rs.now c.args.c S.clear_result refl refl _ (λ s k. search rules) x.0 x.1 _ _ x.2 x.3
