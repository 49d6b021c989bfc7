use Rattle.std.proofs.Common.{refl, rules}
use Rattle.steps.specs.Steps as S
use Rattle.gateway.proofs.Follows.{handed_follows}
use Rattle.gateway.proofs.calls.write_error.Goals as goal

pub returns : goal.returns
returns c =
    let x = c.handing.ensures in
    handed_follows c.args.rs.now c.args.c (S.write_error c.args.bytes.now) refl refl _ (λ s k. search rules) _ (λ r r' k. search rules) x.0 x.1 _ _ x.2 x.3
