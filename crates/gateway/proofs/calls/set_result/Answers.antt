-- What is told does not turn on the bytes of the result.
use Rattle.std.proofs.Common.{◌≡◌, refl, ◌∙◌, length, rules}
use Rattle.endpoint.specs.Endpoint.{no_bytes}
use Rattle.steps.specs.Frames.{padded_of}
use Rattle.steps.specs.Calls.{result_with}
use Rattle.steps.specs.Says.{plain_step}
use Rattle.steps.specs.Steps as S
use Rattle.records.specs.Records.{bare_of}
use Rattle.gateway.specs.Parts.{picked_of}
use Rattle.gateway.proofs.OwnStep.{result_same}
use Rattle.gateway.proofs.Follows.{handed_follows}
use Rattle.gateway.proofs.calls.set_result.Goals as goal

pub returns : goal.returns
returns c =
    let x = c.handing.ensures in
    let e = bare_of (picked_of c.args.rs.now c.args.c).stored in
    let bytes = c.args.bytes.now in
    handed_follows c.args.rs.now c.args.c (S.set_result bytes) refl refl _
    (λ s k. let told : s ≡ plain_step (result_with e (length bytes) no_bytes) = search rules in
    told ∙ result_same e (length bytes) no_bytes (padded_of bytes)) _
    (λ r r' k. search rules) x.0 x.1 _ _ x.2 x.3
