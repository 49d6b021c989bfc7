-- What is told does not turn on the bytes of the command.
use Rattle.std.proofs.Common.{◌≡◌, refl, ap, ◌∙◌, ℕ, ◌+◌, length, rules}
use Rattle.endpoint.specs.Endpoint.{no_bytes}
use Rattle.steps.specs.Frames.{padded_of}
use Rattle.steps.specs.Calls.{command_data, invoke_with}
use Rattle.steps.specs.Says.{plain_step}
use Rattle.steps.specs.Steps as S
use Rattle.records.specs.Records.{bare_of}
use Rattle.gateway.specs.Parts.{picked_of}
use Rattle.gateway.proofs.OwnStep.{command_length, invoke_same}
use Rattle.gateway.proofs.Follows.{handed_follows}
use Rattle.gateway.proofs.calls.invoke.Goals as goal

pub returns : goal.returns
returns c =
    let x = c.handing.ensures in
    let e = bare_of (picked_of c.args.rs.now c.args.c).stored in
    let bytes = c.args.bytes.now in
    let command = command_data c.args.c.word bytes in
    handed_follows c.args.rs.now c.args.c (S.invoke c.args.c.word bytes) refl refl _
    (λ s k. let told : s ≡ plain_step (invoke_with e (4 + length bytes) no_bytes) = search rules in
    told ∙ ap (λ (n : ℕ). plain_step (invoke_with e n no_bytes)) (command_length c.args.c.word bytes)
    ∙ invoke_same e (length command) no_bytes (padded_of command)) _
    (λ r r' k. search rules) x.0 x.1 _ _ x.2 x.3
