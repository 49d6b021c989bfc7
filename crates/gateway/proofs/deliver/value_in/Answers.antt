use Rattle.std.proofs.Common.{sym, ap, ◌∙◌}
use Rattle.std.proofs.Math.Seq.{slice}
use Rattle.steps.specs.Frames.{padded_of}
use Rattle.gateway.proofs.BodyPart.{part}
use Rattle.gateway.proofs.deliver.value_in.Goals as goal

pub returns : goal.returns
returns c =
    let s = c.args.bytes.now in
    let w = c.body_span-body.ensures in
    c.padded.ensures
    ∙ ap padded_of (sym (part s c.body_span-body.result.start c.body_span-body.result.end w.1 w.2))
    ∙ ap (λ (x : _). padded_of (slice x.start x.end s)) w.0
