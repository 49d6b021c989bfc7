-- `text::put::Writer::answer` meets its contract. Seven pieces, one after the other.
use Rattle.std.proofs.Common.{arith}
use Rattle.text.specs.Printing.{answer_text}
use Rattle.text.proofs.Pieces.{follow, within}
use Rattle.text.proofs.put.Writer.answer.Goals as goal

pub returns : goal.returns
unfolding answer_text
returns c =
    let entry = follow c.number.ensures c.entry.ensures (omega arith) in
    let mark = follow (follow entry c.number-2.ensures (omega arith)) c.mark.ensures (omega arith) in
    let age = follow (follow mark c.bytes.ensures (omega arith)) c.age.ensures (omega arith) in
    within (follow age c.end.ensures (omega arith)) (omega arith)
