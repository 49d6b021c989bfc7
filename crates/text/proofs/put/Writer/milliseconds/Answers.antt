-- `text::put::Writer::milliseconds` meets its contract.
use Rattle.std.proofs.Common.{arith}
use Rattle.text.specs.Bounds.{milliseconds_text}
use Rattle.text.proofs.Pieces.{within, follow}
use Rattle.text.proofs.put.Writer.milliseconds.Goals as goal

pub returns : goal.returns
unfolding milliseconds_text
returns c =
    let point = follow c.decimal.ensures c.byte.ensures (omega arith) in
    within (follow point c.last_digits.ensures (omega arith)) (omega arith)
