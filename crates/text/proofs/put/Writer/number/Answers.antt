-- `text::put::Writer::number` meets its contract.
use Rattle.std.proofs.Common.{arith}
use Rattle.text.specs.Printing.{word}
use Rattle.text.proofs.Pieces.{follow}
use Rattle.text.proofs.put.Writer.number.Goals as goal

pub returns : goal.returns
unfolding word
returns c = follow c.decimal.ensures c.byte.ensures (omega arith)
