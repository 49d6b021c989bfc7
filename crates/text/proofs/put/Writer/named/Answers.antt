-- `text::put::Writer::named` meets its contract.
use Rattle.std.proofs.Common.{arith}
use Rattle.text.specs.Bounds.{number_text}
use Rattle.text.proofs.Pieces.{follow}
use Rattle.text.proofs.put.Writer.named.Goals as goal

pub returns : goal.returns
unfolding number_text
returns c = follow c.text.ensures c.decimal.ensures (omega arith)
