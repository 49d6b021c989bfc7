-- `text::put::Writer::beside` meets its contract.
use Rattle.std.proofs.Common.{arith}
use Rattle.text.specs.Bounds.{beside_text}
use Rattle.text.proofs.Pieces.{follow}
use Rattle.text.proofs.put.Writer.beside.Goals as goal

pub returns : goal.returns
unfolding beside_text
returns c = follow (follow c.text.ensures c.milliseconds.ensures (omega arith)) c.text-2.ensures (omega arith)
