-- `text::put::Writer::time` meets its contract.
use Rattle.std.proofs.Common.{arith}
use Rattle.text.specs.Bounds.{ticks_text}
use Rattle.text.proofs.Pieces.{follow, within}
use Rattle.text.proofs.put.Writer.time.Goals as goal

pub returns : goal.returns
unfolding ticks_text
returns c = within (follow c.named.ensures c.beside.ensures (omega arith)) (omega arith)
