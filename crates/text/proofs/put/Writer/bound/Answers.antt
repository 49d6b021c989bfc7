-- `text::put::Writer::bound` meets its contract.
use Rattle.std.proofs.Common.{arith}
use Rattle.text.specs.Bounds.{bound_text}
use Rattle.text.proofs.Pieces.{follow}
use Rattle.text.proofs.put.Writer.bound.Goals as goal

pub returns : goal.returns
unfolding bound_text
returns c =
    let ticks = follow c.named.ensures c.text.ensures (omega arith) in
    follow (follow ticks c.beside.ensures (omega arith)) c.text-2.ensures (omega arith)
