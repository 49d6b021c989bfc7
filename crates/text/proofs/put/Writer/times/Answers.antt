-- `text::put::Writer::times` meets its contract.
use Rattle.std.proofs.Common.{arith}
use Rattle.text.specs.Bounds.{times_text}
use Rattle.text.proofs.Pieces.{follow}
use Rattle.text.proofs.put.Writer.times.Goals as goal

pub returns : goal.returns
unfolding times_text
returns c = follow (follow c.time.ensures c.time-2.ensures (omega arith)) c.time-3.ensures (omega arith)
