-- `text::put::Writer::last_digits` meets its contract.
use Rattle.std.proofs.Common.{arith}
use Rattle.text.proofs.Pieces.{follow, last_none, last_more}
use Rattle.text.proofs.put.Writer.+last_digits.Goals as goal

pub returns-then-width-gt0 : goal.returns-then-width-gt0
returns-then-width-gt0 t c =
    last_more c.args.width c.args.n c.if-width-gt0.true (follow c.last_digits.ensures c.byte.ensures (omega arith))

pub returns-else-width-gt0 : goal.returns-else-width-gt0
returns-else-width-gt0 t c = last_none c.args.width c.args.n c.if-width-gt0.false
