-- `text::put::Writer::age` meets its contract.
use Rattle.std.proofs.Common.{arith}
use Rattle.text.specs.Printing.{age_text}
use Rattle.text.proofs.Pieces.{nothing, within, follow}
use Rattle.text.proofs.put.Writer.age.Goals as goal

pub returns-in-Some : goal.returns-in-Some
unfolding age_text
returns-in-Some c = rw c.in-Some.is (follow c.byte.ensures c.decimal.ensures (omega arith))

pub returns-in_default : goal.returns-in_default
unfolding age_text
returns-in_default c = rw c.in_default.is (within nothing (omega arith))
