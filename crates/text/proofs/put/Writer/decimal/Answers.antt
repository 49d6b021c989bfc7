-- `text::put::Writer::decimal` meets its contract: a number below 2^64 has at most 20 digits.
use Rattle.std.proofs.Common.{arith}
use Rattle.std.proofs.lemmas.Fmt.{length-decimal-le}
use Rattle.text.proofs.Pieces.{within}
use Rattle.text.proofs.put.Writer.decimal.Goals as goal

pub digits-requires : goal.digits-requires
digits-requires c = omega (arith, length-decimal-le 20 c.args.n (omega arith) (omega arith) c.ranges.n.fits)

pub returns : goal.returns
returns c = within c.digits.ensures (length-decimal-le 20 c.args.n (omega arith) (omega arith) c.ranges.n.fits)
