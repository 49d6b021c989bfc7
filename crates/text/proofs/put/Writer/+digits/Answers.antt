-- `text::put::Writer::digits` meets its contract: the last digit stands behind those of a tenth.
use Rattle.std.proofs.Common.{length, sym, ap, arith, rules}
use Rattle.std.proofs.lemmas.Fmt.{decimal_digit, decimal_step}
use Rattle.text.proofs.Pieces.{follow, puts_as, within, length_more}
use Rattle.text.proofs.put.Writer.+digits.Goals as goal

pub byte-requires : goal.byte-requires
byte-requires t c = omega (arith, ap length (decimal_digit c.args.n c.if-n-lt10.true))

pub returns-then-n-lt10 : goal.returns-then-n-lt10
returns-then-n-lt10 t c =
    let e = decimal_digit c.args.n c.if-n-lt10.true in
    within (puts_as c.byte.ensures (sym e)) (omega (arith, ap length e))

pub digits-requires : goal.digits-requires
digits-requires t c = (search rules, omega (arith, length_more c.args.n c.if-n-lt10.false c.ranges.n.fits))

pub byte-requires-2 : goal.byte-requires-2
byte-requires-2 t c = omega (arith, length_more c.args.n c.if-n-lt10.false c.ranges.n.fits)

pub returns : goal.returns
returns t c =
    let e = length_more c.args.n c.if-n-lt10.false c.ranges.n.fits in
    let p = follow c.digits.ensures c.byte-2.ensures (omega (arith, e)) in
    within (puts_as p (sym (decimal_step c.args.n c.if-n-lt10.false c.ranges.n.fits))) (omega (arith, e))
