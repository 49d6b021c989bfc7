-- `text::put::Writer::hex` meets its contract.
use Rattle.std.proofs.Common.{arith}
use Rattle.text.specs.Printing.{hex_of}
use Rattle.text.proofs.Pieces.{nothing, within, puts_as, follow, hex_more}
use Rattle.text.proofs.put.Writer.hex.Goals as goal

pub loop-byte-init : goal.loop-byte-init
unfolding hex_of
loop-byte-init c = nothing

pub loop-byte-preserved : goal.loop-byte-preserved
loop-byte-preserved c =
    let i = c.loop-byte.byte-index in
    let high = rw c.hex_digit.ensures at c.byte.ensures in
    let low = rw c.hex_digit-in-loop-byte.ensures at c.byte-in-loop-byte.ensures in
    let p = follow (follow c.loop-byte.invariant high (omega arith)) low (omega arith) in
    within (puts_as p (hex_more c.args.bytes.now i c.loop-byte-test.true)) (omega arith)
