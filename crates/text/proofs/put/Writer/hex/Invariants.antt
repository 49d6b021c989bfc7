-- The loop of `text::put::Writer::hex`: the digits of the bytes so far are put.
use Rattle.std.proofs.Common.{◌*◌, take}
use Rattle.text.specs.Printing.{hex_of, Puts}
use Rattle.text.proofs.put.Writer.hex.Given as goal

abbrev pub invariant-loop-byte : goal.invariant-loop-byte
invariant-loop-byte l = Puts (2 * l.byte-index) (hex_of (take l.byte-index l.bytes)) l.initial.self l.self
