-- `text::put::Writer::bytes` meets its contract.
use Rattle.std.proofs.Common.{arith, rules, sym}
use Rattle.text.proofs.Pieces.{within, puts_as, hex_none, hex_some}
use Rattle.text.proofs.put.Writer.bytes.Goals as goal

pub returns-then-is_empty : goal.returns-then-is_empty
returns-then-is_empty c = within (puts_as c.text.ensures (sym (hex_none c.args.bytes.now (search rules)))) (omega arith)

pub returns-else-is_empty : goal.returns-else-is_empty
returns-else-is_empty c = within (puts_as c.hex.ensures (sym (hex_some c.args.bytes.now (λ e. search rules)))) (omega arith)
