-- `crc::table::entry` meets its contract.
use Rattle.std.proofs.Common.{arith}
use Rattle.crc.proofs.Entries.{entry}
use Rattle.crc.proofs.table.entry.Goals as goal

pub returns : goal.returns
returns c = entry c.args.i (omega arith)
