-- The records so far have taken the clock step.
use Rattle.std.proofs.Common.{◌≡◌}
use Rattle.lent.specs.First.{on_first}
use Rattle.gateway.specs.Parts.{stepped_record}
use Rattle.gateway.proofs.slice.tick.Given as goal

abbrev pub invariant-loop-record : goal.invariant-loop-record
invariant-loop-record l = l.table ≡ on_first (stepped_record l.clock) l.record-index l.fn.table
