-- The records so far are the list's connections.
use Rattle.std.proofs.Common.{◌≡◌, ◌%◌}
use Rattle.lent.specs.First.{filled}
use Rattle.gateway.specs.Loading.{fresh_at}
use Rattle.gateway.proofs.load.make.Given as goal

abbrev pub invariant-loop-i : goal.invariant-loop-i
invariant-loop-i l = l.table ≡ filled (λ i. fresh_at l.session l.list (i % 256)) l.i l.fn.table
