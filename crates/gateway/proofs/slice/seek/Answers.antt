-- The place that the search finds is the table's; past the table it is past the slice.
use Rattle.std.proofs.Common.{rules}
use borrow.Author.Tests.{tests}
use Rattle.std.proofs.lemmas.Iterator.{YieldsList-from_slice, YieldsList-from_take}
use Rattle.std.proofs.lemmas.Iterator.Search.{position_from_yields_List}
use Rattle.gateway.specs.Tables.{has_connection}
use Rattle.gateway.proofs.Stores.{met}
use Rattle.gateway.proofs.slice.seek.Goals as goal

pub returns : goal.returns
returns c =
    let ys = c.args.rs.now in
    rw c.record_at.ensures (
    met ys c.args.c c.args.connection c.unwrap_or-spot.result c.position.result (
    position_from_yields_List (has_connection c.args.connection) _ _ _ c.position.ensures.ran
    (YieldsList-from_take c.args.c.gateway.count (YieldsList-from_slice ys (cc)) (cc))
    (λ x b q k. search (rules, tests))
    ) c.unwrap_or-spot.ensures
    )
