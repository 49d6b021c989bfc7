-- `settings::are_connections` meets its contract.
use Rattle.std.proofs.Common.{rules, ℕ, ◌∙◌, refl, arith}
use mathlib.Core.Bool.{◌&&◌}
use borrow.Author.Tests.{tests}
use Rattle.std.proofs.lemmas.Iterator.{YieldsList-from_range}
use Rattle.std.proofs.lemmas.Iterator.Search.{all_from_yields_List}
use Rattle.settings.specs.Lists.{is_connection_at, is_new_at, are_connections}
use Rattle.settings.proofs.Below.{all_below}
use Rattle.settings.proofs.are_connections.Goals as goal

pub returns : goal.returns
unfolding are_connections is_connection_at
returns c =
    let ws = c.args.list.now in
    let n = c.args.n in
    all_from_yields_List (λ (i : ℕ). is_connection_at ws i && is_new_at ws i i) _ _ c.all.result c.all.ensures.ran
    (YieldsList-from_range 0 n n refl (omega arith)) (λ x b q k. search (rules, tests)) ∙ all_below _ (are_connections ws) refl (λ i. refl) n
