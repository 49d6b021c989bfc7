-- `settings::is_new` meets its contract.
use Rattle.std.proofs.Common.{rules, ℕ, eqb, ◌∙◌, refl, arith}
use mathlib.Core.Bool.{Bool, true, ◌&&◌, not}
use borrow.Author.Tests.{tests}
use Rattle.std.proofs.lemmas.Iterator.{YieldsList-from_range}
use Rattle.std.specs.List.{range_with_len}
use Rattle.std.proofs.lemmas.Iterator.Consumers.{fold_from_yields_List}
use Rattle.settings.specs.Lists.{connection_at, is_new_at}
use Rattle.settings.proofs.Below.{all_below, by_fold}
use Rattle.settings.proofs.is_new.Goals as goal

pub returns : goal.returns
unfolding is_new_at connection_at
returns c =
    let ws = c.args.list.now in
    let i = c.args.i in
    let new : ℕ → Bool = λ n. not (eqb (connection_at ws i) (connection_at ws n)) in
    fold_from_yields_List _ (λ b n. b && new n) true c.fold.result c.fold.ensures.ran
    (YieldsList-from_range 0 i i refl (omega arith)) (λ a x b q k. search (rules, tests))
    ∙ by_fold new (range_with_len 0 i)
    ∙ all_below new (is_new_at ws i) refl (λ n. refl) i
