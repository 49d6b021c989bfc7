-- `errors::write::are_zero` meets its contract: what `all` answers.
use Rattle.std.proofs.Common.{rules, refl, ◌∙◌, ◌&&◌}
use Rattle.std.specs.List.{list_all}
use Rattle.std.proofs.lemmas.Iterator.{YieldsList-from_slice}
use Rattle.std.proofs.lemmas.Iterator.Search.{all_from_yields_List}
use Rattle.std.proofs.lemmas.List.Recursion.{same_from_clauses}
use borrow.Author.Tests.{tests}
use lib.Dec.{eqb}
use Rattle.errors.specs.Writing.{are_zero}
use Rattle.errors.proofs.write.are_zero.Goals as goal

pub returns : goal.returns
returns c =
    let s = c.args.details.now in
    all_from_yields_List (λ v. eqb v 0) _ _ c.all.result c.all.ensures.ran (YieldsList-from_slice s cc)
    (λ x b q k. search (rules, tests))
    ∙ same_from_clauses (list_all (λ v. eqb v 0)) are_zero (λ v t. eqb v 0 && t) refl (λ _ _. refl) (λ _ _. refl) s
