-- `text::answer::is_clean` meets its contract: what the fold comes to.
use Rattle.std.proofs.Common.{rules, ap, ◌∙◌, ◌&&◌, true}
use Rattle.std.specs.List.{list_all}
use Rattle.std.proofs.lemmas.Iterator.{YieldsList-from_slice}
use Rattle.std.proofs.lemmas.Iterator.Consumers.{fold_from_yields_List}
use borrow.Author.Tests.{tests}
use Rattle.text.specs.Printing.{is_fill}
use Rattle.text.proofs.Every.{by_fold}
use Rattle.text.proofs.answer.is_clean.Goals as goal

pub returns : goal.returns
returns c =
    fold_from_yields_List _ (λ b x. b && is_fill x) true c.fold.result c.fold.ensures.ran
    (YieldsList-from_slice c.past.result.now cc)
    (λ a x b q k. search (rules, tests))
    ∙ by_fold is_fill c.past.result.now
    ∙ ap (list_all is_fill) c.past.ensures
