-- `words::find` meets its contract: what the chain of iterators counts.
use Rattle.std.proofs.Common.{rules, ap, ◌∙◌, ◌+◌, not}
use Rattle.std.proofs.lemmas.Iterator.{YieldsList-from_slice}
use Rattle.std.proofs.lemmas.Iterator.Consumers.{YieldsList-at, count_from_yields_List}
use Rattle.std.proofs.lemmas.Iterator.Search.{YieldsList-from_take_while}
use borrow.Author.Tests.{tests}
use lib.Dec.{eqb}
use Rattle.words.specs.Bytes.{index_of}
use Rattle.words.proofs.Search.{count_before}
use Rattle.words.proofs.find.Goals as goal

pub returns-clause-place : goal.returns-clause-place
returns-clause-place c =
    let a = c.args in
    ap (λ n. a.from + n) (count_from_yields_List _ _ c.count.ensures.ran
    (YieldsList-from_take_while _ (λ x. not (eqb x a.b))
    (YieldsList-at c.take_while.ensures.source (YieldsList-from_slice c.part.result.now cc))
    c.take_while.ensures.closure c.take_while.ensures.done (λ x b q k. search (rules, tests)))
    ∙ count_before a.b c.part.result.now ∙ ap (index_of a.b) c.part.ensures.bytes)
