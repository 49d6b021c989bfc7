-- `errors::read::has_digits` meets its contract: what `all` answers over the eight places.
use Rattle.std.proofs.Common.{rules, refl, ◌∙◌}
use Rattle.std.proofs.lemmas.Iterator.{YieldsList-from_range}
use Rattle.std.proofs.lemmas.Iterator.Search.{all_from_yields_List}
use borrow.Author.Tests.{tests}
use mathlib.Core.Bool.{and-true}
use Rattle.errors.specs.Reading.{is_decimal_at, has_digits}
use Rattle.errors.proofs.read.has_digits.Goals as goal

pub returns : goal.returns
unfolding has_digits
returns c =
    let b = c.args.bytes.now in
    all_from_yields_List (is_decimal_at b) _ _ c.all.result c.all.ensures.ran (YieldsList-from_range 0 8 8 refl refl)
    (λ x b q k. search (rules, tests))
    ∙ rw and-true
