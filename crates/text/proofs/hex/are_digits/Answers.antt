-- `text::hex::are_digits` meets its contract: what the fold comes to.
use Rattle.std.proofs.Common.{rules, ◌∙◌, ◌&&◌, true}
use Rattle.std.proofs.lemmas.Iterator.{YieldsList-from_slice}
use Rattle.std.proofs.lemmas.Iterator.Consumers.{fold_from_yields_List}
use borrow.Author.Tests.{tests}
use Rattle.text.specs.Reading.{is_hex_digit}
use Rattle.text.proofs.Every.{by_fold}
use Rattle.text.proofs.hex.are_digits.Goals as goal

pub returns : goal.returns
returns c =
    fold_from_yields_List _ (λ b x. b && is_hex_digit x) true c.fold.result c.fold.ensures.ran
    (YieldsList-from_slice c.args.s.now cc)
    (λ a x b q k. search (rules, tests))
    ∙ by_fold is_hex_digit c.args.s.now
