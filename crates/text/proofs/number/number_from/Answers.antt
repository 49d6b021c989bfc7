-- `text::number::number_from` meets its contract: the digits left are read on from the value so far.
use Rattle.std.proofs.Common.{◌≡◌, None, sym, ◌∙◌, rules}
use Rattle.text.proofs.Numbers.{step_on, step_off, number_end}
use Rattle.text.proofs.number.number_from.Goals as goal

pub returns-in_err-value : goal.returns-in_err-value
returns-in_err-value c =
    let w = c.args.digits.now in
    let none = sym (step_off c.loop-digit.value w c.loop-digit.digit-index c.loop-digit-test.true (search rules)) in
    let left : c.from_residual.result ≡ None = search rules in
    left ∙ none ∙ c.loop-digit.invariant.1

pub loop-digit-preserved : goal.loop-digit-preserved
loop-digit-preserved c =
    let w = c.args.digits.now in
    let more = step_on c.loop-digit.value w c.loop-digit.digit-index c.in_ok-value.value c.loop-digit-test.true (search rules) in
    (search rules, sym more ∙ c.loop-digit.invariant.1)

pub returns : goal.returns
returns c =
    let w = c.args.digits.now in
    sym (number_end c.loop-digit.value w c.loop-digit.digit-index c.loop-digit-test.false c.loop-digit.invariant.0) ∙ c.loop-digit.invariant.1
