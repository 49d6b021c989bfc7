-- `text::answer::put_wrong` meets its contract.
use Rattle.std.proofs.Common.{refl, arith, rules}
use Rattle.text.specs.Printing.{wrong_text}
use Rattle.text.proofs.Pieces.{within, follow, written_none, written}
use Rattle.text.proofs.answer.put_wrong.Goals as goal

pub returns-then-out-lt24 : goal.returns-then-out-lt24
returns-then-out-lt24 c = written_none _ _ c.if-out-lt24.true

pub returns : goal.returns
unfolding wrong_text
returns c =
    let p = follow (follow c.text.ensures c.decimal.ensures (omega arith)) c.byte.ensures (omega arith) in
    written (within p (omega arith)) (refl, refl) (search rules) c.if-out-lt24.false
