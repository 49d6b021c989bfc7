-- `text::answer::put_answer` meets its contract: a refusal that puts nothing, and the answer.
use Rattle.std.proofs.Common.{refl, arith, rules}
use Rattle.text.proofs.Pieces.{written_none, written}
use Rattle.text.proofs.answer.put_answer.Goals as goal

pub returns-then-room-lt101 : goal.returns-then-room-lt101
returns-then-room-lt101 c = written_none _ _ (search rules)

pub returns : goal.returns
returns c = written c.answer.ensures (refl, refl) (search rules) (omega arith)
