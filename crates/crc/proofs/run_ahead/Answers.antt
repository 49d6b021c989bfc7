-- `crc::run_ahead` meets its contract: the fold of one byte's step.
use Rattle.std.proofs.Common.{rules, ◌∙◌}
use Rattle.std.specs.Int.Bits.{bit_xor}
use Rattle.std.proofs.lemmas.Iterator.{YieldsList-from_slice}
use Rattle.std.proofs.lemmas.Iterator.Consumers.{fold_from_yields_List}
use Rattle.crc.specs.Crc.{bit_steps}
use Rattle.crc.proofs.Steps.{fold_ahead}
use Rattle.crc.proofs.run_ahead.Goals as goal

pub returns : goal.returns
returns c =
    fold_from_yields_List _ (λ x b. bit_xor (bit_steps 8 x) b) c.args.x c.fold.result c.fold.ensures.ran
    (YieldsList-from_slice c.args.bytes.now cc) (λ x b y q k. search rules)
    ∙ fold_ahead c.args.x c.args.bytes.now
