-- `Words::at` meets its contract, word by word.
use Rattle.std.proofs.Common.{rules, sym, ◌∙◌}
use Rattle.std.proofs.lemmas.Simd.{pick_l_whole}
use Rattle.settings.proofs.Words.at.Goals as goal

pub returns : goal.returns
returns c = sym (pick_l_whole 0 c.from_fn.result 7 c.from_fn.ensures.items.long) ∙ search rules
