-- `text::parse::name_of` meets its contract: the code's table is the definition's, computed here, once.
use Rattle.text.specs.Calls.{names, name_of}
use Rattle.text.proofs.parse.name_of.Goals as goal

pub returns : goal.returns
unfolding name_of names
returns c = c.name_in.ensures
