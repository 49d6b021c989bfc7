-- `errors::calendar::days_of` meets its contract: that DAYS is the definition's table is computed here, once for all
-- entries.
use Rattle.std.proofs.Common.{refl}
use Rattle.errors.specs.declared.calendar.TheConstants.{DAYS}
use Rattle.errors.specs.Calendar.{days_of}
use Rattle.errors.proofs.Days.{entry}
use Rattle.errors.proofs.calendar.days_of.Goals as goal

pub returns : goal.returns
unfolding days_of
returns c = entry DAYS refl c.args.month c.requires.0 c.requires.1
