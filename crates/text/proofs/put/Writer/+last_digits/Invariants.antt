-- What goes down in `text::put::Writer::last_digits`.
use Rattle.text.proofs.put.Writer.+last_digits.Given as goal

abbrev pub decreases-last_digits : goal.decreases-last_digits
decreases-last_digits l = l.width
