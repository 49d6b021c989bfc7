-- What goes down in `text::put::Writer::digits`.
use Rattle.text.proofs.put.Writer.+digits.Given as goal

abbrev pub decreases-digits : goal.decreases-digits
decreases-digits l = l.n
