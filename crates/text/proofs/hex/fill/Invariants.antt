-- The loop of `text::hex::fill`: what is written so far are items.
use Rattle.std.proofs.Common.{ℕ, ◌<◌, get_or}
use Rattle.text.proofs.hex.fill.Given as goal

abbrev pub invariant-loop-i : goal.invariant-loop-i
invariant-loop-i g l = (k : ℕ) (d : _) → k < l.i → goal.F-post g l.item k (get_or l.place-items k d)
