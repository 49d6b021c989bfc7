-- `text::bounds::put_bounds` meets its contract: three pieces, or nothing.
use Rattle.std.proofs.Common.{refl, ap, arith, rules}
use Rattle.text.specs.Bounds.{bound_text, bounds_text}
use Rattle.text.proofs.Pieces.{puts_as, follow, written_none, written}
use Rattle.text.proofs.bounds.put_bounds.Goals as goal

pub returns-then-out-lt308 : goal.returns-then-out-lt308
returns-then-out-lt308 c = written_none _ _ c.if-out-lt308.true

pub returns : goal.returns
unfolding bounds_text
returns c =
    let p = follow c.connection.ensures c.times.ensures (omega arith) in
    let q = follow p (puts_as c.bound-2.ensures (ap bound_text c.bound.ensures)) (omega arith) in
    written q (refl, refl) (search rules) c.if-out-lt308.false
