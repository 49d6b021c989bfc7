-- `text::lines::keep` meets its contract.
use Rattle.std.proofs.Common.{◌≡◌, ℕ, ◌-◌, min, List, length, take, sym, ap, ◌∙◌, arith, length-take}
use Rattle.std.proofs.lemmas.List.{take_min}
use Rattle.words.specs.Output.{put}
use Rattle.text.proofs.Pieces.{put_part, put_none}
use Rattle.text.proofs.lines.keep.Goals as goal

kept : (k m : ℕ) (s : List ℕ) → k ≡ min m (length s) → take k s ≡ take m s
kept k m s e = ap (λ (n : ℕ). take n s) e ∙ take_min m s

pub returns-then-count-gt0-clause-kept : goal.returns-then-count-gt0-clause-kept
returns-then-count-gt0-clause-kept c =
    let a = c.args in
    let m = length a.line.now - a.n in
    let k = kept c.min-count.result m a.bytes.now (omega arith) in
    put_part a.line.now a.n _ (c.copy_from_slice.ensures.after ∙ k) (omega (arith, length-take m a.bytes.now))

pub returns-else-count-gt0-clause-kept : goal.returns-else-count-gt0-clause-kept
returns-else-count-gt0-clause-kept c =
    let a = c.args in
    let k = kept 0 (length a.line.now - a.n) a.bytes.now (omega arith) in
    sym (ap (put a.line.now a.n) (sym k) ∙ put_none a.line.now a.n)
