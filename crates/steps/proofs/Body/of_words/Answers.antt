-- `steps::Body::of_words` meets its contract: at first no word is written, at the end all are.
use mathlib.Core.List.{List}
use mathlib.Core.Path.{refl, ap, ◌∙◌}
use native.Mathlib.Omega.{arith}
use Prim.Native.Nat.{ℕ, ◌≤◌}
use lib.ListN.{length, replicate}
use lib.Seq.{take_all}
use Rattle.words.specs.Output.{put}
use Rattle.steps.specs.Frames.{words_bytes}
use Rattle.steps.proofs.Words.{says}
use Rattle.steps.proofs.Body.of_words.Goals as goal

pub loop-k-init : goal.loop-k-init
unfolding put
loop-k-init c = refl

pub returns : goal.returns
returns c =
    let w = c.args.words.now in
    let l : length w ≤ c.loop-k.k = omega arith in
    says w _ c.requires refl
    (c.loop-k.invariant ∙ ap (λ (s : List ℕ). put (replicate 100 0) 0 (words_bytes s)) (take_all c.loop-k.k w l))
