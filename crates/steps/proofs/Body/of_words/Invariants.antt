-- The loop of `steps::Body::of_words`: the words so far are written.
use Rattle.std.proofs.Common.{◌≡◌, take, replicate}
use Rattle.words.specs.Output.{put}
use Rattle.steps.specs.Frames.{words_bytes}
use Rattle.steps.proofs.Body.of_words.Given as goal

abbrev pub invariant-loop-k : goal.invariant-loop-k
invariant-loop-k l = l.bytes ≡ put (replicate 100 0) 0 (words_bytes (take l.k l.words))
