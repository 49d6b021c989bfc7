-- The loop of `errors::write::put_details`: the details so far are written.
use Rattle.std.proofs.Common.{◌≡◌, take}
use Rattle.words.specs.Output.{put}
use Rattle.errors.specs.Writing.{words_bytes}
use Rattle.errors.proofs.write.put_details.Given as goal

abbrev pub invariant-loop-k : goal.invariant-loop-k
invariant-loop-k l = l.out ≡ put l.initial.out 12 (words_bytes (take l.k l.details))
