-- The loop of `text::number::number_from`: the digits still to come are read on from the value so far.
use Rattle.std.proofs.Common.{◌≡◌, ◌^◌, ◌<◌, drop}
use Rattle.text.specs.Reading.{number_from}
use Rattle.text.proofs.number.number_from.Given as goal

abbrev pub invariant-loop-digit : goal.invariant-loop-digit
invariant-loop-digit l =
    (l.value < 2 ^ 64) × (number_from l.value (drop l.digit-index l.digits) ≡ number_from 0 l.digits)
