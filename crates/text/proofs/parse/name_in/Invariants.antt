-- The loop of `text::parse::name_in`: the entries so far are not the word.
use Rattle.std.proofs.Common.{◌≡◌, map, drop}
use Rattle.text.specs.Calls.{name_in, entry_of}
use Rattle.text.proofs.parse.name_in.Given as goal

abbrev pub invariant-loop-verb : goal.invariant-loop-verb
invariant-loop-verb l = name_in (map entry_of (drop l.verb-index l.verbs)) l.word ≡ name_in (map entry_of l.verbs) l.word
