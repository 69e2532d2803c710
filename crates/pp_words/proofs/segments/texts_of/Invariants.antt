use Rattle.std.proofs.Common.{◌≡◌, map, take}
use Rattle.pp_words.specs.CommandLine.{texts}
use Rattle.pp_words.proofs.segments.texts_of.Given as goal

abbrev pub invariant-loop-word : goal.invariant-loop-word
invariant-loop-word g l = texts l.all.items ≡ map g.S.AsStr.text (take l.word-index l.words)
