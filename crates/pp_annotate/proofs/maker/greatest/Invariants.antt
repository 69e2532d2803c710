use Rattle.std.proofs.Common.{◌≡◌, max, drop}
use Rattle.pp_annotate.specs.Made.{greatest}
use Rattle.pp_annotate.proofs.maker.greatest.Given as goal

abbrev pub invariant-loop-note : goal.invariant-loop-note
invariant-loop-note l = max l.most (greatest (drop l.note-index l.notes)) ≡ greatest l.notes
