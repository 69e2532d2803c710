use Rattle.std.proofs.Common.{◌≡◌, take}
use Rattle.pp_explain.specs.Paragraphs.{paths_in}
use Rattle.pp_words.specs.CommandLine.{texts}
use Rattle.pp_cli.proofs.explaining.plans_at.Given as goal

abbrev pub invariant-loop-place : goal.invariant-loop-place
invariant-loop-place l = paths_in l.files.items ≡ texts (take l.place l.paths)
