use Rattle.std.proofs.Common.{ap, sym, ◌∙◌}
use Rattle.pp_cli.specs.Journals.{is_first_of_journal}
use Rattle.pp_cli.proofs.journal.begins_as_journal.Goals as goal

pub returns : goal.returns
returns c = c.is_line_of_journal.ensures ∙ ap is_first_of_journal (sym c.first_line.ensures.lines)
