-- What is left to show of Table::is_flying: both ways to read a list past its end.
use Rattle.std.proofs.Common.{◌∙◌, sym, false}
use Rattle.std.proofs.lemmas.Option.{unwrap_or-slice_get}
use Rattle.pp_core.proofs.table.Table.is_flying.Goals as goal

pub returns : goal.returns
returns c = c.contains.ensures ∙ sym (unwrap_or-slice_get c.args.self.now.in_flight c.args.page false)
