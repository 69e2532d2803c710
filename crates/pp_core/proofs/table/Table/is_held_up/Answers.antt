use Rattle.std.proofs.Common.{◌≡◌, ◌∙◌, false, rules}
use Rattle.pp_core.specs.Parts.{parts_of}
use Rattle.pp_core.proofs.RefusalTies.{held_up, not_cached, not_full}
use Rattle.pp_core.proofs.table.Table.is_held_up.Goals as goal

pub returns-then-is_cached : goal.returns-then-is_cached
returns-then-is_cached c = not_cached (parts_of c.args.self.now) c.args.page c.requires (search rules)

pub returns-then-is_full : goal.returns-then-is_full
returns-then-is_full c =
    held_up (parts_of c.args.self.now) c.args.page c.requires c.are_all_busy.result (search rules) (search rules)
    c.are_all_busy.ensures.all c.are_all_busy.ensures.one

pub returns-else-is_full : goal.returns-else-is_full
returns-else-is_full c =
    let no : c.is_full.result ≡ false = search rules in
    no ∙ not_full (parts_of c.args.self.now) c.args.page c.requires (search rules)
