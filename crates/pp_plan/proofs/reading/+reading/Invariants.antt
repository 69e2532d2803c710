use Rattle.std.proofs.Common.{◌≡◌, ◌+◌, ◌*◌, drop}
use Rattle.serde_json.specs.View.{items_view}
use Rattle.pp_settings.specs.Settings.{region_named}
use Rattle.pp_plan.specs.Tree.{skip, none}
use Rattle.pp_plan.specs.View.{sequence_of, alternatives_of}
use Rattle.pp_plan.specs.Reading.{sequence_from, alternatives_from, statement_at}
use Rattle.pp_plan.proofs.reading.+reading.Given as goal

abbrev pub decreases-read_body : goal.decreases-read_body
decreases-read_body l = 4 * l.levels + 1

abbrev pub decreases-read_branches : goal.decreases-read_branches
decreases-read_branches l = 4 * l.levels + 2

abbrev pub decreases-read_statement : goal.decreases-read_statement
decreases-read_statement l = 4 * l.levels

abbrev pub decreases-read_shape : goal.decreases-read_shape
decreases-read_shape l = 4 * l.levels + 3

abbrev pub invariant-read_body-loop-value : goal.invariant-read_body-loop-value
invariant-read_body-loop-value l =
    sequence_from (statement_at l.version (region_named l.settings) l.levels) (sequence_of l.stmts.items) l.progress
    (items_view (drop l.value-index l.items))
    ≡ sequence_from (statement_at l.version (region_named l.settings) l.levels) skip l.initial.progress (items_view l.items)

abbrev pub invariant-read_branches-loop-list : goal.invariant-read_branches-loop-list
invariant-read_branches-loop-list l =
    alternatives_from (statement_at l.version (region_named l.settings) l.levels) (alternatives_of l.bodies.items) l.progress
    (items_view (drop l.list-index l.lists))
    ≡ alternatives_from (statement_at l.version (region_named l.settings) l.levels) none l.initial.progress
    (items_view l.lists)
