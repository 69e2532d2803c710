use Rattle.std.proofs.Common.{subst, sym, refl}
use Rattle.pp_plan.specs.declared.action.Action.TheVariants as action
use Rattle.pp_core.specs.Parts.{Parts, parts_of}
use Rattle.pp_core.specs.Effects.{CanSpend, Spent, released}
use Rattle.pp_core.proofs.LatchMoves.{can_release, can_unlatch, unlatch_moves}
use Rattle.pp_core.proofs.table.Table.unlatch_held.Goals as goal

pub release-requires : goal.release-requires
release-requires c =
    can_release (parts_of c.args.self.now) c.args.worker c.args.slot c.args.page c.requires.asks c.requires.page
    c.args.held c.requires.kept c.requires.held

pub spend-requires : goal.spend-requires
spend-requires c =
    let f = parts_of c.args.self.now in
    subst (λ (z : Parts). CanSpend z c.args.worker (action.Unlatch c.args.slot)) (sym c.release.ensures)
    (can_unlatch f c.args.worker c.args.slot c.args.page c.requires.asks c.requires.page c.requires.kept
    (released c.args.held f.marks c.args.page))

pub returns-clause-moves : goal.returns-clause-moves
returns-clause-moves c =
    let f = parts_of c.args.self.now in
    let g = parts_of c.spend.new.self in
    let spent = subst (λ (z : Parts). Spent z g c.args.worker (action.Unlatch c.args.slot) z.marks) c.release.ensures
    c.spend.ensures in
    unlatch_moves f c.args.worker c.args.slot c.args.page c.requires.asks c.requires.page g
    (released c.args.held f.marks c.args.page) c.args.held c.mark_at.result c.requires.held refl spent
    c.mark_at.ensures
