use Rattle.std.proofs.Common.{◌∙◌, sym, subst, rules}
use Rattle.pp_core.specs.Parts.{Parts, parts_of}
use Rattle.pp_core.specs.LeaveEffects.{CanGiveBack}
use Rattle.pp_core.proofs.UnwindMoves.{not_leaving, not_held, can_release, can_give, unwind_moves, given_after, can_give_all, unwind_all_moves}
use Rattle.pp_core.proofs.table.Table.unwind.Goals as goal

pub returns-then-not-is_leaving-clause-moves : goal.returns-then-not-is_leaving-clause-moves
returns-then-not-is_leaving-clause-moves c =
    not_leaving (parts_of c.args.self.now) c.args.worker c.args.slot (search rules) (search rules)

pub returns-in_default-clause-moves : goal.returns-in_default-clause-moves
returns-in_default-clause-moves c =
    not_held (parts_of c.args.self.now) c.args.worker c.args.slot (search rules)
    (λ x e. sym c.in_default.is ∙ c.hold.ensures x e)

pub give_all_back-requires : goal.give_all_back-requires
give_all_back-requires c =
    can_give_all (parts_of c.args.self.now) c.args.worker c.args.slot (search rules) c.in-Some.hold
    (λ x e. sym c.in-Some.is ∙ c.hold.ensures x e) (search rules) c.requires

pub returns-then-hold-clause-moves : goal.returns-then-hold-clause-moves
returns-then-hold-clause-moves c =
    unwind_all_moves (parts_of c.args.self.now) c.args.worker c.args.slot (search rules) c.in-Some.hold
    (λ x e. sym c.in-Some.is ∙ c.hold.ensures x e) (search rules) (parts_of c.give_all_back.new.self)
    c.give_all_back.ensures

pub release-requires : goal.release-requires
release-requires c =
    can_release (parts_of c.args.self.now) c.args.worker c.args.slot (search rules) c.in-Some.hold
    (λ x e. sym c.in-Some.is ∙ c.hold.ensures x e) (search rules) c.requires

pub give_slot_back-requires : goal.give_slot_back-requires
give_slot_back-requires c =
    subst (λ (f : Parts). CanGiveBack f c.args.worker c.args.slot c.in-Some.hold.page) (sym c.release.ensures)
    (can_give (parts_of c.args.self.now) c.args.worker c.args.slot (search rules) c.in-Some.hold
    (λ x e. sym c.in-Some.is ∙ c.hold.ensures x e) (search rules) c.requires)

pub returns-clause-moves : goal.returns-clause-moves
returns-clause-moves c =
    let f = parts_of c.args.self.now in
    let mid = parts_of c.release.new.self in
    let g = parts_of c.give_slot_back.new.self in
    unwind_moves f c.args.worker c.args.slot (search rules) c.in-Some.hold
    (λ x e. sym c.in-Some.is ∙ c.hold.ensures x e) (search rules) g c.unwound.result
    (given_after f mid g _ c.args.worker c.args.slot c.in-Some.hold.page c.release.ensures c.give_slot_back.ensures)
    c.unwound.ensures
