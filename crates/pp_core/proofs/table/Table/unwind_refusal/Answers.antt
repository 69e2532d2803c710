use Rattle.std.proofs.Common.{◌∙◌, refl, sym, rules}
use Rattle.pp_model.specs.declared.moves.Move.TheVariants as move
use Rattle.pp_model.specs.declared.reply.Reply.TheVariants.{OffPlan}
use Rattle.pp_model.specs.declared.refusals.Cause.TheVariants.{NotLeaving, NotHeld}
use Rattle.pp_core.specs.Parts.{parts_of}
use Rattle.pp_core.proofs.UnwindMoves.{not_leaving, not_held}
use Rattle.pp_core.proofs.RefusalTies.{refused_so, unwind_possible}
use Rattle.pp_core.proofs.table.Table.unwind_refusal.Goals as goal

pub returns-then-not-is_leaving : goal.returns-then-not-is_leaving
returns-then-not-is_leaving c =
    let f = parts_of c.args.self.now in
    refused_so f (move.Unwind c.args.worker c.args.slot) (OffPlan NotLeaving) refl
    (not_leaving f c.args.worker c.args.slot (search rules) (search rules))

pub returns-in-Some : goal.returns-in-Some
returns-in-Some c =
    unwind_possible (parts_of c.args.self.now) c.args.worker c.args.slot (search rules) c.in-Some.field-0
    (λ x e. sym c.in-Some.is ∙ c.hold.ensures x e)

pub returns-in-None : goal.returns-in-None
returns-in-None c =
    let f = parts_of c.args.self.now in
    refused_so f (move.Unwind c.args.worker c.args.slot) (OffPlan NotHeld) refl
    (not_held f c.args.worker c.args.slot (search rules) (λ x e. sym c.in-None.is ∙ c.hold.ensures x e))
