use Rattle.std.proofs.Common.{refl}
use Rattle.pp_model.specs.declared.moves.Move.TheVariants as move
use Rattle.pp_model.specs.declared.reply.Reply.TheVariants.{OffPlan}
use Rattle.pp_model.specs.declared.refusals.Cause.TheVariants.{NotAsked}
use Rattle.pp_core.specs.Parts.{parts_of}
use Rattle.pp_core.proofs.RefusalTies.{refused_so}
use Rattle.pp_core.proofs.UsingMoves.{unfix_unasked}
use Rattle.pp_core.proofs.table.Table.unfix_refusal.Goals as goal

pub returns-in_default : goal.returns-in_default
returns-in_default c =
    refused_so (parts_of c.args.self.now) (move.Unfix c.args.worker) (OffPlan NotAsked) refl
    (unfix_unasked (parts_of c.args.self.now) c.args.worker c.in-Ok.ask c.in-Ok.ensures.asks
    c.in_default.not-Unfix c.in_default.not-Scatter)
