use Rattle.std.proofs.Common.{refl}
use Rattle.pp_model.specs.declared.moves.Move.TheVariants as move
use Rattle.pp_model.specs.declared.reply.Reply.TheVariants.{OffPlan}
use Rattle.pp_core.specs.Parts.{parts_of}
use Rattle.pp_core.proofs.LeaveMoves.{done_refused}
use Rattle.pp_core.proofs.RefusalTies.{refused_so}
use Rattle.pp_core.proofs.table.Table.done_refusal.Goals as goal

pub returns-in-Err : goal.returns-in-Err
returns-in-Err c =
    let f = parts_of c.args.self.now in
    refused_so f (move.Finish c.args.worker) (OffPlan c.in-Err.cause) refl
    (done_refused f c.args.worker c.in-Err.cause c.requires.stays c.in-Err.ensures.cause)
