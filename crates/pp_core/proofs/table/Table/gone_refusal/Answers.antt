use Rattle.std.proofs.Common.{refl}
use Rattle.pp_model.specs.declared.moves.Move.TheVariants as move
use Rattle.pp_model.specs.declared.reply.Reply.TheVariants.{OffPlan}
use Rattle.pp_model.specs.declared.refusals.Cause.TheVariants.{NotEnded}
use Rattle.pp_core.specs.Parts.{parts_of}
use Rattle.pp_core.proofs.LeaveMoves.{leaver_plan, gone_refused}
use Rattle.pp_core.proofs.RefusalTies.{refused_so, gone_possible}
use Rattle.pp_core.proofs.table.Table.gone_refusal.Goals as goal

pub holds-requires : goal.holds-requires
holds-requires c = leaver_plan (parts_of c.args.self.now) c.args.worker c.requires.kept c.requires.leaves

pub returns-then-holds-gt0 : goal.returns-then-holds-gt0
returns-then-holds-gt0 c =
    let f = parts_of c.args.self.now in
    refused_so f (move.Finish c.args.worker) (OffPlan NotEnded) refl
    (gone_refused f c.args.worker c.requires.leaves c.holds.result c.holds.ensures c.if-holds-gt0.true)

pub returns : goal.returns
returns c =
    gone_possible (parts_of c.args.self.now) c.args.worker c.requires.leaves c.holds.result c.holds.ensures
    c.if-holds-gt0.false
