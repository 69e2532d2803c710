use Rattle.std.proofs.Common.{◌≡◌, refl, rules}
use Rattle.std.specs.Prelude.{Result, Ok, Err}
use Rattle.pp_model.specs.declared.moves.Move.TheVariants as move
use Rattle.pp_model.specs.declared.refusals.Cause.{Cause}
use Rattle.pp_model.specs.declared.reply.Reply.TheVariants.{OffPlan}
use Rattle.pp_core.specs.declared.answering.Read.{Read}
use Rattle.pp_core.specs.Parts.{parts_of}
use Rattle.pp_core.specs.Effects.{phase_of}
use Rattle.pp_core.specs.Answering.{reading_of}
use Rattle.pp_core.proofs.AnswerMoves.{read_refused}
use Rattle.pp_core.proofs.RefusalTies.{refused_so, read_possible}
use Rattle.pp_core.proofs.table.Table.read_refusal.Goals as goal

pub returns-in-Ok : goal.returns-in-Ok
returns-in-Ok c =
    let f = parts_of c.args.self.now in
    let some : ◌≡◌ {A = Result Read Cause} (reading_of (phase_of f c.args.worker)) (Ok c.in-Ok.field-0) = search rules in
    read_possible f c.args.worker c.in-Ok.field-0 some

pub returns-in-Err : goal.returns-in-Err
returns-in-Err c = λ came.
    let f = parts_of c.args.self.now in
    let none : ◌≡◌ {A = Result Read Cause} (reading_of (phase_of f c.args.worker)) (Err c.in-Err.cause) = search rules in
    refused_so f (move.ReadDone c.args.worker came) (OffPlan c.in-Err.cause) refl
    (read_refused f c.args.worker came c.in-Err.cause none)
