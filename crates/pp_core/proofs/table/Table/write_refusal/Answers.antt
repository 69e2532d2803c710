use Rattle.std.proofs.Common.{◌≡◌, refl, rules}
use Rattle.std.specs.Prelude.{Result, Ok, Err}
use Rattle.pp_model.specs.declared.moves.Move.TheVariants as move
use Rattle.pp_model.specs.declared.refusals.Cause.{Cause}
use Rattle.pp_model.specs.declared.reply.Reply.TheVariants.{OffPlan}
use Rattle.pp_core.specs.declared.answering.Write.{Write}
use Rattle.pp_core.specs.Parts.{parts_of}
use Rattle.pp_core.specs.Effects.{phase_of}
use Rattle.pp_core.specs.Answering.{writing_of}
use Rattle.pp_core.proofs.AnswerMoves.{write_refused}
use Rattle.pp_core.proofs.RefusalTies.{refused_so, write_possible}
use Rattle.pp_core.proofs.table.Table.write_refusal.Goals as goal

pub returns-in-Ok : goal.returns-in-Ok
returns-in-Ok c =
    let f = parts_of c.args.self.now in
    let some : ◌≡◌ {A = Result Write Cause} (writing_of (phase_of f c.args.worker)) (Ok c.in-Ok.field-0) = search rules in
    write_possible f c.args.worker c.in-Ok.field-0 some

pub returns-in-Err : goal.returns-in-Err
returns-in-Err c = λ ok.
    let f = parts_of c.args.self.now in
    let none : ◌≡◌ {A = Result Write Cause} (writing_of (phase_of f c.args.worker)) (Err c.in-Err.cause) = search rules in
    refused_so f (move.WriteDone c.args.worker ok) (OffPlan c.in-Err.cause) refl
    (write_refused f c.args.worker ok c.in-Err.cause none)
