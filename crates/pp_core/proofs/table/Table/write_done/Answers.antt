use Rattle.std.proofs.Common.{◌≡◌, subst, sym, rules}
use Rattle.std.specs.Prelude.{Result, Ok, Err}
use Rattle.pp_model.specs.declared.moves.Move.TheVariants as move
use Rattle.pp_model.specs.declared.refusals.Cause.{Cause}
use Rattle.pp_model.specs.declared.reply.Reply.TheVariants.{Failed}
use Rattle.pp_model.specs.declared.reply.Failure.TheVariants.{WriteFault}
use Rattle.pp_core.specs.declared.answering.Write.{Write}
use Rattle.pp_core.specs.Parts.{parts_of}
use Rattle.pp_core.specs.StandsFor.{Moves}
use Rattle.pp_core.specs.Effects.{phase_of}
use Rattle.pp_core.specs.Answering.{writing_of}
use Rattle.pp_core.proofs.AnswerMoves as step
use Rattle.pp_core.proofs.table.Table.write_done.Goals as goal

pub returns-in-Err-clause-moves : goal.returns-in-Err-clause-moves
returns-in-Err-clause-moves c =
    let f = parts_of c.args.self.now in
    let none : ◌≡◌ {A = Result Write Cause} (writing_of (phase_of f c.args.worker))
    (Err c.in-Err.cause) = search rules in
    step.write_refused f c.args.worker c.args.ok c.in-Err.cause none

pub written-requires : goal.written-requires
written-requires c =
    let f = parts_of c.args.self.now in
    let some : ◌≡◌ {A = Result Write Cause} (writing_of (phase_of f c.args.worker)) (Ok c.in-Ok.write) = search rules in
    step.can_write f c.args.worker c.in-Ok.write some c.requires

pub bring_back-requires : goal.bring_back-requires
bring_back-requires c =
    let f = parts_of c.args.self.now in
    let some : ◌≡◌ {A = Result Write Cause} (writing_of (phase_of f c.args.worker)) (Ok c.in-Ok.write) = search rules in
    step.can_bring f c.args.worker c.in-Ok.write some c.requires

pub returns-then-ok-clause-moves : goal.returns-then-ok-clause-moves
returns-then-ok-clause-moves c =
    let f = parts_of c.args.self.now in
    let g = parts_of c.written.new.self in
    let some : ◌≡◌ {A = Result Write Cause} (writing_of (phase_of f c.args.worker)) (Ok c.in-Ok.write) = search rules in
    subst (λ ok. Moves f (move.WriteDone c.args.worker ok) c.written.result g) (sym c.if-ok.true)
    (step.written_moves f c.args.worker c.in-Ok.write some g c.written.result c.written.ensures.parts
    c.written.ensures.reply)

pub returns-else-ok-clause-moves : goal.returns-else-ok-clause-moves
returns-else-ok-clause-moves c =
    let f = parts_of c.args.self.now in
    let g = parts_of c.bring_back.new.self in
    let some : ◌≡◌ {A = Result Write Cause} (writing_of (phase_of f c.args.worker)) (Ok c.in-Ok.write) = search rules in
    subst (λ ok. Moves f (move.WriteDone c.args.worker ok) (Failed WriteFault) g) (sym c.if-ok.false)
    (step.brought_moves f c.args.worker c.in-Ok.write some g c.bring_back.ensures)
