use Rattle.std.proofs.Common.{◌≡◌, true, false, subst, sym, rules}
use Rattle.std.specs.Prelude.{Result, Ok, Err}
use Rattle.pp_model.specs.declared.moves.Move.TheVariants as move
use Rattle.pp_model.specs.declared.moves.Came.{Came}
use Rattle.pp_model.specs.declared.refusals.Cause.{Cause}
use Rattle.pp_model.specs.declared.reply.Reply.TheVariants.{Failed, Loaded}
use Rattle.pp_model.specs.declared.reply.Failure.TheVariants.{ReadFault, Misread}
use Rattle.pp_core.specs.declared.answering.Read.{Read}
use Rattle.pp_core.specs.Parts.{parts_of}
use Rattle.pp_core.specs.StandsFor.{Moves}
use Rattle.pp_core.specs.Effects.{phase_of}
use Rattle.pp_core.specs.Answering.{reading_of, is_misread}
use Rattle.pp_core.proofs.AnswerMoves as step
use Rattle.pp_core.proofs.table.Table.read_done.Goals as goal

pub returns-in-Err-clause-moves : goal.returns-in-Err-clause-moves
returns-in-Err-clause-moves c =
    let f = parts_of c.args.self.now in
    let none : ◌≡◌ {A = Result Read Cause} (reading_of (phase_of f c.args.worker))
    (Err c.in-Err.cause) = search rules in
    step.read_refused f c.args.worker c.args.came c.in-Err.cause none

pub forget-requires : goal.forget-requires
forget-requires c =
    let f = parts_of c.args.self.now in
    let some : ◌≡◌ {A = Result Read Cause} (reading_of (phase_of f c.args.worker)) (Ok c.in-Ok.read) = search rules in
    step.can_forget f c.args.worker c.in-Ok.read some c.requires

pub forget-requires-then-is_misread : goal.forget-requires-then-is_misread
forget-requires-then-is_misread c =
    let f = parts_of c.args.self.now in
    let some : ◌≡◌ {A = Result Read Cause} (reading_of (phase_of f c.args.worker)) (Ok c.in-Ok.read) = search rules in
    step.can_forget f c.args.worker c.in-Ok.read some c.requires

pub load-requires : goal.load-requires
load-requires c =
    let f = parts_of c.args.self.now in
    let some : ◌≡◌ {A = Result Read Cause} (reading_of (phase_of f c.args.worker)) (Ok c.in-Ok.read) = search rules in
    step.can_load f c.args.worker c.in-Ok.read some c.requires

pub returns-in-Fault-clause-moves : goal.returns-in-Fault-clause-moves
returns-in-Fault-clause-moves c =
    let f = parts_of c.args.self.now in
    let g = parts_of c.forget.new.self in
    let some : ◌≡◌ {A = Result Read Cause} (reading_of (phase_of f c.args.worker)) (Ok c.in-Ok.read) = search rules in
    subst (λ (came : Came). Moves f (move.ReadDone c.args.worker came) (Failed ReadFault) g) (sym c.in-Fault.is)
    (step.fault_moves f c.args.worker c.in-Ok.read some g c.forget.ensures)

pub returns-then-is_misread-clause-moves : goal.returns-then-is_misread-clause-moves
returns-then-is_misread-clause-moves c =
    let f = parts_of c.args.self.now in
    let g = parts_of c.forget-then-is_misread.new.self in
    let some : ◌≡◌ {A = Result Read Cause} (reading_of (phase_of f c.args.worker)) (Ok c.in-Ok.read) = search rules in
    let wrong : is_misread f.marks c.in-Ok.read.page c.in-Image.named c.in-Image.stamp ≡ true = search rules in
    subst (λ (came : Came). Moves f (move.ReadDone c.args.worker came) (Failed Misread) g) (sym c.in-Image.is)
    (step.misread_moves f c.args.worker c.in-Ok.read some g c.in-Image.named c.in-Image.stamp wrong
    c.forget-then-is_misread.ensures)

pub returns-clause-moves : goal.returns-clause-moves
returns-clause-moves c =
    let f = parts_of c.args.self.now in
    let g = parts_of c.load.new.self in
    let some : ◌≡◌ {A = Result Read Cause} (reading_of (phase_of f c.args.worker)) (Ok c.in-Ok.read) = search rules in
    let right : is_misread f.marks c.in-Ok.read.page c.in-Image.named c.in-Image.stamp ≡ false = search rules in
    subst (λ (came : Came). Moves f (move.ReadDone c.args.worker came) (Loaded c.in-Image.stamp) g) (sym c.in-Image.is)
    (step.loaded_moves f c.args.worker c.in-Ok.read some g c.in-Image.named c.in-Image.stamp right c.load.ensures)
