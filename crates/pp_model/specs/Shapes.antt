-- Which replies a move can have at all.
use Rattle.std.specs.Prelude.{Bool, true, false, ◌||◌, ◌==◌, IsTrue}
use Rattle.pp_model.specs.declared.moves.Came.TheVariants.{Fault, Image}
use Rattle.pp_model.specs.declared.moves.Move.{Move}
use Rattle.pp_model.specs.declared.moves.Move.TheVariants.{Take, Fix, WriteDone, ReadDone, Unfix, Latch, Unlatch}
use Rattle.pp_model.specs.declared.moves.Move.TheVariants.{Choose}
use Rattle.pp_model.specs.declared.moves.Move.TheVariants.{Unwind, Finish, FlushBegin, FlushDone}
use Rattle.pp_model.specs.declared.reply.Failure.TheVariants.{WriteFault, ReadFault, Misread}
use Rattle.pp_model.specs.declared.reply.Reply.{Reply}
use Rattle.pp_model.specs.declared.reply.Reply.TheVariants.{Taken, Hit, MustRead, MustWrite, Failed, Loaded, Did}
use Rattle.pp_model.specs.declared.reply.Reply.TheVariants.{Latched, Unlatched, Finished, Flushing, Flushed}
use Rattle.pp_model.specs.Pool.{State}
use Rattle.pp_model.specs.Moves.{reply_of, is_refusal}

-- Whether a move that is done can be answered so. A page that was read is loaded with the stamp that came.
abbrev pub is_answer : Move → Reply → Bool
is_answer (Take w) (Taken plan) = true
is_answer (Fix w page) (Hit frame mark) = true
is_answer (Fix w page) (MustRead frame) = true
is_answer (Fix w page) (MustWrite frame victim) = true
is_answer (WriteDone w true) (MustRead frame) = true
is_answer (WriteDone w false) (Failed WriteFault) = true
is_answer (ReadDone w Fault) (Failed ReadFault) = true
is_answer (ReadDone w (Image named stamp)) (Failed Misread) = true
is_answer (ReadDone w (Image named stamp)) (Loaded mark) = mark == stamp
is_answer (Unfix w) Did = true
is_answer (Latch w) (Latched mark) = true
is_answer (Unlatch w) (Unlatched mark) = true
is_answer (Choose w branch) Did = true
is_answer (Unwind w slot) Did = true
is_answer (Unwind w slot) (Unlatched mark) = true
is_answer (Finish w) (Finished ending) = true
is_answer (FlushBegin page) (Flushing mark) = true
is_answer (FlushDone ok) (Flushed clean) = true
is_answer _ _ = false

-- Whether the move can be answered so at all: it is refused, or done.
abbrev pub fits_reply : Move → Reply → Bool
fits_reply m reply = is_refusal reply || is_answer m reply

-- Each move is answered as it can be.
abbrev pub RepliesFit : State → Type 0
RepliesFit s = (m : Move) → IsTrue (fits_reply m (reply_of s m))
