-- The events that the entries of a journal stand for.
use Rattle.std.specs.Prelude.{◌≡◌, ℕ, ◌<◌, ◌&&◌, nat_eq, nat_lt, Bool, true, false, List, length, slice_index_or}
use Rattle.pp_model.specs.declared.moves.Came.TheVariants.{Fault, Image}
use Rattle.pp_model.specs.declared.moves.Move.{Move}
use Rattle.pp_model.specs.declared.moves.Move.TheVariants as move
use Rattle.pp_model.specs.declared.reply.Failure.TheVariants.{WriteFault, ReadFault, Misread}
use Rattle.pp_model.specs.declared.reply.Reply.{Reply}
use Rattle.pp_model.specs.declared.reply.Reply.TheVariants as reply
use Rattle.pp_model.specs.declared.event.Event.{Event}
use Rattle.pp_model.specs.declared.event.Event.TheVariants.{Submit, Step}
use Rattle.pp_journal.specs.declared.entry.Entry.{Entry}
use Rattle.pp_journal.specs.declared.entry.Entry.TheVariants as entry

-- The event of an entry, beside which these others stand. The last kind names a place among them.
abbrev pub event_of : (others : List Event) → Entry → Event
event_of others (entry.Submit plan) = Submit plan
event_of others (entry.Take worker plan) = Step (move.Take worker) (reply.Taken plan)
event_of others (entry.Hit worker frame page mark) = Step (move.Fix worker page) (reply.Hit frame mark)
event_of others (entry.MustRead worker page frame) = Step (move.Fix worker page) (reply.MustRead frame)
event_of others (entry.MustWrite worker frame page victim) = Step (move.Fix worker page) (reply.MustWrite frame victim)
event_of others (entry.Written worker frame) = Step (move.WriteDone worker true) (reply.MustRead frame)
event_of others (entry.Unwritten worker) = Step (move.WriteDone worker false) (reply.Failed WriteFault)
event_of others (entry.Loaded worker page stamp) = Step (move.ReadDone worker (Image page stamp)) (reply.Loaded stamp)
event_of others (entry.Misread worker page stamp) =
    Step (move.ReadDone worker (Image page stamp)) (reply.Failed Misread)
event_of others (entry.Unread worker) = Step (move.ReadDone worker Fault) (reply.Failed ReadFault)
event_of others (entry.Unfix worker) = Step (move.Unfix worker) reply.Did
event_of others (entry.Latch worker mark) = Step (move.Latch worker) (reply.Latched mark)
event_of others (entry.Unlatch worker mark) = Step (move.Unlatch worker) (reply.Unlatched mark)
event_of others (entry.Choose worker branch) = Step (move.Choose worker branch) reply.Did
event_of others (entry.Unwind worker slot) = Step (move.Unwind worker slot) reply.Did
event_of others (entry.UnwindExclusive worker slot mark) = Step (move.Unwind worker slot) (reply.Unlatched mark)
event_of others (entry.Finish worker ending) = Step (move.Finish worker) (reply.Finished ending)
event_of others (entry.Flush page mark) = Step (move.FlushBegin page) (reply.Flushing mark)
event_of others (entry.Flushed ok clean) = Step (move.FlushDone ok) (reply.Flushed clean)
event_of others (entry.Other place) = slice_index_or others place (Submit 0)

-- Where so many others stand, the entry names a place among them, or none.
abbrev pub IsInside : (others : ℕ) → Entry → Type 0
IsInside others (entry.Other place) = place < others
IsInside others _ = Unit {0}

-- The entry is the event, whatever stands beside it.
abbrev pub StandsAlone : Event → Entry → Type 0
StandsAlone event e = (others : List Event) → IsInside (length others) e × (event_of others e ≡ event)

-- ---- which events stand in entries

-- Whether the worker's number fits one byte, and the frame's two.
abbrev pub fits_bytes : (worker frame : ℕ) → Bool
fits_bytes worker frame = nat_lt worker 256 && nat_lt frame 65536

-- Whether a move with its reply stands in an entry: each answer of a move that is done, as long as its worker is below 256 and its
-- frame below 65,536, and some where these are greater.
abbrev pub is_packed : Move → Reply → Bool
is_packed (move.Take w) (reply.Taken plan) = true
is_packed (move.Fix w page) (reply.Hit frame mark) = fits_bytes w frame
is_packed (move.Fix w page) (reply.MustRead frame) = true
is_packed (move.Fix w page) (reply.MustWrite frame victim) = fits_bytes w frame
is_packed (move.WriteDone w true) (reply.MustRead frame) = true
is_packed (move.WriteDone w false) (reply.Failed WriteFault) = true
is_packed (move.ReadDone w Fault) (reply.Failed ReadFault) = true
is_packed (move.ReadDone w (Image page stamp)) (reply.Loaded mark) = nat_lt w 256 && nat_eq mark stamp
is_packed (move.ReadDone w (Image page stamp)) (reply.Failed Misread) = nat_lt w 256
is_packed (move.Unfix w) reply.Did = true
is_packed (move.Latch w) (reply.Latched mark) = true
is_packed (move.Unlatch w) (reply.Unlatched mark) = true
is_packed (move.Choose w branch) reply.Did = true
is_packed (move.Unwind w slot) reply.Did = true
is_packed (move.Unwind w slot) (reply.Unlatched mark) = nat_lt w 256
is_packed (move.Finish w) (reply.Finished ending) = true
is_packed (move.FlushBegin page) (reply.Flushing mark) = true
is_packed (move.FlushDone ok) (reply.Flushed clean) = true
is_packed did out = false

-- The same of an event.
abbrev pub is_packed_event : Event → Bool
is_packed_event (Submit plan) = true
is_packed_event (Step did out) = is_packed did out
