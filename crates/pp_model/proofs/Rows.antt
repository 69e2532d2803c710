-- Worked rows: lists of moves, what each is answered, whose turn is next at the end, and the bound there. Each holds by
-- computing.
use Rattle.std.specs.Prelude.{◌≡◌, true, false, Some, None, List, [], ◌∷◌, replicate, refl}
use Rattle.pp_settings.specs.declared.span.Span.TheVariants.{Endless}
use Rattle.pp_model.specs.declared.moves.Move.{Move}
use Rattle.pp_model.specs.declared.moves.Move.TheVariants.{Take, Fix, WriteDone, ReadDone, Unfix, Latch, Unlatch}
use Rattle.pp_model.specs.declared.moves.Move.TheVariants.{Unwind, Finish}
use Rattle.pp_model.specs.declared.moves.Move.TheVariants.{FlushBegin, FlushDone}
use Rattle.pp_model.specs.declared.moves.Came.TheVariants.{Fault, Image}
use Rattle.pp_model.specs.declared.turn.Turn.TheVariants.{Act}
use Rattle.pp_model.specs.declared.refusals.Delay.TheVariants.{NoRoom, InFlight, FlushHolds, LatchHeld}
use Rattle.pp_model.specs.declared.refusals.Cause.TheVariants.{NoWorker, NoErrand}
use Rattle.pp_model.specs.declared.refusals.SubmitError.TheVariants.{OtherSettings, TooManyPlans, JournalLimit}
use Rattle.pp_model.specs.declared.reply.Failure.TheVariants.{WriteFault, ReadFault, Misread}
use Rattle.pp_model.specs.declared.reply.Ending.TheVariants.{Done, Gone}
use Rattle.pp_model.specs.declared.reply.Reply.TheVariants.{Taken, Hit, MustRead, MustWrite, Failed, Loaded, Did}
use Rattle.pp_model.specs.declared.reply.Reply.TheVariants.{Latched}
use Rattle.pp_model.specs.declared.reply.Reply.TheVariants.{Unlatched, Finished, Flushing, Flushed, NotNow, OffPlan}
use Rattle.pp_model.specs.declared.event.Event.{Event}
use Rattle.pp_model.specs.declared.event.Event.TheVariants.{Submit, Step}
use Rattle.pp_model.specs.Pool.{State, opening, is_dirty}
use Rattle.pp_model.specs.Holders.{held_slots}
use Rattle.pp_model.specs.Budget.{bound}
use Rattle.pp_model.specs.Moves.{reply_of}
use Rattle.pp_model.specs.Submitting.{submit_error}
use Rattle.pp_model.specs.Runs.{replies_to, state_after}
use Rattle.pp_model.specs.Journals.{replay, IsNextPlan, IsTrueFrom}
use Rattle.pp_model.specs.JournalMarks.{journal_mark}
use Rattle.pp_model.specs.Turns.{next_turn}
use Rattle.pp_model.proofs.Samples.{settings_of, two, write, read, touch, write_and_fix, nothing, long, with_plans}
use Rattle.pp_model.proofs.Samples.{start}

-- Two plans of peak 2 in three frames: the second waits until the first gives its room back.
abbrev room_start : State
room_start = start 3 (two 3 ∷ two 3 ∷ [])

abbrev room_moves : List Move
room_moves =
    Take 0 ∷ Take 1 ∷ Fix 0 0 ∷ ReadDone 0 (Image 0 0) ∷ Fix 0 16 ∷ ReadDone 0 (Image 16 0) ∷ Unfix 0 ∷
    Unfix 0 ∷ Finish 0 ∷ Take 1 ∷ []

room : replies_to room_start room_moves
    ≡ Taken 0 ∷ NotNow NoRoom ∷ MustRead 0 ∷ Loaded 0 ∷ MustRead 1 ∷ Loaded 0 ∷ Did ∷ Did ∷ Finished Done ∷
    Taken 1 ∷ []
room = refl

room_turn : next_turn (state_after room_start room_moves) ≡ Some (Act 1)
room_turn = refl

room_budget : bound (state_after room_start room_moves) ≡ 53
unfolding held_slots
room_budget = refl

-- One frame: a flush of its page holds it.
abbrev held_by_a_flush_start : State
held_by_a_flush_start = start 1 (write 1 ∷ touch 1 ∷ [])

abbrev held_by_a_flush_moves : List Move
held_by_a_flush_moves =
    Take 0 ∷ Fix 0 16 ∷ ReadDone 0 (Image 16 0) ∷ Latch 0 ∷ Unlatch 0 ∷ Unfix 0 ∷ Finish 0 ∷ FlushBegin 16 ∷
    Take 0 ∷ Fix 0 1 ∷ FlushDone true ∷ Fix 0 1 ∷ ReadDone 0 (Image 1 0) ∷ []

held_by_a_flush : replies_to held_by_a_flush_start held_by_a_flush_moves
    ≡ Taken 0 ∷ MustRead 0 ∷ Loaded 0 ∷ Latched 0 ∷ Unlatched 1 ∷ Did ∷ Finished Done ∷ Flushing 1 ∷ Taken 1 ∷
    NotNow FlushHolds ∷ Flushed true ∷ MustRead 0 ∷ Loaded 0 ∷ []
held_by_a_flush = refl

held_by_a_flush_turn : next_turn (state_after held_by_a_flush_start held_by_a_flush_moves) ≡ Some (Act 0)
held_by_a_flush_turn = refl

held_by_a_flush_budget : bound (state_after held_by_a_flush_start held_by_a_flush_moves) ≡ 42
unfolding held_slots
held_by_a_flush_budget = refl

-- One frame: the victim can't be written back, and stays in it, newer than the device's.
abbrev lost_start : State
lost_start = start 1 (write 1 ∷ touch 1 ∷ read 1 ∷ [])

abbrev lost_moves : List Move
lost_moves =
    Take 0 ∷ Fix 0 16 ∷ ReadDone 0 (Image 16 0) ∷ Latch 0 ∷ Unlatch 0 ∷ Unfix 0 ∷ Finish 0 ∷ Take 0 ∷ Fix 0 1 ∷
    WriteDone 0 false ∷ Finish 0 ∷ Take 0 ∷ Fix 0 16 ∷ Latch 0 ∷ []

lost : replies_to lost_start lost_moves
    ≡ Taken 0 ∷ MustRead 0 ∷ Loaded 0 ∷ Latched 0 ∷ Unlatched 1 ∷ Did ∷ Finished Done ∷ Taken 1 ∷ MustWrite 0 16 ∷
    Failed WriteFault ∷ Finished Gone ∷ Taken 2 ∷ Hit 0 1 ∷ Latched 1 ∷ []
lost = refl

lost_turn : next_turn (state_after lost_start lost_moves) ≡ Some (Act 0)
lost_turn = refl

lost_budget : bound (state_after lost_start lost_moves) ≡ 47
unfolding held_slots
lost_budget = refl

lost_page : (state_after lost_start lost_moves).lists.t2 ≡ 16 ∷ []
lost_page = refl

lost_dirty : is_dirty (state_after lost_start lost_moves) 16 ≡ true
lost_dirty = refl

-- A page that another worker reads is in flight, and an image of another page is a misread.
abbrev misread_start : State
misread_start = start 3 (touch 3 ∷ touch 3 ∷ [])

abbrev misread_moves : List Move
misread_moves =
    Take 0 ∷ Take 1 ∷ Fix 0 1 ∷ Fix 1 1 ∷ ReadDone 0 (Image 2 0) ∷ Fix 1 1 ∷ ReadDone 1 (Image 1 0) ∷ Finish 0 ∷ []

misread : replies_to misread_start misread_moves
    ≡ Taken 0 ∷ Taken 1 ∷ MustRead 0 ∷ NotNow InFlight ∷ Failed Misread ∷ MustRead 0 ∷ Loaded 0 ∷ Finished Gone ∷ []
misread = refl

misread_turn : next_turn (state_after misread_start misread_moves) ≡ Some (Act 1)
misread_turn = refl

misread_budget : bound (state_after misread_start misread_moves) ≡ 44
unfolding held_slots
misread_budget = refl

-- A page that is changed while it is flushed stays newer than the device's.
abbrev changed_meanwhile_start : State
changed_meanwhile_start = start 3 (write 3 ∷ write 3 ∷ read 3 ∷ [])

abbrev changed_meanwhile_moves : List Move
changed_meanwhile_moves =
    Take 0 ∷ Fix 0 16 ∷ ReadDone 0 (Image 16 0) ∷ Latch 0 ∷ Unlatch 0 ∷ Unfix 0 ∷ Finish 0 ∷ Take 0 ∷
    FlushBegin 16 ∷ Fix 0 16 ∷ Latch 0 ∷ Unlatch 0 ∷ FlushDone true ∷ Unfix 0 ∷ Finish 0 ∷ Take 0 ∷ Fix 0 16 ∷
    Latch 0 ∷ []

changed_meanwhile : replies_to changed_meanwhile_start changed_meanwhile_moves
    ≡ Taken 0 ∷ MustRead 0 ∷ Loaded 0 ∷ Latched 0 ∷ Unlatched 1 ∷ Did ∷ Finished Done ∷ Taken 1 ∷ Flushing 1 ∷
    Hit 0 1 ∷ Latched 1 ∷ Unlatched 2 ∷ Flushed false ∷ Did ∷ Finished Done ∷ Taken 2 ∷ Hit 0 2 ∷ Latched 2 ∷ []
changed_meanwhile = refl

changed_meanwhile_turn : next_turn (state_after changed_meanwhile_start changed_meanwhile_moves) ≡ Some (Act 0)
changed_meanwhile_turn = refl

changed_meanwhile_budget : bound (state_after changed_meanwhile_start changed_meanwhile_moves) ≡ 45
unfolding held_slots
changed_meanwhile_budget = refl

-- Two workers want one page X, and the second isn't next while the first has it.
abbrev one_writer_start : State
one_writer_start = start 3 (write 3 ∷ write 3 ∷ [])

abbrev one_writer_moves : List Move
one_writer_moves =
    Take 0 ∷ Take 1 ∷ Fix 0 16 ∷ ReadDone 0 (Image 16 0) ∷ Fix 1 16 ∷ Latch 1 ∷ Latch 0 ∷ FlushDone true ∷ []

one_writer : replies_to one_writer_start one_writer_moves
    ≡ Taken 0 ∷ Taken 1 ∷ MustRead 0 ∷ Loaded 0 ∷ Hit 0 0 ∷ Latched 0 ∷ NotNow LatchHeld ∷ OffPlan NoErrand ∷ []
one_writer = refl

one_writer_turn : next_turn (state_after one_writer_start one_writer_moves) ≡ Some (Act 1)
one_writer_turn = refl

one_writer_budget : bound (state_after one_writer_start one_writer_moves) ≡ 89
unfolding held_slots
one_writer_budget = refl

-- One frame: a changed page is written back, evicted, and read again with its mark.
abbrev read_again_start : State
read_again_start = start 1 (write 1 ∷ touch 1 ∷ read 1 ∷ [])

abbrev read_again_moves : List Move
read_again_moves =
    Take 0 ∷ Fix 0 16 ∷ ReadDone 0 (Image 16 0) ∷ Latch 0 ∷ Unlatch 0 ∷ Unfix 0 ∷ Finish 0 ∷ Take 0 ∷ Fix 0 1 ∷
    WriteDone 0 true ∷ ReadDone 0 (Image 1 0) ∷ Unfix 0 ∷ Finish 0 ∷ Take 0 ∷ Fix 0 16 ∷
    ReadDone 0 (Image 16 1) ∷ Latch 0 ∷ []

read_again : replies_to read_again_start read_again_moves
    ≡ Taken 0 ∷ MustRead 0 ∷ Loaded 0 ∷ Latched 0 ∷ Unlatched 1 ∷ Did ∷ Finished Done ∷ Taken 1 ∷ MustWrite 0 16 ∷
    MustRead 0 ∷ Loaded 0 ∷ Did ∷ Finished Done ∷ Taken 2 ∷ MustRead 0 ∷ Loaded 1 ∷ Latched 1 ∷ []
read_again = refl

read_again_turn : next_turn (state_after read_again_start read_again_moves) ≡ Some (Act 0)
read_again_turn = refl

read_again_budget : bound (state_after read_again_start read_again_moves) ≡ 47
unfolding held_slots
read_again_budget = refl

-- Two plans to their ends, each turn the one that is next: 14 moves, and of the bound only the flushes are left.
abbrev two_in_turn_start : State
two_in_turn_start = start 3 (two 3 ∷ two 3 ∷ [])

abbrev two_in_turn_moves : List Move
two_in_turn_moves =
    Take 0 ∷ Fix 0 0 ∷ ReadDone 0 (Image 0 0) ∷ Fix 0 16 ∷ ReadDone 0 (Image 16 0) ∷ Unfix 0 ∷ Unfix 0 ∷
    Finish 0 ∷ Take 0 ∷ Fix 0 0 ∷ Fix 0 16 ∷ Unfix 0 ∷ Unfix 0 ∷ Finish 0 ∷ []

two_in_turn : replies_to two_in_turn_start two_in_turn_moves
    ≡ Taken 0 ∷ MustRead 0 ∷ Loaded 0 ∷ MustRead 1 ∷ Loaded 0 ∷ Did ∷ Did ∷ Finished Done ∷ Taken 1 ∷ Hit 0 0 ∷
    Hit 1 0 ∷ Did ∷ Did ∷ Finished Done ∷ []
two_in_turn = refl

two_in_turn_turn : next_turn (state_after two_in_turn_start two_in_turn_moves) ≡ None
two_in_turn_turn = refl

two_in_turn_budget : bound (state_after two_in_turn_start two_in_turn_moves) ≡ 8
unfolding held_slots
two_in_turn_budget = refl

-- A plan whose reading fails ends gone, after four moves.
abbrev all_faults_start : State
all_faults_start = start 3 (touch 3 ∷ [])

abbrev all_faults_moves : List Move
all_faults_moves =
    Take 0 ∷ Fix 0 1 ∷ ReadDone 0 Fault ∷ Finish 0 ∷ []

all_faults : replies_to all_faults_start all_faults_moves
    ≡ Taken 0 ∷ MustRead 0 ∷ Failed ReadFault ∷ Finished Gone ∷ []
all_faults = refl

all_faults_turn : next_turn (state_after all_faults_start all_faults_moves) ≡ None
all_faults_turn = refl

all_faults_budget : bound (state_after all_faults_start all_faults_moves) ≡ 8
unfolding held_slots
all_faults_budget = refl

-- Before the first move the bound is both costs and twice the flushes.
two_budget : bound two_in_turn_start ≡ 100
unfolding held_slots
two_budget = refl

-- A worker that the settings don't have.
no_worker : reply_of (start 3 (touch 3 ∷ [])) (Take 2) ≡ OffPlan NoWorker
no_worker = refl

-- A plan of other settings; one more than the pool keeps; one too many for the journal.
other_settings : submit_error (start 3 []) (touch 1) ≡ Some OtherSettings
other_settings = refl

too_many : submit_error (with_plans (start 3 []) (replicate 256 (nothing 3))) (nothing 3) ≡ Some TooManyPlans
too_many = refl

not_too_many : submit_error (with_plans (start 3 []) (replicate 255 (nothing 3))) (nothing 3) ≡ None
not_too_many = refl

-- In an endless life in which one plan may wait, a second is one too many, until the first is taken.
abbrev endless_start : State
endless_start = with_plans (opening (record (settings_of 3) { span = Endless 1 })) (nothing 3 ∷ [])

one_waits : submit_error endless_start (nothing 3) ≡ Some TooManyPlans
one_waits = refl

none_waits : submit_error (state_after endless_start (Take 0 ∷ [])) (nothing 3) ≡ None
none_waits = refl

too_long : submit_error (start 3 (long 3 1000000 ∷ [])) (long 3 1000000) ≡ Some JournalLimit
too_long = refl

-- ---- a journal of six lines

abbrev six_lines : List Event
six_lines =
    Submit 0 ∷ Step (Take 0) (Taken 0) ∷ Step (Fix 0 1) (MustRead 0) ∷ Step (ReadDone 0 (Image 1 0)) (Loaded 0) ∷
    Step (Unfix 0) Did ∷ Step (Finish 0) (Finished Done) ∷ []

six_lines_are_true : IsTrueFrom (touch 3 ∷ []) (opening (settings_of 3)) six_lines
six_lines_are_true =
    let next : IsNextPlan (touch 3 ∷ []) (opening (settings_of 3)) 0 =
    record { next = refl; plan = touch 3; named = refl; taken_in = refl } in
    (next, ((refl, refl), ((refl, refl), ((refl, refl), ((refl, refl), ((refl, refl), tt))))))

six_lines_turn : next_turn (replay (touch 3 ∷ []) (opening (settings_of 3)) six_lines) ≡ None
six_lines_turn = refl

-- What is marked of the page that was read, and of one that wasn't.
six_lines_mark : journal_mark (touch 3 ∷ []) (opening (settings_of 3)) six_lines 1 ≡ Some 0
six_lines_mark = refl

six_lines_no_mark : journal_mark (touch 3 ∷ []) (opening (settings_of 3)) six_lines 2 ≡ None
six_lines_no_mark = refl

-- The page that was written in the row above has the mark of its last unlatch.
abbrev written_lines : List Event
written_lines =
    Submit 0 ∷ Step (Take 0) (Taken 0) ∷ Step (Fix 0 16) (MustRead 0) ∷ Step (ReadDone 0 (Image 16 0)) (Loaded 0) ∷
    Step (Latch 0) (Latched 0) ∷ Step (Unlatch 0) (Unlatched 1) ∷ []

written_lines_mark : journal_mark (write 3 ∷ []) (opening (settings_of 3)) written_lines 16 ≡ Some 1
written_lines_mark = refl

-- So has one whose latch went when its worker left the plan; and a page that wasn't read has none.
abbrev unwound_lines : List Event
unwound_lines =
    Submit 0 ∷ Step (Take 0) (Taken 0) ∷ Step (Fix 0 1) (MustRead 0) ∷ Step (ReadDone 0 (Image 1 7)) (Loaded 7) ∷
    Step (Latch 0) (Latched 7) ∷ Step (Fix 0 16) (MustRead 1) ∷ Step (ReadDone 0 Fault) (Failed ReadFault) ∷
    Step (Unwind 0 0) (Unlatched 8) ∷ Step (Finish 0) (Finished Gone) ∷ []

unwound_lines_are_true : IsTrueFrom (write_and_fix 3 ∷ []) (opening (settings_of 3)) unwound_lines
unwound_lines_are_true =
    let next : IsNextPlan (write_and_fix 3 ∷ []) (opening (settings_of 3)) 0 =
    record { next = refl; plan = write_and_fix 3; named = refl; taken_in = refl } in (
      next,
      (
        (refl, refl),
        ((refl, refl), ((refl, refl), ((refl, refl), ((refl, refl), ((refl, refl), ((refl, refl), ((refl, refl), tt))))))),
      ),
    )

unwound_lines_mark : journal_mark (write_and_fix 3 ∷ []) (opening (settings_of 3)) unwound_lines 1 ≡ Some 8
unwound_lines_mark = refl

unwound_lines_no_mark : journal_mark (write_and_fix 3 ∷ []) (opening (settings_of 3)) unwound_lines 16 ≡ None
unwound_lines_no_mark = refl

-- A misread marks neither the page that was asked for nor the one that the image names.
abbrev misread_lines : List Event
misread_lines =
    Submit 0 ∷ Step (Take 0) (Taken 0) ∷ Step (Fix 0 1) (MustRead 0) ∷
    Step (ReadDone 0 (Image 2 0)) (Failed Misread) ∷ []

misread_lines_no_mark : journal_mark (touch 3 ∷ []) (opening (settings_of 3)) misread_lines 1 ≡ None
misread_lines_no_mark = refl

misread_lines_none_named : journal_mark (touch 3 ∷ []) (opening (settings_of 3)) misread_lines 2 ≡ None
misread_lines_none_named = refl
