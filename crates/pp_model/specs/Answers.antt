-- WriteDone and ReadDone: what the device gave for a worker's errand.
use Rattle.std.specs.Prelude.{ℕ, Bool, true, false, not, ◌||◌, ◌==◌, nat_le, Option, None, Some, []}
use Rattle.pp_settings.specs.Limits.{stamp_limit}
use Rattle.pp_arc.specs.Figure.{forget, bring_back}
use Rattle.pp_model.specs.declared.moves.Came.{Came}
use Rattle.pp_model.specs.declared.moves.Came.TheVariants.{Fault, Image}
use Rattle.pp_model.specs.declared.refusals.Cause.TheVariants.{NoWorker, NoErrand}
use Rattle.pp_model.specs.declared.reply.Failure.{Failure}
use Rattle.pp_model.specs.declared.reply.Failure.TheVariants.{WriteFault, ReadFault, Misread}
use Rattle.pp_model.specs.declared.reply.Reply.TheVariants.{MustRead, Failed, Loaded}
use Rattle.pp_model.specs.Pool.{Stage, acting, writing, reading, leaving, Running, State, frame_of, known_mark}
use Rattle.pp_model.specs.Pool.{frame_at}
use Rattle.pp_model.specs.Fixing.{fixes}
use Rattle.pp_model.specs.Outcome.{Outcome, off_plan, asked_by, with_stage, did, with_lists, with_frame, with_dirty}
use Rattle.pp_model.specs.Outcome.{with_mark}

-- ---- a fix that fails

-- The worker leaves its plan. The failed fix isn't among the actions done.
abbrev pub lost : State → ℕ → Running → Failure → Outcome
lost s w r failure = record { reply = Failed failure; state = with_stage s w r (leaving []) }

-- The page was not read: it isn't cached, nor remembered, and its frame is free.
abbrev pub unread : State → ℕ → Running → (page : ℕ) → Failure → Outcome
unread s w r page failure = lost (with_frame (with_lists s (forget s.lists page)) page None) w r failure

-- The victim was not written: it is cached again, in its old frame, and the page isn't.
abbrev pub brought_back : State → (page victim : ℕ) → State
brought_back s page v =
    with_frame (with_frame (with_lists s (bring_back s.lists page v)) page None) v (frame_of s page)

-- ---- WriteDone

-- Whether the victim is on the device. Then the page is read into its frame.
abbrev pub write_where : State → ℕ → Running → (slot page victim : ℕ) → Bool → Outcome
write_where s w r slot page v true =
    record { reply = MustRead (frame_at s page); state = with_stage (with_dirty s v false) w r (reading slot page) }
write_where s w r slot page v false = lost (brought_back s page v) w r WriteFault

abbrev pub write_in : State → ℕ → Bool → Running → Stage → Outcome
write_in s w ok r acting = off_plan s NoErrand
write_in s w ok r (writing slot page victim) = write_where s w r slot page victim ok
write_in s w ok r (reading slot page) = off_plan s NoErrand
write_in s w ok r (leaving given) = off_plan s NoErrand

abbrev pub write_by : State → ℕ → Bool → Option (Option Running) → Outcome
write_by s w ok None = off_plan s NoWorker
write_by s w ok (Some None) = off_plan s NoErrand
write_by s w ok (Some (Some r)) = write_in s w ok r r.stage

-- ---- ReadDone

-- Whether a stamp isn't the known mark; where none is known, a stamp of 2^62 or more isn't believed.
abbrev pub is_other : Option ℕ → (stamp : ℕ) → Bool
is_other None stamp = nat_le stamp_limit stamp
is_other (Some mark) stamp = not (mark == stamp)

-- Whether an image that names this page and this stamp isn't the page's.
abbrev pub is_misread : State → (page named stamp : ℕ) → Bool
is_misread s page named stamp = not (named == page) || is_other (known_mark s page) stamp

-- Whether it was misread. Else the page is fixed, and the stamp is its mark.
abbrev pub read_where : State → ℕ → Running → (slot page stamp : ℕ) → Bool → Outcome
read_where s w r slot page stamp true = unread s w r page Misread
read_where s w r slot page stamp false =
    record { reply = Loaded stamp; state = did (with_mark s page stamp) w r (fixes (asked_by r) slot page) }

abbrev pub read_came : State → ℕ → Running → (slot page : ℕ) → Came → Outcome
read_came s w r slot page Fault = unread s w r page ReadFault
read_came s w r slot page (Image named stamp) = read_where s w r slot page stamp (is_misread s page named stamp)

abbrev pub read_in : State → ℕ → Came → Running → Stage → Outcome
read_in s w came r acting = off_plan s NoErrand
read_in s w came r (writing slot page victim) = off_plan s NoErrand
read_in s w came r (reading slot page) = read_came s w r slot page came
read_in s w came r (leaving given) = off_plan s NoErrand

abbrev pub read_by : State → ℕ → Came → Option (Option Running) → Outcome
read_by s w came None = off_plan s NoWorker
read_by s w came (Some None) = off_plan s NoErrand
read_by s w came (Some (Some r)) = read_in s w came r r.stage
