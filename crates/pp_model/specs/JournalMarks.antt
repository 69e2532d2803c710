-- The mark of a page as a journal tells it: the stamp of the last unlatch or unwinding of X on the page, else of the
-- first reading of it that was good, else none. A reading is good where the image names the page that is read, and its
-- stamp is below 2^62.
use Rattle.std.specs.Prelude.{ℕ, ◌&&◌, ◌==◌, nat_lt, if◌then◌else◌, Option, None, Some, List, [], ◌∷◌}
use Rattle.std.specs.Option.{option_or}
use Rattle.pp_settings.specs.Limits.{stamp_limit}
use Rattle.pp_plan.specs.declared.action.Ask.{Ask}
use Rattle.pp_plan.specs.declared.action.Ask.TheVariants as ask
use Rattle.pp_cert.specs.Accepted.{Acceptance}
use Rattle.pp_cert.specs.Held.{Holding, holding_at}
use Rattle.pp_model.specs.declared.moves.Came.TheVariants.{Image}
use Rattle.pp_model.specs.declared.moves.Move.TheVariants.{ReadDone, Unlatch, Unwind}
use Rattle.pp_model.specs.declared.reply.Reply.TheVariants.{Loaded, Unlatched}
use Rattle.pp_model.specs.declared.event.Event.{Event}
use Rattle.pp_model.specs.declared.event.Event.TheVariants.{Step}
use Rattle.pp_model.specs.Pool.{Stage, acting, writing, reading, leaving, Running, State, known_mark}
use Rattle.pp_model.specs.Holders.{is_exclusive, holdings}
use Rattle.pp_model.specs.Moves.{asked_by, seat_of}
use Rattle.pp_model.specs.Journals.{after_event}

-- ---- one event, with the state before it

-- The page that the slot has latched X, if it has one.
abbrev pub written_in : Option Holding → Option ℕ
written_in None = None
written_in (Some h) = if is_exclusive h.held then Some h.page else None

abbrev pub written_at : Running → (slot : ℕ) → Option ℕ
written_at r slot = written_in (holding_at (holdings r) slot)

-- The page whose X latch goes off where the worker's plan asks to unlatch a slot.
abbrev pub written_asked : Running → Ask → Option ℕ
written_asked r (ask.Unlatch slot) = written_at r slot
written_asked r _ = None

abbrev pub written_unlatched : Option (Option Running) → Option ℕ
written_unlatched None = None
written_unlatched (Some None) = None
written_unlatched (Some (Some r)) = written_asked r (asked_by r)

-- The page whose X latch goes off where the worker gives this slot back.
abbrev pub written_unwound : (slot : ℕ) → Option (Option Running) → Option ℕ
written_unwound slot None = None
written_unwound slot (Some None) = None
written_unwound slot (Some (Some r)) = written_at r slot

-- The page that is read for the worker.
abbrev pub read_in : Stage → Option ℕ
read_in acting = None
read_in (writing slot page victim) = None
read_in (reading slot page) = Some page
read_in (leaving given) = None

abbrev pub read_for : Option (Option Running) → Option ℕ
read_for None = None
read_for (Some None) = None
read_for (Some (Some r)) = read_in r.stage

-- The page that is read, where an image that names this page and this stamp is a good reading of it.
abbrev pub read_well : Option ℕ → (named stamp : ℕ) → Option ℕ
read_well None named stamp = None
read_well (Some page) named stamp = if (named == page) && nat_lt stamp stamp_limit then Some page else None

-- The mark, where the event is about this page.
abbrev pub if_about : Option ℕ → (mark page : ℕ) → Option ℕ
if_about None mark page = None
if_about (Some about) mark page = if about == page then Some mark else None

-- The stamp that the event gives to the page.
abbrev pub stamp_written : State → Event → (page : ℕ) → Option ℕ
stamp_written s (Step (Unlatch w) (Unlatched mark)) page = if_about (written_unlatched (seat_of s w)) mark page
stamp_written s (Step (Unwind w slot) (Unlatched mark)) page = if_about (written_unwound slot (seat_of s w)) mark page
stamp_written s _ page = None

-- The stamp of the image that came for the page, where the reading was good and the page was fixed.
abbrev pub stamp_read : State → Event → (page : ℕ) → Option ℕ
stamp_read s (Step (ReadDone w (Image named stamp)) (Loaded mark)) page =
    if_about (read_well (read_for (seat_of s w)) named stamp) stamp page
stamp_read s _ page = None

-- ---- a journal

abbrev pub last_written : List Acceptance → State → List Event → (page : ℕ) → Option ℕ
last_written plans s [] page = None
last_written plans s (e ∷ es) page =
    option_or (last_written plans (after_event plans s e) es page) (stamp_written s e page)

abbrev pub first_read : List Acceptance → State → List Event → (page : ℕ) → Option ℕ
first_read plans s [] page = None
first_read plans s (e ∷ es) page =
    option_or (stamp_read s e page) (first_read plans (after_event plans s e) es page)

-- The mark of the page after these events, from a state on in which no mark is known.
abbrev pub journal_mark : List Acceptance → State → List Event → (page : ℕ) → Option ℕ
journal_mark plans s es page = option_or (last_written plans s es page) (first_read plans s es page)

-- The mark of the page after these events, from any state on: the stamp of the last unlatch or unwinding of X on it; else
-- the mark that was known before; else the stamp of its first good reading.
abbrev pub mark_after : List Acceptance → State → List Event → (page : ℕ) → Option ℕ
mark_after plans s es page =
    option_or (last_written plans s es page) (option_or (known_mark s page) (first_read plans s es page))
