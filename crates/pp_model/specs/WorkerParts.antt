-- A worker's part of a journal.
use Rattle.std.specs.Prelude.{ℕ, Bool, false, ◌==◌, Option, None, Some, List, filter}
use Rattle.pp_model.specs.declared.moves.Move.{Move}
use Rattle.pp_model.specs.declared.moves.Move.TheVariants.{Take, Fix, WriteDone, ReadDone, Unfix, Latch, Unlatch}
use Rattle.pp_model.specs.declared.moves.Move.TheVariants.{Choose}
use Rattle.pp_model.specs.declared.moves.Move.TheVariants.{Unwind, Finish, FlushBegin, FlushDone}
use Rattle.pp_model.specs.declared.event.Event.{Event}
use Rattle.pp_model.specs.declared.event.Event.TheVariants.{Submit, Step}

-- The worker that the move names. The flusher's moves name none.
abbrev pub worker_of : Move → Option ℕ
worker_of (Take w) = Some w
worker_of (Fix w page) = Some w
worker_of (WriteDone w ok) = Some w
worker_of (ReadDone w came) = Some w
worker_of (Unfix w) = Some w
worker_of (Latch w) = Some w
worker_of (Unlatch w) = Some w
worker_of (Choose w branch) = Some w
worker_of (Unwind w slot) = Some w
worker_of (Finish w) = Some w
worker_of (FlushBegin page) = None
worker_of (FlushDone ok) = None

abbrev pub is_worker : ℕ → Option ℕ → Bool
is_worker w None = false
is_worker w (Some v) = v == w

abbrev pub names_worker : ℕ → Event → Bool
names_worker w (Submit plan) = false
names_worker w (Step did reply) = is_worker w (worker_of did)

-- The events that name the worker, in order.
abbrev pub part_of : ℕ → List Event → List Event
part_of w es = filter (names_worker w) es
