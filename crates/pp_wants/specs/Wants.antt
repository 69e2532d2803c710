-- What a worker sleeps for, and the move that it asks again.
use Rattle.std.specs.Prelude.{ℕ, true, false, Option, None, Some}
use Rattle.pp_model.specs.declared.moves.Move.{Move}
use Rattle.pp_model.specs.declared.moves.Move.TheVariants as move
use Rattle.pp_model.specs.declared.refusals.Delay.{Delay}
use Rattle.pp_model.specs.declared.refusals.Delay.TheVariants.{NoRoom}
use Rattle.pp_pool.specs.declared.request.Request.{Request}
use Rattle.pp_pool.specs.declared.request.Request.TheVariants as request
use Rattle.pp_wants.specs.declared.want.Want.{Want}
use Rattle.pp_wants.specs.declared.want.Want.TheVariants.{Take, Fix, Latch}

-- What the request waits for where it is refused for now, whatever the delay: the page that it would fix, or the one that it
-- would latch.
abbrev pub want_of : Request → Option Want
want_of (request.Fix x page) = Some (Fix page)
want_of (request.Join x page) = Some (Fix page)
want_of (request.LatchShared x g) = Some (Latch g.page false)
want_of (request.LatchExclusive x g) = Some (Latch g.page true)
want_of _ = None

-- What a take waits for that is refused with this delay: for room, and not for a plan. Where none waits, no other worker's move
-- brings one.
abbrev pub want_of_take : Delay → Option Want
want_of_take NoRoom = Some Take
want_of_take _ = None

-- What the request waits for where it is refused with this delay.
abbrev pub want_when : Request → Delay → Option Want
want_when (request.Take chair) delay = want_of_take delay
want_when r delay = want_of r

-- The move that the worker asks again. Which page it latches, and how, its plan says.
abbrev pub asked : Want → (worker : ℕ) → Move
asked Take worker = move.Take worker
asked (Fix page) worker = move.Fix worker page
asked (Latch page exclusive) worker = move.Latch worker
