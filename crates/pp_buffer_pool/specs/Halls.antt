-- What the calls of a pool say of what lies under its lock. That is in no contract, so each says what holds of some
-- hall.
use Rattle.std.specs.Prelude.{◌≡◌, ℕ, ◌<◌, true, false, Some, List, slice_get}
use Rattle.pp_cert.specs.Accepted.{Acceptance}
use Rattle.pp_core.specs.declared.error.PrepareError.{PrepareError}
use Rattle.pp_core.specs.Submits.{PrepareFails}
use Rattle.pp_model.specs.Pool.{State, dirty_pages}
use Rattle.pp_vault.specs.StandsFor.{StandsFor}
use Rattle.pp_hall.specs.declared.counts.Stats.{Stats}
use Rattle.pp_hall.specs.declared.error.CloseError.{CloseError}
use Rattle.pp_hall.specs.Seatings.{is_wanted}
use Rattle.pp_hall.specs.Posts.{devices_there}
use Rattle.pp_hall.specs.Halls.{Parts, IsHall}
use Rattle.pp_hall.specs.Calls.{StatsAre}
use Rattle.pp_hall.specs.Closing.{IsClosed, IsBack, IsDirtyPage, IsListed}
use Rattle.pp_buffer_pool.specs.declared.flushing.Flush.{Flush}
use Rattle.pp_buffer_pool.specs.declared.flushing.Flush.TheVariants.{Nothing, Spent, Busy}

-- Some hall has these counts, and stands so.
pub record StatsOfSome (stats : Stats) : Type 0 where
  pub hall : Parts
  pub holds : IsHall hall
  pub told : StatsAre hall stats

-- In some hall each page of those that were written down is newer than the device's, and has the mark beside it; and
-- where a place is left, every such page was.
pub record DirtyInSome (places written : ℕ) (list : List (ℕ × ℕ)) : Type 0 where
  pub hall : Parts
  pub holds : IsHall hall
  pub each : (k page mark : ℕ) → k < written → slice_get list k ≡ Some (page, mark)
      → IsDirtyPage hall.seating.vault page mark
  pub every : written < places → (page mark : ℕ) → IsDirtyPage hall.seating.vault page mark
      → IsListed written list page mark

-- Some hall doesn't keep the plan, for this cause.
pub record RefusesSome (plan : Acceptance) (error : PrepareError) : Type 0 where
  pub hall : Parts
  pub holds : IsHall hall
  pub fails : PrepareFails hall.seating.vault.core plan error

-- In some hall no page that is newer than the device's let a flush begin.
pub record RestsSome : Type 0 where
  pub hall : Parts
  pub holds : IsHall hall
  pub none : (s : State) → StandsFor hall.seating.vault s → is_wanted 0 s ≡ false

-- In some hall there was one.
pub record CanFlushSome : Type 0 where
  pub hall : Parts
  pub holds : IsHall hall
  pub one : (s : State) → StandsFor hall.seating.vault s → is_wanted 0 s ≡ true

-- From some hall the flusher was away.
pub record IsAwaySome : Type 0 where
  pub hall : Parts
  pub holds : IsHall hall
  pub away : hall.posts.is_flusher_home ≡ false

-- What a flush that was answered so tells. Of spent flushes it says only that a page was there to be flushed, and of a page that was
-- written nothing.
abbrev pub FlushTells : Flush → Type 0
FlushTells Nothing = RestsSome
FlushTells Spent = CanFlushSome
FlushTells Busy = IsAwaySome
FlushTells _ = Unit {0}

-- Some hall was closed. These are its last counts, and so many devices came out of it.
pub record ClosesSome (stats : Stats) (devices : ℕ) : Type 0 where
  pub hall : Parts
  pub holds : IsHall hall
  pub closed : IsClosed hall stats
  pub all : devices ≡ devices_there hall.posts

-- Some hall wasn't closed for this cause, and came back whole.
pub record KeepsSome (error : CloseError) : Type 0 where
  pub before : Parts
  pub after : Parts
  pub holds : IsHall before
  pub back : IsBack before error after

-- Some hall was given up as it was. So many devices came out of it, and so many pages were newer than these.
pub record AbandonsSome (devices dirty : ℕ) : Type 0 where
  pub hall : Parts
  pub holds : IsHall hall
  pub all : devices ≡ devices_there hall.posts
  pub lost : (s : State) → StandsFor hall.seating.vault s → dirty ≡ dirty_pages s
