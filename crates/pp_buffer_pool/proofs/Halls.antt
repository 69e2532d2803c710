-- What is known of a hall is known of some hall.
use Rattle.std.proofs.Common.{◌≡◌, ◌<◌, ℕ, true, false, Some, List}
use Rattle.std.specs.Prelude.{slice_get}
use Rattle.pp_model.specs.Pool.{State, dirty_pages}
use Rattle.pp_vault.specs.StandsFor.{StandsFor}
use Rattle.pp_hall.specs.declared.counts.Stats.{Stats}
use Rattle.pp_hall.specs.declared.error.CloseError.{CloseError}
use Rattle.pp_cert.specs.Accepted.{Acceptance}
use Rattle.pp_core.specs.declared.error.PrepareError.{PrepareError}
use Rattle.pp_core.specs.Submits.{PrepareFails}
use Rattle.pp_hall.specs.Seatings.{is_wanted}
use Rattle.pp_hall.specs.Posts.{devices_there}
use Rattle.pp_hall.specs.Halls.{Parts, IsHall}
use Rattle.pp_hall.specs.Calls.{StatsAre}
use Rattle.pp_hall.specs.Closing.{IsClosed, IsBack, IsDirtyPage, IsListed}
use Rattle.pp_buffer_pool.specs.Halls.{StatsOfSome, DirtyInSome, ClosesSome, KeepsSome, AbandonsSome}
use Rattle.pp_buffer_pool.specs.Halls.{RefusesSome, RestsSome, CanFlushSome, IsAwaySome}

pub stats_of_some : (hall : Parts) (stats : Stats) → IsHall hall → StatsAre hall stats → StatsOfSome stats
stats_of_some hall stats holds are = record { hall = hall; holds = holds; told = are }

pub dirty_in_some : (hall : Parts) (places written : ℕ) (list : List (ℕ × ℕ)) → IsHall hall
    → ((k page mark : ℕ) → k < written → slice_get list k ≡ Some (page, mark)
    → IsDirtyPage hall.seating.vault page mark)
    → (written < places → (page mark : ℕ) → IsDirtyPage hall.seating.vault page mark
    → IsListed written list page mark)
    → DirtyInSome places written list
dirty_in_some hall places written list holds each every =
    record { hall = hall; holds = holds; each = each; every = every }

pub closes_some : (hall : Parts) (stats : Stats) (devices : ℕ) → IsHall hall → IsClosed hall stats
    → devices ≡ devices_there hall.posts → ClosesSome stats devices
closes_some hall stats devices holds closed all =
    record { hall = hall; holds = holds; closed = closed; all = all }

pub keeps_some : (before after : Parts) (error : CloseError) → IsHall before → IsBack before error after
    → KeepsSome error
keeps_some before after error holds back =
    record { before = before; after = after; holds = holds; back = back }

pub abandons_some : (hall : Parts) (devices dirty : ℕ) → IsHall hall → devices ≡ devices_there hall.posts
    → ((s : State) → StandsFor hall.seating.vault s → dirty ≡ dirty_pages s) → AbandonsSome devices dirty
abandons_some hall devices dirty holds all lost = record { hall = hall; holds = holds; all = all; lost = lost }

pub refuses_some : (hall : Parts) (plan : Acceptance) (error : PrepareError) → IsHall hall
    → PrepareFails hall.seating.vault.core plan error → RefusesSome plan error
refuses_some hall plan error holds fails = record { hall = hall; holds = holds; fails = fails }

pub rests_some : (hall : Parts) → IsHall hall
    → ((s : State) → StandsFor hall.seating.vault s → is_wanted 0 s ≡ false) → RestsSome
rests_some hall holds none = record { hall = hall; holds = holds; none = none }

pub can_flush_some : (hall : Parts) → IsHall hall
    → ((s : State) → StandsFor hall.seating.vault s → is_wanted 0 s ≡ true) → CanFlushSome
can_flush_some hall holds one = record { hall = hall; holds = holds; one = one }

pub is_away_some : (hall : Parts) → IsHall hall → hall.posts.is_flusher_home ≡ false → IsAwaySome
is_away_some hall holds away = record { hall = hall; holds = holds; away = away }
