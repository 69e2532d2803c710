use Rattle.std.proofs.Common.{◌≡◌, ℕ, ◌<◌, ◌≤◌, Some, length}
use Rattle.std.specs.Prelude.{slice_get}
use Rattle.pp_hall.specs.Closing.{IsDirtyPage, IsListed}
use Rattle.pp_hall.proofs.hall.Hall.dirty_pages.Given as goal

abbrev pub invariant-loop-page : goal.invariant-loop-page
invariant-loop-page g l =
    record {
      few : l.count ≤ length l.into;
      each : (k page mark : ℕ) → k < l.count → slice_get l.into k ≡ Some (page, mark)
          → IsDirtyPage l.self.seating.vault page mark;
      all : (page mark : ℕ) → page < l.page → IsDirtyPage l.self.seating.vault page mark
          → IsListed l.count l.into page mark;
    }
