use Rattle.std.proofs.Common.{◌≡◌, ◌<◌, length}
use Rattle.pp_bundles.specs.Bundles.{place_count, pages_at}
use Rattle.pp_core.specs.Parts.{parts_of}
use Rattle.pp_core.specs.Effects.{CanUnpinAll, scattered}
use Rattle.pp_core.proofs.table.Table.scatter.Given as goal

abbrev pub invariant-loop-page : goal.invariant-loop-page
invariant-loop-page l = record {
  place : l.place < place_count l.self.bundles;
  spare : CanUnpinAll (pages_at l.self.bundles l.place) l.self.marks;
  goes : scattered (parts_of l.self) l.place ≡ scattered (parts_of l.fn.self) l.place;
}

abbrev pub decreases-loop-page : goal.decreases-loop-page
decreases-loop-page l = length (pages_at l.self.bundles l.place)
