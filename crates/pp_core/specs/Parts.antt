-- What clauses see of a core: what it keeps, without the capacities of its vectors.
use Rattle.std.specs.Prelude.{ℕ, Bool, Option, List}
use Rattle.pp_settings.specs.Layout.{Geometry}
use Rattle.pp_cert.specs.Accepted.{Acceptance}
use Rattle.pp_arc.specs.FourLists.{FourLists}
use Rattle.pp_frames.specs.Marks.{PageMap}
use Rattle.pp_bundles.specs.Bundles.{PageStacks}
use Rattle.pp_settings.specs.declared.span.Span.{Span}
use Rattle.pp_core.specs.declared.seat.Seat.{Seat}
use Rattle.pp_core.specs.declared.table.Flush.{Flush}
use Rattle.pp_core.specs.declared.table.Table.{Table}

pub record Parts : Type 0 where
  pub layout : Geometry
  pub span : Span
  pub flushes : ℕ
  pub flushes_left : ℕ
  pub plans : List Acceptance
  pub waiting : List ℕ
  pub taken : ℕ
  pub seats : List (Option Seat)
  pub lists : FourLists
  pub marks : PageMap
  pub bundles : PageStacks
  pub in_flight : List Bool
  pub flush : Option Flush
  pub running : ℕ
  pub need : ℕ
  pub budget : ℕ

abbrev pub parts_of : Table → Parts
parts_of t = record {
  layout = t.layout;
  span = t.span;
  flushes = t.flushes;
  flushes_left = t.flushes_left;
  plans = t.plans.items;
  waiting = t.waiting.items;
  taken = t.taken;
  seats = t.seats.items;
  lists = t.directory;
  marks = t.marks;
  bundles = t.bundles;
  in_flight = t.in_flight;
  flush = t.flush;
  running = t.running;
  need = t.need;
  budget = t.budget;
}
