use Rattle.std.proofs.Common.{◌≡◌, [], length, drop}
use Rattle.toml.specs.View.{items_view}
use Rattle.pp_settings.specs.Reading.{regions_from}
use Rattle.pp_settings.proofs.reading.regions_of.Given as goal

abbrev pub invariant-loop-value : goal.invariant-loop-value
invariant-loop-value l = record {
  kept : length l.regions ≡ l.value-index;
  left : regions_from l.version l.regions (items_view (drop l.value-index l.items)) ≡ regions_from l.version [] (items_view l.items);
}
