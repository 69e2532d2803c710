use Rattle.std.proofs.Common.{◌≡◌, ◌≤◌, max, drop}
use Rattle.pp_settings.specs.Layout.{end_of}
use Rattle.pp_settings.proofs.layout.Layout.pages.Given as goal

abbrev pub invariant-loop-extent : goal.invariant-loop-extent
invariant-loop-extent l = record {
  left : max l.pages (end_of (drop l.extent-index l.extent-items)) ≡ end_of l.extent-items;
  most : l.pages ≤ 4294967292;
}
