-- Which settings the fields in memory stand for.
use Rattle.std.specs.Prelude.{◌≡◌, length, map, string_bytes}
use Rattle.pp_settings.specs.declared.settings.Settings.TheInside.{Inside}
use Rattle.pp_settings.specs.Settings.{Configuration, IsConfiguration, named}

-- The layout has the frames and the extents, and the names stand beside it.
abbrev pub configured : Inside → Configuration
configured s = record {
  frames = s.layout.frames;
  page_bytes = s.page_bytes;
  workers = s.workers;
  span = s.span;
  flushes = s.flushes;
  regions = named (map string_bytes s.names.items) s.layout.extents;
}

-- There is a name for each extent, and the settings are within their limits.
pub record IsKept (s : Inside) : Type 0 where
  pub beside : length s.names.items ≡ length s.layout.extents
  pub limits : IsConfiguration (configured s)
