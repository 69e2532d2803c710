-- Which regions and settings the values that are read stand for.
use Rattle.pp_settings.specs.declared.reading.Entry.{Entry}
use Rattle.pp_settings.specs.declared.reading.Draft.{Draft}
use Rattle.pp_settings.specs.Settings.{NamedRegion, Configuration}

-- A region as the text has it, before its name is kept.
abbrev pub entered : Entry → NamedRegion
entered e = record { name = e.name.now; extent = e.extent }

-- What a document gave.
abbrev pub drafted : Draft → Configuration
drafted d = record {
  frames = d.frames;
  page_bytes = d.page_bytes;
  workers = d.workers;
  span = d.span;
  flushes = d.flushes;
  regions = d.regions;
}
