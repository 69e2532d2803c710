-- A core in which nothing was done yet.
use Rattle.std.specs.Prelude.{◌*◌, false, None, [], replicate}
use Rattle.pp_settings.specs.Limits.{most_slots}
use Rattle.pp_settings.specs.Layout.{page_count}
use Rattle.pp_settings.specs.Settings.{Configuration, geometry_of}
use Rattle.pp_arc.specs.FourLists.{empty_lists}
use Rattle.pp_frames.specs.Marks.{opening as opening_marks}
use Rattle.pp_bundles.specs.Bundles.{empty_stacks}
use Rattle.pp_model.specs.Pool.{Settings}
use Rattle.pp_core.specs.Parts.{Parts}

-- What a pool keeps of its settings.
abbrev pub kept_of : Configuration → Settings
kept_of c = record { layout = geometry_of c; workers = c.workers; flushes = c.flushes; span = c.span }

-- Every worker idle, no plan, nothing cached, and no flush begun.
abbrev pub opening_parts : Settings → Parts
opening_parts k =
    record {
      layout = k.layout;
      span = k.span;
      flushes = k.flushes;
      flushes_left = k.flushes;
      plans = [];
      waiting = [];
      taken = 0;
      seats = replicate k.workers None;
      lists = empty_lists k.layout.frames (page_count k.layout);
      marks = opening_marks k.layout.frames (page_count k.layout);
      bundles = empty_stacks (most_slots * k.workers) k.layout.frames;
      in_flight = replicate (page_count k.layout) false;
      flush = None;
      running = 0;
      need = 2 * k.flushes;
      budget = 2 * k.flushes;
    }
