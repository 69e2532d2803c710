-- What is kept by page and by frame, as lists.
use Rattle.pp_frames.specs.declared.records.Records.TheInside.{Inside}
use Rattle.pp_frames.specs.Arrays.{Arrays}

abbrev pub arrays_of : Inside → Arrays
arrays_of r =
    record {
      stamps = r.stamps.items;
      known = r.known;
      dirty = r.dirty;
      homes = r.homes.items;
      held = r.held.items;
      top = r.top;
    }
