-- What the check leaves to show of Records::new.
use Rattle.std.proofs.Common.{◌≡◌, ◌∙◌, refl, ap}
use Rattle.pp_frames.specs.Arrays.{Arrays, map_of}
use Rattle.pp_frames.proofs.Tables.{at_first, map_first}
use Rattle.pp_frames.proofs.records.Records.new.Goals as goal

pub returns : goal.returns
returns c =
    let a : Arrays =
    record {
      stamps = c.in_ok-no_stamps.field-0.items;
      known = c.in_ok-new.field-0;
      dirty = c.in_ok-new-2.field-0;
      homes = c.in_ok-no_homes.field-0.items;
      held = c.in_ok-frames_at_rest.field-0.items;
      top = 0;
    } in
    let same : a ≡ at_first c.args.frames c.args.pages =
    rw (
      c.in_ok-no_stamps.ensures,
      c.in_ok-new.ensures,
      c.in_ok-new-2.ensures,
      c.in_ok-no_homes.ensures,
      c.in_ok-frames_at_rest.ensures,
    ) refl in
    ap map_of same ∙ map_first c.args.frames c.args.pages
