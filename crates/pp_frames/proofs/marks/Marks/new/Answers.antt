-- What the check leaves to show of Marks::new.
use Rattle.std.proofs.Common.{◌≡◌, ◌<◌, ◌^◌, sym, subst, refl, arith}
use Rattle.pp_frames.specs.Kept.{Parts, IsKept}
use Rattle.pp_frames.proofs.Opening.{opened, kept_opened}
use Rattle.pp_frames.proofs.marks.Marks.new.Goals as goal

pub invariant_of-result : goal.invariant_of-result
invariant_of-result c =
    let parts : Parts =
    record {
      marks = c.in_ok-new.field-0;
      pins = 0;
      dirty = 0;
      free = c.in_ok-full.field-0;
      flushable = c.in_ok-new-2.field-0;
    } in
    let same : parts ≡ opened c.args.frames c.args.pages =
    rw (c.in_ok-new.ensures, c.in_ok-full.ensures, c.in_ok-new-2.ensures) refl in
    let few : c.args.frames < 2 ^ 32 = omega (arith, c.ranges.frames) in
    let few_pages : c.args.pages < 2 ^ 32 = omega (arith, c.ranges.pages) in
    subst IsKept (sym same) (kept_opened c.args.frames c.args.pages few few_pages)

pub returns-clause-sound : goal.returns-clause-sound
returns-clause-sound c =
    let parts : Parts =
    record {
      marks = c.in_ok-new.field-0;
      pins = 0;
      dirty = 0;
      free = c.in_ok-full.field-0;
      flushable = c.in_ok-new-2.field-0;
    } in
    let same : parts ≡ opened c.args.frames c.args.pages =
    rw (c.in_ok-new.ensures, c.in_ok-full.ensures, c.in_ok-new-2.ensures) refl in
    let few : c.args.frames < 2 ^ 32 = omega (arith, c.ranges.frames) in
    let few_pages : c.args.pages < 2 ^ 32 = omega (arith, c.ranges.pages) in
    let kept : IsKept parts = subst IsKept (sym same) (kept_opened c.args.frames c.args.pages few few_pages) in
    kept.sound
