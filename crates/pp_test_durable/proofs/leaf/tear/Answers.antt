use Rattle.std.proofs.Common.{◌<◌, length, arith}
use Rattle.std.proofs.lemmas.Option.{slice_get-get_or}
use Rattle.pp_test_durable.proofs.Steps.{torn-none, torn-more}
use Rattle.pp_test_durable.proofs.leaf.tear.Goals as goal

pub loop-place-init : goal.loop-place-init
loop-place-init c = torn-none _ _

pub loop-place-preserved : goal.loop-place-preserved
loop-place-preserved c =
    let below : c.loop-place.place < length c.loop-place.old = omega arith in
    let less : c.loop-place.place < length c.args.new.now = omega arith in
    torn-more c.args.old.now c.args.new.now c.loop-place.old c.loop-place.place _ c.loop-place.invariant below
    (slice_get-get_or c.args.new.now c.loop-place.place 0 less)
