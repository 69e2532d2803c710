use Rattle.std.proofs.Common.{rules, ◌∙◌}
use Rattle.pp_hall.proofs.Keeping.{opened}
use Rattle.pp_hall.proofs.seating.Seating.new.Goals as goal

pub invariant_of-seating : goal.invariant_of-seating
invariant_of-seating c =
    opened c.args.settings.now c.in-Ok.vault c.from-frames.result c.in_ok-peaks.peaks.items c.none.result
    c.in-Ok.ensures.opens c.requires (search rules) (search rules)
