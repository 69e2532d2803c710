use Rattle.std.proofs.Common.{length}
use Rattle.pp_vault.specs.declared.stage.Stage.TheVariants.{In}
use Rattle.pp_steps.proofs.AtOnce.{can_see}
use Rattle.pp_steps.proofs.reading.get.Goals as goal

pub unreachable-requires : goal.unreachable-requires
unreachable-requires c =
    can_see c.args.hall.now.value c.begin.new.hall.value (In c.args.session.now) (In c.begin.new.session) c.args.page c.in-Some.guard
    c.in-Some.told c.args.from (length c.args.bytes.now) c.in-Some.ensures.some c.requires
    (c.copied_shared.ensures.why c.if-not-copied_shared.true)
