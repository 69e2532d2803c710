use Rattle.std.proofs.Common.{arith}
use Rattle.pp_core.proofs.table.Table.gather.Goals as goal

pub bundle_place-requires : goal.bundle_place-requires
bundle_place-requires c = omega (arith, c.requires.record.2, c.from.ensures)
