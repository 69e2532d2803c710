use Rattle.std.proofs.Common.{length, rules}
use Rattle.pp_core.proofs.QueryTies.{place_within}
use Rattle.pp_core.proofs.table.Table.gathered.Goals as goal

pub bundle_place-requires : goal.bundle_place-requires
bundle_place-requires c =
    place_within (length c.args.self.now.seats.items) c.args.worker c.args.slot c.requires (search rules) (search rules)
