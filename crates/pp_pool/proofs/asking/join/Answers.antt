use Rattle.pp_pool.proofs.Joining.{fix_gives}
use Rattle.pp_pool.proofs.asking.join.Goals as goal

pub unreachable-requires : goal.unreachable-requires
unreachable-requires c =
    fix_gives c.args.vault.now c.args.session c.args.page c.may_join.result c.may_join.ensures c.fix.new.self
    c.if-not-may_join.false c.known.ensures.holds.kept c.in-Ok.now.0 c.in-Ok.ensures.ok c.in_default.not-Joined
    c.in_default.not-Away
