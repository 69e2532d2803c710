use Rattle.pp_pool.proofs.Joining.{answer_gives}
use Rattle.pp_pool.proofs.asking.answer_join.Goals as goal

pub unreachable-requires : goal.unreachable-requires
unreachable-requires c =
    answer_gives c.args.vault.now c.args.returned c.may_answer_join.result c.may_answer_join.ensures c.answer.new.self
    c.if-not-may_answer_join.false c.known.ensures.holds.kept c.in-Ok.now.0 c.in-Ok.ensures.ok c.in_default.not-Joined
    c.in_default.not-Away c.in_default.not-Lost
