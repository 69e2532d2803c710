use Rattle.std.proofs.Common.{◌<◌, length, arith}
use Rattle.pp_pool.proofs.Bodies.{put_back, changed_falling}
use Rattle.pp_pool.proofs.both.change_falling.Goals as goal

pub returns-clause-changed : goal.returns-clause-changed
returns-clause-changed g c =
    let old = c.args.guards.now in
    let within : c.args.first < length old.items = omega (arith, old.ok.0, c.requires.there) in
    changed_falling g.F.FnOnce c.args.change old.items c.args.second c.args.first c.requires.order c.index_mut-other.result.now
    c.remove-one.result c.change_bodies-answer.result c.change_bodies-answer.new.other c.change_bodies-answer.new.one
    c.put_at.new.guards.items
    (put_back old.items c.remove-one.new.self.items c.args.second c.args.first c.index_mut-other.result.now c.remove-one.result
    c.change_bodies-answer.new.other c.change_bodies-answer.new.one c.put_at.new.guards.items c.requires.order within
    c.remove-one.ensures.items c.remove-one.ensures.value c.index_mut-other.ensures.value c.put_at.ensures.items)
    c.change_bodies-answer.ensures
