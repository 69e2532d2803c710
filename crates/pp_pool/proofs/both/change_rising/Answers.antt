use Rattle.std.proofs.Common.{◌<◌, length, arith}
use Rattle.pp_pool.proofs.Bodies.{put_back, changed_rising}
use Rattle.pp_pool.proofs.both.change_rising.Goals as goal

pub returns-clause-changed : goal.returns-clause-changed
returns-clause-changed g c =
    let old = c.args.guards.now in
    let within : c.args.second < length old.items = omega (arith, old.ok.0, c.requires.there) in
    changed_rising g.F.FnOnce c.args.change old.items c.args.first c.args.second c.requires.order c.index_mut-one.result.now
    c.remove-other.result c.change_bodies-answer.result c.change_bodies-answer.new.one c.change_bodies-answer.new.other
    c.put_at.new.guards.items
    (put_back old.items c.remove-other.new.self.items c.args.first c.args.second c.index_mut-one.result.now c.remove-other.result
    c.change_bodies-answer.new.one c.change_bodies-answer.new.other c.put_at.new.guards.items c.requires.order within
    c.remove-other.ensures.items c.remove-other.ensures.value c.index_mut-one.ensures.value c.put_at.ensures.items)
    c.change_bodies-answer.ensures
