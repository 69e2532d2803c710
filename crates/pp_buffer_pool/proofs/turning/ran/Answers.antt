use Rattle.std.proofs.Common.{refl, subst}
use Rattle.pp_buffer_pool.specs.declared.ending.Ending.{Ending}
use Rattle.pp_buffer_pool.specs.Running.{LoopStops, noted_calls}
use Rattle.pp_buffer_pool.proofs.turning.ran.Goals as goal

pub returns : goal.returns
returns g c = record {
  first = record c.args.worker { log = c.clear.new.self };
  site = refl;
  empty = c.clear.ensures.items;
  stops =
      subst (λ (e : Ending g.row.W.Denot). LoopStops g.S.Site g.D.Device (noted_calls g.W.Work)
      (record c.args.worker { log = c.clear.new.self }) e c.turns_if_idle-stop.result c.turns_if_idle-stop.new.worker
      c.turns_if_idle-stop.new.work) c.over-ending.ensures c.turns_if_idle-stop.ensures;
}
