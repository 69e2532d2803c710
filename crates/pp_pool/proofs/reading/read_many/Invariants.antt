use Rattle.std.proofs.Common.{◌≡◌, IfSome, length}
use Rattle.pp_vault.specs.declared.stage.Stage.TheVariants as stages
use Rattle.pp_pool.specs.declared.turned.Turned.TheVariants.{Done}
use Rattle.pp_pool.specs.Turns.{IsReach}
use Rattle.pp_pool.specs.ShortTurns.{TurnsIfAny}
use Rattle.pp_pool.proofs.reading.read_many.Given as goal

abbrev pub invariant-loop : goal.invariant-loop
invariant-loop g l =
    TurnsIfAny g.S.Site g.W.Work l.layout (length l.fn.seen.items)
    (record { stage = stages.In l.fn.session; places = l.fn.guards; site = l.fn.site; log = l.fn.log; work = l.fn.work }) l.turned
    (record { stage = stages.In l.session; places = l.guards; site = l.site; log = l.log; work = l.work })
    × IfSome l.turned (λ t. t ≡ Done)
    × (l.log.capacity ≡ l.fn.log.capacity)
    × (length l.seen.items ≡ length l.fn.seen.items)
    × IsReach g.W.Work l.reach l.work
