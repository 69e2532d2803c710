use Rattle.std.proofs.Common.{◌≡◌, ◌≤◌, ◌+◌}
use Rattle.pp_core.specs.Draining.{host_of}
use Rattle.pp_core.specs.StandsFor.{IsKept}
use Rattle.pp_core.proofs.DrainRuns.{Leads}
use Rattle.pp_core.proofs.machine.Core.drain.Given as goal

abbrev pub invariant-loop-turn : goal.invariant-loop-turn
invariant-loop-turn g l =
    let d = g.D.Decide in
    record {
      kept : IsKept l.self;
      spent : l.count + l.self.budget ≤ l.fn.self.budget;
      leads : Leads (host_of d.picks d.chooses d.reads d.writes d.flushes) l.fn.self l.fn.decide l.self l.count
          l.decide;
      plans : l.self.plans ≡ l.fn.self.plans;
    }

abbrev pub decreases-loop-turn : goal.decreases-loop-turn
decreases-loop-turn g l = l.self.budget
