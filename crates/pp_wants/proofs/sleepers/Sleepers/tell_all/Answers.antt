use Rattle.std.proofs.Common.{◌≡◌, ◌+◌, ◌≤◌, ◌∙◌, Some, List, length, set, ap, sym, arith}
use Rattle.std.specs.Prelude.{Option}
use Rattle.pp_wants.specs.declared.sleepers.Sleeper.{Sleeper}
use Rattle.pp_wants.specs.Masks.{has_bell}
use Rattle.pp_wants.specs.Sleepers.{told}
use Rattle.pp_wants.proofs.Settling.{settled_as, settled_told, settled_more, settled_all}
use Rattle.pp_wants.proofs.sleepers.Sleepers.tell_all.Goals as goal
use Rattle.pp_wants.proofs.sleepers.Sleepers.tell_all.Goals.{in-Some, in_default}

pub loop-worker-preserved : goal.loop-worker-preserved
loop-worker-preserved c =
    elim c.match-forgotten.branch [
      | in-Some w ↦
          settled_as c.args.vault.now c.args.self.now
          (set c.loop-worker.self c.loop-worker.worker (Some (told w.in-Some.want))) c.match-forgotten.self
          w.with_bell-now_told.result c.match-forgotten.now_told (c.loop-worker.worker + 1)
          (sym w.tell.ensures ∙ sym w.self-is) (sym w.now_told-is)
          (settled_told c.args.vault.now c.args.self.now c.loop-worker.self c.loop-worker.now_told
          w.with_bell-now_told.result c.loop-worker.worker w.in-Some.want c.loop-worker.invariant
          w.in-Some.ensures.untold w.in-Some.ensures.some
          (ap (λ b. has_bell w.with_bell-now_told.result b) (sym w.bell_of-bell.ensures.is)
          ∙ w.with_bell-now_told.ensures.here)
          (λ b away. w.with_bell-now_told.ensures.others b (λ e. away (e ∙ w.bell_of-bell.ensures.is))))
      | in_default w ↦
          settled_as c.args.vault.now c.args.self.now c.loop-worker.self c.match-forgotten.self c.loop-worker.now_told
          c.match-forgotten.now_told (c.loop-worker.worker + 1) (sym w.self-is) (sym w.now_told-is)
          (settled_more c.args.vault.now c.args.self.now c.loop-worker.self c.loop-worker.now_told c.loop-worker.worker
          c.loop-worker.invariant w.in_default.ensures.none)
    ]

pub returns-clause-settled : goal.returns-clause-settled
returns-clause-settled c =
    let same : c.self.inside.places.items ≡ c.args.self.now = cc in
    let all : length c.args.self.now ≤ c.loop-worker.worker =
    omega (arith, ap (λ (xs : List (Option Sleeper)). length xs) same) in
    settled_all c.args.vault.now c.args.self.now c.loop-worker.self c.loop-worker.now_told c.loop-worker.worker
    c.loop-worker.invariant all
