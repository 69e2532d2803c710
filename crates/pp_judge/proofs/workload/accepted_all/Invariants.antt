use Rattle.std.proofs.Common.{◌≡◌, drop, map}
use Rattle.pp_judge.specs.Judgement.{accepted_all}
use Rattle.pp_judge.proofs.Staged.{behind}
use Rattle.pp_judge.proofs.workload.accepted_all.Given as goal

abbrev pub invariant-loop-bytes : goal.invariant-loop-bytes
invariant-loop-bytes l =
    accepted_all l.settings (map (λ plan. plan.items) l.files)
    ≡ behind l.plans.items (accepted_all l.settings (map (λ plan. plan.items) (drop l.bytes-index l.files)))
