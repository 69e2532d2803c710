use Rattle.std.proofs.Common.{◌≡◌, ◌++◌, ℕ, List, drop, map}
use Rattle.pp_judge.specs.Passed.{HasPassed}
use Rattle.pp_judge.proofs.segments.audit_segments.Given as goal

abbrev pub invariant-loop-text : goal.invariant-loop-text
invariant-loop-text l =
    (done : List (List ℕ))
    × HasPassed l.files.settings.now (map (λ plan. plan.items) l.files.plans.now) done l.auditor
    × (map (λ file. file.items) l.files.files.now
    ≡ done ++ map (λ file. file.items) (drop l.text-index l.files.files.now))
