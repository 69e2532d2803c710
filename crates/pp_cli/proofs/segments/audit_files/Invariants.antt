use Rattle.std.proofs.Common.{◌≡◌, [], ℕ, List, length}
use Rattle.pp_judge.specs.Passed.{HasPassed}
use Rattle.pp_cli.proofs.segments.audit_files.Given as goal

abbrev pub invariant-loop-path : goal.invariant-loop-path
invariant-loop-path g l =
    (bytes : List ℕ) (plans : List (List ℕ)) → HasPassed bytes plans [] l.fn.auditor
    → (done : List (List ℕ)) × HasPassed bytes plans done l.auditor × (length done ≡ l.path-index)
