use Rattle.std.specs.List.{AllWithin}
use Rattle.pp_cert.specs.Accepted.{IsAccepted}
use Rattle.pp_report.proofs.lives.are_accepted.Given as goal

abbrev pub invariant-loop-plan : goal.invariant-loop-plan
invariant-loop-plan l = AllWithin IsAccepted l.plans 0 l.plan-index
