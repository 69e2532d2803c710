use Rattle.pp_run.specs.Agreeing.{AllAgree}
use Rattle.pp_run.proofs.comparing.agreement.Given as goal

abbrev pub invariant-loop-place : goal.invariant-loop-place
invariant-loop-place g l = AllAgree l.counts l.worked l.events.items l.place
