use Rattle.std.proofs.Common.{◌≡◌}
use Rattle.pp_run.proofs.site.LockedSite.perform_under.Given as goal

abbrev pub invariant-loop : goal.invariant-loop
invariant-loop g l = l.request ≡ l.fn.request
