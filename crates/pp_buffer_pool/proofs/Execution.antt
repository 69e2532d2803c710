-- What one call of `execute` comes to, by what its run of turns says.
use Rattle.std.proofs.Common.{◌≡◌, ◌∙◌, ℕ, Option, Some, None, refl, subst}
use Rattle.pp_device.specs.declared.device.Device as Device
use Rattle.pp_pool.specs.declared.work.Work as Work
use Rattle.pp_pool.specs.declared.work.End.{End}
use Rattle.pp_pool.specs.declared.worker.Worker.{Worker}
use Rattle.pp_pool.specs.Turns.{IsToldEnd}
use Rattle.pp_buffer_pool.specs.declared.outcome.Outcome.{Outcome}
use Rattle.pp_buffer_pool.specs.declared.turning.Stop.{Stop}
use Rattle.pp_buffer_pool.specs.declared.turning.Stop.TheVariants.{Ended, NoMemory}
use Rattle.pp_buffer_pool.specs.Sites.{call_site}
use Rattle.pp_buffer_pool.specs.Running.{Runs}
use Rattle.pp_buffer_pool.specs.Executing.{RunsPlan, RunsOnSome, Executes, outcome_as}
use Rattle.pp_buffer_pool.proofs.Within.{runs_plan, out_of_memory}

module _ {D W : Type 0} (d : Device.Ghosts D) (own : Work.Ghosts W) (place : ℕ) (given : Worker (Option ℕ) D) (before : W)
    (has : given.site ≡ Some place) (new : Worker (Option ℕ) D) (left : W) where
  ran_plan : (how : End) (r : Runs call_site d own given before Ended (Some how) new left)
      → RunsPlan d own place r.first before how new left
  ran_plan how r =
      runs_plan d own r.first (record { work = before; end = None }) r.stops.0.idle r.empty refl place (r.site ∙ has) new
      (record { work = left; end = Some how }) r.stops.0 r.stops.1

  runs_at : (how : End) → Runs call_site d own given before Ended (Some how) new left → RunsOnSome d own place before how left
  runs_at how r = record { first = r.first; last = new; runs = ran_plan how r }

  -- The plan was run to an end that was noted.
  pub runs_on_some : (stop : Stop) (known : Option End) (how : End) → Runs call_site d own given before stop known new left
      → stop ≡ Ended → known ≡ Some how → RunsOnSome d own place before how left
  runs_on_some stop known how r ended is =
      runs_at how
      (subst (λ t. Runs call_site d own given before t (Some how) new left) ended
      (subst (λ o. Runs call_site d own given before stop o new left) is r))

  -- Memory ran out before the plan was taken: the work is as it was.
  pub untouched : (stop : Stop) (known : Option End) → Runs call_site d own given before stop known new left
      → stop ≡ NoMemory → left ≡ before
  untouched stop known r is =
      let q = subst (λ t. Runs call_site d own given before t known new left) is r in
      out_of_memory d own q.first (record { work = before; end = None }) q.stops.0.idle q.empty refl new
      (record { work = left; end = known }) q.stops.0 q.stops.1

-- The plan was run, and then the work was told how it ended.
pub executes : {D W : Type 0} (d : Device.Ghosts D) (own : Work.Ghosts W) (place : ℕ) (before : W) (how : End) (left after : W)
    (out : Outcome) → RunsOnSome d own place before how left → IsToldEnd own left how after → out ≡ outcome_as how
    → Executes d own place before out after
executes d own place before how left after out r told is = record {
  how = how;
  out_is = is;
  first = r.first;
  last = r.last;
  left = left;
  runs = r.runs;
  told = told;
}
