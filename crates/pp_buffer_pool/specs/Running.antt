-- What a worker's turns come to while it runs one plan.
use Rattle.std.specs.Prelude.{◌≡◌, ◌⊎◌, true, false, List, [], ◌∷◌, length, Option, None, Some}
use Rattle.pp_device.specs.declared.device.Device as Device
use Rattle.pp_vault.specs.Stages.{is_chair}
use Rattle.pp_pool.specs.declared.site.Site as Site
use Rattle.pp_pool.specs.declared.turned.Turned.{Turned}
use Rattle.pp_pool.specs.declared.turned.Turned.TheVariants as turned
use Rattle.pp_pool.specs.declared.work.Work as Work
use Rattle.pp_pool.specs.declared.work.End.{End}
use Rattle.pp_pool.specs.declared.worker.Worker.{Worker}
use Rattle.pp_pool.specs.Turns.{TurnsBehind}
use Rattle.pp_buffer_pool.specs.declared.ending.Ending.{Ending}
use Rattle.pp_buffer_pool.specs.declared.turning.Stop.{Stop}
use Rattle.pp_buffer_pool.specs.declared.turning.Stop.TheVariants.{Ended, NoMemory, Broken}

-- What the calls of a work with a note say: what the work's own say, and that the note stays, but for that of the
-- plan's end.
abbrev pub noted_calls : {W : Type 0} → Work.Ghosts W → Work.Ghosts (Ending W)
noted_calls own = record {
  page_gives = λ e region first count page f. own.page_gives e.work region first count page f.work × (f.end ≡ e.end);
  branch_gives = λ e count branch f. own.branch_gives e.work count branch f.work × (f.end ≡ e.end);
  reach_gives = λ e bytes. own.reach_gives e.work bytes;
  change_leaves = λ e page before left f. own.change_leaves e.work page before left f.work × (f.end ≡ e.end);
  see_leaves = λ e page mark image f. own.see_leaves e.work page mark image f.work × (f.end ≡ e.end);
  page_into_gives = λ e slot kind region first count page f.
      own.page_into_gives e.work slot kind region first count page f.work × (f.end ≡ e.end);
  begins_leaves = λ e plan f. (own.begins_leaves e.work plan f.work ⊎ (f.work ≡ e.work)) × (f.end ≡ e.end);
  ended_leaves = λ e how f. (f.work ≡ e.work) × (f.end ≡ Some how);
  wants_rework_gives = λ wanted. own.wants_rework_gives wanted;
  rework_leaves = λ e off before left f. own.rework_leaves e.work off before left f.work × (f.end ≡ e.end);
}

-- Rounds of turns that were done follow one another, and after each the worker is busy.
abbrev pub Rounds : {S D K : Type 0} → Site.Ghosts S → Device.Ghosts D → Work.Ghosts K → (old : Worker S D)
    → (before : K) → List (Worker S D × K) → (new : Worker S D) → (left : K) → Type 0
Rounds s d k old before [] new left = (new ≡ old) × (left ≡ before)
Rounds s d k old before (mid ∷ rest) new left =
    TurnsBehind s d k old before turned.Done mid.0 mid.1 × (is_chair mid.0.hand.stage ≡ false)
    × Rounds s d k mid.0 mid.1 rest new left

-- From an idle worker on there were rounds, and a last one, whose last turn ends so.
pub record Looped {S D K : Type 0} (s : Site.Ghosts S) (d : Device.Ghosts D) (k : Work.Ghosts K) (old : Worker S D)
    (before : K) (ends : Turned) (new : Worker S D) (left : K) : Type 0 where
  pub idle : is_chair old.hand.stage ≡ true
  pub worker : Worker S D
  pub work : K
  pub rounds : List (Worker S D × K)
  pub led : Rounds s d k old before rounds worker work
  pub last : TurnsBehind s d k worker work ends new left

-- The plan has ended: the worker is idle after a turn that was done. Or memory ran out, with an empty log. A slip
-- promises nothing.
abbrev pub LoopStops : {S D K : Type 0} → Site.Ghosts S → Device.Ghosts D → Work.Ghosts K → (old : Worker S D)
    → (before : K) → Stop → (new : Worker S D) → (left : K) → Type 0
LoopStops s d k old before Ended new left =
    Looped s d k old before turned.Done new left × (is_chair new.hand.stage ≡ true)
LoopStops s d k old before NoMemory new left =
    Looped s d k old before turned.NoMemory new left × (length new.log.items ≡ 0)
LoopStops s d k old before Broken new left = Unit {0}

-- The same from a worker whose log was cleared first, of a work that is given a note, and of what is noted.
pub record Runs {S D W : Type 0} (s : Site.Ghosts S) (d : Device.Ghosts D) (own : Work.Ghosts W) (given : Worker S D)
    (before : W) (stop : Stop) (how : Option End) (new : Worker S D) (left : W) : Type 0 where
  pub first : Worker S D
  pub site : first.site ≡ given.site
  pub empty : first.log.items ≡ []
  pub stops : LoopStops s d (noted_calls own) first (record { work = before; end = None }) stop new
      (record { work = left; end = how })
