-- One turn of one that runs, or of the flusher.
use Rattle.std.specs.Prelude.{◌≡◌, ℕ, [], Option, None, Some, if◌then◌else◌}
use Rattle.pp_vault.specs.Stages.{is_chair, stage_worker}
use Rattle.pp_pool.specs.declared.turned.Turned.{Turned}
use Rattle.pp_pool.specs.declared.work.End.{End}
use Rattle.pp_pool.specs.declared.worker.Worker.{Worker}
use Rattle.pp_pool.specs.declared.flusher.Flusher.{Flusher}
use Rattle.pp_pool.specs.Turns.{TurnIs}
use Rattle.pp_pool.specs.FlushTurns.{FlushTurnIs}
use Rattle.pp_hall.specs.declared.told.Told.{Told}
use Rattle.pp_hall.specs.Halls as halls
use Rattle.pp_steps.specs.declared.named.Named.{Named}
use Rattle.pp_steps.specs.declared.plans.KeptPlan.{KeptPlan}
use Rattle.pp_steps.specs.declared.seated.Seated.{Seated}
use Rattle.pp_steps.specs.Devices as devices
use Rattle.pp_steps.specs.Devices.{host_device, HostReads, HostWrites}
use Rattle.pp_steps.specs.Sites as sites
use Rattle.pp_steps.specs.Sites.{step_site, StepGives, nobody_told, SameOut}
use Rattle.pp_steps.specs.Works.{named_calls, naming}

-- A site that is lent this hall, with this plan to take.
abbrev pub lent : halls.Parts → Option KeptPlan → sites.Parts
lent h plan = record { hall = Some h; plan = plan; told = nobody_told }

-- The one that runs is lent the hall. Before it takes its plan its log is emptied.
pub record Begins (seated : Seated) (h : halls.Parts) (first : Worker sites.Parts devices.Parts) : Type 0 where
  pub rest : first ≡ record seated.worker { site = lent h (Some seated.plan); log = first.log }
  pub log : first.log.items ≡ (if is_chair seated.worker.hand.stage then [] else seated.worker.log.items)

-- It makes one turn over the hall, with the work that names this number: by this the hall is another, has told these, and the plan has
-- ended so, if it has.
pub record TurnsOver (seated : Seated) (h : halls.Parts) (argument : ℕ) (turned : Turned) (end : Option End) (told : Told)
    (h' : halls.Parts) (seated' : Seated) : Type 0 where
  pub first : Worker sites.Parts devices.Parts
  pub begins : Begins seated h first
  pub last : Worker sites.Parts devices.Parts
  pub work : Named
  pub turn : TurnIs step_site host_device named_calls first (naming argument) turned last work
  pub hall : last.site.hall ≡ Some h'
  pub told_is : last.site.told ≡ told
  pub end_is : work.end ≡ end
  pub rest : seated' ≡ record seated { worker = record last { site = seated'.worker.site } }

-- It is at rest, in this chair: its site has no hall, and has told nobody.
pub record IsAtRest (chair : ℕ) (seated : Seated) : Type 0 where
  pub hall : seated.worker.site.hall ≡ None
  pub told : seated.worker.site.told ≡ nobody_told
  pub own : stage_worker seated.worker.hand.stage ≡ Some chair

-- The flusher is at rest.
pub record RestsFlusher (f : Flusher sites.Parts devices.Parts) : Type 0 where
  pub hall : f.site.hall ≡ None
  pub told : f.site.told ≡ nobody_told

-- The same flusher, but for where it asks.
pub record SameFlusher (f g : Flusher sites.Parts devices.Parts) : Type 0 where
  pub device : g.device ≡ f.device
  pub flushing : g.flushing ≡ f.flushing
  pub ended : g.ended ≡ f.ended
  pub failed : g.failed ≡ f.failed
  pub from : g.from ≡ f.from

-- The flusher makes one turn over the hall, which it is lent: by this the hall is another, and has told these.
pub record FlushesOver (f : Flusher sites.Parts devices.Parts) (h : halls.Parts) (turned : Turned) (told : Told)
    (h' : halls.Parts) (f' : Flusher sites.Parts devices.Parts) : Type 0 where
  pub first : Flusher sites.Parts devices.Parts
  pub begins : SameFlusher f first
  pub lent_is : first.site ≡ lent h None
  pub last : Flusher sites.Parts devices.Parts
  pub turn : FlushTurnIs StepGives HostReads HostWrites (λ d. d.calls) (λ d. d.failures) first turned last
  pub hall : last.site.hall ≡ Some h'
  pub told_is : last.site.told ≡ told
  pub rest : SameFlusher last f'
