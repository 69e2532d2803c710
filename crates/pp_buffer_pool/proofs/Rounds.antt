-- One round of turns more.
use Rattle.std.proofs.Common.{◌≡◌, ◌++◌, false, List, [], ◌∷◌, refl, subst}
use Rattle.pp_device.specs.declared.device.Device as Device
use Rattle.pp_vault.specs.Stages.{is_chair}
use Rattle.pp_pool.specs.declared.site.Site as Site
use Rattle.pp_pool.specs.declared.turned.Turned.TheVariants.{Done}
use Rattle.pp_pool.specs.declared.work.Work as Work
use Rattle.pp_pool.specs.declared.worker.Worker.{Worker}
use Rattle.pp_pool.specs.Turns.{TurnsBehind}
use Rattle.pp_buffer_pool.specs.Running.{Rounds}

module _ {S D K : Type 0} (s : Site.Ghosts S) (d : Device.Ghosts D) (k : Work.Ghosts K) where
  pub rounds_on : (old : Worker S D) (before : K) (rounds : List (Worker S D × K)) (x : Worker S D) (e : K) (y : Worker S D) (f : K)
      → Rounds s d k old before rounds x e → TurnsBehind s d k x e Done y f → is_chair y.hand.stage ≡ false
      → Rounds s d k old before (rounds ++ (y, f) ∷ []) y f
  rounds_on old before [] x e y f r t busy = (
    subst (λ (a : Worker S D). TurnsBehind s d k a before Done y f) r.0
        (subst (λ (b : K). TurnsBehind s d k x b Done y f) r.1 t),
    busy,
    (refl, refl),
  )
  rounds_on old before (mid ∷ rest) x e y f r t busy = (r.0, r.1, rounds_on mid.0 mid.1 rest x e y f r.2 t busy)
