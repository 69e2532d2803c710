-- What holds of an accepted plan.
use Rattle.std.specs.Prelude.{◌≡◌, ℕ, ◌≤◌, Some, List, [], length, refl}
use Rattle.std.specs.Coded.{Coded, code_by, coded×, coded_ℕ}
use Rattle.pp_plan.specs.Traces.{IsTrace, Begins}
use Rattle.pp_plan.specs.Terms.{Terms, IsPlan, coded_terms}
use Rattle.pp_plan.specs.declared.action.Action.{Action}
use Rattle.pp_cert.specs.Held.{held, pins, IsLegal, IsOrderly}
use Rattle.pp_cert.specs.Walk.{most_steps}

-- A plan, a bound on the pins that it has at once, and a bound on the actions that it makes.
pub record Acceptance : Type 0 where
  pub plan : Terms
  pub peak : ℕ
  pub steps : ℕ

-- Every beginning of every trace is legal and orderly, has at most `peak` pins and has at most `steps` actions;
-- every whole trace holds nothing at its end; the peak is at most the frames, and the steps are at most 1,000,000.
pub record IsAccepted (a : Acceptance) : Type 0 where
  pub plan : IsPlan a.plan
  pub legal : (t : List Action) → Begins a.plan.layout a.plan.body t → IsLegal t
  pub orderly : (t : List Action) → Begins a.plan.layout a.plan.body t → IsOrderly a.plan.layout t
  pub pins : (t : List Action) → Begins a.plan.layout a.plan.body t → pins t ≤ a.peak
  pub steps : (t : List Action) → Begins a.plan.layout a.plan.body t → length t ≤ a.steps
  pub ends : (t : List Action) → IsTrace a.plan.layout a.plan.body t → held t ≡ Some []
  pub peak : a.peak ≤ a.plan.layout.frames
  pub limit : a.steps ≤ most_steps

-- Stored as the parts of its fields.
abbrev pub coded_acceptance : Coded Acceptance
coded_acceptance =
    code_by (Terms × (ℕ × ℕ)) (coded× coded_terms (coded× coded_ℕ coded_ℕ)) (λ a. (a.plan, (a.peak, a.steps)))
    (λ p. record {
      plan =
          p.0;
      peak = p.1.0;
      steps = p.1.1;
    }) (λ _. refl)
