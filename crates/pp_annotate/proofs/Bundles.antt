-- Which slots of a plan are bundles.
use Rattle.std.proofs.Common.{◌≡◌, ℕ, ◌<◌, Bool, true, false, length, refl, sym, ap, subst, ◌∙◌, arith, inl, inr}
use Rattle.std.specs.Prelude.{◌⊎◌, ◌||◌, ◌==◌}
use Rattle.std.proofs.lemmas.Bool.{eqb-true}
use Rattle.pp_settings.specs.Limits.{most_slots}
use Rattle.pp_plan.specs.Tree.{Step, fix, unfix, latch, unlatch, gather, scatter, Statement, step, loop, choice}
use Rattle.pp_plan.specs.Tree.{Sequence, skip, andthen, Alternatives, none, either}
use Rattle.pp_plan.specs.Rules.{IsStep, IsStatement, IsSequence, AreAlternatives, step_uses_bundle, statement_uses_bundle}
use Rattle.pp_plan.specs.Rules.{uses_bundle, branches_use_bundle}
use Rattle.pp_plan.specs.Terms.{Terms, IsPlan}
use Rattle.pp_cert.proofs.SlotKinds.{IsOfKinds, keeps_own_kinds}

either_is : (a b : Bool) → (a || b) ≡ true → (a ≡ true) ⊎ (b ≡ true)
either_is true b h = inl refl
either_is false b h = inr h

module _ (slots regions : ℕ) where
  step_few : (d : Step) (s : ℕ) → IsStep slots regions d → step_uses_bundle d s ≡ true → s < slots
  step_few (fix t r) s is h = absurd (cc)
  step_few (unfix t) s is h = absurd (cc)
  step_few (latch t m) s is h = absurd (cc)
  step_few (unlatch t) s is h = absurd (cc)
  step_few (gather t r) s is h = subst (λ x. x < slots) (eqb-true t s h) is.0
  step_few (scatter t) s is h = subst (λ x. x < slots) (eqb-true t s h) is

  mutual
    statement_few : (d : Statement) (s : ℕ) → IsStatement slots regions d → statement_uses_bundle d s ≡ true → s < slots
    statement_few (step d) s is h = step_few d s is h
    statement_few (loop n b) s is h = sequence_few b s is.3 h
    statement_few (choice bs) s is h = branches_few bs s is.2 h

    pub sequence_few : (b : Sequence) (s : ℕ) → IsSequence slots regions b → uses_bundle b s ≡ true → s < slots
    sequence_few skip s is h = absurd (cc)
    sequence_few (andthen d b) s is h =
        elim (either_is (statement_uses_bundle d s) (uses_bundle b s) h) [
          | inl x ↦ statement_few d s is.0 x
          | inr x ↦ sequence_few b s is.1 x
        ]

    branches_few : (bs : Alternatives) (s : ℕ) → AreAlternatives slots regions bs → branches_use_bundle bs s ≡ true
        → s < slots
    branches_few none s is h = absurd (cc)
    branches_few (either b bs) s is h =
        elim (either_is (uses_bundle b s) (branches_use_bundle bs s) h) [
          | inl x ↦ sequence_few b s is.0 x
          | inr x ↦ branches_few bs s is.1 x
        ]

pub bundles_few : (p : Terms) → IsPlan p → (s : ℕ) → uses_bundle p.body s ≡ true → s < most_slots
bundles_few p plan s h =
    omega (arith, sequence_few (length p.slots) (length p.layout.extents) p.body s plan.body.parts h, plan.count)

pub own_kinds : (p : Terms) → IsPlan p → IsOfKinds (uses_bundle p.body) p.body
own_kinds p plan = keeps_own_kinds (length p.slots) (length p.layout.extents) p.body plan.body.parts plan.unmixed
