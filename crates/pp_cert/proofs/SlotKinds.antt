-- Each step of a plan uses its slot as the plan does: as a bundle or as a plain one.
use Rattle.std.proofs.Common.{◌≡◌, ℕ, ◌≤◌, Bool, true, false, refl, ap, ◌∙◌}
use Rattle.std.specs.Prelude.{◌==◌, ◌||◌}
use Rattle.pp_plan.specs.Tree.{Step, fix, unfix, latch, unlatch, gather, scatter, Statement, step, loop, choice}
use Rattle.pp_plan.specs.Tree.{Sequence, skip, andthen, Alternatives, none, either}
use Rattle.pp_plan.specs.Rules.{IsStatement, IsSequence, AreAlternatives, IsUnmixed, step_uses_bundle, step_uses_plain}
use Rattle.pp_plan.specs.Rules.{statement_uses_bundle, statement_uses_plain, uses_bundle, uses_plain, branches_use_bundle}
use Rattle.pp_plan.specs.Rules.{branches_use_plain}
use Rattle.pp_cert.proofs.Slots.{same_number}

-- A fix is into a plain slot, and a gather and a scatter are of a bundle.
abbrev pub KeepsKinds : (ℕ → Bool) → Step → Type 0
KeepsKinds kind (fix s r) = kind s ≡ false
KeepsKinds kind (unfix s) = Unit {0}
KeepsKinds kind (latch s m) = Unit {0}
KeepsKinds kind (unlatch s) = Unit {0}
KeepsKinds kind (gather s r) = kind s ≡ true
KeepsKinds kind (scatter s) = kind s ≡ true

abbrev mutual
  -- Each step keeps the kinds, and each loop has a turn.
  pub StatementKeeps : (ℕ → Bool) → Statement → Type 0
  StatementKeeps kind (step d) = KeepsKinds kind d
  StatementKeeps kind (loop n b) = (1 ≤ n) × IsOfKinds kind b
  StatementKeeps kind (choice bs) = BranchesKeep kind bs

  pub IsOfKinds : (ℕ → Bool) → Sequence → Type 0
  IsOfKinds kind skip = Unit {0}
  IsOfKinds kind (andthen d b) = StatementKeeps kind d × IsOfKinds kind b

  pub BranchesKeep : (ℕ → Bool) → Alternatives → Type 0
  BranchesKeep kind none = Unit {0}
  BranchesKeep kind (either b bs) = IsOfKinds kind b × BranchesKeep kind bs

pub or_left : (a b : Bool) → a ≡ true → (a || b) ≡ true
or_left a b h = ap (λ x. x || b) h

pub or_right : (a b : Bool) → b ≡ true → (a || b) ≡ true
or_right true b h = refl
or_right false b h = h

-- what is used as a bundle is one, and what is used as a plain slot is none
module _ (kind : ℕ → Bool) (slots regions : ℕ) where
  step_keeps : (d : Step) → ((k : ℕ) → step_uses_bundle d k ≡ true → kind k ≡ true)
      → ((k : ℕ) → step_uses_plain d k ≡ true → kind k ≡ false) → KeepsKinds kind d
  step_keeps (fix s r) b p = p s (same_number s)
  step_keeps (unfix s) b p = tt
  step_keeps (latch s m) b p = tt
  step_keeps (unlatch s) b p = tt
  step_keeps (gather s r) b p = b s (same_number s)
  step_keeps (scatter s) b p = b s (same_number s)

  mutual
    statement_keeps : (d : Statement) → IsStatement slots regions d
        → ((k : ℕ) → statement_uses_bundle d k ≡ true → kind k ≡ true)
        → ((k : ℕ) → statement_uses_plain d k ≡ true → kind k ≡ false) → StatementKeeps kind d
    statement_keeps (step d) is b p = step_keeps d b p
    statement_keeps (loop n x) is b p = (is.0, sequence_keeps x is.3 b p)
    statement_keeps (choice bs) is b p = branches_keep bs is.2 b p

    pub sequence_keeps : (x : Sequence) → IsSequence slots regions x → ((k : ℕ) → uses_bundle x k ≡ true → kind k ≡ true)
        → ((k : ℕ) → uses_plain x k ≡ true → kind k ≡ false) → IsOfKinds kind x
    sequence_keeps skip is b p = tt
    sequence_keeps (andthen d x) is b p = (
      statement_keeps d is.0
          (λ k h. b k (or_left (statement_uses_bundle d k) (uses_bundle x k) h))
          (λ k h. p k (or_left (statement_uses_plain d k) (uses_plain x k) h)),
      sequence_keeps x is.1
          (λ k h. b k (or_right (statement_uses_bundle d k) (uses_bundle x k) h))
          (λ k h. p k (or_right (statement_uses_plain d k) (uses_plain x k) h)),
    )

    branches_keep : (bs : Alternatives) → AreAlternatives slots regions bs
        → ((k : ℕ) → branches_use_bundle bs k ≡ true → kind k ≡ true)
        → ((k : ℕ) → branches_use_plain bs k ≡ true → kind k ≡ false) → BranchesKeep kind bs
    branches_keep none is b p = tt
    branches_keep (either x bs) is b p = (
      sequence_keeps x is.0
          (λ k h. b k (or_left (uses_bundle x k) (branches_use_bundle bs k) h))
          (λ k h. p k (or_left (uses_plain x k) (branches_use_plain bs k) h)),
      branches_keep bs is.1
          (λ k h. b k (or_right (uses_bundle x k) (branches_use_bundle bs k) h))
          (λ k h. p k (or_right (uses_plain x k) (branches_use_plain bs k) h)),
    )

-- Where no slot is a bundle and a plain one, each step of the body keeps the body's kinds.
pub keeps_own_kinds : (slots regions : ℕ) (x : Sequence) → IsSequence slots regions x → IsUnmixed x
    → IsOfKinds (uses_bundle x) x
keeps_own_kinds slots regions x is unmixed = sequence_keeps (uses_bundle x) slots regions x is (λ k h. h) plain
  where
    plain : (k : ℕ) → uses_plain x k ≡ true → uses_bundle x k ≡ false
    plain k h =
        elim (uses_bundle x k) as (λ b. uses_bundle x k ≡ b → b ≡ false) [
          | true ↦ λ e. absurd (let no = unmixed k e in cc (no, h))
          | false ↦ λ e. refl
        ] refl
