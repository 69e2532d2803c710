-- A body raises the bound of a bundle that it nowhere scatters by its growth, where bounds are counted in full.
use Rattle.std.proofs.Common.{◌≡◌, ℕ, zero, suc, ◌+◌, ◌-◌, ◌*◌, ◌<◌, ◌≤◌, Bool, true, false, Some, None, List, [], ◌∷◌, ◌++◌, refl}
use Rattle.std.proofs.Common.{sym, ap, subst, ◌∙◌, arith}
use Rattle.std.specs.Prelude.{◌||◌, ◌==◌, if◌then◌else◌}
use Rattle.std.proofs.lemmas.Bool.{eqb-true}
use Rattle.pp_settings.specs.Limits.{most_slots}
use Rattle.pp_plan.specs.Tree.{Step, fix, unfix, latch, unlatch, gather, scatter, Statement, step, loop, choice}
use Rattle.pp_plan.specs.Tree.{Sequence, skip, andthen, Alternatives, none, either, step_scatters, statement_scatters}
use Rattle.pp_plan.specs.Tree.{scatters, branches_scatter}
use Rattle.pp_cert.specs.declared.note.Held.TheVariants.{Free}
use Rattle.pp_cert.specs.Held.{held_in}
use Rattle.pp_cert.specs.Notes.{Entries, note_pins, bound_at, noted_with, with_bound}
use Rattle.pp_cert.proofs.Pages.{bound_page, bound_without_page, bound_as, bound_without_other}
use Rattle.pp_cert.proofs.Pages.{bound_with_here, bound_with_other}
use Rattle.pp_cert.proofs.SlotKinds.{KeepsKinds, StatementKeeps, IsOfKinds, BranchesKeep}
use Rattle.pp_annotate.specs.Growth.{step_growth, statement_growth, growth, first_growth, rise, risen, first_note}
use Rattle.pp_annotate.specs.Made.{after_statement, after_sequence, statement_notes, sequence_notes}
use Rattle.pp_annotate.specs.Made.{branches_notes, greatest}
use Rattle.pp_annotate.proofs.Pins.{bound_pins}
use Rattle.pp_annotate.proofs.Once.{step_bound}
use Rattle.pp_annotate.proofs.Rises.{first_bundle, first_plain}

pub or_false : (a b : Bool) → (a || b) ≡ false → (a ≡ false) × (b ≡ false)
or_false true b h = absurd (cc)
or_false false b h = (refl, h)

pub times_zero : (m g : ℕ) → g ≡ 0 → m * g ≡ 0
times_zero m g h = ap (λ x. m * x) h ∙ omega arith

-- ---- the greatest of some notes

pub greatest_left : (ms ns : List Entries) → greatest ms ≤ greatest (ms ++ ns)
greatest_left [] ns = omega arith
greatest_left (x ∷ ms) ns = omega (arith, greatest_left ms ns)

pub greatest_right : (ms ns : List Entries) → greatest ns ≤ greatest (ms ++ ns)
greatest_right [] ns = omega arith
greatest_right (x ∷ ms) ns = omega (arith, greatest_right ms ns)

-- ---- steps

pub by_slot : (s t : ℕ) (P : ℕ → Type 0) → P s → ((s == t) ≡ false → P t) → P t
by_slot s t P here other =
    elim (s == t) as (λ b. (s == t) ≡ b → P t) [
      | true ↦ λ e. subst P (eqb-true s t e) here
      | false ↦ other
    ] refl

-- where one more is counted in full, a step is noted so
pub noted_in_full : (stop : ℕ) (s : Step) (n : Entries) → ((t : ℕ) → bound_at n t < stop)
    → noted_with None s n ≡ noted_with (Some stop) s n
noted_in_full stop (fix s r) n low = refl
noted_in_full stop (unfix s) n low = refl
noted_in_full stop (latch s m) n low = refl
noted_in_full stop (unlatch s) n low = refl
noted_in_full stop (gather s r) n low = ap (λ k. with_bound s k n) (omega (arith, low s))
noted_in_full stop (scatter s) n low = refl

pub step_grows : (d : Step) (n : Entries) (t : ℕ) → step_scatters d t ≡ false
    → bound_at (noted_with None d n) t ≡ bound_at n t + step_growth d t
step_grows (fix s r) n t h = omega (arith, bound_page s r Free t n)
step_grows (unfix s) n t h = omega (arith, bound_without_page s t n)
step_grows (latch s m) n t h = omega (arith, bound_as (held_in m) s t n)
step_grows (unlatch s) n t h = omega (arith, bound_as Free s t n)
step_grows (gather s r) n t h =
    let k : ℕ = bound_at n s + 1 in
    elim (s == t) as (λ b. (s == t) ≡ b → bound_at (with_bound s k n) t ≡ bound_at n t + (if b then 1 else 0)) [
      | true ↦ λ e.
          subst (λ x. bound_at (with_bound s k n) x ≡ bound_at n x + 1) (eqb-true s t e) (bound_with_here s k n)
      | false ↦ λ e. omega (arith, bound_with_other s k t n e)
    ] refl
step_grows (scatter s) n t h = omega (arith, bound_without_other s t n h)

-- ---- bounds that are counted in full

in_full : (stop b r : ℕ) → risen stop b r < stop → risen stop b r ≡ b + r
in_full stop b r h = omega (arith, h)

pub turn_more : (n b g : ℕ) → 1 ≤ n → b + (n - 1) * g + g ≡ b + n * g
turn_more zero b g h = absurd (omega (arith, h))
turn_more (suc m) b g h =
    let p : suc m - 1 ≡ m = omega arith in
    let t : suc m * g ≡ g + m * g = omega arith in
    ap (λ x. b + x * g + g) p ∙ omega (arith, t)

module _ (kind : ℕ → Bool) where
  -- ---- a plain slot

  apart : (s t : ℕ) → kind s ≡ true → kind t ≡ false → (s == t) ≡ false
  apart s t h k =
      elim (s == t) as (λ b. (s == t) ≡ b → b ≡ false) [
        | true ↦ λ e. absurd (let x : kind s ≡ kind t = ap kind (eqb-true s t e) in cc (x, h, k))
        | false ↦ λ e. refl
      ] refl

  plain_step : (d : Step) (t : ℕ) → kind t ≡ false → KeepsKinds kind d
      → (step_scatters d t ≡ false) × (step_growth d t ≡ 0)
  plain_step (fix s r) t h k = (refl, refl)
  plain_step (unfix s) t h k = (refl, refl)
  plain_step (latch s m) t h k = (refl, refl)
  plain_step (unlatch s) t h k = (refl, refl)
  plain_step (gather s r) t h k = (refl, ap (λ b. if b then 1 else 0) (apart s t k h))
  plain_step (scatter s) t h k = (apart s t k h, refl)

  mutual
    pub plain_statement : (d : Statement) (t : ℕ) → kind t ≡ false → StatementKeeps kind d
        → (statement_scatters d t ≡ false) × (statement_growth d t ≡ 0)
    plain_statement (step d) t h k = plain_step d t h k
    plain_statement (loop n b) t h k = let p = plain_sequence b t h k.1 in (p.0, times_zero n (growth b t) p.1)
    plain_statement (choice bs) t h k = plain_branches bs t h k

    -- It is neither scattered nor gathered into.
    pub plain_sequence : (b : Sequence) (t : ℕ) → kind t ≡ false → IsOfKinds kind b
        → (scatters b t ≡ false) × (growth b t ≡ 0)
    plain_sequence skip t h k = (refl, refl)
    plain_sequence (andthen d b) t h k =
        let p = plain_statement d t h k.0 in
        let q = plain_sequence b t h k.1 in
        (ap (λ x. x || scatters b t) p.0 ∙ q.0, omega (arith, p.1, q.1))

    plain_branches : (bs : Alternatives) (t : ℕ) → kind t ≡ false → BranchesKeep kind bs
        → (branches_scatter bs t ≡ false) × (first_growth bs t ≡ 0)
    plain_branches none t h k = (refl, refl)
    plain_branches (either b bs) t h k =
        let p = plain_sequence b t h k.0 in
        let q = plain_branches bs t h k.1 in
        (ap (λ x. x || branches_scatter bs t) p.0 ∙ q.0, p.1)

  module _ (stop : ℕ) (few : (s : ℕ) → kind s ≡ true → s < most_slots) where
    -- The bound at the first place of a loop's body, where it is counted in full.
    pub first_is : (turns : ℕ) (b : Sequence) (n : Entries) (t : ℕ) → IsOfKinds kind b → scatters b t ≡ false
        → bound_at (first_note stop kind turns b n) t < stop
        → bound_at (first_note stop kind turns b n) t ≡ bound_at n t + (turns - 1) * growth b t
    first_is turns b n t is still small =
        elim (kind t) as (λ x. kind t ≡ x
        → bound_at (first_note stop kind turns b n) t ≡ bound_at n t + (turns - 1) * growth b t) [
          | true ↦ λ k.
              let e = first_bundle stop kind turns b n t (few t k) k in
              let by : rise turns b t ≡ (turns - 1) * growth b t =
              ap (λ x. if x then 0 else (turns - 1) * growth b t) still in
              e ∙ in_full stop (bound_at n t) (rise turns b t) (omega (arith, e, small)) ∙ ap (λ x. bound_at n t + x) by
          | false ↦ λ k.
              let none = times_zero (turns - 1) (growth b t) (plain_sequence b t k is).1 in
              first_plain stop kind turns b n t k ∙ omega (arith, none)
        ] refl

    mutual
      statement_grows : (d : Statement) (n : Entries) (t : ℕ) → StatementKeeps kind d → statement_scatters d t ≡ false
          → note_pins n < stop → greatest (statement_notes stop kind d n) < stop
          → bound_at (after_statement stop kind d n) t ≡ bound_at n t + statement_growth d t
      statement_grows (step d) n t is still small h =
          step_bound stop d n t
          ∙ ap (λ x. bound_at x t) (sym (noted_in_full stop d n (λ x. omega (arith, bound_pins x n, small))))
          ∙ step_grows d n t still
      statement_grows (loop turns b) n t is still small h =
          let first : Entries = first_note stop kind turns b n in
          let first_small : note_pins first < stop = omega (arith, h) in
          let e = first_is turns b n t is.1 still (omega (arith, bound_pins t first, first_small)) in
          sequence_grows b first t is.1 still first_small (omega (arith, h))
          ∙ ap (λ x. x + growth b t) e
          ∙ turn_more turns (bound_at n t) (growth b t) is.0
      statement_grows (choice none) n t is still small h = omega arith
      statement_grows (choice (either b bs)) n t is still small h =
          sequence_grows b n t is.0 (or_false (scatters b t) (branches_scatter bs t) still).0 small
          (omega (arith, greatest_left (n ∷ sequence_notes stop kind b n) (branches_notes stop kind bs n), h))

      pub sequence_grows : (b : Sequence) (n : Entries) (t : ℕ) → IsOfKinds kind b → scatters b t ≡ false
          → note_pins n < stop → greatest (sequence_notes stop kind b n) < stop
          → bound_at (after_sequence stop kind b n) t ≡ bound_at n t + growth b t
      sequence_grows skip n t is still small h = omega arith
      sequence_grows (andthen d b) n t is still small h =
          let m : Entries = after_statement stop kind d n in
          let front : List Entries = statement_notes stop kind d n in
          let back : List Entries = m ∷ sequence_notes stop kind b m in
          let not = or_false (statement_scatters d t) (scatters b t) still in
          let right = greatest_right front back in
          omega (
            arith,
            statement_grows d n t is.0 not.0 small (omega (arith, greatest_left front back, h)),
            sequence_grows b m t is.1 not.1 (omega (arith, right, h)) (omega (arith, right, h)),
          )
