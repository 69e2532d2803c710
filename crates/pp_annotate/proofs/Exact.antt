-- The bounds of bundles as they are where nothing ends the counting. A certificate whose tests pass has them, each loop's and
-- each choice's from what it notes before it; what is made has them as far as counting goes.
use Rattle.std.proofs.Common.{◌≡◌, ℕ, zero, suc, ◌+◌, ◌-◌, ◌*◌, ◌<◌, ◌≤◌, min, Bool, true, false, Some, None, List, [], ◌∷◌, ◌++◌}
use Rattle.std.proofs.Common.{refl, ap, subst, ◌∙◌, arith}
use Rattle.std.specs.Prelude.{◌==◌, if◌then◌else◌}
use Rattle.std.proofs.lemmas.Bool.{eqb-true}
use Rattle.pp_settings.specs.Layout.{Geometry}
use Rattle.pp_settings.specs.Limits.{most_slots}
use Rattle.pp_plan.specs.Tree.{Step, fix, unfix, latch, unlatch, gather, scatter, Statement, step, loop, choice}
use Rattle.pp_plan.specs.Tree.{Sequence, skip, andthen, Alternatives, none, either, step_scatters, statement_scatters}
use Rattle.pp_plan.specs.Tree.{scatters, branches_scatter}
use Rattle.pp_cert.specs.declared.note.Held.TheVariants.{Free}
use Rattle.pp_cert.specs.Held.{held_in}
use Rattle.pp_cert.specs.Notes.{Entries, bound_at, one_more, noted_with, with_bound, without_bundle}
use Rattle.pp_cert.specs.Walk.{Claims, note_at, same, expected_note, outcome, loop_keeps, loop_grows, Test}
use Rattle.pp_cert.specs.Walk.{first_fault, turn_tests, note_tests, statement_tests, sequence_tests, later_tests}
use Rattle.pp_cert.specs.Walk.{statement_end, sequence_end}
use Rattle.pp_cert.proofs.Pages.{bound_page, bound_without_page, bound_as, bound_without_here, bound_without_other}
use Rattle.pp_cert.proofs.Pages.{bound_with_here, bound_with_other}
use Rattle.pp_cert.proofs.Passing.{first_passes, both_pass, note_passes, turn_passes, loop_fits, TurnsFit}
use Rattle.pp_cert.proofs.SlotKinds.{StatementKeeps, IsOfKinds}
use Rattle.pp_annotate.specs.Growth.{step_growth, statement_growth, growth, rise, risen, first_note}
use Rattle.pp_annotate.specs.Growth.{step_gathers, statement_gathers, sequence_gathers}
use Rattle.pp_annotate.specs.Made.{after_statement, after_sequence}
use Rattle.pp_annotate.proofs.Once.{step_bound}
use Rattle.pp_annotate.proofs.Rises.{first_bundle, first_plain}
use Rattle.pp_annotate.proofs.Grows.{or_false, times_zero, turn_more, plain_statement, plain_sequence}

-- ---- bounds without a limit

abbrev pub step_to : Step → ℕ → ℕ → ℕ
step_to (fix s r) t y = y
step_to (unfix s) t y = y
step_to (latch s m) t y = y
step_to (unlatch s) t y = y
step_to (gather s r) t y = if s == t then y + 1 else y
step_to (scatter s) t y = if s == t then 0 else y

abbrev mutual
  -- The bound of the bundle t after a part of a plan, where it is y before it.
  pub statement_to : Statement → ℕ → ℕ → ℕ
  statement_to (step s) t y = step_to s t y
  statement_to (loop n b) t y = sequence_to b t (y + rise n b t)
  statement_to (choice bs) t y = first_to bs t y

  pub sequence_to : Sequence → ℕ → ℕ → ℕ
  sequence_to skip t y = y
  sequence_to (andthen s b) t y = sequence_to b t (statement_to s t y)

  pub first_to : Alternatives → ℕ → ℕ → ℕ
  first_to none t y = y
  first_to (either b bs) t y = sequence_to b t y

-- ---- of a bundle that isn't scattered

step_still : (d : Step) (t y : ℕ) → step_scatters d t ≡ false → step_to d t y ≡ y + step_growth d t
step_still (fix s r) t y h = omega arith
step_still (unfix s) t y h = omega arith
step_still (latch s m) t y h = omega arith
step_still (unlatch s) t y h = omega arith
step_still (gather s r) t y h =
    elim (s == t) as (λ b. (if b then y + 1 else y) ≡ y + (if b then 1 else 0)) [
      | true ↦ omega arith
      | false ↦ omega arith
    ]
step_still (scatter s) t y h = ap (λ b. if b then 0 else y) h ∙ omega arith

two_parts : (y a b : ℕ) → y + a + b ≡ y + (a + b)
two_parts y a b = omega arith

pub rise_still : (n : ℕ) (b : Sequence) (t : ℕ) → scatters b t ≡ false → rise n b t ≡ (n - 1) * growth b t
rise_still n b t h = ap (λ x. if x then 0 else (n - 1) * growth b t) h

pub rise_scattered : (n : ℕ) (b : Sequence) (t : ℕ) → scatters b t ≡ true → rise n b t ≡ 0
rise_scattered n b t h = ap (λ x. if x then 0 else (n - 1) * growth b t) h

module _ (kind : ℕ → Bool) where
  mutual
    statement_still : (d : Statement) (t y : ℕ) → StatementKeeps kind d → statement_scatters d t ≡ false
        → statement_to d t y ≡ y + statement_growth d t
    statement_still (step d) t y is h = step_still d t y h
    statement_still (loop n b) t y is h =
        sequence_still b t (y + rise n b t) is.1 h
        ∙ ap (λ x. y + x + growth b t) (rise_still n b t h)
        ∙ turn_more n y (growth b t) is.0
    statement_still (choice none) t y is h = omega arith
    statement_still (choice (either b bs)) t y is h =
        sequence_still b t y is.0 (or_false (scatters b t) (branches_scatter bs t) h).0

    pub sequence_still : (b : Sequence) (t y : ℕ) → IsOfKinds kind b → scatters b t ≡ false
        → sequence_to b t y ≡ y + growth b t
    sequence_still skip t y is h = omega arith
    sequence_still (andthen d b) t y is h =
        let not = or_false (statement_scatters d t) (scatters b t) h in
        sequence_still b t (statement_to d t y) is.1 not.1
        ∙ ap (λ x. x + growth b t) (statement_still d t y is.0 not.0)
        ∙ two_parts y (statement_growth d t) (growth b t)

  -- a plain slot has no bound anywhere
  pub plain_to : (d : Statement) (t y : ℕ) → kind t ≡ false → StatementKeeps kind d → statement_to d t y ≡ y
  plain_to d t y k is =
      let p = plain_statement kind d t k is in
      statement_still d t y is p.0 ∙ omega (arith, p.1)

  pub plain_rise : (n : ℕ) (b : Sequence) (t : ℕ) → kind t ≡ false → IsOfKinds kind b → rise n b t ≡ 0
  plain_rise n b t k is =
      let p = plain_sequence kind b t k is in
      rise_still n b t p.0 ∙ times_zero (n - 1) (growth b t) p.1

  -- ---- what is made

  one_counted : (stop x y : ℕ) → x ≡ min y stop → one_more (Some stop) x ≡ min (y + 1) stop
  one_counted stop x y h = omega (arith, h)

  none_counted : (stop : ℕ) → 0 ≡ min 0 stop
  none_counted stop = omega arith

  step_made : (stop : ℕ) (s : Step) (n : Entries) (t y : ℕ) → bound_at n t ≡ min y stop
      → bound_at (noted_with (Some stop) s n) t ≡ min (step_to s t y) stop
  step_made stop (fix s r) n t y e = bound_page s r Free t n ∙ e
  step_made stop (unfix s) n t y e = bound_without_page s t n ∙ e
  step_made stop (latch s m) n t y e = bound_as (held_in m) s t n ∙ e
  step_made stop (unlatch s) n t y e = bound_as Free s t n ∙ e
  step_made stop (gather s r) n t y e =
      let k : ℕ = one_more (Some stop) (bound_at n s) in
      elim (s == t) as (λ b. (s == t) ≡ b
      → bound_at (with_bound s k n) t ≡ min (if b then y + 1 else y) stop) [
        | true ↦ λ i.
            subst (λ x. bound_at n x ≡ min y stop → bound_at (with_bound s k n) x ≡ min (y + 1) stop)
            (eqb-true s t i) (λ f. bound_with_here s k n ∙ one_counted stop (bound_at n s) y f) e
        | false ↦ λ i. bound_with_other s k t n i ∙ e
      ] refl
  step_made stop (scatter s) n t y e =
      elim (s == t) as (λ b. (s == t) ≡ b
      → bound_at (without_bundle s n) t ≡ min (if b then 0 else y) stop) [
        | true ↦ λ i.
            subst (λ x. bound_at (without_bundle s n) x ≡ 0) (eqb-true s t i) (bound_without_here s n) ∙ none_counted stop
        | false ↦ λ i. bound_without_other s t n i ∙ e
      ] refl

  rise_counted : (stop x y r : ℕ) → x ≡ min y stop → risen stop x r ≡ min (y + r) stop
  rise_counted stop x y r h = omega (arith, h)

  no_rise : (stop x y r : ℕ) → x ≡ min y stop → r ≡ 0 → x ≡ min (y + r) stop
  no_rise stop x y r h z = omega (arith, h, z)

  module _ (stop : ℕ) (few : (s : ℕ) → kind s ≡ true → s < most_slots) where
    pub first_made : (c : ℕ) (b : Sequence) (n : Entries) (t y : ℕ) → IsOfKinds kind b
        → bound_at n t ≡ min y stop
        → bound_at (first_note stop kind c b n) t ≡ min (y + rise c b t) stop
    first_made c b n t y is e =
        elim (kind t) as (λ x. kind t ≡ x
        → bound_at (first_note stop kind c b n) t ≡ min (y + rise c b t) stop) [
          | true ↦ λ k. first_bundle stop kind c b n t (few t k) k ∙ rise_counted stop (bound_at n t) y (rise c b t) e
          | false ↦ λ k.
              first_plain stop kind c b n t k ∙ no_rise stop (bound_at n t) y (rise c b t) e (plain_rise c b t k is)
        ] refl

    mutual
      pub statement_made : (s : Statement) (n : Entries) (t y : ℕ) → StatementKeeps kind s
          → bound_at n t ≡ min y stop
          → bound_at (after_statement stop kind s n) t ≡ min (statement_to s t y) stop
      statement_made (step s) n t y is e = step_bound stop s n t ∙ step_made stop s n t y e
      statement_made (loop c b) n t y is e =
          sequence_made b (first_note stop kind c b n) t (y + rise c b t) is.1 (first_made c b n t y is.1 e)
      statement_made (choice none) n t y is e = e
      statement_made (choice (either b bs)) n t y is e = sequence_made b n t y is.0 e

      pub sequence_made : (b : Sequence) (n : Entries) (t y : ℕ) → IsOfKinds kind b
          → bound_at n t ≡ min y stop
          → bound_at (after_sequence stop kind b n) t ≡ min (sequence_to b t y) stop
      sequence_made skip n t y is e = e
      sequence_made (andthen s b) n t y is e =
          sequence_made b (after_statement stop kind s n) t (statement_to s t y) is.1 (statement_made s n t y is.0 e)

  -- ---- a certificate whose tests pass

  step_told : (s : Step) (n : Entries) (t : ℕ) → bound_at (noted_with None s n) t ≡ step_to s t (bound_at n t)
  step_told (fix s r) n t = bound_page s r Free t n
  step_told (unfix s) n t = bound_without_page s t n
  step_told (latch s m) n t = bound_as (held_in m) s t n
  step_told (unlatch s) n t = bound_as Free s t n
  step_told (gather s r) n t =
      let k : ℕ = bound_at n s + 1 in
      elim (s == t) as (λ b. (s == t) ≡ b
      → bound_at (with_bound s k n) t ≡ (if b then bound_at n t + 1 else bound_at n t)) [
        | true ↦ λ i.
            subst (λ x. bound_at (with_bound s k n) x ≡ bound_at n x + 1) (eqb-true s t i) (bound_with_here s k n)
        | false ↦ λ i. bound_with_other s k t n i
      ] refl
  step_told (scatter s) n t =
      elim (s == t) as (λ b. (s == t) ≡ b
      → bound_at (without_bundle s n) t ≡ (if b then 0 else bound_at n t)) [
        | true ↦ λ i. subst (λ x. bound_at (without_bundle s n) x ≡ 0) (eqb-true s t i) (bound_without_here s n)
        | false ↦ λ i. bound_without_other s t n i
      ] refl

  turn_growth : (n b f l g : ℕ) → f ≡ b + (n - 1) * (l - f) → l ≡ f + g → f ≡ b + (n - 1) * g
  turn_growth n b f l g e k =
      let d : l - f ≡ g = omega (arith, k) in
      e ∙ ap (λ x. b + (n - 1) * x) d

  first_risen : (n : ℕ) (b : Sequence) (t before first last : ℕ) → TurnsFit n (scatters b t) before first last
      → (scatters b t ≡ false → last ≡ first + growth b t) → first ≡ before + rise n b t
  first_risen n b t before first last fit grows =
      elim (scatters b t) as (λ x. scatters b t ≡ x → first ≡ before + (if x then 0 else (n - 1) * growth b t)) [
        | true ↦ λ s. omega (arith, (fit.stays s).0)
        | false ↦ λ s. turn_growth n before first last (growth b t) fit.starts (grows s)
      ] refl

  module _ (g : Geometry) (d : Claims) where
    mutual
      pub statement_walked : (k : ℕ) (s : Statement) (t : ℕ) → StatementKeeps kind s
          → first_fault g d (statement_tests None k s) ≡ None
          → bound_at (expected_note d (outcome None k s)) t ≡ statement_to s t (bound_at (note_at d k) t)
      statement_walked k (step s) t is h = step_told s (note_at d k) t
      statement_walked k (loop n b) t is h =
          let end : ℕ = sequence_end (k + 1) b in
          let front : List Test = turn_tests (k + 1) k b in
          let p =
          both_pass g d (front ++ sequence_tests None (k + 1) b)
          (loop_keeps end k b ∷ loop_grows end k (k + 1) n b ∷ []) h in
          let q = both_pass g d front (sequence_tests None (k + 1) b) p.0 in
          let begins = turn_passes g d (k + 1) k b q.0 in
          let keeps = first_passes g d (loop_keeps end k b) (loop_grows end k (k + 1) n b ∷ []) p.1 in
          let grows = first_passes g d (loop_grows end k (k + 1) n b) [] keeps.1 in
          let fit =
          loop_fits n b (note_at d k) (note_at d (k + 1)) (note_at d end) begins.1 keeps.0 grows.0 in
          let body = sequence_walked (k + 1) b t is.1 q.1 in
          let first : bound_at (note_at d (k + 1)) t ≡ bound_at (note_at d k) t + rise n b t =
          first_risen n b t (bound_at (note_at d k) t) (bound_at (note_at d (k + 1)) t) (bound_at (note_at d end) t)
          (fit.bounds t) (λ still. body ∙ sequence_still b t (bound_at (note_at d (k + 1)) t) is.1 still) in
          body ∙ ap (λ y. sequence_to b t y) first
      statement_walked k (choice none) t is h = refl
      statement_walked k (choice (either b bs)) t is h =
          let end : ℕ = sequence_end (k + 1) b in
          let front : List Test = note_tests (k + 1) (same k) in
          let p = both_pass g d (front ++ sequence_tests None (k + 1) b) (later_tests None k end (end + 1) bs) h in
          let q = both_pass g d front (sequence_tests None (k + 1) b) p.0 in
          let note = note_passes g d (k + 1) (same k) q.0 in
          sequence_walked (k + 1) b t is.0 q.1 ∙ ap (λ n. sequence_to b t (bound_at n t)) note.1

      pub sequence_walked : (k : ℕ) (b : Sequence) (t : ℕ) → IsOfKinds kind b
          → first_fault g d (sequence_tests None k b) ≡ None
          → bound_at (note_at d (sequence_end k b)) t ≡ sequence_to b t (bound_at (note_at d k) t)
      sequence_walked k skip t is h = refl
      sequence_walked k (andthen s b) t is h =
          let next : ℕ = statement_end k s in
          let between : List Test = note_tests next (outcome None k s) in
          let p = both_pass g d (statement_tests None k s ++ between) (sequence_tests None next b) h in
          let q = both_pass g d (statement_tests None k s) between p.0 in
          let note = note_passes g d next (outcome None k s) q.1 in
          sequence_walked next b t is.1 p.1
          ∙ ap (λ y. sequence_to b t y) (ap (λ n. bound_at n t) note.1 ∙ statement_walked k s t is.0 q.0)

-- ---- how far they come

times_more : (k g m : ℕ) → g ≤ m → k * g ≤ k * m
times_more zero g m h = omega arith
times_more (suc k) g m h = omega (arith, h, times_more k g m h)

turns_room : (n y r m : ℕ) → 1 ≤ n → r ≤ (n - 1) * m → y + r + m ≤ y + n * m
turns_room zero y r m is h = absurd (omega (arith, is))
turns_room (suc n) y r m is h =
    let p : suc n - 1 ≡ n = omega arith in
    let low : r ≤ n * m = subst (λ x. r ≤ x * m) p h in
    let t : suc n * m ≡ m + n * m = omega arith in
    omega (arith, low, t)

growth_room : (s t : ℕ) → step_growth (gather s 0) t ≤ 1
growth_room s t = elim (s == t) as (λ b. (if b then 1 else 0) ≤ 1) [ true ↦ omega arith | false ↦ omega arith ]

mutual
  statement_few : (d : Statement) (t : ℕ) → statement_growth d t ≤ statement_gathers d
  statement_few (step (fix s r)) t = omega arith
  statement_few (step (unfix s)) t = omega arith
  statement_few (step (latch s m)) t = omega arith
  statement_few (step (unlatch s)) t = omega arith
  statement_few (step (gather s r)) t = growth_room s t
  statement_few (step (scatter s)) t = omega arith
  statement_few (loop n b) t = times_more n (growth b t) (sequence_gathers b) (sequence_few b t)
  statement_few (choice none) t = omega arith
  statement_few (choice (either b bs)) t = omega (arith, sequence_few b t)

  sequence_few : (b : Sequence) (t : ℕ) → growth b t ≤ sequence_gathers b
  sequence_few skip t = omega arith
  sequence_few (andthen d b) t = omega (arith, statement_few d t, sequence_few b t)

pub rise_room : (n : ℕ) (b : Sequence) (t : ℕ) → rise n b t ≤ (n - 1) * sequence_gathers b
rise_room n b t =
    elim (scatters b t) as (λ x. (if x then 0 else (n - 1) * growth b t) ≤ (n - 1) * sequence_gathers b) [
      | true ↦ omega arith
      | false ↦ times_more (n - 1) (growth b t) (sequence_gathers b) (sequence_few b t)
    ]

step_room : (d : Step) (t y : ℕ) → step_to d t y ≤ y + step_gathers d
step_room (fix s r) t y = omega arith
step_room (unfix s) t y = omega arith
step_room (latch s m) t y = omega arith
step_room (unlatch s) t y = omega arith
step_room (gather s r) t y =
    elim (s == t) as (λ b. (if b then y + 1 else y) ≤ y + 1) [ true ↦ omega arith | false ↦ omega arith ]
step_room (scatter s) t y =
    elim (s == t) as (λ b. (if b then 0 else y) ≤ y + 0) [ true ↦ omega arith | false ↦ omega arith ]

module _ (kind : ℕ → Bool) where
  -- at the first place of a loop's body, with what the body's last turn gathers
  pub turn_room : (n : ℕ) (b : Sequence) (t y : ℕ) → 1 ≤ n
      → y + rise n b t + sequence_gathers b ≤ y + n * sequence_gathers b
  turn_room n b t y is = turns_room n y (rise n b t) (sequence_gathers b) is (rise_room n b t)

  mutual
    pub statement_room : (d : Statement) (t y : ℕ) → StatementKeeps kind d
        → statement_to d t y ≤ y + statement_gathers d
    statement_room (step d) t y is = step_room d t y
    statement_room (loop n b) t y is =
        omega (arith, sequence_room b t (y + rise n b t) is.1, turn_room n b t y is.0)
    statement_room (choice none) t y is = omega arith
    statement_room (choice (either b bs)) t y is = omega (arith, sequence_room b t y is.0)

    pub sequence_room : (b : Sequence) (t y : ℕ) → IsOfKinds kind b → sequence_to b t y ≤ y + sequence_gathers b
    sequence_room skip t y is = omega arith
    sequence_room (andthen d b) t y is =
        omega (arith, sequence_room b t (statement_to d t y) is.1, statement_room d t y is.0)
