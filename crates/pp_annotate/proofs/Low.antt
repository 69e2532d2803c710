-- The bounds that are made are counted no further than the stop.
use Rattle.std.proofs.Common.{◌≡◌, ℕ, ◌<◌, ◌≤◌, Bool, true, Some, arith}
use Rattle.pp_settings.specs.Limits.{most_slots}
use Rattle.pp_plan.specs.Tree.{Step, fix, unfix, latch, unlatch, gather, scatter, Statement, step, loop, choice}
use Rattle.pp_plan.specs.Tree.{Sequence, skip, andthen, none, either}
use Rattle.pp_cert.specs.declared.note.Held.TheVariants.{Free}
use Rattle.pp_cert.specs.Held.{held_in}
use Rattle.pp_cert.specs.Notes.{Entries, bound_at, one_more, noted_with, with_bound, without_bundle}
use Rattle.pp_cert.proofs.Pages.{bound_page, bound_without_page, bound_as, bound_without_here, bound_without_other}
use Rattle.pp_cert.proofs.Pages.{bound_with_here, bound_with_other}
use Rattle.pp_annotate.specs.Growth.{first_note}
use Rattle.pp_annotate.specs.Made.{after_statement, after_sequence}
use Rattle.pp_annotate.proofs.Once.{step_bound}
use Rattle.pp_annotate.proofs.Grows.{by_slot}
use Rattle.pp_annotate.proofs.Rises.{first_low}

-- Of each bundle.
abbrev pub Low : (stop : ℕ) → (kind : ℕ → Bool) → Entries → Type 0
Low stop kind n = (t : ℕ) → kind t ≡ true → bound_at n t ≤ stop

step_low : (stop : ℕ) (s : Step) (n : Entries) (t : ℕ) → bound_at n t ≤ stop
    → bound_at (noted_with (Some stop) s n) t ≤ stop
step_low stop (fix s r) n t l = omega (arith, bound_page s r Free t n, l)
step_low stop (unfix s) n t l = omega (arith, bound_without_page s t n, l)
step_low stop (latch s m) n t l = omega (arith, bound_as (held_in m) s t n, l)
step_low stop (unlatch s) n t l = omega (arith, bound_as Free s t n, l)
step_low stop (gather s r) n t l =
    let k : ℕ = one_more (Some stop) (bound_at n s) in
    by_slot s t (λ x. bound_at n x ≤ stop → bound_at (with_bound s k n) x ≤ stop)
    (λ m. omega (arith, bound_with_here s k n)) (λ d m. omega (arith, bound_with_other s k t n d, m)) l
step_low stop (scatter s) n t l =
    by_slot s t (λ x. bound_at n x ≤ stop → bound_at (without_bundle s n) x ≤ stop)
    (λ m. omega (arith, bound_without_here s n)) (λ d m. omega (arith, bound_without_other s t n d, m)) l

module _ (stop : ℕ) (kind : ℕ → Bool) (few : (s : ℕ) → kind s ≡ true → s < most_slots) where
  pub first_note_low : (turns : ℕ) (b : Sequence) (n : Entries) → Low stop kind (first_note stop kind turns b n)
  first_note_low turns b n = λ t k. first_low stop kind turns b n few t k

  mutual
    pub statement_low : (s : Statement) (n : Entries) → Low stop kind n → Low stop kind (after_statement stop kind s n)
    statement_low (step s) n low = λ t k. omega (arith, step_bound stop s n t, step_low stop s n t (low t k))
    statement_low (loop c b) n low = sequence_low b (first_note stop kind c b n) (first_note_low c b n)
    statement_low (choice none) n low = low
    statement_low (choice (either b bs)) n low = sequence_low b n low

    sequence_low : (b : Sequence) (n : Entries) → Low stop kind n → Low stop kind (after_sequence stop kind b n)
    sequence_low skip n low = low
    sequence_low (andthen s b) n low = sequence_low b (after_statement stop kind s n) (statement_low s n low)
