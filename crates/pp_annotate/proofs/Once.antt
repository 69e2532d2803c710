-- A step is noted as the check expects it, where it may happen. Another fix changes no bound, and pins one page more at most.
use Rattle.std.proofs.Common.{◌≡◌, ℕ, ◌+◌, ◌≤◌, true, false, Some, None, [], refl, sym, ap, ◌∙◌, arith}
use Rattle.std.specs.Prelude.{◌==◌, not, is_some, if◌then◌else◌}
use Rattle.std.proofs.lemmas.Bool.{and_parts, not-true}
use Rattle.pp_settings.specs.Layout.{Geometry}
use Rattle.pp_plan.specs.Tree.{Step, fix, unfix, latch, unlatch, gather, scatter}
use Rattle.pp_cert.specs.declared.note.Entry.TheVariants.{Slot}
use Rattle.pp_cert.specs.declared.note.Held.TheVariants.{Free}
use Rattle.pp_cert.specs.Slots.{slot_insert}
use Rattle.pp_cert.specs.Notes.{Entries, entry_slot, noted_at, bound_at, note_pins, noted_with}
use Rattle.pp_cert.specs.Walk.{Claims, note_at, slot_unused, first_fault, step_tests}
use Rattle.pp_cert.proofs.Pages.{bound_page}
use Rattle.pp_cert.proofs.Passing.{first_passes}
use Rattle.pp_annotate.specs.Made.{with_page, after_step}
use Rattle.pp_annotate.proofs.Pins.{one_more}

pub page_added : (s r : ℕ) (n : Entries) → is_some (noted_at n s) ≡ false
    → with_page (Slot s r Free) n ≡ slot_insert entry_slot (Slot s r Free) n
page_added s r n h = ap (λ b. if b then n else slot_insert entry_slot (Slot s r Free) n) h

pub step_expected : (stop : ℕ) (g : Geometry) (c : Claims) (k : ℕ) (s : Step) (n : Entries) → note_at c k ≡ n
    → first_fault g c (step_tests k s) ≡ None → after_step stop s n ≡ noted_with (Some stop) s n
step_expected stop g c k (fix s r) n e h =
    let p = first_passes g c (slot_unused k s) [] h in
    let q = and_parts (not (is_some (noted_at (note_at c k) s))) (bound_at (note_at c k) s == 0) p.0 in
    let free : is_some (noted_at n s) ≡ false = ap (λ x. is_some (noted_at x s)) (sym e)
    ∙ not-true (is_some (noted_at (note_at c k) s)) q.0 in
    page_added s r n free
step_expected stop g c k (unfix s) n e h = refl
step_expected stop g c k (latch s m) n e h = refl
step_expected stop g c k (unlatch s) n e h = refl
step_expected stop g c k (gather s r) n e h = refl
step_expected stop g c k (scatter s) n e h = refl

pub step_bound : (stop : ℕ) (s : Step) (n : Entries) (t : ℕ)
    → bound_at (after_step stop s n) t ≡ bound_at (noted_with (Some stop) s n) t
step_bound stop (fix s r) n t =
    let more = bound_page s r Free t n in
    elim (is_some (noted_at n s))
    as (λ b. bound_at (if b then n else slot_insert entry_slot (Slot s r Free) n) t
    ≡ bound_at (slot_insert entry_slot (Slot s r Free) n) t) [
      | true ↦ omega (arith, more)
      | false ↦ refl
    ]
step_bound stop (unfix s) n t = refl
step_bound stop (latch s m) n t = refl
step_bound stop (unlatch s) n t = refl
step_bound stop (gather s r) n t = refl
step_bound stop (scatter s) n t = refl

pub page_pins : (s r : ℕ) (n : Entries) → note_pins (with_page (Slot s r Free) n) ≤ note_pins n + 1
page_pins s r n =
    let more = one_more (Slot s r Free) n in
    elim (is_some (noted_at n s))
    as (λ b. note_pins (if b then n else slot_insert entry_slot (Slot s r Free) n) ≤ note_pins n + 1) [
      | true ↦ omega arith
      | false ↦ omega (arith, more)
    ]
