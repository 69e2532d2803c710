-- The code of guards, by which proofs tell them apart.
use Rattle.std.specs.Prelude.{◌≡◌, ℕ, ◌⊎◌, Option, None, Some, List, refl}
use Rattle.std.proofs.Common.{inl, inr}
use Rattle.std.specs.Coded.{Coded, code_by, coded×, coded⊎, coded_ℕ, coded_list, coded_option}
use Rattle.pp_vault.specs.declared.guards.Guard.{Guard}
use Rattle.pp_vault.specs.declared.guards.Guard.TheVariants.{Pin, Read, Write, Bundle}

-- The worker, slot and page; and the mark and image of those that have them.
abbrev PageParts : Type 0
PageParts = (ℕ × (ℕ × ℕ)) × Option (ℕ × Option (List ℕ))

abbrev coded_page_parts : Coded PageParts
coded_page_parts =
    coded× (coded× coded_ℕ (coded× coded_ℕ coded_ℕ)) (coded_option (coded× coded_ℕ (coded_option (coded_list coded_ℕ))))

-- Of a bundle's guard the worker and the slot, of another its parts.
abbrev GuardParts : Type 0
GuardParts = (ℕ × ℕ) ⊎ PageParts

abbrev coded_guard_parts : Coded GuardParts
coded_guard_parts = coded⊎ (coded× coded_ℕ coded_ℕ) coded_page_parts

abbrev guard_to : Guard → GuardParts
guard_to (Pin g) = inr ((g.worker, (g.slot, g.page)), None)
guard_to (Read g) = inr ((g.worker, (g.slot, g.page)), Some (g.mark, None))
guard_to (Write g) = inr ((g.worker, (g.slot, g.page)), Some (g.mark, Some g.image))
guard_to (Bundle g) = inl (g.worker, g.slot)

abbrev guard_from : GuardParts → Guard
guard_from (inr (place, None)) = Pin (record { worker = place.0; slot = place.1.0; page = place.1.1 })
guard_from (inr (place, Some (mark, None))) =
    Read (record { worker = place.0; slot = place.1.0; page = place.1.1; mark = mark })
guard_from (inr (place, Some (mark, Some image))) =
    Write (record { worker = place.0; slot = place.1.0; page = place.1.1; mark = mark; image = image })
guard_from (inl (worker, slot)) = Bundle (record { worker = worker; slot = slot })

pub guard_back : (x : Guard) → guard_from (guard_to x) ≡ x
guard_back (Pin g) = refl
guard_back (Read g) = refl
guard_back (Write g) = refl
guard_back (Bundle g) = refl

abbrev pub coded_guard : Coded Guard
coded_guard = code_by GuardParts coded_guard_parts guard_to guard_from guard_back

abbrev pub coded_guards : Coded (List (Option Guard))
coded_guards = coded_list (coded_option coded_guard)
