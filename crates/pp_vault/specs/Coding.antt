-- The code of what a vault keeps, by which proofs tell its values apart.
use Rattle.std.specs.Prelude.{ℕ, Option, List, refl}
use Rattle.std.specs.Coded.{Coded, code_by, coded×, coded_ℕ, coded_list, coded_option}
use Rattle.pp_core.specs.Parts as core
use Rattle.pp_core.specs.Coding as core_coding
use Rattle.pp_vault.specs.Parts.{Parts}

abbrev Images : Type 0
Images = List (Option (List ℕ)) × (Option (List ℕ) × ℕ)

abbrev coded_images : Coded Images
coded_images =
    coded× (coded_list (coded_option (coded_list coded_ℕ))) (coded× (coded_option (coded_list coded_ℕ)) coded_ℕ)

abbrev pub coded_parts : Coded Parts
coded_parts =
    code_by (core.Parts × Images) (coded× core_coding.coded_parts coded_images)
    (λ v. (v.core, (v.images, (v.spare, v.page_bytes))))
    (λ p. record { core = p.0; images = p.1.0; spare = p.1.1.0; page_bytes = p.1.1.1 })
    (λ _. refl)
