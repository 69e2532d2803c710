-- The code of what a hall keeps, by which proofs tell its values apart.
use Rattle.std.specs.Prelude.{ℕ, Option, List, refl}
use Rattle.std.specs.Coded.{Coded, code_by, coded×, coded_ℕ, coded_list, coded_option}
use Rattle.pp_vault.specs.Parts as vault
use Rattle.pp_vault.specs.Coding.{coded_parts as coded_vault}
use Rattle.pp_hall.specs.declared.counts.Counts.{Counts}
use Rattle.pp_hall.specs.contracts.counts.Counts.{the_row as counts_row}
use Rattle.pp_hall.specs.Seatings.{Parts}

abbrev coded_counts : Coded Counts
coded_counts = counts_row.coded

abbrev pub coded_seating : Coded Parts
coded_seating =
    code_by (vault.Parts × (ℕ × (List (Option ℕ) × Counts)))
    (coded× coded_vault (coded× coded_ℕ (coded× (coded_list (coded_option coded_ℕ)) coded_counts)))
    (λ x. (x.vault, (x.frames, (x.peaks, x.counts))))
    (λ p. record { vault = p.0; frames = p.1.0; peaks = p.1.1.0; counts = p.1.1.1 }) (λ _. refl)
