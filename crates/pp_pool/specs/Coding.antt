-- The code of what a book keeps, by which proofs tell its values apart.
use Rattle.std.specs.Prelude.{ℕ, List, refl}
use Rattle.std.specs.Coded.{Coded, code_by, coded×, coded_ℕ, coded_list}
use Rattle.pp_model.specs.declared.event.Event.{Event}
use Rattle.pp_model.specs.contracts.event.Event.{the_row as event_row}
use Rattle.pp_outset.specs.Outsets.{Outset}
use Rattle.pp_outset.specs.Coding.{coded_outset}
use Rattle.pp_vault.specs.Parts as vault
use Rattle.pp_vault.specs.Coding.{coded_parts as coded_vault}
use Rattle.pp_pool.specs.Parts.{Parts}

abbrev coded_event : Coded Event
coded_event = event_row.coded

abbrev pub coded_parts : Coded Parts
coded_parts =
    code_by (vault.Parts × (ℕ × (List Event × (ℕ × (ℕ × (ℕ × Outset))))))
    (coded× coded_vault (coded× coded_ℕ (coded× (coded_list coded_event) (coded× coded_ℕ (coded× coded_ℕ
    (coded× coded_ℕ coded_outset))))))
    (λ b. (b.vault, (b.workers, (b.journal, (b.capacity, (b.most, (b.flushes, b.began)))))))
    (λ p. record {
      vault =
          p.0;
      workers = p.1.0;
      journal = p.1.1.0;
      capacity = p.1.1.1.0;
      most = p.1.1.1.1.0;
      flushes = p.1.1.1.1.1.0;
      began = p.1.1.1.1.1.1;
    })
    (λ _. refl)
