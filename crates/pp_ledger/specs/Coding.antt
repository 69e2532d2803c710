-- The code of what segments, ledgers and their sites keep, by which proofs tell their values apart.
use Rattle.std.specs.Prelude.{ℕ, List, refl}
use Rattle.std.specs.Coded.{Coded, code_by, coded×, coded_ℕ, coded_list}
use Rattle.pp_model.specs.declared.event.Event.{Event}
use Rattle.pp_model.specs.contracts.event.Event.{the_row as event_row}
use Rattle.pp_vault.specs.Parts as vault
use Rattle.pp_vault.specs.Coding.{coded_parts as coded_vault}
use Rattle.pp_ledger.specs.Segments.{Segment}
use Rattle.pp_ledger.specs.Ledgers.{Parts}
use Rattle.pp_ledger.specs.Sites.{SiteParts}

abbrev coded_event : Coded Event
coded_event = event_row.coded

abbrev pub coded_segment : Coded Segment
coded_segment =
    code_by (List Event × (List ℕ × (ℕ × (ℕ × ℕ))))
    (coded× (coded_list coded_event) (coded× (coded_list coded_ℕ) (coded× coded_ℕ (coded× coded_ℕ coded_ℕ))))
    (λ g. (g.events, (g.prepared, (g.number, (g.plans_before, g.capacity)))))
    (λ p. record { events = p.0; prepared = p.1.0; number = p.1.1.0; plans_before = p.1.1.1.0; capacity = p.1.1.1.1 })
    (λ _. refl)

abbrev pub coded_parts : Coded Parts
coded_parts =
    code_by (vault.Parts × Segment) (coded× coded_vault coded_segment) (λ l. (l.vault, l.segment))
    (λ p. record { vault = p.0; segment = p.1 }) (λ _. refl)

abbrev pub coded_site : {S : Type 0} → Coded S → Coded (SiteParts S)
coded_site {S = S} sink =
    code_by (Parts × (Segment × S)) (coded× coded_parts (coded× coded_segment sink))
    (λ x. (x.ledger, (x.spare, x.sink))) (λ p. record { ledger = p.0; spare = p.1.0; sink = p.1.1 }) (λ _. refl)
