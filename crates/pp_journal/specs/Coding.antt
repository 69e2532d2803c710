-- The code of a journal's events, by which proofs tell its values apart.
use Rattle.std.specs.Prelude.{ℕ, List, refl}
use Rattle.std.specs.Coded.{Coded, code_by, coded×, coded_ℕ, coded_list}
use Rattle.pp_model.specs.declared.event.Event.{Event}
use Rattle.pp_model.specs.contracts.event.Event.{the_row as event_row}
use Rattle.pp_journal.specs.Events.{Events}

abbrev coded_event : Coded Event
coded_event = event_row.coded

abbrev pub coded_events : Coded Events
coded_events =
    code_by (List Event × ℕ) (coded× (coded_list coded_event) coded_ℕ) (λ e. (e.items, e.capacity))
    (λ p. record { items = p.0; capacity = p.1 }) (λ _. refl)
