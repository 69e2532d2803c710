-- How a journal's events stand in its entries.
use Rattle.std.specs.Prelude.{◌≡◌, ℕ, ◌≤◌, List, [], ◌∷◌, ◌++◌, length, map, vec_capacity}
use Rattle.std.specs.Global.{Vec}
use Rattle.pp_model.specs.declared.event.Event.{Event}
use Rattle.pp_journal.specs.declared.entry.Entry.{Entry}
use Rattle.pp_journal.specs.Entries.{event_of, IsInside}
use Rattle.pp_journal.specs.Events.{Events}

-- The events of these entries, in order.
abbrev pub packed_events : Vec Entry → (others : Vec Event) → (capacity : ℕ) → Events
packed_events entries others capacity =
    record { items = map (event_of others.items) entries.items; capacity = capacity }

-- Each entry that names a place among the others names one of so many.
abbrev pub AreInside : (others : ℕ) → List Entry → Type 0
AreInside others [] = Unit {0}
AreInside others (e ∷ es) = IsInside others e × AreInside others es

-- No entry names a place past the others, of which there are no more than entries. There is memory for so many of each.
pub record IsPacked (entries : Vec Entry) (others : Vec Event) (capacity : ℕ) : Type 0 where
  pub inside : AreInside (length others.items) entries.items
  pub fewer : length others.items ≤ length entries.items
  pub room : capacity ≤ vec_capacity entries
  pub others_room : capacity ≤ vec_capacity others

-- The list is as it was, or has one event more.
pub record IsMore (old new : List Event) : Type 0 where
  pub added : List Event
  pub grows : new ≡ old ++ added
  pub one : length added ≤ 1
