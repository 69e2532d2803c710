-- Whom a call has told, by their bells.
use Rattle.std.specs.Prelude.{◌≡◌, ℕ, false, Option, None, Some, MatchOption}
use Rattle.pp_hall.specs.declared.told.Told.{Told}
use Rattle.pp_steps.specs.declared.rings.Rings.{Rings}
use Rattle.pp_steps.specs.Lines.{Parts, HasTicket, IsBellOf}

-- Nobody was told.
abbrev pub nobody : Rings
nobody = record { running = 0; next = None; all = false; flusher = false }

-- Nobody in the line has this ticket.
abbrev pub HasNoTicket : Parts → (ticket : ℕ) → Type 0
HasNoTicket l ticket = (at : ℕ) → ¬ HasTicket l.places ticket at

-- The bell of the one that may start, where it waits in the line.
abbrev pub IsNextBell : Parts → Option ℕ → Option ℕ → Type 0
IsNextBell l None bell = bell ≡ None
IsNextBell l (Some ticket) bell = MatchOption bell (HasNoTicket l ticket) (IsBellOf l ticket)

-- These are the bells of those whom the hall has told.
pub record AreRings (l : Parts) (told : Told) (rings : Rings) : Type 0 where
  pub running : rings.running ≡ told.workers
  pub next : IsNextBell l told.next rings.next
  pub all : rings.all ≡ told.all
  pub flusher : rings.flusher ≡ told.flusher
