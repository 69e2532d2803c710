-- A life that goes on.
use Rattle.std.specs.Prelude.{◌≡◌, ◌++◌, true, List}
use Rattle.std.specs.List.{list_all}
use Rattle.pp_model.specs.declared.event.Event.{Event}
use Rattle.pp_pool.specs.Parts.{Parts, settings_of, plans_of}
use Rattle.pp_report.specs.Reports.{is_move}

-- Nothing but moves was done: the book is of the same life, plans and bytes of a page, and its journal has more events behind, each a
-- move.
pub record GoesOn (old new : Parts) : Type 0 where
  pub settings : settings_of new ≡ settings_of old
  pub plans : plans_of new ≡ plans_of old
  pub outset : new.began ≡ old.began
  pub page_bytes : new.vault.page_bytes ≡ old.vault.page_bytes
  pub more : List Event
  pub journal : new.journal ≡ old.journal ++ more
  pub moves : list_all is_move more ≡ true
