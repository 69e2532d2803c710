-- What clauses see of a journal.
use Rattle.std.specs.Prelude.{ℕ, List}
use Rattle.pp_model.specs.declared.event.Event.{Event}

pub record Events : Type 0 where
  -- what was done, the first event first
  pub items : List Event
  -- how many events there is memory for
  pub capacity : ℕ
