-- What is lent of the pages that a worker has latched X, and what that ends as.
use Rattle.std.specs.Prelude.{ℕ, List}
use Rattle.std.specs.Borrow.{Lends, MutBor, Fml, RattleType, Array, u8}
use Rattle.pp_vault.specs.declared.guards.WriteGuard.{WriteGuard}
use Rattle.pp_pool.specs.declared.held.Loan.{Ghosts}
use Rattle.pp_pool.specs.contracts.held.Held.{the_row as held_row}
use Rattle.pp_pool.specs.Lent.{with_body_at}

module _ (L : RattleType) (loan : Ghosts L.Denot) (held : MutBor (List WriteGuard)) where
  -- What is lent ends with the last bytes behind the reference as the body of the guard at this place, and else as it was.
  abbrev pub LendsAt : (place : ℕ) → MutBor (List ℕ) → Fml
  LendsAt place body = Lends (held_row L loan) (Array u8 0) held body (with_body_at held.now place)
