use Rattle.pp_pool.specs.Lent.{writers_in}
use Rattle.pp_pool.proofs.lending.lend.Given as goal

abbrev pub ghosts-lend_as : goal.ghosts-lend_as
ghosts-lend_as g a = record { began = writers_in a.guards.now }
