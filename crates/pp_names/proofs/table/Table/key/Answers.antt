-- What is left to show of Table::key: no key has two names.
use Rattle.std.proofs.Common.{subst}
use Rattle.pp_names.specs.Names.{IsOneToOne}
use Rattle.pp_names.proofs.TableLemmas.{one_to_one}
use Rattle.pp_names.proofs.table.Table.key.Goals as goal

pub returns-then-name-len-clause-one_to_one : goal.returns-then-name-len-clause-one_to_one
returns-then-name-len-clause-one_to_one c =
    subst IsOneToOne c.self.view_is (one_to_one c.self.inside.keys.items c.self.inside.slots.items c.self.invariant)

pub returns-then-key-clause-one_to_one : goal.returns-then-key-clause-one_to_one
returns-then-key-clause-one_to_one c =
    subst IsOneToOne c.self.view_is (one_to_one c.self.inside.keys.items c.self.inside.slots.items c.self.invariant)

pub returns-else-key-clause-one_to_one : goal.returns-else-key-clause-one_to_one
returns-else-key-clause-one_to_one c =
    subst IsOneToOne c.self.view_is (one_to_one c.self.inside.keys.items c.self.inside.slots.items c.self.invariant)
