-- What is left to show of Names::take: the name stands in front of those without a key.
use Rattle.std.proofs.Common.{◌≡◌, true}
use Rattle.std.specs.Prelude.{is_some}
use Rattle.pp_names.specs.Names.{key_of}
use Rattle.pp_names.proofs.OrderLemmas.{ordered-take}
use Rattle.pp_names.proofs.names.Names.take.Goals as goal

pub invariant_of-self : goal.invariant_of-self
invariant_of-self c =
    let some : is_some (key_of c.self.inside.table c.args.name) ≡ true =
    cc (c.key.ensures.value, c.is_some.ensures, c.if-is_some.true) in
    rw c.remove.ensures.exact
    (ordered-take c.self.inside.table c.self.inside.order.items c.self.inside.used c.args.name c.self.invariant some)
