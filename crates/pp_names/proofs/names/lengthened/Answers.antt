-- What is left to show of lengthened: a name more.
use Rattle.std.proofs.Common.{◌≡◌, ◌++◌, ◌∷◌, [], arith}
use Rattle.pp_names.proofs.OrderLemmas.{lengthened-more}
use Rattle.pp_names.proofs.names.lengthened.Goals as goal

pub loop-name-preserved : goal.loop-name-preserved
loop-name-preserved c =
    let pushed : c.push.new.self.items ≡ c.loop-name.longer.items ++ c.loop-name.name ∷ [] = c.in_ok-push.ensures.items in
    rw pushed (lengthened-more c.args.order.now c.loop-name.longer.items c.loop-name.name c.loop-name.invariant
    (omega (arith, c.loop-name.auto.name)))
