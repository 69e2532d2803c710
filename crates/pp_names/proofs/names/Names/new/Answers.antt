-- What is left to show of Names::new: each name stands once in the order.
use Rattle.std.proofs.Common.{◌≡◌, replicate}
use Rattle.std.specs.Prelude.{None}
use Rattle.pp_names.proofs.OrderLemmas.{ordered-new}
use Rattle.pp_names.proofs.names.Names.new.Goals as goal

pub invariant_of-result : goal.invariant_of-result
invariant_of-result c =
    let empty : c.in_ok-new.field-0 ≡ replicate c.args.names None = c.in_ok-new.ensures.empty in
    rw empty (ordered-new c.in_ok-lengthened.field-0.items c.args.names c.requires.fits c.in_ok-lengthened.ensures.longer)
