-- What is left to show of Names::grow: the new names have no key.
use Rattle.std.proofs.Common.{◌≡◌, ℕ, ◌-◌, ◌≤◌, ◌++◌, length, replicate, List, Option, refl, sym, subst}
use Rattle.std.specs.Prelude.{None}
use Rattle.pp_names.proofs.OrderLemmas.{ordered-grow}
use Rattle.pp_names.proofs.names.Names.grow.Goals as goal

pub invariant_of-self-2 : goal.invariant_of-self-2
invariant_of-self-2 c =
    let order : c.deref.result.now ≡ c.self.inside.order.items = cc (c.deref.ensures.value) in
    let more : length c.self.inside.table ≤ c.args.names =
    subst (λ (w : List (Option ℕ)). length w ≤ c.args.names) (sym c.self.view_is) c.requires.more in
    let grown : c.grow.new.self
    ≡ c.self.inside.table ++ replicate (c.args.names - length c.self.inside.table) None = c.in_ok-grow.ensures.grown refl in
    rw grown (ordered-grow c.self.inside.table c.self.inside.order.items c.in_ok-order.order.items c.self.inside.used c.args.names
    c.self.invariant more c.requires.fits (rw order at c.in_ok-order.ensures.longer))
