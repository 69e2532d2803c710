-- What is left to show of Table::new: no name has a key.
use Rattle.std.proofs.Common.{◌≡◌, ◌+◌, ◌*◌, replicate, ap, ◌∙◌, arith}
use Rattle.pp_names.specs.Slots.{none}
use Rattle.pp_names.specs.Kept.{keys_of}
use Rattle.pp_names.proofs.TableLemmas.{kept_new, no_keys}
use Rattle.pp_names.proofs.table.Table.new.Goals as goal

pub invariant_of-result : goal.invariant_of-result
invariant_of-result c =
    let keys : c.in_ok-vec.field-0.items ≡ replicate c.args.names none = c.in_ok-vec.ensures.items_if_clones_equal (λ y e. e) in
    let slots : c.in_ok-vec-2.field-0.items ≡ replicate (2 * c.args.names + 1) none = c.in_ok-vec-2.ensures.items_if_clones_equal (λ y e. e) in
    rw (keys, slots) (kept_new c.args.names (2 * c.args.names + 1) c.requires.fits (omega arith))

pub returns : goal.returns
returns c =
    let keys : c.in_ok-vec.field-0.items ≡ replicate c.args.names none = c.in_ok-vec.ensures.items_if_clones_equal (λ y e. e) in
    record { empty = ap keys_of keys ∙ no_keys c.args.names }
