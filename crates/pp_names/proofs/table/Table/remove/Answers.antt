-- What is left to show of Table::remove.
use Rattle.std.proofs.Common.{◌≡◌, ℕ, ◌<◌, true, Option, None, List, length, set, subst, sym, ap, ◌∙◌, arith}
use Rattle.std.specs.Prelude.{is_some}
use Rattle.std.proofs.lemmas.List.{with_items_is, length-map}
use Rattle.pp_names.specs.Slots.{none}
use Rattle.pp_names.specs.Names.{key_of}
use Rattle.pp_names.specs.Kept.{as_key, IsKept}
use Rattle.pp_names.proofs.TableLemmas.{kept_remove, set_none, low_if_some}
use Rattle.pp_names.proofs.table.Table.remove.Goals as goal

pub invariant_of-self : goal.invariant_of-self
invariant_of-self c =
    let keys : c.deref.result.now ≡ c.self.inside.keys.items = cc (c.deref.ensures.value) in
    let slots : c.deref_mut.result.now ≡ c.self.inside.slots.items = cc (c.deref_mut.ensures.value) in
    let len : length c.take_out.new.slots ≡ c.self.inside.slots.len = omega
    (arith, c.take_out.auto.slots, ap (length {A = ℕ}) slots, c.self.inside.slots.ok.0) in
    let some : is_some (key_of c.args.self.now c.args.name) ≡ true =
    cc (c.key.ensures.value, c.is_some.ensures, c.if-is_some.true) in
    let low : c.args.name < length c.self.inside.keys.items = omega (
      arith,
      low_if_some c.args.self.now c.args.name some,
      ap (length {A = Option ℕ}) c.self.view_is,
      length-map c.self.inside.keys.items as_key,
    ) in
    subst (IsKept (set c.self.inside.keys.items c.args.name none))
    (sym (with_items_is c.self.inside.slots c.take_out.new.slots len))
    (kept_remove c.self.inside.keys.items c.self.inside.slots.items c.take_out.new.slots c.args.name
    c.self.invariant low (rw keys at c.take_out.ensures.table))

pub returns-then-is_some : goal.returns-then-is_some
returns-then-is_some c = record {
  exact = set_none c.self.inside.keys.items c.args.name
      ∙ ap (λ (w : List (Option ℕ)). set w c.args.name None) c.self.view_is;
}
