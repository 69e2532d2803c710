-- What is left to show of Table::insert.
use Rattle.std.proofs.Common.{◌≡◌, ℕ, ◌<◌, Option, Some, List, length, set, subst, sym, ap, ◌∙◌, arith}
use Rattle.std.proofs.lemmas.List.{with_items_is, length-map}
use Rattle.pp_names.specs.Names.{IsUnnamed}
use Rattle.pp_names.specs.Kept.{as_key, keys_of, IsKept}
use Rattle.pp_names.proofs.TableLemmas.{kept_insert, set_key}
use Rattle.pp_names.proofs.table.Table.insert.Goals as goal

pub invariant_of-self : goal.invariant_of-self
invariant_of-self c =
    let keys : c.deref.result.now ≡ c.self.inside.keys.items = cc (c.deref.ensures.value) in
    let slots : c.deref_mut.result.now ≡ c.self.inside.slots.items = cc (c.deref_mut.ensures.value) in
    let len : length c.put.new.slots ≡ c.self.inside.slots.len = omega
    (arith, c.put.auto.slots, ap (length {A = ℕ}) slots, c.self.inside.slots.ok.0) in
    let low : c.args.name < length c.self.inside.keys.items =
    omega (arith, c.requires.name, ap (length {A = Option ℕ}) c.self.view_is, length-map c.self.inside.keys.items as_key) in
    let new : IsUnnamed (keys_of c.self.inside.keys.items) c.args.key =
    subst (λ (w : List (Option ℕ)). IsUnnamed w c.args.key) (sym c.self.view_is) c.requires.unnamed in
    subst (IsKept (set c.self.inside.keys.items c.args.name c.args.key))
    (sym (with_items_is c.self.inside.slots c.put.new.slots len))
    (kept_insert c.self.inside.keys.items c.self.inside.slots.items c.put.new.slots c.args.name c.args.key
    c.self.invariant low c.requires.key new (rw keys at c.put.ensures.table))

pub returns : goal.returns
returns c = record {
  exact = set_key c.self.inside.keys.items c.args.name c.args.key (omega (arith, c.requires.key))
      ∙ ap (λ (w : List (Option ℕ)). set w c.args.name (Some c.args.key)) c.self.view_is;
}
