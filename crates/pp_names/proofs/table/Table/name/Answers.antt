-- What is left to show of Table::name.
use Rattle.std.proofs.Common.{◌≡◌, ℕ, Option, List, subst, sym, ap, ◌∙◌}
use Rattle.pp_names.specs.Names.{key_of, IsUnnamed}
use Rattle.pp_names.proofs.TableLemmas.{found, unnamed, named_as}
use Rattle.pp_names.proofs.table.Table.name.Goals as goal

pub returns-clause-exact : goal.returns-clause-exact
returns-clause-exact c = λ name.
    let keys : c.deref-2.result.now ≡ c.self.inside.keys.items = cc (c.deref-2.ensures.value) in
    let some = rw keys at c.find.ensures.some in
    let nothing = rw keys at c.find.ensures.none in (
      λ is. let a = some name is in
          ap (λ (w : List (Option ℕ)). key_of w name) (sym c.self.view_is)
          ∙ named_as c.self.inside.keys.items name c.args.key a.0 a.1,
      λ is. found c.self.inside.keys.items c.self.inside.slots.items c.find.result c.args.key name c.self.invariant some nothing
          (ap (λ (w : List (Option ℕ)). key_of w name) c.self.view_is ∙ is),
    )

pub returns-clause-none : goal.returns-clause-none
returns-clause-none c = λ is.
    let keys : c.deref-2.result.now ≡ c.self.inside.keys.items = cc (c.deref-2.ensures.value) in
    let nothing = rw keys at c.find.ensures.none in
    subst (λ (w : List (Option ℕ)). IsUnnamed w c.args.key) c.self.view_is
    (unnamed c.self.inside.keys.items c.find.result c.args.key nothing is)
