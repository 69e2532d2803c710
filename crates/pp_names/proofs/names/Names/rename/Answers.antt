-- What is left to show of Names::rename.
use Rattle.std.proofs.Common.{◌≡◌, ℕ, true, set, List, Option, Some, ap, ◌∙◌}
use Rattle.std.specs.Prelude.{is_some}
use Rattle.pp_names.specs.Names.{key_of}
use Rattle.pp_names.proofs.OrderLemmas.{ordered-rename, renamed_key}
use Rattle.pp_names.proofs.names.Names.rename.Goals as goal

pub invariant_of-self : goal.invariant_of-self
invariant_of-self c =
    let some : is_some (key_of c.self.inside.table c.args.name) ≡ true =
    ap (λ (w : List (Option ℕ)). is_some (key_of w c.args.name)) c.self.view_is ∙ c.requires.used in
    let exact : c.insert.new.self ≡ set c.self.inside.table c.args.name (Some c.args.key) =
    c.insert.ensures.exact ∙ ap (λ (w : List (Option ℕ)). set w c.args.name (Some c.args.key)) c.remove.ensures.exact
    ∙ renamed_key c.self.inside.table c.args.name c.args.key in
    rw exact (ordered-rename c.self.inside.table c.self.inside.order.items c.self.inside.used c.args.name c.args.key
    c.self.invariant some)

pub returns : goal.returns
returns c = record {
  exact = c.insert.ensures.exact ∙ ap (λ (w : List (Option ℕ)). set w c.args.name (Some c.args.key)) c.remove.ensures.exact
      ∙ renamed_key c.self.inside.table c.args.name c.args.key
      ∙ ap (λ (w : List (Option ℕ)). set w c.args.name (Some c.args.key)) c.self.view_is;
}
