use Rattle.std.proofs.Common.{List, ℕ, ◌<◌, Option, IfSome, length, String, Global, string_bytes, rules, tests, sym, ap}
use Rattle.std.proofs.Common.{subst, ◌∙◌}
use Rattle.std.specs.List.{position}
use Rattle.std.specs.Str.{bytes_eq}
use Rattle.std.proofs.lemmas.Iterator.{YieldsList-from_slice}
use Rattle.std.proofs.lemmas.Iterator.Search.{position_from_yields_List}
use Rattle.pp_settings.specs.Settings.{Configuration, region_named}
use Rattle.pp_settings.proofs.Kept.{named_below}
use Rattle.pp_settings.proofs.Named.{position_name}
use Rattle.pp_settings.proofs.settings.Settings.place_named.Goals as goal

pub returns-clause-is : goal.returns-clause-is
returns-clause-is c =
    position_from_yields_List (λ (s : String Global). bytes_eq (string_bytes s) c.args.name.now) _ _ c.position.result
    c.position.ensures.ran (YieldsList-from_slice _ c.iter.ensures.rest) (λ x b q k. search (rules, tests))
    ∙ ap (position (λ (s : String Global). bytes_eq (string_bytes s) c.args.name.now)) c.deref.ensures.value
    ∙ position_name (λ (n : List ℕ). bytes_eq n c.args.name.now) c.self.inside.names.items
    c.self.inside.layout.extents c.self.invariant.beside
    ∙ ap (λ (d : Configuration). region_named d c.args.name.now) c.self.view_is

pub returns-clause-below : goal.returns-clause-below
returns-clause-below c =
    subst (λ (o : Option ℕ). IfSome o (λ place. place < length c.args.self.now.regions))
    (sym (returns-clause-is c)) (named_below c.args.self.now c.args.name.now)
