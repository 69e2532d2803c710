use Rattle.std.proofs.Common.{List, ℕ, String, Global, string_bytes, rules, tests, ap, ◌∙◌}
use Rattle.std.specs.List.{list_any}
use Rattle.std.specs.Str.{bytes_eq}
use Rattle.std.proofs.lemmas.Iterator.{YieldsList-from_slice}
use Rattle.std.proofs.lemmas.Iterator.Search.{any_from_yields_List}
use Rattle.pp_settings.specs.Reading.{has_name}
use Rattle.pp_settings.proofs.Named.{any_name}
use Rattle.pp_settings.proofs.regions.Regions.has_name.Goals as goal

pub returns : goal.returns
returns c =
    any_from_yields_List (λ (s : String Global). bytes_eq (string_bytes s) c.args.name.now) _ _ c.any.result
    c.any.ensures.ran (YieldsList-from_slice _ c.iter.ensures.rest) (λ x b q k. search (rules, tests))
    ∙ ap (list_any (λ (s : String Global). bytes_eq (string_bytes s) c.args.name.now)) c.deref.ensures.value
    ∙ any_name (λ (n : List ℕ). bytes_eq n c.args.name.now) c.self.inside.names.items c.self.inside.extents
    c.self.invariant
    ∙ ap (list_any (has_name c.args.name.now)) c.self.view_is
