use Rattle.std.proofs.Common.{List, ℕ, [], ◌∷◌, ◌++◌, length, map, String, Global, string_bytes, ap, ◌∙◌, arith}
use Rattle.pp_settings.specs.declared.extent.Extent.{Extent}
use Rattle.pp_settings.specs.Settings.{NamedRegion, named}
use Rattle.pp_settings.proofs.Named.{kept_length, kept_more}
use Rattle.pp_settings.proofs.regions.Regions.push.Goals as goal

pub push-requires-2 : goal.push-requires-2
push-requires-2 c =
    let long = kept_length c.self.inside.names.items c.self.inside.extents c.self.invariant in
    let same = ap (λ (rs : List NamedRegion). length rs) c.self.view_is in
    omega (arith, long, same, c.requires)

pub returns-clause-adds : goal.returns-clause-adds
returns-clause-adds c =
    let names = c.self.inside.names.items in
    let extents = c.self.inside.extents in
    let kept = c.in_ok-kept.kept in
    ap (λ (ss : List (String Global)). named (map string_bytes ss) c.push-2.new.self) c.in_ok-push.ensures.items
    ∙ ap (λ (es : List Extent). named (map string_bytes (names ++ kept ∷ [])) es) c.push-2.ensures
    ∙ kept_more names extents kept c.args.extent c.self.invariant
    ∙ ap (λ (rs : List NamedRegion).
    rs ++ record { name = string_bytes kept; extent = c.args.extent } ∷ []) c.self.view_is
    ∙ ap (λ (n : List ℕ). c.args.self.now ++ record { name = n; extent = c.args.extent } ∷ []) c.in_ok-kept.ensures.ok
