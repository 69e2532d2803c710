use Rattle.std.proofs.Common.{List, length, refl, sym, ap, subst, ◌∙◌}
use Rattle.pp_settings.specs.Kept.{configured}
use Rattle.pp_settings.specs.Layout.{Geometry, IsLayout}
use Rattle.pp_settings.specs.Settings.{NamedRegion, IsConfiguration}
use Rattle.pp_settings.specs.Views.{drafted}
use Rattle.pp_settings.proofs.Kept.{layout_is, layout_kept}
use Rattle.pp_settings.proofs.settings.settled.Goals as goal

pub new-requires : goal.new-requires
new-requires c =
    let d = c.args.draft in
    let g : Geometry = record { frames = d.frames; extents = c.regions.inside.extents } in
    subst IsLayout
    (layout_kept c.regions.inside.names.items g (drafted d) c.regions.invariant refl (sym c.regions.view_is))
    (layout_is (drafted d) c.requires)

pub returns : goal.returns
returns c =
    let d = c.args.draft in
    ap
    (λ (g : Geometry). configured (record {
      page_bytes = d.page_bytes;
      workers = d.workers;
      span = d.span;
      flushes = d.flushes;
      layout = g;
      names = c.regions.inside.names;
    }))
    c.new.ensures
    ∙ ap (λ (rs : List NamedRegion). record (drafted d) { regions = rs }) c.regions.view_is

pub invariant_of-result : goal.invariant_of-result
invariant_of-result c = record {
  beside = c.regions.invariant ∙ ap (λ (g : Geometry). length g.extents) (sym c.new.ensures);
  limits = subst IsConfiguration (sym (returns c)) c.requires;
}
