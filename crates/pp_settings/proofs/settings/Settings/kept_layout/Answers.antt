use Rattle.std.proofs.Common.{refl, sym, ap, subst, ◌∙◌}
use Rattle.pp_settings.specs.Kept.{configured}
use Rattle.pp_settings.specs.Layout.{IsLayout}
use Rattle.pp_settings.specs.Settings.{geometry_of}
use Rattle.pp_settings.proofs.Kept.{layout_is, layout_kept}
use Rattle.pp_settings.proofs.settings.Settings.kept_layout.Goals as goal

pub returns-clause-is : goal.returns-clause-is
returns-clause-is c =
    let s = c.self.inside in
    sym (layout_kept s.names.items s.layout (configured s) c.self.invariant.beside refl refl)
    ∙ ap geometry_of c.self.view_is

pub returns-clause-layout : goal.returns-clause-layout
returns-clause-layout c =
    let s = c.self.inside in
    subst IsLayout (layout_kept s.names.items s.layout (configured s) c.self.invariant.beside refl refl)
    (layout_is (configured s) c.self.invariant.limits)
