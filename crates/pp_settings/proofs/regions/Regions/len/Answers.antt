use Rattle.std.proofs.Common.{List, length, sym, ap, ◌∙◌}
use Rattle.pp_settings.specs.declared.extent.Extent.{Extent}
use Rattle.pp_settings.specs.Settings.{NamedRegion}
use Rattle.pp_settings.proofs.Named.{kept_length}
use Rattle.pp_settings.proofs.regions.Regions.len.Goals as goal

pub returns-clause-is : goal.returns-clause-is
returns-clause-is c =
    ap (λ (es : List Extent). length es) c.as_slice.ensures.are
    ∙ sym (kept_length c.self.inside.names.items c.self.inside.extents c.self.invariant)
    ∙ ap (λ (rs : List NamedRegion). length rs) c.self.view_is
