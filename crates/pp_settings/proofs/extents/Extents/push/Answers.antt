use Rattle.std.proofs.Common.{List, ◌<◌, length, sym, subst}
use Rattle.pp_settings.specs.declared.extent.Extent.{Extent}
use Rattle.pp_settings.proofs.Kept.{filled_more}
use Rattle.pp_settings.proofs.extents.Extents.push.Goals as goal

pub invariant_of-self : goal.invariant_of-self
invariant_of-self c =
    let room = subst (λ (es : List Extent). length es < 64) (sym c.self.view_is) c.requires in
    filled_more c.self.inside c.args.extent c.from.result c.self.invariant room c.from.ensures
