use Rattle.std.proofs.Common.{◌<◌, ℕ, Some, length, get_or, string_bytes, String, Global, sym, ap, ◌∙◌, arith}
use Rattle.pp_settings.specs.Settings.{Configuration, name_of}
use Rattle.pp_settings.proofs.Named.{kept_length, name_at_place}
use Rattle.pp_settings.proofs.settings.Settings.name.Goals as goal

pub index-requires : goal.index-requires
index-requires c =
    let s = c.self.inside in
    let long = kept_length s.names.items s.layout.extents c.self.invariant.beside in
    let same = ap (λ (d : Configuration). length d.regions) c.self.view_is in
    omega (arith, long, same, c.self.invariant.beside, c.requires, c.from.ensures)

pub returns : goal.returns
returns c =
    let s = c.self.inside in
    let long = kept_length s.names.items s.layout.extents c.self.invariant.beside in
    let same = ap (λ (d : Configuration). length d.regions) c.self.view_is in
    let within : c.args.region < length s.names.items =
    omega (arith, long, same, c.self.invariant.beside, c.requires) in
    sym (ap (λ (d : Configuration). name_of d c.args.region) c.self.view_is)
    ∙ name_at_place s.names.items s.layout.extents c.args.region c.index.result.now c.self.invariant.beside within
    ∙ ap (λ (i : ℕ). Some (string_bytes (get_or s.names.items i c.index.result.now))) (sym c.from.ensures)
    ∙ ap (λ (n : String Global). Some (string_bytes n)) (sym c.index.ensures)
    ∙ ap Some (sym c.as_str.ensures.value)
