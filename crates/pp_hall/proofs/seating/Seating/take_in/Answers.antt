use Rattle.std.proofs.Common.{◌≡◌, true, Some, None, sym, subst}
use Rattle.std.specs.Prelude.{slice_index_or}
use Rattle.pp_model.specs.Pool.{State}
use Rattle.pp_core.specs.Queries.{is_idle}
use Rattle.pp_vault.specs.StandsFor.{StandsFor}
use Rattle.pp_hall.specs.Seatings.{Parts}
use Rattle.pp_hall.proofs.Keeping.{home_keeps}
use Rattle.pp_hall.proofs.seating.Seating.take_in.Goals as goal

pub invariant_of-self : goal.invariant_of-self
invariant_of-self c =
    let x : Parts = record {
      vault = c.self.inside.site.vault;
      frames = c.self.inside.frames;
      peaks = c.self.inside.peaks.items;
      counts = c.self.inside.counts;
    } in
    home_keeps x c.self.inside.out c.self.invariant c.args.chair c.args.peak
    (subst (λ (p : Parts). slice_index_or p.peaks c.args.chair None ≡ Some c.args.peak) (sym c.self.view_is)
    c.requires.out)
    (subst (λ (p : Parts). (s : State) → StandsFor p.vault s → is_idle s c.args.chair ≡ true) (sym c.self.view_is)
    c.requires.idle)
