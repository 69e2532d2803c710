use Rattle.std.proofs.Common.{◌≡◌, ◌≤◌, Some, None, sym, subst}
use Rattle.std.specs.Prelude.{slice_get}
use Rattle.pp_hall.specs.Seatings.{Parts, room_of, first_home}
use Rattle.pp_hall.proofs.Keeping.{sent_keeps}
use Rattle.pp_hall.proofs.seating.Seating.send_out.Goals as goal

pub invariant_of-self : goal.invariant_of-self
invariant_of-self c =
    let x : Parts = record {
      vault = c.self.inside.site.vault;
      frames = c.self.inside.frames;
      peaks = c.self.inside.peaks.items;
      counts = c.self.inside.counts;
    } in
    sent_keeps x c.self.inside.out c.self.invariant c.args.chair c.args.peak
    (subst (λ (p : Parts). slice_get p.peaks c.args.chair ≡ Some None) (sym c.self.view_is) c.requires.home)
    (subst (λ (p : Parts). c.args.peak ≤ room_of p) (sym c.self.view_is) c.requires.room)
    (subst (λ (p : Parts). first_home p.peaks ≡ Some c.args.chair) (sym c.self.view_is) c.requires.some)
