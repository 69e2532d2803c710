use Rattle.pp_hall.specs.Seatings.{Parts}
use Rattle.pp_hall.proofs.Keeping.{performed}
use Rattle.pp_hall.proofs.seating.SeatingSite.perform.Goals as goal

pub invariant_of-self : goal.invariant_of-self
invariant_of-self c =
    performed (record {
      vault = c.self.inside.site.vault;
      frames = c.self.inside.frames;
      peaks = c.self.inside.peaks.items;
      counts = c.self.inside.counts;
    }) c.self.inside.out c.self.invariant c.args.request c.perform-response.result c.perform-response.new.self.vault
    c.count.new.self c.perform-response.ensures.given.0
