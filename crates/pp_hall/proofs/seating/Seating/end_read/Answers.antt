use Rattle.pp_hall.proofs.Keeping.{ends_keep}
use Rattle.pp_hall.proofs.seating.Seating.end_read.Goals as goal

pub invariant_of-self : goal.invariant_of-self
invariant_of-self c =
    ends_keep (record {
      vault = c.self.inside.site.vault;
      frames = c.self.inside.frames;
      peaks = c.self.inside.peaks.items;
      counts = c.self.inside.counts;
    }) c.self.inside.out c.self.invariant c.args.session c.args.guard c.end_read.result c.end_read.new.self
    c.end_read.ensures.ok c.end_read.ensures.unchanged
