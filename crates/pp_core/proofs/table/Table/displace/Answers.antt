use Rattle.std.proofs.Common.{◌∙◌, ap}
use Rattle.pp_frames.specs.Marks.{frame_of}
use Rattle.pp_core.specs.Parts.{Parts}
use Rattle.pp_core.proofs.MapLaws.{frame_unpinned}
use Rattle.pp_core.proofs.table.Table.displace.Goals as goal

pub returns-clause-freed : goal.returns-clause-freed
returns-clause-freed c = λ frame e.
    c.clear.ensures.freed frame
    (ap (λ (p : Parts). frame_of p.marks c.args.page) c.unpin.ensures
    ∙ frame_unpinned c.args.self.now.marks c.args.page
    ∙ e)
