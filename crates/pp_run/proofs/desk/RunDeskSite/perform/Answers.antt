use Rattle.std.proofs.Common.{◌∙◌, length}
use Rattle.pp_run.proofs.Begun.{performs_submits, performs_moves}
use Rattle.pp_run.proofs.Paged.{performs_pages}
use Rattle.pp_run.proofs.desk.RunDeskSite.perform.Goals as goal

pub invariant_of-self : goal.invariant_of-self
invariant_of-self g c =
    let d = c.args.self.now in
    let n = length g.N.Naming.plans in
    let p = c.perform-response.ensures.given in
    let new = c.perform-response.new.self.book in
    record {
      settings = p.settings ∙ d.settings;
      plans = p.plans ∙ d.plans;
      outset = p.outset ∙ d.outset;
      page_bytes = performs_pages d.site.book c.args.request c.perform-response.result new p ∙ d.page_bytes;
      begun = performs_submits n d.site.book c.args.request c.perform-response.result new p d.begun;
      moving = performs_moves n d.site.book c.args.request c.perform-response.result new p d.begun d.moving;
    }
