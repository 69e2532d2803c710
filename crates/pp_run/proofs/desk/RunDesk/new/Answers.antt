use Rattle.std.proofs.Common.{length}
use Rattle.pp_run.proofs.Begun.{begins_with_submits, ends_with_submits}
use Rattle.pp_run.proofs.desk.RunDesk.new.Goals as goal

pub invariant_of-result : goal.invariant_of-result
invariant_of-result g c =
    let n = length g.N.Naming.plans in
    record {
      settings = c.requires.settings;
      plans = c.requires.plans;
      outset = c.requires.outset;
      page_bytes = c.requires.page_bytes;
      begun = begins_with_submits n c.args.book.journal c.requires.journal;
      moving = ends_with_submits n c.args.book.journal c.requires.journal;
    }
