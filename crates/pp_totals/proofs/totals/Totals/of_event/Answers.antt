use Rattle.pp_report.specs.declared.figure.Figure.TheVariants as figure
use Rattle.pp_report.specs.Reports.{counts}
use Rattle.pp_totals.specs.Counting.{is_submit, is_take, is_done, is_gone}
use Rattle.pp_totals.proofs.Sums.{one}
use Rattle.pp_totals.proofs.totals.Totals.of_event.Goals as goal

pub returns : goal.returns
returns c =
    let e = c.args.event in
    λ i. record {
      submitted = one is_submit e _ _ c.is_submit.ensures c.from.ensures i;
      taken = one is_take e _ _ c.is_take.ensures c.from-2.ensures i;
      done = one is_done e _ _ c.is_done.ensures c.from-3.ensures i;
      gone = one is_gone e _ _ c.is_gone.ensures c.from-4.ensures i;
      moves = one (counts figure.Moves) e _ _ c.counts.ensures c.from-5.ensures i;
      hits = one (counts figure.Hits) e _ _ c.counts-2.ensures c.from-6.ensures i;
      loads = one (counts figure.Loads) e _ _ c.counts-3.ensures c.from-7.ensures i;
      read_faults = one (counts figure.ReadFaults) e _ _ c.counts-4.ensures c.from-8.ensures i;
      misreads = one (counts figure.Misreads) e _ _ c.counts-5.ensures c.from-9.ensures i;
      write_backs = one (counts figure.WriteBacks) e _ _ c.counts-6.ensures c.from-10.ensures i;
      write_faults = one (counts figure.WriteFaults) e _ _ c.counts-7.ensures c.from-11.ensures i;
      flushes = one (counts figure.Flushes) e _ _ c.counts-8.ensures c.from-12.ensures i;
    }
