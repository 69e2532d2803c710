use Rattle.pp_report.specs.declared.figure.Figure.TheVariants as figure
use Rattle.pp_draw.proofs.totals.Totals.with.Goals as goal

pub more-requires : goal.more-requires
more-requires c = c.requires figure.Moves

pub more-requires-2 : goal.more-requires-2
more-requires-2 c = c.requires figure.Hits

pub more-requires-3 : goal.more-requires-3
more-requires-3 c = c.requires figure.Loads

pub more-requires-4 : goal.more-requires-4
more-requires-4 c = c.requires figure.ReadFaults

pub more-requires-5 : goal.more-requires-5
more-requires-5 c = c.requires figure.Misreads

pub more-requires-6 : goal.more-requires-6
more-requires-6 c = c.requires figure.WriteBacks

pub more-requires-7 : goal.more-requires-7
more-requires-7 c = c.requires figure.WriteFaults

pub more-requires-8 : goal.more-requires-8
more-requires-8 c = c.requires figure.Flushes
