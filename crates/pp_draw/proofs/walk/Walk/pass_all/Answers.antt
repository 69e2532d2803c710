use Rattle.std.proofs.Common.{◌+◌, arith, subst, ◌∙◌, []}
use Rattle.pp_report.specs.Journals.{journal_lines}
use Rattle.pp_draw.specs.Counted.{count_of, total_of, turns_from}
use Rattle.pp_draw.specs.Drawing.{Begins}
use Rattle.pp_draw.specs.Walks.{Passed}
use Rattle.pp_draw.proofs.Counting.{fits_more, total_goes_on, totals_end, turns_end, turns_go_on}
use Rattle.pp_draw.proofs.Drawn.{one_more, stepped, all_drawn, ended}
use Rattle.pp_draw.proofs.walk.Walk.pass_all.Goals as goal

pub loop-left-preserved : goal.loop-left-preserved
loop-left-preserved c =
    let line = c.first_line.result.0.now in
    let after = journal_lines c.first_line.result.1.now in
    let left = journal_lines c.loop-left.left.now in
    let n = c.loop-left.lines in
    let counts = c.in_ok-pass.ensures.counted in record {
      counted = omega (arith, c.first_line.ensures.shorter);
      goes = λ p at.
          let (q, here, e, goes) = c.loop-left.invariant.goes p at in
          let extent = c.args.extent.now in
          let (r, fresh, passed, there, news, begins) =
          subst (λ o. Passed extent c.ends_column-ends.result (n + 1) q line c.loop-left.self c.pass.new.self o)
          c.in_ok-pass.was (c.pass.ensures.passed q here) in
          let begun = subst (λ b. Begins extent b (n + 1) r.state fresh []) c.ends_column-ends.ensures begins in (
            r,
            there,
            e ∙ stepped q r n left line after c.first_line.ensures.lines passed,
            one_more extent p q r n (journal_lines c.args.journal.now) left line after c.loop-left.self.columns.items fresh
                c.pass.new.self.columns.items goes c.first_line.ensures.lines passed begun news,
          );
      few = λ f. fits_more f n line c.loop-left.self.tally c.pass.new.self.tally (c.loop-left.invariant.few f) counts;
      totals = λ f.
          total_goes_on f n (count_of f (journal_lines c.args.journal.now)) line after left c.loop-left.self.tally
          c.pass.new.self.tally c.first_line.ensures.lines (c.loop-left.invariant.totals f) counts;
      turns =
          turns_go_on (n + 1) line after left c.loop-left.self.tally c.pass.new.self.tally
          (turns_from 1 (journal_lines c.args.journal.now)) c.first_line.ensures.lines counts c.loop-left.invariant.turns;
    }

pub returns-clause-drawn : goal.returns-clause-drawn
returns-clause-drawn c = λ p at.
    let (q, here, e, goes) = c.loop-left.invariant.goes p at in
    all_drawn c.args.extent.now p q c.loop-left.lines (journal_lines c.args.journal.now)
    (journal_lines c.loop-left.left.now) c.loop-left.self.columns.items goes
    (ended c.loop-left.left.now c.loop-left-test.ensures)

pub returns-clause-totals : goal.returns-clause-totals
returns-clause-totals c = λ f.
    totals_end f (total_of c.loop-left.self.tally.totals f) (count_of f (journal_lines c.args.journal.now))
    (journal_lines c.loop-left.left.now)
    (ended c.loop-left.left.now c.loop-left-test.ensures) (c.loop-left.invariant.totals f)

pub returns-clause-turns : goal.returns-clause-turns
returns-clause-turns c =
    turns_end (c.loop-left.lines + 1) (journal_lines c.loop-left.left.now) c.loop-left.self.tally.turns.items
    (turns_from 1 (journal_lines c.args.journal.now)) (ended c.loop-left.left.now c.loop-left-test.ensures)
    c.loop-left.invariant.turns
