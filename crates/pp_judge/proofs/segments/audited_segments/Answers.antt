use Rattle.std.proofs.Common.{◌≡◌, ◌∙◌, true, false, sym, rules}
use Rattle.pp_segments.specs.Auditing.{is_over}
use Rattle.pp_judge.proofs.Segmented.{finished, unfinished}
use Rattle.pp_judge.proofs.segments.audited_segments.Goals as goal
use Rattle.pp_judge.proofs.segments.audited_segments.Goals.{else-ended-via-then-ended+else-not-is_over}
use Rattle.pp_judge.proofs.segments.audited_segments.Goals.{else-ended-via-else-ended}

pub returns-then-not-is_over : goal.returns-then-not-is_over
returns-then-not-is_over c = λ settings plans files h.
    let wanted : c.args.ended ≡ true = search rules in
    let left : c.is_over.result ≡ false = search rules in
    unfinished c.args.ended settings plans files c.args.auditor.now c.is_over.result c.is_over.ensures wanted left h

pub returns : goal.returns
returns c = λ settings plans files h.
    let over : c.args.ended ≡ true → is_over h.progress ≡ true =
    elim c.else-ended.branch [
      | else-ended-via-then-ended+else-not-is_over w ↦ (λ e.
          let yes_over : w.is_over.result ≡ true = search rules in
          sym (w.is_over.ensures h.pool.1 h.progress h.stands) ∙ yes_over)
      | else-ended-via-else-ended w ↦ (λ e. let other : c.args.ended ≡ false = search rules in absurd cc)
    ] in
    finished c.args.ended settings plans files c.args.auditor.now c.lines.result c.segments.result c.lines.ensures
    c.segments.ensures h over
