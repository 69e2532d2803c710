use Rattle.std.proofs.Common.{◌≡◌, ◌∙◌, ◌≤◌, true, false, map, length, Err, sym, ap, subst, arith, rules}
use Rattle.pp_segments.specs.Auditing.{pass_lines, is_over}
use Rattle.pp_segments.specs.Auditors.{PassesAll}
use Rattle.pp_segments.specs.Audits.{counts}
use Rattle.pp_segments.proofs.Passing.{text_on, text_stops, text_at, texts_end}
use Rattle.pp_segments.proofs.Whole.{comes_to, stops_with, left_over, gives_err}
use Rattle.pp_segments.proofs.auditing.verdict.Goals as goal
use Rattle.pp_segments.proofs.auditing.verdict.Goals.{else-ended-via-then-ended+else-not-is_over}
use Rattle.pp_segments.proofs.auditing.verdict.Goals.{else-ended-via-else-ended}

pub returns-in_err-pass_segment : goal.returns-in_err-pass_segment
returns-in_err-pass_segment c =
    let (begins, q, at, e) = c.loop-text.invariant in
    let prepared = c.args.prepared.items in
    let texts = map (λ text. text.now) c.args.texts.now in
    let i = c.loop-text.text-index in
    let done = subst (PassesAll prepared c.pass_segment.new.self _) c.in_err-pass_segment.was
    (c.pass_segment.ensures.passes prepared q at) in
    let wrong = e ∙ text_stops prepared c.pass_segment.new.self q texts i c.in_err-pass_segment.field-0.0 _
    (text_at c.args.texts.now i _ c.loop-text-test.true) done in
    let result : c.from_residual-in_err-pass_segment.result ≡ Err c.in_err-pass_segment.field-0.0 = search rules in
    rw result (gives_err counts c.in_err-pass_segment.field-0.0 _
    (stops_with c.args.settings.now prepared c.args.ended texts c.in_err-pass_segment.field-0.0 begins wrong))

pub loop-text-preserved : goal.loop-text-preserved
loop-text-preserved c =
    let (begins, q, at, e) = c.loop-text.invariant in
    let prepared = c.args.prepared.items in
    let texts = map (λ text. text.now) c.args.texts.now in
    let i = c.loop-text.text-index in
    let done = subst (PassesAll prepared c.pass_segment.new.self _) c.in_ok-pass_segment.was
    (c.pass_segment.ensures.passes prepared q at) in
    let (r, there, f) = text_on prepared c.pass_segment.new.self q texts i c.in_ok-pass_segment.field-0 _
    (text_at c.args.texts.now i _ c.loop-text-test.true) done in
    (begins, r, there, e ∙ f)

pub returns-then-not-is_over : goal.returns-then-not-is_over
returns-then-not-is_over c =
    let (begins, q, at, e) = c.loop-text.invariant in
    let prepared = c.args.prepared.items in
    let texts = map (λ text. text.now) c.args.texts.now in
    let i = c.loop-text.text-index in
    let past : length c.args.texts.now ≤ i = omega (arith, c.loop-text-test.false) in
    let passes = e ∙ ap (pass_lines prepared q) (texts_end c.args.texts.now i past) in
    let wanted : c.args.ended ≡ true = search rules in
    let not_over : c.is_over.result ≡ false = search rules in
    let left : is_over q ≡ false = sym (c.is_over.ensures prepared q at) ∙ not_over in
    left_over c.args.settings.now prepared c.args.ended texts q begins passes wanted left

pub returns : goal.returns
returns c =
    let (begins, q, at, e) = c.loop-text.invariant in
    let prepared = c.args.prepared.items in
    let texts = map (λ text. text.now) c.args.texts.now in
    let i = c.loop-text.text-index in
    let past : length c.args.texts.now ≤ i = omega (arith, c.loop-text-test.false) in
    let passes = e ∙ ap (pass_lines prepared q) (texts_end c.args.texts.now i past) in
    let over : c.args.ended ≡ true → is_over q ≡ true =
    elim c.else-ended.branch [
      | else-ended-via-then-ended+else-not-is_over w ↦ (λ h.
          let yes_over : w.is_over.result ≡ true = search rules in sym (w.is_over.ensures prepared q at) ∙ yes_over)
      | else-ended-via-else-ended w ↦ (λ h. let other : c.args.ended ≡ false = search rules in absurd cc)
    ] in
    comes_to c.args.settings.now prepared c.args.ended texts q c.lines.result c.segments.result begins passes over
    (c.lines.ensures prepared q at) (c.segments.ensures prepared q at)
