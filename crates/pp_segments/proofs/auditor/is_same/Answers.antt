use Rattle.std.proofs.Common.{◌≡◌, refl, ◌∙◌}
use Rattle.pp_report.specs.declared.line.Told.{Told}
use Rattle.pp_report.specs.declared.line.Told.TheVariants.{Queued, Answer}
use Rattle.pp_report.specs.contracts.line.ToldPartialEq.TheImpl as lines
use Rattle.pp_report.specs.Sameness.{same_told}
use Rattle.pp_report.proofs.Same.{reply_eq}
use Rattle.pp_segments.proofs.auditor.is_same.Goals as goal

told_eq : (x y : Told) → lines.eq-value.it x y ≡ same_told x y
told_eq Queued Queued = refl
told_eq (Answer r) (Answer q) = reply_eq r q
told_eq Queued (Answer q) = refl
told_eq (Answer r) Queued = refl

pub returns : goal.returns
returns c = c.eq.ensures ∙ told_eq c.args.left c.args.right
