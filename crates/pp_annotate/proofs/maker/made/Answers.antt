use Rattle.std.proofs.Common.{◌≡◌, ◌≤◌, List, [], ◌∷◌, length, ap, sym, subst, ◌∙◌, arith}
use Rattle.std.specs.Prelude.{All}
use Rattle.pp_plan.specs.Tree.{Sequence}
use Rattle.pp_plan.specs.Rules.{uses_bundle}
use Rattle.pp_annotate.specs.Made.{sequence_notes, made_notes, greatest}
use Rattle.pp_cert.specs.Limits.{most_counted, most_entries}
use Rattle.pp_cert.specs.Notes.{Entries}
use Rattle.pp_annotate.proofs.Small.{made_small}
use Rattle.pp_annotate.proofs.Writable.{made_few}
use Rattle.pp_annotate.proofs.maker.made.Goals as goal

pub overflow_cast-peak : goal.overflow_cast-peak
overflow_cast-peak c =
    let p = c.args.plan.now in
    let are = c.deref.ensures.value ∙ c.in_ok-notes.ensures
    ∙ ap (λ (b : Sequence). [] ∷ sequence_notes (most_counted p.layout) (uses_bundle p.body) b []) c.body-stmts.ensures.is in
    let peak : c.greatest-peak.result ≡ greatest (made_notes p) = c.greatest-peak.ensures ∙ ap greatest are in
    omega (arith, peak, made_small p c.body-stmts.ensures.facts)

pub returns-clause-few : goal.returns-clause-few
returns-clause-few c =
    let p = c.args.plan.now in
    let are : c.in_ok-notes.notes.items ≡ made_notes p = c.in_ok-notes.ensures
    ∙ ap (λ (b : Sequence). [] ∷ sequence_notes (most_counted p.layout) (uses_bundle p.body) b []) c.body-stmts.ensures.is in
    subst (λ (ns : List Entries). All (λ (n : Entries). length n ≤ most_entries) ns) (sym are)
    (made_few p c.body-stmts.ensures.facts)
