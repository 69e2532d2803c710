-- What is left of the two notes has the same pages where the whole notes have.
use Rattle.std.proofs.Common.{◌≡◌, ℕ, ◌+◌, true, false, get_or, drop, length, [], sym, ◌∙◌, ap, arith}
use Rattle.std.proofs.lemmas.List.{drop_all}
use Rattle.pp_cert.specs.declared.note.Entry.{Entry}
use Rattle.pp_cert.specs.declared.note.Entry.TheVariants.{Slot}
use Rattle.pp_cert.specs.declared.note.Held.TheVariants.{Free}
use Rattle.pp_cert.specs.Notes.{same_note, plain_part, skipped}
use Rattle.pp_cert.proofs.Pins.{nothing, bundle_passed, pages_short, pages_differ, pages_agree, pages_end}
use Rattle.pp_cert.proofs.entries.has_same_pages.Goals as goal
use Rattle.pp_cert.proofs.entries.has_same_pages.Goals.{then-not-is_bundle+in-Some+else-not-is_same_entry}
use Rattle.pp_cert.proofs.entries.has_same_pages.Goals.{else-not-is_bundle}

abbrev other : Entry
other = Slot 0 0 Free

pub returns-in_default : goal.returns-in_default
returns-in_default c =
    sym (pages_short c.args.left.now c.loop-entry.rest.now c.loop-entry.entry-index other c.loop-entry-test.true
    (sym c.is_bundle.ensures ∙ c.if-not-is_bundle.true)
    (nothing (skipped c.loop-entry.rest.now) c.skip_bundles.result.now c.skip_bundles.ensures c.in_default.ensures.cases))
    ∙ c.loop-entry.invariant

pub returns-then-not-is_same_entry : goal.returns-then-not-is_same_entry
returns-then-not-is_same_entry c =
    sym (pages_differ c.args.left.now c.loop-entry.rest.now c.loop-entry.entry-index other c.loop-entry-test.true
    c.in-Some.first.now c.in-Some.after.now (sym c.is_bundle.ensures ∙ c.if-not-is_bundle.true)
    (sym c.skip_bundles.ensures ∙ c.in-Some.ensures.cases.0) (sym c.is_same_entry.ensures ∙ c.if-not-is_same_entry.true))
    ∙ c.loop-entry.invariant

pub loop-entry-preserved : goal.loop-entry-preserved
loop-entry-preserved c =
    elim c.if-not-is_bundle.branch [
      | then-not-is_bundle+in-Some+else-not-is_same_entry w ↦ ap (λ n. same_note
          (plain_part (drop (c.loop-entry.entry-index + 1) c.args.left.now)) (plain_part n)) (λ i. (w.rest-is i).now)
          ∙ pages_agree c.args.left.now c.loop-entry.rest.now c.loop-entry.entry-index other c.loop-entry-test.true
          w.in-Some.first.now w.in-Some.after.now (sym c.is_bundle.ensures ∙ w.if-not-is_bundle.true)
          (sym w.skip_bundles.ensures ∙ w.in-Some.ensures.cases.0)
          (sym w.is_same_entry.ensures ∙ w.if-not-is_same_entry.false)
          ∙ c.loop-entry.invariant
      | else-not-is_bundle w ↦ ap (λ n. same_note (plain_part (drop (c.loop-entry.entry-index + 1) c.args.left.now))
          (plain_part n)) (λ i. (w.rest-is i).now)
          ∙ bundle_passed c.args.left.now c.loop-entry.rest.now c.loop-entry.entry-index other c.loop-entry-test.true
          (sym c.is_bundle.ensures ∙ w.if-not-is_bundle.false)
          ∙ c.loop-entry.invariant
    ]

pub returns : goal.returns
returns c =
    c.is_empty.ensures
    ∙ pages_end c.loop-entry.rest.now c.skip_bundles-2.result.now c.skip_bundles-2.ensures
    ∙ ap (λ n. same_note (plain_part n) (plain_part c.loop-entry.rest.now))
    (sym (drop_all c.loop-entry.entry-index c.args.left.now c.loop-entry-test.false))
    ∙ c.loop-entry.invariant
