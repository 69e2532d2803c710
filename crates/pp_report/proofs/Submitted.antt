-- The plan that an auditor submits is the next one that waits.
use Rattle.std.proofs.Common.{◌≡◌, ◌∙◌, ℕ, true, Option, Some, None, [], ◌∷◌, ◌++◌, length, reverse, refl, sym, ap, subst, arith}
use Rattle.std.specs.Prelude.{◌==◌, if◌then◌else◌}
use Rattle.std.proofs.lemmas.Bool.Decides.{nat_tests}
use Rattle.std.proofs.lemmas.List.{reverse-append}
use Rattle.pp_cert.specs.Accepted.{Acceptance}
use Rattle.pp_model.specs.declared.refusals.SubmitError.{SubmitError}
use Rattle.pp_model.specs.declared.refusals.SubmitError.TheVariants.{OtherSettings, TooManyPlans, JournalLimit, NotPrepared}
use Rattle.pp_model.specs.Pool.{Settings}
use Rattle.pp_model.specs.Submitting.{submit_error}
use Rattle.pp_model.proofs.Alone.{submit_leaves}
use Rattle.pp_core.specs.Parts.{Parts}
use Rattle.pp_core.specs.StandsFor.{StandsFor}
use Rattle.pp_core.specs.Submits.{TakesIn, SubmitFails}
use Rattle.pp_report.specs.declared.auditor.Auditor.{Auditor}
use Rattle.pp_report.specs.declared.line.Asked.TheVariants as asked
use Rattle.pp_report.specs.declared.line.Told.TheVariants.{Queued}
use Rattle.pp_report.specs.Auditing.{Progress, told_unless, told_plan, told_to, after_next}
use Rattle.pp_report.specs.Auditors.{IsAt, progress_after}

module _ (was now : Auditor) (number : ℕ) (a : Acceptance) (pops : was.waiting.items ≡ now.waiting.items ++ a ∷ [])
    (p : Progress) (at : IsAt was p) (next : number ≡ length p.state.plans) where
  waits : p.waiting ≡ a ∷ reverse now.waiting.items
  waits = sym at.waiting ∙ ap reverse pops ∙ reverse-append now.waiting.items (a ∷ [])

  is_next : (number == length p.state.plans) ≡ true
  is_next = grind (arith, nat_tests)

  told : (o : Option SubmitError) → submit_error p.state a ≡ o → told_unless o ≡ told_to p (asked.Submit number)
  told o e =
      sym (ap (told_plan p.state number) waits
      ∙ ap (λ b. if b then told_unless (submit_error p.state a) else None) is_next ∙ ap told_unless e)

  -- In a bounded life the model says why one is refused.
  refused_so : (e : SubmitError) → SubmitFails was.core a e → submit_error p.state a ≡ Some e
  refused_so OtherSettings fails = fails.1 p.state at.stands
  refused_so TooManyPlans fails = fails.1 p.state at.stands
  refused_so JournalLimit fails = fails.1 p.state at.stands
  refused_so NotPrepared fails = absurd (fails (at.stands.span ∙ at.bounded))

  -- One that is taken in waits no more.
  pub taken : (core : Parts) (id : ℕ) → TakesIn was.core a id core
      → (Some Queued ≡ told_to p (asked.Submit number))
      × IsAt (record now { core = core }) (progress_after p (asked.Submit number) (Some Queued))
  taken core id takes = (
    told None (takes.allowed p.state at.stands),
    subst (λ ps. IsAt (record now { core = core }) (after_next p.state ps)) (sym waits)
        (record {
          stands = takes.stands p.state at.stands;
          bounded = ap (λ (j : Settings). j.span) (submit_leaves p.state a).1 ∙ at.bounded;
          waiting = refl;
        }),
  )

  -- One that is refused waits on, the next as before.
  pub refused : (left : Auditor) (e : SubmitError) → SubmitFails was.core a e → left.core ≡ was.core
      → left.waiting.items ≡ now.waiting.items ++ a ∷ []
      → (None ≡ told_to p (asked.Submit number)) × IsAt left p
  refused left e fails same back = (
    told (Some e) (refused_so e fails),
    record {
      stands = subst (λ f. StandsFor f p.state) (sym same) at.stands;
      bounded = at.bounded;
      waiting = ap reverse (back ∙ sym pops) ∙ at.waiting;
    },
  )
