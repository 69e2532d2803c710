-- What a run makes of a pool that is kept, and of a new one.
use Rattle.std.proofs.Common.{◌≡◌, ◌∙◌, ℕ, List, length, take, drop, sym, ap, subst, inr, arith}
use Rattle.std.specs.Prelude.{◌⊎◌, IsOk}
use Rattle.std.specs.List.{list_all}
use Rattle.pp_cert.specs.Accepted.{Acceptance}
use Rattle.pp_core.specs.Opening.{kept_of}
use Rattle.pp_model.specs.declared.event.Event.{Event}
use Rattle.pp_model.specs.Pool.{State, Settings, opening}
use Rattle.pp_model.specs.Journals.{replay}
use Rattle.pp_model.specs.Lives.{IsLife}
use Rattle.pp_model.specs.Renewing.{renewed}
use Rattle.pp_model.specs.Submitting.{after_submits}
use Rattle.pp_outset.specs.Outsets.{new_outset, outset_of}
use Rattle.pp_pool.specs.Books.{IsBook}
use Rattle.pp_pool.specs.Parts.{Parts, settings_of, plans_of, opening_of, state_of}
use Rattle.pp_report.specs.declared.record.RunRecord.{RunRecord}
use Rattle.pp_report.specs.Audits.{IsOver, IsWhole}
use Rattle.pp_report.specs.Reports.{is_move}
use Rattle.pp_settings.specs.Settings.{Configuration}
use Rattle.pp_vault.specs.declared.hands.Hands.{Hands}
use Rattle.pp_run.specs.declared.error.RunError.{RunError}
use Rattle.pp_run.specs.declared.error.RunError.TheVariants.{Refused, OutOfMemory, Mismatch, Broken, NoThread}
use Rattle.pp_run.specs.declared.stalled.Stalled.{Stalled}
use Rattle.pp_run.specs.Calling.{sought_behind}
use Rattle.pp_run.specs.Joins.{IsAnswer, IsAnswerFrom}
use Rattle.pp_run.specs.Rested.{Rested, ComesBack, IsEnd, IsNotRenewed, KeptFor}
use Rattle.pp_run.specs.Rested as rested
use Rattle.pp_run.specs.Runs.{AllCalled, IsRun, IsRunFrom, IsRunError, IsRunErrorFrom}
use Rattle.pp_run.specs.Unrun.{IsStopped, MayStop}
use Rattle.pp_run.proofs.Ran.{opened_new, ran, ran_over, ran_whole, same_end}

-- ---- the next life

pub life_of : (o : State) (plans : List Acceptance) (b : Parts) (events : List Event) → opening_of b ≡ o → plans_of b ≡ plans
    → events ≡ b.journal → IsLife (opening_of b) (record { plans = plans_of b; journal = b.journal })
    → IsLife o (record { plans = plans; journal = events })
life_of o plans b events opened planned journal is =
    subst (λ es. IsLife o (record { plans = plans; journal = es })) (sym journal)
    (subst (λ ps. IsLife o (record { plans = ps; journal = b.journal })) planned
    (subst (λ s. IsLife s (record { plans = plans_of b; journal = b.journal })) opened is))

pub over_of : (o : State) (plans : List Acceptance) (b : Parts) (dirty : ℕ) (events : List Event) → IsEnd o plans b dirty
    → IsBook b → events ≡ b.journal → IsOver plans (replay plans o events)
over_of o plans b dirty events end book journal =
    subst (λ es. IsOver plans (replay plans o es)) (sym journal) (ran_over o plans b dirty end book)

pub comes_back : (p q : Rested) (plans : List Acceptance) (b : Parts) (dirty bytes from : ℕ) (events : List Event)
    → IsEnd (rested.opening_of p) plans b dirty → events ≡ b.journal → q.settings ≡ settings_of b → q.page_bytes ≡ bytes
    → bytes ≡ p.page_bytes → q.began ≡ outset_of (state_of b) → rested.opening_of q ≡ renewed (state_of b)
    → q.from ≡ sought_behind from b.journal → from ≡ p.from → ComesBack p plans events q
comes_back p q plans b dirty bytes from events end journal settings page_bytes same began opens sought at =
    let o = rested.opening_of p in
    let there : state_of b ≡ replay plans o events
    = same_end o plans b end.opened end.planned ∙ ap (replay plans o) (sym journal) in
    record {
      settings = settings ∙ ap (λ (s : State). s.settings) end.opened;
      page_bytes = page_bytes ∙ same;
      began = began ∙ ap outset_of there;
      opens = opens ∙ ap renewed there;
      from = sought ∙ (ap (λ n. sought_behind n b.journal) at ∙ ap (sought_behind p.from) (sym journal));
    }

pub called_on : {D : Type 0} (calls failures : D → ℕ) (workers : ℕ) (devices : List D) (old events : List Event)
    (back given : List D) → AllCalled calls failures workers devices old back → events ≡ old → given ≡ back
    → AllCalled calls failures workers devices events given
called_on calls failures workers devices old events back given called journal same =
    subst (λ es. AllCalled calls failures workers devices es given) (sym journal)
    (subst (λ ds. AllCalled calls failures workers devices old ds) (sym same) called)

-- ---- no next life

pub kept_verdict : {D : Type 0} (calls failures : D → ℕ) (o : State) (plans : List Acceptance) (devices : List D) (b c : Parts)
    (dirty : ℕ) (hands : Hands) (error : RunError) → IsEnd o plans b dirty → c ≡ b → KeptFor b hands error
    → IsAnswerFrom calls failures o plans devices error ⊎ IsNotRenewed o plans c hands error
kept_verdict calls failures o plans devices b c dirty hands (Refused error) end same kept = absurd kept
kept_verdict calls failures o plans devices b c dirty hands OutOfMemory end same kept = absurd kept
kept_verdict calls failures o plans devices b c dirty hands (Mismatch w) end same kept = absurd kept
kept_verdict calls failures o plans devices b c dirty hands (Broken w) end same kept =
    inr (subst (λ x. IsNotRenewed o plans x hands (Broken w)) (sym same) (
      kept.0 ∙ ap (λ (s : State). s.settings.workers) end.opened,
      record { end = subst (λ n. IsEnd o plans b n) end.newer end; cause = kept.1 },
    ))
kept_verdict calls failures o plans devices b c dirty hands (NoThread w) end same kept = absurd kept

pub kept_error : (o : State) (plans : List Acceptance) (b : Parts) (dirty : ℕ) (hands : Hands) (error : RunError)
    → IsOk (after_submits o plans) → IsEnd o plans b dirty → KeptFor b hands error → IsRunErrorFrom o plans error
kept_error o plans b dirty hands (Refused error) taken end kept = absurd kept
kept_error o plans b dirty hands OutOfMemory taken end kept = absurd kept
kept_error o plans b dirty hands (Mismatch w) taken end kept = absurd kept
kept_error o plans b dirty hands (Broken w) taken end kept =
    let is : w ≡ o.settings.workers = kept.0 ∙ ap (λ (s : State). s.settings.workers) end.opened in
    record { taken = taken; within = omega (arith, is) }
kept_error o plans b dirty hands (NoThread w) taken end kept = absurd kept

-- So a run is left that came to its end.
pub kept_stopped : (p : Rested) (plans : List Acceptance) (b : Parts) (dirty : ℕ) (s : Stalled)
    → IsEnd (rested.opening_of p) plans b dirty → s.book ≡ b → s.layout ≡ (settings_of s.book).layout
    → s.page_bytes ≡ p.page_bytes → s.from ≡ p.from → IsStopped (rested.opening_of p) p.page_bytes p.from plans s
kept_stopped p plans b dirty s end same laid page_bytes from =
    let opened : opening_of s.book ≡ rested.opening_of p = ap opening_of same ∙ end.opened in
    record {
      opened = opened;
      planned = ap plans_of same ∙ end.planned;
      submits_first = ap (λ (c : Parts). take (length plans) c.journal) same ∙ end.submits_first;
      then_moves = ap (λ (c : Parts). list_all is_move (drop (length plans) c.journal)) same ∙ end.then_moves;
      layout = laid ∙ ap (λ (o : State). o.settings.layout) opened;
      page_bytes = page_bytes;
      from = from;
    }

pub kept_may_stop : (b : Parts) (hands : Hands) (error : RunError) → KeptFor b hands error → MayStop error
kept_may_stop b hands (Refused error) kept = absurd kept
kept_may_stop b hands OutOfMemory kept = tt
kept_may_stop b hands (Mismatch w) kept = tt
kept_may_stop b hands (Broken w) kept = tt
kept_may_stop b hands (NoThread w) kept = tt

-- ---- a new pool

module _ (k : Settings) (p : Rested) (of_settings : p.settings ≡ k) (began : p.began ≡ new_outset k) where
  at_new : (P : State → Type 0) → P (rested.opening_of p) → P (opening k)
  at_new P h = subst P (opened_new k p of_settings began) h

  pub new_run : (plans : List Acceptance) (b : Parts) (dirty : ℕ) (r : RunRecord) → IsEnd (rested.opening_of p) plans b dirty
      → IsBook b → r.events.items ≡ b.journal → r.plans ≡ length plans → r.dirty ≡ dirty → IsRun k plans r
  new_run plans b dirty r end book journal count newer =
      at_new (λ o. IsRunFrom o plans r) (ran (rested.opening_of p) plans b dirty r end book journal count newer)

  pub new_error : (plans : List Acceptance) (error : RunError) → IsRunErrorFrom (rested.opening_of p) plans error
      → IsRunError k plans error
  new_error plans error is = at_new (λ o. IsRunErrorFrom o plans error) is

  pub new_answer : {D : Type 0} (calls failures : D → ℕ) (plans : List Acceptance) (devices : List D) (error : RunError)
      → IsAnswerFrom calls failures (rested.opening_of p) plans devices error → IsAnswer calls failures k plans devices error
  new_answer calls failures plans devices error is = at_new (λ o. IsAnswerFrom calls failures o plans devices error) is

pub new_whole : (c : Configuration) (p : Rested) (plans : List Acceptance) (b : Parts) (dirty : ℕ) (events : List Event)
    → p.settings ≡ kept_of c → p.began ≡ new_outset (kept_of c) → IsEnd (rested.opening_of p) plans b dirty → IsBook b
    → events ≡ b.journal → IsWhole c plans events
new_whole c p plans b dirty events of_settings began end book journal =
    subst (λ es. IsWhole c plans es) (sym journal)
    (ran_whole c plans b dirty (subst (λ o. IsEnd o plans b dirty) (opened_new (kept_of c) p of_settings began) end) book)
