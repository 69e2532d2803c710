-- The text of a whole journal is audited.
use Rattle.std.proofs.Common.{◌≡◌, ◌∙◌, ◌≤◌, ◌<◌, ◌+◌, ℕ, true, List, [], ◌∷◌, length, drop, get_or, inl, refl, sym, ap, subst}
use Rattle.std.proofs.Common.{arith, add-one}
use Rattle.std.specs.Prelude.{not, Ok}
use Rattle.std.specs.List.{AllByRecursion}
use Rattle.std.proofs.Math.Seq.{drop-cons}
use Rattle.pp_settings.specs.Settings.{Configuration}
use Rattle.pp_settings.specs.declared.span.Span.TheVariants.{Bounded}
use Rattle.pp_cert.specs.Accepted.{Acceptance}
use Rattle.pp_model.specs.declared.event.Event.{Event}
use Rattle.pp_model.specs.declared.event.Event.TheVariants.{Submit, Step}
use Rattle.pp_model.specs.declared.reply.Reply.{Reply}
use Rattle.pp_model.specs.declared.reply.Reply.TheVariants.{Taken, Hit, MustRead, MustWrite, Failed, Loaded, Did}
use Rattle.pp_model.specs.declared.reply.Reply.TheVariants.{Latched, Unlatched, Finished, Flushing, Flushed}
use Rattle.pp_model.specs.declared.reply.Reply.TheVariants.{NotNow, OffPlan}
use Rattle.pp_model.specs.Pool.{Settings, State, opening}
use Rattle.pp_model.specs.Moves.{is_refusal}
use Rattle.pp_model.specs.Journals.{after_event, IsTrueAt, IsTrueFrom}
use Rattle.pp_core.specs.Opening.{kept_of}
use Rattle.pp_report.specs.Auditing.{auditing}
use Rattle.pp_report.specs.Audits.{IsWhole, IsAudited}
use Rattle.pp_report.specs.Lines.{HasNumbersOf, HasNumbers, FitsReply, FitsEvent, journal_words}
use Rattle.pp_report.proofs.Few.{Few, few_after, taken_submitted}
use Rattle.pp_report.proofs.Verdicts.{audited_again}

-- A reply that is no refusal may be told in a line, where the plan that it tells as taken was submitted.
told_fits : (n : ℕ) (r : Reply) → n ≤ 256 → HasNumbersOf r → not (is_refusal r) ≡ true
    → ((k : ℕ) → Taken k ≡ r → k < n) → FitsReply r
told_fits n (Taken plan) few h told taken = omega (arith, few, taken plan refl)
told_fits n (Hit frame mark) few h told taken = h
told_fits n (MustRead frame) few h told taken = h
told_fits n (MustWrite frame victim) few h told taken = h
told_fits n (Failed failure) few h told taken = h
told_fits n (Loaded mark) few h told taken = h
told_fits n Did few h told taken = h
told_fits n (Latched mark) few h told taken = h
told_fits n (Unlatched mark) few h told taken = h
told_fits n (Finished ending) few h told taken = h
told_fits n (Flushing mark) few h told taken = h
told_fits n (Flushed clean) few h told taken = h
told_fits n (NotNow delay) few h told taken = absurd cc
told_fits n (OffPlan cause) few h told taken = absurd cc

true_fits : (plans : List Acceptance) (s : State) (e : Event) → HasNumbers e → IsTrueAt plans s e → Few s → FitsEvent e
true_fits plans s (Submit plan) h t few = (omega (arith, t.next, few.plans), tt)
true_fits plans s (Step did reply) h t few = (
  h.0,
  told_fits (length s.plans) reply few.plans h.1 (subst (λ r. not (is_refusal r) ≡ true) (sym t.1) t.0)
      (λ k e. taken_submitted s did k (e ∙ t.1)),
)

pub all_fit : (plans : List Acceptance) (s : State) (es : List Event) → AllByRecursion HasNumbers es → IsTrueFrom plans s es
    → Few s → AllByRecursion FitsEvent es
all_fit plans s [] h t few = tt
all_fit plans s (e ∷ es) h t few =
    (true_fits plans s e h.0 t.0 few, all_fit plans (after_event plans s e) es h.1 t.1 (few_after plans s e t.0 few))

-- Where the first life begins no plan was submitted.
pub few_at_first : (k : Settings) → k.span ≡ Bounded → Few (opening k)
few_at_first k bounded = record { span = bounded; plans = omega arith }

pub whole_spelled : (c : Configuration) (plans : List Acceptance) → c.span ≡ Bounded → (es : List Event)
    → AllByRecursion HasNumbers es → IsWhole c plans es → IsAudited c plans (journal_words es) (length es)
whole_spelled c plans bounded es h whole = record {
  events = es;
  spelled = record { fits = all_fit plans _ es h whole.is_true (few_at_first (kept_of c) bounded); text_is = inl refl };
  is_true = whole.is_true;
  over = whole.over;
  number = refl;
}

pub whole_audited : (c : Configuration) (plans : List Acceptance) → c.span ≡ Bounded → (es : List Event)
    → AllByRecursion HasNumbers es → IsWhole c plans es → auditing c plans (journal_words es) ≡ Ok (length es)
whole_audited c plans bounded es h whole =
    audited_again c plans (journal_words es) (length es) (whole_spelled c plans bounded es h whole)

-- One event more of a list whose other events are known.
pub one_before : (P : Event → Type 0) (es : List Event) (i : ℕ) (d : Event) → i < length es → P (get_or es i d)
    → AllByRecursion P (drop (i + 1) es) → AllByRecursion P (drop i es)
one_before P es i d low here rest =
    let is : drop i es ≡ get_or es i d ∷ drop (i + 1) es
    = drop-cons es i d low ∙ ap (λ n. get_or es i d ∷ drop n es) (sym (add-one i)) in
    subst (AllByRecursion P) (sym is) (here, rest)
