-- Lives as an audit goes through them: from any state of the first of them on, each with the plans that no life before took.
use Rattle.std.proofs.Common.{◌≡◌, ◌∙◌, ℕ, Some, None, List, [], ◌∷◌, ◌++◌, length, refl, sym, ap, subst}
use Rattle.std.proofs.Common.{append_assoc}
use Rattle.std.specs.Prelude.{slice_get}
use Rattle.std.specs.List.{AllByRecursion}
use Rattle.std.proofs.lemmas.List.{append-nil}
use Rattle.std.proofs.lemmas.List.Elements.{All-from_recursion}
use Rattle.pp_cert.specs.Accepted.{Acceptance, IsAccepted}
use Rattle.pp_model.specs.declared.event.Event.{Event}
use Rattle.pp_model.specs.declared.event.Event.TheVariants.{Submit, Step}
use Rattle.pp_model.specs.Pool.{State}
use Rattle.pp_model.specs.Moves.{next_of}
use Rattle.pp_model.specs.Submitting.{submitted_unless}
use Rattle.pp_model.specs.Journals.{after_plan, replay, IsNextPlan, IsTrueFrom}
use Rattle.pp_model.specs.Renewing.{renew_error, renewed}
use Rattle.pp_model.specs.Lives.{Life, life_end, IsLife, AreLives, after_lives}
use Rattle.pp_model.proofs.Journeys.{same_plans, get_more}
use Rattle.pp_report.specs.Lives.{journals_of, plans_of}

-- ---- a true journal takes the first of its plans

plan_at : (ps : List Acceptance) (a : Acceptance) (more : List Acceptance)
    → slice_get (ps ++ (a ∷ more)) (length ps) ≡ Some a
plan_at [] a more = refl
plan_at (p ∷ ps) a more = plan_at ps a more

submitted_plans : (plans : List Acceptance) (s : State) (k : ℕ) (n : IsNextPlan plans s k)
    → (after_plan s (slice_get plans k)).plans ≡ s.plans ++ (n.plan ∷ [])
submitted_plans plans s k n =
    ap (λ o. (after_plan s o).plans) n.named ∙ ap (λ o. (submitted_unless o s n.plan).plans) n.taken_in

-- those that were submitted stay so
grows : (plans : List Acceptance) (s : State) (es : List Event) → IsTrueFrom plans s es
    → (more : List Acceptance) × ((replay plans s es).plans ≡ s.plans ++ more)
grows plans s [] h = ([], sym (append-nil s.plans))
grows plans s (Step m reply ∷ es) h =
    let (more, e) = grows plans (next_of s m) es h.1 in
    (more, e ∙ ap (λ ps. ps ++ more) (same_plans s m))
grows plans s (Submit k ∷ es) h =
    let (more, e) = grows plans (after_plan s (slice_get plans k)) es h.1 in (
      h.0.plan ∷ more,
      e ∙ ap (λ ps. ps ++ more) (submitted_plans plans s k h.0) ∙ append_assoc s.plans (h.0.plan ∷ []) more,
    )

-- The journal is one of the plans alone that were submitted in it.
pub true_shorter : (plans ps : List Acceptance) (s : State) (es : List Event) → ps ≡ (replay plans s es).plans
    → IsTrueFrom plans s es → IsTrueFrom ps s es × (replay ps s es ≡ replay plans s es)
true_shorter plans ps s [] e h = (tt, refl)
true_shorter plans ps s (Step m reply ∷ es) e h =
    let rest = true_shorter plans ps (next_of s m) es e h.1 in ((h.0, rest.0), rest.1)
true_shorter plans ps s (Submit k ∷ es) e h =
    let n = h.0 in
    let t : State = after_plan s (slice_get plans k) in
    let (more, f) = grows plans t es h.1 in
    let parts : ps ≡ s.plans ++ (n.plan ∷ more) =
    e ∙ f ∙ ap (λ qs. qs ++ more) (submitted_plans plans s k n) ∙ append_assoc s.plans (n.plan ∷ []) more in
    let there : slice_get ps k ≡ Some n.plan =
    ap (λ qs. slice_get qs k) parts ∙ ap (slice_get (s.plans ++ (n.plan ∷ more))) n.next ∙ plan_at s.plans n.plan more in
    let same : after_plan s (slice_get ps k) ≡ t = ap (after_plan s) (there ∙ sym n.named) in
    let rest = true_shorter plans ps t es e h.1 in
    let now : IsNextPlan ps s k = record { next = n.next; plan = n.plan; named = there; taken_in = n.taken_in } in (
      (now, subst (λ x. IsTrueFrom ps x es) (sym same) rest.0),
      ap (λ x. replay ps x es) same ∙ rest.1,
    )

-- It is one of any plans that begin with its own.
pub true_longer : (plans more : List Acceptance) (s : State) (es : List Event) → IsTrueFrom plans s es
    → IsTrueFrom (plans ++ more) s es × (replay (plans ++ more) s es ≡ replay plans s es)
true_longer plans more s [] h = (tt, refl)
true_longer plans more s (Step m reply ∷ es) h =
    let rest = true_longer plans more (next_of s m) es h.1 in ((h.0, rest.0), rest.1)
true_longer plans more s (Submit k ∷ es) h =
    let n = h.0 in
    let there : slice_get (plans ++ more) k ≡ Some n.plan = get_more plans more k n.plan n.named in
    let same : after_plan s (slice_get (plans ++ more) k) ≡ after_plan s (slice_get plans k) =
    ap (after_plan s) (there ∙ sym n.named) in
    let rest = true_longer plans more (after_plan s (slice_get plans k)) es h.1 in
    let now : IsNextPlan (plans ++ more) s k =
    record { next = n.next; plan = n.plan; named = there; taken_in = n.taken_in } in (
      (now, subst (λ x. IsTrueFrom (plans ++ more) x es) (sym same) rest.0),
      ap (λ x. replay (plans ++ more) x es) same ∙ rest.1,
    )

-- ---- lives from any state on

-- What holds of the last journal, and of the plans and the state that it begins with.
abbrev pub Ending : Type 1
Ending = List Acceptance → State → List Event → Type 0

-- From the state on, and of these plans: each journal is true, the pool can be renewed at its end, and the next one begins
-- there, of the plans that were not submitted. The ending holds of the last one.
abbrev pub Runs : Ending → List Acceptance → State → List (List Event) → (last : List Event) → Type 0
Runs E plans s [] last = E plans s last
Runs E plans s (es ∷ journals) last =
    IsTrueFrom plans s es × (renew_error (replay plans s es) ≡ None)
    × ((rest : List Acceptance) × (plans ≡ (replay plans s es).plans ++ rest)
    × Runs E rest (renewed (replay plans s es)) journals last)

-- ---- as lives

all_first : (xs ys : List Acceptance) → AllByRecursion IsAccepted (xs ++ ys)
    → AllByRecursion IsAccepted xs × AllByRecursion IsAccepted ys
all_first [] ys h = (tt, h)
all_first (x ∷ xs) ys h = let (a, b) = all_first xs ys h.1 in ((h.0, a), b)

pub record Lived (E : Ending) (plans : List Acceptance) (o : State) (journals : List (List Event)) (last : List Event)
    : Type 0 where
  pub lives : List Life
  pub rest : List Acceptance
  pub journals_are : journals ≡ journals_of lives
  pub over : AreLives o lives
  pub plans_are : plans ≡ plans_of lives ++ rest
  pub ends : E rest (after_lives o lives) last

one_life : (plans : List Acceptance) (o : State) (es : List Event) → AllByRecursion IsAccepted (replay plans o es).plans
    → IsTrueFrom plans o es → renew_error (replay plans o es) ≡ None
    → IsLife o (record { plans = (replay plans o es).plans; journal = es })
    × (life_end o (record { plans = (replay plans o es).plans; journal = es }) ≡ replay plans o es)
one_life plans o es all is_true renews =
    let (short, same) = true_shorter plans (replay plans o es).plans o es refl is_true in (
      record {
        accepted = All-from_recursion IsAccepted (replay plans o es).plans all;
        is_true = short;
        submitted = ap (λ s. s.plans) same;
        renews = ap renew_error same ∙ renews;
      },
      same,
    )

pub lived : (E : Ending) (plans : List Acceptance) (o : State) (journals : List (List Event)) (last : List Event)
    → AllByRecursion IsAccepted plans → Runs E plans o journals last → Lived E plans o journals last
lived E plans o [] last all h = record {
  lives = [];
  rest = plans;
  journals_are = refl;
  over = tt;
  plans_are = refl;
  ends = h;
}
lived E plans o (es ∷ journals) last all (is_true, renews, (rest, parts, more)) =
    let s : State = replay plans o es in
    let (here, there) = all_first s.plans rest (subst (AllByRecursion IsAccepted) parts all) in
    let (is, same) = one_life plans o es here is_true renews in
    let l : Life = record { plans = s.plans; journal = es } in
    let back : renewed s ≡ renewed (life_end o l) = ap renewed (sym same) in
    let next = lived E rest (renewed s) journals last there more in
    record {
      lives = l ∷ next.lives;
      rest = next.rest;
      journals_are = ap (λ js. es ∷ js) next.journals_are;
      over = (is, subst (λ x. AreLives x next.lives) back next.over);
      plans_are = parts ∙ ap (λ ps. s.plans ++ ps) next.plans_are
          ∙ sym (append_assoc s.plans (plans_of next.lives) next.rest);
      ends = subst (λ x. E next.rest (after_lives x next.lives) last) back next.ends;
    }

pub run_again : (E : Ending) (o : State) (lives : List Life) (rest : List Acceptance) (last : List Event) → AreLives o lives
    → E rest (after_lives o lives) last → Runs E (plans_of lives ++ rest) o (journals_of lives) last
run_again E o [] rest last are ends = ends
run_again E o (l ∷ lives) rest last are ends =
    subst (λ plans. Runs E plans o (l.journal ∷ journals_of lives) last)
    (sym (append_assoc l.plans (plans_of lives) rest)) (
      long.0,
      ap renew_error long.1 ∙ are.0.renews,
      (
        plans_of lives ++ rest,
        ap (λ ps. ps ++ (plans_of lives ++ rest)) (sym (ap (λ s. s.plans) long.1 ∙ are.0.submitted)),
        subst (λ s. Runs E (plans_of lives ++ rest) (renewed s) (journals_of lives) last) (sym long.1)
            (run_again E (renewed (life_end o l)) lives rest last are.1 ends),
      ),
    )
  where
    long : IsTrueFrom (l.plans ++ (plans_of lives ++ rest)) o l.journal
        × (replay (l.plans ++ (plans_of lives ++ rest)) o l.journal ≡ life_end o l)
    long = true_longer l.plans (plans_of lives ++ rest) o l.journal are.0.is_true
