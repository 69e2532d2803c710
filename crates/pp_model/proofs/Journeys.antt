-- What is reached: the opening state, and what a move, a plan or a renewal leads to from a reached state.
use Rattle.std.proofs.Common.{◌≡◌, ◌∙◌, ℕ, zero, suc, Bool, true, false, Option, Some, None, List, [], ◌∷◌}
use Rattle.std.proofs.Common.{◌++◌, length, refl, sym, ap, subst, arith}
use Rattle.std.specs.Prelude.{slice_get, All}
use Rattle.std.proofs.lemmas.Option.{slice_get_within, get_or_from_slice_get}
use Rattle.pp_cert.specs.Accepted.{Acceptance, IsAccepted}
use Rattle.pp_model.specs.declared.moves.Move.{Move}
use Rattle.pp_model.specs.declared.event.Event.{Event}
use Rattle.pp_model.specs.declared.event.Event.TheVariants.{Submit, Step}
use Rattle.pp_model.specs.declared.refusals.SubmitError.{SubmitError}
use Rattle.pp_model.specs.declared.refusals.RenewError.{RenewError}
use Rattle.pp_model.specs.Pool.{State, Settings, opening}
use Rattle.pp_model.specs.Moves.{reply_of, next_of, is_possible, IsPossible}
use Rattle.pp_model.specs.Submitting.{submit_error, submitted, submitted_unless, after_submit}
use Rattle.pp_model.specs.Journals.{after_plan, after_event, replay, IsNextPlan, IsTrueFrom, IsJournalFrom}
use Rattle.pp_model.specs.Renewing.{renew_error, renewed, renewed_unless, after_renewal}
use Rattle.pp_model.specs.Lives.{Life, life_end, IsLife, AreLives, after_lives}
use Rattle.pp_model.specs.Reached.{IsSettings, IsReached}
use Rattle.pp_model.specs.Laws.{RenewalStaysReached, LivesAreReached}
use Rattle.pp_model.proofs.Changes.{change, refused_by}
use Rattle.pp_model.proofs.Crews.{crew_of, turn, turn_plans}

-- ---- one event more

pub replay_more : (plans : List Acceptance) (s : State) (es fs : List Event)
    → replay plans s (es ++ fs) ≡ replay plans (replay plans s es) fs
replay_more plans s [] fs = refl
replay_more plans s (e ∷ es) fs = replay_more plans (after_event plans s e) es fs

pub true_more : (plans : List Acceptance) (s : State) (es fs : List Event) → IsTrueFrom plans s es
    → IsTrueFrom plans (replay plans s es) fs → IsTrueFrom plans s (es ++ fs)
true_more plans s [] fs h k = k
true_more plans s (e ∷ es) fs h k = (h.0, true_more plans (after_event plans s e) es fs h.1 k)

-- ---- moves

pub same_plans : (s : State) (m : Move) → (next_of s m).plans ≡ s.plans
same_plans s m = (turn_plans (crew_of s) (crew_of (next_of s m)) (turn s (next_of s m) (change s m))).0

pub same_settings : (s : State) (m : Move) → (next_of s m).settings ≡ s.settings
same_settings s m = (turn_plans (crew_of s) (crew_of (next_of s m)) (turn s (next_of s m) (change s m))).1

-- A true journal of these plans, from the state o on, that leads to the state s.
record Leads (o : State) (plans : List Acceptance) (s : State) (es : List Event) : Type 0 where
  pub is_true : IsTrueFrom plans o es
  pub leads_here : replay plans o es ≡ s

told_of : (o s : State) (plans : List Acceptance) (es : List Event) → s.plans ≡ plans → Leads o plans s es
    → IsJournalFrom o s es
told_of o s plans es f l =
    let m : Leads o s.plans s es = subst (λ ps. Leads o ps s es) (sym f) l in
    record { is_true = m.is_true; leads_here = m.leads_here }

pub step_told : (s o : State) (es : List Event) (m : Move) → IsJournalFrom o s es → IsPossible s m
    → IsJournalFrom o (next_of s m) (es ++ Step m (reply_of s m) ∷ [])
step_told s o es m h p =
    let e = Step m (reply_of s m) in
    let here : IsTrueFrom s.plans (replay s.plans o es) (e ∷ []) =
    subst (λ x. IsTrueFrom s.plans x (e ∷ [])) (sym h.leads_here) ((p, refl), tt) in
    let next = replay_more s.plans o es (e ∷ []) ∙ ap (λ x. next_of x m) h.leads_here in
    told_of o (next_of s m) s.plans (es ++ e ∷ []) (same_plans s m)
    (record { is_true = true_more s.plans o es (e ∷ []) h.is_true here; leads_here = next })

-- ---- plans

-- A longer list of plans tells the same of the plans that it had.
pub get_more : (ps qs : List Acceptance) (k : ℕ) (a : Acceptance) → slice_get ps k ≡ Some a
    → slice_get (ps ++ qs) k ≡ Some a
get_more [] qs k a e = cc
get_more (p ∷ ps) qs zero a e = e
get_more (p ∷ ps) qs (suc k) a e = get_more ps qs k a e

pub true_longer : (plans more : List Acceptance) (s : State) (es : List Event) → IsTrueFrom plans s es
    → IsTrueFrom (plans ++ more) s es × (replay (plans ++ more) s es ≡ replay plans s es)
true_longer plans more s [] h = (tt, refl)
true_longer plans more s (Step m reply ∷ es) h =
    let rest = true_longer plans more (next_of s m) es h.1 in ((h.0, rest.0), rest.1)
true_longer plans more s (Submit k ∷ es) h =
    let n = h.0 in
    let there : slice_get (plans ++ more) k ≡ Some n.plan = get_more plans more k n.plan n.named in
    let same : after_plan s (slice_get (plans ++ more) k) ≡ after_plan s (slice_get plans k) = ap (after_plan s)
    (there ∙ sym n.named) in
    let rest = true_longer plans more (after_plan s (slice_get plans k)) es h.1 in
    let now : IsNextPlan (plans ++ more) s k = record
    { next = n.next; plan = n.plan; named = there; taken_in = n.taken_in } in (
      (now, subst (λ x. IsTrueFrom (plans ++ more) x es) (sym same) rest.0),
      ap (λ x. replay (plans ++ more) x es) same
          ∙ rest.1,
    )

last_of : (ps : List Acceptance) (a : Acceptance) → slice_get (ps ++ a ∷ []) (length ps) ≡ Some a
last_of [] a = refl
last_of (p ∷ ps) a = last_of ps a

pub submit_told : (s o : State) (es : List Event) (a : Acceptance) → IsJournalFrom o s es → submit_error s a ≡ None
    → IsJournalFrom o (submitted s a) (es ++ Submit (length s.plans) ∷ [])
submit_told s o es a h e =
    let plans = s.plans ++ a ∷ [] in
    let n = Submit (length s.plans) in
    let long = true_longer s.plans (a ∷ []) o es h.is_true in
    let here : replay plans o es ≡ s = long.1 ∙ h.leads_here in
    let next : IsNextPlan plans s (length s.plans) = record
    { next = refl; plan = a; named = last_of s.plans a; taken_in = e } in
    let more : IsTrueFrom plans (replay plans o es) (n ∷ []) =
    subst (λ x. IsTrueFrom plans x (n ∷ [])) (sym here) (next, tt) in
    let after : after_plan s (slice_get plans (length s.plans)) ≡ submitted s a =
    ap (after_plan s) (last_of s.plans a) ∙ ap (λ o. submitted_unless o s a) e in
    let leads = replay_more plans o es (n ∷ [])
    ∙ ap (λ x. after_plan x (slice_get plans (length s.plans))) here ∙ after in
    record { is_true = true_more plans o es (n ∷ []) long.0 more; leads_here = leads }

-- ---- reached states

pub opening_reached : (k : Settings) → IsSettings k → IsReached (opening k)
opening_reached k ok =
    record {
      settings = ok;
      accepted = λ i d lt. absurd
          (omega (arith, lt));
      before = [];
      lived = tt;
      journal = [];
      told = record { is_true = tt; leads_here = refl };
    }

-- Lives under these settings, and a journal from their end on that leads to the state.
record Past (s : State) (before : List Life) (journal : List Event) (k : Settings) : Type 0 where
  settings : IsSettings k
  lived : AreLives (opening k) before
  told : IsJournalFrom (after_lives (opening k) before) s journal

reached_by : (s : State) (before : List Life) (journal : List Event) (k : Settings) → s.settings ≡ k
    → All IsAccepted s.plans → Past s before journal k → IsReached s
reached_by s before journal k e ok past =
    let now : Past s before journal s.settings = subst (Past s before journal) (sym e) past in
    record {
      settings = now.settings;
      accepted = ok;
      before = before;
      lived = now.lived;
      journal = journal;
      told = now.told;
    }

moved : (s : State) (m : Move) (b : Bool) → is_possible s m ≡ b → IsReached s → IsReached (next_of s m)
moved s m true e h =
    reached_by (next_of s m) h.before (h.journal ++ Step m (reply_of s m) ∷ []) s.settings (same_settings s m)
    (subst (λ ps. All IsAccepted ps) (sym (same_plans s m)) h.accepted)
    (record {
      settings = h.settings;
      lived = h.lived;
      told = step_told s (after_lives (opening s.settings) h.before) h.journal m h.told e;
    })
moved s m false e h = subst IsReached (sym (refused_by s m e)) h

-- Any move leads from a reached state to one, possible or not.
pub move_reached : (s : State) (m : Move) → IsReached s → IsReached (next_of s m)
move_reached s m h = moved s m (is_possible s m) refl h

all_more : (ps : List Acceptance) (a : Acceptance) → All IsAccepted ps → IsAccepted a → All IsAccepted (ps ++ a ∷ [])
all_more [] a h ok zero d lt = ok
all_more [] a h ok (suc k) d lt = absurd (omega (arith, lt))
all_more (p ∷ ps) a h ok zero d lt = h zero d (omega arith)
all_more (p ∷ ps) a h ok (suc k) d lt = all_more ps a (λ j e l. h (suc j) e (omega (arith, l))) ok k d
    (omega (arith, lt))

submitted_reached : (s : State) (a : Acceptance) (o : Option SubmitError) → submit_error s a ≡ o → IsAccepted a
    → IsReached s
    → IsReached (submitted_unless o s a)
submitted_reached s a None e ok h = record {
  settings = h.settings;
  accepted = all_more s.plans a h.accepted ok;
  before = h.before;
  lived = h.lived;
  journal = h.journal ++ Submit (length s.plans) ∷ [];
  told = submit_told s (after_lives (opening s.settings) h.before) h.journal a h.told e;
}
submitted_reached s a (Some error) e ok h = h

-- And so does any plan that the checker accepted, taken in or not.
pub plan_reached : (s : State) (a : Acceptance) → IsAccepted a → IsReached s → IsReached (after_submit s a)
plan_reached s a ok h = submitted_reached s a (submit_error s a) refl ok h

-- ---- lives

more_lives : (o : State) (ls : List Life) (l : Life)
    → after_lives o (ls ++ l ∷ []) ≡ renewed (life_end (after_lives o ls) l)
more_lives o [] l = refl
more_lives o (x ∷ ls) l = more_lives (renewed (life_end o x)) ls l

lived_more : (o : State) (ls : List Life) (l : Life) → AreLives o ls → IsLife (after_lives o ls) l
    → AreLives o (ls ++ l ∷ [])
lived_more o [] l are is = (is, tt)
lived_more o (x ∷ ls) l are is = (are.0, lived_more (renewed (life_end o x)) ls l are.1 is)

-- A reached state that is renewed leads to one: its journal was a life.
pub renewed_reached : (s : State) → IsReached s → renew_error s ≡ None → IsReached (renewed s)
renewed_reached s h none =
    let o = after_lives (opening s.settings) h.before in
    let l : Life = record { plans = s.plans; journal = h.journal } in
    let is : IsLife o l = record {
      accepted = h.accepted;
      is_true = h.told.is_true;
      submitted = ap (λ x. x.plans) h.told.leads_here;
      renews = ap renew_error h.told.leads_here ∙ none;
    } in
    record {
      settings = h.settings;
      accepted = λ i d lt. absurd (omega (arith, lt));
      before = h.before ++ l ∷ [];
      lived = lived_more (opening s.settings) h.before l h.lived is;
      journal = [];
      told = record {
        is_true = tt;
        leads_here = more_lives (opening s.settings) h.before l ∙ ap renewed h.told.leads_here;
      };
    }

-- Its plans and its journal are the last of the lives before, and the next journal is empty.
pub renewal_stays : (s : State) → RenewalStaysReached s
unfolding renewed_reached
renewal_stays s h e = (renewed_reached s h e, refl, refl)

renewed_by : (s : State) (o : Option RenewError) → renew_error s ≡ o → IsReached s → IsReached (renewed_unless o s)
renewed_by s None e h = renewed_reached s h e
renewed_by s (Some error) e h = h

-- And so does a renewal, done or refused.
pub renewal_reached : (s : State) → IsReached s → IsReached (after_renewal s)
renewal_reached s h = renewed_by s (renew_error s) refl h

-- ---- the opening states of lives

pub event_reached : (plans : List Acceptance) (s : State) (e : Event) → All IsAccepted plans → IsReached s
    → IsReached (after_event plans s e)
event_reached plans s (Step m reply) all h = move_reached s m h
event_reached plans s (Submit k) all h = go (slice_get plans k) refl
  where
    go : (o : Option Acceptance) → slice_get plans k ≡ o → IsReached (after_plan s o)
    go None e = h
    go (Some a) e =
        plan_reached s a
        (subst IsAccepted (get_or_from_slice_get plans k a a e) (all k a (slice_get_within plans k a e))) h

replay_reached : (plans : List Acceptance) (s : State) (es : List Event) → All IsAccepted plans → IsReached s
    → IsReached (replay plans s es)
replay_reached plans s [] all h = h
replay_reached plans s (e ∷ es) all h =
    replay_reached plans (after_event plans s e) es all (event_reached plans s e all h)

after_reached : (o : State) (ls : List Life) → AreLives o ls → IsReached o → IsReached (after_lives o ls)
after_reached o [] are h = h
after_reached o (l ∷ ls) are h =
    after_reached (renewed (life_end o l)) ls are.1
    (renewed_reached (life_end o l) (replay_reached l.plans o l.journal are.0.accepted h) are.0.renews)

pub lives_reached : (k : Settings) → IsSettings k → LivesAreReached k
lives_reached k ok ls are = after_reached (opening k) ls are (opening_reached k ok)
