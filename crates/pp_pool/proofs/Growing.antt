-- A book after one event more.
use Rattle.std.proofs.Common.{◌≡◌, ◌∙◌, ◌≤◌, ◌<◌, ◌+◌, ℕ, Bool, true, false, Option, Some, None, List, [], ◌∷◌, ◌++◌}
use Rattle.std.proofs.Common.{length, refl, sym, ap, subst, arith, append-nil, length-append}
use Rattle.std.proofs.lemmas.Bool.{false≢true}
use Rattle.std.specs.Prelude.{max, slice_get, option_map, IsSome, if◌then◌else◌}
use Rattle.pp_settings.specs.Layout.{Geometry}
use Rattle.pp_settings.specs.declared.span.Span.{Span}
use Rattle.pp_settings.specs.declared.span.Span.TheVariants.{Bounded}
use Rattle.pp_cert.specs.Accepted.{Acceptance}
use Rattle.pp_model.specs.declared.moves.Move.{Move}
use Rattle.pp_model.specs.declared.reply.Reply.{Reply}
use Rattle.pp_model.specs.declared.event.Event.{Event}
use Rattle.pp_model.specs.declared.event.Event.TheVariants.{Submit, Step}
use Rattle.pp_model.specs.Pool.{State, Settings}
use Rattle.pp_model.specs.Budget.{cost_of, bound}
use Rattle.pp_model.specs.Moves.{reply_of, next_of, is_possible, IsPossible}
use Rattle.pp_model.specs.Submitting.{counted_plans, plan_limit, submit_error, submitted_unless, after_submit}
use Rattle.pp_model.specs.Journals.{after_plan, replay, IsTrueFrom, IsJournalFrom}
use Rattle.pp_model.specs.Reached.{IsReached}
use Rattle.pp_model.proofs.Alone.{settings_stay, submit_leaves}
use Rattle.pp_model.proofs.Changes.{refused_by}
use Rattle.pp_model.proofs.Counts.{counted}
use Rattle.pp_model.proofs.Journeys.{same_plans, step_told, submit_told}
use Rattle.pp_model.proofs.BoundLaws.{bound_falls, bound_rises}
use Rattle.pp_outset.specs.Outsets.{opens_with}
use Rattle.pp_vault.specs.Parts as vault
use Rattle.pp_vault.specs.Submits as vault_submits
use Rattle.pp_vault.proofs.Kept.{headline}
use Rattle.pp_vault.specs.StandsFor.{StandsFor}
use Rattle.pp_vault.specs.Calls.{Call, stranger, refused, asks, after_call, told}
use Rattle.pp_pool.specs.Parts.{Parts, settings_of, plans_of, opening_of, state_of}
use Rattle.pp_pool.specs.Books.{greatest_from, greatest_cost, IsBook, HeadlineHolds}
use Rattle.pp_pool.specs.declared.request.Request.{Request}
use Rattle.pp_pool.specs.Requests.{call_of, event_of, event_for, events_in}
use Rattle.pp_pool.proofs.Noted.{IsNoted}
use Rattle.pp_pool.specs.Submits.{TakesIn}
use Rattle.pp_pool.specs.Books.{MarksAreTold}
use Rattle.pp_vault.specs.Submits.{SubmitFails}
use Rattle.pp_model.specs.JournalMarks.{mark_after}
use Rattle.pp_model.specs.declared.refusals.SubmitError.{SubmitError}
use Rattle.pp_model.specs.declared.refusals.SubmitError.TheVariants.{OtherSettings, TooManyPlans, JournalLimit, NotPrepared}
use Rattle.pp_model.proofs.ToldMarks.{marks_follow}

-- ---- what a book stands for

plan_settings : (s : State) (a : Option Acceptance) → (after_plan s a).settings ≡ s.settings
plan_settings s None = refl
plan_settings s (Some a) = (submit_leaves s a).1

replay_settings : (plans : List Acceptance) (s : State) (es : List Event) → (replay plans s es).settings ≡ s.settings
replay_settings plans s [] = refl
replay_settings plans s (Step m reply ∷ es) = replay_settings plans (next_of s m) es ∙ settings_stay s m
replay_settings plans s (Submit k ∷ es) =
    replay_settings plans (after_plan s (slice_get plans k)) es ∙ plan_settings s (slice_get plans k)

pub state_settings : (b : Parts) → (state_of b).settings ≡ settings_of b
state_settings b = replay_settings (plans_of b) (opening_of b) b.journal

-- A book's life is bounded, so its core keeps all plans that were submitted.
pub plans_are : (b : Parts) → IsBook b → plans_of b ≡ (state_of b).plans
plans_are b k = k.stands.core.plans.all (ap (λ (j : Settings). j.span) (state_settings b))

-- The journal is one of the state, from the opening state of the book's life on.
told_here : (b : Parts) → IsBook b → IsJournalFrom (opening_of b) (state_of b) b.journal
told_here b k =
    let plans : plans_of b ≡ (state_of b).plans = plans_are b k in
    record {
      is_true = subst (λ ps. IsTrueFrom ps (opening_of b) b.journal) plans k.is_true;
      leads_here = ap (λ ps. replay ps (opening_of b) b.journal) (sym plans);
    }

-- What the journal tells of each page's mark.
pub marks_told : (b : Parts) → IsBook b → MarksAreTold b
marks_told b k page =
    marks_follow (state_of b) k.stands.core.reached (opening_of b) b.journal page k.opened (told_here b k)
    ∙ ap (λ ps. mark_after ps (opening_of b) b.journal page) (sym (plans_are b k))

-- Why a plan isn't taken in by a book, whose life is bounded.
pub refused_so : (b : Parts) (k : IsBook b) (a : Acceptance) (e : SubmitError) → SubmitFails b.vault a e
    → submit_error (state_of b) a ≡ Some e
refused_so b k a OtherSettings fails = fails.1 (state_of b) k.stands
refused_so b k a TooManyPlans fails = fails.1 (state_of b) k.stands
refused_so b k a JournalLimit fails = fails.1 (state_of b) k.stands
refused_so b k a NotPrepared fails =
    absurd (fails (k.stands.core.span ∙ ap (λ (j : Settings). j.span) (state_settings b)))

pub book_told : (b : Parts) → IsBook b
    → IsJournalFrom (opens_with (state_of b).settings b.began) (state_of b) b.journal
book_told b k =
    subst (λ j. IsJournalFrom (opens_with j b.began) (state_of b) b.journal) (sym (state_settings b)) (told_here b k)

book_opened : (b : Parts) → IsBook b → IsReached (opens_with (state_of b).settings b.began)
book_opened b k = subst (λ j. IsReached (opens_with j b.began)) (sym (state_settings b)) k.opened

abbrev settings_by : Geometry → (workers flushes : ℕ) → Span → Settings
settings_by layout workers flushes span = record { layout = layout; workers = workers; flushes = flushes; span = span }

-- The settings that a vault's core and a book keep.
pub kept_settings : (v : vault.Parts) (w f : ℕ) (s : State) → StandsFor v s → s.settings.span ≡ Bounded
    → w ≡ s.settings.workers → f ≡ s.settings.flushes
    → settings_by v.core.layout w f Bounded ≡ s.settings
kept_settings v w f s st bounded e g =
    ap (λ l. settings_by l w f Bounded) st.core.layout ∙ ap (λ n. settings_by s.settings.layout n f Bounded) e
    ∙ ap (λ n. settings_by s.settings.layout s.settings.workers n Bounded) g
    ∙ ap (λ k. settings_by s.settings.layout s.settings.workers s.settings.flushes k) (sym bounded)

-- What is told of a state to which a book's journal leads makes it a book.
pub record Leads (b : Parts) (s : State) : Type 0 where
  pub stands : StandsFor b.vault s
  pub bounded : s.settings.span ≡ Bounded
  pub workers : b.workers ≡ s.settings.workers
  pub flushes : b.flushes ≡ s.settings.flushes
  pub opened : IsReached (opens_with s.settings b.began)
  pub told : IsJournalFrom (opens_with s.settings b.began) s b.journal
  pub room : length b.journal + bound s ≤ b.capacity
  pub most : b.most ≡ greatest_cost s.plans

pub state_is : (b : Parts) (s : State) → Leads b s → state_of b ≡ s
state_is b s h =
    ap (λ j. replay (plans_of b) (opens_with j b.began) b.journal)
    (kept_settings b.vault b.workers b.flushes s h.stands h.bounded h.workers h.flushes)
    ∙ ap (λ ps. replay ps (opens_with s.settings b.began) b.journal) (h.stands.core.plans.all h.bounded) ∙ h.told.leads_here

pub book_is : (b : Parts) (s : State) → Leads b s → IsBook b
book_is b s h =
    let settings = sym (kept_settings b.vault b.workers b.flushes s h.stands h.bounded h.workers h.flushes) in
    let plans : s.plans ≡ plans_of b = sym (h.stands.core.plans.all h.bounded) in
    let here = sym (state_is b s h) in
    record {
      opened = subst (λ j. IsReached (opens_with j b.began)) settings h.opened;
      is_true =
          subst (λ j. IsTrueFrom (plans_of b) (opens_with j b.began) b.journal) settings
          (subst (λ ps. IsTrueFrom ps (opens_with s.settings b.began) b.journal) plans h.told.is_true);
      stands = subst (StandsFor b.vault) here h.stands;
      room = subst (λ t. length b.journal + bound t ≤ b.capacity) here h.room;
      most = h.most ∙ ap greatest_cost plans;
    }

-- ---- one call

-- The book with this event, or none, and with what its vault keeps now.
abbrev pub with_event : Parts → vault.Parts → Option Event → Parts
with_event b v e = record b { vault = v; journal = b.journal ++ events_in e }

module _ (b : Parts) (k : IsBook b) (v : vault.Parts) where
  -- No event, and the vault still stands for the state.
  leads_still : StandsFor v (state_of b) → Leads (with_event b v None) (state_of b)
  leads_still st =
      let same = sym (append-nil b.journal) in
      record {
        stands = st;
        bounded = ap (λ (j : Settings). j.span) (state_settings b);
        workers = sym (ap (λ (j : Settings). j.workers) (state_settings b));
        flushes = sym (ap (λ (j : Settings). j.flushes) (state_settings b));
        opened = book_opened b k;
        told = subst (IsJournalFrom (opens_with (state_of b).settings b.began) (state_of b)) same (book_told b k);
        room = subst (λ (es : List Event). length es + bound (state_of b) ≤ b.capacity) same k.room;
        most = k.most ∙ ap greatest_cost (plans_are b k);
      }

  -- A possible move is the event, and the vault stands for the state after it.
  leads_on : (m : Move) → IsPossible (state_of b) m → StandsFor v (next_of (state_of b) m)
      → Leads (with_event b v (Some (Step m (reply_of (state_of b) m)))) (next_of (state_of b) m)
  leads_on m p st =
      let s = state_of b in
      let e = Step m (reply_of s m) in
      let long : length (b.journal ++ e ∷ []) ≡ length b.journal + 1 = length-append b.journal (e ∷ []) in
      record {
        stands = st;
        bounded = ap (λ (j : Settings). j.span) (settings_stay s m ∙ state_settings b);
        workers = sym (ap (λ (j : Settings). j.workers) (settings_stay s m ∙ state_settings b));
        flushes = sym (ap (λ (j : Settings). j.flushes) (settings_stay s m ∙ state_settings b));
        opened = subst (λ j. IsReached (opens_with j b.began)) (sym (settings_stay s m)) (book_opened b k);
        told =
            subst (λ j. IsJournalFrom (opens_with j b.began) (next_of s m) (b.journal ++ e ∷ [])) (sym (settings_stay s m))
            (step_told s (opens_with s.settings b.began) b.journal m (book_told b k) p);
        room = omega (arith, long, bound_falls s k.stands.core.reached m p, k.room);
        most = k.most ∙ ap greatest_cost (plans_are b k ∙ sym (same_plans s m));
      }

  leads_by : (m : Move) (p : Bool) → is_possible (state_of b) m ≡ p → StandsFor v (next_of (state_of b) m)
      → Leads (with_event b v (option_map (λ (t : Move × Reply). Step t.0 t.1)
      (if p then Some (m, reply_of (state_of b) m) else None))) (next_of (state_of b) m)
  leads_by m true e st = leads_on m e st
  leads_by m false e st =
      let stays = refused_by (state_of b) m e in
      subst (λ s. Leads (with_event b v None) s) (sym stays) (leads_still (subst (StandsFor v) stays st))

  pub leads_after : (call : Call) → StandsFor v (after_call (state_of b) call)
      → Leads (with_event b v (event_of (state_of b) call)) (after_call (state_of b) call)
  leads_after stranger st = leads_still st
  leads_after (refused why) st = leads_still st
  leads_after (asks m) st = leads_by m (is_possible (state_of b) m) refl st

  -- Where an event is told, the journal has memory for it.
  has_room : (m : Move) (p : Bool) → is_possible (state_of b) m ≡ p
      → IsSome {T = Move × Reply} (if p then Some (m, reply_of (state_of b) m) else None) → length b.journal < b.capacity
  has_room m true e some = omega (arith, bound_falls (state_of b) k.stands.core.reached m e, k.room)
  has_room m false e some = absurd (false≢true some)

  pub room_for : (call : Call) → IsSome (told (state_of b) call) → length b.journal < b.capacity
  room_for stranger some = absurd (false≢true some)
  room_for (refused why) some = absurd (false≢true some)
  room_for (asks m) some = has_room m (is_possible (state_of b) m) refl some

-- ---- a request

module _ (b : Parts) (k : IsBook b) (asked : Request) (v : vault.Parts)
    (done : Option (Move × Reply)) (n : IsNoted b.vault (call_of b.vault asked) done v) where
  abbrev call : Call
  call = call_of b.vault asked (state_of b)

  pub room_in : IsSome done → length b.journal < b.capacity
  room_in some = room_for b k v call (subst IsSome (sym (n.is_told (state_of b) k.stands)) some)

  pub event_in : (e : Option Event) → e ≡ option_map (λ (t : Move × Reply). Step t.0 t.1) done → e ≡ event_for b asked
  event_in e is =
      is ∙ ap (option_map (λ (t : Move × Reply). Step t.0 t.1)) (sym (n.is_told (state_of b) k.stands))

  leads_in : Leads (with_event b v (event_for b asked)) (after_call (state_of b) call)
  leads_in = leads_after b k v call (n.stands (state_of b) k.stands)

after_settings : (s : State) (call : Call) → (after_call s call).settings ≡ s.settings
after_settings s stranger = refl
after_settings s (refused why) = refl
after_settings s (asks m) = settings_stay s m

after_plans : (s : State) (call : Call) → (after_call s call).plans ≡ s.plans
after_plans s stranger = refl
after_plans s (refused why) = refl
after_plans s (asks m) = same_plans s m

pub book_headline : (b : Parts) → IsBook b → HeadlineHolds b
book_headline b k = headline b.vault (state_of b) k.stands

-- The book after a request, where the event of what is told has come behind the others.
module _ (b : Parts) (k : IsBook b) (asked : Request) (v : vault.Parts)
    (done : Option (Move × Reply)) (n : IsNoted b.vault (call_of b.vault asked) done v) (e : Option Event)
    (is : e ≡ option_map (λ (t : Move × Reply). Step t.0 t.1) done)
    (journal : List Event) (grows : journal ≡ b.journal ++ events_in e)
    (capacity : ℕ) (same : capacity ≡ b.capacity) where
  abbrev pub book_then : Parts
  book_then = record b { vault = v; journal = journal; capacity = capacity }

  abbrev state_then : State
  state_then = after_call (state_of b) (call_of b.vault asked (state_of b))

  leads_then : Leads book_then state_then
  leads_then =
      subst (λ c. Leads (record b { vault = v; journal = journal; capacity = c }) state_then) (sym same)
      (subst (λ es. Leads (record b { vault = v; journal = es }) state_then) (sym grows)
      (subst (λ (x : Option Event). Leads (with_event b v x) state_then) (sym (event_in b k asked v done n e is))
      (leads_in b k asked v done n)))

  pub performed : IsBook book_then
  performed = book_is book_then state_then leads_then

  pub settings_then : settings_of book_then ≡ settings_of b
  settings_then =
      kept_settings v b.workers b.flushes state_then leads_then.stands leads_then.bounded leads_then.workers leads_then.flushes
      ∙ after_settings (state_of b) (call_of b.vault asked (state_of b)) ∙ state_settings b

  pub plans_then : v.core.plans ≡ plans_of b
  plans_then =
      leads_then.stands.core.plans.all leads_then.bounded ∙ after_plans (state_of b) (call_of b.vault asked (state_of b))
      ∙ sym (plans_are b k)

-- ---- a plan

-- As many plans count as were submitted where the life is bounded.
few_in : (k : Span) (submitted taken : ℕ) → k ≡ Bounded → counted_plans k submitted taken ≤ plan_limit k
    → submitted ≤ 256
few_in k submitted taken bounded h =
    subst (λ (j : Span). counted_plans j submitted taken ≤ plan_limit j) bounded h

greatest_more : (n : ℕ) (plans : List Acceptance) (a : Acceptance)
    → greatest_from n (plans ++ a ∷ []) ≡ max (greatest_from n plans) (cost_of a)
greatest_more n [] a = refl
greatest_more n (p ∷ plans) a = greatest_more (max n (cost_of p)) plans a

-- The book after a plan that is taken in.
module _ (b : Parts) (k : IsBook b) (a : Acceptance) (number : ℕ) (v : vault.Parts)
    (t : vault_submits.TakesIn b.vault a number v)
    (journal : List Event) (grows : journal ≡ b.journal ++ Submit number ∷ [])
    (capacity : ℕ) (room : length b.journal + (bound (state_of b) + cost_of a + 1) ≤ capacity)
    (most : ℕ) (greatest : most ≡ max b.most (cost_of a)) where
  abbrev pub book_with : Parts
  book_with = record b { vault = v; journal = journal; capacity = capacity; most = most }

  allowed : submit_error (state_of b) a ≡ None
  allowed = t.allowed (state_of b) k.stands

  numbered : number ≡ length (state_of b).plans
  numbered = t.numbered (state_of b) k.stands

  plans_after : (after_submit (state_of b) a).plans ≡ (state_of b).plans ++ a ∷ []
  plans_after = ap (λ o. (submitted_unless o (state_of b) a).plans) allowed

  told_after : IsJournalFrom (opens_with (after_submit (state_of b) a).settings b.began) (after_submit (state_of b) a) journal
  told_after =
      let s = state_of b in
      subst (IsJournalFrom (opens_with (after_submit s a).settings b.began) (after_submit s a))
      (sym (grows ∙ ap (λ n. b.journal ++ Submit n ∷ []) numbered))
      (subst (λ o. IsJournalFrom (opens_with (submitted_unless o s a).settings b.began) (submitted_unless o s a)
      (b.journal ++ Submit (length s.plans) ∷ [])) (sym allowed)
      (submit_told s (opens_with s.settings b.began) b.journal a (book_told b k) allowed))

  leads_with : Leads book_with (after_submit (state_of b) a)
  leads_with =
      let s = state_of b in
      record {
        stands = t.stands s k.stands;
        bounded = ap (λ (j : Settings). j.span) ((submit_leaves s a).1 ∙ state_settings b);
        workers = sym (ap (λ (j : Settings). j.workers) ((submit_leaves s a).1 ∙ state_settings b));
        flushes = sym (ap (λ (j : Settings). j.flushes) ((submit_leaves s a).1 ∙ state_settings b));
        opened = subst (λ j. IsReached (opens_with j b.began)) (sym (submit_leaves s a).1) (book_opened b k);
        told = told_after;
        room =
            omega (
              arith,
              ap length grows,
              length-append b.journal (Submit number ∷ []),
              bound_rises s k.stands.core.reached a allowed,
              room,
            );
        most =
            greatest ∙ ap (λ n. max n (cost_of a)) k.most ∙ sym (greatest_more 0 (plans_of b) a)
            ∙ ap (λ ps. greatest_cost (ps ++ a ∷ [])) (plans_are b k) ∙ ap greatest_cost (sym plans_after);
      }

  pub book_taken : IsBook book_with
  book_taken = book_is book_with (after_submit (state_of b) a) leads_with

  pub taken_in : TakesIn b a number book_with
  taken_in =
      let s = state_of b in
      record {
        allowed = allowed;
        numbered = numbered ∙ ap length (sym (plans_are b k));
        journal = grows;
        plans =
            leads_with.stands.core.plans.all leads_with.bounded ∙ plans_after ∙ ap (λ ps. ps ++ a ∷ []) (sym (plans_are b k));
        settings =
            kept_settings v b.workers b.flushes (after_submit s a) leads_with.stands leads_with.bounded leads_with.workers leads_with.flushes
            ∙ (submit_leaves s a).1 ∙ state_settings b;
        outset = refl;
        state = state_is book_with (after_submit s a) leads_with ∙ ap (λ o. submitted_unless o s a) allowed;
        few =
            let t = after_submit s a in
            let st = leads_with.stands.core in
            omega (
              arith,
              few_in t.settings.span (length t.plans) t.taken leads_with.bounded (counted t st.reached).few,
              ap length plans_after,
              length-append s.plans (a ∷ []),
              numbered,
            );
        vault = t;
      }
