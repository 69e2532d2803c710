-- What a move does on both sides.
use Rattle.std.proofs.Common.{◌≡◌, ◌∙◌, ℕ, Bool, true, false, eqb, cond, Option, Some, List}
use Rattle.std.proofs.Common.{length, refl, sym, ap, subst}
use Rattle.std.proofs.lemmas.Bool.{eqb-true, eqb-false}
use Rattle.std.specs.Prelude.{slice_get, slice_set}
use Rattle.pp_arc.specs.FourLists.{FourLists}
use Rattle.pp_plan.specs.declared.action.Action.{Action}
use Rattle.pp_plan.specs.declared.action.Ask.{Ask}
use Rattle.pp_cursor.specs.Cursor.{NamesAction}
use Rattle.pp_frames.specs.Marks.{PageMap}
use Rattle.pp_model.specs.declared.moves.Move.{Move}
use Rattle.pp_model.specs.declared.reply.Reply.{Reply}
use Rattle.pp_model.specs.Pool.{Running, State}
use Rattle.pp_model.specs.Holders.{is_in_flight}
use Rattle.pp_model.specs.Budget.{running_peaks, journal_need, bound}
use Rattle.pp_model.specs.Marks.{marks}
use Rattle.pp_model.specs.Outcome.{Outcome}
use Rattle.pp_model.specs.Moves.{asked_by, act_by, act_in, seat_of, outcome_of}
use Rattle.pp_model.specs.Reached.{IsReached}
use Rattle.pp_model.specs.Laws.{IsActing}
use Rattle.pp_model.proofs.Changes.{IsAsked}
use Rattle.pp_model.proofs.Journeys.{move_reached}
use Rattle.pp_bundles.specs.Bundles.{PageStacks}
use Rattle.pp_core.specs.Gathered.{BundlesFit}
use Rattle.pp_core.proofs.Crew.{set_here, set_apart}
use Rattle.pp_core.proofs.PlanTies.{plans_stay}
use Rattle.pp_core.specs.declared.seat.Seat.{Seat}
use Rattle.pp_core.specs.Parts.{Parts}
use Rattle.pp_core.specs.StandsFor.{FitsCrew, StandsFor, Moves, Refuses}

-- ---- from outcomes to moves

-- From this state the move has this outcome, for which the new parts stand.
pub record Leads (f : Parts) (s : State) (m : Move) (reply : Reply) (g : Parts) : Type 0 where
  pub after : Outcome
  pub is : outcome_of s m ≡ after
  pub replies : reply ≡ after.reply
  pub stands : IsReached after.state → StandsFor g after.state
  pub plans : g.plans ≡ f.plans

pub moves_by : (f g : Parts) (m : Move) (reply : Reply) → ((s : State) → StandsFor f s → Leads f s m reply g)
    → Moves f m reply g
moves_by f g m reply leads = record {
  stands = λ s st.
      let l = leads s st in
      let there : IsReached l.after.state =
      subst IsReached (ap (λ (o : Outcome). o.state) l.is) (move_reached s m st.reached) in
      subst (StandsFor g) (sym (ap (λ (o : Outcome). o.state) l.is)) (l.stands there);
  replies = λ s st. (leads s st).replies ∙ sym (ap (λ (o : Outcome). o.reply) (leads s st).is);
  plans = λ s st. (leads s st).plans;
}

-- A refused move leads nowhere.
pub refuses : (f : Parts) (m : Move) (reply : Reply) → Refuses f m reply → Moves f m reply f
refuses f m reply refused = record {
  stands = λ s st. subst (StandsFor f) (sym (ap (λ (o : Outcome). o.state) (refused s st))) st;
  replies = λ s st. sym (ap (λ (o : Outcome). o.reply) (refused s st));
  plans = λ s st. refl;
}

-- ---- acting workers

pub acted_outcome : (s : State) (w : ℕ) (r : Running) (act : Running → Outcome) → IsActing s w r
    → act_by s act (seat_of s w) ≡ act r
acted_outcome s w r act at = ap (act_by s act) at.seat ∙ ap (act_in s act r) at.stage

pub is_asked : (s : State) (w : ℕ) (r : Running) (x : Ask) (a : Action) → IsActing s w r → asked_by r ≡ x
    → NamesAction r.accepted.plan.layout x a → IsAsked s w r a
is_asked s w r x a at e names = record {
  at = record { seat = at.seat; stage = at.stage };
  names = subst (λ (y : Ask). NamesAction r.accepted.plan.layout y a) (sym e) names;
}

-- ---- what stays

-- The states differ only in seats, in what is noted of pages, and in the plans ended.
pub record SameRest (s t : State) : Type 0 where
  pub settings : t.settings ≡ s.settings
  pub plans : t.plans ≡ s.plans
  pub taken : t.taken ≡ s.taken
  pub lists : t.lists ≡ s.lists
  pub notes : length t.notes ≡ length s.notes
  pub flush : t.flush ≡ s.flush
  pub flushes_left : t.flushes_left ≡ s.flushes_left
  pub in_flight : (q : ℕ) → is_in_flight t q ≡ is_in_flight s q

-- The core's parts follow, where seats, marks and the numbers do.
pub stands_on : (f : Parts) (s t : State) (xs : List (Option Seat)) (m : PageMap) (stacks : PageStacks) (running b : ℕ)
    → StandsFor f s → IsReached t → SameRest s t → FitsCrew f.plans xs t.seats → m ≡ marks t → BundlesFit stacks t
    → running ≡ running_peaks t → b ≡ bound t
    → StandsFor (record f { seats = xs; marks = m; bundles = stacks; running = running; budget = b }) t
stands_on f s t xs m stacks running b st reached same crew marked gathered runs bounded = record {
  reached = reached;
  layout = st.layout ∙ sym (ap (λ k. k.layout) same.settings);
  span = st.span ∙ sym (ap (λ k. k.span) same.settings);
  flushes = st.flushes ∙ sym (ap (λ k. k.flushes) same.settings);
  flushes_left = st.flushes_left ∙ sym same.flushes_left;
  plans = plans_stay f.plans f.waiting s t st.plans same.settings same.plans same.taken;
  taken = st.taken ∙ sym same.taken;
  seats = crew;
  lists = st.lists ∙ sym same.lists;
  marks = marked;
  bundles = gathered;
  pages = st.pages ∙ sym same.notes;
  in_flight = λ q v e. st.in_flight q v e ∙ sym (same.in_flight q);
  flush = st.flush ∙ sym same.flush;
  running = runs;
  need = st.need ∙ sym (ap (λ k. journal_need k t.plans) same.settings ∙ ap (journal_need s.settings) same.plans);
  budget = bounded;
}

-- The states differ only in seats, lists and notes, and in the plans ended.
pub record SameFrame (s t : State) : Type 0 where
  pub settings : t.settings ≡ s.settings
  pub plans : t.plans ≡ s.plans
  pub taken : t.taken ≡ s.taken
  pub flush : t.flush ≡ s.flush
  pub flushes_left : t.flushes_left ≡ s.flushes_left

-- The list says of each of its places what the test says of that page.
abbrev pub Flies : List Bool → (ℕ → Bool) → Type 0
Flies fl is = (q : ℕ) (b : Bool) → slice_get fl q ≡ Some b → b ≡ is q

pub stands_with : (f : Parts) (s t : State) (xs : List (Option Seat)) (l : FourLists) (m : PageMap) (stacks : PageStacks)
    (fl : List Bool) (b : ℕ) → StandsFor f s → IsReached t → SameFrame s t → FitsCrew f.plans xs t.seats → l ≡ t.lists
    → m ≡ marks t → BundlesFit stacks t
    → length fl ≡ length t.notes → Flies fl (is_in_flight t) → running_peaks t ≡ running_peaks s → b ≡ bound t
    → StandsFor (record f { seats = xs; lists = l; marks = m; bundles = stacks; in_flight = fl; budget = b }) t
stands_with f s t xs l m stacks fl b st reached same crew listed marked gathered long flies peaks bounded = record {
  reached = reached;
  layout = st.layout ∙ sym (ap (λ k. k.layout) same.settings);
  span = st.span ∙ sym (ap (λ k. k.span) same.settings);
  flushes = st.flushes ∙ sym (ap (λ k. k.flushes) same.settings);
  flushes_left = st.flushes_left ∙ sym same.flushes_left;
  plans = plans_stay f.plans f.waiting s t st.plans same.settings same.plans same.taken;
  taken = st.taken ∙ sym same.taken;
  seats = crew;
  lists = listed;
  marks = marked;
  bundles = gathered;
  pages = long;
  in_flight = flies;
  flush = st.flush ∙ sym same.flush;
  running = st.running ∙ sym peaks;
  need = st.need ∙ sym (ap (λ k. journal_need k t.plans) same.settings ∙ ap (journal_need s.settings) same.plans);
  budget = bounded;
}

-- ---- flights

pub flies_set : (fl : List Bool) (page : ℕ) (v : Bool) (is now : ℕ → Bool) → Flies fl is
    → ((q : ℕ) → now q ≡ cond (eqb q page) v (is q)) → Flies (slice_set fl page v) now
flies_set fl page v is now flies change q b e = go (eqb q page) refl
  where
    go : (k : Bool) → eqb q page ≡ k → b ≡ now q
    go true at =
        let same : page ≡ q = sym (eqb-true q page at) in
        set_here fl page q v b (sym same) e
        ∙ sym (change q ∙ ap (λ (k : Bool). cond k v (is q)) at)
    go false at =
        flies q b (sym (set_apart fl page q v (λ x. eqb-false q page at x)) ∙ e)
        ∙ sym (change q ∙ ap (λ (k : Bool). cond k v (is q)) at)

either_order : (a b v x : Bool) → cond a v (cond b v x) ≡ cond b v (cond a v x)
either_order true true v x = refl
either_order true false v x = refl
either_order false true v x = refl
either_order false false v x = refl

-- Two pages, one after the other.
pub flies_both : (fl : List Bool) (p v : ℕ) (k : Bool) (is now : ℕ → Bool) → Flies fl is
    → ((q : ℕ) → now q ≡ cond (eqb q p) k (cond (eqb q v) k (is q))) → Flies (slice_set (slice_set fl p k) v k) now
flies_both fl p v k is now flies change =
    flies_set (slice_set fl p k) v k (λ q. cond (eqb q p) k (is q)) now
    (flies_set fl p k is (λ q. cond (eqb q p) k (is q)) flies (λ q. refl))
    (λ q. change q ∙ either_order (eqb q p) (eqb q v) k (is q))
