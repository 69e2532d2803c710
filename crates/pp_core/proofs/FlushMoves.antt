-- The flusher's moves, where they are done: what the core's calls need, and that its parts stand for the next state.
use Rattle.std.proofs.Common.{◌≡◌, ◌∙◌, ℕ, ◌+◌, ◌-◌, ◌<◌, Bool, true, false, Option, Some, None, List, refl, sym, ap}
use Rattle.std.proofs.Common.{subst, arith}
use Rattle.std.specs.Prelude.{option_map, nat_lt, length, ◌==◌, ◌&&◌}
use Rattle.std.proofs.lemmas.Bool.Decides.{nat_tests}
use Rattle.pp_frames.specs.Marks as map
use Rattle.pp_frames.specs.declared.mode.Mode.TheVariants as latch_mode
use Rattle.pp_frames.specs.Marks.{PageMap, PageMarks, is_exclusive}
use Rattle.pp_arc.specs.FourLists.{FourLists, is_cached}
use Rattle.pp_model.specs.declared.moves.Move.TheVariants as move
use Rattle.pp_model.specs.declared.reply.Reply.TheVariants.{Flushing, Flushed, NotNow, OffPlan}
use Rattle.pp_model.specs.declared.refusals.Delay.TheVariants.{LatchHeld}
use Rattle.pp_model.specs.declared.refusals.Cause.TheVariants.{NotDirty, NoFlushLeft}
use Rattle.pp_model.specs.Pool.{Running, State, is_dirty, mark_at}
use Rattle.pp_model.specs.Holders.{is_in_flight, latches_of}
use Rattle.pp_model.specs.Budget.{running_peaks, journal_need, bound}
use Rattle.pp_model.specs.Marks.{marks}
use Rattle.pp_model.specs.Moves.{outcome_of}
use Rattle.pp_model.specs.Flushing.{flush_by, flush_where, flushed_by, flushed_where}
use Rattle.pp_model.specs.Flushing.{flush_begun as flush_begun_in}
use Rattle.pp_model.specs.Flushing.{is_clean as is_clean_in}
use Rattle.pp_model.specs.Reached.{IsReached}
use Rattle.pp_model.proofs.Framed.{flushed_low, cached_low}
use Rattle.pp_model.proofs.MarkParts.{marks_is}
use Rattle.pp_model.proofs.MarkChanges.{latches_told}
use Rattle.pp_model.proofs.Changes.{CanFlush}
use Rattle.pp_model.proofs.MarkSteps as marked
use Rattle.pp_model.proofs.BoundSteps as numbers
use Rattle.pp_core.specs.declared.table.Flush.{Flush}
use Rattle.pp_core.specs.Parts.{Parts}
use Rattle.pp_core.specs.StandsFor.{FitsCrew, StandsFor, IsKept, Moves, in_flight_as}
use Rattle.pp_core.specs.FlushEffects.{is_changed, flush_begun, is_clean, flush_ended}
use Rattle.pp_core.specs.Effects.{mark_at as mark_in}
use Rattle.pp_core.proofs.Gathered.{bundles_kept}
use Rattle.pp_core.proofs.Crew.{set_length}
use Rattle.pp_core.proofs.PlanTies.{plans_stay}
use Rattle.pp_core.proofs.Ties.{Leads, moves_by, refuses}
use Rattle.pp_core.proofs.UsingMoves.{mark_told}

-- ---- what stays

-- The states differ only in what is noted of pages, in the flush in flight, and in the flushes left.
pub record SameWorkers (s t : State) : Type 0 where
  pub settings : t.settings ≡ s.settings
  pub plans : t.plans ≡ s.plans
  pub taken : t.taken ≡ s.taken
  pub seats : t.seats ≡ s.seats
  pub lists : t.lists ≡ s.lists
  pub notes : length t.notes ≡ length s.notes
  pub in_flight : (q : ℕ) → is_in_flight t q ≡ is_in_flight s q
  pub running : running_peaks t ≡ running_peaks s

-- The core's parts follow, where the marks, the flush and the numbers do.
pub flush_stands : (f : Parts) (s t : State) (m : PageMap) (flush : Option Flush) (left b : ℕ) → StandsFor f s
    → IsReached t → SameWorkers s t → m ≡ marks t → option_map in_flight_as flush ≡ t.flush → left ≡ t.flushes_left
    → b ≡ bound t → StandsFor (record f { marks = m; flush = flush; flushes_left = left; budget = b }) t
flush_stands f s t m flush left b st reached same marked_so flushed so_many bounded = record {
  reached = reached;
  layout = st.layout ∙ sym (ap (λ k. k.layout) same.settings);
  span = st.span ∙ sym (ap (λ k. k.span) same.settings);
  flushes = st.flushes ∙ sym (ap (λ k. k.flushes) same.settings);
  flushes_left = so_many;
  plans = plans_stay f.plans f.waiting s t st.plans same.settings same.plans same.taken;
  taken = st.taken ∙ sym same.taken;
  seats = subst (λ (ys : List (Option Running)). FitsCrew f.plans f.seats ys) (sym same.seats) st.seats;
  lists = st.lists ∙ sym same.lists;
  marks = marked_so;
  bundles = bundles_kept f.bundles s t st.bundles same.seats same.settings;
  pages = st.pages ∙ sym same.notes;
  in_flight = λ q v e. st.in_flight q v e ∙ sym (same.in_flight q);
  flush = flushed;
  running = st.running ∙ sym same.running;
  need = st.need ∙ sym (ap (λ k. journal_need k t.plans) same.settings ∙ ap (journal_need s.settings) same.plans);
  budget = bounded;
}

-- The bound falls by one on both sides.
pub budget_less : (f : Parts) (s t : State) → StandsFor f s → bound t + 1 ≡ bound s → f.budget - 1 ≡ bound t
budget_less f s t st e = omega (arith, st.budget, e)

-- ---- the end of a flush

-- The state's flush is the core's.
flush_is : (f : Parts) (s : State) (x : Flush) → StandsFor f s → f.flush ≡ Some x → s.flush ≡ Some (in_flight_as x)
flush_is f s x st e = sym st.flush ∙ ap (option_map in_flight_as) e

pub flushed_in : (f : Parts) (x : Flush) → IsKept f → f.flush ≡ Some x → x.page < length f.marks.pages
flushed_in f x k e =
    let s = k.state in
    let low = marked.clean_low s k.stands.reached (in_flight_as x) (flush_is f s x k.stands e) in
    omega (arith, low, ap (λ (m : PageMap). length m.pages) k.stands.marks)

module _ (f : Parts) (x : Flush) (ok : Bool) (here : f.flush ≡ Some x) where
  -- The core's test is the state's.
  same_clean : (s : State) → StandsFor f s → is_clean f.marks ok x ≡ is_clean_in s ok (in_flight_as x)
  same_clean s st =
      let low = flushed_low s st.reached (in_flight_as x) (flush_is f s x st here) in
      let mark : mark_in f.marks x.page ≡ mark_at s x.page =
      ap (λ (m : PageMap). mark_in m x.page) st.marks ∙ mark_told s x.page low in
      ap (λ (n : ℕ). ok && (n == x.began)) mark

  ends : (s : State) (clean : Bool) → StandsFor f s → clean ≡ is_clean f.marks ok x
      → outcome_of s (move.FlushDone ok) ≡ flushed_where s x.page clean
  ends s clean st e =
      ap (flushed_by s ok) (flush_is f s x st here) ∙ ap (flushed_where s x.page) (sym (e ∙ same_clean s st))

  leads : (s : State) (clean : Bool) → StandsFor f s → clean ≡ is_clean f.marks ok x
      → Leads f s (move.FlushDone ok) (Flushed clean) (flush_ended f x.page clean)
  leads s true st e =
      let k = in_flight_as x in
      let t = (flushed_where s x.page true).state in
      let is = flush_is f s x st here in
      record {
        after = flushed_where s x.page true;
        is = ends s true st e;
        replies = refl;
        plans = refl;
        stands = λ reached. flush_stands f s t (map.with_dirty f.marks x.page false) None f.flushes_left (f.budget - 1)
            st reached
            (record {
              settings = refl;
              plans = refl;
              taken = refl;
              seats = refl;
              lists = refl;
              notes = set_length s.notes x.page _;
              in_flight = λ q. refl;
              running = refl;
            })
            (ap (λ (m : PageMap). map.with_dirty m x.page false) st.marks ∙ sym (marked.clean_marks s st.reached k is))
            refl st.flushes_left (budget_less f s t st (numbers.clean_bound s k is));
      }
  leads s false st e =
      let k = in_flight_as x in
      let t = (flushed_where s x.page false).state in
      let is = flush_is f s x st here in
      record {
        after = flushed_where s x.page false;
        is = ends s false st e;
        replies = refl;
        plans = refl;
        stands = λ reached. flush_stands f s t f.marks None f.flushes_left (f.budget - 1) st reached
            (record {
              settings = refl;
              plans = refl;
              taken = refl;
              seats = refl;
              lists = refl;
              notes = refl;
              in_flight = λ q. refl;
              running = refl;
            })
            st.marks refl st.flushes_left (budget_less f s t st (numbers.drop_bound s k is));
      }

  pub flush_done_moves : (clean : Bool) → clean ≡ is_clean f.marks ok x
      → Moves f (move.FlushDone ok) (Flushed clean) (flush_ended f x.page clean)
  flush_done_moves clean e =
      moves_by f (flush_ended f x.page clean) (move.FlushDone ok) (Flushed clean) (λ s st. leads s clean st e)

-- ---- the begin of a flush

module _ (f : Parts) (page : ℕ) where
  dirty_told : (s : State) → page < length s.notes → map.is_dirty (marks s) page ≡ is_dirty s page
  dirty_told s low = ap (λ (x : PageMarks). x.dirty) (marks_is s page low)

  -- A page that isn't cached isn't looked at further.
  changed_where : (s : State) (b : Bool) → IsReached s → is_cached s.lists page ≡ b
      → (is_cached s.lists page && map.is_dirty (marks s) page) ≡ (is_cached s.lists page && is_dirty s page)
  changed_where s true h e = ap (λ (x : Bool). is_cached s.lists page && x) (dirty_told s (cached_low s h page e))
  changed_where s false h e =
      ap (λ (b : Bool). b && map.is_dirty (marks s) page) e ∙ sym (ap (λ (b : Bool). b && is_dirty s page) e)

  -- The core's test is the state's.
  same_changed : (s : State) → StandsFor f s → is_changed f page ≡ (is_cached s.lists page && is_dirty s page)
  same_changed s st =
      ap (λ (l : FourLists). is_cached l page && map.is_dirty f.marks page) st.lists
      ∙ ap (λ (m : PageMap). is_cached s.lists page && map.is_dirty m page) st.marks
      ∙ changed_where s (is_cached s.lists page) st.reached refl

  both_true : (a b : Bool) → (a && b) ≡ true → a ≡ true
  both_true true b e = refl
  both_true false b e = e

  -- A changed page is one of the pool's.
  changed_low : (s : State) → StandsFor f s → is_changed f page ≡ true → page < length s.notes
  changed_low s st e =
      cached_low s st.reached page (both_true (is_cached s.lists page) (is_dirty s page) (sym (same_changed s st) ∙ e))

  module _ (none : f.flush ≡ None) where
    -- The outcome, by the three tests.
    begins : (s : State) (a b d : Bool) → StandsFor f s → is_changed f page ≡ a → nat_lt 0 f.flushes_left ≡ b
        → is_exclusive (latches_of s page) ≡ d → outcome_of s (move.FlushBegin page) ≡ flush_where s page a b d
    begins s a b d st changed left written =
        ap (flush_by s page) (sym st.flush ∙ ap (option_map in_flight_as) none)
        ∙ ap (λ (x : Bool). flush_where s page x (nat_lt 0 s.flushes_left) (is_exclusive (latches_of s page)))
        (sym (same_changed s st) ∙ changed)
        ∙ ap (λ (x : Bool). flush_where s page a x (is_exclusive (latches_of s page)))
        (ap (nat_lt 0) (sym st.flushes_left) ∙ left)
        ∙ ap (flush_where s page a b) written

    pub not_dirty : is_changed f page ≡ false → Moves f (move.FlushBegin page) (OffPlan NotDirty) f
    not_dirty e = refuses f (move.FlushBegin page) (OffPlan NotDirty)
        (λ s st. begins s false (nat_lt 0 f.flushes_left) (is_exclusive (latches_of s page)) st e refl refl)

    pub none_left : is_changed f page ≡ true → f.flushes_left ≡ 0
        → Moves f (move.FlushBegin page) (OffPlan NoFlushLeft) f
    none_left e zero_left = refuses f (move.FlushBegin page) (OffPlan NoFlushLeft)
        (λ s st. begins s true false (is_exclusive (latches_of s page)) st e (ap (nat_lt 0) zero_left) refl)

    some_left : 0 < f.flushes_left → nat_lt 0 f.flushes_left ≡ true
    some_left lt = grind (arith, nat_tests)

    -- The core's latches are the state's.
    same_latch : (s : State) → StandsFor f s → is_changed f page ≡ true
        → is_exclusive (latches_of s page) ≡ map.has_latch latch_mode.X (map.latches_of f.marks page)
    same_latch s st e =
        ap is_exclusive (sym (latches_told s page (changed_low s st e)))
        ∙ ap (λ (m : PageMap). is_exclusive (map.latches_of m page)) (sym st.marks)

    pub latch_held : is_changed f page ≡ true → 0 < f.flushes_left
        → map.has_latch latch_mode.X (map.latches_of f.marks page) ≡ true
        → Moves f (move.FlushBegin page) (NotNow LatchHeld) f
    latch_held e left latched = refuses f (move.FlushBegin page) (NotNow LatchHeld)
        (λ s st. begins s true true true st e (some_left left) (same_latch s st e ∙ latched))

    module _ (changed : is_changed f page ≡ true) (left : 0 < f.flushes_left)
        (unlatched : map.has_latch latch_mode.X (map.latches_of f.marks page) ≡ false) where
      can_flush : (s : State) → StandsFor f s → CanFlush s page
      can_flush s st = record {
        none = sym st.flush ∙ ap (option_map in_flight_as) none;
        changed = sym (same_changed s st) ∙ changed;
        some = ap (nat_lt 0) (sym st.flushes_left) ∙ some_left left;
        unwritten = same_latch s st changed ∙ unlatched;
      }

      -- The outcome, where it is done.
      pub begin_outcome : (s : State) → StandsFor f s
          → outcome_of s (move.FlushBegin page) ≡ flush_where s page true true false
      begin_outcome s st = begins s true true false st changed (some_left left) (same_latch s st changed ∙ unlatched)

      begin_leads : (s : State) (mark : ℕ) → StandsFor f s → mark ≡ mark_in f.marks page
          → Leads f s (move.FlushBegin page) (Flushing mark) (flush_begun f page mark)
      begin_leads s mark st e =
          let t = flush_begun_in s page in
          let at : mark ≡ mark_at s page =
          e ∙ ap (λ (m : PageMap). mark_in m page) st.marks ∙ mark_told s page (changed_low s st changed) in
          record {
            after = record { reply = Flushing (mark_at s page); state = t };
            is = begin_outcome s st;
            replies = ap Flushing at;
            plans = refl;
            stands = λ reached. flush_stands f s t f.marks (Some (record { page = page; began = mark }))
                (f.flushes_left - 1) (f.budget - 1) st reached
                (record {
                  settings = refl;
                  plans = refl;
                  taken = refl;
                  seats = refl;
                  lists = refl;
                  notes = refl;
                  in_flight = λ q. refl;
                  running = refl;
                })
                st.marks (ap (λ (n : ℕ). Some (record { page = page; began = n })) at)
                (ap (λ (n : ℕ). n - 1) st.flushes_left)
                (budget_less f s t st (numbers.flush_bound s page (can_flush s st)));
          }

      pub flush_begin_moves : (mark : ℕ) → mark ≡ mark_in f.marks page
          → Moves f (move.FlushBegin page) (Flushing mark) (flush_begun f page mark)
      flush_begin_moves mark e =
          moves_by f (flush_begun f page mark) (move.FlushBegin page) (Flushing mark) (λ s st. begin_leads s mark st e)
