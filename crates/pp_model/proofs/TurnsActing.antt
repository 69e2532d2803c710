-- Workers that run their plans: where no errand and no flush is out, a worker that isn't stopped by a latch can do each
-- action that its plan asks, and one is asked, or it can finish.
use Rattle.std.proofs.Common.{◌≡◌, ◌≢◌, ◌∙◌, ◌⊎◌, ℕ, zero, suc, ◌<◌, Bool, true, false, cond, Option, Some, None}
use Rattle.std.proofs.Common.{List, [], ◌∷◌, length, not, refl, sym, ap, subst, inl, inr, arith}
use Rattle.std.specs.Prelude.{slice_get, nat_lt, ◌||◌}
use Rattle.std.proofs.lemmas.Bool.Decides.{nat_tests}
use Rattle.std.proofs.lemmas.Option.{get_or_from_slice_get}
use Rattle.pp_settings.specs.declared.extent.Extent.{Extent}
use Rattle.pp_settings.specs.Layout.{Geometry, HasPage, has_page, IsExtent, IsLayout}
use Rattle.pp_plan.specs.declared.mode.Mode.{Mode}
use Rattle.pp_plan.specs.declared.action.Action.{Action}
use Rattle.pp_plan.specs.declared.action.Action.TheVariants as action
use Rattle.pp_plan.specs.declared.action.Ask.{Ask}
use Rattle.pp_plan.specs.declared.action.Ask.TheVariants as ask
use Rattle.pp_cursor.specs.Asked.{extent_has, region_has}
use Rattle.pp_cursor.specs.Cursor.{NamesAction, IsAskOf}
use Rattle.pp_cursor.proofs.Asking.{asks_named, asked_within}
use Rattle.pp_arc.specs.declared.answer.Answer.{Answer}
use Rattle.pp_arc.specs.declared.answer.Answer.TheVariants as answer
use Rattle.pp_arc.specs.FourLists.{FourLists}
use Rattle.pp_arc.specs.Figure.{request}
use Rattle.pp_arc.proofs.LawLemmas.{RequestAnswers-request}
use Rattle.pp_model.specs.Pool.{acting, Running, State, is_dirty}
use Rattle.pp_model.specs.Holders.{page_in, is_taken, is_flushed, is_busy}
use Rattle.pp_model.specs.Outcome.{Outcome, with_lists}
use Rattle.pp_model.specs.Fixing.{fix_slot, evict_where, fix_by, fix_where, fix_asked, fixes}
use Rattle.pp_model.specs.Using.{unfix_asked, goes_with, latch_where, latch_asked, unlatch_asked, choose_where}
use Rattle.pp_model.specs.Using.{choose_asked}
use Rattle.pp_model.specs.Moves.{asked_by, act_in, act_by, seat_of, IsPossible}
use Rattle.pp_model.specs.declared.moves.Move.TheVariants as move
use Rattle.pp_model.specs.Turns.{Asks, move_for, CanAct, is_stopped_at}
use Rattle.pp_model.specs.Reached.{IsReached}
use Rattle.pp_model.specs.Laws.{IsActing}
use Rattle.pp_model.proofs.Seats.{IsSeat, good}
use Rattle.pp_model.proofs.Soundness.{sound}
use Rattle.pp_model.proofs.Stuck.{none_stuck, brings_it}
use Rattle.pp_model.proofs.Swaps.{by_fix}
use Rattle.pp_model.proofs.TurnsErrands.{Passes, NoErrand, no_page_flies_without_errands}
use Rattle.pp_model.proofs.TurnsLeaving.{a_worker_at_its_end_can_finish}

-- ---- something is asked, or the plan is at its end

-- A region has a page, its first.
extent_at : (xs : List Extent) (r : ℕ) → r < length xs → (e : Extent) × (slice_get xs r ≡ Some e)
extent_at [] r lt = absurd (omega arith)
extent_at (x ∷ xs) zero lt = (x, refl)
extent_at (x ∷ xs) (suc r) lt = extent_at xs r (omega arith)

first_page : (e : Extent) → IsExtent e → has_page e.first e ≡ true
first_page e is = let some = is.some in grind (arith, nat_tests)

a_region_has_a_page : (g : Geometry) (r : ℕ) → IsLayout g → r < length g.extents → (page : ℕ) × HasPage g r page
a_region_has_a_page g r l lt =
    let at = extent_at g.extents r lt in
    let same = get_or_from_slice_get g.extents r at.0 at.0 at.1 in
    (at.0.first, (at.0, at.1, first_page at.0 (subst IsExtent same (l.extents r at.0 lt))))

-- What is asked names an action, or it is the end.
some_action : (g : Geometry) (slots : ℕ) (x : Ask) → IsLayout g → IsAskOf slots (length g.extents) x
    → ((a : Action) × NamesAction g x a) ⊎ (x ≡ ask.End)
some_action g slots (ask.Fix slot region) l h =
    let p = a_region_has_a_page g region l h.1 in inl (action.Fix slot p.0, (refl, p.1))
some_action g slots (ask.Unfix slot) l h = inl (action.Unfix slot, refl)
some_action g slots (ask.Latch slot m) l h = inl (action.Latch slot m, (refl, refl))
some_action g slots (ask.Unlatch slot) l h = inl (action.Unlatch slot, refl)
some_action g slots (ask.Gather slot region) l h =
    let p = a_region_has_a_page g region l h.1 in inl (action.Gather slot p.0, (refl, p.1))
some_action g slots (ask.Scatter slot) l h = inl (action.Scatter slot, refl)
some_action g slots (ask.Choose n) l h = inl (action.Choose 0, omega (arith, h.0))
some_action g slots ask.End l h = inr refl

-- ---- a fix

-- What holds of one of two and not of the second holds of the first.
or_left : (a b : Bool) → (a || b) ≡ true → b ≡ false → a ≡ true
or_left true b e f = refl
or_left false b e f = cc

-- Where no flush is in flight, a fix that a plan asks isn't answered that all frames are busy.
pub a_fix_has_a_frame_when_nothing_is_out : (s : State) → IsReached s → s.flush ≡ None → (w slot page : ℕ)
    → (r : Running) → IsActing s w r → Asks r (fixes (asked_by r) slot page)
    → (request s.lists page (is_busy s)).0 ≢ answer.AllBusy
a_fix_has_a_frame_when_nothing_is_out s h f w slot page r act asks busy =
    let all = (RequestAnswers-request s.lists page (is_busy s) (sound s h).bounds).all_busy.0 busy in
    none_stuck s h w page r (fixes (asked_by r) slot page) act asks (brings_it (asked_by r) slot page) (record {
      away = all.0;
      full = all.1 ∙ (sound s h).c;
      fixed = λ q here.
          or_left (is_taken s q) (is_flushed s.flush q) (all.2 q here) (ap (λ o. is_flushed o q) f);
    })

-- A fix that ARC has a frame for isn't refused.
evict_passes : (s : State) (w : ℕ) (r : Running) (slot page v : ℕ) (b : Bool)
    → Passes (evict_where s w r slot page v b)
evict_passes s w r slot page v true = refl
evict_passes s w r slot page v false = refl

answer_passes : (s : State) (l : FourLists) (w : ℕ) (r : Running) (slot page : ℕ) (a : Answer) → a ≢ answer.AllBusy
    → Passes (fix_by s l w r slot page a)
answer_passes s l w r slot page answer.Hit ne = refl
answer_passes s l w r slot page answer.Free ne = refl
answer_passes s l w r slot page (answer.Evict v) ne = evict_passes (with_lists s l) w r slot page v (is_dirty s v)
answer_passes s l w r slot page answer.AllBusy ne = absurd (ne refl)

-- A fix that is named is asked as one, and a gather so.
fixes_named : (g : Geometry) (k x : Ask) (slot page : ℕ) → NamesAction g x (fixes k slot page)
    → fixes k slot page ≡ fixes x slot page
fixes_named g k x slot page =
    by_fix (λ a b. NamesAction g x a → a ≡ fixes x slot page) k slot page (fix x) (gather x)
  where
    fix : (x : Ask) → NamesAction g x (action.Fix slot page) → action.Fix slot page ≡ fixes x slot page
    fix (ask.Fix t region) n = refl
    fix (ask.Unfix t) n = refl
    fix (ask.Latch t m) n = refl
    fix (ask.Unlatch t) n = refl
    fix (ask.Gather t region) n = absurd n
    fix (ask.Scatter t) n = refl
    fix (ask.Choose k) n = refl
    fix ask.End n = refl

    gather : (x : Ask) → NamesAction g x (action.Gather slot page) → action.Gather slot page ≡ fixes x slot page
    gather (ask.Fix t region) n = absurd n
    gather (ask.Unfix t) n = absurd n
    gather (ask.Latch t m) n = absurd n
    gather (ask.Unlatch t) n = absurd n
    gather (ask.Gather t region) n = refl
    gather (ask.Scatter t) n = absurd n
    gather (ask.Choose k) n = absurd n
    gather ask.End n = absurd n

-- The slot of a fix or a gather that is named.
slot_named : (r : Running) (slot page : ℕ) (k x : Ask)
    → NamesAction r.accepted.plan.layout x (fixes k slot page) → fix_slot r page x ≡ Some slot
slot_named r slot page k x =
    by_fix (λ a b. NamesAction r.accepted.plan.layout x a → fix_slot r page x ≡ Some slot) k slot page (fix x) (gather x)
  where
    has : (t region : ℕ) → t ≡ slot → HasPage r.accepted.plan.layout region page
        → ◌≡◌ {A = Option ℕ} (cond (region_has r.accepted.plan.layout region page) (Some t) None) (Some slot)
    has t region e p =
        let is : region_has r.accepted.plan.layout region page ≡ true =
        subst (λ o. extent_has o page ≡ true) (sym p.1) p.2 in
        ap (λ b. cond b (Some t) None) is ∙ ap Some e

    fix : (x : Ask) → NamesAction r.accepted.plan.layout x (action.Fix slot page) → fix_slot r page x ≡ Some slot
    fix (ask.Fix t region) n = has t region n.0 n.1
    fix (ask.Unfix t) n = absurd n
    fix (ask.Latch t m) n = absurd n
    fix (ask.Unlatch t) n = absurd n
    fix (ask.Gather t region) n = absurd n
    fix (ask.Scatter t) n = absurd n
    fix (ask.Choose k) n = absurd n
    fix ask.End n = absurd n

    gather : (x : Ask) → NamesAction r.accepted.plan.layout x (action.Gather slot page) → fix_slot r page x ≡ Some slot
    gather (ask.Fix t region) n = absurd n
    gather (ask.Unfix t) n = absurd n
    gather (ask.Latch t m) n = absurd n
    gather (ask.Unlatch t) n = absurd n
    gather (ask.Gather t region) n = has t region n.0 n.1
    gather (ask.Scatter t) n = absurd n
    gather (ask.Choose k) n = absurd n
    gather ask.End n = absurd n

-- ---- the other actions

-- What the ask names isn't refused; nor is a latch where the worker isn't stopped.
unfix_passes : (s : State) (w : ℕ) (r : Running) (g : Geometry) (slot : ℕ) (x : Ask)
    → NamesAction g x (action.Unfix slot) → Passes (unfix_asked s w r x)
unfix_passes s w r g slot (ask.Fix t region) n = absurd n
unfix_passes s w r g slot (ask.Unfix t) n = refl
unfix_passes s w r g slot (ask.Latch t m) n = absurd n
unfix_passes s w r g slot (ask.Unlatch t) n = absurd n
unfix_passes s w r g slot (ask.Gather t region) n = absurd n
unfix_passes s w r g slot (ask.Scatter t) n = absurd n
unfix_passes s w r g slot (ask.Choose k) n = absurd n
unfix_passes s w r g slot ask.End n = absurd n

scatter_passes : (s : State) (w : ℕ) (r : Running) (g : Geometry) (slot : ℕ) (x : Ask)
    → NamesAction g x (action.Scatter slot) → Passes (unfix_asked s w r x)
scatter_passes s w r g slot (ask.Fix t region) n = absurd n
scatter_passes s w r g slot (ask.Unfix t) n = absurd n
scatter_passes s w r g slot (ask.Latch t m) n = absurd n
scatter_passes s w r g slot (ask.Unlatch t) n = absurd n
scatter_passes s w r g slot (ask.Gather t region) n = absurd n
scatter_passes s w r g slot (ask.Scatter t) n = refl
scatter_passes s w r g slot (ask.Choose k) n = absurd n
scatter_passes s w r g slot ask.End n = absurd n

goes_passes : (s : State) (w : ℕ) (r : Running) (slot : ℕ) (m : Mode) (b : Bool) → not b ≡ false
    → Passes (latch_where s w r slot m b)
goes_passes s w r slot m true e = refl
goes_passes s w r slot m false e = cc

latch_passes : (s : State) (w : ℕ) (r : Running) (g : Geometry) (slot : ℕ) (m : Mode) (x : Ask)
    → is_stopped_at s r x ≡ false → NamesAction g x (action.Latch slot m) → Passes (latch_asked s w r x)
latch_passes s w r g slot m (ask.Fix t region) go n = absurd n
latch_passes s w r g slot m (ask.Unfix t) go n = absurd n
latch_passes s w r g slot m (ask.Latch t k) go n = goes_passes s w r t k (goes_with s k (page_in r t)) go
latch_passes s w r g slot m (ask.Unlatch t) go n = absurd n
latch_passes s w r g slot m (ask.Gather t region) go n = absurd n
latch_passes s w r g slot m (ask.Scatter t) go n = absurd n
latch_passes s w r g slot m (ask.Choose k) go n = absurd n
latch_passes s w r g slot m ask.End go n = absurd n

unlatch_passes : (s : State) (w : ℕ) (r : Running) (g : Geometry) (slot : ℕ) (x : Ask)
    → NamesAction g x (action.Unlatch slot) → Passes (unlatch_asked s w r x)
unlatch_passes s w r g slot (ask.Fix t region) n = absurd n
unlatch_passes s w r g slot (ask.Unfix t) n = absurd n
unlatch_passes s w r g slot (ask.Latch t m) n = absurd n
unlatch_passes s w r g slot (ask.Unlatch t) n = refl
unlatch_passes s w r g slot (ask.Gather t region) n = absurd n
unlatch_passes s w r g slot (ask.Scatter t) n = absurd n
unlatch_passes s w r g slot (ask.Choose k) n = absurd n
unlatch_passes s w r g slot ask.End n = absurd n

branch_passes : (s : State) (w : ℕ) (r : Running) (i n : ℕ) (b : Bool) → nat_lt i n ≡ b → i < n
    → Passes (choose_where s w r i b)
branch_passes s w r i n true e lt = refl
branch_passes s w r i n false e lt = absurd (grind (arith, nat_tests))

choose_passes : (s : State) (w : ℕ) (r : Running) (g : Geometry) (i : ℕ) (x : Ask)
    → NamesAction g x (action.Choose i) → Passes (choose_asked s w r i x)
choose_passes s w r g i (ask.Fix t region) n = absurd n
choose_passes s w r g i (ask.Unfix t) n = absurd n
choose_passes s w r g i (ask.Latch t m) n = absurd n
choose_passes s w r g i (ask.Unlatch t) n = absurd n
choose_passes s w r g i (ask.Gather t region) n = absurd n
choose_passes s w r g i (ask.Scatter t) n = absurd n
choose_passes s w r g i (ask.Choose k) n = branch_passes s w r i k (nat_lt i k) refl n
choose_passes s w r g i ask.End n = absurd n

-- ---- an acting worker

-- What isn't refused to an acting worker is possible.
act_passes : (s : State) (w : ℕ) (act : Running → Outcome) (r : Running) → IsActing s w r → Passes (act r)
    → Passes (act_by s act (seat_of s w))
act_passes s w act r at p =
    subst (λ o. Passes (act_by s act o)) (sym at.seat) (subst (λ g. Passes (act_in s act r g)) (sym at.stage) p)

module _ (s : State) (h : IsReached s) (none : NoErrand s) (free : s.flush ≡ None) (w : ℕ) (r : Running)
    (at : IsActing s w r) (goes : is_stopped_at s r (asked_by r) ≡ false) where
  seat : IsSeat s.settings.layout r
  seat = (good s h).seats w (Some r) at.seat

  named : (a : Action) → Asks r a → NamesAction r.accepted.plan.layout (asked_by r) a
  named a asks = (asks_named r.accepted.plan r.done a seat.accepted.plan).0 asks

  -- A page that goes into a slot.
  going_in : (k : Ask) (slot page : ℕ) → Asks r (fixes k slot page) → IsPossible s (move.Fix w page)
  going_in k slot page asks =
      let names = named (fixes k slot page) asks in
      let asks_so : Asks r (fixes (asked_by r) slot page) = subst (Asks r) (fixes_named r.accepted.plan.layout k (asked_by r)
      slot page names) asks in
      act_passes s w _ r at
      (subst (λ o. Passes (fix_asked s w r page o)) (sym (slot_named r slot page k (asked_by r) names))
      (subst (λ b. Passes (fix_where s w r slot page b)) (sym (no_page_flies_without_errands s none page))
      (answer_passes s (request s.lists page (is_busy s)).1 w r slot page (request s.lists page (is_busy s)).0
      (a_fix_has_a_frame_when_nothing_is_out s h free w slot page r at asks_so))))

  -- Each action that is asked is possible.
  pub what_is_asked_is_possible : (a : Action) → Asks r a → IsPossible s (move_for w a)
  what_is_asked_is_possible (action.Fix slot page) asks = going_in ask.End slot page asks
  what_is_asked_is_possible (action.Unfix slot) asks =
      act_passes s w _ r at
      (unfix_passes s w r r.accepted.plan.layout slot (asked_by r) (named (action.Unfix slot) asks))
  what_is_asked_is_possible (action.Latch slot m) asks =
      act_passes s w _ r at
      (latch_passes s w r r.accepted.plan.layout slot m (asked_by r) goes (named (action.Latch slot m) asks))
  what_is_asked_is_possible (action.Unlatch slot) asks =
      act_passes s w _ r at
      (unlatch_passes s w r r.accepted.plan.layout slot (asked_by r) (named (action.Unlatch slot) asks))
  what_is_asked_is_possible (action.Gather slot page) asks = going_in (ask.Gather slot 0) slot page asks
  what_is_asked_is_possible (action.Scatter slot) asks =
      act_passes s w _ r at
      (scatter_passes s w r r.accepted.plan.layout slot (asked_by r) (named (action.Scatter slot) asks))
  what_is_asked_is_possible (action.Choose i) asks =
      act_passes s w _ r at
      (choose_passes s w r r.accepted.plan.layout i (asked_by r) (named (action.Choose i) asks))

  -- A worker that acts and isn't stopped by a latch can go on, or finish.
  pub a_worker_that_is_not_stopped_can_act : CanAct s w r acting
  a_worker_that_is_not_stopped_can_act =
      go (some_action r.accepted.plan.layout (length r.accepted.plan.slots) (asked_by r) seat.accepted.plan.layout
      (asked_within r.accepted.plan r.done seat.accepted.plan))
    where
      go : ((a : Action) × NamesAction r.accepted.plan.layout (asked_by r) a) ⊎ (asked_by r ≡ ask.End)
          → CanAct s w r acting
      go (inl n) =
          inl (record {
            some = (n.0, (asks_named r.accepted.plan r.done n.0 seat.accepted.plan).1 n.1);
            each = what_is_asked_is_possible;
          })
      go (inr end) = inr (a_worker_at_its_end_can_finish s w r at.seat at.stage end)
