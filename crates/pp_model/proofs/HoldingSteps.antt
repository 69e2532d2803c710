-- What a worker holds in every reached state, slot by slot, and what each way in which a move is done makes of it: one
-- slot changes, or none.
use Rattle.std.proofs.Common.{◌≡◌, ◌∙◌, ℕ, ◌+◌, ◌≤◌, ◌<◌, Bool, true, false, eqb, cond, Option, Some, None}
use Rattle.std.proofs.Common.{List, [], ◌∷◌, refl, sym, ap, subst, inl, inr, arith}
use Rattle.std.specs.Prelude.{◌⊎◌, sum_by, filter, not, unwrap_or, option_map, ◌==◌, if◌then◌else◌}
use Rattle.std.proofs.lemmas.List.Elements.{All-nil, All-cons}
use Rattle.std.proofs.lemmas.List.Sums.{sum_by-cons}
use Rattle.std.proofs.lemmas.Bool.Decides.{nat_tests}
use Rattle.pp_settings.specs.Layout.{Geometry, page_count}
use Rattle.pp_plan.specs.declared.mode.Mode.{Mode}
use Rattle.pp_plan.specs.declared.action.Action.{Action}
use Rattle.pp_plan.specs.declared.action.Action.TheVariants as action
use Rattle.pp_plan.specs.declared.action.Ask.TheVariants as ask
use Rattle.pp_cursor.specs.Asked.{asked}
use Rattle.pp_settings.specs.Limits.{most_slots}
use Rattle.pp_cursor.proofs.Asking.{asks_end}
use Rattle.pp_cert.specs.declared.note.Held.{Held}
use Rattle.pp_cert.specs.declared.note.Held.TheVariants.{Free, S, X}
use Rattle.pp_cert.specs.Accepted.{Acceptance}
use Rattle.pp_cert.specs.Held.{Holding, Holdings, holding_slot, holding_at, held, held_in as held_for}
use Rattle.pp_cert.specs.Held.{is_latched, holds_bundle}
use Rattle.pp_cert.proofs.Slots.{slot_all}
use Rattle.pp_model.specs.Pool.{Stage, acting, writing, reading, leaving, Running, State}
use Rattle.pp_model.specs.Holders.{given_back, is_among, holdings, held_slots, page_in, held_in}
use Rattle.pp_model.specs.Outcome.{at_stage, having_done}
use Rattle.pp_model.specs.Moves.{asked_by, seat_of}
use Rattle.pp_model.specs.Taking.{beginning}
use Rattle.pp_model.specs.Turns.{Asks}
use Rattle.pp_model.specs.Reached.{IsReached}
use Rattle.pp_model.specs.Fixing.{fixes}
use Rattle.pp_model.specs.Laws.{IsOwn, AreOfABundle, SlotsAreOfAKind}
use Rattle.pp_model.proofs.Changes.{IsAt, IsAsked}
use Rattle.pp_model.proofs.Seats.{IsSeat, Sends, asks_now, good, begins_more}
use Rattle.pp_model.proofs.Swaps.{Handles, as_held, gathers, new_page}
use Rattle.pp_model.proofs.KeptSlots.{AreBundled, IsKeptAt, own, packed, HasOwn, Fills, Places, fix_places, found_in, filled_at, slot_found}
use Rattle.pp_model.proofs.Effects.{all_held, has_held, asked_handles, asked_places, unwound_fills, holdings_kept}
use Rattle.pp_model.proofs.HeldSlots.{count_of, held_set, counts_one}
use Rattle.pp_model.proofs.Inside.{outside, inside, fix_within, held_inside}

-- ---- one seat

-- The seat of worker w is sound in each reached state.
pub seat_is : (s : State) → IsReached s → (w : ℕ) (r : Running) → seat_of s w ≡ Some (Some r)
    → IsSeat s.settings.layout r
seat_is s h w r e = (good s h).seats w (Some r) e

-- A sum over a part of the holdings is at most the whole sum.
filter_le : (f : Holding → ℕ) (p : Holding → Bool) (hs : Holdings) → sum_by f (filter p hs) ≤ sum_by f hs
filter_le f p [] = omega arith
filter_le f p (y ∷ ys) = go (p y) (filter_le f p ys)
  where
    go : (b : Bool) → sum_by f (filter p ys) ≤ sum_by f ys
        → sum_by f (cond b (y ∷ filter p ys) (filter p ys)) ≤ sum_by f (y ∷ ys)
    go true le = omega (arith, sum_by-cons f y (filter p ys), sum_by-cons f y ys, le)
    go false le = omega (arith, sum_by-cons f y ys, le)

-- What a worker holds is a part of what is held after the actions that it has done.
held_part : (g : Geometry) (r : Running) (h : IsSeat g r) (f : Holding → ℕ)
    → sum_by f (holdings r) ≤ sum_by f (has_held g r h).0
held_part g r h f =
    let before = has_held g r h in
    let all : unwrap_or (held r.done) [] ≡ before.0 = ap (λ (o : Option Holdings). unwrap_or o []) before.1 in
    let part = filter_le f (λ x. not (is_among (given_back r.stage) x)) (unwrap_or (held r.done) []) in
    omega (arith, ap (sum_by f) all, part)

-- ---- what a worker holds

-- Before a worker gives slots back, it holds what is held after the actions that it has done.
pub none_given_holds : (s : State) → IsReached s → (w : ℕ) (r : Running) → seat_of s w ≡ Some (Some r)
    → given_back r.stage ≡ [] → held r.done ≡ Some (holdings r)
none_given_holds s h w r e none =
    let before = has_held s.settings.layout r (seat_is s h w r e) in
    before.1 ∙ ap Some (sym (all_held r before.0 none before.1))

pub acting_holds : (s : State) → IsReached s → (w : ℕ) (r : Running) → IsAt s w r acting
    → held r.done ≡ Some (holdings r)
acting_holds s h w r at = none_given_holds s h w r at.seat (ap given_back at.stage)

pub writing_holds : (s : State) → IsReached s → (w : ℕ) (r : Running) (slot page v : ℕ)
    → IsAt s w r (writing slot page v) → held r.done ≡ Some (holdings r)
writing_holds s h w r slot page v at = none_given_holds s h w r at.seat (ap given_back at.stage)

pub reading_holds : (s : State) → IsReached s → (w : ℕ) (r : Running) (slot page : ℕ) → IsAt s w r (reading slot page)
    → held r.done ≡ Some (holdings r)
reading_holds s h w r slot page at = none_given_holds s h w r at.seat (ap given_back at.stage)

-- ---- slots and pages are within the plan and the layout

-- A holding that is found weighs at most what all weigh.
found_weighs : (f : Holding → ℕ) (hs : Holdings) (slot : ℕ) (h : Holding) → holding_at hs slot ≡ Some h
    → f h ≤ sum_by f hs
found_weighs f [] slot h e = cc
found_weighs f (y ∷ ys) slot h e = go (eqb y.slot slot) e (found_weighs f ys slot h)
  where
    go : (b : Bool) → cond b (Some y) (holding_at ys slot) ≡ Some h
        → (holding_at ys slot ≡ Some h → f h ≤ sum_by f ys) → f h ≤ sum_by f (y ∷ ys)
    go true e all = let same : y ≡ h = cc in omega (arith, sum_by-cons f y ys, ap f same)
    go false e all = omega (arith, sum_by-cons f y ys, all e)

-- A slot that holds a page is one of 32, is the holding's own, and the page is one of the layout.
pub record IsWithin (g : Geometry) (slot : ℕ) (h : Holding) : Type 0 where
  pub few : slot < 32
  pub own : h.slot ≡ slot
  pub page : h.page < page_count g

pub within_seat : (g : Geometry) (r : Running) (k : ℕ) (h : Holding) → IsSeat g r → holding_at (holdings r) k ≡ Some h
    → IsWithin g k h
within_seat g r k h seat e =
    let p = r.accepted.plan in
    let f = outside (page_count p.layout) in
    let parts = held_part g r seat f in
    let weighs : f h ≡ 0 = omega (arith, found_weighs f (holdings r) k h e, parts, held_inside g r seat) in
    let in_all = inside (page_count p.layout) h weighs in
    let own = slot_found (holdings r) k h e in
    record {
      few = omega (arith, own, in_all.0);
      own = own;
      page = subst (λ l. h.page < page_count l) (sym seat.layout) in_all.1;
    }

pub slots_are_within : (s : State) → IsReached s → (w : ℕ) (r : Running) → seat_of s w ≡ Some (Some r)
    → (k : ℕ) (h : Holding) → holding_at (holdings r) k ≡ Some h → IsWithin s.settings.layout k h
slots_are_within s h w r e k x found = within_seat s.settings.layout r k x (seat_is s h w r e) found

-- Where no slot holds something, nothing is held.
found_first : (y : Holding) (ys : Holdings) → holding_at (y ∷ ys) y.slot ≡ Some y
found_first y ys =
    let here : eqb y.slot y.slot ≡ true = grind (arith, nat_tests) in
    ap (λ b. cond b (Some y) (holding_at ys y.slot)) here

pub none_holds : (s : State) → IsReached s → (w : ℕ) (r : Running) → seat_of s w ≡ Some (Some r)
    → held_slots most_slots (holdings r) ≡ 0 → holdings r ≡ []
none_holds s h w r e none = go (holdings r) refl
  where
    go : (hs : Holdings) → holdings r ≡ hs → hs ≡ []
    go [] same = refl
    go (y ∷ ys) same =
        let found = ap (λ k. holding_at k y.slot) same ∙ found_first y ys in
        let few = (slots_are_within s h w r e y.slot y found).few in
        absurd (omega (arith, none, counts_one most_slots y.slot (holdings r) y few found))

-- ---- one slot changes

-- What the slot holds, and what a look at the worker's slot tells of it.
pub record Holds (r : Running) (slot : ℕ) (h : Holding) : Type 0 where
  pub found : holding_at (holdings r) slot ≡ Some h
  pub own : h.slot ≡ slot
  pub page_is : page_in r slot ≡ h.page
  pub held_is : held_in r slot ≡ h.held

pub holds_at : (r : Running) (slot : ℕ) (h : Holding) → holding_at (holdings r) slot ≡ Some h → Holds r slot h
holds_at r slot h e = record {
  found = e;
  own = slot_found (holdings r) slot h e;
  page_is = ap (λ (o : Option Holding). unwrap_or (option_map (λ x. x.page) o) 0) e;
  held_is = ap (λ (o : Option Holding). unwrap_or (option_map (λ x. x.held) o) Free) e;
}

same_found : (hs : Holdings) (slot : ℕ) (h x : Holding) → holding_at hs slot ≡ Some h → holding_at hs slot ≡ Some x
    → x ≡ h
same_found hs slot h x e f = cc

bundle_some : (o : Option Holding) → holds_bundle o ≡ true → (h : Holding) × (o ≡ Some h)
bundle_some None e = cc
bundle_some (Some h) e = (h, refl)

is_shared_or_exclusive : (u : Held) → is_latched u ≡ true → (u ≡ S) ⊎ (u ≡ X)
is_shared_or_exclusive Free e = cc
is_shared_or_exclusive S e = inl refl
is_shared_or_exclusive X e = inr refl

-- An action that the plan asks of a seat, before slots are given back.
module _ (g : Geometry) (r : Running) (seat : IsSeat g r) (none : given_back r.stage ≡ []) where
  after_seat : (a : Action) → Asks r a → IsSeat g (having_done r a)
  after_seat a asks =
      record { accepted = seat.accepted; layout = seat.layout; begun = begins_more r a asks; errand = tt }

  -- A page goes into the slot: a bundle's before its other pages, any other into a slot that is empty.
  fix_fills : (slot page : ℕ) → Asks r (fixes (asked_by r) slot page)
      → AreBundled (slot_all holding_slot slot (holdings r))
      × (gathers (asked_by r) ≡ false → slot_all holding_slot slot (holdings r) ≡ [])
      × Fills slot (new_page (asked_by r) slot page ∷ slot_all holding_slot slot (holdings r)) (holdings r)
      (holdings (having_done r (fixes (asked_by r) slot page)))
  fix_fills slot page asks =
      let a = fixes (asked_by r) slot page in
      fix_places (holdings r) (holdings (having_done r a)) (asked_by r) slot page (asked_places g r a seat none asks)

  fix_counts : (slot page : ℕ) → Asks r (fixes (asked_by r) slot page)
      → held_slots most_slots (holdings (having_done r (fixes (asked_by r) slot page)))
      + count_of (holding_at (holdings r) slot) ≡ held_slots most_slots (holdings r) + 1
  fix_counts slot page asks =
      let a = fixes (asked_by r) slot page in
      let x = new_page (asked_by r) slot page in
      let few = (fix_within r.accepted.plan r.done (asked_by r) slot page seat.accepted.plan asks).0 in
      let fills = (fix_fills slot page asks).2 in
      held_set most_slots slot (Some x) (holdings r) (holdings (having_done r a)) few
      (filled_at slot (x ∷ slot_all holding_slot slot (holdings r)) (holdings r) (holdings (having_done r a)) fills)

  -- A slot is emptied.
  emptied_counts : (a : Action) (slot : ℕ) (h : Holding) → holding_at (holdings r) slot ≡ Some h
      → Fills slot [] (holdings r) (holdings (having_done r a))
      → held_slots most_slots (holdings (having_done r a)) + 1 ≡ held_slots most_slots (holdings r)
  emptied_counts a slot h found fills =
      let few = (within_seat g r slot h seat found).few in
      let set =
      held_set most_slots slot None (holdings r) (holdings (having_done r a)) few
      (filled_at slot [] (holdings r) (holdings (having_done r a)) fills) in
      omega (arith, set, ap count_of found)

  -- The slot's page is held in another way.
  as_does : (a : Action) (slot : ℕ) (x : Holding) (u : Held) → HasOwn slot (holdings r) x
      → Fills slot (as_held u x ∷ []) (holdings r) (holdings (having_done r a))
      → (h : Holding) → holding_at (holdings r) slot ≡ Some h → (k : ℕ)
      → holding_at (holdings (having_done r a)) k
      ≡ (if k == slot then Some (as_held u h) else holding_at (holdings r) k)
  as_does a slot x u its fills h e k =
      let same = same_found (holdings r) slot h x e (found_in (holdings r) slot (x ∷ []) its.0) in
      filled_at slot (as_held u x ∷ []) (holdings r) (holdings (having_done r a)) fills k
      ∙ ap {B = Option Holding} (λ y. cond (eqb k slot) (Some (as_held u y)) (holding_at (holdings r) k)) same

  as_counts : (a : Action) (slot : ℕ) (x : Holding) (u : Held) → HasOwn slot (holdings r) x
      → Fills slot (as_held u x ∷ []) (holdings r) (holdings (having_done r a))
      → held_slots most_slots (holdings (having_done r a)) ≡ held_slots most_slots (holdings r)
  as_counts a slot x u its fills =
      let found = found_in (holdings r) slot (x ∷ []) its.0 in
      let few = (within_seat g r slot x seat found).few in
      let set =
      held_set most_slots slot (Some (as_held u x)) (holdings r) (holdings (having_done r a)) few
      (filled_at slot (as_held u x ∷ []) (holdings r) (holdings (having_done r a)) fills) in
      omega (arith, set, ap count_of found)

-- ---- what each move finds and leaves

-- The slot into which a page goes is one of 32 and is a bundle, or holds nothing; and the page is one of the layout.
pub record CanHold (s : State) (r : Running) (slot page : ℕ) : Type 0 where
  pub few : slot < 32
  pub bundled : AreBundled (slot_all holding_slot slot (holdings r))
  pub empty : gathers (asked_by r) ≡ false → slot_all holding_slot slot (holdings r) ≡ []
  pub low : page < page_count s.settings.layout

can_hold : (s : State) (r : Running) (slot page : ℕ) → IsSeat s.settings.layout r → given_back r.stage ≡ []
    → Asks r (fixes (asked_by r) slot page) → CanHold s r slot page
can_hold s r slot page seat none asks =
    let within = fix_within r.accepted.plan r.done (asked_by r) slot page seat.accepted.plan asks in
    let fills = fix_fills s.settings.layout r seat none slot page asks in
    record {
      few = within.0;
      bundled = fills.0;
      empty = fills.1;
      low = subst (λ l. page < page_count l) (sym seat.layout) within.1;
    }

module _ (s : State) (h : IsReached s) (w : ℕ) (r : Running) where
  -- What is asked of a worker, in the words of the plan's traces.
  pub asks_it : (a : Action) → IsAsked s w r a → Asks r a
  asks_it a asked = asks_now s.settings.layout r a (seat_is s h w r asked.at.seat) asked.names

  -- The errand of a worker is for a fix that its plan asks.
  pub writing_asks : (slot page v : ℕ) → IsAt s w r (writing slot page v) → Asks r (fixes (asked_by r) slot page)
  writing_asks slot page v at = subst (Sends r) at.stage (seat_is s h w r at.seat).errand

  pub reading_asks : (slot page : ℕ) → IsAt s w r (reading slot page) → Asks r (fixes (asked_by r) slot page)
  reading_asks slot page at = subst (Sends r) at.stage (seat_is s h w r at.seat).errand

  -- A fix: asked, while its victim is written, and while its page is read.
  pub fix_finds : (slot page : ℕ) → IsAsked s w r (fixes (asked_by r) slot page) → CanHold s r slot page
  fix_finds slot page asked =
      can_hold s r slot page (seat_is s h w r asked.at.seat) (ap given_back asked.at.stage)
      (asks_it (fixes (asked_by r) slot page) asked)

  pub writing_finds : (slot page v : ℕ) → IsAt s w r (writing slot page v) → CanHold s r slot page
  writing_finds slot page v at =
      can_hold s r slot page (seat_is s h w r at.seat) (ap given_back at.stage) (writing_asks slot page v at)

  pub reading_finds : (slot page : ℕ) → IsAt s w r (reading slot page) → CanHold s r slot page
  reading_finds slot page at =
      can_hold s r slot page (seat_is s h w r at.seat) (ap given_back at.stage) (reading_asks slot page at)

  -- After a fix the slot holds the page, not latched, beside what it held, and each other slot what it held.
  pub fix_holds : (slot page : ℕ) → IsAsked s w r (fixes (asked_by r) slot page)
      → Fills slot (new_page (asked_by r) slot page ∷ slot_all holding_slot slot (holdings r)) (holdings r)
      (holdings (having_done r (fixes (asked_by r) slot page)))
  fix_holds slot page asked =
      (fix_fills s.settings.layout r (seat_is s h w r asked.at.seat) (ap given_back asked.at.stage) slot page
      (asks_it (fixes (asked_by r) slot page) asked)).2

  pub fix_slots : (slot page : ℕ) → IsAsked s w r (fixes (asked_by r) slot page)
      → held_slots most_slots (holdings (having_done r (fixes (asked_by r) slot page)))
      + count_of (holding_at (holdings r) slot) ≡ held_slots most_slots (holdings r) + 1
  fix_slots slot page asked =
      fix_counts s.settings.layout r (seat_is s h w r asked.at.seat) (ap given_back asked.at.stage) slot page
      (asks_it (fixes (asked_by r) slot page) asked)

  pub loaded_holds : (slot page : ℕ) → IsAt s w r (reading slot page)
      → Fills slot (new_page (asked_by r) slot page ∷ slot_all holding_slot slot (holdings r)) (holdings r)
      (holdings (having_done r (fixes (asked_by r) slot page)))
  loaded_holds slot page at =
      (fix_fills s.settings.layout r (seat_is s h w r at.seat) (ap given_back at.stage) slot page
      (reading_asks slot page at)).2

  pub loaded_slots : (slot page : ℕ) → IsAt s w r (reading slot page)
      → held_slots most_slots (holdings (having_done r (fixes (asked_by r) slot page)))
      + count_of (holding_at (holdings r) slot) ≡ held_slots most_slots (holdings r) + 1
  loaded_slots slot page at =
      fix_counts s.settings.layout r (seat_is s h w r at.seat) (ap given_back at.stage) slot page
      (reading_asks slot page at)

  -- What an action that is asked does to what is held, and to the slots.
  asked_does : (a : Action) → IsAsked s w r a → Handles (holdings r) (holdings (having_done r a)) a
  asked_does a asked =
      asked_handles s.settings.layout r a (seat_is s h w r asked.at.seat) (ap given_back asked.at.stage)
      (asks_it a asked)

  asked_fills : (a : Action) → IsAsked s w r a → Places (holdings r) (holdings (having_done r a)) a
  asked_fills a asked =
      asked_places s.settings.layout r a (seat_is s h w r asked.at.seat) (ap given_back asked.at.stage)
      (asks_it a asked)

  -- An unfix finds a page that isn't latched, the slot's own, and then the slot holds nothing.
  pub unfix_finds : (slot : ℕ) → IsAsked s w r (action.Unfix slot)
      → (x : Holding) × Holds r slot x × (x.held ≡ Free)
  unfix_finds slot asked =
      let does = asked_does (action.Unfix slot) asked in (does.0, holds_at r slot does.0 does.1, does.2)

  pub unfix_own : (slot : ℕ) → IsAsked s w r (action.Unfix slot) → (x : Holding) × HasOwn slot (holdings r) x
  unfix_own slot asked = let does = asked_fills (action.Unfix slot) asked in (does.0, does.1)

  pub unfix_holds : (slot : ℕ) → IsAsked s w r (action.Unfix slot)
      → Fills slot [] (holdings r) (holdings (having_done r (action.Unfix slot)))
  unfix_holds slot asked = (asked_fills (action.Unfix slot) asked).2

  pub unfix_slots : (slot : ℕ) → IsAsked s w r (action.Unfix slot)
      → held_slots most_slots (holdings (having_done r (action.Unfix slot))) + 1
      ≡ held_slots most_slots (holdings r)
  unfix_slots slot asked =
      let found = (unfix_finds slot asked).1.found in
      emptied_counts s.settings.layout r (seat_is s h w r asked.at.seat) (ap given_back asked.at.stage)
      (action.Unfix slot) slot (unfix_finds slot asked).0 found (unfix_holds slot asked)

  -- A scatter finds a bundle, and then the slot holds nothing.
  pub scatter_finds : (slot : ℕ) → IsAsked s w r (action.Scatter slot)
      → (holds_bundle (holding_at (holdings r) slot) ≡ true) × AreBundled (slot_all holding_slot slot (holdings r))
  scatter_finds slot asked =
      ((asked_does (action.Scatter slot) asked).0, (asked_fills (action.Scatter slot) asked).0)

  pub scatter_holds : (slot : ℕ) → IsAsked s w r (action.Scatter slot)
      → Fills slot [] (holdings r) (holdings (having_done r (action.Scatter slot)))
  scatter_holds slot asked = (asked_fills (action.Scatter slot) asked).1

  pub scatter_slots : (slot : ℕ) → IsAsked s w r (action.Scatter slot)
      → held_slots most_slots (holdings (having_done r (action.Scatter slot))) + 1
      ≡ held_slots most_slots (holdings r)
  scatter_slots slot asked =
      let some = bundle_some (holding_at (holdings r) slot) (scatter_finds slot asked).0 in
      emptied_counts s.settings.layout r (seat_is s h w r asked.at.seat) (ap given_back asked.at.stage)
      (action.Scatter slot) slot some.0 some.1 (scatter_holds slot asked)

  -- A latch finds a page that isn't latched, the slot's own, and then it is latched in the mode.
  pub latch_finds : (slot : ℕ) (m : Mode) → IsAsked s w r (action.Latch slot m)
      → (x : Holding) × Holds r slot x × (x.held ≡ Free)
  latch_finds slot m asked =
      let does = asked_does (action.Latch slot m) asked in (does.0, holds_at r slot does.0 does.1, does.2)

  pub latch_own : (slot : ℕ) (m : Mode) → IsAsked s w r (action.Latch slot m)
      → (x : Holding) × HasOwn slot (holdings r) x
      × Fills slot (as_held (held_for m) x ∷ []) (holdings r) (holdings (having_done r (action.Latch slot m)))
  latch_own slot m asked = asked_fills (action.Latch slot m) asked

  pub latch_holds : (slot : ℕ) (m : Mode) → IsAsked s w r (action.Latch slot m)
      → (x : Holding) → holding_at (holdings r) slot ≡ Some x → (k : ℕ)
      → holding_at (holdings (having_done r (action.Latch slot m))) k
      ≡ (if k == slot then Some (as_held (held_for m) x) else holding_at (holdings r) k)
  latch_holds slot m asked x found k =
      let own = latch_own slot m asked in
      as_does s.settings.layout r (seat_is s h w r asked.at.seat) (ap given_back asked.at.stage) (action.Latch slot m)
      slot own.0 (held_for m) own.1 own.2 x found k

  pub latch_slots : (slot : ℕ) (m : Mode) → IsAsked s w r (action.Latch slot m)
      → held_slots most_slots (holdings (having_done r (action.Latch slot m)))
      ≡ held_slots most_slots (holdings r)
  latch_slots slot m asked =
      let own = latch_own slot m asked in
      as_counts s.settings.layout r (seat_is s h w r asked.at.seat) (ap given_back asked.at.stage)
      (action.Latch slot m) slot own.0 (held_for m) own.1 own.2

  -- An unlatch finds a page that is latched, the slot's own, and then it isn't.
  pub unlatch_finds : (slot : ℕ) → IsAsked s w r (action.Unlatch slot)
      → (x : Holding) × Holds r slot x × ((x.held ≡ S) ⊎ (x.held ≡ X))
  unlatch_finds slot asked =
      let does = asked_does (action.Unlatch slot) asked in
      (does.0, holds_at r slot does.0 does.1, is_shared_or_exclusive does.0.held does.2)

  pub unlatch_own : (slot : ℕ) → IsAsked s w r (action.Unlatch slot)
      → (x : Holding) × HasOwn slot (holdings r) x
      × Fills slot (as_held Free x ∷ []) (holdings r) (holdings (having_done r (action.Unlatch slot)))
  unlatch_own slot asked = asked_fills (action.Unlatch slot) asked

  pub unlatch_holds : (slot : ℕ) → IsAsked s w r (action.Unlatch slot)
      → (x : Holding) → holding_at (holdings r) slot ≡ Some x → (k : ℕ)
      → holding_at (holdings (having_done r (action.Unlatch slot))) k
      ≡ (if k == slot then Some (as_held Free x) else holding_at (holdings r) k)
  unlatch_holds slot asked x found k =
      let own = unlatch_own slot asked in
      as_does s.settings.layout r (seat_is s h w r asked.at.seat) (ap given_back asked.at.stage) (action.Unlatch slot)
      slot own.0 Free own.1 own.2 x found k

  pub unlatch_slots : (slot : ℕ) → IsAsked s w r (action.Unlatch slot)
      → held_slots most_slots (holdings (having_done r (action.Unlatch slot)))
      ≡ held_slots most_slots (holdings r)
  unlatch_slots slot asked =
      let own = unlatch_own slot asked in
      as_counts s.settings.layout r (seat_is s h w r asked.at.seat) (ap given_back asked.at.stage)
      (action.Unlatch slot) slot own.0 Free own.1 own.2

  -- A choice changes nothing that is held.
  pub choose_holds : (i : ℕ) → IsAsked s w r (action.Choose i)
      → holdings (having_done r (action.Choose i)) ≡ holdings r
  choose_holds i asked =
      let a = action.Choose i in
      asked_handles s.settings.layout r a (seat_is s h w r asked.at.seat) (ap given_back asked.at.stage)
      (asks_it a asked)

  -- ---- leaving and ending

  -- A slot that is given back holds nothing any more.
  pub unwind_finds : (slot : ℕ) (given : List ℕ) (x : Holding) → IsAt s w r (leaving given)
      → holding_at (holdings r) slot ≡ Some x → Holds r slot x
  unwind_finds slot given x at found = holds_at r slot x found

  pub unwind_holds : (slot : ℕ) (given : List ℕ) → IsAt s w r (leaving given)
      → Fills slot [] (holdings r) (holdings (at_stage r (leaving (slot ∷ given))))
  unwind_holds slot given at = unwound_fills r slot given at.stage

  pub unwind_slots : (slot : ℕ) (given : List ℕ) (x : Holding) → IsAt s w r (leaving given)
      → holding_at (holdings r) slot ≡ Some x
      → held_slots most_slots (holdings (at_stage r (leaving (slot ∷ given)))) + 1
      ≡ held_slots most_slots (holdings r)
  unwind_slots slot given x at found =
      let few = (slots_are_within s h w r at.seat slot x found).few in
      let set =
      held_set most_slots slot None (holdings r) (holdings (at_stage r (leaving (slot ∷ given)))) few
      (filled_at slot [] (holdings r) (holdings (at_stage r (leaving (slot ∷ given)))) (unwind_holds slot given at)) in
      omega (arith, set, ap count_of found)

  -- A worker whose plan is at its end holds nothing.
  pub ends_empty : IsAt s w r acting → asked_by r ≡ ask.End → holdings r ≡ []
  ends_empty at e =
      let seat = seat_is s h w r at.seat in
      let trace = (asks_end r.accepted.plan r.done seat.accepted.plan seat.begun).1 e in
      all_held r [] (ap given_back at.stage) (seat.accepted.ends r.done trace)

-- Where a worker goes on to another stage and has given the same slots back, it holds what it held.
pub stage_holds : (r : Running) (g : Stage) → given_back g ≡ given_back r.stage → holdings (at_stage r g) ≡ holdings r
stage_holds r g e = ap (λ given. filter (λ x. not (is_among given x)) (unwrap_or (held r.done) [])) e

-- ---- the kinds of slots

filter_is : (slot : ℕ) (hs : Holdings) → filter (λ x. x.slot == slot) hs ≡ slot_all holding_slot slot hs
filter_is slot [] = refl
filter_is slot (y ∷ ys) = ap (λ zs. cond (y.slot == slot) (y ∷ zs) zs) (filter_is slot ys)

bundled_all : (hs : Holdings) → AreBundled hs → AreOfABundle hs
bundled_all [] all = All-nil (λ x. (x.bundled ≡ true) × (x.held ≡ Free))
bundled_all (y ∷ ys) all =
    All-cons (λ x. (x.bundled ≡ true) × (x.held ≡ Free)) y ys (all.0.bundled, all.0.free) (bundled_all ys all.1)

of_a_kind : (hs ks : Holdings) → ks ≡ hs → IsKeptAt hs → IsOwn ks ⊎ AreOfABundle ks
of_a_kind hs ks e (own x f plain) = inl (x, e ∙ f, plain)
of_a_kind hs ks e (packed all) = inr (subst AreOfABundle (sym e) (bundled_all hs all))

-- Each slot of a worker holds nothing, one page of its own, or the pages of a bundle.
pub slots_are_of_a_kind : (s : State) → IsReached s → SlotsAreOfAKind s
slots_are_of_a_kind s h w slot r seat =
    of_a_kind (slot_all holding_slot slot (holdings r)) (filter (λ x. x.slot == slot) (holdings r))
    (filter_is slot (holdings r)) (holdings_kept s.settings.layout r (seat_is s h w r seat) slot)

-- A worker that begins a plan holds nothing.
pub beginning_holds : (s : State) (a : Acceptance) → holdings (beginning s a) ≡ []
beginning_holds s a = refl
