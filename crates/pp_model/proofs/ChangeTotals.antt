-- For each way in which a move is done, what it does to the totals over all workers.
use Rattle.std.proofs.Common.{◌≡◌, ◌∙◌, ℕ, Bool, false, cond, Some, None, List, [], ◌∷◌, refl, sym, ap, subst, inl, inr, arith}
use Rattle.std.specs.Prelude.{slice_set, sum_by}
use Rattle.std.proofs.lemmas.List.Sums.{sum_by-cons}
use Rattle.pp_plan.specs.declared.mode.Mode.{Mode}
use Rattle.pp_plan.specs.declared.action.Action.{Action}
use Rattle.pp_plan.specs.declared.action.Action.TheVariants as action
use Rattle.pp_cert.specs.declared.note.Held.{Held}
use Rattle.pp_cert.specs.declared.note.Held.TheVariants.{Free, S, X}
use Rattle.pp_cert.specs.Held.{Holding, Holdings, holding_slot, holding_at, held_in as held_for}
use Rattle.pp_cert.proofs.Slots.{first_of, slot_all, get_first}
use Rattle.pp_cert.specs.Accepted.{Acceptance}
use Rattle.pp_model.specs.Holders.{times}
use Rattle.pp_model.specs.Pool.{Stage, acting, writing, reading, leaving, Running, State}
use Rattle.pp_model.specs.Holders.{given_back, holdings, loading}
use Rattle.pp_model.specs.Outcome.{at_stage, having_done, released}
use Rattle.pp_model.specs.Taking.{beginning}
use Rattle.pp_model.specs.Moves.{seat_of, asked_by}
use Rattle.pp_model.specs.Turns.{Asks}
use Rattle.pp_model.specs.Fixing.{fixes}
use Rattle.pp_model.proofs.Changes.{IsAt, IsAsked, GivesBack}
use Rattle.pp_model.proofs.Crews.{crew_of}
use Rattle.pp_model.proofs.Seats.{IsSeat, AreGood, Sends, asks_now}
use Rattle.pp_model.proofs.Swaps.{Swaps, Handles, as_held, new_page, fix_swaps}
use Rattle.pp_model.proofs.KeptSlots.{AreBundled, IsKeptAt, own, packed}
use Rattle.pp_model.proofs.Effects.{asked_handles, asked_places, unwound_swaps, holdings_kept}
use Rattle.pp_model.proofs.Totals.{latched_on, on_page, Swapped, Totals, totals, sent_in, stage_swapped, did_swapped, idle_swapped}

-- None of these is latched.
abbrev pub AreFree : Holdings → Type 0
AreFree [] = Unit {0}
AreFree (h ∷ hs) = (h.held ≡ Free) × AreFree hs

bundled_free : (hs : Holdings) → AreBundled hs → AreFree hs
bundled_free [] all = tt
bundled_free (h ∷ hs) all = (all.0.free, bundled_free hs all.1)

-- They count for no reader and no writer.
pub free_weigh_nothing : (is : Held → Bool) (q : ℕ) (hs : Holdings) → is Free ≡ false → AreFree hs
    → sum_by (latched_on is q) hs ≡ 0
free_weigh_nothing is q [] e all = refl
free_weigh_nothing is q (h ∷ hs) e all =
    let none : latched_on is q h ≡ 0 = ap {B = ℕ} (λ k. cond (is k) (on_page q h) 0) all.0
    ∙ ap {B = ℕ} (λ b. cond b (on_page q h) 0) e in
    omega (arith, sum_by-cons (latched_on is q) h hs, none, free_weigh_nothing is q hs e all.1)

-- What goes as a slot is unwound in which this is found: it alone, or a bundle's pages, of which none is latched.
pub data IsOut (out : Holdings) (h : Holding) : Type 0 where
  alone : out ≡ h ∷ [] → IsOut out h
  several : h.held ≡ Free → AreFree out → IsOut out h

out_is : (hs : Holdings) (h : Holding) → IsKeptAt hs → first_of hs ≡ Some h → IsOut hs h
out_is hs h (own x e plain) found =
    let same : Some x ≡ Some h = sym (ap first_of e) ∙ found in
    let is : x ≡ h = cc in
    alone (e ∙ ap {B = Holdings} (λ y. y ∷ []) is)
out_is [] h (packed all) found = cc
out_is (x ∷ hs) h (packed all) found =
    let is : x ≡ h = cc in
    several (ap (λ y. y.held) (sym is) ∙ all.0.free) (bundled_free (x ∷ hs) all)

-- Worker w's seat in a state whose seats are good.
pub seat_at : (s : State) (w : ℕ) (r : Running) → AreGood (crew_of s) → seat_of s w ≡ Some (Some r)
    → IsSeat s.settings.layout r
seat_at s w r h e = h.seats w (Some r) e

-- ---- actions

module _ (s t : State) (w : ℕ) (r : Running) (good : AreGood (crew_of s)) where
  -- What an action that is asked does to the holdings of its worker.
  pub asked_does : (a : Action) → IsAsked s w r a → Handles (holdings r) (holdings (having_done r a)) a
  asked_does a asked =
      let seat = seat_at s w r good asked.at.seat in
      asked_handles s.settings.layout r a seat (ap given_back asked.at.stage)
      (asks_now s.settings.layout r a seat asked.names)

  acted : (a : Action) (out into : Holdings) → IsAsked s w r a
      → Swaps (holdings r) out into (holdings (having_done r a))
      → t.seats ≡ slice_set s.seats w (Some (having_done r a)) → Totals s t out into [] [] [] []
  acted a out into asked e f =
      let c : Swapped (Some r) (Some (having_done r a)) out into (loading r.stage) []
      (sent_in r.stage) [] = did_swapped r a out into e in
      let d : Swapped (Some r) (Some (having_done r a)) out into [] [] [] [] =
      subst (λ g. Swapped (Some r) (Some (having_done r a)) out into (loading g) [] (sent_in g) []) asked.at.stage c in
      totals s t w (Some r) (Some (having_done r a)) out into [] [] [] [] asked.at.seat f d

  pub hit_totals : (slot page : ℕ) → IsAsked s w r (fixes (asked_by r) slot page)
      → t.seats ≡ slice_set s.seats w (Some (having_done r (fixes (asked_by r) slot page)))
      → Totals s t [] (new_page (asked_by r) slot page ∷ []) [] [] [] []
  hit_totals slot page asked e =
      acted (fixes (asked_by r) slot page) [] (new_page (asked_by r) slot page ∷ []) asked
      (fix_swaps (holdings r) (holdings (having_done r (fixes (asked_by r) slot page))) (asked_by r) slot page
      (asked_does (fixes (asked_by r) slot page) asked)) e

  pub own_totals : (slot : ℕ) (asked : IsAsked s w r (action.Unfix slot))
      → t.seats ≡ slice_set s.seats w (Some (having_done r (action.Unfix slot)))
      → Totals s t ((asked_does (action.Unfix slot) asked).0 ∷ []) [] [] [] [] []
  own_totals slot asked e =
      let d = asked_does (action.Unfix slot) asked in acted (action.Unfix slot) (d.0 ∷ []) [] asked d.3 e

  -- The pages of a bundle, none of them latched.
  pub scatter_totals : (slot : ℕ) → IsAsked s w r (action.Scatter slot)
      → t.seats ≡ slice_set s.seats w (Some (having_done r (action.Scatter slot)))
      → AreFree (slot_all holding_slot slot (holdings r))
      × Totals s t (slot_all holding_slot slot (holdings r)) [] [] [] [] []
  scatter_totals slot asked e =
      let a = action.Scatter slot in
      let seat = seat_at s w r good asked.at.seat in
      let out = slot_all holding_slot slot (holdings r) in
      let bundled = (asked_places s.settings.layout r a seat (ap given_back asked.at.stage)
      (asks_now s.settings.layout r a seat asked.names)).0 in
      (bundled_free out bundled, acted a out [] asked (asked_does a asked).1 e)

  -- What is given back, none of it latched: the slot's own page, or the bundle's pages.
  pub unfix_totals : (slot : ℕ) (a : Action) → GivesBack slot a → IsAsked s w r a
      → t.seats ≡ slice_set s.seats w (Some (having_done r a))
      → (out : Holdings) × AreFree out × Totals s t out [] [] [] [] []
  unfix_totals slot a (inl e) asked f =
      let here = subst (IsAsked s w r) e asked in
      let d = asked_does (action.Unfix slot) here in
      (d.0 ∷ [], (d.2, tt), own_totals slot here (subst (λ x. t.seats ≡ slice_set s.seats w (Some (having_done r x))) e f))
  unfix_totals slot a (inr e) asked f =
      let here = subst (IsAsked s w r) e asked in
      let all = scatter_totals slot here (subst (λ x. t.seats ≡ slice_set s.seats w (Some (having_done r x))) e f) in
      (slot_all holding_slot slot (holdings r), all.0, all.1)

  pub latch_totals : (slot : ℕ) (m : Mode) (asked : IsAsked s w r (action.Latch slot m))
      → t.seats ≡ slice_set s.seats w (Some (having_done r (action.Latch slot m)))
      → Totals s t ((asked_does (action.Latch slot m) asked).0 ∷ [])
      (as_held (held_for m) (asked_does (action.Latch slot m) asked).0 ∷ []) [] [] [] []
  latch_totals slot m asked e =
      let d = asked_does (action.Latch slot m) asked in
      acted (action.Latch slot m) (d.0 ∷ []) (as_held (held_for m) d.0 ∷ []) asked d.3 e

  pub unlatch_totals : (slot : ℕ) (asked : IsAsked s w r (action.Unlatch slot))
      → t.seats ≡ slice_set s.seats w (Some (having_done r (action.Unlatch slot)))
      → Totals s t ((asked_does (action.Unlatch slot) asked).0 ∷ [])
      (as_held Free (asked_does (action.Unlatch slot) asked).0 ∷ []) [] [] [] []
  unlatch_totals slot asked e =
      let d = asked_does (action.Unlatch slot) asked in
      acted (action.Unlatch slot) (d.0 ∷ []) (as_held Free d.0 ∷ []) asked d.3 e

  pub choose_totals : (i : ℕ) → IsAsked s w r (action.Choose i)
      → t.seats ≡ slice_set s.seats w (Some (having_done r (action.Choose i))) → Totals s t [] [] [] [] [] []
  choose_totals i asked e =
      let d : holdings (having_done r (action.Choose i)) ≡ holdings r = asked_does (action.Choose i) asked in
      acted (action.Choose i) [] [] asked (λ f. omega (arith, ap (sum_by f) d)) e

  -- ---- errands

  -- The worker acts, and an errand goes out for it.
  pub sent_totals : (g : Stage) → given_back g ≡ [] → IsAt s w r acting
      → t.seats ≡ slice_set s.seats w (Some (at_stage r g))
      → Totals s t [] [] [] (loading g) [] (sent_in g)
  sent_totals g none at e =
      let c = stage_swapped r g (none ∙ sym (ap given_back at.stage)) in
      let d : Swapped (Some r) (Some (at_stage r g)) [] [] [] (loading g) [] (sent_in g) =
      subst (λ k. Swapped (Some r) (Some (at_stage r g)) [] [] (loading k) (loading g) (sent_in k) (sent_in g)) at.stage
      c in
      totals s t w (Some r) (Some (at_stage r g)) [] [] [] (loading g) [] (sent_in g) at.seat e d

  -- The victim is on the device, and the page is read.
  pub written_totals : (slot page v : ℕ) → IsAt s w r (writing slot page v)
      → t.seats ≡ slice_set s.seats w (Some (at_stage r (reading slot page))) → Totals s t [] [] [] [] (v ∷ []) []
  written_totals slot page v at e =
      let c = stage_swapped r (reading slot page) (sym (ap given_back at.stage)) in
      let d : Swapped (Some r) (Some (at_stage r (reading slot page))) [] [] (page ∷ []) (page ∷ []) (v ∷ []) [] =
      subst (λ k. Swapped (Some r) (Some (at_stage r (reading slot page))) [] [] (loading k) (page ∷ []) (sent_in k) [])
      at.stage c in
      let all = totals s t w (Some r) (Some (at_stage r (reading slot page))) [] [] (page ∷ []) (page ∷ [])
      (v ∷ []) [] at.seat e d in
      record { holds = all.holds; loads = λ q. omega (arith, all.loads q); victims = all.victims }

  -- A fix failed, and the worker leaves its plan.
  pub lost_totals : (g : Stage) → given_back g ≡ [] → IsAt s w r g
      → t.seats ≡ slice_set s.seats w (Some (at_stage r (leaving []))) → Totals s t [] [] (loading g) [] (sent_in g) []
  lost_totals g none at e =
      let c = stage_swapped r (leaving []) (sym (ap given_back at.stage ∙ none)) in
      let d : Swapped (Some r) (Some (at_stage r (leaving []))) [] [] (loading g) [] (sent_in g) [] =
      subst (λ k. Swapped (Some r) (Some (at_stage r (leaving []))) [] [] (loading k) [] (sent_in k) []) at.stage c in
      totals s t w (Some r) (Some (at_stage r (leaving []))) [] [] (loading g) [] (sent_in g) [] at.seat e d

  -- The page was read, and is fixed.
  pub loaded_totals : (slot page : ℕ) → IsAt s w r (reading slot page)
      → t.seats ≡ slice_set s.seats w (Some (having_done r (fixes (asked_by r) slot page)))
      → Totals s t [] (new_page (asked_by r) slot page ∷ []) (page ∷ []) [] [] []
  loaded_totals slot page at e =
      let x = new_page (asked_by r) slot page in
      let a = fixes (asked_by r) slot page in
      let seat = seat_at s w r good at.seat in
      let asks : Asks r a = subst (Sends r) at.stage seat.errand in
      let does = asked_handles s.settings.layout r a seat (ap given_back at.stage) asks in
      let c = did_swapped r a [] (x ∷ [])
      (fix_swaps (holdings r) (holdings (having_done r a)) (asked_by r) slot page does) in
      let d : Swapped (Some r) (Some (having_done r a)) [] (x ∷ []) (page ∷ []) [] [] [] =
      subst (λ k. Swapped (Some r) (Some (having_done r a)) [] (x ∷ []) (loading k) [] (sent_in k) []) at.stage c in
      totals s t w (Some r) (Some (having_done r a)) [] (x ∷ []) (page ∷ []) [] [] [] at.seat e d

  -- ---- leaving and ending

  -- All that the slot holds goes: one page, or a bundle's pages, of which none is latched.
  pub unwound_totals : (slot : ℕ) (given : List ℕ) → IsAt s w r (leaving given)
      → t.seats ≡ slice_set s.seats w (Some (at_stage r (leaving (slot ∷ given))))
      → Totals s t (slot_all holding_slot slot (holdings r)) [] [] [] [] []
  unwound_totals slot given at e =
      let y = at_stage r (leaving (slot ∷ given)) in
      let out = slot_all holding_slot slot (holdings r) in
      let swaps = unwound_swaps r slot given at.stage in
      let d : Swapped (Some r) (Some y) out [] [] [] [] [] = record {
        holds = λ f. omega (arith, swaps f);
        loads = λ q. omega (arith, ap (λ k. times q (loading k)) at.stage);
        victims = λ q. omega (arith, ap (λ k. times q (sent_in k)) at.stage);
      } in
      totals s t w (Some r) (Some y) out [] [] [] [] [] at.seat e d

  pub unwound_out : (slot : ℕ) (given : List ℕ) (h : Holding) → IsAt s w r (leaving given)
      → holding_at (holdings r) slot ≡ Some h → IsOut (slot_all holding_slot slot (holdings r)) h
  unwound_out slot given h at found =
      out_is (slot_all holding_slot slot (holdings r)) h
      (holdings_kept s.settings.layout r (seat_at s w r good at.seat) slot)
      (sym (get_first holding_slot slot (holdings r)) ∙ found)

  pub idle_totals : (g : Stage) → loading g ≡ [] → sent_in g ≡ [] → IsAt s w r g → t.seats ≡ slice_set s.seats w None
      → Totals s t (holdings r) [] [] [] [] []
  idle_totals g none nobody at e =
      let c = idle_swapped r in
      let d : Swapped (Some r) None (holdings r) [] [] [] [] [] =
      subst (λ k. Swapped (Some r) None (holdings r) [] k [] [] []) none
      (subst (λ k. Swapped (Some r) None (holdings r) [] (loading g) [] k []) nobody
      (subst (λ k. Swapped (Some r) None (holdings r) [] (loading k) [] (sent_in k) []) at.stage c)) in
      totals s t w (Some r) None (holdings r) [] [] [] [] [] at.seat e d

pub taken_totals : (s t : State) (w : ℕ) (a : Acceptance) → seat_of s w ≡ Some None
    → t.seats ≡ slice_set s.seats w (Some (beginning s a)) → Totals s t [] [] [] [] [] []
taken_totals s t w a idle e =
    let d : Swapped None (Some (beginning s a)) [] [] [] [] [] [] = record
    { holds = λ f. refl; loads = λ q. refl; victims = λ q. refl } in
    totals s t w None (Some (beginning s a)) [] [] [] [] [] [] idle e d

-- The seats of a state in which a latch went off a page are the same.
pub released_seats : (s : State) (h : Held) (page : ℕ) → (released s h page).seats ≡ s.seats
released_seats s Free page = refl
released_seats s S page = refl
released_seats s X page = refl
