-- What a worker's slots hold on the core's side is what its holdings say, after each action.
use Rattle.std.proofs.Common.{◌≡◌, ◌∙◌, ℕ, ◌+◌, ◌<◌, Bool, true, false, eqb, cond, Option, Some, None, List}
use Rattle.std.proofs.Common.{[], ◌∷◌, ◌++◌, length, refl, sym, ap, subst, arith}
use Rattle.std.specs.Prelude.{slice_get, slice_set, option_map}
use Rattle.std.proofs.lemmas.Bool.{eqb-true, eqb-false}
use Rattle.std.proofs.lemmas.List.{get_or-set_same, get_or-set_other}
use Rattle.pp_plan.specs.declared.action.Action.{Action}
use Rattle.pp_plan.specs.declared.action.Action.TheVariants.{Fix, Unfix, Latch, Unlatch, Gather, Scatter, Choose}
use Rattle.pp_settings.specs.Limits.{most_slots}
use Rattle.pp_cursor.specs.Cursor.{StandsFor as CursorStandsFor}
use Rattle.pp_cert.specs.declared.note.Held.{Held}
use Rattle.pp_cert.specs.Accepted.{Acceptance}
use Rattle.pp_cert.specs.Held.{Holding, Holdings, holding_at}
use Rattle.pp_model.specs.Pool.{acting, Running}
use Rattle.pp_model.specs.Holders.{holdings, held_slots}
use Rattle.pp_model.specs.Outcome.{having_done}
use Rattle.pp_model.proofs.Swaps.{as_held}
use Rattle.pp_core.specs.declared.seat.Hold.{Hold}
use Rattle.pp_core.specs.declared.seat.Phase.{Phase}
use Rattle.pp_core.specs.declared.seat.Seat.{Seat}
use Rattle.pp_core.specs.Slots.{hold_at, hold_of, held_as, slots_after, count_after}
use Rattle.pp_core.specs.Seats.{Did}
use Rattle.pp_core.specs.StandsFor.{FitsStage, FitsRunning}
use Rattle.pp_core.proofs.Crew.{set_length}

set_hold : (xs : List (Option Hold)) (slot k : ℕ) (y : Option Hold) → slot < length xs
    → hold_at (slice_set xs slot y) k ≡ cond (eqb k slot) y (hold_at xs k)
set_hold xs slot k y lt = go (eqb k slot) refl
  where
    go : (b : Bool) → eqb k slot ≡ b → hold_at (slice_set xs slot y) k ≡ cond b y (hold_at xs k)
    go true e = ap (hold_at (slice_set xs slot y)) (eqb-true k slot e) ∙ get_or-set_same xs slot y None lt
    go false e = get_or-set_other xs slot k y None (λ same. eqb-false k slot e same)

both_sides : (b : Bool) (y p : Option Hold) (z q : Option Holding) → y ≡ option_map hold_of z
    → p ≡ option_map hold_of q → cond b y p ≡ option_map hold_of (cond b z q)
both_sides true y p z q e f = e
both_sides false y p z q e f = f

-- The slots hold what the holdings say.
abbrev pub Tell : List (Option Hold) → Holdings → Type 0
Tell xs hs = (k : ℕ) → hold_at xs k ≡ option_map hold_of (holding_at hs k)

-- One slot is written on both sides.
pub tell_set : (xs : List (Option Hold)) (hs ks : Holdings) (slot : ℕ) (y : Option Hold) (z : Option Holding)
    → slot < length xs → y ≡ option_map hold_of z → Tell xs hs
    → ((k : ℕ) → holding_at ks k ≡ cond (eqb k slot) z (holding_at hs k)) → Tell (slice_set xs slot y) ks
tell_set xs hs ks slot y z lt e tell is k =
    set_hold xs slot k y lt
    ∙ both_sides (eqb k slot) y (hold_at xs k) z (holding_at hs k) e (tell k)
    ∙ sym (ap (option_map hold_of) (is k))

-- A slot that holds a page holds it in another way.
pub tell_as : (xs : List (Option Hold)) (hs ks : Holdings) (slot : ℕ) (h : Holding) (u : Held) → slot < length xs
    → holding_at hs slot ≡ Some h → Tell xs hs
    → ((k : ℕ) → holding_at ks k ≡ cond (eqb k slot) (Some (as_held u h)) (holding_at hs k))
    → Tell (held_as u slot xs) ks
tell_as xs hs ks slot h u lt found tell is =
    tell_set xs hs ks slot (option_map (λ x. record { page = x.page; held = u; bundled = x.bundled }) (hold_at xs slot))
    (Some (as_held u h)) lt
    (ap (option_map (λ (x : Hold). record { page = x.page; held = u; bundled = x.bundled })) (tell slot ∙ ap
    (option_map hold_of) found)) tell is

-- ---- the worker after an action

pub slots_width : (a : Action) (xs : List (Option Hold)) → length (slots_after a xs) ≡ length xs
slots_width (Fix slot page) xs = set_length xs slot _
slots_width (Unfix slot) xs = set_length xs slot _
slots_width (Latch slot m) xs = set_length xs slot _
slots_width (Unlatch slot) xs = set_length xs slot _
slots_width (Gather slot page) xs = set_length xs slot _
slots_width (Scatter slot) xs = set_length xs slot _
slots_width (Choose i) xs = refl

pub acted_fits : (plans : List Acceptance) (x y : Seat) (r : Running) (a : Action) → FitsRunning plans x r
    → CursorStandsFor r.accepted.plan x.cursor r.done → Did r.accepted.plan x y a
    → count_after a x.slots x.holds ≡ held_slots most_slots (holdings (having_done r a))
    → Tell (slots_after a x.slots) (holdings (having_done r a)) → length r.done + 1 ≡ length (r.done ++ a ∷ [])
    → FitsRunning plans y (having_done r a)
acted_fits plans x y r a fits cursor did count tell more = record {
  number = did.number ∙ fits.number;
  plan = ap (slice_get plans) did.place ∙ fits.plan;
  cursor = did.cursor r.done cursor;
  ask = did.ask r.done cursor;
  actions = omega (arith, did.actions, fits.actions, more);
  holds = did.holds ∙ count;
  width = ap length did.slots ∙ slots_width a x.slots ∙ fits.width;
  slots = subst (λ (xs : List (Option Hold)). Tell xs (holdings (having_done r a))) (sym did.slots) tell;
  phase = subst (λ (p : Phase). FitsStage p acting) (sym did.phase) tt;
}
