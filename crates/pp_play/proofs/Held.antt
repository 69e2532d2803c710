-- What the guards of a hand that fits tell of the slots of its worker.
use Rattle.std.proofs.Common.{◌≡◌, ◌∙◌, ℕ, Bool, true, false, Option, Some, None, List, refl, sym, ap, subst, inl, inr}
use Rattle.std.specs.Prelude.{option_and_then, slice_set}
use Rattle.std.specs.Option.{is_some}
use Rattle.std.proofs.lemmas.Bool.{false≢true}
use Rattle.std.proofs.lemmas.List.{set-set, set-get_or}
use Rattle.pp_plan.specs.declared.mode.Mode.{Mode}
use Rattle.pp_plan.specs.declared.action.Ask.TheVariants as ask
use Rattle.pp_cert.specs.declared.note.Held.{Held}
use Rattle.pp_cert.specs.declared.note.Held.TheVariants.{Free, S, X}
use Rattle.pp_model.specs.Pool.{State}
use Rattle.pp_model.specs.Reached.{IsReached}
use Rattle.pp_core.specs.Queries.{ask_of, held_of}
use Rattle.pp_vault.specs.declared.guards.Guard.{Guard}
use Rattle.pp_vault.specs.declared.guards.Guard.TheVariants.{Pin, Read, Write, Bundle}
use Rattle.pp_vault.specs.declared.stage.Hand.{Hand}
use Rattle.pp_vault.specs.Parts.{Parts}
use Rattle.pp_vault.specs.StandsFor.{IsKept}
use Rattle.pp_vault.specs.Fits.{is_gathered, IsEmpty}
use Rattle.pp_vault.specs.Hands.{GuardFits, PlaceFits}
use Rattle.pp_vault.specs.HandLaws.{FitsIn}
use Rattle.pp_vault.specs.Holding.{held_by, is_bundle, placed}
use Rattle.pp_vault.proofs.FitTests.{own_alone, bundle_alone}
use Rattle.pp_play.specs.Guarding.{FixLacksPlace}
use Rattle.pp_play.proofs.AskedSlots.{wanted_takes, unfix_held, latch_held, unlatch_held, scatter_gathered}
use Rattle.pp_play.proofs.Room.{room_fits}

-- Whether a guard is of a page that isn't latched, and whether it is of a latch.
abbrev pub is_pin : Guard → Bool
is_pin (Pin g) = true
is_pin (Read g) = false
is_pin (Write g) = false
is_pin (Bundle g) = false

abbrev pub is_latched : Guard → Bool
is_latched (Pin g) = false
is_latched (Read g) = true
is_latched (Write g) = true
is_latched (Bundle g) = false

abbrev is_free_held : Held → Bool
is_free_held Free = true
is_free_held S = false
is_free_held X = false

abbrev is_latched_held : Held → Bool
is_latched_held Free = false
is_latched_held S = true
is_latched_held X = true

-- The same of what is told of a slot.
abbrev is_free_in : Option (ℕ × Held) → Bool
is_free_in None = false
is_free_in (Some h) = is_free_held h.1

abbrev is_latched_in : Option (ℕ × Held) → Bool
is_latched_in None = false
is_latched_in (Some h) = is_latched_held h.1

pin_held : (g : Guard) → is_free_in (held_by g) ≡ is_pin g
pin_held (Pin g) = refl
pin_held (Read g) = refl
pin_held (Write g) = refl
pin_held (Bundle g) = refl

latched_held : (g : Guard) → is_latched_in (held_by g) ≡ is_latched g
latched_held (Pin g) = refl
latched_held (Read g) = refl
latched_held (Write g) = refl
latched_held (Bundle g) = refl

-- ---- a place

guard_held : (n : ℕ) (s : State) → IsReached s → (w slot : ℕ) (g : Guard) → GuardFits n s w slot g
    → held_of s w slot ≡ held_by g
guard_held n s h w slot (Pin g) fits = fits.held
guard_held n s h w slot (Read g) fits = fits.held
guard_held n s h w slot (Write g) fits = fits.held
guard_held n s h w slot (Bundle g) fits = bundle_alone s h w slot fits.gathered

place_held : (n : ℕ) (s : State) → IsReached s → (w slot : ℕ) (o : Option Guard) → PlaceFits n s w slot o
    → held_of s w slot ≡ option_and_then held_by o
place_held n s h w slot None fits = fits.no_page
place_held n s h w slot (Some g) fits = guard_held n s h w slot g fits

-- The guard of a slot that is a bundle is a bundle's.
guard_bundle : (n : ℕ) (s : State) → IsReached s → (w slot : ℕ) → is_gathered s w slot ≡ true → (g : Guard)
    → GuardFits n s w slot g → is_bundle g ≡ true
guard_bundle n s h w slot is (Pin g) fits = absurd (false≢true (sym (own_alone s h w slot (g.page, Free) fits.held) ∙ is))
guard_bundle n s h w slot is (Read g) fits = absurd (false≢true (sym (own_alone s h w slot (g.page, S) fits.held) ∙ is))
guard_bundle n s h w slot is (Write g) fits = absurd (false≢true (sym (own_alone s h w slot (g.page, X) fits.held) ∙ is))
guard_bundle n s h w slot is (Bundle g) fits = refl

-- ---- what the plan asks of a slot, and what is in its place

module _ (v : Parts) (k : IsKept v) (w : ℕ) (hand : Hand) (fits : FitsIn v w hand) where
  here : (slot : ℕ) → held_of k.state w slot ≡ option_and_then held_by (placed hand.guards slot)
  here slot =
      place_held v.page_bytes k.state k.stands.core.reached w slot (placed hand.guards slot)
      ((fits k.state k.stands).guards slot)

  there : (slot : ℕ) (o : Option Guard) → placed hand.guards slot ≡ o → PlaceFits v.page_bytes k.state w slot o
  there slot o at = subst (λ p. PlaceFits v.page_bytes k.state w slot p) at ((fits k.state k.stands).guards slot)

  -- A fix and a gather find room.
  pub fix_finds : FixLacksPlace v w hand.guards → ⊥
  fix_finds lacks =
      let l = lacks k.state k.stands in
      let takes = wanted_takes v k.state k.stands w l.0 l.1 l.2 l.3 in
      let f = fits k.state k.stands in
      let room = room_fits v.page_bytes k.state w hand.guards l.1 f.places takes.0 takes.1 (f.guards l.1) in
      false≢true (sym l.4 ∙ room)

  module _ (slot page : ℕ) (how : Held) (held : held_of k.state w slot ≡ Some (page, how)) where
    in_place : (o : Option Guard) → placed hand.guards slot ≡ o → option_and_then held_by o ≡ Some (page, how)
    in_place o e = ap (λ p. option_and_then held_by p) (sym e) ∙ sym (here slot) ∙ held

    pub not_empty : placed hand.guards slot ≡ None → ⊥
    not_empty e = false≢true (ap is_some (in_place None e))

    -- A guard is there: a pin where the slot isn't latched, and of a latch where it is.
    pub pin_by : (g : Guard) → placed hand.guards slot ≡ Some g → is_pin g ≡ is_free_held how
    pin_by g e = sym (pin_held g) ∙ ap is_free_in (in_place (Some g) e)

    pub latched_by : (g : Guard) → placed hand.guards slot ≡ Some g → is_latched g ≡ is_latched_held how
    latched_by g e = sym (latched_held g) ∙ ap is_latched_in (in_place (Some g) e)

  module _ (slot : ℕ) where
    pub unfix_there : ask_of k.state w ≡ Some (ask.Unfix slot) → placed hand.guards slot ≡ None → ⊥
    unfix_there e none = let h = unfix_held v k.state k.stands w slot e in not_empty slot h.0 Free h.1 none

    pub unfix_pin : ask_of k.state w ≡ Some (ask.Unfix slot) → (g : Guard) → placed hand.guards slot ≡ Some g
        → is_pin g ≡ true
    unfix_pin e g at = let h = unfix_held v k.state k.stands w slot e in pin_by slot h.0 Free h.1 g at

    -- A scatter finds the guard of a bundle.
    pub scatter_there : ask_of k.state w ≡ Some (ask.Scatter slot) → placed hand.guards slot ≡ None → ⊥
    scatter_there e none =
        let empty : IsEmpty k.state w slot = there slot None none in
        false≢true (sym empty.no_bundle ∙ scatter_gathered v k.state k.stands w slot e)

    pub scatter_bundle : ask_of k.state w ≡ Some (ask.Scatter slot) → (g : Guard) → placed hand.guards slot ≡ Some g
        → is_bundle g ≡ true
    scatter_bundle e g at =
        guard_bundle v.page_bytes k.state k.stands.core.reached w slot (scatter_gathered v k.state k.stands w slot e) g
        (there slot (Some g) at)

    pub latch_there : (m : Mode) → ask_of k.state w ≡ Some (ask.Latch slot m) → placed hand.guards slot ≡ None → ⊥
    latch_there m e none = let h = latch_held v k.state k.stands w slot m e in not_empty slot h.0 Free h.1 none

    pub latch_pin : (m : Mode) → ask_of k.state w ≡ Some (ask.Latch slot m) → (g : Guard)
        → placed hand.guards slot ≡ Some g → is_pin g ≡ true
    latch_pin m e g at = let h = latch_held v k.state k.stands w slot m e in pin_by slot h.0 Free h.1 g at

    pub unlatch_there : ask_of k.state w ≡ Some (ask.Unlatch slot) → placed hand.guards slot ≡ None → ⊥
    unlatch_there e none =
        let h = unlatch_held v k.state k.stands w slot e in
        elim (h.1) [
          | inl shared ↦ not_empty slot h.0 S shared none
          | inr exclusive ↦ not_empty slot h.0 X exclusive none
        ]

    pub unlatch_latched : ask_of k.state w ≡ Some (ask.Unlatch slot) → (g : Guard) → placed hand.guards slot ≡ Some g
        → is_latched g ≡ true
    unlatch_latched e g at =
        let h = unlatch_held v k.state k.stands w slot e in
        elim (h.1) [
          | inl shared ↦ latched_by slot h.0 S shared g at
          | inr exclusive ↦ latched_by slot h.0 X exclusive g at
        ]

-- ---- a guard that was taken out

-- Another is put into its place.
pub put_other : (places : List (Option Guard)) (slot : ℕ) (o : Option Guard)
    → slice_set (slice_set places slot None) slot o ≡ slice_set places slot o
put_other places slot o = set-set places slot None o

-- It is put back.
pub put_back : (places : List (Option Guard)) (slot : ℕ) (g : Guard) → placed places slot ≡ Some g
    → slice_set (slice_set places slot None) slot (Some g) ≡ places
put_back places slot g e =
    set-set places slot None (Some g) ∙ ap (slice_set places slot) (sym e) ∙ set-get_or places slot None
