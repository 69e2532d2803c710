-- Slots that hold a page, their own or as a bundle, are below 32.
use Rattle.std.proofs.Common.{◌≡◌, ◌∙◌, ℕ, zero, suc, ◌<◌, ◌≤◌, Bool, true, false, [], ◌∷◌, Option, Some, None, List, length}
use Rattle.std.proofs.Common.{nat_lt, refl, sym, ap, subst, arith, inl, inr}
use Rattle.std.specs.Prelude.{IsSome, slice_get, option_map, unwrap_or}
use Rattle.std.proofs.lemmas.Bool.{false≢true}
use Rattle.std.proofs.lemmas.Bool.Decides.{nat_tests}
use Rattle.std.proofs.lemmas.Option.{slice_get_within, slice_get_cases}
use Rattle.pp_cert.specs.declared.note.Held.{Held}
use Rattle.pp_cert.specs.Held.{Holding, holding_at}
use Rattle.pp_cert.specs.Accepted.{Acceptance}
use Rattle.pp_model.specs.Pool.{Running, State}
use Rattle.pp_model.specs.Holders.{holdings}
use Rattle.pp_model.specs.Moves.{seat_of}
use Rattle.pp_model.proofs.HoldingSteps.{slots_are_within}
use Rattle.pp_model.proofs.KeptSlots.{nothing_in}
use Rattle.pp_core.specs.declared.seat.Hold.{Hold}
use Rattle.pp_core.specs.declared.seat.Seat.{Seat}
use Rattle.pp_core.specs.Gathered.{bundle_in}
use Rattle.pp_core.specs.Queries.{own_of, held_of, held_by, bundle_of}
use Rattle.pp_core.proofs.Gathered.{bundled_pages, bundle_is}
use Rattle.pp_core.specs.Slots.{hold_at, hold_of}
use Rattle.pp_core.specs.StandsFor as core
use Rattle.pp_vault.specs.Parts.{Parts}
use Rattle.pp_vault.specs.StandsFor.{StandsFor}
use Rattle.pp_vault.specs.Fits.{is_gathered}
use Rattle.pp_vault.proofs.FitTests.{none_gathered}

within : (slots : List (Option Hold)) (slot : ℕ) → IsSome (hold_at slots slot) → slot < length slots
within [] slot some = absurd (false≢true some)
within (x ∷ slots) zero some = omega arith
within (x ∷ slots) (suc n) some = omega (arith, within slots n some)

filled : (o : Option Holding) → IsSome {T = ℕ × Held} (own_of o) → IsSome {T = Hold} (option_map hold_of o)
filled None some = absurd (false≢true some)
filled (Some h) some = refl

by_seat : (plans : List Acceptance) (x : Option Seat) (r : Running) (slot : ℕ) → core.FitsSeat plans x (Some r)
    → IsSome (held_by (Some (Some r)) slot) → slot < 32
by_seat plans None r slot fits some = absurd fits
by_seat plans (Some x) r slot fits some =
    omega (
      arith,
      fits.width,
      within x.slots slot
          (subst IsSome (sym (fits.slots slot)) (filled (holding_at (holdings r) slot) some)),
    )

there : {A B : Type 0} (xs : List A) (ys : List B) (i : ℕ) (x : A) → length xs ≡ length ys → slice_get xs i ≡ Some x
    → (y : B) × (slice_get ys i ≡ Some y)
there xs ys i x e at =
    let under : i < length ys = omega (arith, e, slice_get_within xs i x at) in
    elim ((slice_get_cases ys i).1) [
      | inl found ↦ (found.0, found.2)
      | inr past ↦ absurd (omega (arith, under, past.0))
    ]

module _ (v : Parts) (s : State) (w slot : ℕ) (st : StandsFor v s) where
  by_place : (o : Option (Option Running)) → seat_of s w ≡ o → IsSome (held_by o slot) → slot < 32
  by_place None e some = absurd (false≢true some)
  by_place (Some None) e some = absurd (false≢true some)
  by_place (Some (Some r)) e some =
      let kept = there s.seats v.core.seats w (Some r) (sym st.core.seats.size) e in
      by_seat v.core.plans kept.0 r slot (st.core.seats.each w kept.0 (Some r) kept.1 e) some

  -- A slot that holds a page is one of 32.
  pub low : (h : ℕ × Held) → held_of s w slot ≡ Some h → slot < 32
  low h held = by_place (seat_of s w) refl (subst IsSome (sym held) refl)

  bundle_at : (o : Option (Option Running)) → seat_of s w ≡ o → bundle_of s w slot ≡ bundle_in (unwrap_or o None) slot
  bundle_at o e = ap (λ (p : Option (Option Running)). bundle_in (unwrap_or p None) slot) e

  nothing_past : (r : Running) → seat_of s w ≡ Some (Some r) → 32 ≤ slot → (o : Option Holding)
      → holding_at (holdings r) slot ≡ o → holding_at (holdings r) slot ≡ None
  nothing_past r e past None at = at
  nothing_past r e past (Some x) at =
      absurd (omega (arith, (slots_are_within s st.core.reached w r e slot x at).few, past))

  past_none : (o : Option (Option Running)) → seat_of s w ≡ o → 32 ≤ slot → bundle_of s w slot ≡ []
  past_none None e past = bundle_at None e
  past_none (Some None) e past = bundle_at (Some None) e
  past_none (Some (Some r)) e past =
      bundle_at (Some (Some r)) e ∙ bundle_is r slot
      ∙ ap bundled_pages (nothing_in (holdings r) slot (nothing_past r e past (holding_at (holdings r) slot) refl))

  low_by : (b : Bool) → nat_lt slot 32 ≡ b → is_gathered s w slot ≡ true → slot < 32
  low_by true e is = grind (arith, nat_tests)
  low_by false e is =
      let past : 32 ≤ slot = grind (arith, nat_tests) in
      absurd (false≢true (sym (none_gathered s w slot (past_none (seat_of s w) refl past)) ∙ is))

  -- So is one that is a bundle.
  pub low_gathered : is_gathered s w slot ≡ true → slot < 32
  low_gathered is = low_by (nat_lt slot 32) refl is
