-- What the plan of a worker asks whose slot holds a page.
use Rattle.std.proofs.Common.{◌≡◌, ◌∙◌, ℕ, Bool, true, false, Option, Some, None, refl, sym, ap, arith}
use Rattle.std.specs.Prelude.{◌&&◌, ◌==◌, option_map, unwrap_or, if◌then◌else◌}
use Rattle.std.proofs.lemmas.Bool.{false≢true}
use Rattle.std.proofs.lemmas.Bool.Decides.{nat_tests}
use Rattle.pp_plan.specs.declared.action.Ask.{Ask}
use Rattle.pp_cert.specs.declared.note.Held.{Held}
use Rattle.pp_cert.specs.declared.note.Held.TheVariants.{Free, S, X}
use Rattle.pp_cert.specs.Notes.{same_held}
use Rattle.pp_model.specs.Pool.{Stage, acting, writing, reading, leaving, Running, State}
use Rattle.pp_model.specs.Moves.{asked_by, seat_of}
use Rattle.pp_model.specs.Laws.{IsActing}
use Rattle.pp_core.specs.declared.seat.Hold.{Hold}
use Rattle.pp_core.specs.declared.seat.Seat.{Seat}
use Rattle.pp_core.specs.Slots.{hold_at}
use Rattle.pp_core.specs.Parts.{Parts}
use Rattle.pp_core.specs.StandsFor.{StandsFor, IsKept, Asks}
use Rattle.pp_core.specs.Effects.{IsIn, IsPageIn, IsHeldIn}
use Rattle.pp_core.specs.Queries.{ask_in, ask_by, ask_of, own_hold, held_seat, held_of, is_page_so, ask_holding}
use Rattle.pp_core.proofs.QueryTies.{held_told}

-- ---- tests

both_true : (a b : Bool) → (a && b) ≡ true → (a ≡ true) × (b ≡ true)
both_true true b e = (refl, e)
both_true false b e = absurd (false≢true e)

nat_is : (a b : ℕ) → (a == b) ≡ true → a ≡ b
nat_is a b e = grind (arith, nat_tests)

held_is : (a b : Held) → same_held a b ≡ true → a ≡ b
held_is Free Free e = refl
held_is Free S e = absurd (false≢true e)
held_is Free X e = absurd (false≢true e)
held_is S Free e = absurd (false≢true e)
held_is S S e = refl
held_is S X e = absurd (false≢true e)
held_is X Free e = absurd (false≢true e)
held_is X S e = absurd (false≢true e)
held_is X X e = refl

none_some : {A : Type 0} {a : A} → ◌≡◌ {A = Option A} None (Some a) → ⊥
none_some e = cc

some_some : {A : Type 0} (d a b : A) → ◌≡◌ {A = Option A} (Some a) (Some b) → a ≡ b
some_some d a b e = cc

page_so_is : (page : ℕ) (held : Held) (o : Option (ℕ × Held)) → is_page_so page held o ≡ true → o ≡ Some (page, held)
page_so_is page held None e = absurd (false≢true e)
page_so_is page held (Some h) e =
    let both = both_true (h.0 == page) (same_held h.1 held) e in
    λ i. Some (nat_is h.0 page both.0 i, held_is h.1 held both.1 i)

-- Where a page is held so and an ask is told, both are as told.
both_of : (page : ℕ) (held : Held) (o : Option Ask) (h : Option (ℕ × Held)) (a : Ask)
    → (if is_page_so page held h then o else None) ≡ Some a → (o ≡ Some a) × (h ≡ Some (page, held))
both_of page held o h a e = go (is_page_so page held h) refl e
  where
    go : (b : Bool) → is_page_so page held h ≡ b → (if b then o else None) ≡ Some a
        → (o ≡ Some a) × (h ≡ Some (page, held))
    go true is e = (e, page_so_is page held h is)
    go false is e = absurd (none_some e)

pub told_both : (s : State) (w slot page : ℕ) (held : Held) (a : Ask) → ask_holding s w slot page held ≡ Some a
    → (ask_of s w ≡ Some a) × (held_of s w slot ≡ Some (page, held))
told_both s w slot page held a e = both_of page held (ask_of s w) (held_of s w slot) a e

-- ---- the worker acts

in_stage : (r : Running) (g : Stage) (a : Ask) → ask_in r g ≡ Some a → (g ≡ acting) × (asked_by r ≡ a)
in_stage r acting a e = (refl, some_some a (asked_by r) a e)
in_stage r (writing slot page victim) a e = absurd (none_some e)
in_stage r (reading slot page) a e = absurd (none_some e)
in_stage r (leaving given) a e = absurd (none_some e)

pub acts_so : (s : State) (w : ℕ) (a : Ask) (o : Option (Option Running)) → seat_of s w ≡ o → ask_by o ≡ Some a
    → (r : Running) × IsActing s w r × (asked_by r ≡ a)
acts_so s w a None at e = absurd (none_some e)
acts_so s w a (Some None) at e = absurd (none_some e)
acts_so s w a (Some (Some r)) at e =
    let in_it = in_stage r r.stage a e in
    (r, record { seat = at; stage = in_it.0 }, in_it.1)

pub asks_told : (f : Parts) (w : ℕ) (a : Ask) → ((s : State) → StandsFor f s → ask_of s w ≡ Some a) → Asks f w a
asks_told f w a told s st = acts_so s w a (seat_of s w) refl (told s st)

-- ---- its slot

-- A page of a slot's own.
abbrev own_unless : Bool → Hold → Option (ℕ × Held)
own_unless b h = if b then None else Some (h.page, h.held)

own_told : (h : Hold) (page : ℕ) (held : Held) → own_hold (Some h) ≡ Some (page, held)
    → ◌≡◌ {A = ℕ × Held} (h.page, h.held) (page, held)
own_told h page held told = go h.bundled told
  where
    go : (b : Bool) → own_unless b h ≡ Some (page, held) → ◌≡◌ {A = ℕ × Held} (h.page, h.held) (page, held)
    go true e = absurd (none_some e)
    go false e = some_some (page, held) (h.page, h.held) (page, held) e

page_own : (o : Option Hold) (page : ℕ) (held : Held) → own_hold o ≡ Some (page, held)
    → page ≡ unwrap_or (option_map (λ (h : Hold). h.page) o) 0
page_own None page held e = absurd (none_some e)
page_own (Some h) page held e = sym (ap (λ (p : ℕ × Held). p.0) (own_told h page held e))

held_own : (o : Option Hold) (page : ℕ) (held : Held) → own_hold o ≡ Some (page, held)
    → held ≡ unwrap_or (option_map (λ (h : Hold). h.held) o) Free
held_own None page held e = absurd (none_some e)
held_own (Some h) page held e = sym (ap (λ (p : ℕ × Held). p.1) (own_told h page held e))

-- The page that a state has in the slot.
pub page_held : (f : Parts) (s : State) (w slot page : ℕ) (held : Held) → StandsFor f s
    → held_of s w slot ≡ Some (page, held) → IsPageIn f w slot page
page_held f s w slot page held st e x is_in =
    page_own (hold_at x.slots slot) page held
    (sym (ap (λ o. held_seat o slot) is_in) ∙ held_told f s st w slot ∙ e)

module _ (f : Parts) (w slot page : ℕ) (held : Held) (a : Ask)
    (told : (s : State) → StandsFor f s → ask_holding s w slot page held ≡ Some a) where
  pub asks_so : Asks f w a
  asks_so s st = acts_so s w a (seat_of s w) refl (told_both s w slot page held a (told s st)).0

  own_so : IsKept f → (x : Seat) → IsIn f w x → own_hold (hold_at x.slots slot) ≡ Some (page, held)
  own_so k x is_in =
      sym (ap (λ o. held_seat o slot) is_in) ∙ held_told f k.state k.stands w slot
      ∙ (told_both k.state w slot page held a (told k.state k.stands)).1

  pub page_so : IsKept f → IsPageIn f w slot page
  page_so k x is_in = page_own (hold_at x.slots slot) page held (own_so k x is_in)

  pub held_so : IsKept f → IsHeldIn f w slot held
  held_so k x is_in = held_own (hold_at x.slots slot) page held (own_so k x is_in)
