-- The pages that a worker lends its work: those that it has latched X.
use Rattle.std.specs.Prelude.{◌≡◌, ◌≤◌, ◌==◌, ◌%◌, ℕ, suc, Bool, true, false, List, [], ◌∷◌, length, map, Option, None, Some, if◌then◌else◌}
use Rattle.std.specs.Prelude.{slice_index_or, slice_set, vec_capacity, position}
use Rattle.std.specs.Global.{Vec}
use Rattle.pp_settings.specs.Limits.{most_slots}
use Rattle.pp_plan.specs.declared.action.Ask.{Ask}
use Rattle.pp_plan.specs.declared.action.Ask.TheVariants as ask
use Rattle.pp_device.specs.Image.{body_of}
use Rattle.pp_vault.specs.declared.guards.WriteGuard.{WriteGuard}
use Rattle.pp_vault.specs.declared.guards.Guard.{Guard}
use Rattle.pp_vault.specs.declared.guards.Guard.TheVariants as guard
use Rattle.pp_vault.specs.declared.stage.Stage.{Stage}
use Rattle.pp_vault.specs.declared.stage.Stage.TheVariants as stage
use Rattle.pp_vault.specs.Holding.{placed, is_free}
use Rattle.pp_vault.specs.Lending.{with_body}

-- A page that is lent: its slot, its number, and its body.
pub record LentPage : Type 0 where
  pub slot : ℕ
  pub page : ℕ
  pub body : List ℕ

-- The page of a latch X.
abbrev pub lent_of : WriteGuard → LentPage
lent_of g = record { slot = g.slot; page = g.page; body = body_of g.image }

-- The guards of latches X among those in their places, by rising slots.
abbrev pub writers_in : List (Option Guard) → List WriteGuard
writers_in [] = []
writers_in (None ∷ rest) = writers_in rest
writers_in (Some (guard.Pin g) ∷ rest) = writers_in rest
writers_in (Some (guard.Read g) ∷ rest) = writers_in rest
writers_in (Some (guard.Write g) ∷ rest) = g ∷ writers_in rest
writers_in (Some (guard.Bundle g) ∷ rest) = writers_in rest

-- The slots of these guards, as slots are numbered: below 32.
abbrev pub slots_of : List WriteGuard → List ℕ
slots_of guards = map (λ g. g.slot % most_slots) guards

-- The pages of these guards.
abbrev pub lent : List WriteGuard → List LentPage
lent guards = map lent_of guards

-- The pages that are latched X, by rising slots.
abbrev pub lent_in : List (Option Guard) → List LentPage
lent_in places = lent (writers_in places)

-- ---- which latch comes off next

-- Whether a guard is there, and its page is latched X.
abbrev pub is_writer : Option Guard → Bool
is_writer None = false
is_writer (Some (guard.Pin g)) = false
is_writer (Some (guard.Read g)) = false
is_writer (Some (guard.Write g)) = true
is_writer (Some (guard.Bundle g)) = false

-- The slot whose latch X the plan asks to take off, if it asks that.
abbrev pub off_by_plan : Ask → List (Option Guard) → Option ℕ
off_by_plan (ask.Unlatch slot) places = if is_writer (placed places slot) then Some slot else None
off_by_plan _ places = None

-- The least slot from this one on that has a guard, if its page is latched X; the places begin with that of this slot.
abbrev pub off_from : (slot : ℕ) → List (Option Guard) → Option ℕ
off_from slot [] = None
off_from slot (None ∷ rest) = off_from (suc slot) rest
off_from slot (Some (guard.Pin g) ∷ rest) = None
off_from slot (Some (guard.Read g) ∷ rest) = None
off_from slot (Some (guard.Write g) ∷ rest) = Some slot
off_from slot (Some (guard.Bundle g) ∷ rest) = None

-- The least slot that has a guard, if its page is latched X: on the way out of a plan that slot is given back next.
abbrev pub off_on_way_out : List (Option Guard) → Option ℕ
off_on_way_out places = off_from 0 places

-- The slot whose latch X the next request takes off, if it does.
abbrev pub off_next : Stage → List (Option Guard) → Option ℕ
off_next (stage.In x) places = off_by_plan x.ask places
off_next (stage.Leaving x) places = off_on_way_out places
off_next _ places = None

-- ---- what the work may change of them

-- The guard is as it was; of a latch X the body may be another, as long as the one that it had.
abbrev pub IsReworked : Option Guard → Option Guard → Type 0
IsReworked (Some (guard.Write g)) new =
    (body : List ℕ) × (length body ≡ length (body_of g.image))
    × (new ≡ Some (guard.Write (record g { image = with_body g.image body })))
IsReworked old new = new ≡ old

-- The same of the guards in all places.
pub record AreReworked (old new : List (Option Guard)) : Type 0 where
  pub long : length new ≡ length old
  pub each : (slot : ℕ) → IsReworked (placed old slot) (placed new slot)

-- A guard of a latch X with another body, as long as its own.
abbrev pub IsOther : WriteGuard → WriteGuard → Type 0
IsOther old new =
    (body : List ℕ) × (length body ≡ length (body_of old.image)) × (new ≡ record old { image = with_body old.image body })

-- The same of as many guards, one after another.
abbrev pub AreOthers : (old new : List WriteGuard) → Type 0
AreOthers [] [] = Unit {0}
AreOthers (g ∷ old) (h ∷ new) = IsOther g h × AreOthers old new
AreOthers [] (h ∷ new) = ⊥
AreOthers (g ∷ old) [] = ⊥

-- A place without the guard of a latch X.
abbrev pub without_writer : Option Guard → Option Guard
without_writer None = None
without_writer (Some (guard.Pin g)) = Some (guard.Pin g)
without_writer (Some (guard.Read g)) = Some (guard.Read g)
without_writer (Some (guard.Write g)) = None
without_writer (Some (guard.Bundle g)) = Some (guard.Bundle g)

-- The guards of all latches X, by rising slots, were taken out of their places, each out of that of its slot; the others stand where
-- they stood.
pub record TakesOut (guards : List WriteGuard) (old new : List (Option Guard)) : Type 0 where
  pub all : guards ≡ writers_in old
  pub free : new ≡ map without_writer old
  pub slots : (slot : ℕ) (g : WriteGuard) → placed old slot ≡ Some (guard.Write g) → g.slot ≡ slot

-- Guards were so taken out of these places.
abbrev pub AreOut : (guards : List WriteGuard) → (places : List (Option Guard)) → Type 0
AreOut guards places = (old : List (Option Guard)) × TakesOut guards old places

-- The places with these guards put back, the last of them first.
abbrev pub with_back : List (Option Guard) → List WriteGuard → List (Option Guard)
with_back places [] = places
with_back places (g ∷ guards) = slice_set (with_back places guards) g.slot (Some (guard.Write g))

-- Each of them finds its place free.
abbrev pub FindPlaces : List (Option Guard) → List WriteGuard → Type 0
FindPlaces places [] = Unit {0}
FindPlaces places (g ∷ guards) = (is_free (with_back places guards) g.slot ≡ true) × FindPlaces places guards

-- ---- memory

-- No guard is in the room, and where it is open, it has places for those of all slots.
pub record HasRoom (is_open : Bool) (guards : Vec WriteGuard) : Type 0 where
  pub empty : guards.items ≡ []
  pub places : is_open ≡ true → most_slots ≤ vec_capacity guards

-- ---- what is lent at once

-- The guards are those that they were as the work got them, but for their bodies, and there are places for those of all slots.
pub record IsLending (began : List WriteGuard) (guards : Vec WriteGuard) : Type 0 where
  pub others : AreOthers began guards.items
  pub places : most_slots ≤ vec_capacity guards

-- ---- one body of those that are lent

-- Where the guard of the slot stands, if it is there.
abbrev pub place_of : List WriteGuard → (slot : ℕ) → Option ℕ
place_of guards slot = position (λ g. g.slot == slot) guards

-- The guard that stands at this place.
abbrev pub guard_at : List WriteGuard → ℕ → WriteGuard
guard_at guards n = slice_index_or guards n (record { worker = 0; slot = 0; page = 0; mark = 0; image = [] })

-- The guard with this body.
abbrev pub with_guard_body : WriteGuard → List ℕ → WriteGuard
with_guard_body g body = record g { image = with_body g.image body }

-- The guards, of which the one at this place has this body.
abbrev pub with_body_at : List WriteGuard → ℕ → List ℕ → List WriteGuard
with_body_at guards n body = slice_set guards n (with_guard_body (guard_at guards n) body)

-- The same of the slot whose guard stands at this place, if it is there.
abbrev pub with_body_in : List WriteGuard → Option ℕ → List ℕ → List WriteGuard
with_body_in guards None body = guards
with_body_in guards (Some n) body = with_body_at guards n body

-- ---- what is lent, by slots

-- Whether a page of the slot is lent.
abbrev pub has_lent : List LentPage → (slot : ℕ) → Bool
has_lent [] slot = false
has_lent (p ∷ rest) slot = if p.slot == slot then true else has_lent rest slot

-- The page of the slot, if it is lent.
abbrev pub page_lent : List LentPage → (slot : ℕ) → Option ℕ
page_lent [] slot = None
page_lent (p ∷ rest) slot = if p.slot == slot then Some p.page else page_lent rest slot

-- The body of the slot's page; none has no byte.
abbrev pub body_lent : List LentPage → (slot : ℕ) → List ℕ
body_lent [] slot = []
body_lent (p ∷ rest) slot = if p.slot == slot then p.body else body_lent rest slot
