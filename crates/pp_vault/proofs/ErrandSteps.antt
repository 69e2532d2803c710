-- Errands that come back: their worker's stage, and the images after it.
use Rattle.std.proofs.Common.{◌≡◌, ◌≢◌, ◌∙◌, ◌⊎◌, ℕ, Option, Some, None, List, refl, sym, ap, inl, inr}
use Rattle.std.specs.Prelude.{unwrap_or}
use Rattle.pp_model.specs.Pool.{Stage, acting, writing, reading, leaving, Running, State}
use Rattle.pp_model.specs.Moves.{seat_of}
use Rattle.pp_model.specs.Reached.{IsReached}
use Rattle.pp_model.specs.Ready.{Standing, ready_at, ReadyStay, ImageComes, Enters}
use Rattle.pp_model.proofs.ReadyLaws.{away_are_apart}
use Rattle.pp_model.proofs.Requests.{same, other, which}
use Rattle.pp_core.specs.Queries.{errand_in, errand_by, errand_of}
use Rattle.pp_device.specs.Image.{head_of}

-- ---- the worker's stage

pub record IsWriting (s : State) (w slot page victim : ℕ) : Type 0 where
  pub running : Running
  pub seat : seat_of s w ≡ Some (Some running)
  pub stage : running.stage ≡ writing slot page victim

pub record IsReading (s : State) (w slot page : ℕ) : Type 0 where
  pub running : Running
  pub seat : seat_of s w ≡ Some (Some running)
  pub stage : running.stage ≡ reading slot page

-- What two errands that are the same have in common.
record Same (k p i q : ℕ) (v u : Option ℕ) : Type 0 where
  slot : k ≡ i
  page : p ≡ q
  victim : v ≡ u

abbrev errand : (k p : ℕ) (v : Option ℕ) → ℕ × ℕ × Option ℕ
errand k p v = (k, p, v)

same_parts : (k p slot page : ℕ) (v u : Option ℕ)
    → ◌≡◌ {A = Option (ℕ × ℕ × Option ℕ)} (Some (k, p, v)) (Some (slot, page, u)) → Same k p slot page v u
same_parts k p slot page v u e =
    let pair : errand k p v ≡ errand slot page u = ap (λ o. unwrap_or o (errand k p v)) e in
    record { slot = ap (λ q. q.0) pair; page = ap (λ q. q.1) pair; victim = ap (λ q. q.2) pair }

write_stage : (g : Stage) (slot page victim : ℕ) → errand_in g ≡ Some (slot, page, Some victim)
    → g ≡ writing slot page victim
write_stage acting slot page victim e = cc
write_stage (writing k p v) slot page victim e =
    let s : Same k p slot page (Some v) (Some victim) = same_parts k p slot page (Some v) (Some victim) e in cc
write_stage (reading k p) slot page victim e =
    let s : Same k p slot page None (Some victim) = same_parts k p slot page None (Some victim) e in cc
write_stage (leaving given) slot page victim e = cc

read_stage : (g : Stage) (slot page : ℕ) → errand_in g ≡ Some (slot, page, None) → g ≡ reading slot page
read_stage acting slot page e = cc
read_stage (writing k p v) slot page e =
    let s : Same k p slot page (Some v) None = same_parts k p slot page (Some v) None e in cc
read_stage (reading k p) slot page e =
    let s : Same k p slot page None None = same_parts k p slot page None None e in cc
read_stage (leaving given) slot page e = cc

write_seat : (s : State) (w slot page victim : ℕ) (o : Option (Option Running)) → seat_of s w ≡ o
    → errand_by o ≡ Some (slot, page, Some victim) → IsWriting s w slot page victim
write_seat s w slot page victim None is e = cc
write_seat s w slot page victim (Some None) is e = cc
write_seat s w slot page victim (Some (Some r)) is e =
    record { running = r; seat = is; stage = write_stage r.stage slot page victim e }

read_seat : (s : State) (w slot page : ℕ) (o : Option (Option Running)) → seat_of s w ≡ o
    → errand_by o ≡ Some (slot, page, None) → IsReading s w slot page
read_seat s w slot page None is e = cc
read_seat s w slot page (Some None) is e = cc
read_seat s w slot page (Some (Some r)) is e =
    record { running = r; seat = is; stage = read_stage r.stage slot page e }

pub is_writing : (s : State) (w slot page victim : ℕ) → errand_of s w ≡ Some (slot, page, Some victim)
    → IsWriting s w slot page victim
is_writing s w slot page victim e = write_seat s w slot page victim (seat_of s w) refl e

pub is_reading : (s : State) (w slot page : ℕ) → errand_of s w ≡ Some (slot, page, None) → IsReading s w slot page
is_reading s w slot page e = read_seat s w slot page (seat_of s w) refl e

-- ---- an image that comes into a frame: pages that are ready stand elsewhere as before, or there, and it names them

module _ (s t : State) (reached : IsReached s) (b : List ℕ) where
  pub returned : (frame : ℕ) → ReadyStay s t → ImageComes s t frame → (p : ℕ) (x : Standing) → ready_at t p ≡ Some x
      → ((ready_at s p ≡ Some x) × (x.frame ≢ frame)) ⊎ ((x.frame ≡ frame) × (head_of b ≡ (p, x.mark)))
  returned frame stay comes p x e =
      let was : ready_at s p ≡ Some x = sym (stay p) ∙ e in
      inl (was, away_are_apart s reached frame comes.was p x was)

  pub entered : (page : ℕ) (y : Standing) → Enters s t page y → head_of b ≡ (page, y.mark) → (p : ℕ) (x : Standing)
      → ready_at t p ≡ Some x
      → ((ready_at s p ≡ Some x) × (x.frame ≢ y.frame)) ⊎ ((x.frame ≡ y.frame) × (head_of b ≡ (p, x.mark)))
  entered page y enters head p x e =
      elim (which p page) [
        | same d k ↦
            let it : x ≡ y = ap (λ o. unwrap_or o x) (sym e ∙ ap (ready_at t) d ∙ enters.is) in
            inr (ap (λ (z : Standing). z.frame) it, head ∙ cc)
        | other d k ↦
            let was : ready_at s p ≡ Some x = sym (enters.others p d) ∙ e in
            inl (was, away_are_apart s reached y.frame enters.image.was p x was)
      ]
