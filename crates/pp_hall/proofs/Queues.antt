-- Those that wait to start: their peaks count, and whoever may start fits.
use Rattle.std.proofs.Common.{◌≡◌, ◌∙◌, ℕ, ◌+◌, ◌≤◌, ◌<◌, Bool, true, false, not, cond, eqb, leb, ltb, List, [], ◌∷◌}
use Rattle.std.proofs.Common.{◌++◌, Option, Some}
use Rattle.std.proofs.Common.{None, refl, sym, ap, map, arith, inl, inr}
use Rattle.std.specs.Prelude.{option_map}
use Rattle.std.specs.List.{filter}
use Rattle.std.proofs.lemmas.Bool.{cases_Bool}
use Rattle.std.proofs.lemmas.Bool.Decides.{nat_tests}
use Rattle.pp_admission.specs.declared.waiting.Waiting.{Waiting}
use Rattle.pp_admission.specs.Queues.{AreRising, next_among, holder, without, marked, overtaken_by, newcomer}
use Rattle.pp_hall.specs.Waiters.{AreCounted}

-- ---- each peak counts as a page

pub counted_more : (ws : List Waiting) (w : Waiting) → AreCounted ws → 1 ≤ w.peak → AreCounted (ws ++ w ∷ [])
counted_more [] w h le = (le, tt)
counted_more (v ∷ ws) w h le = (h.0, counted_more ws w h.1 le)

pub counted_map : (f : Waiting → Waiting) → ((w : Waiting) → (f w).peak ≡ w.peak) → (ws : List Waiting) → AreCounted ws
    → AreCounted (map f ws)
counted_map f keeps [] h = tt
counted_map f keeps (w ∷ ws) h = (omega (arith, keeps w, h.0), counted_map f keeps ws h.1)

pub counted_filter : (test : Waiting → Bool) (ws : List Waiting) → AreCounted ws → AreCounted (filter test ws)
counted_filter test [] h = tt
counted_filter test (w ∷ ws) h =
    elim (test w) as (λ b. AreCounted (cond b (w ∷ filter test ws) (filter test ws))) [
      | true ↦ (h.0, counted_filter test ws h.1)
      | false ↦ counted_filter test ws h.1
    ]

pub marked_peak : (ticket : ℕ) (asleep : Bool) (w : Waiting) → (marked ticket asleep w).peak ≡ w.peak
marked_peak ticket asleep w =
    elim (eqb w.ticket ticket) as (λ b. (cond b (record w { is_asleep = asleep }) w).peak ≡ w.peak) [
      | true ↦ refl
      | false ↦ refl
    ]

pub overtaken_peak : (ticket : ℕ) (w : Waiting) → (overtaken_by ticket w).peak ≡ w.peak
overtaken_peak ticket w =
    elim (ltb w.ticket ticket) as (λ b. (cond b (record w { overtaken = w.overtaken + 1 }) w).peak ≡ w.peak) [
      | true ↦ refl
      | false ↦ refl
    ]

pub counted_holder : (ticket : ℕ) (ws : List Waiting) (w : Waiting) → AreCounted ws → holder ticket ws ≡ Some w → 1 ≤ w.peak
counted_holder ticket [] w h e = cc
counted_holder ticket (v ∷ ws) w h e = go (counted_holder ticket ws w h.1) (eqb v.ticket ticket) e
  where
    go : (holder ticket ws ≡ Some w → 1 ≤ w.peak) → (b : Bool) → cond b (Some v) (holder ticket ws) ≡ Some w → 1 ≤ w.peak
    go rest true f = let same : v ≡ w = cc in omega (arith, h.0, ap (λ (x : Waiting). x.peak) same)
    go rest false f = rest f

-- ---- whoever may start waits, and its peak fits

pub record IsFound (from room ticket : ℕ) (ws : List Waiting) : Type 0 where
  pub waiting : Waiting
  pub there : holder ticket ws ≡ Some waiting
  pub fits : waiting.peak ≤ room
  pub behind : from ≤ ticket

pub found : (bypass room from below ticket : ℕ) (ws : List Waiting) → AreRising from below ws
    → next_among bypass room ws ≡ Some ticket → IsFound from room ticket ws
found bypass room from below ticket [] rising e = cc
found bypass room from below ticket (w ∷ ws) rising e =
    go (found bypass room (w.ticket + 1) below ticket ws rising.1) (leb w.peak room) refl e
  where
    here : leb w.peak room ≡ true → w.ticket ≡ ticket → IsFound from room ticket (w ∷ ws)
    here fits same = record {
      waiting = w;
      there =
          let yes : eqb w.ticket ticket ≡ true = grind (arith, nat_tests) in
          ap (λ (b : Bool). cond b (Some w) (holder ticket ws)) yes;
      fits = grind (arith, nat_tests);
      behind = omega (arith, rising.0);
    }

    later : IsFound (w.ticket + 1) room ticket ws → IsFound from room ticket (w ∷ ws)
    later f = record {
      waiting = f.waiting;
      there =
          let above : w.ticket + 1 ≤ ticket = f.behind in
          let other : eqb w.ticket ticket ≡ false = grind (arith, nat_tests) in
          ap (λ (b : Bool). cond b (Some w) (holder ticket ws)) other ∙ f.there;
      fits = f.fits;
      behind = omega (arith, rising.0, f.behind);
    }

    pass : (next_among bypass room ws ≡ Some ticket → IsFound (w.ticket + 1) room ticket ws) → (b : Bool)
        → cond b (next_among bypass room ws) None ≡ Some ticket → IsFound from room ticket (w ∷ ws)
    pass rest true f = later (rest f)
    pass rest false f = cc

    go : (next_among bypass room ws ≡ Some ticket → IsFound (w.ticket + 1) room ticket ws) → (b : Bool) → leb w.peak room ≡ b
        → cond b (Some w.ticket) (cond (ltb w.overtaken bypass) (next_among bypass room ws) None) ≡ Some ticket
        → IsFound from room ticket (w ∷ ws)
    go rest true is f = let same : w.ticket ≡ ticket = cc in here is same
    go rest false is f = pass rest (ltb w.overtaken bypass) f
