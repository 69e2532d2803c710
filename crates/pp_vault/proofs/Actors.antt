-- Workers that act: what is kept tells it, so it is so in each state that is stood for.
use Rattle.std.proofs.Common.{◌≡◌, ℕ, true, Option, Some, None, List, length, ◌<◌, refl, sym, subst, arith, inl, inr}
use Rattle.std.specs.Prelude.{slice_get, IsSome}
use Rattle.std.proofs.lemmas.Bool.{false≢true}
use Rattle.std.proofs.lemmas.Option.{slice_get_within, slice_get_cases}
use Rattle.pp_cert.specs.Accepted.{Acceptance}
use Rattle.pp_model.specs.Pool.{Stage, acting, writing, reading, leaving, Running, State}
use Rattle.pp_model.specs.Moves.{seat_of}
use Rattle.pp_core.specs.declared.seat.Phase.{Phase}
use Rattle.pp_core.specs.declared.seat.Phase.TheVariants.{Acting, Writing, Reading, Leaving}
use Rattle.pp_core.specs.declared.seat.Seat.{Seat}
use Rattle.pp_core.specs.StandsFor.{FitsStage, FitsSeat, FitsCrew}
use Rattle.pp_core.specs.Queries.{ask_in, ask_by, ask_of}
use Rattle.pp_vault.specs.Parts.{Parts}
use Rattle.pp_vault.specs.StandsFor.{StandsFor}
use Rattle.pp_vault.specs.Fits.{is_acting_by}
use Rattle.pp_vault.specs.Tokens.{ActsIn}

-- ---- lists that are as long as each other

there : {A B : Type 0} (xs : List A) (ys : List B) (i : ℕ) (x : A) → length xs ≡ length ys → slice_get xs i ≡ Some x
    → (y : B) × (slice_get ys i ≡ Some y)
there xs ys i x e at =
    let low : i < length ys = omega (arith, e, slice_get_within xs i x at) in
    elim ((slice_get_cases ys i).1) [
      | inl found ↦ (found.0, found.2)
      | inr past ↦ absurd (omega (arith, low, past.0))
    ]

-- ---- what a phase tells of a stage

-- A worker that acts in one plan acts in the other, where one phase fits both.
same_stage : (p : Phase) (g h : Stage) (q r : Running) → FitsStage p g → FitsStage p h → IsSome (ask_in q g)
    → IsSome (ask_in r h)
same_stage Acting acting acting q r a b some = refl
same_stage Acting acting (writing t x v) q r a b some = absurd b
same_stage Acting acting (reading t x) q r a b some = absurd b
same_stage Acting acting (leaving given) q r a b some = absurd b
same_stage p (writing t x v) h q r a b some = absurd (false≢true some)
same_stage p (reading t x) h q r a b some = absurd (false≢true some)
same_stage p (leaving given) h q r a b some = absurd (false≢true some)
same_stage (Writing slot page victim) acting h q r a b some = absurd a
same_stage (Reading slot page) acting h q r a b some = absurd a
same_stage Leaving acting h q r a b some = absurd a

same_seat : (ps qs : List Acceptance) (x : Option Seat) (y z : Option Running) → FitsSeat ps x y → FitsSeat qs x z
    → IsSome (ask_by (Some y)) → IsSome (ask_by (Some z))
same_seat ps qs x None z a b some = absurd (false≢true some)
same_seat ps qs None (Some q) z a b some = absurd a
same_seat ps qs (Some x) (Some q) None a b some = absurd b
same_seat ps qs (Some x) (Some q) (Some r) a b some = same_stage x.phase q.stage r.stage q r a.phase b.phase some

module _ (ps qs : List Acceptance) (xs : List (Option Seat)) (ys zs : List (Option Running)) (w : ℕ)
    (first : FitsCrew ps xs ys) (second : FitsCrew qs xs zs) where
  same_crew : (o : Option (Option Running)) → slice_get ys w ≡ o → IsSome (ask_by o) → IsSome (ask_by (slice_get zs w))
  same_crew None e some = absurd (false≢true some)
  same_crew (Some y) e some =
      let kept = there ys xs w y (sym first.size) e in
      let other = there xs zs w kept.0 second.size kept.1 in
      subst (λ (o : Option (Option Running)). IsSome (ask_by o)) (sym other.1)
      (same_seat ps qs kept.0 y other.0 (first.each w kept.0 y kept.1 e)
      (second.each w kept.0 other.0 kept.1 other.1) some)

acts_if : (o : Option (Option Running)) → IsSome (ask_by o) → is_acting_by (ask_by o) ≡ true
acts_if o some = go (ask_by o) some
  where
    go : (a : Option _) → IsSome a → is_acting_by a ≡ true
    go None h = absurd (false≢true h)
    go (Some a) h = refl

-- A worker that acts in one of the states acts in each.
pub acts_in_each : (v : Parts) (s : State) (w : ℕ) → StandsFor v s → IsSome (ask_of s w) → ActsIn v w
acts_in_each v s w st some t tt =
    acts_if (seat_of t w)
    (same_crew v.core.plans v.core.plans v.core.seats s.seats t.seats w st.core.seats tt.core.seats (seat_of s w) refl some)
