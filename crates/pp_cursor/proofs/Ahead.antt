-- What is asked behind an action that a step makes, where the row behind the step's asks it.
use Rattle.std.proofs.Common.{◌≡◌, ◌∙◌, ℕ, ◌+◌, ◌<◌, List, [], ◌∷◌, ◌++◌, length, Some, refl, sym, arith}
use Rattle.std.specs.Prelude.{slice_get}
use Rattle.pp_plan.specs.declared.action.Action.{Action}
use Rattle.pp_plan.specs.declared.action.Action.TheVariants.{Fix, Unfix, Latch, Unlatch, Gather, Scatter, Choose}
use Rattle.pp_plan.specs.declared.action.Ask.{Ask}
use Rattle.pp_plan.specs.declared.flat.Next.TheVariants.{Asks}
use Rattle.pp_plan.specs.declared.flat.FlatStep.{FlatStep}
use Rattle.pp_plan.specs.Terms.{Terms, IsPlan}
use Rattle.pp_plan.specs.PlanTraces.{PlanAsks}
use Rattle.pp_cursor.specs.Left.{sequence_drop, Place, body_at, left}
use Rattle.pp_cursor.specs.Asked.{asked}
use Rattle.pp_cursor.specs.Cursor.{IsAt, IsReady, StandsAt, NamesAction}
use Rattle.pp_cursor.specs.CursorMoves.{skipped, moved_by, Same, first_ask, ask_at, next_at, IsOfStep}
use Rattle.pp_plan.specs.FlatList.{flat_body}
use Rattle.pp_cursor.specs.Positions.{position}
use Rattle.pp_cursor.proofs.CursorMoves.{waits}
use Rattle.pp_cursor.proofs.Rows.{within, next_there, stepped_at}
use Rattle.pp_cursor.proofs.Standing.{asks_named, stands_passed, asked_after}

skips : (a : Action) (p : Place) → IsOfStep a → skipped p ≡ moved_by a p
skips (Fix slot page) p of = refl
skips (Unfix slot) p of = refl
skips (Latch slot m) p of = refl
skips (Unlatch slot) p of = refl
skips (Gather slot page) p of = refl
skips (Scatter slot) p of = refl
skips (Choose i) p of = absurd of

-- An action that isn't a choice is made by a step.
pub of_step : (a : Action) → ((i : ℕ) → a ≡ Choose i → ⊥) → IsOfStep a
of_step (Fix slot page) never = tt
of_step (Unfix slot) never = tt
of_step (Latch slot m) never = tt
of_step (Unlatch slot) never = tt
of_step (Gather slot page) never = tt
of_step (Scatter slot) never = tt
of_step (Choose i) never = never i refl

module _ (plan : Terms) (p : Place) (n : ℕ) (a : Action) (facts : IsPlan plan) (before : List Action)
    (stands : StandsAt plan p before) (on : n ≡ position plan.body p) (asks : PlanAsks plan before a) (of : IsOfStep a) where
  named : NamesAction plan.layout (ask_at plan.body p) a
  named = (asks_named plan p before a facts stands).0 asks

  row_is : position plan.body (skipped p) ≡ n + 1
  row_is = let at = stepped_at plan.layout plan.body p a named of in omega (arith, at, on)

  pub in_list : n + 1 < length (flat_body plan.body)
  in_list = let low = within _ _ plan.body (skipped p) facts.body stands.at.path in omega (arith, low, row_is)

  module _ (r : FlatStep) (x : Ask) (there : slice_get (flat_body plan.body) (n + 1) ≡ Some r) (is : r.next ≡ Asks x) where
    next_is : next_at plan.body (skipped p) ≡ Asks x
    next_is = sym (next_there _ _ plan.body (skipped p) (n + 1) r facts.body stands.at.path (sym row_is) there) ∙ is

    ready : IsReady (sequence_drop (skipped p).index (body_at plan.body (skipped p).entries)) (skipped p).entries
        × (x ≡ first_ask (sequence_drop (skipped p).index (body_at plan.body (skipped p).entries)))
    ready =
        waits (sequence_drop (skipped p).index (body_at plan.body (skipped p).entries)) (skipped p).entries x next_is

    there_at : IsAt plan.body (skipped p)
    there_at = record { path = stands.at.path; ready = ready.0 }

    same_left : Same plan.layout (left plan.body (skipped p)) (left plan.body (skipped p))
    same_left = record { to = λ t h. h; from = λ t h. h }

    pub asked_behind : (now : List Action) → StandsAt plan p now → x ≡ asked plan (now ++ a ∷ [])
    asked_behind now s =
        asked_after plan (skipped p) x (now ++ a ∷ []) facts ready.1
        (stands_passed plan p (skipped p) (skipped p) a before facts stands asks (skips a p of) same_left there_at now s)
