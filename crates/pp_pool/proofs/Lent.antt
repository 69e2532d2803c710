-- What stays of the guards in hand where a work has changed the pages that it was lent.
use Rattle.std.proofs.Common.{◌≡◌, ◌∙◌, ℕ, Bool, true, false, Option, Some, None, List, refl, sym, ap, subst, inl, inr}
use Rattle.std.specs.Prelude.{MatchOption, ◌⊎◌, if◌then◌else◌}
use Rattle.std.proofs.lemmas.Bool.{false≢true}
use Rattle.pp_settings.specs.Layout.{Geometry}
use Rattle.pp_plan.specs.declared.action.Ask.{Ask}
use Rattle.pp_plan.specs.declared.action.Ask.TheVariants as ask
use Rattle.pp_vault.specs.declared.guards.Guard.{Guard}
use Rattle.pp_vault.specs.declared.guards.Guard.TheVariants as guard
use Rattle.pp_vault.specs.declared.stage.Stage.{Stage}
use Rattle.pp_vault.specs.declared.stage.Stage.TheVariants as stage
use Rattle.pp_vault.specs.Holding.{placed}
use Rattle.pp_pool.specs.declared.work.Work as Work
use Rattle.pp_pool.specs.Lent.{off_by_plan, is_writer, IsReworked}
use Rattle.pp_pool.specs.Turns.{ReworksIf, Reworks, keeps_place, can_ask_at, can_step, is_suited}

-- What stands in a place stays a guard of a latch X, if it is one.
writer_stays : (old new : Option Guard) → IsReworked old new → is_writer new ≡ is_writer old
writer_stays None new h = ap is_writer h
writer_stays (Some (guard.Pin g)) new h = ap is_writer h
writer_stays (Some (guard.Read g)) new h = ap is_writer h
writer_stays (Some (guard.Write g)) new h = ap is_writer h.2
writer_stays (Some (guard.Bundle g)) new h = ap is_writer h

-- A guard of a latch X can be unlatched.
writer_suits : (slot : ℕ) (o : Option Guard) → is_writer o ≡ true → is_suited (ask.Unlatch slot) o ≡ true
writer_suits slot None is = absurd (false≢true is)
writer_suits slot (Some (guard.Pin g)) is = absurd (false≢true is)
writer_suits slot (Some (guard.Read g)) is = absurd (false≢true is)
writer_suits slot (Some (guard.Write g)) is = refl
writer_suits slot (Some (guard.Bundle g)) is = absurd (false≢true is)

module _ {W : Type 0} (k : Work.Ghosts W) (before left : W) where
  -- An errand's place is what it was.
  pub keeps_reworked : (at : Stage) (places places' : List (Option Guard)) → ReworksIf k at before places places' left
      → keeps_place places at ≡ true → keeps_place places' at ≡ true
  keeps_reworked (stage.Idle chair) places places' h keeps = refl
  keeps_reworked (stage.In x) places places' h keeps = refl
  keeps_reworked (stage.Out errand) places places' h keeps =
      subst (λ ps. keeps_place ps (stage.Out errand) ≡ true) (sym h.1) keeps
  keeps_reworked (stage.Back returned) places places' h keeps =
      subst (λ ps. keeps_place ps (stage.Back returned) ≡ true) (sym h.1) keeps
  keeps_reworked (stage.Leaving x) places places' h keeps = refl

-- A worker that can make no request takes no latch X off with it, so its work was lent nothing.
module _ {W : Type 0} (k : Work.Ghosts W) (before left : W) (layout : Geometry) (places places' : List (Option Guard)) where
  abbrev Same : Type 0
  Same = (left ≡ before) × (places' ≡ places)

  abbrev IfLent : Option ℕ → Type 0
  IfLent o = MatchOption o Same (λ off. Reworks k off before places places' left ⊎ Same)

  by_unlatch : (slot : ℕ) (b : Bool) → is_writer (placed places slot) ≡ b → IfLent (if b then Some slot else None)
      → can_step layout places' (ask.Unlatch slot) ≡ false → Same
  by_unlatch slot true is (inl h) refused =
      absurd (false≢true (sym refused ∙ writer_suits slot (placed places' slot)
      (writer_stays (placed places slot) (placed places' slot) (h.bodies.each slot) ∙ is)))
  by_unlatch slot true is (inr same) refused = same
  by_unlatch slot false is h refused = h

  by_ask : (a : Ask) → IfLent (off_by_plan a places) → can_step layout places' a ≡ false → Same
  by_ask (ask.Unlatch slot) h refused = by_unlatch slot (is_writer (placed places slot)) refl h refused
  by_ask (ask.Fix slot region) h refused = h
  by_ask (ask.Gather slot region) h refused = h
  by_ask (ask.Unfix slot) h refused = h
  by_ask (ask.Latch slot m) h refused = h
  by_ask (ask.Scatter slot) h refused = h
  by_ask (ask.Choose count) h refused = h
  by_ask ask.End h refused = h

  pub refused_stays : (at : Stage) → ReworksIf k at before places places' left → can_ask_at layout places' at ≡ false → Same
  refused_stays (stage.Idle chair) h refused = absurd (false≢true (sym refused))
  refused_stays (stage.In x) h refused = by_ask x.ask h refused
  refused_stays (stage.Out errand) h refused = h
  refused_stays (stage.Back returned) h refused = h
  refused_stays (stage.Leaving x) h refused = absurd (false≢true (sym refused))
