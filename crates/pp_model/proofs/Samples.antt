-- Settings and plans for worked rows: two regions, `root` of pages 0 to 3 and `leaf` of pages 16 to 23, two workers,
-- four flushes.
use Rattle.std.specs.Prelude.{ℕ, List, [], ◌∷◌, codes}
use Rattle.pp_settings.specs.declared.extent.Extent.{Extent}
use Rattle.pp_settings.specs.Layout.{Geometry}
use Rattle.pp_settings.specs.declared.span.Span.TheVariants.{Bounded}
use Rattle.pp_plan.specs.declared.mode.Mode.TheVariants as mode
use Rattle.pp_plan.specs.Tree.{Step, fix, unfix, latch, unlatch, step, Sequence, skip, andthen}
use Rattle.pp_cert.specs.Accepted.{Acceptance}
use Rattle.pp_model.specs.Pool.{State, Settings, opening}
use Rattle.pp_model.specs.Submitting.{after_submit}

abbrev pub root : Extent
root = record { first = 0; count = 4; class = 1 }

abbrev pub leaf : Extent
leaf = record { first = 16; count = 8; class = 2 }

abbrev pub layout_of : (frames : ℕ) → Geometry
layout_of frames = record { frames = frames; extents = root ∷ leaf ∷ [] }

abbrev pub settings_of : (frames : ℕ) → Settings
settings_of frames = record { layout = layout_of frames; workers = 2; flushes = 4; span = Bounded }

-- A body of steps alone.
abbrev straight : List Step → Sequence
straight [] = skip
straight (s ∷ ss) = andthen (step s) (straight ss)

abbrev plan_of : (frames peak count : ℕ) → List (List ℕ) → List Step → Acceptance
plan_of frames peak count slots ss =
    record {
      plan = record { version = 1; layout = layout_of frames; slots = slots; body = straight ss };
      peak = peak;
      steps = count;
    }

abbrev pub two : (frames : ℕ) → Acceptance
two frames = plan_of frames 2 4 (codes "a" ∷ codes "b" ∷ []) (fix 0 0 ∷ fix 1 1 ∷ unfix 1 ∷ unfix 0 ∷ [])

abbrev pub write : (frames : ℕ) → Acceptance
write frames = plan_of frames 1 4 (codes "a" ∷ []) (fix 0 1 ∷ latch 0 mode.X ∷ unlatch 0 ∷ unfix 0 ∷ [])

abbrev pub read : (frames : ℕ) → Acceptance
read frames = plan_of frames 1 4 (codes "a" ∷ []) (fix 0 1 ∷ latch 0 mode.S ∷ unlatch 0 ∷ unfix 0 ∷ [])

abbrev pub touch : (frames : ℕ) → Acceptance
touch frames = plan_of frames 1 2 (codes "a" ∷ []) (fix 0 0 ∷ unfix 0 ∷ [])

-- A page latched X while another is fixed.
abbrev pub write_and_fix : (frames : ℕ) → Acceptance
write_and_fix frames =
    plan_of frames 2 6 (codes "a" ∷ codes "b" ∷ [])
    (fix 0 0 ∷ latch 0 mode.X ∷ fix 1 1 ∷ unfix 1 ∷ unlatch 0 ∷ unfix 0 ∷ [])

-- The plan without a statement.
abbrev pub nothing : (frames : ℕ) → Acceptance
nothing frames = plan_of frames 0 0 [] []

-- A plan of so many steps, as far as its cost goes.
abbrev pub long : (frames count : ℕ) → Acceptance
long frames count = plan_of frames 0 count [] []

-- These plans are submitted.
abbrev pub with_plans : State → List Acceptance → State
with_plans s [] = s
with_plans s (a ∷ more) = with_plans (after_submit s a) more

abbrev pub start : (frames : ℕ) → List Acceptance → State
start frames plans = with_plans (opening (settings_of frames)) plans
