-- What a cursor stands for, and what it may ask.
use Rattle.std.specs.Prelude.{◌≡◌, ◌<◌, ◌≤◌, ℕ, List, [], ◌∷◌, ◌++◌}
use Rattle.pp_settings.specs.Layout.{Geometry}
use Rattle.pp_plan.specs.Limits.{most_branches}
use Rattle.pp_plan.specs.Tree.{fix, unfix, latch, unlatch, gather, scatter, Statement, step, loop, choice}
use Rattle.pp_plan.specs.Tree.{Sequence, skip, andthen}
use Rattle.pp_plan.specs.Tree.{branch_count}
use Rattle.pp_plan.specs.Terms.{Terms}
use Rattle.pp_plan.specs.Traces.{Does, IsTrace, Begins}
use Rattle.pp_plan.specs.PlanTraces.{PlanAsks}
use Rattle.pp_cursor.specs.Left.{sequence_drop, Place, body_at, left}
use Rattle.pp_cursor.specs.Positions.{Spot, position}
use Rattle.pp_cursor.specs.declared.cursor.Entry.{Entry}
use Rattle.pp_plan.specs.declared.action.Action.{Action}
use Rattle.pp_plan.specs.declared.action.Action.TheVariants.{Choose}
use Rattle.pp_plan.specs.declared.action.Ask.{Ask}
use Rattle.pp_plan.specs.declared.action.Ask.TheVariants as ask

-- ---- the places between two actions

-- A worker may be inside the statement with so many turns left after this one, and in this branch.
abbrev pub CanBeIn : Statement → (turns branch : ℕ) → Type 0
CanBeIn (step s) turns branch = ⊥
CanBeIn (loop n b) turns branch = turns < n
CanBeIn (choice bs) turns branch = (turns ≡ 0) × (branch < branch_count bs)

-- The same of a body's first statement.
abbrev pub CanEnter : Sequence → (turns branch : ℕ) → Type 0
CanEnter skip turns branch = ⊥
CanEnter (andthen s k) turns branch = CanBeIn s turns branch

-- The entries lead from the body inwards, each through a statement that a worker may be inside so.
abbrev pub IsPath : Sequence → List Entry → Type 0
IsPath b [] = Unit {0}
IsPath b (e ∷ es) = CanEnter (sequence_drop e.index (body_at b es)) e.turns e.branch × IsPath b es

-- An action comes next, or it is the end of the outermost body.
abbrev pub IsReady : Sequence → List Entry → Type 0
IsReady skip [] = Unit {0}
IsReady skip (e ∷ es) = ⊥
IsReady (andthen (step s) k) es = Unit {0}
IsReady (andthen (loop n b) k) es = ⊥
IsReady (andthen (choice bs) k) es = Unit {0}

-- The same of the place: of the rest of its innermost body.
abbrev pub IsReadyAt : Sequence → Place → Type 0
IsReadyAt b p = IsReady (sequence_drop p.index (body_at b p.entries)) p.entries

-- A place of the body that is between two actions, or before the first, or after the last.
pub record IsAt (b : Sequence) (p : Place) : Type 0 where
  pub path : IsPath b p.entries
  pub ready : IsReadyAt b p

-- ---- what a cursor stands for

-- A place of the plan stands for a list of done actions: the list begins a trace of the plan, and what may follow
-- it in the plan's traces is what is left at the place. The list isn't stored.
pub record StandsAt (plan : Terms) (place : Place) (before : List Action) : Type 0 where
  pub at : IsAt plan.body place
  pub begins : Begins plan.layout plan.body before
  pub to : (rest : List Action) → IsTrace plan.layout plan.body (before ++ rest)
      → IsTrace plan.layout (left plan.body place) rest
  pub from : (rest : List Action) → IsTrace plan.layout (left plan.body place) rest
      → IsTrace plan.layout plan.body (before ++ rest)

-- A cursor of the plan stands for the list of its place, and the number that it has is that of the place's step.
pub record StandsFor (plan : Terms) (cursor : Spot) (before : List Action) : Type 0 where
  pub stands : StandsAt plan cursor.place before
  pub on : cursor.at ≡ position plan.body cursor.place

-- The cursor is one of this plan: it stands for some list.
abbrev pub IsCursorOf : Terms → Spot → Type 0
IsCursorOf plan cursor = (before : List Action) × StandsFor plan cursor before

-- The plan asks the action after a list that the cursor stands for.
abbrev pub IsAsked : Terms → Spot → Action → Type 0
IsAsked plan cursor a = (before : List Action) × (StandsFor plan cursor before × PlanAsks plan before a)

-- ---- what is asked

-- The action is one that the ask names: for a step each action that makes this step, so for a fix each fix of the
-- slot with a page of the region, and for a gather likewise; for a choice each branch below their number; for the end none.
abbrev pub NamesAction : Geometry → Ask → Action → Type 0
NamesAction g (ask.Fix s r) a = Does g (fix s r) a
NamesAction g (ask.Unfix s) a = Does g (unfix s) a
NamesAction g (ask.Latch s m) a = Does g (latch s m) a
NamesAction g (ask.Unlatch s) a = Does g (unlatch s) a
NamesAction g (ask.Gather s r) a = Does g (gather s r) a
NamesAction g (ask.Scatter s) a = Does g (scatter s) a
NamesAction g (ask.Choose n) (Choose i) = i < n
NamesAction g (ask.Choose n) _ = ⊥
NamesAction g ask.End a = ⊥

-- What is asked is within the plan: a slot and a region that it has, 1 to 16 branches.
abbrev pub IsAskOf : (slots regions : ℕ) → Ask → Type 0
IsAskOf slots regions (ask.Fix s r) = (s < slots) × (r < regions)
IsAskOf slots regions (ask.Unfix s) = s < slots
IsAskOf slots regions (ask.Latch s m) = s < slots
IsAskOf slots regions (ask.Unlatch s) = s < slots
IsAskOf slots regions (ask.Gather s r) = (s < slots) × (r < regions)
IsAskOf slots regions (ask.Scatter s) = s < slots
IsAskOf slots regions (ask.Choose n) = (1 ≤ n) × (n ≤ most_branches)
IsAskOf slots regions ask.End = Unit {0}
