-- How a cursor moves: the words of its private parts.
use Rattle.std.specs.Prelude.{◌≡◌, ◌<◌, ◌≤◌, ◌^◌, ℕ, zero, suc, ◌+◌, List, [], ◌∷◌, length, slice_index_or}
use Rattle.pp_settings.specs.Layout.{Geometry}
use Rattle.pp_settings.specs.Limits.{most_depth}
use Rattle.pp_plan.specs.Tree.{Statement, step, loop, choice, Sequence, skip, andthen}
use Rattle.pp_plan.specs.Tree.{branch_count}
use Rattle.pp_plan.specs.Traces.{IsTrace}
use Rattle.pp_plan.specs.FlatList.{statement_ask}
use Rattle.pp_cursor.specs.Left.{sequence_drop, Place, body_at}
use Rattle.pp_cursor.specs.Cursor.{IsPath}
use Rattle.pp_cursor.specs.Positions.{Spot, position}
use Rattle.pp_cursor.specs.declared.cursor.Entry.{Entry}
use Rattle.pp_plan.specs.declared.flat.Next.{Next}
use Rattle.pp_plan.specs.declared.flat.Next.TheVariants.{Enter, Leave, Asks}
use Rattle.pp_plan.specs.declared.action.Action.{Action}
use Rattle.pp_plan.specs.declared.action.Action.TheVariants.{Choose}
use Rattle.pp_plan.specs.declared.action.Ask.{Ask}
use Rattle.pp_plan.specs.declared.action.Ask.TheVariants as ask

-- ---- entries as a stack

-- The first entries of an array, the last of them first.
abbrev pub stack : List Entry → ℕ → List Entry
stack xs zero = []
stack xs (suc d) = slice_index_or xs d (record { index = 0; turns = 0; branch = 0 }) ∷ stack xs d

-- What a cursor's numbers keep: the entries fit their array, and the number of a step is ahead of its statement's by no more
-- than it is.
pub record FitsCursor (depth at ahead : ℕ) : Type 0 where
  pub few : depth ≤ most_depth
  pub within : ahead ≤ at

-- There is an entry, and the number after its statement's fits its type.
abbrev pub HasNext : List Entry → Type 0
HasNext [] = ⊥
HasNext (e ∷ es) = e.index + 1 < 2 ^ 64

-- The number of the statement behind that of the innermost entry is no higher than that of this step.
abbrev pub IsPassedBy : List Entry → (at : ℕ) → Type 0
IsPassedBy [] at = Unit {0}
IsPassedBy (e ∷ es) at = e.index + 1 ≤ at

-- Inside the statement at the place.
abbrev pub entered : Place → (turns branch : ℕ) → Place
entered p n i = record { entries = record { index = p.index; turns = n; branch = i } ∷ p.entries; index = 0 }

-- Past the statement at the place.
abbrev pub skipped : Place → Place
skipped p = record { entries = p.entries; index = p.index + 1 }

-- From the end of a body: to the next turn, or past the statement around it where no turn is left.
abbrev pub left_to : (turns : ℕ) → Entry → List Entry → Place
left_to zero e es = record { entries = es; index = e.index + 1 }
left_to (suc n) e es = record { entries = record { index = e.index; turns = n; branch = e.branch } ∷ es; index = 0 }

-- The same where there is an entry.
abbrev pub left_by : Place → List Entry → Place
left_by p [] = p
left_by p (e ∷ es) = left_to e.turns e es

-- Past an action: into the branch that is chosen, or past the statement that made it.
abbrev pub moved_by : Action → Place → Place
moved_by (Choose i) p = entered p 0 i
moved_by _ p = skipped p

-- There is room to go past the action: a place for a choice's entry, a number for the next statement.
abbrev pub CanPass : Action → Place → Type 0
CanPass (Choose i) p = length p.entries < most_depth
CanPass _ p = p.index + 1 < 2 ^ 64

-- ---- moves without an action

-- Two bodies with the same traces.
pub record Same (g : Geometry) (b c : Sequence) : Type 0 where
  pub to : (t : List Action) → IsTrace g b t → IsTrace g c t
  pub from : (t : List Action) → IsTrace g c t → IsTrace g b t

-- ---- what is asked

-- What is asked where this is the rest of the body: what its first statement asks, or the end.
abbrev pub first_ask : Sequence → Ask
first_ask skip = ask.End
first_ask (andthen s k) = statement_ask s

-- What is asked at a place.
abbrev pub ask_at : Sequence → Place → Ask
ask_at b p = first_ask (sequence_drop p.index (body_at b p.entries))

-- ---- what is next

-- A loop is entered, and another statement asks.
abbrev pub statement_next : Statement → Next
statement_next (step s) = Asks (statement_ask (step s))
statement_next (loop n b) = Enter n
statement_next (choice bs) = Asks (statement_ask (choice bs))

-- The same where this is the rest of the innermost body: at its end the body is left, if it is inside another.
abbrev pub next_by : Sequence → List Entry → Next
next_by skip [] = Asks ask.End
next_by skip (e ∷ es) = Leave
next_by (andthen s k) es = statement_next s

-- What is next at a place.
abbrev pub next_at : Sequence → Place → Next
next_at b p = next_by (sequence_drop p.index (body_at b p.entries)) p.entries

-- The number of the statement's branches fits its type.
abbrev pub HasFewBranches : Statement → Type 0
HasFewBranches (step s) = Unit {0}
HasFewBranches (loop n b) = Unit {0}
HasFewBranches (choice bs) = branch_count bs < 2 ^ 16

-- ---- the number of the step

-- A cursor inside the body, with the number of its place's step.
pub record IsOn (b : Sequence) (c : Spot) : Type 0 where
  pub path : IsPath b c.place.entries
  pub on : c.at ≡ position b c.place

-- Out of a body, where the statement around it is the step of this number and comes to so many.
abbrev pub out_to : (turns : ℕ) → Entry → List Entry → (around whole : ℕ) → Spot
out_to zero e es around whole = record { place = left_to zero e es; at = around + whole }
out_to (suc n) e es around whole = record { place = left_to (suc n) e es; at = around + 1 }

abbrev pub out_by : List Entry → (around whole : ℕ) → Spot → Spot
out_by [] around whole c = c
out_by (e ∷ es) around whole c = out_to e.turns e es around whole

-- The action is made by a step, and not by a choice.
abbrev pub IsOfStep : Action → Type 0
IsOfStep (Choose i) = ⊥
IsOfStep _ = Unit {0}
