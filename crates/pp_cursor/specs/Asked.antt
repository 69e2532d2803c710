-- What a plan asks after a list of actions, as a function: what is left of its body after each of them.
use Rattle.std.specs.Prelude.{ℕ, zero, suc, Bool, true, false, ◌&&◌, ◌==◌, nat_lt, if◌then◌else◌, slice_get}
use Rattle.std.specs.Prelude.{Option, None, Some, option_map, List, [], ◌∷◌}
use Rattle.pp_settings.specs.declared.extent.Extent.{Extent}
use Rattle.pp_settings.specs.Layout.{Geometry, has_page}
use Rattle.pp_plan.specs.declared.mode.Mode.{Mode}
use Rattle.pp_plan.specs.declared.mode.Mode.TheVariants as mode
use Rattle.pp_plan.specs.declared.action.Action.{Action}
use Rattle.pp_plan.specs.declared.action.Action.TheVariants.{Fix, Unfix, Latch, Unlatch, Gather, Scatter, Choose}
use Rattle.pp_plan.specs.declared.action.Ask.{Ask}
use Rattle.pp_plan.specs.declared.action.Ask.TheVariants as ask
use Rattle.pp_plan.specs.Tree.{Step, fix, unfix, latch, unlatch, gather, scatter, step, loop, choice}
use Rattle.pp_plan.specs.Tree.{Sequence, skip, andthen, Alternatives, branch_count}
use Rattle.pp_cursor.specs.Left.{◌then◌, branch_at}
use Rattle.pp_plan.specs.FlatList.{statement_ask}
use Rattle.pp_plan.specs.Terms.{Terms}

-- ---- one action

abbrev pub extent_has : Option Extent → ℕ → Bool
extent_has None page = false
extent_has (Some e) page = has_page page e

-- Whether region r has the page.
abbrev pub region_has : Geometry → ℕ → ℕ → Bool
region_has g r page = extent_has (slice_get g.extents r) page

abbrev pub same_mode : Mode → Mode → Bool
same_mode mode.S mode.S = true
same_mode mode.X mode.X = true
same_mode _ _ = false

-- Whether the action makes the step.
abbrev pub does : Geometry → Step → Action → Bool
does g (fix s r) (Fix t page) = (s == t) && region_has g r page
does g (unfix s) (Unfix t) = s == t
does g (latch s m) (Latch t n) = (s == t) && same_mode m n
does g (unlatch s) (Unlatch t) = s == t
does g (gather s r) (Gather t page) = (s == t) && region_has g r page
does g (scatter s) (Scatter t) = s == t
does g _ _ = false

-- What is left of a choice and of what follows it, once a branch is chosen.
abbrev pub branch_after : Alternatives → Sequence → Action → Option Sequence
branch_after bs k (Choose i) = if nat_lt i (branch_count bs) then Some (branch_at bs i then k) else None
branch_after bs k _ = None

-- What is left of a body after an action; None where the body doesn't begin with it.
abbrev pub left_after_one : Geometry → Sequence → Action → Option Sequence
left_after_one g skip a = None
left_after_one g (andthen (step s) k) a = if does g s a then Some k else None
left_after_one g (andthen (loop zero b) k) a = left_after_one g k a
left_after_one g (andthen (loop (suc n) b) k) a = option_map (λ d. d then andthen (loop n b) k) (left_after_one g b a)
left_after_one g (andthen (choice bs) k) a = branch_after bs k a

-- ---- a list of actions

-- The same after a list of actions.
abbrev pub left_after : Geometry → Option Sequence → List Action → Option Sequence
left_after g None t = None
left_after g (Some b) [] = Some b
left_after g (Some b) (a ∷ t) = left_after g (left_after_one g b a) t

-- What a body asks first.
abbrev pub first_asked : Sequence → Ask
first_asked skip = ask.End
first_asked (andthen (step s) k) = statement_ask (step s)
first_asked (andthen (loop zero b) k) = first_asked k
first_asked (andthen (loop (suc n) b) k) = first_asked b
first_asked (andthen (choice bs) k) = statement_ask (choice bs)

abbrev pub asked_of : Option Sequence → Ask
asked_of None = ask.End
asked_of (Some b) = first_asked b

-- What the plan asks after a list of actions. After a list that begins no trace it is the end.
abbrev pub asked : Terms → List Action → Ask
asked p t = asked_of (left_after p.layout (Some p.body) t)
