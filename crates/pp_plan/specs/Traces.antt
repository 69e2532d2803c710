-- What a plan does: the lists of actions that are its traces, and what it asks after a list.
use Rattle.std.specs.Prelude.{◌≡◌, ℕ, zero, suc, List, [], ◌∷◌, ◌++◌}
use Rattle.pp_settings.specs.Layout.{Geometry, HasPage}
use Rattle.pp_plan.specs.Tree.{Step, fix, unfix, latch, unlatch, gather, scatter, Statement, step, loop, choice}
use Rattle.pp_plan.specs.Tree.{Sequence, skip, andthen}
use Rattle.pp_plan.specs.Tree.{Alternatives, none, either}
use Rattle.pp_plan.specs.declared.action.Action.{Action}
use Rattle.pp_plan.specs.declared.action.Action.TheVariants.{Fix, Unfix, Latch, Unlatch, Gather, Scatter, Choose}

-- The step makes the action: a fix or a gather in a region is made by fixing any page of the region, each other step by
-- itself. A gather may fix a page that the bundle has already.
abbrev pub Does : Geometry → Step → Action → Type 0
Does g (fix s r) (Fix t page) = (s ≡ t) × HasPage g r page
Does g (unfix s) (Unfix t) = s ≡ t
Does g (latch s m) (Latch t n) = (s ≡ t) × (m ≡ n)
Does g (unlatch s) (Unlatch t) = s ≡ t
Does g (gather s r) (Gather t page) = (s ≡ t) × HasPage g r page
Does g (scatter s) (Scatter t) = s ≡ t
Does g _ _ = ⊥

-- A list of P, and then one of Q.
abbrev pub Joins : (P Q : List Action → Type 0) → List Action → Type 0
Joins P Q t = (u : List Action) × (v : List Action) × (t ≡ u ++ v) × P u × Q v

-- n lists of P, one after another.
abbrev pub Repeats : ℕ → (List Action → Type 0) → List Action → Type 0
Repeats zero P t = t ≡ []
Repeats (suc n) P t = Joins P (Repeats n P) t

abbrev mutual
  -- The traces of a statement. A step: its one action. A loop: as many traces of its body as it has turns.
  -- A choice: the branch that is chosen, and then a trace of this branch.
  pub IsStatementTrace : Geometry → Statement → List Action → Type 0
  IsStatementTrace g (step s) t = (a : Action) × (t ≡ a ∷ []) × Does g s a
  IsStatementTrace g (loop n b) t = Repeats n (IsTrace g b) t
  IsStatementTrace g (choice bs) t = (i : ℕ) × (u : List Action) × (t ≡ Choose i ∷ u) × IsBranchTrace g bs i u

  -- The traces of a body: of its first statement, and then of the others. The empty body has the empty one alone.
  pub IsTrace : Geometry → Sequence → List Action → Type 0
  IsTrace g skip t = t ≡ []
  IsTrace g (andthen s b) t = Joins (IsStatementTrace g s) (IsTrace g b) t

  -- The traces of branch i.
  pub IsBranchTrace : Geometry → Alternatives → ℕ → List Action → Type 0
  IsBranchTrace g none i t = ⊥
  IsBranchTrace g (either b bs) zero t = IsTrace g b t
  IsBranchTrace g (either b bs) (suc i) t = IsBranchTrace g bs i t

-- The plan asks the action after the list: some trace begins with the list and then this action.
abbrev pub MayFollow : Geometry → Sequence → List Action → Action → Type 0
MayFollow g b t a = (rest : List Action) × IsTrace g b (t ++ a ∷ rest)

-- The list is the beginning of a trace.
abbrev pub Begins : Geometry → Sequence → List Action → Type 0
Begins g b t = (rest : List Action) × IsTrace g b (t ++ rest)
