-- The JSON value that is written for a plan. For private clauses.
use Rattle.std.specs.Prelude.{ℕ, List, [], ◌∷◌, codes}
use Rattle.serde_json.specs.Data.{unsigned, Data, number, string, array, object, Members, no_members, member}
use Rattle.serde_json.specs.View.{items_of}
use Rattle.pp_settings.specs.Settings.{Configuration}
use Rattle.pp_plan.specs.Tree.{Step, fix, unfix, latch, unlatch, gather, scatter, Statement, step, loop, choice}
use Rattle.pp_plan.specs.Tree.{Sequence, skip, andthen}
use Rattle.pp_plan.specs.Tree.{Alternatives, none, either}
use Rattle.pp_plan.specs.Terms.{Terms}
use Rattle.pp_plan.specs.Spelling.{letter_of}
use Rattle.pp_plan.specs.Writing.{slot_name, region_name}

abbrev pub step_value : Configuration → (slots : List (List ℕ)) → Step → Data
step_value settings slots (fix k r) =
    object (member (codes "fix") (string (slot_name slots k))
    (member (codes "region") (string (region_name settings r)) no_members))
step_value settings slots (unfix k) = object (member (codes "unfix") (string (slot_name slots k)) no_members)
step_value settings slots (latch k m) =
    object (member (codes "latch") (string (slot_name slots k))
    (member (codes "mode") (string (letter_of m)) no_members))
step_value settings slots (unlatch k) = object (member (codes "unlatch") (string (slot_name slots k)) no_members)
step_value settings slots (gather k r) =
    object (member (codes "gather") (string (slot_name slots k))
    (member (codes "region") (string (region_name settings r)) no_members))
step_value settings slots (scatter k) = object (member (codes "scatter") (string (slot_name slots k)) no_members)

abbrev mutual
  pub statement_value : Configuration → (slots : List (List ℕ)) → Statement → Data
  statement_value settings slots (step s) = step_value settings slots s
  statement_value settings slots (loop n b) =
      object (member (codes "body") (array (items_of (statement_values settings slots b)))
      (member (codes "loop") (number (unsigned n)) no_members))
  statement_value settings slots (choice bs) =
      object (member (codes "choice") (array (items_of (branch_values settings slots bs))) no_members)

  -- One value for each statement, in order.
  pub statement_values : Configuration → (slots : List (List ℕ)) → Sequence → List Data
  statement_values settings slots skip = []
  statement_values settings slots (andthen s b) = statement_value settings slots s ∷ statement_values settings slots b

  -- One list for each branch, in order.
  pub branch_values : Configuration → (slots : List (List ℕ)) → Alternatives → List Data
  branch_values settings slots none = []
  branch_values settings slots (either b bs) =
      array (items_of (statement_values settings slots b)) ∷ branch_values settings slots bs

-- The members of the plan's object.
abbrev pub plan_members : Configuration → Terms → Members
plan_members settings t =
    member (codes "body") (array (items_of (statement_values settings t.slots t.body)))
    (member (codes "version") (number (unsigned t.version)) no_members)
