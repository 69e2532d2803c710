-- The text of a plan: without white space, keys in byte order.
use Rattle.std.specs.Prelude.{ℕ, List, [], ◌∷◌, ◌++◌, codes, slice_get, unwrap_or}
use Rattle.std.specs.Fmt.{decimal}
use Rattle.pp_text.specs.Words.{in_quotes, in_brackets}
use Rattle.pp_settings.specs.Settings.{Configuration, name_of}
use Rattle.pp_plan.specs.Tree.{Step, fix, unfix, latch, unlatch, gather, scatter, Statement, step, loop, choice}
use Rattle.pp_plan.specs.Tree.{Sequence, skip, andthen}
use Rattle.pp_plan.specs.Tree.{Alternatives, none, either}
use Rattle.pp_plan.specs.Terms.{Terms}
use Rattle.pp_plan.specs.Spelling.{letter_of}

-- The name of the slot with this number.
abbrev pub slot_name : (slots : List (List ℕ)) → ℕ → List ℕ
slot_name slots k = unwrap_or (slice_get slots k) []

-- The name of the region with this number in the settings.
abbrev pub region_name : Configuration → ℕ → List ℕ
region_name settings r = unwrap_or (name_of settings r) []

-- A step, as in `{"fix":"a","region":"root"}`, `{"latch":"a","mode":"S"}` and `{"gather":"g","region":"leaf"}`.
abbrev pub step_text : Configuration → (slots : List (List ℕ)) → Step → List ℕ
step_text settings slots (fix k r) =
    codes "{\"fix\":" ++ in_quotes (slot_name slots k) ++ codes ",\"region\":" ++ in_quotes (region_name settings r)
    ++ codes "}"
step_text settings slots (unfix k) = codes "{\"unfix\":" ++ in_quotes (slot_name slots k) ++ codes "}"
step_text settings slots (latch k m) =
    codes "{\"latch\":" ++ in_quotes (slot_name slots k) ++ codes ",\"mode\":" ++ in_quotes (letter_of m) ++ codes "}"
step_text settings slots (unlatch k) = codes "{\"unlatch\":" ++ in_quotes (slot_name slots k) ++ codes "}"
step_text settings slots (gather k r) =
    codes "{\"gather\":" ++ in_quotes (slot_name slots k) ++ codes ",\"region\":" ++ in_quotes (region_name settings r)
    ++ codes "}"
step_text settings slots (scatter k) = codes "{\"scatter\":" ++ in_quotes (slot_name slots k) ++ codes "}"

abbrev mutual
  -- A statement; a loop as in `{"body":[{"unfix":"a"}],"loop":2}`, a choice as in `{"choice":[[],[{"unfix":"a"}]]}`.
  pub statement_text : Configuration → (slots : List (List ℕ)) → Statement → List ℕ
  statement_text settings slots (step s) = step_text settings slots s
  statement_text settings slots (loop n b) =
      codes "{\"body\":" ++ in_brackets (statement_texts settings slots b) ++ codes ",\"loop\":" ++ decimal n
      ++ codes "}"
  statement_text settings slots (choice bs) =
      codes "{\"choice\":" ++ in_brackets (branch_texts settings slots bs) ++ codes "}"

  -- The text of each statement of a body, in order.
  pub statement_texts : Configuration → (slots : List (List ℕ)) → Sequence → List (List ℕ)
  statement_texts settings slots skip = []
  statement_texts settings slots (andthen s b) = statement_text settings slots s ∷ statement_texts settings slots b

  -- The text of each branch, in order.
  pub branch_texts : Configuration → (slots : List (List ℕ)) → Alternatives → List (List ℕ)
  branch_texts settings slots none = []
  branch_texts settings slots (either b bs) =
      in_brackets (statement_texts settings slots b) ∷ branch_texts settings slots bs

-- A plan, as in `{"body":[{"unfix":"a"}],"version":1}`.
abbrev pub plan_text : Configuration → Terms → List ℕ
plan_text settings t =
    codes "{\"body\":"
    ++ in_brackets (statement_texts settings t.slots t.body)
    ++ codes ",\"version\":"
    ++ decimal t.version
    ++ codes "}"
