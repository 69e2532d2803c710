-- Which columns are drawn of a journal.
use Rattle.std.specs.Prelude.{◌≡◌, ℕ, ◌+◌, ◌%◌, ◌==◌, ◌||◌, Bool, true, false, List, [], ◌∷◌, Ok}
use Rattle.pp_model.specs.Pool.{State}
use Rattle.pp_report.specs.Auditing.{Progress, pass_text}
use Rattle.pp_draw.specs.declared.column.Column.{Column}
use Rattle.pp_draw.specs.declared.extent.Extent.{Extent}
use Rattle.pp_draw.specs.Columns.{Shows}

abbrev pub is_nil : {A : Type 0} → List A → Bool
is_nil [] = true
is_nil (x ∷ xs) = false

-- A column ends with the line of this number: it is full, or no line follows.
abbrev pub ends_column : (width number : ℕ) → (after : List (List ℕ)) → Bool
ends_column width number after = (number % width == 0) || is_nil after

-- Where a column ends it comes first, and shows the state and the number of its last line.
abbrev pub Begins : Extent → (ends : Bool) → (number : ℕ) → State → (columns rest : List Column) → Type 0
Begins e false number s columns rest = columns ≡ rest
Begins e true number s columns rest =
    (c : Column) × (columns ≡ c ∷ rest) × (c.line ≡ number) × Shows e.workers e.drawn.items c s

-- The columns of the lines that follow so many others, from how far an audit has come: each line is passed, and each column
-- shows the state that its last line leads to.
abbrev pub AreDrawn : Extent → Progress → (before : ℕ) → List (List ℕ) → List Column → Type 0
AreDrawn e p before [] columns = columns ≡ []
AreDrawn e p before (text ∷ texts) columns =
    (q : Progress) × (rest : List Column) × (pass_text p (before + 1) text ≡ Ok q)
    × Begins e (ends_column e.width (before + 1) texts) (before + 1) q.state columns rest
    × AreDrawn e q (before + 1) texts rest
