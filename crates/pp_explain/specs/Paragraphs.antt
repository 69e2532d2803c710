-- The form of an explanation.
use Rattle.std.specs.Prelude.{◌≡◌, ◌-◌, ◌==◌, ◌++◌, ◌∷◌, [], ℕ, List, Option, None, Some, false, map, codes, if◌then◌else◌}
use Rattle.std.specs.List.{Contains}
use Rattle.pp_shown.specs.Shown.{shown_lines, shown_path}
use Rattle.pp_explain.specs.declared.source.Source.{Source}
use Rattle.pp_explain.specs.declared.explaining.Sources.{Sources}

-- the bytes, with a space for each line feed behind so many
abbrev pub few_lines : (feeds : ℕ) → List ℕ → List ℕ
few_lines feeds [] = []
few_lines feeds (byte ∷ rest) =
    if byte == 10 then (if feeds == 0 then 32 ∷ few_lines 0 rest else 10 ∷ few_lines (feeds - 1) rest)
    else byte ∷ few_lines feeds rest

-- a paragraph about the file at this path: the path as it is shown, some text as its lines are shown, at most five of them, and
-- a line feed at its end
pub record IsParagraph (path bytes : List ℕ) : Type 0 where
  pub said : List ℕ
  pub is : bytes ≡ shown_path path ++ few_lines 4 (shown_lines said) ++ codes "\n"

-- a paragraph about one of the files at these paths
pub record IsAbout (paths : List (List ℕ)) (bytes : List ℕ) : Type 0 where
  pub path : List ℕ
  pub given : Contains paths path
  pub paragraph : IsParagraph path bytes

-- the paths of some files
abbrev pub paths_in : List Source → List (List ℕ)
paths_in files = map (λ file. file.path.now) files

-- that of a file which may be there
abbrev pub path_in : Option Source → List (List ℕ)
path_in None = []
path_in (Some file) = file.path.now ∷ []

-- the paths of a command's files
abbrev pub paths_of : Sources → List (List ℕ)
paths_of files = (files.settings.path.now ∷ path_in files.other) ++ paths_in files.plans.now
