-- The choices that the workers of a run are to make.
use Rattle.std.specs.Prelude.{ℕ, ◌++◌, codes}
use Rattle.std.specs.Fmt.{decimal}
use Rattle.pp_shown.specs.Shown.{shown_path}
use Rattle.pp_judge.specs.Answers.{Answer}
use Rattle.pp_words.specs.CommandLine.{Text}
use Rattle.pp_cli.specs.Faults.{IsMisusedBy}

-- the complaint of a line of the text
abbrev pub trace_line : (path : Text) → (line workers : ℕ) → Text
trace_line path line workers = codes "error: " ++ (shown_path path ++ (codes ": line " ++ (decimal line
    ++ (codes " isn't WORKER NUMBER, with a worker below " ++ (decimal workers
    ++ codes " and a number below 4294967296\n")))))

-- the text at the path isn't one of choices, or memory ran out
abbrev pub IsMistraced : (path : Text) → Answer → Type 0
IsMistraced path answer = (line workers : ℕ) × IsMisusedBy (trace_line path line workers) answer
