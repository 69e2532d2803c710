-- The file that a run's journal is written to.
use Rattle.std.specs.Prelude.{◌⊎◌, Bool, true, false, ◌||◌, List, ℕ, [], ◌∷◌, ◌++◌, codes, is_some}
use Rattle.std.specs.Str.{bytes_eq}
use Rattle.pp_report.specs.AuditingLives.{renewal_line}
use Rattle.pp_report.specs.Journals.{journal_lines}
use Rattle.pp_report.specs.Reading.{line_in}
use Rattle.pp_shown.specs.Shown.{shown_path}
use Rattle.pp_judge.specs.Answers.{Answer}
use Rattle.pp_words.specs.CommandLine.{Text}
use Rattle.pp_cli.specs.Faults.{IsMisusedBy, IsUnwrittenAt}

-- the first of some lines is one of a journal, or the one between two lives
abbrev pub is_first_of_journal : List (List ℕ) → Bool
is_first_of_journal [] = false
is_first_of_journal (line ∷ lines) = bytes_eq line renewal_line || is_some (line_in line)

-- the text begins with a line of a journal
abbrev pub begins_as_journal : List ℕ → Bool
begins_as_journal text = is_first_of_journal (journal_lines text)

-- a file with this front may be written over: it is empty, or begins with a line of a journal
abbrev pub may_replace : List ℕ → Bool
may_replace [] = true
may_replace (byte ∷ rest) = begins_as_journal (byte ∷ rest)

-- the complaint that a file which is to have the journal has something else
abbrev pub no_journal_line : (path : Text) → Text
no_journal_line path =
    codes "error: " ++ (shown_path path ++ codes " has something other than a journal in it, and stays as it is\n")

-- the file isn't opened for a journal: it can't be written, it has something else in it, or memory ran out
abbrev pub IsUnopened : (path : Text) → Answer → Type 0
IsUnopened path answer = IsUnwrittenAt path answer ⊎ IsMisusedBy (no_journal_line path) answer
