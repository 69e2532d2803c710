-- Two words of one command that name one file, of which one is written.
use Rattle.std.specs.Prelude.{◌≡◌, ◌≢◌, ◌⊎◌, List, [], ◌∷◌, ◌++◌, Option, None, Some, Bool, true, false, codes, if◌then◌else◌, is_some, ⊤}
use Rattle.std.specs.Str.{bytes_eq}
use Rattle.pp_shown.specs.Shown.{shown_path}
use Rattle.pp_judge.specs.Answers.{Answer}
use Rattle.pp_words.specs.CommandLine.{Asked, Text}
use Rattle.pp_cli.specs.Faults.{IsMisusedBy}

-- the word is none of the others
abbrev pub IsApart : (word : Text) → (others : List Text) → Type 0
IsApart word [] = ⊤
IsApart word (other ∷ others) = (other ≢ word) × IsApart word others

-- the same of a word that may be missing
abbrev pub IsApartAt : (word : Option Text) → (others : List Text) → Type 0
IsApartAt None others = ⊤
IsApartAt (Some word) others = IsApart word others

-- and of these, of the trace of a run, and of its plans
abbrev pub IsApartInRun : (word : Option Text) → (others : List Text) → (trace : Option Text) → (plans : List Text)
    → Type 0
IsApartInRun word others None plans = IsApartAt word others × IsApartAt word plans
IsApartInRun word others (Some trace) plans =
    IsApartAt word others × IsApartAt word (trace ∷ []) × IsApartAt word plans

-- the words for the files that a command writes are none of its other words, and none of them is `-`
abbrev pub AreApart : Asked → Type 0
AreApart (Asked.annotate output settings plan) = IsApartAt output (codes "-" ∷ settings ∷ plan ∷ [])
AreApart (Asked.format settings device) = IsApart device (codes "-" ∷ settings ∷ [])
AreApart (Asked.run journal trace settings device seed plans) = IsApartInRun (Some device) (codes "-" ∷ settings ∷ []) trace plans
    × IsApartInRun journal (codes "-" ∷ settings ∷ device ∷ []) trace plans
AreApart (Asked.draw output settings journal plans) =
    IsApartAt output (codes "-" ∷ settings ∷ journal ∷ []) × IsApartAt output plans
AreApart _ = ⊤

-- the command writes the file that this word names
abbrev pub IsWrittenBy : Asked → (word : Text) → Type 0
IsWrittenBy (Asked.annotate output settings plan) word = output ≡ Some word
IsWrittenBy (Asked.format settings device) word = device ≡ word
IsWrittenBy (Asked.run journal trace settings device seed plans) word = (device ≡ word) ⊎ (journal ≡ Some word)
IsWrittenBy (Asked.draw output settings journal plans) word = output ≡ Some word
IsWrittenBy _ word = ⊥

-- whether the command writes a file
abbrev pub writes_a_file : Asked → Bool
writes_a_file (Asked.annotate output settings plan) = is_some output
writes_a_file (Asked.format settings device) = true
writes_a_file (Asked.run journal trace settings device seed plans) = true
writes_a_file (Asked.draw output settings journal plans) = is_some output
writes_a_file _ = false

-- the complaint that these two words name one file, or that `-` is to be written
abbrev pub clash_line : (written other : Text) → Text
clash_line written other =
    if bytes_eq written (codes "-") then codes "error: - is no file that this command can write\n"
    else codes "error: " ++ (shown_path written ++ (codes " and " ++ (shown_path other
    ++ codes " name one file, and this command would write it\n")))

-- what a command comes to of which two words name one file
abbrev pub IsClash : Asked → Answer → Type 0
IsClash command answer =
    (written other : Text) × IsWrittenBy command written × IsMisusedBy (clash_line written other) answer
