-- Files that can't be read or written, and words that are refused for what they name.
use Rattle.std.specs.Prelude.{◌≡◌, ◌⊎◌, List, ⊤}
use Rattle.pp_judge.specs.Answers.{Answer, in_use, kept, misused, unread, unwritten, out_of_memory}
use Rattle.pp_words.specs.CommandLine.{Text}

-- the file at the path can't be read, or memory ran out
abbrev pub IsUnreadAt : (path : Text) → Answer → Type 0
IsUnreadAt path (unread other cause) = other ≡ path
IsUnreadAt path out_of_memory = ⊤
IsUnreadAt path _ = ⊥

-- the file at the path can't be written, or memory ran out
abbrev pub IsUnwrittenAt : (path : Text) → Answer → Type 0
IsUnwrittenAt path (unwritten other cause) = other ≡ path
IsUnwrittenAt path out_of_memory = ⊤
IsUnwrittenAt path _ = ⊥

-- the device at the path can't be written, or is in use; or memory ran out
abbrev pub IsUnmade : (path : Text) → Answer → Type 0
IsUnmade path answer = IsUnwrittenAt path answer ⊎ (answer ≡ in_use path)

-- the device at the path can't be read, can't be written, or is in use; or memory ran out
abbrev pub IsUnheld : (path : Text) → Answer → Type 0
IsUnheld path answer = IsUnreadAt path answer ⊎ IsUnmade path answer

-- a text is written to the file at the path, or it can't be, or memory ran out
abbrev pub IsKeptAt : (path : Text) → Answer → Type 0
IsKeptAt path answer = (answer ≡ kept) ⊎ IsUnwrittenAt path answer

-- the command line is bad, and this line says why; or memory ran out
abbrev pub IsMisusedBy : (line : Text) → Answer → Type 0
IsMisusedBy line (misused text) = text ≡ line
IsMisusedBy line out_of_memory = ⊤
IsMisusedBy line _ = ⊥
