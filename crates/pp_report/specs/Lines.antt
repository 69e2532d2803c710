-- How a line of a journal is spelled, and which text is a journal's: `fix 0 16 = mustread 1`.
use Rattle.std.specs.Prelude.{◌≡◌, ◌⊎◌, ℕ, ◌<◌, ◌^◌, List, [], ◌∷◌, ◌++◌, codes}
use Rattle.std.specs.Fmt.{decimal}
use Rattle.std.specs.List.{AllByRecursion}
use Rattle.pp_model.specs.declared.moves.Came.{Came}
use Rattle.pp_model.specs.declared.moves.Came.TheVariants as came
use Rattle.pp_model.specs.declared.moves.Move.{Move}
use Rattle.pp_model.specs.declared.moves.Move.TheVariants as move
use Rattle.pp_model.specs.declared.reply.Reply.{Reply}
use Rattle.pp_model.specs.declared.reply.Reply.TheVariants as reply
use Rattle.pp_model.specs.declared.event.Event.{Event}
use Rattle.pp_model.specs.declared.event.Event.TheVariants as event
use Rattle.pp_model.specs.Words.{move_words, reply_words}
use Rattle.pp_report.specs.declared.line.Asked.{Asked}
use Rattle.pp_report.specs.declared.line.Asked.TheVariants.{Submit, Do}
use Rattle.pp_report.specs.declared.line.Told.{Told}
use Rattle.pp_report.specs.declared.line.Told.TheVariants.{Queued, Answer}
use Rattle.pp_report.specs.declared.line.Line.{Line}

-- ---- words

-- What was asked: to take in the plan of this number, or a move.
abbrev pub asked_words : Asked → List ℕ
asked_words (Submit plan) = codes "submit " ++ decimal plan
asked_words (Do m) = move_words m

-- What was told: that the plan waits, or the reply to the move.
abbrev pub told_words : Told → List ℕ
told_words Queued = codes "queued"
told_words (Answer r) = reply_words r

-- What was asked, an equals sign between spaces, and what was told.
abbrev pub line_words : Line → List ℕ
line_words l = asked_words l.asked ++ codes " = " ++ told_words l.told

-- ---- events and journals

-- The line of an event.
abbrev pub line_of : Event → Line
line_of (event.Submit plan) = record { asked = Submit plan; told = Queued }
line_of (event.Step m r) = record { asked = Do m; told = Answer r }

-- An event as a journal has it, ended by a line feed.
abbrev pub event_words : Event → List ℕ
event_words e = line_words (line_of e) ++ codes "\n"

-- The text of a journal: its events in their order.
abbrev pub journal_words : List Event → List ℕ
journal_words [] = []
journal_words (e ∷ es) = event_words e ++ journal_words es

-- ---- which numbers and words a line may have

-- Workers, pages, branches, slots, plans and frames have 32 bits in a line; stamps and marks have 64.
abbrev pub FitsCame : Came → Type 0
FitsCame came.Fault = Unit {0}
FitsCame (came.Image page stamp) = (page < 2 ^ 32) × (stamp < 2 ^ 64)

abbrev pub FitsMove : Move → Type 0
FitsMove (move.Take w) = w < 2 ^ 32
FitsMove (move.Fix w page) = (w < 2 ^ 32) × (page < 2 ^ 32)
FitsMove (move.WriteDone w ok) = w < 2 ^ 32
FitsMove (move.ReadDone w c) = (w < 2 ^ 32) × FitsCame c
FitsMove (move.Unfix w) = w < 2 ^ 32
FitsMove (move.Latch w) = w < 2 ^ 32
FitsMove (move.Unlatch w) = w < 2 ^ 32
FitsMove (move.Choose w branch) = (w < 2 ^ 32) × (branch < 2 ^ 32)
FitsMove (move.Unwind w slot) = (w < 2 ^ 32) × (slot < 2 ^ 32)
FitsMove (move.Finish w) = w < 2 ^ 32
FitsMove (move.FlushBegin page) = page < 2 ^ 32
FitsMove (move.FlushDone ok) = Unit {0}

abbrev pub FitsAsked : Asked → Type 0
FitsAsked (Submit plan) = plan < 2 ^ 32
FitsAsked (Do m) = FitsMove m

-- A journal tells no refusals.
abbrev pub FitsReply : Reply → Type 0
FitsReply (reply.Taken plan) = plan < 2 ^ 32
FitsReply (reply.Hit frame mark) = (frame < 2 ^ 32) × (mark < 2 ^ 64)
FitsReply (reply.MustRead frame) = frame < 2 ^ 32
FitsReply (reply.MustWrite frame victim) = (frame < 2 ^ 32) × (victim < 2 ^ 32)
FitsReply (reply.Failed failure) = Unit {0}
FitsReply (reply.Loaded mark) = mark < 2 ^ 64
FitsReply reply.Did = Unit {0}
FitsReply (reply.Latched mark) = mark < 2 ^ 64
FitsReply (reply.Unlatched mark) = mark < 2 ^ 64
FitsReply (reply.Finished ending) = Unit {0}
FitsReply (reply.Flushing mark) = mark < 2 ^ 64
FitsReply (reply.Flushed clean) = Unit {0}
FitsReply (reply.NotNow delay) = ⊥
FitsReply (reply.OffPlan cause) = ⊥

-- The numbers of a reply have as many bits, but a plan's, which has 64, whether or not it is a refusal, which has none.
abbrev pub HasNumbersOf : Reply → Type 0
HasNumbersOf (reply.Taken plan) = plan < 2 ^ 64
HasNumbersOf (reply.Hit frame mark) = (frame < 2 ^ 32) × (mark < 2 ^ 64)
HasNumbersOf (reply.MustRead frame) = frame < 2 ^ 32
HasNumbersOf (reply.MustWrite frame victim) = (frame < 2 ^ 32) × (victim < 2 ^ 32)
HasNumbersOf (reply.Failed failure) = Unit {0}
HasNumbersOf (reply.Loaded mark) = mark < 2 ^ 64
HasNumbersOf reply.Did = Unit {0}
HasNumbersOf (reply.Latched mark) = mark < 2 ^ 64
HasNumbersOf (reply.Unlatched mark) = mark < 2 ^ 64
HasNumbersOf (reply.Finished ending) = Unit {0}
HasNumbersOf (reply.Flushing mark) = mark < 2 ^ 64
HasNumbersOf (reply.Flushed clean) = Unit {0}
HasNumbersOf (reply.NotNow delay) = Unit {0}
HasNumbersOf (reply.OffPlan cause) = Unit {0}

-- So have those of an event.
abbrev pub HasNumbers : Event → Type 0
HasNumbers (event.Submit plan) = plan < 2 ^ 64
HasNumbers (event.Step m r) = FitsMove m × HasNumbersOf r

abbrev pub FitsTold : Told → Type 0
FitsTold Queued = Unit {0}
FitsTold (Answer r) = FitsReply r

abbrev pub FitsLine : Line → Type 0
FitsLine l = FitsAsked l.asked × FitsTold l.told

-- ---- what a text says

-- The text of one side of a line says this.
abbrev pub SaysAsked : List ℕ → Asked → Type 0
SaysAsked text a = FitsAsked a × (text ≡ asked_words a)

abbrev pub SaysTold : List ℕ → Told → Type 0
SaysTold text t = FitsTold t × (text ≡ told_words t)

-- The text of a line says this: something asked and something told that a journal can have, whether or not they go
-- together; it is their words, and nothing else.
abbrev pub Says : List ℕ → Line → Type 0
Says text l = FitsLine l × (text ≡ line_words l)

-- The text spells these events: each may stand in a journal, and the text is theirs, or it lacks the last line feed.
abbrev pub FitsEvent : Event → Type 0
FitsEvent e = FitsLine (line_of e)

pub record Spells (text : List ℕ) (es : List Event) : Type 0 where
  pub fits : AllByRecursion FitsEvent es
  pub text_is : (text ≡ journal_words es) ⊎ (text ++ codes "\n" ≡ journal_words es)
