-- Reading a line of a journal, in steps.
use Rattle.std.specs.Prelude.{ℕ, Bool, true, false, ◌&&◌, ◌==◌, List, [], ◌∷◌, Option, Some, None, if◌then◌else◌}
use Rattle.std.specs.Prelude.{option_map, option_and_then, codes}
use Rattle.std.specs.Option.{option_or}
use Rattle.std.specs.Str.{bytes_eq}
use Rattle.pp_text.specs.Parts.{ahead, behind}
use Rattle.pp_text.specs.Numbers.{number_in, small_number}
use Rattle.pp_model.specs.declared.moves.Came.{Came}
use Rattle.pp_model.specs.declared.moves.Came.TheVariants.{Fault, Image}
use Rattle.pp_model.specs.declared.moves.Move.TheVariants.{Take, Fix, WriteDone, ReadDone, Unfix, Latch, Unlatch}
use Rattle.pp_model.specs.declared.moves.Move.TheVariants.{Choose, Unwind, Finish, FlushBegin, FlushDone}
use Rattle.pp_model.specs.declared.reply.Failure.{Failure}
use Rattle.pp_model.specs.declared.reply.Failure.TheVariants.{WriteFault, ReadFault, Misread}
use Rattle.pp_model.specs.declared.reply.Ending.TheVariants.{Done, Gone}
use Rattle.pp_model.specs.declared.reply.Reply.TheVariants.{Taken, Hit, MustRead, MustWrite, Failed, Loaded, Did}
use Rattle.pp_model.specs.declared.reply.Reply.TheVariants.{Latched, Unlatched, Finished, Flushing, Flushed}
use Rattle.pp_report.specs.declared.line.Asked.{Asked}
use Rattle.pp_report.specs.declared.line.Asked.TheVariants.{Submit, Do}
use Rattle.pp_report.specs.declared.line.Told.{Told}
use Rattle.pp_report.specs.declared.line.Told.TheVariants.{Queued, Answer}
use Rattle.pp_report.specs.declared.line.Line.{Line}

-- ---- the two sides of an equals sign

-- What follows, where the text begins with an equals sign between spaces.
abbrev pub past_equals : List ℕ → Option (List ℕ)
past_equals (a ∷ b ∷ d ∷ rest) = if a == 32 && b == 61 && d == 32 then Some rest else None
past_equals _ = None

-- What stands before the first equals sign between spaces, and what follows it.
abbrev pub sides : List ℕ → Option (List ℕ × List ℕ)
sides [] = None
sides (b ∷ bs) =
    option_or (option_map (λ rest. ([], rest)) (past_equals (b ∷ bs))) (option_map (λ p. (b ∷ p.0, p.1)) (sides bs))

-- ---- parts of a side

-- The number before the first space, and what stands behind that space.
abbrev pub leading : List ℕ → Option (ℕ × List ℕ)
leading text = option_and_then (λ n. option_map (λ rest. (n, rest)) (behind 32 text)) (small_number (ahead 32 text))

-- How a writing went.
abbrev pub written_in : List ℕ → Option Bool
written_in word =
    if bytes_eq word (codes "ok") then Some true else (if bytes_eq word (codes "bad") then Some false else None)

-- What a device gave where it was asked to read.
abbrev pub came_in : List ℕ → Option Came
came_in text =
    if bytes_eq text (codes "fault") then Some Fault
    else option_and_then (λ p. option_map (λ stamp. Image p.0 stamp) (number_in p.1)) (leading text)

-- Why a fix failed.
abbrev pub failure_in : List ℕ → Option Failure
failure_in word =
    if bytes_eq word (codes "write") then Some WriteFault
    else (if bytes_eq word (codes "read") then Some ReadFault
    else (if bytes_eq word (codes "misread") then Some Misread else None))

-- ---- what was asked

-- What a word asks with a worker, and this text behind it.
abbrev pub asked_of : List ℕ → ℕ → List ℕ → Option Asked
asked_of word w text =
    if bytes_eq word (codes "fix") then option_map (λ page. Do (Fix w page)) (small_number text)
    else (if bytes_eq word (codes "choose") then option_map (λ branch. Do (Choose w branch)) (small_number text)
    else (if bytes_eq word (codes "unwind") then option_map (λ slot. Do (Unwind w slot)) (small_number text)
    else (if bytes_eq word (codes "wrote") then option_map (λ ok. Do (WriteDone w ok)) (written_in text)
    else (if bytes_eq word (codes "came") then option_map (λ came. Do (ReadDone w came)) (came_in text) else None))))

-- What a word asks with this text behind it.
abbrev pub asked_after : List ℕ → List ℕ → Option Asked
asked_after word text =
    if bytes_eq word (codes "submit") then option_map (λ n. Submit n) (small_number text)
    else (if bytes_eq word (codes "take") then option_map (λ w. Do (Take w)) (small_number text)
    else (if bytes_eq word (codes "unfix") then option_map (λ w. Do (Unfix w)) (small_number text)
    else (if bytes_eq word (codes "latch") then option_map (λ w. Do (Latch w)) (small_number text)
    else (if bytes_eq word (codes "unlatch") then option_map (λ w. Do (Unlatch w)) (small_number text)
    else (if bytes_eq word (codes "finish") then option_map (λ w. Do (Finish w)) (small_number text)
    else (if bytes_eq word (codes "flush") then option_map (λ page. Do (FlushBegin page)) (small_number text)
    else (if bytes_eq word (codes "flushed") then option_map (λ ok. Do (FlushDone ok)) (written_in text)
    else option_and_then (λ p. asked_of word p.0 p.1) (leading text))))))))

-- What the text asks.
abbrev pub asked_in : List ℕ → Option Asked
asked_in text = option_and_then (λ rest. asked_after (ahead 32 text) rest) (behind 32 text)

-- ---- what was told

-- What a word tells by itself.
abbrev pub told_alone : List ℕ → Option Told
told_alone word =
    if bytes_eq word (codes "queued") then Some Queued
    else (if bytes_eq word (codes "did") then Some (Answer Did)
    else (if bytes_eq word (codes "done") then Some (Answer (Finished Done))
    else (if bytes_eq word (codes "gone") then Some (Answer (Finished Gone))
    else (if bytes_eq word (codes "clean") then Some (Answer (Flushed true))
    else (if bytes_eq word (codes "dirty") then Some (Answer (Flushed false)) else None)))))

-- What a word tells with a frame, and this text behind it.
abbrev pub told_of : List ℕ → ℕ → List ℕ → Option Told
told_of word frame text =
    if bytes_eq word (codes "hit") then option_map (λ mark. Answer (Hit frame mark)) (number_in text)
    else (if bytes_eq word (codes "mustwrite")
    then option_map (λ victim. Answer (MustWrite frame victim)) (small_number text) else None)

-- What a word tells with this text behind it.
abbrev pub told_after : List ℕ → List ℕ → Option Told
told_after word text =
    if bytes_eq word (codes "taken") then option_map (λ plan. Answer (Taken plan)) (small_number text)
    else (if bytes_eq word (codes "mustread") then option_map (λ frame. Answer (MustRead frame)) (small_number text)
    else (if bytes_eq word (codes "failed") then option_map (λ failure. Answer (Failed failure)) (failure_in text)
    else (if bytes_eq word (codes "loaded") then option_map (λ mark. Answer (Loaded mark)) (number_in text)
    else (if bytes_eq word (codes "latched") then option_map (λ mark. Answer (Latched mark)) (number_in text)
    else (if bytes_eq word (codes "unlatched") then option_map (λ mark. Answer (Unlatched mark)) (number_in text)
    else (if bytes_eq word (codes "flushing") then option_map (λ mark. Answer (Flushing mark)) (number_in text)
    else option_and_then (λ p. told_of word p.0 p.1) (leading text)))))))

-- What a word tells, alone or with a text behind it.
abbrev pub told_by : List ℕ → Option (List ℕ) → Option Told
told_by word None = told_alone word
told_by word (Some rest) = told_after word rest

-- What the text tells.
abbrev pub told_in : List ℕ → Option Told
told_in text = told_by (ahead 32 text) (behind 32 text)

-- ---- a line

abbrev pub line_from : List ℕ → List ℕ → Option Line
line_from asked told =
    option_and_then (λ a. option_map (λ t. record { asked = a; told = t }) (told_in told)) (asked_in asked)

-- What the line says, if it is one of a journal.
abbrev pub line_in : List ℕ → Option Line
line_in text = option_and_then (λ p. line_from p.0 p.1) (sides text)
