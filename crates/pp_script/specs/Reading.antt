-- Reading a script, in steps.
use Rattle.std.specs.Prelude.{ℕ, ◌+◌, ◌^◌, ◌&&◌, nat_lt, List, [], ◌∷◌, ◌++◌, Option, Some, None, Result, Ok}
use Rattle.std.specs.Prelude.{if◌then◌else◌, option_and_then, codes}
use Rattle.std.specs.Option.{ok_or}
use Rattle.std.specs.Str.{bytes_eq}
use Rattle.pp_device.specs.declared.failing.Trouble.TheVariants.{Fail, Lie}
use Rattle.pp_text.specs.Steps.{◌>>=◌}
use Rattle.pp_text.specs.Numbers.{number_in, small_number}
use Rattle.pp_script.specs.declared.cue.Cue.TheVariants.{Take, Fix, Device, Unfix, Latch, Unlatch, Choose, Unwind}
use Rattle.pp_script.specs.declared.cue.Cue.TheVariants.{Finish, Flush, FlushDevice, Write, Look}
use Rattle.pp_script.specs.declared.line.Line.{Line}
use Rattle.pp_script.specs.declared.line.Line.TheVariants.{Blank, Cued, Planted}
use Rattle.pp_script.specs.declared.error.ScriptError.{ScriptError}
use Rattle.pp_script.specs.declared.error.ScriptError.TheVariants.{NotACue}
use Rattle.pp_script.specs.Lines.{lines, words}
use Rattle.pp_script.specs.Scripts.{Scenario}

-- ---- lines

-- What a word says by itself.
abbrev pub alone : List ℕ → Option Line
alone word =
    if bytes_eq word [] then Some Blank
    else (if bytes_eq word (codes "flushdevice") then Some (Cued FlushDevice) else None)

-- What a word says with one number after it.
abbrev pub with_one : List ℕ → ℕ → Option Line
with_one word n =
    if bytes_eq word (codes "take") then Some (Cued (Take n))
    else (if bytes_eq word (codes "device") then Some (Cued (Device n))
    else (if bytes_eq word (codes "unfix") then Some (Cued (Unfix n))
    else (if bytes_eq word (codes "latch") then Some (Cued (Latch n))
    else (if bytes_eq word (codes "unlatch") then Some (Cued (Unlatch n))
    else (if bytes_eq word (codes "finish") then Some (Cued (Finish n))
    else (if bytes_eq word (codes "flush") then Some (Cued (Flush n))
    else (if bytes_eq word (codes "fail") && nat_lt 0 n then Some (Planted n Fail) else None)))))))

-- What a word says with two numbers after it.
abbrev pub with_two : List ℕ → ℕ → ℕ → Option Line
with_two word m n =
    if bytes_eq word (codes "fix") then Some (Cued (Fix m n))
    else (if bytes_eq word (codes "choose") then Some (Cued (Choose m n))
    else (if bytes_eq word (codes "unwind") then Some (Cued (Unwind m n))
    else (if bytes_eq word (codes "look") then Some (Cued (Look m n)) else None)))

-- What a word says with three numbers after it.
abbrev pub with_three : List ℕ → ℕ → ℕ → ℕ → Option Line
with_three word l m n =
    if bytes_eq word (codes "write") then (if nat_lt n (2 ^ 8) then Some (Cued (Write l m n)) else None)
    else (if bytes_eq word (codes "lie") && nat_lt 0 l then Some (Planted l (Lie m n)) else None)

-- What a word says with two numbers and these words after it.
abbrev pub after_two : List ℕ → ℕ → ℕ → List (List ℕ) → Option Line
after_two word l m [] = None
after_two word l m (third ∷ []) = option_and_then (with_three word l m) (number_in third)
after_two word l m (third ∷ more ∷ rest) = None

-- What a word says with one number and these words after it.
abbrev pub after_one : List ℕ → ℕ → List (List ℕ) → Option Line
after_one word l [] = None
after_one word l (second ∷ []) = option_and_then (with_two word l) (small_number second)
after_one word l (second ∷ third ∷ rest) =
    option_and_then (λ m. after_two word l m (third ∷ rest)) (small_number second)

-- What a word says with these words after it.
abbrev pub after_word : List ℕ → List (List ℕ) → Option Line
after_word word [] = None
after_word word (first ∷ []) = option_and_then (with_one word) (small_number first)
after_word word (first ∷ second ∷ rest) =
    option_and_then (λ l. after_one word l (second ∷ rest)) (small_number first)

-- What the words of a line say.
abbrev pub line_in : List (List ℕ) → Option Line
line_in [] = None
line_in (word ∷ []) = alone word
line_in (word ∷ first ∷ rest) = after_word word (first ∷ rest)

-- ---- scripts

-- The script with what one more line says.
abbrev pub after_line : Scenario → Line → Scenario
after_line s Blank = s
after_line s (Cued cue) = record s { cues = s.cues ++ cue ∷ [] }
after_line s (Planted n trouble) = record s { troubles = s.troubles ++ (n, trouble) ∷ [] }

-- The script with what the lines say, after so many lines; or the first of them that is wrong.
abbrev pub reading_from : Scenario → (before : ℕ) → List (List ℕ) → Result Scenario ScriptError
reading_from s before [] = Ok s
reading_from s before (text ∷ texts) =
    ok_or (line_in (words text)) (NotACue (before + 1)) >>= λ line. reading_from (after_line s line) (before + 1) texts

-- The script that the text spells, or its first line that is wrong.
abbrev pub reading : List ℕ → Result Scenario ScriptError
reading text = reading_from (record { cues = []; troubles = [] }) 0 (lines text)
