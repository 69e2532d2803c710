-- What `format` comes to where the settings are refused.
use Rattle.std.proofs.Common.{◌≡◌, ℕ, Bool, true, false, List, Result, refl, sym, subst, inl, inr, if◌then◌else◌}
use Rattle.pp_text.specs.Steps.{Refuses}
use Rattle.pp_judge.specs.declared.device.DeviceSize.{DeviceSize}
use Rattle.pp_judge.specs.declared.error.JudgeError.{JudgeError}
use Rattle.pp_judge.specs.declared.exit.Exit.{Exit}
use Rattle.pp_judge.specs.declared.exit.Exit.TheVariants.{OutOfMemory, Refused}
use Rattle.pp_judge.specs.Answers.{Answer, formatted, refused, seen}
use Rattle.pp_judge.specs.Judgement.{device_size_in}
use Rattle.pp_words.specs.CommandLine.{Asked, Text}
use Rattle.pp_cli.specs.Faults.{IsUnwrittenAt}
use Rattle.pp_cli.specs.Runs.{ComesOf, ComesOfFormat}

-- A refusal that is no want of memory is that of the settings.
pub refused_format : (b : Bool) (settings device : Text) (bytes : List ℕ) (refusal : JudgeError) (exit : Exit)
    → exit ≡ (if b then OutOfMemory else Refused refusal) → Refuses b refusal (device_size_in bytes)
    → ComesOf (Asked.format settings device) (seen exit)
refused_format true settings device bytes refusal exit is told =
    let P : Exit → Type 0 = λ o. ComesOf (Asked.format settings device) (seen o) in
    subst P (sym is) (inl tt)
refused_format false settings device bytes refusal exit is told =
    let P : Exit → Type 0 = λ o. ComesOf (Asked.format settings device) (seen o) in
    let Q : Result DeviceSize JudgeError → Type 0 = λ r. ComesOfFormat device r (refused refusal) in
    subst P (sym is) (inr (bytes, subst Q (sym told) refl))

-- A file that can't be written isn't told as written.
pub unwritten_not_formatted : (path : Text) (pages : ℕ) (answer : Answer) → IsUnwrittenAt path answer
    → answer ≡ formatted pages → ⊥
unwritten_not_formatted path pages answer h is = subst (IsUnwrittenAt path) is h
