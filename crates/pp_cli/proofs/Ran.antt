-- What `run` comes to.
use Rattle.std.proofs.Common.{◌≡◌, ℕ, Bool, true, false, List, length, Option, Result, Ok, Err}
use Rattle.std.proofs.Common.{refl, sym, subst, inl, inr, if◌then◌else◌}
use Rattle.pp_cert.specs.Accepted.{Acceptance}
use Rattle.pp_core.specs.Opening.{kept_of}
use Rattle.pp_settings.specs.Settings.{Configuration}
use Rattle.pp_text.specs.Steps.{Refuses}
use Rattle.pp_report.specs.declared.record.RunRecord.{RunRecord}
use Rattle.pp_run.specs.Runs.{IsRun}
use Rattle.pp_judge.specs.Answers.{Answer, seen, done, made, simulated, formatted, ran, stopped, audited, drawn, shown}
use Rattle.pp_judge.specs.Answers.{audited_segments}
use Rattle.pp_judge.specs.Answers.{kept, refused, misused, wordless, in_use, unread, unwritten, out_of_memory}
use Rattle.pp_judge.specs.Judgement.{workload_in}
use Rattle.pp_judge.specs.declared.error.JudgeError.{JudgeError}
use Rattle.pp_judge.specs.declared.exit.Exit.{Exit}
use Rattle.pp_judge.specs.declared.exit.Exit.TheVariants.{OutOfMemory, Refused}
use Rattle.pp_run_command.specs.Runs.{MayEnd, Tells}
use Rattle.pp_words.specs.CommandLine.{Asked, Text}
use Rattle.pp_cli.specs.Runs.{ComesOf, MayEndTraced, MayRunTraced}

-- ---- the record

-- What is told of the record of a run is what the run comes to.
pub told_end : (device : Text) (journal : Option Text) (w : Configuration × List Acceptance) (run : RunRecord)
    (answer : Answer)
    → IsRun (kept_of w.0) w.1 run → Tells run journal answer → MayEnd device journal w answer
told_end device journal w run (ran text is_well) is h =
    record { run = run; is_run = is; text_is = h.0; well = h.1 }
told_end device journal w run out_of_memory is h = h
told_end device journal w run (done figures) is h = absurd h
told_end device journal w run (made text) is h = absurd h
told_end device journal w run (simulated text) is h = absurd h
told_end device journal w run (formatted pages) is h = absurd h
told_end device journal w run (stopped text) is h = absurd h
told_end device journal w run (audited lines) is h = absurd h
told_end device journal w run (audited_segments lines segments) is h = absurd h
told_end device journal w run (drawn text) is h = absurd h
told_end device journal w run (shown text) is h = absurd h
told_end device journal w run kept is h = absurd h
told_end device journal w run (refused refusal) is h = absurd h
told_end device journal w run (misused text) is h = absurd h
told_end device journal w run wordless is h = absurd h
told_end device journal w run (in_use path) is h = absurd h
told_end device journal w run (unread path cause) is h = absurd h
told_end device journal w run (unwritten path cause) is h = absurd h

-- ---- the texts

-- Settings and plans that are read are run.
pub comes_of_run : (journal trace : Option Text) (settings device : Text) (seed : ℕ) (plans : List Text) (s : List ℕ)
    (ps : List (List ℕ)) (w : Configuration × List Acceptance) (answer : Answer)
    → length ps ≡ length plans → workload_in s ps ≡ Ok w
    → MayEndTraced (Asked.run journal trace settings device seed plans) w answer
    → ComesOf (Asked.run journal trace settings device seed plans) answer
comes_of_run journal trace settings device seed plans s ps w answer long is may =
    let P : Result (Configuration × List Acceptance) JudgeError → Type 0 =
    λ r. MayRunTraced (Asked.run journal trace settings device seed plans) r answer in
    inr (inr (s, ps, long, subst P (sym is) may))

-- Settings or plans that are refused are told so.
pub refused_run : (b : Bool) (journal trace : Option Text) (settings device : Text) (seed : ℕ) (plans : List Text)
    (s : List ℕ) (ps : List (List ℕ)) (refusal : JudgeError) (exit : Exit)
    → length ps ≡ length plans → exit ≡ (if b then OutOfMemory else Refused refusal)
    → Refuses b refusal (workload_in s ps)
    → ComesOf (Asked.run journal trace settings device seed plans) (seen exit)
refused_run true journal trace settings device seed plans s ps refusal exit long is told =
    let P : Exit → Type 0 = λ o. ComesOf (Asked.run journal trace settings device seed plans) (seen o) in
    subst P (sym is) (inl tt)
refused_run false journal trace settings device seed plans s ps refusal exit long is told =
    let P : Exit → Type 0 = λ o. ComesOf (Asked.run journal trace settings device seed plans) (seen o) in
    let Q : Result (Configuration × List Acceptance) JudgeError → Type 0 =
    λ r. MayRunTraced (Asked.run journal trace settings device seed plans) r (refused refusal) in
    subst P (sym is) (inr (inr (s, ps, long, subst Q (sym told) refl)))
