-- What the program prints.
use Rattle.std.specs.Prelude.{ℕ, List, [], ◌++◌, codes}
use Rattle.std.specs.Fmt.{decimal}
use Rattle.pp_shown.specs.Shown.{shown_path}
use Rattle.pp_text.specs.Refusals.{Row, refusal_text}
use Rattle.pp_settings.specs.Refusals.{settings_error_row, other_life_row}
use Rattle.pp_plan.specs.Refusals.{plan_error_row}
use Rattle.pp_cert.specs.CertErrors.{certificate_error_row}
use Rattle.pp_cert.specs.CheckErrors.{check_error_row}
use Rattle.pp_annotate.specs.Refusals.{annotate_error_row}
use Rattle.pp_script.specs.Refusals.{script_error_row}
use Rattle.pp_simulate.specs.Refusals.{simulate_error_row}
use Rattle.pp_report.specs.Refusals.{audit_error_row}
use Rattle.pp_segments.specs.Refusals.{segment_error_row}
use Rattle.pp_judge.specs.Answers.{Answer, done, made, simulated, formatted, ran, stopped, audited, audited_segments}
use Rattle.pp_judge.specs.Answers.{drawn, shown, kept, refused, misused, wordless, in_use, unread, unwritten, out_of_memory}
use Rattle.pp_judge.specs.declared.error.JudgeError.{JudgeError}
use Rattle.pp_judge.specs.declared.error.JudgeError.TheVariants.{Settings, Script, Plan, Certificate, Check, Annotate}
use Rattle.pp_judge.specs.declared.error.JudgeError.TheVariants.{Simulate, OtherLife, Audit, Segments}
use Rattle.pp_judge.specs.declared.exit.Figures.{Figures}

-- The number and the name of a refusal, and what it is about.
abbrev pub judge_error_row : JudgeError → Row
judge_error_row (Settings e) = settings_error_row e
judge_error_row OtherLife = other_life_row
judge_error_row (Script e) = script_error_row e
judge_error_row (Plan e) = plan_error_row e
judge_error_row (Certificate e) = certificate_error_row e
judge_error_row (Check e) = check_error_row e
judge_error_row (Annotate e) = annotate_error_row e
judge_error_row (Simulate e) = simulate_error_row e
judge_error_row (Audit e) = audit_error_row e
judge_error_row (Segments e) = segment_error_row e

-- `refused`, and these.
abbrev pub refusal_line : JudgeError → List ℕ
refusal_line r = codes "refused " ++ refusal_text (judge_error_row r)

-- The three figures of an accepted plan.
abbrev pub figures_line : Figures → List ℕ
figures_line f =
    codes "accepted peak " ++ decimal f.peak ++ codes " steps " ++ decimal f.steps ++ codes " cost " ++ decimal f.cost

-- A file as it is shown, and what is wrong with it.
abbrev pub fault_text : (path cause : List ℕ) → List ℕ
fault_text path cause = shown_path path ++ (codes ": " ++ cause)

-- What is told of an answer: a line of its own with a line feed behind it, or a text as it is.
abbrev pub text_of : Answer → List ℕ
text_of (done figures) = figures_line figures ++ codes "\n"
text_of (made text) = text ++ codes "\n"
text_of (simulated text) = text
text_of (formatted pages) = codes "formatted " ++ decimal pages ++ codes " pages\n"
text_of (ran report is_well) = report
text_of (stopped text) = text
text_of (audited lines) = codes "audited " ++ decimal lines ++ codes " lines\n"
text_of (audited_segments lines segments) =
    codes "audited " ++ decimal lines ++ codes " lines in " ++ decimal segments ++ codes " segments\n"
text_of (drawn text) = text
text_of (shown text) = text
text_of (refused refusal) = refusal_line refusal ++ codes "\n"
text_of (misused text) = text
text_of wordless = codes "error: the words can't be read\n"
text_of kept = []
text_of (in_use path) = shown_path path ++ codes " is in use\n"
text_of (unread path cause) = codes "fault reading " ++ (fault_text path cause ++ codes "\n")
text_of (unwritten path cause) = codes "fault writing " ++ (fault_text path cause ++ codes "\n")
text_of out_of_memory = codes "out of memory\n"
