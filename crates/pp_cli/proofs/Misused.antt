-- Only a command that writes a file is a bad command line.
use Rattle.std.proofs.Common.{◌≡◌, ◌⊎◌, ◌∙◌, ℕ, Bool, true, false, List, [], ◌∷◌, Option, Some, None, Result, Ok, Err, IfSome, is_some}
use Rattle.std.proofs.Common.{codes, refl, sym, ap, inl, inr, arith}
use Rattle.pp_judge.specs.Answers.{Answer, seen, done, made, simulated, formatted, ran, stopped, audited, drawn, shown}
use Rattle.pp_judge.specs.Answers.{audited_segments}
use Rattle.pp_judge.specs.Answers.{kept, refused, misused, wordless, in_use, unread, unwritten, out_of_memory}
use Rattle.pp_judge.specs.Answers.{IsDrawingAnswer, IsSimulationAnswer, answer_of_annotate, answer_of_audit}
use Rattle.pp_judge.specs.Answers.{answer_of_check, answer_of_segments, audit_answer_of, status_of}
use Rattle.pp_judge.specs.Judgement.{Stage, audited_in, certification, judgement, lives_audited_in, staged_in}
use Rattle.pp_judge.specs.Judgement.{segments_audited_in}
use Rattle.pp_judge.specs.declared.error.JudgeError.{JudgeError}
use Rattle.pp_cert.specs.Accepted.{Acceptance}
use Rattle.pp_words.specs.CommandLine.{Asked, Text}
use Rattle.pp_cli.specs.Clashes.{IsClash, IsWrittenBy, writes_a_file}
use Rattle.pp_cli.specs.Faults.{IsUnwrittenAt}
use Rattle.pp_cli.specs.Runs.{ComesOf, ComesOfAsked, IsStopped}

-- ---- other answers have other statuses

fault_else : (told : Answer) → IsUnwrittenAt (codes "-") told → status_of told ≡ 2 → ⊥
fault_else (done figures) h e = absurd h
fault_else (made text) h e = absurd h
fault_else (simulated text) h e = absurd h
fault_else (formatted pages) h e = absurd h
fault_else (ran report is_well) h e = absurd h
fault_else (stopped text) h e = absurd h
fault_else (audited lines) h e = absurd h
fault_else (audited_segments lines segments) h e = absurd h
fault_else (drawn text) h e = absurd h
fault_else (shown text) h e = absurd h
fault_else kept h e = absurd h
fault_else (refused refusal) h e = absurd h
fault_else (misused text) h e = absurd h
fault_else wordless h e = absurd h
fault_else (in_use path) h e = absurd h
fault_else (unread path cause) h e = absurd h
fault_else (unwritten path cause) h e = omega (arith, e)
fault_else out_of_memory h e = omega (arith, e)

stopped_else : (paths : List Text) (answer : Answer) → IsStopped paths answer → status_of answer ≡ 2 → ⊥
stopped_else paths (done figures) h e = absurd h
stopped_else paths (made text) h e = absurd h
stopped_else paths (simulated text) h e = absurd h
stopped_else paths (formatted pages) h e = absurd h
stopped_else paths (ran report is_well) h e = absurd h
stopped_else paths (stopped text) h e = absurd h
stopped_else paths (audited lines) h e = absurd h
stopped_else paths (audited_segments lines segments) h e = absurd h
stopped_else paths (drawn text) h e = absurd h
stopped_else paths (shown text) h e = absurd h
stopped_else paths kept h e = absurd h
stopped_else paths (refused refusal) h e = absurd h
stopped_else paths (misused text) h e = absurd h
stopped_else paths wordless h e = absurd h
stopped_else paths (in_use path) h e = absurd h
stopped_else paths (unread path cause) h e = omega (arith, e)
stopped_else paths (unwritten path cause) h e = absurd h
stopped_else paths out_of_memory h e = omega (arith, e)

checked_else : (verdict : Result Acceptance JudgeError) (answer : Answer) → answer ≡ answer_of_check verdict
    → status_of answer ≡ 2 → ⊥
checked_else (Ok accepted) answer is e = omega (arith, ap status_of is, e)
checked_else (Err refusal) answer is e = omega (arith, ap status_of is, e)

annotated_else : (verdict : Result (List ℕ) JudgeError) (answer : Answer) → answer ≡ answer_of_annotate verdict
    → status_of answer ≡ 2 → ⊥
annotated_else (Ok text) answer is e = omega (arith, ap status_of is, e)
annotated_else (Err refusal) answer is e = omega (arith, ap status_of is, e)

audited_else : (verdict : Result ℕ JudgeError) (answer : Answer) → answer ≡ answer_of_audit verdict
    → status_of answer ≡ 2 → ⊥
audited_else (Ok lines) answer is e = omega (arith, ap status_of is, e)
audited_else (Err refusal) answer is e = omega (arith, ap status_of is, e)

lives_else : (lives : Bool) (settings journal : List ℕ) (plans : List (List ℕ)) (answer : Answer)
    → answer ≡ audit_answer_of lives settings journal plans → status_of answer ≡ 2 → ⊥
lives_else false settings journal plans answer is e = audited_else (audited_in settings journal plans) answer is e
lives_else true settings journal plans answer is e = audited_else (lives_audited_in settings journal plans) answer is e

segments_else : (verdict : Result (ℕ × ℕ) JudgeError) (answer : Answer) → answer ≡ answer_of_segments verdict
    → status_of answer ≡ 2 → ⊥
segments_else (Ok counts) answer is e = omega (arith, ap status_of is, e)
segments_else (Err refusal) answer is e = omega (arith, ap status_of is, e)

simulated_of : (stage : Stage) (answer : Answer) → IsSimulationAnswer (Ok stage) answer → status_of answer ≡ 2 → ⊥
simulated_of stage (done figures) h e = absurd h
simulated_of stage (made text) h e = absurd h
simulated_of stage (simulated text) h e = omega (arith, e)
simulated_of stage (formatted pages) h e = absurd h
simulated_of stage (ran report is_well) h e = absurd h
simulated_of stage (stopped text) h e = absurd h
simulated_of stage (audited lines) h e = absurd h
simulated_of stage (audited_segments lines segments) h e = absurd h
simulated_of stage (drawn text) h e = absurd h
simulated_of stage (shown text) h e = absurd h
simulated_of stage kept h e = absurd h
simulated_of stage (refused refusal) h e = omega (arith, e)
simulated_of stage (misused text) h e = absurd h
simulated_of stage wordless h e = absurd h
simulated_of stage (in_use path) h e = absurd h
simulated_of stage (unread path cause) h e = absurd h
simulated_of stage (unwritten path cause) h e = absurd h
simulated_of stage out_of_memory h e = absurd h

simulated_else : (staged : Result Stage JudgeError) (answer : Answer) → IsSimulationAnswer staged answer
    → status_of answer ≡ 2 → ⊥
simulated_else (Ok stage) answer h e = simulated_of stage answer h e
simulated_else (Err refusal) answer is e = omega (arith, ap status_of is, e)

drawn_of : (lines : ℕ) (answer : Answer) → IsDrawingAnswer (Ok lines) answer → status_of answer ≡ 2 → ⊥
drawn_of lines (done figures) h e = absurd h
drawn_of lines (made text) h e = absurd h
drawn_of lines (simulated text) h e = absurd h
drawn_of lines (formatted pages) h e = absurd h
drawn_of lines (ran report is_well) h e = absurd h
drawn_of lines (stopped text) h e = absurd h
drawn_of lines (audited count) h e = absurd h
drawn_of lines (audited_segments count segments) h e = absurd h
drawn_of lines (drawn text) h e = omega (arith, e)
drawn_of lines (shown text) h e = absurd h
drawn_of lines kept h e = absurd h
drawn_of lines (refused refusal) h e = absurd h
drawn_of lines (misused text) h e = absurd h
drawn_of lines wordless h e = absurd h
drawn_of lines (in_use path) h e = absurd h
drawn_of lines (unread path cause) h e = absurd h
drawn_of lines (unwritten path cause) h e = absurd h
drawn_of lines out_of_memory h e = absurd h

drawn_else : (verdict : Result ℕ JudgeError) (answer : Answer) → IsDrawingAnswer verdict answer
    → status_of answer ≡ 2 → ⊥
drawn_else (Ok lines) answer h e = drawn_of lines answer h e
drawn_else (Err refusal) answer is e = omega (arith, ap status_of is, e)

-- ---- commands

clashing : (command : Asked) (word : Text) → IsWrittenBy command word → writes_a_file command ≡ true
clashing (Asked.check settings plan certificate) word h = absurd h
clashing (Asked.annotate output settings plan) word h = ap is_some h
clashing (Asked.simulate settings script plans) word h = absurd h
clashing (Asked.format settings device) word h = refl
clashing (Asked.run journal trace settings device seed plans) word h = refl
clashing (Asked.audit lives settings journal plans) word h = absurd h
clashing (Asked.segments ended settings plans files) word h = absurd h
clashing (Asked.draw output settings journal plans) word h = ap is_some h

coming : (command : Asked) (answer : Answer) → ComesOf command answer → status_of answer ≡ 2
    → writes_a_file command ≡ true
coming (Asked.check settings plan certificate) answer (inl h) e =
    absurd (stopped_else (settings ∷ plan ∷ certificate ∷ []) answer h e)
coming (Asked.check settings plan certificate) answer (inr h) e =
    absurd (checked_else (judgement h.0 h.1 h.2) answer h.3 e)
coming (Asked.annotate None settings plan) answer (inl h) e =
    absurd (stopped_else (settings ∷ plan ∷ []) answer h e)
coming (Asked.annotate None settings plan) answer (inr h) e = absurd (annotated_else (certification h.0 h.1) answer h.2 e)
coming (Asked.annotate (Some path) settings plan) answer h e = refl
coming (Asked.simulate settings script plans) answer (inl h) e =
    absurd (stopped_else (settings ∷ script ∷ plans) answer h e)
coming (Asked.simulate settings script plans) answer (inr h) e =
    absurd (simulated_else (staged_in h.0 h.1 h.2) answer h.4 e)
coming (Asked.format settings device) answer h e = refl
coming (Asked.run journal trace settings device seed plans) answer h e = refl
coming (Asked.audit lives settings journal plans) answer (inl h) e =
    absurd (stopped_else (settings ∷ journal ∷ plans) answer h e)
coming (Asked.audit lives settings journal plans) answer (inr h) e = absurd (lives_else lives h.0 h.1 h.2 answer h.4 e)
coming (Asked.segments ended settings plans files) answer (inl h) e =
    absurd (stopped_else (settings ∷ plans) answer h e)
coming (Asked.segments ended settings plans files) answer (inr (s, ps, long, inl h)) e =
    absurd (stopped_else (h.path ∷ []) answer h.stops e)
coming (Asked.segments ended settings plans files) answer (inr (s, ps, long, inr h)) e =
    absurd (segments_else (segments_audited_in ended s ps h.0) answer h.2 e)
coming (Asked.draw None settings journal plans) answer (inl h) e =
    absurd (stopped_else (settings ∷ journal ∷ plans) answer h e)
coming (Asked.draw None settings journal plans) answer (inr h) e =
    absurd (drawn_else (audited_in h.0 h.1 h.2) h.3 h.5 (ap status_of (sym h.6) ∙ e))
coming (Asked.draw (Some path) settings journal plans) answer h e = refl

asked_coming : (command : Option Asked) (words : List Text) (answer : Answer) → ComesOfAsked command words answer
    → status_of answer ≡ 2 → IfSome command (λ it. writes_a_file it ≡ true)
asked_coming None words answer h e = tt
asked_coming (Some command) words answer (inl clash) e = clashing command clash.0 clash.2
asked_coming (Some command) words answer (inr h) e = coming command answer h.1 e

-- What is told in the end is a bad command line only of words that write a file, or that ask for nothing.
pub misused_writes : {A B : Type 0} (command : Option Asked) (words : List Text) (answer told : Answer) (status : ℕ)
    → ComesOfAsked command words answer → ((told ≡ answer) × A) ⊎ (B × IsUnwrittenAt (codes "-") told)
    → status ≡ status_of told → status ≡ 2 → IfSome command (λ it. writes_a_file it ≡ true)
misused_writes command words answer told status comes (inl same) is e =
    asked_coming command words answer comes (ap status_of (sym same.0) ∙ sym is ∙ e)
misused_writes command words answer told status comes (inr fault) is e =
    absurd (fault_else told fault.1 (sym is ∙ e))
