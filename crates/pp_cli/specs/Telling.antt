-- How an answer is told on two writers.
use Rattle.std.specs.Prelude.{◌≡◌, ◌⊎◌, ℕ, Bool, true, false, List, Option, None, Some, codes, take, ⊤}
use Rattle.std.specs.Io.KnownBytes.{Appends}
use Rattle.pp_judge.specs.Answers.{Answer, done, made, simulated, ran, stopped, audited, drawn, refused, kept, is_output_of}
use Rattle.pp_judge.specs.Answers.{audited_segments}
use Rattle.pp_judge.specs.Lines.{text_of}
use Rattle.pp_cli.specs.Faults.{IsUnwrittenAt}

-- standard error may have more behind the answer: it is what some texts come to, and not of a device alone or of the words
abbrev pub has_more_of : Answer → Bool
has_more_of (done figures) = true
has_more_of (made text) = true
has_more_of (simulated text) = true
has_more_of (ran report is_well) = true
has_more_of (stopped text) = true
has_more_of (audited lines) = true
has_more_of (audited_segments lines segments) = true
has_more_of (drawn text) = true
has_more_of (refused refusal) = true
has_more_of kept = true
has_more_of _ = false

-- a writer has a front of the text more: all of it, a part or nothing
abbrev pub IsBegun : (old new : Option (List ℕ)) → (text : List ℕ) → Type 0
IsBegun old new text = (n : ℕ) × Appends old new (take n text)

-- what comes on standard error behind an output: behind a refusal what explains it, behind a report what is told of the run
-- beside it, behind another answer of texts a warning, as far as standard error takes that, and else nothing
abbrev pub IsBehind : {E : Type 0} → (E → Option (List ℕ)) → (has_more : Bool) → (why : Option (List ℕ))
    → (err err-after : E) → Type 0
IsBehind errors_of true (Some text) err err-after = IsBegun (errors_of err) (errors_of err-after) text
IsBehind errors_of true None err err-after = err-after ≡ err
IsBehind errors_of false _ err err-after = err-after ≡ err

-- an output has exactly this text more on standard output, and nothing more on standard error but what comes behind it; a
-- complaint leaves standard output as it was
abbrev pub IsPlaced : {O E : Type 0} → (O → Option (List ℕ)) → (E → Option (List ℕ)) → (is_output has_more : Bool)
    → (why : Option (List ℕ)) → List ℕ → (out out-after : O) → (err err-after : E) → Type 0
IsPlaced bytes_of errors_of true has_more why text out out-after err err-after =
    Appends (bytes_of out) (bytes_of out-after) text × IsBehind errors_of has_more why err err-after
IsPlaced bytes_of errors_of false has_more _ text out out-after err err-after = out-after ≡ out

-- standard output can't be written, by its own word for want of memory or for another fault
abbrev pub IsFaultOfWriting : Answer → Type 0
IsFaultOfWriting answer = IsUnwrittenAt (codes "-") answer

-- what is told of an answer in the end: the answer in its place, or, of one for standard output, that it can't be
-- written
abbrev pub IsTold : {O E : Type 0} → (O → Option (List ℕ)) → (E → Option (List ℕ)) → (why : Option (List ℕ))
    → (answer told : Answer) → (out out-after : O) → (err err-after : E) → Type 0
IsTold bytes_of errors_of why answer told out out-after err err-after =
    ((told ≡ answer) × IsPlaced bytes_of errors_of (is_output_of answer) (has_more_of answer) why (text_of answer)
    out out-after err err-after)
    ⊎ ((is_output_of answer ≡ true) × IsFaultOfWriting told)
