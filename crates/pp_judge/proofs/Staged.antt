-- What a script is played with, from what each of its files is.
use Rattle.std.proofs.Common.{◌≡◌, ℕ, ◌+◌, ◌<◌, false, List, [], ◌∷◌, ◌++◌, None, Some, Result, Ok, Err}
use Rattle.std.proofs.Common.{refl, sym, ap, ◌∙◌}
use Rattle.std.proofs.Common.{append_assoc, arith, drop, get_or, length, map, suc}
use Rattle.std.proofs.Math.Seq.{drop-cons}
use Rattle.std.proofs.lemmas.List.{append-nil}
use Rattle.pp_settings.specs.Settings.{Configuration, geometry_of}
use Rattle.pp_plan.specs.Terms.{Terms}
use Rattle.pp_cert.specs.Accepted.{Acceptance}
use Rattle.pp_cert.specs.Claims.{Claims}
use Rattle.pp_cert.specs.Walk.{first_fault, tests}
use Rattle.pp_cert.specs.declared.check_error.CheckError.{CheckError}
use Rattle.pp_annotate.specs.Annotation.{annotation, AnswersAs}
use Rattle.pp_annotate.specs.declared.error.AnnotateError.{AnnotateError}
use Rattle.pp_annotate.specs.declared.error.AnnotateError.TheVariants.{Fault, OutOfMemory}
use Rattle.pp_script.specs.Scripts.{Scenario}
use Rattle.pp_text.specs.Steps.{◌>>=◌}
use Rattle.pp_judge.specs.declared.error.JudgeError.{JudgeError}
use Rattle.pp_judge.specs.declared.error.JudgeError.TheVariants.{Annotate, Check}
use Rattle.pp_judge.specs.Judgement.{accepted_all, accepted_in, plan_in, script_in, settings_in, staged_in}
use Rattle.pp_judge.specs.Judgement.{unless_refused, with_claims}
use Rattle.pp_judge.specs.Steps.{is_want_of_memory}

-- ---- a plan that is accepted with its least certificate

pub none_accepted : (s : Configuration) (plan : List ℕ) (e : JudgeError) → plan_in s plan ≡ Err e
    → accepted_in s plan ≡ Err e
unfolding accepted_in
none_accepted s plan e refused = rw refused refl

claimed : (s : Configuration) (plan : List ℕ) (p : Terms) (answer : Result Claims CheckError) → plan_in s plan ≡ Ok p
    → annotation (geometry_of s) p ≡ answer
    → accepted_in s plan ≡ with_claims (record { settings = s; plan = p }) answer
unfolding accepted_in
claimed s plan p answer is made = rw (is, made) refl

pub not_claimed : (s : Configuration) (plan : List ℕ) (p : Terms) (e : AnnotateError) → plan_in s plan ≡ Ok p
    → AnswersAs (Err e) (annotation (geometry_of s) p) → is_want_of_memory (Annotate e) ≡ false
    → accepted_in s plan ≡ Err (Annotate e)
not_claimed s plan p (Fault fault) is made memory = claimed s plan p (Err fault) is made
not_claimed s plan p OutOfMemory is made memory = cc

pub taken : (s : Configuration) (plan : List ℕ) (p : Terms) (c : Claims) → plan_in s plan ≡ Ok p
    → annotation (geometry_of s) p ≡ Ok c → first_fault (geometry_of s) c (tests p) ≡ None
    → accepted_in s plan ≡ Ok (record { plan = p; peak = c.peak; steps = c.steps })
taken s plan p c is made none =
    claimed s plan p (Ok c) is made
    ∙ ap (λ f. unless_refused f (record { plan = p; peak = c.peak; steps = c.steps })) none

pub not_taken : (s : Configuration) (plan : List ℕ) (p : Terms) (c : Claims) (fault : CheckError)
    → plan_in s plan ≡ Ok p
    → annotation (geometry_of s) p ≡ Ok c → first_fault (geometry_of s) c (tests p) ≡ Some fault
    → accepted_in s plan ≡ Err (Check fault)
not_taken s plan p c fault is made some =
    claimed s plan p (Ok c) is made
    ∙ ap (λ f. unless_refused f (record { plan = p; peak = c.peak; steps = c.steps })) some

-- ---- plans one after the other

-- The plans that are accepted, and then those that are left.
abbrev pub behind : List Acceptance → Result (List Acceptance) JudgeError → Result (List Acceptance) JudgeError
behind before left = left >>= λ rest. Ok (before ++ rest)

behind_one : (before : List Acceptance) (plan : Acceptance) (left : Result (List Acceptance) JudgeError)
    → behind before (left >>= λ rest. Ok (plan ∷ rest)) ≡ behind (before ++ plan ∷ []) left
behind_one before plan (Ok rest) = ap Ok (sym (append_assoc before (plan ∷ []) rest))
behind_one before plan (Err e) = refl

pub next_accepted : (s : Configuration) (before : List Acceptance) (plan : List ℕ) (plans : List (List ℕ))
    (a : Acceptance)
    → accepted_in s plan ≡ Ok a
    → behind before (accepted_all s (plan ∷ plans)) ≡ behind (before ++ a ∷ []) (accepted_all s plans)
unfolding accepted_all
next_accepted s before plan plans a is = rw is (behind_one before a (accepted_all s plans))

pub next_refused : (s : Configuration) (before : List Acceptance) (plan : List ℕ) (plans : List (List ℕ))
    (e : JudgeError)
    → accepted_in s plan ≡ Err e → behind before (accepted_all s (plan ∷ plans)) ≡ Err e
unfolding accepted_all
next_refused s before plan plans e is = rw is refl

pub all_accepted : (s : Configuration) (before : List Acceptance) → behind before (accepted_all s []) ≡ Ok before
unfolding accepted_all
all_accepted s before = ap Ok (append-nil before)

-- The file that is read next is the first of those that are left.
pub next_file : {V : Type 0} (f : V → List ℕ) (files : List V) (k : ℕ) (x : V) (bytes : List ℕ) → k < length files
    → x ≡ get_or files k x → bytes ≡ f x → map f (drop k files) ≡ bytes ∷ map f (drop (k + 1) files)
next_file f files k x bytes below is read =
    let next : suc k ≡ k + 1 = omega arith in
    ap (map f) (drop-cons files k x below)
    ∙ ap (λ y. f y ∷ map f (drop (suc k) files)) (sym is)
    ∙ ap (λ b. b ∷ map f (drop (suc k) files)) (sym read)
    ∙ ap (λ j. bytes ∷ map f (drop j files)) next

-- ---- all files

pub unsettled : (settings script : List ℕ) (plans : List (List ℕ)) (e : JudgeError) → settings_in settings ≡ Err e
    → staged_in settings script plans ≡ Err e
unfolding staged_in
unsettled settings script plans e refused = rw refused refl

pub no_script : (settings script : List ℕ) (plans : List (List ℕ)) (s : Configuration) (e : JudgeError)
    → settings_in settings ≡ Ok s → script_in script ≡ Err e → staged_in settings script plans ≡ Err e
unfolding staged_in
no_script settings script plans s e is refused = rw (is, refused) refl

pub no_plans : (settings script : List ℕ) (plans : List (List ℕ)) (s : Configuration) (cues : Scenario) (e : JudgeError)
    → settings_in settings ≡ Ok s → script_in script ≡ Ok cues → accepted_all s plans ≡ Err e
    → staged_in settings script plans ≡ Err e
unfolding staged_in
no_plans settings script plans s cues e is read refused = rw (is, read, refused) refl

pub staged : (settings script : List ℕ) (plans : List (List ℕ)) (s : Configuration) (cues : Scenario)
    (accepted : List Acceptance)
    → settings_in settings ≡ Ok s → script_in script ≡ Ok cues → accepted_all s plans ≡ Ok accepted
    → staged_in settings script plans ≡ Ok (record { settings = s; script = cues; plans = accepted })
unfolding staged_in
staged settings script plans s cues accepted is read taken = rw (is, read, taken) refl
