-- Lemmas on texts: what bytes spell, refusals that are handed on, and plans that are accepted.
use Rattle.std.proofs.Common.{◌≡◌, Bool, true, false, List, ℕ, None, Some, Result, Ok, Err, IsErrAnd, refl, ap, sym, ◌∙◌}
use Rattle.std.proofs.Common.{if◌then◌else◌}
use Rattle.std.specs.Str.{IsUtf8, is_utf8}
use Rattle.std.proofs.lemmas.Str.{IsUtf8-from_is_utf8, is_utf8-from_IsUtf8}
use Rattle.pp_settings.specs.Settings.{Configuration, geometry_of}
use Rattle.pp_plan.specs.Terms.{Terms}
use Rattle.pp_cert.specs.Claims.{Claims}
use Rattle.pp_cert.specs.Walk.{first_fault, tests}
use Rattle.pp_cert.specs.declared.check_error.CheckError.{CheckError}
use Rattle.pp_annotate.specs.Annotation.{annotation, AnswersAs}
use Rattle.pp_annotate.specs.declared.error.AnnotateError.{AnnotateError}
use Rattle.pp_annotate.specs.declared.error.AnnotateError.TheVariants.{Fault, OutOfMemory}
use Rattle.pp_text.specs.Steps.{Refuses, Gives}
use Rattle.pp_pool_c.specs.declared.refusal.Refusal.{Refusal}
use Rattle.pp_pool_c.specs.declared.refusal.Refusal.TheVariants.{NotText, Check, Annotate}
use Rattle.pp_pool_c.specs.Texts.{is_memory, refusing, text_in, plan_in, claims_in, certified_in, alone_in, checked}
use Rattle.pp_pool_c.specs.Texts.{unless_faulty}

-- ---- refusals that are handed on

-- a refusal that is no want of memory is that of the work
pub tells : {Y E : Type 0} (b : Bool) (e : E) (work : Result Y E) → Refuses b e work → b ≡ false → work ≡ Err e
tells true e work h memory = absurd cc
tells false e work h memory = h

-- a refusal that is that of the work wherever it is no want of memory
pub refuses_if : {Y E : Type 0} (b : Bool) (e : E) (work : Result Y E) → (b ≡ false → work ≡ Err e) → Refuses b e work
refuses_if true e work h = tt
refuses_if false e work h = h refl

-- a refusal that is handed on is that of the work
pub handed_on : {A B : Type 0} (seen : A → B) (r : Result A Refusal) (e : Refusal) (work : Result B Refusal)
    → IsErrAnd r (λ f. f ≡ e) → (is_memory e ≡ false → work ≡ Err e) → Gives is_memory seen r work
handed_on seen (Ok x) e work same told = absurd same
handed_on seen (Err f) e work same told =
    refuses_if (is_memory f) f work (λ memory. told (ap is_memory (sym same) ∙ memory) ∙ ap Err (sym same))

-- ---- bytes that are read

is_false : (b : Bool) → (b ≡ true → ⊥) → b ≡ false
is_false true never = absurd (never refl)
is_false false never = refl

when_text : {A : Type 0} (bytes : List ℕ) (x y : A) → IsUtf8 bytes → (if is_utf8 bytes then x else y) ≡ x
when_text bytes x y text = ap (λ b. if b then x else y) (is_utf8-from_IsUtf8 bytes text)

when_none : {A : Type 0} (bytes : List ℕ) (x y : A) → ¬ (IsUtf8 bytes) → (if is_utf8 bytes then x else y) ≡ y
when_none bytes x y none =
    ap (λ b. if b then x else y) (is_false (is_utf8 bytes) (λ is. none (IsUtf8-from_is_utf8 bytes is)))

-- bytes that are a text are read as it is
pub read_in : {A E : Type 0} (refusal : E → Refusal) (reading : List ℕ → Result A E) (bytes text : List ℕ) (x : A)
    → text ≡ bytes → IsUtf8 bytes → reading text ≡ Ok x → text_in refusal reading bytes ≡ Ok x
read_in refusal reading bytes text x is utf8 read =
    when_text bytes (refusing refusal (reading bytes)) (Err NotText) utf8
    ∙ ap (refusing refusal) (ap reading (sym is) ∙ read)

-- and refused as it is
pub refused_in : {A E : Type 0} (refusal : E → Refusal) (reading : List ℕ → Result A E) (bytes text : List ℕ) (e : E)
    → text ≡ bytes → IsUtf8 bytes → reading text ≡ Err e → text_in refusal reading bytes ≡ Err (refusal e)
refused_in refusal reading bytes text e is utf8 read =
    when_text bytes (refusing refusal (reading bytes)) (Err NotText) utf8
    ∙ ap (refusing refusal) (ap reading (sym is) ∙ read)

-- bytes that are no text are refused as such
pub none_in : {A E : Type 0} (refusal : E → Refusal) (reading : List ℕ → Result A E) (bytes : List ℕ) → ¬ (IsUtf8 bytes)
    → text_in refusal reading bytes ≡ Err NotText
none_in refusal reading bytes never = when_none bytes (refusing refusal (reading bytes)) (Err NotText) never

-- ---- a plan with its certificate

pub no_plan : (c : Configuration) (plan certificate : List ℕ) (e : Refusal) → plan_in c plan ≡ Err e
    → certified_in c plan certificate ≡ Err e
unfolding certified_in
no_plan c plan certificate e refused = rw refused refl

pub no_claims : (c : Configuration) (plan certificate : List ℕ) (p : Terms) (e : Refusal) → plan_in c plan ≡ Ok p
    → claims_in c p certificate ≡ Err e → certified_in c plan certificate ≡ Err e
unfolding certified_in
no_claims c plan certificate p e is refused = rw (is, refused) refl

both_read : (c : Configuration) (plan certificate : List ℕ) (p : Terms) (claims : Claims) → plan_in c plan ≡ Ok p
    → claims_in c p certificate ≡ Ok claims → certified_in c plan certificate ≡ checked c p claims
unfolding certified_in
both_read c plan certificate p claims is read = rw (is, read) refl

pub certified : (c : Configuration) (plan certificate : List ℕ) (p : Terms) (claims : Claims) → plan_in c plan ≡ Ok p
    → claims_in c p certificate ≡ Ok claims → first_fault (geometry_of c) claims (tests p) ≡ None
    → certified_in c plan certificate ≡ Ok (record { plan = p; peak = claims.peak; steps = claims.steps })
certified c plan certificate p claims is read none =
    both_read c plan certificate p claims is read
    ∙ ap (λ f. unless_faulty f (record { plan = p; peak = claims.peak; steps = claims.steps })) none

pub faulty : (c : Configuration) (plan certificate : List ℕ) (p : Terms) (claims : Claims) (fault : CheckError)
    → plan_in c plan ≡ Ok p
    → claims_in c p certificate ≡ Ok claims → first_fault (geometry_of c) claims (tests p) ≡ Some fault
    → certified_in c plan certificate ≡ Err (Check fault)
faulty c plan certificate p claims fault is read some =
    both_read c plan certificate p claims is read
    ∙ ap (λ f. unless_faulty f (record { plan = p; peak = claims.peak; steps = claims.steps })) some

-- ---- a plan alone

pub none_alone : (c : Configuration) (plan : List ℕ) (e : Refusal) → plan_in c plan ≡ Err e → alone_in c plan ≡ Err e
unfolding alone_in
none_alone c plan e refused = rw refused refl

claimed : (c : Configuration) (plan : List ℕ) (p : Terms) (claims : Claims) → plan_in c plan ≡ Ok p
    → annotation (geometry_of c) p ≡ Ok claims → alone_in c plan ≡ checked c p claims
unfolding alone_in
claimed c plan p claims is made = rw (is, made) refl

pub not_claimed : (c : Configuration) (plan : List ℕ) (p : Terms) (e : AnnotateError) → plan_in c plan ≡ Ok p
    → AnswersAs (Err e) (annotation (geometry_of c) p) → is_memory (Annotate e) ≡ false
    → alone_in c plan ≡ Err (Annotate e)
unfolding alone_in
not_claimed c plan p (Fault fault) is made memory = rw (is, made) refl
not_claimed c plan p OutOfMemory is made memory = absurd cc

pub taken : (c : Configuration) (plan : List ℕ) (p : Terms) (claims : Claims) → plan_in c plan ≡ Ok p
    → annotation (geometry_of c) p ≡ Ok claims → first_fault (geometry_of c) claims (tests p) ≡ None
    → alone_in c plan ≡ Ok (record { plan = p; peak = claims.peak; steps = claims.steps })
taken c plan p claims is made none =
    claimed c plan p claims is made
    ∙ ap (λ f. unless_faulty f (record { plan = p; peak = claims.peak; steps = claims.steps })) none

pub not_taken : (c : Configuration) (plan : List ℕ) (p : Terms) (claims : Claims) (fault : CheckError)
    → plan_in c plan ≡ Ok p
    → annotation (geometry_of c) p ≡ Ok claims → first_fault (geometry_of c) claims (tests p) ≡ Some fault
    → alone_in c plan ≡ Err (Check fault)
not_taken c plan p claims fault is made some =
    claimed c plan p claims is made
    ∙ ap (λ f. unless_faulty f (record { plan = p; peak = claims.peak; steps = claims.steps })) some
