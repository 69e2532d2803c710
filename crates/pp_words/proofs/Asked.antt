-- What the matches of the words, and a fault in them, say of what is asked.
use Rattle.std.proofs.Common.{◌≡◌, Bool, true, false, List, [], ◌∷◌, Option, None, Some, IsSome, refl, sym, ap}
use Rattle.std.proofs.Common.{◌∙◌, ap₂, if◌then◌else◌, IfErr, IfOk, Result, subst, subst₂}
use Rattle.clap.specs.Words.{App, Row, Text, fault_of, is_simple, subcommand_of, Kinds, IsAmong}
use Rattle.clap.specs.Faults.{is_simple_and_free}
use Rattle.clap.specs.declared.error.ErrorKind.{ErrorKind}
use Rattle.clap.proofs.OnLiterals.{clap_on_literals}
use Rattle.pp_words.specs.CommandLine.{Asked, asked, asked_by, asked_in_parts, asked_plainly, faults_in, file_words}
use Rattle.pp_words.specs.CommandLine.{front_words, program, segments_program, unless_faulty, wants_segments}
use Rattle.pp_words.specs.Faults.{IsToldBy}
use Rattle.pp_words.specs.declared.request.Job.{Job}
use Rattle.pp_words.specs.declared.request.JobError.{JobError}
use Rattle.pp_words.specs.declared.request.JobError.TheVariants.{OutOfMemory}

pub program_is_simple : is_simple program ≡ true
unfolding clap_on_literals
program_is_simple = refl

pub program_is_free : is_simple_and_free program ≡ true
unfolding clap_on_literals
program_is_free = refl

pub segments_program_is_simple : is_simple segments_program ≡ true
unfolding clap_on_literals
segments_program_is_simple = refl

pub segments_program_is_free : is_simple_and_free segments_program ≡ true
unfolding clap_on_literals
segments_program_is_free = refl

no_fault : (faults : Kinds) (found : Option Asked) → faults ≡ [] → unless_faulty faults found ≡ found
no_fault faults found e = ap (λ fs. unless_faulty fs found) e

some_fault : (faults : Kinds) (found : Option Asked) (k : ErrorKind) → IsAmong k faults
    → unless_faulty faults found ≡ None
some_fault [] found k h = absurd h
some_fault (x ∷ xs) found k h = refl

-- words with no fault ask for what is found in their matches
pub asked_by_matches : (a p : App) (words : List Text) (rows : Option (Text × List Row))
    (found_in : Option (Text × List Row) → Option Asked) → a ≡ p → fault_of a words ≡ []
    → rows ≡ subcommand_of a words → unless_faulty (fault_of p words) (found_in (subcommand_of p words)) ≡ found_in rows
asked_by_matches a p words rows found_in is none found =
    no_fault (fault_of p words) (found_in (subcommand_of p words))
    (sym (ap (λ b. fault_of b words) is) ∙ none)
    ∙ sym (ap found_in (found ∙ ap (λ b. subcommand_of b words) is))

-- words with a fault ask for nothing
pub asked_by_fault : (a p : App) (words : List Text) (k : ErrorKind) (found : Option Asked) → a ≡ p
    → IsAmong k (fault_of a words) → unless_faulty (fault_of p words) found ≡ None
asked_by_fault a p words k found is among =
    some_fault (fault_of p words) found k
    (let P : App → Type 0 = λ b. IsAmong k (fault_of b words) in subst P is among)

IsFalse : Bool → Type 0
IsFalse true = ⊥
IsFalse false = Unit {0}

-- nothing is asked, and something is
pub nothing_asked : (o : Option Asked) → o ≡ None → IsSome o → ⊥
unfolding IsFalse
nothing_asked o e some = let P : Option Asked → Type 0 = λ q. IsSome q in subst IsFalse (subst P e some) tt

-- ---- the choice between an audit of segments and all else

segments_asked : (words front files : List Text) → wants_segments words ≡ true → front ≡ front_words words
    → files ≡ file_words words → asked words ≡ asked_in_parts front files
segments_asked words front files wanted is are =
    ap (λ b. if b then asked_in_parts (front_words words) (file_words words) else asked_plainly words) wanted
    ∙ ap₂ asked_in_parts (sym is) (sym are)

plainly_asked : (words : List Text) → wants_segments words ≡ false → asked words ≡ asked_plainly words
plainly_asked words unwanted =
    ap (λ b. if b then asked_in_parts (front_words words) (file_words words) else asked_plainly words) unwanted

-- What a reading of the words gives that asks for this, and has these faults.
pub record IsRead (result : Result Job JobError) (asks : Option Asked) (faults : Kinds) : Type 0 where
  pub ok : IfOk result (λ job. asks ≡ Some (asked_by job))
  pub err : IfErr result (λ error. IsSome asks → error ≡ OutOfMemory)
  pub told : IfErr result (IsToldBy faults)

pub read_in_parts : (result : Result Job JobError) (words front files : List Text) → wants_segments words ≡ true
    → front ≡ front_words words → files ≡ file_words words
    → IsRead result (asked_in_parts front files) (fault_of segments_program front)
    → IsRead result (asked words) (faults_in words)
read_in_parts result words front files wanted is are read =
    let faults : faults_in words ≡ fault_of segments_program front =
    ap (λ b. if b then fault_of segments_program (front_words words) else fault_of program words) wanted
    ∙ ap (fault_of segments_program) (sym is) in
    subst₂ (IsRead result) (sym (segments_asked words front files wanted is are)) (sym faults) read

pub read_plainly : (result : Result Job JobError) (words : List Text) → wants_segments words ≡ false
    → IsRead result (asked_plainly words) (fault_of program words) → IsRead result (asked words) (faults_in words)
read_plainly result words unwanted read =
    let faults : faults_in words ≡ fault_of program words =
    ap (λ b. if b then fault_of segments_program (front_words words) else fault_of program words) unwanted in
    subst₂ (IsRead result) (sym (plainly_asked words unwanted)) (sym faults) read
