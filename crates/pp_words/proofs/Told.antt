-- How faults of the words are told.
use Rattle.std.proofs.Common.{◌≡◌, Bool, true, false, List, [], ◌∷◌, ◌||◌, refl, sym, ap, subst, ◌∙◌, inl, inr}
use Rattle.std.specs.Prelude.{not}
use Rattle.std.specs.List.{list_any}
use Rattle.clap.specs.Words.{App, Text, fault_of, Kinds, IsAmong}
use Rattle.clap.specs.declared.error.ErrorKind.{ErrorKind}
use Rattle.pp_words.specs.Faults.{IsToldAs, IsToldBy, is_mistake, is_request}
use Rattle.pp_words.specs.declared.request.JobError.{JobError}
use Rattle.pp_words.specs.declared.request.JobError.TheVariants.{Shown, Words, OutOfMemory}

or_right : (b c : Bool) → c ≡ true → (b || c) ≡ true
or_right true c h = refl
or_right false c h = h

any_among : (p : ErrorKind → Bool) (k : ErrorKind) (kinds : Kinds) → IsAmong k kinds → p k ≡ true
    → list_any p kinds ≡ true
any_among p k [] h passes = absurd h
any_among p k (x ∷ xs) (inl same) passes = ap (λ b. b || list_any p xs) (ap p (sym same) ∙ passes)
any_among p k (x ∷ xs) (inr later) passes = or_right (p x) (list_any p xs) (any_among p k xs later passes)

told_among : (kinds : Kinds) (k : ErrorKind) (error : JobError) → IsAmong k kinds → IsToldAs k error
    → IsToldBy kinds error
told_among kinds k (Shown text) among told = any_among is_request k kinds among told
told_among kinds k (Words text) among told = inl (any_among is_mistake k kinds among (ap not told.0))
told_among kinds k OutOfMemory among told = tt

-- what is told of one fault of the words is told of the words
pub told_by : (a p : App) (words : List Text) (k : ErrorKind) (error : JobError) → a ≡ p
    → IsAmong k (fault_of a words)
    → IsToldAs k error → IsToldBy (fault_of p words) error
told_by a p words k error is among told =
    told_among (fault_of p words) k error
    (let P : App → Type 0 = λ b. IsAmong k (fault_of b words) in subst P is among) told

-- want of memory says nothing of the words
pub told_of_memory : (kinds : Kinds) (error : JobError) → error ≡ OutOfMemory → IsToldBy kinds error
told_of_memory kinds error memory = let P : JobError → Type 0 = λ e. IsToldBy kinds e in subst P (sym memory) tt
