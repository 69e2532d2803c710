-- The first fault of joined lists of tests.
use Rattle.std.proofs.Common.{◌≡◌, true, false, Option, Some, None, Ok, Err, List, [], ◌∷◌, ◌++◌, refl, ap}
use Rattle.std.specs.Prelude.{if◌then◌else◌}
use Rattle.pp_settings.specs.Layout.{Geometry}
use Rattle.pp_cert.specs.declared.check_error.CheckError.{CheckError}
use Rattle.pp_cert.specs.Walk.{Claims, Test, passes, fault_of, first_fault, unless_fault}

pub unless_value : {A : Type 0} (f : Option CheckError) (a b : A) → Ok b ≡ unless_fault f a → b ≡ a
unless_value None a b e = cc
unless_value (Some fault) a b e = absurd (cc)

-- the first part has no fault
pub past_first : (g : Geometry) (c : Claims) (xs ys : List Test) → first_fault g c xs ≡ None
    → first_fault g c (xs ++ ys) ≡ first_fault g c ys
past_first g c [] ys = λ h. refl
past_first g c (x ∷ xs) ys =
    elim (passes g c x) as (λ b. (if b then first_fault g c xs else Some (fault_of x)) ≡ None
    → (if b then first_fault g c (xs ++ ys) else Some (fault_of x)) ≡ first_fault g c ys) [
      | true ↦ λ h. past_first g c xs ys h
      | false ↦ λ h. absurd (cc)
    ]

-- the first part has a fault
pub in_first : (g : Geometry) (c : Claims) (xs ys : List Test) (fault : CheckError) → first_fault g c xs ≡ Some fault
    → first_fault g c (xs ++ ys) ≡ Some fault
in_first g c [] ys fault = λ h. absurd (cc)
in_first g c (x ∷ xs) ys fault =
    elim (passes g c x) as (λ b. (if b then first_fault g c xs else Some (fault_of x)) ≡ Some fault
    → (if b then first_fault g c (xs ++ ys) else Some (fault_of x)) ≡ Some fault) [
      | true ↦ λ h. in_first g c xs ys fault h
      | false ↦ λ h. h
    ]

pub at_ok : {A : Type 0} (f : Option CheckError) (a b : A) → Ok b ≡ unless_fault f a → f ≡ None
at_ok None a b e = refl
at_ok (Some fault) a b e = absurd (cc)

pub at_err : {A : Type 0} (f : Option CheckError) (a : A) (fault : CheckError) → Err fault ≡ unless_fault f a
    → f ≡ Some fault
at_err None a fault e = absurd (cc)
at_err (Some other) a fault e = cc

-- a walk goes on where its first part ended well
pub goes_on : {A B : Type 0} (g : Geometry) (c : Claims) (xs ys : List Test) (a v : A) (b : B)
    → Ok v ≡ unless_fault (first_fault g c xs) a
    → unless_fault (first_fault g c (xs ++ ys)) b ≡ unless_fault (first_fault g c ys) b
goes_on g c xs ys a v b h = ap (λ f. unless_fault f b) (past_first g c xs ys (at_ok (first_fault g c xs) a v h))

-- a walk ends where its first part ended badly
pub ends_at : {A B : Type 0} (g : Geometry) (c : Claims) (xs ys : List Test) (a : A) (b : B) (fault : CheckError)
    → Err fault ≡ unless_fault (first_fault g c xs) a → unless_fault (first_fault g c (xs ++ ys)) b ≡ Err fault
ends_at g c xs ys a b fault h =
    ap (λ f. unless_fault f b) (in_first g c xs ys fault (at_err (first_fault g c xs) a fault h))
