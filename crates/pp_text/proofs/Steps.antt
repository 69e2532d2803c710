-- Laws of work in steps.
use Rattle.std.proofs.Common.{◌≡◌, Bool, true, false, Option, Some, None, Result, Ok, Err, refl, ap}
use Rattle.std.specs.Option.{ok_or}
use Rattle.pp_text.specs.Steps.{◌>>=◌, must, Refuses}

-- The first step had a value, and the next went on with it.
pub bind_ok : {A B E : Type 0} (r : Result A E) (next : A → Result B E) (y : B)
    → (r >>= next) ≡ Ok y → (x : A) × (r ≡ Ok x) × (next x ≡ Ok y)
bind_ok (Ok x) next y e = (x, refl, e)
bind_ok (Err d) next y e = absurd cc

pub must_ok : {E : Type 0} (b : Bool) (d : E) (x : Unit {0}) → must b d ≡ Ok x → b ≡ true
must_ok true d x e = refl
must_ok false d x e = absurd cc

pub ok_or_ok : {A E : Type 0} (o : Option A) (d : E) (x : A) → ok_or o d ≡ Ok x → o ≡ Some x
ok_or_ok None d x e = absurd cc
ok_or_ok (Some y) d x e = cc

pub ok_is : {A E : Type 0} (x y : A) → ◌≡◌ {A = Result A E} (Ok x) (Ok y) → x ≡ y
ok_is x y e = cc

-- A step's refusal is that of the work that begins with it.
pub refuses_then : {A B E : Type 0} (b : Bool) (e : E) (r : Result A E) (next : A → Result B E)
    → Refuses b e r → Refuses b e (r >>= next)
refuses_then true e r next h = tt
refuses_then false e r next h = ap (λ s. s >>= next) h
