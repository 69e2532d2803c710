-- Want of memory is told apart, and any other refusal is that of the bytes.
use Rattle.std.proofs.Common.{◌≡◌, Bool, true, false, Result, Err, refl}
use Rattle.pp_text.specs.Steps.{Refuses}

-- a refusal that is no want of memory is that of the work
pub tells : {Y E : Type 0} (b : Bool) (e : E) (work : Result Y E) → Refuses b e work → b ≡ false → work ≡ Err e
tells true e work h memory = absurd cc
tells false e work h memory = h

-- a refusal that is that of the work wherever it is no want of memory
pub refuses_if : {Y E : Type 0} (b : Bool) (e : E) (work : Result Y E) → (b ≡ false → work ≡ Err e) → Refuses b e work
refuses_if true e work h = tt
refuses_if false e work h = h refl
