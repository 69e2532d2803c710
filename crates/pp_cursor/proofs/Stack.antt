-- An array's first entries as a stack.
use Rattle.std.proofs.Common.{◌≡◌, ◌≢◌, ℕ, zero, suc, ◌+◌, ◌-◌, ◌<◌, ◌≤◌, List, ◌∷◌, length, refl, ap, ◌∙◌, arith}
use Rattle.std.proofs.Common.{add-one, get_or-set_other, get_or-set_same}
use Rattle.std.specs.Prelude.{slice_set, slice_index_or}
use Rattle.pp_cursor.specs.declared.cursor.Entry.{Entry}
use Rattle.pp_cursor.specs.CursorMoves.{stack}

pub length-stack : (xs : List Entry) (d : ℕ) → length (stack xs d) ≡ d
length-stack xs zero = refl
length-stack xs (suc d) = ap suc (length-stack xs d)

-- A write above the stack leaves it.
pub stack-set : (xs : List Entry) (d i : ℕ) (e : Entry) → d ≤ i → stack (slice_set xs i e) d ≡ stack xs d
stack-set xs zero i e h = refl
stack-set xs (suc d) i e h = let ne : d ≢ i = omega arith in
    λ k. get_or-set_other xs i d e (record { index = 0; turns = 0; branch = 0 }) ne k ∷ stack-set xs d i e (omega arith)
    k

pub stack-push : (xs : List Entry) (d : ℕ) (e : Entry) → d < length xs
    → stack (slice_set xs d e) (d + 1) ≡ e ∷ stack xs d
stack-push xs d e h =
    rw (add-one) (λ k. get_or-set_same xs d e (record { index = 0; turns = 0; branch = 0 }) h k ∷ stack-set xs d d e
    (omega arith) k)

pub stack-top : (xs : List Entry) (d : ℕ) → 0 < d
    → stack xs d ≡ slice_index_or xs (d - 1) (record { index = 0; turns = 0; branch = 0 }) ∷ stack xs (d - 1)
stack-top xs zero h = absurd (omega arith)
stack-top xs (suc d) h = let e : suc d - 1 ≡ d = omega arith in rw e refl

-- A write at the top.
pub stack-top_set : (xs : List Entry) (d : ℕ) (e : Entry) → 0 < d → d ≤ length xs
    → stack (slice_set xs (d - 1) e) d ≡ e ∷ stack xs (d - 1)
stack-top_set xs d e h k = ap (λ n. stack (slice_set xs (d - 1) e) n) (let p : d ≡ d - 1 + 1 = omega arith in p)
    ∙ stack-push xs (d - 1) e (omega arith)

-- A statement's number, as what its step's number is ahead of it.
pub none_behind : (n : ℕ) → n - n ≡ 0
none_behind n = omega arith

pub behind_again : (n i : ℕ) → i ≤ n → n - (n - i) ≡ i
behind_again n i h = omega arith

pub both_up : (n i : ℕ) → i ≤ n → n + 1 - i ≡ n - i + 1
both_up n i h = omega arith

pub ruleset on_stack = (
  length-stack,
  stack-set,
  stack-push,
  stack-top,
  stack-top_set,
  none_behind,
  behind_again,
  both_up,
)
