-- Lemmas on what is read of the stacks.
use Rattle.std.proofs.Common.{◌≡◌, ◌<◌, ◌-◌, ℕ, suc, List, ◌∷◌, length, get_or}
use Rattle.std.proofs.Common.{sym, ap, subst, ◌∙◌, arith}
use Rattle.std.specs.Prelude.{slice_get, Some}
use Rattle.std.proofs.Math.ListN.{get_or-map}
use Rattle.std.proofs.lemmas.List.{length-map}
use Rattle.pp_bundles.specs.declared.record.Record.{Record}
use Rattle.pp_bundles.specs.declared.record.Top.{Top}
use Rattle.pp_bundles.specs.Stacks.{stack_at}
use Rattle.pp_bundles.specs.Chains.{Parts, IsKept, IsChain, stacks_in, pages_under, record_at, top_at, walk, blank, empty}
use Rattle.pp_bundles.proofs.ChainLemmas.{length-walk, read}

-- a stack is what is under its top
pub stack_is : (p : Parts) (k : ℕ) → stack_at (stacks_in p) k ≡ pages_under p.records (top_at p.tops k)
stack_is p k = get_or-map (pages_under p.records) p.tops k empty

-- and has as many pages as its top says
pub count_is : (p : Parts) (k : ℕ) → length (stack_at (stacks_in p) k) ≡ (top_at p.tops k).count
count_is p k = ap length (stack_is p k) ∙ length-walk p.records (top_at p.tops k).head (top_at p.tops k).count

pub many : (p : Parts) → length (stacks_in p) ≡ length p.tops
many p = length-map p.tops (pages_under p.records)

pub pred_of : (n : ℕ) → 0 < n → n ≡ suc (n - 1)
pred_of n l = omega (arith, l)

-- what is kept of the record on top
pub first_of : (rs : List Record) (stack below : ℕ → ℕ) (k : ℕ) (t : Top) → 0 < t.count
    → IsChain rs stack below k t.head t.count
    → (t.head < length rs) × (stack t.head ≡ k) × (below t.head ≡ t.count - 1)
    × IsChain rs stack below k (record_at rs t.head).next (t.count - 1)
first_of rs stack below k t some h =
    subst (λ n. IsChain rs stack below k t.head n) (pred_of t.count some) h

-- the page on top, and those below it
pub pages_of : (rs : List Record) (t : Top) → 0 < t.count
    → pages_under rs t ≡ (record_at rs t.head).page ∷ walk rs (record_at rs t.head).next (t.count - 1)
pages_of rs t some = ap (λ n. walk rs t.head n) (pred_of t.count some)

-- ---- what `len` and `first` read

pub len_is : (p : Parts) (s : List (List ℕ)) (k : ℕ) (t : Top) → stacks_in p ≡ s → t ≡ top_at p.tops k
    → t.count ≡ length (stack_at s k)
len_is p s k t e et = ap (λ x. x.count) et ∙ sym (count_is p k) ∙ ap (λ x. length (stack_at x k)) e

pub head_below : (p : Parts) (k : ℕ) (t : Top) → IsKept p → k < length p.tops → t ≡ top_at p.tops k → 0 < t.count
    → t.head < length p.records
head_below p k t h l et some =
    (first_of p.records h.stack h.below k t some
    (subst (λ (x : Top). IsChain p.records h.stack h.below k x.head x.count) (sym et) (h.chains k l))).0

pub first_is : (p : Parts) (s : List (List ℕ)) (k : ℕ) (t : Top) (r : Record) → stacks_in p ≡ s → t ≡ top_at p.tops k
    → 0 < t.count → t.head < length p.records → r ≡ get_or p.records t.head r
    → Some r.page ≡ slice_get (stack_at s k) 0
first_is p s k t r e et some l er =
    let here : stack_at s k
    ≡ (record_at p.records t.head).page ∷ walk p.records (record_at p.records t.head).next (t.count - 1) =
    sym (ap (λ x. stack_at x k) e) ∙ stack_is p k ∙ ap (pages_under p.records) (sym et) ∙ pages_of p.records t some in
    ap (λ (x : Record). Some x.page) (read p.records t.head r blank l er) ∙ ap (λ x. slice_get x 0) (sym here)
