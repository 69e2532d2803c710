-- The stacks as they are made: the first has all records, the others have none.
use Rattle.std.proofs.Common.{◌≡◌, ◌≢◌, ◌<◌, ◌≤◌, ◌+◌, ◌-◌, ◌^◌, ℕ, zero, suc, List, [], ◌∷◌, length, set, get_or, replicate}
use Rattle.std.proofs.Common.{refl, sym, ap, subst, ◌∙◌, arith, inl, inr, get_or-set_same, get_or-set_other, length-set}
use Rattle.std.specs.Prelude.{sum_by, map}
use Rattle.std.proofs.lemmas.Bool.{cases_eq}
use Rattle.std.proofs.lemmas.List.Sums.{sum_by-cons}
use Rattle.std.proofs.lemmas.List.{get_or-replicate, length-replicate}
use Rattle.pp_bundles.specs.declared.record.Record.{Record}
use Rattle.pp_bundles.specs.declared.record.Top.{Top}
use Rattle.pp_bundles.specs.Chains.{Parts, IsKept, IsChain, AreChained, stacks_in, pages_under, record_at, top_at}
use Rattle.pp_bundles.specs.Chains.{walk, blank, empty}
use Rattle.pp_bundles.proofs.ChainLemmas.{read}

abbrev pub first_top : ℕ → Top
first_top records = record { head = 0; count = records }

abbrev pub fresh_tops : (records others : ℕ) → List Top
fresh_tops records others = first_top records ∷ replicate others empty

pub fresh_tops-is : (ts : List Top) (records others : ℕ) → ts ≡ replicate (others + 1) empty
    → set ts 0 (first_top records) ≡ fresh_tops records others
fresh_tops-is ts records others e =
    let more : others + 1 ≡ suc others = omega arith in
    ap (λ l. set l 0 (first_top records)) (e ∙ ap (λ n. replicate n empty) more)

none_counted : (n : ℕ) → sum_by (λ (t : Top). t.count) (replicate n empty) ≡ 0
none_counted zero = refl
none_counted (suc n) = omega (arith, none_counted n)

none_under : (rs : List Record) (n : ℕ) → map (pages_under rs) (replicate n empty) ≡ replicate n []
none_under rs zero = refl
none_under rs (suc n) = ap (λ l. [] ∷ l) (none_under rs n)

chain_from : (rs : List Record) (n : ℕ) → AreChained rs n → (i m : ℕ) → i + m ≡ n
    → IsChain rs (λ x. 0) (λ x. n - 1 - x) 0 i m × (walk rs i m ≡ replicate m 0)
chain_from rs n h i zero e = (tt, refl)
chain_from rs n h i (suc m) e =
    let l : i < n = omega (arith, e) in
    let r : record_at rs i ≡ record { page = 0; next = i + 1 } = h.next i l in
    let rest = chain_from rs n h (i + 1) m (omega (arith, e)) in (
      (
        omega (arith, h.many, l),
        refl,
        omega (arith, e),
        subst (λ (q : Record). IsChain rs (λ x. 0) (λ x. n - 1 - x) 0 q.next m) (sym r) rest.0,
      ),
      (λ j. (r j).page ∷ walk rs (r j).next m) ∙ ap (λ l. 0 ∷ l) rest.1,
    )

module _ (rs : List Record) (records others : ℕ) (h : AreChained rs records) (small : records < 2 ^ 32) where
  abbrev parts : Parts
  parts = record { records = rs; tops = fresh_tops records others }

  whole : IsChain rs (λ x. 0) (λ x. records - 1 - x) 0 0 records × (walk rs 0 records ≡ replicate records 0)
  whole = chain_from rs records h 0 records (omega arith)

  chain : (k : ℕ) → k < length (fresh_tops records others)
      → IsChain rs (λ x. 0) (λ x. records - 1 - x) k (top_at (fresh_tops records others) k).head
      (top_at (fresh_tops records others) k).count
  chain zero l = whole.0
  chain (suc k) l =
      let none : get_or (replicate others empty) k empty ≡ empty =
      get_or-replicate others k empty empty (omega (arith, l, length-replicate others empty)) in
      subst (λ (t : Top). IsChain rs (λ x. 0) (λ x. records - 1 - x) (suc k) t.head t.count) (sym none) tt

  counted : records + 0 ≡ length rs
  counted = omega (arith, h.many)

  pub kept-fresh : IsKept parts
  kept-fresh = record {
    stack = λ x. 0;
    below = λ x. records - 1 - x;
    chains = chain;
    full = sum_by-cons (λ (t : Top). t.count) (first_top records) (replicate others empty)
        ∙ ap (λ n. records + n) (none_counted others) ∙ counted;
    fits = subst (λ n. n < 2 ^ 32) (sym h.many) small;
  }

  pub stacks-fresh : stacks_in parts ≡ replicate records 0 ∷ replicate others []
  stacks-fresh = (λ j. whole.1 j ∷ none_under rs others j)

-- ---- the loop that chains the records

-- there are n records; those below i are chained
pub record BelowAreChained (rs : List Record) (n i : ℕ) : Type 0 where
  pub many : length rs ≡ n
  pub next : (j : ℕ) → j < i → record_at rs j ≡ record { page = 0; next = j + 1 }
  pub others : (j : ℕ) → i ≤ j → record_at rs j ≡ blank

pub chained-none : (rs : List Record) (n : ℕ) → rs ≡ replicate n blank → length rs ≡ n → BelowAreChained rs n 0
chained-none rs n e many = record {
  many = many;
  next = λ j l. absurd (omega (arith, l));
  others = λ j l. subst (λ x. record_at x j ≡ blank) (sym e) (all_blank n j);
}
  where
    all_blank : (n j : ℕ) → record_at (replicate n blank) j ≡ blank
    all_blank zero j = refl
    all_blank (suc n) zero = refl
    all_blank (suc n) (suc j) = all_blank n j

abbrev pub written : Record → ℕ → Record
written r i = record { page = r.page; next = i + 1 }

pub chained-more : (rs : List Record) (n i : ℕ) (r : Record) → BelowAreChained rs n i → i < n → r ≡ get_or rs i r
    → BelowAreChained (set rs i (written r i)) n (i + 1)
chained-more rs n i r h l e = record {
  many = length-set rs i (written r i) ∙ h.many;
  next = λ j m. elim (cases_eq j i) [
    | inl s ↦ subst (λ x. record_at (set rs i (written r i)) x ≡ record { page = 0; next = x + 1 }) (sym s) here
    | inr d ↦ get_or-set_other rs i j (written r i) blank d ∙ h.next j (omega (arith, m, d))
  ];
  others = λ j m. let d : j ≢ i = λ s. absurd (omega (arith, s, m)) in
      get_or-set_other rs i j (written r i) blank d ∙ h.others j (omega (arith, m));
}
  where
    was : r ≡ blank
    was = read rs i r blank (omega (arith, l, h.many)) e ∙ h.others i (omega arith)

    here : record_at (set rs i (written r i)) i ≡ record { page = 0; next = i + 1 }
    here =
        get_or-set_same rs i (written r i) blank (omega (arith, l, h.many))
        ∙ ap (λ (q : Record). written q i) was

pub chained-all : (rs : List Record) (n : ℕ) → BelowAreChained rs n n → AreChained rs n
chained-all rs n h = record { many = h.many; next = h.next }
