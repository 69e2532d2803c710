-- Which slots are bundles: how a body uses its slots, and the table that says it.
use Rattle.std.proofs.Common.{◌≡◌, ◌⊎◌, inl, inr, ℕ, zero, suc, replicate, ◌==◌, ◌<◌, ◌≤◌, ◌||◌, Bool, true, false}
use Rattle.std.proofs.Common.{refl, sym, subst, ap, ◌∙◌}
use Rattle.std.proofs.Common.{arith}
use Rattle.std.specs.List.{slice_index_or}
use Rattle.std.proofs.lemmas.Bool.{false≢true, false_from_ne_true, eqb-true, or_cases, or_left, or_right, cases_lt}
use Rattle.std.proofs.lemmas.Bool.Decides.{nat_tests}
use Rattle.pp_plan.specs.Tree.{Step, fix, unfix, latch, unlatch, gather, scatter, Statement, step, loop, choice}
use Rattle.pp_plan.specs.Tree.{Sequence, skip, andthen, Alternatives, none, either}
use Rattle.pp_plan.specs.Rules.{step_slot, IsUsedBy, IsUsed, IsUsedInBranch, IsUnmixed, HasNoBundle}
use Rattle.pp_plan.specs.Rules.{step_uses_bundle, statement_uses_bundle, uses_bundle, branches_use_bundle}
use Rattle.pp_plan.specs.Rules.{step_uses_plain, statement_uses_plain, uses_plain, branches_use_plain}
use Rattle.pp_plan.specs.Numbering.{numbered_step, numbered_statement, numbered, numbered_branches}

-- ---- the ways in which slots are used

-- each slot that is used as a bundle is one of P, and each that is used as a plain slot one of Q
pub record Ways (P Q : ℕ → Type 0) (bundles plains : ℕ → Bool) : Type 0 where
  pub bundle : (k : ℕ) → bundles k ≡ true → P k
  pub plain : (k : ℕ) → plains k ≡ true → Q k

pub ways_more : (P Q R S : ℕ → Type 0) (bundles plains : ℕ → Bool) → ((k : ℕ) → P k → R k) → ((k : ℕ) → Q k → S k)
    → Ways P Q bundles plains → Ways R S bundles plains
ways_more P Q R S bundles plains f g w =
    record { bundle = λ k h. f k (w.bundle k h); plain = λ k h. g k (w.plain k h) }

pub ways_none : (P Q : ℕ → Type 0) → Ways P Q (λ _. false) (λ _. false)
ways_none P Q = record { bundle = λ k h. absurd (false≢true h); plain = λ k h. absurd (false≢true h) }

pub ways_both : (P Q : ℕ → Type 0) (a b c d : ℕ → Bool) → Ways P Q a c → Ways P Q b d
    → Ways P Q (λ k. a k || b k) (λ k. c k || d k)
ways_both P Q a b c d v w = record {
  bundle =
      λ k h. elim (or_cases (a k) (b k) h) as (λ _. P k) [ inl here ↦ v.bundle k here | inr rest ↦ w.bundle k rest ];
  plain =
      λ k h. elim (or_cases (c k) (d k) h) as (λ _. Q k) [ inl here ↦ v.plain k here | inr rest ↦ w.plain k rest ];
}

pub ways_first : (P Q : ℕ → Type 0) (a b c d : ℕ → Bool) → Ways P Q (λ k. a k || b k) (λ k. c k || d k) → Ways P Q a c
ways_first P Q a b c d w = record {
  bundle = λ k h. w.bundle k (or_left (a k) (b k) h);
  plain = λ k h. w.plain k (or_left (c k) (d k) h);
}

pub ways_rest : (P Q : ℕ → Type 0) (a b c d : ℕ → Bool) → Ways P Q (λ k. a k || b k) (λ k. c k || d k) → Ways P Q b d
ways_rest P Q a b c d w = record {
  bundle = λ k h. w.bundle k (or_right (a k) (b k) h);
  plain = λ k h. w.plain k (or_right (c k) (d k) h);
}

-- a step uses one slot
pub itself : (k : ℕ) → (k == k) ≡ true
itself k = grind (arith, nat_tests)

pub one_bundle : (P Q : ℕ → Type 0) (k : ℕ) → P k → Ways P Q (λ j. k == j) (λ _. false)
one_bundle P Q k h =
    record { bundle = λ j e. subst P (eqb-true k j e) h; plain = λ j e. absurd (false≢true e) }

pub one_plain : (P Q : ℕ → Type 0) (k : ℕ) → Q k → Ways P Q (λ _. false) (λ j. k == j)
one_plain P Q k h =
    record { bundle = λ j e. absurd (false≢true e); plain = λ j e. subst Q (eqb-true k j e) h }

-- ---- a slot that is used is used in one of the ways

step_way : (s : Step) (k : ℕ) → step_slot s ≡ k → (step_uses_bundle s k ≡ true) ⊎ (step_uses_plain s k ≡ true)
step_way (fix j r) k e = inr (ap (λ (i : ℕ). j == i) (sym e) ∙ itself j)
step_way (unfix j) k e = inr (ap (λ (i : ℕ). j == i) (sym e) ∙ itself j)
step_way (latch j m) k e = inr (ap (λ (i : ℕ). j == i) (sym e) ∙ itself j)
step_way (unlatch j) k e = inr (ap (λ (i : ℕ). j == i) (sym e) ∙ itself j)
step_way (gather j r) k e = inl (ap (λ (i : ℕ). j == i) (sym e) ∙ itself j)
step_way (scatter j) k e = inl (ap (λ (i : ℕ). j == i) (sym e) ∙ itself j)

-- one of two ways, of a first part and of a rest
first_way : (a b c d : Bool) → (a ≡ true) ⊎ (c ≡ true) → ((a || b) ≡ true) ⊎ ((c || d) ≡ true)
first_way a b c d (inl h) = inl (or_left a b h)
first_way a b c d (inr h) = inr (or_left c d h)

rest_way : (a b c d : Bool) → (b ≡ true) ⊎ (d ≡ true) → ((a || b) ≡ true) ⊎ ((c || d) ≡ true)
rest_way a b c d (inl h) = inl (or_right a b h)
rest_way a b c d (inr h) = inr (or_right c d h)

mutual
  statement_way : (s : Statement) (k : ℕ) → IsUsedBy s k
      → (statement_uses_bundle s k ≡ true) ⊎ (statement_uses_plain s k ≡ true)
  statement_way (step s) k h = step_way s k h
  statement_way (loop n b) k h = body_way b k h
  statement_way (choice bs) k h = branches_way bs k h

  body_way : (b : Sequence) (k : ℕ) → IsUsed b k → (uses_bundle b k ≡ true) ⊎ (uses_plain b k ≡ true)
  body_way skip k h = absurd h
  body_way (andthen s b) k (inl h) =
      first_way (statement_uses_bundle s k) (uses_bundle b k) (statement_uses_plain s k) (uses_plain b k)
      (statement_way s k h)
  body_way (andthen s b) k (inr h) =
      rest_way (statement_uses_bundle s k) (uses_bundle b k) (statement_uses_plain s k) (uses_plain b k)
      (body_way b k h)

  branches_way : (bs : Alternatives) (k : ℕ) → IsUsedInBranch bs k
      → (branches_use_bundle bs k ≡ true) ⊎ (branches_use_plain bs k ≡ true)
  branches_way none k h = absurd h
  branches_way (either b bs) k (inl h) =
      first_way (uses_bundle b k) (branches_use_bundle bs k) (uses_plain b k) (branches_use_plain bs k) (body_way b k h)
  branches_way (either b bs) k (inr h) =
      rest_way (uses_bundle b k) (branches_use_bundle bs k) (uses_plain b k) (branches_use_plain bs k)
      (branches_way bs k h)

-- ---- under new numbers

numbered_one : (P Q R S : ℕ → Type 0) (f : ℕ → ℕ) → ((k : ℕ) → P k → R (f k)) → ((k : ℕ) → Q k → S (f k))
    → (s : Step) → Ways P Q (step_uses_bundle s) (step_uses_plain s)
    → Ways R S (step_uses_bundle (numbered_step f s)) (step_uses_plain (numbered_step f s))
numbered_one P Q R S f p q (fix k r) w = one_plain R S (f k) (q k (w.plain k (itself k)))
numbered_one P Q R S f p q (unfix k) w = one_plain R S (f k) (q k (w.plain k (itself k)))
numbered_one P Q R S f p q (latch k m) w = one_plain R S (f k) (q k (w.plain k (itself k)))
numbered_one P Q R S f p q (unlatch k) w = one_plain R S (f k) (q k (w.plain k (itself k)))
numbered_one P Q R S f p q (gather k r) w = one_bundle R S (f k) (p k (w.bundle k (itself k)))
numbered_one P Q R S f p q (scatter k) w = one_bundle R S (f k) (p k (w.bundle k (itself k)))

module _ (P Q R S : ℕ → Type 0) (f : ℕ → ℕ) (p : (k : ℕ) → P k → R (f k)) (q : (k : ℕ) → Q k → S (f k)) where
  mutual
    numbered_ways_of : (s : Statement) → Ways P Q (statement_uses_bundle s) (statement_uses_plain s)
        → Ways R S (statement_uses_bundle (numbered_statement f s)) (statement_uses_plain (numbered_statement f s))
    numbered_ways_of (step s) w = numbered_one P Q R S f p q s w
    numbered_ways_of (loop n b) w = numbered_ways b w
    numbered_ways_of (choice bs) w = numbered_branch_ways bs w

    pub numbered_ways : (b : Sequence) → Ways P Q (uses_bundle b) (uses_plain b)
        → Ways R S (uses_bundle (numbered f b)) (uses_plain (numbered f b))
    numbered_ways skip w = ways_none R S
    numbered_ways (andthen s b) w =
        ways_both R S (statement_uses_bundle (numbered_statement f s)) (uses_bundle (numbered f b))
        (statement_uses_plain (numbered_statement f s)) (uses_plain (numbered f b))
        (numbered_ways_of s (ways_first P Q (statement_uses_bundle s) (uses_bundle b) (statement_uses_plain s)
        (uses_plain b) w))
        (numbered_ways b (ways_rest P Q (statement_uses_bundle s) (uses_bundle b) (statement_uses_plain s)
        (uses_plain b) w))

    numbered_branch_ways : (bs : Alternatives) → Ways P Q (branches_use_bundle bs) (branches_use_plain bs)
        → Ways R S (branches_use_bundle (numbered_branches f bs)) (branches_use_plain (numbered_branches f bs))
    numbered_branch_ways none w = ways_none R S
    numbered_branch_ways (either b bs) w =
        ways_both R S (uses_bundle (numbered f b)) (branches_use_bundle (numbered_branches f bs))
        (uses_plain (numbered f b)) (branches_use_plain (numbered_branches f bs))
        (numbered_ways b (ways_first P Q (uses_bundle b) (branches_use_bundle bs) (uses_plain b)
        (branches_use_plain bs) w))
        (numbered_branch_ways bs (ways_rest P Q (uses_bundle b) (branches_use_bundle bs) (uses_plain b)
        (branches_use_plain bs) w))

-- ---- a table of the bundles

-- a bundle is marked in the table, and the version has bundles; a plain slot isn't marked
abbrev pub Marks : (version : ℕ) → (ℕ → Bool) → Sequence → Type 0
Marks version table b =
    Ways (λ k. (table k ≡ true) × (version ≡ 2)) (λ k. table k ≡ false) (uses_bundle b) (uses_plain b)

pub marks_apart : (version : ℕ) (table : ℕ → Bool) (b : Sequence) → Marks version table b → IsUnmixed b
marks_apart version table b w k bundle =
    false_from_ne_true (uses_plain b k) (λ plain. false≢true (sym (w.plain k plain) ∙ (w.bundle k bundle).0))

pub marks_none : (version : ℕ) (table : ℕ → Bool) (b : Sequence) → Marks version table b → version ≡ 1 → HasNoBundle b
marks_none version table b w one k =
    false_from_ne_true (uses_bundle b k)
    (λ bundle. let two = (w.bundle k bundle).1 in omega (arith, one, two))

-- what a body uses, a table that marks its bundles alone says of each slot
pub marks_are : (version : ℕ) (table : ℕ → Bool) (slots : ℕ) (b : Sequence) → Marks version table b
    → ((k : ℕ) → k < slots → IsUsed b k) → ((k : ℕ) → slots ≤ k → table k ≡ false)
    → (k : ℕ) → table k ≡ uses_bundle b k
marks_are version table slots b w used past k = by (cases_lt k slots)
  where
    none : table k ≡ false → table k ≡ uses_bundle b k
    none unmarked = unmarked ∙ sym (false_from_ne_true (uses_bundle b k)
        (λ bundle. false≢true (sym unmarked ∙ (w.bundle k bundle).0)))

    by : (k < slots) ⊎ (slots ≤ k) → table k ≡ uses_bundle b k
    by (inl within) =
        elim (body_way b k (used k within)) as (λ _. table k ≡ uses_bundle b k)
        [ inl bundle ↦ (w.bundle k bundle).0 ∙ sym bundle | inr plain ↦ none (w.plain k plain) ]
    by (inr above) = none (past k above)

-- the ways in which a plan uses its slots
pub plan_ways : (version : ℕ) (b : Sequence) → (version ≡ 1) ⊎ (version ≡ 2) → IsUnmixed b
    → (version ≡ 1 → HasNoBundle b) → Marks version (uses_bundle b) b
plan_ways version b known unmixed plain = record {
  bundle = λ k h. (
    h,
    elim known as (λ _. version ≡ 2)
        [ inl one ↦ absurd (false≢true (sym (plain one k) ∙ h)) | inr two ↦ two ],
  );
  plain = λ k h. false_from_ne_true (uses_bundle b k) (λ bundle. false≢true (sym (unmixed k bundle) ∙ h));
}

-- an empty table marks no slot
pub none_marked : (m k : ℕ) → slice_index_or (replicate m false) k false ≡ false
none_marked zero k = refl
none_marked (suc m) zero = refl
none_marked (suc m) (suc k) = none_marked m k
