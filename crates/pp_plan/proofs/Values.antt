-- The JSON value that is written, statement by statement and branch by branch.
use Rattle.std.proofs.Common.{◌≡◌, ◌+◌, ◌<◌, ℕ, zero, suc, List, [], ◌∷◌, ◌++◌, length, take, map, get_or, refl, sym}
use Rattle.std.proofs.Common.{ap, subst, ◌∙◌, arith}
use Rattle.std.proofs.lemmas.List.{take_more, map-append}
use Rattle.serde_json.specs.declared.value.Value.{Value}
use Rattle.serde_json.specs.Data.{Data, array}
use Rattle.serde_json.specs.View.{view, items_of}
use Rattle.pp_settings.specs.Settings.{Configuration}
use Rattle.pp_plan.specs.declared.stmt.Stmt.{Stmt}
use Rattle.pp_plan.specs.Tree.{Statement, Sequence, skip, andthen, Alternatives, none, either, statement_size}
use Rattle.pp_plan.specs.Tree.{sequence_size, alternatives_size}
use Rattle.pp_plan.specs.View.{statement_of, sequence_of, alternatives_of}
use Rattle.pp_plan.specs.Rules.{IsStatement, IsSequence, AreAlternatives}
use Rattle.pp_plan.specs.Reading.{followed_by, with_branch}
use Rattle.pp_plan.specs.Values.{statement_value, statement_values, branch_values}
use Rattle.pp_plan.proofs.Walk.{sequence_of-push, alternatives_of-push}

-- ---- each part keeps the rules

pub statement_at : (slots regions : ℕ) (ss : List Stmt) (i : ℕ) (s : Stmt) → s ≡ get_or ss i s → i < length ss
    → IsSequence slots regions (sequence_of ss) → IsStatement slots regions (statement_of s)
statement_at slots regions [] i s is within keeps = absurd (omega arith)
statement_at slots regions (r ∷ ss) zero s is within keeps =
    subst (λ (x : Stmt). IsStatement slots regions (statement_of x)) (sym is) keeps.0
statement_at slots regions (r ∷ ss) (suc i) s is within keeps =
    statement_at slots regions ss i s is (omega arith) keeps.1

pub branch_at : (slots regions : ℕ) (bs : List Sequence) (i : ℕ) (b : Sequence) → b ≡ get_or bs i b → i < length bs
    → AreAlternatives slots regions (alternatives_of bs) → IsSequence slots regions b
branch_at slots regions [] i b is within keeps = absurd (omega arith)
branch_at slots regions (a ∷ bs) zero b is within keeps =
    subst (λ (x : Sequence). IsSequence slots regions x) (sym is) keeps.0
branch_at slots regions (a ∷ bs) (suc i) b is within keeps = branch_at slots regions bs i b is (omega arith) keeps.1

-- ---- each part is smaller than the whole

pub statement_falls : (ss : List Stmt) (i : ℕ) (s : Stmt) → s ≡ get_or ss i s → i < length ss
    → statement_size (statement_of s) < sequence_size (sequence_of ss)
statement_falls [] i s is within = absurd (omega arith)
statement_falls (r ∷ ss) zero s is within = let same = ap (λ (x : Stmt). statement_size (statement_of x)) is in
    omega (arith, same)
statement_falls (r ∷ ss) (suc i) s is within = let more = statement_falls ss i s is (omega arith) in omega (arith, more)

pub branch_falls : (bs : List Sequence) (i : ℕ) (b : Sequence) → b ≡ get_or bs i b → i < length bs
    → sequence_size b < alternatives_size (alternatives_of bs)
branch_falls [] i b is within = absurd (omega arith)
branch_falls (a ∷ bs) zero b is within = let same = ap sequence_size is in omega (arith, same)
branch_falls (a ∷ bs) (suc i) b is within = let more = branch_falls bs i b is (omega arith) in omega (arith, more)

-- ---- one turn of the walk over the statements

statement_values-followed_by : (c : Configuration) (slots : List (List ℕ)) (b : Sequence) (s : Statement)
    → statement_values c slots (followed_by b s) ≡ statement_values c slots b ++ statement_value c slots s ∷ []
statement_values-followed_by c slots skip s = refl
statement_values-followed_by c slots (andthen r b) s =
    ap (λ (ds : List Data). statement_value c slots r ∷ ds) (statement_values-followed_by c slots b s)

pub statements_turn : (c : Configuration) (slots : List (List ℕ)) (vs : List Value) (of : List Stmt) (i : ℕ) (s : Stmt)
    (v : Value) → s ≡ get_or of i s → i < length of → view v ≡ statement_value c slots (statement_of s)
    → map view vs ≡ statement_values c slots (sequence_of (take i of))
    → map view (vs ++ v ∷ []) ≡ statement_values c slots (sequence_of (take (i + 1) of))
statements_turn c slots vs of i s v is within one before =
    let more : take (i + 1) of ≡ take i of ++ s ∷ [] = take_more of i s within
    ∙ ap (λ (x : Stmt). take i of ++ x ∷ []) (sym is) in
    let all : statement_values c slots (sequence_of (take (i + 1) of))
    ≡ statement_values c slots (sequence_of (take i of)) ++ statement_value c slots (statement_of s) ∷ [] =
    ap (λ (xs : List Stmt). statement_values c slots (sequence_of xs)) more
    ∙ ap (statement_values c slots) (sequence_of-push (take i of) s)
    ∙ statement_values-followed_by c slots (sequence_of (take i of)) (statement_of s) in
    map-append view vs (v ∷ []) ∙ ap (λ (ds : List Data). ds ++ view v ∷ []) before
    ∙ ap (λ (d : Data). statement_values c slots (sequence_of (take i of)) ++ d ∷ []) one ∙ sym all

-- ---- one turn of the walk over the branches

branch_values-with_branch : (c : Configuration) (slots : List (List ℕ)) (bs : Alternatives) (b : Sequence)
    → branch_values c slots (with_branch bs b) ≡ branch_values c slots bs
    ++ array (items_of (statement_values c slots b)) ∷ []
branch_values-with_branch c slots none b = refl
branch_values-with_branch c slots (either a bs) b =
    ap (λ (ds : List Data). array (items_of (statement_values c slots a)) ∷ ds) (branch_values-with_branch c slots bs b)

pub branches_turn : (c : Configuration) (slots : List (List ℕ)) (vs : List Value) (of : List Sequence) (i : ℕ)
    (b : Sequence) (v : Value) → b ≡ get_or of i b → i < length of
    → view v ≡ array (items_of (statement_values c slots b))
    → map view vs ≡ branch_values c slots (alternatives_of (take i of))
    → map view (vs ++ v ∷ []) ≡ branch_values c slots (alternatives_of (take (i + 1) of))
branches_turn c slots vs of i b v is within one before =
    let more : take (i + 1) of ≡ take i of ++ b ∷ [] = take_more of i b within
    ∙ ap (λ (x : Sequence). take i of ++ x ∷ []) (sym is) in
    let all : branch_values c slots (alternatives_of (take (i + 1) of))
    ≡ branch_values c slots (alternatives_of (take i of)) ++ array (items_of (statement_values c slots b)) ∷ [] =
    ap (λ (xs : List Sequence). branch_values c slots (alternatives_of xs)) more
    ∙ ap (branch_values c slots) (alternatives_of-push (take i of) b)
    ∙ branch_values-with_branch c slots (alternatives_of (take i of)) b in
    map-append view vs (v ∷ []) ∙ ap (λ (ds : List Data). ds ++ view v ∷ []) before
    ∙ ap (λ (d : Data). branch_values c slots (alternatives_of (take i of)) ++ d ∷ []) one ∙ sym all
