-- A list of statements that grows is a body that is followed by one statement more.
use Rattle.std.proofs.Common.{◌≡◌, ◌<◌, ◌+◌, ◌-◌, ℕ, zero, Option, arith, List, [], ◌∷◌, ◌++◌, length, drop, get_or}
use Rattle.std.proofs.Common.{Result, Ok, refl, ap, sym, ◌∙◌, suc, add-one}
use Rattle.std.proofs.Math.Seq.{drop-cons}
use Rattle.serde_json.specs.declared.value.Value.{Value}
use Rattle.serde_json.specs.Data.{Data, Items, item}
use Rattle.serde_json.specs.View.{view, items_view}
use Rattle.pp_plan.specs.declared.error.PlanError.{PlanError}
use Rattle.pp_plan.specs.Progress.{Progress}
use Rattle.pp_plan.specs.declared.stmt.Stmt.{Stmt}
use Rattle.pp_plan.specs.Tree.{Statement, Sequence, skip, andthen, Alternatives, either}
use Rattle.pp_plan.specs.View.{statement_of, sequence_of, alternatives_of}
use Rattle.pp_text.specs.Steps.{◌>>=◌}
use Rattle.pp_plan.specs.Shapes.{Shape, shape_of}
use Rattle.pp_plan.specs.Reading.{begun, followed_by, with_branch, sequence_from, alternatives_from, items_in}
use Rattle.pp_plan.specs.Reading.{statement_by, statement_at}

pub sequence_of-push : (ss : List Stmt) (s : Stmt)
    → sequence_of (ss ++ s ∷ []) ≡ followed_by (sequence_of ss) (statement_of s)
sequence_of-push [] s = refl
sequence_of-push (r ∷ ss) s = ap (andthen (statement_of r)) (sequence_of-push ss s)

pub alternatives_of-push : (bs : List Sequence) (b : Sequence)
    → alternatives_of (bs ++ b ∷ []) ≡ with_branch (alternatives_of bs) b
alternatives_of-push [] b = refl
alternatives_of-push (a ∷ bs) b = ap (λ rest. either a rest) (alternatives_of-push bs b)

pub ruleset walk = (sequence_of-push, alternatives_of-push)

item_drop : (vs : List Value) (i : ℕ) (v : Value) → v ≡ get_or vs i v → i < length vs
    → items_view (drop i vs) ≡ item (view v) (items_view (drop (i + 1) vs))
item_drop vs i v is h =
    ap items_view (drop-cons vs i v h) ∙ ap (λ (w : Value). item (view w) (items_view (drop (suc i) vs))) (sym is)
    ∙ ap (λ (k : ℕ). item (view v) (items_view (drop k vs))) (sym (add-one i))

-- one turn of the walk over the items of a body
pub sequence_turn : (f : Progress → Data → Result (Progress × Statement) PlanError)
    (all : Result (Progress × Sequence) PlanError) (e : Sequence) (p q : Progress) (vs : List Value) (i : ℕ) (v : Value)
    (s : Statement) → v ≡ get_or vs i v → i < length vs → f p (view v) ≡ Ok (q, s)
    → sequence_from f e p (items_view (drop i vs)) ≡ all
    → sequence_from f (followed_by e s) q (items_view (drop (i + 1) vs)) ≡ all
sequence_turn f all e p q vs i v s is h one walk =
    sym (ap (λ (ds : Items). sequence_from f e p ds) (item_drop vs i v is h)
    ∙ ap (λ (r : Result (Progress × Statement) PlanError). r >>= λ x. sequence_from f (followed_by e x.1) x.0
    (items_view (drop (i + 1) vs))) one) ∙ walk

-- one turn of the walk over the branches of a choice
pub alternatives_turn : (f : Progress → Data → Result (Progress × Statement) PlanError)
    (all : Result (Progress × Alternatives) PlanError) (e : Alternatives) (p q : Progress) (vs : List Value) (i : ℕ)
    (v : Value) (b : Sequence) → v ≡ get_or vs i v → i < length vs
    → sequence_from f skip p (items_in (view v)) ≡ Ok (q, b) → alternatives_from f e p (items_view (drop i vs)) ≡ all
    → alternatives_from f (with_branch e b) q (items_view (drop (i + 1) vs)) ≡ all
alternatives_turn f all e p q vs i v b is h one walk =
    sym (ap (λ (ds : Items). alternatives_from f e p ds) (item_drop vs i v is h)
    ∙ ap (λ (r : Result (Progress × Sequence) PlanError). r >>= λ x. alternatives_from f (with_branch e x.1) x.0
    (items_view (drop (i + 1) vs))) one) ∙ walk

-- the statement of a value whose form is known
pub statement_when : (version : ℕ) (region : List ℕ → Option ℕ) (levels n : ℕ) (p q : Progress) (d : Data)
    (shape : Shape) → begun p ≡ Ok q → n ≡ p.count → shape_of version n d ≡ Ok shape → 0 < levels
    → statement_at version region levels p d
    ≡ statement_by region (statement_at version region (levels - 1)) n q shape
statement_when version region zero n p q d shape begins number forms some = absurd (omega (arith, some))
statement_when version region (suc levels) n p q d shape begins number forms some =
    let fewer : suc levels - 1 ≡ levels = omega arith in
    rw (begins, ← number, forms, fewer) refl
