-- No trace is a proper prefix of another: two traces that begin one list are equal.
use Rattle.std.proofs.Common.{◌≡◌, ℕ, zero, suc, List, [], ◌∷◌, ◌++◌, sym, ap, ◌∙◌, append_assoc, subst}
use Rattle.std.proofs.lemmas.List.{append-nil}
use Rattle.pp_settings.specs.Layout.{Geometry}
use Rattle.pp_plan.specs.Tree.{Statement, step, loop, choice, Sequence, skip, andthen, Alternatives, none, either}
use Rattle.pp_plan.specs.declared.action.Action.{Action}
use Rattle.pp_plan.specs.declared.action.Action.TheVariants.{Choose}
use Rattle.pp_plan.specs.Traces.{Does, Joins, Repeats, IsStatementTrace, IsTrace, IsBranchTrace}

-- A list begins with one list of P at most, and so what follows it is one.
BeginsOnce : (List Action → Type 0) → Type 0
BeginsOnce P = (t u x y : List Action) → P t → P u → t ++ x ≡ u ++ y → (t ≡ u) × (x ≡ y)

nil_once : BeginsOnce (λ t. t ≡ [])
unfolding BeginsOnce
nil_once t u x y h k e = (h ∙ sym k, sym (ap (λ w. w ++ x) h) ∙ e ∙ ap (λ w. w ++ y) k)

joins_once : (P Q : List Action → Type 0) → BeginsOnce P → BeginsOnce Q → BeginsOnce (Joins P Q)
unfolding BeginsOnce
joins_once P Q p q t u x y h k e =
    let left : t ++ x ≡ h.0 ++ (h.1 ++ x) = ap (λ w. w ++ x) h.2 ∙ append_assoc h.0 h.1 x in
    let right : u ++ y ≡ k.0 ++ (k.1 ++ y) = ap (λ w. w ++ y) k.2 ∙ append_assoc k.0 k.1 y in
    let first = p h.0 k.0 (h.1 ++ x) (k.1 ++ y) h.3 k.3 (sym left ∙ e ∙ right) in
    let second = q h.1 k.1 x y h.4 k.4 first.1 in
    (h.2 ∙ ap (λ w. w ++ h.1) first.0 ∙ ap (λ w. k.0 ++ w) second.0 ∙ sym k.2, second.1)

repeats_once : (P : List Action → Type 0) (n : ℕ) → BeginsOnce P → BeginsOnce (Repeats n P)
repeats_once P zero p = nil_once
repeats_once P (suc n) p = joins_once P (Repeats n P) p (repeats_once P n p)

one_action : (P : Action → Type 0) → BeginsOnce (λ t. (a : Action) × (t ≡ a ∷ []) × P a)
unfolding BeginsOnce
one_action P t u x y h k e =
    let f : h.0 ∷ x ≡ k.0 ∷ y = sym (ap (λ w. w ++ x) h.1) ∙ e ∙ ap (λ w. w ++ y) k.1 in
    let same : h.0 ≡ k.0 = cc in
    (h.1 ∙ ap (λ a. a ∷ []) same ∙ sym k.1, cc)

choice_once : (P : ℕ → List Action → Type 0) → ((i : ℕ) → BeginsOnce (P i))
    → BeginsOnce (λ t. (i : ℕ) × (u : List Action) × (t ≡ Choose i ∷ u) × P i u)
unfolding BeginsOnce
choice_once P p t u x y h k e =
    let f : Choose h.0 ∷ (h.1 ++ x) ≡ Choose k.0 ∷ (k.1 ++ y) = sym (ap (λ w. w ++ x) h.2) ∙ e ∙ ap (λ w. w ++ y) k.2 in
    let same : h.0 ≡ k.0 = cc in
    let tails : h.1 ++ x ≡ k.1 ++ y = cc in
    let r = p k.0 h.1 k.1 x y (subst (λ i. P i h.1) same h.3) k.3 tails in
    (h.2 ∙ ap (λ i. Choose i ∷ h.1) same ∙ ap (λ w. Choose k.0 ∷ w) r.0 ∙ sym k.2, r.1)

never_once : BeginsOnce (λ t. ⊥)
unfolding BeginsOnce
never_once t u x y h k e = absurd h

mutual
  statement_once : (g : Geometry) (s : Statement) → BeginsOnce (IsStatementTrace g s)
  statement_once g (step s) = one_action (Does g s)
  statement_once g (loop n b) = repeats_once (IsTrace g b) n (body_once g b)
  statement_once g (choice bs) = choice_once (IsBranchTrace g bs) (λ i. branch_once g bs i)

  body_once : (g : Geometry) (b : Sequence) → BeginsOnce (IsTrace g b)
  body_once g skip = nil_once
  body_once g (andthen s b) = joins_once (IsStatementTrace g s) (IsTrace g b) (statement_once g s) (body_once g b)

  branch_once : (g : Geometry) (bs : Alternatives) (i : ℕ) → BeginsOnce (IsBranchTrace g bs i)
  branch_once g none i = never_once
  branch_once g (either b bs) zero = body_once g b
  branch_once g (either b bs) (suc i) = branch_once g bs i

pub prefix_free : (g : Geometry) (b : Sequence) (t rest : List Action) → IsTrace g b t → IsTrace g b (t ++ rest)
    → rest ≡ []
unfolding BeginsOnce
prefix_free g b t rest h k = (body_once g b t (t ++ rest) rest [] h k (sym (append-nil (t ++ rest)))).1
