-- Laws of the traces of bodies.
use Rattle.std.proofs.Common.{◌≡◌, ℕ, zero, suc, ◌<◌, List, [], ◌∷◌, ◌++◌, refl, sym, ap, ◌∙◌, subst, arith}
use Rattle.pp_settings.specs.Layout.{Geometry}
use Rattle.pp_plan.specs.Tree.{Step, step, loop, choice, Sequence, skip, andthen, Alternatives, none, either}
use Rattle.pp_plan.specs.Tree.{branch_count}
use Rattle.pp_plan.specs.declared.action.Action.{Action}
use Rattle.pp_plan.specs.declared.action.Action.TheVariants.{Choose}
use Rattle.pp_plan.specs.Traces.{Does, Joins, Repeats, IsStatementTrace, IsTrace, IsBranchTrace}
use Rattle.pp_cursor.specs.Left.{◌then◌, branch_at}
use Rattle.pp_cursor.specs.CursorMoves.{Same}
use Rattle.pp_cursor.proofs.Joined.{Joins-assoc, Joins-back, Joins-rest, Joins-nil}

pub then-skip : (b : Sequence) → b then skip ≡ b
then-skip skip = refl
then-skip (andthen s b) = ap (andthen s) (then-skip b)

pub same_self : (g : Geometry) (b : Sequence) → Same g b b
same_self g b = record { to = λ t h. h; from = λ t h. h }

pub same_then_same : (g : Geometry) (b c d : Sequence) → Same g b c → Same g c d → Same g b d
same_then_same g b c d x y = record { to = λ t h. y.to t (x.to t h); from = λ t h. x.from t (y.from t h) }

-- The traces of one body after another.
pub split : (g : Geometry) (b c : Sequence) (t : List Action) → IsTrace g (b then c) t
    → Joins (IsTrace g b) (IsTrace g c) t
split g skip c t h = ([], t, refl, refl, h)
split g (andthen s b) c t h =
    Joins-back (IsStatementTrace g s) (IsTrace g b) (IsTrace g c) t
    (Joins-rest (IsStatementTrace g s) (IsTrace g (b then c)) (Joins (IsTrace g b) (IsTrace g c)) t
    (λ u. split g b c u) h)

pub join : (g : Geometry) (b c : Sequence) (t : List Action) → Joins (IsTrace g b) (IsTrace g c) t
    → IsTrace g (b then c) t
join g skip c t h = Joins-nil (IsTrace g c) t h
join g (andthen s b) c t h =
    Joins-rest (IsStatementTrace g s) (Joins (IsTrace g b) (IsTrace g c)) (IsTrace g (b then c)) t (λ u. join g b c u)
    (Joins-assoc (IsStatementTrace g s) (IsTrace g b) (IsTrace g c) t h)

-- A loop with no turn left does nothing.
pub loop_over : (g : Geometry) (c b : Sequence) → Same g (andthen (loop zero c) b) b
loop_over g c b = record { to = λ t h. Joins-nil (IsTrace g b) t h; from = λ t h. ([], t, refl, refl, h) }

-- A loop's next turn.
pub loop_turn : (g : Geometry) (n : ℕ) (c b : Sequence)
    → Same g (andthen (loop (suc n) c) b) (c then andthen (loop n c) b)
loop_turn g n c b = record {
  to = λ t h. join g c (andthen (loop n c) b) t (Joins-assoc (IsTrace g c) (Repeats n (IsTrace g c)) (IsTrace g b) t h);
  from =
      λ t h. Joins-back (IsTrace g c) (Repeats n (IsTrace g c)) (IsTrace g b) t (split g c (andthen (loop n c) b) t h);
}

head_tail : (a : Action) (u v t : List Action) (x : Action) → a ∷ t ≡ u ++ v → u ≡ x ∷ [] → (a ≡ x) × (t ≡ v)
head_tail a u v t x e is = let f : a ∷ t ≡ x ∷ v = e ∙ ap (λ w. w ++ v) is in (cc, cc)

-- A step's action, and what follows.
pub step_does : (g : Geometry) (s : Step) (b : Sequence) (a : Action) (t : List Action)
    → IsTrace g (andthen (step s) b) (a ∷ t) → Does g s a × IsTrace g b t
step_does g s b a t h =
    let e = head_tail a h.0 h.1 t h.3.0 h.2 h.3.1 in
    (subst (Does g s) (sym e.0) h.3.2, subst (IsTrace g b) (sym e.1) h.4)

pub does_step : (g : Geometry) (s : Step) (b : Sequence) (a : Action) (t : List Action) → Does g s a → IsTrace g b t
    → IsTrace g (andthen (step s) b) (a ∷ t)
does_step g s b a t d h = (a ∷ [], t, refl, (a, refl, d), h)

branch_trace : (g : Geometry) (bs : Alternatives) (i : ℕ) (t : List Action) → IsBranchTrace g bs i t
    → IsTrace g (branch_at bs i) t
branch_trace g none i t h = absurd h
branch_trace g (either b bs) zero t h = h
branch_trace g (either b bs) (suc i) t h = branch_trace g bs i t h

trace_branch : (g : Geometry) (bs : Alternatives) (i : ℕ) (t : List Action) → i < branch_count bs
    → IsTrace g (branch_at bs i) t → IsBranchTrace g bs i t
trace_branch g none i t lt h = absurd (omega arith)
trace_branch g (either b bs) zero t lt h = h
trace_branch g (either b bs) (suc i) t lt h = trace_branch g bs i t (omega arith) h

branch_below : (g : Geometry) (bs : Alternatives) (i : ℕ) (t : List Action) → IsBranchTrace g bs i t
    → i < branch_count bs
branch_below g none i t h = absurd h
branch_below g (either b bs) zero t h = omega arith
branch_below g (either b bs) (suc i) t h = let r = branch_below g bs i t h in omega arith

-- A choice's action, and what follows.
pub choice_does : (g : Geometry) (bs : Alternatives) (k : Sequence) (a : Action) (t : List Action)
    → IsTrace g (andthen (choice bs) k) (a ∷ t)
    → (i : ℕ) × (a ≡ Choose i) × (i < branch_count bs) × IsTrace g (branch_at bs i then k) t
choice_does g bs k a t h =
    let c = h.3 in
    let e : a ∷ t ≡ Choose c.0 ∷ (c.1 ++ h.1) = h.2 ∙ ap (λ u. u ++ h.1) c.2 in
    let tail : t ≡ c.1 ++ h.1 = cc in (
      c.0,
      cc,
      branch_below g bs c.0 c.1 c.3,
      join g (branch_at bs c.0) k t (c.1, h.1, tail, branch_trace g bs c.0 c.1 c.3, h.4),
    )

pub does_choice : (g : Geometry) (bs : Alternatives) (k : Sequence) (i : ℕ) (t : List Action) → i < branch_count bs
    → IsTrace g (branch_at bs i then k) t → IsTrace g (andthen (choice bs) k) (Choose i ∷ t)
does_choice g bs k i t lt h =
    let s = split g (branch_at bs i) k t h in
    (Choose i ∷ s.0, s.1, ap (λ u. Choose i ∷ u) s.2, (i, s.0, refl, trace_branch g bs i s.0 lt s.3), s.4)

-- Neither a step nor a choice has the empty trace.
pub step_acts : (g : Geometry) (s : Step) (k : Sequence) → IsTrace g (andthen (step s) k) [] → ⊥
step_acts g s k h = let e : [] ≡ h.3.0 ∷ h.1 = h.2 ∙ ap (λ u. u ++ h.1) h.3.1 in cc

pub choice_acts : (g : Geometry) (bs : Alternatives) (k : Sequence) → IsTrace g (andthen (choice bs) k) [] → ⊥
choice_acts g bs k h = let e : [] ≡ Choose h.3.0 ∷ (h.3.1 ++ h.1) = h.2 ∙ ap (λ u. u ++ h.1) h.3.2 in cc
