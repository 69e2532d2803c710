-- Laws of one list after another.
use Rattle.std.proofs.Common.{◌≡◌, List, [], ◌++◌, refl, sym, ap, ◌∙◌, append_assoc, subst}
use Rattle.pp_plan.specs.declared.action.Action.{Action}
use Rattle.pp_plan.specs.Traces.{Joins}

pub Joins-assoc : (P Q R : List Action → Type 0) (t : List Action) → Joins (Joins P Q) R t → Joins P (Joins Q R) t
Joins-assoc P Q R t h =
    let f = h.3 in
    (f.0, f.1 ++ h.1, h.2 ∙ ap (λ x. x ++ h.1) f.2 ∙ append_assoc f.0 f.1 h.1, f.3, (f.1, h.1, refl, f.4, h.4))

pub Joins-back : (P Q R : List Action → Type 0) (t : List Action) → Joins P (Joins Q R) t → Joins (Joins P Q) R t
Joins-back P Q R t h =
    let f = h.4 in
    (h.0 ++ f.0, f.1, h.2 ∙ ap (λ x. h.0 ++ x) f.2 ∙ sym (append_assoc h.0 f.0 f.1), (h.0, f.0, refl, h.3, f.3), f.4)

-- The second list may be another.
pub Joins-rest : (P Q R : List Action → Type 0) (t : List Action) → ((u : List Action) → Q u → R u) → Joins P Q t
    → Joins P R t
Joins-rest P Q R t f h = (h.0, h.1, h.2, h.3, f h.1 h.4)

pub Joins-nil : (Q : List Action → Type 0) (t : List Action) → Joins (λ u. u ≡ []) Q t → Q t
Joins-nil Q t h = subst Q (sym (h.2 ∙ ap (λ u. u ++ h.1) h.3)) h.4
