-- What a cursor stands for before and after a move, and what its answers say.
use Rattle.std.proofs.Common.{◌≡◌, ℕ, List, [], ◌∷◌, ◌++◌, length, refl, sym, ap, append_assoc, subst, arith}
use Rattle.std.specs.Prelude.{◌↔◌}
use Rattle.std.proofs.lemmas.List.{append-nil}
use Rattle.pp_settings.specs.Layout.{Geometry}
use Rattle.pp_plan.specs.Tree.{fix, unfix, latch, unlatch, gather, scatter, Statement, step, loop, choice}
use Rattle.pp_plan.specs.Tree.{Sequence, skip, andthen}
use Rattle.pp_plan.specs.Rules.{IsStatement, IsSequence}
use Rattle.pp_plan.specs.Terms.{Terms, IsPlan}
use Rattle.pp_plan.specs.declared.action.Action.{Action}
use Rattle.pp_plan.specs.declared.action.Ask.{Ask}
use Rattle.pp_plan.specs.declared.action.Ask.TheVariants as ask
use Rattle.pp_cursor.specs.declared.cursor.Entry.{Entry}
use Rattle.pp_plan.specs.Traces.{IsTrace}
use Rattle.pp_cursor.specs.Left.{◌then◌, sequence_drop, Place, body_at, outside, left}
use Rattle.pp_plan.specs.PlanTraces.{IsTraceOf, PlanAsks}
use Rattle.pp_cursor.specs.Cursor.{IsReady, IsAt, StandsAt, NamesAction, IsAskOf}
use Rattle.pp_cursor.specs.CursorMoves.{moved_by, Same, first_ask, ask_at, HasFewBranches}
use Rattle.pp_cursor.specs.Asked.{asked}
use Rattle.pp_plan.specs.FlatList.{statement_ask}
use Rattle.pp_cursor.proofs.Sequences.{then-skip, step_does, choice_does, step_acts, choice_acts}
use Rattle.pp_cursor.proofs.Paths.{rest_keeps, next_keeps}
use Rattle.pp_cursor.proofs.Lasting.{body_lasts, left_lasts}
use Rattle.pp_cursor.proofs.Passing.{Passes, passes, does_named}
use Rattle.pp_cursor.proofs.OneAsk.{ask_is}

-- ---- what is next

-- A body that begins with a step or a choice, or that is empty at the end of the outermost one, goes on only with
-- what its ask names.
named_by : (g : Geometry) (d o : Sequence) (es : List Entry) (a : Action) (rest : List Action) → IsReady d es
    → (es ≡ [] → o ≡ skip) → IsTrace g (d then o) (a ∷ rest) → NamesAction g (first_ask d) a
named_by g skip o [] a rest ready out h =
    absurd (let e : a ∷ rest ≡ [] = subst (λ c. IsTrace g c (a ∷ rest)) (out refl) h in cc)
named_by g skip o (e ∷ es) a rest ready out h = absurd ready
named_by g (andthen (step s) k) o es a rest ready out h = does_named g s a (step_does g s (k then o) a rest h).0
named_by g (andthen (loop n c) k) o es a rest ready out h = absurd ready
named_by g (andthen (choice bs) k) o es a rest ready out h =
    let d = choice_does g bs (k then o) a rest h in
    subst (λ x. NamesAction g (statement_ask (choice bs)) x) (sym d.1) d.2

outside-nil : (b : Sequence) (es : List Entry) → es ≡ [] → outside b es ≡ skip
outside-nil b es h = ap (outside b) h

pub goes_named : (g : Geometry) (b : Sequence) (p : Place) (a : Action) (rest : List Action) → IsAt b p
    → IsTrace g (left b p) (a ∷ rest) → NamesAction g (ask_at b p) a
goes_named g b p a rest at h =
    named_by g (sequence_drop p.index (body_at b p.entries)) (outside b p.entries) p.entries a rest at.ready
    (outside-nil b p.entries) h

-- The end is asked exactly where nothing is left.
ended_by : (g : Geometry) (d o : Sequence) (es : List Entry) → IsReady d es → (es ≡ [] → o ≡ skip)
    → (first_ask d ≡ ask.End) ↔ IsTrace g (d then o) []
ended_by g skip o [] ready out = ((λ _. subst (λ c. IsTrace g c []) (sym (out refl)) refl), (λ _. refl))
ended_by g skip o (e ∷ es) ready out = absurd ready
ended_by g (andthen (step (fix s r)) k) o es ready out = ((λ e. cc), (λ h. absurd (step_acts g (fix s r) (k then o) h)))
ended_by g (andthen (step (unfix s)) k) o es ready out = ((λ e. cc), (λ h. absurd (step_acts g (unfix s) (k then o) h)))
ended_by g (andthen (step (latch s m)) k) o es ready out =
    ((λ e. cc), (λ h. absurd (step_acts g (latch s m) (k then o) h)))
ended_by g (andthen (step (unlatch s)) k) o es ready out =
    ((λ e. cc), (λ h. absurd (step_acts g (unlatch s) (k then o) h)))
ended_by g (andthen (step (gather s r)) k) o es ready out =
    ((λ e. cc), (λ h. absurd (step_acts g (gather s r) (k then o) h)))
ended_by g (andthen (step (scatter s)) k) o es ready out =
    ((λ e. cc), (λ h. absurd (step_acts g (scatter s) (k then o) h)))
ended_by g (andthen (loop n c) k) o es ready out = absurd ready
ended_by g (andthen (choice bs) k) o es ready out = ((λ e. cc), (λ h. absurd (choice_acts g bs (k then o) h)))

-- ---- what the answers of a cursor say of the lists that it stands for

pub asks_end : (plan : Terms) (p : Place) (before : List Action) → StandsAt plan p before
    → (ask_at plan.body p ≡ ask.End) ↔ IsTraceOf plan before
asks_end plan p before s =
    let g = plan.layout in
    let b = plan.body in
    let e =
    ended_by g (sequence_drop p.index (body_at b p.entries)) (outside b p.entries) p.entries s.at.ready
    (outside-nil b p.entries) in (
      (λ h. subst (IsTrace g b) (append-nil before) (s.from [] (e.0 h))),
      (λ h. e.1 (s.to [] (subst (IsTrace g b) (sym (append-nil before)) h))),
    )

pub asks_named : (plan : Terms) (p : Place) (before : List Action) (a : Action) → IsPlan plan → StandsAt plan p before
    → PlanAsks plan before a ↔ NamesAction plan.layout (ask_at plan.body p) a
asks_named plan p before a facts s = (
  (λ h. goes_named plan.layout plan.body p a h.0 s.at (s.to (a ∷ h.0) h.1)),
  (λ n.
      let f =
      passes plan.layout (length plan.slots) (length plan.layout.extents) plan.body p a facts.body s.at.path n in
      let t = left_lasts plan.layout (length plan.slots) plan.body (moved_by a p) facts.layout facts.body.parts in
      (t.0, s.from (a ∷ t.0) (f.follows.from t.0 t.1))),
)

-- The same of an answer that is the ask at the place.
pub answers_named : (plan : Terms) (p : Place) (x : Ask) (before : List Action) (a : Action) → IsPlan plan
    → x ≡ ask_at plan.body p → StandsAt plan p before → PlanAsks plan before a ↔ NamesAction plan.layout x a
answers_named plan p x before a facts is s =
    subst (λ y. PlanAsks plan before a ↔ NamesAction plan.layout y a) (sym is) (asks_named plan p before a facts s)

known_by : (slots regions : ℕ) (d : Sequence) → IsSequence slots regions d → IsAskOf slots regions (first_ask d)
known_by slots regions skip h = tt
known_by slots regions (andthen (step (fix s r)) k) h = h.0
known_by slots regions (andthen (step (unfix s)) k) h = h.0
known_by slots regions (andthen (step (latch s m)) k) h = h.0
known_by slots regions (andthen (step (unlatch s)) k) h = h.0
known_by slots regions (andthen (step (gather s r)) k) h = h.0
known_by slots regions (andthen (step (scatter s)) k) h = h.0
known_by slots regions (andthen (loop n b) k) h = tt
known_by slots regions (andthen (choice bs) k) h = (h.0.0, h.0.1)

pub asks_known : (plan : Terms) (p : Place) → IsPlan plan
    → IsAskOf (length plan.slots) (length plan.layout.extents) (ask_at plan.body p)
asks_known plan p facts =
    known_by (length plan.slots) (length plan.layout.extents) (sequence_drop p.index (body_at plan.body p.entries))
    (rest_keeps (length plan.slots) (length plan.layout.extents) plan.body p facts.body.parts)

-- ---- moves

pub stands_at_start : (plan : Terms) (q : Place) → IsPlan plan → IsAt plan.body q
    → Same plan.layout (left plan.body (record { entries = []; index = 0 })) (left plan.body q) → StandsAt plan q []
stands_at_start plan q facts at same =
    let e : left plan.body (record { entries = []; index = 0 }) ≡ plan.body = then-skip plan.body in
    record {
      at = at;
      begins = body_lasts plan.layout (length plan.slots) plan.body facts.layout facts.body.parts;
      to = λ t i. same.to t (subst (λ x. IsTrace plan.layout x t) (sym e) i);
      from = λ t i. subst (λ x. IsTrace plan.layout x t) e (same.from t i);
    }

stands_after : (plan : Terms) (p r : Place) (a : Action) → IsPlan plan → Passes plan.layout plan.body p a
    → Same plan.layout (left plan.body (moved_by a p)) (left plan.body r) → IsAt plan.body r → (before : List Action)
    → StandsAt plan p before → StandsAt plan r (before ++ a ∷ [])
stands_after plan p r a facts f same at before s =
    let g = plan.layout in
    let b = plan.body in
    let from : (t : List Action) → IsTrace g (left b r) t → IsTrace g b ((before ++ a ∷ []) ++ t) =
    λ t i. subst (IsTrace g b) (sym (append_assoc before (a ∷ []) t))
    (s.from (a ∷ t) (f.follows.from t (same.from t i))) in
    let rest = left_lasts g (length plan.slots) b r facts.layout facts.body.parts in
    record {
      at = at;
      begins = (rest.0, from rest.0 rest.1);
      to = λ t i. same.to t (f.follows.to t (s.to (a ∷ t) (subst (IsTrace g b) (append_assoc before (a ∷ []) t) i)));
      from = from;
    }

-- An action that is asked is gone past, and then the place is settled.
pub stands_passed : (plan : Terms) (p q r : Place) (a : Action) (after : List Action) → IsPlan plan
    → StandsAt plan p after → PlanAsks plan after a → q ≡ moved_by a p
    → Same plan.layout (left plan.body q) (left plan.body r) → IsAt plan.body r → (before : List Action)
    → StandsAt plan p before → StandsAt plan r (before ++ a ∷ [])
stands_passed plan p q r a after facts t asks moved same at before s =
    let f =
    passes plan.layout (length plan.slots) (length plan.layout.extents) plan.body p a facts.body s.at.path
    ((asks_named plan p after a facts t).0 asks) in
    stands_after plan p r a facts f (subst (λ o. Same plan.layout (left plan.body o) (left plan.body r)) moved same) at
    before s

-- What is asked after a named action, at the place that is settled.
pub asked_after : (plan : Terms) (r : Place) (x : Ask) (after : List Action) → IsPlan plan → x ≡ ask_at plan.body r
    → StandsAt plan r after → x ≡ asked plan after
asked_after plan r x after facts is s =
    let within =
    subst (λ y. IsAskOf (length plan.slots) (length plan.layout.extents) y) (sym is) (asks_known plan r facts) in
    ask_is plan after x facts within (λ a. answers_named plan r x after a facts is s)

-- ---- the next statement

few_branches : (slots regions : ℕ) (s : Statement) → IsStatement slots regions s → HasFewBranches s
few_branches slots regions (step s) rules = tt
few_branches slots regions (loop n c) rules = tt
few_branches slots regions (choice bs) rules = let few = rules.1 in omega arith

pub next_has_few : (slots regions : ℕ) (b : Sequence) (p : Place) (s : Statement) (k : Sequence)
    → IsSequence slots regions b → sequence_drop p.index (body_at b p.entries) ≡ andthen s k → HasFewBranches s
next_has_few slots regions b p s k rules h = few_branches slots regions s (next_keeps slots regions b p s k rules h)
