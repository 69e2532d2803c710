-- Each body of a plan has a trace, and so has what is left of it at each place.
use Rattle.std.proofs.Common.{◌≡◌, ℕ, zero, suc, ◌+◌, ◌<◌, ◌≤◌, List, [], ◌∷◌, ◌++◌, length, get_or, refl, sym, subst}
use Rattle.std.proofs.Common.{arith}
use Rattle.std.specs.Prelude.{IsTrue, slice_get, Some}
use Rattle.std.proofs.lemmas.Bool.{le-leb, lt-ltb}
use Rattle.pp_settings.specs.declared.extent.Extent.{Extent}
use Rattle.pp_settings.specs.Layout.{Geometry, has_page, HasPage, IsExtent, IsLayout}
use Rattle.pp_plan.specs.Tree.{Step, fix, unfix, latch, unlatch, gather, scatter, Statement, step, loop, choice}
use Rattle.pp_plan.specs.Tree.{Sequence, skip, andthen}
use Rattle.pp_plan.specs.Tree.{Alternatives, none, either, branch_count}
use Rattle.pp_plan.specs.Rules.{IsStep, IsStatement, IsSequence, AreAlternatives}
use Rattle.pp_plan.specs.declared.action.Action.{Action}
use Rattle.pp_plan.specs.declared.action.Action.TheVariants.{Fix, Unfix, Latch, Unlatch, Gather, Scatter, Choose}
use Rattle.pp_cursor.specs.declared.cursor.Entry.{Entry}
use Rattle.pp_plan.specs.Traces.{Does, Repeats, IsStatementTrace, IsTrace, IsBranchTrace}
use Rattle.pp_cursor.specs.Left.{◌then◌, sequence_drop, first_rest_of, Place, body_at, outside, left}
use Rattle.pp_cursor.proofs.Sequences.{join}
use Rattle.pp_cursor.proofs.Paths.{drop_keeps, body_keeps, rest_keeps}

abbrev pub Lasts : Geometry → Sequence → Type 0
Lasts g b = (t : List Action) × IsTrace g b t

first_page : (e : Extent) → IsExtent e → IsTrue (has_page e.first e)
first_page e h =
    rw (le-leb e.first e.first (omega arith), lt-ltb e.first (e.first + e.count) (omega (arith, h.some))) refl

extent_at : (es : List Extent) (r : ℕ) → r < length es → (e : Extent) × (slice_get es r ≡ Some e) × (e ≡ get_or es r e)
extent_at [] r lt = absurd (omega arith)
extent_at (e ∷ es) zero lt = (e, refl, refl)
extent_at (e ∷ es) (suc r) lt = extent_at es r (omega arith)

region_has : (g : Geometry) (r : ℕ) → IsLayout g → r < length g.extents → (page : ℕ) × HasPage g r page
region_has g r l lt =
    let f = extent_at g.extents r lt in
    (f.0.first, (f.0, f.1, first_page f.0 (subst IsExtent (sym f.2) (l.extents r f.0 lt))))

step_lasts : (g : Geometry) (slots : ℕ) (s : Step) → IsLayout g → IsStep slots (length g.extents) s
    → (a : Action) × Does g s a
step_lasts g slots (fix s r) l h = let p = region_has g r l h.1 in (Fix s p.0, (refl, p.1))
step_lasts g slots (unfix s) l h = (Unfix s, refl)
step_lasts g slots (latch s m) l h = (Latch s m, (refl, refl))
step_lasts g slots (unlatch s) l h = (Unlatch s, refl)
step_lasts g slots (gather s r) l h = let p = region_has g r l h.1 in (Gather s p.0, (refl, p.1))
step_lasts g slots (scatter s) l h = (Scatter s, refl)

repeats_last : (P : List Action → Type 0) (n : ℕ) → (t : List Action) × P t → (t : List Action) × Repeats n P t
repeats_last P zero h = ([], refl)
repeats_last P (suc n) h = let r = repeats_last P n h in (h.0 ++ r.0, (h.0, r.0, refl, h.1, r.1))

mutual
  statement_lasts : (g : Geometry) (slots : ℕ) (s : Statement) → IsLayout g → IsStatement slots (length g.extents) s
      → (t : List Action) × IsStatementTrace g s t
  statement_lasts g slots (step s) l h = let a = step_lasts g slots s l h in (a.0 ∷ [], (a.0, refl, a.1))
  statement_lasts g slots (loop n b) l h = repeats_last (IsTrace g b) n (body_lasts g slots b l h.3)
  statement_lasts g slots (choice bs) l h = let u = first_lasts g slots bs l h.0 h.2 in
      (Choose 0 ∷ u.0, (0, u.0, refl, u.1))

  pub body_lasts : (g : Geometry) (slots : ℕ) (b : Sequence) → IsLayout g → IsSequence slots (length g.extents) b
      → Lasts g b
  body_lasts g slots skip l h = ([], refl)
  body_lasts g slots (andthen s b) l h =
      let u = statement_lasts g slots s l h.0 in
      let v = body_lasts g slots b l h.1 in
      (u.0 ++ v.0, (u.0, v.0, refl, u.1, v.1))

  first_lasts : (g : Geometry) (slots : ℕ) (bs : Alternatives) → IsLayout g → 1 ≤ branch_count bs
      → AreAlternatives slots (length g.extents) bs → (u : List Action) × IsBranchTrace g bs 0 u
  first_lasts g slots none l some h = absurd (omega arith)
  first_lasts g slots (either b bs) l some h = body_lasts g slots b l h.0

then_lasts : (g : Geometry) (b c : Sequence) → Lasts g b → Lasts g c → Lasts g (b then c)
then_lasts g b c x y = (x.0 ++ y.0, join g b c (x.0 ++ y.0) (x.0, y.0, refl, x.1, y.1))

after_lasts : (g : Geometry) (slots : ℕ) (d : Sequence) (n : ℕ) → IsLayout g → IsSequence slots (length g.extents) d
    → Lasts g (first_rest_of d n)
after_lasts g slots skip n l h = ([], refl)
after_lasts g slots (andthen (step s) k) n l h = body_lasts g slots k l h.1
after_lasts g slots (andthen (loop m c) k) n l h =
    let u = repeats_last (IsTrace g c) n (body_lasts g slots c l h.0.3) in
    let v = body_lasts g slots k l h.1 in
    (u.0 ++ v.0, (u.0, v.0, refl, u.1, v.1))
after_lasts g slots (andthen (choice bs) k) n l h = body_lasts g slots k l h.1

outside_lasts : (g : Geometry) (slots : ℕ) (b : Sequence) (es : List Entry) → IsLayout g
    → IsSequence slots (length g.extents) b → Lasts g (outside b es)
outside_lasts g slots b [] l h = ([], refl)
outside_lasts g slots b (e ∷ es) l h =
    let d = sequence_drop e.index (body_at b es) in
    then_lasts g (first_rest_of d e.turns) (outside b es)
    (after_lasts g slots d e.turns l
    (drop_keeps slots (length g.extents) e.index (body_at b es) (body_keeps slots (length g.extents) b es h)))
    (outside_lasts g slots b es l h)

pub left_lasts : (g : Geometry) (slots : ℕ) (b : Sequence) (p : Place) → IsLayout g
    → IsSequence slots (length g.extents) b → Lasts g (left b p)
left_lasts g slots b p l h =
    let d = sequence_drop p.index (body_at b p.entries) in
    then_lasts g d (outside b p.entries) (body_lasts g slots d l (rest_keeps slots (length g.extents) b p h))
    (outside_lasts g slots b p.entries l h)
