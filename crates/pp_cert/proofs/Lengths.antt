-- No trace is longer than the longest, and one is as long.
use Rattle.std.proofs.Common.{◌≡◌, ℕ, zero, suc, ◌+◌, ◌*◌, ◌<◌, ◌≤◌, true, false, List, [], ◌∷◌, ◌++◌, length, get_or}
use Rattle.std.proofs.Common.{refl, ap, ◌∙◌, arith, length-append}
use Rattle.std.specs.Prelude.{◌&&◌, nat_le, nat_lt}
use borrow.Author.Tests.{leb-true, leb-false}
use Rattle.std.proofs.lemmas.Bool.Decides.{nat_tests}
use Rattle.std.proofs.lemmas.Option.{slice_get-get_or}
use Rattle.pp_settings.specs.declared.extent.Extent.{Extent}
use Rattle.pp_settings.specs.Layout.{Geometry, HasPage, IsLayout, IsExtent, has_page}
use Rattle.pp_plan.specs.declared.action.Action.{Action}
use Rattle.pp_plan.specs.declared.action.Action.TheVariants.{Fix, Unfix, Latch, Unlatch, Gather, Scatter, Choose}
use Rattle.pp_plan.specs.Tree.{Step, fix, unfix, latch, unlatch, gather, scatter, Statement, step, loop, choice}
use Rattle.pp_plan.specs.Tree.{Sequence, skip, andthen, Alternatives, none, either, branch_count}
use Rattle.pp_plan.specs.Traces.{Repeats, IsStatementTrace, IsTrace, IsBranchTrace}
use Rattle.pp_plan.specs.Rules.{IsStatement, IsSequence, AreAlternatives}
use Rattle.pp_cert.specs.Longest.{statement_longest, sequence_longest, alternatives_longest, IsLongest}

module _ (g : Geometry) where
  repeats_bound : (n m : ℕ) (P : List Action → Type 0) (h : (u : List Action) → P u → length u ≤ m) (t : List Action)
      → Repeats n P t → length t ≤ n * m
  repeats_bound zero m P h t r = let e = ap length r in omega arith
  repeats_bound (suc n) m P h t r =
      let e = ap length r.2 in
      let f : suc n * m ≡ m + n * m = omega arith in
      omega (arith, length-append r.0 r.1, h r.0 r.3, repeats_bound n m P h r.1 r.4)

  mutual
    statement_bound : (s : Statement) (t : List Action) → IsStatementTrace g s t → length t ≤ statement_longest s
    statement_bound (step s) t h = let e = ap length h.1 in omega arith
    statement_bound (loop n b) t h = repeats_bound n (sequence_longest b) (IsTrace g b) (sequence_bound b) t h
    statement_bound (choice bs) t h = let e = ap length h.2 in omega (arith, branch_bound bs h.0 h.1 h.3)

    pub sequence_bound : (b : Sequence) (t : List Action) → IsTrace g b t → length t ≤ sequence_longest b
    sequence_bound skip t h = let e = ap length h in omega arith
    sequence_bound (andthen s b) t h =
        let e = ap length h.2 in
        omega (arith, length-append h.0 h.1, statement_bound s h.0 h.3, sequence_bound b h.1 h.4)

    branch_bound : (bs : Alternatives) (i : ℕ) (t : List Action) → IsBranchTrace g bs i t
        → length t ≤ alternatives_longest bs
    branch_bound none i t h = absurd h
    branch_bound (either b bs) zero t h = omega (arith, sequence_bound b t h)
    branch_bound (either b bs) (suc i) t h = omega (arith, branch_bound bs i t h)

first_page : (e : Extent) → IsExtent e → has_page e.first e ≡ true
first_page e h =
    let below : nat_le e.first e.first ≡ true = grind (arith, nat_tests) in
    let above : nat_lt e.first (e.first + e.count) ≡ true = let some : 1 ≤ e.count = h.some in
    grind (arith, nat_tests) in
    (λ i. below i && nat_lt e.first (e.first + e.count)) ∙ above

no_extent : Extent
no_extent = record { first = 0; count = 0; class = 0 }

-- each region has a page
pub page_of : (g : Geometry) (r : ℕ) → IsLayout g → r < length g.extents → (page : ℕ) × HasPage g r page
page_of g r l h =
    let e : Extent = get_or g.extents r no_extent in
    (e.first, (e, slice_get-get_or g.extents r no_extent h, first_page e (l.extents r no_extent h)))

module _ (g : Geometry) (l : IsLayout g) (slots : ℕ) where
  pub repeats_reached : (n m : ℕ) (P : List Action → Type 0) (u : List Action) → length u ≡ m → P u → (t : List Action)
      × (length t ≡ n * m) × Repeats n P t
  repeats_reached zero m P u e p = ([], omega arith, refl)
  repeats_reached (suc n) m P u e p =
      let r = repeats_reached n m P u e p in
      let f : suc n * m ≡ m + n * m = omega arith in
      (u ++ r.0, omega (arith, length-append u r.0, e, r.1, f), (u, r.0, refl, p, r.2))

  step_reached : (s : Step) → IsStatement slots (length g.extents) (step s) → (t : List Action) × (length t ≡ 1)
      × IsStatementTrace g (step s) t
  step_reached (fix s r) h = let p = page_of g r l h.1 in (Fix s p.0 ∷ [], refl, (Fix s p.0, refl, (refl, p.1)))
  step_reached (unfix s) h = (Unfix s ∷ [], refl, (Unfix s, refl, refl))
  step_reached (latch s m) h = (Latch s m ∷ [], refl, (Latch s m, refl, (refl, refl)))
  step_reached (unlatch s) h = (Unlatch s ∷ [], refl, (Unlatch s, refl, refl))
  step_reached (gather s r) h =
      let p = page_of g r l h.1 in
      (Gather s p.0 ∷ [], refl, (Gather s p.0, refl, (refl, p.1)))
  step_reached (scatter s) h = (Scatter s ∷ [], refl, (Scatter s, refl, refl))

  mutual
    pub statement_reached : (s : Statement) → IsStatement slots (length g.extents) s → (t : List Action)
        × (length t ≡ statement_longest s) × IsStatementTrace g s t
    statement_reached (step s) h = step_reached s h
    statement_reached (loop n b) h =
        let r = sequence_reached b h.3 in
        repeats_reached n (sequence_longest b) (IsTrace g b) r.0 r.1 r.2
    statement_reached (choice bs) h =
        let r = branch_reached bs h.0 h.2 in
        (Choose r.0 ∷ r.1, omega (arith, r.2), (r.0, r.1, refl, r.3))

    pub sequence_reached : (b : Sequence) → IsSequence slots (length g.extents) b → (t : List Action)
        × (length t ≡ sequence_longest b) × IsTrace g b t
    sequence_reached skip h = ([], refl, refl)
    sequence_reached (andthen s b) h =
        let p = statement_reached s h.0 in
        let q = sequence_reached b h.1 in
        (p.0 ++ q.0, omega (arith, length-append p.0 q.0, p.1, q.1), (p.0, q.0, refl, p.2, q.2))

    branch_reached : (bs : Alternatives) → 1 ≤ branch_count bs → AreAlternatives slots (length g.extents) bs → (i : ℕ)
        × (t : List Action) × (length t ≡ alternatives_longest bs) × IsBranchTrace g bs i t
    branch_reached none some h = absurd (omega (arith, some))
    branch_reached (either b none) some h =
        let p = sequence_reached b h.0 in
        (zero, p.0, omega (arith, p.1), p.2)
    branch_reached (either b (either d ds)) some h =
        let p = sequence_reached b h.0 in
        let q = branch_reached (either d ds) (omega arith) h.1 in
        elim (nat_le (sequence_longest b) (alternatives_longest (either d ds))) as (λ x. nat_le (sequence_longest b)
        (alternatives_longest (either d ds)) ≡ x → (i : ℕ) × (t : List Action)
        × (length t ≡ alternatives_longest (either b (either d ds))) × IsBranchTrace g (either b (either d ds)) i t) [
          | true ↦ λ e. (
            suc q.0,
            q.1,
            (let le : sequence_longest b ≤ alternatives_longest (either d ds) =
                leb-true (sequence_longest b) (alternatives_longest (either d ds)) e in omega (arith, q.2)),
            q.3,
          )
          | false ↦ λ e. (
            zero,
            p.0,
            (let lt : alternatives_longest (either d ds) < sequence_longest b =
                leb-false (sequence_longest b) (alternatives_longest (either d ds)) e in omega (arith, p.1)),
            p.2,
          )
        ] refl

  pub longest_is : (b : Sequence) → IsSequence slots (length g.extents) b → IsLongest g b (sequence_longest b)
  longest_is b h = record { bound = sequence_bound g b; reached = sequence_reached b h }
