-- What follows where every test of a certificate passes.
use Rattle.std.proofs.Common.{◌≡◌, ℕ, ◌≤◌, Bool, Some, None, List, [], ◌∷◌, ◌++◌, length, refl, sym, ap, subst, ◌∙◌, arith}
use Rattle.std.proofs.Common.{length-append}
use Rattle.std.specs.Prelude.{is_some}
use Rattle.pp_settings.specs.Layout.{Geometry}
use Rattle.pp_plan.specs.declared.action.Action.{Action}
use Rattle.pp_plan.specs.declared.action.Action.TheVariants.{Latch}
use Rattle.pp_plan.specs.Traces.{IsTrace, Begins}
use Rattle.pp_plan.specs.Rules.{uses_bundle}
use Rattle.pp_plan.specs.Terms.{Terms, IsPlan}
use Rattle.pp_cert.specs.Held.{Holdings, size_of, IsOrderly, IsAboveLatched}
use Rattle.pp_cert.specs.Notes.{Entries}
use Rattle.pp_cert.specs.Walk.{Claims, note_at, first_fault, sequence_end, tests}
use Rattle.pp_cert.specs.Accepted.{IsAccepted}
use Rattle.pp_cert.proofs.Passing.{AllPass, all_pass}
use Rattle.pp_cert.proofs.Fits.{Fits, fits_nothing, fits_empty}
use Rattle.pp_cert.proofs.Goes.{Goes, goes_end_small, goes_split, goes_held}
use Rattle.pp_cert.proofs.SlotKinds.{keeps_own_kinds}
use Rattle.pp_cert.proofs.Sound.{sequence_goes}
use Rattle.pp_cert.proofs.Lengths.{sequence_bound}

length_zero : (n : Entries) → length n ≡ 0 → n ≡ []
length_zero [] h = refl
length_zero (e ∷ es) h = absurd (omega (arith, h))

-- ---- the theorem, for the layout that the plan was read for

module _ (c : Claims) (p : Terms) (is : IsPlan p) (h : first_fault p.layout c (tests p) ≡ None) where
  all : AllPass p.layout p c
  all = all_pass p.layout p c h

  -- a whole trace goes from nothing to nothing
  trace_goes : (t : List Action) → IsTrace p.layout p.body t → Goes p.layout c.peak [] t []
  trace_goes t r =
      let kind : ℕ → Bool = uses_bundle p.body in
      let kinds = keeps_own_kinds (length p.slots) (length p.layout.extents) p.body is.body.parts is.unmixed in
      let start : Fits p.layout kind (λ s. 0) (note_at c 0) [] =
      subst (λ n. Fits p.layout kind (λ s. 0) n []) (sym all.first.1) (fits_nothing p.layout kind) in
      let to =
      sequence_goes p.layout is.layout kind c 0 p.body kinds all.first.2 all.walk (λ s. 0) (λ s e. refl) [] start t r in
      let last : note_at c (sequence_end 0 p.body) ≡ [] = length_zero (note_at c (sequence_end 0 p.body)) all.last in
      let none = fits_empty p.layout kind (λ s. 0) to.0 (subst (λ n. Fits p.layout kind (λ s. 0) n to.0) last to.2) in
      subst (λ m. Goes p.layout c.peak [] t m) none to.1

  -- a beginning of a trace goes somewhere
  begin_goes : (t : List Action) → Begins p.layout p.body t → (m : Holdings) × Goes p.layout c.peak [] t m
  begin_goes t b = let s = goes_split p.layout c.peak [] [] t b.0 (trace_goes (t ++ b.0) b.1) in (s.0, s.1)

  goes_orderly : (t : List Action) (m : Holdings) → Goes p.layout c.peak [] t m → IsOrderly p.layout t
  goes_orderly t m go = λ u v s o e hs i.
      let whole : Goes p.layout c.peak [] (u ++ Latch s o ∷ v) m = subst (λ x. Goes p.layout c.peak [] x m) e go in
      let parts = goes_split p.layout c.peak [] m u (Latch s o ∷ v) whole in
      let here : Some parts.0 ≡ Some hs = sym (goes_held p.layout c.peak [] parts.0 u parts.1) ∙ i in
      let same : parts.0 ≡ hs = cc in
      subst (λ x. IsAboveLatched p.layout x s) same parts.2.1

  accepted : IsAccepted (record { plan = p; peak = c.peak; steps = c.steps })
  accepted = record {
    plan = is;
    legal = λ t b. let go = begin_goes t b in ap is_some (goes_held p.layout c.peak [] go.0 t go.1);
    orderly = λ t b. let go = begin_goes t b in goes_orderly t go.0 go.1;
    pins = λ t b.
        let go = begin_goes t b in
        let small = goes_end_small p.layout c.peak [] t go.0 go.1 in
        subst (λ o. size_of o ≤ c.peak) (sym (goes_held p.layout c.peak [] go.0 t go.1)) small;
    steps = λ t b. omega (arith, length-append t b.0, sequence_bound p.layout p.body (t ++ b.0) b.1, all.enough);
    ends = λ t r. goes_held p.layout c.peak [] [] t (trace_goes t r);
    peak = all.peak;
    limit = all.limit;
  }

-- Where no test fails, the plan is accepted with what the certificate claims.
pub accepted_by : (g : Geometry) (c : Claims) (p : Terms) → IsPlan p → first_fault g c (tests p) ≡ None
    → IsAccepted (record { plan = p; peak = c.peak; steps = c.steps })
accepted_by g c p is h =
    accepted c p is (subst (λ x. first_fault x c (tests p) ≡ None) (all_pass g p c h).settings h)
