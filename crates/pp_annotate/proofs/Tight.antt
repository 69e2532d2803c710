-- What is made of a plan is tight, where it is accepted.
use Rattle.std.proofs.Common.{◌≡◌, ℕ, ◌<◌, ◌≤◌, min, Bool, true, List, [], ◌∷◌, ◌++◌, length, refl, sym, subst, ◌∙◌, arith}
use Rattle.std.proofs.lemmas.List.{append-nil}
use Rattle.pp_settings.specs.Layout.{Geometry}
use Rattle.pp_settings.specs.Limits.{most_slots}
use Rattle.pp_plan.specs.declared.action.Action.{Action}
use Rattle.pp_plan.specs.Tree.{Sequence}
use Rattle.pp_plan.specs.Traces.{IsTrace}
use Rattle.pp_plan.specs.Rules.{uses_bundle}
use Rattle.pp_plan.specs.Terms.{Terms, IsPlan}
use Rattle.pp_cert.specs.Limits.{counted, most_counted}
use Rattle.pp_cert.specs.Walk.{Certifies}
use Rattle.pp_cert.specs.Longest.{sequence_longest, IsLongest}
use Rattle.pp_annotate.specs.Made.{sequence_notes, made_notes, made}
use Rattle.pp_annotate.specs.Annotation.{IsTight}
use Rattle.pp_cert.proofs.Fits.{fits_nothing}
use Rattle.pp_cert.proofs.Passing.{all_pass}
use Rattle.pp_annotate.proofs.Least.{counted_whole}
use Rattle.pp_annotate.proofs.Bundles.{bundles_few, own_kinds}
use Rattle.pp_annotate.proofs.Stands.{Stand, stand_itself}
use Rattle.pp_annotate.proofs.Reached.{At, AllReached, body_reached, greatest_reached}

-- a whole trace goes on by nothing
whole : (g : Geometry) (b : Sequence) (t : List Action) → IsTrace g b t → (rest : List Action) × IsTrace g b (t ++ rest)
whole g b t d = ([], subst (λ u. IsTrace g b u) (sym (append-nil t)) d)

tight_here : (p : Terms) → IsPlan p → Certifies p.layout p (made p)
    → IsLongest p.layout p.body (sequence_longest p.body) → IsTight p (made p)
tight_here p plan h longest =
    let is = all_pass p.layout p (made p) h in
    let g : Geometry = p.layout in
    let kind : ℕ → Bool = uses_bundle p.body in
    let few : (s : ℕ) → kind s ≡ true → s < most_slots = bundles_few p plan in
    let slots : ℕ = length p.slots in
    let stop : ℕ = most_counted p.layout in
    let some : 1 ≤ stop = omega arith in
    let low : (made p).peak < stop = omega (arith, is.peak) in
    let here : Stand (made p).peak (made p).notes 0 (made_notes p) = stand_itself (made_notes p) in
    let start : At g plan.layout (made p) slots stop some kind few low p.body [] [] = ([], refl, fits_nothing g kind) in
    let all : AllReached g plan.layout (made p) slots stop some kind few low p.body ([] ∷ sequence_notes stop kind p.body []) =
    body_reached g plan.layout (made p) slots stop some kind few low p.body 0 p.body [] (own_kinds p plan) refl tt is.first.2
    here.2 is.walk plan.body.parts [] start (whole g p.body) in
    record {
      peak =
          greatest_reached g plan.layout (made p) slots stop some kind few low p.body [] (sequence_notes stop kind p.body []) all;
      steps =
          let full : sequence_longest p.body ≡ min (sequence_longest p.body) counted =
          sym (counted_whole (sequence_longest p.body) (omega (arith, is.limit, is.enough))) in
          (longest.reached.0, longest.reached.1 ∙ full, longest.reached.2);
    }

pub tight : (g : Geometry) (p : Terms) → IsPlan p → Certifies g p (made p)
    → IsLongest p.layout p.body (sequence_longest p.body) → IsTight p (made p)
tight g p plan h longest =
    let same = (all_pass g p (made p) h).settings in
    tight_here p plan (subst (λ x. Certifies x p (made p)) same h) longest
