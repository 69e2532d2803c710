-- A bundle that is given back page by page: the page on top goes, and with it a pin, until none is left.
use Rattle.std.proofs.Common.{◌≡◌, ◌∙◌, ℕ, None, List, [], ◌∷◌, refl, sym, ap, subst}
use Rattle.std.specs.Prelude.{slice_get}
use Rattle.std.proofs.lemmas.List.{set-set, set-get_or}
use Rattle.pp_frames.specs.Marks.{PageMap}
use Rattle.pp_bundles.specs.Bundles.{PageStacks, pages_at, popped, with_pages}
use Rattle.pp_core.specs.Parts.{Parts}
use Rattle.pp_core.specs.Effects.{unpinned, unpinned_all, CanUnpinAll, scattered}

none_left : (ps : List ℕ) → slice_get ps 0 ≡ None → ps ≡ []
none_left [] e = refl
none_left (p ∷ ps) e = cc

-- Where no page is left, nothing changes.
pub scattered_end : (f : Parts) (place : ℕ) → slice_get (pages_at f.bundles place) 0 ≡ None → scattered f place ≡ f
scattered_end f place none =
    let empty = none_left (pages_at f.bundles place) none in
    let stacks : with_pages f.bundles place [] ≡ f.bundles =
    ap (λ (ps : List ℕ). with_pages f.bundles place ps) (sym empty)
    ∙ ap (λ (xs : List (List ℕ)). record f.bundles { stacks = xs }) (set-get_or f.bundles.stacks place []) in
    let marks : unpinned_all (pages_at f.bundles place) f.marks ≡ f.marks =
    ap (λ (ps : List ℕ). unpinned_all ps f.marks) empty in
    λ i. record f { marks = marks i; bundles = stacks i }

-- The page on top goes.
pub scattered_step : (f g : Parts) (place page : ℕ) → pages_at f.bundles place ≡ page ∷ pages_at g.bundles place
    → g ≡ record f { marks = unpinned f.marks page; bundles = popped f.bundles place }
    → scattered g place ≡ scattered f place
scattered_step f g place page top is =
    let bundles : g.bundles ≡ popped f.bundles place = ap (λ (z : Parts). z.bundles) is in
    let marks : g.marks ≡ unpinned f.marks page = ap (λ (z : Parts). z.marks) is in
    let stacks : with_pages g.bundles place [] ≡ with_pages f.bundles place [] =
    ap (λ (b : PageStacks). with_pages b place []) bundles
    ∙ ap (λ (xs : List (List ℕ)). record f.bundles { stacks = xs }) (set-set f.bundles.stacks place _ []) in
    let all : unpinned_all (pages_at g.bundles place) g.marks ≡ unpinned_all (pages_at f.bundles place) f.marks =
    ap (unpinned_all (pages_at g.bundles place)) marks ∙ sym (ap (λ (ps : List ℕ). unpinned_all ps f.marks) top) in
    ap (λ (z : Parts). record z { marks = unpinned_all (pages_at g.bundles place) g.marks; bundles = with_pages g.bundles place [] }) is
    ∙ (λ i. record f { marks = all i; bundles = stacks i })

-- Those that are left can go.
pub spare_step : (ps qs : List ℕ) (page : ℕ) (m n : PageMap) → ps ≡ page ∷ qs → n ≡ unpinned m page → CanUnpinAll ps m
    → CanUnpinAll qs n
spare_step ps qs page m n top is can =
    let both = subst (λ (xs : List ℕ). CanUnpinAll xs m) top can in subst (CanUnpinAll qs) (sym is) both.1
