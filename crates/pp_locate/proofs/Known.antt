-- Words among others.
use Rattle.std.proofs.Common.{◌≡◌, ◌<◌, ◌∙◌, ℕ, List, length, get_or, sym, ap, subst, arith}
use Rattle.std.proofs.lemmas.List.{get_or-map, length-map}
use Rattle.std.proofs.lemmas.List.Elements.{Contains-get_or}
use Rattle.std.specs.Borrow.{Bor}
use Rattle.std.specs.List.{Contains}
use Rattle.pp_locate.specs.Words.{texts}

-- A word that stands in a list is one of its texts.
pub among : (words : List (Bor (List ℕ))) (k : ℕ) (word : Bor (List ℕ)) → k < length words → word ≡ get_or words k word
    → Contains (texts words) word.now
among words k word below is =
    let same : length (texts words) ≡ length words = length-map words (λ w. w.now) in
    let within : k < length (texts words) = omega (arith, same) in
    let there : get_or (texts words) k word.now ≡ word.now =
    get_or-map (λ w. w.now) words k word word.now below ∙ ap (λ (w : Bor (List ℕ)). w.now) (sym is) in
    subst (Contains (texts words)) there (Contains-get_or (texts words) k word.now within)
