-- Paragraphs, and the files that they are about.
use Rattle.std.proofs.Common.{◌≡◌, ◌<◌, ◌++◌, ◌∷◌, [], ℕ, List, length, get_or, codes, ap, subst, ◌∙◌, arith}
use Rattle.std.proofs.lemmas.List.{get_or-map, length-map}
use Rattle.std.proofs.lemmas.List.Elements.{Contains-append_left, Contains-append_right, Contains-get_or}
use Rattle.std.specs.List.{Contains}
use Rattle.pp_explain.specs.declared.source.Source.{Source}
use Rattle.pp_shown.specs.Shown.{shown_lines, shown_path}
use Rattle.pp_explain.specs.Paragraphs.{IsAbout, IsParagraph, few_lines, paths_in}

-- A path as it is shown, few lines, and a line feed.
pub made : (path said shown lines bytes : List ℕ) → shown ≡ shown_path path → lines ≡ shown_lines said
    → bytes ≡ shown ++ few_lines 4 lines ++ codes "\n" → IsParagraph path bytes
made path said shown lines bytes begins goes is = record {
  said = said;
  is = is ∙ ap (λ begun. begun ++ few_lines 4 lines ++ codes "\n") begins
      ∙ ap (λ shown. shown_path path ++ few_lines 4 shown ++ codes "\n") goes;
}

first : (one : List ℕ) (others : List (List ℕ)) → Contains (one ∷ others) one
first one others =
    let alone : 0 < length (one ∷ []) = omega arith in
    Contains-append_left (one ∷ []) others one (Contains-get_or (one ∷ []) 0 one alone)

-- About the first of some files.
pub about_first : (one : List ℕ) (others : List (List ℕ)) (bytes : List ℕ) → IsParagraph one bytes
    → IsAbout (one ∷ others) bytes
about_first one others bytes h = record { path = one; given = first one others; paragraph = h }

-- About the second.
pub about_second : (one two : List ℕ) (others : List (List ℕ)) (bytes : List ℕ) → IsParagraph two bytes
    → IsAbout (one ∷ two ∷ others) bytes
about_second one two others bytes h =
    record { path = two; given = Contains-append_right (one ∷ []) (two ∷ others) two (first two others); paragraph = h }

-- About one of those behind some.
pub about_behind : (before : List (List ℕ)) (files : List Source) (k : ℕ) (d : Source) (bytes : List ℕ)
    → k < length files → IsParagraph (get_or files k d).path.now bytes → IsAbout (before ++ paths_in files) bytes
about_behind before files k d bytes below h =
    let path : List ℕ = (get_or files k d).path.now in
    let same : length (paths_in files) ≡ length files = length-map files (λ f. f.path.now) in
    let within : k < length (paths_in files) = omega (arith, same) in
    let there : get_or (paths_in files) k path ≡ path = get_or-map (λ f. f.path.now) files k d path below in
    record {
      path = path;
      given = Contains-append_right before (paths_in files) path
          (subst (Contains (paths_in files)) there (Contains-get_or (paths_in files) k path within));
      paragraph = h;
    }

pub ruleset abouts = (about_first, about_second)
