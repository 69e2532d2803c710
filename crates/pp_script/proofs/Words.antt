-- Reading a line by its first word and the words that follow, where there are more.
use Rattle.std.proofs.Common.{◌≡◌, ◌≢◌, ℕ, ◌==◌, ◌+◌, ◌<◌, List, [], ◌∷◌, length, None, Some, refl, sym, ap, subst, ◌∙◌}
use Rattle.std.proofs.Common.{arith}
use Rattle.std.specs.Prelude.{option_and_then}
use Rattle.std.proofs.lemmas.List.Splits.{length-slice_split}
use Rattle.pp_script.specs.declared.line.Line.{Line}
use Rattle.pp_script.specs.declared.line.Line.TheVariants.{Blank}
use Rattle.pp_text.specs.Parts.{parts}
use Rattle.pp_text.specs.Numbers.{small_number}
use Rattle.pp_script.specs.Lines.{words}
use Rattle.pp_script.specs.Reading.{after_two, after_one}
use Rattle.pp_script.specs.Reading.{after_word, line_in}

some_more : {A : Type 0} (n : ℕ) (xs : List A) → length xs ≡ n + 1 → (y : A) × (ys : List A) × (xs ≡ y ∷ ys)
some_more n [] e = absurd (omega arith)
some_more n (y ∷ ys) e = (y, ys, refl)

-- a text has one part or more
pub parts_some : (separator : ℕ) (bs : List ℕ)
    → (y : List ℕ) × (ys : List (List ℕ)) × (parts separator bs ≡ y ∷ ys)
parts_some separator bs = some_more _ (parts separator bs) (length-slice_split (λ b. b == separator) bs)

pub line_in_more : (word bs rest : List ℕ) → words bs ≡ word ∷ words rest
    → line_in (words bs) ≡ after_word word (words rest)
line_in_more word bs rest e =
    let (y, ys, f) = parts_some 32 rest in
    ap line_in e ∙ subst (λ ws. line_in (word ∷ ws) ≡ after_word word ws) (sym f) refl

pub after_word_more : (word first bs rest : List ℕ) (l : ℕ) → words bs ≡ first ∷ words rest
    → small_number first ≡ Some l → after_word word (words bs) ≡ after_one word l (words rest)
after_word_more word first bs rest l e n =
    let (y, ys, f) = parts_some 32 rest in
    ap (after_word word) e
    ∙ subst (λ ws. after_word word (first ∷ ws) ≡ option_and_then (λ k. after_one word k ws) (small_number first))
    (sym f) refl
    ∙ ap (option_and_then (λ k. after_one word k (words rest))) n

pub after_one_more : (word : List ℕ) (l : ℕ) (second bs rest : List ℕ) (m : ℕ) → words bs ≡ second ∷ words rest
    → small_number second ≡ Some m → after_one word l (words bs) ≡ after_two word l m (words rest)
after_one_more word l second bs rest m e n =
    let (y, ys, f) = parts_some 32 rest in
    ap (after_one word l) e
    ∙ subst (λ ws. after_one word l (second ∷ ws) ≡ option_and_then (λ k. after_two word l k ws) (small_number second))
    (sym f) refl
    ∙ ap (option_and_then (λ k. after_two word l k (words rest))) n

pub after_two_more : (word : List ℕ) (l m : ℕ) (third bs rest : List ℕ) → words bs ≡ third ∷ words rest
    → after_two word l m (words bs) ≡ None
after_two_more word l m third bs rest e =
    let (y, ys, f) = parts_some 32 rest in
    ap (after_two word l m) e ∙ subst (λ ws. after_two word l m (third ∷ ws) ≡ None) (sym f) refl

-- a line that says something has a byte
pub said_some : (text : List ℕ) (line : Line) → line_in (words text) ≡ Some line → line ≢ Blank → 0 < length text
said_some [] line e other = absurd (other cc)
said_some (b ∷ bs) line e other = omega arith
