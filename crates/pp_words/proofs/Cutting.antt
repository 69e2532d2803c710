-- The words of an audit of segments in two parts, by the places at which the words are cut.
use Rattle.std.proofs.Common.{◌≡◌, ◌≤◌, ◌+◌, ◌-◌, ◌||◌, ◌&&◌, ℕ, Bool, true, cond, not, List, [], ◌∷◌, Option}
use Rattle.std.proofs.Common.{None, Some, refl, sym, ap, ◌∙◌, arith, codes, drop, drop-drop, length, length-drop}
use Rattle.std.proofs.Common.{ltb, map, suc, take, unwrap_or}
use Rattle.std.specs.Str.{bytes_eq}
use Rattle.std.specs.List.{before_first, list_any, position_or_len}
use Rattle.std.proofs.lemmas.List.{drop-map, length-map, take-map}
use Rattle.std.proofs.lemmas.List.Sums.{prefix_len-le-length}
use Rattle.clap.specs.Walk.{Text}
use Rattle.pp_words.specs.CommandLine.{file_words, front_words, is_dashes, is_segments_flag, wants_segments}

-- ---- tests of what is lent

pub place-map : {A : Type 0} (test : Text → Bool) (f : A → Text) (xs : List A)
    → position_or_len test (map f xs) ≡ position_or_len (λ x. test (f x)) xs
place-map test f [] = refl
place-map test f (x ∷ xs) = ap (λ (n : ℕ). cond (not (test (f x))) (1 + n) 0) (place-map test f xs)

pub any-map : {A : Type 0} (test : Text → Bool) (f : A → Text) (xs : List A)
    → list_any test (map f xs) ≡ list_any (λ x. test (f x)) xs
any-map test f [] = refl
any-map test f (x ∷ xs) = ap (λ (b : Bool). test (f x) || b) (any-map test f xs)

-- the first place that passes, or how many there are
pub place_or_len : {A : Type 0} (test : A → Bool) (xs : List A) (found : Option ℕ)
    → found ≡ cond (ltb (position_or_len test xs) (length xs)) (Some (position_or_len test xs)) None
    → unwrap_or found (length xs) ≡ position_or_len test xs
place_or_len {A} test xs found is =
    let least : position_or_len test xs ≤ length xs = prefix_len-le-length (λ x. not (test x)) xs in
    ap (λ (o : Option ℕ). unwrap_or o (length xs)) is ∙ grind (arith, least)

pub place_within : {A : Type 0} (f : A → Text) (xs : List A) (n : ℕ)
    → n ≡ position_or_len is_dashes (map f xs) → n ≤ length xs
place_within f xs n is =
    let least : position_or_len is_dashes (map f xs) ≤ length (map f xs) =
    prefix_len-le-length (λ x. not (is_dashes x)) (map f xs) in
    omega (arith, is, least, length-map xs f)

-- ---- the two parts

module _ {A : Type 0} (f : A → Text) (words : List A) (name command : A) (others rest : List A) (end : ℕ)
    (first : words ≡ name ∷ others) (second : others ≡ command ∷ rest)
    (place : end ≡ position_or_len is_dashes (map f rest)) where
  split : words ≡ name ∷ command ∷ rest
  split = first ∙ ap (λ (ws : List A). name ∷ ws) second

  -- the words before the first `--`
  before_is : map f (take end rest) ≡ before_first is_dashes (map f rest)
  before_is = sym (take-map f end rest) ∙ ap (λ (n : ℕ). take n (map f rest)) place

  pub wants : bytes_eq (f command) (codes "audit") ≡ true → (before : List A) (flag : Bool)
      → before ≡ take end rest → flag ≡ list_any is_segments_flag (map f before)
      → wants_segments (map f words) ≡ flag
  wants audit before flag is found =
      ap (λ (ws : List A). wants_segments (map f ws)) split
      ∙ ap (λ (b : Bool). b && list_any is_segments_flag (before_first is_dashes (map f rest))) audit
      ∙ ap (λ (ws : List Text). list_any is_segments_flag ws) (sym before_is)
      ∙ ap (λ (ws : List A). list_any is_segments_flag (map f ws)) (sym is)
      ∙ sym found

  pub all_within : (behind : List A) → behind ≡ drop end rest → length behind ≤ length words
  all_within behind is =
      let all : length words ≡ suc (suc (length rest)) = ap (λ (ws : List A). length ws) split in
      omega (arith, all, ap (λ (ws : List A). length ws) is, length-drop end rest)

  pub front_is : (front behind : List A) → behind ≡ drop end rest
      → front ≡ take (length words - length behind) words → map f front ≡ front_words (map f words)
  front_is front behind behind_is is =
      let all : length words ≡ suc (suc (length rest)) = ap (λ (ws : List A). length ws) split in
      let two : length words - length behind ≡ suc (suc end) =
      omega (
        arith,
        all,
        ap (λ (ws : List A). length ws) behind_is,
        length-drop end rest,
        place_within f rest end place,
      ) in
      ap (map f) (is ∙ ap (λ (n : ℕ). take n words) two ∙ ap (λ (ws : List A). take (suc (suc end)) ws) split)
      ∙ ap (λ (ws : List Text). f name ∷ f command ∷ ws) before_is
      ∙ sym (ap (λ (ws : List A). front_words (map f ws)) split)

  pub files_are : (files behind : List A) → behind ≡ drop end rest → files ≡ drop 1 behind
      → map f files ≡ file_words (map f words)
  files_are files behind behind_is is =
      ap (map f) (is ∙ ap (λ (ws : List A). drop 1 ws) behind_is ∙ drop-drop 1 end rest)
      ∙ sym (drop-map f (end + 1) rest)
      ∙ ap (λ (n : ℕ). drop (n + 1) (map f rest)) place
      ∙ sym (ap (λ (ws : List A). file_words (map f ws)) split)
