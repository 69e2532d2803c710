-- Where the first `--` stands among words, and what stands before and behind it.
use Rattle.std.proofs.Common.{◌≡◌, ◌+◌, ◌||◌, ℕ, Bool, true, false, cond, not, List, [], ◌∷◌, ◌++◌, refl, sym, ap, ◌∙◌}
use Rattle.std.proofs.Common.{◌==◌, arith, codes, drop, drop-drop, length, suc, take, take_all, true≢false}
use Rattle.std.specs.List.{All, after_first, before_first, list_any, position_or_len}
use Rattle.std.proofs.Math.Seq.{drop-append_seam, take-append_seam}
use Rattle.std.proofs.lemmas.List.Elements.{All-head, All-tail}
use Rattle.clap.specs.Walk.{Text}
use Rattle.pp_words.specs.CommandLine.{is_dashes, is_plain_word, is_segments_flag, IsPlainWord, wants_segments}
use Rattle.pp_words.proofs.PlainWalk.{no_dashes, not_true}

both_false : (b c : Bool) → (b || c) ≡ false → (b ≡ false) × (c ≡ false)
both_false false c h = (refl, h)
both_false true c h = absurd (true≢false h)

or_none : (b c : Bool) → b ≡ false → c ≡ false → (b || c) ≡ false
or_none b c p q = ap (λ (x : Bool). x || c) p ∙ q

-- ---- by their place

-- the first `--` stands behind words that are none
front_len : (front rest : List Text) → list_any is_dashes front ≡ false
    → position_or_len is_dashes (front ++ codes "--" ∷ rest) ≡ length front
front_len [] rest none = refl
front_len (x ∷ xs) rest none =
    let both = both_false (is_dashes x) (list_any is_dashes xs) none in
    let one : 1 + position_or_len is_dashes (xs ++ codes "--" ∷ rest) ≡ suc (length xs) =
    omega (arith, front_len xs rest both.1) in
    ap (λ (b : Bool). cond (not b) (1 + position_or_len is_dashes (xs ++ codes "--" ∷ rest)) 0) both.0 ∙ one

pub front_is : (front rest : List Text) → list_any is_dashes front ≡ false
    → before_first is_dashes (front ++ codes "--" ∷ rest) ≡ front
front_is front rest none =
    ap (λ (n : ℕ). take n (front ++ codes "--" ∷ rest)) (front_len front rest none)
    ∙ take-append_seam front (codes "--" ∷ rest)

pub files_are : (front rest : List Text) → list_any is_dashes front ≡ false
    → after_first is_dashes (front ++ codes "--" ∷ rest) ≡ rest
files_are front rest none =
    ap (λ (n : ℕ). drop (n + 1) (front ++ codes "--" ∷ rest)) (front_len front rest none)
    ∙ sym (drop-drop 1 (length front) (front ++ codes "--" ∷ rest))
    ∙ ap (λ (behind : List Text). drop 1 behind) (drop-append_seam front (codes "--" ∷ rest))

-- where no word is `--`, all stand before it
no_place : (words : List Text) → list_any is_dashes words ≡ false → position_or_len is_dashes words ≡ length words
no_place [] none = refl
no_place (x ∷ xs) none =
    let both = both_false (is_dashes x) (list_any is_dashes xs) none in
    let one : 1 + position_or_len is_dashes xs ≡ suc (length xs) = omega (arith, no_place xs both.1) in
    ap (λ (b : Bool). cond (not b) (1 + position_or_len is_dashes xs) 0) both.0 ∙ one

pub all_front : (words : List Text) → list_any is_dashes words ≡ false → before_first is_dashes words ≡ words
all_front words none =
    ap (λ (n : ℕ). take n words) (no_place words none) ∙ take_all (length words) words (omega arith)

-- ---- plain words

-- a plain word is not `--segments`
no_flag : (word : Text) → is_plain_word word ≡ true → is_segments_flag word ≡ false
no_flag [] h = refl
no_flag (x ∷ xs) h = rw (not_true (x == 45) h) refl

among_plain : (test : Text → Bool) → ((word : Text) → is_plain_word word ≡ true → test word ≡ false)
    → (words : List Text) → All IsPlainWord words → list_any test words ≡ false
among_plain test none [] plain = refl
among_plain test none (w ∷ ws) plain =
    or_none (test w) (list_any test ws) (none w (All-head IsPlainWord w ws plain))
    (among_plain test none ws (All-tail IsPlainWord w ws plain))

-- no plain word is `--`
pub plain_dashes : (words : List Text) → All IsPlainWord words → list_any is_dashes words ≡ false
plain_dashes = among_plain is_dashes no_dashes

-- two plain words before such
pub two_plain : (a b : Text) (rest : List Text) → is_plain_word a ≡ true → is_plain_word b ≡ true
    → All IsPlainWord rest → list_any is_dashes (a ∷ b ∷ rest) ≡ false
two_plain a b rest p q plain =
    or_none (is_dashes a) (list_any is_dashes (b ∷ rest)) (no_dashes a p)
    (or_none (is_dashes b) (list_any is_dashes rest) (no_dashes b q) (plain_dashes rest plain))

-- three plain words of `audit` and such behind them want no audit of segments
pub plain_audit : (name a b c : Text) (rest : List Text) → is_plain_word a ≡ true → is_plain_word b ≡ true
    → is_plain_word c ≡ true → All IsPlainWord rest
    → wants_segments (name ∷ codes "audit" ∷ a ∷ b ∷ c ∷ rest) ≡ false
plain_audit name a b c rest p q r plain =
    ap (λ (front : List Text). list_any is_segments_flag front)
    (all_front (a ∷ b ∷ c ∷ rest)
    (or_none (is_dashes a) (list_any is_dashes (b ∷ c ∷ rest)) (no_dashes a p) (two_plain b c rest q r plain)))
    ∙ or_none (is_segments_flag a) (list_any is_segments_flag (b ∷ c ∷ rest)) (no_flag a p)
    (or_none (is_segments_flag b) (list_any is_segments_flag (c ∷ rest)) (no_flag b q)
    (or_none (is_segments_flag c) (list_any is_segments_flag rest) (no_flag c r)
    (among_plain is_segments_flag no_flag rest plain)))
