-- The bytes that the JSON writer gives of names and lists.
use Rattle.std.proofs.Common.{◌≡◌, ◌≢◌, ℕ, ◌<◌, Bool, true, false, ◌&&◌, ◌||◌, ◌==◌, nat_lt, List, [], ◌∷◌, ◌++◌}
use Rattle.std.proofs.Common.{length, map, refl, sym, ap, ◌∙◌, append_assoc, arith}
use Rattle.std.specs.Prelude.{flat_map}
use Rattle.std.specs.Char.{is_ascii_digit, is_ascii_lowercase}
use Rattle.std.specs.List.{list_all, join_with_byte}
use Rattle.std.proofs.lemmas.Bool.{and_parts}
use Rattle.std.proofs.lemmas.Bool.Decides.{nat_tests}
use Rattle.std.proofs.lemmas.List.{append-nil}
use Rattle.json.specs.Print.{escape_letter, escape_byte, escape, quoted}
use Rattle.serde_json.specs.Data.{Data}
use Rattle.serde_json.specs.View.{items_of}
use Rattle.serde_json.specs.Written.{compact_text, items_text}
use Rattle.pp_text.specs.Names.{is_name_byte, is_name}
use Rattle.pp_text.specs.Words.{in_quotes, in_brackets}

-- ---- words in quotes

no_letter : (x : ℕ) → 34 < x → x ≢ 92 → escape_letter x ≡ 0
no_letter x above other = grind (arith, nat_tests)

-- A byte above the quote, and no backslash, stands for itself in a JSON text.
plain_byte : (x : ℕ) → 34 < x → x ≢ 92 → escape_byte x ≡ x ∷ []
unfolding escape_byte
plain_byte x above other =
    let low : nat_lt x 32 ≡ false = grind (arith, nat_tests) in
    rw (no_letter x above other, low) refl

name_byte : (x : ℕ) → is_name_byte x ≡ true → (34 < x) × (x ≢ 92)
name_byte x e = (grind (arith, nat_tests), λ is. grind (arith, nat_tests))

plain_text : (s : List ℕ) → list_all is_name_byte s ≡ true → escape s ≡ s
plain_text [] e = refl
plain_text (x ∷ s) e =
    let (here, more) = and_parts (is_name_byte x) (list_all is_name_byte s) e in
    let (above, other) = name_byte x here in
    rw (plain_byte x above other, plain_text s more) refl

and_again : (a b : Bool) → a ≡ true → b ≡ true → (a && b) ≡ true
and_again true b p q = q
and_again false b p q = absurd cc

or_first : (a b d : Bool) → a ≡ true → ((a || b) || d) ≡ true
or_first true b d p = refl
or_first false b d p = absurd cc

name_bytes : (most : ℕ) (s : List ℕ) → is_name most s ≡ true → list_all is_name_byte s ≡ true
name_bytes most [] e = absurd cc
name_bytes most (x ∷ s) e =
    let (start, more) = and_parts (is_ascii_lowercase x && nat_lt (length s) most) (list_all is_name_byte s) e in
    let (small, _) = and_parts (is_ascii_lowercase x) (nat_lt (length s) most) start in
    and_again (is_name_byte x) (list_all is_name_byte s)
    (or_first (is_ascii_lowercase x) (is_ascii_digit x) (x == 95) small) more

-- The JSON writer puts a word that it escapes no byte of between quotes.
pub quoted_plain : (s : List ℕ) → escape s ≡ s → quoted s ≡ in_quotes s
quoted_plain s e = rw e refl

-- And so it writes a name.
pub quoted_name : (most : ℕ) (s : List ℕ) → is_name most s ≡ true → quoted s ≡ in_quotes s
quoted_name most s e = quoted_plain s (plain_text s (name_bytes most s e))

-- ---- lists

-- The first of texts with commas, and the others, each behind a comma.
pub joined : (t : List ℕ) (ts : List (List ℕ)) → join_with_byte 44 (t ∷ ts) ≡ t ++ flat_map (λ u. 44 ∷ u) ts
joined t [] = sym (append-nil t)
joined t (u ∷ ts) = ap (λ z. t ++ 44 ∷ z) (joined u ts)

later_items : (ds : List Data)
    → items_text true (items_of ds) ≡ flat_map (λ u. 44 ∷ u) (map compact_text ds) ++ 93 ∷ []
later_items [] = refl
later_items (d ∷ ds) =
    ap (λ z. 44 ∷ (compact_text d ++ z)) (later_items ds)
    ∙ ap (λ z. 44 ∷ z) (sym (append_assoc (compact_text d) (flat_map (λ u. 44 ∷ u) (map compact_text ds)) (93 ∷ [])))

all_items : (ds : List Data)
    → items_text false (items_of ds) ≡ join_with_byte 44 (map compact_text ds) ++ 93 ∷ []
all_items [] = refl
all_items (d ∷ ds) =
    ap (λ z. compact_text d ++ z) (later_items ds)
    ∙ sym (append_assoc (compact_text d) (flat_map (λ u. 44 ∷ u) (map compact_text ds)) (93 ∷ []))
    ∙ ap (λ z. z ++ 93 ∷ []) (sym (joined (compact_text d) (map compact_text ds)))

-- The text of a list of values, where these are the texts of its items.
pub list_bytes : (ds : List Data) (ts : List (List ℕ)) → map compact_text ds ≡ ts
    → 91 ∷ items_text false (items_of ds) ≡ in_brackets ts
list_bytes ds ts e = ap (λ z. 91 ∷ z) (all_items ds) ∙ ap in_brackets e
