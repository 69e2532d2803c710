-- What the value that is written has: no floats, few levels, and the bytes of the plan's text.
use Rattle.std.proofs.Common.{◌≡◌, ℕ, ◌+◌, ◌*◌, max, ◌<◌, ◌≤◌, false, List}
use Rattle.std.proofs.Common.{[], ◌∷◌, ◌++◌, length, map, get_or, codes, refl, ap, ◌∙◌, append_assoc, arith}
use Rattle.std.specs.Fmt.{decimal}
use Rattle.std.proofs.lemmas.Option.{slice_get-get_or, unwrap_or-slice_get}
use Rattle.json.specs.Print.{escape_byte, quoted}
use Rattle.serde_json.specs.Data.{Data, object, depth, items_depth}
use Rattle.serde_json.specs.View.{items_of}
use Rattle.serde_json.specs.Written.{has_float, items_have_float, compact_text, items_text}
use Rattle.pp_text.specs.Words.{in_quotes, in_brackets}
use Rattle.pp_text.proofs.Escapes.{quoted_name, list_bytes}
use Rattle.pp_settings.specs.Settings.{NamedRegion, Configuration, IsConfiguration}
use Rattle.pp_plan.specs.Limits.{longest_name}
use Rattle.pp_plan.specs.declared.mode.Mode.{Mode}
use Rattle.pp_plan.specs.declared.mode.Mode.TheVariants.{S, X}
use Rattle.pp_plan.specs.Tree.{Step, fix, unfix, latch, unlatch, gather, scatter, Statement, step, loop, choice}
use Rattle.pp_plan.specs.Tree.{Sequence, skip, andthen}
use Rattle.pp_plan.specs.Tree.{Alternatives, none, either, statement_depth, sequence_depth, alternatives_depth}
use Rattle.pp_plan.specs.Rules.{IsStep, IsStatement, IsSequence, AreAlternatives}
use Rattle.pp_plan.specs.Terms.{Terms, IsPlan}
use Rattle.pp_plan.specs.Spelling.{letter_of}
use Rattle.pp_plan.specs.Writing.{slot_name, region_name, step_text, statement_text, statement_texts, branch_texts}
use Rattle.pp_plan.specs.Writing.{plan_text}
use Rattle.pp_plan.specs.Values.{step_value, statement_value, statement_values, branch_values, plan_members}

-- ---- no floats

step_plain : (c : Configuration) (ss : List (List ℕ)) (s : Step) → has_float (step_value c ss s) ≡ false
step_plain c ss (fix k r) = refl
step_plain c ss (unfix k) = refl
step_plain c ss (latch k m) = refl
step_plain c ss (unlatch k) = refl
step_plain c ss (gather k r) = refl
step_plain c ss (scatter k) = refl

mutual
  statement_plain : (c : Configuration) (ss : List (List ℕ)) (s : Statement)
      → has_float (statement_value c ss s) ≡ false
  statement_plain c ss (step s) = step_plain c ss s
  statement_plain c ss (loop n b) = rw (sequence_plain c ss b) refl
  statement_plain c ss (choice bs) = rw (branches_plain c ss bs) refl

  sequence_plain : (c : Configuration) (ss : List (List ℕ)) (b : Sequence)
      → items_have_float (items_of (statement_values c ss b)) ≡ false
  sequence_plain c ss skip = refl
  sequence_plain c ss (andthen s b) = rw (statement_plain c ss s) (sequence_plain c ss b)

  branches_plain : (c : Configuration) (ss : List (List ℕ)) (bs : Alternatives)
      → items_have_float (items_of (branch_values c ss bs)) ≡ false
  branches_plain c ss none = refl
  branches_plain c ss (either b bs) = rw (sequence_plain c ss b) (branches_plain c ss bs)

no_float : (c : Configuration) (t : Terms) → has_float (object (plan_members c t)) ≡ false
no_float c t = rw (sequence_plain c t.slots t.body) refl

-- ---- levels

max_within : (a b n : ℕ) → a ≤ n → b ≤ n → max a b ≤ n
max_within a b n h k = omega arith

max_below : (a b m n : ℕ) → a ≤ 3 * m → b ≤ 3 * n → max a b ≤ 3 * max m n
max_below a b m n h k = omega arith

step_levels : (c : Configuration) (ss : List (List ℕ)) (s : Step) → depth (step_value c ss s) ≤ 1
step_levels c ss (fix k r) = omega arith
step_levels c ss (unfix k) = omega arith
step_levels c ss (latch k m) = omega arith
step_levels c ss (unlatch k) = omega arith
step_levels c ss (gather k r) = omega arith
step_levels c ss (scatter k) = omega arith

mutual
  -- A statement takes three levels at most: an object, a list, and a list of lists.
  statement_levels : (c : Configuration) (ss : List (List ℕ)) (s : Statement)
      → depth (statement_value c ss s) ≤ 3 * statement_depth s
  statement_levels c ss (step s) = let h = step_levels c ss s in omega (arith, h)
  statement_levels c ss (loop n b) = let h = sequence_levels c ss b in omega (arith, h)
  statement_levels c ss (choice bs) = let h = branches_levels c ss bs in omega (arith, h)

  sequence_levels : (c : Configuration) (ss : List (List ℕ)) (b : Sequence)
      → items_depth (items_of (statement_values c ss b)) ≤ 3 * sequence_depth b
  sequence_levels c ss skip = omega arith
  sequence_levels c ss (andthen s b) =
      max_below (depth (statement_value c ss s)) (items_depth (items_of (statement_values c ss b))) (statement_depth s)
      (sequence_depth b) (statement_levels c ss s) (sequence_levels c ss b)

  branches_levels : (c : Configuration) (ss : List (List ℕ)) (bs : Alternatives)
      → items_depth (items_of (branch_values c ss bs)) ≤ 3 * alternatives_depth bs + 1
  branches_levels c ss none = omega arith
  branches_levels c ss (either b bs) =
      let h = sequence_levels c ss b in
      let k = branches_levels c ss bs in
      omega (arith, h, k)

pub few_levels : (c : Configuration) (t : Terms) → IsPlan t → depth (object (plan_members c t)) ≤ 127
few_levels c t plan = let h = sequence_levels c t.slots t.body in omega (arith, h, plan.body.depth)

-- ---- words in quotes

quoted_letter : (m : Mode) → quoted (letter_of m) ≡ in_quotes (letter_of m)
unfolding escape_byte
quoted_letter S = refl
quoted_letter X = refl

-- The JSON writer puts a slot's and a region's name between quotes as they are.
pub slot_quoted : (t : Terms) → IsPlan t → (k : ℕ) → k < length t.slots
    → quoted (slot_name t.slots k) ≡ in_quotes (slot_name t.slots k)
slot_quoted t plan k within =
    let name = get_or t.slots k [] in
    let is : slot_name t.slots k ≡ name = unwrap_or-slice_get t.slots k [] in
    rw is (quoted_name longest_name name (plan.names k [] within))

pub nameless : NamedRegion
nameless = record { name = []; extent = record { first = 0; count = 0; class = 0 } }

pub region_at : (c : Configuration) (r : ℕ) → r < length c.regions
    → region_name c r ≡ (get_or c.regions r nameless).name
region_at c r within = rw (slice_get-get_or c.regions r nameless within) refl

pub region_quoted : (c : Configuration) → IsConfiguration c → (r : ℕ) → r < length c.regions
    → quoted (region_name c r) ≡ in_quotes (region_name c r)
region_quoted c settings r within =
    let name = (get_or c.regions r nameless).name in
    rw (region_at c r within) (quoted_name 32 name (settings.regions.each r nameless within).name)

-- ---- the text of each statement

two_words : (a b q r x y : List ℕ) → x ≡ q → y ≡ r → a ++ (x ++ (b ++ (y ++ 125 ∷ []))) ≡ a ++ q ++ b ++ r ++ codes "}"
two_words a b q r x y e f = rw (e, f) (simp append_assoc)

one_word : (a q x : List ℕ) → x ≡ q → a ++ (x ++ 125 ∷ []) ≡ a ++ q ++ codes "}"
one_word a q x e = rw e (simp append_assoc)

step_bytes : (c : Configuration) (t : Terms) → IsConfiguration c → IsPlan t → (s : Step)
    → IsStep (length t.slots) (length c.regions) s → compact_text (step_value c t.slots s) ≡ step_text c t.slots s
unfolding escape_byte
step_bytes c t settings plan (fix k r) (within, there) =
    two_words (codes "{\"fix\":") (codes ",\"region\":") _ _ _ _ (slot_quoted t plan k within)
    (region_quoted c settings r there)
step_bytes c t settings plan (unfix k) within = one_word (codes "{\"unfix\":") _ _ (slot_quoted t plan k within)
step_bytes c t settings plan (latch k m) within =
    two_words (codes "{\"latch\":") (codes ",\"mode\":") _ _ _ _ (slot_quoted t plan k within) (quoted_letter m)
step_bytes c t settings plan (unlatch k) within = one_word (codes "{\"unlatch\":") _ _ (slot_quoted t plan k within)
step_bytes c t settings plan (gather k r) (within, there) =
    two_words (codes "{\"gather\":") (codes ",\"region\":") _ _ _ _ (slot_quoted t plan k within)
    (region_quoted c settings r there)
step_bytes c t settings plan (scatter k) within = one_word (codes "{\"scatter\":") _ _ (slot_quoted t plan k within)

loop_bytes : (x q n : List ℕ) → x ≡ q
    → codes "{\"body\":" ++ (x ++ (codes ",\"loop\":" ++ (n ++ codes "}"))) ≡ codes "{\"body\":" ++ q
    ++ codes ",\"loop\":" ++ n ++ codes "}"
loop_bytes x q n e = rw e (simp append_assoc)

mutual
  unfolding escape_byte

  statement_bytes : (c : Configuration) (t : Terms) → IsConfiguration c → IsPlan t → (s : Statement)
      → IsStatement (length t.slots) (length c.regions) s
      → compact_text (statement_value c t.slots s) ≡ statement_text c t.slots s
  statement_bytes c t settings plan (step s) keeps = step_bytes c t settings plan s keeps
  statement_bytes c t settings plan (loop n b) keeps =
      loop_bytes (91 ∷ items_text false (items_of (statement_values c t.slots b)))
      (in_brackets (statement_texts c t.slots b)) (decimal n)
      (list_bytes (statement_values c t.slots b) (statement_texts c t.slots b)
      (sequence_bytes c t settings plan b keeps.3))
  statement_bytes c t settings plan (choice bs) keeps =
      one_word (codes "{\"choice\":") (in_brackets (branch_texts c t.slots bs))
      (91 ∷ items_text false (items_of (branch_values c t.slots bs)))
      (list_bytes (branch_values c t.slots bs) (branch_texts c t.slots bs)
      (branches_bytes c t settings plan bs keeps.2))

  sequence_bytes : (c : Configuration) (t : Terms) → IsConfiguration c → IsPlan t → (b : Sequence)
      → IsSequence (length t.slots) (length c.regions) b
      → map compact_text (statement_values c t.slots b) ≡ statement_texts c t.slots b
  sequence_bytes c t settings plan skip keeps = refl
  sequence_bytes c t settings plan (andthen s b) keeps =
      λ i. statement_bytes c t settings plan s keeps.0 i ∷ sequence_bytes c t settings plan b keeps.1 i

  branches_bytes : (c : Configuration) (t : Terms) → IsConfiguration c → IsPlan t → (bs : Alternatives)
      → AreAlternatives (length t.slots) (length c.regions) bs
      → map compact_text (branch_values c t.slots bs) ≡ branch_texts c t.slots bs
  branches_bytes c t settings plan none keeps = refl
  branches_bytes c t settings plan (either b bs) keeps =
      let here =
      list_bytes (statement_values c t.slots b) (statement_texts c t.slots b)
      (sequence_bytes c t settings plan b keeps.0) in
      λ i. here i ∷ branches_bytes c t settings plan bs keeps.1 i

plan_shape : (x q n : List ℕ) → x ≡ q
    → codes "{\"body\":" ++ (x ++ (codes ",\"version\":" ++ (n ++ codes "}"))) ≡ codes "{\"body\":" ++ q
    ++ codes ",\"version\":"
    ++ n
    ++ codes "}"
plan_shape x q n e = rw e (simp append_assoc)

plan_bytes : (c : Configuration) (t : Terms) → IsConfiguration c → IsPlan t
    → IsSequence (length t.slots) (length c.regions) t.body → compact_text (object (plan_members c t)) ≡ plan_text c t
unfolding escape_byte
plan_bytes c t settings plan keeps =
    plan_shape (91 ∷ items_text false (items_of (statement_values c t.slots t.body)))
    (in_brackets (statement_texts c t.slots t.body)) (decimal t.version)
    (list_bytes (statement_values c t.slots t.body) (statement_texts c t.slots t.body)
    (sequence_bytes c t settings plan t.body keeps))

-- What the writer gives of the value is the plan's text.
pub text_is : (c : Configuration) (t : Terms) → IsConfiguration c → IsPlan t
    → IsSequence (length t.slots) (length c.regions) t.body → (d : Data) (text : List ℕ) → d ≡ object (plan_members c t)
    → (has_float d ≡ false → text ≡ compact_text d) → text ≡ plan_text c t
text_is c t settings plan keeps d text is writes = writes (ap has_float is ∙ no_float c t) ∙ ap compact_text is
    ∙ plan_bytes c t settings plan keeps
