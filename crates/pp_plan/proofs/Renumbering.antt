-- Slots that get their new numbers in place.
use Rattle.std.proofs.Common.{◌≡◌, ◌<◌, ◌≤◌, ◌+◌, ◌-◌, ℕ, zero, suc, List, [], ◌∷◌, ◌++◌, length, take, map, get_or}
use Rattle.std.proofs.Common.{replicate, slice_set}
use Rattle.std.proofs.Common.{String, Global, string_bytes, refl, ap, sym, ◌∙◌, append_assoc, arith}
use Rattle.std.specs.List.{slice_index_or}
use Rattle.std.proofs.lemmas.List.{length-map, length-take-le, map_more}
use Rattle.pp_plan.specs.Numbering.{in_byte_order, new_number, place_in, numbered, numbered_statement}
use Rattle.pp_plan.specs.Numbering.{numbered_branches}
use Rattle.pp_plan.specs.declared.stmt.Stmt.{Stmt}
use Rattle.pp_plan.specs.Tree.{Sequence, andthen, either}
use Rattle.pp_plan.specs.View.{statement_of, sequence_of, alternatives_of}
use Rattle.pp_settings.specs.Layout.{Geometry}
use Rattle.pp_settings.specs.Settings.{Configuration, geometry_of}
use Rattle.pp_plan.specs.Progress.{Progress}
use Rattle.pp_plan.specs.Terms.{Terms}
use Rattle.pp_plan.specs.Reading.{plan_of}

-- ---- the table of new numbers

set_next : (es : List ℕ) (u y : ℕ) (us : List ℕ) → slice_set (es ++ u ∷ us) (length es) y ≡ es ++ y ∷ us
set_next [] u y us = refl
set_next (e ∷ es) u y us = ap (λ (x : List ℕ). e ∷ x) (set_next es u y us)

-- One place more of the table is filled.
pub filled_more : (f : String Global → ℕ) (names : List (String Global)) (table : List ℕ) (i n : ℕ) (s : String Global)
    → i < length names → length names ≤ 32 → s ≡ get_or names i s → n ≡ f s
    → table ≡ map f (take i names) ++ replicate (32 - i) 0
    → slice_set table i n ≡ map f (take (i + 1) names) ++ replicate (32 - (i + 1)) 0
filled_more f names table i n s within most is number filled =
    let before : List ℕ = map f (take i names) in
    let long : length before ≡ i = length-map (take i names) f ∙ length-take-le i names (omega (arith, within)) in
    let room : 32 - i ≡ suc (32 - (i + 1)) = omega (arith, within, most) in
    let left : List ℕ = replicate (32 - (i + 1)) 0 in
    let here : slice_set table i n ≡ slice_set (before ++ 0 ∷ left) (length before) n = rw (filled, room, long) refl in
    let more : map f (take (i + 1) names) ≡ before ++ n ∷ [] =
    map_more f names i s within ∙ ap (λ (x : String Global). before ++ f x ∷ []) (sym is)
    ∙ ap (λ (x : ℕ). before ++ x ∷ []) (sym number) in
    here ∙ set_next before 0 n left ∙ sym (append_assoc before (n ∷ []) left)
    ∙ ap (λ (xs : List ℕ). xs ++ left) (sym more)

zeros : (m k : ℕ) → let none : ℕ = 0 in slice_index_or (replicate m none) k none ≡ none
zeros zero k = refl
zeros (suc m) zero = refl
zeros (suc m) (suc k) = zeros m k

padded : (xs : List ℕ) (m k : ℕ) → slice_index_or (xs ++ replicate m 0) k 0 ≡ slice_index_or xs k 0
padded [] m k = zeros m k
padded (x ∷ xs) m zero = refl
padded (x ∷ xs) m (suc k) = padded xs m k

map_texts : (f : List ℕ → ℕ) (names : List (String Global))
    → map (λ s. f (string_bytes s)) names ≡ map f (map string_bytes names)
map_texts f [] = refl
map_texts f (s ∷ names) = ap (λ (x : List ℕ). f (string_bytes s) ∷ x) (map_texts f names)

-- The filled table has the new number of each slot, and 0 past them.
pub table_is : (ordered names : List (String Global)) (table : List ℕ) (m : ℕ)
    → table ≡ map (λ s. new_number (map string_bytes ordered) (string_bytes s)) names ++ replicate m 0
    → (k : ℕ) → slice_index_or table k 0 ≡ place_in (map string_bytes ordered) (map string_bytes names) k
table_is ordered names table m filled k =
    let f = new_number (map string_bytes ordered) in
    ap (λ (xs : List ℕ). slice_index_or xs k 0) filled ∙ padded (map (λ s. f (string_bytes s)) names) m k
    ∙ ap (λ (xs : List ℕ). slice_index_or xs k 0) (map_texts f names)

-- ---- a body, of which so many statements have their new numbers

-- The elements before the i-th are what `f` makes of those before, seen by `see`.
abbrev pub ArePartly : {A B : Type 0} (f : B → B) (see : A → B) (before now : List A) (i : ℕ) → Type 0
ArePartly {A} f see before now i = (k : ℕ) (d : A) → k < i → k < length before
    → see (get_or now k d) ≡ f (see (get_or before k d))

-- All of them.
pub sequence_made : (new : ℕ → ℕ) (before now : List Stmt) → length now ≡ length before
    → ((k : ℕ) (d : Stmt) → k < length before
    → statement_of (get_or now k d) ≡ numbered_statement new (statement_of (get_or before k d)))
    → sequence_of now ≡ numbered new (sequence_of before)
sequence_made new [] [] long each = refl
sequence_made new [] (t ∷ ts) long each = absurd (omega (arith, long))
sequence_made new (s ∷ ss) [] long each = absurd (omega (arith, long))
sequence_made new (s ∷ ss) (t ∷ ts) long each =
    let rest = sequence_made new ss ts (omega (arith, long)) (λ k d h. each (suc k) d (omega (arith, h))) in
    let here = each 0 s (omega arith) in
    λ i. andthen (here i) (rest i)

pub branches_made : (new : ℕ → ℕ) (before now : List Sequence) → length now ≡ length before
    → ((k : ℕ) (d : Sequence) → k < length before → get_or now k d ≡ numbered new (get_or before k d))
    → alternatives_of now ≡ numbered_branches new (alternatives_of before)
branches_made new [] [] long each = refl
branches_made new [] (t ∷ ts) long each = absurd (omega (arith, long))
branches_made new (s ∷ ss) [] long each = absurd (omega (arith, long))
branches_made new (s ∷ ss) (t ∷ ts) long each =
    let rest = branches_made new ss ts (omega (arith, long)) (λ k d h. each (suc k) d (omega (arith, h))) in
    let here = each 0 s (omega arith) in
    λ i. either (here i) (rest i)

-- ---- the plan that is made of these parts

pub plan_made : (settings : Configuration) (version : ℕ) (p : Progress) (draft made : Sequence) (g : Geometry)
    (slots names : List (List ℕ)) → g ≡ geometry_of settings → names ≡ p.names → slots ≡ in_byte_order names
    → made ≡ numbered (place_in slots names) draft
    → plan_of settings version (p, draft) ≡ record { version = version; layout = g; slots = slots; body = made }
plan_made settings version p draft made g slots names eg en es em =
    let s : slots ≡ in_byte_order p.names = es ∙ ap in_byte_order en in
    let b : made ≡ numbered (place_in (in_byte_order p.names) p.names) draft =
    em ∙ ap (λ (xs : List (List ℕ)). numbered (place_in xs names) draft) s
    ∙ ap (λ (ns : List (List ℕ)). numbered (place_in (in_byte_order p.names) ns) draft) en in
    let whole : Terms = record { version = version; layout = g; slots = slots; body = made } in
    let same : whole ≡ plan_of settings version (p, draft) = λ i. record {
      version = version;
      layout = eg i;
      slots = s i;
      body = b i;
    } in
    sym same
