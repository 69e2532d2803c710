-- What the tree that is written has: no floats, few levels, and the bytes of the text.
use Rattle.std.proofs.Common.{◌≡◌, ℕ, suc, max, ◌≤◌, true, false, List, [], ◌∷◌, ◌++◌, map, codes}
use Rattle.std.proofs.Common.{refl, sym, ap, ◌∙◌, append_assoc, arith}
use Rattle.std.specs.Prelude.{All, flat_map}
use Rattle.std.specs.Fmt.{decimal}
use Rattle.std.proofs.lemmas.List.Elements.{All-head, All-tail}
use Rattle.json.specs.Print.{escape_byte, quoted}
use Rattle.serde_json.specs.Data.{Data, string, object, depth, items_depth, members_depth}
use Rattle.serde_json.specs.View.{items_of}
use Rattle.serde_json.specs.Written.{has_float, items_have_float, members_have_float, compact_text, items_text}
use Rattle.serde_json.specs.Written.{members_text}
use Rattle.pp_text.specs.Words.{in_quotes, in_brackets}
use Rattle.pp_text.proofs.Escapes.{joined, list_bytes}
use Rattle.pp_settings.specs.Settings.{Configuration, IsConfiguration}
use Rattle.pp_plan.specs.Terms.{Terms, IsPlan}
use Rattle.pp_cert.specs.declared.note.Entry.{Entry}
use Rattle.pp_cert.specs.declared.note.Entry.TheVariants.{Slot, Bundle}
use Rattle.pp_cert.specs.declared.note.Held.{Held}
use Rattle.pp_cert.specs.declared.note.Held.TheVariants.{Free, S, X}
use Rattle.pp_cert.specs.Notes.{entry_slot}
use Rattle.pp_cert.specs.Claims.{Claims, IsEntry, IsNote, AreClaims}
use Rattle.pp_cert.specs.Words.{held_text}
use Rattle.pp_plan.specs.Writing.{slot_name, region_name}
use Rattle.pp_plan.proofs.Written.{slot_quoted, region_quoted}
use Rattle.pp_cert.specs.Writing.{entry_text, note_text, certificate_text}
use Rattle.pp_cert.specs.Tree.{entry_tree, entry_members, note_tree, certificate_members}

-- ---- no floats

entries_plain : (c : Configuration) (p : Terms) (es : List Entry) → members_have_float (entry_members c p es) ≡ false
entries_plain c p [] = refl
entries_plain c p (Slot s r h ∷ es) = entries_plain c p es
entries_plain c p (Bundle s k ∷ es) = entries_plain c p es

notes_plain : (c : Configuration) (p : Terms) (notes : List (List Entry))
    → items_have_float (items_of (map (note_tree c p) notes)) ≡ false
notes_plain c p [] = refl
notes_plain c p (note ∷ notes) = rw (entries_plain c p note) (notes_plain c p notes)

pub no_float : (c : Configuration) (p : Terms) (t : Claims) → has_float (object (certificate_members c p t)) ≡ false
no_float c p t = rw (notes_plain c p t.notes) refl

-- ---- levels

max_within : (a b n : ℕ) → a ≤ n → b ≤ n → max a b ≤ n
max_within a b n h k = omega arith

entry_depth : (c : Configuration) (e : Entry) → depth (entry_tree c e) ≤ 1
entry_depth c (Slot s r h) = omega arith
entry_depth c (Bundle s k) = omega arith

entries_depth : (c : Configuration) (p : Terms) (es : List Entry) → members_depth (entry_members c p es) ≤ 1
entries_depth c p [] = omega arith
entries_depth c p (e ∷ es) =
    max_within (depth (entry_tree c e)) (members_depth (entry_members c p es)) 1 (entry_depth c e) (entries_depth c p es)

notes_depth : (c : Configuration) (p : Terms) (notes : List (List Entry))
    → items_depth (items_of (map (note_tree c p) notes)) ≤ 2
notes_depth c p [] = omega arith
notes_depth c p (note ∷ notes) =
    max_within (suc (members_depth (entry_members c p note))) (items_depth (items_of (map (note_tree c p) notes))) 2
    (omega (arith, entries_depth c p note)) (notes_depth c p notes)

pub few_levels : (c : Configuration) (p : Terms) (t : Claims) → depth (object (certificate_members c p t)) ≤ 127
few_levels c p t = let h = notes_depth c p t.notes in omega (arith, h)

-- ---- words in quotes

quoted_held : (h : Held) → quoted (held_text h) ≡ in_quotes (held_text h)
unfolding escape_byte
quoted_held Free = refl
quoted_held S = refl
quoted_held X = refl

-- ---- bytes

entry_bytes : (c : Configuration) (p : Terms) → IsConfiguration c → IsPlan p → (e : Entry) → IsEntry c p e
    → quoted (slot_name p.slots (entry_slot e)) ++ 58 ∷ compact_text (entry_tree c e) ≡ entry_text c p e
entry_bytes c p settings plan (Bundle s k) is =
    ap (λ z. z ++ 58 ∷ compact_text (entry_tree c (Bundle s k))) (slot_quoted p plan s is.slot)
    ∙ sym (append_assoc (in_quotes (slot_name p.slots s)) (58 ∷ []) (decimal k))
entry_bytes c p settings plan (Slot s r h) is =
    let words : List Data = string (region_name c r) ∷ string (held_text h) ∷ [] in
    let name = region_quoted c settings r is.region in
    let held = quoted_held h in
    let value = list_bytes words (in_quotes (region_name c r) ∷ in_quotes (held_text h) ∷ [])
    (λ i. name i ∷ held i ∷ []) in
    ap (λ z. z ++ 58 ∷ compact_text (entry_tree c (Slot s r h))) (slot_quoted p plan s is.slot)
    ∙ ap (λ z. in_quotes (slot_name p.slots s) ++ 58 ∷ z) value
    ∙ sym (append_assoc (in_quotes (slot_name p.slots s)) (58 ∷ [])
    (in_brackets (in_quotes (region_name c r) ∷ in_quotes (held_text h) ∷ [])))

first_bytes : (q d m t r : List ℕ) → q ++ 58 ∷ d ≡ t → m ≡ r → q ++ 58 ∷ (d ++ m) ≡ t ++ r
first_bytes q d m t r is more = sym (append_assoc q (58 ∷ d) m) ∙ ap (λ z. z ++ m) is ∙ ap (λ z. t ++ z) more

entries_bytes : (c : Configuration) (p : Terms) → IsConfiguration c → IsPlan p → (es : List Entry)
    → All (IsEntry c p) es
    → members_text true (entry_members c p es) ≡ flat_map (λ u. 44 ∷ u) (map (entry_text c p) es) ++ 125 ∷ []
entries_bytes c p settings plan [] are = refl
entries_bytes c p settings plan (e ∷ es) are =
    let more = entries_bytes c p settings plan es (All-tail (IsEntry c p) e es are) in
    let here = entry_bytes c p settings plan e (All-head (IsEntry c p) e es are) in
    ap (λ z. 44 ∷ z) (first_bytes (quoted (slot_name p.slots (entry_slot e))) (compact_text (entry_tree c e))
    (members_text true (entry_members c p es)) (entry_text c p e) _ here more)
    ∙ ap (λ z. 44 ∷ z) (sym (append_assoc (entry_text c p e) (flat_map (λ u. 44 ∷ u) (map (entry_text c p) es))
    (125 ∷ [])))

note_bytes : (c : Configuration) (p : Terms) → IsConfiguration c → IsPlan p → (note : List Entry)
    → All (IsEntry c p) note
    → compact_text (note_tree c p note) ≡ note_text c p note
note_bytes c p settings plan [] are = refl
note_bytes c p settings plan (e ∷ es) are =
    let more = entries_bytes c p settings plan es (All-tail (IsEntry c p) e es are) in
    let here = entry_bytes c p settings plan e (All-head (IsEntry c p) e es are) in
    let others = flat_map (λ u. 44 ∷ u) (map (entry_text c p) es) in
    ap (λ z. 123 ∷ z)
    (first_bytes (quoted (slot_name p.slots (entry_slot e))) (compact_text (entry_tree c e))
    (members_text true (entry_members c p es)) (entry_text c p e) _ here more
    ∙ sym (append_assoc (entry_text c p e) others (125 ∷ []))
    ∙ ap (λ z. z ++ 125 ∷ []) (sym (joined (entry_text c p e) (map (entry_text c p) es))))

notes_bytes : (c : Configuration) (p : Terms) → IsConfiguration c → IsPlan p → (notes : List (List Entry))
    → All (IsNote c p) notes
    → map compact_text (map (note_tree c p) notes) ≡ map (note_text c p) notes
notes_bytes c p settings plan [] are = refl
notes_bytes c p settings plan (note ∷ notes) are =
    let here = note_bytes c p settings plan note (All-head (IsNote c p) note notes are).entries in
    let more = notes_bytes c p settings plan notes (All-tail (IsNote c p) note notes are) in
    λ i. here i ∷ more i

regroup : (w a b : List ℕ)
    → codes "{\"notes\":" ++ (w ++ (codes ",\"peak\":" ++ (a ++ (codes ",\"steps\":" ++ (b ++ codes "}")))))
    ≡ codes "{\"notes\":" ++ w ++ codes ",\"peak\":" ++ a ++ codes ",\"steps\":" ++ b ++ codes "}"
regroup w a b = simp append_assoc

certificate_shape : (n w a b : List ℕ) → 91 ∷ n ≡ w
    → codes "{\"notes\":[" ++ (n ++ (codes ",\"peak\":" ++ (a ++ (codes ",\"steps\":" ++ (b ++ codes "}")))))
    ≡ codes "{\"notes\":" ++ w ++ codes ",\"peak\":" ++ a ++ codes ",\"steps\":" ++ b ++ codes "}"
certificate_shape n w a b e =
    ap (λ z. codes "{\"notes\":" ++ (z ++ (codes ",\"peak\":" ++ (a ++ (codes ",\"steps\":" ++ (b ++ codes "}")))))) e
    ∙ regroup w a b

certificate_bytes : (c : Configuration) (p : Terms) → IsConfiguration c → IsPlan p → (t : Claims) → AreClaims c p t
    → compact_text (object (certificate_members c p t)) ≡ certificate_text c p t
unfolding escape_byte
certificate_bytes c p settings plan t are =
    certificate_shape (items_text false (items_of (map (note_tree c p) t.notes)))
    (in_brackets (map (note_text c p) t.notes)) (decimal t.peak) (decimal t.steps)
    (list_bytes (map (note_tree c p) t.notes) (map (note_text c p) t.notes)
    (notes_bytes c p settings plan t.notes are.notes))

-- What the writer gives of the tree is the certificate's text.
pub text_is : (c : Configuration) (p : Terms) → IsConfiguration c → IsPlan p → (t : Claims) → AreClaims c p t
    → (d : Data) (text : List ℕ) → d ≡ object (certificate_members c p t)
    → (has_float d ≡ false → text ≡ compact_text d)
    → text ≡ certificate_text c p t
text_is c p settings plan t are d text is writes =
    writes (ap has_float is ∙ no_float c p t) ∙ ap compact_text is ∙ certificate_bytes c p settings plan t are
