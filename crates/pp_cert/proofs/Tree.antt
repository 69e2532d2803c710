-- The tree that is written, entry by entry and note by note.
use Rattle.std.proofs.Common.{◌≡◌, ℕ, zero, suc, ◌+◌, ◌<◌, ◌≤◌, true, List, [], ◌∷◌, length, map, take, get_or, add-one}
use Rattle.std.proofs.Common.{Option, Some, Ordering, Less, Equal, Greater, nat_cmp, refl, sym, ap, subst, ◌∙◌, arith}
use Rattle.std.specs.Prelude.{All, AllPairs, slice_get, unwrap_or}
use Rattle.std.specs.Ordering.{ordering_reverse, is_lt}
use Rattle.std.specs.Cmp.Lexicographic.{slice_cmp}
use Rattle.std.proofs.lemmas.Cmp.{nat_list_cmp_total}
use Rattle.std.proofs.lemmas.List.{take_all}
use Rattle.std.proofs.lemmas.List.Elements.{All-tail}
use Rattle.std.proofs.lemmas.Option.{unwrap_or-slice_get}
use Rattle.serde_json.specs.Data.{Data, array, object, Members, member, put}
use Rattle.serde_json.specs.View.{items_of}
use Rattle.pp_settings.specs.Settings.{Configuration}
use Rattle.pp_plan.specs.Terms.{Terms, IsPlan}
use Rattle.pp_cert.specs.declared.note.Entry.{Entry}
use Rattle.pp_cert.specs.Claims.{IsEntry, IsNote}
use Rattle.pp_cert.specs.Notes.{entry_slot}
use Rattle.pp_plan.specs.Writing.{slot_name}
use Rattle.pp_cert.specs.Tree.{entry_tree, entry_members, note_tree}
use Rattle.pp_cert.proofs.Order.{IsBefore}

less_when : (o : Ordering) → is_lt o ≡ true → o ≡ Less
less_when Less e = refl
less_when Equal e = absurd cc
less_when Greater e = absurd cc

-- Names rise with their slots.
pub names_rise : (p : Terms) → IsPlan p → (a b : ℕ) → a < b → b < length p.slots
    → IsBefore (slot_name p.slots a) (slot_name p.slots b)
names_rise p plan a b l within =
    rw (unwrap_or-slice_get p.slots a [], unwrap_or-slice_get p.slots b []) (less_when _ (plan.order a b [] l within))

put_after : (o : Ordering) (k l : List ℕ) (d x : Data) (ms : Members) → slice_cmp nat_cmp k l ≡ o → o ≡ Greater
    → put k d (member l x ms) ≡ member l x (put k d ms)
put_after o k l d x ms e is = rw (e ∙ is) refl

AllPairs-tail : {X : Type 0} (R : X → X → Type 0) (x : X) (xs : List X) → AllPairs R (x ∷ xs) → AllPairs R xs
AllPairs-tail R x xs h i j d l within = h (suc i) (suc j) d (omega arith) (omega arith)

-- An entry above all before it goes to the end.
pub put_entry : (c : Configuration) (p : Terms) → IsPlan p → (es : List Entry) (i : ℕ) (e : Entry)
    → All (IsEntry c p) es → AllPairs (λ x y. entry_slot x < entry_slot y) es → i < length es → get_or es i e ≡ e
    → put (slot_name p.slots (entry_slot e)) (entry_tree c e) (entry_members c p (take i es))
    ≡ entry_members c p (take (suc i) es)
put_entry c p plan [] i e are rising within is = absurd (omega arith)
put_entry c p plan (x ∷ es) zero e are rising within is = rw is refl
put_entry c p plan (x ∷ es) (suc i) e are rising within is =
    let l : i < length es = omega arith in
    let above : entry_slot x < entry_slot e =
    subst (λ (y : Entry). entry_slot x < entry_slot y) is (rising 0 (suc i) e (omega arith) within) in
    let known : entry_slot e < length p.slots =
    subst (λ (y : Entry). entry_slot y < length p.slots) is (are (suc i) e within).slot in
    let before = names_rise p plan (entry_slot x) (entry_slot e) above known in
    let after : slice_cmp nat_cmp (slot_name p.slots (entry_slot e)) (slot_name p.slots (entry_slot x)) ≡ Greater =
    nat_list_cmp_total.antisymm (slot_name p.slots (entry_slot e)) (slot_name p.slots (entry_slot x)) ∙ ap ordering_reverse before in
    put_after _ (slot_name p.slots (entry_slot e)) (slot_name p.slots (entry_slot x)) (entry_tree c e) (entry_tree c x)
    (entry_members c p (take i es)) refl after
    ∙ ap (member (slot_name p.slots (entry_slot x)) (entry_tree c x))
    (put_entry c p plan es i e (All-tail (IsEntry c p) x es are)
    (AllPairs-tail (λ (a b : Entry). entry_slot a < entry_slot b) x es rising) l is)

pub note_done : (c : Configuration) (p : Terms) (ms : Members) (es : List Entry) (i : ℕ)
    → ms ≡ entry_members c p (take i es) → length es ≤ i → object ms ≡ note_tree c p es
note_done c p ms es i e past = ap (λ (x : Members). object x) (e ∙ ap (entry_members c p) (take_all i es past))

pub notes_done : (c : Configuration) (p : Terms) (ds : List Data) (notes : List (List Entry)) (i : ℕ)
    → ds ≡ map (note_tree c p) (take i notes) → length notes ≤ i
    → array (items_of ds) ≡ array (items_of (map (note_tree c p) notes))
notes_done c p ds notes i e past =
    ap (λ (x : List Data). array (items_of x)) (e ∙ ap (map (note_tree c p)) (take_all i notes past))

get_or_same : {X : Type 0} (xs : List X) (i : ℕ) (a b : X) → i < length xs → get_or xs i a ≡ get_or xs i b
get_or_same [] i a b within = absurd (omega arith)
get_or_same (x ∷ xs) zero a b within = refl
get_or_same (x ∷ xs) (suc i) a b within = get_or_same xs i a b (omega arith)

-- One turn of the loop over entries.
pub entry_step : (c : Configuration) (p : Terms) → IsPlan p
    → (es : List Entry) (i : ℕ) (d : Entry) (k : List ℕ) (v : Data) (old new : Members) → IsNote c p es → i < length es
    → new ≡ put k v old → v ≡ entry_tree c (get_or es i d)
    → slice_get p.slots (entry_slot (get_or es i d)) ≡ Some k → old ≡ entry_members c p (take i es)
    → new ≡ entry_members c p (take (i + 1) es)
entry_step c p plan es i d k v old new note within fresh value at before =
    let e : Entry = get_or es i d in
    let named : k ≡ slot_name p.slots (entry_slot e) = sym (ap (λ (o : Option (List ℕ)). unwrap_or o []) at) in
    let added = put_entry c p plan es i e note.entries note.rising within (get_or_same es i e d within) in
    rw (fresh, value, named, before, add-one) added
