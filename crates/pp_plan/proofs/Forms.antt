-- The form of a statement, as it is read and as it is spelled.
use Rattle.std.proofs.Common.{◌≡◌, ◌⊎◌, inl, inr, ℕ, Bool, true, false, List, get_or, Option, Some, None, Ok, Ordering}
use Rattle.std.proofs.Common.{nat_cmp, codes, refl, sym, ap, subst, ◌∙◌}
use Rattle.std.specs.Option.{ok_or, option_and_then}
use Rattle.std.specs.Str.{bytes_eq}
use Rattle.std.proofs.Common.{Less, Equal, Greater}
use Rattle.std.specs.Ordering.{match_ordering}
use Rattle.std.specs.Cmp.Lexicographic.{slice_cmp}
use Rattle.std.proofs.lemmas.Bool.{false≢true}
use Rattle.std.proofs.lemmas.List.Folds.{list_any_at}
use Rattle.std.proofs.lemmas.Slice.Eq.{bytes_eq-Decides}
use Rattle.serde_json.specs.Data.{Data, number, string, array, unsigned, Items, Members, no_members, member}
use Rattle.serde_json.specs.Find.{get, get_member, as_array, as_str, as_number, as_u64}
use Rattle.pp_plan.specs.declared.mode.Mode.{Mode}
use Rattle.pp_plan.specs.declared.mode.Mode.TheVariants.{S, X}
use Rattle.pp_plan.specs.declared.kind.Kind.{Kind}
use Rattle.pp_plan.specs.declared.kind.Kind.TheVariants.{Fix, Unfix, Latch, Unlatch, Gather, Scatter, Loop, Choice}
use Rattle.pp_plan.specs.declared.error.PlanError.TheVariants.{NoSuchStatement, WrongField}
use Rattle.pp_text.specs.Steps.{must}
use Rattle.pp_text.specs.Objects.{is_one_of, has_only_keys, AreAmong, HasOnly, Holds}
use Rattle.pp_text.proofs.Steps.{bind_ok, must_ok, ok_or_ok, ok_is}
use Rattle.pp_text.proofs.Keys.{only_found, only_again}
use Rattle.pp_text.proofs.Values.{array_is, string_is, number_is}
use Rattle.pp_plan.specs.Keys.{keys_of, first_key, IsKindOf}
use Rattle.pp_plan.specs.Shapes.{Shape, fix_shape, unfix_shape, latch_shape, unlatch_shape, gather_shape}
use Rattle.pp_plan.specs.Shapes.{scatter_shape, loop_shape, choice_shape}
use Rattle.pp_plan.specs.Shapes.{kind_of, value_at, text_at, number_at, list_at, mode_named, mode_at, are_lists}
use Rattle.pp_plan.specs.Shapes.{shape_at, shape_of}
use Rattle.pp_plan.specs.Spelling.{letter_of}
use Rattle.pp_plan.specs.Faults.{SpellsShape}
use Rattle.pp_plan.proofs.Order.{equal_is}
use Rattle.pp_plan.proofs.OneKind.{kind_found, kind_again}

-- ---- keys

pub same : (k a : List ℕ) → bytes_eq k a ≡ true → k ≡ a
same k a = (bytes_eq-Decides k a).0

-- a key that is none of these has no value
no_value : {A : Type 0} (o : Ordering) (v : A) (rest : Option A) → (o ≡ Equal → ⊥) → rest ≡ None
    → match_ordering o rest (Some v) rest ≡ None
no_value Less v rest other e = e
no_value Equal v rest other e = absurd (other refl)
no_value Greater v rest other e = e

absent_in : (keys : List (List ℕ)) (k : List ℕ) → is_one_of keys k ≡ false → (ms : Members) → AreAmong keys ms
    → get_member k ms ≡ None
absent_in keys k other no_members h = refl
absent_in keys k other (member l d ms) h =
    no_value (slice_cmp nat_cmp k l) d (get_member k ms)
    (λ e.
    let (i, within, is) = h.0 in
    false≢true (sym other ∙ list_any_at (bytes_eq k) keys i l within
    ((bytes_eq-Decides k (get_or keys i l)).1 (equal_is k l e ∙ sym is))))
    (absent_in keys k other ms h.1)

pub absent : (keys : List (List ℕ)) (k : List ℕ) → is_one_of keys k ≡ false → (d : Data) → HasOnly keys d
    → get k d ≡ None
absent keys k other d (ms, e, h) = ap (get k) e ∙ absent_in keys k other ms h

pub none_some : {A : Type 0} (o : Option A) (x : A) → o ≡ None → o ≡ Some x → ⊥
none_some o x a b = absurd cc

pub no_key : (keys : List (List ℕ)) (k : List ℕ) → is_one_of keys k ≡ false → (d : Data) → HasOnly keys d → (v : Data)
    → Holds d k v → ⊥
no_key keys k other d only v held = none_some (get k d) v (absent keys k other d only) held

-- ---- the values of the keys

mode_by : (t : List ℕ) (m : Mode) (a b : Bool) → bytes_eq t (codes "S") ≡ a → bytes_eq t (codes "X") ≡ b
    → mode_named t ≡ Some m → t ≡ letter_of m
mode_by t S true b p q e = same t (codes "S") p
mode_by t X true b p q e = let it : mode_named t ≡ Some S = rw p refl in absurd cc
mode_by t S false true p q e = let it : mode_named t ≡ Some X = rw (p, q) refl in absurd cc
mode_by t X false true p q e = same t (codes "X") q
mode_by t m false false p q e = let it : mode_named t ≡ None = rw (p, q) refl in absurd cc

mode_is : (t : List ℕ) (m : Mode) → mode_named t ≡ Some m → t ≡ letter_of m
mode_is t m e = mode_by t m (bytes_eq t (codes "S")) (bytes_eq t (codes "X")) refl refl e

mode_again : (m : Mode) → mode_named (letter_of m) ≡ Some m
mode_again S = refl
mode_again X = refl

pub value_found : (key : List ℕ) (n : ℕ) (d v : Data) → value_at key n d ≡ Ok v → Holds d key v
unfolding value_at
value_found key n d v e = ok_or_ok (get key d) (WrongField n) v e

pub text_found : (key : List ℕ) (n : ℕ) (d : Data) (s : List ℕ) → text_at key n d ≡ Ok s → Holds d key (string s)
unfolding text_at
text_found key n d s e =
    let (v, found, is) = bind_ok (value_at key n d) _ s e in
    value_found key n d v found ∙ ap (λ (x : Data). Some x) (string_is v s (ok_or_ok (as_str v) (WrongField n) s is))

pub number_found : (key : List ℕ) (n : ℕ) (d : Data) (m : ℕ) → number_at key n d ≡ Ok m
    → Holds d key (number (unsigned m))
unfolding number_at
number_found key n d m e =
    let (v, found, is) = bind_ok (value_at key n d) _ m e in
    value_found key n d v found ∙ number_is (Some v) m
    (ok_or_ok (option_and_then as_u64 (as_number v)) (WrongField n) m is)

pub list_found : (key : List ℕ) (n : ℕ) (d : Data) (ds : Items) → list_at key n d ≡ Ok ds → Holds d key (array ds)
unfolding list_at
list_found key n d ds e =
    let (v, found, is) = bind_ok (value_at key n d) _ ds e in
    value_found key n d v found ∙ ap (λ (x : Data). Some x) (array_is v ds (ok_or_ok (as_array v) (WrongField n) ds is))

pub mode_found : (key : List ℕ) (n : ℕ) (d : Data) (m : Mode) → mode_at key n d ≡ Ok m
    → Holds d key (string (letter_of m))
unfolding mode_at
mode_found key n d m e =
    let (t, found, is) = bind_ok (text_at key n d) _ m e in
    text_found key n d t found ∙ ap (λ (x : List ℕ). Some (string x))
    (mode_is t m (ok_or_ok (mode_named t) (WrongField n) m is))

pub value_again : (key : List ℕ) (n : ℕ) (d v : Data) → Holds d key v → value_at key n d ≡ Ok v
unfolding value_at
value_again key n d v held = ap (λ (o : Option Data). ok_or o (WrongField n)) held

pub text_again : (key : List ℕ) (n : ℕ) (d : Data) (s : List ℕ) → Holds d key (string s) → text_at key n d ≡ Ok s
unfolding text_at
text_again key n d s held = rw (value_again key n d (string s) held) refl

pub number_again : (key : List ℕ) (n : ℕ) (d : Data) (m : ℕ) → Holds d key (number (unsigned m))
    → number_at key n d ≡ Ok m
unfolding number_at
number_again key n d m held = rw (value_again key n d (number (unsigned m)) held) refl

pub list_again : (key : List ℕ) (n : ℕ) (d : Data) (ds : Items) → Holds d key (array ds) → list_at key n d ≡ Ok ds
unfolding list_at
list_again key n d ds held = rw (value_again key n d (array ds) held) refl

pub mode_at_again : (key : List ℕ) (n : ℕ) (d : Data) (m : Mode) → Holds d key (string (letter_of m))
    → mode_at key n d ≡ Ok m
unfolding mode_at
mode_at_again key n d m held = rw (text_again key n d (letter_of m) held, mode_again m) refl

-- ---- the whole form

form_found : (version : ℕ) (kind : Kind) (n : ℕ) (d : Data) (shape : Shape) → IsKindOf version kind
    → has_only_keys (keys_of kind) d ≡ true → shape_at kind n d ≡ Ok shape → SpellsShape version d shape
unfolding shape_at
form_found version Fix n d shape of only e =
    let (slot, a, e1) = bind_ok (text_at (codes "fix") n d) _ shape e in
    let (region, b, e2) = bind_ok (text_at (codes "region") n d) _ shape e1 in
    subst (λ (x : Shape). SpellsShape version d x) (ok_is (fix_shape slot region) shape e2)
    (only_found (keys_of Fix) d only, text_found (codes "fix") n d slot a, text_found (codes "region") n d region b)
form_found version Unfix n d shape of only e =
    let (slot, a, e1) = bind_ok (text_at (codes "unfix") n d) _ shape e in
    subst (λ (x : Shape). SpellsShape version d x) (ok_is (unfix_shape slot) shape e1)
    (only_found (keys_of Unfix) d only, text_found (codes "unfix") n d slot a)
form_found version Latch n d shape of only e =
    let (slot, a, e1) = bind_ok (text_at (codes "latch") n d) _ shape e in
    let (mode, b, e2) = bind_ok (mode_at (codes "mode") n d) _ shape e1 in
    subst (λ (x : Shape). SpellsShape version d x) (ok_is (latch_shape slot mode) shape e2)
    (only_found (keys_of Latch) d only, text_found (codes "latch") n d slot a, mode_found (codes "mode") n d mode b)
form_found version Unlatch n d shape of only e =
    let (slot, a, e1) = bind_ok (text_at (codes "unlatch") n d) _ shape e in
    subst (λ (x : Shape). SpellsShape version d x) (ok_is (unlatch_shape slot) shape e1)
    (only_found (keys_of Unlatch) d only, text_found (codes "unlatch") n d slot a)
form_found version Gather n d shape of only e =
    let (slot, a, e1) = bind_ok (text_at (codes "gather") n d) _ shape e in
    let (region, b, e2) = bind_ok (text_at (codes "region") n d) _ shape e1 in
    subst (λ (x : Shape). SpellsShape version d x) (ok_is (gather_shape slot region) shape e2) (
      only_found (keys_of Gather) d only,
      text_found (codes "gather") n d slot a,
      text_found (codes "region") n d region b,
      of,
    )
form_found version Scatter n d shape of only e =
    let (slot, a, e1) = bind_ok (text_at (codes "scatter") n d) _ shape e in
    subst (λ (x : Shape). SpellsShape version d x) (ok_is (scatter_shape slot) shape e1)
    (only_found (keys_of Scatter) d only, text_found (codes "scatter") n d slot a, of)
form_found version Loop n d shape of only e =
    let (count, a, e1) = bind_ok (number_at (codes "loop") n d) _ shape e in
    let (body, b, e2) = bind_ok (list_at (codes "body") n d) _ shape e1 in
    subst (λ (x : Shape). SpellsShape version d x) (ok_is (loop_shape count body) shape e2) (
      only_found (keys_of Loop) d only,
      number_found (codes "loop") n d count a,
      list_found (codes "body") n d body b,
    )
form_found version Choice n d shape of only e =
    let (branches, a, e1) = bind_ok (list_at (codes "choice") n d) _ shape e in
    let (x, lists, e2) = bind_ok (must (are_lists branches) (WrongField n)) _ shape e1 in
    subst (λ (x : Shape). SpellsShape version d x) (ok_is (choice_shape branches) shape e2) (
      only_found (keys_of Choice) d only,
      list_found (codes "choice") n d branches a,
      must_ok (are_lists branches) (WrongField n) x lists,
    )

pub shape_found : (version n : ℕ) (d : Data) (shape : Shape) → shape_of version n d ≡ Ok shape
    → SpellsShape version d shape
unfolding shape_of
shape_found version n d shape e =
    let (kind, is, e1) = bind_ok (ok_or (kind_of version d) (NoSuchStatement n)) _ shape e in
    let (x, only, e2) = bind_ok (must (has_only_keys (keys_of kind) d) (WrongField n)) _ shape e1 in
    let of = (kind_found version d kind (ok_or_ok (kind_of version d) (NoSuchStatement n) kind is)).0 in
    form_found version kind n d shape of (must_ok (has_only_keys (keys_of kind) d) (WrongField n) x only) e2

-- ---- a form that is spelled is read

-- the first key of another kind is not among a kind's keys
pub foreign : (k j : Kind) → (j ≡ k) ⊎ (is_one_of (keys_of k) (first_key j) ≡ false)
foreign Fix Fix = inl refl
foreign Unfix Unfix = inl refl
foreign Latch Latch = inl refl
foreign Unlatch Unlatch = inl refl
foreign Gather Gather = inl refl
foreign Scatter Scatter = inl refl
foreign Loop Loop = inl refl
foreign Choice Choice = inl refl
foreign _ _ = inr refl

-- a value of a kind's keys has the first key of no other kind
pub only_kind : (k j : Kind) (d v : Data) → HasOnly (keys_of k) d → Holds d (first_key j) v → j ≡ k
only_kind k j d v keys held =
    elim (foreign k j) as (λ _. j ≡ k)
    [ inl same ↦ same | inr other ↦ absurd (no_key (keys_of k) (first_key j) other d keys v held) ]

form_kind : (version : ℕ) (k : Kind) (d v : Data) → IsKindOf version k → HasOnly (keys_of k) d → Holds d (first_key k) v
    → kind_of version d ≡ Some k
form_kind version k d v of keys held =
    kind_again version d k (of, (v, held), λ j w is there. only_kind k j d w keys there)

shape_when : (version : ℕ) (kind : Kind) (n : ℕ) (d v : Data) (shape : Shape) → IsKindOf version kind
    → HasOnly (keys_of kind) d → Holds d (first_key kind) v → shape_at kind n d ≡ Ok shape
    → shape_of version n d ≡ Ok shape
unfolding shape_of
shape_when version kind n d v shape of keys held at =
    rw (form_kind version kind d v of keys held, only_again (keys_of kind) d keys) at

pub shape_again : (version n : ℕ) (d : Data) (shape : Shape) → SpellsShape version d shape
    → shape_of version n d ≡ Ok shape
unfolding shape_at
shape_again version n d (fix_shape slot region) (keys, a, b) =
    shape_when version Fix n d (string slot) (fix_shape slot region) tt keys a
    (rw (text_again (codes "fix") n d slot a, text_again (codes "region") n d region b) refl)
shape_again version n d (unfix_shape slot) (keys, a) =
    shape_when version Unfix n d (string slot) (unfix_shape slot) tt keys a
    (rw (text_again (codes "unfix") n d slot a) refl)
shape_again version n d (latch_shape slot mode) (keys, a, b) =
    shape_when version Latch n d (string slot) (latch_shape slot mode) tt keys a
    (rw (text_again (codes "latch") n d slot a, mode_at_again (codes "mode") n d mode b) refl)
shape_again version n d (unlatch_shape slot) (keys, a) =
    shape_when version Unlatch n d (string slot) (unlatch_shape slot) tt keys a
    (rw (text_again (codes "unlatch") n d slot a) refl)
shape_again version n d (gather_shape slot region) (keys, a, b, of) =
    shape_when version Gather n d (string slot) (gather_shape slot region) of keys a
    (rw (text_again (codes "gather") n d slot a, text_again (codes "region") n d region b) refl)
shape_again version n d (scatter_shape slot) (keys, a, of) =
    shape_when version Scatter n d (string slot) (scatter_shape slot) of keys a
    (rw (text_again (codes "scatter") n d slot a) refl)
shape_again version n d (loop_shape count ds) (keys, a, b) =
    shape_when version Loop n d (number (unsigned count)) (loop_shape count ds) tt keys a
    (rw (number_again (codes "loop") n d count a, list_again (codes "body") n d ds b) refl)
shape_again version n d (choice_shape ds) (keys, a, b) =
    shape_when version Choice n d (array ds) (choice_shape ds) tt keys a
    (rw (list_again (codes "choice") n d ds a, b) refl)
