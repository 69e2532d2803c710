-- What may be wrong with one statement, by its form.
use Rattle.std.proofs.Common.{◌≡◌, ◌⊎◌, inl, inr, ℕ, ◌+◌, ◌≤◌, Bool, true, false, not, ◌&&◌, ◌==◌, nat_le, List}
use Rattle.std.proofs.Common.{[], length, Option, Some, None, Result, Ok, Err, codes, refl, sym, ap}
use Rattle.std.proofs.Common.{subst, ◌∙◌, arith}
use Rattle.std.specs.Option.{ok_or, option_and_then}
use Rattle.std.specs.List.{flat_map}
use Rattle.std.proofs.lemmas.Bool.{false≢true, eqb-true, and_parts}
use Rattle.std.proofs.lemmas.Bool.Decides.{nat_tests}
use Rattle.std.proofs.lemmas.Option.{same_Some}
use Rattle.std.proofs.lemmas.List.{append-nil}
use Rattle.serde_json.specs.Data.{Data, null, boolean, number, unsigned, string, array, object, Items, no_items, item}
use Rattle.serde_json.specs.Find.{get, as_array, as_str, as_number, as_u64}
use Rattle.pp_plan.specs.declared.mode.Mode.{Mode}
use Rattle.pp_plan.specs.declared.kind.Kind.{Kind}
use Rattle.pp_plan.specs.declared.kind.Kind.TheVariants.{Fix, Unfix, Latch, Unlatch, Gather, Scatter, Loop, Choice}
use Rattle.pp_plan.specs.declared.error.PlanError.{PlanError}
use Rattle.pp_plan.specs.declared.error.PlanError.TheVariants.{NoSuchStatement, WrongField}
use Rattle.pp_text.specs.Steps.{◌>>=◌, must}
use Rattle.pp_text.specs.Objects.{is_one_of, has_only_keys, HasOnly, Holds}
use Rattle.pp_text.proofs.Steps.{bind_ok, ok_or_ok}
use Rattle.pp_plan.specs.Keys.{keys_of, first_key}
use Rattle.pp_plan.specs.Shapes.{kind_of, value_at, text_at, number_at, list_at, mode_named, mode_at, are_lists, Shape}
use Rattle.pp_plan.specs.Shapes.{fix_shape, unfix_shape, latch_shape, unlatch_shape, gather_shape, scatter_shape}
use Rattle.pp_plan.specs.Shapes.{loop_shape, choice_shape, shape_at, shape_of}
use Rattle.pp_plan.specs.Reading.{items_in, item_count}
use Rattle.pp_text.specs.Objects.{elements}
use Rattle.pp_plan.specs.Faults.{listed, directly_inside, IsOfKind, SpellsShape, NamesPlain, NamesBundle, NamesSlot}
use Rattle.pp_plan.specs.Faults.{IsOutOfRange}
use Rattle.pp_plan.proofs.OneKind.{kind_found, kind_again}
use Rattle.pp_plan.proofs.Forms.{none_some, absent, no_key, only_kind, shape_found, shape_again}

pub err_is : {A : Type 0} (d e : PlanError) → ◌≡◌ {A = Result A PlanError} (Err d) (Err e) → d ≡ e
err_is d e h = cc

pub ok_err : {A : Type 0} (r : Result A PlanError) (x : A) (e : PlanError) → r ≡ Ok x → r ≡ Err e → ⊥
ok_err r x e a b = absurd cc

-- a key has one value
text_is : (k : List ℕ) (d : Data) (s t : List ℕ) → Holds d k (string s) → Holds d k (string t) → s ≡ t
text_is k d s t a b = let both : ◌≡◌ {A = Option Data} (Some (string s)) (Some (string t)) = sym a ∙ b in cc

number_is : (k : List ℕ) (d : Data) (m n : ℕ) → Holds d k (number (unsigned m)) → Holds d k (number (unsigned n))
    → m ≡ n
number_is k d m n a b = let both : ◌≡◌ {A = Option Data} (Some (number (unsigned m))) (Some (number (unsigned n))) =
    sym a ∙ b in cc

list_is : (k : List ℕ) (d : Data) (ds es : Items) → Holds d k (array ds) → Holds d k (array es) → ds ≡ es
list_is k d ds es a b = let both : ◌≡◌ {A = Option Data} (Some (array ds)) (Some (array es)) = sym a ∙ b in cc

-- ---- steps that fail with one error only

abbrev pub FailsAs : {A : Type 0} → PlanError → Result A PlanError → Type 0
FailsAs e (Ok x) = Unit {0}
FailsAs e (Err d) = e ≡ d

pub then_fails : {A B : Type 0} (e : PlanError) (r : Result A PlanError) (next : A → Result B PlanError) → FailsAs e r
    → ((x : A) → FailsAs e (next x)) → FailsAs e (r >>= next)
then_fails e (Ok x) next a b = b x
then_fails e (Err d) next a b = a

pub must_fails : (b : Bool) (e : PlanError) → FailsAs e (must b e)
must_fails true e = tt
must_fails false e = refl

pub or_fails : {A : Type 0} (o : Option A) (e : PlanError) → FailsAs e (ok_or o e)
or_fails None e = refl
or_fails (Some x) e = tt

pub value_fails : (key : List ℕ) (n : ℕ) (d : Data) → FailsAs (WrongField n) (value_at key n d)
unfolding value_at
value_fails key n d = or_fails (get key d) (WrongField n)

text_fails : (key : List ℕ) (n : ℕ) (d : Data) → FailsAs (WrongField n) (text_at key n d)
unfolding text_at
text_fails key n d =
    then_fails (WrongField n) (value_at key n d) _ (value_fails key n d) (λ v. or_fails (as_str v) (WrongField n))

number_fails : (key : List ℕ) (n : ℕ) (d : Data) → FailsAs (WrongField n) (number_at key n d)
unfolding number_at
number_fails key n d =
    then_fails (WrongField n) (value_at key n d) _ (value_fails key n d)
    (λ v. or_fails (option_and_then as_u64 (as_number v)) (WrongField n))

pub list_fails : (key : List ℕ) (n : ℕ) (d : Data) → FailsAs (WrongField n) (list_at key n d)
unfolding list_at
list_fails key n d =
    then_fails (WrongField n) (value_at key n d) _ (value_fails key n d) (λ v. or_fails (as_array v) (WrongField n))

mode_fails : (key : List ℕ) (n : ℕ) (d : Data) → FailsAs (WrongField n) (mode_at key n d)
unfolding mode_at
mode_fails key n d =
    then_fails (WrongField n) (text_at key n d) _ (text_fails key n d) (λ t. or_fails (mode_named t) (WrongField n))

shape_fails : (k : Kind) (n : ℕ) (d : Data) → FailsAs (WrongField n) (shape_at k n d)
unfolding shape_at
shape_fails Fix n d =
    then_fails (WrongField n) (text_at (codes "fix") n d) _ (text_fails (codes "fix") n d)
    (λ s. then_fails (WrongField n) (text_at (codes "region") n d) _ (text_fails (codes "region") n d) (λ r. tt))
shape_fails Unfix n d =
    then_fails (WrongField n) (text_at (codes "unfix") n d) _ (text_fails (codes "unfix") n d) (λ s. tt)
shape_fails Latch n d =
    then_fails (WrongField n) (text_at (codes "latch") n d) _ (text_fails (codes "latch") n d)
    (λ s. then_fails (WrongField n) (mode_at (codes "mode") n d) _ (mode_fails (codes "mode") n d) (λ m. tt))
shape_fails Unlatch n d =
    then_fails (WrongField n) (text_at (codes "unlatch") n d) _ (text_fails (codes "unlatch") n d) (λ s. tt)
shape_fails Gather n d =
    then_fails (WrongField n) (text_at (codes "gather") n d) _ (text_fails (codes "gather") n d)
    (λ s. then_fails (WrongField n) (text_at (codes "region") n d) _ (text_fails (codes "region") n d) (λ r. tt))
shape_fails Scatter n d =
    then_fails (WrongField n) (text_at (codes "scatter") n d) _ (text_fails (codes "scatter") n d) (λ s. tt)
shape_fails Loop n d =
    then_fails (WrongField n) (number_at (codes "loop") n d) _ (number_fails (codes "loop") n d)
    (λ c. then_fails (WrongField n) (list_at (codes "body") n d) _ (list_fails (codes "body") n d) (λ b. tt))
shape_fails Choice n d =
    then_fails (WrongField n) (list_at (codes "choice") n d) _ (list_fails (codes "choice") n d)
    (λ bs. then_fails (WrongField n) (must (are_lists bs) (WrongField n)) _
    (must_fails (are_lists bs) (WrongField n)) (λ x. tt))

-- ---- the form

-- what the reading of a form says of the value
abbrev pub FormIs : (version : ℕ) → ℕ → Data → Result Shape PlanError → Type 0
FormIs version n d (Ok shape) = ((k : Kind) × IsOfKind version d k) × SpellsShape version d shape
FormIs version n d (Err e) =
    ((NoSuchStatement n ≡ e) × ¬ ((k : Kind) × IsOfKind version d k))
    ⊎ (((k : Kind) × IsOfKind version d k) × (WrongField n ≡ e) × ¬ ((shape : Shape) × SpellsShape version d shape))

form_by : (version n : ℕ) (d : Data) (o : Option Kind) → kind_of version d ≡ o → (e : PlanError)
    → shape_of version n d ≡ Err e → FormIs version n d (Err e)
unfolding shape_of
form_by version n d None is e h =
    let fails : shape_of version n d ≡ Err (NoSuchStatement n) = rw is refl in
    inl (
      err_is (NoSuchStatement n) e (sym fails ∙ h),
      λ k. none_some (kind_of version d) k.0 is (kind_again version d k.0 k.1),
    )
form_by version n d (Some k) is e h =
    let rest : Result Shape PlanError = must (has_only_keys (keys_of k) d) (WrongField n) >>= λ only. shape_at k n d in
    let same : shape_of version n d ≡ rest = rw is refl in
    let fails : FailsAs (WrongField n) rest =
    then_fails (WrongField n) (must (has_only_keys (keys_of k) d) (WrongField n)) _
    (must_fails (has_only_keys (keys_of k) d) (WrongField n)) (λ only. shape_fails k n d) in
    inr (
      (k, kind_found version d k is),
      subst (λ (r : Result Shape PlanError). FailsAs (WrongField n) r) (sym same ∙ h) fails,
      λ s. ok_err (shape_of version n d) s.0 e (shape_again version n d s.0 s.1) h,
    )

pub form_is : (version n : ℕ) (d : Data) → FormIs version n d (shape_of version n d)
unfolding shape_of
form_is version n d = by (shape_of version n d) refl
  where
    by : (r : Result Shape PlanError) → shape_of version n d ≡ r → FormIs version n d r
    by (Ok shape) e =
        let (k, kind, _) = bind_ok (ok_or (kind_of version d) (NoSuchStatement n)) _ shape e in
        let is = kind_found version d k (ok_or_ok (kind_of version d) (NoSuchStatement n) k kind) in
        ((k, is), shape_found version n d shape e)
    by (Err x) e = form_by version n d (kind_of version d) refl x e

-- ---- the slot that a form names

-- the value names the slot in this way: as a bundle, or as a plain one
abbrev pub NamesAs : (bundle : Bool) → Data → List ℕ → Type 0
NamesAs true d name = NamesBundle d name
NamesAs false d name = NamesPlain d name

pub names_as : (d : Data) (name : List ℕ) → NamesSlot d name → (bundle : Bool) × NamesAs bundle d name
names_as d name (inl h) = (false, h)
names_as d name (inr h) = (true, h)

pub names_slot : (bundle : Bool) (d : Data) (name : List ℕ) → NamesAs bundle d name → NamesSlot d name
names_slot true d name h = inr h
names_slot false d name h = inl h

-- the kind of a form, and whether its slot is a bundle
abbrev shape_kind : Shape → Kind
shape_kind (fix_shape slot region) = Fix
shape_kind (unfix_shape slot) = Unfix
shape_kind (latch_shape slot mode) = Latch
shape_kind (unlatch_shape slot) = Unlatch
shape_kind (gather_shape slot region) = Gather
shape_kind (scatter_shape slot) = Scatter
shape_kind (loop_shape n ds) = Loop
shape_kind (choice_shape ds) = Choice

abbrev way_of : Kind → Option Bool
way_of Fix = Some false
way_of Unfix = Some false
way_of Latch = Some false
way_of Unlatch = Some false
way_of Gather = Some true
way_of Scatter = Some true
way_of Loop = None
way_of Choice = None

-- the slot and its way
abbrev pub slot_in : Shape → Option (Bool × List ℕ)
slot_in (fix_shape slot region) = Some (false, slot)
slot_in (unfix_shape slot) = Some (false, slot)
slot_in (latch_shape slot mode) = Some (false, slot)
slot_in (unlatch_shape slot) = Some (false, slot)
slot_in (gather_shape slot region) = Some (true, slot)
slot_in (scatter_shape slot) = Some (true, slot)
slot_in (loop_shape n ds) = None
slot_in (choice_shape ds) = None

only_keys : (version : ℕ) (d : Data) (shape : Shape) → SpellsShape version d shape
    → HasOnly (keys_of (shape_kind shape)) d
only_keys version d (fix_shape slot region) h = h.0
only_keys version d (unfix_shape slot) h = h.0
only_keys version d (latch_shape slot mode) h = h.0
only_keys version d (unlatch_shape slot) h = h.0
only_keys version d (gather_shape slot region) h = h.0
only_keys version d (scatter_shape slot) h = h.0
only_keys version d (loop_shape n ds) h = h.0
only_keys version d (choice_shape ds) h = h.0

-- a name stands at the first key of a kind
at_kind : (bundle : Bool) (d : Data) (name : List ℕ) → NamesAs bundle d name
    → (k : Kind) × (way_of k ≡ Some bundle) × Holds d (first_key k) (string name)
at_kind false d name (inl h) = (Fix, refl, h)
at_kind false d name (inr (inl h)) = (Unfix, refl, h)
at_kind false d name (inr (inr (inl h))) = (Latch, refl, h)
at_kind false d name (inr (inr (inr h))) = (Unlatch, refl, h)
at_kind true d name (inl h) = (Gather, refl, h)
at_kind true d name (inr h) = (Scatter, refl, h)

slot_is : (b c : Bool) (s t : List ℕ) → ◌≡◌ {A = Option Bool} (Some b) (Some c) → s ≡ t
    → ◌≡◌ {A = Option (Bool × List ℕ)} (Some (b, s)) (Some (c, t))
slot_is b c s t way same = let e : b ≡ c = same_Some b c way in λ i. Some (e i, same i)

pub names_in : (version : ℕ) (d : Data) (shape : Shape) (bundle : Bool) (name : List ℕ) → SpellsShape version d shape
    → NamesAs bundle d name → slot_in shape ≡ Some (bundle, name)
names_in version d shape bundle name h names =
    let (k, way, held) = at_kind bundle d name names in
    let same : k ≡ shape_kind shape =
    only_kind (shape_kind shape) k d (string name) (only_keys version d shape h) held in
    by shape h (ap way_of (sym same) ∙ way) (subst (λ (j : Kind). Holds d (first_key j) (string name)) same held)
  where
    by : (shape : Shape) → SpellsShape version d shape → way_of (shape_kind shape) ≡ Some bundle
        → Holds d (first_key (shape_kind shape)) (string name) → slot_in shape ≡ Some (bundle, name)
    by (fix_shape slot region) h way held = slot_is false bundle slot name way (text_is (codes "fix") d slot name h.1 held)
    by (unfix_shape slot) h way held = slot_is false bundle slot name way (text_is (codes "unfix") d slot name h.1 held)
    by (latch_shape slot mode) h way held =
        slot_is false bundle slot name way (text_is (codes "latch") d slot name h.1 held)
    by (unlatch_shape slot) h way held =
        slot_is false bundle slot name way (text_is (codes "unlatch") d slot name h.1 held)
    by (gather_shape slot region) h way held =
        slot_is true bundle slot name way (text_is (codes "gather") d slot name h.1 held)
    by (scatter_shape slot) h way held =
        slot_is true bundle slot name way (text_is (codes "scatter") d slot name h.1 held)
    by (loop_shape n ds) h way held = absurd cc
    by (choice_shape ds) h way held = absurd cc

-- a statement of this form has no values inside it, names no region, and is in range
abbrev pub HasNoBody : Data → Type 0
HasNoBody d = (get (codes "body") d ≡ None) × (get (codes "choice") d ≡ None) × (get (codes "loop") d ≡ None)

pub no_body : (keys : List (List ℕ)) (d : Data) → is_one_of keys (codes "body") ≡ false
    → is_one_of keys (codes "choice") ≡ false → is_one_of keys (codes "loop") ≡ false → HasOnly keys d → HasNoBody d
no_body keys d a b c only =
    (absent keys (codes "body") a d only, absent keys (codes "choice") b d only, absent keys (codes "loop") c d only)

pub none_inside : (d : Data) → HasNoBody d → directly_inside d ≡ []
none_inside d (body, choices, turns) = rw (body, choices) refl

pub loop_inside : (version : ℕ) (d : Data) (n : ℕ) (ds : Items) → SpellsShape version d (loop_shape n ds)
    → directly_inside d ≡ elements ds
loop_inside version d n ds (keys, at, held) =
    rw (held, absent (keys_of Loop) (codes "choice") refl d keys) (append-nil (elements ds))

pub choice_inside : (version : ℕ) (d : Data) (ds : Items) → SpellsShape version d (choice_shape ds)
    → directly_inside d ≡ flat_map listed (elements ds)
choice_inside version d ds (keys, held, lists) = rw (held, absent (keys_of Choice) (codes "body") refl d keys) refl

pub listed_is : (d : Data) → listed d ≡ elements (items_in d)
listed_is (array ds) = refl
listed_is null = refl
listed_is (boolean b) = refl
listed_is (number n) = refl
listed_is (string s) = refl
listed_is (object ms) = refl

-- ---- limits

pub in_range : (d : Data) → HasNoBody d → ¬ IsOutOfRange d
in_range d (body, choices, turns) (inl (n, held, bad)) =
    none_some (get (codes "loop") d) (number (unsigned n)) turns held
in_range d (body, choices, turns) (inr (inl held)) = none_some (get (codes "body") d) (array no_items) body held
in_range d (body, choices, turns) (inr (inr (ds, held, bad))) =
    none_some (get (codes "choice") d) (array ds) choices held

counted : (ds : Items) → item_count ds ≡ length (elements ds)
counted no_items = refl
counted (item d ds) = let e = counted ds in omega (arith, e)

within : (low high n : ℕ) → (nat_le low n && nat_le n high) ≡ true → (low ≤ n) × (n ≤ high)
within low high n e = grind (arith, nat_tests)

without : (low high n : ℕ) → (nat_le low n && nat_le n high) ≡ false → ¬ ((low ≤ n) × (n ≤ high))
without low high n e (a, b) = grind (arith, nat_tests)

not_false : (b : Bool) → not b ≡ false → b ≡ true
not_false true e = refl
not_false false e = absurd (false≢true (sym e))

-- the test of a loop
abbrev pub loop_test : ℕ → Items → Bool
loop_test n ds = (nat_le 1 n && nat_le n 65535) && not (item_count ds == 0)

pub loop_in : (version : ℕ) (d : Data) (n : ℕ) (ds : Items) → SpellsShape version d (loop_shape n ds) → loop_test n ds ≡ true
    → ¬ IsOutOfRange d
loop_in version d n ds (keys, at, held) test (inl (m, there, bad)) =
    let same : n ≡ m = number_is (codes "loop") d n m at there in
    let (low, high) = within 1 65535 n (and_parts (nat_le 1 n && nat_le n 65535) (not (item_count ds == 0)) test).0 in
    bad (omega (arith, same, low), omega (arith, same, high))
loop_in version d n ds (keys, at, held) test (inr (inl empty)) =
    let some : not (item_count ds == 0) ≡ true =
    (and_parts (nat_le 1 n && nat_le n 65535) (not (item_count ds == 0)) test).1 in
    false≢true
    (subst (λ (es : Items). not (item_count es == 0) ≡ true) (list_is (codes "body") d ds no_items held empty)
    some)
loop_in version d n ds (keys, at, held) test (inr (inr (es, there, bad))) =
    no_key (keys_of Loop) (codes "choice") refl d keys (array es) there

pub loop_out : (version : ℕ) (d : Data) (n : ℕ) (ds : Items) → SpellsShape version d (loop_shape n ds) → loop_test n ds ≡ false
    → IsOutOfRange d
loop_out version d n no_items (keys, at, held) test = inr (inl held)
loop_out version d n (item e es) (keys, at, held) test = by (nat_le 1 n && nat_le n 65535) refl test
  where
    by : (b : Bool) → (nat_le 1 n && nat_le n 65535) ≡ b → (b && not (item_count (item e es) == 0)) ≡ false
        → IsOutOfRange d
    by true is bad = let none : item_count es + 1 ≡ 0 = eqb-true (item_count es + 1) 0 (not_false _ bad) in
        absurd (omega (arith, none))
    by false is bad = inl (n, at, without 1 65535 n is)

-- the test of a choice
abbrev pub choice_test : Items → Bool
choice_test ds = nat_le 1 (item_count ds) && nat_le (item_count ds) 16

pub choice_in : (version : ℕ) (d : Data) (ds : Items) → SpellsShape version d (choice_shape ds)
    → choice_test ds ≡ true → ¬ IsOutOfRange d
choice_in version d ds (keys, held, lists) test (inl (n, there, bad)) =
    no_key (keys_of Choice) (codes "loop") refl d keys (number (unsigned n)) there
choice_in version d ds (keys, held, lists) test (inr (inl there)) =
    no_key (keys_of Choice) (codes "body") refl d keys (array no_items) there
choice_in version d ds (keys, held, lists) test (inr (inr (es, there, bad))) =
    let (low, high) = within 1 16 (item_count ds) test in
    let same : item_count ds ≡ length (elements es) = counted ds
    ∙ ap (λ (xs : Items). length (elements xs)) (list_is (codes "choice") d ds es held there) in
    bad (omega (arith, same, low), omega (arith, same, high))

pub choice_out : (version : ℕ) (d : Data) (ds : Items) → SpellsShape version d (choice_shape ds)
    → choice_test ds ≡ false → IsOutOfRange d
choice_out version d ds (keys, held, lists) test =
    inr (inr (
      ds,
      held,
      λ h. let same = counted ds in
          without 1 16 (item_count ds) test (omega (arith, same, h.0), omega (arith, same, h.1)),
    ))

-- ---- steps

-- the value names this slot alone, in this way, and no statements stand in it
pub record IsStepOf (d : Data) (bundle : Bool) (slot : List ℕ) : Type 0 where
  pub named : NamesAs bundle d slot
  pub only : (b : Bool) (name : List ℕ) → NamesAs b d name → (bundle ≡ b) × (slot ≡ name)
  pub body : HasNoBody d

step_by : (version : ℕ) (d : Data) (shape : Shape) (bundle : Bool) (slot : List ℕ) → SpellsShape version d shape
    → slot_in shape ≡ Some (bundle, slot) → NamesAs bundle d slot → HasNoBody d → IsStepOf d bundle slot
step_by version d shape bundle slot h is named body = record {
  named = named;
  only = λ b name n.
      let same = same_Some (bundle, slot) (b, name) (sym is ∙ names_in version d shape b name h n) in
      (ap (λ (x : Bool × List ℕ). x.0) same, ap (λ (x : Bool × List ℕ). x.1) same);
  body = body;
}

pub fix_step : (version : ℕ) (d : Data) (slot region : List ℕ) → SpellsShape version d (fix_shape slot region)
    → IsStepOf d false slot
fix_step version d slot region h =
    step_by version d (fix_shape slot region) false slot h refl (inl h.1) (no_body (keys_of Fix) d refl refl refl h.0)

pub unfix_step : (version : ℕ) (d : Data) (slot : List ℕ) → SpellsShape version d (unfix_shape slot)
    → IsStepOf d false slot
unfix_step version d slot h =
    step_by version d (unfix_shape slot) false slot h refl (inr (inl h.1))
    (no_body (keys_of Unfix) d refl refl refl h.0)

pub latch_step : (version : ℕ) (d : Data) (slot : List ℕ) (mode : Mode) → SpellsShape version d (latch_shape slot mode)
    → IsStepOf d false slot
latch_step version d slot mode h =
    step_by version d (latch_shape slot mode) false slot h refl (inr (inr (inl h.1)))
    (no_body (keys_of Latch) d refl refl refl h.0)

pub unlatch_step : (version : ℕ) (d : Data) (slot : List ℕ) → SpellsShape version d (unlatch_shape slot)
    → IsStepOf d false slot
unlatch_step version d slot h =
    step_by version d (unlatch_shape slot) false slot h refl (inr (inr (inr h.1)))
    (no_body (keys_of Unlatch) d refl refl refl h.0)

pub gather_step : (version : ℕ) (d : Data) (slot region : List ℕ) → SpellsShape version d (gather_shape slot region)
    → IsStepOf d true slot
gather_step version d slot region h =
    step_by version d (gather_shape slot region) true slot h refl (inl h.1)
    (no_body (keys_of Gather) d refl refl refl h.0)

pub scatter_step : (version : ℕ) (d : Data) (slot : List ℕ) → SpellsShape version d (scatter_shape slot)
    → IsStepOf d true slot
scatter_step version d slot h =
    step_by version d (scatter_shape slot) true slot h refl (inr h.1) (no_body (keys_of Scatter) d refl refl refl h.0)

-- the region of a fix or a gather, and of no other statement
abbrev pub NamesRegion : Data → List ℕ → Type 0
NamesRegion d name = Holds d (codes "region") (string name)

abbrev pub region_in : Shape → Option (List ℕ)
region_in (fix_shape slot region) = Some region
region_in (unfix_shape slot) = None
region_in (latch_shape slot mode) = None
region_in (unlatch_shape slot) = None
region_in (gather_shape slot region) = Some region
region_in (scatter_shape slot) = None
region_in (loop_shape n ds) = None
region_in (choice_shape ds) = None

pub region_is : (version : ℕ) (d : Data) (shape : Shape) (name : List ℕ) → SpellsShape version d shape
    → NamesRegion d name → region_in shape ≡ Some name
region_is version d (fix_shape slot region) name h named =
    ap (λ (x : List ℕ). Some x) (text_is (codes "region") d region name h.2 named)
region_is version d (unfix_shape slot) name h named =
    absurd (no_key (keys_of Unfix) (codes "region") refl d h.0 (string name) named)
region_is version d (latch_shape slot mode) name h named =
    absurd (no_key (keys_of Latch) (codes "region") refl d h.0 (string name) named)
region_is version d (unlatch_shape slot) name h named =
    absurd (no_key (keys_of Unlatch) (codes "region") refl d h.0 (string name) named)
region_is version d (gather_shape slot region) name h named =
    ap (λ (x : List ℕ). Some x) (text_is (codes "region") d region name h.2 named)
region_is version d (scatter_shape slot) name h named =
    absurd (no_key (keys_of Scatter) (codes "region") refl d h.0 (string name) named)
region_is version d (loop_shape n ds) name h named =
    absurd (no_key (keys_of Loop) (codes "region") refl d h.0 (string name) named)
region_is version d (choice_shape ds) name h named =
    absurd (no_key (keys_of Choice) (codes "region") refl d h.0 (string name) named)
