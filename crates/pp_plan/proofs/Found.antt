-- What the reading of statements gives: how the progress grows, that the statements keep the rules, and what they are
-- spelled by.
use Rattle.std.proofs.Common.{◌≡◌, ◌⊎◌, inl, inr, ℕ, zero, suc, ◌+◌, ◌<◌, ◌≤◌, Bool, true, false, not, ◌&&◌, ◌==◌, nat_le}
use Rattle.std.proofs.Common.{nat_lt, IsTrue, List, [], ◌∷◌, ◌++◌, length, Option, Some, None, is_some, Result, Ok}
use Rattle.std.proofs.Common.{codes, refl, sym, ap, subst, ◌∙◌, arith}
use Rattle.std.specs.Option.{ok_or}
use Rattle.std.specs.List.{slice_get, slice_index_or}
use Rattle.std.specs.Bool.{beq}
use Rattle.std.specs.Str.{bytes_eq}
use Rattle.std.proofs.lemmas.Bool.{false≢true, and_parts}
use Rattle.std.proofs.lemmas.Bool.Decides.{nat_tests}
use Rattle.std.proofs.lemmas.Option.{slice_get_within}
use Rattle.std.proofs.lemmas.List.{length-set, get_or-set_same, get_or-set_other}
use Rattle.std.proofs.lemmas.List.Quantifiers.{position-Some}
use Rattle.serde_json.specs.Data.{Data, null, boolean, number, string, array, object, Items, no_items, item}
use Rattle.serde_json.specs.Find.{as_array}
use Rattle.pp_settings.specs.Settings.{NamedRegion, Configuration, region_named}
use Rattle.pp_plan.specs.declared.error.PlanError.{PlanError}
use Rattle.pp_plan.specs.declared.error.PlanError.TheVariants.{BadName, NoSuchRegion, Range, TooMany, MixedSlot}
use Rattle.pp_plan.specs.Tree.{Step, fix, unfix, latch, unlatch, gather, scatter, Statement, step, loop, choice}
use Rattle.pp_plan.specs.Tree.{Sequence, skip, andthen}
use Rattle.pp_plan.specs.Tree.{Alternatives, none, either, statement_count, sequence_count, alternatives_count}
use Rattle.pp_plan.specs.Tree.{statement_depth, sequence_depth, alternatives_depth, branch_count}
use Rattle.pp_plan.specs.Names.{is_slot_name}
use Rattle.pp_plan.specs.Rules.{IsSome, IsStep, IsStatement, IsSequence, AreAlternatives}
use Rattle.pp_plan.specs.Progress.{Progress}
use Rattle.pp_text.specs.Steps.{must}
use Rattle.pp_plan.specs.Numbering.{position_of}
use Rattle.pp_plan.specs.Shapes.{Shape, fix_shape, unfix_shape, latch_shape, unlatch_shape, gather_shape}
use Rattle.pp_plan.specs.Shapes.{scatter_shape, loop_shape, choice_shape}
use Rattle.pp_plan.specs.Shapes.{shape_of, are_lists}
use Rattle.pp_plan.specs.Reading.{begun, with_name, used_at, used, slot_of, followed_by, with_branch, sequence_from}
use Rattle.pp_plan.specs.Reading.{alternatives_from, items_in, item_count, fix_by, statement_by, statement_at}
use Rattle.pp_plan.specs.Spelling.{HoldsSlot, SpellsStep, SpellsStatement, SpellsSequence, SpellsAlternatives}
use Rattle.pp_plan.specs.Rules.{IsUsedBy, IsUsed, IsUsedInBranch, step_uses_bundle, statement_uses_bundle, uses_bundle}
use Rattle.pp_plan.specs.Rules.{branches_use_bundle, step_uses_plain, statement_uses_plain, uses_plain}
use Rattle.pp_plan.specs.Rules.{branches_use_plain}
use Rattle.pp_plan.specs.Faults.{SpellsShape}
use Rattle.pp_plan.proofs.Places.{Has, has_push, Extends, extends_push, push_at, push_cases, extends_length, AreApart}
use Rattle.pp_plan.proofs.Places.{place_some, place_none}
use Rattle.pp_text.proofs.Steps.{bind_ok, must_ok, ok_or_ok, ok_is}
use Rattle.pp_plan.proofs.Forms.{shape_found}
use Rattle.pp_plan.proofs.Bundles.{Ways, ways_more, ways_none, ways_both, one_bundle, one_plain}

-- ---- slot names

-- at most 32 names, each in form and none twice
pub record AreNames (xs : List (List ℕ)) : Type 0 where
  pub few : length xs ≤ 32
  pub form : (n : List ℕ) → Has xs n → IsTrue (is_slot_name n)
  pub apart : AreApart xs

-- the names that were read, with a table that has a place for each
pub record AreSlots (p : Progress) : Type 0 where
  pub names : AreNames p.names
  pub table : length p.bundles ≡ 32

-- whether the k-th name is a bundle's
abbrev pub kind_at : Progress → ℕ → Bool
kind_at p k = slice_index_or p.bundles k false

-- the k-th name was first used in this way
pub record IsKind (p : Progress) (k : ℕ) (bundle : Bool) : Type 0 where
  pub within : k < length p.names
  pub kind : kind_at p k ≡ bundle

-- the kinds of names stay
abbrev pub KindsStay : Progress → Progress → Type 0
KindsStay p q = (k : ℕ) (bundle : Bool) → IsKind p k bundle → IsKind q k bundle

-- the name stands at a place, with its kind, and nothing else is new
pub record SlotUsed (p : Progress) (bundle : Bool) (name : List ℕ) (u : Progress × ℕ) : Type 0 where
  pub grows : Extends p.names u.0.names
  pub slots : AreSlots u.0
  pub count : u.0.count ≡ p.count
  pub kinds : KindsStay p u.0
  pub kind : IsKind u.0 u.1 bundle
  pub at : slice_get u.0.names u.1 ≡ Some name
  pub new : (j : ℕ) (n : List ℕ) → slice_get u.0.names j ≡ Some n → (slice_get p.names j ≡ Some n) ⊎ (u.1 ≡ j)

pub room_is : (n m : ℕ) → nat_lt n m ≡ true → n < m
room_is n m e = grind (arith, nat_tests)

pub push_apart : (xs : List (List ℕ)) (y : List ℕ) → AreApart xs → ((k : ℕ) → slice_get xs k ≡ Some y → ⊥)
    → AreApart (xs ++ y ∷ [])
push_apart xs y apart new i j n a b =
    elim (push_cases xs y i n a) as (λ _. i ≡ j) [
      | inl p ↦ elim (push_cases xs y j n b) as (λ _. i ≡ j) [
        | inl q ↦ apart i j n p q
        | inr q ↦ absurd (new i (p ∙ ap (λ (z : List ℕ). Some z) (sym q.1)))
      ]
      | inr p ↦ elim (push_cases xs y j n b) as (λ _. i ≡ j) [
        | inl q ↦ absurd (new j (q ∙ ap (λ (z : List ℕ). Some z) (sym p.1)))
        | inr q ↦ p.0 ∙ sym q.0
      ]
    ]

pub longer : (xs : List (List ℕ)) (y : List ℕ) → length (xs ++ y ∷ []) ≡ suc (length xs)
longer [] y = refl
longer (x ∷ xs) y = ap suc (longer xs y)

push_names : (xs : List (List ℕ)) (y : List ℕ) → AreNames xs → length xs < 32 → is_slot_name y ≡ true
    → position_of xs y ≡ None → AreNames (xs ++ y ∷ [])
push_names xs y are room form new = record {
  few = let l = longer xs y in omega (arith, room, l);
  form =
      λ n h. elim (has_push xs y n h) as (λ _. IsTrue (is_slot_name n))
      [ inl old ↦ are.form n old | inr e ↦ subst (λ (z : List ℕ). IsTrue (is_slot_name z)) e form ];
  apart = push_apart xs y are.apart (place_none xs y new);
}

pub beq_is : (a b : Bool) → beq a b ≡ true → a ≡ b
beq_is true true e = refl
beq_is true false e = absurd (false≢true e)
beq_is false true e = absurd (false≢true e)
beq_is false false e = refl

-- one name more
pushed : (p : Progress) (bundle : Bool) (name : List ℕ) → AreSlots p → length p.names < 32 → is_slot_name name ≡ true
    → position_of p.names name ≡ None → SlotUsed p bundle name (with_name p bundle name, length p.names)
pushed p bundle name are room form is =
    let long = longer p.names name in
    let size = length-set p.bundles (length p.names) bundle in
    record {
      grows = extends_push p.names name;
      slots = record { names = push_names p.names name are.names room form is; table = size ∙ are.table };
      count = refl;
      kinds = λ k b h. record {
        within = omega (arith, h.within, long);
        kind = get_or-set_other p.bundles (length p.names) k bundle false (omega (arith, h.within)) ∙ h.kind;
      };
      kind = record {
        within = omega (arith, long);
        kind = get_or-set_same p.bundles (length p.names) bundle false (omega (arith, room, are.table));
      };
      at = push_at p.names name;
      new =
          λ j m h. elim (push_cases p.names name j m h) as (λ _. (slice_get p.names j ≡ Some m) ⊎ (length p.names ≡ j))
          [ inl old ↦ inl old | inr q ↦ inr (sym q.0) ];
    }

used_by : (o : Option ℕ) (n : ℕ) (bundle : Bool) (p : Progress) (name : List ℕ) (u : Progress × ℕ)
    → position_of p.names name ≡ o → AreSlots p → is_slot_name name ≡ true → used_at o n bundle p name ≡ Ok u
    → SlotUsed p bundle name u
used_by (Some k) n bundle p name u is are form e =
    let (x, alike, e1) = bind_ok (must (beq (kind_at p k) bundle) (MixedSlot n)) _ u e in
    let at = place_some p.names name k is in
    subst (λ (v : Progress × ℕ). SlotUsed p bundle name v) (ok_is {A = Progress × ℕ} (p, k) u e1) (record {
      grows = λ j m h. h;
      slots = are;
      count = refl;
      kinds = λ j b h. h;
      kind = record {
        within = slice_get_within p.names k name at;
        kind = beq_is (kind_at p k) bundle (must_ok (beq (kind_at p k) bundle) (MixedSlot n) x alike);
      };
      at = at;
      new = λ j m h. inl h;
    })
used_by None n bundle p name u is are form e =
    let (x, room, e1) = bind_ok (must (nat_lt (length p.names) 32) (TooMany n)) _ u e in
    subst (λ (v : Progress × ℕ). SlotUsed p bundle name v)
    (ok_is {A = Progress × ℕ} (with_name p bundle name, length p.names) u e1)
    (pushed p bundle name are (room_is _ _ (must_ok (nat_lt (length p.names) 32) (TooMany n) x room)) form is)

pub used_found : (n : ℕ) (bundle : Bool) (p : Progress) (name : List ℕ) (u : Progress × ℕ) → AreSlots p
    → is_slot_name name ≡ true → used n bundle p name ≡ Ok u → SlotUsed p bundle name u
unfolding used
used_found n bundle p name u are form e = used_by (position_of p.names name) n bundle p name u refl are form e

pub slot_found : (n : ℕ) (bundle : Bool) (p : Progress) (name : List ℕ) (u : Progress × ℕ) → AreSlots p
    → slot_of n bundle p name ≡ Ok u → SlotUsed p bundle name u
unfolding slot_of
slot_found n bundle p name u are e =
    let (x, form, e1) = bind_ok (must (is_slot_name name) (BadName n)) _ u e in
    used_found n bundle p name u are (must_ok (is_slot_name name) (BadName n) x form) e1

-- ---- statements

-- the slot was first used as a bundle, which the version has; and as a plain one
abbrev pub IsBundle : (version : ℕ) → Progress → ℕ → Type 0
IsBundle version p k = IsKind p k true × (version ≡ 2)

abbrev pub IsPlain : Progress → ℕ → Type 0
IsPlain p k = IsKind p k false

-- they stay so as more is read
wider_ways : (version : ℕ) (p q : Progress) (bundles plains : ℕ → Bool) → KindsStay p q
    → Ways (IsBundle version p) (IsPlain p) bundles plains → Ways (IsBundle version q) (IsPlain q) bundles plains
wider_ways version p q bundles plains stay w =
    ways_more (IsBundle version p) (IsPlain p) (IsBundle version q) (IsPlain q) bundles plains
    (λ k h. (stay k true h.0, h.1)) (λ k h. stay k false h) w

pub record ReadStatement (settings : Configuration) (version levels : ℕ) (p : Progress) (d : Data)
    (r : Progress × Statement) : Type 0 where
  pub grows : Extends p.names r.0.names
  pub slots : AreSlots r.0
  pub kinds : KindsStay p r.0
  pub count : r.0.count ≡ p.count + statement_count r.1
  pub most : r.0.count ≤ 4096
  pub parts : IsStatement (length r.0.names) (length settings.regions) r.1
  pub depth : statement_depth r.1 ≤ levels
  pub spelled : SpellsStatement settings r.0.names d r.1
  pub ways : Ways (IsBundle version r.0) (IsPlain r.0) (statement_uses_bundle r.1) (statement_uses_plain r.1)
  pub used : (j : ℕ) (n : List ℕ) → slice_get r.0.names j ≡ Some n → (slice_get p.names j ≡ Some n) ⊎ IsUsedBy r.1 j

pub record ReadSequence (settings : Configuration) (version levels : ℕ) (p : Progress) (ds : Items)
    (r : Progress × Sequence) : Type 0 where
  pub grows : Extends p.names r.0.names
  pub slots : AreSlots r.0
  pub kinds : KindsStay p r.0
  pub count : r.0.count ≡ p.count + sequence_count r.1
  pub most : r.0.count ≤ 4096
  pub parts : IsSequence (length r.0.names) (length settings.regions) r.1
  pub depth : sequence_depth r.1 ≤ levels
  pub spelled : SpellsSequence settings r.0.names ds r.1
  pub ways : Ways (IsBundle version r.0) (IsPlain r.0) (uses_bundle r.1) (uses_plain r.1)
  pub used : (j : ℕ) (n : List ℕ) → slice_get r.0.names j ≡ Some n → (slice_get p.names j ≡ Some n) ⊎ IsUsed r.1 j

pub record ReadBranches (settings : Configuration) (version levels : ℕ) (p : Progress) (ds : Items)
    (r : Progress × Alternatives) : Type 0 where
  pub grows : Extends p.names r.0.names
  pub slots : AreSlots r.0
  pub kinds : KindsStay p r.0
  pub count : r.0.count ≡ p.count + alternatives_count r.1
  pub most : r.0.count ≤ 4096
  pub parts : AreAlternatives (length r.0.names) (length settings.regions) r.1
  pub depth : alternatives_depth r.1 ≤ levels
  pub spelled : SpellsAlternatives settings r.0.names ds r.1
  pub ways : Ways (IsBundle version r.0) (IsPlain r.0) (branches_use_bundle r.1) (branches_use_plain r.1)
  pub used : (j : ℕ) (n : List ℕ) → slice_get r.0.names j ≡ Some n
      → (slice_get p.names j ≡ Some n) ⊎ IsUsedInBranch r.1 j

-- ---- what holds under some names holds under more

wider_step : (m n r : ℕ) → m ≤ n → (s : Step) → IsStep m r s → IsStep n r s
wider_step m n r h (fix k i) (a, b) = (omega (arith, a, h), b)
wider_step m n r h (unfix k) a = omega (arith, a, h)
wider_step m n r h (latch k o) a = omega (arith, a, h)
wider_step m n r h (unlatch k) a = omega (arith, a, h)
wider_step m n r h (gather k i) (a, b) = (omega (arith, a, h), b)
wider_step m n r h (scatter k) a = omega (arith, a, h)

mutual
  wider_statement : (m n r : ℕ) → m ≤ n → (s : Statement) → IsStatement m r s → IsStatement n r s
  wider_statement m n r h (step s) a = wider_step m n r h s a
  wider_statement m n r h (loop c b) (x, y, z, a) = (x, y, z, wider_sequence m n r h b a)
  wider_statement m n r h (choice bs) (x, y, a) = (x, y, wider_branches m n r h bs a)

  wider_sequence : (m n r : ℕ) → m ≤ n → (b : Sequence) → IsSequence m r b → IsSequence n r b
  wider_sequence m n r h skip a = tt
  wider_sequence m n r h (andthen s b) (a, c) = (wider_statement m n r h s a, wider_sequence m n r h b c)

  wider_branches : (m n r : ℕ) → m ≤ n → (bs : Alternatives) → AreAlternatives m r bs → AreAlternatives n r bs
  wider_branches m n r h none a = tt
  wider_branches m n r h (either b bs) (a, c) = (wider_sequence m n r h b a, wider_branches m n r h bs c)

kept_slot : (xs ys : List (List ℕ)) → Extends xs ys → (d : Data) (key : List ℕ) (k : ℕ) → HoldsSlot xs d key k
    → HoldsSlot ys d key k
kept_slot xs ys h d key k (name, held, is) = (name, held, h k name is)

kept_step : (settings : Configuration) (xs ys : List (List ℕ)) → Extends xs ys → (d : Data) (s : Step)
    → SpellsStep settings xs d s → SpellsStep settings ys d s
kept_step settings xs ys h d (fix k r) (a, b, c) = (a, kept_slot xs ys h d (codes "fix") k b, c)
kept_step settings xs ys h d (unfix k) (a, b) = (a, kept_slot xs ys h d (codes "unfix") k b)
kept_step settings xs ys h d (latch k m) (a, b, c) = (a, kept_slot xs ys h d (codes "latch") k b, c)
kept_step settings xs ys h d (unlatch k) (a, b) = (a, kept_slot xs ys h d (codes "unlatch") k b)
kept_step settings xs ys h d (gather k r) (a, b, c) = (a, kept_slot xs ys h d (codes "gather") k b, c)
kept_step settings xs ys h d (scatter k) (a, b) = (a, kept_slot xs ys h d (codes "scatter") k b)

mutual
  kept_statement : (settings : Configuration) (xs ys : List (List ℕ)) → Extends xs ys → (d : Data) (s : Statement)
      → SpellsStatement settings xs d s → SpellsStatement settings ys d s
  kept_statement settings xs ys h d (step s) a = kept_step settings xs ys h d s a
  kept_statement settings xs ys h d (loop n b) (keys, count, body) =
      (keys, count, (body.0, body.1, kept_sequence settings xs ys h body.0 b body.2))
  kept_statement settings xs ys h d (choice bs) (keys, body) =
      (keys, (body.0, body.1, kept_branches settings xs ys h body.0 bs body.2))

  kept_sequence : (settings : Configuration) (xs ys : List (List ℕ)) → Extends xs ys → (ds : Items) (b : Sequence)
      → SpellsSequence settings xs ds b → SpellsSequence settings ys ds b
  kept_sequence settings xs ys h no_items skip a = tt
  kept_sequence settings xs ys h (item d ds) (andthen s b) (a, c) =
      (kept_statement settings xs ys h d s a, kept_sequence settings xs ys h ds b c)
  kept_sequence settings xs ys h no_items (andthen s b) a = absurd a
  kept_sequence settings xs ys h (item d ds) skip a = absurd a

  kept_branches : (settings : Configuration) (xs ys : List (List ℕ)) → Extends xs ys → (ds : Items) (bs : Alternatives)
      → SpellsAlternatives settings xs ds bs → SpellsAlternatives settings ys ds bs
  kept_branches settings xs ys h no_items none a = tt
  kept_branches settings xs ys h (item d ds) (either b bs) (a, c) =
      ((a.0, a.1, kept_sequence settings xs ys h a.0 b a.2), kept_branches settings xs ys h ds bs c)
  kept_branches settings xs ys h no_items (either b bs) a = absurd a
  kept_branches settings xs ys h (item d ds) none a = absurd a

-- ---- statements one after another

-- the second body behind the first
abbrev pub joined : Sequence → Sequence → Sequence
joined skip b = b
joined (andthen s a) b = andthen s (joined a b)

abbrev pub gathered : Alternatives → Alternatives → Alternatives
gathered none bs = bs
gathered (either b cs) bs = either b (gathered cs bs)

pub joined_skip : (a : Sequence) → joined a skip ≡ a
joined_skip skip = refl
joined_skip (andthen s a) = ap (andthen s) (joined_skip a)

pub joined_follow : (a : Sequence) (s : Statement) (b : Sequence) → joined (followed_by a s) b ≡ joined a (andthen s b)
joined_follow skip s b = refl
joined_follow (andthen r a) s b = ap (andthen r) (joined_follow a s b)

pub gathered_none : (bs : Alternatives) → gathered bs none ≡ bs
gathered_none none = refl
gathered_none (either b bs) = ap (either b) (gathered_none bs)

pub gathered_with : (cs : Alternatives) (b : Sequence) (bs : Alternatives)
    → gathered (with_branch cs b) bs ≡ gathered cs (either b bs)
gathered_with none b bs = refl
gathered_with (either a cs) b bs = ap (either a) (gathered_with cs b bs)

-- a reader of one statement that gives what is to be proved
abbrev Reads : Configuration → (version levels : ℕ) → (Progress → Data → Result (Progress × Statement) PlanError) → Type 0
Reads settings version levels read_one = (p : Progress) (d : Data) (r : Progress × Statement) → AreSlots p
    → p.count ≤ 4096 → read_one p d ≡ Ok r → ReadStatement settings version levels p d r

pub sequence_found : (settings : Configuration) (version levels : ℕ)
    (read_one : Progress → Data → Result (Progress × Statement) PlanError) → Reads settings version levels read_one
    → (ds : Items) (earlier : Sequence) (p : Progress) (all : Progress × Sequence)
    → AreSlots p → p.count ≤ 4096 → sequence_from read_one earlier p ds ≡ Ok all
    → (b : Sequence) × (all.1 ≡ joined earlier b) × ReadSequence settings version levels p ds (all.0, b)
sequence_found settings version levels read_one one no_items earlier p all are most e =
    subst (λ (r : Progress × Sequence). (b : Sequence) × (r.1 ≡ joined earlier b)
    × ReadSequence settings version levels p no_items (r.0, b)) (ok_is {A = Progress × Sequence} (p, earlier) all e) (
      skip,
      sym (joined_skip earlier),
      record {
        grows = λ j n h. h;
        slots = are;
        kinds = λ j b h. h;
        count = omega arith;
        most = most;
        parts = tt;
        depth = omega arith;
        spelled = tt;
        ways = ways_none (IsBundle version p) (IsPlain p);
        used = λ j n h. inl h;
      },
    )
sequence_found settings version levels read_one one (item d ds) earlier p all are most e =
    let (r, first, e1) = bind_ok (read_one p d) _ all e in
    let s = one p d r are most first in
    let (b, is, more) =
    sequence_found settings version levels read_one one ds (followed_by earlier r.1) r.0 all s.slots s.most e1 in (
      andthen r.1 b,
      is ∙ joined_follow earlier r.1 b,
      record {
        grows = λ j n h. more.grows j n (s.grows j n h);
        slots = more.slots;
        kinds = λ j b h. more.kinds j b (s.kinds j b h);
        count = omega (arith, s.count, more.count);
        most = more.most;
        parts = (wider_statement _ _ _ (extends_length _ _ more.grows) r.1 s.parts, more.parts);
        depth = omega (arith, s.depth, more.depth);
        spelled = (kept_statement settings _ _ more.grows d r.1 s.spelled, more.spelled);
        ways =
            ways_both (IsBundle version all.0) (IsPlain all.0) (statement_uses_bundle r.1) (uses_bundle b)
            (statement_uses_plain r.1) (uses_plain b)
            (wider_ways version r.0 all.0 (statement_uses_bundle r.1) (statement_uses_plain r.1) more.kinds s.ways)
            more.ways;
        used =
            λ j n h. elim (more.used j n h) as (λ _. (slice_get p.names j ≡ Some n) ⊎ (IsUsedBy r.1 j ⊎ IsUsed b j)) [
              | inl old ↦ elim (s.used j n old) as (λ _. (slice_get p.names j ≡ Some n) ⊎ (IsUsedBy r.1 j ⊎ IsUsed b j))
                  [ inl o ↦ inl o | inr u ↦ inr (inl u) ]
              | inr u ↦ inr (inr u)
            ];
      },
    )

listed : (d : Data) → is_some (as_array d) ≡ true → d ≡ array (items_in d)
listed (array ds) e = refl
listed null e = absurd (false≢true e)
listed (boolean b) e = absurd (false≢true e)
listed (number n) e = absurd (false≢true e)
listed (string s) e = absurd (false≢true e)
listed (object ms) e = absurd (false≢true e)

pub branches_found : (settings : Configuration) (version levels : ℕ)
    (read_one : Progress → Data → Result (Progress × Statement) PlanError) → Reads settings version levels read_one
    → (ds : Items) (earlier : Alternatives) (p : Progress) (all : Progress × Alternatives)
    → AreSlots p → p.count ≤ 4096 → are_lists ds ≡ true → alternatives_from read_one earlier p ds ≡ Ok all
    → (bs : Alternatives) × (all.1 ≡ gathered earlier bs) × ReadBranches settings version levels p ds (all.0, bs)
branches_found settings version levels read_one one no_items earlier p all are most lists e =
    subst (λ (r : Progress × Alternatives). (bs : Alternatives) × (r.1 ≡ gathered earlier bs)
    × ReadBranches settings version levels p no_items (r.0, bs)) (ok_is {A = Progress × Alternatives} (p, earlier) all e) (
      none,
      sym (gathered_none earlier),
      record {
        grows = λ j n h. h;
        slots = are;
        kinds = λ j b h. h;
        count = omega arith;
        most = most;
        parts = tt;
        depth = omega arith;
        spelled = tt;
        ways = ways_none (IsBundle version p) (IsPlain p);
        used = λ j n h. inl h;
      },
    )
branches_found settings version levels read_one one (item d ds) earlier p all are most lists e =
    let (here, rest) = and_parts (is_some (as_array d)) (are_lists ds) lists in
    let (r, first, e1) = bind_ok (sequence_from read_one skip p (items_in d)) _ all e in
    let (c, same, s) = sequence_found settings version levels read_one one (items_in d) skip p r are most first in
    let (bs, is, more) =
    branches_found settings version levels read_one one ds (with_branch earlier r.1) r.0 all s.slots s.most rest e1 in (
      either c bs,
      is ∙ gathered_with earlier r.1 bs ∙ ap (λ (x : Sequence). gathered earlier (either x bs)) same,
      record {
        grows = λ j n h. more.grows j n (s.grows j n h);
        slots = more.slots;
        kinds = λ j b h. more.kinds j b (s.kinds j b h);
        count = omega (arith, s.count, more.count);
        most = more.most;
        parts = (wider_sequence _ _ _ (extends_length _ _ more.grows) c s.parts, more.parts);
        depth = omega (arith, s.depth, more.depth);
        spelled =
            ((items_in d, listed d here, kept_sequence settings _ _ more.grows (items_in d) c s.spelled), more.spelled);
        ways =
            ways_both (IsBundle version all.0) (IsPlain all.0) (uses_bundle c) (branches_use_bundle bs) (uses_plain c)
            (branches_use_plain bs)
            (wider_ways version r.0 all.0 (uses_bundle c) (uses_plain c) more.kinds s.ways) more.ways;
        used =
            λ j n h. elim (more.used j n h)
            as (λ _. (slice_get p.names j ≡ Some n) ⊎ (IsUsed c j ⊎ IsUsedInBranch bs j)) [
              | inl old ↦ elim (s.used j n old)
                  as (λ _. (slice_get p.names j ≡ Some n) ⊎ (IsUsed c j ⊎ IsUsedInBranch bs j))
                  [ inl o ↦ inl o | inr u ↦ inr (inl u) ]
              | inr u ↦ inr (inr u)
            ];
      },
    )

-- a whole body, and all branches
pub whole_found : (settings : Configuration) (version levels : ℕ)
    (read_one : Progress → Data → Result (Progress × Statement) PlanError) → Reads settings version levels read_one
    → (ds : Items) (p : Progress) (r : Progress × Sequence) → AreSlots p → p.count ≤ 4096
    → sequence_from read_one skip p ds ≡ Ok r → ReadSequence settings version levels p ds r
whole_found settings version levels read_one one ds p r are most e =
    let (b, same, s) = sequence_found settings version levels read_one one ds skip p r are most e in
    subst (λ (x : Sequence). ReadSequence settings version levels p ds (r.0, x)) (sym same) s

all_found : (settings : Configuration) (version levels : ℕ)
    (read_one : Progress → Data → Result (Progress × Statement) PlanError) → Reads settings version levels read_one
    → (ds : Items) (p : Progress) (r : Progress × Alternatives) → AreSlots p → p.count ≤ 4096
    → are_lists ds ≡ true → alternatives_from read_one none p ds ≡ Ok r → ReadBranches settings version levels p ds r
all_found settings version levels read_one one ds p r are most lists e =
    let (bs, same, s) = branches_found settings version levels read_one one ds none p r are most lists e in
    subst (λ (x : Alternatives). ReadBranches settings version levels p ds (r.0, x)) (sym same) s

-- ---- one statement

abbrev pub next : Progress → Progress
next p = record { names = p.names; bundles = p.bundles; count = p.count + 1 }

-- as a statement begins, the names are those of before
pub begun_slots : (p : Progress) → AreSlots p → AreSlots (next p)
begun_slots p are = record { names = are.names; table = are.table }

begun_kinds : (p : Progress) → KindsStay p (next p)
begun_kinds p k b h = record { within = h.within; kind = h.kind }

pub begun_found : (p q : Progress) → begun p ≡ Ok q → (p.count < 4096) × (next p ≡ q)
unfolding begun
begun_found p q e =
    let (x, room, e1) = bind_ok (must (nat_lt p.count 4096) (TooMany p.count)) _ q e in
    (room_is _ _ (must_ok (nat_lt p.count 4096) (TooMany p.count) x room), ok_is {A = Progress} (next p) q e1)

step_read : (settings : Configuration) (version levels : ℕ) (p : Progress) (d : Data) (u : Progress × ℕ)
    (bundle : Bool) (name : List ℕ) (s : Step) → p.count < 4096 → SlotUsed (next p) bundle name u
    → IsStep (length u.0.names) (length settings.regions) s → SpellsStep settings u.0.names d s
    → Ways (IsBundle version u.0) (IsPlain u.0) (step_uses_bundle s) (step_uses_plain s)
    → ((j : ℕ) → u.1 ≡ j → IsUsedBy (step s) j) → ReadStatement settings version (suc levels) p d (u.0, step s)
step_read settings version levels p d u bundle name s room is parts spelled ways uses = record {
  grows = is.grows;
  slots = is.slots;
  kinds = λ k b h. is.kinds k b (begun_kinds p k b h);
  count = is.count;
  most = omega (arith, is.count, room);
  parts = parts;
  depth = omega arith;
  spelled = spelled;
  ways = ways;
  used =
      λ j n h. elim (is.new j n h) as (λ _. (slice_get p.names j ≡ Some n) ⊎ IsUsedBy (step s) j)
      [ inl old ↦ inl old | inr e ↦ inr (uses j e) ];
}

-- the way of a step that was read
as_plain : (version : ℕ) (p : Progress) (name : List ℕ) (u : Progress × ℕ) → SlotUsed p false name u
    → Ways (IsBundle version u.0) (IsPlain u.0) (λ _. false) (λ j. u.1 == j)
as_plain version p name u is = one_plain (IsBundle version u.0) (IsPlain u.0) u.1 is.kind

as_bundle : (version : ℕ) (p : Progress) (name : List ℕ) (u : Progress × ℕ) → version ≡ 2 → SlotUsed p true name u
    → Ways (IsBundle version u.0) (IsPlain u.0) (λ j. u.1 == j) (λ _. false)
as_bundle version p name u two is = one_bundle (IsBundle version u.0) (IsPlain u.0) u.1 (is.kind, two)

region_within : (settings : Configuration) (name : List ℕ) (i : ℕ) → region_named settings name ≡ Some i
    → i < length settings.regions
region_within settings name i e =
    let nameless : NamedRegion = record { name = []; extent = record { first = 0; count = 0; class = 0 } } in
    (position-Some (λ (r : NamedRegion). bytes_eq r.name name) settings.regions i nameless e).0

-- a reader's answer is the statement that was made
answered : (settings : Configuration) (version levels : ℕ) (p : Progress) (d : Data) (r y : Progress × Statement)
    → ◌≡◌ {A = Result (Progress × Statement) PlanError} (Ok r) (Ok y) → ReadStatement settings version levels p d r
    → ReadStatement settings version levels p d y
answered settings version levels p d r y e h =
    subst (λ (x : Progress × Statement). ReadStatement settings version levels p d x) (ok_is r y e) h

-- the slot and the region of a fix or a gather
record IsFetched (settings : Configuration) (p : Progress) (bundle : Bool) (slot name : List ℕ)
    (x : Progress × (ℕ × ℕ)) : Type 0 where
  used : SlotUsed p bundle slot (x.0, x.1.0)
  named : region_named settings name ≡ Some x.1.1

fix_found : (settings : Configuration) (n : ℕ) (bundle : Bool) (p : Progress) (slot name : List ℕ)
    (x : Progress × (ℕ × ℕ)) → AreSlots p → fix_by (region_named settings) n bundle p slot name ≡ Ok x
    → IsFetched settings p bundle slot name x
unfolding fix_by
fix_found settings n bundle p slot name y are e =
    let (x, form, e1) = bind_ok (must (is_slot_name slot) (BadName n)) _ y e in
    let (i, is, e2) = bind_ok (ok_or (region_named settings name) (NoSuchRegion n)) _ y e1 in
    let (u, uses, e3) = bind_ok (used n bundle p slot) _ y e2 in
    subst (λ (z : Progress × (ℕ × ℕ)). IsFetched settings p bundle slot name z)
    (ok_is {A = Progress × (ℕ × ℕ)} (u.0, (u.1, i)) y e3) (record {
      used = used_found n bundle p slot u are (must_ok (is_slot_name slot) (BadName n) x form) uses;
      named = ok_or_ok (region_named settings name) (NoSuchRegion n) i is;
    })

range_is : (low high n : ℕ) → (nat_le low n && nat_le n high) ≡ true → (low ≤ n) × (n ≤ high)
range_is low high n e = grind (arith, nat_tests)

some_found : (settings : Configuration) (xs : List (List ℕ)) (ds : Items) (b : Sequence)
    → SpellsSequence settings xs ds b → not (item_count ds == 0) ≡ true → IsSome b
some_found settings xs no_items skip h e = absurd (false≢true e)
some_found settings xs (item d ds) (andthen s b) h e = tt
some_found settings xs no_items (andthen s b) h e = absurd h
some_found settings xs (item d ds) skip h e = absurd h

pub branches_counted : (settings : Configuration) (xs : List (List ℕ)) (ds : Items) (bs : Alternatives)
    → SpellsAlternatives settings xs ds bs → item_count ds ≡ branch_count bs
branches_counted settings xs no_items none h = refl
branches_counted settings xs (item d ds) (either b bs) h =
    ap (λ (n : ℕ). n + 1) (branches_counted settings xs ds bs h.1)
branches_counted settings xs no_items (either b bs) h = absurd h
branches_counted settings xs (item d ds) none h = absurd h

-- a loop of the body that was read, and a choice of the branches
loop_read : (settings : Configuration) (version levels n : ℕ) (p : Progress) (d : Data) (ds : Items) (b : Progress × Sequence)
    → 1 ≤ n → n ≤ 65535 → not (item_count ds == 0) ≡ true → SpellsShape version d (loop_shape n ds)
    → ReadSequence settings version levels (next p) ds b → ReadStatement settings version (suc levels) p d (b.0, loop n b.1)
loop_read settings version levels n p d ds b low high some h s = record {
  grows = s.grows;
  slots = s.slots;
  kinds = λ k b h. s.kinds k b (begun_kinds p k b h);
  count = omega (arith, s.count);
  most = s.most;
  parts = (low, high, some_found settings b.0.names ds b.1 s.spelled some, s.parts);
  depth = omega (arith, s.depth);
  spelled = (h.0, h.1, (ds, h.2, s.spelled));
  ways = s.ways;
  used = s.used;
}

choice_read : (settings : Configuration) (version levels : ℕ) (p : Progress) (d : Data) (ds : Items)
    (b : Progress × Alternatives) → 1 ≤ item_count ds → item_count ds ≤ 16 → SpellsShape version d (choice_shape ds)
    → ReadBranches settings version levels (next p) ds b → ReadStatement settings version (suc levels) p d (b.0, choice b.1)
choice_read settings version levels p d ds b low high h s =
    let counted = branches_counted settings b.0.names ds b.1 s.spelled in
    record {
      grows = s.grows;
      slots = s.slots;
      kinds = λ k b h. s.kinds k b (begun_kinds p k b h);
      count = omega (arith, s.count);
      most = s.most;
      parts = (omega (arith, low, counted), omega (arith, high, counted), s.parts);
      depth = omega (arith, s.depth);
      spelled = (h.0, (ds, h.1, s.spelled));
      ways = s.ways;
      used = s.used;
    }

shape_read : (settings : Configuration) (version levels : ℕ)
    (read_one : Progress → Data → Result (Progress × Statement) PlanError) → Reads settings version levels read_one
    → (p : Progress) (d : Data) (shape : Shape) (r : Progress × Statement)
    → AreSlots p → p.count < 4096 → SpellsShape version d shape
    → statement_by (region_named settings) read_one p.count (next p) shape ≡ Ok r
    → ReadStatement settings version (suc levels) p d r
unfolding statement_by
shape_read settings version levels read_one one p d (fix_shape slot name) r are room h e =
    let (x, fetched, e1) = bind_ok (fix_by (region_named settings) p.count false (next p) slot name) _ r e in
    let f = fix_found settings p.count false (next p) slot name x (begun_slots p are) fetched in
    let u : Progress × ℕ = (x.0, x.1.0) in
    answered settings version (suc levels) p d (x.0, step (fix x.1.0 x.1.1)) r e1
    (step_read settings version levels p d u false slot (fix x.1.0 x.1.1) room f.used
    (slice_get_within x.0.names x.1.0 slot f.used.at, region_within settings name x.1.1 f.named)
    (h.0, (slot, h.1, f.used.at), (name, h.2, f.named)) (as_plain version (next p) slot u f.used) (λ j w. w))
shape_read settings version levels read_one one p d (unfix_shape slot) r are room h e =
    let (u, uses, e1) = bind_ok (slot_of p.count false (next p) slot) _ r e in
    let s = slot_found p.count false (next p) slot u (begun_slots p are) uses in
    answered settings version (suc levels) p d (u.0, step (unfix u.1)) r e1
    (step_read settings version levels p d u false slot (unfix u.1) room s
    (slice_get_within u.0.names u.1 slot s.at) (h.0, (slot, h.1, s.at)) (as_plain version (next p) slot u s) (λ j w. w))
shape_read settings version levels read_one one p d (latch_shape slot mode) r are room h e =
    let (u, uses, e1) = bind_ok (slot_of p.count false (next p) slot) _ r e in
    let s = slot_found p.count false (next p) slot u (begun_slots p are) uses in
    answered settings version (suc levels) p d (u.0, step (latch u.1 mode)) r e1
    (step_read settings version levels p d u false slot (latch u.1 mode) room s
    (slice_get_within u.0.names u.1 slot s.at) (h.0, (slot, h.1, s.at), h.2) (as_plain version (next p) slot u s)
    (λ j w. w))
shape_read settings version levels read_one one p d (unlatch_shape slot) r are room h e =
    let (u, uses, e1) = bind_ok (slot_of p.count false (next p) slot) _ r e in
    let s = slot_found p.count false (next p) slot u (begun_slots p are) uses in
    answered settings version (suc levels) p d (u.0, step (unlatch u.1)) r e1
    (step_read settings version levels p d u false slot (unlatch u.1) room s
    (slice_get_within u.0.names u.1 slot s.at) (h.0, (slot, h.1, s.at)) (as_plain version (next p) slot u s) (λ j w. w))
shape_read settings version levels read_one one p d (gather_shape slot name) r are room h e =
    let (x, fetched, e1) = bind_ok (fix_by (region_named settings) p.count true (next p) slot name) _ r e in
    let f = fix_found settings p.count true (next p) slot name x (begun_slots p are) fetched in
    let u : Progress × ℕ = (x.0, x.1.0) in
    answered settings version (suc levels) p d (x.0, step (gather x.1.0 x.1.1)) r e1
    (step_read settings version levels p d u true slot (gather x.1.0 x.1.1) room f.used
    (slice_get_within x.0.names x.1.0 slot f.used.at, region_within settings name x.1.1 f.named)
    (h.0, (slot, h.1, f.used.at), (name, h.2, f.named)) (as_bundle version (next p) slot u h.3 f.used) (λ j w. w))
shape_read settings version levels read_one one p d (scatter_shape slot) r are room h e =
    let (u, uses, e1) = bind_ok (slot_of p.count true (next p) slot) _ r e in
    let s = slot_found p.count true (next p) slot u (begun_slots p are) uses in
    answered settings version (suc levels) p d (u.0, step (scatter u.1)) r e1
    (step_read settings version levels p d u true slot (scatter u.1) room s
    (slice_get_within u.0.names u.1 slot s.at) (h.0, (slot, h.1, s.at)) (as_bundle version (next p) slot u h.2 s)
    (λ j w. w))
shape_read settings version levels read_one one p d (loop_shape n ds) r are room h e =
    let test : Bool = (nat_le 1 n && nat_le n 65535) && not (item_count ds == 0) in
    let (x, range, e1) = bind_ok (must test (Range p.count)) _ r e in
    let (b, body, e2) = bind_ok (sequence_from read_one skip (next p) ds) _ r e1 in
    let (within, some) =
    and_parts (nat_le 1 n && nat_le n 65535) (not (item_count ds == 0)) (must_ok test (Range p.count) x range) in
    let (low, high) = range_is 1 65535 n within in
    answered settings version (suc levels) p d (b.0, loop n b.1) r e2
    (loop_read settings version levels n p d ds b low high some h
    (whole_found settings version levels read_one one ds (next p) b (begun_slots p are) (omega (arith, room)) body))
shape_read settings version levels read_one one p d (choice_shape ds) r are room h e =
    let test : Bool = nat_le 1 (item_count ds) && nat_le (item_count ds) 16 in
    let (x, range, e1) = bind_ok (must test (Range p.count)) _ r e in
    let (b, body, e2) = bind_ok (alternatives_from read_one none (next p) ds) _ r e1 in
    let (low, high) = range_is 1 16 (item_count ds) (must_ok test (Range p.count) x range) in
    answered settings version (suc levels) p d (b.0, choice b.1) r e2
    (choice_read settings version levels p d ds b low high h
    (all_found settings version levels read_one one ds (next p) b (begun_slots p are) (omega (arith, room)) h.2 body))

pub statement_found : (settings : Configuration) (version levels : ℕ) (p : Progress) (d : Data) (r : Progress × Statement)
    → AreSlots p → p.count ≤ 4096 → statement_at version (region_named settings) levels p d ≡ Ok r
    → ReadStatement settings version levels p d r
statement_found settings version zero p d r are most e =
    let (q, _, e1) = bind_ok (begun p) _ r e in absurd cc
statement_found settings version (suc levels) p d r are most e =
    let (q, begins, e1) = bind_ok (begun p) _ r e in
    let (shape, is, e2) = bind_ok (shape_of version p.count d) _ r e1 in
    let (room, same) = begun_found p q begins in
    let read_one = statement_at version (region_named settings) levels in
    shape_read settings version levels read_one (statement_found settings version levels) p d shape r are room
    (shape_found version p.count d shape is)
    (subst (λ (x : Progress). statement_by (region_named settings) read_one p.count x shape ≡ Ok r) (sym same) e2)
