-- The walk over the statements: a refusal is the first fault in the order, and what was passed has none.
use Rattle.std.proofs.Common.{◌≡◌, ◌≢◌, ◌⊎◌, inl, inr, ℕ, zero, suc, ◌+◌, ◌-◌, ◌<◌, ◌≤◌, Bool, true, false, nat_lt}
use Rattle.std.proofs.Common.{List, [], ◌∷◌, ◌++◌, length, map, All, AllPairs, Option, Some, None, Result, Ok, Err}
use Rattle.std.proofs.Common.{refl, sym, ap, subst, ◌∙◌, arith, not}
use Rattle.std.specs.Option.{ok_or}
use Rattle.std.specs.List.{slice_get, flat_map}
use Rattle.std.proofs.lemmas.Bool.{false≢true, cases_lt}
use Rattle.std.proofs.lemmas.List.{length-append}
use Rattle.std.proofs.lemmas.Grind.{flat_map-append}
use Rattle.std.proofs.lemmas.Option.{same_Some, slice_get_within, get_or_from_slice_get}
use Rattle.serde_json.specs.Data.{Data, Items, no_items, item}
use Rattle.pp_settings.specs.Settings.{Configuration, region_named}
use Rattle.pp_plan.specs.declared.error.PlanError.{PlanError}
use Rattle.pp_plan.specs.declared.error.PlanError.TheVariants.{NoSuchRegion, Range, TooDeep, TooMany, BadName}
use Rattle.pp_plan.specs.Tree.{Step, fix, unfix, latch, unlatch, Statement, step, loop, choice, Sequence, skip}
use Rattle.pp_plan.specs.Tree.{Alternatives, none, gather, scatter}
use Rattle.pp_plan.specs.Names.{is_slot_name}
use Rattle.pp_plan.specs.Progress.{Progress}
use Rattle.pp_text.specs.Steps.{◌>>=◌, must}
use Rattle.pp_plan.specs.Numbering.{position_of}
use Rattle.pp_plan.specs.Shapes.{Shape, fix_shape, unfix_shape, latch_shape, unlatch_shape, loop_shape, choice_shape}
use Rattle.pp_plan.specs.Shapes.{shape_of, gather_shape, scatter_shape}
use Rattle.pp_plan.specs.Reading.{begun, used_at, used, slot_of, followed_by, with_branch, sequence_from}
use Rattle.pp_plan.specs.Reading.{alternatives_from, items_in, fix_by, statement_by, statement_at, with_name}
use Rattle.pp_text.specs.Objects.{elements}
use Rattle.pp_plan.specs.Faults.{Written, listed, directly_inside, statements_in, statements_of, SpellsShape}
use Rattle.pp_plan.specs.Faults.{NamesSlot, IsNamedBefore, IsOutOfRange, Cause, one_too_many, too_deep, no_kind}
use Rattle.pp_plan.specs.Faults.{other_form, bad_name, no_region, out_of_range, name_too_many, Fault, in_statement}
use Rattle.pp_plan.specs.Faults.{error_of, HasCause, HasFault, causes, at_statements, IsMixed, mixed, version_of}
use Rattle.pp_text.specs.First.{IsFirst}
use Rattle.pp_plan.proofs.Places.{Has, has_at, at_has, place_some, place_none}
use Rattle.pp_plan.proofs.Order.{all_of}
use Rattle.pp_plan.proofs.Forms.{none_some}
use Rattle.pp_plan.proofs.Found.{SlotUsed, room_is, used_found, next, AreSlots, kind_at, begun_slots}
use Rattle.pp_plan.proofs.Causes.{FormIs, form_is, slot_in, names_in, HasNoBody, none_inside, loop_inside}
use Rattle.pp_plan.proofs.Causes.{choice_inside, listed_is, in_range, loop_test, loop_in, loop_out, choice_test}
use Rattle.pp_plan.proofs.Causes.{choice_in, choice_out, IsStepOf, fix_step, unfix_step, latch_step, unlatch_step}
use Rattle.pp_plan.proofs.Causes.{NamesRegion, NamesAs, names_as, names_slot, gather_step, scatter_step, region_in}
use Rattle.pp_plan.proofs.Causes.{region_is}
use Rattle.std.specs.Bool.{beq}
use Rattle.pp_plan.proofs.Naming.{append_left, append_right, apart_differ, no_more, no_room, before_as, before_slot}
use Rattle.pp_plan.proofs.Naming.{is_mixed, mixed_as, two_ways}

-- ---- the first fault from a statement on

-- the faults from the n-th statement on
abbrev pub rest : ℕ → List Fault
rest n = at_statements n (4097 - n)

-- those of the use of its slot
abbrev by_use : ℕ → List Fault
by_use n = in_statement n name_too_many ∷ in_statement n mixed ∷ rest (n + 1)

-- those of the n-th statement once its form is known, and then those of the later ones
abbrev by_value : ℕ → List Fault
by_value n =
    in_statement n bad_name ∷ in_statement n no_region ∷ in_statement n out_of_range ∷ by_use n

rest_is : (n : ℕ) → n ≤ 4096 → rest n ≡ map (in_statement n) causes ++ rest (n + 1)
unfolding at_statements
rest_is n h =
    let e : 4097 - n ≡ suc (4097 - (n + 1)) = omega (arith, h) in
    ap (at_statements n) e

module _ (settings : Configuration) (doc : Data) where
  abbrev pub Faulty : Fault → Type 0
  Faulty = HasFault settings (Some doc)

  -- the document has none of the faults
  abbrev pub HasNone : List Fault → Type 0
  HasNone [] = Unit {0}
  HasNone (f ∷ fs) = (¬ Faulty f) × HasNone fs

  abbrev pub Tells : List Fault → Option PlanError → Type 0
  Tells fs None = HasNone fs
  Tells fs (Some e) = (f : Fault) × (error_of f ≡ e) × IsFirst Faulty fs f

  -- the refusal tells the first fault of the list that the document has, or there is no refusal, and it has none
  pub record Told (fs : List Fault) (o : Option PlanError) : Type 0 where
    pub told : Tells fs o

  not_this : (f : Fault) (fs : List Fault) (o : Option PlanError) → ¬ Faulty f → Told fs o → Told (f ∷ fs) o
  not_this f fs None sound t = record { told = (sound, t.told) }
  not_this f fs (Some e) sound t = let (g, is, first) = t.told in record { told = (g, is, inr (sound, first)) }

  this : (f : Fault) (fs : List Fault) → Faulty f → Told (f ∷ fs) (Some (error_of f))
  this f fs has = record { told = (f, refl, inl (refl, has)) }

  -- the name is one of those that were read, of this kind
  abbrev pub IsNamed : Progress → Bool → List ℕ → Type 0
  IsNamed p b n = (k : ℕ) × (slice_get p.names k ≡ Some n) × (kind_at p k ≡ b)

  -- how far the reading is: so many statements have begun, and the names are those that they name, in their ways
  pub record IsAt (p : Progress) : Type 0 where
    pub most : p.count ≤ 4096
    pub slots : AreSlots p
    pub known : (k : ℕ) (n : List ℕ) → slice_get p.names k ≡ Some n
        → IsNamedBefore (NamesAs (kind_at p k)) (statements_of doc) p.count n
    pub all : (b : Bool) (n : List ℕ) → IsNamedBefore (NamesAs b) (statements_of doc) p.count n → IsNamed p b n

  -- these statements, of which the first has number n, were read, and have none of the faults of the list
  pub record Passed (fs : List Fault) (n : ℕ) (ss : List Written) (q : Progress) : Type 0 where
    pub count : q.count ≡ n + length ss
    pub at : IsAt q
    pub more : (o : Option PlanError) → Told (rest q.count) o → Told fs o

  abbrev pub Walked : {A : Type 0} → List Fault → ℕ → List Written → Result (Progress × A) PlanError → Type 0
  Walked fs n ss (Ok x) = Passed fs n ss x.0
  Walked fs n ss (Err e) = Told fs (Some e)

  -- a fault that isn't there
  passed_on : {A : Type 0} (f : Fault) (fs : List Fault) (n : ℕ) (ss : List Written)
      (r : Result (Progress × A) PlanError) → ¬ Faulty f → Walked fs n ss r → Walked (f ∷ fs) n ss r
  passed_on f fs n ss (Ok x) sound w =
      record { count = w.count; at = w.at; more = λ o t. not_this f fs o sound (w.more o t) }
  passed_on f fs n ss (Err e) sound w = not_this f fs (Some e) sound w

  -- a test of a fault
  tested : {A : Type 0} (f : Fault) (fs : List Fault) (n : ℕ) (ss : List Written) (b : Bool)
      (then : Unit {0} → Result (Progress × A) PlanError) → (b ≡ false → Faulty f) → (b ≡ true → ¬ Faulty f)
      → (b ≡ true → Walked fs n ss (then tt)) → Walked (f ∷ fs) n ss (must b (error_of f) >>= then)
  tested f fs n ss true then bad good more = passed_on f fs n ss (then tt) (good refl) (more refl)
  tested f fs n ss false then bad good more = this f fs (bad refl)

  -- some statements, and then others
  then_walked : {A B : Type 0} (fs : List Fault) (n : ℕ) (ss ts : List Written) (r : Result (Progress × A) PlanError)
      (then : Progress × A → Result (Progress × B) PlanError) → Walked fs n ss r
      → ((x : Progress × A) → x.0.count ≡ n + length ss → IsAt x.0 → Walked (rest x.0.count) x.0.count ts (then x))
      → Walked fs n (ss ++ ts) (r >>= then)
  then_walked {A} {B} fs n ss ts (Ok x) then w more = joined (then x) (more x w.count w.at)
    where
      joined : (y : Result (Progress × B) PlanError) → Walked (rest x.0.count) x.0.count ts y → Walked fs n (ss ++ ts) y
      joined (Ok y) v =
          record {
            count = let a = length-append ss ts in omega (arith, w.count, v.count, a);
            at = v.at;
            more =
                λ o t. w.more o (v.more o t);
          }
      joined (Err e) v = w.more (Some e) v
  then_walked fs n ss ts (Err e) then w more = w

  -- another value beside the same progress
  kept : {A B : Type 0} (fs : List Fault) (n : ℕ) (ss : List Written) (r : Result (Progress × A) PlanError)
      (g : Progress × A → B) → Walked fs n ss r → Walked fs n ss (r >>= λ x. Ok (x.0, g x))
  kept fs n ss (Ok x) g w = record { count = w.count; at = w.at; more = w.more }
  kept fs n ss (Err e) g w = w

  -- a statement before the statements inside it
  under : {A : Type 0} (fs : List Fault) (n : ℕ) (s : Written) (ss : List Written) (r : Result (Progress × A) PlanError)
      → Walked fs (n + 1) ss r → Walked fs n (s ∷ ss) r
  under fs n s ss (Ok x) w = record { count = omega (arith, w.count); at = w.at; more = w.more }
  under fs n s ss (Err e) w = w

  -- ---- where statements stand

  abbrev pub Stands : ℕ → List Written → Type 0
  Stands n ss = (k : ℕ) (s : Written) → slice_get ss k ≡ Some s → slice_get (statements_of doc) (n + k) ≡ Some s

  first_stands : (n : ℕ) (s : Written) (ss : List Written) → Stands n (s ∷ ss)
      → slice_get (statements_of doc) n ≡ Some s
  first_stands n s ss h = let e : n ≡ n + 0 = omega arith in ap (slice_get (statements_of doc)) e ∙ h 0 s refl

  rest_stands : (n : ℕ) (s : Written) (ss : List Written) → Stands n (s ∷ ss) → Stands (n + 1) ss
  rest_stands n s ss h k t is = let e : n + 1 + k ≡ n + suc k = omega arith in ap (slice_get (statements_of doc)) e
      ∙ h (suc k) t is

  left_stands : (n : ℕ) (ss ts : List Written) → Stands n (ss ++ ts) → Stands n ss
  left_stands n ss ts h k s is = h k s (append_left ss ts k s is)

  right_stands : (n m : ℕ) (ss ts : List Written) → m ≡ n + length ss → Stands n (ss ++ ts) → Stands m ts
  right_stands n m ss ts same h k s is = let e : m + k ≡ n + (length ss + k) = omega (arith, same) in
      ap (slice_get (statements_of doc)) e ∙ h (length ss + k) s (append_right ss ts k (length ss + k) refl ∙ is)

  -- ---- the causes of one statement

  cause_is : (n : ℕ) (s : Written) (c : Cause) → slice_get (statements_of doc) n ≡ Some s
      → HasCause settings (version_of doc) (statements_of doc) n s c → Faulty (in_statement n c)
  cause_is n s c here has = (s, here, has)

  no_cause : (n : ℕ) (s : Written) (c : Cause) → slice_get (statements_of doc) n ≡ Some s
      → ¬ HasCause settings (version_of doc) (statements_of doc) n s c → ¬ Faulty (in_statement n c)
  no_cause n s c here sound f =
      sound (subst (λ (t : Written). HasCause settings (version_of doc) (statements_of doc) n t c)
      (same_Some f.0 s (sym f.1 ∙ here)) f.2)

  same_statement : (n j : ℕ) (s t : Written) → slice_get (statements_of doc) n ≡ Some s
      → slice_get (statements_of doc) j ≡ Some t → n ≡ j → s ≡ t
  same_statement n j s t here there e = same_Some s t (sym here ∙ ap (slice_get (statements_of doc)) e ∙ there)

  -- one statement more has begun, which names no slot
  next_at : (p : Progress) (s : Written) → IsAt p → p.count < 4096 → slice_get (statements_of doc) p.count ≡ Some s
      → ((n : List ℕ) → ¬ NamesSlot s.value n) → IsAt (next p)
  next_at p s at room here nameless = record {
    most = omega (arith, room);
    slots = begun_slots p at.slots;
    known = λ k n there. let (j, below, names) = at.known k n there in (j, omega (arith, below), names);
    all = λ b n before. by b n before.0 before.1 before.2.0 before.2.1 before.2.2 (cases_lt before.0 p.count);
  }
    where
      by : (b : Bool) (n : List ℕ) (j : ℕ) → j < p.count + 1 → (t : Written)
          → slice_get (statements_of doc) j ≡ Some t → NamesAs b t.value n → (j < p.count) ⊎ (p.count ≤ j)
          → IsNamed (next p) b n
      by b n j below t there names (inl earlier) = at.all b n (j, earlier, (t, there, names))
      by b n j below t there names (inr last) =
          absurd (nameless n (subst (λ (u : Written). NamesSlot u.value n)
          (same_statement j p.count t s there here (omega (arith, below, last))) (names_slot b t.value n names)))

  -- one that names this slot
  slot_passed : (p : Progress) (s : Written) (bundle : Bool) (slot : List ℕ) (u : Progress × ℕ) → IsAt p
      → p.count < 4096 → slice_get (statements_of doc) p.count ≡ Some s → IsStepOf s.value bundle slot
      → SlotUsed (next p) bundle slot u → Passed (rest (p.count + 1)) p.count (s ∷ []) u.0
  slot_passed p s bundle slot u at room here is uses = record {
    count = omega (arith, uses.count);
    at = record {
      most = omega (arith, uses.count, room);
      slots = uses.slots;
      known = λ k n there. known n k there (uses.new k n there);
      all =
          λ b n before. all b n before.0 (omega (arith, before.1, uses.count)) before.2.0 before.2.1 before.2.2
          (cases_lt before.0 p.count);
    };
    more = λ o t. subst (λ (c : ℕ). Told (rest c) o) uses.count t;
  }
    where
      -- an earlier name keeps its kind
      stays : (k : ℕ) (n : List ℕ) → slice_get p.names k ≡ Some n → kind_at u.0 k ≡ kind_at p k
      stays k n old =
          (uses.kinds k (kind_at p k) (record { within = slice_get_within p.names k n old; kind = refl })).kind

      known : (n : List ℕ) (k : ℕ) → slice_get u.0.names k ≡ Some n → (slice_get p.names k ≡ Some n) ⊎ (u.1 ≡ k)
          → IsNamedBefore (NamesAs (kind_at u.0 k)) (statements_of doc) u.0.count n
      known n k there (inl old) =
          let (j, below, (t, stands, names)) = at.known k n old in (
            j,
            omega (arith, below, uses.count),
            (t, stands, subst (λ (b : Bool). NamesAs b t.value n) (sym (stays k n old)) names),
          )
      known n k there (inr new) =
          let same : slot ≡ n = same_Some slot n (sym uses.at ∙ ap (slice_get u.0.names) new ∙ there) in
          let way : bundle ≡ kind_at u.0 k = sym uses.kind.kind ∙ ap (kind_at u.0) new in (
            p.count,
            omega (arith, uses.count),
            (
              s,
              here,
              subst (λ (b : Bool). NamesAs b s.value n) way
                  (subst (λ (x : List ℕ). NamesAs bundle s.value x) same is.named),
            ),
          )

      all : (b : Bool) (n : List ℕ) (j : ℕ) → j < p.count + 1 → (t : Written)
          → slice_get (statements_of doc) j ≡ Some t → NamesAs b t.value n → (j < p.count) ⊎ (p.count ≤ j)
          → IsNamed u.0 b n
      all b n j below t there names (inl earlier) = let (k, old, way) = at.all b n (j, earlier, (t, there, names)) in
          (k, uses.grows k n old, stays k n old ∙ way)
      all b n j below t there names (inr last) =
          let (way, same) =
          is.only b n (subst (λ (w : Written). NamesAs b w.value n)
          (same_statement j p.count t s there here (omega (arith, below, last))) names) in
          (u.1, uses.at ∙ ap (λ (x : List ℕ). Some x) same, uses.kind.kind ∙ way)

  -- the name is one of those that were read
  named_before : (p : Progress) (n : List ℕ) → IsAt p → IsNamedBefore NamesSlot (statements_of doc) p.count n
      → Has p.names n
  named_before p n at before =
      let (b, way) = before_as (statements_of doc) p.count n before in
      let (k, there, kind) = at.all b n way in
      at_has p.names k n there

  read_before : (p : Progress) (k : ℕ) (n : List ℕ) → IsAt p → slice_get p.names k ≡ Some n
      → IsNamedBefore NamesSlot (statements_of doc) p.count n
  read_before p k n at there = before_slot (statements_of doc) p.count (kind_at p k) n (at.known k n there)

  -- the names before a statement are no more than those that were read
  few_before : (p : Progress) (others : List (List ℕ)) → IsAt p → AllPairs (λ a b. a ≢ b) others
      → All (IsNamedBefore NamesSlot (statements_of doc) p.count) others → length others ≤ length p.names
  few_before p others at differ before =
      no_more others p.names differ at.slots.names.apart
      (λ n h.
      let (k, there) = has_at others n h in
      named_before p n at (subst (λ (x : List ℕ). IsNamedBefore NamesSlot (statements_of doc) p.count x)
      (get_or_from_slice_get others k n [] there) (before k [] (slice_get_within others k n there))))

  slot_walked : (p : Progress) (s : Written) (bundle : Bool) (slot : List ℕ) → IsAt p → p.count < 4096
      → slice_get (statements_of doc) p.count ≡ Some s → IsStepOf s.value bundle slot → is_slot_name slot ≡ true
      → Walked (by_use p.count) p.count (s ∷ []) (used p.count bundle (next p) slot)
  unfolding used
  slot_walked p s bundle slot at room here is form = by (position_of p.names slot) refl
    where
      found : (u : Progress × ℕ) → used p.count bundle (next p) slot ≡ Ok u
          → Passed (rest (p.count + 1)) p.count (s ∷ []) u.0
      found u e =
          slot_passed p s bundle slot u at room here is
          (used_found p.count bundle (next p) slot u (begun_slots p at.slots) form e)

      unnamed : position_of p.names slot ≡ None → IsNamedBefore NamesSlot (statements_of doc) p.count slot → ⊥
      unnamed new before =
          let (k, there) = has_at p.names slot (named_before p slot at before) in place_none p.names slot new k there

      all_taken : nat_lt (length p.names) 32 ≡ false → length p.names ≡ 32
      all_taken full = let few = at.slots.names.few in let least = no_room (length p.names) 32 full in
          omega (arith, few, least)

      -- what the statement names in the other way stands there in the other way
      not_mixed : (k : ℕ) → slice_get p.names k ≡ Some slot → beq (kind_at p k) bundle ≡ true
          → IsMixed (statements_of doc) p.count s.value → ⊥
      not_mixed k there alike mix =
          let (b, name, now, before) = mixed_as (statements_of doc) p.count s.value mix in
          let (way, same) = is.only b name now in
          let (j, stands, other) = at.all (not b) name before in
          let one : k ≡ j = at.slots.names.apart k j name (there ∙ ap (λ (x : List ℕ). Some x) same) stands in
          two_ways (kind_at p k) bundle b alike way (ap (kind_at p) one ∙ other)

      new_mixed : position_of p.names slot ≡ None → IsMixed (statements_of doc) p.count s.value → ⊥
      new_mixed new mix =
          let (b, name, now, before) = mixed_as (statements_of doc) p.count s.value mix in
          let (way, same) = is.only b name now in
          unnamed new (subst (λ (x : List ℕ). IsNamedBefore NamesSlot (statements_of doc) p.count x) (sym same)
          (before_slot (statements_of doc) p.count (not b) name before))

      by : (o : Option ℕ) → position_of p.names slot ≡ o
          → Walked (by_use p.count) p.count (s ∷ []) (used_at o p.count bundle (next p) slot)
      by (Some k) there =
          let stands : slice_get p.names k ≡ Some slot = place_some p.names slot k there in
          passed_on (in_statement p.count name_too_many) (in_statement p.count mixed ∷ rest (p.count + 1)) p.count
          (s ∷ []) (used_at (Some k) p.count bundle (next p) slot)
          (no_cause p.count s name_too_many here
          (λ (name, names, (fresh, others)).
          let (b, way) = names_as s.value name names in
          fresh (subst (λ (x : List ℕ). IsNamedBefore NamesSlot (statements_of doc) p.count x) (is.only b name way).1
          (read_before p k slot at stands)))) (
          tested (in_statement p.count mixed) (rest (p.count + 1)) p.count (s ∷ []) (beq (kind_at p k) bundle) _
          (λ other. cause_is p.count s mixed here
          (is_mixed (statements_of doc) p.count s.value bundle (kind_at p k) slot other is.named
          (at.known k slot stands)))
          (λ alike. no_cause p.count s mixed here (not_mixed k stands alike))
          (λ alike. found (next p, k) (rw (there, alike) refl)))
      by None new =
          tested (in_statement p.count name_too_many) (in_statement p.count mixed ∷ rest (p.count + 1)) p.count (s ∷ [])
          (nat_lt (length p.names) 32) _
          (λ full. cause_is p.count s name_too_many here (
            slot,
            names_slot bundle s.value slot is.named,
            (
              unnamed new,
              (
                p.names,
                all_taken full,
                apart_differ p.names at.slots.names.apart,
                all_of (IsNamedBefore NamesSlot (statements_of doc) p.count) p.names
                    (λ n h. let (k, there) = has_at p.names n h in read_before p k n at there),
              ),
            ),
          ))
          (λ some. no_cause p.count s name_too_many here (λ (name, names, (fresh, (others, many, differ, before))).
          let few = few_before p others at differ before in
          let below = room_is (length p.names) 32 some in
          omega (arith, few, many, below)))
          (λ some.
          passed_on (in_statement p.count mixed) (rest (p.count + 1)) p.count (s ∷ [])
          (Ok (with_name (next p) bundle slot, length p.names)) (no_cause p.count s mixed here (new_mixed new))
          (found (with_name (next p) bundle slot, length p.names) (rw (new, some) refl)))

  -- the form of the slot's name
  name_walked : {A : Type 0} (p : Progress) (s : Written) (bundle : Bool) (slot : List ℕ) (fs : List Fault)
      (then : Unit {0} → Result (Progress × A) PlanError) → slice_get (statements_of doc) p.count ≡ Some s
      → IsStepOf s.value bundle slot → (is_slot_name slot ≡ true → Walked fs p.count (s ∷ []) (then tt))
      → Walked (in_statement p.count bad_name ∷ fs) p.count (s ∷ [])
      (must (is_slot_name slot) (BadName p.count) >>= then)
  name_walked p s bundle slot fs then here is more =
      tested (in_statement p.count bad_name) fs p.count (s ∷ []) (is_slot_name slot) then
      (λ bad. cause_is p.count s bad_name here
      (slot, names_slot bundle s.value slot is.named, λ good. false≢true (sym bad ∙ good)))
      (λ form. no_cause p.count s bad_name here
      (λ (name, names, bad).
      let (b, way) = names_as s.value name names in
      bad (subst (λ (x : List ℕ). is_slot_name x ≡ true) (is.only b name way).1 form))) more

  -- the slot's name, and after it the slot
  slot_of_walked : (p : Progress) (s : Written) (bundle : Bool) (slot : List ℕ) → IsAt p → p.count < 4096
      → slice_get (statements_of doc) p.count ≡ Some s → IsStepOf s.value bundle slot
      → ((name : List ℕ) → ¬ NamesRegion s.value name)
      → Walked (by_value p.count) p.count (s ∷ []) (slot_of p.count bundle (next p) slot)
  unfolding slot_of
  slot_of_walked p s bundle slot at room here is nowhere =
      name_walked p s bundle slot (in_statement p.count no_region ∷ in_statement p.count out_of_range ∷ by_use p.count)
      (λ form. used p.count bundle (next p) slot) here is (λ form.
      passed_on (in_statement p.count no_region) _ p.count (s ∷ []) (used p.count bundle (next p) slot)
      (no_cause p.count s no_region here (λ (name, names, unknown). nowhere name names)) (
      passed_on (in_statement p.count out_of_range) _ p.count (s ∷ []) (used p.count bundle (next p) slot)
      (no_cause p.count s out_of_range here (in_range s.value is.body)) (
      slot_walked p s bundle slot at room here is form)))

  -- a fix or a gather
  fix_walked : (p : Progress) (s : Written) (bundle : Bool) (slot region : List ℕ) → IsAt p → p.count < 4096
      → slice_get (statements_of doc) p.count ≡ Some s → IsStepOf s.value bundle slot → NamesRegion s.value region
      → ((name : List ℕ) → NamesRegion s.value name → region ≡ name)
      → Walked (by_value p.count) p.count (s ∷ [])
      (fix_by (region_named settings) p.count bundle (next p) slot region)
  unfolding fix_by
  fix_walked p s bundle slot region at room here is named only =
      name_walked p s bundle slot (in_statement p.count no_region ∷ in_statement p.count out_of_range ∷ by_use p.count)
      _ here is (λ form. by form (region_named settings region) refl)
    where
      by : is_slot_name slot ≡ true → (o : Option ℕ) → region_named settings region ≡ o
          → Walked {A = ℕ × ℕ} (in_statement p.count no_region ∷ in_statement p.count out_of_range ∷ by_use p.count)
          p.count (s ∷ [])
          (ok_or o (NoSuchRegion p.count) >>= λ i. used p.count bundle (next p) slot >>= λ u. Ok (u.0, (u.1, i)))
      by form None unknown =
          this (in_statement p.count no_region) _ (cause_is p.count s no_region here (region, named, unknown))
      by form (Some i) known =
          let all : Result (Progress × (ℕ × ℕ)) PlanError =
          used p.count bundle (next p) slot >>= λ u. Ok (u.0, (u.1, i)) in
          passed_on (in_statement p.count no_region) _ p.count (s ∷ []) all
          (no_cause p.count s no_region here
          (λ (name, names, unknown). none_some (region_named settings name) i unknown
          (subst (λ (x : List ℕ). region_named settings x ≡ Some i) (only name names) known))) (
          passed_on (in_statement p.count out_of_range) _ p.count (s ∷ []) all
          (no_cause p.count s out_of_range here (in_range s.value is.body)) (
          kept _ p.count (s ∷ []) (used p.count bundle (next p) slot) (λ u. (u.1, i))
          (slot_walked p s bundle slot at room here is form)))

  -- a step has no statements inside it
  alone : {A : Type 0} (fs : List Fault) (n : ℕ) (s : Written) (each : Data → List Written)
      (r : Result (Progress × A) PlanError) → HasNoBody s.value → Walked fs n (s ∷ []) r
      → Walked fs n (s ∷ flat_map each (directly_inside s.value)) r
  alone fs n s each r body w =
      subst (λ (ds : List Data). Walked fs n (s ∷ flat_map each ds) r) (sym (none_inside s.value body)) w

  -- ---- statements one after another

  -- the reader reads a value as the statements that stand in it
  abbrev pub Walks : {A : Type 0} → (Progress → Data → Result (Progress × A) PlanError) → (Data → List Written) → Type 0
  Walks read_one each = (p : Progress) (d : Data) → IsAt p → Stands p.count (each d)
      → Walked (rest p.count) p.count (each d) (read_one p d)

  none_walked : {A : Type 0} (p : Progress) (x : A) → IsAt p → Walked (rest p.count) p.count [] (Ok (p, x))
  none_walked p x at = record { count = omega arith; at = at; more = λ o t. t }

  pub sequence_walked : (read_one : Progress → Data → Result (Progress × Statement) PlanError) (each : Data → List Written)
      → Walks read_one each → (ds : Items) (earlier : Sequence) (p : Progress) → IsAt p
      → Stands p.count (flat_map each (elements ds))
      → Walked (rest p.count) p.count (flat_map each (elements ds)) (sequence_from read_one earlier p ds)
  sequence_walked read_one each walks no_items earlier p at stands = none_walked p earlier at
  sequence_walked read_one each walks (item d ds) earlier p at stands =
      then_walked (rest p.count) p.count (each d) (flat_map each (elements ds)) (read_one p d) _
      (walks p d at (left_stands p.count (each d) (flat_map each (elements ds)) stands))
      (λ r count more. sequence_walked read_one each walks ds (followed_by earlier r.1) r.0 more
      (right_stands p.count r.0.count (each d) (flat_map each (elements ds)) count stands))

  -- the statements of lists, one list after another
  in_lists : (each : Data → List Written) → Items → List Written
  in_lists each no_items = []
  in_lists each (item d ds) = flat_map each (elements (items_in d)) ++ in_lists each ds

  lists_are : (each : Data → List Written) (ds : Items)
      → in_lists each ds ≡ flat_map each (flat_map listed (elements ds))
  unfolding in_lists
  lists_are each no_items = refl
  lists_are each (item d ds) =
      let same : elements (items_in d) ≡ listed d = sym (listed_is d) in
      (λ i. flat_map each (same i) ++ lists_are each ds i)
      ∙ sym (flat_map-append each (listed d) (flat_map listed (elements ds)))

  branches_walked : (read_one : Progress → Data → Result (Progress × Statement) PlanError) (each : Data → List Written)
      → Walks read_one each → (ds : Items) (earlier : Alternatives) (p : Progress) → IsAt p
      → Stands p.count (in_lists each ds)
      → Walked (rest p.count) p.count (in_lists each ds) (alternatives_from read_one earlier p ds)
  unfolding in_lists
  branches_walked read_one each walks no_items earlier p at stands = none_walked p earlier at
  branches_walked read_one each walks (item d ds) earlier p at stands =
      then_walked (rest p.count) p.count (flat_map each (elements (items_in d))) (in_lists each ds)
      (sequence_from read_one skip p (items_in d)) _
      (sequence_walked read_one each walks (items_in d) skip p at
      (left_stands p.count (flat_map each (elements (items_in d))) (in_lists each ds) stands))
      (λ r count more. branches_walked read_one each walks ds (with_branch earlier r.1) r.0 more
      (right_stands p.count r.0.count (flat_map each (elements (items_in d))) (in_lists each ds) count stands))

  -- ---- one statement

  begun_walked : {A : Type 0} (p : Progress) (s : Written) (fs : List Fault) (ss : List Written)
      (then : Progress → Result (Progress × A) PlanError) → slice_get (statements_of doc) p.count ≡ Some s
      → (p.count < 4096 → Walked fs p.count ss (then (next p)))
      → Walked (in_statement p.count one_too_many ∷ fs) p.count ss (begun p >>= then)
  unfolding begun
  begun_walked {A} p s fs ss then here more = by (nat_lt p.count 4096) refl
    where
      by : (b : Bool) → nat_lt p.count 4096 ≡ b
          → Walked (in_statement p.count one_too_many ∷ fs) p.count ss
          ((must b (TooMany p.count) >>= λ room. Ok (next p)) >>= then)
      by true room =
          passed_on (in_statement p.count one_too_many) fs p.count ss (then (next p))
          (no_cause p.count s one_too_many here
          (λ many. let below = room_is p.count 4096 room in omega (arith, many, below)))
          (more (room_is p.count 4096 room))
      by false full =
          this (in_statement p.count one_too_many) fs (cause_is p.count s one_too_many here (no_room p.count 4096 full))

  -- a statement of this form names no region
  no_place : (p : Progress) (s : Written) (shape : Shape) → SpellsShape (version_of doc) s.value shape
      → region_in shape ≡ None → (name : List ℕ) → ¬ NamesRegion s.value name
  no_place p s shape h other name named =
      none_some (region_in shape) name other (region_is (version_of doc) s.value shape name h named)

  -- a fix or a gather, of this form
  region_step_walked : (each : Data → List Written) (p : Progress) (s : Written) (shape : Shape) (bundle : Bool)
      (slot region : List ℕ) (made : ℕ → ℕ → Step) → IsAt p → p.count < 4096
      → Stands p.count (s ∷ flat_map each (directly_inside s.value)) → SpellsShape (version_of doc) s.value shape
      → IsStepOf s.value bundle slot → NamesRegion s.value region → region_in shape ≡ Some region
      → Walked (by_value p.count) p.count (s ∷ flat_map each (directly_inside s.value))
      (fix_by (region_named settings) p.count bundle (next p) slot region >>= λ x. Ok (x.0, step (made x.1.0 x.1.1)))
  region_step_walked each p s shape bundle slot region made at room stands h is named there =
      alone (by_value p.count) p.count s each _ is.body (
      kept (by_value p.count) p.count (s ∷ []) (fix_by (region_named settings) p.count bundle (next p) slot region)
      (λ x. step (made x.1.0 x.1.1)) (
      fix_walked p s bundle slot region at room (first_stands p.count s _ stands) is named
      (λ name other. same_Some region name (sym there ∙ region_is (version_of doc) s.value shape name h other))))

  -- another step
  slot_step_walked : (each : Data → List Written) (p : Progress) (s : Written) (shape : Shape) (bundle : Bool)
      (slot : List ℕ) (made : ℕ → Step) → IsAt p → p.count < 4096
      → Stands p.count (s ∷ flat_map each (directly_inside s.value)) → SpellsShape (version_of doc) s.value shape
      → IsStepOf s.value bundle slot → region_in shape ≡ None
      → Walked (by_value p.count) p.count (s ∷ flat_map each (directly_inside s.value))
      (slot_of p.count bundle (next p) slot >>= λ u. Ok (u.0, step (made u.1)))
  slot_step_walked each p s shape bundle slot made at room stands h is other =
      alone (by_value p.count) p.count s each _ is.body (
      kept (by_value p.count) p.count (s ∷ []) (slot_of p.count bundle (next p) slot) (λ u. step (made u.1)) (
      slot_of_walked p s bundle slot at room (first_stands p.count s _ stands) is (no_place p s shape h other)))

  -- a loop or a choice, which names no slot
  nameless : (p : Progress) (s : Written) (shape : Shape) → SpellsShape (version_of doc) s.value shape
      → slot_in shape ≡ None → (name : List ℕ) → ¬ NamesSlot s.value name
  nameless p s shape h free name names =
      let (b, way) = names_as s.value name names in
      none_some (slot_in shape) (b, name) free (names_in (version_of doc) s.value shape b name h way)

  unmixed : (p : Progress) (s : Written) → ((name : List ℕ) → ¬ NamesSlot s.value name)
      → ¬ IsMixed (statements_of doc) p.count s.value
  unmixed p s nameless mix =
      let (b, name, now, before) = mixed_as (statements_of doc) p.count s.value mix in
      nameless name (names_slot b s.value name now)

  -- its body, once it is known to be in range
  ranged_walked : {A B : Type 0} (p : Progress) (s : Written) (shape : Shape) (ss : List Written) (b : Bool)
      (body : Result (Progress × A) PlanError) (made : Progress × A → B) → IsAt p → p.count < 4096
      → slice_get (statements_of doc) p.count ≡ Some s → SpellsShape (version_of doc) s.value shape → slot_in shape ≡ None
      → region_in shape ≡ None
      → (b ≡ false → IsOutOfRange s.value) → (b ≡ true → ¬ IsOutOfRange s.value)
      → (IsAt (next p) → Walked (rest (p.count + 1)) (p.count + 1) ss body)
      → Walked (by_value p.count) p.count (s ∷ ss) (must b (Range p.count) >>= λ range. body >>= λ x. Ok (x.0, made x))
  ranged_walked {B = B} p s shape ss b body made at room here h free other bad good walked =
      let all : Result (Progress × B) PlanError = must b (Range p.count) >>= λ range. body >>= λ x. Ok (x.0, made x) in
      passed_on (in_statement p.count bad_name) _ p.count (s ∷ ss) all
      (no_cause p.count s bad_name here (λ (name, names, out). nameless p s shape h free name names)) (
      passed_on (in_statement p.count no_region) _ p.count (s ∷ ss) all
      (no_cause p.count s no_region here (λ (name, names, unknown). no_place p s shape h other name names))
      (
      tested (in_statement p.count out_of_range) _ p.count (s ∷ ss) b (λ range. body >>= λ x. Ok (x.0, made x))
      (λ out. cause_is p.count s out_of_range here (bad out))
      (λ inner. no_cause p.count s out_of_range here (good inner)) (λ inner.
      passed_on (in_statement p.count name_too_many) _ p.count (s ∷ ss) (body >>= λ x. Ok (x.0, made x))
      (no_cause p.count s name_too_many here (λ (name, names, many). nameless p s shape h free name names)) (
      passed_on (in_statement p.count mixed) _ p.count (s ∷ ss) (body >>= λ x. Ok (x.0, made x))
      (no_cause p.count s mixed here (unmixed p s (nameless p s shape h free))) (
      kept (rest (p.count + 1)) p.count (s ∷ ss) body made
      (under (rest (p.count + 1)) p.count s ss body
      (walked (next_at p s at room here (nameless p s shape h free)))))))))

  loop_walked : (read_one : Progress → Data → Result (Progress × Statement) PlanError) (each : Data → List Written)
      → Walks read_one each → (p : Progress) (s : Written) (n : ℕ) (ds : Items) → IsAt p → p.count < 4096
      → Stands p.count (s ∷ flat_map each (directly_inside s.value)) → SpellsShape (version_of doc) s.value (loop_shape n ds)
      → Walked (by_value p.count) p.count (s ∷ flat_map each (directly_inside s.value))
      (must (loop_test n ds) (Range p.count) >>= λ range. sequence_from read_one skip (next p) ds >>= λ b. Ok
      (b.0, loop n b.1))
  loop_walked read_one each walks p s n ds at room stands h =
      let same : directly_inside s.value ≡ elements ds = loop_inside (version_of doc) s.value n ds h in
      ranged_walked p s (loop_shape n ds) (flat_map each (directly_inside s.value)) (loop_test n ds)
      (sequence_from read_one skip (next p) ds) (λ b. loop n b.1) at room (first_stands p.count s _ stands) h refl
      refl (loop_out (version_of doc) s.value n ds h) (loop_in (version_of doc) s.value n ds h) (λ after.
      subst (λ (es : List Data). Walked (rest (p.count + 1)) (p.count + 1) (flat_map each es)
      (sequence_from read_one skip (next p) ds)) (sym same) (
      sequence_walked read_one each walks ds skip (next p) after
      (subst (λ (es : List Data). Stands (p.count + 1) (flat_map each es)) same (rest_stands p.count s _ stands))))

  choice_walked : (read_one : Progress → Data → Result (Progress × Statement) PlanError) (each : Data → List Written)
      → Walks read_one each → (p : Progress) (s : Written) (ds : Items) → IsAt p → p.count < 4096
      → Stands p.count (s ∷ flat_map each (directly_inside s.value)) → SpellsShape (version_of doc) s.value (choice_shape ds)
      → Walked (by_value p.count) p.count (s ∷ flat_map each (directly_inside s.value))
      (must (choice_test ds) (Range p.count) >>= λ range. alternatives_from read_one none (next p) ds >>= λ bs. Ok
      (bs.0, choice bs.1))
  choice_walked read_one each walks p s ds at room stands h =
      let same : flat_map each (directly_inside s.value) ≡ in_lists each ds =
      ap (flat_map each) (choice_inside (version_of doc) s.value ds h)
      ∙ sym (lists_are each ds) in
      ranged_walked p s (choice_shape ds) (flat_map each (directly_inside s.value)) (choice_test ds)
      (alternatives_from read_one none (next p) ds) (λ bs. choice bs.1) at room (first_stands p.count s _ stands) h
      refl refl (choice_out (version_of doc) s.value ds h) (choice_in (version_of doc) s.value ds h) (λ after.
      subst (λ (es : List Written). Walked (rest (p.count + 1)) (p.count + 1) es
      (alternatives_from read_one none (next p) ds)) (sym same) (
      branches_walked read_one each walks ds none (next p) after
      (subst (λ (es : List Written). Stands (p.count + 1) es) same (rest_stands p.count s _ stands))))

  shape_walked : (read_one : Progress → Data → Result (Progress × Statement) PlanError) (each : Data → List Written)
      → Walks read_one each → (p : Progress) (s : Written) (shape : Shape) → IsAt p → p.count < 4096
      → Stands p.count (s ∷ flat_map each (directly_inside s.value)) → SpellsShape (version_of doc) s.value shape
      → Walked (by_value p.count) p.count (s ∷ flat_map each (directly_inside s.value))
      (statement_by (region_named settings) read_one p.count (next p) shape)
  unfolding statement_by
  shape_walked read_one each walks p s (fix_shape slot region) at room stands h =
      region_step_walked each p s (fix_shape slot region) false slot region fix at room stands h
      (fix_step (version_of doc) s.value slot region h) h.2 refl
  shape_walked read_one each walks p s (unfix_shape slot) at room stands h =
      slot_step_walked each p s (unfix_shape slot) false slot unfix at room stands h
      (unfix_step (version_of doc) s.value slot h) refl
  shape_walked read_one each walks p s (latch_shape slot mode) at room stands h =
      slot_step_walked each p s (latch_shape slot mode) false slot (λ k. latch k mode) at room stands h
      (latch_step (version_of doc) s.value slot mode h) refl
  shape_walked read_one each walks p s (unlatch_shape slot) at room stands h =
      slot_step_walked each p s (unlatch_shape slot) false slot unlatch at room stands h
      (unlatch_step (version_of doc) s.value slot h) refl
  shape_walked read_one each walks p s (gather_shape slot region) at room stands h =
      region_step_walked each p s (gather_shape slot region) true slot region gather at room stands h
      (gather_step (version_of doc) s.value slot region h) h.2 refl
  shape_walked read_one each walks p s (scatter_shape slot) at room stands h =
      slot_step_walked each p s (scatter_shape slot) true slot scatter at room stands h
      (scatter_step (version_of doc) s.value slot h) refl
  shape_walked read_one each walks p s (loop_shape n ds) at room stands h =
      loop_walked read_one each walks p s n ds at room stands h
  shape_walked read_one each walks p s (choice_shape ds) at room stands h =
      choice_walked read_one each walks p s ds at room stands h

  form_walked : (read_one : Progress → Data → Result (Progress × Statement) PlanError) (each : Data → List Written)
      → Walks read_one each → (p : Progress) (s : Written) → IsAt p → p.count < 4096
      → Stands p.count (s ∷ flat_map each (directly_inside s.value))
      → Walked (in_statement p.count no_kind ∷ in_statement p.count other_form ∷ by_value p.count) p.count
      (s ∷ flat_map each (directly_inside s.value))
      (shape_of (version_of doc) p.count s.value >>= λ shape. statement_by (region_named settings) read_one p.count
      (next p) shape)
  form_walked read_one each walks p s at room stands =
      by (shape_of (version_of doc) p.count s.value) (form_is (version_of doc) p.count s.value)
    where
      here : slice_get (statements_of doc) p.count ≡ Some s
      here = first_stands p.count s (flat_map each (directly_inside s.value)) stands

      by : (r : Result Shape PlanError) → FormIs (version_of doc) p.count s.value r
          → Walked (in_statement p.count no_kind ∷ in_statement p.count other_form ∷ by_value p.count) p.count
          (s ∷ flat_map each (directly_inside s.value))
          (r >>= λ shape. statement_by (region_named settings) read_one p.count (next p) shape)
      by (Ok shape) (kind, spelled) =
          passed_on (in_statement p.count no_kind) _ p.count _
          (statement_by (region_named settings) read_one p.count (next p) shape)
          (no_cause p.count s no_kind here (λ missing. missing kind)) (
          passed_on (in_statement p.count other_form) _ p.count _
          (statement_by (region_named settings) read_one p.count (next p) shape)
          (no_cause p.count s other_form here (λ missing. missing (shape, spelled))) (
          shape_walked read_one each walks p s shape at room stands spelled))
      by (Err x) (inl (is, missing)) =
          subst (λ (e : PlanError). Told (in_statement p.count no_kind ∷ in_statement p.count other_form ∷ by_value
          p.count) (Some e)) is (this (in_statement p.count no_kind) _ (cause_is p.count s no_kind here missing))
      by (Err x) (inr (kind, is, missing)) =
          not_this (in_statement p.count no_kind) _ (Some x) (no_cause p.count s no_kind here (λ none. none kind)) (
          subst (λ (e : PlanError). Told (in_statement p.count other_form ∷ by_value p.count) (Some e)) is
          (this (in_statement p.count other_form) _ (cause_is p.count s other_form here missing)))

  pub statement_walked : (levels depth : ℕ) → depth + levels ≡ 17
      → Walks (statement_at (version_of doc) (region_named settings) levels) (statements_in (suc levels) depth)
  statement_walked zero depth deep p d at stands =
      let s : Written = record { depth = depth; value = d } in
      let here = first_stands p.count s _ stands in
      subst (λ (fs : List Fault). Walked fs p.count (statements_in 1 depth d)
      (statement_at (version_of doc) (region_named settings) zero p d)) (sym (rest_is p.count at.most)) (
      begun_walked p s _ (statements_in 1 depth d) (λ q. Err (TooDeep p.count)) here
      (λ room. this (in_statement p.count too_deep) _ (cause_is p.count s too_deep here (omega (arith, deep)))))
  statement_walked (suc levels) depth deep p d at stands =
      let s : Written = record { depth = depth; value = d } in
      let here = first_stands p.count s _ stands in
      let read_one = statement_at (version_of doc) (region_named settings) levels in
      let each = statements_in (suc levels) (depth + 1) in
      subst (λ (fs : List Fault). Walked fs p.count (s ∷ flat_map each (directly_inside d))
      (statement_at (version_of doc) (region_named settings) (suc levels) p d)) (sym (rest_is p.count at.most)) (
      begun_walked p s _ (s ∷ flat_map each (directly_inside d))
      (λ q. shape_of (version_of doc) p.count d >>= λ shape. statement_by (region_named settings) read_one p.count q
      shape) here
      (λ room.
      passed_on (in_statement p.count too_deep) _ p.count _
      (shape_of (version_of doc) p.count d >>= λ shape. statement_by (region_named settings) read_one p.count (next p) shape)
      (no_cause p.count s too_deep here (λ deeper. omega (arith, deep, deeper))) (
      form_walked read_one each (statement_walked levels (depth + 1) (omega (arith, deep))) p s at room stands)))
