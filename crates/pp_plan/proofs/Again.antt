-- Statements that are spelled are read.
use Rattle.std.proofs.Common.{◌≡◌, ◌⊎◌, inl, inr, ℕ, zero, suc, ◌+◌, ◌<◌, ◌≤◌, Bool, true, false, not, ◌&&◌, ◌==◌}
use Rattle.std.proofs.Common.{nat_le, nat_lt, List}
use Rattle.std.proofs.Common.{[], ◌∷◌, ◌++◌, length, Option, Some, None, is_some, Result, Ok, refl, sym, ap, subst, ◌∙◌}
use Rattle.std.proofs.Common.{arith}
use Rattle.std.specs.List.{slice_get}
use Rattle.std.specs.Bool.{beq}
use Rattle.std.proofs.lemmas.Bool.{and_from, lt-ltb}
use Rattle.std.proofs.lemmas.Bool.Decides.{nat_tests}
use Rattle.std.proofs.lemmas.Option.{same_Some, slice_get_within}
use Rattle.serde_json.specs.Data.{Data, array, Items, no_items, item}
use Rattle.serde_json.specs.Find.{as_array}
use Rattle.pp_settings.specs.Settings.{Configuration, region_named}
use Rattle.pp_plan.specs.declared.mode.Mode.{Mode}
use Rattle.pp_plan.specs.declared.error.PlanError.{PlanError}
use Rattle.pp_plan.specs.Tree.{Step, fix, unfix, latch, unlatch, gather, scatter, Statement, step, loop, choice}
use Rattle.pp_plan.specs.Tree.{Sequence, skip, andthen}
use Rattle.pp_plan.specs.Tree.{Alternatives, none, either, statement_count, sequence_count, alternatives_count}
use Rattle.pp_plan.specs.Tree.{statement_depth, sequence_depth, alternatives_depth}
use Rattle.pp_plan.specs.Names.{is_slot_name}
use Rattle.pp_plan.specs.Rules.{IsSome, IsStatement, IsSequence, AreAlternatives, step_uses_bundle}
use Rattle.pp_plan.specs.Rules.{statement_uses_bundle, uses_bundle, branches_use_bundle, step_uses_plain}
use Rattle.pp_plan.specs.Rules.{statement_uses_plain, uses_plain, branches_use_plain}
use Rattle.pp_plan.specs.Progress.{Progress}
use Rattle.pp_text.specs.Steps.{◌>>=◌}
use Rattle.pp_plan.specs.Numbering.{in_byte_order, position_of, place_in, numbered_step, numbered_statement, numbered}
use Rattle.pp_plan.specs.Numbering.{numbered_branches}
use Rattle.pp_plan.specs.Shapes.{Shape, fix_shape, unfix_shape, latch_shape, unlatch_shape, gather_shape}
use Rattle.pp_plan.specs.Shapes.{scatter_shape, loop_shape, choice_shape}
use Rattle.pp_plan.specs.Shapes.{shape_of, are_lists}
use Rattle.pp_plan.specs.Reading.{begun, with_name, used_at, used, slot_of, followed_by, with_branch, sequence_from}
use Rattle.pp_plan.specs.Reading.{alternatives_from, items_in, item_count, fix_by, statement_by, statement_at}
use Rattle.pp_plan.specs.Spelling.{SpellsStep, SpellsStatement, SpellsSequence, SpellsAlternatives}
use Rattle.pp_plan.specs.Faults.{SpellsShape}
use Rattle.pp_plan.proofs.Places.{Has, has_at, at_has, has_push, Extends, AreApart, place_some, place_none}
use Rattle.pp_plan.proofs.Order.{Rises, rises_apart, rises_short, order_rises, order_length, order_from}
use Rattle.pp_plan.proofs.Forms.{shape_again}
use Rattle.pp_plan.proofs.Bundles.{Ways, ways_first, ways_rest, itself}
use Rattle.pp_plan.proofs.Found.{AreNames, AreSlots, kind_at, IsKind, SlotUsed, used_found, push_apart, longer}
use Rattle.pp_plan.proofs.Found.{next, begun_slots, joined, gathered}
use Rattle.pp_plan.proofs.Found.{joined_skip, joined_follow, gathered_none, gathered_with, branches_counted}
use Rattle.pp_plan.proofs.Numbered.{placed}

-- ---- slot names

-- each of the names is one of the slots'
abbrev pub AreIn : (slots names : List (List ℕ)) → Type 0
AreIn slots names = (n : List ℕ) → Has names n → Has slots n

no_more : (slots names : List (List ℕ)) → Rises slots → AreApart names → AreIn slots names → length names ≤ length slots
no_more slots names up apart within =
    let a =
    rises_short slots (in_byte_order names) (order_rises names apart) up (λ n h. within n (order_from names n h)) in
    let l = order_length names in
    omega (arith, a, l)

-- the names that were read are slots', and each is used as its slot is
pub record AreKnown (slots : List (List ℕ)) (kind : ℕ → Bool) (p : Progress) : Type 0 where
  pub within : AreIn slots p.names
  pub kinds : (k j : ℕ) (n : List ℕ) → slice_get p.names k ≡ Some n → slice_get slots j ≡ Some n → kind_at p k ≡ kind j

beq_itself : (b : Bool) → beq b b ≡ true
beq_itself true = refl
beq_itself false = refl

used_to : (o : Option ℕ) (slots : List (List ℕ)) (kind : ℕ → Bool) (n : ℕ) (bundle : Bool) (p : Progress)
    (name : List ℕ) (j : ℕ) → position_of p.names name ≡ o → Rises slots → length slots ≤ 32 → AreApart p.names
    → AreKnown slots kind p → slice_get slots j ≡ Some name → kind j ≡ bundle
    → (u : Progress × ℕ) × (used_at o n bundle p name ≡ Ok u)
used_to (Some k) slots kind n bundle p name j is up few apart known there way =
    let same : kind_at p k ≡ bundle = known.kinds k j name (place_some p.names name k is) there ∙ way in
    let alike : beq (kind_at p k) bundle ≡ true = ap (λ (b : Bool). beq b bundle) same ∙ beq_itself bundle in
    ((p, k), rw alike refl)
used_to None slots kind n bundle p name j is up few apart known there way =
    let has : Has slots name = at_has slots j name there in
    let more : AreIn slots (p.names ++ name ∷ []) =
    λ m h. elim (has_push p.names name m h) as (λ _. Has slots m)
    [ inl old ↦ known.within m old | inr e ↦ subst (λ (z : List ℕ). Has slots z) e has ] in
    let a = no_more slots (p.names ++ name ∷ []) up (push_apart p.names name apart (place_none p.names name is)) more in
    let l = longer p.names name in
    let room : nat_lt (length p.names) 32 ≡ true = lt-ltb (length p.names) 32 (omega (arith, a, l, few)) in
    ((with_name p bundle name, length p.names), rw room refl)

used_again : (slots : List (List ℕ)) (kind : ℕ → Bool) (n : ℕ) (bundle : Bool) (p : Progress) (name : List ℕ) (j : ℕ)
    → Rises slots → length slots ≤ 32 → AreApart p.names → AreKnown slots kind p → slice_get slots j ≡ Some name
    → kind j ≡ bundle → (u : Progress × ℕ) × (used n bundle p name ≡ Ok u)
unfolding used
used_again slots kind n bundle p name j up few apart known there way =
    used_to (position_of p.names name) slots kind n bundle p name j refl up few apart known there way

slot_again : (n : ℕ) (bundle : Bool) (p : Progress) (name : List ℕ) (u : Progress × ℕ) → is_slot_name name ≡ true
    → used n bundle p name ≡ Ok u → slot_of n bundle p name ≡ Ok u
unfolding slot_of
slot_again n bundle p name u form is = rw form is

-- ---- what is read, beside the statement that it was to be

pub record AgainStatement (slots : List (List ℕ)) (kind : ℕ → Bool) (p : Progress) (s : Statement)
    (r : Progress × Statement) : Type 0
  where
    pub grows : Extends p.names r.0.names
    pub read : AreSlots r.0
    pub known : AreKnown slots kind r.0
    pub count : r.0.count ≡ p.count + statement_count s
    pub same : (names : List (List ℕ)) → Extends r.0.names names
        → numbered_statement (λ k. place_in slots names k) r.1 ≡ s

pub record AgainSequence (slots : List (List ℕ)) (kind : ℕ → Bool) (earlier : Sequence) (p : Progress) (b : Sequence)
    (r : Progress × Sequence) : Type 0 where
  pub grows : Extends p.names r.0.names
  pub read : AreSlots r.0
  pub known : AreKnown slots kind r.0
  pub count : r.0.count ≡ p.count + sequence_count b
  pub same : (names : List (List ℕ)) → Extends r.0.names names
      → numbered (λ k. place_in slots names k) r.1 ≡ joined (numbered (λ k. place_in slots names k) earlier) b

pub record AgainBranches (slots : List (List ℕ)) (kind : ℕ → Bool) (earlier : Alternatives) (p : Progress) (bs : Alternatives)
    (r : Progress × Alternatives) : Type 0 where
  pub grows : Extends p.names r.0.names
  pub read : AreSlots r.0
  pub known : AreKnown slots kind r.0
  pub count : r.0.count ≡ p.count + alternatives_count bs
  pub same : (names : List (List ℕ)) → Extends r.0.names names
      → numbered_branches (λ k. place_in slots names k) r.1
      ≡ gathered (numbered_branches (λ k. place_in slots names k) earlier) bs

numbered_follow : (f : ℕ → ℕ) (b : Sequence) (s : Statement)
    → numbered f (followed_by b s) ≡ followed_by (numbered f b) (numbered_statement f s)
numbered_follow f skip s = refl
numbered_follow f (andthen r b) s = ap (andthen (numbered_statement f r)) (numbered_follow f b s)

numbered_with : (f : ℕ → ℕ) (bs : Alternatives) (b : Sequence)
    → numbered_branches f (with_branch bs b) ≡ with_branch (numbered_branches f bs) (numbered f b)
numbered_with f none b = refl
numbered_with f (either a bs) b = ap (either (numbered f a)) (numbered_with f bs b)

-- ---- steps

-- a slot name that stands in the text
record AgainSlot (slots : List (List ℕ)) (kind : ℕ → Bool) (p : Progress) (name : List ℕ) (k : ℕ)
    (u : Progress × ℕ) : Type 0 where
  used : SlotUsed (next p) (kind k) name u
  known : AreKnown slots kind u.0
  same : (names : List (List ℕ)) → Extends u.0.names names → place_in slots names u.1 ≡ k

slot_is : (slots : List (List ℕ)) (kind : ℕ → Bool) (p : Progress) (name : List ℕ) (k : ℕ) (u : Progress × ℕ)
    → Rises slots → AreKnown slots kind p → slice_get slots k ≡ Some name → SlotUsed (next p) (kind k) name u
    → AgainSlot slots kind p name k u
slot_is slots kind p name k u up known there is = record {
  used = is;
  known = record {
    within = λ n h. let (j, at) = has_at u.0.names n h in among n j at (is.new j n at);
    kinds = λ i j n at stands. kept i j n at stands (is.new i n at);
  };
  same = λ names ext. placed slots names k u.1 name apart (ext u.1 name is.at) there;
}
  where
    apart : AreApart slots
    apart = rises_apart slots up

    named : (i : ℕ) (n : List ℕ) → slice_get u.0.names i ≡ Some n → u.1 ≡ i → name ≡ n
    named i n at e = same_Some name n (sym is.at ∙ ap (λ (j : ℕ). slice_get u.0.names j) e ∙ at)

    among : (n : List ℕ) (i : ℕ) → slice_get u.0.names i ≡ Some n → (slice_get p.names i ≡ Some n) ⊎ (u.1 ≡ i)
        → Has slots n
    among n i at (inl old) = known.within n (at_has p.names i n old)
    among n i at (inr e) = subst (λ (z : List ℕ). Has slots z) (named i n at e) (at_has slots k name there)

    kept : (i j : ℕ) (n : List ℕ) → slice_get u.0.names i ≡ Some n → slice_get slots j ≡ Some n
        → (slice_get p.names i ≡ Some n) ⊎ (u.1 ≡ i) → kind_at u.0 i ≡ kind j
    kept i j n at stands (inl old) =
        let before : IsKind (next p) i (kind_at p i) =
        record { within = slice_get_within p.names i n old; kind = refl } in
        (is.kinds i (kind_at p i) before).kind ∙ known.kinds i j n old stands
    kept i j n at stands (inr e) =
        let same : k ≡ j = apart k j n (there ∙ ap (λ (z : List ℕ). Some z) (named i n at e)) stands in
        ap (kind_at u.0) (sym e) ∙ is.kind.kind ∙ ap kind same

step_again : (slots : List (List ℕ)) (kind : ℕ → Bool) (p : Progress) (name : List ℕ) (k : ℕ) (u : Progress × ℕ)
    (s : Step) → AgainSlot slots kind p name k u
    → ((f : ℕ → ℕ) → f u.1 ≡ k → numbered_step f s ≡ numbered_step (λ _. k) s)
    → AgainStatement slots kind p (step (numbered_step (λ _. k) s)) (u.0, step s)
step_again slots kind p name k u s a same = record {
  grows = a.used.grows;
  read = a.used.slots;
  known = a.known;
  count = a.used.count;
  same = λ names ext. ap step (same (λ j. place_in slots names j) (a.same names ext));
}

-- ---- one statement

begun_again : (p : Progress) → p.count < 4096 → begun p ≡ Ok (next p)
unfolding begun
begun_again p room = rw (lt-ltb p.count 4096 room) refl

at_again : (version : ℕ) (region : List ℕ → Option ℕ) (levels : ℕ) (p : Progress) (d : Data) (shape : Shape)
    (r : Progress × Statement) → p.count < 4096 → shape_of version p.count d ≡ Ok shape
    → statement_by region (statement_at version region levels) p.count (next p) shape ≡ Ok r
    → statement_at version region (suc levels) p d ≡ Ok r
at_again version region levels p d shape r room is more = rw (begun_again p room, is) more

fix_again : (region : List ℕ → Option ℕ) (n : ℕ) (bundle : Bool) (p : Progress) (slot name : List ℕ) (i : ℕ)
    (u : Progress × ℕ) → is_slot_name slot ≡ true → region name ≡ Some i → used n bundle p slot ≡ Ok u
    → fix_by region n bundle p slot name ≡ Ok (u.0, (u.1, i))
unfolding fix_by
fix_again region n bundle p slot name i u form named is = rw (form, named, is) refl

fix_to : (region : List ℕ → Option ℕ) (read_one : Progress → Data → Result (Progress × Statement) PlanError) (n : ℕ)
    (p : Progress) (slot name : List ℕ) (x : Progress × (ℕ × ℕ)) → fix_by region n false p slot name ≡ Ok x
    → statement_by region read_one n p (fix_shape slot name) ≡ Ok (x.0, step (fix x.1.0 x.1.1))
unfolding statement_by
fix_to region read_one n p slot name x e = rw e refl

unfix_to : (region : List ℕ → Option ℕ) (read_one : Progress → Data → Result (Progress × Statement) PlanError) (n : ℕ)
    (p : Progress) (slot : List ℕ) (u : Progress × ℕ) → slot_of n false p slot ≡ Ok u
    → statement_by region read_one n p (unfix_shape slot) ≡ Ok (u.0, step (unfix u.1))
unfolding statement_by
unfix_to region read_one n p slot u e = rw e refl

latch_to : (region : List ℕ → Option ℕ) (read_one : Progress → Data → Result (Progress × Statement) PlanError) (n : ℕ)
    (p : Progress) (slot : List ℕ) (u : Progress × ℕ) (mode : Mode) → slot_of n false p slot ≡ Ok u
    → statement_by region read_one n p (latch_shape slot mode) ≡ Ok (u.0, step (latch u.1 mode))
unfolding statement_by
latch_to region read_one n p slot u mode e = rw e refl

unlatch_to : (region : List ℕ → Option ℕ) (read_one : Progress → Data → Result (Progress × Statement) PlanError) (n : ℕ)
    (p : Progress) (slot : List ℕ) (u : Progress × ℕ) → slot_of n false p slot ≡ Ok u
    → statement_by region read_one n p (unlatch_shape slot) ≡ Ok (u.0, step (unlatch u.1))
unfolding statement_by
unlatch_to region read_one n p slot u e = rw e refl

gather_to : (region : List ℕ → Option ℕ) (read_one : Progress → Data → Result (Progress × Statement) PlanError) (n : ℕ)
    (p : Progress) (slot name : List ℕ) (x : Progress × (ℕ × ℕ)) → fix_by region n true p slot name ≡ Ok x
    → statement_by region read_one n p (gather_shape slot name) ≡ Ok (x.0, step (gather x.1.0 x.1.1))
unfolding statement_by
gather_to region read_one n p slot name x e = rw e refl

scatter_to : (region : List ℕ → Option ℕ) (read_one : Progress → Data → Result (Progress × Statement) PlanError) (n : ℕ)
    (p : Progress) (slot : List ℕ) (u : Progress × ℕ) → slot_of n true p slot ≡ Ok u
    → statement_by region read_one n p (scatter_shape slot) ≡ Ok (u.0, step (scatter u.1))
unfolding statement_by
scatter_to region read_one n p slot u e = rw e refl

loop_to : (region : List ℕ → Option ℕ) (read_one : Progress → Data → Result (Progress × Statement) PlanError) (n : ℕ)
    (p : Progress) (count : ℕ) (ds : Items) (b : Progress × Sequence)
    → ((nat_le 1 count && nat_le count 65535) && not (item_count ds == 0)) ≡ true
    → sequence_from read_one skip p ds ≡ Ok b
    → statement_by region read_one n p (loop_shape count ds) ≡ Ok (b.0, loop count b.1)
unfolding statement_by
loop_to region read_one n p count ds b range e = rw (range, e) refl

choice_to : (region : List ℕ → Option ℕ) (read_one : Progress → Data → Result (Progress × Statement) PlanError) (n : ℕ)
    (p : Progress) (ds : Items) (bs : Progress × Alternatives)
    → (nat_le 1 (item_count ds) && nat_le (item_count ds) 16) ≡ true → alternatives_from read_one none p ds ≡ Ok bs
    → statement_by region read_one n p (choice_shape ds) ≡ Ok (bs.0, choice bs.1)
unfolding statement_by
choice_to region read_one n p ds bs range e = rw (range, e) refl

some_again : (settings : Configuration) (slots : List (List ℕ)) (ds : Items) (b : Sequence)
    → SpellsSequence settings slots ds b → IsSome b → not (item_count ds == 0) ≡ true
some_again settings slots no_items skip h some = absurd some
some_again settings slots (item d ds) (andthen s b) h some = grind (arith, nat_tests)
some_again settings slots no_items (andthen s b) h some = absurd h
some_again settings slots (item d ds) skip h some = absurd h

range_again : (low high n : ℕ) → low ≤ n → n ≤ high → (nat_le low n && nat_le n high) ≡ true
range_again low high n a b = grind (arith, nat_tests)

lists_again : (settings : Configuration) (slots : List (List ℕ)) (ds : Items) (bs : Alternatives)
    → SpellsAlternatives settings slots ds bs → are_lists ds ≡ true
lists_again settings slots no_items none h = refl
lists_again settings slots (item d ds) (either b bs) h =
    and_from (is_some (as_array d)) (are_lists ds) (ap (λ (x : Data). is_some (as_array x)) h.0.1)
    (lists_again settings slots ds bs h.1)
lists_again settings slots no_items (either b bs) h = absurd h
lists_again settings slots (item d ds) none h = absurd h

begun_known : (slots : List (List ℕ)) (kind : ℕ → Bool) (p : Progress) → AreKnown slots kind p
    → AreKnown slots kind (next p)
begun_known slots kind p known = record { within = known.within; kinds = known.kinds }

-- a slot name of the text is read
slot_read : (slots : List (List ℕ)) (kind : ℕ → Bool) → Rises slots → AreNames slots → (bundle : Bool) (p : Progress)
    (name : List ℕ) (k : ℕ) → AreSlots p → AreKnown slots kind p → slice_get slots k ≡ Some name → kind k ≡ bundle
    → (u : Progress × ℕ) × (used p.count bundle (next p) name ≡ Ok u) × AgainSlot slots kind p name k u
slot_read slots kind up are bundle p name k read known there way =
    let has = at_has slots k name there in
    let (u, is) =
    used_again slots kind p.count bundle (next p) name k up are.few read.names.apart (begun_known slots kind p known)
    there way in
    let found = used_found p.count bundle (next p) name u (begun_slots p read) (are.form name has) is in (
      u,
      is,
      slot_is slots kind p name k u up known there
          (subst (λ (b : Bool). SlotUsed (next p) b name u) (sym way) found),
    )

-- the statement of a value, where it is read so
abbrev pub IsReadAgain : Configuration → (version : ℕ) → List (List ℕ) → (ℕ → Bool) → ℕ → Progress → Data → Statement
    → Type 0
IsReadAgain settings version slots kind levels p d s =
    (r : Progress × Statement) × (statement_at version (region_named settings) levels p d ≡ Ok r)
    × AgainStatement slots kind p s r

-- by its form
read_by : (settings : Configuration) (version : ℕ) (slots : List (List ℕ)) (kind : ℕ → Bool) (levels : ℕ)
    (p : Progress) (d : Data) (s : Statement) (shape : Shape) (r : Progress × Statement) → p.count < 4096
    → SpellsShape version d shape
    → statement_by (region_named settings) (statement_at version (region_named settings) levels) p.count (next p) shape
    ≡ Ok r → AgainStatement slots kind p s r → IsReadAgain settings version slots kind (suc levels) p d s
read_by settings version slots kind levels p d s shape r room h e a = (
  r,
  at_again version (region_named settings) levels p d shape r room (shape_again version p.count d shape h) e,
  a,
)

-- a bundle of the plan, which its version has, and a plain slot
abbrev pub IsBundleOf : (version : ℕ) → (ℕ → Bool) → ℕ → Type 0
IsBundleOf version kind k = (kind k ≡ true) × (version ≡ 2)

abbrev pub IsPlainOf : (ℕ → Bool) → ℕ → Type 0
IsPlainOf kind k = kind k ≡ false

-- a step that is spelled is read
step_spelled : (settings : Configuration) (version : ℕ) (slots : List (List ℕ)) (kind : ℕ → Bool) → Rises slots
    → AreNames slots → (s : Step) (levels : ℕ) (p : Progress) (d : Data) → AreSlots p → AreKnown slots kind p
    → p.count < 4096 → SpellsStep settings slots d s
    → Ways (IsBundleOf version kind) (IsPlainOf kind) (step_uses_bundle s) (step_uses_plain s)
    → IsReadAgain settings version slots kind (suc levels) p d (step s)
step_spelled settings version slots kind up are (fix k i) levels p d read known room
    (keys, (slot, at, there), (name, held, named)) w =
    let (u, is, a) = slot_read slots kind up are false p slot k read known there (w.plain k (itself k)) in
    let form = are.form slot (at_has slots k slot there) in
    let region = region_named settings in
    read_by settings version slots kind levels p d (step (fix k i)) (fix_shape slot name) (u.0, step (fix u.1 i)) room
    (keys, at, held)
    (fix_to region (statement_at version region levels) p.count (next p) slot name (u.0, (u.1, i))
    (fix_again region p.count false (next p) slot name i u form named is))
    (step_again slots kind p slot k u (fix u.1 i) a (λ f e. ap (λ (j : ℕ). fix j i) e))
step_spelled settings version slots kind up are (unfix k) levels p d read known room (keys, (slot, at, there)) w =
    let (u, is, a) = slot_read slots kind up are false p slot k read known there (w.plain k (itself k)) in
    let form = are.form slot (at_has slots k slot there) in
    let region = region_named settings in
    read_by settings version slots kind levels p d (step (unfix k)) (unfix_shape slot) (u.0, step (unfix u.1)) room
    (keys, at)
    (unfix_to region (statement_at version region levels) p.count (next p) slot u
    (slot_again p.count false (next p) slot u form is))
    (step_again slots kind p slot k u (unfix u.1) a (λ f e. ap unfix e))
step_spelled settings version slots kind up are (latch k m) levels p d read known room (keys, (slot, at, there), held)
    w =
    let (u, is, a) = slot_read slots kind up are false p slot k read known there (w.plain k (itself k)) in
    let form = are.form slot (at_has slots k slot there) in
    let region = region_named settings in
    read_by settings version slots kind levels p d (step (latch k m)) (latch_shape slot m) (u.0, step (latch u.1 m))
    room (keys, at, held)
    (latch_to region (statement_at version region levels) p.count (next p) slot u m
    (slot_again p.count false (next p) slot u form is))
    (step_again slots kind p slot k u (latch u.1 m) a (λ f e. ap (λ (j : ℕ). latch j m) e))
step_spelled settings version slots kind up are (unlatch k) levels p d read known room (keys, (slot, at, there)) w =
    let (u, is, a) = slot_read slots kind up are false p slot k read known there (w.plain k (itself k)) in
    let form = are.form slot (at_has slots k slot there) in
    let region = region_named settings in
    read_by settings version slots kind levels p d (step (unlatch k)) (unlatch_shape slot) (u.0, step (unlatch u.1))
    room (keys, at)
    (unlatch_to region (statement_at version region levels) p.count (next p) slot u
    (slot_again p.count false (next p) slot u form is))
    (step_again slots kind p slot k u (unlatch u.1) a (λ f e. ap unlatch e))
step_spelled settings version slots kind up are (gather k i) levels p d read known room
    (keys, (slot, at, there), (name, held, named)) w =
    let (way, two) = w.bundle k (itself k) in
    let (u, is, a) = slot_read slots kind up are true p slot k read known there way in
    let form = are.form slot (at_has slots k slot there) in
    let region = region_named settings in
    read_by settings version slots kind levels p d (step (gather k i)) (gather_shape slot name)
    (u.0, step (gather u.1 i)) room (keys, at, held, two)
    (gather_to region (statement_at version region levels) p.count (next p) slot name (u.0, (u.1, i))
    (fix_again region p.count true (next p) slot name i u form named is))
    (step_again slots kind p slot k u (gather u.1 i) a (λ f e. ap (λ (j : ℕ). gather j i) e))
step_spelled settings version slots kind up are (scatter k) levels p d read known room (keys, (slot, at, there)) w =
    let (way, two) = w.bundle k (itself k) in
    let (u, is, a) = slot_read slots kind up are true p slot k read known there way in
    let form = are.form slot (at_has slots k slot there) in
    let region = region_named settings in
    read_by settings version slots kind levels p d (step (scatter k)) (scatter_shape slot) (u.0, step (scatter u.1))
    room (keys, at, two)
    (scatter_to region (statement_at version region levels) p.count (next p) slot u
    (slot_again p.count true (next p) slot u form is))
    (step_again slots kind p slot k u (scatter u.1) a (λ f e. ap scatter e))

-- a loop of a body that is read, and a choice of such branches
loop_again : (settings : Configuration) (version : ℕ) (slots : List (List ℕ)) (kind : ℕ → Bool) (levels n : ℕ)
    (b : Sequence) (p : Progress) (d : Data)
    (ds : Items) (r : Progress × Sequence) → p.count < 4096 → 1 ≤ n → n ≤ 65535 → not (item_count ds == 0) ≡ true
    → SpellsShape version d (loop_shape n ds)
    → sequence_from (statement_at version (region_named settings) levels) skip (next p) ds ≡ Ok r
    → AgainSequence slots kind skip (next p) b r → IsReadAgain settings version slots kind (suc levels) p d (loop n b)
loop_again settings version slots kind levels n b p d ds r room low high some h is a =
    let region = region_named settings in
    let range =
    and_from (nat_le 1 n && nat_le n 65535) (not (item_count ds == 0)) (range_again 1 65535 n low high) some in
    read_by settings version slots kind levels p d (loop n b) (loop_shape n ds) (r.0, loop n r.1) room h
    (loop_to region (statement_at version region levels) p.count (next p) n ds r range is) (record {
      grows = a.grows;
      read = a.read;
      known = a.known;
      count = omega (arith, a.count);
      same = λ names ext. ap (loop n) (a.same names ext);
    })

choice_again : (settings : Configuration) (version : ℕ) (slots : List (List ℕ)) (kind : ℕ → Bool) (levels : ℕ)
    (bs : Alternatives) (p : Progress)
    (d : Data) (ds : Items) (r : Progress × Alternatives) → p.count < 4096 → 1 ≤ item_count ds → item_count ds ≤ 16
    → SpellsShape version d (choice_shape ds)
    → alternatives_from (statement_at version (region_named settings) levels) none (next p) ds ≡ Ok r
    → AgainBranches slots kind none (next p) bs r → IsReadAgain settings version slots kind (suc levels) p d (choice bs)
choice_again settings version slots kind levels bs p d ds r room low high h is a =
    let region = region_named settings in
    read_by settings version slots kind levels p d (choice bs) (choice_shape ds) (r.0, choice r.1) room h
    (choice_to region (statement_at version region levels) p.count (next p) ds r (range_again 1 16 (item_count ds) low high)
    is) (record {
      grows = a.grows;
      read = a.read;
      known = a.known;
      count = omega (arith, a.count);
      same = λ names ext. ap choice (a.same names ext);
    })

-- one statement more, and one branch more
follow_again : (slots : List (List ℕ)) (kind : ℕ → Bool) (earlier : Sequence) (p : Progress) (s : Statement) (b : Sequence)
    (r : Progress × Statement) (all : Progress × Sequence) → AgainStatement slots kind p s r
    → AgainSequence slots kind (followed_by earlier r.1) r.0 b all → AgainSequence slots kind earlier p (andthen s b) all
follow_again slots kind earlier p s b r all a c = record {
  grows = λ j n e. c.grows j n (a.grows j n e);
  read = c.read;
  known = c.known;
  count = omega (arith, a.count, c.count);
  same = λ names ext.
      let new : ℕ → ℕ = λ k. place_in slots names k in
      c.same names ext ∙ ap (λ (x : Sequence). joined x b)
      (numbered_follow new earlier r.1
      ∙ ap (λ (x : Statement). followed_by (numbered new earlier) x)
      (a.same names (λ j n e. ext j n (c.grows j n e)))) ∙ joined_follow (numbered new earlier) s b;
}

branch_again : (slots : List (List ℕ)) (kind : ℕ → Bool) (earlier : Alternatives) (p : Progress) (b : Sequence)
    (bs : Alternatives)
    (r : Progress × Sequence) (all : Progress × Alternatives) → AgainSequence slots kind skip p b r
    → AgainBranches slots kind (with_branch earlier r.1) r.0 bs all → AgainBranches slots kind earlier p (either b bs) all
branch_again slots kind earlier p b bs r all a c = record {
  grows = λ j n e. c.grows j n (a.grows j n e);
  read = c.read;
  known = c.known;
  count = omega (arith, a.count, c.count);
  same = λ names ext.
      let new : ℕ → ℕ = λ k. place_in slots names k in
      c.same names ext ∙ ap (λ (x : Alternatives). gathered x bs)
      (numbered_with new earlier r.1 ∙ ap (λ (x : Sequence). with_branch (numbered_branches new earlier) x)
      (a.same names (λ j n e. ext j n (c.grows j n e)))) ∙ gathered_with (numbered_branches new earlier) b bs;
}

-- ---- statements one after another

sequence_step : (read_one : Progress → Data → Result (Progress × Statement) PlanError) (earlier : Sequence)
    (p : Progress) (d : Data) (ds : Items) (r : Progress × Statement) (all : Progress × Sequence) → read_one p d ≡ Ok r
    → sequence_from read_one (followed_by earlier r.1) r.0 ds ≡ Ok all
    → sequence_from read_one earlier p (item d ds) ≡ Ok all
sequence_step read_one earlier p d ds r all is more =
    ap (λ (x : Result (Progress × Statement) PlanError). x >>= λ y. sequence_from read_one (followed_by earlier y.1) y.0
    ds) is ∙ more

branches_step : (read_one : Progress → Data → Result (Progress × Statement) PlanError) (earlier : Alternatives)
    (p : Progress) (d : Data) (es ds : Items) (r : Progress × Sequence) (all : Progress × Alternatives) → d ≡ array es
    → sequence_from read_one skip p es ≡ Ok r → alternatives_from read_one (with_branch earlier r.1) r.0 ds ≡ Ok all
    → alternatives_from read_one earlier p (item d ds) ≡ Ok all
branches_step read_one earlier p d es ds r all listed is more =
    let here : sequence_from read_one skip p (items_in d) ≡ Ok r =
    ap (λ (x : Data). sequence_from read_one skip p (items_in x)) listed ∙ is in
    ap (λ (x : Result (Progress × Sequence) PlanError). x >>= λ y. alternatives_from read_one (with_branch earlier y.1)
    y.0 ds) here ∙ more

module _ (settings : Configuration) (version : ℕ) (slots : List (List ℕ)) (kind : ℕ → Bool) (up : Rises slots)
    (are : AreNames slots) where
  mutual
    statement_again : (s : Statement) (levels : ℕ) (p : Progress) (d : Data) → AreSlots p → AreKnown slots kind p
        → p.count + statement_count s ≤ 4096
        → IsStatement (length slots) (length settings.regions) s → statement_depth s ≤ levels
        → SpellsStatement settings slots d s
        → Ways (IsBundleOf version kind) (IsPlainOf kind) (statement_uses_bundle s) (statement_uses_plain s)
        → IsReadAgain settings version slots kind levels p d s
    statement_again (step s) zero p d read known most parts deep h w = absurd (omega (arith, deep))
    statement_again (step s) (suc levels) p d read known most parts deep h w =
        step_spelled settings version slots kind up are s levels p d read known (omega (arith, most)) h w
    statement_again (loop n b) zero p d read known most parts deep h w =
        absurd (omega (arith, deep))
    statement_again (loop n b) (suc levels) p d read known most (low, high, some, parts) deep
        (keys, count, (ds, body, h)) w =
        let (r, is, a) =
        sequence_again b levels ds skip (next p) (begun_slots p read) (begun_known slots kind p known)
        (omega (arith, most)) parts (omega (arith, deep)) h w in
        loop_again settings version slots kind levels n b p d ds r (omega (arith, most)) low high
        (some_again settings slots ds b h some) (keys, count, body) is a
    statement_again (choice bs) zero p d read known most parts deep h w =
        absurd (omega (arith, deep))
    statement_again (choice bs) (suc levels) p d read known most (low, high, parts) deep
        (keys, (ds, body, h)) w =
        let (r, is, a) =
        branches_again bs levels ds none (next p) (begun_slots p read) (begun_known slots kind p known)
        (omega (arith, most)) parts (omega (arith, deep)) h w in
        let counted = branches_counted settings slots ds bs h in
        choice_again settings version slots kind levels bs p d ds r (omega (arith, most)) (omega (arith, low, counted))
        (omega (arith, high, counted)) (keys, body, lists_again settings slots ds bs h) is a

    pub sequence_again : (b : Sequence) (levels : ℕ) (ds : Items) (earlier : Sequence) (p : Progress) → AreSlots p
        → AreKnown slots kind p → p.count + sequence_count b ≤ 4096
        → IsSequence (length slots) (length settings.regions) b → sequence_depth b ≤ levels
        → SpellsSequence settings slots ds b
        → Ways (IsBundleOf version kind) (IsPlainOf kind) (uses_bundle b) (uses_plain b)
        → (r : Progress × Sequence) × (sequence_from (statement_at version (region_named settings) levels) earlier p ds
        ≡ Ok r) × AgainSequence slots kind earlier p b r
    sequence_again skip levels no_items earlier p read known most parts deep h w = (
      (p, earlier),
      refl,
      record {
        grows = λ j n e. e;
        read = read;
        known = known;
        count = omega arith;
        same = λ names ext. sym (joined_skip (numbered (λ k. place_in slots names k) earlier));
      },
    )
    sequence_again (andthen s b) levels (item d ds) earlier p read known most parts deep h w =
        let (r, is, a) =
        statement_again s levels p d read known (omega (arith, most)) parts.0
        (omega (arith, deep)) h.0
        (ways_first (IsBundleOf version kind) (IsPlainOf kind) (statement_uses_bundle s) (uses_bundle b)
        (statement_uses_plain s) (uses_plain b) w) in
        let (all, more, c) =
        sequence_again b levels ds (followed_by earlier r.1) r.0 a.read a.known
        (omega (arith, most, a.count)) parts.1 (omega (arith, deep)) h.1
        (ways_rest (IsBundleOf version kind) (IsPlainOf kind) (statement_uses_bundle s) (uses_bundle b)
        (statement_uses_plain s) (uses_plain b) w) in (
          all,
          sequence_step (statement_at version (region_named settings) levels) earlier p d ds r all is more,
          follow_again slots kind earlier p s b r all a c,
        )
    sequence_again skip levels (item d ds) earlier p read known most parts deep h w = absurd h
    sequence_again (andthen s b) levels no_items earlier p read known most parts deep h w = absurd h

    branches_again : (bs : Alternatives) (levels : ℕ) (ds : Items) (earlier : Alternatives) (p : Progress) → AreSlots p
        → AreKnown slots kind p → p.count + alternatives_count bs ≤ 4096
        → AreAlternatives (length slots) (length settings.regions) bs → alternatives_depth bs ≤ levels
        → SpellsAlternatives settings slots ds bs
        → Ways (IsBundleOf version kind) (IsPlainOf kind) (branches_use_bundle bs) (branches_use_plain bs)
        → (r : Progress × Alternatives)
        × (alternatives_from (statement_at version (region_named settings) levels) earlier p ds ≡ Ok r)
        × AgainBranches slots kind earlier p bs r
    branches_again none levels no_items earlier p read known most parts deep h w = (
      (p, earlier),
      refl,
      record {
        grows = λ j n e. e;
        read = read;
        known = known;
        count = omega arith;
        same = λ names ext. sym (gathered_none (numbered_branches (λ k. place_in slots names k) earlier));
      },
    )
    branches_again (either b bs) levels (item d ds) earlier p read known most parts deep
        ((es, listed, first), rest) w =
        let (r, is, a) =
        sequence_again b levels es skip p read known (omega (arith, most)) parts.0
        (omega (arith, deep)) first
        (ways_first (IsBundleOf version kind) (IsPlainOf kind) (uses_bundle b) (branches_use_bundle bs) (uses_plain b)
        (branches_use_plain bs) w) in
        let (all, more, c) =
        branches_again bs levels ds (with_branch earlier r.1) r.0 a.read a.known
        (omega (arith, most, a.count)) parts.1 (omega (arith, deep)) rest
        (ways_rest (IsBundleOf version kind) (IsPlainOf kind) (uses_bundle b) (branches_use_bundle bs) (uses_plain b)
        (branches_use_plain bs) w) in (
          all,
          branches_step (statement_at version (region_named settings) levels) earlier p d es ds r all listed is more,
          branch_again slots kind earlier p b bs r all a c,
        )
    branches_again none levels (item d ds) earlier p read known most parts deep h w = absurd h
    branches_again (either b bs) levels no_items earlier p read known most parts deep h w = absurd h
