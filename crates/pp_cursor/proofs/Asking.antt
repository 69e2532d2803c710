-- What a plan asks, as it is computed, is what its traces say.
use Rattle.std.proofs.Common.{◌≡◌, ℕ, zero, suc, ◌<◌, ◌≤◌, Bool, true, false, cond, Option, Some, None, List, [], ◌∷◌}
use Rattle.std.proofs.Common.{◌++◌, length, refl, sym, ap, subst, arith}
use Rattle.std.proofs.lemmas.Bool.{lt-ltb}
use Rattle.std.proofs.lemmas.Bool.Decides.{nat_tests}
use Rattle.std.proofs.lemmas.List.{append-nil}
use Rattle.std.specs.Prelude.{◌↔◌, option_map, slice_get, nat_lt}
use Rattle.pp_settings.specs.declared.extent.Extent.{Extent}
use Rattle.pp_settings.specs.Layout.{Geometry, HasPage, IsLayout}
use Rattle.pp_plan.specs.Tree.{Step, fix, unfix, latch, unlatch, gather, scatter, step, loop, choice}
use Rattle.pp_plan.specs.Tree.{Sequence, skip, andthen}
use Rattle.pp_plan.specs.Tree.{Alternatives, none, either, branch_count}
use Rattle.pp_plan.specs.Rules.{IsSome, IsStep, IsSequence, AreAlternatives}
use Rattle.pp_plan.specs.declared.mode.Mode.{Mode}
use Rattle.pp_plan.specs.declared.mode.Mode.TheVariants as mode
use Rattle.pp_plan.specs.declared.action.Action.{Action}
use Rattle.pp_plan.specs.declared.action.Action.TheVariants.{Fix, Unfix, Latch, Unlatch, Gather, Scatter, Choose}
use Rattle.pp_plan.specs.declared.action.Ask.TheVariants as ask
use Rattle.pp_plan.specs.Terms.{Terms, IsPlan}
use Rattle.pp_plan.specs.Traces.{Does, Repeats, IsTrace, Begins}
use Rattle.pp_plan.specs.PlanTraces.{IsTraceOf, PlanAsks}
use Rattle.pp_cursor.specs.Left.{◌then◌, branch_at}
use Rattle.pp_cursor.specs.Cursor.{NamesAction, IsAskOf}
use Rattle.pp_cursor.specs.CursorMoves.{Same}
use Rattle.pp_cursor.proofs.Sequences.{split, join, loop_over, loop_turn, step_does, does_step, choice_does, does_choice}
use Rattle.pp_cursor.proofs.Sequences.{step_acts, choice_acts}
use Rattle.pp_cursor.proofs.Passing.{Follows, named_does, does_named}
use Rattle.pp_cursor.proofs.Lasting.{Lasts, body_lasts}
use Rattle.pp_cursor.specs.Asked.{extent_has, region_has, same_mode, does, left_after_one, left_after}
use Rattle.pp_plan.specs.FlatList.{statement_ask}
use Rattle.pp_cursor.specs.Asked.{first_asked, asked_of, asked}

-- ---- steps

pub region_found : (g : Geometry) (r page : ℕ) → region_has g r page ≡ true → HasPage g r page
region_found g r page h = go (slice_get g.extents r) refl h
  where
    go : (o : Option Extent) → slice_get g.extents r ≡ o → extent_has o page ≡ true → HasPage g r page
    go None e h = cc
    go (Some x) e h = (x, e, h)

region_is : (g : Geometry) (r page : ℕ) → HasPage g r page → region_has g r page ≡ true
region_is g r page h = subst (λ o. extent_has o page ≡ true) (sym h.1) h.2

mode_found : (m n : Mode) → same_mode m n ≡ true → m ≡ n
mode_found mode.S mode.S h = refl
mode_found mode.X mode.X h = refl
mode_found mode.S mode.X h = cc
mode_found mode.X mode.S h = cc

mode_is : (m : Mode) → same_mode m m ≡ true
mode_is mode.S = refl
mode_is mode.X = refl

does_found : (g : Geometry) (s : Step) (a : Action) → does g s a ≡ true → Does g s a
does_found g (fix s r) (Fix t page) h = let found = region_found g r page in
    (grind (arith, nat_tests), found (grind (arith, nat_tests)))
does_found g (unfix s) (Unfix t) h = grind (arith, nat_tests)
does_found g (latch s m) (Latch t n) h = let found = mode_found m n in
    (grind (arith, nat_tests), found (grind (arith, nat_tests)))
does_found g (unlatch s) (Unlatch t) h = grind (arith, nat_tests)
does_found g (gather s r) (Gather t page) h = let found = region_found g r page in
    (grind (arith, nat_tests), found (grind (arith, nat_tests)))
does_found g (scatter s) (Scatter t) h = grind (arith, nat_tests)
does_found g _ _ h = cc

does_is : (g : Geometry) (s : Step) (a : Action) → Does g s a → does g s a ≡ true
does_is g (fix s r) (Fix t page) h = let has = region_is g r page h.1 in let same = h.0 in grind (arith, nat_tests)
does_is g (unfix s) (Unfix t) h = grind (arith, nat_tests)
does_is g (latch s m) (Latch t n) h = let has : same_mode m n ≡ true =
    subst (λ x. same_mode m x ≡ true) h.1 (mode_is m) in let same = h.0 in grind (arith, nat_tests)
does_is g (unlatch s) (Unlatch t) h = grind (arith, nat_tests)
does_is g (gather s r) (Gather t page) h = let has = region_is g r page h.1 in let same = h.0 in grind (arith, nat_tests)
does_is g (scatter s) (Scatter t) h = grind (arith, nat_tests)
does_is g _ _ h = absurd h

-- ---- bodies that a plan can have left: as the rules say, but for loops with no turn left

abbrev CanRun : (slots regions : ℕ) → Sequence → Type 0
CanRun slots regions skip = Unit {0}
CanRun slots regions (andthen (step s) k) = IsStep slots regions s × CanRun slots regions k
CanRun slots regions (andthen (loop n b) k) = IsSome b × IsSequence slots regions b × CanRun slots regions k
CanRun slots regions (andthen (choice bs) k) =
    (1 ≤ branch_count bs) × (branch_count bs ≤ 16) × AreAlternatives slots regions bs × CanRun slots regions k

can_run : (slots regions : ℕ) (b : Sequence) → IsSequence slots regions b → CanRun slots regions b
can_run slots regions skip h = tt
can_run slots regions (andthen (step s) k) h = (h.0, can_run slots regions k h.1)
can_run slots regions (andthen (loop n b) k) h = (h.0.2, h.0.3, can_run slots regions k h.1)
can_run slots regions (andthen (choice bs) k) h = (h.0.0, h.0.1, h.0.2, can_run slots regions k h.1)

then_runs : (slots regions : ℕ) (b c : Sequence) → CanRun slots regions b → CanRun slots regions c
    → CanRun slots regions (b then c)
then_runs slots regions skip c h i = i
then_runs slots regions (andthen (step s) k) c h i = (h.0, then_runs slots regions k c h.1 i)
then_runs slots regions (andthen (loop n b) k) c h i = (h.0, h.1, then_runs slots regions k c h.2 i)
then_runs slots regions (andthen (choice bs) k) c h i = (h.0, h.1, h.2, then_runs slots regions k c h.3 i)

branch_keeps : (slots regions : ℕ) (bs : Alternatives) (i : ℕ) → AreAlternatives slots regions bs
    → IsSequence slots regions (branch_at bs i)
branch_keeps slots regions none i h = tt
branch_keeps slots regions (either b bs) zero h = h.0
branch_keeps slots regions (either b bs) (suc i) h = branch_keeps slots regions bs i h.1

repeats_last : (P : List Action → Type 0) (n : ℕ) → (t : List Action) × P t → (t : List Action) × Repeats n P t
repeats_last P zero h = ([], refl)
repeats_last P (suc n) h = let r = repeats_last P n h in (h.0 ++ r.0, (h.0, r.0, refl, h.1, r.1))

-- Such a body has a trace.
runs_last : (g : Geometry) (slots : ℕ) (b : Sequence) → IsLayout g → CanRun slots (length g.extents) b → Lasts g b
runs_last g slots skip l h = ([], refl)
runs_last g slots (andthen (step s) k) l h =
    let u = body_lasts g slots (andthen (step s) skip) l (h.0, tt) in
    let v = runs_last g slots k l h.1 in
    (u.0 ++ v.0, join g (andthen (step s) skip) k (u.0 ++ v.0) (u.0, v.0, refl, u.1, v.1))
runs_last g slots (andthen (loop n b) k) l h =
    let u = repeats_last (IsTrace g b) n (body_lasts g slots b l h.1) in
    let v = runs_last g slots k l h.2 in
    (u.0 ++ v.0, (u.0, v.0, refl, u.1, v.1))
runs_last g slots (andthen (choice bs) k) l h =
    let u = body_lasts g slots (branch_at bs 0) l (branch_keeps slots (length g.extents) bs 0 h.2) in
    let v = runs_last g slots k l h.3 in (
      Choose 0 ∷ (u.0 ++ v.0),
      does_choice g bs k 0 (u.0 ++ v.0) (omega (arith, h.0))
          (join g (branch_at bs 0) k (u.0 ++ v.0) (u.0, v.0, refl, u.1, v.1)),
    )

-- ---- a body with a statement isn't done at once

no_front : (u v : List Action) → [] ≡ u ++ v → u ≡ []
no_front [] v e = refl
no_front (x ∷ u) v e = cc

full : (g : Geometry) (slots regions : ℕ) (b : Sequence) → IsSome b → IsSequence slots regions b → IsTrace g b [] → ⊥
full g slots regions skip some h i = absurd some
full g slots regions (andthen (step s) k) some h i = step_acts g s k i
full g slots regions (andthen (choice bs) k) some h i = choice_acts g bs k i
full g slots regions (andthen (loop zero c) k) some h i = absurd (omega (arith, h.0.0))
full g slots regions (andthen (loop (suc n) c) k) some h i =
    let s = split g c (andthen (loop n c) k) [] ((loop_turn g n c k).to [] i) in
    full g slots regions c h.0.2 h.0.3 (subst (IsTrace g c) (no_front s.0 s.1 s.2) s.3)

-- A trace's first action is one of the first body, where that isn't done at once.
first_in : (g : Geometry) (c d : Sequence) (a : Action) (rest : List Action) → (IsTrace g c [] → ⊥)
    → IsTrace g (c then d) (a ∷ rest)
    → (u : List Action) × (v : List Action) × (rest ≡ u ++ v) × IsTrace g c (a ∷ u) × IsTrace g d v
first_in g c d a rest full h = let s = split g c d (a ∷ rest) h in go s.0 s.1 s.2 s.3 s.4
  where
    go : (u v : List Action) → a ∷ rest ≡ u ++ v → IsTrace g c u → IsTrace g d v
        → (u : List Action) × (v : List Action) × (rest ≡ u ++ v) × IsTrace g c (a ∷ u) × IsTrace g d v
    go [] v e i j = absurd (full i)
    go (x ∷ u) v e i j = let same : x ≡ a = cc in let tail : rest ≡ u ++ v = cc in
        (u, v, tail, subst (λ y. IsTrace g c (y ∷ u)) same i, j)

-- ---- after one action

-- What is left after the action is this body; or the body doesn't begin with the action.
abbrev Leads : Geometry → (slots regions : ℕ) → Sequence → Action → Option Sequence → Type 0
Leads g slots regions b a None = (rest : List Action) → IsTrace g b (a ∷ rest) → ⊥
Leads g slots regions b a (Some c) = Follows g b a c × CanRun slots regions c

same_leads : (g : Geometry) (slots regions : ℕ) (b c : Sequence) (a : Action) (o : Option Sequence) → Same g b c
    → Leads g slots regions c a o → Leads g slots regions b a o
same_leads g slots regions b c a None same l = λ rest i. l rest (same.to (a ∷ rest) i)
same_leads g slots regions b c a (Some d) same l = (
  record {
    to = λ rest i. l.0.to rest (same.to (a ∷ rest) i);
    from =
        λ rest i. same.from (a ∷ rest) (l.0.from rest i);
  },
  l.1,
)

step_leads : (g : Geometry) (slots regions : ℕ) (s : Step) (k : Sequence) (a : Action) (b : Bool) → does g s a ≡ b
    → CanRun slots regions k → Leads g slots regions (andthen (step s) k) a (cond b (Some k) None)
step_leads g slots regions s k a true e h = (
  record {
    to = λ rest i. (step_does g s k a rest i).1;
    from =
        λ rest i. does_step g s k a rest (does_found g s a e) i;
  },
  h,
)
step_leads g slots regions s k a false e h = λ rest i. let is = does_is g s a (step_does g s k a rest i).0 in cc

loop_leads : (g : Geometry) (slots regions n : ℕ) (c k : Sequence) (a : Action) (o : Option Sequence) → IsSome c
    → IsSequence slots regions c → CanRun slots regions k → Leads g slots regions c a o
    → Leads g slots regions (andthen (loop (suc n) c) k) a (option_map (λ d. d then andthen (loop n c) k) o)
loop_leads g slots regions n c k a None some h i l =
    λ rest j. let f =
    first_in g c (andthen (loop n c) k) a rest (full g slots regions c some h) ((loop_turn g n c k).to (a ∷ rest) j)
    in l f.0 f.3
loop_leads g slots regions n c k a (Some d) some h i l = (
  record {
    to = λ rest j.
        let f =
        first_in g c (andthen (loop n c) k) a rest (full g slots regions c some h)
        ((loop_turn g n c k).to (a ∷ rest) j) in
        join g d (andthen (loop n c) k) rest (f.0, f.1, f.2, l.0.to f.0 f.3, f.4);
    from = λ rest j.
        let s = split g d (andthen (loop n c) k) rest j in
        (loop_turn g n c k).from (a ∷ rest)
        (join g c (andthen (loop n c) k) (a ∷ rest) (a ∷ s.0, s.1, ap (λ u. a ∷ u) s.2, l.0.from s.0 s.3, s.4));
  },
  then_runs slots regions d (andthen (loop n c) k) l.1 (some, h, i),
)

choice_leads : (g : Geometry) (slots regions : ℕ) (bs : Alternatives) (k : Sequence) (i : ℕ) (b : Bool)
    → nat_lt i (branch_count bs) ≡ b → AreAlternatives slots regions bs → CanRun slots regions k
    → Leads g slots regions (andthen (choice bs) k) (Choose i) (cond b (Some (branch_at bs i then k)) None)
choice_leads g slots regions bs k i true e h j = (
  record {
    to = λ rest t. let d = choice_does g bs k (Choose i) rest t in let same : d.0 ≡ i = cc (d.1) in
        subst (λ n. IsTrace g (branch_at bs n then k) rest) same d.3;
    from = λ rest t. does_choice g bs k i rest (grind (arith, nat_tests)) t;
  },
  then_runs slots regions (branch_at bs i) k
      (can_run slots regions (branch_at bs i) (branch_keeps slots regions bs i h)) j,
)
choice_leads g slots regions bs k i false e h j =
    λ rest t. let d = choice_does g bs k (Choose i) rest t in let same : d.0 ≡ i = cc (d.1) in let lt = d.2 in
    grind (arith, nat_tests)

not_chosen : (g : Geometry) (bs : Alternatives) (k : Sequence) (a : Action) (rest : List Action)
    → ((i : ℕ) → a ≡ Choose i → ⊥) → IsTrace g (andthen (choice bs) k) (a ∷ rest) → ⊥
not_chosen g bs k a rest other t = let d = choice_does g bs k a rest t in other d.0 d.1

leads : (g : Geometry) (slots regions : ℕ) (b : Sequence) (a : Action) → CanRun slots regions b
    → Leads g slots regions b a (left_after_one g b a)
leads g slots regions skip a h = λ rest i. cc
leads g slots regions (andthen (step s) k) a h = step_leads g slots regions s k a (does g s a) refl h.1
leads g slots regions (andthen (loop zero b) k) a h =
    same_leads g slots regions (andthen (loop zero b) k) k a (left_after_one g k a) (loop_over g b k)
    (leads g slots regions k a h.2)
leads g slots regions (andthen (loop (suc n) b) k) a h =
    loop_leads g slots regions n b k a (left_after_one g b a) h.0 h.1 h.2
    (leads g slots regions b a (can_run slots regions b h.1))
leads g slots regions (andthen (choice bs) k) (Choose i) h =
    choice_leads g slots regions bs k i (nat_lt i (branch_count bs)) refl h.2 h.3
leads g slots regions (andthen (choice bs) k) (Fix s page) h =
    λ rest t. not_chosen g bs k (Fix s page) rest (λ i e. cc) t
leads g slots regions (andthen (choice bs) k) (Unfix s) h = λ rest t. not_chosen g bs k (Unfix s) rest (λ i e. cc) t
leads g slots regions (andthen (choice bs) k) (Latch s m) h = λ rest t. not_chosen g bs k (Latch s m) rest (λ i e. cc) t
leads g slots regions (andthen (choice bs) k) (Unlatch s) h = λ rest t. not_chosen g bs k (Unlatch s) rest (λ i e. cc) t
leads g slots regions (andthen (choice bs) k) (Gather s page) h =
    λ rest t. not_chosen g bs k (Gather s page) rest (λ i e. cc) t
leads g slots regions (andthen (choice bs) k) (Scatter s) h = λ rest t. not_chosen g bs k (Scatter s) rest (λ i e. cc) t

-- ---- what is asked first

-- Something is left after an action that is asked.
goes : (g : Geometry) (slots regions : ℕ) (b : Sequence) (a : Action) → CanRun slots regions b
    → NamesAction g (first_asked b) a → (c : Sequence) × (left_after_one g b a ≡ Some c)
goes g slots regions skip a h n = absurd n
goes g slots regions (andthen (step s) k) a h n =
    (k, ap (λ x. cond x (Some k) None) (does_is g s a (named_does g s a n)))
goes g slots regions (andthen (loop zero b) k) a h n = goes g slots regions k a h.2 n
goes g slots regions (andthen (loop (suc m) b) k) a h n =
    let r = goes g slots regions b a (can_run slots regions b h.1) n in
    (r.0 then andthen (loop m b) k, ap (option_map (λ d. d then andthen (loop m b) k)) r.1)
goes g slots regions (andthen (choice bs) k) (Choose i) h n =
    (branch_at bs i then k, ap (λ x. cond x (Some (branch_at bs i then k)) None) (lt-ltb i (branch_count bs) n))
goes g slots regions (andthen (choice bs) k) (Fix s page) h n = absurd n
goes g slots regions (andthen (choice bs) k) (Unfix s) h n = absurd n
goes g slots regions (andthen (choice bs) k) (Latch s m) h n = absurd n
goes g slots regions (andthen (choice bs) k) (Unlatch s) h n = absurd n
goes g slots regions (andthen (choice bs) k) (Gather s page) h n = absurd n
goes g slots regions (andthen (choice bs) k) (Scatter s) h n = absurd n

some_of : (f : Sequence → Sequence) (o : Option Sequence) (c : Sequence) → option_map f o ≡ Some c
    → (d : Sequence) × (o ≡ Some d)
some_of f None c e = cc
some_of f (Some d) c e = (d, refl)

step_asked : (g : Geometry) (s : Step) (k c : Sequence) (a : Action) (b : Bool) → does g s a ≡ b
    → ◌≡◌ {A = Option Sequence} (cond b (Some k) None) (Some c) → NamesAction g (statement_ask (step s)) a
step_asked g s k c a true e f = does_named g s a (does_found g s a e)
step_asked g s k c a false e f = cc

chosen : (i n : ℕ) (d c : Sequence) (b : Bool) → nat_lt i n ≡ b
    → ◌≡◌ {A = Option Sequence} (cond b (Some d) None) (Some c) → i < n
chosen i n d c true e f = grind (arith, nat_tests)
chosen i n d c false e f = cc

-- And an action after which something is left is asked.
is_asked : (g : Geometry) (slots regions : ℕ) (b c : Sequence) (a : Action) → CanRun slots regions b
    → left_after_one g b a ≡ Some c → NamesAction g (first_asked b) a
is_asked g slots regions skip c a h e = cc
is_asked g slots regions (andthen (step s) k) c a h e = step_asked g s k c a (does g s a) refl e
is_asked g slots regions (andthen (loop zero b) k) c a h e = is_asked g slots regions k c a h.2 e
is_asked g slots regions (andthen (loop (suc m) b) k) c a h e =
    let r = some_of (λ d. d then andthen (loop m b) k) (left_after_one g b a) c e in
    is_asked g slots regions b r.0 a (can_run slots regions b h.1) r.1
is_asked g slots regions (andthen (choice bs) k) c (Choose i) h e =
    chosen i (branch_count bs) (branch_at bs i then k) c (nat_lt i (branch_count bs)) refl e
is_asked g slots regions (andthen (choice bs) k) c (Fix s page) h e = cc
is_asked g slots regions (andthen (choice bs) k) c (Unfix s) h e = cc
is_asked g slots regions (andthen (choice bs) k) c (Latch s m) h e = cc
is_asked g slots regions (andthen (choice bs) k) c (Unlatch s) h e = cc
is_asked g slots regions (andthen (choice bs) k) c (Gather s page) h e = cc
is_asked g slots regions (andthen (choice bs) k) c (Scatter s) h e = cc

-- The end is asked exactly where nothing is left.
ends : (g : Geometry) (slots regions : ℕ) (b : Sequence) → CanRun slots regions b → first_asked b ≡ ask.End
    → IsTrace g b []
ends g slots regions skip h e = refl
ends g slots regions (andthen (step (fix s r)) k) h e = cc
ends g slots regions (andthen (step (unfix s)) k) h e = cc
ends g slots regions (andthen (step (latch s m)) k) h e = cc
ends g slots regions (andthen (step (unlatch s)) k) h e = cc
ends g slots regions (andthen (step (gather s r)) k) h e = cc
ends g slots regions (andthen (step (scatter s)) k) h e = cc
ends g slots regions (andthen (loop zero b) k) h e = (loop_over g b k).from [] (ends g slots regions k h.2 e)
ends g slots regions (andthen (loop (suc n) b) k) h e =
    absurd (full g slots regions b h.0 h.1 (ends g slots regions b (can_run slots regions b h.1) e))
ends g slots regions (andthen (choice bs) k) h e = cc

ended : (g : Geometry) (slots regions : ℕ) (b : Sequence) → CanRun slots regions b → IsTrace g b []
    → first_asked b ≡ ask.End
ended g slots regions skip h i = refl
ended g slots regions (andthen (step s) k) h i = absurd (step_acts g s k i)
ended g slots regions (andthen (loop zero b) k) h i = ended g slots regions k h.2 ((loop_over g b k).to [] i)
ended g slots regions (andthen (loop (suc n) b) k) h i =
    let s = split g b (andthen (loop n b) k) [] ((loop_turn g n b k).to [] i) in
    absurd (full g slots regions b h.0 h.1 (subst (IsTrace g b) (no_front s.0 s.1 s.2) s.3))
ended g slots regions (andthen (choice bs) k) h i = absurd (choice_acts g bs k i)

-- ---- after a list of actions

record FollowsAll (g : Geometry) (b : Sequence) (t : List Action) (c : Sequence) : Type 0 where
  pub to : (rest : List Action) → IsTrace g b (t ++ rest) → IsTrace g c rest
  pub from : (rest : List Action) → IsTrace g c rest → IsTrace g b (t ++ rest)

abbrev LeadsAll : Geometry → (slots regions : ℕ) → Sequence → List Action → Option Sequence → Type 0
LeadsAll g slots regions b t None = (rest : List Action) → IsTrace g b (t ++ rest) → ⊥
LeadsAll g slots regions b t (Some c) = FollowsAll g b t c × CanRun slots regions c

leads_from : (g : Geometry) (slots regions : ℕ) (t : List Action) (a : Action) (b c : Sequence) (o : Option Sequence)
    → Follows g b a c → LeadsAll g slots regions c t o → LeadsAll g slots regions b (a ∷ t) o
leads_from g slots regions t a b c None f l = λ rest i. l rest (f.to (t ++ rest) i)
leads_from g slots regions t a b c (Some d) f l = (
  record { to = λ rest i. l.0.to rest (f.to (t ++ rest) i); from = λ rest i. f.from (t ++ rest) (l.0.from rest i) },
  l.1,
)

leads_on : (g : Geometry) (slots regions : ℕ) (t : List Action) (a : Action) (b : Sequence) (o : Option Sequence)
    → ((c : Sequence) → CanRun slots regions c → LeadsAll g slots regions c t (left_after g (Some c) t))
    → Leads g slots regions b a o → LeadsAll g slots regions b (a ∷ t) (left_after g o t)
leads_on g slots regions t a b None all l = λ rest i. l (t ++ rest) i
leads_on g slots regions t a b (Some c) all l =
    leads_from g slots regions t a b c (left_after g (Some c) t) l.0 (all c l.1)

leads_all : (g : Geometry) (slots regions : ℕ) (t : List Action) (b : Sequence) → CanRun slots regions b
    → LeadsAll g slots regions b t (left_after g (Some b) t)
leads_all g slots regions [] b h = (record { to = λ rest i. i; from = λ rest i. i }, h)
leads_all g slots regions (a ∷ t) b h =
    leads_on g slots regions t a b (left_after_one g b a) (λ c i. leads_all g slots regions t c i)
    (leads g slots regions b a h)

-- ---- what the plan asks

next_is : (g : Geometry) (slots regions : ℕ) (c : Sequence) (a : Action) (rest : List Action) (o : Option Sequence)
    → left_after_one g c a ≡ o → CanRun slots regions c → Leads g slots regions c a o → IsTrace g c (a ∷ rest)
    → NamesAction g (first_asked c) a
next_is g slots regions c a rest None e h l i = absurd (l rest i)
next_is g slots regions c a rest (Some d) e h l i = is_asked g slots regions c d a h e

is_next : (g : Geometry) (slots : ℕ) (c : Sequence) (a : Action) → IsLayout g → CanRun slots (length g.extents) c
    → NamesAction g (first_asked c) a → (rest : List Action) × IsTrace g c (a ∷ rest)
is_next g slots c a layout h n =
    let r = goes g slots (length g.extents) c a h n in
    let l : Leads g slots (length g.extents) c a (Some r.0) =
    subst (Leads g slots (length g.extents) c a) r.1 (leads g slots (length g.extents) c a h) in
    let t = runs_last g slots r.0 layout l.1 in
    (t.0, l.0.from t.0 t.1)

asks_by : (g : Geometry) (slots : ℕ) (b : Sequence) (t : List Action) (a : Action) (o : Option Sequence) → IsLayout g
    → LeadsAll g slots (length g.extents) b t o
    → ((rest : List Action) × IsTrace g b (t ++ a ∷ rest)) ↔ NamesAction g (asked_of o) a
asks_by g slots b t a None layout l = ((λ h. absurd (l (a ∷ h.0) h.1)), (λ n. absurd n))
asks_by g slots b t a (Some c) layout l = (
  (λ h. next_is g slots (length g.extents) c a h.0 (left_after_one g c a) refl l.1
      (leads g slots (length g.extents) c a l.1) (l.0.to (a ∷ h.0) h.1)),
  (λ n. let r = is_next g slots c a layout l.1 n in (r.0, l.0.from (a ∷ r.0) r.1)),
)

ends_by : (g : Geometry) (slots regions : ℕ) (b : Sequence) (t : List Action) (o : Option Sequence)
    → LeadsAll g slots regions b t o → Begins g b t → IsTrace g b t ↔ (asked_of o ≡ ask.End)
ends_by g slots regions b t None l h = absurd (l h.0 h.1)
ends_by g slots regions b t (Some c) l h = (
  (λ i. ended g slots regions c l.1 (l.0.to [] (subst (IsTrace g b) (sym (append-nil t)) i))),
  (λ e. subst (IsTrace g b) (append-nil t) (l.0.from [] (ends g slots regions c l.1 e))),
)

-- The plan asks an action exactly where the computed ask names it.
pub asks_named : (p : Terms) (t : List Action) (a : Action) → IsPlan p
    → PlanAsks p t a ↔ NamesAction p.layout (asked p t) a
asks_named p t a h =
    asks_by p.layout (length p.slots) p.body t a (left_after p.layout (Some p.body) t) h.layout
    (leads_all p.layout (length p.slots) (length p.layout.extents) t p.body
    (can_run (length p.slots) (length p.layout.extents) p.body h.body.parts))

-- It is at its end exactly where the computed ask is the end.
pub asks_end : (p : Terms) (t : List Action) → IsPlan p → Begins p.layout p.body t
    → IsTraceOf p t ↔ (asked p t ≡ ask.End)
asks_end p t h begins =
    ends_by p.layout (length p.slots) (length p.layout.extents) p.body t (left_after p.layout (Some p.body) t)
    (leads_all p.layout (length p.slots) (length p.layout.extents) t p.body
    (can_run (length p.slots) (length p.layout.extents) p.body h.body.parts)) begins

within_by : (slots regions : ℕ) (b : Sequence) → CanRun slots regions b → IsAskOf slots regions (first_asked b)
within_by slots regions skip h = tt
within_by slots regions (andthen (step (fix s r)) k) h = h.0
within_by slots regions (andthen (step (unfix s)) k) h = h.0
within_by slots regions (andthen (step (latch s m)) k) h = h.0
within_by slots regions (andthen (step (unlatch s)) k) h = h.0
within_by slots regions (andthen (step (gather s r)) k) h = h.0
within_by slots regions (andthen (step (scatter s)) k) h = h.0
within_by slots regions (andthen (loop zero b) k) h = within_by slots regions k h.2
within_by slots regions (andthen (loop (suc n) b) k) h = within_by slots regions b (can_run slots regions b h.1)
within_by slots regions (andthen (choice bs) k) h = (h.0, h.1)

within_of : (g : Geometry) (slots regions : ℕ) (b : Sequence) (t : List Action) (o : Option Sequence)
    → LeadsAll g slots regions b t o → IsAskOf slots regions (asked_of o)
within_of g slots regions b t None l = tt
within_of g slots regions b t (Some c) l = within_by slots regions c l.1

-- Slots, regions and branches of the computed ask are the plan's.
pub asked_within : (p : Terms) (t : List Action) → IsPlan p
    → IsAskOf (length p.slots) (length p.layout.extents) (asked p t)
asked_within p t h =
    within_of p.layout (length p.slots) (length p.layout.extents) p.body t (left_after p.layout (Some p.body) t)
    (leads_all p.layout (length p.slots) (length p.layout.extents) t p.body
    (can_run (length p.slots) (length p.layout.extents) p.body h.body.parts))
