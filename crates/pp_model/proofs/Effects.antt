-- What a worker's holdings become by an action and by an unwinding.
use Rattle.std.proofs.Common.{◌≡◌, ◌∙◌, ℕ, ◌+◌, Bool, true, false, eqb, cond, Option, Some, None}
use Rattle.std.proofs.Common.{List, [], ◌∷◌, refl, sym, ap, subst, arith}
use Rattle.std.specs.Prelude.{filter, unwrap_or, not, is_some, sum_by, ◌==◌, ◌||◌}
use Rattle.std.specs.List.{list_any}
use Rattle.std.proofs.lemmas.Bool.{eqb-true}
use Rattle.std.proofs.lemmas.Bool.Decides.{nat_tests}
use Rattle.std.proofs.lemmas.List.Sums.{sum_by-cons}
use Rattle.pp_settings.specs.Layout.{Geometry}
use Rattle.pp_plan.specs.declared.action.Action.{Action}
use Rattle.pp_cert.specs.Held.{Holding, Holdings, holding_slot, held_next, held_after, held}
use Rattle.pp_cert.proofs.Slots.{slot_all}
use Rattle.pp_model.specs.Pool.{leaving, Running}
use Rattle.pp_model.specs.Holders.{given_back, is_among, holdings}
use Rattle.pp_model.specs.Outcome.{at_stage, having_done}
use Rattle.pp_model.specs.Turns.{Asks}
use Rattle.pp_model.proofs.Seats.{IsSeat, begins_more}
use Rattle.pp_model.proofs.Swaps.{Handles, handles, held_more}
use Rattle.pp_model.proofs.KeptSlots.{AreKept, IsKeptAt, packed, Fills, Places, places, are_kept}

-- ---- before the worker leaves its plan

filter_all : {A : Type 0} (xs : List A) → filter (λ x. true) xs ≡ xs
filter_all [] = refl
filter_all (x ∷ xs) = ap (λ ys. x ∷ ys) (filter_all xs)

some_is : (o : Option Holdings) → is_some o ≡ true → (hs : Holdings) × (o ≡ Some hs)
some_is None h = cc
some_is (Some hs) h = (hs, refl)

-- A worker that has given no slot back holds what is held after the actions done.
pub all_held : (r : Running) (hs : Holdings) → given_back r.stage ≡ [] → held r.done ≡ Some hs → holdings r ≡ hs
all_held r hs g e =
    ap (λ given. filter (λ h. not (is_among given h)) (unwrap_or (held r.done) [])) g
    ∙ ap (λ (o : Option Holdings). filter (λ h. true) (unwrap_or o [])) e
    ∙ filter_all hs

-- What the worker has done isn't bad.
pub has_held : (g : Geometry) (r : Running) → IsSeat g r → (hs : Holdings) × (held r.done ≡ Some hs)
has_held g r h = some_is (held r.done) (h.accepted.legal r.done h.begun)

after_one : (o : Option Holdings) (ks : Holdings) → held_after o [] ≡ Some ks → o ≡ Some ks
after_one None ks e = cc
after_one (Some hs) ks e = e

-- What a worker holds before and after an action that its plan asks.
record Acts (g : Geometry) (r : Running) (a : Action) : Type 0 where
  before : Holdings
  after : Holdings
  is_before : holdings r ≡ before
  is_after : holdings (having_done r a) ≡ after
  kept : AreKept before
  next : held_next before a ≡ Some after

asked_acts : (g : Geometry) (r : Running) (a : Action) → IsSeat g r → given_back r.stage ≡ [] → Asks r a → Acts g r a
asked_acts g r a h none asks =
    let before = has_held g r h in
    let after = some_is (held (having_done r a).done)
    (h.accepted.legal (having_done r a).done (begins_more r a asks)) in
    record {
      before = before.0;
      after = after.0;
      is_before = all_held r before.0 none before.1;
      is_after = all_held (having_done r a) after.0 refl after.1;
      kept = are_kept r.done before.0 before.1;
      next = after_one (held_next before.0 a) after.0 (ap (λ o. held_after o (a ∷ [])) (sym before.1)
          ∙ sym (held_more (Some []) r.done (a ∷ [])) ∙ after.1);
    }

-- An action that the plan asks does to the holdings what it says, and to the slots.
pub asked_handles : (g : Geometry) (r : Running) (a : Action) → IsSeat g r → given_back r.stage ≡ [] → Asks r a
    → Handles (holdings r) (holdings (having_done r a)) a
asked_handles g r a h none asks =
    let acts = asked_acts g r a h none asks in
    subst (λ hs. Handles hs (holdings (having_done r a)) a) (sym acts.is_before)
    (subst (λ ks. Handles acts.before ks a) (sym acts.is_after) (handles acts.before acts.after a acts.next))

pub asked_places : (g : Geometry) (r : Running) (a : Action) → IsSeat g r → given_back r.stage ≡ [] → Asks r a
    → Places (holdings r) (holdings (having_done r a)) a
asked_places g r a h none asks =
    let acts = asked_acts g r a h none asks in
    subst (λ hs. Places hs (holdings (having_done r a)) a) (sym acts.is_before)
    (subst (λ ks. Places acts.before ks a) (sym acts.is_after)
    (places acts.before acts.after a acts.kept acts.next))

-- ---- while it leaves

-- The holdings of which no slot is among these.
abbrev without : List ℕ → Holdings → Holdings
without given hs = filter (λ h. not (is_among given h)) hs

-- Whether a slot was given back.
abbrev is_given : List ℕ → ℕ → Bool
is_given given k = list_any (λ slot. slot == k) given

-- A slot that was given back holds nothing; each other slot holds what it held.
without_all : (given : List ℕ) (hs : Holdings) (k : ℕ)
    → slot_all holding_slot k (without given hs) ≡ cond (is_given given k) [] (slot_all holding_slot k hs)
without_all given [] k = go (is_given given k)
  where
    go : (b : Bool) → ◌≡◌ {A = Holdings} [] (cond b [] [])
    go true = refl
    go false = refl
without_all given (y ∷ ys) k = go (y.slot == k) (is_among given y) refl refl (without_all given ys k)
  where
    given_too : (b : Bool) → (y.slot == k) ≡ true → is_among given y ≡ b → is_given given k ≡ b
    given_too b e f = ap (is_given given) (sym (eqb-true y.slot k e)) ∙ f

    go : (a b : Bool) → (y.slot == k) ≡ a → is_among given y ≡ b
        → slot_all holding_slot k (without given ys) ≡ cond (is_given given k) [] (slot_all holding_slot k ys)
        → slot_all holding_slot k (cond (not b) (y ∷ without given ys) (without given ys))
        ≡ cond (is_given given k) [] (cond a (y ∷ slot_all holding_slot k ys) (slot_all holding_slot k ys))
    go true true e f all =
        let is = given_too true e f in
        all ∙ ap (λ c. cond c [] (slot_all holding_slot k ys)) is
        ∙ sym (ap (λ c. cond c [] (y ∷ slot_all holding_slot k ys)) is)
    go true false e f all =
        let isnt = given_too false e f in
        ap (λ c. cond c (y ∷ slot_all holding_slot k (without given ys)) (slot_all holding_slot k (without given ys))) e
        ∙ ap (λ l. y ∷ l) (all ∙ ap (λ c. cond c [] (slot_all holding_slot k ys)) isnt)
        ∙ sym (ap (λ c. cond c [] (y ∷ slot_all holding_slot k ys)) isnt)
    go false true e f all = all
    go false false e f all =
        ap (λ c. cond c (y ∷ slot_all holding_slot k (without given ys)) (slot_all holding_slot k (without given ys))) e
        ∙ all

-- A slot more is given back, and it holds nothing.
gives_slot : (slot : ℕ) (given : List ℕ) (hs : Holdings) → Fills slot [] (without given hs) (without (slot ∷ given) hs)
gives_slot slot given hs k =
    without_all (slot ∷ given) hs k ∙ go (eqb k slot) refl
    ∙ ap (λ l. cond (eqb k slot) [] l) (sym (without_all given hs k))
  where
    go : (b : Bool) → eqb k slot ≡ b
        → cond ((slot == k) || is_given given k) [] (slot_all holding_slot k hs)
        ≡ cond b [] (cond (is_given given k) [] (slot_all holding_slot k hs))
    go true e =
        let same : (slot == k) ≡ true = grind (arith, nat_tests) in
        ap (λ c. cond (c || is_given given k) [] (slot_all holding_slot k hs)) same
    go false e =
        let isnt : (slot == k) ≡ false = grind (arith, nat_tests) in
        ap (λ c. cond (c || is_given given k) [] (slot_all holding_slot k hs)) isnt

-- All that the slot held goes.
gives_sum : (f : Holding → ℕ) (slot : ℕ) (given : List ℕ) (hs : Holdings)
    → sum_by f (without (slot ∷ given) hs) + sum_by f (slot_all holding_slot slot (without given hs))
    ≡ sum_by f (without given hs)
gives_sum f slot given [] = refl
gives_sum f slot given (y ∷ ys) =
    go (eqb slot y.slot) (is_among given y) refl (gives_sum f slot given ys)
  where
    more : Holdings
    more = without (slot ∷ given) ys

    rest : Holdings
    rest = without given ys

    go : (a b : Bool) → eqb slot y.slot ≡ a
        → sum_by f more + sum_by f (slot_all holding_slot slot rest) ≡ sum_by f rest
        → sum_by f (cond (not (a || b)) (y ∷ more) more)
        + sum_by f (slot_all holding_slot slot (cond (not b) (y ∷ rest) rest)) ≡ sum_by f (cond (not b) (y ∷ rest) rest)
    go true true s all = all
    go true false s all =
        let is : (y.slot == slot) ≡ true = grind (arith, nat_tests) in
        omega (
          arith,
          ap (λ c. sum_by f (cond c (y ∷ slot_all holding_slot slot rest) (slot_all holding_slot slot rest))) is,
          sum_by-cons f y (slot_all holding_slot slot rest),
          sum_by-cons f y rest,
          all,
        )
    go false true s all = all
    go false false s all =
        let isnt : (y.slot == slot) ≡ false = grind (arith, nat_tests) in
        omega (
          arith,
          ap (λ c. sum_by f (cond c (y ∷ slot_all holding_slot slot rest) (slot_all holding_slot slot rest))) isnt,
          sum_by-cons f y more,
          sum_by-cons f y rest,
          all,
        )

-- What a worker holds while it leaves.
leaving_holds : (r : Running) (given : List ℕ) → r.stage ≡ leaving given
    → holdings r ≡ without given (unwrap_or (held r.done) [])
leaving_holds r given at = ap (λ j. without (given_back j) (unwrap_or (held r.done) [])) at

pub unwound_fills : (r : Running) (slot : ℕ) (given : List ℕ) → r.stage ≡ leaving given
    → Fills slot [] (holdings r) (holdings (at_stage r (leaving (slot ∷ given))))
unwound_fills r slot given at =
    let all : Holdings = unwrap_or (held r.done) [] in
    subst (λ hs. Fills slot [] hs (without (slot ∷ given) all)) (sym (leaving_holds r given at)) (gives_slot slot given all)

pub unwound_swaps : (r : Running) (slot : ℕ) (given : List ℕ) → r.stage ≡ leaving given → (f : Holding → ℕ)
    → sum_by f (holdings (at_stage r (leaving (slot ∷ given)))) + sum_by f (slot_all holding_slot slot (holdings r))
    ≡ sum_by f (holdings r)
unwound_swaps r slot given at f =
    let all : Holdings = unwrap_or (held r.done) [] in
    subst (λ hs. sum_by f (without (slot ∷ given) all) + sum_by f (slot_all holding_slot slot hs) ≡ sum_by f hs)
    (sym (leaving_holds r given at)) (gives_sum f slot given all)

-- What a worker holds stands in its slots as it may.
pub holdings_kept : (g : Geometry) (r : Running) → IsSeat g r → AreKept (holdings r)
holdings_kept g r h k =
    let before = has_held g r h in
    let all : unwrap_or (held r.done) [] ≡ before.0 = ap (λ (o : Option Holdings). unwrap_or o []) before.1 in
    subst (λ hs. IsKeptAt (slot_all holding_slot k (without (given_back r.stage) hs))) (sym all)
    (subst IsKeptAt (sym (without_all (given_back r.stage) before.0 k))
    (go (is_given (given_back r.stage) k) (are_kept r.done before.0 before.1 k)))
  where
    go : (b : Bool) → IsKeptAt (slot_all holding_slot k (has_held g r h).0)
        → IsKeptAt (cond b [] (slot_all holding_slot k (has_held g r h).0))
    go true is = packed tt
    go false is = is
