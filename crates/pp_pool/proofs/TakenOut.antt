-- Guards of latches X that are taken out of their places, and put back.
use Rattle.std.proofs.Common.{◌≡◌, ◌∙◌, ◌+◌, ◌≤◌, ◌<◌, ℕ, zero, suc, true, false, Option, Some, None, List, [], ◌∷◌, ◌++◌, take, drop, length, refl, sym, ap, subst, inl, inr, arith, append_assoc, add-one}
use Rattle.std.specs.Prelude.{slice_set, map, ◌&&◌, is_none}
use Rattle.std.proofs.lemmas.Bool.{false≢true, lt-ltb, cases_lt}
use Rattle.std.proofs.lemmas.List.{append-nil, length-append, set_at, get_or_at, get_or_past, take_all, take_more, take_at, drop_at, take-append-drop}
use Rattle.pp_vault.specs.declared.guards.WriteGuard.{WriteGuard}
use Rattle.pp_vault.specs.declared.guards.Guard.{Guard}
use Rattle.pp_vault.specs.declared.guards.Guard.TheVariants as guard
use Rattle.pp_vault.specs.Holding.{placed, is_free}
use Rattle.pp_vault.specs.Lending.{with_body}
use Rattle.pp_pool.specs.Lent.{is_writer, writers_in, without_writer, AreOthers, IsReworked, AreReworked}
use Rattle.pp_pool.specs.Lent.{TakesOut, AreOut, with_back, FindPlaces}

-- ---- taken out

-- The places of which those before this one have no guard of a latch X any more.
abbrev pub free_before : ℕ → List (Option Guard) → List (Option Guard)
free_before zero places = places
free_before (suc n) [] = []
free_before (suc n) (o ∷ places) = without_writer o ∷ free_before n places

-- The guards of latches X in the places before this one.
abbrev pub writers_before : ℕ → List (Option Guard) → List WriteGuard
writers_before n places = writers_in (take n places)

pub before_long : (n : ℕ) (places : List (Option Guard)) → length (free_before n places) ≡ length places
before_long zero places = refl
before_long (suc n) [] = refl
before_long (suc n) (o ∷ places) = ap suc (before_long n places)

pub before_there : (n : ℕ) (places : List (Option Guard)) → placed (free_before n places) n ≡ placed places n
before_there zero places = refl
before_there (suc n) [] = refl
before_there (suc n) (o ∷ places) = before_there n places

not_writer : (o : Option Guard) → is_writer o ≡ false → without_writer o ≡ o
not_writer None plain = refl
not_writer (Some (guard.Pin g)) plain = refl
not_writer (Some (guard.Read g)) plain = refl
not_writer (Some (guard.Write g)) plain = absurd (false≢true (sym plain))
not_writer (Some (guard.Bundle g)) plain = refl

-- Of one place more.
pub before_kept : (n : ℕ) (places : List (Option Guard)) → is_writer (placed places n) ≡ false
    → free_before n places ≡ free_before (suc n) places
before_kept zero [] plain = refl
before_kept zero (o ∷ places) plain = ap (λ x. x ∷ places) (sym (not_writer o plain))
before_kept (suc n) [] plain = refl
before_kept (suc n) (o ∷ places) plain = ap (λ xs. without_writer o ∷ xs) (before_kept n places plain)

pub before_taken : (n : ℕ) (places : List (Option Guard)) (g : WriteGuard) → placed places n ≡ Some (guard.Write g)
    → slice_set (free_before n places) n None ≡ free_before (suc n) places
before_taken zero [] g is = refl
before_taken zero (o ∷ places) g is = ap (λ x. without_writer x ∷ places) (sym is)
before_taken (suc n) [] g is = refl
before_taken (suc n) (o ∷ places) g is = ap (λ xs. without_writer o ∷ xs) (before_taken n places g is)

pub before_all : (n : ℕ) (places : List (Option Guard)) → length places ≤ n → free_before n places ≡ map without_writer places
before_all zero [] le = refl
before_all zero (o ∷ places) le = absurd (omega (arith, le))
before_all (suc n) [] le = refl
before_all (suc n) (o ∷ places) le = ap (λ xs. without_writer o ∷ xs) (before_all n places (omega (arith, le)))

writers_none : (o : Option Guard) (places : List (Option Guard)) → is_writer o ≡ false → writers_in (o ∷ places) ≡ writers_in places
writers_none None places plain = refl
writers_none (Some (guard.Pin g)) places plain = refl
writers_none (Some (guard.Read g)) places plain = refl
writers_none (Some (guard.Write g)) places plain = absurd (false≢true (sym plain))
writers_none (Some (guard.Bundle g)) places plain = refl

writers-append : (xs ys : List (Option Guard)) → writers_in (xs ++ ys) ≡ writers_in xs ++ writers_in ys
writers-append [] ys = refl
writers-append (None ∷ xs) ys = writers-append xs ys
writers-append (Some (guard.Pin g) ∷ xs) ys = writers-append xs ys
writers-append (Some (guard.Read g) ∷ xs) ys = writers-append xs ys
writers-append (Some (guard.Write g) ∷ xs) ys = ap (λ ws. g ∷ ws) (writers-append xs ys)
writers-append (Some (guard.Bundle g) ∷ xs) ys = writers-append xs ys

one_more : (n : ℕ) (places : List (Option Guard)) → n < length places
    → take (suc n) places ≡ take n places ++ placed places n ∷ []
one_more n places lt = ap (λ m. take m places) (sym (add-one n)) ∙ take_more places n None lt

pub writers_kept : (n : ℕ) (places : List (Option Guard)) → n < length places → is_writer (placed places n) ≡ false
    → writers_before (suc n) places ≡ writers_before n places
writers_kept n places lt plain =
    ap writers_in (one_more n places lt) ∙ writers-append (take n places) (placed places n ∷ [])
    ∙ ap (λ ws. writers_before n places ++ ws) (writers_none (placed places n) [] plain)
    ∙ append-nil (writers_before n places)

pub writers_taken : (n : ℕ) (places : List (Option Guard)) (g : WriteGuard) → n < length places
    → placed places n ≡ Some (guard.Write g) → writers_before (suc n) places ≡ writers_before n places ++ g ∷ []
writers_taken n places g lt is =
    ap writers_in (one_more n places lt) ∙ writers-append (take n places) (placed places n ∷ [])
    ∙ ap (λ o. writers_before n places ++ writers_in (o ∷ [])) is

same_writer : (g h : WriteGuard) → ◌≡◌ {A = Option Guard} (Some (guard.Write g)) (Some (guard.Write h)) → g ≡ h
same_writer g h e = cc

no_more : (g : WriteGuard) → ◌≡◌ {A = Option Guard} None (Some (guard.Write g)) → ⊥
no_more g e = cc

-- All of them.
pub taken_out : (places new : List (Option Guard)) (guards : List WriteGuard) → length places ≡ 32
    → guards ≡ writers_before 32 places → new ≡ free_before 32 places
    → ((slot : ℕ) (g : WriteGuard) → slot < 32 → placed places slot ≡ Some (guard.Write g) → g.slot ≡ slot)
    → TakesOut guards places new
taken_out places new guards long are free slots = record {
  all = are ∙ ap writers_in (take_all 32 places (omega (arith, long)));
  free = free ∙ before_all 32 places (omega (arith, long));
  slots = λ slot g is.
      elim (cases_lt slot 32) [
        | inl lt ↦ slots slot g lt is
        | inr le ↦ absurd (no_more g (sym (get_or_past places slot None (omega (arith, long, le))) ∙ is))
      ];
}

-- ---- put back

-- The places with these guards of latches X in place of their own, by rising slots.
abbrev pub with_writers : List (Option Guard) → List WriteGuard → List (Option Guard)
with_writers [] guards = []
with_writers (None ∷ places) guards = None ∷ with_writers places guards
with_writers (Some (guard.Pin g) ∷ places) guards = Some (guard.Pin g) ∷ with_writers places guards
with_writers (Some (guard.Read g) ∷ places) guards = Some (guard.Read g) ∷ with_writers places guards
with_writers (Some (guard.Write g) ∷ places) [] = Some (guard.Write g) ∷ with_writers places []
with_writers (Some (guard.Write g) ∷ places) (h ∷ guards) = Some (guard.Write h) ∷ with_writers places guards
with_writers (Some (guard.Bundle g) ∷ places) guards = Some (guard.Bundle g) ∷ with_writers places guards

-- In the places from this slot on each guard of a latch X is that of its place.
abbrev StandFrom : ℕ → List (Option Guard) → Type 0
StandFrom n places = (k : ℕ) (g : WriteGuard) → placed places k ≡ Some (guard.Write g) → g.slot ≡ n + k

stand_rest : (n : ℕ) (o : Option Guard) (places : List (Option Guard)) → StandFrom n (o ∷ places)
    → StandFrom (suc n) places
stand_rest n o places stand k g is = let e = stand (suc k) g is in omega (arith, e)

-- What stands before the places, and they with the guards back.
record Back (front places : List (Option Guard)) (guards : List WriteGuard) : Type 0 where
  back : with_back (front ++ map without_writer places) guards ≡ front ++ with_writers places guards
  finds : FindPlaces (front ++ map without_writer places) guards

-- The same with one place more in front.
moved : (front places : List (Option Guard)) (o p : Option Guard) (guards : List WriteGuard) → without_writer o ≡ p
    → Back (front ++ p ∷ []) places guards
    → (with_back (front ++ map without_writer (o ∷ places)) guards ≡ front ++ p ∷ with_writers places guards)
    × FindPlaces (front ++ map without_writer (o ∷ places)) guards
moved front places o p guards is b =
    let same : (front ++ p ∷ []) ++ map without_writer places ≡ front ++ map without_writer (o ∷ places)
    = append_assoc front (p ∷ []) (map without_writer places)
    ∙ ap (λ x. front ++ x ∷ map without_writer places) (sym is) in (
      ap (λ ps. with_back ps guards) (sym same) ∙ b.back ∙ append_assoc front (p ∷ []) (with_writers places guards),
      subst (λ ps. FindPlaces ps guards) same b.finds,
    )

front_more : (n : ℕ) (front : List (Option Guard)) (o : Option Guard) → length front ≡ n → length (front ++ o ∷ []) ≡ suc n
front_more n front o long = omega (arith, long, length-append front (o ∷ []))

all_back : (n : ℕ) (front places : List (Option Guard)) (guards : List WriteGuard) → length front ≡ n → StandFrom n places
    → AreOthers (writers_in places) guards → Back front places guards
all_back n front [] [] long stand are = record { back = refl; finds = tt }
all_back n front [] (h ∷ guards) long stand are = absurd are
all_back n front (None ∷ places) guards long stand are =
    let b = all_back (suc n) (front ++ None ∷ []) places guards (front_more n front None long)
    (stand_rest n None places stand) are in
    let m = moved front places None None guards refl b in
    record { back = m.0; finds = m.1 }
all_back n front (Some (guard.Pin g) ∷ places) guards long stand are =
    let o : Option Guard = Some (guard.Pin g) in
    let b = all_back (suc n) (front ++ o ∷ []) places guards (front_more n front o long) (stand_rest n o places stand) are in
    let m = moved front places o o guards refl b in
    record { back = m.0; finds = m.1 }
all_back n front (Some (guard.Read g) ∷ places) guards long stand are =
    let o : Option Guard = Some (guard.Read g) in
    let b = all_back (suc n) (front ++ o ∷ []) places guards (front_more n front o long) (stand_rest n o places stand) are in
    let m = moved front places o o guards refl b in
    record { back = m.0; finds = m.1 }
all_back n front (Some (guard.Bundle g) ∷ places) guards long stand are =
    let o : Option Guard = Some (guard.Bundle g) in
    let b = all_back (suc n) (front ++ o ∷ []) places guards (front_more n front o long) (stand_rest n o places stand) are in
    let m = moved front places o o guards refl b in
    record { back = m.0; finds = m.1 }
all_back n front (Some (guard.Write g) ∷ places) [] long stand are = absurd are
all_back n front (Some (guard.Write g) ∷ places) (h ∷ guards) long stand are =
    let o : Option Guard = Some (guard.Write g) in
    let b = all_back (suc n) (front ++ None ∷ []) places guards (front_more n front None long)
    (stand_rest n o places stand) are.1 in
    let m = moved front places o None guards refl b in
    let rest : List (Option Guard) = with_writers places guards in
    let slot : length front ≡ h.slot
    = (let e : g.slot ≡ n + 0 = stand 0 g refl in
    let f : h.slot ≡ g.slot = ap (λ (x : WriteGuard). x.slot) are.0.2 in omega (arith, e, f, long)) in
    let there : placed (front ++ None ∷ rest) h.slot ≡ None = get_or_at front None rest None h.slot slot in
    let within : h.slot < length (front ++ None ∷ rest) = omega (arith, slot, length-append front (None ∷ rest)) in
    let free : is_free (front ++ None ∷ rest) h.slot ≡ true
    = ap (λ b. b && is_none (placed (front ++ None ∷ rest) h.slot)) (lt-ltb h.slot (length (front ++ None ∷ rest)) within)
    ∙ ap is_none there in
    record {
      back =
          ap (λ ps. slice_set ps h.slot (Some (guard.Write h))) m.0
          ∙ set_at front None rest (Some (guard.Write h)) h.slot slot;
      finds = (ap (λ ps. is_free ps h.slot) m.0 ∙ free, m.1);
    }

back_of : (old new : List (Option Guard)) (began guards : List WriteGuard) → TakesOut began old new → AreOthers began guards
    → Back [] old guards
back_of old new began guards out are =
    all_back 0 [] old guards refl (λ k g is. let e = out.slots k g is in omega (arith, e)) (subst (λ ws. AreOthers ws guards) out.all are)

-- Each finds its place.
pub find_places : (places : List (Option Guard)) (began guards : List WriteGuard) → AreOut began places → AreOthers began guards
    → FindPlaces places guards
find_places places began guards out are =
    subst (λ ps. FindPlaces ps guards) (sym out.1.free) (back_of out.0 places began guards out.1 are).finds

-- Each place has its guard again, with the body that was left in it.
reworked_long : (old : List (Option Guard)) (guards : List WriteGuard) → length (with_writers old guards) ≡ length old
reworked_long [] guards = refl
reworked_long (None ∷ old) guards = ap suc (reworked_long old guards)
reworked_long (Some (guard.Pin g) ∷ old) guards = ap suc (reworked_long old guards)
reworked_long (Some (guard.Read g) ∷ old) guards = ap suc (reworked_long old guards)
reworked_long (Some (guard.Write g) ∷ old) [] = ap suc (reworked_long old [])
reworked_long (Some (guard.Write g) ∷ old) (h ∷ guards) = ap suc (reworked_long old guards)
reworked_long (Some (guard.Bundle g) ∷ old) guards = ap suc (reworked_long old guards)

reworked_each : (old : List (Option Guard)) (guards : List WriteGuard) → AreOthers (writers_in old) guards → (slot : ℕ)
    → IsReworked (placed old slot) (placed (with_writers old guards) slot)
reworked_each [] guards are slot = refl
reworked_each (None ∷ old) guards are zero = refl
reworked_each (None ∷ old) guards are (suc slot) = reworked_each old guards are slot
reworked_each (Some (guard.Pin g) ∷ old) guards are zero = refl
reworked_each (Some (guard.Pin g) ∷ old) guards are (suc slot) = reworked_each old guards are slot
reworked_each (Some (guard.Read g) ∷ old) guards are zero = refl
reworked_each (Some (guard.Read g) ∷ old) guards are (suc slot) = reworked_each old guards are slot
reworked_each (Some (guard.Write g) ∷ old) [] are slot = absurd are
reworked_each (Some (guard.Write g) ∷ old) (h ∷ guards) are zero =
    (are.0.0, are.0.1, ap (λ (x : WriteGuard). Some (guard.Write x)) are.0.2)
reworked_each (Some (guard.Write g) ∷ old) (h ∷ guards) are (suc slot) = reworked_each old guards are.1 slot
reworked_each (Some (guard.Bundle g) ∷ old) guards are zero = refl
reworked_each (Some (guard.Bundle g) ∷ old) guards are (suc slot) = reworked_each old guards are slot

writers_back : (old : List (Option Guard)) (guards : List WriteGuard) → AreOthers (writers_in old) guards
    → writers_in (with_writers old guards) ≡ guards
writers_back [] [] are = refl
writers_back [] (h ∷ guards) are = absurd are
writers_back (None ∷ old) guards are = writers_back old guards are
writers_back (Some (guard.Pin g) ∷ old) guards are = writers_back old guards are
writers_back (Some (guard.Read g) ∷ old) guards are = writers_back old guards are
writers_back (Some (guard.Write g) ∷ old) [] are = absurd are
writers_back (Some (guard.Write g) ∷ old) (h ∷ guards) are = ap (λ ws. h ∷ ws) (writers_back old guards are.1)
writers_back (Some (guard.Bundle g) ∷ old) guards are = writers_back old guards are

pub put_back : (old mid new : List (Option Guard)) (began guards : List WriteGuard) → TakesOut began old mid
    → AreOthers began guards → new ≡ with_back mid guards
    → AreReworked old new × (writers_in new ≡ guards)
put_back old mid new began guards out are is =
    let others : AreOthers (writers_in old) guards = subst (λ ws. AreOthers ws guards) out.all are in
    let at : new ≡ with_writers old guards
    = is ∙ ap (λ ps. with_back ps guards) out.free ∙ (back_of old mid began guards out are).back in (
      record {
        long = ap length at ∙ reworked_long old guards;
        each = λ slot.
            subst (λ ps. IsReworked (placed old slot) (placed ps slot)) (sym at) (reworked_each old guards others slot);
      },
      ap writers_in at ∙ writers_back old guards others,
    )

-- One after another, the last first.
pub find_rest : (places : List (Option Guard)) (guards : List WriteGuard) (n : ℕ) → FindPlaces places guards
    → FindPlaces places (drop n guards)
find_rest places guards zero find = find
find_rest places [] (suc n) find = find
find_rest places (g ∷ guards) (suc n) find = find_rest places guards n find.1

-- The last of those that are left finds its place, and is put there.
pub record NextBack (places : List (Option Guard)) (all now left : List WriteGuard) (g : WriteGuard) : Type 0 where
  pub left_is : left ≡ take (length left) all
  pub back : drop (length left) all ≡ g ∷ drop (length now) all
  pub finds : is_free (with_back places (drop (length now) all)) g.slot ≡ true

pub next_back : (places : List (Option Guard)) (all now left : List WriteGuard) (g : WriteGuard)
    → now ≡ take (length now) all → now ≡ left ++ g ∷ [] → FindPlaces places all → NextBack places all now left g
next_back places all now left g of is find =
    let rest : List WriteGuard = drop (length now) all in
    let parts : all ≡ left ++ g ∷ rest
    = sym (take-append-drop (length now) all) ∙ ap (λ ws. ws ++ rest) (sym of ∙ is) ∙ append_assoc left (g ∷ []) rest in
    let back : drop (length left) all ≡ g ∷ rest
    = ap (λ ws. drop (length left) ws) parts ∙ drop_at left (g ∷ rest) (length left) refl in
    let found : FindPlaces places (g ∷ rest) = subst (FindPlaces places) back (find_rest places all (length left) find) in
    record {
      left_is = sym (ap (λ ws. take (length left) ws) parts ∙ take_at left (g ∷ rest) (length left) refl);
      back = back;
      finds = found.0;
    }

-- ---- where nothing was changed

reworked_rest : (o p : Option Guard) (old new : List (Option Guard)) → AreReworked (o ∷ old) (p ∷ new) → AreReworked old new
reworked_rest o p old new h = record {
  long = (let e : length (p ∷ new) ≡ length (o ∷ old) = h.long in omega (arith, e));
  each = λ slot. h.each (suc slot);
}

first_of : (g h : WriteGuard) (xs ys : List WriteGuard) → ◌≡◌ {A = List WriteGuard} (g ∷ xs) (h ∷ ys) → (g ≡ h) × (xs ≡ ys)
first_of g h xs ys e = (cc, cc)

pub same_places : (old new : List (Option Guard)) → AreReworked old new → writers_in new ≡ writers_in old → new ≡ old
same_places [] [] h same = refl
same_places [] (p ∷ new) h same = absurd (let e = h.long in omega (arith, e))
same_places (o ∷ old) [] h same = absurd (let e = h.long in omega (arith, e))
same_places (None ∷ old) (p ∷ new) h same =
    let first : p ≡ None = h.each 0 in
    ap (λ x. x ∷ new) first
    ∙ ap (λ xs. None ∷ xs) (same_places old new (reworked_rest None p old new h)
    (ap (λ x. writers_in (x ∷ new)) (sym first) ∙ same))
same_places (Some (guard.Pin g) ∷ old) (p ∷ new) h same =
    let o : Option Guard = Some (guard.Pin g) in
    let first : p ≡ o = h.each 0 in
    ap (λ x. x ∷ new) first
    ∙ ap (λ xs. o ∷ xs) (same_places old new (reworked_rest o p old new h)
    (ap (λ x. writers_in (x ∷ new)) (sym first) ∙ same))
same_places (Some (guard.Read g) ∷ old) (p ∷ new) h same =
    let o : Option Guard = Some (guard.Read g) in
    let first : p ≡ o = h.each 0 in
    ap (λ x. x ∷ new) first
    ∙ ap (λ xs. o ∷ xs) (same_places old new (reworked_rest o p old new h)
    (ap (λ x. writers_in (x ∷ new)) (sym first) ∙ same))
same_places (Some (guard.Bundle g) ∷ old) (p ∷ new) h same =
    let o : Option Guard = Some (guard.Bundle g) in
    let first : p ≡ o = h.each 0 in
    ap (λ x. x ∷ new) first
    ∙ ap (λ xs. o ∷ xs) (same_places old new (reworked_rest o p old new h)
    (ap (λ x. writers_in (x ∷ new)) (sym first) ∙ same))
same_places (Some (guard.Write g) ∷ old) (p ∷ new) h same =
    let o : Option Guard = Some (guard.Write g) in
    let is = h.each 0 in
    let left : WriteGuard = record g { image = with_body g.image is.0 } in
    let both : (left ≡ g) × (writers_in new ≡ writers_in old)
    = first_of left g (writers_in new) (writers_in old) (ap (λ x. writers_in (x ∷ new)) (sym is.2) ∙ same) in
    ap (λ x. x ∷ new) (is.2 ∙ ap (λ (x : WriteGuard). Some (guard.Write x)) both.0)
    ∙ ap (λ xs. o ∷ xs) (same_places old new (reworked_rest o p old new h) both.1)

-- ---- one place after another

-- What was taken out of the places before this one, into room for all slots.
pub record TakenBefore (slot : ℕ) (old new : List (Option Guard)) (guards : List WriteGuard) (room : ℕ) : Type 0 where
  pub out : guards ≡ writers_before slot old
  pub free : new ≡ free_before slot old
  pub slots : (n : ℕ) (g : WriteGuard) → n < slot → placed old n ≡ Some (guard.Write g) → g.slot ≡ n
  pub long : 0 < slot → length old ≡ 32
  pub few : length guards ≤ slot
  pub capacity : 32 ≤ room

-- By the first place.
pub none_before : (places : List (Option Guard)) (out : List WriteGuard) (capacity : ℕ) → out ≡ [] → 32 ≤ capacity
    → TakenBefore 0 places places out capacity
none_before places out capacity empty wide = record {
  out = empty;
  free = refl;
  slots = λ n g lt is. absurd (let l = lt in omega (arith, l));
  long = λ lt. absurd (let l = lt in omega (arith, l));
  few = (let e : length out ≡ 0 = ap length empty in omega (arith, e));
  capacity = wide;
}

slots_kept : (slot : ℕ) (old : List (Option Guard))
    → ((n : ℕ) (g : WriteGuard) → n < slot → placed old n ≡ Some (guard.Write g) → g.slot ≡ n)
    → ((g : WriteGuard) → placed old slot ≡ Some (guard.Write g) → g.slot ≡ slot)
    → (n : ℕ) (g : WriteGuard) → n < slot + 1 → placed old n ≡ Some (guard.Write g) → g.slot ≡ n
slots_kept slot old before this n g lt is =
    elim (cases_lt n slot) [
      | inl below ↦ before n g below is
      | inr above ↦
          let same : n ≡ slot = omega (arith, lt, above) in
          this g (ap (placed old) (sym same) ∙ is) ∙ sym same
    ]

module _ (slot : ℕ) (old new : List (Option Guard)) (out : List WriteGuard) (capacity : ℕ)
    (t : TakenBefore slot old new out capacity) (below : slot < 32) (long : length new ≡ 32) where
  wide : length old ≡ 32
  wide = sym (ap length t.free ∙ before_long slot old) ∙ long

  there : placed new slot ≡ placed old slot
  there = ap (λ ps. placed ps slot) t.free ∙ before_there slot old

  -- Out of the next place none.
  pub none_taken : is_writer (placed new slot) ≡ false → (after : List (Option Guard)) → after ≡ new
      → TakenBefore (slot + 1) old after out capacity
  none_taken plain after same =
      let is : is_writer (placed old slot) ≡ false = ap is_writer (sym there) ∙ plain in
      record {
        out =
            t.out
            ∙ sym (ap (λ n. writers_before n old) (add-one slot) ∙ writers_kept slot old (omega (arith, below, wide)) is);
        free = same ∙ t.free ∙ before_kept slot old is ∙ ap (λ n. free_before n old) (sym (add-one slot));
        slots = slots_kept slot old t.slots (λ g at. absurd (false≢true (sym is ∙ ap is_writer at)));
        long = λ _. wide;
        few = (let few = t.few in omega (arith, few));
        capacity = t.capacity;
      }

  -- Out of the next place this one.
  pub one_taken : (g : WriteGuard) → placed new slot ≡ Some (guard.Write g) → g.slot ≡ slot → (after : List (Option Guard))
      → after ≡ slice_set new slot None → (more : List WriteGuard) → more ≡ out ++ g ∷ [] → (room : ℕ) → room ≡ capacity
      → TakenBefore (slot + 1) old after more room
  one_taken g is of after taken more grown room same =
      let at : placed old slot ≡ Some (guard.Write g) = sym there ∙ is in
      record {
        out =
            grown ∙ ap (λ ws. ws ++ g ∷ []) t.out
            ∙ sym (ap (λ n. writers_before n old) (add-one slot)
            ∙ writers_taken slot old g (omega (arith, below, wide)) at);
        free =
            taken ∙ ap (λ ps. slice_set ps slot None) t.free ∙ before_taken slot old g at
            ∙ ap (λ n. free_before n old) (sym (add-one slot));
        slots = slots_kept slot old t.slots (λ h this. ap (λ (x : WriteGuard). x.slot) (same_writer h g (sym this ∙ at)) ∙ of);
        long = λ _. wide;
        few =
            (let few = t.few in
            let more_long : length more ≡ length out + 1 = ap length grown ∙ length-append out (g ∷ []) in
            omega (arith, few, more_long));
        capacity = (let wide_room = t.capacity in omega (arith, wide_room, same));
      }

-- At the end all are out.
pub all_taken : (slot : ℕ) (old new : List (Option Guard)) (out : List WriteGuard) (capacity : ℕ)
    → TakenBefore slot old new out capacity → slot ≡ 32 → TakesOut out old new
all_taken slot old new out capacity t all =
    let long : length old ≡ 32 = t.long (omega (arith, all)) in
    taken_out old new out long (t.out ∙ ap (λ n. writers_before n old) all) (t.free ∙ ap (λ n. free_before n old) all)
    (λ n g lt is. t.slots n g (omega (arith, lt, all)) is)
