-- What a place says of its worker, and lists of places of which one changes.
use Rattle.std.proofs.Common.{◌≡◌, ℕ, zero, suc, ◌+◌, ◌-◌, ◌<◌, ◌≤◌, ◌^◌, ◌⊎◌, Bool, true, false, None, Some, List, length, set}
use Rattle.std.proofs.Common.{refl, ap, sym, ◌∙◌, inl, inr, arith, cond, count_by, replicate}
use Rattle.std.specs.Prelude.{Option, is_some}
use Rattle.std.proofs.lemmas.Bool.{cases_eq, cases_lt, both_ways}
use Rattle.std.proofs.lemmas.List.{get_or_past, get_or-set_same, get_or-set_other, length-set, set_past, set-get_or, length-replicate}
use Rattle.std.proofs.lemmas.List.Sums.{sum_by-set, get_or-le-sum_by, count_by-le-length}
use Rattle.std.proofs.lemmas.Option.{none-some, same_Some}
use Rattle.pp_vault.specs.Holding.{placed}
use Rattle.pp_wants.specs.declared.want.Want.{Want}
use Rattle.pp_wants.specs.declared.sleepers.Sleeper.{Sleeper}
use Rattle.pp_wants.specs.Inside.{IsCounted, counts_in}
use Rattle.pp_wants.specs.Sleepers.{untold, told, want_in, is_told, is_untold, Keeps}

-- ---- one place

-- who sleeps there, by the want and by whether it was told
pub place_of : (p : Option Sleeper) (want : Want) (b : Bool) → want_in p ≡ Some want → is_told p ≡ b
    → p ≡ Some (record { want = want; is_told = b })
place_of None want b e h = absurd (none-some want e)
place_of (Some x) want b e h =
    let by_want : Want → Option Sleeper = λ w. Some (record { want = w; is_told = x.is_told }) in
    let by_told : Bool → Option Sleeper = λ t. Some (record { want = want; is_told = t }) in
    ap by_want (same_Some x.want want e) ∙ ap by_told h

pub told_there : (p : Option Sleeper) (want : Want) → p ≡ Some (told want) → is_told p ≡ true
told_there p want e = ap is_told e

pub untold_there : (p : Option Sleeper) (want : Want) → p ≡ Some (untold want) → is_told p ≡ false
untold_there p want e = ap is_told e

pub waits_there : (p : Option Sleeper) (want : Want) → p ≡ Some (untold want) → is_untold p ≡ true
waits_there p want e = ap is_untold e

-- one who was told isn't one who wasn't
pub told_or_not : (p : Option Sleeper) (one other : Want) → p ≡ Some (told one) → p ≡ Some (untold other) → ⊥
told_or_not p one other e h = both_ways (is_told p) (untold_there p other h) (told_there p one e)

pub same_untold : (one other : Want) → ◌≡◌ {A = Option Sleeper} (Some (untold one)) (Some (untold other)) → one ≡ other
same_untold one other e = same_Some one other (ap want_in e)

not_before : (b c : Bool) → (b ≡ true → c ≡ true) → c ≡ false → b ≡ false
not_before true c h e = absurd (both_ways c e (h refl))
not_before false c h e = refl

-- where nobody sleeps in a place, nothing changes by nobody's sleeping there
pub stays_none : (xs : List (Option Sleeper)) (worker : ℕ) (p : Option Sleeper) → p ≡ placed xs worker → is_some p ≡ false
    → xs ≡ set xs worker None
stays_none xs worker None e h = sym (ap (set xs worker) e ∙ set-get_or xs worker None)
stays_none xs worker (Some x) e h = absurd (both_ways true h refl)

-- ---- one place changes

module _ (xs : List (Option Sleeper)) (worker : ℕ) (p : Option Sleeper) where
  pub away : (w : ℕ) → (w ≡ worker → ⊥) → placed (set xs worker p) w ≡ placed xs w
  away w ne = get_or-set_other xs worker w p None ne

  -- who sleeps somewhere afterwards was put there, or slept there before
  pub put_or_there : (w : ℕ) (x : Sleeper) → placed (set xs worker p) w ≡ Some x
      → ((w ≡ worker) × (p ≡ Some x)) ⊎ (placed xs w ≡ Some x)
  put_or_there w x e =
      elim (cases_eq w worker) [
        | inr ne ↦ inr (sym (away w ne) ∙ e)
        | inl is ↦ elim (cases_lt worker (length xs)) [
          | inl lt ↦
              inl (
                is,
                sym (get_or-set_same xs worker p None lt) ∙ ap (λ k. placed (set xs worker p) k) (sym is) ∙ e,
              )
          | inr le ↦ inr (ap (λ ys. placed ys w) (sym (set_past xs worker p le)) ∙ e)
        ]
      ]

-- one that sleeps has a place
pub within : (xs : List (Option Sleeper)) (worker : ℕ) (x : Sleeper) → placed xs worker ≡ Some x → worker < length xs
within xs worker x there =
    elim (cases_lt worker (length xs)) [
      | inl lt ↦ lt
      | inr le ↦ absurd (none-some x (sym (get_or_past xs worker None le) ∙ there))
    ]

-- ---- what is kept

pub keeps_same : (xs : List (Option Sleeper)) → Keeps xs xs
keeps_same xs = record { places = refl; wants = λ w. refl; told = λ w h. h }

pub keeps_on : (xs ys zs : List (Option Sleeper)) → Keeps xs ys → Keeps ys zs → Keeps xs zs
keeps_on xs ys zs a b =
    record {
      places = b.places ∙ a.places;
      wants = λ w. b.wants w ∙ a.wants w;
      told = λ w h. b.told w (a.told w h);
    }

module _ (old new : List (Option Sleeper)) (k : Keeps old new) where
  -- who sleeps untold did so before
  pub untold_before : (w : ℕ) (want : Want) → placed new w ≡ Some (untold want) → placed old w ≡ Some (untold want)
  untold_before w want e =
      place_of (placed old w) want false (sym (k.wants w) ∙ ap want_in e)
      (not_before (is_told (placed old w)) (is_told (placed new w)) (k.told w) (untold_there (placed new w) want e))

  -- who was told is told still
  pub told_still : (w : ℕ) (want : Want) → placed old w ≡ Some (told want) → placed new w ≡ Some (told want)
  told_still w want e =
      place_of (placed new w) want true (k.wants w ∙ ap want_in e) (k.told w (told_there (placed old w) want e))

-- One that wasn't told is told.
module _ (xs : List (Option Sleeper)) (worker : ℕ) (want : Want) (there : placed xs worker ≡ Some (untold want)) where
  pub here : placed (set xs worker (Some (told want))) worker ≡ Some (told want)
  here = get_or-set_same xs worker (Some (told want)) None (within xs worker (untold want) there)

  pub telling_keeps : Keeps xs (set xs worker (Some (told want)))
  telling_keeps =
      record {
        places = length-set xs worker (Some (told want));
        wants =
            λ w. elim (cases_eq w worker) [
              | inr ne ↦ ap want_in (away xs worker (Some (told want)) w ne)
              | inl is ↦
                  ap (λ k. want_in (placed (set xs worker (Some (told want))) k)) is ∙ ap want_in here
                  ∙ sym (ap want_in there) ∙ ap (λ k. want_in (placed xs k)) (sym is)
            ];
        told =
            λ w h. elim (cases_eq w worker) [
              | inr ne ↦ ap is_told (away xs worker (Some (told want)) w ne) ∙ h
              | inl is ↦ ap (λ k. is_told (placed (set xs worker (Some (told want))) k)) is ∙ ap is_told here
            ];
      }

-- ---- how many weren't told

-- One place changes.
pub counted_on : (xs : List (Option Sleeper)) (n worker : ℕ) (p before : Option Sleeper) → IsCounted xs n
    → worker < length xs → placed xs worker ≡ before → IsCounted (set xs worker p) (n + counts_in p - counts_in before)
counted_on xs n worker p before counted lt there =
    let steps : count_by is_untold (set xs worker p) + counts_in (placed xs worker) ≡ count_by is_untold xs + counts_in p
    = sum_by-set counts_in xs worker p None lt in
    let same : counts_in (placed xs worker) ≡ counts_in before = ap counts_in there in
    record {
      few = omega (arith, counted.few, length-set xs worker p);
      same = omega (arith, steps, same, counted.same);
    }

pub counted_few : (xs : List (Option Sleeper)) (n : ℕ) → IsCounted xs n → n < 2 ^ 32
counted_few xs n counted = omega (arith, counted.few, counted.same, count_by-le-length is_untold xs)

abbrev none_asleep : Option Sleeper
none_asleep = None

counted_nobody : (n : ℕ) → count_by is_untold (replicate n none_asleep) ≡ 0
counted_nobody zero = refl
counted_nobody (suc n) = counted_nobody n

pub counted_none : (n : ℕ) → n < 2 ^ 32 → IsCounted (replicate n None) 0
counted_none n few = record {
  few = omega (arith, few, length-replicate n none_asleep);
  same = counted_nobody n;
}

one_where : (b : Bool) → ◌≡◌ {A = ℕ} (cond b 1 0) 0 → b ≡ false
one_where true e = absurd (omega (arith, e))
one_where false e = refl

-- Where it is nobody, no place has one.
pub counted_nowhere : (xs : List (Option Sleeper)) → count_by is_untold xs ≡ 0 → (w : ℕ) → is_untold (placed xs w) ≡ false
counted_nowhere xs none w =
    elim (cases_lt w (length xs)) [
      | inl lt ↦
          let low : cond (is_untold (placed xs w)) 1 0 ≤ count_by is_untold xs = get_or-le-sum_by counts_in xs w None lt in
          one_where (is_untold (placed xs w)) (omega (arith, low, none))
      | inr le ↦ ap is_untold (get_or_past xs w None le)
    ]
