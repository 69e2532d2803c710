-- Settling: one worker after the other.
use Rattle.std.proofs.Common.{◌≡◌, ℕ, ◌+◌, ◌<◌, ◌≤◌, Bool, true, false, not, ◌&&◌, None, Some, List, length, set}
use Rattle.std.proofs.Common.{subst, refl, ap, sym, ◌∙◌, inl, inr, eqb, arith}
use Rattle.std.specs.Prelude.{Option}
use Rattle.std.proofs.lemmas.Bool.{cases_eq, cases_lt, both_ways, and_parts, and_from}
use Rattle.std.proofs.lemmas.List.{get_or_past}
use Rattle.std.proofs.lemmas.Nat.Bits.{bit_at-zero}
use Rattle.std.proofs.lemmas.Option.{none-some}
use Rattle.pp_model.specs.Pool.{State}
use Rattle.pp_vault.specs.Holding.{placed}
use Rattle.pp_vault.specs.Parts as vault
use Rattle.pp_vault.specs.StandsFor.{StandsFor}
use Rattle.pp_wants.specs.declared.want.Want.{Want}
use Rattle.pp_wants.specs.declared.sleepers.Sleeper.{Sleeper}
use Rattle.pp_wants.specs.Masks.{has_bell, bell_of}
use Rattle.pp_wants.specs.Sleepers.{untold, told, is_told, is_untold, is_told_anew, Keeps}
use Rattle.pp_wants.specs.WakeUps.{is_alike, IsOnItsWay, SleepsRightly, NoWakeUpIsLost, IsForgotten, IsRungFor}
use Rattle.pp_wants.specs.Inside.{is_told_alike, IsCounted}
use Rattle.pp_wants.proofs.Places.{told_there, untold_there, waits_there, told_or_not, away, within}
use Rattle.pp_wants.proofs.Places.{keeps_same, keeps_on, untold_before, told_still, here, telling_keeps, counted_nowhere}

-- ---- one that was told

way_at : (s : State) (want : Want) (xs : List (Option Sleeper)) (k : ℕ) (p : Option Sleeper) → placed xs k ≡ p
    → is_told_alike s want p ≡ true → IsOnItsWay s xs want
way_at s want xs k None is h = absurd (both_ways false refl h)
way_at s want xs k (Some x) is h =
    let both = and_parts x.is_told (is_alike s want x.want) h in
    let by_told : Bool → Option Sleeper = λ t. Some (record { want = x.want; is_told = t }) in
    record { other = k; awaited = x.want; there = is ∙ ap by_told both.0; alike = both.1 }

-- from the place in which one was told of the same thing
pub way_from : (s : State) (want : Want) (xs : List (Option Sleeper)) (k : ℕ)
    → is_told_alike s want (placed xs k) ≡ true → IsOnItsWay s xs want
way_from s want xs k h = way_at s want xs k (placed xs k) refl h

-- and nobody was, where no place has one
pub no_way : (s : State) (want : Want) (xs : List (Option Sleeper))
    → ((k : ℕ) → k < length xs → is_told_alike s want (placed xs k) ≡ false) → IsOnItsWay s xs want → ⊥
no_way s want xs none x =
    both_ways (is_told_alike s want (placed xs x.other)) (none x.other (within xs x.other (told x.awaited) x.there))
    (ap (is_told_alike s want) x.there ∙ x.alike)

-- ---- over what is kept

module _ (s : State) (old new : List (Option Sleeper)) (k : Keeps old new) where
  pub way_stays : (want : Want) → IsOnItsWay s old want → IsOnItsWay s new want
  way_stays want x =
      record {
        other = x.other;
        awaited = x.awaited;
        there = told_still old new k x.other x.awaited x.there;
        alike = x.alike;
      }

  pub rightly_stays : (w : ℕ) → SleepsRightly s old w → SleepsRightly s new w
  rightly_stays w right = λ want there. elim (right want (untold_before old new k w want there)) [
    | inl refused ↦ inl refused
    | inr way ↦ inr (way_stays want way)
  ]

  pub forgotten_before : (w : ℕ) → IsForgotten s new w → IsForgotten s old w
  forgotten_before w x =
      record {
        want = x.want;
        there = untold_before old new k w x.want x.there;
        possible = x.possible;
        alone = λ way. x.alone (way_stays x.want way);
      }

-- ---- the loop

-- The first n workers are settled, and the mask has the bells of those that were told by that.
pub record IsSettledTo (v : vault.Parts) (old now : List (Option Sleeper)) (mask n : ℕ) : Type 0 where
  pub rest : Keeps old now
  pub told : (w : ℕ) → is_told_anew old now w ≡ true → has_bell mask (bell_of w) ≡ true
  pub only : (b : ℕ) → has_bell mask b ≡ true → IsRungFor old now b
  pub needed : (w : ℕ) → is_told_anew old now w ≡ true → (s : State) → StandsFor v s → IsForgotten s old w
  pub rightly : (s : State) → StandsFor v s → (w : ℕ) → w < n → SleepsRightly s now w

no_bell : (b : ℕ) → has_bell 0 b ≡ false
no_bell b = ap (λ n. eqb n 1) (bit_at-zero b)

not_anew : (b : Bool) → (b && not b) ≡ false
not_anew true = refl
not_anew false = refl

nobody_anew : (xs : List (Option Sleeper)) (w : ℕ) → is_told_anew xs xs w ≡ true → ⊥
nobody_anew xs w h = both_ways (is_told_anew xs xs w) (not_anew (is_told (placed xs w))) h

pub settled_none : (v : vault.Parts) (xs : List (Option Sleeper)) → IsSettledTo v xs xs 0 0
settled_none v xs =
    record {
      rest = keeps_same xs;
      told = λ w h. absurd (nobody_anew xs w h);
      only = λ b h. absurd (both_ways (has_bell 0 b) (no_bell b) h);
      needed = λ w h. absurd (nobody_anew xs w h);
      rightly = λ s stands w lt. absurd (omega arith);
    }

-- the next one needs no telling
pub settled_more : (v : vault.Parts) (old now : List (Option Sleeper)) (mask n : ℕ) → IsSettledTo v old now mask n
    → ((s : State) → StandsFor v s → SleepsRightly s now n) → IsSettledTo v old now mask (n + 1)
settled_more v old now mask n x right =
    record {
      rest = x.rest;
      told = x.told;
      only = x.only;
      needed = x.needed;
      rightly =
          λ s stands w lt. elim (cases_lt w n) [
            | inl less ↦ x.rightly s stands w less
            | inr le ↦
                let is : n ≡ w = omega arith in
                subst (λ (k : ℕ). SleepsRightly s now k) is (right s stands)
          ];
    }

-- the next one is told
module _ (v : vault.Parts) (old now : List (Option Sleeper)) (mask more n : ℕ) (want : Want)
    (x : IsSettledTo v old now mask n) (there : placed now n ≡ Some (untold want))
    (forgotten : (s : State) → StandsFor v s → IsForgotten s now n) (more_here : has_bell more (bell_of n) ≡ true)
    (more_others : (b : ℕ) → (b ≡ bell_of n → ⊥) → has_bell more b ≡ has_bell mask b) where
  abbrev new : List (Option Sleeper)
  new = set now n (Some (told want))

  keeps : Keeps now new
  keeps = telling_keeps now n want there

  -- it sleeps told now, and didn't before
  told_here : is_told_anew old new n ≡ true
  told_here =
      let was = untold_before old now x.rest n want there in
      and_from (is_told (placed new n)) (not (is_told (placed old n)))
      (told_there (placed new n) want (here now n want there)) (ap not (untold_there (placed old n) want was))

  -- of the others the same were told
  told_besides : (w : ℕ) → (w ≡ n → ⊥) → is_told_anew old new w ≡ is_told_anew old now w
  told_besides w ne = ap (λ p. is_told p && not (is_told (placed old w))) (away now n (Some (told want)) w ne)

  rung : (b : ℕ) → has_bell mask b ≡ true → has_bell more b ≡ true
  rung b h =
      elim (cases_eq b (bell_of n)) [
        | inl is ↦ ap (λ k. has_bell more k) is ∙ more_here
        | inr ne ↦ more_others b ne ∙ h
      ]

  told_all : (w : ℕ) → is_told_anew old new w ≡ true → has_bell more (bell_of w) ≡ true
  told_all w h =
      elim (cases_eq w n) [
        | inl is ↦ ap (λ k. has_bell more (bell_of k)) is ∙ more_here
        | inr ne ↦ rung (bell_of w) (x.told w (sym (told_besides w ne) ∙ h))
      ]

  -- who was told before is told anew still
  told_on : (w : ℕ) → is_told_anew old now w ≡ true → is_told_anew old new w ≡ true
  told_on w h =
      elim (cases_eq w n) [
        | inl is ↦ ap (λ k. is_told_anew old new k) is ∙ told_here
        | inr ne ↦ told_besides w ne ∙ h
      ]

  only_all : (b : ℕ) → has_bell more b ≡ true → IsRungFor old new b
  only_all b h =
      elim (cases_eq b (bell_of n)) [
        | inl is ↦ record { worker = n; its = sym is; told = told_here }
        | inr ne ↦
            let before = x.only b (sym (more_others b ne) ∙ h) in
            record { worker = before.worker; its = before.its; told = told_on before.worker before.told }
      ]

  needed_all : (w : ℕ) → is_told_anew old new w ≡ true → (s : State) → StandsFor v s → IsForgotten s old w
  needed_all w h =
      elim (cases_eq w n) [
        | inl is ↦
            λ s stands. subst (λ (k : ℕ). IsForgotten s old k) (sym is)
            (forgotten_before s old now x.rest n (forgotten s stands))
        | inr ne ↦ x.needed w (sym (told_besides w ne) ∙ h)
      ]

  rightly_all : (s : State) → StandsFor v s → (w : ℕ) → w < n + 1 → SleepsRightly s new w
  rightly_all s stands w lt =
      elim (cases_lt w n) [
        | inl less ↦ rightly_stays s now new keeps w (x.rightly s stands w less)
        | inr le ↦
            let is : n ≡ w = omega arith in
            subst (λ (k : ℕ). SleepsRightly s new k) is
            (λ other untold_there. absurd (told_or_not (placed new n) want other (here now n want there) untold_there))
      ]

  pub settled_told : IsSettledTo v old new more (n + 1)
  settled_told =
      record {
        rest = keeps_on old now new x.rest keeps;
        told = told_all;
        only = only_all;
        needed = needed_all;
        rightly = rightly_all;
      }

pub settled_as : (v : vault.Parts) (old now new : List (Option Sleeper)) (mask more n : ℕ) → now ≡ new → mask ≡ more
    → IsSettledTo v old now mask n → IsSettledTo v old new more n
settled_as v old now new mask more n places masks x =
    subst (λ (m : ℕ). IsSettledTo v old new m n) masks
    (subst (λ (xs : List (Option Sleeper)). IsSettledTo v old xs mask n) places x)

-- all were settled
pub settled_all : (v : vault.Parts) (old now : List (Option Sleeper)) (mask n : ℕ) → IsSettledTo v old now mask n
    → length old ≤ n → NoWakeUpIsLost v now
settled_all v old now mask n x all = λ s stands w. elim (cases_lt w n) [
  | inl lt ↦ x.rightly s stands w lt
  | inr le ↦
      let past : length now ≤ w = omega (arith, x.rest.places) in
      λ want there. absurd (none-some (untold want) (sym (get_or_past now w None past) ∙ there))
]

-- ---- nobody sleeps untold

pub none_lost : (v : vault.Parts) (xs : List (Option Sleeper)) → ((w : ℕ) → is_untold (placed xs w) ≡ false)
    → NoWakeUpIsLost v xs
none_lost v xs none = λ s stands w want there.
    absurd (both_ways (is_untold (placed xs w)) (none w) (waits_there (placed xs w) want there))

-- as where they count as none
pub none_waits_in : (xs ys : List (Option Sleeper)) (n : ℕ) → IsCounted xs n → n ≡ 0 → xs ≡ ys → (w : ℕ)
    → is_untold (placed ys w) ≡ false
none_waits_in xs ys n counted empty same w =
    ap (λ zs. is_untold (placed zs w)) (sym same) ∙ counted_nowhere xs (counted.same ∙ empty) w
