-- What becomes of the images that a hand has, by what becomes of its token and its guards.
use Rattle.std.proofs.Common.{◌≡◌, ◌≢◌, ◌∙◌, ℕ, ◌<◌, ◌≤◌, Bool, true, false, Option, Some, None, List, length, refl, sym, ap}
use Rattle.std.proofs.Common.{subst, arith}
use Rattle.std.specs.Prelude.{slice_set, nat_lt}
use Rattle.std.proofs.lemmas.Bool.Decides.{nat_tests}
use Rattle.std.proofs.lemmas.List.{get_or_past, get_or-set_same, get_or-set_other, length-set}
use Rattle.pp_model.proofs.Requests.{same, other, which}
use Rattle.pp_vault.specs.declared.guards.Guard.{Guard}
use Rattle.pp_vault.specs.declared.guards.Guard.TheVariants.{Write}
use Rattle.pp_vault.specs.declared.guards.WriteGuard.{WriteGuard}
use Rattle.pp_vault.specs.declared.stage.Hand.{Hand}
use Rattle.pp_vault.specs.declared.stage.Stage.{Stage}
use Rattle.pp_vault.specs.Holding.{placed}
use Rattle.pp_contents.specs.Content.{victim_by}
use Rattle.pp_contents.specs.HandMoves.{IsNowAt, HasNow, HasSpent}
use Rattle.pp_contents.proofs.AgreementPlaces.{place_low}
use Rattle.pp_vault.proofs.FitTests.{none_some}
use Rattle.pp_contents.proofs.ImageSteps.{TokenIn, guarded, sent, SameToken}

-- ---- one place of the guards

abbrev Places : Type 0
Places = List (Option Guard)

-- What is found in a place that was written is what was written there.
pub set_there : (xs : Places) (k : ℕ) (o : Option Guard) (g : Guard) → placed (slice_set xs k o) k ≡ Some g → o ≡ Some g
set_there xs k o g e = go (nat_lt k (length xs)) refl
  where
    go : (b : Bool) → nat_lt k (length xs) ≡ b → o ≡ Some g
    go true is =
        let low : k < length xs = grind (arith, nat_tests) in
        sym (get_or-set_same xs k o None low) ∙ e
    go false is =
        let past : length xs ≤ k = grind (arith, nat_tests) in
        absurd (none_some (sym (get_or_past {X = Option Guard} (slice_set xs k o) k None
        (subst (λ n. n ≤ k) (sym (length-set xs k o)) past)) ∙ e))

-- A guard of the page that has it latched X.
abbrev pub WritesPage : (page : ℕ) → Option Guard → Type 0
WritesPage page o = (g : WriteGuard) × (o ≡ Some (Write g)) × (g.page ≡ page)

module _ (hand left : Hand) (page : ℕ) (stage : victim_by page left.stage ≡ victim_by page hand.stage) where
  -- The guards are as they were in all places but one; in this one no guard of the page is or was.
  pub token_same : (slot : ℕ) → ((k : ℕ) → k ≢ slot → placed left.guards k ≡ placed hand.guards k)
      → (WritesPage page (placed hand.guards slot) → ⊥) → (WritesPage page (placed left.guards slot) → ⊥)
      → SameToken hand left page
  token_same slot others was now = (there, back)
    where
      there : (image : List ℕ) → TokenIn hand page image → TokenIn left page image
      there image (guarded k g at is has) =
          elim (which k slot) [
            | same e f ↦ absurd (was (g, ap (placed hand.guards) (sym e) ∙ at, is))
            | other d f ↦ guarded k g (others k d ∙ at) is has
          ]
      there image (sent e) = sent (stage ∙ e)

      back : (image : List ℕ) → TokenIn left page image → TokenIn hand page image
      back image (guarded k g at is has) =
          elim (which k slot) [
            | same e f ↦ absurd (now (g, ap (placed left.guards) (sym e) ∙ at, is))
            | other d f ↦ guarded k g (sym (others k d) ∙ at) is has
          ]
      back image (sent e) = sent (sym stage ∙ e)

  -- The guards are as they were.
  pub token_stays : left.guards ≡ hand.guards → SameToken hand left page
  token_stays e = (there, back)
    where
      there : (image : List ℕ) → TokenIn hand page image → TokenIn left page image
      there image (guarded k g at is has) = guarded k g (ap (λ xs. placed xs k) e ∙ at) is has
      there image (sent f) = sent (stage ∙ f)

      back : (image : List ℕ) → TokenIn left page image → TokenIn hand page image
      back image (guarded k g at is has) = guarded k g (sym (ap (λ xs. placed xs k) e) ∙ at) is has
      back image (sent f) = sent (sym stage ∙ f)

-- ---- what calls make of a hand

-- The hand has another token, and its guards.
module _ (hand left : Hand) (x : Stage) (now : IsNowAt hand x left) (page : ℕ)
    (stage : victim_by page x ≡ victim_by page hand.stage) where
  pub at_now : SameToken hand left page
  at_now =
      token_stays hand left page (ap (λ (h : Hand). victim_by page h.stage) now ∙ stage)
      (ap (λ (h : Hand). h.guards) now)

-- The guard in a place was this, and is this one, or spent.
module _ (hand left : Hand) (x : Stage) (slot : ℕ) (guards : Places) (now : left ≡ record { stage = x; guards = guards })
    (page : ℕ) (stage : victim_by page x ≡ victim_by page hand.stage)
    (others : (k : ℕ) → k ≢ slot → placed guards k ≡ placed hand.guards k)
    (was : WritesPage page (placed hand.guards slot) → ⊥) (isnt : WritesPage page (placed guards slot) → ⊥) where
  pub guards_now : SameToken hand left page
  guards_now =
      token_same hand left page (ap (λ (h : Hand). victim_by page h.stage) now ∙ stage) slot
      (λ k d. ap (λ (h : Hand). placed h.guards k) now ∙ others k d) was
      (λ w. isnt (w.0, sym (ap (λ (h : Hand). placed h.guards slot) now) ∙ w.1, w.2))

-- A place that is spent, then written.
pub set_others : (xs : Places) (slot : ℕ) (o : Option Guard) (k : ℕ) → k ≢ slot
    → placed (slice_set xs slot o) k ≡ placed xs k
set_others xs slot o k d = get_or-set_other xs slot k o None d

pub twice_others : (xs : Places) (slot : ℕ) (o : Option Guard) (k : ℕ) → k ≢ slot
    → placed (slice_set (slice_set xs slot None) slot o) k ≡ placed xs k
twice_others xs slot o k d = set_others (slice_set xs slot None) slot o k d ∙ set_others xs slot None k d

-- What is written there is there, where the place had something.
pub now_there : (hand left : Hand) (x : Stage) (slot : ℕ) (was guard : Guard) → placed hand.guards slot ≡ Some was
    → HasNow hand x slot guard left → placed left.guards slot ≡ Some guard
now_there hand left x slot was guard at now =
    ap (λ (h : Hand). placed h.guards slot) now
    ∙ get_or-set_same (slice_set hand.guards slot None) slot (Some guard) None
    (subst (λ n. slot < n) (sym (length-set hand.guards slot None)) (place_low hand.guards slot was at))

-- The guard of the slot is another now. Neither it nor the one before has the page latched X.
pub has_now : (hand left : Hand) (x : Stage) (slot : ℕ) (was guard : Guard) → placed hand.guards slot ≡ Some was
    → HasNow hand x slot guard left → (page : ℕ) → victim_by page x ≡ victim_by page hand.stage
    → (WritesPage page (Some was) → ⊥) → (WritesPage page (Some guard) → ⊥) → SameToken hand left page
has_now hand left x slot was guard at now page stage before after =
    guards_now hand left x slot (slice_set (slice_set hand.guards slot None) slot (Some guard)) now page stage
    (twice_others hand.guards slot (Some guard))
    (λ w. before (w.0, sym at ∙ w.1, w.2))
    (λ w. after (w.0, set_there (slice_set hand.guards slot None) slot (Some guard) (Write w.0) w.1, w.2))

-- It is spent.
pub has_spent : (hand left : Hand) (x : Stage) (slot : ℕ) (was : Guard) → placed hand.guards slot ≡ Some was
    → HasSpent hand x slot left → (page : ℕ) → victim_by page x ≡ victim_by page hand.stage
    → (WritesPage page (Some was) → ⊥) → SameToken hand left page
has_spent hand left x slot was at now page stage before =
    guards_now hand left x slot (slice_set hand.guards slot None) now page stage (set_others hand.guards slot None)
    (λ w. before (w.0, sym at ∙ w.1, w.2))
    (λ w. none_some (set_there hand.guards slot None (Write w.0) w.1))

-- A guard that has no page latched X came into a place in which there was none.
pub has_more : (hand left : Hand) (x : Stage) (slot : ℕ) (guard : Guard) → (placed hand.guards slot ≡ None)
    → left ≡ record { stage = x; guards = slice_set hand.guards slot (Some guard) } → (page : ℕ)
    → victim_by page x ≡ victim_by page hand.stage → (WritesPage page (Some guard) → ⊥) → SameToken hand left page
has_more hand left x slot guard none now page stage after =
    guards_now hand left x slot (slice_set hand.guards slot (Some guard)) now page stage
    (set_others hand.guards slot (Some guard))
    (λ w. none_some (sym none ∙ w.1))
    (λ w. after (w.0, set_there hand.guards slot (Some guard) (Write w.0) w.1, w.2))
