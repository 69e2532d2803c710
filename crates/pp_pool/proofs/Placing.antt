-- Places from which a guard is taken, and to which it goes back.
use Rattle.std.proofs.Common.{◌≡◌, ◌∙◌, ◌<◌, ℕ, suc, true, false, Option, Some, None, List, [], ◌∷◌, length, refl, sym, ap, subst, inl, inr, arith}
use Rattle.std.specs.Prelude.{ltb, ◌&&◌, ◌||◌, Bool, is_none, slice_set, IfSome, IfOk, Result, Ok, Err}
use Rattle.std.specs.Option.{is_some}
use Rattle.std.proofs.lemmas.List.{get_or-set_same, length-set, set-set, set-get_or, get_or_past}
use Rattle.std.proofs.lemmas.Bool.{lt-ltb, cases_lt, false≢true}
use Rattle.pp_settings.specs.Layout.{Geometry, HasPage}
use Rattle.pp_plan.specs.declared.action.Ask.TheVariants as ask
use Rattle.pp_core.specs.Fixing.{wanted}
use Rattle.pp_vault.specs.declared.tokens.Session.{Session}
use Rattle.pp_vault.specs.declared.tokens.Returned.{Returned}
use Rattle.pp_vault.specs.declared.guards.Guard.{Guard}
use Rattle.pp_vault.specs.Duties.{duty_slot}
use Rattle.pp_vault.specs.Fits.{fix_slot}
use Rattle.pp_vault.specs.Holding.{slot_by, placed, is_free, all_free, has_bundle}
use Rattle.pp_pool.specs.declared.request.Request.{Request}
use Rattle.pp_pool.specs.declared.request.Request.TheVariants as request
use Rattle.pp_pool.specs.Replies.{slot_for}
use Rattle.pp_pool.specs.Turns.{guard_asked, places_without, IsStep, IsWorkers, FindsPlace, HasBundle, LeavesInOrder, Prepares}
use Rattle.pp_pool.specs.Turns.{has_place}

none_is_some : (g : Guard) → ◌≡◌ {A = Option Guard} None (Some g) → ⊥
none_is_some g e = cc

module _ (places : List (Option Guard)) (n : ℕ) (g : Guard) (there : placed places n ≡ Some g) where
  -- What is in a place is within the places.
  within : n < length places
  within =
      elim (cases_lt n (length places)) [
        | inl lt ↦ lt
        | inr le ↦ absurd (none_is_some g (sym (get_or_past places n None le) ∙ there))
      ]

  pub taken_free : is_free (slice_set places n None) n ≡ true
  taken_free =
      ap (λ k. ltb n k && is_none (placed (slice_set places n None) n)) (length-set places n None)
      ∙ ap (λ b. b && is_none (placed (slice_set places n None) n)) (lt-ltb n (length places) within)
      ∙ ap is_none (get_or-set_same places n None None within)

  pub put_back : slice_set (slice_set places n None) n (Some g) ≡ places
  put_back =
      set-set places n None (Some g) ∙ ap (λ o. slice_set places n o) (sym there) ∙ set-get_or places n None

-- Where no place has a guard, all are free.
all_free_from : (places : List (Option Guard)) → ((k : ℕ) → k < length places → placed places k ≡ None)
    → all_free places ≡ true
all_free_from [] h = refl
all_free_from (None ∷ places) h =
    all_free_from places (λ k lt. h (suc k) (omega (arith, lt)))
all_free_from (Some g ∷ places) h = ap is_none (h 0 (omega arith))

pub not_free : (places : List (Option Guard)) → all_free places ≡ false → length places ≡ 32
    → ((k : ℕ) → k < 32 → placed places k ≡ None) → ⊥
not_free places some long h =
    false≢true (sym some ∙ all_free_from places (λ k lt. h k (omega (arith, lt, long))))

-- What the plan asks is no step of the way out.
leaves_none : (places : List (Option Guard)) (layout : Geometry) (x : Session) (asked : Request) → IsStep layout x asked
    → LeavesInOrder places asked
leaves_none places layout x (request.GiveBack y h) step = absurd step
leaves_none places layout x (request.End y) step = absurd step
leaves_none places layout x (request.Take chair) step = tt
leaves_none places layout x (request.Fix y page) step = tt
leaves_none places layout x (request.Join y page) step = tt
leaves_none places layout x (request.Unfix y h) step = tt
leaves_none places layout x (request.Scatter y h) step = tt
leaves_none places layout x (request.LatchShared y h) step = tt
leaves_none places layout x (request.LatchExclusive y h) step = tt
leaves_none places layout x (request.UnlatchShared y h) step = tt
leaves_none places layout x (request.UnlatchExclusive y h) step = tt
leaves_none places layout x (request.Choose y branch) step = tt
leaves_none places layout x (request.Finish y) step = tt
leaves_none places layout x (request.Answer returned) step = tt
leaves_none places layout x (request.AnswerJoin returned) step = tt
leaves_none places layout x (request.Flush page) step = tt
leaves_none places layout x (request.FlushNext number) step = tt

-- ---- a page that is asked for

-- A request for a page is what the plan asks.
pub fix_step : (layout : Geometry) (x : Session) (slot region page : ℕ) → x.ask ≡ ask.Fix slot region
    → HasPage layout region page → IsStep layout x (request.Fix x page)
fix_step layout x slot region page asks has = (refl, slot, region, ap wanted asks, has)

pub gather_step : (layout : Geometry) (x : Session) (slot region page : ℕ) → x.ask ≡ ask.Gather slot region
    → HasPage layout region page → IsStep layout x (request.Fix x page)
gather_step layout x slot region page asks has = (refl, slot, region, ap wanted asks, has)

pub join_step : (layout : Geometry) (x : Session) (slot region page : ℕ) → x.ask ≡ ask.Gather slot region
    → HasPage layout region page → IsStep layout x (request.Join x page)
join_step layout x slot region page asks has = (refl, slot, region, asks, has)

module _ (places : List (Option Guard)) (x : Session) (slot region page : ℕ) where
  fixes_at : fix_slot x.ask ≡ slot → is_free places slot ≡ true → Prepares places (request.Fix x page) places
  fixes_at of free =
      record { keeps = refl; own = tt; finds = ap (is_free places) of ∙ free; leaves = tt; workers = tt }

  -- A fix is asked where the place of its slot is free.
  pub fix_prepared : x.ask ≡ ask.Fix slot region → is_free places slot ≡ true
      → Prepares places (request.Fix x page) places
  fix_prepared asks free = fixes_at (ap fix_slot asks) free

  -- So is a gather that opens a bundle.
  pub opening_prepared : x.ask ≡ ask.Gather slot region → is_free places slot ≡ true
      → Prepares places (request.Fix x page) places
  opening_prepared asks free = fixes_at (ap fix_slot asks) free

  -- One that joins a bundle is asked where the bundle's guard is.
  pub joining_prepared : x.ask ≡ ask.Gather slot region → has_bundle (placed places slot) ≡ true
      → Prepares places (request.Join x page) places
  joining_prepared asks there =
      record {
        keeps = refl;
        own = tt;
        finds = ap (λ a. has_bundle (placed places (fix_slot a))) asks ∙ there;
        leaves = tt;
        workers = tt;
      }

-- ---- what a device has done

free_of : (free bundle : Bool) → (free || bundle) ≡ true → bundle ≡ false → free ≡ true
free_of true bundle may none = refl
free_of false bundle may none = absurd (false≢true (sym none ∙ may))

free_there : (places : List (Option Guard)) (o : Option ℕ) (slot : ℕ) → o ≡ Some slot → has_place places o ≡ true
    → has_bundle (placed places slot) ≡ false → IfSome o (λ k. is_free places k ≡ true)
free_there places None slot is may none = absurd (false≢true may)
free_there places (Some k) slot is may none =
    let same : k ≡ slot = cc in
    free_of (is_free places k) (has_bundle (placed places k)) may (ap (λ n. has_bundle (placed places n)) same ∙ none)

bundle_there : (places : List (Option Guard)) (o : Option ℕ) (slot : ℕ) → o ≡ Some slot
    → has_bundle (placed places slot) ≡ true → IfSome o (HasBundle places)
bundle_there places None slot is there = tt
bundle_there places (Some k) slot is there =
    let same : k ≡ slot = cc in ap (λ n. has_bundle (placed places n)) same ∙ there

-- For a page of the slot's own, or the first of a bundle, it is sent where the place is free.
pub answer_prepared : (places : List (Option Guard)) (returned : Returned) (slot : ℕ) → duty_slot returned.duty ≡ Some slot
    → has_place places (duty_slot returned.duty) ≡ true → has_bundle (placed places slot) ≡ false
    → Prepares places (request.Answer returned) places
answer_prepared places returned slot is may none =
    record {
      keeps = refl;
      own = tt;
      finds = free_there places (duty_slot returned.duty) slot is may none;
      leaves = tt;
      workers = ap is_some is;
    }

-- For a further page of a bundle it is sent where the bundle's guard is.
pub join_prepared : (places : List (Option Guard)) (returned : Returned) (slot : ℕ) → duty_slot returned.duty ≡ Some slot
    → has_bundle (placed places slot) ≡ true → Prepares places (request.AnswerJoin returned) places
join_prepared places returned slot is there =
    record {
      keeps = refl;
      own = tt;
      finds = bundle_there places (duty_slot returned.duty) slot is there;
      leaves = tt;
      workers = ap is_some is;
    }

-- ---- the hand's own guard

-- What stands in a place stands in the place of its slot.
pub own_there : (places : List (Option Guard)) (n : ℕ) (g : Guard) → placed places n ≡ Some g → slot_by g ≡ n
    → placed places (slot_by g) ≡ Some g
own_there places n g there slot = ap (placed places) slot ∙ there

-- A request with a guard in it joins no bundle, so it finds its place where that is free.
finds_free : (places : List (Option Guard)) (g : Guard) (asked : Request) → guard_asked asked ≡ Some g
    → IfSome (slot_for asked) (λ k. is_free places k ≡ true) → FindsPlace places asked
finds_free places g (request.Join x page) e free = absurd (none_is_some g e)
finds_free places g (request.AnswerJoin returned) e free = absurd (none_is_some g e)
finds_free places g (request.Take chair) e free = free
finds_free places g (request.Fix x page) e free = free
finds_free places g (request.Unfix x h) e free = free
finds_free places g (request.Scatter x h) e free = free
finds_free places g (request.LatchShared x h) e free = free
finds_free places g (request.LatchExclusive x h) e free = free
finds_free places g (request.UnlatchShared x h) e free = free
finds_free places g (request.UnlatchExclusive x h) e free = free
finds_free places g (request.Choose x branch) e free = free
finds_free places g (request.Finish x) e free = free
finds_free places g (request.End x) e free = free
finds_free places g (request.GiveBack x h) e free = free
finds_free places g (request.Answer returned) e free = free
finds_free places g (request.Flush page) e free = free
finds_free places g (request.FlushNext number) e free = free

-- A worker whose slot has this guard makes the request with it.
pub prepared : (places rest : List (Option Guard)) (n : ℕ) (g : Guard) (asked : Request) → placed places n ≡ Some g
    → slot_by g ≡ n → rest ≡ slice_set places n None → guard_asked asked ≡ Some g → slot_for asked ≡ Some (slot_by g)
    → IsWorkers asked → (layout : Geometry) (x : Session) → IsStep layout x asked → Prepares places asked rest
prepared places rest n g asked there slot keeps guard by workers layout x step =
    record {
      keeps =
          keeps ∙ ap (λ k. slice_set places k None) (sym slot) ∙ ap (places_without places) (sym guard);
      own =
          subst (λ (o : Option Guard). IfSome o (λ h. placed places (slot_by h) ≡ Some h)) (sym guard)
          (own_there places n g there slot);
      finds =
          finds_free rest g asked guard
          (subst (λ (o : Option ℕ). IfSome o (λ k. is_free rest k ≡ true)) (sym by)
          (ap (is_free rest) slot ∙ ap (λ (ps : List (Option Guard)). is_free ps n) keeps ∙ taken_free places n g there));
      leaves = leaves_none places layout x asked step;
      workers = workers;
    }

-- The same where the plan asks it in every layout.
pub prepared_so : (places rest : List (Option Guard)) (n : ℕ) (g : Guard) (asked : Request) (x : Session)
    → placed places n ≡ Some g → slot_by g ≡ n → rest ≡ slice_set places n None → guard_asked asked ≡ Some g
    → slot_for asked ≡ Some (slot_by g) → IsWorkers asked → ((l : Geometry) → IsStep l x asked) → Prepares places asked rest
prepared_so places rest n g asked x there slot keeps guard by workers step =
    let layout : Geometry = record { frames = 0; extents = [] } in
    prepared places rest n g asked there slot keeps guard by workers layout x (step layout)

-- A guard that no request takes goes back to its place.
pub back_same : (places mid rest : List (Option Guard)) (n : ℕ) (g : Guard) → placed places n ≡ Some g
    → slot_by g ≡ n → mid ≡ slice_set places n None → rest ≡ slice_set mid (slot_by g) (Some g) → rest ≡ places
back_same places mid rest n g there slot taken put =
    put
    ∙ ap (λ k. slice_set mid k (Some g)) slot
    ∙ ap (λ (ps : List (Option Guard)). slice_set ps n (Some g)) taken
    ∙ put_back places n g there

-- So all places are what they were.
pub guards_back : (x y : Session) (places mid rest : List (Option Guard)) (n : ℕ) (g h : Guard) → ◌≡◌ {A = Session × Guard} (x, g) (y, h)
    → placed places n ≡ Some h → slot_by h ≡ n → mid ≡ slice_set places n None
    → rest ≡ slice_set mid (slot_by g) (Some g) → rest ≡ places
guards_back x y places mid rest n g h back there slot taken put =
    let same : g ≡ h = ap (λ (p : Session × Guard). p.1) back in
    back_same places mid rest n h there slot taken (put ∙ ap (λ k. slice_set mid (slot_by k) (Some k)) same)

-- A step that holds in every layout holds in this one.
pub step_at : (r : Result Request Session) (layout : Geometry) (x : Session)
    → IfOk r (λ asked. (l : Geometry) → IsStep l x asked) → IfOk r (λ asked. IsStep layout x asked)
step_at (Ok asked) layout x h = h layout
step_at (Err e) layout x h = tt

-- A request that any guards prepare is prepared by these.
pub prepares_at : (r : Result Request Session) (places : List (Option Guard))
    → IfOk r (λ asked. (ps : List (Option Guard)) → Prepares ps asked ps) → IfOk r (λ asked. Prepares places asked places)
prepares_at (Ok asked) places h = h places
prepares_at (Err e) places h = tt
