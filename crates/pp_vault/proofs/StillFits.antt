-- The hand of a worker that makes no move still fits.
use Rattle.std.proofs.Common.{◌≡◌, ◌≢◌, ◌∙◌, ℕ, Option, Some, None, List, length, nat_lt, refl, sym, ap, subst}
use Rattle.std.specs.Prelude.{unwrap_or, option_map, is_some}
use Rattle.std.proofs.lemmas.Bool.{false≢true}
use Rattle.pp_cert.specs.declared.note.Held.TheVariants.{S, X}
use Rattle.pp_model.specs.declared.moves.Move.{Move}
use Rattle.pp_model.specs.declared.moves.Move.TheVariants as move
use Rattle.pp_model.specs.Pool.{State, known_mark}
use Rattle.pp_model.specs.Moves.{next_of}
use Rattle.pp_model.specs.Reached.{IsReached}
use Rattle.pp_model.specs.WorkerParts.{worker_of}
use Rattle.pp_core.specs.Parts as core
use Rattle.pp_core.specs.StandsFor as core_stands
use Rattle.pp_core.specs.Queries.{held_of, errand_of, flushed_page}
use Rattle.pp_core.specs.AfterMoves.{WorkerStays, Releases}
use Rattle.pp_core.proofs.AfterMoves.{after_moves}
use Rattle.pp_core.proofs.Alike.{same_idle, same_leaving, same_ask, same_held, same_bundle, same_pending, same_errand, same_mark, same_flushed}
use Rattle.pp_vault.specs.declared.tokens.Duty.{Duty}
use Rattle.pp_vault.specs.declared.tokens.Duty.TheVariants as duty
use Rattle.pp_vault.specs.declared.guards.Guard.{Guard}
use Rattle.pp_vault.specs.declared.guards.Guard.TheVariants.{Pin, Read, Write, Bundle}
use Rattle.pp_vault.specs.declared.stage.Stage.{Stage}
use Rattle.pp_vault.specs.declared.stage.Stage.TheVariants.{Idle, In, Out, Back, Leaving}
use Rattle.pp_vault.specs.declared.stage.Hand.{Hand}
use Rattle.pp_vault.specs.declared.hands.Flushing.{Flushing}
use Rattle.pp_vault.specs.declared.hands.Flushing.TheVariants as flushing
use Rattle.pp_vault.specs.Parts.{Parts}
use Rattle.pp_vault.specs.StandsFor.{StandsFor, IsKept}
use Rattle.pp_vault.specs.Calls.{Call, stranger, refused, asks, after_call}
use Rattle.pp_vault.specs.Events.{Does}
use Rattle.pp_vault.specs.Fits.{is_gathered}
use Rattle.pp_vault.specs.Hands.{IsAway, StageFits, PlaceFits, HandFits, IsFlushAway, FlushingFits}
use Rattle.pp_vault.specs.HandLaws.{caller, FitsIn, LeavesSlot}
use Rattle.pp_vault.specs.Holding.{placed}

-- What is told of worker v in t is as in s, and the marks that its tokens tell are too.
pub record Same (s t : State) (v : ℕ) : Type 0 where
  pub stays : WorkerStays s t v
  pub shared : (slot page : ℕ) → held_of s v slot ≡ Some (page, S) → known_mark t page ≡ known_mark s page
  pub exclusive : (slot page : ℕ) → held_of s v slot ≡ Some (page, X) → known_mark t page ≡ known_mark s page
  pub victim : (slot page victim : ℕ) → errand_of s v ≡ Some (slot, page, Some victim)
      → known_mark t victim ≡ known_mark s victim

-- ---- one slot

-- What a slot holds in t is as in s, and so is the mark of a page that it has latched; it is a bundle in t where it is in s.
pub record SameSlot (s t : State) (v slot : ℕ) : Type 0 where
  pub held : held_of t v slot ≡ held_of s v slot
  pub gathered : is_gathered t v slot ≡ is_gathered s v slot
  pub shared : (page : ℕ) → held_of s v slot ≡ Some (page, S) → known_mark t page ≡ known_mark s page
  pub exclusive : (page : ℕ) → held_of s v slot ≡ Some (page, X) → known_mark t page ≡ known_mark s page

place_kept : (n : ℕ) (s t : State) (v slot : ℕ) → SameSlot s t v slot → (o : Option Guard) → PlaceFits n s v slot o
    → PlaceFits n t v slot o
place_kept n s t v slot same None fits =
    record { no_page = same.held ∙ fits.no_page; no_bundle = same.gathered ∙ fits.no_bundle }
place_kept n s t v slot same (Some (Bundle g)) fits =
    record { worker = fits.worker; of_slot = fits.of_slot; gathered = same.gathered ∙ fits.gathered }
place_kept n s t v slot same (Some (Pin g)) fits =
    record { worker = fits.worker; of_slot = fits.of_slot; held = same.held ∙ fits.held }
place_kept n s t v slot same (Some (Read g)) fits =
    record {
      worker = fits.worker;
      of_slot = fits.of_slot;
      held = same.held ∙ fits.held;
      mark = same.shared g.page fits.held ∙ fits.mark;
    }
place_kept n s t v slot same (Some (Write g)) fits =
    record {
      worker = fits.worker;
      of_slot = fits.of_slot;
      held = same.held ∙ fits.held;
      mark = same.exclusive g.page fits.held ∙ fits.mark;
      head = fits.head;
      long = fits.long;
    }

-- ---- from one such state to the other

module _ (n : ℕ) (s t : State) (v : ℕ) (same : Same s t v) where
  slot_still : (slot : ℕ) → SameSlot s t v slot
  slot_still slot =
      record {
        held = same.stays.held slot;
        gathered = ap (λ (ps : List ℕ). nat_lt 0 (length ps)) (same.stays.bundles slot);
        shared = λ page held. same.shared slot page held;
        exclusive = λ page held. same.exclusive slot page held;
      }

  place_still : (slot : ℕ) (o : Option Guard) → PlaceFits n s v slot o → PlaceFits n t v slot o
  place_still slot o fits = place_kept n s t v slot (slot_still slot) o fits

  errand_still : (w : ℕ) (e : Option (ℕ × ℕ × Option ℕ)) → ◌≡◌ {A = Option ℕ} (Some w) (Some v) → errand_of s w ≡ e
      → errand_of t w ≡ e
  errand_still w e of out =
      let is : v ≡ w = sym (ap (λ o. unwrap_or o w) of) in
      subst (λ u. errand_of t u ≡ errand_of s u) is same.stays.errand ∙ out

  errand_mine : (w : ℕ) (e : Option (ℕ × ℕ × Option ℕ)) → ◌≡◌ {A = Option ℕ} (Some w) (Some v) → errand_of s w ≡ e
      → errand_of s v ≡ e
  errand_mine w e of out = subst (λ u. errand_of s u ≡ e) (ap (λ o. unwrap_or o w) of) out

  away_still : (d : Duty) (image : List ℕ) → IsAway n s v d image → IsAway n t v d image
  away_still (duty.Read w slot page) image away =
      record {
        worker = away.worker;
        out = errand_still w (Some (slot, page, None)) away.worker away.out;
        headed = tt;
        long = away.long;
      }
  away_still (duty.Write w slot page victim) image away =
      record {
        worker = away.worker;
        out = errand_still w (Some (slot, page, Some victim)) away.worker away.out;
        headed =
            away.headed
            ∙ ap (λ o. option_map (λ mark. (victim, mark)) o)
            (sym (same.victim slot page victim (errand_mine w (Some (slot, page, Some victim)) away.worker away.out)));
        long = away.long;
      }
  away_still (duty.Flush page) image away = absurd (false≢true (ap is_some away.worker))

  stage_still : (x : Stage) → StageFits n s v x → StageFits n t v x
  stage_still (Idle chair) fits = (fits.0, same.stays.idle ∙ fits.1)
  stage_still (In session) fits = (fits.0, same.stays.asks ∙ fits.1)
  stage_still (Out errand) fits = away_still errand.duty errand.image fits
  stage_still (Back returned) fits = away_still returned.duty returned.image fits
  stage_still (Leaving leaver) fits = (fits.0, same.stays.leaving ∙ fits.1)

  pub hand_still : (hand : Hand) → HandFits n s v hand → HandFits n t v hand
  hand_still hand fits =
      record {
        stage = stage_still hand.stage fits.stage;
        places = fits.places;
        guards = λ slot. place_still slot (placed hand.guards slot) (fits.guards slot);
      }

-- ---- such states

not_released : (s : State) (m : Move) (v slot : ℕ) → worker_of m ≢ Some v → Releases s m v slot → ⊥
not_released s (move.Unlatch w) v slot apart r = apart (ap (λ u. Some u) r.0)
not_released s (move.Unwind w k) v slot apart r = apart (ap (λ u. Some u) r.0)
not_released s (move.Take w) v slot apart r = r
not_released s (move.Fix w page) v slot apart r = r
not_released s (move.WriteDone w ok) v slot apart r = r
not_released s (move.ReadDone w came) v slot apart r = r
not_released s (move.Unfix w) v slot apart r = r
not_released s (move.Latch w) v slot apart r = r
not_released s (move.Choose w branch) v slot apart r = r
not_released s (move.Finish w) v slot apart r = r
not_released s (move.FlushBegin page) v slot apart r = r
not_released s (move.FlushDone ok) v slot apart r = r

-- A move of another.
after_other : (s : State) (m : Move) (v : ℕ) → IsReached s → worker_of m ≢ Some v → Same s (next_of s m) v
after_other s m v reached apart =
    let laws = after_moves s reached in
    record {
      stays = laws.others m v apart;
      shared = λ slot page held. laws.shared_mark m v slot page held;
      exclusive = λ slot page held. laws.exclusive_mark m v slot page held (not_released s m v slot apart);
      victim = λ slot page victim out. laws.victim_mark m v slot page victim out;
    }

unchanged : (s : State) (v : ℕ) → Same s s v
unchanged s v =
    record {
      stays = record { idle = refl; leaving = refl; asks = refl; held = λ slot. refl; bundles = λ slot. refl; pending = refl; errand = refl };
      shared = λ slot page held. refl;
      exclusive = λ slot page held. refl;
      victim = λ slot page victim out. refl;
    }

same_after : (s : State) (c : Call) (v : ℕ) → IsReached s → caller c ≢ Some v → Same s (after_call s c) v
same_after s stranger v reached apart = unchanged s v
same_after s (refused why) v reached apart = unchanged s v
same_after s (asks m) v reached apart = after_other s m v reached apart

-- Two states that a core stands for.
pub same_told : (f : core.Parts) (s t : State) → core_stands.StandsFor f s → core_stands.StandsFor f t → (v : ℕ)
    → Same s t v
same_told f s t a b v =
    record {
      stays =
          record {
            idle = same_idle f t s b a v;
            leaving = same_leaving f t s b a v;
            asks = same_ask f t s b a v;
            held = λ slot. same_held f t s b a v slot;
            bundles = λ slot. same_bundle f t s b a v slot;
            pending = same_pending f t s b a v;
            errand = same_errand f t s b a v;
          };
      shared = λ slot page held. same_mark f t s b a page;
      exclusive = λ slot page held. same_mark f t s b a page;
      victim = λ slot page victim out. same_mark f t s b a victim;
    }

-- ---- parts

-- What fits one state that the parts stand for fits all.
pub fits_all : (v : Parts) (s : State) → StandsFor v s → (w : ℕ) (hand : Hand) → HandFits v.page_bytes s w hand
    → FitsIn v w hand
fits_all v s stands w hand fits t st =
    hand_still v.page_bytes s t w (same_told v.core s t stands.core st.core w) hand fits

pub still_fits : (old new : Parts) (call : State → Call) → IsKept old → Does old call new → (w : ℕ)
    → ((s : State) → StandsFor old s → caller (call s) ≢ Some w) → (hand : Hand) → FitsIn old w hand
    → FitsIn new w hand
still_fits old new call k does w apart hand fits =
    let s = k.state in
    let after : HandFits old.page_bytes (after_call s (call s)) w hand =
    hand_still old.page_bytes s (after_call s (call s)) w
    (same_after s (call s) w k.stands.core.reached (apart s k.stands)) hand (fits s k.stands) in
    fits_all new (after_call s (call s)) (does.stands s k.stands) w hand
    (subst (λ n. HandFits n (after_call s (call s)) w hand) (sym does.page_bytes) after)

-- ---- one slot, after any call

slot_after : (s : State) (c : Call) (w slot : ℕ) → IsReached s → LeavesSlot s c w slot
    → SameSlot s (after_call s c) w slot
slot_after s stranger w slot reached leaves =
    record { held = refl; gathered = refl; shared = λ page held. refl; exclusive = λ page held. refl }
slot_after s (refused why) w slot reached leaves =
    record { held = refl; gathered = refl; shared = λ page held. refl; exclusive = λ page held. refl }
slot_after s (asks m) w slot reached leaves =
    let laws = after_moves s reached in
    record {
      held = leaves.0;
      gathered = leaves.1;
      shared = λ page held. laws.shared_mark m w slot page held;
      exclusive = λ page held. laws.exclusive_mark m w slot page held leaves.2;
    }

pub slot_still_fits : (old new : Parts) (call : State → Call) → IsKept old → Does old call new → (w slot : ℕ)
    → ((s : State) → StandsFor old s → LeavesSlot s (call s) w slot) → (o : Option Guard)
    → ((s : State) → StandsFor old s → PlaceFits old.page_bytes s w slot o) → (t : State) → StandsFor new t
    → PlaceFits new.page_bytes t w slot o
slot_still_fits old new call k does w slot leaves o fits t st =
    let s = k.state in
    let after : State = after_call s (call s) in
    let there : PlaceFits old.page_bytes after w slot o =
    place_kept old.page_bytes s after w slot (slot_after s (call s) w slot k.stands.core.reached (leaves s k.stands)) o
    (fits s k.stands) in
    subst (λ n. PlaceFits n t w slot o) (sym does.page_bytes)
    (place_still old.page_bytes after t w (same_told new.core after t (does.stands s k.stands).core st.core w) slot o there)

-- ---- the flusher's token

module _ (n : ℕ) (s t : State) (same : flushed_page t ≡ flushed_page s) where
  flush_still : (d : Duty) (image : List ℕ) → IsFlushAway n s d image → IsFlushAway n t d image
  flush_still (duty.Read w slot page) image away = away
  flush_still (duty.Write w slot page victim) image away = away
  flush_still (duty.Flush page) image away = (same ∙ away.0, away.1)

  pub flushing_still : (f : Option Flushing) → FlushingFits n s f → FlushingFits n t f
  flushing_still None fits = same ∙ fits
  flushing_still (Some (flushing.Out errand)) fits = flush_still errand.duty errand.image fits
  flushing_still (Some (flushing.Back returned)) fits = flush_still returned.duty returned.image fits

flush_after : (s : State) (c : Call) (w : ℕ) → IsReached s → caller c ≡ Some w
    → flushed_page (after_call s c) ≡ flushed_page s
flush_after s stranger w reached by = refl
flush_after s (refused why) w reached by = refl
flush_after s (asks m) w reached by = (after_moves s reached).flush_left m w by

pub flushing_still_fits : (old new : Parts) (call : State → Call) → IsKept old → Does old call new → (w : ℕ)
    → ((s : State) → StandsFor old s → caller (call s) ≡ Some w) → (f : Option Flushing)
    → ((s : State) → StandsFor old s → FlushingFits old.page_bytes s f) → (t : State) → StandsFor new t
    → FlushingFits new.page_bytes t f
flushing_still_fits old new call k does w by f fits t st =
    let s = k.state in
    let after : State = after_call s (call s) in
    let here : flushed_page t ≡ flushed_page s =
    same_flushed new.core t after st.core (does.stands s k.stands).core
    ∙ flush_after s (call s) w k.stands.core.reached (by s k.stands) in
    subst (λ n. FlushingFits n t f) (sym does.page_bytes)
    (flushing_still old.page_bytes s t here f (fits s k.stands))
