-- A fix and a gather with a hand that fits.
use Rattle.std.proofs.Common.{◌≡◌, ◌≢◌, ◌∙◌, ℕ, Bool, true, false, Option, Some, List, nat_eq, refl, sym, ap, subst, arith}
use Rattle.std.specs.Prelude.{◌==◌, if◌then◌else◌, slice_set}
use Rattle.std.proofs.lemmas.Bool.Decides.{nat_tests}
use Rattle.pp_plan.specs.declared.action.Ask.TheVariants as ask
use Rattle.pp_cert.specs.declared.note.Held.TheVariants.{Free}
use Rattle.pp_model.specs.declared.moves.Move.TheVariants as move
use Rattle.pp_model.specs.Pool.{State}
use Rattle.pp_model.specs.Moves.{next_of, is_refusal}
use Rattle.pp_core.specs.Queries.{bundle_of}
use Rattle.pp_core.specs.AfterMoves.{AfterMoves, HasGathered}
use Rattle.pp_core.proofs.AfterMoves.{after_moves}
use Rattle.pp_vault.specs.declared.refusal.Refusal.{Refusal}
use Rattle.pp_vault.specs.declared.tokens.Duty.{Duty}
use Rattle.pp_vault.specs.declared.tokens.Duty.TheVariants as duty
use Rattle.pp_vault.specs.declared.tokens.Errand.{Errand}
use Rattle.pp_vault.specs.declared.tokens.Session.{Session}
use Rattle.pp_vault.specs.declared.guards.PinGuard.{PinGuard}
use Rattle.pp_vault.specs.declared.guards.BundleGuard.{BundleGuard}
use Rattle.pp_vault.specs.declared.guards.Guard.{Guard}
use Rattle.pp_vault.specs.declared.guards.Guard.TheVariants.{Pin, Bundle}
use Rattle.pp_vault.specs.declared.stage.Stage.TheVariants.{In, Out}
use Rattle.pp_vault.specs.Parts.{Parts}
use Rattle.pp_vault.specs.StandsFor.{StandsFor, IsKept}
use Rattle.pp_vault.specs.Calls.{asks, stranger, refusal_of, after_call}
use Rattle.pp_vault.specs.Events.{Does, Refuses}
use Rattle.pp_vault.specs.Fits.{fix_slot, names_slot, fix_call, is_gathered}
use Rattle.pp_vault.specs.declared.fixing.Fixed.{Fixed}
use Rattle.pp_vault.specs.declared.fixing.Fixed.TheVariants.{Got, Opened, Joined, Away}
use Rattle.pp_vault.specs.Fixes.{FixAnswers, IsHit, OpensBundle, JoinsBundle, IsSent}
use Rattle.pp_vault.specs.Tokens.{ErrandFits}
use Rattle.pp_vault.specs.Duties.{duty_worker}
use Rattle.pp_vault.specs.HandLaws.{FitsIn, LeavesSlot}
use Rattle.pp_vault.specs.Holding.{is_free}
use Rattle.pp_vault.proofs.FitTests.{page_gathered}
use Rattle.pp_script.specs.declared.cue.Cue.TheVariants as cue
use Rattle.pp_play.specs.declared.line.Line.{Line}
use Rattle.pp_play.specs.declared.line.Line.TheVariants.{Did, Refused}
use Rattle.pp_model.specs.declared.moves.Move.{Move}
use Rattle.pp_model.specs.declared.reply.Reply.{Reply}
use Rattle.pp_play.specs.Doing.{FixHasPlace, IsDone, HandPlays}
use Rattle.pp_play.specs.Guarding.{hand_of}
use Rattle.pp_play.proofs.Leaves.{did_leaves}
use Rattle.pp_play.proofs.Room.{gathered_same, room_free}
use Rattle.pp_play.proofs.Slots.{low, low_gathered}
use Rattle.pp_play.proofs.StillFitting.{StillFit, refused_plays, others_fit, all_fit, one_fits, line_fits}

same_test : (m n : ℕ) → m ≡ n → (m == n) ≡ true
same_test m n e = grind (arith, nat_tests)

-- Whatever came of the fix, its call is done.
pub fix_does : (old new : Parts) (x : Session) (page : ℕ) (out : Fixed) → FixAnswers old x page out new
    → Does old (fix_call x.worker (fix_slot x.ask) page) new
fix_does old new x page (Got y g) ends = ends.0
fix_does old new x page (Opened y g) ends = ends.0
fix_does old new x page (Joined y) ends = ends.0
fix_does old new x page (Away errand) ends = ends.0

-- ---- the place of a page that came at once

module _ (old new : Parts) (kept : IsKept old) (x : Session) (page : ℕ) (places : List (Option Guard))
    (place : FixHasPlace old x.worker places) where
  -- A page that is fixed finds it free, since its slot was empty.
  pub hit_free : (y : Session) (g : PinGuard) → IsHit old new x.worker page y g → is_free places g.slot ≡ true
  hit_free y g hit =
      let s = kept.state in
      let st = kept.stands in
      let a = hit.asked s st in
      room_free s x.worker places g.slot (hit.was s st).no_bundle (place s st (ask.Fix g.slot a.0) g.slot a.1 refl)

  -- So does the first page of a bundle.
  pub opened_free : (y : Session) (g : BundleGuard) → OpensBundle old new x.worker page y g
      → is_free places g.slot ≡ true
  opened_free y g opens =
      let s = kept.state in
      let st = kept.stands in
      let a = opens.asked s st in
      room_free s x.worker places g.slot (opens.was s st).no_bundle (place s st (ask.Gather g.slot a.0) g.slot a.1 refl)

-- ---- the hand

module _ (old new : Parts) (kept : IsKept old) (x : Session) (page : ℕ) (places : List (Option Guard))
    (fits : FitsIn old x.worker (hand_of (In x) places)) where
  calls : (s : State) → StandsFor old s → fix_call x.worker (fix_slot x.ask) page s ≡ asks (move.Fix x.worker page)
  calls s st =
      ap (λ b. if b then asks (move.Fix x.worker page) else stranger)
      (ap (names_slot (fix_slot x.ask)) ((fits s st).stage.1) ∙ same_test (fix_slot x.ask) (fix_slot x.ask) refl)

  pub fix_refused : (why : Refusal) → Refuses old (fix_call x.worker (fix_slot x.ask) page) why → new ≡ old
      → HandPlays old x.worker (hand_of (In x) places) (cue.Fix x.worker page) (Refused (cue.Fix x.worker page) why) new
      (hand_of (In x) places)
  fix_refused why refuses same =
      refused_plays old new same x.worker (hand_of (In x) places) (cue.Fix x.worker page) why fits
      (λ s st. subst (λ c. refusal_of s c ≡ Some why) (calls s st) (refuses s st))

  after : (s : State) → StandsFor old s → AfterMoves s
  after s st = after_moves s st.core.reached

  module _ (laws : StillFit) (does : Does old (fix_call x.worker (fix_slot x.ask) page) new) (line : Line)
      {told : Move × Reply} (done : IsDone old (cue.Fix x.worker page) told new) (tells : line ≡ Did told.0 told.1) where
    there : StandsFor new (after_call kept.state (fix_call x.worker (fix_slot x.ask) page kept.state))
    there = does.stands kept.state kept.stands

    -- The page was cached.
    pub fix_got : (y : Session) (g : PinGuard) → IsHit old new x.worker page y g
        → HandPlays old x.worker (hand_of (In x) places) (cue.Fix x.worker page) line new
        (hand_of (In y) (slice_set places g.slot (Some (Pin g))))
    fix_got y g hit =
        record {
          exact = line_fits old new (cue.Fix x.worker page) line done tells (move.Fix x.worker page) (λ n e. e) (λ s. refl)
              places (slice_set places g.slot (Some (Pin g)));
          leaves =
              did_leaves old new line tells (hand_of (In x) places)
              (hand_of (In y) (slice_set places g.slot (Some (Pin g))));
          fit = one_fits laws old new (fix_call x.worker (fix_slot x.ask) page) kept does x.worker (move.Fix x.worker page)
              refl calls (In x)
              (In y) places fits (λ s st. (hit.session.worker, hit.session.ask s st)) g.slot (Some (Pin g))
              (low new _ x.worker g.slot there (g.page, Free) (hit.guard.held _ there))
              (λ s st. record { worker = hit.guard.worker; of_slot = refl; held = hit.guard.held s st })
              (λ s st k off.
              let r = hit.replies s st in
              let a = hit.asked s st in
              let fixed = (after s st).hit x.worker page g.slot a.0 r.0 r.1 r.2 a.1 in (
                fixed.others k off,
                gathered_same s (next_of s (move.Fix x.worker page)) x.worker k (fixed.bundles k),
                λ h. h,
              ));
          others = others_fit laws old new (fix_call x.worker (fix_slot x.ask) page) kept does x.worker
              (move.Fix x.worker page) refl calls;
        }

    -- It was, and it is the first of a bundle.
    pub fix_opened : (y : Session) (g : BundleGuard) → OpensBundle old new x.worker page y g
        → HandPlays old x.worker (hand_of (In x) places) (cue.Fix x.worker page) line new
        (hand_of (In y) (slice_set places g.slot (Some (Bundle g))))
    fix_opened y g opens =
        record {
          exact = line_fits old new (cue.Fix x.worker page) line done tells (move.Fix x.worker page) (λ n e. e) (λ s. refl)
              places (slice_set places g.slot (Some (Bundle g)));
          leaves =
              did_leaves old new line tells (hand_of (In x) places)
              (hand_of (In y) (slice_set places g.slot (Some (Bundle g))));
          fit = one_fits laws old new (fix_call x.worker (fix_slot x.ask) page) kept does x.worker (move.Fix x.worker page)
              refl calls (In x)
              (In y) places fits (λ s st. (opens.session.worker, opens.session.ask s st)) g.slot (Some (Bundle g))
              (low_gathered new _ x.worker g.slot there (opens.guard.gathered _ there))
              (λ s st. record { worker = opens.guard.worker; of_slot = refl; gathered = opens.guard.gathered s st })
              (λ s st k off.
              let r = opens.replies s st in
              let a = opens.asked s st in
              let gathered = (after s st).hit_gather x.worker page g.slot a.0 r.0 r.1 r.2 a.1 in (
                gathered.slots k,
                gathered_same s (next_of s (move.Fix x.worker page)) x.worker k (gathered.others k off),
                λ h. h,
              ));
          others = others_fit laws old new (fix_call x.worker (fix_slot x.ask) page) kept does x.worker
              (move.Fix x.worker page) refl calls;
        }

    -- It was, and it is one more of a bundle: each slot is a bundle where it was one.
    joined_bundle : (slot mark : ℕ) (s : State) → is_gathered s x.worker slot ≡ true
        → HasGathered s (next_of s (move.Fix x.worker page)) x.worker slot page mark → (k : ℕ) (b : Bool)
        → nat_eq k slot ≡ b → is_gathered (next_of s (move.Fix x.worker page)) x.worker k ≡ is_gathered s x.worker k
    joined_bundle slot mark s was gathered k true e =
        let at : k ≡ slot = grind (arith, nat_tests) in
        let next = next_of s (move.Fix x.worker page) in
        subst (λ j. is_gathered next x.worker j ≡ is_gathered s x.worker j) (sym at)
        (page_gathered next x.worker slot page (bundle_of s x.worker slot) gathered.more ∙ sym was)
    joined_bundle slot mark s was gathered k false e =
        let off : k ≢ slot = grind (arith, nat_tests) in
        gathered_same s (next_of s (move.Fix x.worker page)) x.worker k (gathered.others k off)

    joined_leaves : (slot : ℕ) (y : Session) → JoinsBundle old new x.worker slot page y → (s : State)
        → StandsFor old s → (k : ℕ) → LeavesSlot s (asks (move.Fix x.worker page)) x.worker k
    joined_leaves slot y joins s st k =
        let r = joins.replies s st in
        let a = joins.asked s st in
        let gathered = (after s st).hit_gather x.worker page slot a.0 r.0 r.1 r.2 a.1 in
        (gathered.slots k, joined_bundle slot r.1 s (joins.was s st) gathered k (nat_eq k slot) refl, λ h. h)

    pub fix_joined : (slot : ℕ) (y : Session) → JoinsBundle old new x.worker slot page y
        → HandPlays old x.worker (hand_of (In x) places) (cue.Fix x.worker page) line new (hand_of (In y) places)
    fix_joined slot y joins =
        record {
          exact = line_fits old new (cue.Fix x.worker page) line done tells (move.Fix x.worker page) (λ n e. e) (λ s. refl)
              places places;
          leaves =
              did_leaves old new line tells (hand_of (In x) places)
              (hand_of (In y) places);
          fit = all_fit laws old new (fix_call x.worker (fix_slot x.ask) page) kept does x.worker (move.Fix x.worker page) refl
              calls (In x)
              (In y) places fits (λ s st. (joins.session.worker, joins.session.ask s st))
              (λ s st k. joined_leaves slot y joins s st k);
          others = others_fit laws old new (fix_call x.worker (fix_slot x.ask) page) kept does x.worker
              (move.Fix x.worker page) refl calls;
        }

    -- A device has to work.
    away_worker : (d : Duty) (image : List ℕ) → IsSent old new x.worker page image d → duty_worker d ≡ Some x.worker
    away_worker (duty.Read v slot p) image sent = ap (λ u. Some u) sent.0
    away_worker (duty.Write v slot p victim) image sent = ap (λ u. Some u) sent.0
    away_worker (duty.Flush p) image sent = absurd sent

    away_leaves : (d : Duty) (image : List ℕ) → IsSent old new x.worker page image d → (s : State) → StandsFor old s
        → (k : ℕ) → LeavesSlot s (asks (move.Fix x.worker page)) x.worker k
    away_leaves (duty.Read v slot p) image sent s st k =
        let r = sent.2 s st in
        let f = (after s st).found (move.Fix x.worker page) (ap is_refusal r.1) in
        let out = (after s st).sent x.worker page f.0 f.1 r.0 r.1 f.2 in
        (out.slots k, gathered_same s (next_of s (move.Fix x.worker page)) x.worker k (out.bundles k), λ h. h)
    away_leaves (duty.Write v slot p victim) image sent s st k =
        let r = sent.2 s st in
        let f = (after s st).found (move.Fix x.worker page) (ap is_refusal r.1) in
        let out = (after s st).sent_victim x.worker page f.0 f.1 r.0 victim r.1 f.2 in
        (out.slots k, gathered_same s (next_of s (move.Fix x.worker page)) x.worker k (out.bundles k), λ h. h)
    away_leaves (duty.Flush p) image sent s st k = absurd sent

    pub fix_away : (e : Errand) → IsSent old new x.worker page e.image e.duty → ErrandFits new e
        → HandPlays old x.worker (hand_of (In x) places) (cue.Fix x.worker page) line new (hand_of (Out e) places)
    fix_away e sent errand =
        record {
          exact = line_fits old new (cue.Fix x.worker page) line done tells (move.Fix x.worker page) (λ n q. q) (λ s. refl)
              places places;
          leaves =
              did_leaves old new line tells (hand_of (In x) places)
              (hand_of (Out e) places);
          fit = all_fit laws old new (fix_call x.worker (fix_slot x.ask) page) kept does x.worker (move.Fix x.worker page) refl
              calls (In x)
              (Out e) places fits
              (λ s st. record {
                worker = away_worker e.duty e.image sent;
                out = errand.out s st;
                headed = errand.headed s st;
                long = errand.long;
              })
              (λ s st k. away_leaves e.duty e.image sent s st k);
          others = others_fit laws old new (fix_call x.worker (fix_slot x.ask) page) kept does x.worker
              (move.Fix x.worker page) refl calls;
        }
