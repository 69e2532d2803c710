-- What the answer of a device leaves of its worker's hand.
use Rattle.std.proofs.Common.{◌≡◌, ◌≢◌, ◌∙◌, ℕ, ◌<◌, Bool, true, false, Option, Some, None, List, length, refl, sym, ap}
use Rattle.std.proofs.Common.{nat_eq, subst, arith}
use Rattle.std.specs.Prelude.{slice_set, if◌then◌else◌, is_some}
use Rattle.std.proofs.lemmas.Bool.Decides.{nat_tests}
use Rattle.std.proofs.lemmas.List.{length-set}
use Rattle.pp_plan.specs.declared.action.Ask.TheVariants as ask
use Rattle.pp_cert.specs.declared.note.Held.TheVariants.{Free}
use Rattle.pp_model.specs.declared.moves.Came.{Came}
use Rattle.pp_model.specs.declared.moves.Move.{Move}
use Rattle.pp_model.specs.declared.moves.Move.TheVariants as move
use Rattle.pp_model.specs.declared.reply.Failure.TheVariants.{WriteFault}
use Rattle.pp_model.specs.declared.reply.Reply.{Reply}
use Rattle.pp_model.specs.declared.reply.Reply.TheVariants as reply
use Rattle.pp_model.specs.Pool.{State}
use Rattle.pp_model.specs.Moves.{reply_of, next_of}
use Rattle.pp_core.specs.Queries.{errand_of, pending_of, held_of, bundle_of}
use Rattle.pp_core.specs.AfterMoves.{SlotsStay, BundlesStay, HasFixed, HasGathered}
use Rattle.pp_core.proofs.AfterMoves.{after_moves}
use Rattle.pp_device.specs.Image.{head_of}
use Rattle.pp_vault.specs.declared.tokens.Duty.{Duty}
use Rattle.pp_vault.specs.declared.tokens.Duty.TheVariants as duty
use Rattle.pp_vault.specs.declared.tokens.Errand.{Errand}
use Rattle.pp_vault.specs.declared.tokens.Leaver.{Leaver}
use Rattle.pp_vault.specs.declared.tokens.Session.{Session}
use Rattle.pp_vault.specs.declared.guards.Guard.{Guard}
use Rattle.pp_vault.specs.declared.guards.Guard.TheVariants.{Pin, Bundle}
use Rattle.pp_vault.specs.declared.guards.PinGuard.{PinGuard}
use Rattle.pp_vault.specs.declared.guards.BundleGuard.{BundleGuard}
use Rattle.pp_vault.specs.declared.answering.Answered.TheVariants.{Got, Opened, Joined, Away, Lost}
use Rattle.pp_vault.specs.declared.stage.Hand.{Hand}
use Rattle.pp_vault.specs.declared.stage.Stage.TheVariants.{In, Out, Leaving}
use Rattle.pp_vault.specs.Parts.{Parts}
use Rattle.pp_vault.specs.StandsFor.{StandsFor, IsKept}
use Rattle.pp_vault.specs.Calls.{Call, asks, stranger}
use Rattle.pp_vault.specs.Events.{Does}
use Rattle.pp_vault.specs.Duties.{duty_worker}
use Rattle.pp_vault.specs.Answers.{read_call, write_call, is_read_out, is_write_out, came_of, DutyEnds}
use Rattle.pp_vault.specs.Answers.{IsRead, IsReadFirst, IsReadFurther, IsUnread, IsWritten, IsUnwritten}
use Rattle.pp_vault.specs.Fits.{is_gathered}
use Rattle.pp_vault.specs.Hands.{IsAway, PlaceFits}
use Rattle.pp_vault.specs.HandLaws.{caller, FitsIn, LeavesSlot}
use Rattle.pp_vault.specs.Holding.{placed}
use Rattle.pp_vault.proofs.FitTests.{page_gathered}
use Rattle.pp_script.specs.declared.cue.Cue.TheVariants as cue
use Rattle.pp_play.specs.declared.line.Line.{Line}
use Rattle.pp_play.specs.declared.line.Line.TheVariants.{Did}
use Rattle.pp_play.specs.Doing.{LeavesOthers, LeavesHand, HandPlays}
use Rattle.pp_play.specs.Exact.{IsLineOf, unless_out}
use Rattle.pp_play.proofs.Asked.{same}
use Rattle.pp_play.proofs.Leaves.{did_leaves}
use Rattle.pp_play.proofs.Room.{gathered_same}
use Rattle.pp_play.proofs.Slots.{low, low_gathered}
use Rattle.pp_play.proofs.Others.{StillFits, asked_so, leaves_others, place_set, did_line}

-- ---- a call of worker w that is done, for an errand that is out

module _ (still : StillFits) (old new : Parts) (kept : IsKept old) (w : ℕ) (test : State → Bool) (asked : Move)
    (by : caller (asks asked) ≡ Some w)
    (does : Does old (λ s. if test s then asks asked else stranger) new) where
  abbrev call : State → Call
  call s = if test s then asks asked else stranger

  is_asked : (s : State) → StandsFor old s → test s ≡ true
  is_asked s st = asked_so s (test s) asked (does.allowed s st)

  pub by_worker : (s : State) → StandsFor old s → caller (call s) ≡ Some w
  by_worker s st = subst (λ b. caller (if b then asks asked else stranger) ≡ Some w) (sym (is_asked s st)) by

  -- The place of a slot that the move leaves still fits.
  pub slot_left : (slot : ℕ) (place : Option Guard)
      → ((s : State) → StandsFor old s → LeavesSlot s (asks asked) w slot)
      → ((s : State) → StandsFor old s → PlaceFits old.page_bytes s w slot place)
      → (t : State) → StandsFor new t → PlaceFits new.page_bytes t w slot place
  slot_left slot place leaves fits =
      still.slots old new call kept does w slot
      (λ s st. subst (λ b. LeavesSlot s (if b then asks asked else stranger) w slot) (sym (is_asked s st)) (leaves s st))
      place fits

-- ---- a read

module _ (still : StillFits) (old new : Parts) (kept : IsKept old) (w slot page : ℕ) (image : List ℕ) (ok : Bool) (hand : Hand)
    (fits : FitsIn old w hand) (out : (s : State) → StandsFor old s → errand_of s w ≡ Some (slot, page, None))
    (does : Does old (read_call old.page_bytes w slot page image ok) new) (line : Line)
    {told : Move × Reply} (tells : line ≡ Did told.0 told.1) where
  abbrev came : Came
  came = came_of ok (head_of image)

  abbrev read_test : State → Bool
  read_test s = is_read_out old.page_bytes w slot page image s

  read_line : (now : List (Option Guard)) (s : State) → StandsFor old s
      → IsLineOf old s hand.guards now (cue.Device w) line
  read_line now s st =
      did_line old new (cue.Device w) line tells s hand.guards now (ap (λ o. unless_out (is_some o)) (out s st))

  read_leaves : (left : Hand) → LeavesHand old hand line new left
  read_leaves left = did_leaves old new line tells hand left

  read_others : LeavesOthers old w new
  read_others =
      leaves_others still old new (read_call old.page_bytes w slot page image ok) w kept does
      (by_worker still old new kept w read_test (move.ReadDone w came) refl does)

  -- A slot is left that holds what it held, its own page or as a bundle.
  abbrev Left : State → (k : ℕ) → Type 0
  Left s k =
      (held_of (next_of s (move.ReadDone w came)) w k ≡ held_of s w k)
      × (is_gathered (next_of s (move.ReadDone w came)) w k ≡ is_gathered s w k)

  read_slot : (k : ℕ) → ((s : State) → StandsFor old s → Left s k) → (t : State) → StandsFor new t
      → PlaceFits new.page_bytes t w k (placed hand.guards k)
  read_slot k leaves =
      slot_left still old new kept w read_test (move.ReadDone w came) refl does k (placed hand.guards k)
      (λ s st. let l = leaves s st in (l.0, l.1, λ r. r)) (λ s st. (fits s st).guards k)

  same_bundle : (s : State) (k : ℕ) → bundle_of (next_of s (move.ReadDone w came)) w k ≡ bundle_of s w k
      → is_gathered (next_of s (move.ReadDone w came)) w k ≡ is_gathered s w k
  same_bundle s k e = gathered_same s (next_of s (move.ReadDone w came)) w k e

  -- The page came, and the plan asked a gather.
  read_gathered : (mark : ℕ) (s : State) (st : StandsFor old s)
      → reply_of s (move.ReadDone w came) ≡ reply.Loaded mark → (region : ℕ)
      → pending_of s w ≡ Some (ask.Gather slot region)
      → HasGathered s (next_of s (move.ReadDone w came)) w slot page mark
  read_gathered mark s st told region asked =
      ((after_moves s st.core.reached).loaded w came slot page mark told (out s st)).gathered region asked

  -- The page came, and the plan asked a fix.
  read_fixed : (x : Session) (g : PinGuard) (r : IsRead old w slot page image ok x g new) (s : State)
      (st : StandsFor old s)
      → HasFixed s (next_of s (move.ReadDone w came)) w slot page (r.replies s st).0
  read_fixed x g r s st =
      let told = r.replies s st in
      let asked = r.asked s st in
      ((after_moves s st.core.reached).loaded w came slot page told.0 told.1 (out s st)).fixed asked.0 asked.1

  got_fits : (x : Session) (g : PinGuard) (guards : List (Option Guard))
      → guards ≡ slice_set hand.guards g.slot (Some (Pin g)) → IsRead old w slot page image ok x g new
      → FitsIn new w (record { stage = In x; guards = guards })
  got_fits x g guards is r t st =
      let long : length hand.guards ≡ 32 = (fits kept.state kept.stands).places in
      let low_slot : g.slot < length hand.guards =
      subst (λ n. g.slot < n) (sym long) (low new t w g.slot st (g.page, Free) (r.guard.held t st)) in
      let others : (k : ℕ) → k ≢ g.slot → PlaceFits new.page_bytes t w k (placed hand.guards k) =
      λ k apart. read_slot k
      (λ s st. let fixed = read_fixed x g r s st in
      (fixed.others k (λ e. apart (e ∙ sym r.of_slot)), same_bundle s k (fixed.bundles k))) t st in
      record {
        stage = (r.session.worker, r.session.ask t st);
        places = ap length is ∙ length-set hand.guards g.slot (Some (Pin g)) ∙ long;
        guards = λ k.
            subst (λ l. PlaceFits new.page_bytes t w k (placed l k)) (sym is)
            (place_set new.page_bytes t w hand.guards g.slot (Some (Pin g)) low_slot
            (record { worker = r.guard.worker; of_slot = refl; held = r.guard.held t st }) others k);
      }

  pub got_plays : (x : Session) (g : PinGuard) (guards : List (Option Guard))
      → guards ≡ slice_set hand.guards g.slot (Some (Pin g)) → IsRead old w slot page image ok x g new
      → HandPlays old w hand (cue.Device w) line new (record { stage = In x; guards = guards })
  got_plays x g guards is r =
      record {
        exact = read_line guards;
        leaves = read_leaves (record { stage = In x; guards = guards });
        fit = got_fits x g guards is r;
        others = read_others;
      }

  -- The page came, and the plan asked a gather: it is the first of the bundle.
  opened_fits : (x : Session) (g : BundleGuard) (guards : List (Option Guard))
      → guards ≡ slice_set hand.guards g.slot (Some (Bundle g)) → IsReadFirst old w slot page image ok x g new
      → FitsIn new w (record { stage = In x; guards = guards })
  opened_fits x g guards is r t st =
      let long : length hand.guards ≡ 32 = (fits kept.state kept.stands).places in
      let low_slot : g.slot < length hand.guards =
      subst (λ n. g.slot < n) (sym long) (low_gathered new t w g.slot st (r.guard.gathered t st)) in
      let others : (k : ℕ) → k ≢ g.slot → PlaceFits new.page_bytes t w k (placed hand.guards k) =
      λ k apart. read_slot k
      (λ s st. let told = r.replies s st in
      let asked = r.asked s st in
      let gathered = read_gathered told.0 s st told.1 asked.0 asked.1 in
      (gathered.slots k, same_bundle s k (gathered.others k (λ e. apart (e ∙ sym r.of_slot))))) t st in
      record {
        stage = (r.session.worker, r.session.ask t st);
        places = ap length is ∙ length-set hand.guards g.slot (Some (Bundle g)) ∙ long;
        guards = λ k.
            subst (λ l. PlaceFits new.page_bytes t w k (placed l k)) (sym is)
            (place_set new.page_bytes t w hand.guards g.slot (Some (Bundle g)) low_slot
            (record { worker = r.guard.worker; of_slot = refl; gathered = r.guard.gathered t st }) others k);
      }

  pub opened_plays : (x : Session) (g : BundleGuard) (guards : List (Option Guard))
      → guards ≡ slice_set hand.guards g.slot (Some (Bundle g)) → IsReadFirst old w slot page image ok x g new
      → HandPlays old w hand (cue.Device w) line new (record { stage = In x; guards = guards })
  opened_plays x g guards is r =
      record {
        exact = read_line guards;
        leaves = read_leaves (record { stage = In x; guards = guards });
        fit = opened_fits x g guards is r;
        others = read_others;
      }

  -- It is one more of the bundle: each slot is a bundle where it was one.
  joined_bundle : (s : State) (mark : ℕ) → is_gathered s w slot ≡ true
      → HasGathered s (next_of s (move.ReadDone w came)) w slot page mark → (k : ℕ) (b : Bool) → nat_eq k slot ≡ b
      → is_gathered (next_of s (move.ReadDone w came)) w k ≡ is_gathered s w k
  joined_bundle s mark was gathered k true e =
      let at : k ≡ slot = grind (arith, nat_tests) in
      let next = next_of s (move.ReadDone w came) in
      subst (λ j. is_gathered next w j ≡ is_gathered s w j) (sym at)
      (page_gathered next w slot page (bundle_of s w slot) gathered.more ∙ sym was)
  joined_bundle s mark was gathered k false e =
      let off : k ≢ slot = grind (arith, nat_tests) in
      same_bundle s k (gathered.others k off)

  joined_fits : (x : Session) → IsReadFurther old w slot page image ok x new
      → FitsIn new w (record { stage = In x; guards = hand.guards })
  joined_fits x r t st =
      record {
        stage = (r.session.worker, r.session.ask t st);
        places = (fits kept.state kept.stands).places;
        guards = λ k.
            read_slot k
            (λ s st. let told = r.replies s st in
            let asked = r.asked s st in
            let gathered = read_gathered told.0 s st told.1 asked.0 asked.1 in
            (gathered.slots k, joined_bundle s told.0 (r.was s st) gathered k (nat_eq k slot) refl)) t st;
      }

  pub joined_plays : (x : Session) → IsReadFurther old w slot page image ok x new
      → HandPlays old w hand (cue.Device w) line new (record { stage = In x; guards = hand.guards })
  joined_plays x r =
      record {
        exact = read_line hand.guards;
        leaves = read_leaves (record { stage = In x; guards = hand.guards });
        fit = joined_fits x r;
        others = read_others;
      }

  -- It didn't.
  unread_fits : (leaver : Leaver) → IsUnread old w page image ok leaver new
      → FitsIn new w (record { stage = Leaving leaver; guards = hand.guards })
  unread_fits leaver r t st =
      record {
        stage = (r.worker, r.leaves t st);
        places = (fits kept.state kept.stands).places;
        guards = λ k.
            read_slot k
            (λ s st. let lost = (after_moves s st.core.reached).not_read w came (r.replies s st).0 (r.replies s st).1 in
            (lost.slots k, same_bundle s k (lost.bundles k))) t st;
      }

  pub unread_plays : (leaver : Leaver) → IsUnread old w page image ok leaver new
      → HandPlays old w hand (cue.Device w) line new (record { stage = Leaving leaver; guards = hand.guards })
  unread_plays leaver r =
      record {
        exact = read_line hand.guards;
        leaves = read_leaves (record { stage = Leaving leaver; guards = hand.guards });
        fit = unread_fits leaver r;
        others = read_others;
      }

-- ---- a victim's write

module _ (still : StillFits) (old new : Parts) (kept : IsKept old) (w slot page victim : ℕ) (image : List ℕ) (ok : Bool)
    (hand : Hand)
    (fits : FitsIn old w hand)
    (out : (s : State) → StandsFor old s → errand_of s w ≡ Some (slot, page, Some victim))
    (does : Does old (write_call old.page_bytes w slot page victim image ok) new) (line : Line)
    {told : Move × Reply} (tells : line ≡ Did told.0 told.1) where
  abbrev write_test : State → Bool
  write_test s = is_write_out old.page_bytes w slot page victim image s

  write_line : (s : State) → StandsFor old s → IsLineOf old s hand.guards hand.guards (cue.Device w) line
  write_line s st =
      did_line old new (cue.Device w) line tells s hand.guards hand.guards
      (ap (λ o. unless_out (is_some o)) (out s st))

  write_leaves : (left : Hand) → LeavesHand old hand line new left
  write_leaves left = did_leaves old new line tells hand left

  write_others : LeavesOthers old w new
  write_others =
      leaves_others still old new (write_call old.page_bytes w slot page victim image ok) w kept does
      (by_worker still old new kept w write_test (move.WriteDone w ok) refl does)

  write_slots : ((s : State) → StandsFor old s → SlotsStay s (next_of s (move.WriteDone w ok)) w)
      → ((s : State) → StandsFor old s → BundlesStay s (next_of s (move.WriteDone w ok)) w) → (t : State)
      → StandsFor new t → (k : ℕ) → PlaceFits new.page_bytes t w k (placed hand.guards k)
  write_slots leaves bundles t st k =
      slot_left still old new kept w write_test (move.WriteDone w ok) refl does k (placed hand.guards k)
      (λ s st. (
        leaves s st k,
        gathered_same s (next_of s (move.WriteDone w ok)) w k (bundles s st k),
        λ r. r,
      ))
      (λ s st. (fits s st).guards k) t st

  -- The victim is written, and the page has to be read.
  written_fits : (errand : Errand) → ok ≡ true → IsWritten old w slot page victim image errand new
      → FitsIn new w (record { stage = Out errand; guards = hand.guards })
  written_fits errand e r t st =
      record {
        stage =
            record {
              worker = ap duty_worker r.duty;
              out = r.fits.out t st;
              headed = r.fits.headed t st;
              long = r.fits.long;
            };
        places = (fits kept.state kept.stands).places;
        guards =
            write_slots
            (λ s st. ((after_moves s st.core.reached).written w ok slot page victim (r.replies s st).0
            (ap (λ b. reply_of s (move.WriteDone w b)) e ∙ (r.replies s st).1) (out s st)).slots)
            (λ s st. ((after_moves s st.core.reached).written w ok slot page victim (r.replies s st).0
            (ap (λ b. reply_of s (move.WriteDone w b)) e ∙ (r.replies s st).1) (out s st)).bundles) t st;
      }

  pub written_plays : (errand : Errand) → ok ≡ true → IsWritten old w slot page victim image errand new
      → HandPlays old w hand (cue.Device w) line new (record { stage = Out errand; guards = hand.guards })
  written_plays errand e r =
      record {
        exact = write_line;
        leaves = write_leaves (record { stage = Out errand; guards = hand.guards });
        fit = written_fits errand e r;
        others = write_others;
      }

  -- It isn't.
  unwritten_fits : (leaver : Leaver) → ok ≡ false → IsUnwritten old w page image leaver new
      → FitsIn new w (record { stage = Leaving leaver; guards = hand.guards })
  unwritten_fits leaver e r t st =
      record {
        stage = (r.worker, r.leaves t st);
        places = (fits kept.state kept.stands).places;
        guards =
            write_slots
            (λ s st. ((after_moves s st.core.reached).not_written w ok WriteFault
            (ap (λ b. reply_of s (move.WriteDone w b)) e ∙ r.replies s st)).slots)
            (λ s st. ((after_moves s st.core.reached).not_written w ok WriteFault
            (ap (λ b. reply_of s (move.WriteDone w b)) e ∙ r.replies s st)).bundles) t st;
      }

  pub unwritten_plays : (leaver : Leaver) → ok ≡ false → IsUnwritten old w page image leaver new
      → HandPlays old w hand (cue.Device w) line new (record { stage = Leaving leaver; guards = hand.guards })
  unwritten_plays leaver e r =
      record {
        exact = write_line;
        leaves = write_leaves (record { stage = Leaving leaver; guards = hand.guards });
        fit = unwritten_fits leaver e r;
        others = write_others;
      }

-- ---- by the duty

module _ (still : StillFits) (old new : Parts) (kept : IsKept old) (w : ℕ) (image : List ℕ) (ok : Bool) (hand : Hand)
    (fits : FitsIn old w hand) (line : Line) {told : Move × Reply} (tells : line ≡ Did told.0 told.1) where
  abbrev AwayFor : Duty → Type 0
  AwayFor d = (s : State) → StandsFor old s → IsAway old.page_bytes s w d image

  worker_is : (v : ℕ) (d : Duty) → AwayFor d → duty_worker d ≡ Some v → v ≡ w
  worker_is v d away of = same v w (sym of ∙ (away kept.state kept.stands).worker)

  abbrev PlaysFor : Hand → ℕ → Type 0
  PlaysFor left v = HandPlays old v hand (cue.Device v) line new left

  fits_for : (v : ℕ) → v ≡ w → FitsIn old v hand
  fits_for v e = subst (λ u. FitsIn old u hand) (sym e) fits

  pub got_hand : (d : Duty) (x : Session) (g : PinGuard) (guards : List (Option Guard)) → AwayFor d
      → guards ≡ slice_set hand.guards g.slot (Some (Pin g)) → DutyEnds old d image ok (Got x g) new
      → HandPlays old w hand (cue.Device w) line new (record { stage = In x; guards = guards })
  got_hand (duty.Read v slot page) x g guards away is ends =
      let e = worker_is v (duty.Read v slot page) away refl in
      subst (PlaysFor (record { stage = In x; guards = guards })) e
      (got_plays still old new kept v slot page image ok hand (fits_for v e) (λ s st. (away s st).out) ends.0 line tells x g
      guards is ends.1)
  got_hand (duty.Write v slot page victim) x g guards away is ends = absurd ends
  got_hand (duty.Flush page) x g guards away is ends = absurd ends

  pub opened_hand : (d : Duty) (x : Session) (g : BundleGuard) (guards : List (Option Guard)) → AwayFor d
      → guards ≡ slice_set hand.guards g.slot (Some (Bundle g)) → DutyEnds old d image ok (Opened x g) new
      → HandPlays old w hand (cue.Device w) line new (record { stage = In x; guards = guards })
  opened_hand (duty.Read v slot page) x g guards away is ends =
      let e = worker_is v (duty.Read v slot page) away refl in
      subst (PlaysFor (record { stage = In x; guards = guards })) e
      (opened_plays still old new kept v slot page image ok hand (fits_for v e) (λ s st. (away s st).out) ends.0 line tells x g
      guards is ends.1)
  opened_hand (duty.Write v slot page victim) x g guards away is ends = absurd ends
  opened_hand (duty.Flush page) x g guards away is ends = absurd ends

  pub joined_hand : (d : Duty) (x : Session) → AwayFor d → DutyEnds old d image ok (Joined x) new
      → HandPlays old w hand (cue.Device w) line new (record { stage = In x; guards = hand.guards })
  joined_hand (duty.Read v slot page) x away ends =
      let e = worker_is v (duty.Read v slot page) away refl in
      subst (PlaysFor (record { stage = In x; guards = hand.guards })) e
      (joined_plays still old new kept v slot page image ok hand (fits_for v e) (λ s st. (away s st).out) ends.0 line tells x
      ends.1)
  joined_hand (duty.Write v slot page victim) x away ends = absurd ends
  joined_hand (duty.Flush page) x away ends = absurd ends

  pub away_hand : (d : Duty) (errand : Errand) → AwayFor d → DutyEnds old d image ok (Away errand) new
      → HandPlays old w hand (cue.Device w) line new (record { stage = Out errand; guards = hand.guards })
  away_hand (duty.Read v slot page) errand away ends = absurd ends
  away_hand (duty.Write v slot page victim) errand away ends =
      let e = worker_is v (duty.Write v slot page victim) away refl in
      subst (PlaysFor (record { stage = Out errand; guards = hand.guards })) e
      (written_plays still old new kept v slot page victim image ok hand (fits_for v e) (λ s st. (away s st).out) ends.1 line
      tells errand ends.0 ends.2)
  away_hand (duty.Flush page) errand away ends = absurd ends

  pub lost_hand : (d : Duty) (leaver : Leaver) → AwayFor d → DutyEnds old d image ok (Lost leaver) new
      → HandPlays old w hand (cue.Device w) line new (record { stage = Leaving leaver; guards = hand.guards })
  lost_hand (duty.Read v slot page) leaver away ends =
      let e = worker_is v (duty.Read v slot page) away refl in
      subst (PlaysFor (record { stage = Leaving leaver; guards = hand.guards })) e
      (unread_plays still old new kept v slot page image ok hand (fits_for v e) (λ s st. (away s st).out) ends.0 line tells
      leaver ends.1)
  lost_hand (duty.Write v slot page victim) leaver away ends =
      let e = worker_is v (duty.Write v slot page victim) away refl in
      subst (PlaysFor (record { stage = Leaving leaver; guards = hand.guards })) e
      (unwritten_plays still old new kept v slot page victim image ok hand (fits_for v e) (λ s st. (away s st).out) ends.1 line
      tells leaver ends.0 ends.2)
  lost_hand (duty.Flush page) leaver away ends = absurd ends
