-- Calls that ask no device: what each does with the images of pages.
use Rattle.std.proofs.Common.{◌≡◌, ◌≢◌, ◌∙◌, ℕ, ◌+◌, Bool, true, false, Option, Some, None, List, refl, sym, ap, subst}
use Rattle.std.specs.Prelude.{slice_set, ◌&&◌, ◌==◌, if◌then◌else◌}
use Rattle.pp_plan.specs.declared.mode.Mode.TheVariants as mode
use Rattle.pp_plan.specs.declared.action.Ask.TheVariants as ask
use Rattle.pp_cert.specs.declared.note.Held.{Held}
use Rattle.pp_cert.specs.declared.note.Held.TheVariants.{Free, S, X}
use Rattle.pp_model.specs.declared.moves.Move.{Move}
use Rattle.pp_model.specs.declared.moves.Move.TheVariants as move
use Rattle.pp_model.specs.declared.reply.Reply.{Reply}
use Rattle.pp_model.specs.declared.reply.Reply.TheVariants as reply
use Rattle.pp_model.specs.Pool.{State, is_dirty, frame_of, frame_at, mark_at}
use Rattle.pp_model.specs.Moves.{reply_of, next_of, is_refusal}
use Rattle.pp_model.specs.Reached.{IsReached}
use Rattle.pp_model.specs.Ready.{Standing, ready_at, is_still, Keeps, Leaves, Enters, Vacates}
use Rattle.pp_model.specs.Ready.{empty as frees, takes as leaves_for}
use Rattle.pp_model.proofs.ReadyLaws.{write_leaves}
use Rattle.pp_model.proofs.ReadyAnswers.{shared_stays, shared_goes, exclusive_leaves, exclusive_enters, unwound_enters}
use Rattle.pp_model.proofs.Shapes.{reply_fits}
use Rattle.pp_core.specs.Queries.{is_leaving, ask_of, held_of}
use Rattle.pp_core.specs.AfterMoves.{IsUnwindReply, HasUnwound}
use Rattle.pp_core.proofs.AfterMoves.{after_moves}
use Rattle.pp_device.specs.Image.{with_head, body_of}
use Rattle.pp_vault.specs.declared.tokens.Duty.{Duty}
use Rattle.pp_vault.specs.declared.tokens.Duty.TheVariants as duty
use Rattle.pp_vault.specs.declared.tokens.Errand.{Errand}
use Rattle.pp_vault.specs.declared.tokens.Leaver.{Leaver}
use Rattle.pp_vault.specs.declared.tokens.Session.{Session}
use Rattle.pp_vault.specs.declared.guards.Guard.{Guard}
use Rattle.pp_vault.specs.declared.guards.Guard.TheVariants.{Pin, Read, Write, Bundle}
use Rattle.pp_vault.specs.declared.guards.PinGuard.{PinGuard}
use Rattle.pp_vault.specs.declared.guards.ReadGuard.{ReadGuard}
use Rattle.pp_vault.specs.declared.guards.WriteGuard.{WriteGuard}
use Rattle.pp_vault.specs.declared.guards.BundleGuard.{BundleGuard}
use Rattle.pp_vault.specs.declared.stage.Stage.{Stage}
use Rattle.pp_vault.specs.declared.stage.Stage.TheVariants.{In, Out, Leaving}
use Rattle.pp_vault.specs.declared.stage.Hand.{Hand}
use Rattle.pp_vault.specs.Parts.{Parts}
use Rattle.pp_vault.specs.StandsFor.{StandsFor}
use Rattle.pp_vault.specs.Fits.{is_gathered, IsEmpty, fits_both, asks_latch, asks_unlatch, leaver_fits}
use Rattle.pp_vault.specs.Fits.{leaver_fits_bundle}
use Rattle.pp_vault.specs.ImageMoves.{TakenOut, PutIn, ImagesStay}
use Rattle.pp_vault.specs.Fixes.{IsHit, OpensBundle, JoinsBundle, IsSent}
use Rattle.pp_vault.specs.Steps.{told_mark}
use Rattle.pp_vault.specs.Uses.{IsPutBack}
use Rattle.pp_vault.specs.Holding.{placed}
use Rattle.pp_contents.specs.HandMoves.{IsNowAt, HasNow, HasSpent}
use Rattle.pp_contents.specs.Content.{victim_of, victim_by}
use Rattle.pp_vault.proofs.BackSteps as back
use Rattle.pp_contents.proofs.Evictions.{evicted_clean}
use Rattle.pp_contents.proofs.Finding.{test_same, test_apart}
use Rattle.pp_vault.proofs.FitTests.{none_some, both_hold, guard_held, latch_asked, unlatch_asked}
use Rattle.pp_vault.proofs.FitTests.{gathered_some}
use Rattle.pp_vault.proofs.FitTests.{Asking, asking, Holds, holds}
use Rattle.pp_vault.proofs.GoingBack.{WriterSeat, writer_seat}
use Rattle.pp_contents.proofs.ImageSteps.{TokenIn, guarded, sent, NoToken, SameToken}
use Rattle.pp_contents.proofs.MovesDone.{leaver_held, still_move}
use Rattle.pp_contents.proofs.ReadyMoves.{ready_same, ready_beside, left_was, left_gone, left_others, entered_none}
use Rattle.pp_contents.proofs.ReadyMoves.{entered_is, entered_others}
use Rattle.pp_contents.proofs.StepKinds.{CallStep, stays, takes, evicts, puts}
use Rattle.pp_contents.proofs.TokenMoves.{WritesPage, at_now, now_there, has_now, has_spent, has_more}
use Rattle.pp_contents.proofs.TokensApart.{Stands, empty_place, token_unready}
use Rattle.pp_vault.proofs.UseReplies.{latched_by, unlatched_by}

-- ---- guards that have no page latched X

pub pin_writes : (page : ℕ) (g : PinGuard) → WritesPage page (Some (Pin g)) → ⊥
pin_writes page g w = pin_write g w.0 w.1
  where
    pin_write : (g : PinGuard) (h : WriteGuard) → ◌≡◌ {A = Option Guard} (Some (Pin g)) (Some (Write h)) → ⊥
    pin_write g h e = cc

pub read_writes : (page : ℕ) (g : ReadGuard) → WritesPage page (Some (Read g)) → ⊥
read_writes page g w = read_write g w.0 w.1
  where
    read_write : (g : ReadGuard) (h : WriteGuard) → ◌≡◌ {A = Option Guard} (Some (Read g)) (Some (Write h)) → ⊥
    read_write g h e = cc

pub bundle_writes : (page : ℕ) (g : BundleGuard) → WritesPage page (Some (Bundle g)) → ⊥
bundle_writes page g w = bundle_write g w.0 w.1
  where
    bundle_write : (g : BundleGuard) (h : WriteGuard) → ◌≡◌ {A = Option Guard} (Some (Bundle g)) (Some (Write h)) → ⊥
    bundle_write g h e = cc

same_guard : (g h : WriteGuard) → ◌≡◌ {A = Option Guard} (Some (Write g)) (Some (Write h)) → g ≡ h
same_guard g h e = cc

-- A guard has its own page latched X, and no other.
pub other_writes : (page other : ℕ) (g : WriteGuard) → g.page ≡ page → other ≢ page → WritesPage other (Some (Write g)) → ⊥
other_writes page other g is apart w =
    apart (sym w.2 ∙ sym (ap (λ (h : WriteGuard). h.page) (same_guard g w.0 w.1)) ∙ is)

-- ---- moves after which all pages stand as before

module _ (old new : Parts) (s t : State) (hand left : Hand) (stay : ImagesStay old new) (keeps : Keeps s t)
    (tokens : (page : ℕ) → SameToken hand left page) where
  pub all_stay : CallStep old new s t hand left
  all_stay = stays tokens (ready_same old new s t stay.images keeps.ready)

-- The worker has another token, which has no image, as the one before.
pub now_stays : (old new : Parts) (s t : State) (hand left : Hand) (x : Stage) → ImagesStay old new → Keeps s t
    → IsNowAt hand x left → ((page : ℕ) → victim_by page x ≡ victim_by page hand.stage)
    → CallStep old new s t hand left
now_stays old new s t hand left x stay keeps now stage =
    all_stay old new s t hand left stay keeps (λ page. at_now hand left x now page (stage page))

-- ---- an image that goes from its frame into the hand, or back

module _ (old new : Parts) (s t : State) (w : ℕ) (hand left : Hand) (reached : IsReached s) (a : Stands s w hand) where
  ready_none : (page : ℕ) (x : Standing) → ready_at s page ≡ Some x → NoToken hand page
  ready_none page x is image token = none_some (sym (token_unready s reached w hand a page image token) ∙ is)

  pub goes_out : (page : ℕ) (x : Standing) (image : List ℕ) → Leaves s t page x → TakenOut old new x.frame image
      → TokenIn left page image → ((other : ℕ) → other ≢ page → SameToken hand left other)
      → CallStep old new s t hand left
  goes_out page x image leaves out token others =
      takes page image (left_was old new s t reached page x leaves image out)
      (left_gone old new s t reached page x leaves image out) (ready_none page x leaves.was) token
      (record { tokens = others; ready = left_others old new s t reached page x leaves image out })

  -- One that isn't newer than the device's is let go.
  pub lets_go : (page : ℕ) (x : Standing) (image : List ℕ) → Leaves s t page x → TakenOut old new x.frame image
      → is_dirty s page ≡ false → ((q : ℕ) → SameToken hand left q) → CallStep old new s t hand left
  lets_go page x image leaves out clean tokens =
      evicts page image (left_was old new s t reached page x leaves image out) clean
      (left_gone old new s t reached page x leaves image out) (ready_none page x leaves.was)
      (λ b token. ready_none page x leaves.was b ((tokens page).1 b token))
      (record { tokens = λ q d. tokens q; ready = left_others old new s t reached page x leaves image out })

  pub comes_back : (page : ℕ) (x : Standing) (image now : List ℕ) → Enters s t page x → PutIn old new x.frame now
      → body_of now ≡ body_of image → TokenIn hand page image → IsReached t → Stands t w left
      → ((other : ℕ) → other ≢ page → SameToken hand left other) → CallStep old new s t hand left
  comes_back page x image now enters into body token next b others =
      puts page image now token
      (λ c again. none_some (sym (token_unready t next w left b page c again) ∙ enters.is))
      (entered_none old new s t reached page x enters now into) (entered_is old new s t reached page x enters now into)
      body (record { tokens = others; ready = entered_others old new s t reached page x enters now into })

-- ---- a fix

module _ (old new : Parts) (s : State) (w page : ℕ) (hand left : Hand) (x : Session) (stage : hand.stage ≡ In x)
    (worker : x.worker ≡ w) (st : StandsFor old s) (a : Stands s w hand) where
  abbrev fixed_next : State
  fixed_next = next_of s (move.Fix x.worker page)

  fix_reached : IsReached s
  fix_reached = st.core.reached

  in_plan : (q : ℕ) → None ≡ victim_by q hand.stage
  in_plan q = sym (ap (victim_by q) stage)

  pub hit_moves : (y : Session) (g : PinGuard) → IsHit old new x.worker page y g
      → left ≡ record { stage = In y; guards = slice_set hand.guards g.slot (Some (Pin g)) }
      → CallStep old new s fixed_next hand left
  hit_moves y g hit now =
      let told = hit.replies s st in
      let empty : IsEmpty s w g.slot = subst (λ v. IsEmpty s v g.slot) worker (hit.was s st) in
      all_stay old new s fixed_next hand left hit.images (still_move s (move.Fix x.worker page) fix_reached (ap is_still told.2))
      (λ q. has_more hand left (In y) g.slot (Pin g) (empty_place s w hand a g.slot empty) now q
      (in_plan q) (pin_writes q g))

  -- A page that was gathered: the first of a bundle, and a further one.
  pub opens_moves : (y : Session) (g : BundleGuard) → OpensBundle old new x.worker page y g
      → left ≡ record { stage = In y; guards = slice_set hand.guards g.slot (Some (Bundle g)) }
      → CallStep old new s fixed_next hand left
  opens_moves y g opens now =
      let told = opens.replies s st in
      let empty : IsEmpty s w g.slot =
      subst (λ v. IsEmpty s v g.slot) worker (opens.was s st) in
      all_stay old new s fixed_next hand left opens.images
      (still_move s (move.Fix x.worker page) fix_reached (ap is_still told.2))
      (λ q. has_more hand left (In y) g.slot (Bundle g) (empty_place s w hand a g.slot empty) now q
      (in_plan q) (bundle_writes q g))

  pub joins_moves : (slot : ℕ) (y : Session) → JoinsBundle old new x.worker slot page y → IsNowAt hand (In y) left
      → CallStep old new s fixed_next hand left
  joins_moves slot y joins now =
      let told = joins.replies s st in
      now_stays old new s fixed_next hand left (In y) joins.images
      (still_move s (move.Fix x.worker page) fix_reached (ap is_still told.2)) now in_plan

  read_vacates : (frame : ℕ) (image : List ℕ) → reply_of s (move.Fix x.worker page) ≡ reply.MustRead frame
      → TakenOut old new frame image → ((q : ℕ) → SameToken hand left q) → Vacates s fixed_next frame
      → CallStep old new s fixed_next hand left
  read_vacates frame image answer out tokens (frees none stay goes) =
      stays tokens (ready_beside old new s fixed_next frame None out.images stay none)
  read_vacates frame image answer out tokens (leaves_for victim mark leaves) =
      let y : Standing = record { frame = frame; mark = mark } in
      lets_go old new s fixed_next w hand left fix_reached a victim y image leaves out
      (evicted_clean s fix_reached victim y leaves.was x.worker page frame answer leaves.gone) tokens

  pub sent_moves : (errand : Errand) (d : Duty) → errand.duty ≡ d → IsSent old new x.worker page errand.image d
      → IsNowAt hand (Out errand) left → CallStep old new s fixed_next hand left
  sent_moves errand (duty.Read v slot p) is told now =
      let how = told.2 s st in
      read_vacates how.0 errand.image how.1 how.4
      (λ q. at_now hand left (Out errand) now q (ap (λ d. victim_of q d errand.image) is ∙ in_plan q)) how.3
  sent_moves errand (duty.Write v slot p victim) is told now =
      let how = told.2 s st in
      let y : Standing = record { frame = how.0; mark = mark_at s victim } in
      goes_out old new s fixed_next w hand left fix_reached a victim y errand.image
      (write_leaves s fix_reached x.worker page how.0 victim how.1) how.4
      (sent (ap (λ (h : Hand). victim_by victim h.stage) now ∙ ap (λ d. victim_of victim d errand.image) is
      ∙ ap (λ b. if b then Some errand.image else None) (test_same victim victim refl)))
      (λ q apart. at_now hand left (Out errand) now q
      (ap (λ d. victim_of q d errand.image) is
      ∙ ap (λ b. if b then Some errand.image else None) (test_apart victim q (λ e. apart (sym e)))
      ∙ in_plan q))
  sent_moves errand (duty.Flush p) is told now = absurd told

-- ---- what a plan asks of a slot

module _ (old new : Parts) (s : State) (w : ℕ) (hand left : Hand) (x y : Session) (stage : hand.stage ≡ In x)
    (st : StandsFor old s) (a : Stands s w hand) where
  plan_reached : IsReached s
  plan_reached = st.core.reached

  same_plan : (q : ℕ) → victim_by q (In y) ≡ victim_by q hand.stage
  same_plan q = sym (ap (victim_by q) stage)

  -- Latch S.
  module _ (slot : ℕ) (g : PinGuard) (h : ReadGuard) (at : placed hand.guards slot ≡ Some (Pin g))
      (fit : fits_both s x.worker g.worker g.slot g.page Free ≡ true)
      (wanted : asks_latch g.slot mode.S (ask_of s x.worker) ≡ true)
      (done : is_refusal (reply_of s (move.Latch x.worker)) ≡ false) where
    pub shared_moves : ImagesStay old new → HasNow hand (In y) slot (Read h) left
        → CallStep old new s (next_of s (move.Latch x.worker)) hand left
    shared_moves stay now =
        let k : Move = move.Latch x.worker in
        let asks : Asking s x.worker (ask.Latch g.slot mode.S) =
        asking s x.worker (ask.Latch g.slot mode.S) (latch_asked g.slot mode.S (ask_of s x.worker) wanted) in
        let keeps = (shared_stays s plan_reached x.worker g.slot (told_mark (reply_of s k)) asks.run asks.seat asks.ask
        (latched_by x.worker (reply_of s k) done (reply_fits s k))).1 in
        all_stay old new s (next_of s k) hand left stay keeps
        (λ q. has_now hand left (In y) slot (Pin g) (Read h) at now q (same_plan q) (pin_writes q g) (read_writes q h))

  -- Latch X.
  module _ (slot : ℕ) (g : PinGuard) (h : WriteGuard) (at : placed hand.guards slot ≡ Some (Pin g))
      (fit : fits_both s x.worker g.worker g.slot g.page Free ≡ true)
      (wanted : asks_latch g.slot mode.X (ask_of s x.worker) ≡ true)
      (done : is_refusal (reply_of s (move.Latch x.worker)) ≡ false) where
    abbrev latch : Move
    latch = move.Latch x.worker

    abbrev latched_mark : ℕ
    latched_mark = told_mark (reply_of s latch)

    latch_leaves : Leaves s (next_of s latch) g.page (record { frame = frame_at s g.page; mark = latched_mark })
    latch_leaves =
        let asks : Asking s x.worker (ask.Latch g.slot mode.X) =
        asking s x.worker (ask.Latch g.slot mode.X) (latch_asked g.slot mode.X (ask_of s x.worker) wanted) in
        let of_slot : Holds asks.run g.slot g.page Free =
        holds s x.worker g.slot g.page Free asks.run asks.seat
        (guard_held s x.worker g.worker g.slot g.page Free fit) in
        subst (λ p. Leaves s (next_of s latch) p (record { frame = frame_at s p; mark = latched_mark })) of_slot.page_is
        (exclusive_leaves s plan_reached x.worker g.slot latched_mark asks.run asks.seat asks.ask
        (latched_by x.worker (reply_of s latch) done (reply_fits s latch)))

    pub exclusive_moves : (frame : ℕ) → frame_of s g.page ≡ Some frame → TakenOut old new frame h.image
        → h.page ≡ g.page → HasNow hand (In y) slot (Write h) left → CallStep old new s (next_of s latch) hand left
    exclusive_moves frame framed out page now =
        goes_out old new s (next_of s latch) w hand left plan_reached a g.page (record { frame = frame_at s g.page; mark = latched_mark })
        h.image latch_leaves (subst (λ f. TakenOut old new f h.image) (sym (back.frame_is s g.page frame framed)) out)
        (guarded slot h (now_there hand left (In y) slot (Pin g) (Write h) at now) page refl)
        (λ q apart. has_now hand left (In y) slot (Pin g) (Write h) at now q (same_plan q) (pin_writes q g)
        (other_writes g.page q h page apart))

  -- Unlatch S.
  module _ (slot : ℕ) (g : ReadGuard) (h : PinGuard) (at : placed hand.guards slot ≡ Some (Read g))
      (fit : fits_both s x.worker g.worker g.slot g.page S ≡ true)
      (wanted : asks_unlatch g.slot (ask_of s x.worker) ≡ true)
      (done : is_refusal (reply_of s (move.Unlatch x.worker)) ≡ false) where
    pub unshared_moves : ImagesStay old new → HasNow hand (In y) slot (Pin h) left
        → CallStep old new s (next_of s (move.Unlatch x.worker)) hand left
    unshared_moves stay now =
        let k : Move = move.Unlatch x.worker in
        let asks : Asking s x.worker (ask.Unlatch g.slot) =
        asking s x.worker (ask.Unlatch g.slot) (unlatch_asked g.slot (ask_of s x.worker) wanted) in
        let of_slot : Holds asks.run g.slot g.page S =
        holds s x.worker g.slot g.page S asks.run asks.seat
        (guard_held s x.worker g.worker g.slot g.page S fit) in
        let keeps = (shared_goes s plan_reached x.worker g.slot (told_mark (reply_of s k)) asks.run asks.seat asks.ask
        of_slot.held_is (unlatched_by x.worker (reply_of s k) done (reply_fits s k))).1 in
        all_stay old new s (next_of s k) hand left stay keeps
        (λ q. has_now hand left (In y) slot (Read g) (Pin h) at now q (same_plan q) (read_writes q g) (pin_writes q h))

  -- Unlatch X.
  module _ (slot : ℕ) (g : WriteGuard) (h : PinGuard) (at : placed hand.guards slot ≡ Some (Write g))
      (fit : fits_both s x.worker g.worker g.slot g.page X ≡ true)
      (wanted : asks_unlatch g.slot (ask_of s x.worker) ≡ true)
      (done : is_refusal (reply_of s (move.Unlatch x.worker)) ≡ false)
      (next : IsReached (next_of s (move.Unlatch x.worker))) (b : Stands (next_of s (move.Unlatch x.worker)) w left) where
    abbrev unlatch : Move
    unlatch = move.Unlatch x.worker

    abbrev unlatched_mark : ℕ
    unlatched_mark = told_mark (reply_of s unlatch)

    unlatch_enters : Enters s (next_of s unlatch) g.page (record { frame = frame_at s g.page; mark = unlatched_mark })
    unlatch_enters =
        let asks : Asking s x.worker (ask.Unlatch g.slot) =
        asking s x.worker (ask.Unlatch g.slot) (unlatch_asked g.slot (ask_of s x.worker) wanted) in
        let of_slot : Holds asks.run g.slot g.page X =
        holds s x.worker g.slot g.page X asks.run asks.seat
        (guard_held s x.worker g.worker g.slot g.page X fit) in
        subst (λ p. Enters s (next_of s unlatch) p (record { frame = frame_at s p; mark = unlatched_mark })) of_slot.page_is
        (exclusive_enters s plan_reached x.worker g.slot unlatched_mark asks.run asks.seat asks.ask of_slot.held_is
        (unlatched_by x.worker (reply_of s unlatch) done (reply_fits s unlatch))).1

    pub unlatch_moves : IsPutBack old new g.page g.image → HasNow hand (In y) slot (Pin h) left
        → CallStep old new s (next_of s unlatch) hand left
    unlatch_moves put now =
        let how = put s st in
        let image : List ℕ = with_head g.image g.page (how.1 + 1) in
        comes_back old new s (next_of s unlatch) w hand left plan_reached a g.page (record { frame = frame_at s g.page; mark = unlatched_mark })
        g.image image unlatch_enters
        (subst (λ f. PutIn old new f image) (sym (back.frame_is s g.page how.0 how.2)) how.4) refl
        (guarded slot g at refl refl) next b
        (λ q apart. has_now hand left (In y) slot (Write g) (Pin h) at now q (same_plan q)
        (other_writes g.page q g refl apart) (pin_writes q h))

-- ---- a worker that leaves gives a slot back

did_still : (s : State) (k : Move) → reply_of s k ≡ reply.Did → is_still (reply_of s k) ≡ true
did_still s k e = ap is_still e

pub unwound_did : (t : State) (page : ℕ) (held : Held) (r : Reply) → held ≢ X → IsUnwindReply t page held r
    → r ≡ reply.Did
unwound_did t page Free r d e = e
unwound_did t page S r d e = e
unwound_did t page X r d e = absurd (d refl)

module _ (old new : Parts) (s : State) (w : ℕ) (hand left : Hand) (x y : Leaver) (stage : hand.stage ≡ Leaving x)
    (st : StandsFor old s) (a : Stands s w hand) where
  way_reached : IsReached s
  way_reached = st.core.reached

  same_way : (q : ℕ) → victim_by q (Leaving y) ≡ victim_by q hand.stage
  same_way q = sym (ap (victim_by q) stage)

  -- One that isn't latched X.
  module _ (slot : ℕ) (guard : Guard) (at : placed hand.guards slot ≡ Some guard)
      (none : (page : ℕ) → WritesPage page (Some guard) → ⊥) (of place page : ℕ) (held : Held) (apart : held ≢ X)
      (fit : (leaver_fits s x.worker of place page held && true) ≡ true)
      (done : is_refusal (reply_of s (move.Unwind x.worker place)) ≡ false) where
    pub slot_moves : ImagesStay old new → HasSpent hand (Leaving y) slot left
        → CallStep old new s (next_of s (move.Unwind x.worker place)) hand left
    slot_moves stay now =
        let k : Move = move.Unwind x.worker place in
        let unwound = (after_moves s way_reached).unwound x.worker place page held done
        (leaver_held s x.worker of place page held true fit) in
        let still = did_still s k (unwound_did (next_of s k) page held (reply_of s k) apart unwound.told) in
        all_stay old new s (next_of s k) hand left stay (still_move s k way_reached still)
        (λ q. has_spent hand left (Leaving y) slot guard at now q (same_way q) (none q))

  -- A bundle.
  module _ (slot : ℕ) (g : BundleGuard) (at : placed hand.guards slot ≡ Some (Bundle g))
      (fit : leaver_fits_bundle s x.worker g.worker g.slot ≡ true)
      (done : is_refusal (reply_of s (move.Unwind x.worker g.slot)) ≡ false) where
    pub bundle_moves : ImagesStay old new → HasSpent hand (Leaving y) slot left
        → CallStep old new s (next_of s (move.Unwind x.worker g.slot)) hand left
    bundle_moves stay now =
        let k : Move = move.Unwind x.worker g.slot in
        let gathered : is_gathered s x.worker g.slot ≡ true =
        (both_hold (is_leaving s x.worker && (g.worker == x.worker)) (is_gathered s x.worker g.slot) fit).1 in
        let unwound = (after_moves s way_reached).unwound_bundle x.worker g.slot done
        (gathered_some s x.worker g.slot gathered) in
        all_stay old new s (next_of s k) hand left stay (still_move s k way_reached (did_still s k unwound.told))
        (λ q. has_spent hand left (Leaving y) slot (Bundle g) at now q (same_way q) (bundle_writes q g))

  -- One that is.
  module _ (slot : ℕ) (g : WriteGuard) (at : placed hand.guards slot ≡ Some (Write g)) (long : Bool)
      (fit : (leaver_fits s x.worker g.worker g.slot g.page X && long) ≡ true)
      (done : is_refusal (reply_of s (move.Unwind x.worker g.slot)) ≡ false)
      (next : IsReached (next_of s (move.Unwind x.worker g.slot)))
      (b : Stands (next_of s (move.Unwind x.worker g.slot)) w left) where
    abbrev unwind : Move
    unwind = move.Unwind x.worker g.slot

    was_held : held_of s x.worker g.slot ≡ Some (g.page, X)
    was_held = leaver_held s x.worker g.worker g.slot g.page X long fit

    has_unwound : HasUnwound s (next_of s unwind) x.worker g.slot g.page X (reply_of s unwind)
    has_unwound = (after_moves s way_reached).unwound x.worker g.slot g.page X done was_held

    abbrev unwound_mark : ℕ
    unwound_mark = has_unwound.told.0

    unwind_enters : Enters s (next_of s unwind) g.page (record { frame = frame_at s g.page; mark = unwound_mark })
    unwind_enters =
        let by : WriterSeat s x.worker = writer_seat s x.worker g.slot g.page was_held in
        let of_slot : Holds by.by g.slot g.page X = holds s x.worker g.slot g.page X by.by by.seat was_held in
        subst (λ p. Enters s (next_of s unwind) p (record { frame = frame_at s p; mark = unwound_mark })) of_slot.page_is
        (unwound_enters s way_reached x.worker g.slot unwound_mark by.by by.seat has_unwound.told.1).1

    pub image_moves : IsPutBack old new g.page g.image → HasSpent hand (Leaving y) slot left
        → CallStep old new s (next_of s unwind) hand left
    image_moves put now =
        let how = put s st in
        let image : List ℕ = with_head g.image g.page (how.1 + 1) in
        comes_back old new s (next_of s unwind) w hand left way_reached a g.page (record { frame = frame_at s g.page; mark = unwound_mark })
        g.image image unwind_enters
        (subst (λ f. PutIn old new f image) (sym (back.frame_is s g.page how.0 how.2)) how.4) refl
        (guarded slot g at refl refl) next b
        (λ q apart. has_spent hand left (Leaving y) slot (Write g) at now q (same_way q)
        (other_writes g.page q g refl apart))
