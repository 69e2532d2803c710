-- A worker's call that asks no device is a step of images.
use Rattle.std.proofs.Common.{◌≡◌, ◌∙◌, ℕ, Bool, true, false, Some, refl, sym, ap, subst}
use Rattle.std.specs.Prelude.{◌&&◌, if◌then◌else◌}
use Rattle.pp_plan.specs.declared.mode.Mode.TheVariants as mode
use Rattle.pp_cert.specs.declared.note.Held.TheVariants.{Free, S, X}
use Rattle.pp_model.specs.declared.moves.Move.{Move}
use Rattle.pp_model.specs.declared.moves.Move.TheVariants as move
use Rattle.pp_model.specs.Pool.{State}
use Rattle.pp_model.specs.Moves.{reply_of, next_of, is_refusal}
use Rattle.pp_model.specs.Ready.{is_still}
use Rattle.pp_core.specs.Queries.{is_idle, is_leaving, ask_of}
use Rattle.pp_vault.specs.declared.tokens.Leaver.{Leaver}
use Rattle.pp_vault.specs.declared.tokens.Returned.{Returned}
use Rattle.pp_vault.specs.declared.tokens.Session.{Session}
use Rattle.pp_vault.specs.declared.guards.Guard.{Guard}
use Rattle.pp_vault.specs.declared.guards.Guard.TheVariants.{Pin, Read, Write, Bundle}
use Rattle.pp_vault.specs.declared.guards.PinGuard.{PinGuard}
use Rattle.pp_vault.specs.declared.guards.ReadGuard.{ReadGuard}
use Rattle.pp_vault.specs.declared.guards.WriteGuard.{WriteGuard}
use Rattle.pp_vault.specs.declared.guards.BundleGuard.{BundleGuard}
use Rattle.pp_vault.specs.declared.fixing.Fixed.{Fixed}
use Rattle.pp_vault.specs.declared.fixing.Fixed.TheVariants as fixed
use Rattle.pp_vault.specs.declared.stage.Stage.{Stage}
use Rattle.pp_vault.specs.declared.stage.Stage.TheVariants.{Idle, In, Back, Leaving}
use Rattle.pp_vault.specs.declared.stage.Hand.{Hand}
use Rattle.pp_vault.specs.Parts.{Parts}
use Rattle.pp_vault.specs.StandsFor.{StandsFor}
use Rattle.pp_vault.specs.Calls.{stranger, asks}
use Rattle.pp_vault.specs.Fits.{is_acting, fits_both, asks_unfix, asks_latch, asks_unlatch, leaver_fits, names_slot, fix_slot}
use Rattle.pp_vault.specs.Fits.{bundle_fits, asks_scatter, leaver_fits_bundle, fix_call, unfix_call, scatter_call}
use Rattle.pp_vault.specs.Fits.{latch_call, unlatch_call, put_back_call}
use Rattle.pp_vault.specs.Tokens.{is_long}
use Rattle.pp_vault.specs.Fixes.{FixAnswers}
use Rattle.pp_vault.specs.Uses.{Unfixes, Scatters, LatchesShared, LatchesExclusive, UnlatchesShared, UnlatchesExclusive}
use Rattle.pp_vault.specs.Leaves.{give_back_call, GivesBack}
use Rattle.pp_vault.specs.ImageMoves.{ImagesStay}
use Rattle.pp_vault.specs.Holding.{placed}
use Rattle.pp_vault.specs.Stages.{stage_worker}
use Rattle.pp_contents.specs.Content.{victim_by}
use Rattle.pp_contents.specs.HandMoves.{HandMoves, call_in, IsNowAt, HasNow, HasSpent, HasFixed}
use Rattle.pp_contents.specs.HandMoves as hands
use Rattle.pp_contents.proofs.CallMoves.{pin_writes, read_writes, all_stay, now_stays, hit_moves, sent_moves, shared_moves}
use Rattle.pp_contents.proofs.CallMoves.{exclusive_moves, unshared_moves, unlatch_moves, slot_moves, image_moves}
use Rattle.pp_contents.proofs.CallMoves.{bundle_writes, opens_moves, joins_moves, bundle_moves}
use Rattle.pp_vault.proofs.FitTests.{some_some, both_hold}
use Rattle.pp_contents.proofs.MovesDone.{IsDone, if_asks, guard_is, still_move}
use Rattle.pp_vault.proofs.Plain.{answered, taken, chosen, finished}
use Rattle.pp_contents.proofs.StepKinds.{CallStep}
use Rattle.pp_contents.proofs.TokenMoves.{has_spent}
use Rattle.pp_contents.proofs.TokensApart.{Stands}
use Rattle.pp_vault.proofs.UseReplies.{did_by}
use Rattle.pp_model.proofs.Shapes.{reply_fits}

-- ---- one move

-- The worker of a session, and of another token.
in_worker : (w : ℕ) (hand : Hand) (s : State) (x : Session) → Stands s w hand → hand.stage ≡ In x → x.worker ≡ w
in_worker w hand s x a e = some_some w x.worker w (sym (ap stage_worker e) ∙ a.worker)

module _ (old new : Parts) (s : State) (w : ℕ) (hand left : Hand) (m : Move) (st : StandsFor old s)
    (st' : StandsFor new (next_of s m)) (a : Stands s w hand) (b : Stands (next_of s m) w left) where
  -- The step, for the move that the call was.
  to_move : (k : Move) → k ≡ m → CallStep old new s (next_of s k) hand left → CallStep old new s (next_of s m) hand left
  to_move k e step = subst (λ n. CallStep old new s (next_of s n) hand left) e step

  done_of : (k : Move) → k ≡ m → is_refusal (reply_of s m) ≡ false → is_refusal (reply_of s k) ≡ false
  done_of k e done = ap (λ n. is_refusal (reply_of s n)) e ∙ done

  stands_next : (k : Move) → k ≡ m → Stands (next_of s k) w left
  stands_next k e = subst (λ n. Stands (next_of s n) w left) (sym e) b

  reached_next : (k : Move) → k ≡ m → StandsFor new (next_of s k)
  reached_next k e = subst (λ n. StandsFor new (next_of s n)) (sym e) st'

  -- A move that leaves all images, between two tokens that have none.
  plain : (k : Move) (test : Bool) → IsDone s (if test then asks k else stranger) m
      → (is_refusal (reply_of s k) ≡ false → is_still (reply_of s k) ≡ true) → ImagesStay old new → (x : Stage)
      → IsNowAt hand x left → ((page : ℕ) → victim_by page x ≡ victim_by page hand.stage)
      → CallStep old new s (next_of s m) hand left
  plain k test d still stay x now stage =
      let e = (if_asks test k m d.is).1 in
      to_move k e
      (now_stays old new s (next_of s k) hand left x stay
      (still_move s k st.core.reached (still (done_of k e d.done))) now stage)

  taken_still : (v : ℕ) → is_refusal (reply_of s (move.Take v)) ≡ false → is_still (reply_of s (move.Take v)) ≡ true
  taken_still v done = ap is_still (taken v _ (answered s (move.Take v) _ refl done)).1

  chosen_still : (v i : ℕ) → is_refusal (reply_of s (move.Choose v i)) ≡ false
      → is_still (reply_of s (move.Choose v i)) ≡ true
  chosen_still v i done = ap is_still (chosen v i _ (answered s (move.Choose v i) _ refl done))

  finished_still : (v : ℕ) → is_refusal (reply_of s (move.Finish v)) ≡ false
      → is_still (reply_of s (move.Finish v)) ≡ true
  finished_still v done = ap is_still (finished v _ (answered s (move.Finish v) _ refl done)).1

  fix_moves : (x : Session) (page : ℕ) (f : Fixed) → hand.stage ≡ In x → FixAnswers old x page f new
      → HasFixed hand f left → IsDone s (fix_call x.worker (fix_slot x.ask) page s) m
      → CallStep old new s (next_of s m) hand left
  fix_moves x page (fixed.Got y g) stage told now d =
      let e = (if_asks (names_slot (fix_slot x.ask) (ask_of s x.worker)) (move.Fix x.worker page) m d.is).1 in
      to_move (move.Fix x.worker page) e
      (hit_moves old new s w page hand left x stage (in_worker w hand s x a stage) st a y g told.1 now)
  fix_moves x page (fixed.Opened y g) stage told now d =
      let e = (if_asks (names_slot (fix_slot x.ask) (ask_of s x.worker)) (move.Fix x.worker page) m d.is).1 in
      to_move (move.Fix x.worker page) e
      (opens_moves old new s w page hand left x stage (in_worker w hand s x a stage) st a y g told.1 now)
  fix_moves x page (fixed.Joined y) stage told now d =
      let e = (if_asks (names_slot (fix_slot x.ask) (ask_of s x.worker)) (move.Fix x.worker page) m d.is).1 in
      to_move (move.Fix x.worker page) e
      (joins_moves old new s w page hand left x stage (in_worker w hand s x a stage) st a (fix_slot x.ask) y told.1 now)
  fix_moves x page (fixed.Away errand) stage told now d =
      let e = (if_asks (names_slot (fix_slot x.ask) (ask_of s x.worker)) (move.Fix x.worker page) m d.is).1 in
      to_move (move.Fix x.worker page) e
      (sent_moves old new s w page hand left x stage (in_worker w hand s x a stage) st a errand errand.duty refl told.1 now)

  unfix_moves : (x y : Session) (slot : ℕ) (g : PinGuard) → hand.stage ≡ In x → placed hand.guards slot ≡ Some (Pin g)
      → Unfixes old x g new y → HasSpent hand (In y) slot left → IsDone s (unfix_call x.worker g.worker g.slot g.page s) m
      → CallStep old new s (next_of s m) hand left
  unfix_moves x y slot g stage at told now d =
      let k : Move = move.Unfix x.worker in
      let is = guard_is (fits_both s x.worker g.worker g.slot g.page Free) (asks_unfix g.slot (ask_of s x.worker)) k m d.is in
      let still : is_still (reply_of s k) ≡ true =
      ap is_still (did_by x.worker (reply_of s k) (done_of k is.2 d.done) (reply_fits s k)) in
      to_move k is.2
      (all_stay old new s (next_of s k) hand left told.images (still_move s k st.core.reached still)
      (λ q. has_spent hand left (In y) slot (Pin g) at now q (sym (ap (victim_by q) stage)) (pin_writes q g)))

  scatter_moves : (x y : Session) (slot : ℕ) (g : BundleGuard) → hand.stage ≡ In x
      → placed hand.guards slot ≡ Some (Bundle g)
      → Scatters old x g new y → HasSpent hand (In y) slot left → IsDone s (scatter_call x.worker g.worker g.slot s) m
      → CallStep old new s (next_of s m) hand left
  scatter_moves x y slot g stage at told now d =
      let k : Move = move.Unfix x.worker in
      let is = guard_is (bundle_fits s x.worker g.worker g.slot) (asks_scatter g.slot (ask_of s x.worker)) k m d.is in
      let still : is_still (reply_of s k) ≡ true =
      ap is_still (did_by x.worker (reply_of s k) (done_of k is.2 d.done) (reply_fits s k)) in
      to_move k is.2
      (all_stay old new s (next_of s k) hand left told.images (still_move s k st.core.reached still)
      (λ q. has_spent hand left (In y) slot (Bundle g) at now q (sym (ap (victim_by q) stage)) (bundle_writes q g)))

  latch_shared_moves : (x y : Session) (slot : ℕ) (g : PinGuard) (h : ReadGuard) → hand.stage ≡ In x
      → placed hand.guards slot ≡ Some (Pin g) → LatchesShared old x g new y h → HasNow hand (In y) slot (Read h) left
      → IsDone s (latch_call mode.S x.worker g.worker g.slot g.page s) m
      → CallStep old new s (next_of s m) hand left
  latch_shared_moves x y slot g h stage at told now d =
      let k : Move = move.Latch x.worker in
      let is = guard_is (fits_both s x.worker g.worker g.slot g.page Free) (asks_latch g.slot mode.S (ask_of s x.worker))
      k m d.is in
      to_move k is.2
      (shared_moves old new s w hand left x y stage st a slot g h at is.0 is.1 (done_of k is.2 d.done) told.images now)

  latch_exclusive_moves : (x y : Session) (slot : ℕ) (g : PinGuard) (h : WriteGuard) → hand.stage ≡ In x
      → placed hand.guards slot ≡ Some (Pin g) → LatchesExclusive old x g new y h
      → HasNow hand (In y) slot (Write h) left → IsDone s (latch_call mode.X x.worker g.worker g.slot g.page s) m
      → CallStep old new s (next_of s m) hand left
  latch_exclusive_moves x y slot g h stage at told now d =
      let k : Move = move.Latch x.worker in
      let is = guard_is (fits_both s x.worker g.worker g.slot g.page Free) (asks_latch g.slot mode.X (ask_of s x.worker))
      k m d.is in
      let image = told.image s st in
      to_move k is.2
      (exclusive_moves old new s w hand left x y stage st a slot g h at is.0 is.1 (done_of k is.2 d.done) image.0 image.1
      image.2 told.same.1 now)

  unlatch_shared_moves : (x y : Session) (slot : ℕ) (g : ReadGuard) (h : PinGuard) → hand.stage ≡ In x
      → placed hand.guards slot ≡ Some (Read g) → UnlatchesShared old x g new y h
      → HasNow hand (In y) slot (Pin h) left → IsDone s (unlatch_call S x.worker g.worker g.slot g.page s) m
      → CallStep old new s (next_of s m) hand left
  unlatch_shared_moves x y slot g h stage at told now d =
      let k : Move = move.Unlatch x.worker in
      let is = guard_is (fits_both s x.worker g.worker g.slot g.page S) (asks_unlatch g.slot (ask_of s x.worker))
      k m d.is in
      to_move k is.2
      (unshared_moves old new s w hand left x y stage st a slot g h at is.0 is.1 (done_of k is.2 d.done) told.images now)

  unlatch_exclusive_moves : (x y : Session) (slot : ℕ) (g : WriteGuard) (h : PinGuard) → hand.stage ≡ In x
      → placed hand.guards slot ≡ Some (Write g) → UnlatchesExclusive old x g new y h
      → HasNow hand (In y) slot (Pin h) left
      → IsDone s (put_back_call (is_long old g.image) x.worker g.worker g.slot g.page s) m
      → CallStep old new s (next_of s m) hand left
  unlatch_exclusive_moves x y slot g h stage at told now d =
      let k : Move = move.Unlatch x.worker in
      let is = guard_is (fits_both s x.worker g.worker g.slot g.page X && is_long old g.image)
      (asks_unlatch g.slot (ask_of s x.worker)) k m d.is in
      let fit = (both_hold (fits_both s x.worker g.worker g.slot g.page X) (is_long old g.image) is.0).0 in
      to_move k is.2
      (unlatch_moves old new s w hand left x y stage st a slot g h at fit is.1 (done_of k is.2 d.done)
      (reached_next k is.2).core.reached (stands_next k is.2) told.image now)

  give_back_moves : (x y : Leaver) (slot : ℕ) (g : Guard) → hand.stage ≡ Leaving x → placed hand.guards slot ≡ Some g
      → GivesBack old x g new y → HasSpent hand (Leaving y) slot left → IsDone s (give_back_call old x g s) m
      → CallStep old new s (next_of s m) hand left
  give_back_moves x y slot (Pin g) stage at told now d =
      let k : Move = move.Unwind x.worker g.slot in
      let is = if_asks (leaver_fits s x.worker g.worker g.slot g.page Free && true) k m d.is in
      to_move k is.1
      (slot_moves old new s w hand left x y stage st a slot (Pin g) at (λ q. pin_writes q g) g.worker g.slot g.page Free
      (λ e. absurd (cc)) is.0 (done_of k is.1 d.done) told.images now)
  give_back_moves x y slot (Read g) stage at told now d =
      let k : Move = move.Unwind x.worker g.slot in
      let is = if_asks (leaver_fits s x.worker g.worker g.slot g.page S && true) k m d.is in
      to_move k is.1
      (slot_moves old new s w hand left x y stage st a slot (Read g) at (λ q. read_writes q g) g.worker g.slot g.page S
      (λ e. absurd (cc)) is.0 (done_of k is.1 d.done) told.images now)
  give_back_moves x y slot (Write g) stage at told now d =
      let k : Move = move.Unwind x.worker g.slot in
      let is = if_asks (leaver_fits s x.worker g.worker g.slot g.page X && is_long old g.image) k m d.is in
      to_move k is.1
      (image_moves old new s w hand left x y stage st a slot g at (is_long old g.image) is.0 (done_of k is.1 d.done)
      (reached_next k is.1).core.reached (stands_next k is.1) told.image now)
  give_back_moves x y slot (Bundle g) stage at told now d =
      let k : Move = move.Unwind x.worker g.slot in
      let is = if_asks (leaver_fits_bundle s x.worker g.worker g.slot) k m d.is in
      to_move k is.1
      (bundle_moves old new s w hand left x y stage st a slot g at is.0 (done_of k is.1 d.done) told.images now)

  -- Any of them.
  pub call_moves : (moves : HandMoves old hand new left) → IsDone s (call_in old hand new left moves s) m
      → ((r : Returned) → hand.stage ≡ Back r → ⊥) → CallStep old new s (next_of s m) hand left
  call_moves (hands.takes chair x stage does stay now) d asks_none =
      plain (move.Take chair.worker) (is_idle s chair.worker) d (taken_still chair.worker) stay (In x) now
      (λ q. sym (ap (victim_by q) stage))
  call_moves (hands.chooses x y branch stage does stay now) d asks_none =
      plain (move.Choose x.worker branch) (is_acting s x.worker) d (chosen_still x.worker branch) stay (In y) now
      (λ q. sym (ap (victim_by q) stage))
  call_moves (hands.finishes x chair stage does stay now) d asks_none =
      plain (move.Finish x.worker) (is_acting s x.worker) d (finished_still x.worker) stay (Idle chair) now
      (λ q. sym (ap (victim_by q) stage))
  call_moves (hands.ends x chair stage does stay now) d asks_none =
      plain (move.Finish x.worker) (is_leaving s x.worker) d (finished_still x.worker) stay (Idle chair) now
      (λ q. sym (ap (victim_by q) stage))
  call_moves (hands.fixes x page f stage told now) d asks_none = fix_moves x page f stage told now d
  call_moves (hands.answers returned out stage told now) d asks_none = absurd (asks_none returned stage)
  call_moves (hands.unfixes x y slot g stage at told now) d asks_none = unfix_moves x y slot g stage at told now d
  call_moves (hands.scatters x y slot g stage at told now) d asks_none = scatter_moves x y slot g stage at told now d
  call_moves (hands.latches_shared x y slot g h stage at told now) d asks_none =
      latch_shared_moves x y slot g h stage at told now d
  call_moves (hands.latches_exclusive x y slot g h stage at told now) d asks_none =
      latch_exclusive_moves x y slot g h stage at told now d
  call_moves (hands.unlatches_shared x y slot g h stage at told now) d asks_none =
      unlatch_shared_moves x y slot g h stage at told now d
  call_moves (hands.unlatches_exclusive x y slot g h stage at told now) d asks_none =
      unlatch_exclusive_moves x y slot g h stage at told now d
  call_moves (hands.gives_back x y slot g stage at told now) d asks_none = give_back_moves x y slot g stage at told now d
