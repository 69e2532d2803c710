-- The answer of a device to a worker's errand: what it does with the images of pages.
use Rattle.std.proofs.Common.{◌≡◌, ◌≢◌, ◌∙◌, ℕ, Bool, true, false, Some, None, List, length, refl, sym, ap, subst}
use Rattle.std.specs.Prelude.{slice_set, is_ok, ◌&&◌, ◌==◌, if◌then◌else◌}
use Rattle.pp_cert.specs.declared.note.Held.TheVariants.{X}
use Rattle.pp_model.specs.declared.moves.Came.TheVariants.{Image}
use Rattle.pp_model.specs.declared.moves.Move.{Move}
use Rattle.pp_model.specs.declared.moves.Move.TheVariants as move
use Rattle.pp_model.specs.declared.reply.Reply.TheVariants.{Loaded}
use Rattle.pp_model.specs.Pool.{State, frame_of, frame_at, mark_at, known_mark}
use Rattle.pp_model.specs.Moves.{reply_of, next_of}
use Rattle.pp_model.specs.Reached.{IsReached}
use Rattle.pp_model.specs.Ready.{Standing, Enters}
use Rattle.pp_model.proofs.ReadyLaws.{away_are_apart}
use Rattle.pp_model.proofs.ReadyAnswers.{loaded_enters, unread_returns, written_keeps, unwritten_enters}
use Rattle.pp_core.specs.Queries.{errand_of}
use Rattle.pp_core.specs.AfterMoves.{HasLoaded}
use Rattle.pp_core.proofs.AfterMoves.{after_moves}
use Rattle.pp_device.specs.Image.{head_of}
use Rattle.pp_vault.specs.declared.tokens.Chair.{Chair}
use Rattle.pp_vault.specs.declared.tokens.Duty.{Duty}
use Rattle.pp_vault.specs.declared.tokens.Duty.TheVariants as duty
use Rattle.pp_vault.specs.declared.tokens.Errand.{Errand}
use Rattle.pp_vault.specs.declared.tokens.Leaver.{Leaver}
use Rattle.pp_vault.specs.declared.tokens.Returned.{Returned}
use Rattle.pp_vault.specs.declared.tokens.Session.{Session}
use Rattle.pp_vault.specs.declared.guards.Guard.TheVariants.{Pin, Write, Bundle}
use Rattle.pp_vault.specs.declared.guards.PinGuard.{PinGuard}
use Rattle.pp_vault.specs.declared.guards.BundleGuard.{BundleGuard}
use Rattle.pp_vault.specs.declared.answering.Answered.{Answered}
use Rattle.pp_vault.specs.declared.answering.Answered.TheVariants as answered
use Rattle.pp_vault.specs.declared.stage.Stage.{Stage}
use Rattle.pp_vault.specs.declared.stage.Stage.TheVariants.{Idle, In, Out, Back, Leaving}
use Rattle.pp_vault.specs.declared.stage.Hand.{Hand}
use Rattle.pp_vault.specs.Parts.{Parts}
use Rattle.pp_vault.specs.StandsFor.{StandsFor}
use Rattle.pp_vault.specs.ImageMoves.{PutIn}
use Rattle.pp_vault.specs.Fits.{IsEmpty}
use Rattle.pp_vault.specs.Answers.{came_of, is_head_of, is_read_out, is_write_out, IsRead, IsReadFirst, IsReadFurther}
use Rattle.pp_vault.specs.Answers.{IsUnread, IsWritten, IsUnwritten, read_call, write_call, duty_call, answer_call}
use Rattle.pp_vault.specs.Answers.{DutyEnds, AnswerComesTo}
use Rattle.pp_vault.specs.Duties.{duty_worker}
use Rattle.pp_vault.specs.Stages.{stage_worker}
use Rattle.pp_vault.specs.Holding.{placed}
use Rattle.pp_contents.specs.Content.{ready_image, victim_of, victim_by}
use Rattle.pp_contents.specs.HandMoves.{HandMoves, call_in, IsNowAt, HasAnswer}
use Rattle.pp_contents.specs.HandMoves as hands
use Rattle.pp_vault.proofs.BackSteps as back
use Rattle.pp_contents.proofs.CallMoves.{pin_writes, bundle_writes}
use Rattle.pp_contents.proofs.ContentPlaces.{unready_image}
use Rattle.pp_vault.proofs.ErrandSteps.{IsReading, is_reading, IsWriting, is_writing}
use Rattle.pp_contents.proofs.Finding.{test_same, test_apart}
use Rattle.pp_vault.proofs.FitTests.{none_some, some_some}
use Rattle.pp_contents.proofs.ImageSteps.{TokenIn, guarded, sent, NoToken, SameToken}
use Rattle.pp_contents.proofs.MovesDone.{IsDone, if_asks}
use Rattle.pp_contents.proofs.ReadyMoves.{ready_same, ready_beside, entered_none, entered_is, entered_others}
use Rattle.pp_contents.proofs.StepKinds.{AnswerStep, loads, loses, writes, keeps}
use Rattle.pp_contents.proofs.TokenMoves.{at_now, has_more}
use Rattle.pp_contents.proofs.TokensApart.{Stands, empty_place, token_unready, token_unloaded, written_unsent}
use Rattle.pp_vault.proofs.ReadSteps.{read_out}
use Rattle.pp_vault.proofs.WriteSteps.{write_out}

came_ok : (ok : Bool) (named stamp page mark : ℕ) → came_of ok (named, stamp) ≡ Image page mark → ok ≡ true
came_ok true named stamp page mark e = refl
came_ok false named stamp page mark e = cc

-- Of no page but the victim there is an image with the errand.
victim_apart : (w slot page victim other : ℕ) (image : List ℕ) → other ≢ victim
    → victim_of other (duty.Write w slot page victim) image ≡ None
victim_apart w slot page victim other image apart =
    ap (λ b. if b then Some image else None) (test_apart victim other (λ e. apart (sym e)))

victim_here : (w slot page victim : ℕ) (image : List ℕ)
    → victim_of victim (duty.Write w slot page victim) image ≡ Some image
victim_here w slot page victim image = ap (λ b. if b then Some image else None) (test_same victim victim refl)

module _ (old new : Parts) (s : State) (w : ℕ) (hand left : Hand) (st : StandsFor old s) (a : Stands s w hand) where
  reached : IsReached s
  reached = st.core.reached

  -- ---- a read

  module _ (v slot page : ℕ) (ok : Bool) (image : List ℕ) (of : v ≡ w)
      (none : (q : ℕ) → victim_by q hand.stage ≡ None)
      (out : is_read_out old.page_bytes v slot page image s ≡ true) where
    abbrev k : Move
    k = move.ReadDone v (came_of ok (head_of image))

    abbrev t : State
    t = next_of s k

    errand : errand_of s v ≡ Some (slot, page, None)
    errand = (read_out slot page (length image == old.page_bytes) (errand_of s v) out).0

    at : IsReading s v slot page
    at = is_reading s v slot page errand

    -- A slot that was empty of worker v's has no guard in its place.
    place_empty : (n : ℕ) → n ≡ slot → IsEmpty s v slot → placed hand.guards n ≡ None
    place_empty n at empty =
        empty_place s w hand a n (subst (λ u. IsEmpty s u n) of (subst (λ i. IsEmpty s v i) (sym at) empty))

    module _ (mark : ℕ) (answer : reply_of s k ≡ Loaded mark)
        (how : (frame : ℕ) × (frame_of s page ≡ Some frame) × PutIn old new frame image) where
      has_loaded : HasLoaded s t v slot page mark (came_of ok (head_of image))
      has_loaded = (after_moves s reached).loaded v (came_of ok (head_of image)) slot page mark answer errand

      enters : Enters s t page (record { frame = frame_at s page; mark = mark })
      enters = loaded_enters s reached v slot page mark at.running (came_of ok (head_of image)) at.seat at.stage answer

      into : PutIn old new (frame_at s page) image
      into = subst (λ f. PutIn old new f image) (sym (back.frame_is s page how.0 how.1)) how.2

      -- The tokens that the hand has now have no image.
      read_loads : ((q : ℕ) → SameToken hand left q) → IsReached t → Stands t w left
          → AnswerStep old new s t hand left (duty.Read v slot page) ok image
      read_loads tokens next b =
          let y : Standing = record { frame = frame_at s page; mark = mark } in
          let is_ok_read = came_ok ok (head_of image).0 (head_of image).1 page mark has_loaded.image in
          subst (λ good. AnswerStep old new s t hand left (duty.Read v slot page) good image) (sym is_ok_read)
          (loads v slot page image (λ c token. token_unloaded s reached w hand a v slot page c errand token)
          (λ c token. none_some (sym (token_unready t next w left b page c token) ∙ enters.is))
          (entered_none old new s t reached page y enters image into)
          (entered_is old new s t reached page y enters image into)
          (record { tokens = λ q apart. tokens q; ready = entered_others old new s t reached page y enters image into }))

    module _ (next : IsReached t) (b : Stands t w left) where
      pub read_fixes : (x : Session) (g : PinGuard) → IsRead old v slot page image ok x g new
          → left ≡ record { stage = In x; guards = slice_set hand.guards g.slot (Some (Pin g)) }
          → AnswerStep old new s t hand left (duty.Read v slot page) ok image
      read_fixes x g told now =
          let answer = told.replies s st in
          read_loads answer.0 answer.1 (told.images s st)
          (λ q. has_more hand left (In x) g.slot (Pin g) (place_empty g.slot told.of_slot (told.was s st)) now q (sym (none q))
          (pin_writes q g)) next b

      pub read_opens : (x : Session) (g : BundleGuard) → IsReadFirst old v slot page image ok x g new
          → left ≡ record { stage = In x; guards = slice_set hand.guards g.slot (Some (Bundle g)) }
          → AnswerStep old new s t hand left (duty.Read v slot page) ok image
      read_opens x g told now =
          let answer = told.replies s st in
          read_loads answer.0 answer.1 (told.images s st)
          (λ q. has_more hand left (In x) g.slot (Bundle g) (place_empty g.slot told.of_slot (told.was s st)) now q (sym (none q))
          (bundle_writes q g)) next b

      pub read_joins : (x : Session) → IsReadFurther old v slot page image ok x new → IsNowAt hand (In x) left
          → AnswerStep old new s t hand left (duty.Read v slot page) ok image
      read_joins x told now =
          let answer = told.replies s st in
          read_loads answer.0 answer.1 (told.images s st) (λ q. at_now hand left (In x) now q (sym (none q))) next b

    module _ (x : Leaver) (told : IsUnread old v page image ok x new) (now : IsNowAt hand (Leaving x) left) where
      pub read_loses : AnswerStep old new s t hand left (duty.Read v slot page) ok image
      read_loses =
          let answer = told.replies s st in
          let returns = unread_returns s reached v slot page at.running (came_of ok (head_of image)) answer.0 at.seat
          at.stage answer.1 in
          let how = told.images s st in
          let same = back.frame_is s page how.0 how.1 in
          loses v slot page ok image errand (λ q. at_now hand left (Leaving x) now q (sym (none q)))
          (ready_beside old new s t (frame_at s page) (Some image)
          (subst (λ f. PutIn old new f image) (sym same) how.2).images returns.0
          (away_are_apart s reached (frame_at s page) returns.1.was))

  -- ---- a victim's write

  module _ (v slot page victim : ℕ) (image : List ℕ)
      (with_it : (q : ℕ) → victim_by q hand.stage ≡ victim_of q (duty.Write v slot page victim) image)
      (out : errand_of s v ≡ Some (slot, page, Some victim)) where
    has_victim : TokenIn hand victim image
    has_victim = sent (with_it victim ∙ victim_here v slot page victim image)

    -- The hand goes on to a token that has no image of a page.
    module _ (x : Stage) (now : IsNowAt hand x left) (none : (q : ℕ) → victim_by q x ≡ None) where
      other_tokens : (other : ℕ) → other ≢ victim → SameToken hand left other
      other_tokens other apart =
          at_now hand left x now other
          (none other ∙ sym (with_it other ∙ victim_apart v slot page victim other image apart))

      no_victim : NoToken left victim
      no_victim c (guarded n g there is has) =
          written_unsent s reached w w n victim
          (a.slots n (Write g) (sym (ap (λ (h : Hand). placed h.guards n) now) ∙ there) ∙ ap (λ p. Some (p, X)) is)
          (a.sends victim image (with_it victim ∙ victim_here v slot page victim image))
      no_victim c (sent e) =
          none_some (sym (ap (λ (h : Hand). victim_by victim h.stage) now ∙ none victim) ∙ e)

    was_away : ready_image old s victim ≡ None
    was_away = unready_image old s victim (token_unready s reached w hand a victim image has_victim)

    pub write_goes_on : (further : Errand) → IsWritten old v slot page victim image further new
        → IsNowAt hand (Out further) left
        → AnswerStep old new s (next_of s (move.WriteDone v true)) hand left (duty.Write v slot page victim) true image
    write_goes_on further told now =
        let t : State = next_of s (move.WriteDone v true) in
        let answer = told.replies s st in
        let keeps_all = written_keeps s reached v answer.0 true answer.1 in
        let none : (q : ℕ) → victim_by q (Out further) ≡ None =
        λ q. ap (λ d. victim_of q d further.image) told.duty in
        writes v slot page victim image has_victim (no_victim (Out further) now none)
        (other_tokens (Out further) now none) (ready_same old new s t told.images.images keeps_all.ready) was_away

    pub write_fails : (x : Leaver) → IsUnwritten old v page image x new → IsNowAt hand (Leaving x) left
        → AnswerStep old new s (next_of s (move.WriteDone v false)) hand left (duty.Write v slot page victim) false image
    write_fails x told now =
        let t : State = next_of s (move.WriteDone v false) in
        let at : IsWriting s v slot page victim = is_writing s v slot page victim out in
        let y : Standing = record { frame = frame_at s page; mark = mark_at s victim } in
        let enters : Enters s t victim y =
        unwritten_enters s reached v slot page victim at.running false at.seat at.stage (told.replies s st) in
        let how = told.images s st in
        let into : PutIn old new y.frame image =
        subst (λ f. PutIn old new f image) (sym (back.frame_is s page how.0 how.1)) how.2 in
        keeps v slot page victim image has_victim (no_victim (Leaving x) now (λ q. refl)) was_away
        (entered_is old new s t reached victim y enters image into)
        (record {
          tokens = other_tokens (Leaving x) now (λ q. refl);
          ready = entered_others old new s t reached victim y enters image into;
        })

-- ---- any answer

module _ (old new : Parts) (s : State) (w : ℕ) (hand left : Hand) (m : Move) (st : StandsFor old s)
    (st' : StandsFor new (next_of s m)) (a : Stands s w hand) (b : Stands (next_of s m) w left) where
  -- The step, for the move that the call was.
  to_move : (d : Duty) (ok : Bool) (image : List ℕ) (k : Move) → k ≡ m
      → AnswerStep old new s (next_of s k) hand left d ok image → AnswerStep old new s (next_of s m) hand left d ok image
  to_move d ok image k e step = subst (λ n. AnswerStep old new s (next_of s n) hand left d ok image) e step

  read_moves : (v slot page : ℕ) (ok : Bool) (image : List ℕ) → v ≡ w → ((q : ℕ) → victim_by q hand.stage ≡ None)
      → (o : Answered) → DutyEnds old (duty.Read v slot page) image ok o new → HasAnswer hand o left
      → IsDone s (read_call old.page_bytes v slot page image ok s) m
      → AnswerStep old new s (next_of s m) hand left (duty.Read v slot page) ok image
  read_moves v slot page ok image of none (answered.Got x g) ends now done =
      let k : Move = move.ReadDone v (came_of ok (head_of image)) in
      let is = if_asks (is_read_out old.page_bytes v slot page image s) k m done.is in
      let next : StandsFor new (next_of s k) = subst (λ n. StandsFor new (next_of s n)) (sym is.1) st' in
      to_move (duty.Read v slot page) ok image k is.1
      (read_fixes old new s w hand left st a v slot page ok image of none is.0 next.core.reached
      (subst (λ n. Stands (next_of s n) w left) (sym is.1) b) x g ends.1 now)
  read_moves v slot page ok image of none (answered.Opened x g) ends now done =
      let k : Move = move.ReadDone v (came_of ok (head_of image)) in
      let is = if_asks (is_read_out old.page_bytes v slot page image s) k m done.is in
      let next : StandsFor new (next_of s k) = subst (λ n. StandsFor new (next_of s n)) (sym is.1) st' in
      to_move (duty.Read v slot page) ok image k is.1
      (read_opens old new s w hand left st a v slot page ok image of none is.0 next.core.reached
      (subst (λ n. Stands (next_of s n) w left) (sym is.1) b) x g ends.1 now)
  read_moves v slot page ok image of none (answered.Joined x) ends now done =
      let k : Move = move.ReadDone v (came_of ok (head_of image)) in
      let is = if_asks (is_read_out old.page_bytes v slot page image s) k m done.is in
      let next : StandsFor new (next_of s k) = subst (λ n. StandsFor new (next_of s n)) (sym is.1) st' in
      to_move (duty.Read v slot page) ok image k is.1
      (read_joins old new s w hand left st a v slot page ok image of none is.0 next.core.reached
      (subst (λ n. Stands (next_of s n) w left) (sym is.1) b) x ends.1 now)
  read_moves v slot page ok image of none (answered.Lost x) ends now done =
      let k : Move = move.ReadDone v (came_of ok (head_of image)) in
      let is = if_asks (is_read_out old.page_bytes v slot page image s) k m done.is in
      to_move (duty.Read v slot page) ok image k is.1
      (read_loses old new s w hand left st a v slot page ok image of none is.0 x ends.1 now)
  read_moves v slot page ok image of none (answered.Away further) ends now done = absurd ends
  read_moves v slot page ok image of none (answered.Flushed clean) ends now done = absurd ends

  write_moves : (v slot page victim : ℕ) (ok : Bool) (image : List ℕ)
      → ((q : ℕ) → victim_by q hand.stage ≡ victim_of q (duty.Write v slot page victim) image)
      → (o : Answered) → DutyEnds old (duty.Write v slot page victim) image ok o new → HasAnswer hand o left
      → IsDone s (write_call old.page_bytes v slot page victim image ok s) m
      → AnswerStep old new s (next_of s m) hand left (duty.Write v slot page victim) ok image
  write_moves v slot page victim ok image with_it (answered.Away further) ends now done =
      let is = if_asks (is_write_out old.page_bytes v slot page victim image s) (move.WriteDone v ok) m done.is in
      let out = (write_out slot page victim
      ((length image == old.page_bytes) && is_head_of victim (head_of image) (known_mark s victim)) (errand_of s v) is.0).0 in
      subst (λ good. AnswerStep old new s (next_of s m) hand left (duty.Write v slot page victim) good image) (sym ends.0)
      (to_move (duty.Write v slot page victim) true image (move.WriteDone v true)
      (ap (λ good. move.WriteDone v good) (sym ends.0) ∙ is.1)
      (write_goes_on old new s w hand left st a v slot page victim image with_it out further ends.2 now))
  write_moves v slot page victim ok image with_it (answered.Lost x) ends now done =
      let is = if_asks (is_write_out old.page_bytes v slot page victim image s) (move.WriteDone v ok) m done.is in
      let out = (write_out slot page victim
      ((length image == old.page_bytes) && is_head_of victim (head_of image) (known_mark s victim)) (errand_of s v) is.0).0 in
      subst (λ good. AnswerStep old new s (next_of s m) hand left (duty.Write v slot page victim) good image) (sym ends.0)
      (to_move (duty.Write v slot page victim) false image (move.WriteDone v false)
      (ap (λ good. move.WriteDone v good) (sym ends.0) ∙ is.1)
      (write_fails old new s w hand left st a v slot page victim image with_it out x ends.2 now))
  write_moves v slot page victim ok image with_it (answered.Got x g) ends now done = absurd ends
  write_moves v slot page victim ok image with_it (answered.Opened x g) ends now done = absurd ends
  write_moves v slot page victim ok image with_it (answered.Joined x) ends now done = absurd ends
  write_moves v slot page victim ok image with_it (answered.Flushed clean) ends now done = absurd ends

  duty_moves : (d : Duty) (ok : Bool) (image : List ℕ) → duty_worker d ≡ Some w
      → ((q : ℕ) → victim_by q hand.stage ≡ victim_of q d image)
      → (o : Answered) → DutyEnds old d image ok o new → HasAnswer hand o left
      → IsDone s (duty_call old.page_bytes d image ok s) m
      → AnswerStep old new s (next_of s m) hand left d ok image
  duty_moves (duty.Read v slot page) ok image of with_it o ends now done =
      read_moves v slot page ok image (some_some v v w of) with_it o ends now done
  duty_moves (duty.Write v slot page victim) ok image of with_it o ends now done =
      write_moves v slot page victim ok image with_it o ends now done
  duty_moves (duty.Flush page) ok image of with_it o ends now done = absurd (none_some of)

  -- The answer to what the worker's token tells.
  module _ (r : Returned) (stage : hand.stage ≡ Back r) where
    of_worker : duty_worker r.duty ≡ Some w
    of_worker = sym (ap stage_worker stage) ∙ a.worker

    idle_back : (x : Chair) → Idle x ≡ Back r → ⊥
    idle_back x e = cc

    in_back : (x : Session) → In x ≡ Back r → ⊥
    in_back x e = cc

    leaving_back : (x : Leaver) → Leaving x ≡ Back r → ⊥
    leaving_back x e = cc

    same_back : (q : Returned) → hand.stage ≡ Back q → q ≡ r
    same_back q e = back_same q r (sym e ∙ stage)
      where
        back_same : (x y : Returned) → Back x ≡ Back y → x ≡ y
        back_same x y f = cc

    pub answer_moves : (moves : HandMoves old hand new left) → IsDone s (call_in old hand new left moves s) m
        → AnswerStep old new s (next_of s m) hand left r.duty (is_ok r.answer) r.image
    answer_moves (hands.answers q o at told now) done =
        let e : q ≡ r = same_back q at in
        duty_moves r.duty (is_ok r.answer) r.image of_worker (λ p. ap (victim_by p) stage) o
        (subst (λ x. AnswerComesTo old x o new) e told) now
        (subst (λ x. IsDone s (answer_call old.page_bytes x s) m) e done)
    answer_moves (hands.takes chair x at does stay now) done = absurd (idle_back chair (sym at ∙ stage))
    answer_moves (hands.chooses x y branch at does stay now) done = absurd (in_back x (sym at ∙ stage))
    answer_moves (hands.finishes x chair at does stay now) done = absurd (in_back x (sym at ∙ stage))
    answer_moves (hands.ends x chair at does stay now) done = absurd (leaving_back x (sym at ∙ stage))
    answer_moves (hands.fixes x page f at told now) done = absurd (in_back x (sym at ∙ stage))
    answer_moves (hands.unfixes x y slot g at there told now) done = absurd (in_back x (sym at ∙ stage))
    answer_moves (hands.scatters x y slot g at there told now) done = absurd (in_back x (sym at ∙ stage))
    answer_moves (hands.latches_shared x y slot g h at there told now) done = absurd (in_back x (sym at ∙ stage))
    answer_moves (hands.latches_exclusive x y slot g h at there told now) done = absurd (in_back x (sym at ∙ stage))
    answer_moves (hands.unlatches_shared x y slot g h at there told now) done = absurd (in_back x (sym at ∙ stage))
    answer_moves (hands.unlatches_exclusive x y slot g h at there told now) done = absurd (in_back x (sym at ∙ stage))
    answer_moves (hands.gives_back x y slot g at there told now) done = absurd (leaving_back x (sym at ∙ stage))
