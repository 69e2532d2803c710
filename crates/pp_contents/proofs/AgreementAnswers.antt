-- What a device told with an answer: of pages that are ready, and of a page that was read.
use Rattle.std.proofs.Common.{◌≡◌, ◌≢◌, ◌∙◌, ℕ, Bool, true, false, Option, Some, None, Ok, Err, List, refl, sym, ap}
use Rattle.std.proofs.Common.{subst, arith}
use Rattle.std.specs.Prelude.{unwrap_or, ◌==◌, is_ok, IsTrue, if◌then◌else◌}
use Rattle.std.proofs.lemmas.Bool.{false≢true}
use Rattle.std.proofs.lemmas.Bool.Decides.{nat_tests}
use Rattle.pp_model.specs.declared.moves.Came.TheVariants.{Fault}
use Rattle.pp_model.specs.declared.moves.Move.{Move}
use Rattle.pp_model.specs.declared.moves.Move.TheVariants.{ReadDone}
use Rattle.pp_model.specs.declared.reply.Reply.TheVariants.{Loaded}
use Rattle.pp_model.specs.Pool.{State, frame_of}
use Rattle.pp_model.specs.Moves.{reply_of, next_of}
use Rattle.pp_model.specs.Reached.{IsReached}
use Rattle.pp_model.specs.Ready.{Standing, ready_at}
use Rattle.pp_model.specs.Shapes.{fits_reply}
use Rattle.pp_model.proofs.Shapes.{reply_fits}
use Rattle.pp_model.proofs.ReadyAnswers.{loaded_enters, unread_returns}
use Rattle.pp_core.specs.Queries.{errand_of}
use Rattle.pp_device.specs.Answers.{Answer}
use Rattle.pp_device.specs.Image.{head_of, body_of}
use Rattle.pp_vault.specs.declared.tokens.Duty.{Duty}
use Rattle.pp_vault.specs.declared.tokens.Duty.TheVariants as duty
use Rattle.pp_vault.specs.declared.tokens.Leaver.{Leaver}
use Rattle.pp_vault.specs.declared.answering.Answered.{Answered}
use Rattle.pp_vault.specs.declared.answering.Answered.TheVariants as answered
use Rattle.pp_vault.specs.Parts.{Parts}
use Rattle.pp_vault.specs.StandsFor.{StandsFor, image_in}
use Rattle.pp_vault.specs.ImageMoves.{PutIn}
use Rattle.pp_vault.specs.Answers.{is_read_out, read_call, duty_call, came_of, IsUnread, DutyEnds}
use Rattle.pp_vault.specs.Calls.{asks}
use Rattle.pp_contents.specs.Told.{duty_page, told_after}
use Rattle.pp_contents.specs.Content.{ready_image}
use Rattle.pp_vault.specs.Duties.{duty_worker}
use Rattle.pp_vault.specs.Tokens.{IsOut}
use Rattle.pp_vault.proofs.FitTests.{none_some, some_some}
use Rattle.pp_vault.proofs.ErrandSteps.{is_reading}
use Rattle.pp_vault.proofs.Images.{in_here}
use Rattle.pp_contents.proofs.AgreementStates.{loads_of_errand, sends_of_errand, loading_unready, victim_unready}
use Rattle.pp_contents.proofs.AgreementImages.{IsShown, shown, one_image, not_standing}
use Rattle.pp_contents.proofs.MovesDone.{if_asks}

-- ---- pages that are ready

other_page : (q p : ℕ) → q ≢ p → (q == p) ≡ false
other_page q p d = grind (arith, nat_tests)

pub same_page : (q p : ℕ) → q ≡ p → (q == p) ≡ true
same_page q p d = grind (arith, nat_tests)

-- Of another page than the duty's nothing is told anew.
pub untold : (told : ℕ → List ℕ) (d : Duty) (answer : Answer) (given : List ℕ) (q : ℕ) → q ≢ duty_page d
    → told_after told d answer given q ≡ told q
untold told d (Ok done) given q apart = ap (λ b. if b then given else told q) (other_page q (duty_page d) apart)
untold told d (Err why) given q apart = refl

-- A page that is ready isn't one of a worker's errand.
pub ready_apart : (s : State) (w : ℕ) (d : Duty) → IsReached s → duty_worker d ≡ Some w → IsOut s d → (q : ℕ)
    (x : Standing) → ready_at s q ≡ Some x → q ≢ duty_page d
ready_apart s w (duty.Read v slot page) h by out q x ready e =
    not_standing
    (sym (loading_unready s page (loads_of_errand s v slot page None out)) ∙ ap (ready_at s) (sym e) ∙ ready)
ready_apart s w (duty.Write v slot page victim) h by out q x ready e =
    not_standing
    (sym (victim_unready s h victim (sends_of_errand s v slot page victim out)) ∙ ap (ready_at s) (sym e) ∙ ready)
ready_apart s w (duty.Flush page) h by out q x ready e = none_some by

-- ---- a page that was read

-- A fault loads nothing.
faultless : (s : State) (w mark : ℕ) → reply_of s (ReadDone w Fault) ≡ Loaded mark → ⊥
faultless s w mark e =
    false≢true (subst (λ r. IsTrue (fits_reply (ReadDone w Fault) r)) e (reply_fits s (ReadDone w Fault)))

loads_well : (s : State) (w mark : ℕ) (ok : Bool) (head : ℕ × ℕ)
    → reply_of s (ReadDone w (came_of ok head)) ≡ Loaded mark → ok ≡ true
loads_well s w mark true head e = refl
loads_well s w mark false head e = absurd (faultless s w mark e)

module _ (old new : Parts) (s : State) (m : Move) (st : StandsFor old s) (w slot page : ℕ)
    (out : errand_of s w ≡ Some (slot, page, None)) (given : List ℕ) (ok : Bool)
    (done : read_call old.page_bytes w slot page given ok s ≡ asks m) (j : List ℕ)
    (is : ready_image new (next_of s m) page ≡ Some j) where
  abbrev moved : Move
  moved = ReadDone w (came_of ok (head_of given))

  same_move : moved ≡ m
  same_move = (if_asks (is_read_out old.page_bytes w slot page given s) moved m done).1

  stands : IsShown new (next_of s moved) page j
  stands = shown new (next_of s moved) page j (ap (λ n. ready_image new (next_of s n) page) same_move ∙ is)

  -- It is the image that came, and came well.
  loaded_told : (mark : ℕ) × (reply_of s (ReadDone w (came_of ok (head_of given))) ≡ Loaded mark)
      × (head_of given ≡ (page, mark))
      → (frame : ℕ) × (frame_of s page ≡ Some frame) × PutIn old new frame given → (ok ≡ true) × (j ≡ given)
  loaded_told told put =
      let at = is_reading s w slot page out in
      let enters =
      loaded_enters s st.core.reached w slot page told.0 at.running (came_of ok (head_of given)) at.seat at.stage
      told.1 in
      let shows = stands in
      let frame : shows.at.frame ≡ put.0 =
      ap (λ (o : Option Standing). (unwrap_or o shows.at).frame) (sym shows.ready ∙ enters.is)
      ∙ ap (λ (o : Option ℕ). unwrap_or o 0) put.1 in
      let there : image_in new.images put.0 ≡ Some given =
      ap (λ xs. image_in xs put.0) put.2.images ∙ in_here old.images put.0 (Some given) put.2.there in (
        loads_well s w told.0 ok (head_of given) told.1,
        one_image (sym shows.there ∙ ap (image_in new.images) frame ∙ there),
      )

  -- A page that wasn't read isn't ready.
  lost_told : (leaver : Leaver) → IsUnread old w page given ok leaver new → ⊥
  lost_told leaver unread =
      let told = unread.replies s st in
      let at = is_reading s w slot page out in
      let stay =
      unread_returns s st.core.reached w slot page at.running (came_of ok (head_of given)) told.0 at.seat at.stage
      told.1 in
      not_standing
      (sym (loading_unready s page (loads_of_errand s w slot page None out)) ∙ sym (stay.0 page) ∙ stands.ready)

pub reading_told : (old new : Parts) (s : State) (m : Move) → StandsFor old s → (w slot page : ℕ)
    → errand_of s w ≡ Some (slot, page, None) → (given : List ℕ) (ok : Bool)
    → read_call old.page_bytes w slot page given ok s ≡ asks m → (out : Answered)
    → DutyEnds old (duty.Read w slot page) given ok out new → (j : List ℕ)
    → ready_image new (next_of s m) page ≡ Some j → (ok ≡ true) × (j ≡ given)
reading_told old new s m st w slot page away given ok done (answered.Got x g) ends j is =
    loaded_told old new s m st w slot page away given ok done j is (ends.1.replies s st) (ends.1.images s st)
reading_told old new s m st w slot page away given ok done (answered.Opened x g) ends j is =
    loaded_told old new s m st w slot page away given ok done j is (ends.1.replies s st) (ends.1.images s st)
reading_told old new s m st w slot page away given ok done (answered.Joined x) ends j is =
    loaded_told old new s m st w slot page away given ok done j is (ends.1.replies s st) (ends.1.images s st)
reading_told old new s m st w slot page away given ok done (answered.Lost leaver) ends j is =
    absurd (lost_told old new s m st w slot page away given ok done j is leaver ends.1)
reading_told old new s m st w slot page away given ok done (answered.Away errand) ends j is = absurd ends
reading_told old new s m st w slot page away given ok done (answered.Flushed clean) ends j is = absurd ends

-- What was read is what the device told.
read_well : (told : ℕ → List ℕ) (w slot page : ℕ) (answer : Answer) (given : List ℕ) → is_ok answer ≡ true
    → given ≡ told_after told (duty.Read w slot page) answer given page
read_well told w slot page (Ok done) given ok =
    ap (λ b. if b then given else told page) (sym (same_page page page refl))
read_well told w slot page (Err why) given ok = absurd (false≢true ok)

-- The errand is the one that the core has out for the worker.
same_errand : (i p k q : ℕ) → ◌≡◌ {A = Option (ℕ × ℕ × Option ℕ)} (Some (i, p, None)) (Some (k, q, None)) → p ≡ q
same_errand i p k q e = ap (λ (o : Option (ℕ × ℕ × Option ℕ)). (unwrap_or o (i, p, None)).1) e

module _ (old new : Parts) (s : State) (m : Move) (st : StandsFor old s) (told : ℕ → List ℕ) (w : ℕ) (given : List ℕ)
    (answer : Answer) (out : Answered) (k q : ℕ) (waits : errand_of s w ≡ Some (k, q, None)) (j : List ℕ)
    (is : ready_image new (next_of s m) q ≡ Some j) where
  answered_read : (v slot page : ℕ) → v ≡ w → errand_of s v ≡ Some (slot, page, None)
      → DutyEnds old (duty.Read v slot page) given (is_ok answer) out new
      → read_call old.page_bytes v slot page given (is_ok answer) s ≡ asks m
      → body_of j ≡ body_of (told_after told (duty.Read v slot page) answer given q)
  answered_read v slot page same away ends done =
      let it : page ≡ q = same_errand slot page k q (sym away ∙ ap (errand_of s) same ∙ waits) in
      let came =
      reading_told old new s m st v slot page away given (is_ok answer) done out ends j
      (ap (ready_image new (next_of s m)) it ∙ is) in
      ap body_of
      (came.1 ∙ read_well told v slot page answer given came.0
      ∙ ap (told_after told (duty.Read v slot page) answer given) it)

  pub answer_told : (d : Duty) → duty_worker d ≡ Some w → IsOut s d → DutyEnds old d given (is_ok answer) out new
      → duty_call old.page_bytes d given (is_ok answer) s ≡ asks m
      → body_of j ≡ body_of (told_after told d answer given q)
  answer_told (duty.Read v slot page) by away ends done = answered_read v slot page (some_some w v w by) away ends done
  answer_told (duty.Write v slot page victim) by away ends done =
      absurd (apart (sym away ∙ ap (errand_of s) (some_some w v w by) ∙ waits))
    where
      apart : ◌≡◌ {A = Option (ℕ × ℕ × Option ℕ)} (Some (slot, page, Some victim)) (Some (k, q, None)) → ⊥
      apart e =
          none_some
          (sym (ap (λ (o : Option (ℕ × ℕ × Option ℕ)). (unwrap_or o (slot, page, Some victim)).2) e))
  answer_told (duty.Flush page) by away ends done = absurd (none_some by)
