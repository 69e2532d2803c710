-- Cues that are played over a device.
use Rattle.std.proofs.Common.{◌≡◌, ◌∙◌, ℕ, true, false, Option, Some, None, List, refl, sym, ap, subst}
use Rattle.std.specs.Prelude.{is_some, is_ok}
use Rattle.std.proofs.lemmas.Bool.{false≢true}
use Rattle.pp_model.specs.declared.moves.Move.{Move}
use Rattle.pp_model.specs.declared.reply.Reply.{Reply}
use Rattle.pp_model.specs.Pool.{State}
use Rattle.pp_model.specs.Moves.{next_of}
use Rattle.pp_core.specs.Queries.{errand_of, flushed_page}
use Rattle.pp_device.specs.Answers.{Answer}
use Rattle.pp_model.specs.declared.refusals.Cause.TheVariants.{NoErrand}
use Rattle.pp_vault.specs.declared.refusal.Refusal.{Refusal}
use Rattle.pp_vault.specs.declared.refusal.Refusal.TheVariants.{OffPlan}
use Rattle.pp_vault.specs.declared.tokens.Duty.{Duty}
use Rattle.pp_vault.specs.declared.tokens.Duty.TheVariants as duty
use Rattle.pp_vault.specs.declared.tokens.Errand.{Errand}
use Rattle.pp_vault.specs.declared.tokens.Returned.{Returned}
use Rattle.pp_vault.specs.declared.answering.Answered.TheVariants.{Flushed}
use Rattle.pp_vault.specs.declared.stage.Hand.{Hand}
use Rattle.pp_vault.specs.declared.stage.Stage.{Stage}
use Rattle.pp_vault.specs.declared.stage.Stage.TheVariants as stage
use Rattle.pp_vault.specs.declared.hands.Flushing.{Flushing}
use Rattle.pp_vault.specs.declared.hands.Flushing.TheVariants as flushing
use Rattle.pp_vault.specs.declared.hands.Hands.{Hands}
use Rattle.pp_vault.specs.Parts.{Parts}
use Rattle.pp_vault.specs.StandsFor.{StandsFor}
use Rattle.pp_vault.specs.Events.{Does}
use Rattle.pp_vault.specs.Events as event
use Rattle.pp_vault.specs.Answers.{answer_call, AnswerComesTo}
use Rattle.pp_vault.specs.Flushes.{flush_call, CopiesOut}
use Rattle.pp_vault.specs.Hands.{HandsFit, HandsFitState, FlushingFits, IsFlushAway, StageFits}
use Rattle.pp_vault.specs.HandLaws.{FitsIn}
use Rattle.pp_vault.specs.Duties.{duty_worker}
use Rattle.pp_vault.specs.Holding.{placed}
use Rattle.pp_vault.specs.Carrying.{CarriesOut}
use Rattle.pp_contents.specs.Told.{told_after}
use Rattle.pp_contents.specs.Content.{content, ContentsStay}
use Rattle.pp_contents.specs.Agreeing.{Agrees}
use Rattle.pp_contents.specs.ContentLaws as law
use Rattle.pp_contents.specs.ContentLaws.{HandsBack, KeepsContents, GivesBackImage, AnswerFollows, returned_of}
use Rattle.pp_contents.specs.ContentLaws.{CallsKeepContents, AnswersSetContents, FlushesKeepContents}
use Rattle.pp_contents.specs.ContentLaws.{FlushAnswersKeepContents, WritersSetContents, ContentsAreSeen}
use Rattle.pp_script.specs.declared.cue.Cue.{Cue}
use Rattle.pp_script.specs.declared.cue.Cue.TheVariants as cue
use Rattle.pp_play.specs.declared.line.Line.{Line}
use Rattle.pp_play.specs.declared.line.Line.TheVariants.{Did, Refused, Wrote, Looked, NoLatch}
use Rattle.pp_play.specs.Plays.{Tells}
use Rattle.pp_play.specs.Exact.{unless_out, refusal_to, guards_of, Plays}
use Rattle.pp_play.specs.Calling.{is_back, tells_answer}
use Rattle.pp_play.specs.Doing.{cue_worker}
use Rattle.pp_play.specs.Following.{errand_at, errand_in, flush_errand, errand_for, answer_move}
use Rattle.pp_play.specs.Following.{CueFollows, ShowsFirst, FlusherFollows, Follows, PlaysOver}
use Rattle.pp_play.specs.Moving.{tells_move, hand_errand, DoesWith, EndsFlush, KeepsAll, PlaysFromAll}
use Rattle.pp_play.proofs.AllHands.{part_fits}
use Rattle.pp_play.proofs.Answers.{out_at, same_returned}
use Rattle.pp_play.proofs.Asked.{same}
use Rattle.pp_play.proofs.Contents.{same_keeps, unchanged, still_agrees, did_follows, refused_follows}
use Rattle.pp_play.proofs.Contents.{did_shows, refused_shows, shown, written}
use Rattle.pp_play.proofs.FlushHands.{flush_allowed}
use Rattle.pp_play.proofs.Steady.{duty_steady, hand_steady, quiet_flusher, worker_flusher}
use Rattle.pp_play.proofs.Unfit as unfit

-- What the vault's calls leave of contents.
pub record Laws : Type 0 where
  pub calls : CallsKeepContents
  pub answers : AnswersSetContents
  pub flushes : FlushesKeepContents
  pub flush_answers : FlushAnswersKeepContents
  pub writers : WritersSetContents
  pub seen : ContentsAreSeen

-- ---- errands of cues that are refused

not_some : (why : Refusal) → ◌≡◌ {A = Option Refusal} None (Some why) → ⊥
not_some why e = false≢true (ap is_some e)

module _ (v : Parts) (hands : Hands) (fits : HandsFit v hands) (s : State) (st : StandsFor v s) where
  -- A hand with an errand that is out is of a worker for whom one is.
  stage_none : (w : ℕ) (x : Stage) → StageFits v.page_bytes s w x → (why : Refusal)
      → unless_out (is_some (errand_of s w)) ≡ Some why → errand_at x ≡ None
  stage_none w (stage.Idle chair) fit why e = refl
  stage_none w (stage.In session) fit why e = refl
  stage_none w (stage.Out errand) fit why e =
      absurd (not_some why (ap unless_out (sym (unfit.away v.page_bytes s w errand.duty errand.image fit)) ∙ e))
  stage_none w (stage.Back returned) fit why e = refl
  stage_none w (stage.Leaving leaver) fit why e = refl

  hand_none : (w : ℕ) (o : Option Hand) → placed hands.workers w ≡ o → (why : Refusal)
      → unless_out (is_some (errand_of s w)) ≡ Some why → errand_in o ≡ None
  hand_none w None there why e = refl
  hand_none w (Some hand) there why e =
      let fit : FitsIn v w hand = part_fits v hands w hand there fits in
      stage_none w hand.stage (fit s st).stage why e

  flush_none : (f : Option Flushing) → FlushingFits v.page_bytes s f → (why : Refusal)
      → unless_out (is_some (flushed_page s)) ≡ Some why → flush_errand f ≡ None
  flush_none None fit why e = refl
  flush_none (Some (flushing.Out errand)) fit why e =
      absurd (not_some why (sym (flush_allowed v.page_bytes s errand.duty errand.image fit) ∙ e))
  flush_none (Some (flushing.Back returned)) fit why e = refl

  -- A cue that is refused has no errand.
  refused_none : (q : Cue) (why : Refusal) → refusal_to s q ≡ Some why → errand_for hands q ≡ None
  refused_none (cue.Device w) why e = hand_none w (placed hands.workers w) refl why e
  refused_none cue.FlushDevice why e = flush_none hands.flushing (fits s st).flushing why e
  refused_none q why e = refl

-- ---- cues that aren't moves

module _ {D : Type 0} (reads : D → ℕ → List ℕ → Answer → List ℕ → D → Type 0)
    (writes : D → ℕ → List ℕ → Answer → D → Type 0) (laws : Laws) (old new : Parts) (hands left : Hands) (d e : D)
    (fits : HandsFit old hands) (s : State) (st : StandsFor old s) (told : ℕ → List ℕ)
    (agrees : Agrees old s hands told) where
  abbrev Over : Cue → Line → Type 0
  Over q line =
      (t : State) × (now : ℕ → List ℕ) × PlaysOver reads writes old s hands d told q line new t left e now

  abbrev Before : ℕ → List ℕ
  Before = content old s hands told

  at_start : law.Held old s hands
  at_start = record { stands = st; fit = fits s st }

  -- ---- cues that aren't moves

  -- Of a cue that asks no device and changes no byte.
  kept_over : (q : Cue) (line : Line) → e ≡ d → Plays old hands q line new left → Tells s q line s → StandsFor new s
      → new ≡ old → left ≡ hands → errand_for hands q ≡ None → tells_move line ≡ false
      → ((c n : ℕ → List ℕ) → ContentsStay c n → CueFollows s q line c n) → ShowsFirst s q line Before → Over q line
  kept_over q line device plays tells stands same hands_same none not follows shows =
      let keeps = same_keeps s hands told old new same agrees in
      let stay : ContentsStay Before (content new s left told) =
      subst (λ h. ContentsStay Before (content new s h told)) (sym hands_same) keeps.stay in (
        s,
        told,
        record {
          plays = plays;
          tells = tells;
          stands = stands;
          follows =
              subst (λ o. Follows reads writes o s q line d e told told Before (content new s left told)) (sym none)
              (device, refl, follows Before (content new s left told) stay);
          shown = shows;
          flusher = quiet_flusher old s hands left (ap (λ (h : Hands). h.flushing) hands_same) q line not;
          length = ap (λ (v : Parts). v.page_bytes) same;
          agrees = subst (λ h. Agrees new s h told) (sym hands_same) keeps.agrees;
        },
      )

  wrote_over : (w slot byte : ℕ) → e ≡ d → Plays old hands (cue.Write w slot byte) Wrote new left
      → Tells s (cue.Write w slot byte) Wrote s → StandsFor new s → Over (cue.Write w slot byte) Wrote
  wrote_over w slot byte device plays tells stands =
      let same = plays.leaves.0 in
      let size : new.page_bytes ≡ old.page_bytes = ap (λ (v : Parts). v.page_bytes) same in
      let after : law.Held old s left =
      record { stands = st; fit = subst (λ n. HandsFitState n s left) size (plays.fit s stands) } in
      let did =
      written old s st hands w slot fits told laws.seen laws.writers agrees byte left after (guards_of left w)
      (plays.exact s st).1 plays.leaves.1 in
      let next : (page : ℕ) → content new s left told page ≡ content old s left told page =
      unchanged s left told old new same in (
        s,
        told,
        record {
          plays = plays;
          tells = tells;
          stands = stands;
          follows = (device, refl, (did.page, did.held, λ page. next page ∙ did.sets page));
          shown = tt;
          flusher = ap (λ (h : Hands). h.flushing) plays.leaves.1;
          length = size;
          agrees = still_agrees s left told old new same did.agrees;
        },
      )

  -- A cue that does no move.
  by_line : (q : Cue) (line : Line) → tells_move line ≡ false → e ≡ d → Plays old hands q line new left
      → (t : State) → Tells s q line t → StandsFor new t → Over q line
  by_line q (Did m r) not device plays t tells stands = absurd (false≢true (sym not))
  by_line q (Refused asked why) not device plays t tells stands =
      kept_over q (Refused asked why) device plays (tells.0, refl) (subst (StandsFor new) tells.1 stands)
      plays.leaves.0 plays.leaves.1 (refused_none old hands fits s st q why (plays.exact s st)) refl
      (refused_follows s q asked why) (refused_shows s q asked why Before)
  by_line (cue.Write w slot byte) Wrote not device plays t tells stands =
      wrote_over w slot byte device plays (tells.0, refl) (subst (StandsFor new) tells.1 stands)
  by_line (cue.Write w slot byte) NoLatch not device plays t tells stands =
      kept_over (cue.Write w slot byte) NoLatch device plays (tells.0, refl) (subst (StandsFor new) tells.1 stands)
      plays.leaves.0 plays.leaves.1 refl refl (λ c n h. h) tt
  by_line (cue.Look w slot) (Looked byte) not device plays t tells stands =
      let seen = (plays.exact s st).2 in
      kept_over (cue.Look w slot) (Looked byte) device plays (tells.0, refl) (subst (StandsFor new) tells.1 stands)
      plays.leaves.0 plays.leaves.1 refl refl (λ c n h. h)
      (shown old s st hands w slot fits told laws.seen seen.0 byte seen.1 seen.2)
  by_line (cue.Look w slot) NoLatch not device plays t tells stands =
      kept_over (cue.Look w slot) NoLatch device plays (tells.0, refl) (subst (StandsFor new) tells.1 stands)
      plays.leaves.0 plays.leaves.1 refl refl (λ c n h. h) tt
  by_line q line not device plays t tells stands = absurd (plays.exact s st)

  pub quiet_over : (q : Cue) (line : Line) → tells_move line ≡ false → e ≡ d → Plays old hands q line new left
      → Over q line
  quiet_over q line not device plays =
      let c = plays.comes s st in
      by_line q line not device plays c.0 c.1 c.2

  -- ---- cues that are moves

  -- What is known of a move that is done.
  record Done (q : Cue) (m : Move) (r : Reply) : Type 0 where
    tells : Tells s q (Did m r) (next_of s m)
    held : law.Held new (next_of s m) left

  done : (q : Cue) (m : Move) (r : Reply) → Plays old hands q (Did m r) new left → Done q m r
  done q m r plays =
      let c = plays.comes s st in
      let stands = subst (StandsFor new) c.1.3 c.2 in
      record {
        tells = (c.1.0, c.1.1, c.1.2, refl);
        held = record { stands = stands; fit = plays.fit (next_of s m) stands };
      }

  -- One that asks no device.
  pub moved_over : (q : Cue) (m : Move) (r : Reply) → e ≡ d → Plays old hands q (Did m r) new left
      → errand_for hands q ≡ None → FlusherFollows old s hands q (Did m r) left → new.page_bytes ≡ old.page_bytes
      → KeepsContents old s hands told new (next_of s m) left told → Over q (Did m r)
  moved_over q m r device plays none flusher size keeps =
      let known = done q m r plays in
      let After = content new (next_of s m) left told in (
        next_of s m,
        told,
        record {
          plays = plays;
          tells = known.tells;
          stands = known.held.stands;
          follows =
              subst (λ o. Follows reads writes o s q (Did m r) d e told told Before After) (sym none)
              (device, refl, did_follows s q m r Before After keeps.stay);
          shown = did_shows s q m r Before;
          flusher = flusher;
          length = size;
          agrees = keeps.agrees;
        },
      )

  -- One that tells what a device answered.
  pub asked_over : (q : Cue) (errand : Errand) (given : List ℕ) (answer : Answer) (r : Reply)
      → Plays old hands q (Did (answer_move errand.duty given answer) r) new left → errand_for hands q ≡ Some errand
      → CarriesOut reads writes errand.duty d errand.image answer given e
      → FlusherFollows old s hands q (Did (answer_move errand.duty given answer) r) left → new.page_bytes ≡ old.page_bytes
      → AnswerFollows errand.duty answer given Before
      (content new (next_of s (answer_move errand.duty given answer)) left (told_after told errand.duty answer given))
      → Agrees new (next_of s (answer_move errand.duty given answer)) left (told_after told errand.duty answer given)
      → Over q (Did (answer_move errand.duty given answer) r)
  asked_over q errand given answer r plays out made flusher size follows agree =
      let m = answer_move errand.duty given answer in
      let now = told_after told errand.duty answer given in
      let known = done q m r plays in
      let After = content new (next_of s m) left now in (
        next_of s m,
        now,
        record {
          plays = plays;
          tells = known.tells;
          stands = known.held.stands;
          follows =
              subst (λ o. Follows reads writes o s q (Did m r) d e told now Before After) (sym out)
              (given, answer, r, made, refl, refl, follows);
          shown = did_shows s q m r Before;
          flusher = flusher;
          length = size;
          agrees = agree;
        },
      )

  -- ---- cues of a worker

  back_by : (x : Stage) → ((returned : Returned) → x ≡ stage.Back returned → ⊥) → is_back x ≡ false
  back_by (stage.Idle chair) isnt = refl
  back_by (stage.In session) isnt = refl
  back_by (stage.Out errand) isnt = refl
  back_by (stage.Back returned) isnt = absurd (isnt returned refl)
  back_by (stage.Leaving leaver) isnt = refl

  gives_back : (duty : Duty) (image given : List ℕ) (answer : Answer)
      → CarriesOut reads writes duty d image answer given e → GivesBackImage duty image given
  gives_back (duty.Read w slot page) image given answer made = tt
  gives_back (duty.Write w slot page victim) image given answer made = made.1
  gives_back (duty.Flush page) image given answer made = made.1

  module _ (w : ℕ) (hand now : Hand) (there : placed hands.workers w ≡ Some hand) (back : HandsBack hands w now left)
    where
      errand_of_hand : (q : Cue) → cue_worker q ≡ Some w → errand_for hands q ≡ hand_errand hand q
      errand_of_hand (cue.Device v) of =
          ap (λ u. errand_in (placed hands.workers u)) (same v w of) ∙ ap errand_in there
      errand_of_hand cue.FlushDevice of = absurd (false≢true (ap is_some of))
      errand_of_hand q of = refl

      stage_out : (q : Cue) (errand : Errand) → hand_errand hand q ≡ Some errand → hand.stage ≡ stage.Out errand
      stage_out (cue.Device v) errand e = out_at hand.stage errand e
      stage_out q errand e = absurd (false≢true (ap is_some e))

      hand_over : (q : Cue) (line : Line) → cue_worker q ≡ Some w → Plays old hands q line new left
          → (o : Option Errand) → hand_errand hand q ≡ o → DoesWith reads writes o old hand d line new now e
          → Over q line
      hand_over q (Did m r) of plays None none does =
          let known = done q m r plays in
          moved_over q m r does.0 plays (errand_of_hand q of ∙ none)
          (worker_flusher old s hands left back.flushing q (Did m r) w of) (hand_steady old new hand now does.1.0)
          (laws.calls old new s hands left told w hand now m r at_start there does.1.0 back does.1.1 known.held agrees)
      hand_over q (Refused asked why) of plays None none does = quiet_over q (Refused asked why) refl does.0 plays
      hand_over q Wrote of plays None none does = quiet_over q Wrote refl does.0 plays
      hand_over q (Looked byte) of plays None none does = quiet_over q (Looked byte) refl does.0 plays
      hand_over q NoLatch of plays None none does = quiet_over q NoLatch refl does.0 plays
      hand_over q line of plays (Some errand) out (given, answer, r, made, is, calls) =
          let m = answer_move errand.duty given answer in
          let so : Plays old hands q (Did m r) new left = subst (λ l. Plays old hands q l new left) is plays in
          let known = done q m r so in
          let after =
          laws.answers old new s hands left told w hand now errand given answer m r at_start there
          (stage_out q errand out) (gives_back errand.duty errand.image given answer made) calls.0 back calls.1 known.held
          agrees in
          subst (λ l. Over q l) (sym is)
          (asked_over q errand given answer r so (errand_of_hand q of ∙ out) made
          (worker_flusher old s hands left back.flushing q (Did m r) w of) (hand_steady old new _ now calls.0) after.0 after.1)

      pub worker_over : (q : Cue) (line : Line) → cue_worker q ≡ Some w → Plays old hands q line new left
          → (FitsIn old w hand → is_back hand.stage ≡ false
          → DoesWith reads writes (hand_errand hand q) old hand d line new now e)
          → Over q line
      worker_over q line of plays does =
          hand_over q line of plays (hand_errand hand q) refl
          (does (part_fits old hands w hand there fits)
          (back_by hand.stage (λ returned is. agrees.answered w hand returned there is)))

  -- ---- cues of the flusher

  flush_follows : (n : ℕ) (x : Duty) (image given : List ℕ) (answer : Answer) (c next : ℕ → List ℕ)
      → IsFlushAway n s x image → ContentsStay c next → AnswerFollows x answer given c next
  flush_follows n (duty.Read w slot page) image given answer c next away stay = absurd away
  flush_follows n (duty.Write w slot page victim) image given answer c next away stay = absurd away
  flush_follows n (duty.Flush page) image given answer c next away stay = stay

  -- A flush that was carried out.
  pub flushed_over : (errand : Errand) (returned : Returned) (line : Line) (m : Move) (r : Reply)
      → hands.flushing ≡ Some (flushing.Out errand) → returned.duty ≡ errand.duty
      → CarriesOut reads writes errand.duty d errand.image returned.answer returned.image e
      → Plays old hands cue.FlushDevice line new left → line ≡ Did m r
      → EndsFlush old returned (record hands { flushing = None }) (Did m r) new left → Over cue.FlushDevice line
  flushed_over errand returned line m r out is made plays line_is ends =
      let given = returned.image in
      let answer = returned.answer in
      let n = answer_move errand.duty given answer in
      let move_is : m ≡ n = ends.2 ∙ ap (λ x. answer_move x given answer) is in
      let line_so : line ≡ Did n r = line_is ∙ ap (λ x. Did x r) move_is in
      let so : Plays old hands cue.FlushDevice (Did n r) new left =
      subst (λ l. Plays old hands cue.FlushDevice l new left) line_so plays in
      let known = done cue.FlushDevice n r so in
      let came : AnswerComesTo old (returned_of errand given answer) (Flushed ends.0.0) new =
      subst (λ b. AnswerComesTo old b (Flushed ends.0.0) new) (same_returned errand returned is) ends.0.1 in
      let answered : event.Tells old (answer_call old.page_bytes (returned_of errand given answer)) (n, r) =
      subst (λ b. event.Tells old (answer_call old.page_bytes b) (n, r)) (same_returned errand returned is)
      (subst (λ (x : Move). event.Tells old (answer_call old.page_bytes returned) (x, r)) move_is ends.1) in
      let keeps =
      laws.flush_answers old new s hands left told errand given answer ends.0.0 n r at_start out
      (gives_back errand.duty errand.image given answer made) came ends.3 answered known.held agrees in
      let away : IsFlushAway old.page_bytes s errand.duty errand.image =
      subst (λ f. FlushingFits old.page_bytes s f) out (fits s st).flushing in
      subst (λ l. Over cue.FlushDevice l) (sym line_so)
      (asked_over cue.FlushDevice errand given answer r so (ap flush_errand out) made
      (ap (λ (h : Hands). h.flushing) ends.3) (duty_steady old new errand.duty given (is_ok answer) (Flushed ends.0.0) came)
      (flush_follows old.page_bytes errand.duty errand.image given answer Before _ away keeps.stay) keeps.agrees)

-- ---- a flush that begins

module _ (laws : Laws) (old new : Parts) (hands left : Hands) (page : ℕ) where
  -- Where it is refused, nothing has changed.
  pub flush_kept : (asked : Cue) (why : Refusal) → Plays old hands (cue.Flush page) (Refused asked why) new left
      → (s : State) → StandsFor old s → (told : ℕ → List ℕ) → Agrees old s hands told
      → (t : State) × Tells s (cue.Flush page) (Refused asked why) t × StandsFor new t
      × FlusherFollows old s hands (cue.Flush page) (Refused asked why) left × (new.page_bytes ≡ old.page_bytes)
      × KeepsContents old s hands told new t left told
  flush_kept asked why plays s st told agrees =
      let c = plays.comes s st in
      let keeps = same_keeps s hands told old new plays.leaves.0 agrees in (
        s,
        (c.1.0, refl),
        subst (StandsFor new) c.1.1 c.2,
        ap (λ (h : Hands). h.flushing) plays.leaves.1,
        ap (λ (v : Parts). v.page_bytes) plays.leaves.0,
        subst (λ h. KeepsContents old s hands told new s h told) (sym plays.leaves.1) keeps,
      )

  -- Where it is done, all contents are kept.
  pub flush_done : (errand : Errand) (m : Move) (r : Reply) → hands.flushing ≡ None → Does old (flush_call page) new
      → CopiesOut old new page errand → left ≡ record hands { flushing = Some (flushing.Out errand) }
      → event.Tells old (flush_call page) (m, r) → (fits : HandsFit old hands) → Plays old hands (cue.Flush page) (Did m r) new left
      → (s : State) → StandsFor old s → (told : ℕ → List ℕ) → Agrees old s hands told
      → (t : State) × Tells s (cue.Flush page) (Did m r) t × StandsFor new t
      × FlusherFollows old s hands (cue.Flush page) (Did m r) left × (new.page_bytes ≡ old.page_bytes)
      × KeepsContents old s hands told new t left told
  flush_done errand m r none does copies is answered fits plays s st told agrees =
      let c = plays.comes s st in
      let stands = subst (StandsFor new) c.1.3 c.2 in
      let held : law.Held new (next_of s m) left =
      record { stands = stands; fit = plays.fit (next_of s m) stands } in
      let at_start : law.Held old s hands = record { stands = st; fit = fits s st } in (
        next_of s m,
        (c.1.0, c.1.1, c.1.2, refl),
        stands,
        (errand, ap (λ (h : Hands). h.flushing) is, copies.duty, copies.copy s st),
        does.page_bytes,
        laws.flushes old new s hands left told page errand m r at_start none does copies is answered held agrees,
      )

  -- It is played over any device, which it doesn't ask.
  pub flush_over : {D : Type 0} (reads : D → ℕ → List ℕ → Answer → List ℕ → D → Type 0)
      (writes : D → ℕ → List ℕ → Answer → D → Type 0) (d : D) (line : Line)
      → (HandsFit old hands → Plays old hands (cue.Flush page) line new left)
      → KeepsAll old hands (cue.Flush page) line new left
      → PlaysFromAll reads writes old hands d (cue.Flush page) line new left d
  flush_over reads writes d line plays keeps fits s st told agrees =
      let k = keeps fits s st told agrees in (
        k.0,
        told,
        record {
          plays = plays fits;
          tells = k.1;
          stands = k.2;
          follows = (refl, refl, k.5.stay);
          shown = tt;
          flusher = k.3;
          length = k.4;
          agrees = k.5.agrees;
        },
      )

  -- ---- where no cue of the flusher is done

  -- While a flush is in flight, another is refused, and nothing has changed.
  pub flush_stays : (v : Parts) (h : Hands) (asked : Cue) (why : Refusal) → asked ≡ cue.Flush page
      → KeepsAll v h (cue.Flush page) (Refused asked why) v h
  flush_stays v h asked why same fits s st told agrees =
      (s, (same, refl), st, refl, refl, same_keeps s h told v v refl agrees)

-- Where no flush is in flight, its device isn't asked.
pub flush_off : (v : Parts) (hands left : Hands) (line : Line) → HandsFit v hands → hands.flushing ≡ None
    → left ≡ hands → line ≡ Refused cue.FlushDevice (OffPlan NoErrand) → Plays v hands cue.FlushDevice line v left
flush_off v hands left line fits none same is =
    subst (λ l. Plays v hands cue.FlushDevice l v left) (sym is)
    (subst (λ h. Plays v hands cue.FlushDevice (Refused cue.FlushDevice (OffPlan NoErrand)) v h) (sym same)
    (record {
      comes = λ s st. (s, (refl, refl), st);
      exact = λ s st.
          let free : flushed_page s ≡ None = subst (λ f. FlushingFits v.page_bytes s f) none (fits s st).flushing in
          ap (λ o. unless_out (is_some o)) free;
      leaves = (refl, refl);
      fit = fits;
    }))

pub undone_line : (asked : Cue) (why : Refusal) (line : Line) → line ≡ Refused asked why → tells_move line ≡ false
undone_line asked why line is = ap tells_move is

-- An errand of a worker isn't the flusher's.
pub no_worker : (n : ℕ) (s : State) (x : Duty) (image : List ℕ) → IsFlushAway n s x image
    → is_some (duty_worker x) ≡ false
no_worker n s (duty.Read w slot page) image away = absurd away
no_worker n s (duty.Write w slot page victim) image away = absurd away
no_worker n s (duty.Flush page) image away = refl

-- The line of an answer is of a move.
pub record IsMoveLine (line : Line) : Type 0 where
  pub m : Move
  pub reply : Reply
  pub is : line ≡ Did m reply

pub answer_line : (line : Line) → tells_answer line ≡ true → IsMoveLine line
answer_line (Did m r) e = record { m = m; reply = r; is = refl }
answer_line (Refused asked why) e = absurd (false≢true e)
answer_line Wrote e = absurd (false≢true e)
answer_line (Looked byte) e = absurd (false≢true e)
answer_line NoLatch e = absurd (false≢true e)
