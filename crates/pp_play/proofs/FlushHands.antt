-- What a flush, and its answer, leave of the hands.
use Rattle.std.proofs.Common.{◌≡◌, ◌∙◌, ℕ, ◌<◌, Bool, true, false, Option, Some, None, List, length, refl, sym, ap}
use Rattle.std.proofs.Common.{subst}
use Rattle.std.specs.Prelude.{◌&&◌, if◌then◌else◌, is_some, is_ok, nat_lt, unwrap_or}
use Rattle.std.proofs.lemmas.Bool.{false≢true}
use Rattle.pp_arc.specs.FourLists.{is_cached}
use Rattle.pp_frames.specs.Marks.{is_exclusive}
use Rattle.pp_model.specs.declared.moves.Move.{Move}
use Rattle.pp_model.specs.declared.moves.Move.TheVariants as move
use Rattle.pp_model.specs.declared.reply.Reply.{Reply}
use Rattle.pp_model.specs.Pool.{Flush, State, is_dirty}
use Rattle.pp_model.specs.Holders.{latches_of}
use Rattle.pp_model.specs.Flushing.{flush_where, flush_by, is_clean, flushed_where, flushed_by}
use Rattle.pp_model.specs.Moves.{next_of}
use Rattle.pp_core.specs.Queries.{flushed_page}
use Rattle.pp_core.proofs.AfterMoves.{after_moves}
use Rattle.pp_core.proofs.Alike.{same_flushed}
use Rattle.pp_vault.specs.declared.refusal.Refusal.{Refusal}
use Rattle.pp_vault.specs.declared.tokens.Duty.{Duty}
use Rattle.pp_vault.specs.declared.tokens.Duty.TheVariants as duty
use Rattle.pp_vault.specs.declared.tokens.Errand.{Errand}
use Rattle.pp_vault.specs.declared.tokens.Returned.{Returned}
use Rattle.pp_vault.specs.declared.answering.Answered.TheVariants.{Flushed}
use Rattle.pp_vault.specs.declared.stage.Hand.{Hand}
use Rattle.pp_vault.specs.declared.hands.Hands.{Hands}
use Rattle.pp_vault.specs.declared.hands.Flushing.{Flushing}
use Rattle.pp_vault.specs.declared.hands.Flushing.TheVariants as flushing
use Rattle.pp_vault.specs.Parts.{Parts}
use Rattle.pp_vault.specs.StandsFor.{StandsFor, IsKept}
use Rattle.pp_vault.specs.Calls.{Call, asks, stranger, refusal_of, after_call}
use Rattle.pp_vault.specs.Events.{Refuses, Does, Tells}
use Rattle.pp_vault.specs.Answers.{flushed_call, is_flush_out, IsFlushed, DutyEnds, AnswerComesTo, duty_call, answer_call}
use Rattle.pp_vault.specs.Flushes.{flush_call}
use Rattle.pp_vault.specs.Tokens.{IsOut, ErrandFits}
use Rattle.pp_vault.specs.Hands.{HandFits, IsFlushAway, FlushingFits, HandsFit}
use Rattle.pp_vault.specs.HandLaws.{caller, FitsIn}
use Rattle.pp_vault.specs.Holding.{placed}
use Rattle.pp_script.specs.declared.cue.Cue.TheVariants as cue
use Rattle.pp_play.specs.declared.line.Line.{Line}
use Rattle.pp_play.specs.declared.line.Line.TheVariants.{Did, Refused, Wrote, Looked, NoLatch}
use Rattle.pp_play.specs.Exact.{Plays, IsLineOf, guards_of, unless_out}
use Rattle.pp_play.proofs.Asked.{flush_done}
use Rattle.pp_play.proofs.Done.{done_comes, refused_so}
use Rattle.pp_play.proofs.Errands.{answer_taken}
use Rattle.pp_play.proofs.Others.{StillFits, asked_so, did_line}
use Rattle.pp_play.proofs.Answering.{flush_over}
use Rattle.pp_play.proofs.Leaves.{is_done, all_done, all_did_leave}
use Rattle.pp_vault.specs.declared.guards.Guard.{Guard}

-- ---- the hands of workers

same_hand : (g h : Hand) → ◌≡◌ {A = Option Hand} (Some g) (Some h) → g ≡ h
same_hand g h e = ap (λ o. unwrap_or o g) e

-- A hand that is there fits.
pub hand_fits : (v : Parts) (hands : Hands) (w : ℕ) (hand : Hand) → HandsFit v hands → placed hands.workers w ≡ Some hand
    → w < length hands.workers → FitsIn v w hand
hand_fits v hands w hand fits there low s st =
    let f = fits s st in
    let mine = f.each w (subst (λ n. w < n) f.places low) in
    subst (λ h. HandFits v.page_bytes s w h) (same_hand mine.hand hand (sym mine.there ∙ there)) mine.fits

-- A call that is no worker's leaves them.
module _ (still : StillFits) (old new : Parts) (call : State → Call) (kept : IsKept old) (does : Does old call new)
    (hands : Hands) (fits : HandsFit old hands) (by : (s : State) → StandsFor old s → caller (call s) ≡ None)
    (seats : (s : State) → StandsFor old s → length (after_call s (call s)).seats ≡ length s.seats) where
  pub with_flushing : (f : Option Flushing) → ((t : State) → StandsFor new t → FlushingFits new.page_bytes t f)
      → HandsFit new (record hands { flushing = f })
  with_flushing f token t st =
      let s = kept.state in
      let b = fits s kept.stands in
      let count : length t.seats ≡ length s.seats =
      sym st.core.seats.size ∙ (does.stands s kept.stands).core.seats.size ∙ seats s kept.stands in
      record {
        places = b.places ∙ sym count;
        each = λ w low.
            let under : w < length s.seats = subst (λ n. w < n) count low in
            let mine = b.each w under in
            record {
              hand = mine.hand;
              there = mine.there;
              fits =
                  still.others old new call kept does w
                  (λ u su e. false≢true (ap is_some (sym (by u su) ∙ e))) mine.hand
                  (hand_fits old hands w mine.hand fits mine.there (subst (λ n. w < n) (sym b.places) under)) t st;
            };
        flushing = token t st;
      }

-- ---- a flush that begins

begun_seats : (s : State) (page : ℕ) (changed some written : Bool)
    → length (flush_where s page changed some written).state.seats ≡ length s.seats
begun_seats s page false some written = refl
begun_seats s page true false written = refl
begun_seats s page true true true = refl
begun_seats s page true true false = refl

flush_seats : (s : State) (page : ℕ) (o : Option Flush) → length (flush_by s page o).state.seats ≡ length s.seats
flush_seats s page (Some f) = refl
flush_seats s page None =
    begun_seats s page (is_cached s.lists page && is_dirty s page) (nat_lt 0 s.flushes_left)
    (is_exclusive (latches_of s page))

sent_away : (n : ℕ) (t : State) (page : ℕ) (d : Duty) (image : List ℕ) → d ≡ duty.Flush page → IsOut t d
    → length image ≡ n → IsFlushAway n t d image
sent_away n t page d image is out long =
    subst (λ x. IsFlushAway n t x image) (sym is) (subst (λ x. IsOut t x) is out, long)

pub flush_plays : StillFits → (old new : Parts) → IsKept old → (page : ℕ) (errand : Errand) (hands left : Hands)
    (line : Line) {told : Move × Reply} → HandsFit old hands → Does old (flush_call page) new → ErrandFits new errand
    → errand.duty ≡ duty.Flush page → left ≡ record hands { flushing = Some (flushing.Out errand) }
    → Tells old (flush_call page) told → line ≡ Did told.0 told.1 → Plays old hands (cue.Flush page) line new left
flush_plays still old new kept page errand hands left line fits does out is_flush is answered tells =
    record {
      comes = done_comes old new (cue.Flush page) line (flush_done old new page kept does answered) tells;
      exact = λ s st.
          did_line old new (cue.Flush page) line tells s (guards_of hands 0) (guards_of left 0) (does.allowed s st);
      leaves = all_did_leave old new line tells hands left (cue.Flush page);
      fit =
          subst (λ h. HandsFit new h) (sym is)
          (with_flushing still old new (flush_call page) kept does hands fits (λ s st. refl)
          (λ s st. flush_seats s page s.flush) (Some (flushing.Out errand))
          (λ t st. sent_away new.page_bytes t page errand.duty errand.image is_flush (out.out t st) out.long));
    }

pub flush_refused : (old new : Parts) (page : ℕ) (hands : Hands) (why : Refusal) → HandsFit old hands
    → Refuses old (flush_call page) why → new ≡ old
    → Plays old hands (cue.Flush page) (Refused (cue.Flush page) why) new hands
flush_refused old new page hands why fits refuses is =
    record {
      comes = refused_so old new (cue.Flush page) why is;
      exact = refuses;
      leaves = (is, refl);
      fit = subst (λ v. HandsFit v hands) (sym is) fits;
    }

-- ---- the answer to a flush

abbrev pub back_flushing : Hands → Returned → Hands
back_flushing hands returned = record hands { flushing = Some (flushing.Back returned) }

flush_taken : (n : ℕ) (s : State) (d : Duty) (image : List ℕ) (ok : Bool) → IsFlushAway n s d image
    → refusal_of s (duty_call n d image ok s) ≡ None
flush_taken n s (duty.Read w slot page) image ok away = absurd away
flush_taken n s (duty.Write w slot page victim) image ok away = absurd away
flush_taken n s (duty.Flush page) image ok away = answer_taken s n image (duty.Flush page) ok away.0 tt away.1

pub flush_not_refused : (old : Parts) (hands : Hands) (returned : Returned) (refusal : Refusal) → IsKept old
    → HandsFit old (back_flushing hands returned) → Refuses old (answer_call old.page_bytes returned) refusal → ⊥
flush_not_refused old hands returned refusal kept fits refuses =
    let s = kept.state in
    let taken =
    flush_taken old.page_bytes s returned.duty returned.image (is_ok returned.answer) (fits s kept.stands).flushing in
    false≢true (ap is_some (sym taken ∙ refuses s kept.stands))

over_seats : (s : State) (page : ℕ) (clean : Bool) → length (flushed_where s page clean).state.seats ≡ length s.seats
over_seats s page true = refl
over_seats s page false = refl

done_seats : (s : State) (ok : Bool) (o : Option Flush) → length (flushed_by s ok o).state.seats ≡ length s.seats
done_seats s ok None = refl
done_seats s ok (Some f) = over_seats s f.page (is_clean s ok f)

call_seats : (s : State) (ok b : Bool)
    → length (after_call s (if b then asks (move.FlushDone ok) else stranger)).seats ≡ length s.seats
call_seats s ok true = done_seats s ok s.flush
call_seats s ok false = refl

call_by_none : (ok b : Bool) → caller (if b then asks (move.FlushDone ok) else stranger) ≡ None
call_by_none ok true = refl
call_by_none ok false = refl

module _ (still : StillFits) (old new : Parts) (kept : IsKept old) (page : ℕ) (image : List ℕ) (ok clean : Bool)
    (over : IsFlushed old page image ok clean new) where
  abbrev test : State → Bool
  test s = is_flush_out old.page_bytes page image s

  flush_over_at : (t : State) → StandsFor new t → flushed_page t ≡ None
  flush_over_at t st =
      let s = kept.state in
      let asked = asked_so s (test s) (move.FlushDone ok) (over.does.allowed s kept.stands) in
      let ended : flushed_page (next_of s (move.FlushDone ok)) ≡ None =
      (after_moves s kept.stands.core.reached).flush_ended ok clean (over.replies s kept.stands) in
      same_flushed new.core t (after_call s (flushed_call old.page_bytes page image ok s)) st.core
      (over.does.stands s kept.stands).core
      ∙ subst (λ b. flushed_page (after_call s (if b then asks (move.FlushDone ok) else stranger)) ≡ None) (sym asked)
      ended

  pub over_fits : (hands : Hands) → HandsFit old hands → HandsFit new (record hands { flushing = None })
  over_fits hands fits =
      with_flushing still old new (flushed_call old.page_bytes page image ok) kept over.does hands fits
      (λ s st. call_by_none ok (test s)) (λ s st. call_seats s ok (test s)) None flush_over_at

flushed_by_duty : StillFits → (old new : Parts) → IsKept old → (d : Duty) (image : List ℕ) (ok clean : Bool)
    (hands : Hands) → DutyEnds old d image ok (Flushed clean) new → HandsFit old hands
    → HandsFit new (record hands { flushing = None })
flushed_by_duty still old new kept (duty.Read w slot page) image ok clean hands ends fits = absurd ends
flushed_by_duty still old new kept (duty.Write w slot page victim) image ok clean hands ends fits = absurd ends
flushed_by_duty still old new kept (duty.Flush page) image ok clean hands ends fits =
    over_fits still old new kept page image ok clean ends hands fits

pub flush_allowed : (n : ℕ) (s : State) (d : Duty) (image : List ℕ) → IsFlushAway n s d image
    → unless_out (is_some (flushed_page s)) ≡ None
flush_allowed n s (duty.Read w slot page) image away = absurd away
flush_allowed n s (duty.Write w slot page victim) image away = absurd away
flush_allowed n s (duty.Flush page) image away = ap (λ o. unless_out (is_some o)) away.0

pub flushed_plays : StillFits → (old new : Parts) → IsKept old → (returned : Returned) (clean : Bool) (hands : Hands)
    (line : Line) {told : Move × Reply} → hands.flushing ≡ None → HandsFit old (back_flushing hands returned)
    → AnswerComesTo old returned (Flushed clean) new → Tells old (answer_call old.page_bytes returned) told
    → line ≡ Did told.0 told.1
    → Plays old (back_flushing hands returned) cue.FlushDevice line new hands
flushed_plays still old new kept returned clean hands line free fits ends answered tells =
    record {
      comes =
          done_comes old new cue.FlushDevice line (flush_over old new kept returned clean ends answered) tells;
      exact = λ s st.
          did_line old new cue.FlushDevice line tells s (guards_of hands 0) (guards_of hands 0)
          (flush_allowed old.page_bytes s returned.duty returned.image (fits s st).flushing);
      leaves = all_did_leave old new line tells (back_flushing hands returned) hands cue.FlushDevice;
      fit =
          subst (λ f. HandsFit new (record hands { flushing = f })) (sym free)
          (flushed_by_duty still old new kept returned.duty returned.image (is_ok returned.answer) clean
          (back_flushing hands returned) ends fits);
    }

-- ---- what the device gave back

away_again : (n : ℕ) (s : State) (d e : Duty) (image given : List ℕ) → e ≡ d → length given ≡ length image
    → IsFlushAway n s d image → IsFlushAway n s e given
away_again n s (duty.Read w slot page) e image given is same away = absurd away
away_again n s (duty.Write w slot page victim) e image given is same away = absurd away
away_again n s (duty.Flush page) e image given is same away =
    subst (λ x. IsFlushAway n s x given) (sym is) (away.0, same ∙ away.1)

pub given_back_fits : (old : Parts) (hands : Hands) (errand : Errand) (returned : Returned) → HandsFit old hands
    → hands.flushing ≡ Some (flushing.Out errand) → returned.duty ≡ errand.duty
    → length returned.image ≡ length errand.image → HandsFit old (back_flushing hands returned)
given_back_fits old hands errand returned fits is same_duty same s st =
    let f = fits s st in
    let away = subst (λ x. FlushingFits old.page_bytes s x) is f.flushing in
    record {
      places = f.places;
      each = f.each;
      flushing =
          away_again old.page_bytes s errand.duty returned.duty errand.image returned.image same_duty same away;
    }

pub still_back_fits : (old : Parts) (hands : Hands) (returned : Returned) → HandsFit old hands
    → hands.flushing ≡ Some (flushing.Back returned) → HandsFit old (back_flushing hands returned)
still_back_fits old hands returned fits is =
    subst (λ f. HandsFit old (record hands { flushing = f })) is fits

-- Where a flush is in flight, what the device answers is done.
flush_over_done : (v : Parts) (s : State) (was now : List (Option Guard)) (line : Line)
    → unless_out (is_some (flushed_page s)) ≡ None → IsLineOf v s was now cue.FlushDevice line → is_done line ≡ true
flush_over_done v s was now (Did m reply) out exact = refl
flush_over_done v s was now (Refused asked why) out exact = absurd (false≢true (ap is_some (sym out ∙ exact)))
flush_over_done v s was now Wrote out exact = absurd exact
flush_over_done v s was now (Looked byte) out exact = absurd exact
flush_over_done v s was now NoLatch out exact = absurd exact

-- Which token it was makes no difference to what is played.
pub back_flush_plays : (old new : Parts) (hands left : Hands) (returned : Returned) (line : Line) → IsKept old
    → HandsFit old (back_flushing hands returned)
    → Plays old (back_flushing hands returned) cue.FlushDevice line new left
    → Plays old hands cue.FlushDevice line new left
back_flush_plays old new hands left returned line kept fits plays =
    let s = kept.state in
    let out = flush_allowed old.page_bytes s returned.duty returned.image (fits s kept.stands).flushing in
    record {
      comes = plays.comes;
      exact = plays.exact;
      leaves =
          all_done old new hands left cue.FlushDevice line
          (flush_over_done old s (guards_of hands 0) (guards_of left 0) line out (plays.exact s kept.stands));
      fit = plays.fit;
    }
