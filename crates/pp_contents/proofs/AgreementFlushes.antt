-- Flushes that begin and end, plans that are taken in, and vaults in which nothing is cached: contents are kept, and
-- all agree with what the device told.
use Rattle.std.proofs.Common.{◌≡◌, ◌≢◌, ◌∙◌, ◌⊎◌, ℕ, ◌+◌, ◌≤◌, Bool, true, false, Option, Some, None, Ok, Err, List}
use Rattle.std.proofs.Common.{refl, sym, ap, subst, inl, inr, arith}
use Rattle.std.specs.Prelude.{◌&&◌, nat_lt, unwrap_or, option_map, slice_get, is_ok, is_some, IsSome, if◌then◌else◌}
use Rattle.std.proofs.lemmas.Bool.{false≢true}
use Rattle.pp_arc.specs.FourLists.{is_cached}
use Rattle.pp_frames.specs.Marks.{is_exclusive}
use Rattle.pp_model.specs.declared.moves.Move.{Move}
use Rattle.pp_model.specs.declared.moves.Move.TheVariants.{FlushBegin, FlushDone}
use Rattle.pp_model.specs.declared.reply.Reply.TheVariants.{Flushed}
use Rattle.pp_model.specs.Pool.{writing, Flush, State, is_dirty, known_mark, mark_at}
use Rattle.pp_model.specs.Holders.{latches_of}
use Rattle.pp_model.specs.Flushing.{flush_begun, flush_where, flush_by}
use Rattle.pp_model.specs.Submitting.{after_submit}
use Rattle.pp_model.specs.Renewing.{renewed}
use Rattle.pp_model.specs.Moves.{reply_of, next_of}
use Rattle.pp_model.specs.Reached.{IsReached}
use Rattle.pp_model.specs.Ready.{Standing, ready_at, is_still}
use Rattle.pp_model.specs.Laws.{IsWrittenBack}
use Rattle.pp_model.specs.Dirty.{IsWritten}
use Rattle.pp_model.proofs.Totals.{loads_of, victims_of}
use Rattle.pp_model.proofs.Framed.{sent_one}
use Rattle.pp_model.proofs.FrameLaws.{dirty_are_kept}
use Rattle.pp_model.proofs.ReadyPages.{stands_ready, uncached_none}
use Rattle.pp_model.proofs.ReadyLaws.{still_keeps, submit_keeps}
use Rattle.pp_model.proofs.Dirties.{dirty_falls}
use Rattle.pp_model.proofs.Alone.{flush_ends, submit_leaves}
use Rattle.pp_core.specs.Queries.{errand_by, errand_of, flushed_page}
use Rattle.pp_device.specs.Answers.{Answer}
use Rattle.pp_device.specs.Image.{body_of}
use Rattle.pp_vault.specs.declared.tokens.Duty.{Duty}
use Rattle.pp_vault.specs.declared.tokens.Duty.TheVariants as duty
use Rattle.pp_vault.specs.declared.tokens.Errand.{Errand}
use Rattle.pp_vault.specs.declared.tokens.Returned.{Returned}
use Rattle.pp_vault.specs.declared.answering.Answered.TheVariants as answered
use Rattle.pp_vault.specs.declared.hands.Flushing.{Flushing}
use Rattle.pp_vault.specs.declared.hands.Flushing.TheVariants as flushing
use Rattle.pp_vault.specs.declared.hands.Hands.{Hands}
use Rattle.pp_vault.specs.Parts.{Parts}
use Rattle.pp_vault.specs.StandsFor.{image_in}
use Rattle.pp_vault.specs.Calls.{asks, refusal_in}
use Rattle.pp_vault.specs.Flushes.{flush_call, IsImageOf, CopiesOut}
use Rattle.pp_vault.specs.Answers.{is_flush_out, duty_call, answer_call, IsFlushed, DutyEnds}
use Rattle.pp_contents.specs.Told.{told_after}
use Rattle.pp_vault.specs.Holding.{placed}
use Rattle.pp_vault.specs.Hands.{IsAway, IsFlushAway, StageFits, FlushingFits}
use Rattle.pp_contents.specs.Content.{or_other, first_given, written_in, victim_in, standing_image, ready_image}
use Rattle.pp_contents.specs.Content.{image_here, content}
use Rattle.pp_contents.specs.Agreeing.{flush_copy, Agrees}
use Rattle.pp_contents.specs.ContentLaws.{Held, KeepsContents, returned_of, GivesBackImage, EmptyAgree, FlushesKeepContents}
use Rattle.pp_contents.specs.ContentLaws.{FlushAnswersKeepContents, SubmitsKeepContents, RenewalsKeepContents}
use Rattle.pp_vault.proofs.FitTests.{none_some, some_some, both_hold}
use Rattle.pp_contents.proofs.AgreementStates.{flushed_alone, loaded_clean, victims_dirty}
use Rattle.pp_contents.proofs.AgreementImages.{shown, one_image, not_standing}
use Rattle.pp_contents.proofs.MovesDone.{told_done, if_asks}
use Rattle.pp_contents.proofs.AgreementAnswers.{untold, same_page}
use Rattle.pp_contents.proofs.AgreementPlaces.{hand_fits}
use Rattle.pp_contents.proofs.AgreementHolders.{cached_here}

-- ---- images that stay

module _ (old new : Parts) (s t : State) (images : new.images ≡ old.images)
    (ready : (q : ℕ) → ready_at t q ≡ ready_at s q) where
  standing_same : (o : Option Standing) → standing_image new o ≡ standing_image old o
  standing_same None = refl
  standing_same (Some x) = ap (λ xs. image_in xs x.frame) images

  ready_same : (q : ℕ) → ready_image new t q ≡ ready_image old s q
  ready_same q = standing_same (ready_at t q) ∙ ap (standing_image old) (ready q)

  module _ (hands after : Hands) (workers : after.workers ≡ hands.workers) (told now : ℕ → List ℕ) where
    here_same : (q : ℕ) → image_here new t after q ≡ image_here old s hands q
    here_same q =
        let shown = ready_same q in
        λ i. or_other (first_given (written_in q) (workers i))
        (or_other (first_given (victim_in q) (workers i)) (shown i))

    by_image : (q : ℕ) (o : Option (List ℕ)) → (o ≡ None → now q ≡ told q)
        → body_of (unwrap_or o (now q)) ≡ body_of (unwrap_or o (told q))
    by_image q None alike = ap body_of (alike refl)
    by_image q (Some image) alike = refl

    -- A content stays where the device tells nothing anew of a page whose image it alone has.
    content_same : (q : ℕ) → (image_here old s hands q ≡ None → now q ≡ told q)
        → content new t after now q ≡ content old s hands told q
    content_same q alike =
        ap (λ o. body_of (unwrap_or o (now q))) (here_same q) ∙ by_image q (image_here old s hands q) alike

-- ---- nothing is cached

nothing_back : (n : ℕ) (s : State) (w : ℕ) (d : Duty) (image : List ℕ) → ((v : ℕ) → errand_of s v ≡ None)
    → IsAway n s w d image → ⊥
nothing_back n s w (duty.Read v slot page) image none away = none_some (sym (none v) ∙ away.out)
nothing_back n s w (duty.Write v slot page victim) image none away = none_some (sym (none v) ∙ away.out)
nothing_back n s w (duty.Flush page) image none away = none_some away.worker

no_flush_back : (n : ℕ) (s : State) (d : Duty) (image : List ℕ) → s.flush ≡ None → IsFlushAway n s d image → ⊥
no_flush_back n s (duty.Read v slot page) image none away = away
no_flush_back n s (duty.Write v slot page victim) image none away = away
no_flush_back n s (duty.Flush page) image none away =
    none_some (sym (ap (λ (o : Option Flush). option_map (λ f. f.page) o) none) ∙ away.0)

pub empty_agree : EmptyAgree
empty_agree v s hands told held idle uncached unflushed =
    let reached = held.stands.core.reached in
    record {
      clean = λ page image is clean.
          let shows = shown v s page image is in
          absurd (not_standing (sym (uncached_none s reached page (uncached page)) ∙ shows.ready));
      loaded = λ w slot page victim out. absurd (none_some (sym (idle w) ∙ out));
      victim = λ w slot page victim out. absurd (none_some (sym (idle w) ∙ out));
      flushed = λ f e. absurd (none_some (sym unflushed ∙ e));
      copied = λ f image copy e mark is out. absurd (none_some (sym unflushed ∙ e));
      answered = λ w hand x there e.
          let fits = hand_fits v s hands w hand held there in
          nothing_back v.page_bytes s w x.duty x.image idle (subst (StageFits v.page_bytes s w) e fits.stage);
      flush_answered = λ x e.
          no_flush_back v.page_bytes s x.duty x.image unflushed
          (subst (FlushingFits v.page_bytes s) e held.fit.flushing);
    }

-- ---- plans that are taken in

pub submits_keep : SubmitsKeepContents
submits_keep old new s hands told a number held takes agrees =
    let t = after_submit s a in
    let keeps = submit_keeps s a in
    let leaves = submit_leaves s a in
    let images : new.images ≡ old.images = ap (λ (v : Parts). v.images) takes.rest in
    let shows = ready_same old new s t images keeps.0.ready in
    let dirty = λ (q : ℕ). ap (λ xs. is_dirty (record s { notes = xs }) q) keeps.1 in
    let mark = λ (q : ℕ). ap (λ xs. known_mark (record s { notes = xs }) q) keeps.1 in
    let errand = λ (w : ℕ). ap (λ xs. errand_by (slice_get xs w)) keeps.2 in
    record {
      stay = λ q. content_same old new s t images keeps.0.ready hands hands refl told told q (λ e. refl);
      agrees = record {
        clean = λ q image is clean. agrees.clean q image (sym (shows q) ∙ is) (sym (dirty q) ∙ clean);
        loaded = λ w slot q victim out. dirty q ∙ agrees.loaded w slot q victim (sym (errand w) ∙ out);
        victim = λ w slot page q out. dirty q ∙ agrees.victim w slot page q (sym (errand w) ∙ out);
        flushed = λ f e.
            let was = agrees.flushed f (sym leaves.0 ∙ e) in (
              dirty f.page ∙ was.0,
              subst (λ n. f.began ≤ n) (sym (ap (λ (o : Option ℕ). unwrap_or o 0) (mark f.page))) was.1,
            );
        copied = λ f image copy e known is out.
            agrees.copied f image copy (sym leaves.0 ∙ e) (sym (mark f.page) ∙ known) (sym (shows f.page) ∙ is) out;
        answered = agrees.answered;
        flush_answered = agrees.flush_answered;
      };
    }

-- ---- renewals

pub renewals_keep : RenewalsKeepContents
renewals_keep old new s hands told held does agrees =
    let t = renewed s in
    let images : new.images ≡ old.images = ap (λ (v : Parts). v.images) does.parts in
    let shows = ready_same old new s t images (λ q. refl) in
    record {
      stay = λ q. content_same old new s t images (λ p. refl) hands hands refl told told q (λ e. refl);
      agrees = record {
        clean = λ q image is clean. agrees.clean q image (sym (shows q) ∙ is) clean;
        loaded = agrees.loaded;
        victim = agrees.victim;
        flushed = agrees.flushed;
        copied = λ f image copy e known is out. agrees.copied f image copy e known (sym (shows f.page) ∙ is) out;
        answered = agrees.answered;
        flush_answered = agrees.flush_answered;
      };
    }

-- ---- a flush begins

-- The page is cached and newer than the device's, no other flush is in flight, and this one is now.
record HasBegun (s : State) (page : ℕ) : Type 0 where
  none : s.flush ≡ None
  after : next_of s (FlushBegin page) ≡ flush_begun s page
  dirty : is_dirty s page ≡ true

begun_tested : (s : State) (page : ℕ) (a b c : Bool) → (is_cached s.lists page && is_dirty s page) ≡ a
    → refusal_in (flush_where s page a b c).reply ≡ None
    → ((flush_where s page a b c).state ≡ flush_begun s page) × (is_dirty s page ≡ true)
begun_tested s page false b c e allowed = absurd (none_some (sym allowed))
begun_tested s page true false c e allowed = absurd (none_some (sym allowed))
begun_tested s page true true true e allowed = absurd (none_some (sym allowed))
begun_tested s page true true false e allowed = (refl, (both_hold (is_cached s.lists page) (is_dirty s page) e).1)

begun_by : (s : State) (page : ℕ) (o : Option Flush) → s.flush ≡ o → refusal_in (flush_by s page o).reply ≡ None
    → (s.flush ≡ None) × ((flush_by s page o).state ≡ flush_begun s page) × (is_dirty s page ≡ true)
begun_by s page (Some f) e allowed = absurd (none_some (sym allowed))
begun_by s page None e allowed =
    let is =
    begun_tested s page (is_cached s.lists page && is_dirty s page) (nat_lt 0 s.flushes_left)
    (is_exclusive (latches_of s page)) refl allowed in
    (e, is.0, is.1)

has_begun : (s : State) (page : ℕ) → refusal_in (reply_of s (FlushBegin page)) ≡ None → HasBegun s page
has_begun s page allowed =
    let is = begun_by s page s.flush refl allowed in record { none = is.0; after = is.1; dirty = is.2 }

abbrev is_answered : Option Flushing → Bool
is_answered None = false
is_answered (Some (flushing.Out errand)) = false
is_answered (Some (flushing.Back returned)) = true

module _ (old new : Parts) (s : State) (hands after : Hands) (told : ℕ → List ℕ) (page : ℕ) (errand : Errand)
    (held : Held old s hands) (copies : CopiesOut old new page errand)
    (put : after ≡ record hands { flushing = Some (flushing.Out errand) }) (begun : HasBegun s page)
    (agrees : Agrees old s hands told) where
  abbrev u : State
  u = flush_begun s page

  out_now : after.flushing ≡ Some (flushing.Out errand)
  out_now = ap (λ (h : Hands). h.flushing) put

  begun_shows : (q : ℕ) → ready_image new u q ≡ ready_image old s q
  begun_shows = ready_same old new s u copies.images (λ q. refl)

  -- The flusher has a copy of the image.
  copied_page : (image copy : List ℕ) → ready_image new u page ≡ Some image → flush_copy after.flushing ≡ Some copy
      → image ≡ copy
  copied_page image copy is out =
      let shows = shown old s page image (sym (begun_shows page) ∙ is) in
      let source : IsImageOf old s page errand.image = copies.copy s held.stands in
      let frame : source.frame ≡ shows.at.frame =
      some_some source.frame source.frame shows.at.frame
      (sym source.stands ∙ (stands_ready s page shows.at shows.ready).frame_is) in
      let first : image ≡ errand.image =
      one_image (sym shows.there ∙ ap (image_in old.images) (sym frame) ∙ source.there) in
      let second : errand.image ≡ copy = one_image (sym (ap flush_copy out_now) ∙ out) in
      first ∙ second

  begun_agrees : Agrees new u after told
  begun_agrees =
      record {
        clean = λ q image is clean. agrees.clean q image (sym (begun_shows q) ∙ is) clean;
        loaded = agrees.loaded;
        victim = agrees.victim;
        flushed = λ f e.
            let it = some_some f (record { page = page; began = mark_at s page }) f e in
            subst (λ (g : Flush). (is_dirty s g.page ≡ true) × (g.began ≤ mark_at s g.page)) it
            (begun.dirty, omega arith);
        copied = λ f image copy e known is out.
            let it : page ≡ f.page =
            ap (λ (g : Flush). g.page) (some_some f (record { page = page; began = mark_at s page }) f e) in
            copied_page image copy (ap (ready_image new u) it ∙ is) out;
        answered = λ w hand x there e.
            agrees.answered w hand x (sym (ap (λ (h : Hands). placed h.workers w) put) ∙ there) e;
        flush_answered = λ x e. false≢true (ap is_answered (sym out_now ∙ e));
      }

  begun_keeps : KeepsContents old s hands told new u after told
  begun_keeps =
      record {
        stay = λ q.
            content_same old new s u copies.images (λ p. refl) hands after (ap (λ (h : Hands). h.workers) put) told told
            q (λ e. refl);
        agrees = begun_agrees;
      }

pub flushes_keep : FlushesKeepContents
flushes_keep old new s hands after told page errand m reply held idle does copies put said now agrees =
    let done = told_done s (flush_call page s) m reply (said s held.stands) in
    let it : FlushBegin page ≡ m = (if_asks true (FlushBegin page) m done.is).1 in
    let begun = has_begun s page (does.allowed s held.stands) in
    subst (λ t. KeepsContents old s hands told new t after told) (sym begun.after ∙ ap (next_of s) it)
    (begun_keeps old new s hands after told page errand held copies put begun agrees)

-- ---- a flush ends

module _ (old new : Parts) (s : State) (hands after : Hands) (told : ℕ → List ℕ) (page : ℕ) (image given : List ℕ)
    (answer : Answer) (clean : Bool) (held : Held old s hands) (copy : flush_copy hands.flushing ≡ Some image)
    (flushed : flushed_page s ≡ Some page) (same_bytes : given ≡ image)
    (over : IsFlushed old page given (is_ok answer) clean new) (put : after ≡ record hands { flushing = None })
    (now : Held new (next_of s (FlushDone (is_ok answer))) after) (agrees : Agrees old s hands told) where
  abbrev t : State
  t = next_of s (FlushDone (is_ok answer))

  abbrev tells : ℕ → List ℕ
  tells = told_after told (duty.Flush page) answer given

  reached : IsReached s
  reached = held.stands.core.reached

  replied : reply_of s (FlushDone (is_ok answer)) ≡ Flushed clean
  replied = over.replies s held.stands

  the_flush : (f : Flush) × (s.flush ≡ Some f)
  the_flush = (flush_ends s (is_ok answer) clean replied).0

  none_left : t.flush ≡ None
  none_left = (flush_ends s (is_ok answer) clean replied).1

  page_of : (f : Flush) → s.flush ≡ Some f → f.page ≡ page
  page_of f e =
      some_some page f.page page (sym (ap (λ (o : Option Flush). option_map (λ g. g.page) o) e) ∙ flushed)

  page_dirty : is_dirty s page ≡ true
  page_dirty =
      let f = the_flush in
      ap (is_dirty s) (sym (page_of f.0 f.1)) ∙ (agrees.flushed f.0 f.1).0

  ready_still : (q : ℕ) → ready_at t q ≡ ready_at s q
  ready_still =
      (still_keeps s reached (FlushDone (is_ok answer)) (ap is_still replied)).ready

  shows : (q : ℕ) → ready_image new t q ≡ ready_image old s q
  shows = ready_same old new s t over.images ready_still

  -- The page is in the vault or its hands, so what the device tells of it isn't looked at.
  page_here : IsSome (image_here old s hands page)
  page_here =
      let f = the_flush in
      let alone = flushed_alone s reached f.0 f.1 in
      let free = subst (λ p. loads_of s p + victims_of s p ≡ 0) (page_of f.0 f.1) alone in
      cached_here old s hands held page (kept free (dirty_are_kept s reached page page_dirty)) (omega (arith, free))
    where
      kept : loads_of s page + victims_of s page ≡ 0 → (is_cached s.lists page ≡ true) ⊎ IsWrittenBack s page
          → is_cached s.lists page ≡ true
      kept free (inl here) = here
      kept free (inr back) =
          absurd
          (omega (
            arith,
            free,
            sent_one s back.0 back.1 (writing back.2 back.3 page) page (record { seat = back.4; stage = back.5 }) refl,
          ))

  tells_same : (q : ℕ) → image_here old s hands q ≡ None → tells q ≡ told q
  tells_same q none =
      untold told (duty.Flush page) answer given q
      (λ e. false≢true (sym (ap is_some (ap (image_here old s hands) (sym e) ∙ none)) ∙ page_here))

  -- The page was written as its image is.
  written_told : (ok : Bool) → is_ok answer ≡ ok → (q : ℕ) (j : List ℕ) → ready_image old s q ≡ Some j
      → IsWritten s (FlushDone ok) q → body_of j ≡ body_of (tells q)
  written_told false e q j is wrote = absurd wrote
  written_told true e q j is wrote =
      let f = wrote.0 in
      let it : q ≡ page = sym wrote.2 ∙ page_of f wrote.1 in
      let at = shown old s q j is in
      let known = (stands_ready s q at.at at.ready).mark_is in
      let began : at.at.mark ≡ f.began = sym (ap (λ (o : Option ℕ). unwrap_or o 0) known) ∙ wrote.3 in
      let mark : known_mark s f.page ≡ Some f.began = ap (known_mark s) wrote.2 ∙ known ∙ ap Some began in
      ap body_of
      (agrees.copied f j image wrote.1 mark (ap (ready_image old s) wrote.2 ∙ is) copy ∙ sym same_bytes
      ∙ given_told answer e q it)
    where
      given_told : (a : Answer) → is_ok a ≡ true → (p : ℕ) → p ≡ page
          → given ≡ told_after told (duty.Flush page) a given p
      given_told (Ok done) e p it = ap (λ b. if b then given else told p) (sym (same_page p page it))
      given_told (Err why) e p it = absurd (false≢true e)

  clean_after : (q : ℕ) (j : List ℕ) → ready_image new t q ≡ Some j → is_dirty t q ≡ false
      → body_of j ≡ body_of (tells q)
  clean_after q j is e = go (is_dirty s q) refl
    where
      go : (b : Bool) → is_dirty s q ≡ b → body_of j ≡ body_of (tells q)
      go true was =
          written_told (is_ok answer) refl q j (sym (shows q) ∙ is) (dirty_falls s (FlushDone (is_ok answer)) q was e)
      go false was =
          let apart : q ≢ page = λ d. false≢true (sym was ∙ ap (is_dirty s) d ∙ page_dirty) in
          agrees.clean q j (sym (shows q) ∙ is) was
          ∙ ap body_of (sym (untold told (duty.Flush page) answer given q apart))

  victim_after : (w slot p v : ℕ) → errand_of t w ≡ Some (slot, p, Some v) → is_dirty t v ≡ true
  victim_after = victims_dirty s reached (FlushDone (is_ok answer)) agrees.victim

  over_agrees : Agrees new t after tells
  over_agrees =
      record {
        clean = clean_after;
        loaded = λ w slot p v out. loaded_clean t now.stands.core.reached w slot p v out;
        victim = victim_after;
        flushed = λ f e. absurd (none_some (sym none_left ∙ e));
        copied = λ f i c e known is out. absurd (none_some (sym none_left ∙ e));
        answered = λ w hand x there e.
            agrees.answered w hand x (sym (ap (λ (h : Hands). placed h.workers w) put) ∙ there) e;
        flush_answered = λ x e. none_some (sym (ap (λ (h : Hands). h.flushing) put) ∙ e);
      }

  over_keeps : KeepsContents old s hands told new t after tells
  over_keeps =
      record {
        stay = λ q.
            content_same old new s t over.images ready_still hands after (ap (λ (h : Hands). h.workers) put) told tells
            q (tells_same q);
        agrees = over_agrees;
      }

-- The same by the duty of the flusher's errand, which is a flush.
by_duty : (old new : Parts) (s : State) (hands after : Hands) (told : ℕ → List ℕ) (d : Duty) (image given : List ℕ)
    (answer : Answer) (clean : Bool) (m : Move) → Held old s hands → flush_copy hands.flushing ≡ Some image
    → IsFlushAway old.page_bytes s d image → GivesBackImage d image given
    → DutyEnds old d given (is_ok answer) (answered.Flushed clean) new → after ≡ record hands { flushing = None }
    → duty_call old.page_bytes d given (is_ok answer) s ≡ asks m → Held new (next_of s m) after → Agrees old s hands told
    → KeepsContents old s hands told new (next_of s m) after (told_after told d answer given)
by_duty old new s hands after told (duty.Read w slot page) image given answer clean m held copy away gives over put is
    now agrees = absurd away
by_duty old new s hands after told (duty.Write w slot page v) image given answer clean m held copy away gives over put is
    now agrees = absurd away
by_duty old new s hands after told (duty.Flush page) image given answer clean m held copy away gives over put is now
    agrees =
    let ok = is_ok answer in
    let it : FlushDone ok ≡ m = (if_asks (is_flush_out old.page_bytes page given s) (FlushDone ok) m is).1 in
    subst
    (λ n. KeepsContents old s hands told new (next_of s n) after (told_after told (duty.Flush page) answer given)) it
    (over_keeps old new s hands after told page image given answer clean held copy away.0 gives over put
    (subst (λ n. Held new (next_of s n) after) (sym it) now) agrees)

pub flush_answers_keep : FlushAnswersKeepContents
flush_answers_keep old new s hands after told errand given answer clean m reply held out gives comes put said now
    agrees =
    let x : Returned = returned_of errand given answer in
    let done = told_done s (answer_call old.page_bytes x s) m reply (said s held.stands) in
    by_duty old new s hands after told errand.duty errand.image given answer clean m held (ap flush_copy out)
    (subst (FlushingFits old.page_bytes s) out held.fit.flushing) gives comes put done.is now agrees
