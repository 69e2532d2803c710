-- A flush that begins: the buffer goes out with a copy of the page's image, and the images in the frames stay.
use Rattle.std.proofs.Common.{◌≡◌, ◌∙◌, ℕ, true, Option, Some, None, Result, Ok, Err, List, refl, sym, ap, subst}
use Rattle.std.specs.Prelude.{unwrap_or, option_map, IsSome, IfOk}
use Rattle.std.specs.Option.{is_some}
use Rattle.std.proofs.lemmas.Bool.{false≢true}
use Rattle.pp_model.specs.declared.moves.Move.TheVariants.{FlushBegin}
use Rattle.pp_model.specs.declared.moves.Move.{Move}
use Rattle.pp_model.specs.declared.reply.Reply.{Reply}
use Rattle.pp_model.specs.declared.reply.Reply.TheVariants as reply
use Rattle.pp_frames.specs.Marks.{dirty_from}
use Rattle.pp_model.specs.Marks.{marks}
use Rattle.pp_vault.specs.Calls.{refusal_of, after_call, told as told_of}
use Rattle.pp_model.specs.Pool.{Flush, State, frame_of, frame_at}
use Rattle.pp_model.specs.Moves.{reply_of, next_of}
use Rattle.pp_model.specs.Ready.{Standing, ready_at, is_still, Keeps}
use Rattle.pp_model.specs.Shapes.{is_answer}
use Rattle.pp_model.proofs.Alone.{flush_starts, settings_stay}
use Rattle.pp_model.proofs.ReadyLaws.{ready_stand, still_keeps}
use Rattle.pp_model.proofs.ReadyAnswers.{flushed_are_ready}
use Rattle.pp_core.specs.Queries.{flushed_page}
use Rattle.pp_core.specs.StandsFor as core
use Rattle.pp_device.specs.Image.{head_of}
use Rattle.pp_vault.specs.declared.tokens.Duty.TheVariants as duty
use Rattle.pp_vault.specs.declared.tokens.Errand.{Errand}
use Rattle.pp_vault.specs.Parts.{Parts}
use Rattle.pp_vault.specs.StandsFor.{StandsFor, IsKept, IsRight, ImagesFit, image_in}
use Rattle.pp_vault.specs.Steps.{Stepped}
use Rattle.pp_vault.specs.Events.{Does, Tells}
use Rattle.pp_vault.specs.Tokens.{ErrandFits, IsOut, IsHeaded}
use Rattle.pp_vault.specs.Flushes.{flush_call, flush_if, next_call, IsImageOf, CanCopy, CopiesOut}
use Rattle.pp_vault.proofs.Done.{does}
use Rattle.pp_vault.proofs.Images.{fit_stays}
use Rattle.pp_vault.proofs.Plain.{answered}

-- ---- what it is answered

begun : (page : ℕ) (r : Reply) → is_answer (FlushBegin page) r ≡ true → (mark : ℕ) × (r ≡ reply.Flushing mark)
begun page (reply.Taken plan) e = absurd (false≢true e)
begun page (reply.Hit frame mark) e = absurd (false≢true e)
begun page (reply.MustRead frame) e = absurd (false≢true e)
begun page (reply.MustWrite frame victim) e = absurd (false≢true e)
begun page (reply.Failed failure) e = absurd (false≢true e)
begun page (reply.Loaded mark) e = absurd (false≢true e)
begun page reply.Did e = absurd (false≢true e)
begun page (reply.Latched mark) e = absurd (false≢true e)
begun page (reply.Unlatched mark) e = absurd (false≢true e)
begun page (reply.Finished ending) e = absurd (false≢true e)
begun page (reply.Flushing mark) e = (mark, refl)
begun page (reply.Flushed clean) e = absurd (false≢true e)
begun page (reply.NotNow delay) e = absurd (false≢true e)
begun page (reply.OffPlan cause) e = absurd (false≢true e)

-- ---- options

pub same_frame : (o : Option ℕ) (a b : ℕ) → o ≡ Some a → o ≡ Some b → a ≡ b
same_frame o a b e f = ap (λ x. unwrap_or x a) (sym e ∙ f)

pub same_image : (o : Option (List ℕ)) (a b : List ℕ) → o ≡ Some a → o ≡ Some b → a ≡ b
same_image o a b e f = ap (λ x. unwrap_or x a) (sym e ∙ f)

none_in_flight : (o : Option Flush) (f : Flush) → o ≡ Some f → o ≡ None → ⊥
none_in_flight o f e n = false≢true (ap is_some (sym n ∙ e))

-- While a flush is in flight, its buffer may be away.
spareless : (n : ℕ) (xs : List (Option (List ℕ))) (spare : Option (List ℕ)) (t : State) (f : Flush)
    → ImagesFit n xs spare t → t.flush ≡ Some f → ImagesFit n xs None t
spareless n xs spare t f fit e =
    record {
      wide = fit.wide;
      frames = fit.frames;
      long = fit.long;
      there = fit.there;
      right = fit.right;
      spare_there = λ none. absurd (none_in_flight t.flush f e none);
      spare_long = λ image is. absurd (false≢true (ap is_some is));
    }

module _ (old mid : Parts) (page : ℕ) (r : Reply) (kept : IsKept old) (step : Stepped old mid (FlushBegin page) r) where
  -- ---- after the core's step

  has_begun : (mark : ℕ) × (r ≡ reply.Flushing mark)
  has_begun =
      begun page r
      (answered kept.state (FlushBegin page) r (sym (step.moves.replies kept.state kept.stands.core)) step.done)

  told : (s : State) → StandsFor old s → reply_of s (FlushBegin page) ≡ reply.Flushing has_begun.0
  told s st = sym (step.moves.replies s st.core) ∙ has_begun.1

  abbrev place : State → Standing
  place s = record { frame = frame_at s page; mark = has_begun.0 }

  ready : (s : State) → StandsFor old s → ready_at s page ≡ Some (place s)
  ready s st = flushed_are_ready s st.core.reached page has_begun.0 (told s st)

  right : (s : State) → StandsFor old s → IsRight old.images page (place s)
  right s st = st.images.right page (place s) (ready s st)

  was_at : (s : State) → StandsFor old s → frame_of s page ≡ Some (frame_at s page)
  was_at s st = (ready_stand s st.core.reached page (place s) (ready s st)).frame

  keeps : (s : State) → StandsFor old s → Keeps s (next_of s (FlushBegin page))
  keeps s st = still_keeps s st.core.reached (FlushBegin page) (ap is_still (told s st))

  at : (s : State) → StandsFor old s → frame_of (next_of s (FlushBegin page)) page ≡ Some (frame_at s page)
  at s st =
      let reached = (step.moves.stands s st.core).reached in
      (ready_stand (next_of s (FlushBegin page)) reached page (place s) ((keeps s st).ready page ∙ ready s st)).frame

  started : (s : State) → StandsFor old s
      → (s.flush ≡ None)
      × ((next_of s (FlushBegin page)).flush ≡ Some (record { page = page; began = has_begun.0 }))
  started s st = flush_starts s page has_begun.0 (told s st)

  stays : (s : State) → StandsFor old s
      → ImagesFit old.page_bytes old.images old.spare (next_of s (FlushBegin page))
  stays s st =
      fit_stays old.page_bytes old.images old.spare s (next_of s (FlushBegin page)) st.images
      (ap (λ k. k.layout.frames) (settings_stay s (FlushBegin page))) (keeps s st) (λ e. (started s st).0)

  mid_stands : (s : State) → StandsFor old s → StandsFor mid (next_of s (FlushBegin page))
  mid_stands s st =
      record {
        core = step.moves.stands s st.core;
        images =
            subst (λ (v : Parts). ImagesFit v.page_bytes v.images v.spare (next_of s (FlushBegin page))) (sym step.rest)
            (stays s st);
      }

  pub can_copy : CanCopy mid page
  can_copy =
      let s = kept.state in
      let st = kept.stands in
      record {
        state = next_of s (FlushBegin page);
        stands = mid_stands s st;
        image = (right s st).image;
        source =
            record {
              frame = frame_at s page;
              stands = at s st;
              there = ap (λ (v : Parts). image_in v.images (frame_at s page)) step.rest ∙ (right s st).there;
            };
        spare = subst (λ (v : Parts). IsSome v.spare) (sym step.rest) (st.images.spare_there (started s st).0);
      }

  -- ---- after the image is copied

  module _ (new : Parts) (errand : Errand) (is : errand.duty ≡ duty.Flush page)
      (image : (s : State) → StandsFor mid s → IsImageOf mid s page errand.image)
      (rest : new ≡ record mid { spare = None }) where
    copy : (s : State) → StandsFor old s → image_in old.images (frame_at s page) ≡ Some errand.image
    copy s st =
        let t = next_of s (FlushBegin page) in
        let c = image t (mid_stands s st) in
        sym (ap (λ (v : Parts). image_in v.images (frame_at s page)) step.rest)
        ∙ ap (image_in mid.images) (same_frame (frame_of t page) (frame_at s page) c.frame (at s st) c.stands)
        ∙ c.there

    same : (s : State) → (st : StandsFor old s) → errand.image ≡ (right s st).image
    same s st =
        same_image (image_in old.images (frame_at s page)) errand.image (right s st).image (copy s st) (right s st).there

    pub copies : CopiesOut old new page errand
    copies =
        record {
          duty = is;
          copy = λ s st. record { frame = frame_at s page; stands = was_at s st; there = copy s st };
          head = λ s st.
              ap (λ b. Some (head_of b)) (same s st)
              ∙ ap (λ h. Some h) (right s st).head
              ∙ sym (
              ap (option_map (λ mark. (page, mark)))
              (ready_stand s st.core.reached page (place s) (ready s st)).mark
              );
          images = ap (λ (v : Parts). v.images) rest ∙ ap (λ (v : Parts). v.images) step.rest;
          spare = ap (λ (v : Parts). v.spare) rest;
        }

    all : new ≡ record old { core = mid.core; spare = None }
    all = rest ∙ ap (λ (v : Parts). record v { spare = None }) step.rest

    fits : (s : State) → StandsFor old s
        → ImagesFit new.page_bytes new.images new.spare (next_of s (FlushBegin page))
    fits s st =
        let t = next_of s (FlushBegin page) in
        subst (λ (v : Parts). ImagesFit v.page_bytes v.images v.spare t) (sym all)
        (
        spareless old.page_bytes old.images old.spare t (record { page = page; began = has_begun.0 }) (stays s st)
        (started s st).1
        )

    moves : core.Moves old.core (FlushBegin page) r new.core
    moves = subst (core.Moves old.core (FlushBegin page) r) (sym (ap (λ (v : Parts). v.core) rest)) step.moves

    pub flush_does : Does old (flush_call page) new
    flush_does =
        does old new (flush_call page) (FlushBegin page) r moves step.done
        (ap (λ (v : Parts). v.page_bytes) all) (λ s st. refl) fits

    flushed : (u : State) → StandsFor new u → flushed_page u ≡ Some page
    flushed u ut =
        let next = moves.stands kept.state kept.stands.core in
        ap (option_map (λ f. f.page)) (sym ut.core.flush ∙ next.flush ∙ (started kept.state kept.stands).1)

    pub flush_fits : ErrandFits new errand
    flush_fits =
        record {
          out = λ u ut. subst (IsOut u) (sym is) (flushed u ut);
          headed = λ u ut. subst (λ d. IsHeaded u d errand.image) (sym is) tt;
          long =
              kept.stands.images.long (frame_at kept.state page) errand.image (copy kept.state kept.stands)
              ∙ sym (ap (λ (v : Parts). v.page_bytes) all);
        }

-- ---- the next page

next_is : (v : Parts) (n page : ℕ) → ((s : State) → StandsFor v s → dirty_from (marks s) n ≡ Some page)
    → (s : State) → StandsFor v s → flush_call page s ≡ next_call n s
next_is v n page found s st = sym (ap (flush_if (is_some (flushed_page s))) (found s st))

next_does : (old new : Parts) (n page : ℕ)
    → ((s : State) → StandsFor old s → dirty_from (marks s) n ≡ Some page) → Does old (flush_call page) new
    → Does old (next_call n) new
next_does old new n page found does =
    record {
      allowed = λ s st. sym (ap (refusal_of s) (next_is old n page found s st)) ∙ does.allowed s st;
      stands = λ s st. subst (λ c. StandsFor new (after_call s c)) (next_is old n page found s st) (does.stands s st);
      page_bytes = does.page_bytes;
      plans = does.plans;
    }

next_tells : (v : Parts) (n page : ℕ) (done : Move × Reply)
    → ((s : State) → StandsFor v s → dirty_from (marks s) n ≡ Some page) → Tells v (flush_call page) done
    → Tells v (next_call n) done
next_tells v n page done found told s st = sym (ap (told_of s) (next_is v n page found s st)) ∙ told s st

pub next_told : {A E : Type 0} (v : Parts) (n page : ℕ) (r : Result (A × (Move × Reply)) E)
    → ((s : State) → StandsFor v s → dirty_from (marks s) n ≡ Some page)
    → IfOk r (λ now. Tells v (flush_call page) now.1) → IfOk r (λ now. Tells v (next_call n) now.1)
next_told v n page (Ok now) found told = next_tells v n page now.1 found told
next_told v n page (Err e) found told = told

pub next_ok : {A E : Type 0} (old new : Parts) (n page : ℕ) (r : Result A E)
    → ((s : State) → StandsFor old s → dirty_from (marks s) n ≡ Some page)
    → IfOk r (λ _. Does old (flush_call page) new) → IfOk r (λ _. Does old (next_call n) new)
next_ok old new n page (Ok x) found does = next_does old new n page found does
next_ok old new n page (Err e) found does = does
