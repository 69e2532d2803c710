-- An errand that comes back: what the core's step did, and what becomes of the images.
use Rattle.std.proofs.Common.{◌≡◌, ◌≢◌, ◌∙◌, ◌⊎◌, ℕ, ◌<◌, Bool, true, false, Option, Some, None, List, [], ◌∷◌, length}
use Rattle.std.proofs.Common.{not, refl, sym, ap, subst}
use Rattle.std.specs.Prelude.{slice_set, unwrap_or}
use Rattle.std.specs.Option.{is_some}
use Rattle.std.proofs.lemmas.Bool.{false≢true}
use Rattle.pp_model.specs.declared.moves.Move.{Move}
use Rattle.pp_model.specs.declared.reply.Reply.{Reply}
use Rattle.pp_model.specs.Pool.{Running, State, frame_of, frame_at}
use Rattle.pp_model.specs.Holders.{loading}
use Rattle.pp_model.specs.Moves.{seat_of, reply_of, next_of}
use Rattle.pp_model.specs.Reached.{IsReached}
use Rattle.pp_model.specs.Ready.{Standing, ready_at, is_away, is_away_at, frame_if, Keeps, ImageComes}
use Rattle.pp_model.specs.WorkerParts.{worker_of}
use Rattle.pp_model.proofs.Alone.{settings_stay, flush_stays}
use Rattle.pp_model.proofs.ReadyLaws.{loading_are_away, framed_are_ready_or_away}
use Rattle.pp_core.specs.StandsFor as core
use Rattle.pp_device.specs.Image.{head_of}
use Rattle.pp_vault.specs.Parts.{Parts}
use Rattle.pp_vault.specs.StandsFor.{image_in, ImagesFit, StandsFor}
use Rattle.pp_vault.specs.Calls.{Call, asks}
use Rattle.pp_vault.specs.ImageMoves.{PutIn, ImagesStay}
use Rattle.pp_vault.specs.Steps.{Stepped}
use Rattle.pp_vault.specs.Events.{Does}
use Rattle.pp_vault.proofs.Images.{fit_stays, fit_in}
use Rattle.pp_vault.proofs.Done.{does}

-- ---- the frame of a page that is loaded

pub none_some : {f : ℕ} → ◌≡◌ {A = Option ℕ} None (Some f) → ⊥
none_some {f} e = cc

pub framed_by : (away : Bool) (o : Option ℕ) (f : ℕ) → frame_if away o ≡ Some f → o ≡ Some f
framed_by true o f e = e
framed_by false o f e = absurd (none_some e)

pub loading_framed : (s : State) → IsReached s → (w page : ℕ) (r : Running) → seat_of s w ≡ Some (Some r)
    → loading r.stage ≡ page ∷ [] → frame_of s page ≡ Some (frame_at s page)
loading_framed s h w page r seat loads =
    framed_by (is_away s page) (frame_of s page) (frame_at s page) (loading_are_away s h w page r seat loads)

pub frame_is : (s : State) (page frame : ℕ) → frame_of s page ≡ Some frame → frame_at s page ≡ frame
frame_is s page frame e = ap (λ o. unwrap_or o 0) e

-- No image is in a frame that one is away from.
none_there : (o : Option (List ℕ)) (away : Bool) → is_some o ≡ not away → away ≡ true → o ≡ None
none_there None away e f = refl
none_there (Some x) away e f = absurd (false≢true (sym (e ∙ ap not f)))

-- ---- the images after the step

module _ (old mid : Parts) (w : ℕ) (m : Move) (of : worker_of m ≡ Some w) (call : State → Call) (r : Reply)
    (did : Stepped old mid m r) (calls : (s : State) → StandsFor old s → call s ≡ asks m) where
  abbrev next : State → State
  next s = next_of s m

  pub answer : (s : State) → StandsFor old s → reply_of s m ≡ r
  answer s st = sym (did.moves.replies s st.core)

  frames : (s : State) → (next s).settings.layout.frames ≡ s.settings.layout.frames
  frames s = ap (λ k. k.layout.frames) (settings_stay s m)

  flush : (s : State) → (next s).flush ≡ None → s.flush ≡ None
  flush s e = sym (flush_stays s m w of) ∙ e

  -- ---- no image moves

  module _ (keeps : (s : State) → StandsFor old s → Keeps s (next s)) where
    stay_fits : (s : State) → StandsFor old s → ImagesFit mid.page_bytes mid.images mid.spare (next s)
    stay_fits s st =
        subst (λ (p : Parts). ImagesFit p.page_bytes p.images p.spare (next s)) (sym did.rest)
        (fit_stays old.page_bytes old.images old.spare s (next s) st.images (frames s) (keeps s st) (flush s))

    pub stay_does : Does old call mid
    stay_does =
        does old mid call m r did.moves did.done
        (ap (λ (p : Parts). p.page_bytes) did.rest) calls stay_fits

    pub stay : ImagesStay old mid
    stay =
        record {
          images = ap (λ (p : Parts). p.images) did.rest;
          spare = ap (λ (p : Parts). p.spare) did.rest;
        }

  -- ---- the image comes into a frame

  module _ (frame : ℕ) (framed : (s : State) → StandsFor old s → (page : ℕ) × (frame_of s page ≡ Some frame)) where
    low_in : (s : State) → StandsFor old s → frame < length old.images
    low_in s st =
        let f = framed s st in
        subst (λ n. frame < n) (sym st.images.frames)
        (framed_are_ready_or_away s st.core.reached f.0 frame f.1).0

    pub low : (s : State) → StandsFor old s → frame < length mid.images
    low s st = subst (λ (p : Parts). frame < length p.images) (sym did.rest) (low_in s st)

    module _ (image : List ℕ) (long : length image ≡ old.page_bytes)
        (comes : (s : State) → StandsFor old s → ImageComes s (next s) frame)
        (ready : (s : State) → StandsFor old s → (p : ℕ) (x : Standing) → ready_at (next s) p ≡ Some x
        → ((ready_at s p ≡ Some x) × (x.frame ≢ frame)) ⊎ ((x.frame ≡ frame) × (head_of image ≡ (p, x.mark))))
        (new : Parts) (rest : new ≡ record mid { images = slice_set mid.images frame (Some image) }) where
      whole : new ≡ record old { core = mid.core; images = slice_set old.images frame (Some image) }
      whole = rest ∙ ap (λ (p : Parts). record p { images = slice_set p.images frame (Some image) }) did.rest

      core_is : new.core ≡ mid.core
      core_is = ap (λ (p : Parts). p.core) rest

      pub in_core : (s : State) → StandsFor old s → core.StandsFor new.core (next s)
      in_core s st = subst (λ c. core.StandsFor c (next s)) (sym core_is) (did.moves.stands s st.core)

      in_fits : (s : State) → StandsFor old s → ImagesFit new.page_bytes new.images new.spare (next s)
      in_fits s st =
          subst (λ (p : Parts). ImagesFit p.page_bytes p.images p.spare (next s)) (sym whole)
          (fit_in old.page_bytes old.images old.spare s (next s) st.images (frames s) frame (low_in s st) image long
          (comes s st) (ready s st) (flush s))

      pub in_does : Does old call new
      in_does =
          does old new call m r (subst (λ c. core.Moves old.core m r c) (sym core_is) did.moves) did.done (ap (λ (p : Parts). p.page_bytes) whole) calls in_fits

      pub put_in : (s : State) → StandsFor old s → PutIn old new frame image
      put_in s st =
          record {
            there = low_in s st;
            was =
                none_there (image_in old.images frame) (is_away_at s frame) (st.images.there frame (low_in s st))
                (comes s st).was;
            images = ap (λ (p : Parts). p.images) whole;
            spare = ap (λ (p : Parts). p.spare) whole;
          }
