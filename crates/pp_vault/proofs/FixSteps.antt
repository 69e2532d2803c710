-- A fix: what the core's step did, and what becomes of the images.
use Rattle.std.proofs.Common.{◌≡◌, ◌≢◌, ◌∙◌, ◌⊎◌, inl, inr, ℕ, suc, ◌<◌, ◌≤◌, Bool, true, false, not, Option, Some, None, List}
use Rattle.std.proofs.Common.{length, nat_lt, refl, sym, ap, subst, arith}
use Rattle.std.specs.Prelude.{option_and_then, slice_set, unwrap_or, option_map, IsSome, if◌then◌else◌, ◌||◌, ◌==◌, IsTrue}
use Rattle.std.specs.Option.{is_some}
use Rattle.std.proofs.lemmas.Bool.{false≢true}
use Rattle.pp_plan.specs.declared.action.Ask.{Ask}
use Rattle.pp_plan.specs.declared.action.Ask.TheVariants as ask
use Rattle.pp_model.specs.declared.moves.Move.TheVariants.{Fix}
use Rattle.pp_model.specs.declared.reply.Reply.{Reply}
use Rattle.pp_model.specs.declared.reply.Reply.TheVariants as reply
use Rattle.pp_model.specs.declared.reply.Reply.TheVariants.{Hit, MustRead, MustWrite}
use Rattle.pp_model.specs.Pool.{State, frame_of, known_mark, mark_at}
use Rattle.pp_model.specs.Moves.{reply_of, next_of, is_refusal}
use Rattle.pp_model.specs.Ready.{Standing, StandsIn, ready_at, is_away_at, is_still, ImageGoes, Leaves, Vacates}
use Rattle.pp_model.specs.Ready.{empty, takes}
use Rattle.pp_model.specs.Shapes.{is_answer, fits_reply}
use Rattle.pp_model.proofs.Shapes.{reply_fits}
use Rattle.pp_model.proofs.Alone.{settings_stay, flush_stays}
use Rattle.pp_model.proofs.ReadyLaws.{still_keeps, ready_are_apart, ready_stand, read_vacates, write_leaves}
use Rattle.pp_model.proofs.Requests.{same, other, which}
use Rattle.pp_core.specs.StandsFor as core
use Rattle.pp_core.specs.Queries.{ask_of, bundle_of, gathered_of, errand_of}
use Rattle.pp_core.specs.AfterMoves.{AfterMoves, HasFixed, HasGathered, wanted_of}
use Rattle.pp_core.specs.Fixing.{wanted}
use Rattle.pp_core.proofs.AfterMoves.{after_moves}
use Rattle.pp_core.proofs.Alike.{same_ask, same_held, same_bundle, same_errand, same_mark}
use Rattle.pp_device.specs.Image.{head_of}
use Rattle.pp_vault.specs.declared.refusal.Refusal.TheVariants.{Stranger}
use Rattle.pp_vault.specs.declared.tokens.Session.{Session}
use Rattle.pp_vault.specs.declared.tokens.Duty.TheVariants.{Read, Write}
use Rattle.pp_vault.specs.Parts.{Parts}
use Rattle.pp_vault.specs.StandsFor.{image_in, IsRight, ImagesFit, StandsFor, IsKept}
use Rattle.pp_vault.specs.Calls.{asks, stranger, refusal_of}
use Rattle.pp_vault.specs.Fits.{is_acting_by, is_gathered, fix_slot, names_slot, asked_at, fix_call}
use Rattle.pp_vault.specs.ImageMoves.{TakenOut, ImagesStay}
use Rattle.pp_vault.specs.Steps.{Stepped}
use Rattle.pp_vault.specs.Events.{Refuses, Does, Tells}
use Rattle.pp_vault.specs.Tokens.{ActsIn, SessionFits, ErrandFits}
use Rattle.pp_vault.specs.Fixes.{Gathers, IsHit, OpensBundle, JoinsBundle, IsSent}
use Rattle.pp_vault.proofs.Images.{fit_stays, fit_out}
use Rattle.pp_vault.proofs.Done.{does, tells}
use Rattle.pp_vault.proofs.FitTests.{nat_is, none_some, some_some, some_pins, empty_by, page_gathered}

pub acts_by : (o : Option Ask) → IsSome o → is_acting_by o ≡ true
acts_by None h = absurd (false≢true h)
acts_by (Some a) h = refl

there_by : (images : List (Option (List ℕ))) (frame : ℕ) (away : Bool)
    → is_some (image_in images frame) ≡ not away → away ≡ false → is_some (image_in images frame) ≡ true
there_by images frame away e stays = e ∙ ap not stays

none_standing : {x : Standing} → ◌≡◌ {A = Option Standing} None (Some x) → ⊥
none_standing {x} e = cc

-- Pages that are ready after an image left a frame were ready before, in other frames.
pub before_left : (s t : State) (victim : ℕ) (y : Standing) → ((p q : ℕ) (x z : Standing) → ready_at s p ≡ Some x
    → ready_at s q ≡ Some z → x.frame ≡ z.frame → p ≡ q) → Leaves s t victim y → (p : ℕ) (x : Standing)
    → ready_at t p ≡ Some x → (ready_at s p ≡ Some x) × (x.frame ≢ y.frame)
before_left s t victim y apart gone p x e =
    elim (which p victim) [
      | same d k ↦ absurd (none_standing (sym gone.gone ∙ ap (ready_at t) (sym d) ∙ e))
      | other d k ↦
          let was : ready_at s p ≡ Some x = sym (gone.others p d) ∙ e in
          (was, λ f. d (apart p victim x y was gone.was f))
    ]

-- The image goes from the frame, and pages that are ready stand in other frames as before.
pub record IsEmptied (s t : State) (frame : ℕ) : Type 0 where
  pub goes : ImageGoes s t frame
  pub before : (p : ℕ) (x : Standing) → ready_at t p ≡ Some x → (ready_at s p ≡ Some x) × (x.frame ≢ frame)

-- What becomes of a frame where a device has to work.
pub record Sends (s t : State) (frame : ℕ) : Type 0 where
  pub low : frame < s.settings.layout.frames
  pub emptied : IsEmptied s t frame

emptied : (s t : State) (frame : ℕ) → ((p q : ℕ) (x z : Standing) → ready_at s p ≡ Some x
    → ready_at s q ≡ Some z → x.frame ≡ z.frame → p ≡ q) → Vacates s t frame → IsEmptied s t frame
emptied s t frame apart (empty none stay goes) =
    record {
      goes = goes;
      before = λ p x e. let was : ready_at s p ≡ Some x = sym (stay p) ∙ e in (was, none p x was);
    }
emptied s t frame apart (takes victim mark gone) =
    record {
      goes = gone.image;
      before = before_left s t victim (record { frame = frame; mark = mark }) apart gone;
    }

-- A fix that is done is answered by a hit, a read or a write.
other_fix : (w page : ℕ) (x : Reply) → is_refusal x ≡ false → (is_refusal x || is_answer (Fix w page) x) ≡ true
    → ((f m : ℕ) → x ≡ Hit f m → ⊥) → ((f : ℕ) → x ≡ MustRead f → ⊥) → ((f v : ℕ) → x ≡ MustWrite f v → ⊥) → ⊥
other_fix w page (reply.Taken plan) d h nh nr nw = false≢true h
other_fix w page (reply.Hit frame mark) d h nh nr nw = nh frame mark refl
other_fix w page (reply.MustRead frame) d h nh nr nw = nr frame refl
other_fix w page (reply.MustWrite frame victim) d h nh nr nw = nw frame victim refl
other_fix w page (reply.Failed failure) d h nh nr nw = false≢true h
other_fix w page (reply.Loaded mark) d h nh nr nw = false≢true h
other_fix w page reply.Did d h nh nr nw = false≢true h
other_fix w page (reply.Latched mark) d h nh nr nw = false≢true h
other_fix w page (reply.Unlatched mark) d h nh nr nw = false≢true h
other_fix w page (reply.Finished ending) d h nh nr nw = false≢true h
other_fix w page (reply.Flushing mark) d h nh nr nw = false≢true h
other_fix w page (reply.Flushed clean) d h nh nr nw = false≢true h
other_fix w page (reply.NotNow delay) d h nh nr nw = false≢true (sym d)
other_fix w page (reply.OffPlan cause) d h nh nr nw = false≢true (sym d)

-- ---- what the plan asks, of the slot that the session tells

-- It is a fix or a gather into the slot.
abbrev pub Wants : (slot : ℕ) → Ask → Type 0
Wants slot a = ((region : ℕ) × (a ≡ ask.Fix slot region)) ⊎ ((region : ℕ) × (a ≡ ask.Gather slot region))

wants_by : (slot : ℕ) (a : Ask) (f : ℕ × ℕ) → wanted a ≡ Some f → (slot == fix_slot a) ≡ true → Wants slot a
wants_by slot (ask.Fix k region) f e is = inl (region, ap (λ n. ask.Fix n region) (sym (nat_is slot k is)))
wants_by slot (ask.Gather k region) f e is = inr (region, ap (λ n. ask.Gather n region) (sym (nat_is slot k is)))
wants_by slot (ask.Unfix k) f e is = absurd (none_some e)
wants_by slot (ask.Latch k m) f e is = absurd (none_some e)
wants_by slot (ask.Unlatch k) f e is = absurd (none_some e)
wants_by slot (ask.Scatter k) f e is = absurd (none_some e)
wants_by slot (ask.Choose count) f e is = absurd (none_some e)
wants_by slot ask.End f e is = absurd (none_some e)

wants_page : (slot : ℕ) (a : Ask) → Wants slot a → (region : ℕ) × (wanted a ≡ Some (slot, region))
wants_page slot a h =
    elim h [
      | inl f ↦ (f.0, ap wanted f.1)
      | inr f ↦ (f.0, ap wanted f.1)
    ]

abbrev gathers : Ask → Bool
gathers (ask.Gather k region) = true
gathers _ = false

fix_is : (slot : ℕ) (a : Ask) → Wants slot a → ((k region : ℕ) → a ≡ ask.Gather k region → ⊥)
    → (region : ℕ) × (a ≡ ask.Fix slot region)
fix_is slot a h plain =
    elim h [
      | inl f ↦ f
      | inr f ↦ absurd (plain slot f.0 f.1)
    ]

gather_is : (slot : ℕ) (a : Ask) → Wants slot a → (k region : ℕ) → a ≡ ask.Gather k region
    → (region : ℕ) × (a ≡ ask.Gather slot region)
gather_is slot a h k region is =
    elim h [
      | inl f ↦ absurd (false≢true (ap gathers (sym f.1 ∙ is)))
      | inr f ↦ f
    ]

pub record AskedAt (slot : ℕ) (o : Option Ask) (a : Ask) : Type 0 where
  pub is : o ≡ Some a
  pub names : names_slot slot o ≡ true
  pub named : (slot == fix_slot a) ≡ true

asked_there : (slot : ℕ) (b a : Ask) (t : Bool) → (slot == fix_slot b) ≡ t
    → ◌≡◌ {A = Option Ask} (if t then Some b else None) (Some a) → AskedAt slot (Some b) a
asked_there slot b a true at e =
    let same : b ≡ a = some_some a b a e in
    record { is = e; names = at; named = ap (λ k. slot == fix_slot k) (sym same) ∙ at }
asked_there slot b a false at e = absurd (none_some e)

pub asked_so : (slot : ℕ) (o : Option Ask) (a : Ask) → asked_at slot o ≡ Some a → AskedAt slot o a
asked_so slot None a e = absurd (none_some e)
asked_so slot (Some b) a e = asked_there slot b a (slot == fix_slot b) refl e

-- A session is a stranger's where the plan asks nothing of its slot.
no_name : (slot : ℕ) (o : Option Ask) → asked_at slot o ≡ None → names_slot slot o ≡ false
no_name slot None e = refl
no_name slot (Some b) e = go (slot == fix_slot b) refl e
  where
    go : (t : Bool) → (slot == fix_slot b) ≡ t → ◌≡◌ {A = Option Ask} (if t then Some b else None) None
        → (slot == fix_slot b) ≡ false
    go true at e = absurd (none_some (sym e))
    go false at e = at

pub strange : (old : Parts) (w slot page : ℕ)
    → ((s : State) → StandsFor old s → asked_at slot (ask_of s w) ≡ None) → Refuses old (fix_call w slot page) Stranger
strange old w slot page none s st =
    ap (λ b. refusal_of s (if b then asks (Fix w page) else stranger)) (no_name slot (ask_of s w) (none s st))

module _ (old mid : Parts) (w slot page : ℕ) (r : Reply) (did : Stepped old mid (Fix w page) r) (asks_this : Ask)
    (told : (s : State) → StandsFor old s → asked_at slot (ask_of s w) ≡ Some asks_this) where
  abbrev next : State → State
  next s = next_of s (Fix w page)

  -- ---- the state before

  answer : (s : State) → StandsFor old s → reply_of s (Fix w page) ≡ r
  answer s st = sym (did.moves.replies s st.core)

  laws : (s : State) → StandsFor old s → AfterMoves s
  laws s st = after_moves s st.core.reached

  there_asked : (s : State) → StandsFor old s → AskedAt slot (ask_of s w) asks_this
  there_asked s st = asked_so slot (ask_of s w) asks_this (told s st)

  names : (s : State) → StandsFor old s → names_slot slot (ask_of s w) ≡ true
  names s st = (there_asked s st).names

  wants : (s : State) → StandsFor old s → Wants slot asks_this
  wants s st =
      let f = (laws s st).found (Fix w page) (ap is_refusal (answer s st) ∙ did.done) in
      wants_by slot asks_this (f.0, f.1) (ap (option_and_then wanted) (sym (there_asked s st).is) ∙ f.2)
      (there_asked s st).named

  -- The slot that the plan names.
  asked : (s : State) → StandsFor old s → (region : ℕ) × (wanted_of s w ≡ Some (slot, region))
  asked s st =
      let f = wants_page slot asks_this (wants s st) in
      (f.0, ap (option_and_then wanted) (there_asked s st).is ∙ f.1)

  calls : (s : State) → StandsFor old s → fix_call w slot page s ≡ asks (Fix w page)
  calls s st = ap (λ b. if b then asks (Fix w page) else stranger) (names s st)

  pub fix_tells : Tells old (fix_call w slot page) (Fix w page, r)
  fix_tells = tells old mid (Fix w page) r did (fix_call w slot page) calls

  frames : (s : State) → StandsFor old s → (next s).settings.layout.frames ≡ s.settings.layout.frames
  frames s st = ap (λ k. k.layout.frames) (settings_stay s (Fix w page))

  flush : (s : State) → (next s).flush ≡ None → s.flush ≡ None
  flush s e = sym (flush_stays s (Fix w page) w refl) ∙ e

  pub no_other : IsKept old → ((f m : ℕ) → r ≡ Hit f m → ⊥) → ((f : ℕ) → r ≡ MustRead f → ⊥)
      → ((f v : ℕ) → r ≡ MustWrite f v → ⊥) → ⊥
  no_other k nh nr nw =
      other_fix w page r did.done
      (subst (λ x. IsTrue (fits_reply (Fix w page) x)) (answer k.state k.stands) (reply_fits k.state (Fix w page)))
      nh nr nw

  -- ---- a hit

  module _ (frame mark : ℕ) (e : r ≡ Hit frame mark) where
    hit_fits : (s : State) → StandsFor old s → ImagesFit mid.page_bytes mid.images mid.spare (next s)
    hit_fits s st =
        subst (λ (p : Parts). ImagesFit p.page_bytes p.images p.spare (next s)) (sym did.rest)
        (fit_stays old.page_bytes old.images old.spare s (next s) st.images (frames s st)
        (still_keeps s st.core.reached (Fix w page) (ap is_still (answer s st ∙ e))) (flush s))

    pub hit_does : Does old (fix_call w slot page) mid
    hit_does =
        does old mid (fix_call w slot page) (Fix w page) r did.moves did.done
        (ap (λ (p : Parts). p.page_bytes) did.rest) calls hit_fits

    pub hit_kept : IsKept old → IsKept mid
    hit_kept k =
        record {
          state = next k.state;
          stands = record {
            core = did.moves.stands k.state k.stands.core;
            images = hit_fits k.state k.stands;
          };
        }

    acting : (s : State) → StandsFor old s → IsSome (ask_of (next s) w)
    acting s st =
        elim (wants s st) [
          | inl f ↦
              ((laws s st).hit w page slot f.0 frame mark (answer s st ∙ e)
              ((there_asked s st).is ∙ ap {B = Option Ask} Some f.1)).acts
          | inr f ↦
              ((laws s st).hit_gather w page slot f.0 frame mark (answer s st ∙ e)
              ((there_asked s st).is ∙ ap {B = Option Ask} Some f.1)).acts
        ]

    pub hit_acts : IsKept old → ActsIn mid w
    hit_acts k t b =
        ap is_acting_by (same_ask mid.core t (next k.state) b.core (did.moves.stands k.state k.stands.core) w)
        ∙ acts_by (ask_of (next k.state) w) (acting k.state k.stands)

    replies : (s : State) → StandsFor old s
        → (frame : ℕ) × (mark : ℕ) × (reply_of s (Fix w page) ≡ Hit frame mark)
        × (frame_of (next s) page ≡ Some frame)
    replies s st = (frame, mark, answer s st ∙ e, (laws s st).hit_frame w page frame mark (answer s st ∙ e))

    stay : ImagesStay old mid
    stay =
        record {
          images = ap (λ (p : Parts). p.images) did.rest;
          spare = ap (λ (p : Parts). p.spare) did.rest;
        }

    module _ (k : IsKept old) (x : Session) (fits : SessionFits mid w x) where
      -- The slot holds the page.
      module _ (plain : (n region : ℕ) → asks_this ≡ ask.Gather n region → ⊥) where
        fix_asked : (s : State) → StandsFor old s → (region : ℕ) × (ask_of s w ≡ Some (ask.Fix slot region))
        fix_asked s st =
            let f = fix_is slot asks_this (wants s st) plain in
            (f.0, (there_asked s st).is ∙ ap {B = Option Ask} Some f.1)

        fixed : (s : State) (st : StandsFor old s) → HasFixed s (next s) w slot page mark
        fixed s st =
            let now = fix_asked s st in (laws s st).hit w page slot now.0 frame mark (answer s st ∙ e) now.1

        pub hit_is : IsHit old mid w page x (record { worker = w; slot = slot; page = page })
        hit_is =
            record {
              replies = replies;
              asked = fix_asked;
              was = λ s st. empty_by s w slot (fixed s st).empty (fixed s st).no_bundle;
              session = fits;
              guard = record {
                worker = refl;
                held = λ t b.
                    same_held mid.core t (next k.state) b.core (did.moves.stands k.state k.stands.core) w slot
                    ∙ (fixed k.state k.stands).held;
              };
              of_page = refl;
              images = stay;
            }

        pub hit_at : (n : ℕ) → n ≡ slot → IsHit old mid w page x (record { worker = w; slot = n; page = page })
        hit_at n is = subst (λ k. IsHit old mid w page x (record { worker = w; slot = k; page = page })) (sym is) hit_is

      -- The page is in the slot's bundle, which has so many now.
      module _ (n : ℕ) (is : n ≡ slot) (m region : ℕ) (by : asks_this ≡ ask.Gather m region) (pins : ℕ)
          (count : (t : State) → core.StandsFor mid.core t → pins ≡ gathered_of t w n) where
        gather_asked : (s : State) → StandsFor old s → (region : ℕ) × (ask_of s w ≡ Some (ask.Gather slot region))
        gather_asked s st =
            let f = gather_is slot asks_this (wants s st) m region by in
            (f.0, (there_asked s st).is ∙ ap {B = Option Ask} Some f.1)

        has : (s : State) → StandsFor old s → HasGathered s (next s) w slot page mark
        has s st =
            let now = gather_asked s st in
            (laws s st).hit_gather w page slot now.0 frame mark (answer s st ∙ e) now.1

        gathered_now : Gathers old mid w slot page
        gathered_now s t st b =
            same_bundle mid.core t (next s) b.core (did.moves.stands s st.core) w slot ∙ (has s st).more

        pins_are : (s : State) → StandsFor old s → pins ≡ suc (gathered_of s w slot)
        pins_are s st =
            count (next s) (did.moves.stands s st.core) ∙ ap (gathered_of (next s) w) is
            ∙ ap (λ (ps : List ℕ). length ps) (has s st).more

        was_none : pins ≤ 1 → (s : State) → StandsFor old s → is_gathered s w slot ≡ false
        was_none few s st =
            let none : gathered_of s w slot ≡ 0 = omega (arith, few, pins_are s st) in ap (nat_lt 0) none

        was_some : 1 < pins → (s : State) → StandsFor old s → is_gathered s w slot ≡ true
        was_some more s st = some_pins (gathered_of s w slot) (omega (arith, more, pins_are s st))

        opens : pins ≤ 1 → OpensBundle old mid w page x (record { worker = w; slot = slot })
        opens few =
            record {
              replies = replies;
              asked = gather_asked;
              was = λ s st. record { no_page = (has s st).no_page; no_bundle = was_none few s st };
              session = fits;
              guard = record {
                worker = refl;
                gathered = λ t b.
                    page_gathered t w slot page (bundle_of k.state w slot) (gathered_now k.state t k.stands b);
              };
              gathers = gathered_now;
              images = stay;
            }

        pub opens_at : pins ≤ 1 → OpensBundle old mid w page x (record { worker = w; slot = n })
        opens_at few = subst (λ i. OpensBundle old mid w page x (record { worker = w; slot = i })) (sym is) (opens few)

        pub joins : 1 < pins → JoinsBundle old mid w slot page x
        joins more =
            record {
              replies = replies;
              asked = gather_asked;
              was = was_some more;
              session = fits;
              gathers = gathered_now;
              images = stay;
            }

  -- ---- an image that leaves its frame

  module _ (frame : ℕ) (sends : (s : State) → StandsFor old s → Sends s (next s) frame) where
    low_in : (s : State) → StandsFor old s → frame < length old.images
    low_in s st = subst (λ n. frame < n) (sym st.images.frames) (sends s st).low

    there : IsKept old → is_some (image_in mid.images frame) ≡ true
    there k =
        let s = k.state in
        let st = k.stands in
        ap (λ (p : Parts). is_some (image_in p.images frame)) did.rest
        ∙ there_by old.images frame (is_away_at s frame) (st.images.there frame (low_in s st)) (sends s st).emptied.goes.was

    module _ (new : Parts) (image : List ℕ) (was : image_in mid.images frame ≡ Some image)
        (rest : new ≡ record mid { images = slice_set mid.images frame None }) where
      whole : new ≡ record old { core = mid.core; images = slice_set old.images frame None }
      whole = rest ∙ ap (λ (p : Parts). record p { images = slice_set p.images frame None }) did.rest

      core_is : new.core ≡ mid.core
      core_is = ap (λ (p : Parts). p.core) rest

      was_old : image_in old.images frame ≡ Some image
      was_old = ap (λ (p : Parts). image_in p.images frame) (sym did.rest) ∙ was

      out_core : (s : State) → StandsFor old s → core.StandsFor new.core (next s)
      out_core s st = subst (λ c. core.StandsFor c (next s)) (sym core_is) (did.moves.stands s st.core)

      out_fits : (s : State) → StandsFor old s → ImagesFit new.page_bytes new.images new.spare (next s)
      out_fits s st =
          let sent = (sends s st).emptied in
          subst (λ (p : Parts). ImagesFit p.page_bytes p.images p.spare (next s)) (sym whole)
          (fit_out old.page_bytes old.images old.spare s (next s) st.images (frames s st) frame (low_in s st)
          sent.goes sent.before (flush s))

      out_does : Does old (fix_call w slot page) new
      out_does =
          does old new (fix_call w slot page) (Fix w page) r
          (subst (λ c. core.Moves old.core (Fix w page) r c) (sym core_is) did.moves) did.done (ap (λ (p : Parts). p.page_bytes) whole) calls out_fits

      out : TakenOut old new frame image
      out =
          record {
            was = was_old;
            images = ap (λ (p : Parts). p.images) whole;
            spare = ap (λ (p : Parts). p.spare) whole;
          }

      out_long : IsKept old → length image ≡ new.page_bytes
      out_long k =
          k.stands.images.long frame image was_old ∙ sym (ap (λ (p : Parts). p.page_bytes) whole)

  -- ---- a read

  module _ (frame : ℕ) (e : r ≡ MustRead frame) (k : IsKept old) where
    vacates : (s : State) → StandsFor old s → (frame < s.settings.layout.frames) × Vacates s (next s) frame
    vacates s st = read_vacates s st.core.reached w page frame (answer s st ∙ e)

    read_sends : (s : State) → StandsFor old s → Sends s (next s) frame
    read_sends s st =
        let v = vacates s st in
        record { low = v.0; emptied = emptied s (next s) frame (ready_are_apart s st.core.reached) v.1 }

    pub read_there : is_some (image_in mid.images frame) ≡ true
    read_there = there frame read_sends k

    module _ (new : Parts) (image : List ℕ) (was : image_in mid.images frame ≡ Some image)
        (rest : new ≡ record mid { images = slice_set mid.images frame None }) where
      read_errand : errand_of (next k.state) w ≡ Some (slot, page, None)
      read_errand =
          let now = asked k.state k.stands in
          ((laws k.state k.stands).sent w page slot now.0 frame (answer k.state k.stands ∙ e) now.1).errand

      pub read_answers : Does old (fix_call w slot page) new × IsSent old new w page image (Read w slot page)
          × ErrandFits new (record { duty = Read w slot page; image = image })
      read_answers = (
        out_does frame read_sends new image was rest,
        (
          refl,
          refl,
          λ s st. (
            frame,
            answer s st ∙ e,
            (laws s st).sent_frame w page frame (answer s st ∙ e),
            (vacates s st).1,
            out frame read_sends new image was rest,
          ),
        ),
        record {
          out = λ t b.
              same_errand new.core t (next k.state) b.core
              (out_core frame read_sends new image was rest k.state k.stands) w ∙ read_errand;
          headed = λ t b. tt;
          long = out_long frame read_sends new image was rest k;
        },
      )

      pub read_at : (n : ℕ) → n ≡ slot → Does old (fix_call w slot page) new × IsSent old new w page image (Read w n page)
          × ErrandFits new (record { duty = Read w n page; image = image })
      read_at n is =
          subst (λ k. Does old (fix_call w slot page) new × IsSent old new w page image (Read w k page)
          × ErrandFits new (record { duty = Read w k page; image = image })) (sym is) read_answers

  -- ---- a victim's write

  module _ (frame victim : ℕ) (e : r ≡ MustWrite frame victim) (k : IsKept old) where
    leaves : (s : State) → StandsFor old s
        → Leaves s (next s) victim (record { frame = frame; mark = mark_at s victim })
    leaves s st = write_leaves s st.core.reached w page frame victim (answer s st ∙ e)

    stood : (s : State) → StandsFor old s → StandsIn s victim (record { frame = frame; mark = mark_at s victim })
    stood s st =
        ready_stand s st.core.reached victim (record { frame = frame; mark = mark_at s victim }) (leaves s st).was

    write_sends : (s : State) → StandsFor old s → Sends s (next s) frame
    write_sends s st =
        record {
          low = (stood s st).low;
          emptied = emptied s (next s) frame (ready_are_apart s st.core.reached)
              (takes victim (mark_at s victim) (leaves s st));
        }

    pub write_there : is_some (image_in mid.images frame) ≡ true
    write_there = there frame write_sends k

    module _ (new : Parts) (image : List ℕ) (was : image_in mid.images frame ≡ Some image)
        (rest : new ≡ record mid { images = slice_set mid.images frame None }) where
      write_errand : errand_of (next k.state) w ≡ Some (slot, page, Some victim)
      write_errand =
          let now = asked k.state k.stands in
          ((laws k.state k.stands).sent_victim w page slot now.0 frame victim (answer k.state k.stands ∙ e) now.1).errand

      -- The victim's mark stays as its write begins.
      mark_next : known_mark (next k.state) victim ≡ Some (mark_at k.state victim)
      mark_next =
          let s = k.state in
          let st = k.stands in
          (laws s st).mark (Fix w page) victim (mark_at s victim) (stood s st).mark (λ v slot h. absurd h)

      head_is : head_of image ≡ (victim, mark_at k.state victim)
      head_is =
          let right : IsRight old.images victim (record { frame = frame; mark = mark_at k.state victim })
          = k.stands.images.right victim (record { frame = frame; mark = mark_at k.state victim })
          (leaves k.state k.stands).was in
          let same : right.image ≡ image
          = ap (λ o. unwrap_or o image) (sym right.there ∙ was_old frame write_sends new image was rest) in
          ap head_of (sym same) ∙ right.head

      headed_in : (t : State) → StandsFor new t
          → ◌≡◌ {A = Option (ℕ × ℕ)} (Some (head_of image)) (option_map (λ mark. (victim, mark)) (known_mark t victim))
      headed_in t b =
          let marked : known_mark t victim ≡ Some (mark_at k.state victim)
          = same_mark new.core t (next k.state) b.core
          (out_core frame write_sends new image was rest k.state k.stands) victim ∙ mark_next in
          ap {B = Option (ℕ × ℕ)} (λ h. Some h) head_is
          ∙ sym (ap {B = Option (ℕ × ℕ)} (option_map (λ (mark : ℕ). (victim, mark))) marked)

      pub write_answers : Does old (fix_call w slot page) new × IsSent old new w page image (Write w slot page victim)
          × ErrandFits new (record { duty = Write w slot page victim; image = image })
      write_answers = (
        out_does frame write_sends new image was rest,
        (
          refl,
          refl,
          λ s st. (
            frame,
            answer s st ∙ e,
            (laws s st).sent_victim_frame w page frame victim (answer s st ∙ e),
            (stood s st).frame,
            out frame write_sends new image was rest,
          ),
        ),
        record {
          out = λ t b.
              same_errand new.core t (next k.state) b.core
              (out_core frame write_sends new image was rest k.state k.stands) w ∙ write_errand;
          headed = headed_in;
          long = out_long frame write_sends new image was rest k;
        },
      )

      pub write_at : (n : ℕ) → n ≡ slot
          → Does old (fix_call w slot page) new × IsSent old new w page image (Write w n page victim)
          × ErrandFits new (record { duty = Write w n page victim; image = image })
      write_at n is =
          subst (λ k. Does old (fix_call w slot page) new × IsSent old new w page image (Write w k page victim)
          × ErrandFits new (record { duty = Write w k page victim; image = image })) (sym is) write_answers
