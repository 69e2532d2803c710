-- The answer of a read: the image comes back to its frame, with the page in it or without.
use Rattle.std.proofs.Common.{◌≡◌, ◌≢◌, ◌∙◌, ◌⊎◌, inl, inr, ℕ, suc, ◌<◌, Bool, true, false, Option, Some, None, List}
use Rattle.std.proofs.Common.{length, nat_lt, refl, sym, ap, subst, arith}
use Rattle.std.specs.Prelude.{slice_set, ◌==◌, ◌&&◌, if◌then◌else◌, option_and_then, IsSome}
use Rattle.std.proofs.lemmas.Bool.{false≢true}
use Rattle.pp_plan.specs.declared.action.Ask.{Ask}
use Rattle.pp_plan.specs.declared.action.Ask.TheVariants as ask
use Rattle.pp_model.specs.declared.moves.Came.{Came}
use Rattle.pp_model.specs.declared.moves.Came.TheVariants.{Fault, Image}
use Rattle.pp_model.specs.declared.moves.Move.{Move}
use Rattle.pp_model.specs.declared.moves.Move.TheVariants.{ReadDone}
use Rattle.pp_model.specs.declared.reply.Failure.{Failure}
use Rattle.pp_model.specs.declared.reply.Reply.{Reply}
use Rattle.pp_model.specs.declared.reply.Reply.TheVariants.{Loaded, Failed}
use Rattle.pp_model.specs.Pool.{State, frame_of, frame_at}
use Rattle.pp_model.specs.Holders.{loading}
use Rattle.pp_model.specs.Moves.{reply_of, next_of}
use Rattle.pp_model.specs.Ready.{Standing, ready_at, Enters, ReadyStay, ImageComes}
use Rattle.pp_model.proofs.ReadyAnswers.{loaded_enters, unread_returns}
use Rattle.pp_core.specs.StandsFor as core
use Rattle.pp_core.specs.Fixing.{wanted}
use Rattle.pp_core.specs.Queries.{ask_of, bundle_of, gathered_of, pending_of, errand_of}
use Rattle.pp_core.specs.AfterMoves.{AfterMoves, HasFixed, HasGathered, HasLoaded}
use Rattle.pp_core.proofs.AfterMoves.{after_moves}
use Rattle.pp_core.proofs.Alike.{same_ask, same_held, same_bundle, same_leaving}
use Rattle.pp_device.specs.Image.{head_of}
use Rattle.pp_vault.specs.declared.tokens.Session.{Session}
use Rattle.pp_vault.specs.Parts.{Parts}
use Rattle.pp_vault.specs.StandsFor.{StandsFor, IsKept}
use Rattle.pp_vault.specs.Calls.{Call, asks, stranger}
use Rattle.pp_vault.specs.Fits.{is_acting_by, is_gathered}
use Rattle.pp_vault.specs.Steps.{Stepped}
use Rattle.pp_vault.specs.ImageMoves.{PutIn}
use Rattle.pp_vault.specs.Events.{Does, Tells}
use Rattle.pp_vault.proofs.Done.{tells}
use Rattle.pp_vault.specs.Tokens.{ActsIn, SessionFits}
use Rattle.pp_vault.specs.Fixes.{Gathers}
use Rattle.pp_vault.specs.Answers.{came_of, is_of_read, is_read_out, read_call, IsRead, IsReadFirst, IsReadFurther, IsUnread}
use Rattle.pp_vault.proofs.ErrandSteps.{IsReading, is_reading, entered, returned}
use Rattle.pp_vault.proofs.FitTests.{none_some, some_some, some_pins, empty_by, page_gathered}
use Rattle.pp_vault.proofs.FixSteps.{acts_by}
use Rattle.pp_vault.proofs.Kept as kept
use Rattle.pp_vault.proofs.WriteSteps.{both, same_nat}
use Rattle.pp_vault.proofs.BackSteps as back

-- ---- the errand that fits

pub read_out : (slot page : ℕ) (holds : Bool) (o : Option (ℕ × ℕ × Option ℕ)) → is_of_read slot page holds o ≡ true
    → (o ≡ Some (slot, page, None)) × (holds ≡ true)
read_out slot page holds None e = absurd (false≢true e)
read_out slot page holds (Some (k, p, Some v)) e = absurd (false≢true e)
read_out slot page holds (Some (k, p, None)) e =
    let a = both ((k == slot) && (p == page)) holds e in
    let b = both (k == slot) (p == page) a.0 in
    let one : k ≡ slot = same_nat k slot b.0 in
    let two : p ≡ page = same_nat p page b.1 in
    (cc, a.1)

-- ---- what the plan asks for which the page is read

-- It is a fix, or a gather, and the slot has the page so.
pub record ReadFix (s t : State) (w slot page mark : ℕ) : Type 0 where
  pub region : ℕ
  pub asked : pending_of s w ≡ Some (ask.Fix slot region)
  pub has : HasFixed s t w slot page mark

pub record ReadGather (s t : State) (w slot page mark : ℕ) : Type 0 where
  pub region : ℕ
  pub asked : pending_of s w ≡ Some (ask.Gather slot region)
  pub has : HasGathered s t w slot page mark

pending_is : (o : Option Ask) (slot region : ℕ) → option_and_then wanted o ≡ Some (slot, region)
    → (o ≡ Some (ask.Fix slot region)) ⊎ (o ≡ Some (ask.Gather slot region))
pending_is None slot region e = absurd (none_some e)
pending_is (Some (ask.Fix k n)) slot region e =
    inl (ap (λ (p : ℕ × ℕ). Some (ask.Fix p.0 p.1)) (some_some (slot, region) (k, n) (slot, region) e))
pending_is (Some (ask.Gather k n)) slot region e =
    inr (ap (λ (p : ℕ × ℕ). Some (ask.Gather p.0 p.1)) (some_some (slot, region) (k, n) (slot, region) e))
pending_is (Some (ask.Unfix k)) slot region e = absurd (none_some e)
pending_is (Some (ask.Latch k m)) slot region e = absurd (none_some e)
pending_is (Some (ask.Unlatch k)) slot region e = absurd (none_some e)
pending_is (Some (ask.Scatter k)) slot region e = absurd (none_some e)
pending_is (Some (ask.Choose n)) slot region e = absurd (none_some e)
pending_is (Some ask.End) slot region e = absurd (none_some e)

loaded_by : (s t : State) (w slot page mark : ℕ) (came : Came) → HasLoaded s t w slot page mark came
    → ReadFix s t w slot page mark ⊎ ReadGather s t w slot page mark
loaded_by s t w slot page mark came h =
    elim (pending_is (pending_of s w) slot h.asked.0 h.asked.1) [
      | inl is ↦ inl (record { region = h.asked.0; asked = is; has = h.fixed h.asked.0 is })
      | inr is ↦ inr (record { region = h.asked.0; asked = is; has = h.gathered h.asked.0 is })
    ]

-- The slot's bundle tells which it is: after a fix it has none, after a gather one more than before.
pins_of_fix : (s t : State) (w slot page mark : ℕ) → HasFixed s t w slot page mark → gathered_of t w slot ≡ 0
pins_of_fix s t w slot page mark h = ap (λ (ps : List ℕ). length ps) (h.bundles slot ∙ h.no_bundle)

pins_of_gather : (s t : State) (w slot page mark : ℕ) → HasGathered s t w slot page mark
    → gathered_of t w slot ≡ suc (gathered_of s w slot)
pins_of_gather s t w slot page mark h = ap (λ (ps : List ℕ). length ps) h.more

abbrev head_in : Came → ℕ × ℕ
head_in (Image named stamp) = (named, stamp)
head_in Fault = (0, 0)

came_head : (ok : Bool) (named stamp page mark : ℕ) → came_of ok (named, stamp) ≡ Image page mark
    → ◌≡◌ {A = ℕ × ℕ} (named, stamp) (page, mark)
came_head true named stamp page mark e = ap head_in e
came_head false named stamp page mark e = cc

module _ (old : Parts) (w slot page : ℕ) (image : List ℕ)
    (out : (s : State) → StandsFor old s → is_read_out old.page_bytes w slot page image s ≡ true)
    (k : IsKept old) where
  fits : (s : State) → StandsFor old s
      → (errand_of s w ≡ Some (slot, page, None)) × ((length image == old.page_bytes) ≡ true)
  fits s st = read_out slot page (length image == old.page_bytes) (errand_of s w) (out s st)

  long : length image ≡ old.page_bytes
  long = same_nat (length image) old.page_bytes (fits k.state k.stands).1

  at : (s : State) → StandsFor old s → IsReading s w slot page
  at s st = is_reading s w slot page (fits s st).0

  pub framed : frame_of k.state page ≡ Some (frame_at k.state page)
  framed =
      let it = at k.state k.stands in
      back.loading_framed k.state k.stands.core.reached w page it.running it.seat (ap loading it.stage)

  module _ (mid : Parts) (ok : Bool) (came : Came) (is : came ≡ came_of ok (head_of image)) (r : Reply)
      (given : Stepped old mid (ReadDone w came) r) where
    abbrev m : Move
    m = ReadDone w (came_of ok (head_of image))

    abbrev next : State → State
    next s = next_of s m

    abbrev call : State → Call
    call = read_call old.page_bytes w slot page image ok

    did : Stepped old mid m r
    did = subst (λ c. Stepped old mid (ReadDone w c) r) is given

    calls : (s : State) → StandsFor old s → call s ≡ asks m
    calls s st = ap (λ b. if b then asks m else stranger) (out s st)

    pub read_tells : Tells old call (ReadDone w came, r)
    read_tells =
        tells old mid (ReadDone w came) r given call (λ s st. calls s st ∙ ap (λ c. asks (ReadDone w c)) (sym is))

    answer : (s : State) → StandsFor old s → reply_of s m ≡ r
    answer s st = sym (did.moves.replies s st.core)

    laws : (s : State) → StandsFor old s → AfterMoves s
    laws s st = after_moves s st.core.reached

    module _ (frame : ℕ) (told : (s : State) → core.StandsFor old.core s → Some frame ≡ frame_of s page) where
      of_page : (s : State) → StandsFor old s → (p : ℕ) × (frame_of s p ≡ Some frame)
      of_page s st = (page, sym (told s st.core))

      same_frame : (s : State) → StandsFor old s → frame_at s page ≡ frame
      same_frame s st = back.frame_is s page frame (sym (told s st.core))

      pub low : frame < length mid.images
      low = back.low old mid w m refl call r did calls frame of_page k.state k.stands

      module _ (new : Parts) (rest : new ≡ record mid { images = slice_set mid.images frame (Some image) }) where
        -- ---- loaded

        module _ (mark : ℕ) (e : r ≡ Loaded mark) where
          has : (s : State) → StandsFor old s
              → HasLoaded s (next s) w slot page mark (came_of ok (head_of image))
          has s st =
              (laws s st).loaded w (came_of ok (head_of image)) slot page mark (answer s st ∙ e) (fits s st).0

          by : (s : State) → StandsFor old s
              → ReadFix s (next s) w slot page mark ⊎ ReadGather s (next s) w slot page mark
          by s st = loaded_by s (next s) w slot page mark (came_of ok (head_of image)) (has s st)

          acting : (s : State) → StandsFor old s → IsSome (ask_of (next s) w)
          acting s st =
              elim (by s st) [
                | inl f ↦ f.has.acts
                | inr g ↦ g.has.acts
              ]

          head : head_of image ≡ (page, mark)
          head = came_head ok (head_of image).0 (head_of image).1 page mark (has k.state k.stands).image

          enters : (s : State) → StandsFor old s
              → Enters s (next s) page (record { frame = frame_at s page; mark = mark })
          enters s st =
              let it = at s st in
              loaded_enters s st.core.reached w slot page mark it.running (came_of ok (head_of image)) it.seat it.stage
              (answer s st ∙ e)

          comes : (s : State) → StandsFor old s → ImageComes s (next s) frame
          comes s st = subst (λ f. ImageComes s (next s) f) (same_frame s st) (enters s st).image

          ready : (s : State) → StandsFor old s → (p : ℕ) (x : Standing) → ready_at (next s) p ≡ Some x
              → ((ready_at s p ≡ Some x) × (x.frame ≢ frame)) ⊎ ((x.frame ≡ frame) × (head_of image ≡ (p, x.mark)))
          ready s st p x found =
              subst (λ f. ((ready_at s p ≡ Some x) × (x.frame ≢ f)) ⊎ ((x.frame ≡ f) × (head_of image ≡ (p, x.mark))))
              (same_frame s st)
              (entered s (next s) st.core.reached image page (record { frame = frame_at s page; mark = mark })
              (enters s st) head p x found)

          loaded_does : Does old call new
          loaded_does =
              back.in_does old mid w m refl call r did calls frame of_page image long comes ready new rest

          stands_in : (s : State) → StandsFor old s → core.StandsFor new.core (next s)
          stands_in s st =
              back.in_core old mid w m refl call r did calls frame of_page image long comes ready new rest s st

          stands_core : core.StandsFor new.core (next k.state)
          stands_core = stands_in k.state k.stands

          replies : (s : State) → StandsFor old s
              → (mark : ℕ) × (reply_of s m ≡ Loaded mark) × (head_of image ≡ (page, mark))
          replies s st = (mark, answer s st ∙ e, head)

          put : (s : State) → StandsFor old s
              → (frame : ℕ) × (frame_of s page ≡ Some frame) × PutIn old new frame image
          put s st = (
            frame,
            sym (told s st.core),
            back.put_in old mid w m refl call r did calls frame of_page image long comes ready new rest s st,
          )

          pub loaded_kept : IsKept new
          loaded_kept = kept.kept_after old new call k loaded_does

          pub loaded_acts : ActsIn new w
          loaded_acts t b =
              ap is_acting_by (same_ask new.core t (next k.state) b.core stands_core w)
              ∙ acts_by (ask_of (next k.state) w) (acting k.state k.stands)

          module _ (x : Session) (session : SessionFits new w x) (pins : ℕ)
              (count : (t : State) → core.StandsFor new.core t → pins ≡ gathered_of t w slot) where
            none_of_fix : (s : State) → StandsFor old s → HasFixed s (next s) w slot page mark → pins ≡ 0
            none_of_fix s st h = count (next s) (stands_in s st) ∙ pins_of_fix s (next s) w slot page mark h

            more_of_gather : (s : State) → StandsFor old s → HasGathered s (next s) w slot page mark
                → pins ≡ suc (gathered_of s w slot)
            more_of_gather s st h = count (next s) (stands_in s st) ∙ pins_of_gather s (next s) w slot page mark h

            -- For a fix.
            fixed_by : pins ≡ 0 → (s : State) → StandsFor old s → ReadFix s (next s) w slot page mark
            fixed_by none s st =
                elim (by s st) [
                  | inl f ↦ f
                  | inr g ↦ absurd (omega (arith, none, more_of_gather s st g.has))
                ]

            pub loaded_is : pins ≡ 0 → Does old call new
                × IsRead old w slot page image ok x (record { worker = w; slot = slot; page = page }) new
            loaded_is none = (
              loaded_does,
              record {
                replies = replies;
                asked = λ s st. let f = fixed_by none s st in (f.region, f.asked);
                was = λ s st.
                    empty_by s w slot (fixed_by none s st).has.empty (fixed_by none s st).has.no_bundle;
                session = session;
                guard = record {
                  worker = refl;
                  held = λ t b.
                      same_held new.core t (next k.state) b.core stands_core w slot
                      ∙ (fixed_by none k.state k.stands).has.held;
                };
                of_slot = refl;
                of_page = refl;
                images = put;
              },
            )

            -- For a gather.
            module _ (some : 0 < pins) where
              gathered_by : (s : State) → StandsFor old s → ReadGather s (next s) w slot page mark
              gathered_by s st =
                  elim (by s st) [
                    | inl f ↦ absurd (omega (arith, some, none_of_fix s st f.has))
                    | inr g ↦ g
                  ]

              gather_asked : (s : State) → StandsFor old s
                  → (region : ℕ) × (pending_of s w ≡ Some (ask.Gather slot region))
              gather_asked s st = let g = gathered_by s st in (g.region, g.asked)

              gathered_now : Gathers old new w slot page
              gathered_now s t st b =
                  same_bundle new.core t (next s) b.core (stands_in s st) w slot ∙ (gathered_by s st).has.more

              was_none : pins ≡ 1 → (s : State) → StandsFor old s → is_gathered s w slot ≡ false
              was_none one s st =
                  let none : gathered_of s w slot ≡ 0 =
                  omega (arith, one, more_of_gather s st (gathered_by s st).has) in
                  ap (nat_lt 0) none

              was_some : 1 < pins → (s : State) → StandsFor old s → is_gathered s w slot ≡ true
              was_some more s st =
                  some_pins (gathered_of s w slot) (omega (arith, more, more_of_gather s st (gathered_by s st).has))

              pub first_is : pins ≡ 1 → Does old call new
                  × IsReadFirst old w slot page image ok x (record { worker = w; slot = slot }) new
              first_is one = (
                loaded_does,
                record {
                  replies = replies;
                  asked = gather_asked;
                  was = λ s st.
                      record { no_page = (gathered_by s st).has.no_page; no_bundle = was_none one s st };
                  session = session;
                  guard = record {
                    worker = refl;
                    gathered = λ t b.
                        page_gathered t w slot page (bundle_of k.state w slot) (gathered_now k.state t k.stands b);
                  };
                  of_slot = refl;
                  gathers = gathered_now;
                  images = put;
                },
              )

              pub further_is : 1 < pins → Does old call new × IsReadFurther old w slot page image ok x new
              further_is more = (
                loaded_does,
                record {
                  replies = replies;
                  asked = gather_asked;
                  was = was_some more;
                  session = session;
                  gathers = gathered_now;
                  images = put;
                },
              )

        -- ---- not read

        module _ (failure : Failure) (e : r ≡ Failed failure) where
          back_in : (s : State) → StandsFor old s → ReadyStay s (next s) × ImageComes s (next s) (frame_at s page)
          back_in s st =
              let it = at s st in
              unread_returns s st.core.reached w slot page it.running (came_of ok (head_of image)) failure it.seat it.stage
              (answer s st ∙ e)

          lost_comes : (s : State) → StandsFor old s → ImageComes s (next s) frame
          lost_comes s st = subst (λ f. ImageComes s (next s) f) (same_frame s st) (back_in s st).1

          lost_ready : (s : State) → StandsFor old s → (p : ℕ) (x : Standing) → ready_at (next s) p ≡ Some x
              → ((ready_at s p ≡ Some x) × (x.frame ≢ frame)) ⊎ ((x.frame ≡ frame) × (head_of image ≡ (p, x.mark)))
          lost_ready s st = returned s (next s) st.core.reached image frame (back_in s st).0 (lost_comes s st)

          pub lost_is : Does old call new × IsUnread old w page image ok (record { worker = w }) new
          lost_is = (
            back.in_does old mid w m refl call r did calls frame of_page image long lost_comes lost_ready new rest,
            record {
              replies = λ s st. (failure, answer s st ∙ e);
              worker = refl;
              leaves = λ t b.
                  same_leaving new.core t (next k.state) b.core
                  (back.in_core old mid w m refl call r did calls frame of_page image long lost_comes lost_ready new rest
                  k.state k.stands) w
                  ∙ ((laws k.state k.stands).not_read w (came_of ok (head_of image)) failure
                  (answer k.state k.stands ∙ e)).leaving;
              images = λ s st. (
                frame,
                sym (told s st.core),
                back.put_in old mid w m refl call r did calls frame of_page image long lost_comes lost_ready new rest s st,
              );
            },
          )
