-- The answer of a victim's write: its image goes on with a read, or comes back to its frame.
use Rattle.std.proofs.Common.{◌≡◌, ◌≢◌, ◌∙◌, ◌⊎◌, ℕ, ◌<◌, Bool, true, false, Option, Some, None, List, length}
use Rattle.std.proofs.Common.{refl, sym, ap, subst, arith}
use Rattle.std.specs.Prelude.{slice_set, unwrap_or, IsTrue, ◌==◌, ◌&&◌, if◌then◌else◌}
use Rattle.std.proofs.lemmas.Bool.{false≢true}
use Rattle.std.proofs.lemmas.Bool.Decides.{nat_tests}
use Rattle.pp_model.specs.declared.moves.Move.TheVariants.{WriteDone}
use Rattle.pp_model.specs.declared.reply.Failure.{Failure}
use Rattle.pp_model.specs.declared.reply.Failure.TheVariants.{WriteFault, ReadFault, Misread}
use Rattle.pp_model.specs.declared.reply.Reply.{Reply}
use Rattle.pp_model.specs.declared.reply.Reply.TheVariants.{MustRead, Failed}
use Rattle.pp_model.specs.Pool.{State, frame_of, frame_at, known_mark, mark_at}
use Rattle.pp_model.specs.Holders.{loading}
use Rattle.pp_model.specs.Moves.{reply_of, next_of}
use Rattle.pp_model.specs.Ready.{Standing, ready_at, Enters, ImageComes}
use Rattle.pp_model.specs.Shapes.{fits_reply}
use Rattle.pp_model.proofs.Shapes.{reply_fits}
use Rattle.pp_model.proofs.ReadyAnswers.{written_keeps, unwritten_enters}
use Rattle.pp_model.proofs.ReadyLaws.{ready_stand}
use Rattle.pp_core.specs.StandsFor as core
use Rattle.pp_core.specs.Queries.{errand_of}
use Rattle.pp_core.specs.AfterMoves.{AfterMoves}
use Rattle.pp_core.proofs.AfterMoves.{after_moves}
use Rattle.pp_core.proofs.Alike.{same_errand, same_leaving}
use Rattle.pp_device.specs.Image.{head_of}
use Rattle.pp_vault.specs.declared.tokens.Duty.TheVariants.{Read}
use Rattle.pp_vault.specs.Parts.{Parts}
use Rattle.pp_vault.specs.StandsFor.{StandsFor, IsKept}
use Rattle.pp_vault.specs.Calls.{asks, stranger}
use Rattle.pp_vault.specs.Steps.{Stepped}
use Rattle.pp_vault.specs.Events.{Does}
use Rattle.pp_vault.specs.Answers.{is_head_of, is_of_write, is_write_out, write_call, IsWritten, IsUnwritten}
use Rattle.pp_vault.proofs.ErrandSteps.{IsWriting, is_writing, entered}
use Rattle.pp_vault.proofs.BackSteps as back

-- ---- the errand that fits

pub both : (a b : Bool) → (a && b) ≡ true → (a ≡ true) × (b ≡ true)
both true b e = (refl, e)
both false b e = absurd (false≢true e)

pub same_nat : (a b : ℕ) → (a == b) ≡ true → a ≡ b
same_nat a b e = grind (arith, nat_tests)

pub write_out : (slot page victim : ℕ) (holds : Bool) (o : Option (ℕ × ℕ × Option ℕ))
    → is_of_write slot page victim holds o ≡ true → (o ≡ Some (slot, page, Some victim)) × (holds ≡ true)
write_out slot page victim holds None e = absurd (false≢true e)
write_out slot page victim holds (Some (k, p, None)) e = absurd (false≢true e)
write_out slot page victim holds (Some (k, p, Some v)) e =
    let a = both ((k == slot) && (p == page) && (v == victim)) holds e in
    let b = both ((k == slot) && (p == page)) (v == victim) a.0 in
    let d = both (k == slot) (p == page) b.0 in
    let one : k ≡ slot = same_nat k slot d.0 in
    let two : p ≡ page = same_nat p page d.1 in
    let three : v ≡ victim = same_nat v victim b.1 in
    (cc, a.1)

head_out : (page named stamp : ℕ) (o : Option ℕ) → is_head_of page (named, stamp) o ≡ true
    → ◌≡◌ {A = ℕ × ℕ} (named, stamp) (page, unwrap_or o 0)
head_out page named stamp None e = absurd (false≢true e)
head_out page named stamp (Some mark) e =
    let a = both (named == page) (stamp == mark) e in
    let one : named ≡ page = same_nat named page a.0 in
    let two : stamp ≡ mark = same_nat stamp mark a.1 in
    cc

record WriteFits (n w slot page victim : ℕ) (image : List ℕ) (s : State) : Type 0 where
  errand : errand_of s w ≡ Some (slot, page, Some victim)
  long : length image ≡ n
  head : head_of image ≡ (victim, mark_at s victim)

write_fits : (n w slot page victim : ℕ) (image : List ℕ) (s : State)
    → is_write_out n w slot page victim image s ≡ true → WriteFits n w slot page victim image s
write_fits n w slot page victim image s e =
    let a = write_out slot page victim ((length image == n) && is_head_of victim (head_of image) (known_mark s victim))
    (errand_of s w) e in
    let b = both (length image == n) (is_head_of victim (head_of image) (known_mark s victim)) a.1 in
    record {
      errand = a.0;
      long = same_nat (length image) n b.0;
      head = head_out victim (head_of image).0 (head_of image).1 (known_mark s victim) b.1;
    }

-- ---- what the answer says of the device

written_ok : (w : ℕ) (ok : Bool) (frame : ℕ) → fits_reply (WriteDone w ok) (MustRead frame) ≡ true → ok ≡ true
written_ok w true frame e = refl
written_ok w false frame e = absurd (false≢true e)

failed_ok : (w : ℕ) (ok : Bool) (f : Failure) → fits_reply (WriteDone w ok) (Failed f) ≡ true
    → (ok ≡ false) × (f ≡ WriteFault)
failed_ok w false WriteFault e = (refl, refl)
failed_ok w false ReadFault e = absurd (false≢true e)
failed_ok w false Misread e = absurd (false≢true e)
failed_ok w true WriteFault e = absurd (false≢true e)
failed_ok w true ReadFault e = absurd (false≢true e)
failed_ok w true Misread e = absurd (false≢true e)

-- ---- the step

module _ (old : Parts) (w slot page victim : ℕ) (image : List ℕ)
    (out : (s : State) → StandsFor old s → is_write_out old.page_bytes w slot page victim image s ≡ true)
    (k : IsKept old) where
  fits : (s : State) → StandsFor old s → WriteFits old.page_bytes w slot page victim image s
  fits s st = write_fits old.page_bytes w slot page victim image s (out s st)

  at : (s : State) → StandsFor old s → IsWriting s w slot page victim
  at s st = is_writing s w slot page victim (fits s st).errand

  pub framed : frame_of k.state page ≡ Some (frame_at k.state page)
  framed =
      let it = at k.state k.stands in
      back.loading_framed k.state k.stands.core.reached w page it.running it.seat (ap loading it.stage)

  module _ (mid : Parts) (ok : Bool) (r : Reply) (did : Stepped old mid (WriteDone w ok) r) where
    abbrev next : State → State
    next s = next_of s (WriteDone w ok)

    calls : (s : State) → StandsFor old s
        → write_call old.page_bytes w slot page victim image ok s ≡ asks (WriteDone w ok)
    calls s st = ap (λ b. if b then asks (WriteDone w ok) else stranger) (out s st)

    answer : (s : State) → StandsFor old s → reply_of s (WriteDone w ok) ≡ r
    answer s st = sym (did.moves.replies s st.core)

    laws : (s : State) → StandsFor old s → AfterMoves s
    laws s st = after_moves s st.core.reached

    shape : IsTrue (fits_reply (WriteDone w ok) r)
    shape =
        subst (λ x. IsTrue (fits_reply (WriteDone w ok) x)) (answer k.state k.stands)
        (reply_fits k.state (WriteDone w ok))

    -- ---- written

    module _ (frame : ℕ) (e : r ≡ MustRead frame) where
      is_ok : ok ≡ true
      is_ok = written_ok w ok frame (subst (λ x. IsTrue (fits_reply (WriteDone w ok) x)) e shape)

      read_errand : (s : State) → StandsFor old s → errand_of (next s) w ≡ Some (slot, page, None)
      read_errand s st =
          ((laws s st).written w ok slot page victim frame (answer s st ∙ e) (fits s st).errand).errand

      replies : (s : State) → StandsFor old s
          → (f : ℕ) × (reply_of s (WriteDone w true) ≡ MustRead f)
          × (frame_of (next_of s (WriteDone w true)) page ≡ Some f)
      replies s st =
          subst (λ b. (f : ℕ) × (reply_of s (WriteDone w b) ≡ MustRead f)
          × (frame_of (next_of s (WriteDone w b)) page ≡ Some f)) is_ok (
            frame,
            answer s st ∙ e,
            (laws s st).written_frame w ok slot page victim frame (answer s st ∙ e) (fits s st).errand,
          )

      pub written_is : (ok ≡ true) × Does old (write_call old.page_bytes w slot page victim image ok) mid
          × IsWritten old w slot page victim image (record { duty = Read w slot page; image = image }) mid
      written_is = (
        is_ok,
        back.stay_does old mid w (WriteDone w ok) refl (write_call old.page_bytes w slot page victim image ok) r did calls
            (λ s st. written_keeps s st.core.reached w frame ok (answer s st ∙ e)),
        record {
          replies = replies;
          duty = refl;
          same = refl;
          fits = record {
            out = λ t b.
                same_errand mid.core t (next k.state) b.core (did.moves.stands k.state k.stands.core) w
                ∙ read_errand k.state k.stands;
            headed = λ t b. tt;
            long = (fits k.state k.stands).long ∙ sym (ap (λ (p : Parts). p.page_bytes) did.rest);
          };
          images = back.stay old mid w (WriteDone w ok) refl (write_call old.page_bytes w slot page victim image ok) r did
              calls (λ s st. written_keeps s st.core.reached w frame ok (answer s st ∙ e));
        },
      )

    -- ---- not written

    module _ (frame : ℕ) (told : (s : State) → core.StandsFor old.core s → Some frame ≡ frame_of s page) where
      of_page : (s : State) → StandsFor old s → (p : ℕ) × (frame_of s p ≡ Some frame)
      of_page s st = (page, sym (told s st.core))

      same_frame : (s : State) → StandsFor old s → frame_at s page ≡ frame
      same_frame s st = back.frame_is s page frame (sym (told s st.core))

      pub low : frame < length mid.images
      low =
          back.low old mid w (WriteDone w ok) refl (write_call old.page_bytes w slot page victim image ok) r did calls frame
          of_page k.state k.stands

      module _ (failure : Failure) (e : r ≡ Failed failure) (new : Parts)
          (rest : new ≡ record mid { images = slice_set mid.images frame (Some image) }) where
        fault : (ok ≡ false) × (failure ≡ WriteFault)
        fault = failed_ok w ok failure (subst (λ x. IsTrue (fits_reply (WriteDone w ok) x)) e shape)

        failed : (s : State) → StandsFor old s → reply_of s (WriteDone w ok) ≡ Failed WriteFault
        failed s st = answer s st ∙ e ∙ ap (λ f. Failed f) fault.1

        enters : (s : State) → StandsFor old s
            → Enters s (next s) victim (record { frame = frame_at s page; mark = mark_at s victim })
        enters s st =
            let it = at s st in
            unwritten_enters s st.core.reached w slot page victim it.running ok it.seat it.stage (failed s st)

        comes : (s : State) → StandsFor old s → ImageComes s (next s) frame
        comes s st = subst (λ f. ImageComes s (next s) f) (same_frame s st) (enters s st).image

        ready : (s : State) → StandsFor old s → (p : ℕ) (x : Standing) → ready_at (next s) p ≡ Some x
            → ((ready_at s p ≡ Some x) × (x.frame ≢ frame)) ⊎ ((x.frame ≡ frame) × (head_of image ≡ (p, x.mark)))
        ready s st p x is =
            subst (λ f. ((ready_at s p ≡ Some x) × (x.frame ≢ f)) ⊎ ((x.frame ≡ f) × (head_of image ≡ (p, x.mark))))
            (same_frame s st)
            (entered s (next s) st.core.reached image victim (record { frame = frame_at s page; mark = mark_at s victim })
            (enters s st) (fits s st).head p x is)

        -- The victim has the frame that the page had.
        has_frame : (s : State) → StandsFor old s → frame_of (next s) victim ≡ frame_of s page
        has_frame s st =
            (ready_stand (next s) (did.moves.stands s st.core).reached victim
            (record { frame = frame_at s page; mark = mark_at s victim }) (enters s st).is).frame
            ∙ ap {B = Option ℕ} (λ f. Some f) (same_frame s st) ∙ told s st.core

        pub unwritten_is : (ok ≡ false) × Does old (write_call old.page_bytes w slot page victim image ok) new
            × IsUnwritten old w page image (record { worker = w }) new
        unwritten_is =
            let call = write_call old.page_bytes w slot page victim image ok in
            let long = (fits k.state k.stands).long in (
              fault.0,
              back.in_does old mid w (WriteDone w ok) refl call r did calls frame of_page image long comes ready new rest,
              record {
                replies = λ s st. subst (λ b. reply_of s (WriteDone w b) ≡ Failed WriteFault) fault.0 (failed s st);
                victim = λ s st. (
                  slot,
                  victim,
                  (fits s st).errand,
                  subst (λ b. frame_of (next_of s (WriteDone w b)) victim ≡ frame_of s page) fault.0 (has_frame s st),
                );
                worker = refl;
                leaves = λ t b.
                    same_leaving new.core t (next k.state) b.core
                    (back.in_core old mid w (WriteDone w ok) refl call r did calls frame of_page image long comes ready new rest
                    k.state k.stands) w
                    ∙ ((laws k.state k.stands).not_written w ok failure (answer k.state k.stands ∙ e)).leaving;
                images = λ s st. (
                  frame,
                  sym (told s st.core),
                  back.put_in old mid w (WriteDone w ok) refl call r did calls frame of_page image long comes ready new rest s
                      st,
                );
              },
            )
