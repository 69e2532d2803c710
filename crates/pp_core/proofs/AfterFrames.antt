-- The frame that a fix tells is the page's after it.
use Rattle.std.proofs.Common.{◌≡◌, ◌∙◌, ◌<◌, ℕ, Bool, true, false, Some, None, length, refl, sym, ap, subst}
use Rattle.std.proofs.Common.{arith}
use Rattle.pp_arc.specs.FourLists.{is_cached}
use Rattle.pp_model.specs.declared.reply.Reply.TheVariants as reply
use Rattle.pp_model.specs.Pool.{writing, Running, Note, State, note_of, frame_of, frame_at}
use Rattle.pp_model.specs.Holders.{is_busy}
use Rattle.pp_model.specs.Outcome.{with_frame, with_lists, with_dirty}
use Rattle.pp_model.specs.Fixing.{free_frame}
use Rattle.pp_model.specs.Answers.{write_where}
use Rattle.pp_model.specs.Reached.{IsReached}
use Rattle.pp_model.proofs.Changes.{IsAt}
use Rattle.pp_model.proofs.Framed.{some_of, framed, loads_one, sent_one, notes_length, victim_low}
use Rattle.pp_model.proofs.HoldingSteps as slots
use Rattle.pp_model.proofs.MarkChanges.{note_here, note_there, notes_stay}
use Rattle.pp_model.proofs.Requests.{Which, same, other, which, hit_cached}
use Rattle.pp_model.proofs.Soundness.{sound}
use Rattle.pp_core.specs.Queries.{errand_of}
use Rattle.pp_core.specs.AfterMoves.{HitFrame, FixFrame, FixVictimFrame, WrittenFrame}
use Rattle.pp_core.proofs.MoveWays.{AsksPage, of_fix, of_write}
use Rattle.pp_core.proofs.AfterSeats.{errand_at, some_same}
use Rattle.pp_core.proofs.AfterFixes.{Told, no_refusal}

same_hit : (a b c d : ℕ) → reply.Hit a b ≡ reply.Hit c d → a ≡ c
same_hit a b c d e = cc

same_read : (a b : ℕ) → reply.MustRead a ≡ reply.MustRead b → a ≡ b
same_read a b e = cc

same_write : (a b c d : ℕ) → reply.MustWrite a b ≡ reply.MustWrite c d → a ≡ c
same_write a b c d e = cc

-- A page that was put into a frame is in it.
put : (s : State) (p f : ℕ) → p < length s.notes → frame_of (with_frame s p (Some f)) p ≡ Some f
put s p f low = ap (λ (x : Note). x.frame) (note_here s p (record (note_of s p) { frame = Some f }) low)

moved : (s : State) (v p f : ℕ) → p < length s.notes → frame_of (with_frame (with_frame s v None) p (Some f)) p ≡ Some f
moved s v p f low =
    let n : Note = record (note_of s v) { frame = None } in
    put (with_frame s v None) p f (omega (arith, low, notes_stay s v n))

-- Whether a page is clean changes no frame.
cleaned : (s : State) (v p : ℕ) → v < length s.notes → frame_of (with_dirty s v false) p ≡ frame_of s p
cleaned s v p low = go (which p v)
  where
    go : Which p v → frame_of (with_dirty s v false) p ≡ frame_of s p
    go (other ne f) =
        ap (λ (x : Note). x.frame) (note_there s v p (record (note_of s v) { dirty = false }) ne)
    go (same e f) =
        ap (frame_of (with_dirty s v false)) e
        ∙ ap (λ (x : Note). x.frame) (note_here s v (record (note_of s v) { dirty = false }) low)
        ∙ sym (ap (frame_of s) e)

module _ (s : State) (h : IsReached s) where
  -- A cached page has a frame.
  in_frame : (p : ℕ) → is_cached s.lists p ≡ true → frame_of s p ≡ Some (frame_at s p)
  in_frame p here = some_of (frame_of s p) ((framed s h).placed p here)

  low_page : (w page : ℕ) (r : Running) (k j : ℕ) → AsksPage s w r k j page → page < length s.notes
  low_page w page r k j asks =
      omega (arith, (slots.fix_finds s h w r k page asks.asked).low, notes_length s h)

  pub hit_frame : HitFrame s
  hit_frame w page frame mark =
      of_fix s (Told (reply.Hit frame mark) (λ t. frame_of t page ≡ Some frame))
      (no_refusal s _ _ (λ d e. cc) (λ c e. cc)) w page (record {
        hits = λ r k j l asks is e. in_frame page
            (hit_cached s.lists page (is_busy s) (sound s h).bounds is.is)
            ∙ ap Some (same_hit (frame_at s page) _ frame mark e);
        fills = λ r k j l asks e. absurd (cc);
        evicts = λ r k j v l asks e. absurd (cc);
        sends = λ r k j v l asks e. absurd (cc);
      })

  pub fix_frame : FixFrame s
  fix_frame w page frame =
      of_fix s (Told (reply.MustRead frame) (λ t. frame_of t page ≡ Some frame))
      (no_refusal s _ _ (λ d e. cc) (λ c e. cc)) w page (record {
        hits = λ r k j l asks is e. absurd (cc);
        fills = λ r k j l asks e. put (with_lists s l) page (free_frame s) (low_page w page r k j asks)
            ∙ ap Some (same_read (free_frame s) frame e);
        evicts = λ r k j v l asks e. moved (with_lists s l) v page (frame_at s v) (low_page w page r k j asks)
            ∙ ap Some (same_read (frame_at s v) frame e);
        sends = λ r k j v l asks e. absurd (cc);
      })

  pub fix_victim_frame : FixVictimFrame s
  fix_victim_frame w page frame victim =
      of_fix s (Told (reply.MustWrite frame victim) (λ t. frame_of t page ≡ Some frame))
      (no_refusal s _ _ (λ d e. cc) (λ c e. cc)) w page (record {
        hits = λ r k j l asks is e. absurd (cc);
        fills = λ r k j l asks e. absurd (cc);
        evicts = λ r k j v l asks e. absurd (cc);
        sends = λ r k j v l asks e. moved (with_lists s l) v page (frame_at s v) (low_page w page r k j asks)
            ∙ ap Some (same_write (frame_at s v) v frame victim e);
      })

  module _ (w : ℕ) where
    written : (ok : Bool) (r : Running) (k p v slot page victim frame : ℕ) → IsAt s w r (writing k p v)
        → Told (reply.MustRead frame)
        (λ t. errand_of s w ≡ Some (slot, page, Some victim) → frame_of t page ≡ Some frame)
        (write_where s w r k p v ok)
    written true r k p v slot page victim frame at e told =
        let here = (sound s h).cached p (omega (arith, loads_one s w r (writing k p v) p at refl)) in
        let low = victim_low s h v (sent_one s w r (writing k p v) v at refl) in
        let one = some_same (k, p, Some v) (slot, page, Some victim)
        (sym (errand_at s w r (writing k p v) at) ∙ told) in
        let so : frame_of (with_dirty s v false) p ≡ Some frame =
        cleaned s v p low ∙ in_frame p here ∙ ap Some (same_read (frame_at s p) frame e) in
        subst (λ x. frame_of (with_dirty s v false) x.1 ≡ Some frame) one so
    written false r k p v slot page victim frame at e told = absurd (cc)

  pub written_frame : WrittenFrame s
  written_frame w ok slot page victim frame =
      of_write s
      (Told (reply.MustRead frame)
      (λ t. errand_of s w ≡ Some (slot, page, Some victim) → frame_of t page ≡ Some frame))
      (no_refusal s _ _ (λ d e. cc) (λ c e. cc)) w ok
      (λ r k p v at. written w ok r k p v slot page victim frame at)
