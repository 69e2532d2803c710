-- A life begins with the outset that the life before left.
use Rattle.std.proofs.Common.{◌≡◌, ◌∙◌, sym, ap, subst}
use Rattle.std.specs.Prelude.{None, replicate}
use Rattle.pp_settings.specs.Layout.{Geometry, page_count}
use Rattle.pp_arc.specs.FourLists.{FourLists}
use Rattle.pp_frames.specs.Marks.{page_count as marked_pages}
use Rattle.pp_model.specs.Pool.{Settings, State}
use Rattle.pp_model.specs.Renewing.{renew_error, renewed}
use Rattle.pp_model.specs.Reached.{IsReached}
use Rattle.pp_model.proofs.Rest.{Rests, rests, can_renew}
use Rattle.pp_model.proofs.Counts.{counted}
use Rattle.pp_model.proofs.Journeys.{renewed_reached}
use Rattle.pp_model.proofs.Soundness.{sound}
use Rattle.pp_model.proofs.Framed.{notes_length}
use Rattle.pp_core.specs.Parts.{Parts}
use Rattle.pp_outset.specs.Outsets.{Outset, outset_of, opens_with}
use Rattle.pp_outset.specs.OutsetLaws.{NextOpens, NextIsReached, HasRoom}
use Rattle.pp_outset.proofs.Noting.{marked}

opens : (s : State) → IsReached s → Rests s → renewed s ≡ opens_with s.settings (outset_of s)
opens s h r =
    let seats : s.seats ≡ replicate s.settings.workers None =
    r.seats ∙ ap (λ n. replicate n None) (counted s h).workers in
    λ i. record (renewed s) { seats = seats i; flush = r.flush i }

pub next_opens : (s : State) → NextOpens s
next_opens s h e = opens s h (rests s e)

-- A pool that can be renewed is at rest.
pub next_begins : (s : State) → IsReached s → renew_error s ≡ None → renewed s ≡ opens_with s.settings (outset_of s)
next_begins s h e = opens s h (can_renew s e).rests

pub next_reached : (s : State) → NextIsReached s
next_reached s h e = subst IsReached (next_begins s h e) (renewed_reached s h e)

pub has_room : (k : Settings) (o : Outset) (f : Parts) → HasRoom k o f
has_room k o f s began st same =
    let then = sound (opens_with k o) began in
    let now = sound s st.reached in
    record {
      frames = then.c ∙ ap (λ (g : Geometry). g.frames) (sym same) ∙ sym now.c ∙ ap (λ (l : FourLists). l.c) (sym st.lists);
      pages = then.pages ∙ ap page_count (sym same) ∙ sym now.pages ∙ ap (λ (l : FourLists). l.pages) (sym st.lists);
      notes = notes_length (opens_with k o) began ∙ ap page_count (sym same) ∙ sym (notes_length s st.reached)
          ∙ sym (ap marked_pages st.marks ∙ marked s);
    }
