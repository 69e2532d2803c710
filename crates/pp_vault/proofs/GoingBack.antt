-- A writer's image that comes back to its frame, as its latch X goes off the page.
use Rattle.std.proofs.Common.{◌≡◌, ◌≢◌, ◌∙◌, ◌⊎◌, ℕ, ◌+◌, ◌<◌, Option, Some, None, List, length, refl, sym, ap, subst}
use Rattle.std.specs.Prelude.{slice_set, unwrap_or, IsSome}
use Rattle.pp_cert.specs.declared.note.Held.{Held}
use Rattle.pp_cert.specs.declared.note.Held.TheVariants.{X}
use Rattle.pp_cert.specs.Held.{Holding, holding_at}
use Rattle.pp_model.specs.declared.moves.Move.{Move}
use Rattle.pp_model.specs.declared.reply.Reply.{Reply}
use Rattle.pp_model.specs.Pool.{Running, State, frame_of, frame_at, known_mark, mark_at}
use Rattle.pp_model.specs.Holders.{holdings}
use Rattle.pp_model.specs.Moves.{seat_of, next_of}
use Rattle.pp_model.specs.Reached.{IsReached}
use Rattle.pp_model.specs.Ready.{Standing, ready_at, is_away, Enters, ImageComes}
use Rattle.pp_model.specs.WorkerParts.{worker_of}
use Rattle.pp_model.proofs.FrameLaws.{found_is_known}
use Rattle.pp_model.proofs.ReadyLaws.{exclusive_are_away}
use Rattle.pp_core.specs.StandsFor as core
use Rattle.pp_core.specs.Queries.{own_of, held_by, held_of}
use Rattle.pp_device.specs.Image.{with_head, head_of}
use Rattle.pp_vault.specs.Parts.{Parts}
use Rattle.pp_vault.specs.StandsFor.{StandsFor, IsKept}
use Rattle.pp_vault.specs.Calls.{Call, asks}
use Rattle.pp_vault.specs.Steps.{Stepped, told_mark}
use Rattle.pp_vault.specs.Events.{Does}
use Rattle.pp_vault.specs.ImageMoves.{PutIn}
use Rattle.pp_vault.specs.Uses.{IsPutBack}
use Rattle.pp_vault.proofs.BackSteps as back
use Rattle.pp_vault.proofs.ErrandSteps.{entered}
use Rattle.pp_vault.proofs.FitTests.{none_some, own_told}

-- ---- the page of a slot that is latched X

pub record HoldsSo (s : State) (w slot page : ℕ) (how : Held) : Type 0 where
  pub by : Running
  pub seat : seat_of s w ≡ Some (Some by)
  pub holding : Holding
  pub found : holding_at (holdings by) slot ≡ Some holding
  pub page_is : holding.page ≡ page
  pub held_is : holding.held ≡ how

in_slot : (s : State) (w slot page : ℕ) (how : Held) (r : Running) → seat_of s w ≡ Some (Some r) → (o : Option Holding)
    → holding_at (holdings r) slot ≡ o
    → own_of o ≡ Some (page, how) → HoldsSo s w slot page how
in_slot s w slot page how r seat None f e = absurd (none_some e)
in_slot s w slot page how r seat (Some h) f e =
    let same = own_told h page how e in
    record {
      by = r;
      seat = seat;
      holding = h;
      found = f;
      page_is = ap (λ (p : ℕ × Held). p.0) same;
      held_is = ap (λ (p : ℕ × Held). p.1) same;
    }

pub in_seat : (s : State) (w slot page : ℕ) (how : Held) (o : Option (Option Running)) → seat_of s w ≡ o
    → held_by o slot ≡ Some (page, how) → HoldsSo s w slot page how
in_seat s w slot page how None f e = absurd (none_some e)
in_seat s w slot page how (Some None) f e = absurd (none_some e)
in_seat s w slot page how (Some (Some r)) f e = in_slot s w slot page how r f (holding_at (holdings r) slot) refl e

pub known_at : (o : Option ℕ) → IsSome o → o ≡ Some (unwrap_or o 0)
known_at None e = cc
known_at (Some m) e = cc

pub record WriterSeat (s : State) (w : ℕ) : Type 0 where
  pub by : Running
  pub seat : seat_of s w ≡ Some (Some by)

pub writer_seat : (s : State) (w slot page : ℕ) → held_of s w slot ≡ Some (page, X) → WriterSeat s w
writer_seat s w slot page e =
    let h : HoldsSo s w slot page X = in_seat s w slot page X (seat_of s w) refl e in
    record { by = h.by; seat = h.seat }

module _ (s : State) (reached : IsReached s) (w slot page : ℕ) (held : held_of s w slot ≡ Some (page, X)) where
  has : HoldsSo s w slot page X
  has = in_seat s w slot page X (seat_of s w) refl held

  -- It has a frame.
  pub writer_framed : frame_of s page ≡ Some (frame_at s page)
  writer_framed =
      subst (λ p. frame_of s p ≡ Some (frame_at s p)) has.page_is
      (back.framed_by (is_away s has.holding.page) (frame_of s has.holding.page) (frame_at s has.holding.page)
      (exclusive_are_away s reached w slot has.by has.holding has.seat has.found has.held_is))

  -- Its mark is known.
  pub writer_known : known_mark s page ≡ Some (mark_at s page)
  writer_known =
      subst (λ p. known_mark s p ≡ Some (mark_at s p)) has.page_is
      (known_at (known_mark s has.holding.page)
      (found_is_known s reached w has.by slot has.holding has.seat has.found))

-- ---- the step

-- A page that stands ready again, with its mark raised to the one that is told.
pub record Raised (s t : State) (page mark : ℕ) : Type 0 where
  pub raised : mark ≡ mark_at s page + 1
  pub enters : Enters s t page (record { frame = frame_at s page; mark = mark })

module _ (old mid : Parts) (w slot page : ℕ) (m : Move) (of : worker_of m ≡ Some w) (call : State → Call) (r : Reply)
    (k : IsKept old) (did : Stepped old mid m r) (calls : (s : State) → StandsFor old s → call s ≡ asks m)
    (held : (s : State) → StandsFor old s → held_of s w slot ≡ Some (page, X))
    (raises : (s : State) → StandsFor old s → Raised s (next_of s m) page (told_mark r))
    (frame : ℕ) (at : (s : State) → StandsFor old s → frame ≡ frame_at s page) where
  framed : (s : State) → StandsFor old s → frame_of s page ≡ Some frame
  framed s st = writer_framed s st.core.reached w slot page (held s st) ∙ ap {B = Option ℕ} Some (sym (at s st))

  of_page : (s : State) → StandsFor old s → (p : ℕ) × (frame_of s p ≡ Some frame)
  of_page s st = (page, framed s st)

  pub low : frame < length mid.images
  low = back.low old mid w m of call r did calls frame of_page k.state k.stands

  module _ (image b : List ℕ) (is : b ≡ with_head image page (told_mark r)) (head : head_of b ≡ (page, told_mark r))
      (long : length b ≡ old.page_bytes) (new : Parts)
      (rest : new ≡ record mid { images = slice_set mid.images frame (Some b) }) where
    comes : (s : State) → StandsFor old s → ImageComes s (next_of s m) frame
    comes s st = subst (λ f. ImageComes s (next_of s m) f) (sym (at s st)) (raises s st).enters.image

    ready : (s : State) → StandsFor old s → (p : ℕ) (x : Standing) → ready_at (next_of s m) p ≡ Some x
        → ((ready_at s p ≡ Some x) × (x.frame ≢ frame)) ⊎ ((x.frame ≡ frame) × (head_of b ≡ (p, x.mark)))
    ready s st p x found =
        subst (λ f. ((ready_at s p ≡ Some x) × (x.frame ≢ f)) ⊎ ((x.frame ≡ f) × (head_of b ≡ (p, x.mark))))
        (sym (at s st))
        (entered s (next_of s m) st.core.reached b page (record { frame = frame_at s page; mark = told_mark r })
        (raises s st).enters head p x found)

    pub back_does : Does old call new
    back_does = back.in_does old mid w m of call r did calls frame of_page b long comes ready new rest

    pub back_core : core.StandsFor new.core (next_of k.state m)
    back_core =
        back.in_core old mid w m of call r did calls frame of_page b long comes ready new rest k.state k.stands

    put : PutIn old new frame b
    put = back.put_in old mid w m of call r did calls frame of_page b long comes ready new rest k.state k.stands

    pub put_back : IsPutBack old new page image
    put_back s st = (
      frame,
      mark_at s page,
      framed s st,
      writer_known s st.core.reached w slot page (held s st),
      subst (λ n. PutIn old new frame (with_head image page n)) (raises s st).raised
          (subst (λ c. PutIn old new frame c) is put),
    )
