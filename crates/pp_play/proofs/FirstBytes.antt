-- Bytes that are written into an image, and looked at.
use Rattle.std.proofs.Common.{◌≡◌, ◌∙◌, ◌<◌, ℕ, true, false, Option, Some, None, List, take, drop, length, get_or}
use Rattle.std.proofs.Common.{refl, sym, ap, subst, arith}
use Rattle.std.specs.Prelude.{slice_set, slice_get}
use Rattle.std.specs.Int.{w32, w64, from_be_bytes}
use Rattle.std.proofs.lemmas.List.{length-set, length-drop, take-set-le, drop-set-add, set-set, set-get_or}
use Rattle.std.proofs.lemmas.Option.{slice_get-get_or}
use Rattle.pp_model.specs.Pool.{State}
use Rattle.pp_core.specs.Queries.{held_of}
use Rattle.pp_device.specs.Image.{head_of, body_of}
use Rattle.pp_vault.specs.declared.guards.Guard.{Guard}
use Rattle.pp_vault.specs.declared.guards.Guard.TheVariants as guard
use Rattle.pp_vault.specs.declared.guards.ReadGuard.{ReadGuard}
use Rattle.pp_vault.specs.declared.guards.WriteGuard.{WriteGuard}
use Rattle.pp_vault.specs.declared.stage.Hand.{Hand}
use Rattle.pp_vault.specs.Parts.{Parts}
use Rattle.pp_vault.specs.StandsFor.{StandsFor}
use Rattle.pp_vault.specs.Looks as looks
use Rattle.pp_vault.specs.Holding.{placed, slot_by}
use Rattle.pp_vault.specs.Fits.{IsEmpty}
use Rattle.pp_vault.specs.Hands.{PlaceFits, GuardFits, IsWrite, IsBundle}
use Rattle.pp_vault.specs.HandLaws.{FitsIn}
use Rattle.pp_vault.proofs.FitTests.{bundle_alone}
use Rattle.pp_script.specs.declared.cue.Cue.TheVariants as cue
use Rattle.pp_play.specs.declared.line.Line.{Line}
use Rattle.pp_play.specs.declared.line.Line.TheVariants.{Did, Refused, Wrote, Looked, NoLatch}
use Rattle.pp_play.specs.Doing.{HandPlays}
use Rattle.pp_play.specs.Exact.{may_write, may_look, Lets, first_of, IsLineOf}
use Rattle.pp_play.specs.FirstBytes.{line_of_first, WritesInto, LooksWith}
use Rattle.pp_play.specs.Guarding.{hand_of}
use Rattle.pp_play.proofs.Leaves.{same_leaves}
use Rattle.pp_play.proofs.Places.{is_within}
use Rattle.pp_play.proofs.Others.{nothing_changed, place_set}

-- ---- an image with another first byte

-- Its head stays.
head_stays : (image : List ℕ) (byte : ℕ) → head_of (slice_set image 12 byte) ≡ head_of image
head_stays image byte =
    let low : take 4 (slice_set image 12 byte) ≡ take 4 image = take-set-le 4 image 12 byte (omega arith) in
    let high : take 8 (drop 4 (slice_set image 12 byte)) ≡ take 8 (drop 4 image) =
    ap (λ (l : List ℕ). take 8 l) (drop-set-add 4 image 8 byte)
    ∙ take-set-le 8 (drop 4 image) 8 byte (omega arith) in
    λ i. (from_be_bytes w32 (low i), from_be_bytes w64 (high i))

-- ---- places

same_places : (places : List (Option Guard)) (slot : ℕ) (g : Guard) → placed places slot ≡ Some g
    → slice_set places slot (Some g) ≡ places
same_places places slot g e =
    ap (λ o. slice_set places slot o) (sym e) ∙ set-get_or places slot None

-- What was taken out and put back.
pub put_again : (places now : List (Option Guard)) (slot k : ℕ) (g : Guard) → k ≡ slot
    → now ≡ slice_set (slice_set places slot None) k (Some g) → now ≡ slice_set places slot (Some g)
put_again places now slot k g same is =
    is ∙ ap (λ n. slice_set (slice_set places slot None) n (Some g)) same ∙ set-set places slot None (Some g)

module _ (v : Parts) (w : ℕ) (hand : Hand) (slot : ℕ) (fits : FitsIn v w hand) where
  here : (g : Guard) → placed hand.guards slot ≡ Some g → (s : State) → StandsFor v s
      → GuardFits v.page_bytes s w slot g
  here g there s st = subst (λ o. PlaceFits v.page_bytes s w slot o) there ((fits s st).guards slot)

  none_here : placed hand.guards slot ≡ None → (s : State) → StandsFor v s → held_of s w slot ≡ None
  none_here there s st =
      let empty : IsEmpty s w slot = subst (λ o. PlaceFits v.page_bytes s w slot o) there ((fits s st).guards slot) in
      empty.no_page

  with_guards : (guards : List (Option Guard)) → guards ≡ hand.guards
      → FitsIn v w (record { stage = hand.stage; guards = guards })
  with_guards guards is = subst (λ l. FitsIn v w (record { stage = hand.stage; guards = l })) (sym is) fits

  -- ---- a slot that holds nothing

  pub write_none : (byte : ℕ) (guards : List (Option Guard)) → placed hand.guards slot ≡ None → guards ≡ hand.guards
      → HandPlays v w hand (cue.Write w slot byte) NoLatch v (record { stage = hand.stage; guards = guards })
  write_none byte guards there is =
      record {
        exact = λ s st. (ap may_write (none_here there s st), is);
        leaves = same_leaves v v hand (hand_of hand.stage guards) NoLatch refl (ap (hand_of hand.stage) is);
        fit = with_guards guards is;
        others = nothing_changed v w;
      }

  pub look_none : (guards : List (Option Guard)) → placed hand.guards slot ≡ None → guards ≡ hand.guards
      → HandPlays v w hand (cue.Look w slot) NoLatch v (record { stage = hand.stage; guards = guards })
  look_none guards there is =
      record {
        exact = λ s st. (ap may_look (none_here there s st), is);
        leaves = same_leaves v v hand (hand_of hand.stage guards) NoLatch refl (ap (hand_of hand.stage) is);
        fit = with_guards guards is;
        others = nothing_changed v w;
      }

-- ---- a byte that is written

-- An image that is as long as a page has a byte in its body.
wide_image : (v : Parts) (s : State) → StandsFor v s → (image : List ℕ) → length image ≡ v.page_bytes
    → 12 < length image
wide_image v s st image long = omega (arith, long, st.images.wide)

written_fits : (v : Parts) (s : State) (w slot byte : ℕ) (g : WriteGuard) → IsWrite v.page_bytes s w slot g
    → IsWrite v.page_bytes s w slot (record g { image = slice_set g.image 12 byte })
written_fits v s w slot byte g fits =
    record {
      worker = fits.worker;
      of_slot = fits.of_slot;
      held = fits.held;
      mark = fits.mark;
      head = head_stays g.image byte ∙ fits.head;
      long = length-set g.image 12 byte ∙ fits.long;
    }

module _ (v : Parts) (w : ℕ) (hand : Hand) (slot byte : ℕ) (fits : FitsIn v w hand) (guards : List (Option Guard)) where
  abbrev Left : Line → Type 0
  Left line =
      HandPlays v w hand (cue.Write w slot byte) line v (record { stage = hand.stage; guards = guards })

  wrote : (g : WriteGuard) → placed hand.guards slot ≡ Some (guard.Write g)
      → guards ≡ slice_set hand.guards slot (Some (guard.Write (record g { image = slice_set g.image 12 byte })))
      → Left Wrote
  wrote g there is =
      let now : Guard = guard.Write (record g { image = slice_set g.image 12 byte }) in
      record {
        exact = λ s st. (
          ap may_write (here v w hand slot fits (guard.Write g) there s st).held,
          record { writer = g; there = there; now = is },
        );
        leaves = (refl, refl);
        fit = λ s st.
            let f = fits s st in
            record {
              stage = f.stage;
              places = ap length is ∙ length-set hand.guards slot (Some now) ∙ f.places;
              guards = λ k.
                  subst (λ l. PlaceFits v.page_bytes s w k (placed l k)) (sym is)
                  (place_set v.page_bytes s w hand.guards slot (Some now)
                  (is_within hand.guards slot (guard.Write g) there)
                  (written_fits v s w slot byte g (here v w hand slot fits (guard.Write g) there s st))
                  (λ i apart. f.guards i) k);
            };
        others = nothing_changed v w;
      }

  -- The guard that is there stays.
  stayed : (g : Guard) → placed hand.guards slot ≡ Some g → guards ≡ slice_set hand.guards slot (Some g)
      → ((s : State) → StandsFor v s → may_write (held_of s w slot) ≡ false) → Left NoLatch
  stayed g there is none =
      let same : guards ≡ hand.guards = is ∙ same_places hand.guards slot g there in
      record {
        exact = λ s st. (none s st, same);
        leaves = same_leaves v v hand (hand_of hand.stage guards) NoLatch refl (ap (hand_of hand.stage) same);
        fit = with_guards v w hand slot fits guards same;
        others = nothing_changed v w;
      }

  by_guard : (g now : Guard) (line : Line) → WritesInto byte g line now → placed hand.guards slot ≡ Some g
      → guards ≡ slice_set hand.guards slot (Some now) → Left line
  by_guard (guard.Write g) now Wrote into there is =
      wrote g there (is ∙ ap (λ x. slice_set hand.guards slot (Some x)) into)
  by_guard (guard.Write g) now NoLatch into there is =
      stayed (guard.Write g) there (is ∙ ap (λ x. slice_set hand.guards slot (Some x)) into.0) (λ s st.
      let f = here v w hand slot fits (guard.Write g) there s st in
      let wide = wide_image v s st g.image f.long in
      absurd (omega (arith, into.1, wide)))
  by_guard (guard.Pin g) now NoLatch into there is =
      stayed (guard.Pin g) there (is ∙ ap (λ x. slice_set hand.guards slot (Some x)) into) (λ s st.
      ap may_write (here v w hand slot fits (guard.Pin g) there s st).held)
  by_guard (guard.Read g) now NoLatch into there is =
      stayed (guard.Read g) there (is ∙ ap (λ x. slice_set hand.guards slot (Some x)) into) (λ s st.
      ap may_write (here v w hand slot fits (guard.Read g) there s st).held)
  by_guard (guard.Bundle g) now NoLatch into there is =
      stayed (guard.Bundle g) there (is ∙ ap (λ x. slice_set hand.guards slot (Some x)) into) (λ s st.
      let f : IsBundle s w slot g = here v w hand slot fits (guard.Bundle g) there s st in
      ap may_write (bundle_alone s st.core.reached w slot f.gathered))
  by_guard g now line into there is = absurd into

  pub write_plays : (g now : Guard) (line : Line) → WritesInto byte g line now → placed hand.guards slot ≡ Some g
      → slot_by now ≡ slot → guards ≡ slice_set (slice_set hand.guards slot None) (slot_by now) (Some now) → Left line
  write_plays g now line into there same is =
      by_guard g now line into there (put_again hand.guards guards slot (slot_by now) now same is)

-- ---- a byte that is looked at

-- The first byte of an image that is as long as a page.
first_there : (v : Parts) (s : State) → StandsFor v s → (image : List ℕ) → length image ≡ v.page_bytes
    → first_of image ≡ Some (get_or (body_of image) 0 0)
first_there v s st image long =
    let wide = wide_image v s st image long in
    slice_get-get_or (drop 12 image) 0 0 (omega (arith, wide, length-drop 12 image))

module _ (v : Parts) (s : State) (st : StandsFor v s) (w slot : ℕ) where
  looks_at : (g : Guard) (line : Line) (image : List ℕ) → may_look (held_of s w slot) ≡ true → Lets v s (Some g) image
      → length image ≡ v.page_bytes → line ≡ line_of_first (slice_get (body_of image) 0)
      → LooksWith v s (held_of s w slot) g line
  looks_at g line image may lets long is =
      let first = first_there v s st image long in
      subst (λ l. LooksWith v s (held_of s w slot) g l) (sym (is ∙ ap line_of_first first)) (may, (image, lets, first))

  pub looks_read : (g : ReadGuard) (line : Line) (body : List ℕ) → GuardFits v.page_bytes s w slot (guard.Read g)
      → looks.ShowsBody v g.page body → line ≡ line_of_first (slice_get body 0)
      → LooksWith v s (held_of s w slot) (guard.Read g) line
  looks_read g line body fits shown is =
      let image = shown.image in
      let copy = shown.shown.copy s st in
      looks_at (guard.Read g) line image (ap may_look fits.held) copy
      (st.images.long copy.frame image copy.there)
      (is ∙ ap (λ l. line_of_first (slice_get l 0)) shown.body_is)

  pub looks_write : (g : WriteGuard) (line : Line) (body : List ℕ) → GuardFits v.page_bytes s w slot (guard.Write g)
      → body ≡ body_of g.image → line ≡ line_of_first (slice_get body 0)
      → LooksWith v s (held_of s w slot) (guard.Write g) line
  looks_write g line body fits same is =
      looks_at (guard.Write g) line g.image (ap may_look fits.held) refl fits.long
      (is ∙ ap (λ l. line_of_first (slice_get l 0)) same)

module _ (v : Parts) (w : ℕ) (hand : Hand) (slot : ℕ) (fits : FitsIn v w hand) (guards : List (Option Guard)) where
  look_line : (s : State) → StandsFor v s → (g : Guard) (line : Line) → placed hand.guards slot ≡ Some g
      → guards ≡ hand.guards → LooksWith v s (held_of s w slot) g line
      → IsLineOf v s hand.guards guards (cue.Look w slot) line
  look_line s st g (Looked byte) there same looks = (
    looks.0,
    same,
    (
      looks.1.0,
      subst (λ o. Lets v s o looks.1.0) (sym there) looks.1.1,
      looks.1.2,
    ),
  )
  look_line s st g NoLatch there same looks = (looks, same)
  look_line s st g (Did m r) there same looks = absurd looks
  look_line s st g (Refused c why) there same looks = absurd looks
  look_line s st g Wrote there same looks = absurd looks

  pub look_plays : (g : Guard) (line : Line)
      → ((s : State) → StandsFor v s → (u k : ℕ) → GuardFits v.page_bytes s u k g → LooksWith v s (held_of s u k) g line)
      → placed hand.guards slot ≡ Some g → slot_by g ≡ slot
      → guards ≡ slice_set (slice_set hand.guards slot None) (slot_by g) (Some g)
      → HandPlays v w hand (cue.Look w slot) line v (record { stage = hand.stage; guards = guards })
  look_plays g line looks there same is =
      let unchanged : guards ≡ hand.guards =
      put_again hand.guards guards slot (slot_by g) g same is ∙ same_places hand.guards slot g there in
      record {
        exact = λ s st. look_line s st g line there unchanged (looks s st w slot (here v w hand slot fits g there s st));
        leaves = same_leaves v v hand (hand_of hand.stage guards) line refl (ap (hand_of hand.stage) unchanged);
        fit = with_guards v w hand slot fits guards unchanged;
        others = nothing_changed v w;
      }
