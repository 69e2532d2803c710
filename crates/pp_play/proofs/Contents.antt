-- What a cue leaves of the contents of pages.
use Rattle.std.proofs.Common.{◌≡◌, ◌∙◌, ℕ, ◌≤◌, Option, Some, None, List, [], refl, sym, ap, subst, arith}
use Rattle.std.specs.Prelude.{slice_get, slice_set, is_some, length}
use Rattle.std.proofs.lemmas.Bool.{false≢true}
use Rattle.std.proofs.lemmas.List.{get_or_past, drop-set-add}
use Rattle.pp_cert.specs.declared.note.Held.{Held}
use Rattle.pp_cert.specs.declared.note.Held.TheVariants.{S, X}
use Rattle.pp_model.specs.declared.moves.Move.{Move}
use Rattle.pp_model.specs.declared.reply.Reply.{Reply}
use Rattle.pp_model.specs.Pool.{State}
use Rattle.pp_core.specs.Queries.{held_of}
use Rattle.pp_device.specs.Image.{body_of}
use Rattle.pp_vault.specs.declared.refusal.Refusal.{Refusal}
use Rattle.pp_vault.specs.declared.guards.Guard.{Guard}
use Rattle.pp_vault.specs.declared.guards.Guard.TheVariants as guard
use Rattle.pp_vault.specs.declared.guards.WriteGuard.{WriteGuard}
use Rattle.pp_vault.specs.declared.stage.Hand.{Hand}
use Rattle.pp_vault.specs.declared.hands.Hands.{Hands}
use Rattle.pp_vault.specs.Parts.{Parts}
use Rattle.pp_vault.specs.StandsFor.{StandsFor}
use Rattle.pp_vault.specs.Hands.{HandsFit, GuardFits, PlaceFits}
use Rattle.pp_vault.specs.HandLaws.{FitsIn}
use Rattle.pp_vault.specs.Holding.{placed}
use Rattle.pp_contents.specs.Content.{content, ContentsStay, ContentIsSet}
use Rattle.pp_contents.specs.Agreeing.{Agrees}
use Rattle.pp_contents.specs.ContentLaws as law
use Rattle.pp_contents.specs.ContentLaws.{KeepsContents, ContentsAreSeen, WritersSetContents}
use Rattle.pp_script.specs.declared.cue.Cue.{Cue}
use Rattle.pp_script.specs.declared.cue.Cue.TheVariants.{Write, Look}
use Rattle.pp_play.specs.declared.line.Line.TheVariants.{Did, Refused}
use Rattle.pp_play.specs.Exact.{Lets, Writes, first_of, guards_by, guards_of, hand_with, hands_with}
use Rattle.pp_play.specs.Following.{CueFollows, ShowsFirst}
use Rattle.pp_play.proofs.AllHands.{part_fits}

-- ---- a vault in which nothing has changed

module _ (s : State) (hands : Hands) (told : ℕ → List ℕ) (v new : Parts) (same : new ≡ v) where
  pub unchanged : (page : ℕ) → content new s hands told page ≡ content v s hands told page
  unchanged page = ap (λ u. content u s hands told page) same

  pub still_agrees : Agrees v s hands told → Agrees new s hands told
  still_agrees a = subst (λ u. Agrees u s hands told) (sym same) a

  pub same_keeps : Agrees v s hands told → KeepsContents v s hands told new s hands told
  same_keeps a = record { stay = unchanged; agrees = still_agrees a }

-- ---- cues that keep all contents

pub did_follows : (s : State) (cue : Cue) (m : Move) (r : Reply) (c n : ℕ → List ℕ) → ContentsStay c n
    → CueFollows s cue (Did m r) c n
did_follows s (Write w slot byte) m r c n h = h
did_follows s cue m r c n h = h

pub refused_follows : (s : State) (cue asked : Cue) (why : Refusal) (c n : ℕ → List ℕ) → ContentsStay c n
    → CueFollows s cue (Refused asked why) c n
refused_follows s (Write w slot byte) asked why c n h = h
refused_follows s cue asked why c n h = h

pub did_shows : (s : State) (cue : Cue) (m : Move) (r : Reply) (c : ℕ → List ℕ) → ShowsFirst s cue (Did m r) c
did_shows s (Look w slot) m r c = tt
did_shows s cue m r c = tt

pub refused_shows : (s : State) (cue asked : Cue) (why : Refusal) (c : ℕ → List ℕ)
    → ShowsFirst s cue (Refused asked why) c
refused_shows s (Look w slot) asked why c = tt
refused_shows s cue asked why c = tt

-- ---- guards of a worker

past_places : (places : List (Option Guard)) (slot : ℕ) (g : Guard) → length places ≤ slot
    → placed places slot ≡ Some g → ⊥
past_places places slot g past e = false≢true (ap is_some (sym (get_or_past places slot None past) ∙ e))

no_place : (slot : ℕ) (g : Guard) → placed {T = Guard} [] slot ≡ Some g → ⊥
no_place slot g e = past_places [] slot g (omega arith) e

module _ (v : Parts) (s : State) (st : StandsFor v s) (hands : Hands) (w slot : ℕ) (fits : HandsFit v hands) where
  here : (hand : Hand) → placed hands.workers w ≡ Some hand → (g : Guard) → placed hand.guards slot ≡ Some g
      → GuardFits v.page_bytes s w slot g
  here hand there g at =
      let fit : FitsIn v w hand = part_fits v hands w hand there fits in
      subst (λ o. PlaceFits v.page_bytes s w slot o) at ((fit s st).guards slot)

  module _ (told : ℕ → List ℕ) (seen : ContentsAreSeen) where
    at_hand : law.Held v s hands
    at_hand = record { stands = st; fit = fits s st }

    -- ---- a byte that is looked at

    abbrev Shown : (byte : ℕ) → Type 0
    Shown byte =
        (page : ℕ) × (held : Held) × (held_of s w slot ≡ Some (page, held))
        × (slice_get (content v s hands told page) 0 ≡ Some byte)

    -- The content that a guard shows is that of its page.
    shown_by : (hand : Hand) → placed hands.workers w ≡ Some hand → (o : Option Guard) → placed hand.guards slot ≡ o
        → (image : List ℕ) (byte : ℕ) → Lets v s o image → first_of image ≡ Some byte → Shown byte
    shown_by hand there None at image byte lets first = absurd lets
    shown_by hand there (Some (guard.Pin g)) at image byte lets first = absurd lets
    shown_by hand there (Some (guard.Bundle g)) at image byte lets first = absurd lets
    shown_by hand there (Some (guard.Read g)) at image byte lets first =
        let same = (seen v s hands told w slot hand at_hand there).1 g image at lets in
        (g.page, S, (here hand there (guard.Read g) at).held, ap (λ l. slice_get l 0) same ∙ first)
    shown_by hand there (Some (guard.Write g)) at image byte lets first =
        let same = (seen v s hands told w slot hand at_hand there).0 g at in (
          g.page,
          X,
          (here hand there (guard.Write g) at).held,
          ap (λ l. slice_get l 0) same ∙ ap (λ l. slice_get (body_of l) 0) (sym lets) ∙ first,
        )

    no_guard : (o : Option Guard) → placed {T = Guard} [] slot ≡ o → (image : List ℕ) → Lets v s o image → ⊥
    no_guard None at image lets = lets
    no_guard (Some g) at image lets = no_place slot g at

    shown_in : (o : Option Hand) → placed hands.workers w ≡ o → (image : List ℕ) (byte : ℕ)
        → Lets v s (placed (guards_by o) slot) image → first_of image ≡ Some byte → Shown byte
    shown_in None there image byte lets first = absurd (no_guard (placed {T = Guard} [] slot) refl image lets)
    shown_in (Some hand) there image byte lets first =
        shown_by hand there (placed hand.guards slot) refl image byte lets first

    pub shown : (image : List ℕ) (byte : ℕ) → Lets v s (placed (guards_of hands w) slot) image
        → first_of image ≡ Some byte → Shown byte
    shown image byte lets first = shown_in (placed hands.workers w) refl image byte lets first

    -- ---- a byte that is written

    pub record Written (byte : ℕ) (after : Hands) : Type 0 where
      pub page : ℕ
      pub held : held_of s w slot ≡ Some (page, X)
      pub sets :
          ContentIsSet page (slice_set (content v s hands told page) 0 byte) (content v s hands told)
          (content v s after told)
      pub agrees : Agrees v s after told

    module _ (writers : WritersSetContents) (agrees : Agrees v s hands told) (byte : ℕ) (after : Hands)
        (after_held : law.Held v s after) where
      abbrev Byte : WriteGuard → List ℕ
      Byte g = slice_set g.image 12 byte

      written_by : (hand : Hand) → placed hands.workers w ≡ Some hand → (guards : List (Option Guard))
          → Writes slot byte hand.guards guards
          → after ≡ record hands { workers = slice_set hands.workers w (Some (record hand { guards = guards })) }
          → Written byte after
      written_by hand there guards writes is =
          let g = writes.writer in
          let now : after
          ≡ record hands {
            workers = slice_set hands.workers w (Some (record hand {
              guards = slice_set hand.guards slot (Some (guard.Write (record g { image = Byte g })));
            }));
          } =
          is
          ∙ ap
          (λ l. record hands { workers = slice_set hands.workers w (Some (record hand { guards = l })) })
          writes.now in
          let did =
          writers v s hands after told w slot hand g (Byte g) at_hand there writes.there now after_held agrees in
          let same : content v s hands told g.page ≡ body_of g.image =
          (seen v s hands told w slot hand at_hand there).0 g writes.there in
          let body : body_of (Byte g) ≡ slice_set (content v s hands told g.page) 0 byte =
          drop-set-add 12 g.image 0 byte ∙ ap (λ (l : List ℕ). slice_set l 0 byte) (sym same) in
          record {
            page = g.page;
            held = (here hand there (guard.Write g) writes.there).held;
            sets =
                subst (λ l. ContentIsSet g.page l (content v s hands told) (content v s after told)) body did.sets;
            agrees = did.agrees;
          }

      written_in_hand : (o : Option Hand) → placed hands.workers w ≡ o → (guards : List (Option Guard))
          → Writes slot byte (guards_by o) guards
          → after ≡ record hands { workers = slice_set hands.workers w (hand_with guards o) } → Written byte after
      written_in_hand None there guards writes is = absurd (no_place slot (guard.Write writes.writer) writes.there)
      written_in_hand (Some hand) there guards writes is = written_by hand there guards writes is

      pub written : (guards : List (Option Guard)) → Writes slot byte (guards_of hands w) guards
          → after ≡ hands_with hands w guards → Written byte after
      written guards writes is = written_in_hand (placed hands.workers w) refl guards writes is
