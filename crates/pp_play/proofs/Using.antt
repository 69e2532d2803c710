-- The cues that use a slot which the plan names: an unfix, a latch and an unlatch.
use Rattle.std.proofs.Common.{◌≡◌, ◌∙◌, ℕ, true, Option, Some, None, List, refl, sym, ap, subst}
use Rattle.std.specs.Prelude.{slice_set, IfSome}
use Rattle.std.proofs.lemmas.Bool.{false≢true}
use Rattle.pp_plan.specs.declared.mode.Mode.{Mode}
use Rattle.pp_plan.specs.declared.action.Ask.{Ask}
use Rattle.pp_plan.specs.declared.action.Ask.TheVariants as ask
use Rattle.pp_model.specs.declared.moves.Move.{Move}
use Rattle.pp_model.specs.declared.refusals.Cause.TheVariants.{NotActing, NotAsked}
use Rattle.pp_model.specs.declared.reply.Reply.{Reply}
use Rattle.pp_model.specs.Pool.{State}
use Rattle.pp_core.specs.Queries.{ask_of}
use Rattle.pp_vault.specs.declared.refusal.Refusal.{Refusal}
use Rattle.pp_vault.specs.declared.refusal.Refusal.TheVariants.{OffPlan}
use Rattle.pp_vault.specs.declared.tokens.Session.{Session}
use Rattle.pp_vault.specs.declared.guards.PinGuard.{PinGuard}
use Rattle.pp_vault.specs.declared.guards.BundleGuard.{BundleGuard}
use Rattle.pp_vault.specs.declared.guards.Guard.{Guard}
use Rattle.pp_vault.specs.declared.guards.Guard.TheVariants.{Pin, Bundle}
use Rattle.pp_vault.specs.declared.stage.Hand.{Hand}
use Rattle.pp_vault.specs.declared.stage.Stage.TheVariants.{In}
use Rattle.pp_vault.specs.Parts.{Parts}
use Rattle.pp_vault.specs.StandsFor.{StandsFor, IsKept}
use Rattle.pp_vault.specs.Events.{Refuses}
use Rattle.pp_vault.specs.Events as event
use Rattle.pp_vault.specs.Fits.{IsEmpty, unfix_call, scatter_call, latch_call}
use Rattle.pp_vault.specs.Uses.{Unfixes, Scatters}
use Rattle.pp_vault.specs.HandLaws.{FitsIn}
use Rattle.pp_vault.specs.Holding.{slot_by, placed, is_free}
use Rattle.pp_contents.specs.HandMoves.{unfixes, scatters}
use Rattle.pp_script.specs.declared.cue.Cue.{Cue}
use Rattle.pp_script.specs.declared.cue.Cue.TheVariants as cue
use Rattle.pp_play.specs.declared.line.Line.{Line}
use Rattle.pp_play.specs.declared.line.Line.TheVariants.{Did, Refused}
use Rattle.pp_play.specs.Doing.{IsDone, HandPlays}
use Rattle.pp_play.specs.Guarding.{hand_of, PlaysHand, ChangesGuard, unlatch_with, uses_slot, slot_asked, put_left}
use Rattle.pp_play.specs.Moving.{CallsWith, MovesHand, LatchesWith, UnlatchesWith, UsesGuard, RefusesGuard}
use Rattle.pp_play.proofs.Places.{taken_free}
use Rattle.pp_play.proofs.Asked.{same, unfix_done, scatter_done}
use Rattle.pp_play.proofs.Held.{unfix_there, unfix_pin, scatter_there, scatter_bundle, latch_there, latch_pin}
use Rattle.pp_play.proofs.Held.{unlatch_there, unlatch_latched, put_other}
use Rattle.pp_play.proofs.Putting.{no_pin, no_bundle, put_changed}
use Rattle.pp_play.proofs.StillFitting.{StillFit}
use Rattle.pp_play.proofs.UsePlays.{unfix_plays, unfix_refused, scatter_plays, scatter_refused, latch_plays, latch_refused}
use Rattle.pp_play.proofs.UsePlays.{unlatch_plays, unlatch_refused}
use Rattle.pp_play.proofs.OffPlan.{unfix_inactive, latch_inactive, unlatch_inactive, unfix_other, latch_other, unlatch_other}
use Rattle.pp_play.proofs.Moved.{did_moves, latch_moves, unlatch_moves}

-- What holds of an unfix, a latch and an unlatch of a worker holds of each of its cues that use a slot.
by_use : (w : ℕ) (P : Cue → Type 0) → P (cue.Unfix w) → P (cue.Latch w) → P (cue.Unlatch w) → (q : Cue)
    → uses_slot q ≡ Some w → P q
by_use w P unfix latch unlatch (cue.Unfix v) e = subst (λ u. P (cue.Unfix u)) (sym (same v w e)) unfix
by_use w P unfix latch unlatch (cue.Latch v) e = subst (λ u. P (cue.Latch u)) (sym (same v w e)) latch
by_use w P unfix latch unlatch (cue.Unlatch v) e = subst (λ u. P (cue.Unlatch u)) (sym (same v w e)) unlatch
by_use w P unfix latch unlatch _ e = absurd (cc)

none_some : (n : ℕ) → ◌≡◌ {A = Option ℕ} None (Some n) → ⊥
none_some n e = cc

some_none : (n : ℕ) → ◌≡◌ {A = Option ℕ} (Some n) None → ⊥
some_none n e = cc

-- ---- what the plan doesn't ask

module _ (v : Parts) (w : ℕ) (hand : Hand) (line : Line) (q : Cue) (uses : uses_slot q ≡ Some w)
    (fits : FitsIn v w hand) where
  pub use_inactive : ((x : Session) → hand.stage ≡ In x → ⊥) → line ≡ Refused q (OffPlan NotActing)
      → HandPlays v w hand q line v hand
  use_inactive isnt =
      by_use w (λ r. line ≡ Refused r (OffPlan NotActing) → HandPlays v w hand r line v hand)
      (unfix_inactive v w hand line isnt fits) (latch_inactive v w hand line isnt fits)
      (unlatch_inactive v w hand line isnt fits) q uses

  pub use_other : (x : Session) → hand.stage ≡ In x → slot_asked q x.ask ≡ None
      → line ≡ Refused q (OffPlan NotAsked) → HandPlays v w hand q line v hand
  use_other x at =
      by_use w
      (λ r. slot_asked r x.ask ≡ None → line ≡ Refused r (OffPlan NotAsked) → HandPlays v w hand r line v hand)
      (λ none.
      unfix_other v w hand line x x.ask at refl fits
      (λ slot e. some_none slot (sym (ap (slot_asked (cue.Unfix w)) e) ∙ none))
      (λ slot e. some_none slot (sym (ap (slot_asked (cue.Unfix w)) e) ∙ none)))
      (λ none.
      latch_other v w hand line x x.ask at refl fits
      (λ slot m e. some_none slot (sym (ap (slot_asked (cue.Latch w)) e) ∙ none)))
      (λ none.
      unlatch_other v w hand line x x.ask at refl fits
      (λ slot e. some_none slot (sym (ap (slot_asked (cue.Unlatch w)) e) ∙ none)))
      q uses

-- ---- what it asks

module _ (x : Session) (q : Cue) (uses : uses_slot q ≡ Some x.worker) (slot : ℕ) (asks : slot_asked q x.ask ≡ Some slot) where
  so : (a : Ask) → x.ask ≡ a → slot_asked q a ≡ Some slot
  so a is = sym (ap (slot_asked q) is) ∙ asks

  asked_unfix : (n : ℕ) → x.ask ≡ ask.Unfix n → (q ≡ cue.Unfix x.worker) × (x.ask ≡ ask.Unfix slot)
  asked_unfix n is =
      by_use x.worker
      (λ r. slot_asked r (ask.Unfix n) ≡ Some slot → (r ≡ cue.Unfix x.worker) × (x.ask ≡ ask.Unfix slot))
      (λ e. (refl, is ∙ ap ask.Unfix (same n slot e))) (λ e. absurd (none_some slot e)) (λ e. absurd (none_some slot e))
      q uses (so (ask.Unfix n) is)

  asked_scatter : (n : ℕ) → x.ask ≡ ask.Scatter n → (q ≡ cue.Unfix x.worker) × (x.ask ≡ ask.Scatter slot)
  asked_scatter n is =
      by_use x.worker
      (λ r. slot_asked r (ask.Scatter n) ≡ Some slot → (r ≡ cue.Unfix x.worker) × (x.ask ≡ ask.Scatter slot))
      (λ e. (refl, is ∙ ap ask.Scatter (same n slot e))) (λ e. absurd (none_some slot e))
      (λ e. absurd (none_some slot e)) q uses (so (ask.Scatter n) is)

  asked_latch : (n : ℕ) (m : Mode) → x.ask ≡ ask.Latch n m → (q ≡ cue.Latch x.worker) × (x.ask ≡ ask.Latch slot m)
  asked_latch n m is =
      by_use x.worker
      (λ r. slot_asked r (ask.Latch n m) ≡ Some slot → (r ≡ cue.Latch x.worker) × (x.ask ≡ ask.Latch slot m))
      (λ e. absurd (none_some slot e)) (λ e. (refl, is ∙ ap (λ k. ask.Latch k m) (same n slot e)))
      (λ e. absurd (none_some slot e)) q uses (so (ask.Latch n m) is)

  asked_unlatch : (n : ℕ) → x.ask ≡ ask.Unlatch n → (q ≡ cue.Unlatch x.worker) × (x.ask ≡ ask.Unlatch slot)
  asked_unlatch n is =
      by_use x.worker
      (λ r. slot_asked r (ask.Unlatch n) ≡ Some slot → (r ≡ cue.Unlatch x.worker) × (x.ask ≡ ask.Unlatch slot))
      (λ e. absurd (none_some slot e)) (λ e. absurd (none_some slot e))
      (λ e. (refl, is ∙ ap ask.Unlatch (same n slot e))) q uses (so (ask.Unlatch n) is)

  -- It is one of these.
  no_use : (a : Ask) → x.ask ≡ a → slot_asked (cue.Unfix x.worker) a ≡ None → slot_asked (cue.Latch x.worker) a ≡ None
      → slot_asked (cue.Unlatch x.worker) a ≡ None → ⊥
  no_use a is unfix latch unlatch =
      by_use x.worker (λ r. slot_asked r a ≡ Some slot → ⊥) (λ e. none_some slot (sym unfix ∙ e))
      (λ e. none_some slot (sym latch ∙ e)) (λ e. none_some slot (sym unlatch ∙ e)) q uses (so a is)

  pub asks_use : (a : Ask) → a ≡ x.ask → ((n : ℕ) → a ≡ ask.Unfix n → ⊥) → ((n : ℕ) → a ≡ ask.Scatter n → ⊥)
      → ((n : ℕ) (m : Mode) → a ≡ ask.Latch n m → ⊥) → ((n : ℕ) → a ≡ ask.Unlatch n → ⊥) → ⊥
  asks_use (ask.Fix n region) is unfix scatter latch unlatch = no_use (ask.Fix n region) (sym is) refl refl refl
  asks_use (ask.Unfix n) is unfix scatter latch unlatch = unfix n refl
  asks_use (ask.Latch n m) is unfix scatter latch unlatch = latch n m refl
  asks_use (ask.Unlatch n) is unfix scatter latch unlatch = unlatch n refl
  asks_use (ask.Gather n region) is unfix scatter latch unlatch = no_use (ask.Gather n region) (sym is) refl refl refl
  asks_use (ask.Scatter n) is unfix scatter latch unlatch = scatter n refl
  asks_use (ask.Choose count) is unfix scatter latch unlatch = no_use (ask.Choose count) (sym is) refl refl refl
  asks_use ask.End is unfix scatter latch unlatch = no_use ask.End (sym is) refl refl refl

  -- The slot's guard is there.
  module _ (v : Parts) (k : IsKept v) (places : List (Option Guard)) (none : placed places slot ≡ None)
      (fits : FitsIn v x.worker (hand_of (In x) places)) where
    wants : (a : Ask) → x.ask ≡ a → ask_of k.state x.worker ≡ Some a
    wants a is = (fits k.state k.stands).stage.1 ∙ ap (λ b. Some b) is

    there_by : (a : Ask) → x.ask ≡ a → ⊥
    there_by (ask.Fix n region) is = no_use (ask.Fix n region) is refl refl refl
    there_by (ask.Unfix n) is =
        unfix_there v k x.worker (hand_of (In x) places) fits slot (wants (ask.Unfix slot) (asked_unfix n is).1) none
    there_by (ask.Latch n m) is =
        latch_there v k x.worker (hand_of (In x) places) fits slot m (wants (ask.Latch slot m) (asked_latch n m is).1) none
    there_by (ask.Unlatch n) is =
        unlatch_there v k x.worker (hand_of (In x) places) fits slot (wants (ask.Unlatch slot) (asked_unlatch n is).1) none
    there_by (ask.Gather n region) is = no_use (ask.Gather n region) is refl refl refl
    there_by (ask.Scatter n) is =
        scatter_there v k x.worker (hand_of (In x) places) fits slot (wants (ask.Scatter slot) (asked_scatter n is).1) none
    there_by (ask.Choose count) is = no_use (ask.Choose count) is refl refl refl
    there_by ask.End is = no_use ask.End is refl refl refl

    pub use_there : ⊥
    use_there = there_by x.ask refl

-- ---- the calls that are done

module _ (old new : Parts) (k : IsKept old) (x : Session) (q : Cue) (uses : uses_slot q ≡ Some x.worker) (n : ℕ)
    (laws : StillFit) (y : Session) (did : Move × Reply) where
  pub unfix_uses : (g : PinGuard) → slot_asked q x.ask ≡ Some g.slot → x.ask ≡ ask.Unfix n → Unfixes old x g new y
      → ((s : State) → StandsFor new s → IsEmpty s x.worker g.slot)
      → event.Tells old (unfix_call x.worker g.worker g.slot g.page) did → UsesGuard old x (Pin g) q did new y None
  unfix_uses g asks is u empty tells =
      let a = asked_unfix x q uses g.slot asks n is in
      let done = unfix_done old new k x.worker x.worker refl g.worker g.slot g.page u.does tells in
      subst (λ r. UsesGuard old x (Pin g) r did new y None) (sym a.0)
      (record {
        of = u.session.worker;
        slot = tt;
        is_done = done;
        plays = λ places at fits.
            unfix_plays old new k x places fits g.slot a.1 g at laws y u empty (Did did.0 did.1) done refl;
        moves = λ places at. (unfixes x y g.slot g refl at u refl, tells);
      })

  pub scatter_uses : (g : BundleGuard) → slot_asked q x.ask ≡ Some g.slot → x.ask ≡ ask.Scatter n
      → Scatters old x g new y → ((s : State) → StandsFor new s → IsEmpty s x.worker g.slot)
      → event.Tells old (scatter_call x.worker g.worker g.slot) did → UsesGuard old x (Bundle g) q did new y None
  scatter_uses g asks is u empty tells =
      let a = asked_scatter x q uses g.slot asks n is in
      let done = scatter_done old new k x.worker x.worker refl g.worker g.slot u.does tells in
      subst (λ r. UsesGuard old x (Bundle g) r did new y None) (sym a.0)
      (record {
        of = u.session.worker;
        slot = tt;
        is_done = done;
        plays = λ places at fits.
            scatter_plays old new k x places fits g.slot a.1 g at laws y u empty (Did did.0 did.1) done refl;
        moves = λ places at. (scatters x y g.slot g refl at u refl, tells);
      })

  pub latch_uses : (m : Mode) (g : PinGuard) (h : Guard) → slot_asked q x.ask ≡ Some g.slot → x.ask ≡ ask.Latch n m
      → y.worker ≡ x.worker → slot_by h ≡ g.slot → IsDone old (cue.Latch x.worker) did new
      → ChangesGuard old (latch_call m x.worker g.worker g.slot g.page) x.worker g.slot new y h
      → LatchesWith old x g did new y h → UsesGuard old x (Pin g) q did new y (Some h)
  latch_uses m g h asks is of slot done changes u =
      let a = asked_latch x q uses g.slot asks n m is in
      subst (λ r. UsesGuard old x (Pin g) r did new y (Some h)) (sym a.0)
      (record {
        of = of;
        slot = slot;
        is_done = done;
        plays = λ places at fits.
            latch_plays old new k x places fits g.slot m a.1 g at laws y h changes (Did did.0 did.1) done refl;
        moves = λ places at.
            subst (λ ps. CallsWith old (hand_of (In x) places) did new (hand_of (In y) ps))
            (put_other places g.slot (Some h)) (latch_moves old new x y places g.slot did g h at u);
      })

  pub unlatch_uses : (g : Guard) (h : PinGuard) → slot_asked q x.ask ≡ Some (slot_by g) → x.ask ≡ ask.Unlatch n
      → y.worker ≡ x.worker → h.slot ≡ slot_by g → IsDone old (cue.Unlatch x.worker) did new
      → ChangesGuard old (unlatch_with old x g) x.worker (slot_by g) new y (Pin h)
      → UnlatchesWith old x g did new y h → UsesGuard old x g q did new y (Some (Pin h))
  unlatch_uses g h asks is of slot done changes u =
      let a = asked_unlatch x q uses (slot_by g) asks n is in
      subst (λ r. UsesGuard old x g r did new y (Some (Pin h))) (sym a.0)
      (record {
        of = of;
        slot = slot;
        is_done = done;
        plays = λ places at fits.
            unlatch_plays old new k x places fits (slot_by g) a.1 g at
            (unlatch_latched old k x.worker (hand_of (In x) places) fits (slot_by g)
            ((fits k.state k.stands).stage.1 ∙ ap (λ b. Some b) a.1) g at) laws y (Pin h) changes (Did did.0 did.1) done
            refl;
        moves = λ places at.
            subst (λ ps. CallsWith old (hand_of (In x) places) did new (hand_of (In y) ps))
            (put_other places (slot_by g) (Some (Pin h))) (unlatch_moves old new x y places (slot_by g) did g h at u);
      })

-- ---- the calls that are refused

module _ (old : Parts) (k : IsKept old) (x : Session) (q : Cue) (uses : uses_slot q ≡ Some x.worker) (n : ℕ) (why : Refusal) where
  pub unfix_refuses : (g : PinGuard) → slot_asked q x.ask ≡ Some g.slot → x.ask ≡ ask.Unfix n
      → Refuses old (unfix_call x.worker g.worker g.slot g.page) why → RefusesGuard old x (Pin g) q why
  unfix_refuses g asks is refuses =
      let a = asked_unfix x q uses g.slot asks n is in
      subst (λ r. RefusesGuard old x (Pin g) r why) (sym a.0)
      (λ places at fits. unfix_refused old old k x places fits g.slot a.1 g at why refuses refl)

  pub scatter_refuses : (g : BundleGuard) → slot_asked q x.ask ≡ Some g.slot → x.ask ≡ ask.Scatter n
      → Refuses old (scatter_call x.worker g.worker g.slot) why → RefusesGuard old x (Bundle g) q why
  scatter_refuses g asks is refuses =
      let a = asked_scatter x q uses g.slot asks n is in
      subst (λ r. RefusesGuard old x (Bundle g) r why) (sym a.0)
      (λ places at fits. scatter_refused old old k x places fits g.slot a.1 g at why refuses refl)

  pub latch_refuses : (m : Mode) (g : PinGuard) → slot_asked q x.ask ≡ Some g.slot → x.ask ≡ ask.Latch n m
      → Refuses old (latch_call m x.worker g.worker g.slot g.page) why → RefusesGuard old x (Pin g) q why
  latch_refuses m g asks is refuses =
      let a = asked_latch x q uses g.slot asks n m is in
      subst (λ r. RefusesGuard old x (Pin g) r why) (sym a.0)
      (λ places at fits. latch_refused old old k x places fits g.slot m a.1 g at why refuses refl)

  pub unlatch_refuses : (g : Guard) → slot_asked q x.ask ≡ Some (slot_by g) → x.ask ≡ ask.Unlatch n
      → Refuses old (unlatch_with old x g) why → RefusesGuard old x g q why
  unlatch_refuses g asks is refuses =
      let a = asked_unlatch x q uses (slot_by g) asks n is in
      subst (λ r. RefusesGuard old x g r why) (sym a.0)
      (λ places at fits.
      unlatch_refused old old k x places fits (slot_by g) a.1 g at
      (unlatch_latched old k x.worker (hand_of (In x) places) fits (slot_by g)
      ((fits k.state k.stands).stage.1 ∙ ap (λ b. Some b) a.1) g at) why refuses refl)

  -- A guard of another kind isn't there.
  pub unfix_strange : (g : Guard) → slot_asked q x.ask ≡ Some (slot_by g) → x.ask ≡ ask.Unfix n
      → ((pin : PinGuard) → g ≡ Pin pin → ⊥) → RefusesGuard old x g q why
  unfix_strange g asks is isnt places at fits =
      let a = asked_unfix x q uses (slot_by g) asks n is in
      let wants = (fits k.state k.stands).stage.1 ∙ ap (λ b. Some b) a.1 in
      absurd (false≢true (sym (no_pin g isnt)
      ∙ unfix_pin old k x.worker (hand_of (In x) places) fits (slot_by g) wants g at))

  pub scatter_strange : (g : Guard) → slot_asked q x.ask ≡ Some (slot_by g) → x.ask ≡ ask.Scatter n
      → ((bundle : BundleGuard) → g ≡ Bundle bundle → ⊥) → RefusesGuard old x g q why
  scatter_strange g asks is isnt places at fits =
      let a = asked_scatter x q uses (slot_by g) asks n is in
      let wants = (fits k.state k.stands).stage.1 ∙ ap (λ b. Some b) a.1 in
      absurd (false≢true (sym (no_bundle g isnt)
      ∙ scatter_bundle old k x.worker (hand_of (In x) places) fits (slot_by g) wants g at))

  pub latch_strange : (m : Mode) (g : Guard) → slot_asked q x.ask ≡ Some (slot_by g) → x.ask ≡ ask.Latch n m
      → ((pin : PinGuard) → g ≡ Pin pin → ⊥) → RefusesGuard old x g q why
  latch_strange m g asks is isnt places at fits =
      let a = asked_latch x q uses (slot_by g) asks n m is in
      let wants = (fits k.state k.stands).stage.1 ∙ ap (λ b. Some b) a.1 in
      absurd (false≢true (sym (no_pin g isnt)
      ∙ latch_pin old k x.worker (hand_of (In x) places) fits (slot_by g) m wants g at))

-- ---- the places

module _ (places taken : List (Option Guard)) (slot : ℕ) (g : Guard) (at : placed places slot ≡ Some g)
    (gone : taken ≡ slice_set places slot None) (of : slot_by g ≡ slot) where
  -- What a call gave for the guard has its place free.
  pub left_free : (h : Option Guard) → IfSome h (λ j. slot_by j ≡ slot_by g)
      → IfSome h (λ j. is_free taken (slot_by j) ≡ true)
  left_free None same_slot = tt
  left_free (Some j) same_slot =
      ap (λ ps. is_free ps (slot_by j)) gone ∙ ap (is_free (slice_set places slot None)) (same_slot ∙ of)
      ∙ taken_free places slot g at

  pub left_there : (now : List (Option Guard)) (h : Option Guard) → IfSome h (λ j. slot_by j ≡ slot_by g)
      → now ≡ put_left taken h → now ≡ slice_set places (slot_by g) h
  left_there now None same_slot is = is ∙ gone ∙ ap (λ m. slice_set places m None) (sym of)
  left_there now (Some j) same_slot is =
      put_changed places taken now slot j gone (same_slot ∙ of) is ∙ ap (λ m. slice_set places m (Some j)) (sym of)

-- ---- the lines

module _ (old new : Parts) (x y : Session) (g : Guard) (h : Option Guard) (q : Cue) {did : Move × Reply}
    (u : UsesGuard old x g q did new y h) (places now : List (Option Guard)) (at : placed places (slot_by g) ≡ Some g)
    (put : now ≡ slice_set places (slot_by g) h) (line : Line) (tells : line ≡ Did did.0 did.1) where
  pub used_plays : (w : ℕ) → x.worker ≡ w → PlaysHand old w (hand_of (In x) places) q line new (hand_of (In y) now)
  used_plays w of =
      subst (λ v. PlaysHand old v (hand_of (In x) places) q line new (hand_of (In y) now)) of
      (subst (λ ps. PlaysHand old x.worker (hand_of (In x) places) q line new (hand_of (In y) ps)) (sym put)
      (subst
      (λ l. PlaysHand old x.worker (hand_of (In x) places) q l new (hand_of (In y) (slice_set places (slot_by g) h)))
      (sym tells) (u.plays places at)))

  pub used_moves : MovesHand old (hand_of (In x) places) line new (hand_of (In y) now)
  used_moves =
      subst (λ ps. MovesHand old (hand_of (In x) places) line new (hand_of (In y) ps)) (sym put)
      (did_moves old new (hand_of (In x) places) (hand_of (In y) (slice_set places (slot_by g) h)) line tells
      (u.moves places at))
