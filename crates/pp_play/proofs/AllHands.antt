-- From the hand of one worker to all hands.
use Rattle.std.proofs.Common.{◌≡◌, ◌≢◌, ◌∙◌, ℕ, ◌<◌, ◌≤◌, Bool, true, false, Option, Some, None, List, length, nat_eq}
use Rattle.std.proofs.Common.{refl, sym, ap, subst, arith}
use Rattle.std.specs.Prelude.{slice_set, nat_lt, unwrap_or, is_none}
use Rattle.std.proofs.lemmas.Bool.{false≢true}
use Rattle.std.proofs.lemmas.Bool.Decides.{nat_tests}
use Rattle.std.proofs.lemmas.List.{get_or_past, get_or-set_same, get_or-set_other, length-set, set-set, set-get_or}
use Rattle.std.proofs.lemmas.Option.{slice_get_past}
use Rattle.pp_model.specs.Pool.{State}
use Rattle.pp_model.specs.Moves.{seat_of}
use Rattle.pp_model.proofs.Alone.{settings_stay}
use Rattle.pp_model.proofs.BoundSteps.{seats_are_all}
use Rattle.pp_vault.specs.declared.guards.Guard.{Guard}
use Rattle.pp_vault.specs.declared.stage.Hand.{Hand}
use Rattle.pp_vault.specs.declared.stage.Stage.{Stage}
use Rattle.pp_vault.specs.declared.hands.Flushing.{Flushing}
use Rattle.pp_vault.specs.declared.hands.Hands.{Hands}
use Rattle.pp_vault.specs.Parts.{Parts}
use Rattle.pp_vault.specs.StandsFor.{StandsFor, IsKept}
use Rattle.pp_vault.specs.Hands.{HandFits, HasHand, FlushingFits, HandsFit}
use Rattle.pp_vault.specs.HandLaws.{FitsIn}
use Rattle.pp_vault.specs.Holding.{placed}
use Rattle.pp_script.specs.declared.cue.Cue.{Cue}
use Rattle.pp_script.specs.declared.cue.Cue.TheVariants.{Write, Look}
use Rattle.pp_play.specs.declared.line.Line.{Line}
use Rattle.pp_play.specs.declared.line.Line.TheVariants.{Did, Refused, Wrote, Looked, NoLatch}
use Rattle.pp_play.specs.Plays.{is_write, is_look, Tells, ComesTo}
use Rattle.pp_play.specs.Exact.{IsLineOf, looker, guards_by, guards_of, hand_with, hands_with, Leaves, Plays}
use Rattle.pp_play.specs.Doing.{cue_worker, LeavesHand, HandPlays, IsLineWithout}
use Rattle.pp_play.specs.Guarding.{hand_of}
use Rattle.pp_play.proofs.Asked.{same}

-- ---- lines that tell of no guard

other_line : (v : Parts) (s : State) (a b c d : List (Option Guard)) (cue : Cue) → is_write cue ≡ false
    → is_look cue ≡ false → (line : Line) → IsLineOf v s a b cue line → IsLineOf v s c d cue line
other_line v s a b c d cue x y (Did m r) h = h
other_line v s a b c d cue x y (Refused asked why) h = h
other_line v s a b c d (Write w slot byte) x y line h = absurd (false≢true (sym x))
other_line v s a b c d (Look w slot) x y line h = absurd (false≢true (sym y))
other_line v s a b c d cue x y Wrote h = absurd h
other_line v s a b c d cue x y (Looked byte) h = absurd h
other_line v s a b c d cue x y NoLatch h = absurd h

-- ---- hands that are as they were

abbrev both : List (Option Hand) → Option Flushing → Hands
both workers flushing = record { workers = workers; flushing = flushing }

pub same_hands : (a b : Hands) → a.workers ≡ b.workers → a.flushing ≡ b.flushing → a ≡ b
same_hands a b workers flushing =
    ap (λ ws. both ws a.flushing) workers ∙ ap (λ f. both b.workers f) flushing

same_guards : (o : Option Hand) → hand_with (guards_by o) o ≡ o
same_guards None = refl
same_guards (Some hand) = refl

own_guards : (hands : Hands) (w : ℕ) → hands_with hands w (guards_of hands w) ≡ hands
own_guards hands w =
    ap (λ ws. both ws hands.flushing)
    (ap (slice_set hands.workers w) (same_guards (placed hands.workers w)) ∙ set-get_or hands.workers w None)

-- Where nothing is done, all is as it was.
untouched : (v : Parts) (hands : Hands) (cue : Cue) (line : Line) → Leaves v hands cue line v hands
untouched v hands cue (Did m r) = tt
untouched v hands cue (Refused asked why) = (refl, refl)
untouched v hands cue Wrote = (refl, sym (own_guards hands (looker cue)))
untouched v hands cue (Looked byte) = (refl, refl)
untouched v hands cue NoLatch = (refl, refl)

-- ---- where a worker has no hand

pub past : {T : Type 0} (places : List (Option T)) (w : ℕ) (x : T) (b : Bool) → nat_lt w (length places) ≡ b
    → placed places w ≡ Some x → w < length places
past places w x true at e = grind (arith, nat_tests)
past places w x false at e =
    let beyond : length places ≤ w = grind (arith, nat_tests) in
    absurd (false≢true (ap is_none (sym e ∙ get_or_past places w None beyond)))

none_some : {T : Type 0} (o : Option T) (x : T) → o ≡ None → o ≡ Some x → ⊥
none_some o x a b = false≢true (ap is_none (sym b ∙ a))

module _ (v : Parts) (hands : Hands) (w : ℕ) (none : placed hands.workers w ≡ None) (fits : HandsFit v hands) where
  no_seat_by : (s : State) → StandsFor v s → (b : Bool) → nat_lt w (length s.seats) ≡ b → seat_of s w ≡ None
  no_seat_by s st true e =
      let has = (fits s st).each w (grind (arith, nat_tests, e)) in
      absurd (none_some _ _ none has.there)
  no_seat_by s st false e =
      let beyond : length s.seats ≤ w = grind (arith, nat_tests) in
      slice_get_past s.seats w beyond

  pub absent_plays : (left : Hands) → left ≡ hands → (cue : Cue) (line : Line) → cue_worker cue ≡ Some w
      → ((s : State) → Tells s cue line s) → IsLineWithout cue line → Plays v hands cue line v left
  absent_plays left same cue line of tells without =
      subst (λ h. Plays v hands cue line v h) (sym same)
      record {
        comes = λ s st. (s, tells s, st);
        exact = λ s st.
            without v s w (guards_of hands (looker cue)) of (no_seat_by s st (nat_lt w (length s.seats)) refl);
        leaves = untouched v hands cue line;
        fit = fits;
      }

pub not_there : (o : Option Hand) → ((hand : Hand) → o ≡ Some hand → ⊥) → o ≡ None
not_there None apart = refl
not_there (Some hand) apart = absurd (apart hand refl)

-- ---- where it has one

-- The count of workers stays.
tells_count : (s t : State) (cue : Cue) (line : Line) → Tells s cue line t → t.settings ≡ s.settings
tells_count s t cue (Did m r) h = ap (λ (u : State). u.settings) h.3 ∙ settings_stay s m
tells_count s t cue (Refused asked why) h = ap (λ (u : State). u.settings) h.1
tells_count s t cue Wrote h = ap (λ (u : State). u.settings) h.1
tells_count s t cue (Looked byte) h = ap (λ (u : State). u.settings) h.1
tells_count s t cue NoLatch h = ap (λ (u : State). u.settings) h.1

pub count_stays : (old new : Parts) (cue : Cue) (line : Line) → ComesTo old cue line new → (s t : State)
    → StandsFor old s → StandsFor new t → length t.seats ≡ length s.seats
count_stays old new cue line comes s t a b =
    let c = comes s a in
    sym b.core.seats.size ∙ c.2.core.seats.size ∙ seats_are_all c.0 c.2.core.reached
    ∙ ap (λ k. k.workers) (tells_count s c.0 cue line c.1) ∙ sym (seats_are_all s a.core.reached)

same_hand : (o : Option Hand) (x y : Hand) → o ≡ Some x → o ≡ Some y → x ≡ y
same_hand o x y a b = ap (λ p. unwrap_or p x) (sym a ∙ b)

module _ (v : Parts) (hands : Hands) (w : ℕ) (hand : Hand) (there : placed hands.workers w ≡ Some hand)
    (fits : HandsFit v hands) where
  -- The hand in its place fits.
  pub part_fits : FitsIn v w hand
  part_fits s st =
      let low = past hands.workers w hand (nat_lt w (length hands.workers)) refl there in
      let has = (fits s st).each w (omega (arith, low, (fits s st).places)) in
      subst (λ h. HandFits v.page_bytes s w h) (same_hand _ has.hand hand has.there there) has.fits

module _ (old new : Parts) (kept : IsKept old) (hands after : Hands) (w : ℕ) (hand left : Hand) (cue : Cue)
    (line : Line) (of : cue_worker cue ≡ Some w) (there : placed hands.workers w ≡ Some hand)
    (fits : HandsFit old hands) (comes : ComesTo old cue line new)
    (plays : HandPlays old w hand cue line new left)
    (joined : after.workers ≡ slice_set (slice_set hands.workers w None) w (Some left))
    (flushing : after.flushing ≡ hands.flushing) where
  low : w < length hands.workers
  low = past hands.workers w hand (nat_lt w (length hands.workers)) refl there

  mine : placed after.workers w ≡ Some left
  mine =
      ap (λ ws. placed ws w) joined
      ∙ get_or-set_same (slice_set hands.workers w None) w (Some left) None
      (omega (arith, low, length-set hands.workers w None))

  other : (v : ℕ) → v ≢ w → placed after.workers v ≡ placed hands.workers v
  other v apart =
      ap (λ ws. placed ws v) joined
      ∙ get_or-set_other (slice_set hands.workers w None) w v (Some left) None apart
      ∙ get_or-set_other hands.workers w v None None apart

  long : length after.workers ≡ length hands.workers
  long =
      ap length joined ∙ length-set (slice_set hands.workers w None) w (Some left)
      ∙ length-set hands.workers w None

  module _ (t : State) (b : StandsFor new t) where
    count : length t.seats ≡ length hands.workers
    count =
        count_stays old new cue line comes kept.state t kept.stands b ∙ sym (fits kept.state kept.stands).places

    has_by : (v : ℕ) → v < length t.seats → (x : Bool) → nat_eq v w ≡ x
        → HasHand new.page_bytes t after.workers v
    has_by v under true e =
        let same : w ≡ v = grind (arith, nat_tests) in
        subst (λ u. HasHand new.page_bytes t after.workers u) same
        record { hand = left; there = mine; fits = plays.fit t b }
    has_by v under false e =
        let apart : v ≢ w = grind (arith, nat_tests) in
        let has = (fits kept.state kept.stands).each v
        (omega (arith, under, count, (fits kept.state kept.stands).places)) in
        record {
          hand = has.hand;
          there = other v apart ∙ has.there;
          fits = plays.others.hands v apart has.hand (part_fits old hands v has.hand has.there fits) t b;
        }

  fit_after : HandsFit new after
  fit_after t b =
      record {
        places = long ∙ sym (count t b);
        each = λ v under. has_by t b v under (nat_eq v w) refl;
        flushing =
            subst (λ f. FlushingFits new.page_bytes t f) (sym flushing)
            (plays.others.flushing hands.flushing (λ s a. (fits s a).flushing) t b);
      }

  module _ (s : State) where
    with_guards : (q : Cue) → looker q ≡ w → IsLineOf old s hand.guards left.guards q line
        → IsLineOf old s (guards_of hands (looker q)) (guards_of after (looker q)) q line
    with_guards q at h =
        let before : hand.guards ≡ guards_of hands (looker q) =
        sym (ap (λ v. guards_of hands v) at ∙ ap guards_by there) in
        let now : left.guards ≡ guards_of after (looker q) =
        sym (ap (λ v. guards_of after v) at ∙ ap guards_by mine) in
        subst (λ g. IsLineOf old s g (guards_of after (looker q)) q line) before
        (subst (λ g. IsLineOf old s hand.guards g q line) now h)

    exact_for : (q : Cue) → cue_worker q ≡ Some w → IsLineOf old s hand.guards left.guards q line
        → IsLineOf old s (guards_of hands (looker q)) (guards_of after (looker q)) q line
    exact_for (Write v slot byte) is h = with_guards (Write v slot byte) (same v w is) h
    exact_for (Look v slot) is h = with_guards (Look v slot) (same v w is) h
    exact_for q is h =
        other_line old s hand.guards left.guards (guards_of hands (looker q)) (guards_of after (looker q)) q refl refl
        line h

  -- ---- what stays of them

  kept_hands : left ≡ hand → after ≡ hands
  kept_hands same =
      same_hands after hands
      (joined ∙ set-set hands.workers w None (Some left)
      ∙ ap (λ (h : Hand). slice_set hands.workers w (Some h)) same ∙ ap (slice_set hands.workers w) (sym there)
      ∙ set-get_or hands.workers w None)
      flushing

  changed_hands : left.stage ≡ hand.stage → after ≡ hands_with hands w (guards_of after w)
  changed_hands stage =
      let guards : left.guards ≡ guards_of after w = sym (ap guards_by mine) in
      let changed : left ≡ hand_of hand.stage (guards_of after w) =
      ap (λ (x : Stage). hand_of x left.guards) stage ∙ ap (hand_of hand.stage) guards in
      same_hands after (hands_with hands w (guards_of after w))
      (joined ∙ set-set hands.workers w None (Some left)
      ∙ ap (λ (h : Hand). slice_set hands.workers w (Some h)) changed
      ∙ ap (λ o. slice_set hands.workers w (hand_with (guards_of after w) o)) (sym there))
      flushing

  wrote_for : (q : Cue) → cue_worker q ≡ Some w → IsLineOf old kept.state hand.guards left.guards q Wrote
      → left.stage ≡ hand.stage → after ≡ hands_with hands (looker q) (guards_of after (looker q))
  wrote_for (Write v slot byte) is h stage =
      subst (λ u. after ≡ hands_with hands u (guards_of after u)) (sym (same v w is)) (changed_hands stage)
  wrote_for (Look v slot) is h stage = absurd h
  wrote_for q is h stage = absurd h

  leaves_for : (q : Cue) (l : Line) → cue_worker q ≡ Some w → IsLineOf old kept.state hand.guards left.guards q l
      → LeavesHand old hand l new left → Leaves old hands q l new after
  leaves_for q (Did m r) is h x = tt
  leaves_for q (Refused asked why) is h x = (x.0, kept_hands x.1)
  leaves_for q Wrote is h x = (x.0, wrote_for q is h x.1)
  leaves_for q (Looked byte) is h x = (x.0, kept_hands x.1)
  leaves_for q NoLatch is h x = (x.0, kept_hands x.1)

  -- All hands fit again, and the line is exact.
  pub joined_plays : Plays old hands cue line new after
  joined_plays =
      record {
        comes = comes;
        exact = λ s a. exact_for s cue of (plays.exact s a);
        leaves = leaves_for cue line of (plays.exact kept.state kept.stands) plays.leaves;
        fit = fit_after;
      }
