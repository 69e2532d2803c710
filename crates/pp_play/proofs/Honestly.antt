-- A script over a device that keeps every byte: what the device told is what it keeps.
use Rattle.std.proofs.Common.{◌≡◌, ◌∙◌, ℕ, Bool, true, false, Option, Some, None, List, [], ◌∷◌, nat_eq}
use Rattle.std.proofs.Common.{refl, sym, ap, subst, arith}
use Rattle.std.specs.Prelude.{◌==◌, slice_get, slice_set, is_some, unwrap_or, if◌then◌else◌, Ok, Err}
use Rattle.std.proofs.lemmas.Bool.{false≢true}
use Rattle.std.proofs.lemmas.Bool.Decides.{nat_tests}
use Rattle.pp_model.specs.Pool.{State}
use Rattle.pp_core.specs.Queries.{errand_of}
use Rattle.pp_device.specs.Answers.{Answer}
use Rattle.pp_device.specs.Honest.{IsHonest}
use Rattle.pp_device.specs.Image.{body_of}
use Rattle.pp_vault.specs.declared.tokens.Duty.{Duty}
use Rattle.pp_vault.specs.declared.tokens.Duty.TheVariants as duty
use Rattle.pp_vault.specs.declared.tokens.Errand.{Errand}
use Rattle.pp_vault.specs.declared.stage.Hand.{Hand}
use Rattle.pp_vault.specs.declared.hands.Flushing.{Flushing}
use Rattle.pp_vault.specs.declared.hands.Flushing.TheVariants as flushing
use Rattle.pp_vault.specs.declared.hands.Hands.{Hands}
use Rattle.pp_vault.specs.Parts.{Parts}
use Rattle.pp_vault.specs.StandsFor.{StandsFor}
use Rattle.pp_vault.specs.Hands.{HandsFit, IsAway, FlushingFits, StageFits, IsFlushAway}
use Rattle.pp_vault.specs.HandLaws.{FitsIn}
use Rattle.pp_vault.specs.Holding.{placed}
use Rattle.pp_vault.specs.Tokens.{IsOut}
use Rattle.pp_contents.specs.Told.{duty_page, told_after, HonestTellsWhatItKeeps}
use Rattle.pp_contents.specs.Content.{image_here, content, ContentsStay, ContentIsSet}
use Rattle.pp_contents.specs.Agreeing.{Agrees}
use Rattle.pp_contents.specs.ContentLaws as law
use Rattle.pp_contents.specs.ContentLaws.{AnswerFollows, LoadedAreTold}
use Rattle.pp_script.specs.declared.cue.Cue.{Cue}
use Rattle.pp_script.specs.declared.cue.Cue.TheVariants as cue
use Rattle.pp_play.specs.declared.line.Line.{Line}
use Rattle.pp_play.specs.declared.line.Line.TheVariants.{Did, Refused, Wrote, Looked, NoLatch}
use Rattle.pp_play.specs.Following.{errand_in, flush_errand, errand_for, CueFollows, ShowsFirst, Follows, PlaysOver}
use Rattle.pp_play.specs.Following.{AllOver, PlaysOverDevice}
use Rattle.pp_play.specs.Honest.{IsAsked, PlaysHonestly, AllHonestly, IsHonestPlay}
use Rattle.pp_play.proofs.AllHands.{part_fits}
use Rattle.pp_play.proofs.Answers.{out_at}
use Rattle.pp_play.proofs.Asked.{same}
use Rattle.pp_play.proofs.Contents.{did_follows}

-- ---- what is the same page by page

abbrev Same : (a b : ℕ → List ℕ) → Type 0
Same a b = (page : ℕ) → a page ≡ b page

-- Contents and agreement go by pages.
content_by : (v : Parts) (s : State) (hands : Hands) (a b : ℕ → List ℕ) → Same a b
    → Same (content v s hands a) (content v s hands b)
content_by v s hands a b same page = ap (λ x. body_of (unwrap_or (image_here v s hands page) x)) (same page)

agrees_by : (v : Parts) (s : State) (hands : Hands) (a b : ℕ → List ℕ) → Same a b → Agrees v s hands a
    → Agrees v s hands b
agrees_by v s hands a b same x =
    record {
      clean = λ page image at clean. x.clean page image at clean ∙ ap body_of (same page);
      loaded = x.loaded;
      victim = x.victim;
      flushed = x.flushed;
      copied = x.copied;
      answered = x.answered;
      flush_answered = x.flush_answered;
    }

flips : {a b : ℕ → List ℕ} → Same a b → Same b a
flips same page = sym (same page)

-- So do the contents that follow.
module _ (c x n y : ℕ → List ℕ) (before : Same c x) (after : Same n y) where
  stays_by : ContentsStay c n → ContentsStay x y
  stays_by stay page = sym (after page) ∙ stay page ∙ before page

  set_by : (page : ℕ) (byte : ℕ) → ContentIsSet page (slice_set (c page) 0 byte) c n
      → ContentIsSet page (slice_set (x page) 0 byte) x y
  set_by page byte set other =
      sym (after other) ∙ set other
      ∙ ap (λ (l : List ℕ). if other == page then slice_set l 0 byte else c other) (before page)
      ∙ ap (λ (l : List ℕ). if other == page then slice_set (x page) 0 byte else l) (before other)

  cue_by : (s : State) (q : Cue) (line : Line) → CueFollows s q line c n → CueFollows s q line x y
  cue_by s (cue.Write w slot byte) Wrote h = (h.0, h.1, set_by h.0 byte h.2)
  cue_by s (cue.Write w slot byte) (Did m r) h = stays_by h
  cue_by s (cue.Write w slot byte) (Refused asked why) h = stays_by h
  cue_by s (cue.Write w slot byte) (Looked b) h = stays_by h
  cue_by s (cue.Write w slot byte) NoLatch h = stays_by h
  cue_by s q line h = stays_by h

shows_by : (c x : ℕ → List ℕ) → Same c x → (s : State) (q : Cue) (line : Line) → ShowsFirst s q line c
    → ShowsFirst s q line x
shows_by c x same s (cue.Look w slot) (Looked byte) h =
    (h.0, h.1, h.2, ap (λ (l : List ℕ). slice_get l 0) (sym (same h.0)) ∙ h.3)
shows_by c x same s (cue.Look w slot) (Did m r) h = tt
shows_by c x same s (cue.Look w slot) (Refused asked why) h = tt
shows_by c x same s (cue.Look w slot) Wrote h = tt
shows_by c x same s (cue.Look w slot) NoLatch h = tt
shows_by c x same s q line h = tt

told_by : (a b : ℕ → List ℕ) → Same a b → (x : Duty) (answer : Answer) (given : List ℕ)
    → Same (told_after a x answer given) (told_after b x answer given)
told_by a b same x (Ok done) given page =
    ap (λ (l : List ℕ). if page == duty_page x then given else l) (same page)
told_by a b same x (Err why) given page = same page

-- ---- errands that read

flush_out : (f : Option Flushing) (errand : Errand) → flush_errand f ≡ Some errand
    → f ≡ Some (flushing.Out errand)
flush_out None errand e = absurd (false≢true (ap is_some e))
flush_out (Some (flushing.Out own)) errand e = ap (λ o. Some (flushing.Out (unwrap_or o own))) e
flush_out (Some (flushing.Back returned)) errand e = absurd (false≢true (ap is_some e))

module _ (v : Parts) (s : State) (st : StandsFor v s) (hands : Hands) (fits : HandsFit v hands) (errand : Errand)
  where
    abbrev ReadOut : Type 0
    ReadOut = (w slot page : ℕ) → errand.duty ≡ duty.Read w slot page → errand_of s w ≡ Some (slot, page, None)

    by_hand : (u : ℕ) (o : Option Hand) → placed hands.workers u ≡ o → errand_in o ≡ Some errand → ReadOut
    by_hand u None there e w slot page is = absurd (false≢true (ap is_some e))
    by_hand u (Some hand) there e w slot page is =
        let fit : FitsIn v u hand = part_fits v hands u hand there fits in
        let away : IsAway v.page_bytes s u errand.duty errand.image =
        subst (λ x. StageFits v.page_bytes s u x) (out_at hand.stage errand e) (fit s st).stage in
        subst (λ x. IsOut s x) is away.out

    by_flush : flush_errand hands.flushing ≡ Some errand → ReadOut
    by_flush e w slot page is =
        let away : IsFlushAway v.page_bytes s errand.duty errand.image =
        subst (λ f. FlushingFits v.page_bytes s f) (flush_out hands.flushing errand e) (fits s st).flushing in
        absurd (subst (λ x. IsFlushAway v.page_bytes s x errand.image) is away)

    -- An errand that reads is out for its worker.
    read_out : (q : Cue) → errand_for hands q ≡ Some errand → ReadOut
    read_out (cue.Device u) e = by_hand u (placed hands.workers u) refl e
    read_out cue.FlushDevice e = by_flush e
    read_out q e = absurd (false≢true (ap is_some e))

-- ---- one cue

-- The body that was read, where the page had it.
by_page : (c : ℕ → List ℕ) (page : ℕ) (body : List ℕ) → body ≡ c page → (other : ℕ) (b : Bool) → nat_eq other page ≡ b
    → (if b then body else c other) ≡ c other
by_page c page body had other true e =
    let same : page ≡ other = grind (arith, nat_tests) in had ∙ ap c same
by_page c page body had other false e = refl

module _ {D : Type 0} (are : D → Bool) (reads : D → ℕ → List ℕ → Answer → List ℕ → D → Type 0)
    (writes : D → ℕ → List ℕ → Answer → D → Type 0) (kept : D → ℕ → List ℕ)
    (honest : IsHonest are reads writes kept) (tells_kept : HonestTellsWhatItKeeps reads writes)
    (loaded : LoadedAreTold) where
  module _ (v : Parts) (s : State) (hands : Hands) (d : D) (told : ℕ → List ℕ) (st : StandsFor v s)
      (fits : HandsFit v hands) (is : are d ≡ true) (same_d : Same told (kept d)) (q : Cue) (line : Line)
      (next : Parts) (t : State) (left : Hands) (e : D) (now : ℕ → List ℕ) where
    abbrev Was : ℕ → List ℕ
    Was = content v s hands told

    abbrev Kept : ℕ → List ℕ
    Kept = content v s hands (kept d)

    abbrev Now : ℕ → List ℕ
    Now = content next t left now

    abbrev After : ℕ → List ℕ
    After = content next t left (kept e)

    record Step (o : Option Errand) : Type 0 where
      asked : IsAsked reads writes o d line e
      contents : CueFollows s q line Kept After
      same_e : Same now (kept e)
      still : are e ≡ true

    was : Same Was Kept
    was = content_by v s hands told (kept d) same_d

    module _ (same_e : Same now (kept e)) where
      after : Same Now After
      after = content_by next t left now (kept e) same_e

      -- A reading that is done gives the body that the page had.
      read_stays : (w slot page : ℕ) (given : List ℕ) → errand_of s w ≡ Some (slot, page, None) → given ≡ kept d page
          → ContentIsSet page (body_of given) Was Now → ContentsStay Kept After
      read_stays w slot page given out gave set other =
          let at_start : law.Held v s hands = record { stands = st; fit = fits s st } in
          let had : body_of given ≡ Was page =
          ap body_of gave ∙ sym (loaded v s hands (kept d) w slot page at_start out) ∙ sym (was page) in
          sym (after other) ∙ set other ∙ by_page Was page (body_of given) had other (nat_eq other page) refl
          ∙ was other

      answer_stays : (x : Duty) (answer : Answer) (given : List ℕ)
          → ((w slot page : ℕ) → x ≡ duty.Read w slot page → errand_of s w ≡ Some (slot, page, None))
          → ((w slot page : ℕ) → x ≡ duty.Read w slot page → answer ≡ Ok tt → given ≡ kept d page)
          → AnswerFollows x answer given Was Now → ContentsStay Kept After
      answer_stays (duty.Read w slot page) (Ok done) given out gave follows =
          read_stays w slot page given (out w slot page refl) (gave w slot page refl refl) follows
      answer_stays (duty.Read w slot page) (Err why) given out gave follows =
          stays_by Was Kept Now After was after follows
      answer_stays (duty.Write w slot page victim) answer given out gave follows =
          stays_by Was Kept Now After was after follows
      answer_stays (duty.Flush page) answer given out gave follows = stays_by Was Kept Now After was after follows

    by_errand : (o : Option Errand) → errand_for hands q ≡ o → Follows reads writes o s q line d e told now Was Now
        → Step o
    by_errand None at (e_is, now_is, follows) =
        let same_e : Same now (kept e) =
        λ page. ap (λ (f : ℕ → List ℕ). f page) now_is ∙ same_d page ∙ ap (λ x. kept x page) (sym e_is) in
        record {
          asked = e_is;
          contents = cue_by Was Kept Now After was (after same_e) s q line follows;
          same_e = same_e;
          still = ap are e_is ∙ is;
        }
    by_errand (Some errand) at (given, answer, reply, made, line_is, now_is, follows) =
        let keeps = tells_kept are kept honest errand.duty d e errand.image given answer is made in
        let same_e : Same now (kept e) =
        λ page.
        ap (λ (f : ℕ → List ℕ). f page) now_is ∙ told_by told (kept d) same_d errand.duty answer given page
        ∙ sym (keeps.kept_is page) in
        let stay =
        answer_stays same_e errand.duty answer given (read_out v s st hands fits errand q at) keeps.read_is follows in
        record {
          asked = (given, answer, reply, made, line_is);
          contents =
              subst (λ l. CueFollows s q l Kept After) (sym line_is) (did_follows s q _ reply Kept After stay);
          same_e = same_e;
          still = keeps.stays;
        }

    pub record Honestly : Type 0 where
      pub plays : PlaysHonestly are reads writes kept v s hands d q line next t left e
      pub same_e : Same now (kept e)
      pub still : are e ≡ true

    pub honest_cue : PlaysOver reads writes v s hands d told q line next t left e now → Honestly
    honest_cue p =
        let step = by_errand (errand_for hands q) refl p.follows in
        record {
          plays = record {
            plays = p.plays;
            tells = p.tells;
            stands = p.stands;
            asked = step.asked;
            contents = step.contents;
            shown = shows_by Was Kept was s q line p.shown;
            flusher = p.flusher;
            length = p.length;
            agrees = agrees_by next t left now (kept e) step.same_e p.agrees;
            honest = step.still;
          };
          same_e = step.same_e;
          still = step.still;
        }

  -- ---- a script

  all_honest : (cues : List Cue) (lines : List Line) (v : Parts) (s : State) (hands : Hands) (d : D)
      (told : ℕ → List ℕ) (next : Parts) (t : State) (left : Hands) (e : D) (now : ℕ → List ℕ) → StandsFor v s
      → HandsFit v hands → are d ≡ true → Same told (kept d)
      → AllOver reads writes v s hands d told cues lines next t left e now
      → AllHonestly are reads writes kept v s hands d cues lines next t left e × Same now (kept e) × (are e ≡ true)
  all_honest [] [] v s hands d told next t left e now st fits is same_d h =
      let same_e : Same now (kept e) =
      λ page. ap (λ (f : ℕ → List ℕ). f page) h.4 ∙ same_d page ∙ ap (λ x. kept x page) (sym h.3) in
      ((h.0, h.1, h.2, h.3), same_e, ap are h.3 ∙ is)
  all_honest [] (line ∷ lines) v s hands d told next t left e now st fits is same_d h = absurd h
  all_honest (q ∷ cues) [] v s hands d told next t left e now st fits is same_d h = absurd h
  all_honest (q ∷ cues) (line ∷ lines) v s hands d told next t left e now st fits is same_d
      (mid, there, held, device, tells, p, rest) =
      let one = honest_cue v s hands d told st fits is same_d q line mid there held device tells p in
      let more =
      all_honest cues lines mid there held device tells next t left e now p.stands p.plays.fit one.still one.same_e
      rest in
      ((mid, there, held, device, one.plays, more.0), more.1, more.2)

-- A script over a device that keeps every byte, where scripts over any device are so played.
pub is_honest : {D : Type 0} (reads : D → ℕ → List ℕ → Answer → List ℕ → D → Type 0)
    (writes : D → ℕ → List ℕ → Answer → D → Type 0) (old : Parts) (hands : Hands) (d : D) (cues : List Cue)
    (before now : List Line) (new : Parts) (left : Hands) (e : D) → HonestTellsWhatItKeeps reads writes
    → LoadedAreTold → PlaysOverDevice reads writes old hands d cues before now new left e
    → IsHonestPlay reads writes old hands d cues before now new left e
is_honest reads writes old hands d cues before now new left e tells_kept loaded follows are kept honest is fits s st agrees =
    let w = follows fits s st (kept d) agrees in
    let all =
    all_honest are reads writes kept honest tells_kept loaded cues w.0 old s hands d (kept d) new w.1 left e w.2 st fits
    is (λ page. refl) w.4 in
    (w.0, w.1, w.3, all.0, w.5, agrees_by new w.1 left w.2 (kept e) all.1 w.6, all.2)
