-- A vault and its hands agree with what the device told, after a worker's call.
use Rattle.std.proofs.Common.{◌≡◌, ◌∙◌, ◌⊎◌, ℕ, Bool, true, false, Option, Some, None, List, refl, sym, ap, subst}
use Rattle.std.proofs.Common.{inl, inr, arith}
use Rattle.std.specs.Prelude.{unwrap_or}
use Rattle.std.proofs.lemmas.Bool.{false≢true}
use Rattle.pp_model.specs.declared.moves.Move.{Move}
use Rattle.pp_model.specs.declared.reply.Reply.{Reply}
use Rattle.pp_model.specs.Pool.{State, Flush, is_dirty, known_mark, mark_at}
use Rattle.pp_model.specs.Moves.{next_of}
use Rattle.pp_model.specs.Ready.{Standing, ready_at}
use Rattle.pp_model.specs.WorkerParts.{worker_of}
use Rattle.pp_model.proofs.Changes as change
use Rattle.pp_model.proofs.Requests.{Which, same, other, which}
use Rattle.pp_model.proofs.Dirties.{dirty_falls}
use Rattle.pp_model.proofs.Alone.{flush_stays, others_sit}
use Rattle.pp_core.specs.Queries.{errand_by, errand_of}
use Rattle.pp_device.specs.Answers.{Answer}
use Rattle.pp_device.specs.Image.{body_of}
use Rattle.pp_vault.specs.declared.tokens.Errand.{Errand}
use Rattle.pp_vault.specs.declared.tokens.Returned.{Returned}
use Rattle.pp_vault.specs.declared.stage.Stage.TheVariants.{Out, Back}
use Rattle.pp_vault.specs.declared.stage.Hand.{Hand}
use Rattle.pp_vault.specs.declared.hands.Hands.{Hands}
use Rattle.pp_vault.specs.Parts.{Parts}
use Rattle.pp_vault.specs.StandsFor.{StandsFor}
use Rattle.pp_vault.specs.Events.{Tells}
use Rattle.pp_vault.specs.Holding.{placed}
use Rattle.pp_vault.specs.Hands.{StageFits, IsAway}
use Rattle.pp_contents.specs.Told.{told_after}
use Rattle.pp_contents.specs.Content.{ready_image}
use Rattle.pp_contents.specs.Agreeing.{flush_copy, Agrees}
use Rattle.pp_contents.specs.HandMoves.{HandMoves, call_in}
use Rattle.pp_contents.specs.ContentLaws.{Held, HandsBack, returned_of, GivesBackImage}
use Rattle.pp_vault.proofs.FitTests.{none_some}
use Rattle.pp_contents.proofs.ImageSteps.{ImageStep}
use Rattle.pp_contents.proofs.AgreementTurns.{PageTurn, stays, returns, comes, rises, page_turn}
use Rattle.pp_contents.proofs.AgreementStates.{loads_of_errand, sends_of_errand, loading_unready, victim_unready}
use Rattle.pp_contents.proofs.AgreementStates.{flushed_alone, loaded_clean, victims_dirty, fallen_sent, flushed_dirty}
use Rattle.pp_contents.proofs.AgreementImages.{shown, unshown, not_standing, image_stays}
use Rattle.pp_contents.proofs.AgreementCallers.{mover, left_answered, is_home, answer_ended}
use Rattle.pp_contents.proofs.AgreementAnswers.{untold, ready_apart, answer_told}
use Rattle.pp_contents.proofs.MovesDone.{told_done}
use Rattle.pp_contents.proofs.AgreementPlaces.{hand_fits, stage_fits, home_errand, back_all}

-- ---- a worker's call

-- What a call of worker w, which is this move, and a device that told `now` do to the images.
record Worked (old new : Parts) (s : State) (hands after : Hands) (told now : ℕ → List ℕ) (w : ℕ)
    (m : Move) : Type 0 where
  was : StandsFor old s
  is : StandsFor new (next_of s m)
  by : worker_of m ≡ Some w
  flushing : after.flushing ≡ hands.flushing
  -- no hand has an answer of a device that the vault doesn't know
  answered : (v : ℕ) (hand : Hand) → placed after.workers v ≡ Some hand → (x : Returned) → hand.stage ≡ Back x → ⊥
  -- a page that is ready before and after has its image still
  images : (q : ℕ) (i j : List ℕ) → ready_image old s q ≡ Some i → ready_image new (next_of s m) q ≡ Some j → j ≡ i
  -- nothing is told anew of a page that is ready
  told_before : (q : ℕ) (x : Standing) → ready_at s q ≡ Some x → now q ≡ told q
  -- what the worker read is what was told
  read : (slot q : ℕ) → errand_of s w ≡ Some (slot, q, None) → (j : List ℕ)
      → ready_image new (next_of s m) q ≡ Some j → body_of j ≡ body_of (now q)

module _ (old new : Parts) (s : State) (hands after : Hands) (told now : ℕ → List ℕ) (w : ℕ) (m : Move)
    (k : Worked old new s hands after told now w m) (agrees : Agrees old s hands told) where
  abbrev t : State
  t = next_of s m

  turn : (q : ℕ) → PageTurn s t q
  turn q = page_turn s t k.was.core.reached (change.change s m) q

  neither : (q : ℕ) (x : Standing) → ready_at s q ≡ None → ready_at t q ≡ Some x
      → (ready_at t q ≡ ready_at s q) ⊎ (ready_at t q ≡ None) → ⊥
  neither q x none now (inl stay) = not_standing (sym none ∙ sym stay ∙ now)
  neither q x none now (inr gone) = not_standing (sym gone ∙ now)

  -- ---- pages that are ready and clean

  was_clean : (q : ℕ) (x : Standing) → ready_at s q ≡ Some x → is_dirty t q ≡ false → is_dirty s q ≡ false
  was_clean q x ready clean = go (is_dirty s q) refl
    where
      go : (b : Bool) → is_dirty s q ≡ b → b ≡ false
      go true e =
          let sent = fallen_sent s m w q k.by (dirty_falls s m q e clean) in
          absurd (not_standing (sym (victim_unready s k.was.core.reached q sent) ∙ ready))
      go false e = refl

  -- Only this worker reads a page that is ready after.
  reader : (q : ℕ) (j : List ℕ) → ready_image new t q ≡ Some j → (v slot : ℕ) → errand_of s v ≡ Some (slot, q, None)
      → Which v w → body_of j ≡ body_of (now q)
  reader q j is v slot out (same d f) = k.read slot q (ap (errand_of s) (sym d) ∙ out) j is
  reader q j is v slot out (other d f) =
      let there : errand_of t v ≡ Some (slot, q, None) = ap errand_by (others_sit s m w v k.by d) ∙ out in
      let shows = shown new t q j is in
      absurd (not_standing (sym (loading_unready t q (loads_of_errand t v slot q None there)) ∙ shows.ready))

  arrived : (q : ℕ) (j : List ℕ) → ready_image new t q ≡ Some j → ready_at s q ≡ None → is_dirty t q ≡ false
      → PageTurn s t q → body_of j ≡ body_of (now q)
  arrived q j is none clean (stays either known) =
      let shows = shown new t q j is in absurd (neither q shows.at none shows.ready either)
  arrived q j is none clean (returns v slot page out known alike) =
      absurd (false≢true (sym clean ∙ alike ∙ agrees.victim v slot page q out))
  arrived q j is none clean (comes v slot out) = reader q j is v slot out (which v w)
  arrived q j is none clean (rises more dirty) = absurd (false≢true (sym clean ∙ dirty))

  clean_now : (q : ℕ) (j : List ℕ) → ready_image new t q ≡ Some j → is_dirty t q ≡ false
      → body_of j ≡ body_of (now q)
  clean_now q j is clean = go (ready_image old s q) refl
    where
      go : (o : Option (List ℕ)) → ready_image old s q ≡ o → body_of j ≡ body_of (now q)
      go None e = arrived q j is (unshown old s k.was q e) clean (turn q)
      go (Some i) e =
          let shows = shown old s q i e in
          ap body_of (k.images q i j e is) ∙ agrees.clean q i e (was_clean q shows.at shows.ready clean)
          ∙ ap body_of (sym (k.told_before q shows.at shows.ready))

  -- ---- the flusher's copy

  module _ (f : Flush) (j copy : List ℕ) (was : s.flush ≡ Some f) (mark : known_mark t f.page ≡ Some f.began)
      (is : ready_image new t f.page ≡ Some j) (out : flush_copy after.flushing ≡ Some copy) where
    copied_still : known_mark t f.page ≡ known_mark s f.page
        → (ready_at t f.page ≡ ready_at s f.page) ⊎ (ready_at t f.page ≡ None)
        → (o : Option (List ℕ)) → ready_image old s f.page ≡ o → j ≡ copy
    copied_still known either None e =
        let shows = shown new t f.page j is in
        absurd (neither f.page shows.at (unshown old s k.was f.page e) shows.ready either)
    copied_still known either (Some i) e =
        k.images f.page i j e is
        ∙ agrees.copied f i copy was (sym known ∙ mark) e (ap flush_copy (sym k.flushing) ∙ out)

    copied_by : PageTurn s t f.page → j ≡ copy
    copied_by (stays either known) = copied_still known either (ready_image old s f.page) refl
    copied_by (returns v slot page back known alike) =
        absurd (omega (arith, sends_of_errand s v slot page f.page back, flushed_alone s k.was.core.reached f was))
    copied_by (comes v slot back) =
        absurd (omega (arith, loads_of_errand s v slot f.page None back, flushed_alone s k.was.core.reached f was))
    copied_by (rises more dirty) =
        let began : mark_at t f.page ≡ f.began = ap (λ (o : Option ℕ). unwrap_or o 0) mark in
        absurd (omega (arith, more, (agrees.flushed f was).1, began))

  -- ---- all of it

  worked_agrees : Agrees new t after now
  worked_agrees =
      record {
        clean = clean_now;
        loaded = λ v slot page victim out. loaded_clean t k.is.core.reached v slot page victim out;
        victim = victims_dirty s k.was.core.reached m agrees.victim;
        flushed = flushed_dirty s k.was.core.reached m w k.by agrees.flushed;
        copied = λ f j copy flush mark is out.
            copied_by f j copy (sym (flush_stays s m w k.by) ∙ flush) mark is out (turn f.page);
        answered = λ v hand x there e. k.answered v hand there x e;
        flush_answered = λ x e. agrees.flush_answered x (sym k.flushing ∙ e);
      }

-- ---- calls that ask no device

pub step_agrees : (old new : Parts) (s : State) (hands after : Hands) (told : ℕ → List ℕ) (w : ℕ) (hand left : Hand)
    (m : Move) (reply : Reply) → Held old s hands → placed hands.workers w ≡ Some hand
    → (moves : HandMoves old hand new left) → HandsBack hands w left after
    → Tells old (call_in old hand new left moves) (m, reply) → Held new (next_of s m) after
    → ImageStep old new s (next_of s m) hand left → Agrees old s hands told → Agrees new (next_of s m) after told
step_agrees old new s hands after told w hand left m reply held there moves back said now step agrees =
    let done = told_done s (call_in old hand new left moves s) m reply (said s held.stands) in
    let fits = hand_fits old s hands w hand held there in
    let none = λ (x : Returned) (e : hand.stage ≡ Back x). agrees.answered w hand x there e in
    let home = home_errand old.page_bytes s w hand.stage fits.stage (is_home old new hand left none moves) in
    worked_agrees old new s hands after told told w m
    (record {
      was = held.stands;
      is = now.stands;
      by =
          mover old new s m hand left moves done.is ∙ stage_fits old.page_bytes s w hand.stage fits.stage;
      flushing = back.flushing;
      answered =
          back_all hands after w hand left there back (λ (h : Hand). (x : Returned) → h.stage ≡ Back x → ⊥)
          (left_answered old new hand left moves) (λ v h at x e. agrees.answered v h x at e);
      images = λ q i j a b. image_stays old new s (next_of s m) hand left q i j a b step;
      told_before = λ q x ready. refl;
      read = λ slot q out j is. absurd (none_some (sym home ∙ out));
    })
    agrees

-- ---- answers of a device

pub answer_agrees : (old new : Parts) (s : State) (hands after : Hands) (told : ℕ → List ℕ) (w : ℕ) (hand left : Hand)
    (errand : Errand) (given : List ℕ) (answer : Answer) (m : Move) (reply : Reply) → Held old s hands
    → placed hands.workers w ≡ Some hand → hand.stage ≡ Out errand → GivesBackImage errand.duty errand.image given
    → (moves : HandMoves old (record hand { stage = Back (returned_of errand given answer) }) new left)
    → HandsBack hands w left after
    → Tells old (call_in old (record hand { stage = Back (returned_of errand given answer) }) new left moves) (m, reply)
    → Held new (next_of s m) after
    → ImageStep old new s (next_of s m) (record hand { stage = Back (returned_of errand given answer) }) left
    → Agrees old s hands told → Agrees new (next_of s m) after (told_after told errand.duty answer given)
answer_agrees old new s hands after told w hand left errand given answer m reply held there out gives moves back said
    now step agrees =
    let x : Returned = returned_of errand given answer in
    let had : Hand = record hand { stage = Back x } in
    let fits = hand_fits old s hands w hand held there in
    let away : IsAway old.page_bytes s w errand.duty errand.image =
    subst (StageFits old.page_bytes s w) out fits.stage in
    let done = told_done s (call_in old had new left moves s) m reply (said s held.stands) in
    let ended = answer_ended old new s m had left x refl moves done.is in
    worked_agrees old new s hands after told (told_after told errand.duty answer given) w m
    (record {
      was = held.stands;
      is = now.stands;
      by = mover old new s m had left moves done.is ∙ away.worker;
      flushing = back.flushing;
      answered =
          back_all hands after w hand left there back (λ (h : Hand). (x : Returned) → h.stage ≡ Back x → ⊥)
          (left_answered old new had left moves) (λ v h at x e. agrees.answered v h x at e);
      images = λ q i j a b. image_stays old new s (next_of s m) had left q i j a b step;
      told_before = λ q x ready.
          untold told errand.duty answer given q
          (ready_apart s w errand.duty held.stands.core.reached away.worker away.out q x ready);
      read = λ slot q waits j is.
          answer_told old new s m held.stands told w given answer ended.out slot q waits j is errand.duty away.worker
          away.out ended.done ended.is;
    })
    agrees
