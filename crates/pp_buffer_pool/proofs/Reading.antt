-- A reading that a hall begins or ends by one call is two requests, and some vault of a hall gives each of their responses.
use Rattle.std.proofs.Common.{◌≡◌, ◌∙◌, ℕ, Bool, true, false, Option, Some, refl, sym, ap, subst, arith}
use Rattle.std.proofs.lemmas.Bool.{false≢true}
use Rattle.std.proofs.lemmas.Bool.Decides.{nat_tests}
use Rattle.std.specs.Prelude.{◌==◌, ◌&&◌}
use Rattle.pp_plan.specs.declared.mode.Mode.TheVariants as mode
use Rattle.pp_plan.specs.declared.action.Ask.{Ask}
use Rattle.pp_plan.specs.declared.action.Ask.TheVariants as ask
use Rattle.pp_cert.specs.declared.note.Held.TheVariants.{Free}
use Rattle.pp_model.specs.declared.moves.Move.{Move}
use Rattle.pp_model.specs.declared.moves.Move.TheVariants as move
use Rattle.pp_model.specs.declared.reply.Reply.{Reply}
use Rattle.pp_model.specs.declared.reply.Reply.TheVariants as reply
use Rattle.pp_model.specs.declared.event.Event.TheVariants.{Step}
use Rattle.pp_model.specs.Pool.{State}
use Rattle.pp_core.specs.Queries.{ask_of}
use Rattle.pp_vault.specs.declared.tokens.Session.{Session}
use Rattle.pp_vault.specs.declared.guards.ReadGuard.{ReadGuard}
use Rattle.pp_vault.specs.Parts as vault
use Rattle.pp_vault.specs.StandsFor.{IsKept}
use Rattle.pp_vault.specs.Headline.{Holds}
use Rattle.pp_vault.specs.Calls.{Call, told}
use Rattle.pp_vault.specs.Fits.{guard_call, fits_both, asks_latch, asks_unfix}
use Rattle.pp_vault.specs.Reads.{Reads, EndsRead}
use Rattle.pp_pool.specs.declared.request.Request.{Request}
use Rattle.pp_pool.specs.declared.request.Request.TheVariants as request
use Rattle.pp_pool.specs.declared.response.BookAnswer.{BookAnswer}
use Rattle.pp_pool.specs.declared.response.BookAnswer.TheVariants as answer
use Rattle.pp_pool.specs.declared.response.Response.{Response}
use Rattle.pp_pool.specs.Performing.{ComesTo, DoesUnless, TellsOf}
use Rattle.pp_pool.specs.Replies.{TokensFit, Replies}
use Rattle.pp_pool.specs.Readings.{ReadsBy, EndsReadBy}
use Rattle.pp_ledger.proofs.Answering.{answers, answers_fit}
use Rattle.pp_hall.specs.declared.told.Told.{Told}
use Rattle.pp_hall.specs.Halls.{Parts}
use Rattle.pp_hall.specs.Calls as hall
use Rattle.pp_buffer_pool.specs.Sites.{IsGiven, GivesCall}

-- What is answered, with the event of this move.
abbrev response_of : Move → Reply → BookAnswer → Response
response_of did said out = record { event = Some (Step did said); answer = out }

-- ---- one request that is done

module _ (v : vault.Parts) (k : IsKept v) (asked : Request) (out : BookAnswer) (new : vault.Parts) (comes : ComesTo v asked out new)
    (does : DoesUnless v asked out new) (did : Move) (said : Reply) (tells : TellsOf v asked out (Some (did, said)))
    (fit : TokensFit asked out) where
  replies_done : Replies asked (response_of did said out)
  replies_done = answers_fit v k asked out new (Some (did, said)) comes does tells (Some (Step did said)) refl fit

  given_done : Holds v → IsGiven asked (response_of did said out)
  given_done holds = (
    replies_done,
    (v, new, holds, answers v k asked out new (Some (did, said)) comes does tells (Some (Step did said)) refl),
  )

-- ---- what the plan asks

same_number : (a b : ℕ) → (a == b) ≡ true → a ≡ b
same_number a b e = grind (arith, nat_tests)

-- A call with a guard that tells something was asked.
is_asked : (s : State) (fits asked : Bool) (call : Call) (done : Move × Reply) → told s (guard_call fits asked call) ≡ Some done
    → asked ≡ true
is_asked s true true call done e = refl
is_asked s true false call done e = cc
is_asked s false asked call done e = cc

first_of : (a b : Bool) → (a && b) ≡ true → a ≡ true
first_of true b e = refl
first_of false b e = absurd (false≢true e)

latch_by : (slot : ℕ) (a : Ask) → asks_latch slot mode.S (Some a) ≡ true → a ≡ ask.Latch slot mode.S
latch_by slot (ask.Latch of mode.S) e = ap (λ n. ask.Latch n mode.S) (sym (same_number slot of (first_of (slot == of) true e)))
latch_by slot (ask.Latch of mode.X) e = absurd (never (slot == of) e)
  where
    never : (b : Bool) → (b && false) ≡ true → ⊥
    never true h = false≢true h
    never false h = false≢true h
latch_by slot (ask.Fix of region) e = absurd (false≢true e)
latch_by slot (ask.Gather of region) e = absurd (false≢true e)
latch_by slot (ask.Unfix of) e = absurd (false≢true e)
latch_by slot (ask.Scatter of) e = absurd (false≢true e)
latch_by slot (ask.Unlatch of) e = absurd (false≢true e)
latch_by slot (ask.Choose count) e = absurd (false≢true e)
latch_by slot ask.End e = absurd (false≢true e)

unfix_by : (slot : ℕ) (a : Ask) → asks_unfix slot (Some a) ≡ true → a ≡ ask.Unfix slot
unfix_by slot (ask.Unfix of) e = ap ask.Unfix (sym (same_number slot of e))
unfix_by slot (ask.Latch of m) e = absurd (false≢true e)
unfix_by slot (ask.Fix of region) e = absurd (false≢true e)
unfix_by slot (ask.Gather of region) e = absurd (false≢true e)
unfix_by slot (ask.Scatter of) e = absurd (false≢true e)
unfix_by slot (ask.Unlatch of) e = absurd (false≢true e)
unfix_by slot (ask.Choose count) e = absurd (false≢true e)
unfix_by slot ask.End e = absurd (false≢true e)

-- ---- two requests that are done

module _ (plan : Option ℕ) (v : vault.Parts) (holds : Holds v) (x : Session) (page : ℕ) (new : vault.Parts) (y : Session)
    (h : ReadGuard) (frame : ℕ) (r : Reads v x page new y h frame) where
  abbrev fix_answer : BookAnswer
  fix_answer = answer.Pinned r.session r.guard

  fix_fits : TokensFit (request.Fix x page) fix_answer
  fix_fits = (r.fixes.1.session.worker, r.fixes.1.guard.worker, r.fixes.1.of_page, r.fixes.2)

  abbrev latch_asked : Request
  latch_asked = request.LatchShared r.session r.guard

  latch_fits : TokensFit latch_asked (answer.Shared y h)
  latch_fits = (r.latches.session.worker, r.latches.same.0, r.latches.same.1)

  latch_is_asked : r.session.ask ≡ ask.Latch r.guard.slot mode.S
  latch_is_asked =
      let s = r.holds.kept.state in
      let st = r.holds.kept.stands in
      let w = r.session.worker in
      let asked = is_asked s (fits_both s w r.guard.worker r.guard.slot r.guard.page Free) (asks_latch r.guard.slot mode.S (ask_of s w))
      _ _ (r.latch_told s st) in
      latch_by r.guard.slot r.session.ask
      (ap (asks_latch r.guard.slot mode.S)
      (sym (r.fixes.1.session.ask s st) ∙ ap (ask_of s) (sym r.fixes.1.session.worker)) ∙ asked)

  pub reads_by : ReadsBy (λ s asked response t. GivesCall s asked response t) plan x page plan y h frame
  reads_by =
      let same_worker : x.worker ≡ r.session.worker = sym r.fixes.1.session.worker in
      record {
        between = plan;
        session = r.session;
        guard = r.guard;
        fixes = (
          given_done v holds.kept (request.Fix x page) fix_answer r.between r.fixes (λ _. r.fixes.0) (move.Fix x.worker page)
              (reply.Hit frame h.mark) r.fix_told fix_fits holds,
          refl,
        );
        fix_fits =
            replies_done v holds.kept (request.Fix x page) fix_answer r.between r.fixes (λ _. r.fixes.0) (move.Fix x.worker page)
            (reply.Hit frame h.mark) r.fix_told fix_fits;
        asks = latch_is_asked;
        latches = (
          subst (λ w. IsGiven latch_asked (response_of (move.Latch w) (reply.Latched h.mark) (answer.Shared y h))) same_worker
              (given_done r.between r.holds.kept latch_asked (answer.Shared y h) new r.latches (λ _. r.latches.does)
              (move.Latch x.worker) (reply.Latched h.mark) r.latch_told latch_fits r.holds),
          refl,
        );
        latch_fits =
            subst (λ w. Replies latch_asked (response_of (move.Latch w) (reply.Latched h.mark) (answer.Shared y h))) same_worker
            (replies_done r.between r.holds.kept latch_asked (answer.Shared y h) new r.latches (λ _. r.latches.does)
            (move.Latch x.worker) (reply.Latched h.mark) r.latch_told latch_fits);
      }

module _ (plan : Option ℕ) (v : vault.Parts) (holds : Holds v) (x : Session) (g : ReadGuard) (new : vault.Parts) (y : Session)
    (mark : ℕ) (r : EndsRead v x g new y mark) where
  abbrev unlatch_asked : Request
  unlatch_asked = request.UnlatchShared x g

  abbrev unlatch_answer : BookAnswer
  unlatch_answer = answer.Pinned r.session r.guard

  unlatch_fits : TokensFit unlatch_asked unlatch_answer
  unlatch_fits = (r.unlatches.session.worker, r.unlatches.same.0, r.unlatches.same.1)

  abbrev unfix_asked : Request
  unfix_asked = request.Unfix r.session r.guard

  unfix_fits : TokensFit unfix_asked (answer.Acts y)
  unfix_fits = r.unfixes.session.worker

  unfix_is_asked : r.session.ask ≡ ask.Unfix r.guard.slot
  unfix_is_asked =
      let s = r.holds.kept.state in
      let st = r.holds.kept.stands in
      let w = r.session.worker in
      let asked = is_asked s (fits_both s w r.guard.worker r.guard.slot r.guard.page Free) (asks_unfix r.guard.slot (ask_of s w))
      _ _ (r.unfix_told s st) in
      unfix_by r.guard.slot r.session.ask
      (ap (asks_unfix r.guard.slot)
      (sym (r.unlatches.session.ask s st) ∙ ap (ask_of s) (sym r.unlatches.session.worker)) ∙ asked)

  pub ends_read_by : EndsReadBy (λ s asked response t. GivesCall s asked response t) plan x g plan y mark
  ends_read_by =
      let same_worker : x.worker ≡ r.session.worker = sym r.unlatches.session.worker in
      record {
        between = plan;
        session = r.session;
        guard = r.guard;
        unlatches = (
          given_done v holds.kept unlatch_asked unlatch_answer r.between r.unlatches (λ _. r.unlatches.does)
              (move.Unlatch x.worker) (reply.Unlatched mark) r.unlatch_told unlatch_fits holds,
          refl,
        );
        unlatch_fits =
            replies_done v holds.kept unlatch_asked unlatch_answer r.between r.unlatches (λ _. r.unlatches.does) (move.Unlatch x.worker)
            (reply.Unlatched mark) r.unlatch_told unlatch_fits;
        asks = unfix_is_asked;
        unfixes = (
          subst (λ w. IsGiven unfix_asked (response_of (move.Unfix w) reply.Did (answer.Acts y))) same_worker
              (given_done r.between r.holds.kept unfix_asked (answer.Acts y) new r.unfixes (λ _. r.unfixes.does)
              (move.Unfix x.worker) reply.Did r.unfix_told unfix_fits r.holds),
          refl,
        );
        unfix_fits =
            subst (λ w. Replies unfix_asked (response_of (move.Unfix w) reply.Did (answer.Acts y))) same_worker
            (replies_done r.between r.holds.kept unfix_asked (answer.Acts y) new r.unfixes (λ _. r.unfixes.does)
            (move.Unfix x.worker) reply.Did r.unfix_told unfix_fits);
      }

-- ---- a hall's calls

pub read_given : (plan : Option ℕ) (old : Parts) (x : Session) (page : ℕ) (y : Session) (h : ReadGuard) (frame : ℕ) (who : Told)
    (new : Parts) → Holds old.seating.vault → hall.Reads old x page y h frame who new
    → ReadsBy (λ s asked response t. GivesCall s asked response t) plan x page plan y h frame
read_given plan old x page y h frame who new holds r =
    reads_by plan old.seating.vault holds x page r.seating.vault y h frame r.reads

pub end_given : (plan : Option ℕ) (old : Parts) (x : Session) (g : ReadGuard) (y : Session) (mark : ℕ) (who : Told) (new : Parts)
    → Holds old.seating.vault → hall.EndsRead old x g y mark who new
    → EndsReadBy (λ s asked response t. GivesCall s asked response t) plan x g plan y mark
end_given plan old x g y mark who new holds r =
    ends_read_by plan old.seating.vault holds x g r.seating.vault y mark r.ends
