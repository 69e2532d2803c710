-- A reading that a book begins or ends by one call performs two requests.
use Rattle.std.proofs.Common.{◌≡◌, ◌∙◌, ◌+◌, ◌≤◌, ◌<◌, ℕ, Bool, true, false, Some, List, [], ◌∷◌, ◌++◌, length, refl, sym, ap, subst, arith}
use Rattle.std.proofs.Common.{append_assoc, length-append}
use Rattle.std.proofs.lemmas.Bool.{false≢true}
use Rattle.std.proofs.lemmas.Bool.Decides.{nat_tests}
use Rattle.std.specs.Prelude.{◌==◌, ◌&&◌, Result, Ok, Err, IfOk}
use Rattle.pp_plan.specs.declared.mode.Mode.TheVariants as mode
use Rattle.pp_plan.specs.declared.action.Ask.{Ask}
use Rattle.pp_plan.specs.declared.action.Ask.TheVariants as ask
use Rattle.pp_cert.specs.declared.note.Held.TheVariants.{Free}
use Rattle.pp_model.specs.declared.moves.Move.{Move}
use Rattle.pp_model.specs.declared.moves.Move.TheVariants as move
use Rattle.pp_model.specs.declared.reply.Reply.{Reply}
use Rattle.pp_model.specs.declared.reply.Reply.TheVariants as reply
use Rattle.pp_model.specs.declared.event.Event.{Event}
use Rattle.pp_model.specs.declared.event.Event.TheVariants.{Step}
use Rattle.pp_model.specs.Pool.{State}
use Rattle.pp_core.specs.Queries.{ask_of}
use Rattle.pp_vault.specs.declared.tokens.Session.{Session}
use Rattle.pp_vault.specs.declared.guards.ReadGuard.{ReadGuard}
use Rattle.pp_vault.specs.Parts as vault
use Rattle.pp_vault.specs.Calls.{Call, told}
use Rattle.pp_vault.specs.Fits.{guard_call, fits_both, asks_latch, asks_unfix}
use Rattle.pp_vault.specs.Reads.{Reads, EndsRead}
use Rattle.pp_pool.specs.declared.request.Request.{Request}
use Rattle.pp_pool.specs.declared.request.Request.TheVariants as request
use Rattle.pp_pool.specs.declared.response.BookAnswer.{BookAnswer}
use Rattle.pp_pool.specs.declared.response.BookAnswer.TheVariants as answer
use Rattle.pp_pool.specs.declared.response.Response.{Response}
use Rattle.pp_pool.specs.declared.site.OwnSite.{OwnSite}
use Rattle.pp_pool.specs.Parts.{Parts, state_of}
use Rattle.pp_pool.specs.Books.{IsBook, HeadlineHolds}
use Rattle.pp_pool.specs.Requests.{call_of}
use Rattle.pp_pool.specs.Performing.{ComesTo, DoesUnless, TellsOf}
use Rattle.pp_pool.specs.Performs.{Performs}
use Rattle.pp_pool.specs.Replies.{TokensFit, Replies}
use Rattle.pp_pool.specs.Readings.{read_events, end_events, ReadsBy, EndsReadBy}
use Rattle.pp_pool.proofs.Noted.{IsNoted, noted}
use Rattle.pp_pool.proofs.Replying.{replies}
use Rattle.pp_pool.proofs.Growing.{book_headline, room_in, event_in, performed, settings_then, plans_then}

-- What is answered, with the event of this move.
abbrev response_of : Move → Reply → BookAnswer → Response
response_of did reply out = record { event = Some (Step did reply); answer = out }

-- ---- one request that is done

module _ (b : Parts) (k : IsBook b) (asked : Request) (out : BookAnswer) (v : vault.Parts)
    (comes : ComesTo b.vault asked out v) (does : DoesUnless b.vault asked out v) (did : Move) (said : Reply)
    (tells : TellsOf b.vault asked out (Some (did, said))) (fit : TokensFit asked out) where
  is_noted : IsNoted b.vault (call_of b.vault asked) (Some (did, said)) v
  is_noted = noted b.vault v asked out (Some (did, said)) comes does tells

  -- There is room for the event.
  room_done : length b.journal < b.capacity
  room_done = room_in b k asked v (Some (did, said)) is_noted refl

  replies_done : Replies asked (response_of did said out)
  replies_done = replies b k asked out v comes does (Some (did, said)) tells (Some (Step did said)) refl fit

  module _ (journal : List Event) (grows : journal ≡ b.journal ++ Step did said ∷ []) (capacity : ℕ)
      (same : capacity ≡ b.capacity) where
    abbrev book_done : Parts
    book_done = record b { vault = v; journal = journal; capacity = capacity }

    kept_done : IsBook book_done
    kept_done = performed b k asked v (Some (did, said)) is_noted (Some (Step did said)) refl journal grows capacity same

    performs_done : Performs b asked (response_of did said out) book_done
    performs_done =
        record {
          event = event_in b k asked v (Some (did, said)) is_noted (Some (Step did said)) refl;
          journal = grows;
          memory = same;
          answer = comes;
          settings =
              settings_then b k asked v (Some (did, said)) is_noted (Some (Step did said)) refl journal grows capacity same;
          plans = plans_then b k asked v (Some (did, said)) is_noted (Some (Step did said)) refl journal grows capacity same;
          outset = refl;
          kept = kept_done;
        }

-- ---- what the plan asks

same_number : (a b : ℕ) → (a == b) ≡ true → a ≡ b
same_number a b e = grind (arith, nat_tests)

-- A call with a guard that tells something was asked.
is_asked : (s : State) (fits asked : Bool) (call : Call) (done : Move × Reply) → told s (guard_call fits asked call) ≡ Some done
    → asked ≡ true
is_asked s true true call done e = refl
is_asked s true false call done e = cc
is_asked s false asked call done e = cc

first_of : (a b : Bool) → (a && b) ≡ true → a ≡ true
first_of true b e = refl
first_of false b e = absurd (false≢true e)

latch_by : (slot : ℕ) (a : Ask) → asks_latch slot mode.S (Some a) ≡ true → a ≡ ask.Latch slot mode.S
latch_by slot (ask.Latch of mode.S) e = ap (λ n. ask.Latch n mode.S) (sym (same_number slot of (first_of (slot == of) true e)))
latch_by slot (ask.Latch of mode.X) e = absurd (never (slot == of) e)
  where
    never : (b : Bool) → (b && false) ≡ true → ⊥
    never true h = false≢true h
    never false h = false≢true h
latch_by slot (ask.Fix of region) e = absurd (false≢true e)
latch_by slot (ask.Gather of region) e = absurd (false≢true e)
latch_by slot (ask.Unfix of) e = absurd (false≢true e)
latch_by slot (ask.Scatter of) e = absurd (false≢true e)
latch_by slot (ask.Unlatch of) e = absurd (false≢true e)
latch_by slot (ask.Choose count) e = absurd (false≢true e)
latch_by slot ask.End e = absurd (false≢true e)

unfix_by : (slot : ℕ) (a : Ask) → asks_unfix slot (Some a) ≡ true → a ≡ ask.Unfix slot
unfix_by slot (ask.Unfix of) e = ap ask.Unfix (sym (same_number slot of e))
unfix_by slot (ask.Latch of m) e = absurd (false≢true e)
unfix_by slot (ask.Fix of region) e = absurd (false≢true e)
unfix_by slot (ask.Gather of region) e = absurd (false≢true e)
unfix_by slot (ask.Scatter of) e = absurd (false≢true e)
unfix_by slot (ask.Unlatch of) e = absurd (false≢true e)
unfix_by slot (ask.Choose count) e = absurd (false≢true e)
unfix_by slot ask.End e = absurd (false≢true e)

-- ---- two requests that are done

module _ (b : Parts) (k : IsBook b) (x : Session) (page : ℕ) (v : vault.Parts) (y : Session) (h : ReadGuard) (frame : ℕ)
    (r : Reads b.vault x page v y h frame) where
  abbrev hit : Reply
  hit = reply.Hit frame h.mark

  abbrev fix_answer : BookAnswer
  fix_answer = answer.Pinned r.session r.guard

  fix_fits : TokensFit (request.Fix x page) fix_answer
  fix_fits = (r.fixes.1.session.worker, r.fixes.1.guard.worker, r.fixes.1.of_page, r.fixes.2)

  abbrev book_fixed : Parts
  book_fixed = record b { vault = r.between; journal = b.journal ++ Step (move.Fix x.worker page) hit ∷ [] }

  fix_room : length b.journal < b.capacity
  fix_room =
      room_done b k (request.Fix x page) fix_answer r.between r.fixes (λ _. r.fixes.0) (move.Fix x.worker page) hit r.fix_told
      fix_fits

  fix_performs : Performs b (request.Fix x page) (response_of (move.Fix x.worker page) hit fix_answer) book_fixed
  fix_performs =
      performs_done b k (request.Fix x page) fix_answer r.between r.fixes (λ _. r.fixes.0) (move.Fix x.worker page) hit
      r.fix_told fix_fits book_fixed.journal refl b.capacity refl

  fix_replies : Replies (request.Fix x page) (response_of (move.Fix x.worker page) hit fix_answer)
  fix_replies =
      replies_done b k (request.Fix x page) fix_answer r.between r.fixes (λ _. r.fixes.0) (move.Fix x.worker page) hit
      r.fix_told fix_fits

  abbrev latch_asked : Request
  latch_asked = request.LatchShared r.session r.guard

  latch_fits : TokensFit latch_asked (answer.Shared y h)
  latch_fits = (r.latches.session.worker, r.latches.same.0, r.latches.same.1)

  latch_room : length book_fixed.journal < b.capacity
  latch_room =
      room_done book_fixed fix_performs.kept latch_asked (answer.Shared y h) v r.latches (λ _. r.latches.does)
      (move.Latch x.worker) (reply.Latched h.mark) r.latch_told latch_fits

  latch_is_asked : r.session.ask ≡ ask.Latch r.guard.slot mode.S
  latch_is_asked =
      let s = state_of book_fixed in
      let st = fix_performs.kept.stands in
      let w = r.session.worker in
      let asked = is_asked s (fits_both s w r.guard.worker r.guard.slot r.guard.page Free) (asks_latch r.guard.slot mode.S (ask_of s w))
      _ _ (r.latch_told s st) in
      latch_by r.guard.slot r.session.ask
      (ap (asks_latch r.guard.slot mode.S)
      (sym (r.fixes.1.session.ask s st) ∙ ap (ask_of s) (sym r.fixes.1.session.worker)) ∙ asked)

  -- There is room for both events.
  pub room_to_read : length b.journal + 2 ≤ b.capacity
  room_to_read =
      let long : length book_fixed.journal ≡ length b.journal + 1
      = length-append b.journal (Step (move.Fix x.worker page) hit ∷ []) in
      omega (arith, latch_room, long)

  module _ (journal : List Event) (grows : journal ≡ b.journal ++ read_events x.worker page frame h.mark) (capacity : ℕ)
      (same : capacity ≡ b.capacity) where
    abbrev pub book_read : Parts
    book_read = record b { vault = v; journal = journal; capacity = capacity }

    grows_then : journal ≡ book_fixed.journal ++ Step (move.Latch x.worker) (reply.Latched h.mark) ∷ []
    grows_then =
        grows
        ∙ sym (append_assoc b.journal (Step (move.Fix x.worker page) hit ∷ []) (Step (move.Latch x.worker) (reply.Latched h.mark) ∷ []))

    latch_performs : Performs book_fixed latch_asked
        (response_of (move.Latch x.worker) (reply.Latched h.mark) (answer.Shared y h)) book_read
    latch_performs =
        performs_done book_fixed fix_performs.kept latch_asked (answer.Shared y h) v r.latches (λ _. r.latches.does)
        (move.Latch x.worker) (reply.Latched h.mark) r.latch_told latch_fits journal grows_then capacity same

    pub kept_read : IsBook book_read
    kept_read = latch_performs.kept

    pub headline_read : HeadlineHolds book_read
    headline_read = book_headline book_read kept_read

    pub reads_by : ReadsBy Performs b x page book_read y h frame
    reads_by =
        let same_worker : x.worker ≡ r.session.worker = sym r.fixes.1.session.worker in
        record {
          between = book_fixed;
          session = r.session;
          guard = r.guard;
          fixes = fix_performs;
          fix_fits = fix_replies;
          asks = latch_is_asked;
          latches =
              subst (λ w. Performs book_fixed latch_asked
              (response_of (move.Latch w) (reply.Latched h.mark) (answer.Shared y h)) book_read) same_worker latch_performs;
          latch_fits =
              subst (λ w. Replies latch_asked (response_of (move.Latch w) (reply.Latched h.mark) (answer.Shared y h))) same_worker
              (replies_done book_fixed fix_performs.kept latch_asked (answer.Shared y h) v r.latches (λ _. r.latches.does)
              (move.Latch x.worker) (reply.Latched h.mark) r.latch_told latch_fits);
        }

module _ (b : Parts) (k : IsBook b) (x : Session) (g : ReadGuard) (v : vault.Parts) (y : Session) (mark : ℕ)
    (r : EndsRead b.vault x g v y mark) where
  abbrev unlatch_asked : Request
  unlatch_asked = request.UnlatchShared x g

  abbrev unlatch_answer : BookAnswer
  unlatch_answer = answer.Pinned r.session r.guard

  unlatch_fits : TokensFit unlatch_asked unlatch_answer
  unlatch_fits = (r.unlatches.session.worker, r.unlatches.same.0, r.unlatches.same.1)

  abbrev book_unlatched : Parts
  book_unlatched =
      record b { vault = r.between; journal = b.journal ++ Step (move.Unlatch x.worker) (reply.Unlatched mark) ∷ [] }

  unlatch_performs : Performs b unlatch_asked (response_of (move.Unlatch x.worker) (reply.Unlatched mark) unlatch_answer)
      book_unlatched
  unlatch_performs =
      performs_done b k unlatch_asked unlatch_answer r.between r.unlatches (λ _. r.unlatches.does) (move.Unlatch x.worker)
      (reply.Unlatched mark) r.unlatch_told unlatch_fits book_unlatched.journal refl b.capacity refl

  abbrev unfix_asked : Request
  unfix_asked = request.Unfix r.session r.guard

  unfix_fits : TokensFit unfix_asked (answer.Acts y)
  unfix_fits = r.unfixes.session.worker

  unfix_room : length book_unlatched.journal < b.capacity
  unfix_room =
      room_done book_unlatched unlatch_performs.kept unfix_asked (answer.Acts y) v r.unfixes (λ _. r.unfixes.does)
      (move.Unfix x.worker) reply.Did r.unfix_told unfix_fits

  unfix_is_asked : r.session.ask ≡ ask.Unfix r.guard.slot
  unfix_is_asked =
      let s = state_of book_unlatched in
      let st = unlatch_performs.kept.stands in
      let w = r.session.worker in
      let asked = is_asked s (fits_both s w r.guard.worker r.guard.slot r.guard.page Free) (asks_unfix r.guard.slot (ask_of s w))
      _ _ (r.unfix_told s st) in
      unfix_by r.guard.slot r.session.ask
      (ap (asks_unfix r.guard.slot)
      (sym (r.unlatches.session.ask s st) ∙ ap (ask_of s) (sym r.unlatches.session.worker)) ∙ asked)

  -- There is room for both events.
  pub room_to_end : length b.journal + 2 ≤ b.capacity
  room_to_end =
      let long : length book_unlatched.journal ≡ length b.journal + 1
      = length-append b.journal (Step (move.Unlatch x.worker) (reply.Unlatched mark) ∷ []) in
      omega (arith, unfix_room, long)

  module _ (journal : List Event) (grows : journal ≡ b.journal ++ end_events x.worker mark) (capacity : ℕ)
      (same : capacity ≡ b.capacity) where
    abbrev pub book_ended : Parts
    book_ended = record b { vault = v; journal = journal; capacity = capacity }

    grows_on : journal ≡ book_unlatched.journal ++ Step (move.Unfix x.worker) reply.Did ∷ []
    grows_on =
        grows
        ∙ sym (append_assoc b.journal (Step (move.Unlatch x.worker) (reply.Unlatched mark) ∷ []) (Step (move.Unfix x.worker) reply.Did ∷ []))

    unfix_performs : Performs book_unlatched unfix_asked (response_of (move.Unfix x.worker) reply.Did (answer.Acts y)) book_ended
    unfix_performs =
        performs_done book_unlatched unlatch_performs.kept unfix_asked (answer.Acts y) v r.unfixes (λ _. r.unfixes.does)
        (move.Unfix x.worker) reply.Did r.unfix_told unfix_fits journal grows_on capacity same

    pub kept_ended : IsBook book_ended
    kept_ended = unfix_performs.kept

    pub headline_ended : HeadlineHolds book_ended
    headline_ended = book_headline book_ended kept_ended

    pub ends_read_by : EndsReadBy Performs b x g book_ended y mark
    ends_read_by =
        let same_worker : x.worker ≡ r.session.worker = sym r.unlatches.session.worker in
        record {
          between = book_unlatched;
          session = r.session;
          guard = r.guard;
          unlatches = unlatch_performs;
          unlatch_fits =
              replies_done b k unlatch_asked unlatch_answer r.between r.unlatches (λ _. r.unlatches.does)
              (move.Unlatch x.worker) (reply.Unlatched mark) r.unlatch_told unlatch_fits;
          asks = unfix_is_asked;
          unfixes =
              subst (λ w. Performs book_unlatched unfix_asked (response_of (move.Unfix w) reply.Did (answer.Acts y)) book_ended)
              same_worker unfix_performs;
          unfix_fits =
              subst (λ w. Replies unfix_asked (response_of (move.Unfix w) reply.Did (answer.Acts y))) same_worker
              (replies_done book_unlatched unlatch_performs.kept unfix_asked (answer.Acts y) v r.unfixes (λ _. r.unfixes.does)
              (move.Unfix x.worker) reply.Did r.unfix_told unfix_fits);
        }

-- ---- a site with a book of its own

-- It did what its book did.
pub own_reads : (old : OwnSite) (x : Session) (page : ℕ) (new : OwnSite) (r : Result (Session × ReadGuard × ℕ) Session)
    → IfOk r (λ now. ReadsBy Performs old.book x page new.book now.0 now.1 now.2)
    → IfOk r (λ now. ReadsBy (λ s asked response t. Performs s.book asked response t.book) old x page new now.0 now.1 now.2)
own_reads old x page new (Ok now) p = record {
  between = record { book = p.between };
  session = p.session;
  guard = p.guard;
  fixes = p.fixes;
  fix_fits = p.fix_fits;
  asks = p.asks;
  latches = p.latches;
  latch_fits = p.latch_fits;
}
own_reads old x page new (Err e) p = tt

pub own_ends_read : (old : OwnSite) (x : Session) (g : ReadGuard) (new : OwnSite)
    (r : Result (Session × ℕ) (Session × ReadGuard)) → IfOk r (λ now. EndsReadBy Performs old.book x g new.book now.0 now.1)
    → IfOk r (λ now. EndsReadBy (λ s asked response t. Performs s.book asked response t.book) old x g new now.0 now.1)
own_ends_read old x g new (Ok now) p = record {
  between = record { book = p.between };
  session = p.session;
  guard = p.guard;
  unlatches = p.unlatches;
  unlatch_fits = p.unlatch_fits;
  asks = p.asks;
  unfixes = p.unfixes;
  unfix_fits = p.unfix_fits;
}
own_ends_read old x g new (Err e) p = tt
