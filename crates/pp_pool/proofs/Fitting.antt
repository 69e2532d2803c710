-- The event of a request is of its move.
use Rattle.std.proofs.Common.{◌≡◌, ℕ, Bool, true, false, Option, Some, None, refl, ap}
use Rattle.std.specs.Prelude.{IfSome, option_map, if◌then◌else◌, is_ok, ◌&&◌}
use Rattle.std.specs.Option.{is_some}
use Rattle.pp_frames.specs.Marks.{dirty_from}
use Rattle.pp_plan.specs.declared.mode.Mode.TheVariants as mode
use Rattle.pp_cert.specs.declared.note.Held.TheVariants.{Free, S, X}
use Rattle.pp_model.specs.declared.moves.Move.{Move}
use Rattle.pp_model.specs.declared.moves.Move.TheVariants as move
use Rattle.pp_model.specs.declared.reply.Reply.{Reply}
use Rattle.pp_model.specs.declared.event.Event.TheVariants.{Step}
use Rattle.pp_model.specs.Pool.{State}
use Rattle.pp_model.specs.Marks.{marks}
use Rattle.pp_model.specs.Moves.{reply_of, is_possible}
use Rattle.pp_core.specs.Queries.{is_idle, is_leaving, ask_of, flushed_page}
use Rattle.pp_vault.specs.declared.tokens.Duty.{Duty}
use Rattle.pp_vault.specs.declared.tokens.Duty.TheVariants as duty
use Rattle.pp_vault.specs.declared.tokens.Returned.{Returned}
use Rattle.pp_vault.specs.declared.guards.Guard.TheVariants as guard
use Rattle.pp_vault.specs.Parts as vault
use Rattle.pp_vault.specs.Calls.{Call, stranger, asks}
use Rattle.pp_vault.specs.Fits.{is_acting, fix_slot, names_slot, fits_both, asks_unfix, asks_latch, asks_unlatch, guard_call, leaver_fits}
use Rattle.pp_vault.specs.Fits.{bundle_fits, asks_scatter, leaver_fits_bundle}
use Rattle.pp_vault.specs.Answers.{is_flush_out, is_write_out, is_read_out, duty_call}
use Rattle.pp_vault.specs.Flushes.{flush_if}
use Rattle.pp_vault.specs.Tokens.{is_long}
use Rattle.pp_pool.specs.declared.request.Request.{Request}
use Rattle.pp_pool.specs.declared.request.Request.TheVariants as request
use Rattle.pp_pool.specs.Requests.{call_of, event_of, can_join, bundle_asked, bundle_served}
use Rattle.pp_pool.specs.Replies.{IsMoveOf, IsEventOf, duty_move}

-- An event that the call adds is of a move that it asks.
abbrev Asks : (asked : Request) → State → Call → Type 0
Asks asked s call = IfSome (event_of s call) (IsEventOf asked)

module _ (asked : Request) (s : State) where
  by_move : (m : Move) → IsMoveOf asked m → Asks asked s (asks m)
  by_move m is = go (is_possible s m)
    where
      go : (p : Bool) → IfSome (option_map (λ (t : Move × Reply). Step t.0 t.1)
          (if p then Some (m, reply_of s m) else None)) (IsEventOf asked)
      go true = is
      go false = tt

  by_token : (fits : Bool) (m : Move) → IsMoveOf asked m → Asks asked s (if fits then asks m else stranger)
  by_token true m is = by_move m is
  by_token false m is = tt

  by_guard : (fits wants : Bool) (m : Move) → IsMoveOf asked m → Asks asked s (guard_call fits wants (asks m))
  by_guard true true m is = by_move m is
  by_guard true false m is = tt
  by_guard false wants m is = tt

  by_join : (there : Bool) (call : Call) → Asks asked s call → Asks asked s (if there then call else stranger)
  by_join true call h = h
  by_join false call h = tt

  by_duty : (page_bytes : ℕ) (returned : Returned)
      → ((m : Move) → m ≡ duty_move returned.duty returned.image (is_ok returned.answer) → IsMoveOf asked m)
      → (d : Duty) → d ≡ returned.duty
      → Asks asked s (duty_call page_bytes d returned.image (is_ok returned.answer) s)
  by_duty page_bytes returned is (duty.Read w slot page) e =
      by_token (is_read_out page_bytes w slot page returned.image s) _
      (is _ (ap (λ d. duty_move d returned.image (is_ok returned.answer)) e))
  by_duty page_bytes returned is (duty.Write w slot page victim) e =
      by_token (is_write_out page_bytes w slot page victim returned.image s) _
      (is _ (ap (λ d. duty_move d returned.image (is_ok returned.answer)) e))
  by_duty page_bytes returned is (duty.Flush page) e =
      by_token (is_flush_out page_bytes page returned.image s) _
      (is _ (ap (λ d. duty_move d returned.image (is_ok returned.answer)) e))

by_search : (number : ℕ) (s : State) (busy : Bool) (found : Option ℕ)
    → Asks (request.FlushNext number) s (flush_if busy found)
by_search number s busy (Some page) = by_move (request.FlushNext number) s (move.FlushBegin page) (page, refl)
by_search number s true None = tt
by_search number s false None = tt

pub event_fits : (v : vault.Parts) (asked : Request) (s : State) → IfSome (event_of s (call_of v asked s)) (IsEventOf asked)
event_fits v (request.Take chair) s = by_token (request.Take chair) s (is_idle s chair.worker) _ refl
event_fits v (request.Fix x page) s = by_token (request.Fix x page) s (names_slot (fix_slot x.ask) (ask_of s x.worker)) _ refl
event_fits v (request.Join x page) s =
    by_join (request.Join x page) s (can_join s (bundle_asked x.worker x.ask)) _
    (by_token (request.Join x page) s (names_slot (fix_slot x.ask) (ask_of s x.worker)) _ refl)
event_fits v (request.Unfix x g) s =
    by_guard (request.Unfix x g) s (fits_both s x.worker g.worker g.slot g.page Free)
    (asks_unfix g.slot (ask_of s x.worker)) _ refl
event_fits v (request.Scatter x g) s =
    by_guard (request.Scatter x g) s (bundle_fits s x.worker g.worker g.slot) (asks_scatter g.slot (ask_of s x.worker)) _ refl
event_fits v (request.LatchShared x g) s =
    by_guard (request.LatchShared x g) s (fits_both s x.worker g.worker g.slot g.page Free)
    (asks_latch g.slot mode.S (ask_of s x.worker)) _ refl
event_fits v (request.LatchExclusive x g) s =
    by_guard (request.LatchExclusive x g) s (fits_both s x.worker g.worker g.slot g.page Free)
    (asks_latch g.slot mode.X (ask_of s x.worker)) _ refl
event_fits v (request.UnlatchShared x g) s =
    by_guard (request.UnlatchShared x g) s (fits_both s x.worker g.worker g.slot g.page S)
    (asks_unlatch g.slot (ask_of s x.worker)) _ refl
event_fits v (request.UnlatchExclusive x g) s =
    by_guard (request.UnlatchExclusive x g) s (fits_both s x.worker g.worker g.slot g.page X && is_long v g.image)
    (asks_unlatch g.slot (ask_of s x.worker)) _ refl
event_fits v (request.Choose x branch) s = by_token (request.Choose x branch) s (is_acting s x.worker) _ refl
event_fits v (request.Finish x) s = by_token (request.Finish x) s (is_acting s x.worker) _ refl
event_fits v (request.End x) s = by_token (request.End x) s (is_leaving s x.worker) _ refl
event_fits v (request.GiveBack x (guard.Pin g)) s =
    by_token (request.GiveBack x (guard.Pin g)) s (leaver_fits s x.worker g.worker g.slot g.page Free && true) _ refl
event_fits v (request.GiveBack x (guard.Read g)) s =
    by_token (request.GiveBack x (guard.Read g)) s (leaver_fits s x.worker g.worker g.slot g.page S && true) _ refl
event_fits v (request.GiveBack x (guard.Write g)) s =
    by_token (request.GiveBack x (guard.Write g)) s
    (leaver_fits s x.worker g.worker g.slot g.page X && is_long v g.image) _ refl
event_fits v (request.GiveBack x (guard.Bundle g)) s =
    by_token (request.GiveBack x (guard.Bundle g)) s (leaver_fits_bundle s x.worker g.worker g.slot) _ refl
event_fits v (request.Answer returned) s =
    by_duty (request.Answer returned) s v.page_bytes returned (λ m is. is) returned.duty refl
event_fits v (request.AnswerJoin returned) s =
    by_join (request.AnswerJoin returned) s (can_join s (bundle_served returned.duty)) _
    (by_duty (request.AnswerJoin returned) s v.page_bytes returned (λ m is. is) returned.duty refl)
event_fits v (request.Flush page) s = by_move (request.Flush page) s (move.FlushBegin page) refl
event_fits v (request.FlushNext number) s =
    by_search number s (is_some (flushed_page s)) (dirty_from (marks s) number)
