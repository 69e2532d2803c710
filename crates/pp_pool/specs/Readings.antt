-- A reading that a site begins or ends by one call: two requests, one behind the other, and what each is answered.
use Rattle.std.specs.Prelude.{◌≡◌, ℕ, Some, List, [], ◌∷◌}
use Rattle.pp_plan.specs.declared.mode.Mode.TheVariants as mode
use Rattle.pp_plan.specs.declared.action.Ask.TheVariants as ask
use Rattle.pp_model.specs.declared.moves.Move.TheVariants as move
use Rattle.pp_model.specs.declared.reply.Reply.TheVariants as reply
use Rattle.pp_model.specs.declared.event.Event.{Event}
use Rattle.pp_model.specs.declared.event.Event.TheVariants.{Step}
use Rattle.pp_vault.specs.declared.tokens.Session.{Session}
use Rattle.pp_vault.specs.declared.guards.PinGuard.{PinGuard}
use Rattle.pp_vault.specs.declared.guards.ReadGuard.{ReadGuard}
use Rattle.pp_pool.specs.declared.request.Request.{Request}
use Rattle.pp_pool.specs.declared.request.Request.TheVariants as request
use Rattle.pp_pool.specs.declared.response.BookAnswer.TheVariants as answer
use Rattle.pp_pool.specs.declared.response.Response.{Response}
use Rattle.pp_pool.specs.Replies.{Replies}

-- ---- the responses

-- A fix of the page that this session asked, and that is a hit.
abbrev pub hit : Session → (page : ℕ) → Session → PinGuard → (frame mark : ℕ) → Response
hit x page y g frame mark =
    record { event = Some (Step (move.Fix x.worker page) (reply.Hit frame mark)); answer = answer.Pinned y g }

-- The latch S behind it, with the mark that its guard shows.
abbrev pub latched : Session → Session → ReadGuard → Response
latched x y h = record { event = Some (Step (move.Latch x.worker) (reply.Latched h.mark)); answer = answer.Shared y h }

-- An unlatch of a reader that this session asked.
abbrev pub unlatched : Session → Session → PinGuard → (mark : ℕ) → Response
unlatched x y g mark =
    record { event = Some (Step (move.Unlatch x.worker) (reply.Unlatched mark)); answer = answer.Pinned y g }

-- The unfix behind it.
abbrev pub unfixed : Session → Session → Response
unfixed x y = record { event = Some (Step (move.Unfix x.worker) reply.Did); answer = answer.Acts y }

-- The two events of a reading that begins, and of one that ends.
abbrev pub read_events : (w page frame mark : ℕ) → List Event
read_events w page frame mark =
    Step (move.Fix w page) (reply.Hit frame mark) ∷ Step (move.Latch w) (reply.Latched mark) ∷ []

abbrev pub end_events : (w mark : ℕ) → List Event
end_events w mark = Step (move.Unlatch w) (reply.Unlatched mark) ∷ Step (move.Unfix w) reply.Did ∷ []

-- ---- the two calls, where a request is given a response by this relation

-- Of session x there are session y and guard h: the page was fixed, which was a hit, and then latched S as the plan asked behind
-- it. Between the two the site was another, with a session and a guard.
pub record ReadsBy {S : Type 0} (gives : S → Request → Response → S → Type 0) (old : S) (x : Session) (page : ℕ) (new : S)
    (y : Session) (h : ReadGuard) (frame : ℕ) : Type 0 where
  pub between : S
  pub session : Session
  pub guard : PinGuard
  pub fixes : gives old (request.Fix x page) (hit x page session guard frame h.mark) between
  pub fix_fits : Replies (request.Fix x page) (hit x page session guard frame h.mark)
  pub asks : session.ask ≡ ask.Latch guard.slot mode.S
  pub latches : gives between (request.LatchShared session guard) (latched session y h) new
  pub latch_fits : Replies (request.LatchShared session guard) (latched session y h)

-- Of session x and guard g there is session y: the latch S was taken off, and then the page was unfixed as the plan asked behind
-- it.
pub record EndsReadBy {S : Type 0} (gives : S → Request → Response → S → Type 0) (old : S) (x : Session) (g : ReadGuard)
    (new : S) (y : Session) (mark : ℕ) : Type 0 where
  pub between : S
  pub session : Session
  pub guard : PinGuard
  pub unlatches : gives old (request.UnlatchShared x g) (unlatched x session guard mark) between
  pub unlatch_fits : Replies (request.UnlatchShared x g) (unlatched x session guard mark)
  pub asks : session.ask ≡ ask.Unfix guard.slot
  pub unfixes : gives between (request.Unfix session guard) (unfixed session y) new
  pub unfix_fits : Replies (request.Unfix session guard) (unfixed session y)
