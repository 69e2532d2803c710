-- What the flusher has in hand after an answer that fits its request.
use Rattle.std.proofs.Common.{◌≡◌, ◌∙◌, ◌+◌, ◌<◌, ℕ, Option, Some, None, List, sym, subst, inl, arith}
use Rattle.std.specs.Prelude.{OnOk, OnErr, Ok, Err, is_ok, if◌then◌else◌}
use Rattle.pp_device.specs.Answers.{Answer as DeviceAnswer}
use Rattle.pp_vault.specs.declared.tokens.Returned.{Returned}
use Rattle.pp_pool.specs.declared.request.Request.{Request}
use Rattle.pp_pool.specs.declared.request.Request.TheVariants as request
use Rattle.pp_pool.specs.declared.response.BookAnswer.{BookAnswer}
use Rattle.pp_pool.specs.declared.response.BookAnswer.TheVariants as answer
use Rattle.pp_pool.specs.declared.response.Response.{Response}
use Rattle.pp_pool.specs.declared.turned.Turned.{Turned}
use Rattle.pp_pool.specs.declared.flusher.Flusher.{Flusher}
use Rattle.pp_pool.specs.Replies.{TokensFit}
use Rattle.pp_pool.specs.Flushings.{IsFlushersAsk, IsFlushers, AsksFlush, ends_in, failures_in, from_after, flushing_after}
use Rattle.pp_pool.specs.Flushings.{flush_turned, most_ended}
use Rattle.pp_pool.specs.FlushTurns.{FlushTurnIs}

-- ---- a call of a device

-- The device's failures grow by one where the call failed.
pub failed_by : (came : DeviceAnswer) (old new : ℕ) → OnOk came (new ≡ old) → OnErr came (new ≡ old + 1)
    → new ≡ old + (if is_ok came then 0 else 1)
failed_by (Ok x) old new ok err = omega (arith, ok)
failed_by (Err x) old new ok err = err

-- ---- the flusher

none_some : {n : ℕ} → ◌≡◌ {A = Option ℕ} None (Some n) → ⊥
none_some e = cc

-- The answer to the flusher's request is the flusher's.
of_returned : (returned : Returned) (out : BookAnswer) → IsFlushersAsk (request.Answer returned)
    → TokensFit (request.Answer returned) out → IsFlushers out
of_returned returned (answer.Away errand) h fit = fit ∙ h
of_returned returned (answer.Flushed clean) h fit = tt
of_returned returned (answer.No back why) h fit = subst (λ r. IsFlushers (answer.No r why)) (sym fit) h
of_returned returned (answer.Pinned y g) h fit = absurd (none_some (sym h ∙ fit.0))
of_returned returned (answer.Opened y g) h fit = absurd (none_some (sym h ∙ fit.0))
of_returned returned (answer.Joined y) h fit = absurd (none_some (sym h ∙ fit))
of_returned returned (answer.Leaves y) h fit = absurd (none_some (sym h ∙ fit))
of_returned returned (answer.Acts y) h fit = absurd fit
of_returned returned (answer.Idle chair) h fit = absurd fit
of_returned returned (answer.Shared y g) h fit = absurd fit
of_returned returned (answer.Exclusive y g) h fit = absurd fit

of_search : (number : ℕ) (out : BookAnswer) → TokensFit (request.FlushNext number) out → IsFlushers out
of_search number (answer.Away errand) fit = fit
of_search number (answer.No back why) fit = subst (λ r. IsFlushers (answer.No r why)) (sym fit) tt
of_search number (answer.Flushed clean) fit = absurd fit
of_search number (answer.Pinned y g) fit = absurd fit
of_search number (answer.Opened y g) fit = absurd fit
of_search number (answer.Joined y) fit = absurd fit
of_search number (answer.Leaves y) fit = absurd fit
of_search number (answer.Acts y) fit = absurd fit
of_search number (answer.Idle chair) fit = absurd fit
of_search number (answer.Shared y g) fit = absurd fit
of_search number (answer.Exclusive y g) fit = absurd fit

pub flushers : (asked : Request) (out : BookAnswer) → IsFlushersAsk asked → TokensFit asked out → IsFlushers out
flushers (request.Answer returned) out h fit = of_returned returned out h fit
flushers (request.AnswerJoin returned) out h fit = absurd h
flushers (request.FlushNext number) out h fit = of_search number out fit
flushers (request.Take chair) out h fit = absurd h
flushers (request.Fix x page) out h fit = absurd h
flushers (request.Join x page) out h fit = absurd h
flushers (request.Unfix x g) out h fit = absurd h
flushers (request.Scatter x g) out h fit = absurd h
flushers (request.LatchShared x g) out h fit = absurd h
flushers (request.LatchExclusive x g) out h fit = absurd h
flushers (request.UnlatchShared x g) out h fit = absurd h
flushers (request.UnlatchExclusive x g) out h fit = absurd h
flushers (request.Choose x branch) out h fit = absurd h
flushers (request.Finish x) out h fit = absurd h
flushers (request.End x) out h fit = absurd h
flushers (request.GiveBack x g) out h fit = absurd h
flushers (request.Flush page) out h fit = absurd h

pub flush_turns : {S D : Type 0} (gives : S → Request → Response → S → Type 0)
    (reads : D → ℕ → List ℕ → DeviceAnswer → List ℕ → D → Type 0) (writes : D → ℕ → List ℕ → DeviceAnswer → D → Type 0)
    (calls failures : D → ℕ) (old new : Flusher S D) (turned : Turned) (asked : Request) (response : Response)
    → old.ended < most_ended
    → AsksFlush reads writes calls failures old.flushing old.from old.device asked new.device
    → gives old.site asked response new.site → new.ended ≡ old.ended + ends_in response.event
    → new.failed ≡ old.failed + failures_in response.event → new.from ≡ from_after old.from response.event
    → new.flushing ≡ flushing_after response.answer → turned ≡ flush_turned response.answer
    → FlushTurnIs gives reads writes calls failures old turned new
flush_turns gives reads writes calls failures old new turned asked response room asks given ended failed from flushing how =
    inl (record {
      room = room;
      asked = asked;
      response = response;
      asks = asks;
      given = given;
      ended = ended;
      failed = failed;
      from = from;
      flushing = flushing;
      turned_is = how;
    })
