-- What a request's event tells of calls of a device.
use Rattle.std.proofs.Common.{◌≡◌, ◌≢◌, ◌∙◌, ℕ, Bool, true, false, Option, Some, None, List, refl, sym, ap, subst}
use Rattle.std.specs.Prelude.{not, if◌then◌else◌, IfSome}
use Rattle.std.specs.Option.{is_some}
use Rattle.std.proofs.lemmas.Bool.{false≢true}
use Rattle.pp_settings.specs.Layout.{Geometry}
use Rattle.pp_model.specs.declared.moves.Move.{Move}
use Rattle.pp_model.specs.declared.event.Event.{Event}
use Rattle.pp_model.specs.declared.event.Event.TheVariants.{Submit, Step}
use Rattle.pp_vault.specs.declared.tokens.Session.{Session}
use Rattle.pp_vault.specs.declared.tokens.Leaver.{Leaver}
use Rattle.pp_vault.specs.declared.tokens.Duty.{Duty}
use Rattle.pp_vault.specs.declared.tokens.Duty.TheVariants as duty
use Rattle.pp_vault.specs.Duties.{duty_worker}
use Rattle.pp_pool.specs.declared.request.Request.{Request}
use Rattle.pp_pool.specs.declared.request.Request.TheVariants as request
use Rattle.pp_pool.specs.declared.response.Response.{Response}
use Rattle.pp_pool.specs.Performing.{is_no}
use Rattle.pp_pool.specs.Replies.{Replies, IsMoveOf, IsEventOf, duty_move}
use Rattle.pp_pool.specs.Turns.{IsStep, IsWayOut}
use Rattle.pp_run.specs.Calling.{calls_of, failed_calls_of, ended_flushes_of, failed_flushes_of}

-- ---- the event of a request that was done

pub record Tells (asked : Request) (event : Option Event) : Type 0 where
  pub did : Move
  pub e : Event
  pub is_event : event ≡ Some e
  pub step : (number : Move → ℕ) → Rattle.pp_run.specs.Calling.at_event number e ≡ number did
  pub of : IsMoveOf asked did

told_at : (asked : Request) (e : Event) → IsEventOf asked e → Tells asked (Some e)
told_at asked (Submit plan) h = absurd h
told_at asked (Step did reply) h = record { did = did; e = Step did reply; is_event = refl; step = λ number. refl; of = h }

told_by : (asked : Request) (event : Option Event) → is_some event ≡ true → IfSome event (IsEventOf asked) → Tells asked event
told_by asked None some h = absurd (false≢true some)
told_by asked (Some e) some h = told_at asked e h

pub told : (asked : Request) (response : Response) → Replies asked response → is_no response.answer ≡ false
    → Tells asked response.event
told asked response fits done = told_by asked response.event (fits.done ∙ ap not done) fits.event

none_at : (event : Option Event) → is_some event ≡ false → event ≡ None
none_at None h = refl
none_at (Some e) h = absurd (false≢true (sym h))

-- A request that was refused has no event.
pub untold : (asked : Request) (response : Response) → Replies asked response → is_no response.answer ≡ true
    → response.event ≡ None
untold asked response fits back = none_at response.event (fits.done ∙ ap not back)

-- ---- calls of a device

pub record Calls (did : Move) (calls failures : ℕ) : Type 0 where
  pub called : calls_of did ≡ calls
  pub failed : failed_calls_of did ≡ failures

no_calls : (did m : Move) → did ≡ m → calls_of m ≡ 0 → failed_calls_of m ≡ 0 → Calls did 0 0
no_calls did m is a b = record { called = ap calls_of is ∙ a; failed = ap failed_calls_of is ∙ b }

pub take_calls : (w : ℕ) (did : Move) → did ≡ Rattle.pp_model.specs.declared.moves.Move.TheVariants.Take w → Calls did 0 0
take_calls w did is = no_calls did _ is refl refl

pub step_calls : (layout : Geometry) (x : Session) (asked : Request) (did : Move) → IsStep layout x asked
    → IsMoveOf asked did → Calls did 0 0
step_calls layout x (request.Take chair) did step is = absurd step
step_calls layout x (request.Fix y page) did step is = no_calls did _ is refl refl
step_calls layout x (request.Join y page) did step is = no_calls did _ is refl refl
step_calls layout x (request.Unfix y g) did step is = no_calls did _ is refl refl
step_calls layout x (request.Scatter y g) did step is = no_calls did _ is refl refl
step_calls layout x (request.LatchShared y g) did step is = no_calls did _ is refl refl
step_calls layout x (request.LatchExclusive y g) did step is = no_calls did _ is refl refl
step_calls layout x (request.UnlatchShared y g) did step is = no_calls did _ is refl refl
step_calls layout x (request.UnlatchExclusive y g) did step is = no_calls did _ is refl refl
step_calls layout x (request.Choose y branch) did step is = no_calls did _ is refl refl
step_calls layout x (request.Finish y) did step is = no_calls did _ is refl refl
step_calls layout x (request.End y) did step is = absurd step
step_calls layout x (request.GiveBack y g) did step is = absurd step
step_calls layout x (request.Answer returned) did step is = absurd step
step_calls layout x (request.AnswerJoin returned) did step is = absurd step
step_calls layout x (request.Flush page) did step is = absurd step
step_calls layout x (request.FlushNext number) did step is = absurd step

pub way_out_calls : (x : Leaver) (asked : Request) (did : Move) → IsWayOut x asked → IsMoveOf asked did → Calls did 0 0
way_out_calls x (request.GiveBack y g) did out is = no_calls did _ is refl refl
way_out_calls x (request.End y) did out is = no_calls did _ is refl refl
way_out_calls x (request.Take chair) did out is = absurd out
way_out_calls x (request.Fix y page) did out is = absurd out
way_out_calls x (request.Join y page) did out is = absurd out
way_out_calls x (request.Unfix y g) did out is = absurd out
way_out_calls x (request.Scatter y g) did out is = absurd out
way_out_calls x (request.LatchShared y g) did out is = absurd out
way_out_calls x (request.LatchExclusive y g) did out is = absurd out
way_out_calls x (request.UnlatchShared y g) did out is = absurd out
way_out_calls x (request.UnlatchExclusive y g) did out is = absurd out
way_out_calls x (request.Choose y branch) did out is = absurd out
way_out_calls x (request.Finish y) did out is = absurd out
way_out_calls x (request.Answer returned) did out is = absurd out
way_out_calls x (request.AnswerJoin returned) did out is = absurd out
way_out_calls x (request.Flush page) did out is = absurd out
way_out_calls x (request.FlushNext number) did out is = absurd out

-- The move of a device's answer to a worker is one call, and a failure where the call failed.
duty_calls : (d : Duty) (image : List ℕ) (ok : Bool) → duty_worker d ≢ None
    → Calls (duty_move d image ok) 1 (if ok then 0 else 1)
duty_calls (duty.Read w slot page) image true worker = record { called = refl; failed = refl }
duty_calls (duty.Read w slot page) image false worker = record { called = refl; failed = refl }
duty_calls (duty.Write w slot page victim) image ok worker = record { called = refl; failed = refl }
duty_calls (duty.Flush page) image ok worker = absurd (worker refl)

pub answer_calls : (d : Duty) (image : List ℕ) (ok : Bool) (did : Move) → duty_worker d ≢ None
    → did ≡ duty_move d image ok → Calls did 1 (if ok then 0 else 1)
answer_calls d image ok did worker is = subst (λ m. Calls m 1 (if ok then 0 else 1)) (sym is) (duty_calls d image ok worker)

-- ---- ends of flushes

pub record Ends (did : Move) (ends failed : ℕ) : Type 0 where
  pub ended : ended_flushes_of did ≡ ends
  pub failed_ends : failed_flushes_of did ≡ failed

flush_ends : (d : Duty) (image : List ℕ) (ok : Bool) → duty_worker d ≡ None
    → Ends (duty_move d image ok) 1 (if ok then 0 else 1)
flush_ends (duty.Read w slot page) image ok none = absurd cc
flush_ends (duty.Write w slot page victim) image ok none = absurd cc
flush_ends (duty.Flush page) image ok none = record { ended = refl; failed_ends = refl }

pub answer_ends : (d : Duty) (image : List ℕ) (ok : Bool) (did : Move) → duty_worker d ≡ None
    → did ≡ duty_move d image ok → Ends did 1 (if ok then 0 else 1)
answer_ends d image ok did none is = subst (λ m. Ends m 1 (if ok then 0 else 1)) (sym is) (flush_ends d image ok none)
