-- What a request comes to, and the event that it adds.
use Rattle.std.specs.Prelude.{ℕ, Bool, false, if◌then◌else◌, Option, None, Some, option_map, List, [], ◌∷◌}
use Rattle.pp_plan.specs.declared.action.Ask.{Ask}
use Rattle.pp_plan.specs.declared.action.Ask.TheVariants as ask
use Rattle.pp_plan.specs.declared.mode.Mode.TheVariants as mode
use Rattle.pp_cert.specs.declared.note.Held.TheVariants.{S}
use Rattle.pp_model.specs.declared.event.Event.{Event}
use Rattle.pp_model.specs.declared.event.Event.TheVariants.{Step}
use Rattle.pp_model.specs.Pool.{State}
use Rattle.pp_vault.specs.Parts as vault
use Rattle.pp_vault.specs.declared.tokens.Duty.{Duty}
use Rattle.pp_vault.specs.declared.tokens.Duty.TheVariants as duty
use Rattle.pp_vault.specs.Calls.{Call, stranger, told}
use Rattle.pp_vault.specs.Fits.{fix_slot, take_call, fix_call, unfix_call, latch_call, unlatch_call, put_back_call}
use Rattle.pp_vault.specs.Fits.{is_gathered, scatter_call, choose_call, finish_call, end_call}
use Rattle.pp_vault.specs.Leaves.{give_back_call}
use Rattle.pp_vault.specs.Answers.{answer_call}
use Rattle.pp_vault.specs.Flushes.{flush_call, next_call}
use Rattle.pp_vault.specs.Tokens.{is_long}
use Rattle.pp_pool.specs.declared.request.Request.{Request}
use Rattle.pp_pool.specs.declared.request.Request.TheVariants as request
use Rattle.pp_pool.specs.Parts.{Parts, state_of}

-- ---- a page that joins a bundle

-- The bundle, by its worker and its slot, into which the plan of worker w asks a page; the one into which a device's work brings
-- one. None where there is no such.
abbrev pub bundle_asked : (w : ℕ) → Ask → Option (ℕ × ℕ)
bundle_asked w (ask.Gather slot region) = Some (w, slot)
bundle_asked w _ = None

abbrev pub bundle_served : Duty → Option (ℕ × ℕ)
bundle_served (duty.Read w slot page) = Some (w, slot)
bundle_served (duty.Write w slot page victim) = Some (w, slot)
bundle_served (duty.Flush page) = None

-- Whether there is such a bundle, and it holds a page, which a further one can join.
abbrev pub can_join : State → Option (ℕ × ℕ) → Bool
can_join s None = false
can_join s (Some bundle) = is_gathered s bundle.0 bundle.1

-- A call for a page that joins this bundle: where it can't, the tokens don't fit.
abbrev pub join_call : State → Option (ℕ × ℕ) → Call → Call
join_call s bundle call = if can_join s bundle then call else stranger

-- ---- requests

-- The call of the vault that a request makes: a token that doesn't fit the state, a slot or a mode that the plan doesn't
-- ask, or a move.
abbrev pub call_of : vault.Parts → Request → State → Call
call_of v (request.Take chair) s = take_call chair.worker s
call_of v (request.Fix x page) s = fix_call x.worker (fix_slot x.ask) page s
call_of v (request.Join x page) s =
    join_call s (bundle_asked x.worker x.ask) (fix_call x.worker (fix_slot x.ask) page s)
call_of v (request.Unfix x g) s = unfix_call x.worker g.worker g.slot g.page s
call_of v (request.Scatter x g) s = scatter_call x.worker g.worker g.slot s
call_of v (request.LatchShared x g) s = latch_call mode.S x.worker g.worker g.slot g.page s
call_of v (request.LatchExclusive x g) s = latch_call mode.X x.worker g.worker g.slot g.page s
call_of v (request.UnlatchShared x g) s = unlatch_call S x.worker g.worker g.slot g.page s
call_of v (request.UnlatchExclusive x g) s = put_back_call (is_long v g.image) x.worker g.worker g.slot g.page s
call_of v (request.Choose x branch) s = choose_call x.worker branch s
call_of v (request.Finish x) s = finish_call x.worker s
call_of v (request.End x) s = end_call x.worker s
call_of v (request.GiveBack x g) s = give_back_call v x g s
call_of v (request.Answer returned) s = answer_call v.page_bytes returned s
call_of v (request.AnswerJoin returned) s =
    join_call s (bundle_served returned.duty) (answer_call v.page_bytes returned s)
call_of v (request.Flush page) s = flush_call page s
call_of v (request.FlushNext number) s = next_call number s

-- The event that a call adds: its move with the model's reply, where the tokens fit and the move is possible.
abbrev pub event_of : State → Call → Option Event
event_of s call = option_map (λ t. Step t.0 t.1) (told s call)

-- The event that the request adds to the book's journal, from the state that the journal leads to.
abbrev pub event_for : Parts → Request → Option Event
event_for b r = event_of (state_of b) (call_of b.vault r (state_of b))

-- One event, or none.
abbrev pub events_in : Option Event → List Event
events_in None = []
events_in (Some e) = e ∷ []
