-- Whose a request is.
use Rattle.std.specs.Prelude.{ℕ, Option, None, Some}
use Rattle.pp_vault.specs.Duties.{duty_worker}
use Rattle.pp_pool.specs.declared.request.Request.{Request}
use Rattle.pp_pool.specs.declared.request.Request.TheVariants as request

-- The worker that asks, by the token that it has in hand; none for the flusher.
abbrev pub asker : Request → Option ℕ
asker (request.Take chair) = Some chair.worker
asker (request.Fix x page) = Some x.worker
asker (request.Join x page) = Some x.worker
asker (request.Unfix x g) = Some x.worker
asker (request.Scatter x g) = Some x.worker
asker (request.LatchShared x g) = Some x.worker
asker (request.LatchExclusive x g) = Some x.worker
asker (request.UnlatchShared x g) = Some x.worker
asker (request.UnlatchExclusive x g) = Some x.worker
asker (request.Choose x branch) = Some x.worker
asker (request.Finish x) = Some x.worker
asker (request.End x) = Some x.worker
asker (request.GiveBack x g) = Some x.worker
asker (request.Answer returned) = duty_worker returned.duty
asker (request.AnswerJoin returned) = duty_worker returned.duty
asker (request.Flush page) = None
asker (request.FlushNext number) = None
