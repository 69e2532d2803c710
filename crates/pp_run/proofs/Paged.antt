-- No request changes how many bytes a page has.
use Rattle.std.proofs.Common.{◌≡◌, ℕ, Bool, List, ap}
use Rattle.std.specs.Prelude.{is_ok}
use Rattle.pp_vault.specs.declared.answering.Answered.{Answered}
use Rattle.pp_vault.specs.declared.answering.Answered.TheVariants as answered
use Rattle.pp_vault.specs.declared.guards.Guard.{Guard}
use Rattle.pp_vault.specs.declared.guards.Guard.TheVariants.{Pin, Read, Write, Bundle}
use Rattle.pp_vault.specs.declared.tokens.Duty.{Duty}
use Rattle.pp_vault.specs.declared.tokens.Duty.TheVariants as duty
use Rattle.pp_vault.specs.declared.tokens.Leaver.{Leaver}
use Rattle.pp_vault.specs.Answers.{DutyEnds}
use Rattle.pp_vault.specs.Leaves.{GivesBack}
use Rattle.pp_vault.specs.Parts as vault
use Rattle.pp_vault.specs.Renewals.{Renews}
use Rattle.pp_pool.specs.declared.request.Request.{Request}
use Rattle.pp_pool.specs.declared.request.Request.TheVariants as request
use Rattle.pp_pool.specs.declared.response.Response.{Response}
use Rattle.pp_pool.specs.declared.response.BookAnswer.{BookAnswer}
use Rattle.pp_pool.specs.declared.response.BookAnswer.TheVariants.{Acts, Idle, Leaves, Pinned, Shared, Exclusive, Away}
use Rattle.pp_pool.specs.declared.response.BookAnswer.TheVariants.{Opened, Joined, Flushed, No}
use Rattle.pp_pool.specs.Parts.{Parts}
use Rattle.pp_pool.specs.Performing.{ComesTo}
use Rattle.pp_pool.specs.Performs.{Performs}

gives_pages : (old new : vault.Parts) (x : Leaver) (g : Guard) (y : Leaver) → GivesBack old x g new y
    → new.page_bytes ≡ old.page_bytes
gives_pages old new x (Pin g) y came = came.still.does.page_bytes
gives_pages old new x (Read g) y came = came.still.does.page_bytes
gives_pages old new x (Write g) y came = came.still.does.page_bytes
gives_pages old new x (Bundle g) y came = came.still.does.page_bytes

duty_pages : (old new : vault.Parts) (d : Duty) (image : List ℕ) (ok : Bool) (out : Answered) → DutyEnds old d image ok out new
    → new.page_bytes ≡ old.page_bytes
duty_pages old new (duty.Read w slot page) image ok (answered.Got y h) came = came.0.page_bytes
duty_pages old new (duty.Read w slot page) image ok (answered.Opened y h) came = came.0.page_bytes
duty_pages old new (duty.Read w slot page) image ok (answered.Joined y) came = came.0.page_bytes
duty_pages old new (duty.Read w slot page) image ok (answered.Away errand) came = absurd came
duty_pages old new (duty.Read w slot page) image ok (answered.Lost y) came = came.0.page_bytes
duty_pages old new (duty.Read w slot page) image ok (answered.Flushed clean) came = absurd came
duty_pages old new (duty.Write w slot page victim) image ok (answered.Got y h) came = absurd came
duty_pages old new (duty.Write w slot page victim) image ok (answered.Opened y h) came = absurd came
duty_pages old new (duty.Write w slot page victim) image ok (answered.Joined y) came = absurd came
duty_pages old new (duty.Write w slot page victim) image ok (answered.Away errand) came = came.1.page_bytes
duty_pages old new (duty.Write w slot page victim) image ok (answered.Lost y) came = came.1.page_bytes
duty_pages old new (duty.Write w slot page victim) image ok (answered.Flushed clean) came = absurd came
duty_pages old new (duty.Flush page) image ok (answered.Got y h) came = absurd came
duty_pages old new (duty.Flush page) image ok (answered.Opened y h) came = absurd came
duty_pages old new (duty.Flush page) image ok (answered.Joined y) came = absurd came
duty_pages old new (duty.Flush page) image ok (answered.Away errand) came = absurd came
duty_pages old new (duty.Flush page) image ok (answered.Lost y) came = absurd came
duty_pages old new (duty.Flush page) image ok (answered.Flushed clean) came = came.does.page_bytes

comes_pages : (old new : vault.Parts) (asked : Request) (out : BookAnswer) → ComesTo old asked out new
    → new.page_bytes ≡ old.page_bytes
comes_pages old new asked (No back refusal) came = ap (λ (v : vault.Parts). v.page_bytes) came.unchanged
comes_pages old new (request.Take chair) (Acts y) came = came.does.page_bytes
comes_pages old new (request.Take chair) (Idle seat) came = absurd came
comes_pages old new (request.Take chair) (Leaves y) came = absurd came
comes_pages old new (request.Take chair) (Pinned y h) came = absurd came
comes_pages old new (request.Take chair) (Opened y h) came = absurd came
comes_pages old new (request.Take chair) (Joined y) came = absurd came
comes_pages old new (request.Take chair) (Shared y h) came = absurd came
comes_pages old new (request.Take chair) (Exclusive y h) came = absurd came
comes_pages old new (request.Take chair) (Away errand) came = absurd came
comes_pages old new (request.Take chair) (Flushed clean) came = absurd came
comes_pages old new (request.Fix x page) (Acts y) came = absurd came
comes_pages old new (request.Fix x page) (Idle seat) came = absurd came
comes_pages old new (request.Fix x page) (Leaves y) came = absurd came
comes_pages old new (request.Fix x page) (Pinned y h) came = came.0.page_bytes
comes_pages old new (request.Fix x page) (Opened y h) came = came.0.page_bytes
comes_pages old new (request.Fix x page) (Joined y) came = came.0.page_bytes
comes_pages old new (request.Fix x page) (Shared y h) came = absurd came
comes_pages old new (request.Fix x page) (Exclusive y h) came = absurd came
comes_pages old new (request.Fix x page) (Away errand) came = came.0.page_bytes
comes_pages old new (request.Fix x page) (Flushed clean) came = absurd came
comes_pages old new (request.Join x page) (Acts y) came = absurd came
comes_pages old new (request.Join x page) (Idle seat) came = absurd came
comes_pages old new (request.Join x page) (Leaves y) came = absurd came
comes_pages old new (request.Join x page) (Pinned y h) came = absurd came
comes_pages old new (request.Join x page) (Opened y h) came = absurd came
comes_pages old new (request.Join x page) (Joined y) came = came.0.page_bytes
comes_pages old new (request.Join x page) (Shared y h) came = absurd came
comes_pages old new (request.Join x page) (Exclusive y h) came = absurd came
comes_pages old new (request.Join x page) (Away errand) came = came.0.page_bytes
comes_pages old new (request.Join x page) (Flushed clean) came = absurd came
comes_pages old new (request.Unfix x g) (Acts y) came = came.does.page_bytes
comes_pages old new (request.Unfix x g) (Idle seat) came = absurd came
comes_pages old new (request.Unfix x g) (Leaves y) came = absurd came
comes_pages old new (request.Unfix x g) (Pinned y h) came = absurd came
comes_pages old new (request.Unfix x g) (Opened y h) came = absurd came
comes_pages old new (request.Unfix x g) (Joined y) came = absurd came
comes_pages old new (request.Unfix x g) (Shared y h) came = absurd came
comes_pages old new (request.Unfix x g) (Exclusive y h) came = absurd came
comes_pages old new (request.Unfix x g) (Away errand) came = absurd came
comes_pages old new (request.Unfix x g) (Flushed clean) came = absurd came
comes_pages old new (request.Scatter x g) (Acts y) came = came.does.page_bytes
comes_pages old new (request.Scatter x g) (Idle seat) came = absurd came
comes_pages old new (request.Scatter x g) (Leaves y) came = absurd came
comes_pages old new (request.Scatter x g) (Pinned y h) came = absurd came
comes_pages old new (request.Scatter x g) (Opened y h) came = absurd came
comes_pages old new (request.Scatter x g) (Joined y) came = absurd came
comes_pages old new (request.Scatter x g) (Shared y h) came = absurd came
comes_pages old new (request.Scatter x g) (Exclusive y h) came = absurd came
comes_pages old new (request.Scatter x g) (Away errand) came = absurd came
comes_pages old new (request.Scatter x g) (Flushed clean) came = absurd came
comes_pages old new (request.LatchShared x g) (Acts y) came = absurd came
comes_pages old new (request.LatchShared x g) (Idle seat) came = absurd came
comes_pages old new (request.LatchShared x g) (Leaves y) came = absurd came
comes_pages old new (request.LatchShared x g) (Pinned y h) came = absurd came
comes_pages old new (request.LatchShared x g) (Opened y h) came = absurd came
comes_pages old new (request.LatchShared x g) (Joined y) came = absurd came
comes_pages old new (request.LatchShared x g) (Shared y h) came = came.does.page_bytes
comes_pages old new (request.LatchShared x g) (Exclusive y h) came = absurd came
comes_pages old new (request.LatchShared x g) (Away errand) came = absurd came
comes_pages old new (request.LatchShared x g) (Flushed clean) came = absurd came
comes_pages old new (request.LatchExclusive x g) (Acts y) came = absurd came
comes_pages old new (request.LatchExclusive x g) (Idle seat) came = absurd came
comes_pages old new (request.LatchExclusive x g) (Leaves y) came = absurd came
comes_pages old new (request.LatchExclusive x g) (Pinned y h) came = absurd came
comes_pages old new (request.LatchExclusive x g) (Opened y h) came = absurd came
comes_pages old new (request.LatchExclusive x g) (Joined y) came = absurd came
comes_pages old new (request.LatchExclusive x g) (Shared y h) came = absurd came
comes_pages old new (request.LatchExclusive x g) (Exclusive y h) came = came.does.page_bytes
comes_pages old new (request.LatchExclusive x g) (Away errand) came = absurd came
comes_pages old new (request.LatchExclusive x g) (Flushed clean) came = absurd came
comes_pages old new (request.UnlatchShared x g) (Acts y) came = absurd came
comes_pages old new (request.UnlatchShared x g) (Idle seat) came = absurd came
comes_pages old new (request.UnlatchShared x g) (Leaves y) came = absurd came
comes_pages old new (request.UnlatchShared x g) (Pinned y h) came = came.does.page_bytes
comes_pages old new (request.UnlatchShared x g) (Opened y h) came = absurd came
comes_pages old new (request.UnlatchShared x g) (Joined y) came = absurd came
comes_pages old new (request.UnlatchShared x g) (Shared y h) came = absurd came
comes_pages old new (request.UnlatchShared x g) (Exclusive y h) came = absurd came
comes_pages old new (request.UnlatchShared x g) (Away errand) came = absurd came
comes_pages old new (request.UnlatchShared x g) (Flushed clean) came = absurd came
comes_pages old new (request.UnlatchExclusive x g) (Acts y) came = absurd came
comes_pages old new (request.UnlatchExclusive x g) (Idle seat) came = absurd came
comes_pages old new (request.UnlatchExclusive x g) (Leaves y) came = absurd came
comes_pages old new (request.UnlatchExclusive x g) (Pinned y h) came = came.does.page_bytes
comes_pages old new (request.UnlatchExclusive x g) (Opened y h) came = absurd came
comes_pages old new (request.UnlatchExclusive x g) (Joined y) came = absurd came
comes_pages old new (request.UnlatchExclusive x g) (Shared y h) came = absurd came
comes_pages old new (request.UnlatchExclusive x g) (Exclusive y h) came = absurd came
comes_pages old new (request.UnlatchExclusive x g) (Away errand) came = absurd came
comes_pages old new (request.UnlatchExclusive x g) (Flushed clean) came = absurd came
comes_pages old new (request.Choose x branch) (Acts y) came = came.does.page_bytes
comes_pages old new (request.Choose x branch) (Idle seat) came = absurd came
comes_pages old new (request.Choose x branch) (Leaves y) came = absurd came
comes_pages old new (request.Choose x branch) (Pinned y h) came = absurd came
comes_pages old new (request.Choose x branch) (Opened y h) came = absurd came
comes_pages old new (request.Choose x branch) (Joined y) came = absurd came
comes_pages old new (request.Choose x branch) (Shared y h) came = absurd came
comes_pages old new (request.Choose x branch) (Exclusive y h) came = absurd came
comes_pages old new (request.Choose x branch) (Away errand) came = absurd came
comes_pages old new (request.Choose x branch) (Flushed clean) came = absurd came
comes_pages old new (request.Finish x) (Acts y) came = absurd came
comes_pages old new (request.Finish x) (Idle seat) came = came.does.page_bytes
comes_pages old new (request.Finish x) (Leaves y) came = absurd came
comes_pages old new (request.Finish x) (Pinned y h) came = absurd came
comes_pages old new (request.Finish x) (Opened y h) came = absurd came
comes_pages old new (request.Finish x) (Joined y) came = absurd came
comes_pages old new (request.Finish x) (Shared y h) came = absurd came
comes_pages old new (request.Finish x) (Exclusive y h) came = absurd came
comes_pages old new (request.Finish x) (Away errand) came = absurd came
comes_pages old new (request.Finish x) (Flushed clean) came = absurd came
comes_pages old new (request.End x) (Acts y) came = absurd came
comes_pages old new (request.End x) (Idle seat) came = came.does.page_bytes
comes_pages old new (request.End x) (Leaves y) came = absurd came
comes_pages old new (request.End x) (Pinned y h) came = absurd came
comes_pages old new (request.End x) (Opened y h) came = absurd came
comes_pages old new (request.End x) (Joined y) came = absurd came
comes_pages old new (request.End x) (Shared y h) came = absurd came
comes_pages old new (request.End x) (Exclusive y h) came = absurd came
comes_pages old new (request.End x) (Away errand) came = absurd came
comes_pages old new (request.End x) (Flushed clean) came = absurd came
comes_pages old new (request.GiveBack x g) (Acts y) came = absurd came
comes_pages old new (request.GiveBack x g) (Idle seat) came = absurd came
comes_pages old new (request.GiveBack x g) (Leaves y) came = gives_pages old new x g y came
comes_pages old new (request.GiveBack x g) (Pinned y h) came = absurd came
comes_pages old new (request.GiveBack x g) (Opened y h) came = absurd came
comes_pages old new (request.GiveBack x g) (Joined y) came = absurd came
comes_pages old new (request.GiveBack x g) (Shared y h) came = absurd came
comes_pages old new (request.GiveBack x g) (Exclusive y h) came = absurd came
comes_pages old new (request.GiveBack x g) (Away errand) came = absurd came
comes_pages old new (request.GiveBack x g) (Flushed clean) came = absurd came
comes_pages old new (request.Answer returned) (Acts y) came = absurd came
comes_pages old new (request.Answer returned) (Idle seat) came = absurd came
comes_pages old new (request.Answer returned) (Leaves y) came = duty_pages old new returned.duty returned.image (is_ok returned.answer) (answered.Lost y) came
comes_pages old new (request.Answer returned) (Pinned y h) came = duty_pages old new returned.duty returned.image (is_ok returned.answer) (answered.Got y h) came
comes_pages old new (request.Answer returned) (Opened y h) came = duty_pages old new returned.duty returned.image (is_ok returned.answer) (answered.Opened y h) came
comes_pages old new (request.Answer returned) (Joined y) came = duty_pages old new returned.duty returned.image (is_ok returned.answer) (answered.Joined y) came
comes_pages old new (request.Answer returned) (Shared y h) came = absurd came
comes_pages old new (request.Answer returned) (Exclusive y h) came = absurd came
comes_pages old new (request.Answer returned) (Away errand) came = duty_pages old new returned.duty returned.image (is_ok returned.answer) (answered.Away errand) came
comes_pages old new (request.Answer returned) (Flushed clean) came = duty_pages old new returned.duty returned.image (is_ok returned.answer) (answered.Flushed clean) came
comes_pages old new (request.AnswerJoin returned) (Acts y) came = absurd came
comes_pages old new (request.AnswerJoin returned) (Idle seat) came = absurd came
comes_pages old new (request.AnswerJoin returned) (Leaves y) came = duty_pages old new returned.duty returned.image (is_ok returned.answer) (answered.Lost y) came
comes_pages old new (request.AnswerJoin returned) (Pinned y h) came = absurd came
comes_pages old new (request.AnswerJoin returned) (Opened y h) came = absurd came
comes_pages old new (request.AnswerJoin returned) (Joined y) came = duty_pages old new returned.duty returned.image (is_ok returned.answer) (answered.Joined y) came
comes_pages old new (request.AnswerJoin returned) (Shared y h) came = absurd came
comes_pages old new (request.AnswerJoin returned) (Exclusive y h) came = absurd came
comes_pages old new (request.AnswerJoin returned) (Away errand) came = duty_pages old new returned.duty returned.image (is_ok returned.answer) (answered.Away errand) came
comes_pages old new (request.AnswerJoin returned) (Flushed clean) came = absurd came
comes_pages old new (request.Flush page) (Acts y) came = absurd came
comes_pages old new (request.Flush page) (Idle seat) came = absurd came
comes_pages old new (request.Flush page) (Leaves y) came = absurd came
comes_pages old new (request.Flush page) (Pinned y h) came = absurd came
comes_pages old new (request.Flush page) (Opened y h) came = absurd came
comes_pages old new (request.Flush page) (Joined y) came = absurd came
comes_pages old new (request.Flush page) (Shared y h) came = absurd came
comes_pages old new (request.Flush page) (Exclusive y h) came = absurd came
comes_pages old new (request.Flush page) (Away errand) came = came.does.page_bytes
comes_pages old new (request.Flush page) (Flushed clean) came = absurd came
comes_pages old new (request.FlushNext number) (Acts y) came = absurd came
comes_pages old new (request.FlushNext number) (Idle seat) came = absurd came
comes_pages old new (request.FlushNext number) (Leaves y) came = absurd came
comes_pages old new (request.FlushNext number) (Pinned y h) came = absurd came
comes_pages old new (request.FlushNext number) (Opened y h) came = absurd came
comes_pages old new (request.FlushNext number) (Joined y) came = absurd came
comes_pages old new (request.FlushNext number) (Shared y h) came = absurd came
comes_pages old new (request.FlushNext number) (Exclusive y h) came = absurd came
comes_pages old new (request.FlushNext number) (Away errand) came = came.does.page_bytes
comes_pages old new (request.FlushNext number) (Flushed clean) came = absurd came

pub performs_pages : (old : Parts) (asked : Request) (response : Response) (new : Parts) → Performs old asked response new
    → new.vault.page_bytes ≡ old.vault.page_bytes
performs_pages old asked response new p = comes_pages old.vault new.vault asked response.answer p.answer

pub renews_pages : (old new : vault.Parts) → Renews old new → new.page_bytes ≡ old.page_bytes
renews_pages old new r = ap (λ (v : vault.Parts). v.page_bytes) r.parts
