-- What a turn of the flusher does.
use Rattle.std.specs.Prelude.{◌≡◌, ◌⊎◌, ℕ, ◌+◌, ◌<◌, List}
use Rattle.pp_device.specs.Answers.{Answer as DeviceAnswer}
use Rattle.pp_pool.specs.declared.request.Request.{Request}
use Rattle.pp_pool.specs.declared.response.Response.{Response}
use Rattle.pp_pool.specs.declared.turned.Turned.{Turned}
use Rattle.pp_pool.specs.declared.turned.Turned.TheVariants.{Broken}
use Rattle.pp_pool.specs.declared.flusher.Flusher.{Flusher}
use Rattle.pp_pool.specs.Flushings.{AsksFlush, ends_in, failures_in, from_after, flushing_after, flush_turned, most_ended}

-- One request is made of the site; the counts grow by its event, and what it gives is in hand.
pub record FlushTurns {S D : Type 0} (gives : S → Request → Response → S → Type 0)
    (reads : D → ℕ → List ℕ → DeviceAnswer → List ℕ → D → Type 0)
    (writes : D → ℕ → List ℕ → DeviceAnswer → D → Type 0) (calls failures : D → ℕ) (old : Flusher S D)
    (turned : Turned) (new : Flusher S D) : Type 0 where
  pub room : old.ended < most_ended
  pub asked : Request
  pub response : Response
  pub asks : AsksFlush reads writes calls failures old.flushing old.from old.device asked new.device
  pub given : gives old.site asked response new.site
  pub ended : new.ended ≡ old.ended + ends_in response.event
  pub failed : new.failed ≡ old.failed + failures_in response.event
  pub from : new.from ≡ from_after old.from response.event
  pub flushing : new.flushing ≡ flushing_after response.answer
  pub turned_is : turned ≡ flush_turned response.answer

-- No more flushes can be counted: nothing is asked, and nothing has changed.
pub record IsFull {S D : Type 0} (old : Flusher S D) (turned : Turned) (new : Flusher S D) : Type 0 where
  pub full : old.ended ≡ most_ended
  pub broken : turned ≡ Broken
  pub same : new ≡ old

abbrev pub FlushTurnIs : {S D : Type 0} → (S → Request → Response → S → Type 0)
    → (D → ℕ → List ℕ → DeviceAnswer → List ℕ → D → Type 0) → (D → ℕ → List ℕ → DeviceAnswer → D → Type 0)
    → (D → ℕ) → (D → ℕ) → Flusher S D → Turned → Flusher S D → Type 0
FlushTurnIs gives reads writes calls failures old turned new =
    FlushTurns gives reads writes calls failures old turned new ⊎ IsFull old turned new
