-- An end of a device whose power may fail.
use Rattle.std.specs.Prelude.{◌≡◌, ℕ, ◌+◌, is_err, List, if◌then◌else◌}
use Rattle.std.proofs.Common.{ap}
use Rattle.pp_device.specs.Answers.{Answer}
use Rattle.pp_durable.specs.Syncing.{SyncAnswer, SyncCounts, counted_sync}

-- How many calls of this end were made, and how many of these failed; and its syncs.
pub record EndCounts : Type 0 where
  pub calls : ℕ
  pub failures : ℕ
  pub syncs : SyncCounts

-- The end after one more call, which was answered so.
abbrev pub counted : EndCounts → Answer → EndCounts
counted e answer =
    record e { calls = e.calls + 1; failures = if is_err answer then e.failures + 1 else e.failures }

-- A reading and a writing are counted. What they give, all ends decide together.
abbrev pub EndReads : EndCounts → ℕ → List ℕ → Answer → List ℕ → EndCounts → Type 0
EndReads e page slice answer given f = f ≡ counted e answer

abbrev pub EndWrites : EndCounts → ℕ → List ℕ → Answer → EndCounts → Type 0
EndWrites e page slice answer f = f ≡ counted e answer

-- A sync is counted.
abbrev pub EndSyncs : EndCounts → SyncAnswer → EndCounts → Type 0
EndSyncs e answer f = f ≡ record e { syncs = counted_sync e.syncs answer }

-- A reading is no sync: the law of a durable device.
pub reads-keep : (d e : EndCounts) (page : ℕ) (slice given : List ℕ) (answer : Answer)
    → EndReads d page slice answer given e → (e.syncs.asked ≡ d.syncs.asked) × (e.syncs.failed ≡ d.syncs.failed)
reads-keep d e page slice given answer r = (ap (λ x. x.syncs.asked) r, ap (λ x. x.syncs.failed) r)

-- A writing is no sync: the law of a durable device.
pub writes-keep : (d e : EndCounts) (page : ℕ) (image : List ℕ) (answer : Answer) → EndWrites d page image answer e
    → (e.syncs.asked ≡ d.syncs.asked) × (e.syncs.failed ≡ d.syncs.failed)
writes-keep d e page image answer r = (ap (λ x. x.syncs.asked) r, ap (λ x. x.syncs.failed) r)
