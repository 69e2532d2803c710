-- What becomes of an image, by what the log answered.
use Rattle.std.proofs.Common.{◌≡◌, ℕ, max, List, true, false, refl}
use Rattle.std.specs.Prelude.{Ok, Err, is_err}
use Rattle.pp_device.specs.declared.fault.Fault.TheVariants.{Write}
use Rattle.pp_device.specs.Answers.{Answer}
use Rattle.pp_durable.specs.Syncing.{SyncAnswer}
use Rattle.pp_durable.specs.Ahead.{WritesOnce}

-- The log failed, and the device stays.
pub once-held : {D : Type 0} (writes : D → ℕ → List ℕ → Answer → D → Type 0) (told : SyncAnswer) (number newest : ℕ) (d : D)
    (page : ℕ) (image : List ℕ) → is_err told ≡ true
    → WritesOnce writes told number newest d page image (Err Write) d newest
once-held writes (Ok _) number newest d page image is = cc
once-held writes (Err _) number newest d page image is = (refl, refl, refl)

-- The log is there, and the device writes.
pub once-handed : {D : Type 0} (writes : D → ℕ → List ℕ → Answer → D → Type 0) (told : SyncAnswer) (number newest : ℕ) (d e : D)
    (page : ℕ) (image : List ℕ) (answer : Answer) → is_err told ≡ false → writes d page image answer e
    → WritesOnce writes told number newest d page image answer e (max newest number)
once-handed writes (Ok _) number newest d e page image answer is done = (done, refl)
once-handed writes (Err _) number newest d e page image answer is done = cc
