-- What a device last told of each page.
use Rattle.std.specs.Prelude.{◌≡◌, ℕ, Bool, true, ◌==◌, List, Ok, Err, if◌then◌else◌}
use Rattle.pp_device.specs.Answers.{Answer}
use Rattle.pp_device.specs.Honest.{IsHonest}
use Rattle.pp_vault.specs.declared.tokens.Duty.{Duty}
use Rattle.pp_vault.specs.declared.tokens.Duty.TheVariants.{Read, Write, Flush}
use Rattle.pp_vault.specs.Carrying.{CarriesOut}

-- The page that the device is asked for.
abbrev pub duty_page : Duty → ℕ
duty_page (Read w slot page) = page
duty_page (Write w slot page victim) = victim
duty_page (Flush page) = page

-- What is told of each page, after this image was told of one.
abbrev pub told_with : (told : ℕ → List ℕ) → (page : ℕ) → (image : List ℕ) → ℕ → List ℕ
told_with told page image other = if other == page then image else told other

-- The same after an errand was carried out: a call that is done tells the image that came, or that was written, and one
-- that fails tells nothing.
abbrev pub told_after : (told : ℕ → List ℕ) → Duty → Answer → (given : List ℕ) → ℕ → List ℕ
told_after told duty (Ok done) given = told_with told (duty_page duty) given
told_after told duty (Err why) given = told

-- Of a device that keeps every byte, what it told is what it keeps: a reading gives that, and a writing changes it. It
-- stays one of these devices.
pub record TellsWhatItKeeps {D : Type 0} (are : D → Bool) (kept : D → ℕ → List ℕ) (duty : Duty) (d : D)
    (answer : Answer) (given : List ℕ) (e : D) : Type 0 where
  pub kept_is : (page : ℕ) → kept e page ≡ told_after (kept d) duty answer given page
  pub read_is : (w slot page : ℕ) → duty ≡ Read w slot page → answer ≡ Ok tt → given ≡ kept d page
  pub stays : are e ≡ true

abbrev pub HonestTellsWhatItKeeps : {D : Type 0} → (D → ℕ → List ℕ → Answer → List ℕ → D → Type 0)
    → (D → ℕ → List ℕ → Answer → D → Type 0) → Type 0
HonestTellsWhatItKeeps {D = D} reads writes =
    (are : D → Bool) (kept : D → ℕ → List ℕ) → IsHonest are reads writes kept
    → (duty : Duty) (d e : D) (image given : List ℕ) (answer : Answer) → are d ≡ true
    → CarriesOut reads writes duty d image answer given e → TellsWhatItKeeps are kept duty d answer given e
