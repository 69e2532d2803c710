-- What each page holds: the body of its image, wherever that is.
use Rattle.std.specs.Prelude.{◌≡◌, ℕ, ◌==◌, Option, None, Some, unwrap_or, List, [], ◌∷◌, if◌then◌else◌}
use Rattle.pp_model.specs.Pool.{State}
use Rattle.pp_model.specs.Ready.{Standing, ready_at}
use Rattle.pp_device.specs.Image.{body_of}
use Rattle.pp_vault.specs.declared.tokens.Duty.{Duty}
use Rattle.pp_vault.specs.declared.tokens.Duty.TheVariants as duty
use Rattle.pp_vault.specs.declared.guards.Guard.{Guard}
use Rattle.pp_vault.specs.declared.guards.Guard.TheVariants.{Write}
use Rattle.pp_vault.specs.declared.stage.Stage.{Stage}
use Rattle.pp_vault.specs.declared.stage.Stage.TheVariants.{Out, Back}
use Rattle.pp_vault.specs.declared.stage.Hand.{Hand}
use Rattle.pp_vault.specs.declared.hands.Hands.{Hands}
use Rattle.pp_vault.specs.Parts.{Parts}
use Rattle.pp_vault.specs.StandsFor.{image_in}

-- ---- words

-- The first if it is there, else the second.
abbrev pub or_other : {T : Type 0} → Option T → Option T → Option T
or_other None other = other
or_other (Some x) other = Some x

-- What the first place of the list gives that gives something.
abbrev pub first_given : {T U : Type 0} → (T → Option U) → List T → Option U
first_given gives [] = None
first_given gives (x ∷ xs) = or_other (gives x) (first_given gives xs)

-- ---- where an image is

-- The image of the page with a guard that has it latched X.
abbrev pub written_by : (page : ℕ) → Option Guard → Option (List ℕ)
written_by page (Some (Write guard)) = if guard.page == page then Some guard.image else None
written_by page _ = None

-- The image of the page with an errand that writes it back as a victim.
abbrev pub victim_of : (page : ℕ) → Duty → (image : List ℕ) → Option (List ℕ)
victim_of page (duty.Write w slot loaded victim) image = if victim == page then Some image else None
victim_of page _ image = None

-- The same of a worker's token: the errand may be still to be carried out, or have been.
abbrev pub victim_by : (page : ℕ) → Stage → Option (List ℕ)
victim_by page (Out errand) = victim_of page errand.duty errand.image
victim_by page (Back returned) = victim_of page returned.duty returned.image
victim_by page _ = None

-- The image of the page in a hand, with a guard or with the errand.
abbrev pub written_in : (page : ℕ) → Option Hand → Option (List ℕ)
written_in page None = None
written_in page (Some hand) = first_given (written_by page) hand.guards

abbrev pub victim_in : (page : ℕ) → Option Hand → Option (List ℕ)
victim_in page None = None
victim_in page (Some hand) = victim_by page hand.stage

-- The image in the frame where a page stands.
abbrev pub standing_image : Parts → Option Standing → Option (List ℕ)
standing_image v None = None
standing_image v (Some x) = image_in v.images x.frame

-- The image in the frame of the page, where it is ready: cached, not being loaded, and not latched X.
abbrev pub ready_image : Parts → State → (page : ℕ) → Option (List ℕ)
ready_image v s page = standing_image v (ready_at s page)

-- ---- content

-- The image of the page in the vault and its hands: with the guard that has it latched X; else with the errand that writes
-- it back as a victim; else in its frame, where it is ready there.
abbrev pub image_here : Parts → State → Hands → (page : ℕ) → Option (List ℕ)
image_here v s hands page =
    or_other (first_given (written_in page) hands.workers)
    (or_other (first_given (victim_in page) hands.workers) (ready_image v s page))

-- The content of the page: the body of that image, else of the one that the device last told.
abbrev pub content : Parts → State → Hands → (told : ℕ → List ℕ) → (page : ℕ) → List ℕ
content v s hands told page = body_of (unwrap_or (image_here v s hands page) (told page))

-- No content changes. (A content is a function from pages to bodies.)
abbrev pub ContentsStay : (content next : ℕ → List ℕ) → Type 0
ContentsStay content next = (page : ℕ) → next page ≡ content page

-- The content of this page is set to the body, and no other changes.
abbrev pub ContentIsSet : (page : ℕ) → (body : List ℕ) → (content next : ℕ → List ℕ) → Type 0
ContentIsSet page body content next =
    (other : ℕ) → next other ≡ (if other == page then body else content other)
