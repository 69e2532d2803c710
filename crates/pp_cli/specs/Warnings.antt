-- What standard error has before a run: warnings of a key that stands twice in one of its files, and of a device that isn't of
-- its settings.
use Rattle.std.specs.Prelude.{◌≡◌, ◌⊎◌, ◌*◌, ◌-◌, ◌==◌, ℕ, List, [], ◌++◌, Option, None, Some, codes, if◌then◌else◌}
use Rattle.std.specs.Fmt.{decimal}
use Rattle.pp_shown.specs.Shown.{shown_path}
use Rattle.pp_judge.specs.declared.device.DeviceSize.{DeviceSize}
use Rattle.pp_words.specs.CommandLine.{Text}
use Rattle.pp_explain.specs.Paragraphs.{IsAbout}
use Rattle.pp_cli.specs.Telling.{IsBegun}
use Rattle.pp_cli.specs.declared.looking.Look.{Look}

-- how many bytes a device of this size has
abbrev pub bytes_of : DeviceSize → ℕ
bytes_of size = size.pages * size.page_bytes

-- the warning that a device has so many bytes
abbrev pub other_length_line : (device : Text) → DeviceSize → (bytes : ℕ) → Text
other_length_line device size bytes =
    codes "warning: " ++ (shown_path device ++ (codes " has " ++ (decimal bytes ++ (codes " bytes, and " ++ (decimal size.pages
    ++ (codes " pages of " ++ (decimal size.page_bytes ++ (codes " bytes are " ++ (decimal (bytes_of size)
    ++ codes "\n")))))))))

-- the same where it is to have another number
abbrev pub length_line : (device : Text) → DeviceSize → (bytes : Option ℕ) → Text
length_line device size None = []
length_line device size (Some bytes) = if bytes == bytes_of size then [] else other_length_line device size bytes

-- the warning that a head names this page, where it is to be another one's
abbrev pub head_line : (device : Text) → (page : ℕ) → (number : Option ℕ) → Text
head_line device page None = []
head_line device page (Some number) =
    if number == page then []
    else codes "warning: " ++ (shown_path device ++ (codes " has page " ++ (decimal number ++ (codes " where page " ++ (decimal page
    ++ codes " of these settings is\n")))))

-- all warnings of a device, where this was found in it: of its length, and of the heads of its first and its last page
abbrev pub warning_text : (device : Text) → DeviceSize → Look → Text
warning_text device size look = length_line device size look.bytes ++ (head_line device 0 look.first
    ++ head_line device (size.pages - 1) look.last)

-- a warning of a key that stands twice in one of these files, or none
abbrev pub IsRepeat : (files : List Text) → (repeat : List ℕ) → Type 0
IsRepeat files repeat = (repeat ≡ []) ⊎ IsAbout files repeat

-- what there is to warn of before a run: a key that stands twice in one of its files, then the device
pub record IsWarning (files : List Text) (device : Text) (text : List ℕ) : Type 0 where
  pub repeat : List ℕ
  pub size : DeviceSize
  pub look : Look
  pub twice : IsRepeat files repeat
  pub is : text ≡ repeat ++ warning_text device size look

-- standard error has more before a run: nothing, or a front of what there is to warn of
abbrev pub IsWarned : {E : Type 0} → (E → Option (List ℕ)) → (files : List Text) → (device : Text) → (err err-after : E) → Type 0
IsWarned errors_of files device err err-after = (err-after ≡ err)
    ⊎ ((text : List ℕ) × IsWarning files device text × IsBegun (errors_of err) (errors_of err-after) text)
