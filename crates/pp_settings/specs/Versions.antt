-- The two versions of a settings text.
use Rattle.std.specs.Prelude.{ℕ, ◌==◌, pos, Bool, false, if◌then◌else◌, Option, Some, codes}
use Rattle.toml.specs.Data.{Data, integer, Members, get_member}
use Rattle.pp_settings.specs.declared.version.TextVersion.{TextVersion}
use Rattle.pp_settings.specs.declared.version.TextVersion.TheVariants.{One, Two}
use Rattle.pp_settings.specs.Limits.{page_numbers, first_page_numbers}

-- There is a value, and it is the whole number 2.
abbrev pub is_two : Option Data → Bool
is_two (Some (integer (pos n))) = n == 2
is_two _ = false

-- A document is of version 2 exactly where its key `version` holds the whole number 2.
abbrev pub is_second : Members → Bool
is_second ms = is_two (get_member (codes "version") ms)

-- Every other document is of version 1.
abbrev pub version_of : Members → TextVersion
version_of ms = if is_second ms then Two else One

-- Pages are numbered below it.
abbrev pub page_limit : TextVersion → ℕ
page_limit One = first_page_numbers
page_limit Two = page_numbers
