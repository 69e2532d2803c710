-- What a program prints of a refusal.
use Rattle.std.specs.Prelude.{ℕ, List, [], ◌++◌, codes}
use Rattle.std.specs.Fmt.{decimal}

-- What a refusal is about: nothing, a key of the document, a key of a region, the document, a region, a place, or a
-- worker.
pub data Matter : Type 0 where
  nothing : Matter
  key : (name : List ℕ) → Matter
  region_key : (region : ℕ) (name : List ℕ) → Matter
  top : Matter
  region : (number : ℕ) → Matter
  at : (place : ℕ) → Matter
  worker : (number : ℕ) → Matter

-- A refusal's number, its name, and what it is about.
pub record Row : Type 0 where
  pub number : ℕ
  pub name : List ℕ
  pub about : Matter

-- The row of these.
abbrev pub row : ℕ → List ℕ → Matter → Row
row number name about = record { number = number; name = name; about = about }

-- Want of memory, which is about nothing. (In settings it has a number of its own.)
abbrev pub out_of_memory : Row
out_of_memory = row 19 (codes "OutOfMemory") nothing

-- The words that follow the name.
abbrev pub matter_text : Matter → List ℕ
matter_text nothing = []
matter_text (key name) = codes " " ++ name
matter_text (region_key i name) = codes " region " ++ decimal i ++ codes " " ++ name
matter_text top = codes " top"
matter_text (region i) = codes " region " ++ decimal i
matter_text (at place) = codes " at " ++ decimal place
matter_text (worker w) = codes " worker " ++ decimal w

-- The number, the name, and what follows, as in `4 Range region 0 name` and `31 NotesShort at 8`.
abbrev pub refusal_text : Row → List ℕ
refusal_text r = decimal r.number ++ codes " " ++ r.name ++ matter_text r.about
