-- Where the searches for a page that isn't busy stand, and what they know: busy pages that were passed over once aren't
-- looked at again.
use Rattle.std.specs.Prelude.{◌≡◌, ◌≢◌, ℕ, ◌<◌, ◌≤◌, Bool, ◌||◌, List, length, slice_index, slice_set, nat_lt, if◌then◌else◌, Option, Some, IsTrue, IsFalse}
use Rattle.pp_arc.specs.declared.answer.Answer.{Answer}
use Rattle.pp_arc.specs.declared.answer.Answer.TheVariants.{Evict}
use Rattle.pp_arc.specs.declared.list.List.{List as ListName}
use Rattle.pp_arc.specs.declared.list.List.TheVariants.{T1}
use Rattle.pp_arc.specs.Pages.{contains, behind}
use Rattle.pp_arc.specs.FourLists.{FourLists}

pub record SearchMarks : Type 0 where
  -- the page of T1 that a search passed over last, or the next one behind it where that one left, and that of T2;
  -- none: the next search begins at the last page
  pub t1 : Option ℕ
  pub t2 : Option ℕ
  -- at place x the number that page x got as a search passed over it; 0 if none did since x last came to the front of its list
  pub numbers : List ℕ
  -- at place x the number of page x, if it stands in T1 and was named as freed after a search passed over it; else 0
  pub freed_t1 : List ℕ
  -- the same of T2
  pub freed_t2 : List ℕ

-- the number of a page
abbrev pub number_of : SearchMarks → ℕ → ℕ
number_of k x = slice_index k.numbers x

-- the mark in the list of this name; only T1 and T2 are searched
abbrev pub mark_of : SearchMarks → ListName → Option ℕ
mark_of k T1 = k.t1
mark_of k _ = k.t2

-- the numbers of the pages of this list that were freed
abbrev pub freed_of : SearchMarks → ListName → List ℕ
freed_of k T1 = k.freed_t1
freed_of k _ = k.freed_t2

-- A mark is a page of the list that has a number.
pub record IsMarkOf (xs numbers : List ℕ) (m : ℕ) : Type 0 where
  pub stands : IsTrue (contains xs m)
  pub numbered : 0 < slice_index numbers m

-- The numbers rise towards the end of the list: behind a page that has one, each page has a higher one.
abbrev pub NumbersRise : List ℕ → List ℕ → Type 0
NumbersRise xs numbers = (x y : ℕ) → 0 < slice_index numbers x → IsTrue (contains (behind xs x) y)
    → slice_index numbers x < slice_index numbers y

-- What is known of one list.
pub record KnowsList (xs : List ℕ) (at : Option ℕ) (numbers free : List ℕ) (busy : ℕ → Bool) : Type 0 where
  pub rise : NumbersRise xs numbers
  -- a page that was passed over and isn't busy was freed
  pub passed : (y : ℕ) → IsTrue (contains xs y) → 0 < slice_index numbers y → IsFalse (busy y)
      → slice_index free y ≡ slice_index numbers y
  -- a freed page stands in the list and has its number
  pub freed : (y : ℕ) → 0 < slice_index free y → IsTrue (contains xs y) × (slice_index free y ≡ slice_index numbers y)
  pub mark : (m : ℕ) → at ≡ Some m → IsMarkOf xs numbers m

-- What is known of T1 and T2. It stands apart from the four lists, so that names and the target may change.
pub record KnowsCached (pages : ℕ) (xs ys : List ℕ) (k : SearchMarks) (busy : ℕ → Bool) : Type 0 where
  -- there is a number for each page, and room to free it
  pub room : pages ≤ length k.numbers
  pub rooms : (length k.freed_t1 ≡ length k.numbers) × (length k.freed_t2 ≡ length k.numbers)
  -- a page that isn't cached has none
  pub fresh : (x : ℕ) → IsFalse (contains xs x || contains ys x) → number_of k x ≡ 0
  pub t1 : KnowsList xs k.t1 k.numbers k.freed_t1 busy
  pub t2 : KnowsList ys k.t2 k.numbers k.freed_t2 busy

-- The marks are right for these lists while the pages of `busy` may not leave: all that a search leaves out is busy.
abbrev pub KnowsBusy : FourLists → SearchMarks → (ℕ → Bool) → Type 0
KnowsBusy s k busy = KnowsCached s.pages s.t1 s.t2 k busy

-- no page of this list was freed
abbrev pub NoneFreed : SearchMarks → ListName → Type 0
NoneFreed k list = (x : ℕ) → slice_index (freed_of k list) x ≡ 0

-- x is the least recent page of this list that was freed: the one of the highest number
abbrev pub IsLastFreed : SearchMarks → ListName → ℕ → Type 0
IsLastFreed k list x = (0 < slice_index (freed_of k list) x)
    × ((y : ℕ) → slice_index (freed_of k list) y ≤ slice_index (freed_of k list) x)

-- the page has no number, and isn't among the freed ones
abbrev pub without_number : SearchMarks → ℕ → SearchMarks
without_number k x =
    if nat_lt 0 (number_of k x)
    then record k {
      numbers = slice_set k.numbers x 0;
      freed_t1 = slice_set k.freed_t1 x 0;
      freed_t2 = slice_set k.freed_t2 x 0;
    }
    else k

-- the victim of an answer has no number
abbrev pub without_victim : SearchMarks → Answer → SearchMarks
without_victim k (Evict v) = without_number k v
without_victim k _ = k

-- the mark of this list is this one
abbrev pub with_mark : SearchMarks → ListName → Option ℕ → SearchMarks
with_mark k T1 mark = record k { t1 = mark }
with_mark k _ mark = record k { t2 = mark }

-- x is freed in this list with this number, or with 0 it isn't any more
abbrev pub with_freed : SearchMarks → ListName → ℕ → ℕ → SearchMarks
with_freed k T1 x number = record k { freed_t1 = slice_set k.freed_t1 x number }
with_freed k _ x number = record k { freed_t2 = slice_set k.freed_t2 x number }

-- a search passes over x: it gets this number, and the mark stands at it
abbrev pub passed : SearchMarks → ListName → ℕ → ℕ → SearchMarks
passed k list x number = with_mark (record k { numbers = slice_set k.numbers x number }) list (Some x)

-- What a request found before any list changed: the marks are right, and none is at the victim.
pub record FoundIn (s : FourLists) (k : SearchMarks) (busy : ℕ → Bool) (answer : Answer) : Type 0 where
  pub knows : KnowsBusy s k busy
  pub t1 : (v : ℕ) → answer ≡ Evict v → k.t1 ≢ Some v
  pub t2 : (v : ℕ) → answer ≡ Evict v → k.t2 ≢ Some v
