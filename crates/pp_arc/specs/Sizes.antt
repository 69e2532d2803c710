-- What a host does to the lists beside the figure: it learns which name leaves, gives up a page, renames one, and changes
-- the sizes.
use Rattle.std.specs.Prelude.{ℕ, ◌+◌, ◌-◌, ◌*◌, min, Bool, false, ◌==◌, length, take, Option, None, Some, is_none}
use Rattle.std.specs.Prelude.{if◌then◌else◌}
use Rattle.pp_arc.specs.Pages.{last_page}
use Rattle.pp_arc.specs.FourLists.{FourLists, recent_count, total_count, place}
use Rattle.pp_arc.specs.declared.list.List.{List as ListName}
use Rattle.pp_arc.specs.Figure.{forget, victim, with_remembered}
use Rattle.pp_arc.specs.Links.{with_front}

-- The remembered name that the request for x drops, if it drops one. A page that stands in no list takes the place of
-- the last name of B1 where T1 and B1 have c pages together, else that of B2 where the four lists have 2c.
abbrev pub dropped_name : FourLists → ℕ → Option ℕ
dropped_name s x =
    if is_none (place s x)
    then
    (if recent_count s == s.c then last_page s.b1
    else (if total_count s == 2 * s.c then last_page s.b2 else None))
    else None

-- The page that leaves where the cache must give up one, with no page coming in: REPLACE's victim.
abbrev pub given_up : FourLists → (ℕ → Bool) → Option ℕ
given_up s busy = victim s false busy

-- That page leaves the cache and is remembered; where each cached page is busy nothing changes.
abbrev pub after_giving_up : FourLists → Option ℕ → FourLists
after_giving_up s None = s
after_giving_up s (Some v) = with_remembered s v

-- B1 and then B2 keep their first names, so many as a cache of c pages has room for.
abbrev pub with_names : FourLists → ℕ → FourLists
with_names s c =
    let b1 = take (c - length s.t1) s.b1 in
    record s { b1 = b1; b2 = take (2 * c - (length s.t1 + length s.t2 + length b1)) s.b2 }

-- The room for more pages keeps all; with less, the target falls to c at most, and B1 and then B2 lose their last
-- names until the bounds of a cache of c pages hold. The cached pages stay: there are c of them at most.
abbrev pub resized : FourLists → ℕ → FourLists
resized s c = record (with_names s c) { c = c; target = min s.target c }

-- The same lists, of page numbers below `pages`.
abbrev pub with_pages : FourLists → ℕ → FourLists
with_pages s pages = record s { pages = pages }

-- The same lists in a larger directory: the cache has the size of that one, and there are as many page numbers.
abbrev pub moved_into : FourLists → FourLists → FourLists
moved_into s larger = record s { c = larger.c; pages = larger.pages }

-- The page stays in the list in which it stood, at its front and under its new name.
abbrev pub renamed_in : Option ListName → FourLists → ℕ → FourLists
renamed_in None s new = s
renamed_in (Some list) s new = with_front s list new

-- What stood under the name `old` stands under the name `new` from now on, at the front of the same list. What `new`
-- named is forgotten.
abbrev pub renamed : FourLists → ℕ → ℕ → FourLists
renamed s old new = renamed_in (place s old) (forget (forget s old) new) new
