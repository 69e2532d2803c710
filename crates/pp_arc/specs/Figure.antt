-- ARC's figure: what a request does, over four plain lists.
--
-- It restates figure 4 of Megiddo and Modha, "ARC: A Self-Tuning, Low Overhead Replacement Cache", FAST 2003,
-- case by case, with these choices. The restatement is the definition here.
-- The quotients by which the target moves are whole numbers, rounded down.
-- REPLACE runs only where the cache is full, since a frame can stand free while names are remembered.
-- A busy page is passed over in the search for a victim, and where the chosen list has none but busy pages,
-- the other list gives the victim.
-- Where each page that might leave is busy, the answer is AllBusy, and nothing has changed.
-- `forget` and `bring_back` are no part of that figure.
use Rattle.std.specs.Prelude.{ℕ, ◌+◌, ◌-◌, ◌*◌, ◌/◌, min, Bool, true, false, ◌&&◌, ◌||◌, ◌==◌, nat_lt, nat_le, ◌∷◌}
use Rattle.std.specs.Prelude.{length, Option, None, Some, if◌then◌else◌}
use Rattle.std.specs.Option.{option_or}
use Rattle.pp_arc.specs.declared.answer.Answer.{Answer}
use Rattle.pp_arc.specs.declared.answer.Answer.TheVariants.{Hit, Free, Evict, AllBusy}
use Rattle.pp_arc.specs.declared.list.List.{List as ListName}
use Rattle.pp_arc.specs.declared.list.List.TheVariants.{T1, T2, B1, B2}
use Rattle.pp_arc.specs.Pages.{contains, without, without_last, last_not_busy}
use Rattle.pp_arc.specs.FourLists.{FourLists, cached_count, recent_count, total_count, place}

-- x leaves its list
abbrev pub forget : FourLists → ℕ → FourLists
forget s x = record s { t1 = without s.t1 x; t2 = without s.t2 x; b1 = without s.b1 x; b2 = without s.b2 x }

-- x goes to the front of T1
abbrev pub with_front_of_t1 : FourLists → ℕ → FourLists
with_front_of_t1 s x = record s { t1 = x ∷ s.t1 }

-- x leaves its list, if it stands in one, and goes to the front of T2
abbrev pub with_front_of_t2 : FourLists → ℕ → FourLists
with_front_of_t2 s x = record (forget s x) { t2 = x ∷ without s.t2 x }

-- v leaves the cache, and its name is remembered: from T1 it goes to the front of B1, from T2 to the front of B2
abbrev pub with_remembered : FourLists → ℕ → FourLists
with_remembered s v =
    if contains s.t1 v then record s { t1 = without s.t1 v; b1 = v ∷ s.b1 }
    else record s { t2 = without s.t2 v; b2 = v ∷ s.b2 }

-- ADAPT at a page of B1: the target rises by 1 where |B1| >= |B2|, else by |B2| / |B1|, and to c at most.
-- The quotient is rounded down.
abbrev pub raised_target : FourLists → ℕ
raised_target s =
    let step = if nat_le (length s.b2) (length s.b1) then 1 else length s.b2 / length s.b1 in
    min (s.target + step) s.c

-- ADAPT at a page of B2: the target falls by 1 where |B2| >= |B1|, else by |B1| / |B2|, and to 0 at least.
-- The quotient is rounded down, and `-` stops at 0.
abbrev pub lowered_target : FourLists → ℕ
lowered_target s =
    let step = if nat_le (length s.b1) (length s.b2) then 1 else length s.b1 / length s.b2 in
    s.target - step

-- REPLACE chooses T1 where T1 isn't empty and either is longer than the target, or is as long as the target and x is
-- in B2
abbrev pub chooses_t1 : FourLists → Bool → Bool
chooses_t1 s in_b2 =
    nat_lt 0 (length s.t1) && (nat_lt s.target (length s.t1) || (in_b2 && (length s.t1 == s.target)))

-- REPLACE's victim: the last page of the chosen list that isn't busy, else that of the other list
abbrev pub victim : FourLists → Bool → (ℕ → Bool) → Option ℕ
victim s in_b2 busy =
    if chooses_t1 s in_b2 then option_or (last_not_busy s.t1 busy) (last_not_busy s.t2 busy)
    else option_or (last_not_busy s.t2 busy) (last_not_busy s.t1 busy)

-- the answer that names the victim; without one it is AllBusy
abbrev pub evict_or_all_busy : Option ℕ → Answer
evict_or_all_busy None = AllBusy
evict_or_all_busy (Some v) = Evict v

-- REPLACE's answer, with the target as ADAPT left it. REPLACE runs only where the cache is full.
abbrev pub replacement : FourLists → Bool → (ℕ → Bool) → Answer
replacement s in_b2 busy = if cached_count s == s.c then evict_or_all_busy (victim s in_b2 busy) else Free

-- what REPLACE does to the lists: its victim is remembered
abbrev pub after_replace : FourLists → Answer → FourLists
after_replace s (Evict v) = with_remembered s v
after_replace s _ = s

abbrev pub replace : FourLists → Bool → (ℕ → Bool) → Answer × FourLists
replace s in_b2 busy = (replacement s in_b2 busy, after_replace s (replacement s in_b2 busy))

-- where T1 is all of the cache, its last page that isn't busy leaves it, and is remembered nowhere
abbrev pub after_replace_in_t1 : FourLists → Answer → FourLists
after_replace_in_t1 s (Evict v) = forget s v
after_replace_in_t1 s _ = s

abbrev pub replace_in_t1 : FourLists → (ℕ → Bool) → Answer × FourLists
replace_in_t1 s busy =
    let answer = evict_or_all_busy (last_not_busy s.t1 busy) in
    (answer, after_replace_in_t1 s answer)

abbrev pub without_last_of_b1 : FourLists → FourLists
without_last_of_b1 s = record s { b1 = without_last s.b1 }

abbrev pub without_last_of_b2 : FourLists → FourLists
without_last_of_b2 s = record s { b2 = without_last s.b2 }

-- the room that case IV makes for a page that stands nowhere
abbrev pub room_for_new : FourLists → (ℕ → Bool) → Answer × FourLists
room_for_new s busy =
    if recent_count s == s.c
    then
    -- (A) T1 and B1 have c pages together
    (if nat_lt (length s.t1) s.c then replace (without_last_of_b1 s) false busy else replace_in_t1 s busy)
    else
    -- (B) they have fewer
    replace (if total_count s == 2 * s.c then without_last_of_b2 s else s) false busy

-- once there is room, the page goes where `put` says
abbrev pub then_put : (FourLists → ℕ → FourLists) → ℕ → Answer × FourLists → Answer × FourLists
then_put put x room = (room.0, put room.1 x)

-- the four cases, by the list in which x stands
abbrev pub cases : Option ListName → FourLists → ℕ → (ℕ → Bool) → Answer × FourLists
-- Case I: x in T1 or T2
cases (Some T1) s x busy = (Hit, with_front_of_t2 s x)
cases (Some T2) s x busy = (Hit, with_front_of_t2 s x)
-- Case II: x in B1
cases (Some B1) s x busy = then_put with_front_of_t2 x (replace (record s { target = raised_target s }) false busy)
-- Case III: x in B2
cases (Some B2) s x busy = then_put with_front_of_t2 x (replace (record s { target = lowered_target s }) true busy)
-- Case IV: x in no list
cases None s x busy = then_put with_front_of_t1 x (room_for_new s busy)

abbrev pub is_all_busy : Answer → Bool
is_all_busy AllBusy = true
is_all_busy _ = false

-- AllBusy changes nothing, not the target either
abbrev pub unchanged_if_all_busy : FourLists → Answer × FourLists → Answer × FourLists
unchanged_if_all_busy s done = (done.0, if is_all_busy done.0 then s else done.1)

-- the request for page x while the pages of `busy` may not leave: the answer, and the lists and target after it
abbrev pub request : FourLists → ℕ → (ℕ → Bool) → Answer × FourLists
request s x busy = unchanged_if_all_busy s (cases (place s x) s x busy)

-- v could not be written back, so x was never read: x is remembered nowhere, and v is cached again, at the front of T2,
-- wherever it stood before. The target stays.
abbrev pub bring_back : FourLists → ℕ → ℕ → FourLists
bring_back s x v = with_front_of_t2 (forget s x) v
