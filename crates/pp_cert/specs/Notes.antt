-- Notes: what a certificate says is held at a place, and what is held there after one more statement.
use Rattle.std.specs.Prelude.{ℕ, ◌+◌, ◌-◌, ◌*◌, min, Bool, true, false, ◌==◌, ◌&&◌, ◌||◌, not, nat_lt, nat_le, if◌then◌else◌}
use Rattle.std.specs.Prelude.{find, Option, None, Some, option_map, List, [], ◌∷◌, slice_get, unwrap_or}
use Rattle.std.specs.List.{list_all}
use Rattle.std.specs.Cmp.Lexicographic.{pointwise}
use Rattle.pp_settings.specs.Layout.{Geometry}
use Rattle.pp_plan.specs.Tree.{Step, fix, unfix, latch, unlatch, gather, scatter}
use Rattle.pp_cert.specs.declared.note.Entry.{Entry}
use Rattle.pp_cert.specs.declared.note.Entry.TheVariants.{Slot, Bundle}
use Rattle.pp_cert.specs.declared.note.Held.{Held}
use Rattle.pp_cert.specs.declared.note.Held.TheVariants.{Free, S, X}
use Rattle.pp_cert.specs.Slots.{slot_insert}
use Rattle.pp_cert.specs.Held.{held_in, is_latched}

-- The entries of a note.
abbrev pub Entries : Type 0
Entries = List Entry

-- The entry's slot.
abbrev pub entry_slot : Entry → ℕ
entry_slot (Slot s r h) = s
entry_slot (Bundle s k) = s

-- How its page is held; no page of a bundle is latched.
abbrev pub entry_held : Entry → Held
entry_held (Slot s r h) = h
entry_held (Bundle s k) = Free

-- Whether a page of its own is fixed in the slot s; no bundle is one.
abbrev pub is_slot : ℕ → Entry → Bool
is_slot s (Slot t r h) = t == s
is_slot s (Bundle t k) = false

abbrev pub is_bundle : Entry → Bool
is_bundle (Slot s r h) = false
is_bundle (Bundle s k) = true

-- Whether it is the bundle s.
abbrev pub is_bundle_of : ℕ → Entry → Bool
is_bundle_of s (Slot t r h) = false
is_bundle_of s (Bundle t k) = t == s

-- ---- pins

-- How many pages an entry pins: its slot's one, or at most as many as a bundle's bound says.
abbrev pub entry_pins : Entry → ℕ
entry_pins (Slot s r h) = 1
entry_pins (Bundle s k) = k

-- How many pages a note pins: all its entries together.
abbrev pub note_pins : Entries → ℕ
note_pins [] = 0
note_pins (e ∷ es) = entry_pins e + note_pins es

-- ---- equal notes

abbrev pub same_held : Held → Held → Bool
same_held Free Free = true
same_held S S = true
same_held X X = true
same_held _ _ = false

abbrev pub same_entry : Entry → Entry → Bool
same_entry (Slot s r h) (Slot t q i) = s == t && r == q && same_held h i
same_entry (Bundle s k) (Bundle t l) = s == t && k == l
same_entry _ _ = false

-- Whether two notes are the same list of entries.
abbrev pub same_note : Entries → Entries → Bool
same_note = pointwise same_entry

-- ---- reading a note

-- The entry of the slot's page, if it holds one.
abbrev pub entry_at : Entries → ℕ → Option Entry
entry_at n s = find (is_slot s) n

-- How the slot holds its page, if it holds one.
abbrev pub noted_at : Entries → ℕ → Option Held
noted_at n s = option_map entry_held (entry_at n s)

-- The bundle's entry, if it has one.
abbrev pub bundle_at : Entries → ℕ → Option Entry
bundle_at n s = find (is_bundle_of s) n

-- The most pages that the bundle pins; no entry means 0.
abbrev pub bound_at : Entries → ℕ → ℕ
bound_at n s = unwrap_or (option_map entry_pins (bundle_at n s)) 0

-- The entries of slots' pages alone.
abbrev pub plain_part : Entries → Entries
plain_part [] = []
plain_part (e ∷ n) = if is_bundle e then plain_part n else e ∷ plain_part n

-- The note without the bundles at its front. For private clauses.
abbrev pub skipped : Entries → Entries
skipped [] = []
skipped (e ∷ n) = if is_bundle e then skipped n else e ∷ n

-- The class of a region's pages; 0 for a number that no region has.
abbrev pub region_class : Geometry → ℕ → ℕ
region_class g r = unwrap_or (option_map (λ e. e.class) (slice_get g.extents r)) 0

-- The class of an entry's page; 0 for a bundle.
abbrev pub entry_class : Geometry → Entry → ℕ
entry_class g (Slot s r h) = region_class g r
entry_class g (Bundle s k) = 0

-- The class of the slot's page; 0 for a slot that holds nothing.
abbrev pub slot_class : Geometry → Entries → ℕ → ℕ
slot_class g n s = unwrap_or (option_map (entry_class g) (entry_at n s)) 0

-- Whether the slot's page has a class greater than every class latched in the note.
abbrev pub is_above_latched : Geometry → Entries → ℕ → Bool
is_above_latched g n s =
    list_all (λ e. not (is_latched (entry_held e)) || nat_lt (entry_class g e) (slot_class g n s)) n

-- ---- the note after a statement

-- The entry with its page held so.
abbrev pub entry_as : Held → Entry → Entry
entry_as held (Slot s r h) = Slot s r held
entry_as held (Bundle s k) = Bundle s k

-- With the slot's page held so.
abbrev pub noted_as : Held → ℕ → Entries → Entries
noted_as held s [] = []
noted_as held s (e ∷ n) = if is_slot s e then entry_as held e ∷ n else e ∷ noted_as held s n

-- Without the slot's page.
abbrev pub without_page : ℕ → Entries → Entries
without_page s [] = []
without_page s (e ∷ n) = if is_slot s e then without_page s n else e ∷ without_page s n

-- Without the bundle.
abbrev pub without_bundle : ℕ → Entries → Entries
without_bundle s [] = []
without_bundle s (e ∷ n) = if is_bundle_of s e then without_bundle s n else e ∷ without_bundle s n

-- With this bound for the bundle, at its place by rising slot.
abbrev pub with_bound : (slot bound : ℕ) → Entries → Entries
with_bound s k n = slot_insert entry_slot (Bundle s k) (without_bundle s n)

-- What is noted after the step, where this is noted before it. A gather adds 1 to the bundle's bound, and a scatter makes it
-- 0, which is no entry.
abbrev pub noted_after : Step → Entries → Entries
noted_after (fix s r) n = slot_insert entry_slot (Slot s r Free) n
noted_after (unfix s) n = without_page s n
noted_after (latch s m) n = noted_as (held_in m) s n
noted_after (unlatch s) n = noted_as Free s n
noted_after (gather s r) n = with_bound s (bound_at n s + 1) n
noted_after (scatter s) n = without_bundle s n

-- The bound with one page more: exactly, or counted up to a stop where there is one.
abbrev pub one_more : (stop : Option ℕ) → (bound : ℕ) → ℕ
one_more None bound = bound + 1
one_more (Some stop) bound = min (bound + 1) stop

-- What is noted after the step, with bounds that are told exactly, or counted up to a stop where there is one.
abbrev pub noted_with : (stop : Option ℕ) → Step → Entries → Entries
noted_with stop (gather s r) n = with_bound s (one_more stop (bound_at n s)) n
noted_with stop s n = noted_after s n

-- ---- the notes of a loop's body

-- The entries stand by rising slot, from this one on, and no bound is 0.
abbrev pub is_rising : ℕ → Entries → Bool
is_rising s [] = true
is_rising s (e ∷ n) = nat_le s (entry_slot e) && (nat_lt 0 (entry_pins e) && is_rising (entry_slot e + 1) n)

-- The note has no entry twice, none out of order, and no bound of 0.
abbrev pub is_in_form : Entries → Bool
is_in_form n = is_rising 0 n

-- Whether `first` may be a bundle's bound at a body's first place, where it is `before` just before the loop: it may be
-- greater for a bundle that the body nowhere scatters, and is `before` for another.
abbrev pub is_begun : (scattered : Bool) → (before first : ℕ) → Bool
is_begun true before first = first == before
is_begun false before first = nat_le before first

-- Whether `last` may be the bound at the body's end of a bundle that the body scatters.
abbrev pub is_back : (scattered : Bool) → (before last : ℕ) → Bool
is_back true before last = last == before
is_back false before last = true

-- Whether `last` may be the bound at the body's end of a bundle that the body nowhere scatters: each of so many turns adds
-- `last - first`, and `first` is the bound before the last turn.
abbrev pub has_grown : (turns : ℕ) → (scattered : Bool) → (before first last : ℕ) → Bool
has_grown turns true before first last = true
has_grown turns false before first last = nat_le first last && first == before + (turns - 1) * (last - first)

-- Whether the test holds of each slot that is a bundle in the note.
abbrev pub all_bundles : (ℕ → Bool) → Entries → Bool
all_bundles test n = list_all (λ e. not (is_bundle e) || test (entry_slot e)) n

-- The note `first` may stand at the first place of a loop's body, where `before` stands just before the loop: it is in form,
-- has the same entries of slots' pages, the same bounds of the bundles that the body scatters, and at least those of others.
abbrev pub begins_turns : (scattered : ℕ → Bool) → (before first : Entries) → Bool
begins_turns scattered before first =
    is_in_form first
    && (same_note (plain_part first) (plain_part before)
    && (all_bundles (λ s. is_begun (scattered s) (bound_at before s) (bound_at first s)) before
    && all_bundles (λ s. is_begun (scattered s) (bound_at before s) (bound_at first s)) first))

-- The note `last` has the entries of slots' pages that the one before the loop has, and the bounds of the bundles that the
-- body scatters.
abbrev pub ends_as_begun : (scattered : ℕ → Bool) → (before last : Entries) → Bool
ends_as_begun scattered before last =
    same_note (plain_part last) (plain_part before)
    && (all_bundles (λ s. is_back (scattered s) (bound_at before s) (bound_at last s)) before
    && all_bundles (λ s. is_back (scattered s) (bound_at before s) (bound_at last s)) last)

-- From the note `first` at the body's first place to `last` at its end, the bounds of the other bundles grow as so many turns
-- want it.
abbrev pub grows_by_turns : (turns : ℕ) → (scattered : ℕ → Bool) → (before first last : Entries) → Bool
grows_by_turns turns scattered before first last =
    all_bundles (λ s. has_grown turns (scattered s) (bound_at before s) (bound_at first s) (bound_at last s)) before
    && (all_bundles (λ s. has_grown turns (scattered s) (bound_at before s) (bound_at first s) (bound_at last s)) first
    && all_bundles (λ s. has_grown turns (scattered s) (bound_at before s) (bound_at first s) (bound_at last s)) last)
