-- Which tokens fit a state: the core has the same of their worker, slot, page and latch.
use Rattle.std.specs.Prelude.{◌≡◌, ℕ, Bool, true, false, ◌&&◌, ◌==◌, nat_lt, Option, None, Some, if◌then◌else◌}
use Rattle.pp_plan.specs.declared.action.Ask.{Ask}
use Rattle.pp_plan.specs.declared.action.Ask.TheVariants as ask
use Rattle.pp_plan.specs.declared.mode.Mode.{Mode}
use Rattle.pp_plan.specs.declared.mode.Mode.TheVariants as mode
use Rattle.pp_cert.specs.declared.note.Held.{Held}
use Rattle.pp_cert.specs.declared.note.Held.TheVariants.{Free, S, X}
use Rattle.pp_model.specs.declared.moves.Move.TheVariants.{Take, Fix, Unfix, Latch, Unlatch, Choose, Unwind, Finish}
use Rattle.pp_model.specs.Pool.{State}
use Rattle.pp_core.specs.Queries.{is_idle, is_leaving, ask_of, held_of, ask_holding, gathered_of}
use Rattle.pp_vault.specs.Calls.{Call, stranger, unasked, asks}

-- ---- workers

-- Whether worker w acts in its plan.
abbrev pub is_acting_by : Option Ask → Bool
is_acting_by None = false
is_acting_by (Some a) = true

abbrev pub is_acting : State → (w : ℕ) → Bool
is_acting s w = is_acting_by (ask_of s w)

-- ---- slots

abbrev pub is_same_held : Held → Held → Bool
is_same_held Free Free = true
is_same_held S S = true
is_same_held X X = true
is_same_held _ _ = false

-- Whether what a slot holds, if it holds a page, is this page so.
abbrev pub is_held_by : (page : ℕ) → Held → Option (ℕ × Held) → Bool
is_held_by page held None = false
is_held_by page held (Some h) = (h.0 == page) && is_same_held h.1 held

-- Whether worker w holds the page in the slot so: a guard of them fits.
abbrev pub is_held_so : State → (w slot page : ℕ) → Held → Bool
is_held_so s w slot page held = is_held_by page held (held_of s w slot)

-- Whether worker w has the slot as a bundle: it has a page there that was gathered.
abbrev pub is_gathered : State → (w slot : ℕ) → Bool
is_gathered s w slot = nat_lt 0 (gathered_of s w slot)

-- The slot of worker w holds nothing: it has no page of its own, and is no bundle.
pub record IsEmpty (s : State) (w slot : ℕ) : Type 0 where
  pub no_page : held_of s w slot ≡ None
  pub no_bundle : is_gathered s w slot ≡ false

-- ---- what a call with tokens comes to

-- A worker that has to be idle, or to leave, or to act.
abbrev pub take_call : (w : ℕ) → State → Call
take_call w s = if is_idle s w then asks (Take w) else stranger

abbrev pub end_call : (w : ℕ) → State → Call
end_call w s = if is_leaving s w then asks (Finish w) else stranger

abbrev pub finish_call : (w : ℕ) → State → Call
finish_call w s = if is_acting s w then asks (Finish w) else stranger

-- The slot of a plan that asks a fix or a gather; zero where it asks something else.
abbrev pub fix_slot : Ask → ℕ
fix_slot (ask.Fix slot region) = slot
fix_slot (ask.Gather slot region) = slot
fix_slot _ = 0

-- Whether the worker acts, and this is the slot of the fix or the gather that its plan asks; zero where that asks something
-- else.
abbrev pub names_slot : (slot : ℕ) → Option Ask → Bool
names_slot slot None = false
names_slot slot (Some a) = slot == fix_slot a

-- What the plan asks, where the worker acts and this is the slot of it.
abbrev pub asked_at : (slot : ℕ) → Option Ask → Option Ask
asked_at slot None = None
asked_at slot (Some a) = if slot == fix_slot a then Some a else None

-- A fix or a gather, whose session tells this slot.
abbrev pub fix_call : (w slot page : ℕ) → State → Call
fix_call w slot page s = if names_slot slot (ask_of s w) then asks (Fix w page) else stranger

abbrev pub choose_call : (w branch : ℕ) → State → Call
choose_call w branch s = if is_acting s w then asks (Choose w branch) else stranger

-- Whether the plan asks an unfix of the slot, a scatter of it, a latch of it in this mode, or an unlatch of it.
abbrev pub asks_unfix : (slot : ℕ) → Option Ask → Bool
asks_unfix slot (Some (ask.Unfix of)) = slot == of
asks_unfix slot _ = false

abbrev pub asks_scatter : (slot : ℕ) → Option Ask → Bool
asks_scatter slot (Some (ask.Scatter of)) = slot == of
asks_scatter slot _ = false

abbrev pub is_same_mode : Mode → Mode → Bool
is_same_mode mode.S mode.S = true
is_same_mode mode.X mode.X = true
is_same_mode _ _ = false

abbrev pub asks_latch : (slot : ℕ) → Mode → Option Ask → Bool
asks_latch slot m (Some (ask.Latch of n)) = (slot == of) && is_same_mode m n
asks_latch slot m _ = false

abbrev pub asks_unlatch : (slot : ℕ) → Option Ask → Bool
asks_unlatch slot (Some (ask.Unlatch of)) = slot == of
asks_unlatch slot _ = false

-- A call of a session with a guard: both fit, the guard is of the session's worker, and the plan asks this of its slot.
abbrev pub guard_call : (fits asked : Bool) → Call → Call
guard_call false asked call = stranger
guard_call true false call = unasked
guard_call true true call = call

-- Whether the session of worker w and a guard fit.
abbrev pub fits_both : State → (w of slot page : ℕ) → Held → Bool
fits_both s w of slot page held = is_acting s w && (of == w) && is_held_so s w slot page held

-- What the plan of worker w asks, where the session of it and a guard fit.
abbrev pub ask_fitting : State → (w of slot page : ℕ) → Held → Option Ask
ask_fitting s w of slot page held = if of == w then ask_holding s w slot page held else None

abbrev pub unfix_call : (w of slot page : ℕ) → State → Call
unfix_call w of slot page s =
    guard_call (fits_both s w of slot page Free) (asks_unfix slot (ask_of s w)) (asks (Unfix w))

-- Whether the session of worker w and a bundle's guard fit.
abbrev pub bundle_fits : State → (w of slot : ℕ) → Bool
bundle_fits s w of slot = is_acting s w && (of == w) && is_gathered s w slot

abbrev pub scatter_call : (w of slot : ℕ) → State → Call
scatter_call w of slot s =
    guard_call (bundle_fits s w of slot) (asks_scatter slot (ask_of s w)) (asks (Unfix w))

abbrev pub latch_call : Mode → (w of slot page : ℕ) → State → Call
latch_call m w of slot page s =
    guard_call (fits_both s w of slot page Free) (asks_latch slot m (ask_of s w)) (asks (Latch w))

abbrev pub unlatch_call : Held → (w of slot page : ℕ) → State → Call
unlatch_call held w of slot page s =
    guard_call (fits_both s w of slot page held) (asks_unlatch slot (ask_of s w)) (asks (Unlatch w))

-- The latch X goes off with an image that comes back, and has to be as long as a page's.
abbrev pub put_back_call : (long : Bool) → (w of slot page : ℕ) → State → Call
put_back_call long w of slot page s =
    guard_call (fits_both s w of slot page X && long) (asks_unlatch slot (ask_of s w)) (asks (Unlatch w))

-- Whether a worker that leaves and a guard fit.
abbrev pub leaver_fits : State → (w of slot page : ℕ) → Held → Bool
leaver_fits s w of slot page held = is_leaving s w && (of == w) && is_held_so s w slot page held

-- A worker that leaves gives a slot back, however it holds it; with an image that comes back, which has to be as long
-- as a page's, where it holds it X.
abbrev pub unwind_call : (long : Bool) → Held → (w of slot page : ℕ) → State → Call
unwind_call long held w of slot page s =
    if leaver_fits s w of slot page held && long then asks (Unwind w slot) else stranger

-- Whether a worker that leaves and a bundle's guard fit.
abbrev pub leaver_fits_bundle : State → (w of slot : ℕ) → Bool
leaver_fits_bundle s w of slot = is_leaving s w && (of == w) && is_gathered s w slot

-- A worker that leaves gives a bundle back, all its pages at once.
abbrev pub unwind_bundle_call : (w of slot : ℕ) → State → Call
unwind_bundle_call w of slot s = if leaver_fits_bundle s w of slot then asks (Unwind w slot) else stranger
