-- A work that sees each page late, as a copy.
use Rattle.std.specs.Prelude.{◌≡◌, ◌⊎◌, ◌==◌, ◌&&◌, ℕ, Bool, true, false, List, length, take, min, leb, Option, None, Some}
use Rattle.pp_device.specs.Image.{head_of}
use Rattle.pp_pool.specs.declared.work.Work as Work
use Rattle.pp_pool.specs.declared.work.End.{End}
use Rattle.pp_buffer_pool.specs.declared.copies.Late.{Late}
use Rattle.pp_buffer_pool.specs.declared.copies.OnCopies.{OnCopies}

-- The bytes that were copied of the page.
abbrev pub copied : Late → (copy : List ℕ) → List ℕ
copied late copy = take late.len copy

-- Whether they are the front of an image of the page with its mark, and as many as a work sees at least.
abbrev pub is_front : Late → (copy : List ℕ) → Bool
is_front late copy =
    (leb 64 late.len && leb late.len (length copy))
    && (((head_of (copied late copy)).0 == late.page) && ((head_of (copied late copy)).1 == late.mark))

-- The work has seen these bytes of the page, if they are such a front. Else it is as it was.
abbrev pub SeesIf : {W : Type 0} → Work.Ghosts W → Bool → Late → (bytes : List ℕ) → (old new : W) → Type 0
SeesIf own true late bytes old new = own.see_leaves old late.page late.mark bytes new
SeesIf own false late bytes old new = new ≡ old

-- The work has seen the page that it had still to see, as it was copied. Where there was none it is as it was.
abbrev pub CatchesUp : {W : Type 0} → Work.Ghosts W → (copy : List ℕ) → Option Late → (old new : W) → Type 0
CatchesUp own copy None old new = new ≡ old
CatchesUp own copy (Some late) old new = SeesIf own (is_front late copy) late (copied late copy) old new

-- By catching up the work has come to be `between`, and afterwards it has nothing still to see.
abbrev pub CatchesUpIn : {W : Type 0} → Work.Ghosts W → OnCopies W → (between : W) → OnCopies W → Type 0
CatchesUpIn own old between new =
    CatchesUp own old.copy.items old.late old.work between × (new.late ≡ None)
    × (length new.copy.items ≡ length old.copy.items)

-- The work has caught up, and has this page still to see: the front of its image was copied, as far as there is room.
abbrev pub CopiesLate : {W : Type 0} → Work.Ghosts W → OnCopies W → (page mark : ℕ) → (image : List ℕ) → OnCopies W → Type 0
CopiesLate own old page mark image new =
    let len = min (length image) (length old.copy.items) in
    CatchesUp own old.copy.items old.late old.work new.work
    × (new.late ≡ Some (record { page = page; mark = mark; len = len }))
    × (take len new.copy.items ≡ take len image)
    × (length new.copy.items ≡ length old.copy.items)

-- The work has caught up. Then it is what its own call for such an end leaves, or as it was: which of the two isn't said.
abbrev pub Ends : {W : Type 0} → Work.Ghosts W → OnCopies W → End → OnCopies W → Type 0
Ends own old how new =
    (between : _) × CatchesUpIn own old between new × (own.ended_leaves between how new.work ⊎ (new.work ≡ between))

-- The calls of such a work.
abbrev pub late_calls : {W : Type 0} → Work.Ghosts W → Work.Ghosts (OnCopies W)
late_calls own = record {
  page_gives = λ e region first count page f.
      (w : _) × CatchesUpIn own e w f × own.page_gives w region first count page f.work;
  branch_gives = λ e count branch f. (w : _) × CatchesUpIn own e w f × own.branch_gives w count branch f.work;
  reach_gives = λ e bytes. bytes ≡ length e.copy.items;
  change_leaves = λ e page before left f.
      (w : _) × CatchesUpIn own e w f × own.change_leaves w page before left f.work;
  see_leaves = λ e page mark image f. CopiesLate own e page mark image f;
  page_into_gives = λ e slot kind region first count page f.
      (w : _) × CatchesUpIn own e w f
      × (own.page_into_gives w slot kind region first count page f.work ⊎ own.page_gives w region first count page f.work);
  begins_leaves = λ e plan f. (w : _) × CatchesUpIn own e w f × (own.begins_leaves w plan f.work ⊎ (f.work ≡ w));
  ended_leaves = λ e how f. Ends own e how f;
  wants_rework_gives = λ wanted. own.wants_rework_gives wanted;
  rework_leaves = λ e off before left f.
      (w : _) × CatchesUpIn own e w f × (own.rework_leaves w off before left f.work ⊎ ((f.work ≡ w) × (left ≡ before)));
}
