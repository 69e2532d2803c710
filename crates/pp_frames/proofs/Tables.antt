-- What one write by page or by frame does to the map, and to what the code keeps of it.
use Rattle.std.proofs.Common.{◌≡◌, ◌≢◌, ℕ, ◌+◌, ◌<◌, ◌≤◌, ◌^◌, Bool, true, false, List, length, map, get_or, set}
use Rattle.std.proofs.Common.{Option}
use Rattle.std.proofs.Common.{Some, None, refl, ap, sym, subst, ◌∙◌, ◌-◌, arith, inl, inr, ◌⊎◌, replicate}
use Rattle.std.proofs.Common.{if◌then◌else◌}
use Rattle.std.specs.List.{range_with_len}
use Rattle.std.proofs.lemmas.Bool.{cases_lt, cases_eq, false≢true, ne_eqb}
use Rattle.std.proofs.lemmas.List.{get_or_past, get_or_read, get_or-set_same, get_or-set_other, length-set}
use Rattle.std.proofs.lemmas.List.{length-replicate}
use Rattle.std.proofs.lemmas.List.FromFn.{length-map-range_with_len, get_or-map-range_with_len, fill_by_all}
use Rattle.std.specs.Prelude.{IsSome, IfSome}
use Rattle.pp_frames.specs.declared.held.Held.{Held}
use Rattle.pp_frames.specs.Numbers.{is_member}
use Rattle.pp_frames.specs.Marks.{Shared, PageMarks, page_count, marks_of, frame_of, pins_of}
use Rattle.pp_frames.specs.Marks.{latches_of, stamp_of, untouched_marks, opening, with_marks, with_frame, with_dirty}
use Rattle.pp_frames.specs.Marks.{with_stamp, has_reached, is_dirty, IsFree}
use Rattle.pp_frames.specs.Arrays.{Arrays, frame_at, latches_at, not_held, held_in, stamp_at, marks_by, home_in}
use Rattle.pp_frames.specs.Arrays.{marks_in}
use Rattle.pp_frames.specs.Arrays.{map_of, IsTidy}
use Rattle.pp_frames.proofs.Spelling.{table_changed, at_replicate}

-- ---- frames

pub cases_some : (o : Option ℕ) (f : ℕ) → (o ≡ Some f) ⊎ (o ≡ Some f → ⊥)
cases_some None f = inr (λ e. absurd (grind (arith, e)))
cases_some (Some g) f =
    elim (cases_eq g f) [
      | inl same ↦ inl (ap (λ (k : ℕ). Some k) same)
      | inr away ↦ inr (λ e. away (grind (arith, e)))
    ]

pub known_frame : (o : Option ℕ) → IsSome o → (f : ℕ) × (o ≡ Some f)
known_frame None some = absurd (false≢true some)
known_frame (Some f) some = (f, refl)

held_same : (held : List Held) (f : ℕ) (to : Held) (o : Option ℕ) → o ≡ Some f → f < length held
    → held_in (set held f to) o ≡ to
held_same held f to o is lt = ap (held_in (set held f to)) is ∙ get_or-set_same held f to not_held lt

held_elsewhere : (held : List Held) (f : ℕ) (to : Held) (o : Option ℕ) → (o ≡ Some f → ⊥)
    → held_in (set held f to) o ≡ held_in held o
held_elsewhere held f to None away = refl
held_elsewhere held f to (Some g) away = get_or-set_other held f g to not_held (λ e. away (ap (λ (j : ℕ). Some j) e))

shared_rest : (pins readers : ℕ) (writer : Bool) → pins ≡ 0
    → latches_at (record { pins = pins; readers = readers; has_writer = writer }) ≡ Shared 0
    → ◌≡◌ {A = Held} (record { pins = pins; readers = readers; has_writer = writer }) not_held
shared_rest pins readers true none l = absurd (grind (arith, l))
shared_rest pins readers false none l =
    let no_readers : readers ≡ 0 = grind (arith, l) in
    rw (none, no_readers) refl

-- a record of no pins and no latches
pub rest_is : (h : Held) → h.pins ≡ 0 → latches_at h ≡ Shared 0 → h ≡ not_held
rest_is h none l = shared_rest h.pins h.readers h.has_writer none l

some_home : (home f : ℕ) → frame_at home ≡ Some f → home ≡ f + 1
some_home home f e =
    elim (cases_lt 0 home) [
      | inl some ↦
          let is : ◌≡◌ {A = Option ℕ} (Some (home - 1)) (Some f) =
          sym (ap (λ b. if b then None else Some (home - 1)) (ne_eqb home 0 (λ z. omega (arith, z, some)))) ∙ e in
          let same : home - 1 ≡ f = grind (arith, is) in
          omega (arith, same, some)
      | inr le ↦
          let z : home ≡ 0 = omega (arith, le) in
          let none : ◌≡◌ {A = Option ℕ} None (Some f) = sym (ap frame_at z) ∙ e in
          absurd (grind (arith, none))
    ]

member_low : (s : List Bool) (k : ℕ) → is_member s k ≡ true → k < length s
member_low s k is =
    elim (cases_lt k (length s)) [
      | inl lt ↦ lt
      | inr le ↦ absurd (false≢true (sym (get_or_past s k false le) ∙ is))
    ]

-- ---- the marks of a page

module _ (a : Arrays) (tidy : IsTidy a) where
  pub count_is : page_count (map_of a) ≡ length a.homes
  count_is = length-map-range_with_len (marks_in a) 0 (length a.homes)

  untouched_in : (page : ℕ) → length a.homes ≤ page → marks_in a page ≡ untouched_marks
  untouched_in page le =
      ap (λ h. marks_by (frame_at h) (held_in a.held (frame_at h)) (is_member a.dirty page)
      (stamp_at (is_member a.known page) (get_or a.stamps page 0))) (get_or_past a.homes page 0 le)
      ∙ ap (λ d. marks_by None not_held d (stamp_at (is_member a.known page) (get_or a.stamps page 0)))
      (get_or_past a.dirty page false (omega (arith, le, tidy.dirty)))
      ∙ ap (λ k. marks_by None not_held false (stamp_at k (get_or a.stamps page 0)))
      (get_or_past a.known page false (omega (arith, le, tidy.known)))

  pub marks_are : (page : ℕ) → marks_of (map_of a) page ≡ marks_in a page
  marks_are page =
      elim (cases_lt page (length a.homes)) [
        | inl lt ↦ get_or-map-range_with_len (marks_in a) 0 (length a.homes) page page untouched_marks lt (omega arith)
        | inr le ↦
            get_or_past (map_of a).pages page untouched_marks (omega (arith, le, count_is))
            ∙ sym (untouched_in page le)
      ]

  pub frame_is : (page : ℕ) → frame_of (map_of a) page ≡ home_in a page
  frame_is page = ap (λ (m : PageMarks). m.frame) (marks_are page)

  pub pins_are : (page : ℕ) → pins_of (map_of a) page ≡ (held_in a.held (home_in a page)).pins
  pins_are page = ap (λ (m : PageMarks). m.pins) (marks_are page)

  pub latches_are : (page : ℕ) → latches_of (map_of a) page ≡ latches_at (held_in a.held (home_in a page))
  latches_are page = ap (λ (m : PageMarks). m.latches) (marks_are page)

  pub stamp_is : (page : ℕ) → stamp_of (map_of a) page ≡ stamp_at (is_member a.known page) (get_or a.stamps page 0)
  stamp_is page = ap (λ (m : PageMarks). m.stamp) (marks_are page)

  pub dirty_is : (page : ℕ) → is_dirty (map_of a) page ≡ is_member a.dirty page
  dirty_is page = ap (λ (m : PageMarks). m.dirty) (marks_are page)

  -- a home that is read
  pub home_read : (page home : ℕ) → page < length a.homes → home ≡ get_or a.homes page home
      → frame_at home ≡ frame_of (map_of a) page
  home_read page home lt read = ap frame_at (get_or_read a.homes page home lt read 0) ∙ sym (frame_is page)

  pub home_past : (page : ℕ) → length a.homes ≤ page → None ≡ frame_of (map_of a) page
  home_past page le = sym (frame_is page ∙ ap frame_at (get_or_past a.homes page 0 le))

  -- the record of a frame that is read
  pub held_read : (page frame : ℕ) (h : Held) → Some frame ≡ frame_of (map_of a) page → h ≡ get_or a.held frame h
      → h ≡ held_in a.held (home_in a page)
  held_read page frame h is read =
      let at : home_in a page ≡ Some frame = sym (is ∙ frame_is page) in
      get_or_read a.held frame h (tidy.in_range page frame at) read not_held ∙ sym (ap (held_in a.held) at)

  pub held_none : (page : ℕ) → None ≡ frame_of (map_of a) page → not_held ≡ held_in a.held (home_in a page)
  held_none page is =
      let at : home_in a page ≡ None = sym (is ∙ frame_is page) in sym (ap (held_in a.held) at)

  pub frame_low : (page frame : ℕ) → Some frame ≡ frame_of (map_of a) page → frame < length a.held
  frame_low page frame is = tidy.in_range page frame (sym (is ∙ frame_is page))

  -- a stamp that is read
  pub stamp_read : (page stamp : ℕ) → is_member a.known page ≡ true → stamp ≡ get_or a.stamps page stamp
      → Some stamp ≡ stamp_of (map_of a) page
  stamp_read page stamp known read =
      let low : page < length a.stamps = omega (arith, member_low a.known page known, tidy.known, tidy.stamps) in
      ap (λ (n : ℕ). Some n) (get_or_read a.stamps page stamp low read 0)
      ∙ sym (stamp_is page ∙ ap (λ b. stamp_at b (get_or a.stamps page 0)) known)

  pub stamp_unknown : (page : ℕ) → is_member a.known page ≡ false → None ≡ stamp_of (map_of a) page
  stamp_unknown page unknown = sym (stamp_is page ∙ ap (λ b. stamp_at b (get_or a.stamps page 0)) unknown)

  -- a page with a home is one of the pool's
  pub home_below : (page frame : ℕ) → home_in a page ≡ Some frame → page < length a.homes
  home_below page frame is =
      elim (cases_lt page (length a.homes)) [
        | inl lt ↦ lt
        | inr le ↦
            let none : ◌≡◌ {A = Option ℕ} None (Some frame) = sym (ap frame_at (get_or_past a.homes page 0 le)) ∙ is in
            absurd (grind (arith, none))
      ]

  not_reached : (limit : ℕ) (known : Bool) (stamp : ℕ) → stamp < limit → has_reached limit (stamp_at known stamp) ≡
      false
  not_reached limit false stamp lt = refl
  not_reached limit true stamp lt = grind (arith, lt)

  pub none_reached : (limit : ℕ) → a.top < limit → (page : ℕ) → has_reached limit (stamp_of (map_of a) page) ≡ false
  none_reached limit over page =
      ap (has_reached limit) (stamp_is page)
      ∙ not_reached limit (is_member a.known page) (get_or a.stamps page 0) (omega (arith, over, tidy.top page))

-- the map once the marks of one page are others
map_changed : (a b : Arrays) (page : ℕ) (marks : PageMarks) → length b.homes ≡ length a.homes
    → length b.held ≡ length a.held
    → marks_in b page ≡ marks
    → ((k : ℕ) → k ≢ page → marks_in b k ≡ marks_in a k)
    → map_of b ≡ with_marks (map_of a) page marks
map_changed a b page marks homes held here others =
    ap (λ n. record { frames = length b.held; pages = map (marks_in b) (range_with_len 0 n) }) homes
    ∙ ap (λ f. record { frames = f; pages = map (marks_in b) (range_with_len 0 (length a.homes)) }) held
    ∙ ap (λ ps. record { frames = length a.held; pages = ps })
    (table_changed (marks_in a) (marks_in b) (length a.homes) page marks untouched_marks here others)

-- ---- a page held in another way

abbrev pub holding : Arrays → ℕ → Held → Arrays
holding a frame to = record a { held = set a.held frame to }

module _ (a : Arrays) (page frame : ℕ) (to : Held) (tidy : IsTidy a) (is : home_in a page ≡ Some frame) where
  pub held_low : frame < length a.held
  held_low = tidy.in_range page frame is

  held_others : (k : ℕ) → k ≢ page → marks_in (holding a frame to) k ≡ marks_in a k
  held_others k away =
      ap (λ h. marks_by (home_in a k) h (is_member a.dirty k) (stamp_at (is_member a.known k) (get_or a.stamps k 0)))
      (held_elsewhere a.held frame to (home_in a k) (λ e. away (tidy.no_frame_twice k page frame e is)))

  held_here : marks_in (holding a frame to) page
      ≡ record (marks_of (map_of a) page) { pins = to.pins; latches = latches_at to }
  held_here =
      ap
      (λ h. marks_by (home_in a page) h (is_member a.dirty page)
      (stamp_at (is_member a.known page) (get_or a.stamps page 0)))
      (held_same a.held frame to (home_in a page) is held_low)
      ∙ sym (ap (λ (m : PageMarks). record m { pins = to.pins; latches = latches_at to }) (marks_are a tidy page))

  pub map_held : map_of (holding a frame to)
      ≡ with_marks (map_of a) page (record (marks_of (map_of a) page) { pins = to.pins; latches = latches_at to })
  map_held =
      map_changed a (holding a frame to) page
      (record (marks_of (map_of a) page) { pins = to.pins; latches = latches_at to }) refl
      (length-set a.held frame to) held_here held_others

  pub tidy_held : IsTidy (holding a frame to)
  tidy_held =
      record {
        stamps = tidy.stamps;
        known = tidy.known;
        dirty = tidy.dirty;
        in_range = λ k f e. omega (arith, tidy.in_range k f e, length-set a.held frame to);
        no_frame_twice = tidy.no_frame_twice;
        at_rest = λ f none.
            get_or-set_other a.held frame f to not_held (λ e. none page (is ∙ ap (λ (j : ℕ). Some j) (sym e)))
            ∙ tidy.at_rest f none;
        top = tidy.top;
        frames_fit = omega (arith, tidy.frames_fit, length-set a.held frame to);
      }

-- ---- a page in a frame

module _ (a : Arrays) (page : ℕ) (tidy : IsTidy a) (placed : IsSome (frame_of (map_of a) page)) where
  its_frame : (f : ℕ) × (home_in a page ≡ Some f)
  its_frame = known_frame (home_in a page) (subst IsSome (frame_is a tidy page) placed)

  pub placed_low : page < length a.homes
  placed_low = home_below a tidy page its_frame.0 its_frame.1

  home_next : (home : ℕ) → home ≡ get_or a.homes page home → home ≡ its_frame.0 + 1
  home_next home read =
      some_home home its_frame.0 (ap frame_at (get_or_read a.homes page home placed_low read 0) ∙ its_frame.1)

  pub home_some : (home : ℕ) → home ≡ get_or a.homes page home → 0 < home
  home_some home read = omega (arith, home_next home read)

  pub home_stands : (home : ℕ) → home ≡ get_or a.homes page home → home_in a page ≡ Some (home - 1)
  home_stands home read =
      let same : its_frame.0 ≡ home - 1 = omega (arith, home_next home read) in
      its_frame.1 ∙ ap (λ (f : ℕ). Some f) same

  pub home_low : (home : ℕ) → home ≡ get_or a.homes page home → home - 1 < length a.held
  home_low home read = tidy.in_range page (home - 1) (home_stands home read)

  -- the record of its frame that is read
  pub held_there : (home : ℕ) (h : Held) → home ≡ get_or a.homes page home → h ≡ get_or a.held (home - 1) h
      → h ≡ held_in a.held (home_in a page)
  held_there home h read_home read =
      get_or_read a.held (home - 1) h (home_low home read_home) read not_held
      ∙ sym (ap (held_in a.held) (home_stands home read_home))

-- ---- a page in another frame

pub home_fits : (a : Arrays) (frame : Option ℕ) → IsTidy a
    → IfSome frame (λ f. (f < (map_of a).frames) × IsFree (map_of a) f)
    → IfSome frame (λ f. f + 1 < 2 ^ 32)
home_fits a None tidy into = tt
home_fits a (Some f) tidy into = omega (arith, into.0, tidy.frames_fit)

abbrev pub housed : Arrays → ℕ → ℕ → Arrays
housed a page home = record a { homes = set a.homes page home }

module _ (a : Arrays) (page home : ℕ) (frame : Option ℕ) (tidy : IsTidy a) (lt : page < page_count (map_of a))
    (unpinned : pins_of (map_of a) page ≡ 0)
    (unlatched : latches_of (map_of a) page ≡ Shared 0)
    (into : IfSome frame (λ f. (f < (map_of a).frames) × IsFree (map_of a) f))
    (is : frame_at home ≡ frame) where
  goes_to : (f : ℕ) → frame ≡ Some f → (f < length a.held) × ((k : ℕ) → home_in a k ≡ Some f → ⊥)
  goes_to f goes =
      let free : (f < (map_of a).frames) × IsFree (map_of a) f = rw goes at into in
      (free.0, λ k e. free.1 k (frame_is a tidy k ∙ e))

  home_here : home_in (housed a page home) page ≡ frame
  home_here = ap frame_at (get_or-set_same a.homes page home 0 (omega (arith, lt, count_is a tidy))) ∙ is

  home_there : (k : ℕ) → k ≢ page → home_in (housed a page home) k ≡ home_in a k
  home_there k away = ap frame_at (get_or-set_other a.homes page k home 0 away)

  was_at_rest : held_in a.held (home_in a page) ≡ not_held
  was_at_rest =
      rest_is (held_in a.held (home_in a page)) (sym (pins_are a tidy page) ∙ unpinned)
      (sym (latches_are a tidy page) ∙ unlatched)

  frame_at_rest : (o : Option ℕ) → frame ≡ o → held_in a.held o ≡ not_held
  frame_at_rest None goes = refl
  frame_at_rest (Some f) goes = tidy.at_rest f (goes_to f goes).1

  housed_here : marks_in (housed a page home) page ≡ record (marks_of (map_of a) page) { frame = frame }
  housed_here =
      ap
      (λ o. marks_by o (held_in a.held o) (is_member a.dirty page)
      (stamp_at (is_member a.known page) (get_or a.stamps page 0))) home_here
      ∙ ap
      (λ h. marks_by frame h (is_member a.dirty page) (stamp_at (is_member a.known page) (get_or a.stamps page 0)))
      (frame_at_rest frame refl ∙ sym was_at_rest)
      ∙ sym (ap (λ (m : PageMarks). record m { frame = frame }) (marks_are a tidy page))

  housed_others : (k : ℕ) → k ≢ page → marks_in (housed a page home) k ≡ marks_in a k
  housed_others k away =
      ap
      (λ o. marks_by o (held_in a.held o) (is_member a.dirty k) (stamp_at (is_member a.known k) (get_or a.stamps k 0)))
      (home_there k away)

  pub map_housed : map_of (housed a page home) ≡ with_frame (map_of a) page frame
  map_housed =
      map_changed a (housed a page home) page (record (marks_of (map_of a) page) { frame = frame })
      (length-set a.homes page home) refl housed_here housed_others

  housed_range : (k f : ℕ) → home_in (housed a page home) k ≡ Some f → f < length a.held
  housed_range k f e =
      elim (cases_eq k page) [
        | inl same ↦ (goes_to f (sym home_here ∙ (rw same at e))).0
        | inr away ↦ tidy.in_range k f (sym (home_there k away) ∙ e)
      ]

  -- another page isn't in the frame that this one goes to
  apart : (k f : ℕ) → k ≢ page → home_in (housed a page home) k ≡ Some f → frame ≡ Some f → ⊥
  apart k f away e goes = (goes_to f goes).1 k (sym (home_there k away) ∙ e)

  housed_once : (p q f : ℕ) → home_in (housed a page home) p ≡ Some f → home_in (housed a page home) q ≡ Some f → p ≡ q
  housed_once p q f ep eq =
      elim (cases_eq p page) [
        | inl same ↦
            elim (cases_eq q page) [
              | inl same_too ↦ same ∙ sym same_too
              | inr away ↦ absurd (apart q f away eq (sym home_here ∙ (rw same at ep)))
            ]
        | inr away ↦
            elim (cases_eq q page) [
              | inl same ↦ absurd (apart p f away ep (sym home_here ∙ (rw same at eq)))
              | inr away_too ↦ tidy.no_frame_twice p q f (sym (home_there p away) ∙ ep)
                  (sym (home_there q away_too) ∙ eq)
            ]
      ]

  housed_rest : (f : ℕ) → ((k : ℕ) → home_in (housed a page home) k ≡ Some f → ⊥) → get_or a.held f not_held ≡ not_held
  housed_rest f none =
      elim (cases_some (home_in a page) f) [
        | inl was ↦ sym (ap (held_in a.held) was) ∙ was_at_rest
        | inr other ↦ tidy.at_rest f (λ k e.
            elim (cases_eq k page) [
              | inl same ↦ other (rw same at e)
              | inr away ↦ none k (home_there k away ∙ e)
            ])
      ]

  pub tidy_housed : IsTidy (housed a page home)
  tidy_housed =
      record {
        stamps = tidy.stamps ∙ sym (length-set a.homes page home);
        known = tidy.known ∙ sym (length-set a.homes page home);
        dirty = tidy.dirty ∙ sym (length-set a.homes page home);
        in_range = housed_range;
        no_frame_twice = housed_once;
        at_rest = housed_rest;
        top = tidy.top;
        frames_fit = tidy.frames_fit;
      }

-- ---- dirty marks

abbrev pub dirtied : Arrays → ℕ → Bool → Arrays
dirtied a page b = record a { dirty = set a.dirty page b }

module _ (a : Arrays) (page : ℕ) (b : Bool) (tidy : IsTidy a) (lt : page < page_count (map_of a)) where
  dirty_here : marks_in (dirtied a page b) page ≡ record (marks_of (map_of a) page) { dirty = b }
  dirty_here =
      ap
      (λ d. marks_by (home_in a page) (held_in a.held (home_in a page)) d
      (stamp_at (is_member a.known page) (get_or a.stamps page 0)))
      (get_or-set_same a.dirty page b false (omega (arith, lt, count_is a tidy, tidy.dirty)))
      ∙ sym (ap (λ (m : PageMarks). record m { dirty = b }) (marks_are a tidy page))

  dirty_others : (k : ℕ) → k ≢ page → marks_in (dirtied a page b) k ≡ marks_in a k
  dirty_others k away =
      ap
      (λ d. marks_by (home_in a k) (held_in a.held (home_in a k)) d
      (stamp_at (is_member a.known k) (get_or a.stamps k 0)))
      (get_or-set_other a.dirty page k b false away)

  pub map_dirtied : map_of (dirtied a page b) ≡ with_dirty (map_of a) page b
  map_dirtied =
      map_changed a (dirtied a page b) page (record (marks_of (map_of a) page) { dirty = b }) refl refl dirty_here
      dirty_others

-- ---- stamps

abbrev pub stamped : Arrays → ℕ → ℕ → ℕ → Arrays
stamped a page stamp top =
    record a { stamps = set a.stamps page stamp; known = set a.known page true; top = top }

module _ (a : Arrays) (page stamp top : ℕ) (tidy : IsTidy a) (lt : page < page_count (map_of a)) (over : a.top ≤ top)
    (reaches : stamp ≤ top) where
  known_low : page < length a.known
  known_low = omega (arith, lt, count_is a tidy, tidy.known)

  stamps_low : page < length a.stamps
  stamps_low = omega (arith, lt, count_is a tidy, tidy.stamps)

  stamp_here : marks_in (stamped a page stamp top) page ≡ record (marks_of (map_of a) page) { stamp = Some stamp }
  stamp_here =
      ap
      (λ k. marks_by (home_in a page) (held_in a.held (home_in a page)) (is_member a.dirty page)
      (stamp_at k (get_or (set a.stamps page stamp) page 0)))
      (get_or-set_same a.known page true false known_low)
      ∙ ap
      (λ s. marks_by (home_in a page) (held_in a.held (home_in a page)) (is_member a.dirty page) (Some s))
      (get_or-set_same a.stamps page stamp 0 stamps_low)
      ∙ sym (ap (λ (m : PageMarks). record m { stamp = Some stamp }) (marks_are a tidy page))

  stamp_others : (k : ℕ) → k ≢ page → marks_in (stamped a page stamp top) k ≡ marks_in a k
  stamp_others k away =
      ap
      (λ b. marks_by (home_in a k) (held_in a.held (home_in a k)) (is_member a.dirty k)
      (stamp_at b (get_or (set a.stamps page stamp) k 0)))
      (get_or-set_other a.known page k true false away)
      ∙ ap
      (λ s. marks_by (home_in a k) (held_in a.held (home_in a k)) (is_member a.dirty k)
      (stamp_at (is_member a.known k) s))
      (get_or-set_other a.stamps page k stamp 0 away)

  pub map_stamped : map_of (stamped a page stamp top) ≡ with_stamp (map_of a) page (Some stamp)
  map_stamped =
      map_changed a (stamped a page stamp top) page (record (marks_of (map_of a) page) { stamp = Some stamp }) refl refl
      stamp_here stamp_others

-- ---- the opening

abbrev pub at_first : ℕ → ℕ → Arrays
at_first frames pages =
    record {
      stamps = replicate pages 0;
      known = replicate pages false;
      dirty = replicate pages false;
      homes = replicate pages 0;
      held = replicate frames not_held;
      top = 0;
    }

module _ (frames pages : ℕ) where
  no_home : (k : ℕ) → home_in (at_first frames pages) k ≡ None
  no_home k = ap frame_at (at_replicate {A = ℕ} pages k 0)

  marks_first : (k : ℕ) → marks_in (at_first frames pages) k ≡ untouched_marks
  marks_first k =
      let zero_home : get_or (replicate pages 0) k 0 ≡ 0 = at_replicate {A = ℕ} pages k 0 in
      let none : is_member (replicate pages false) k ≡ false = at_replicate pages k false in
      rw (zero_home, none) refl

  pub map_first : map_of (at_first frames pages) ≡ opening frames pages
  map_first =
      ap (λ f. record { frames = f; pages = (map_of (at_first frames pages)).pages }) (length-replicate frames not_held)
      ∙ ap (λ n. record { frames = frames; pages = map (marks_in (at_first frames pages)) (range_with_len 0 n) })
      (length-replicate pages 0)
      ∙ ap (λ ps. record { frames = frames; pages = ps })
      (sym (fill_by_all (marks_in (at_first frames pages)) (replicate pages untouched_marks) pages untouched_marks
      (length-replicate pages untouched_marks)
      (λ k lt. at_replicate pages k untouched_marks ∙ sym (marks_first k))))
