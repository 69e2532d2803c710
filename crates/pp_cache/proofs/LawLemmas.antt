-- Lemmas on the laws of a cache: how many pages may stand in frames, and that no frame is given back.
use Rattle.std.proofs.Common.{◌≡◌, ℕ, zero, suc, ◌+◌, ◌-◌, ◌≤◌, Bool, true, false, not, cond, eqb, List, [], ◌∷◌, ◌++◌}
use Rattle.std.proofs.Common.{length, get_or, set, refl, ap, sym, ◌∙◌, arith, inl, inr, length-append, get_or-set_other}
use Rattle.std.specs.Prelude.{Option, None, Some, is_some, IsTrue, count_by, ◌&&◌, ◌||◌, nat_lt}
use Rattle.std.proofs.lemmas.Bool.{cases_lt, cases_Bool}
use Rattle.std.proofs.lemmas.Bool.Decides.{eqb_tells}
use Rattle.std.proofs.lemmas.List.{set_past}
use Rattle.std.proofs.lemmas.List.Sums.{sum_by-cons}
use Rattle.pp_arc.specs.Pages.{contains}
use Rattle.pp_arc.proofs.LawLemmas.{RequestAnswers-request}
use Rattle.pp_arc.proofs.RequestLemmas.{unchanged-request}
use Rattle.pp_arc.specs.declared.answer.Answer.{Answer}
use Rattle.pp_arc.specs.declared.answer.Answer.TheVariants.{AllBusy}
use Rattle.pp_arc.specs.FourLists.{FourLists, is_cached, cached_count}
use Rattle.pp_arc.specs.Laws.{AllCachedAreBusy}
use Rattle.pp_arc.specs.Sizes.{given_up}
use Rattle.pp_cache.specs.declared.resident.Resident.{Resident}
use Rattle.pp_cache.specs.Frames.{FrameMap, is_held, is_pinned, resident_count, pinned_count, page_of, with_page}
use Rattle.pp_cache.specs.Frames.{with_pinned}
use Rattle.pp_cache.specs.Cache.{PageCache, asked, after_pin, after_bring_in, grown, keys_for, with_key, with_room}
use Rattle.pp_cache.specs.Cache.{dropped, after_unpin, moved_page, after_rekey, last_cached, one_fewer_of, one_fewer}
use Rattle.pp_cache.specs.Cache.{fewer, after_resize, is_idle, IsSound, IsTogether, without_victim}
use Rattle.pp_cache.proofs.FrameLemmas.{one_for, count-set}
use Rattle.pp_cache.proofs.CacheLemmas.{page_gone, victim_frames}

-- ---- pages that stand in frames unpinned

abbrev pub is_idle_page : Option Resident → Bool
is_idle_page o = is_some o && not (is_held o)

parted_flag : (b : Bool) → one_for true ≡ one_for b + one_for (true && not b)
parted_flag true = refl
parted_flag false = refl

parted_one : (o : Option Resident) → one_for (is_some o) ≡ one_for (is_held o) + one_for (is_idle_page o)
parted_one None = refl
parted_one (Some r) = parted_flag r.is_pinned

-- each page that stands in a frame is pinned, or it is idle
parted : (pages : List (Option Resident))
    → count_by is_some pages ≡ count_by is_held pages + count_by is_idle_page pages
parted [] = refl
parted (o ∷ os) = omega (
  arith,
  parted os,
  parted_one o,
  sum_by-cons (λ x. one_for (is_some x)) o os,
  sum_by-cons (λ x. one_for (is_held x)) o os,
  sum_by-cons (λ x. one_for (is_idle_page x)) o os,
)

idle_flag : (b : Bool) → (true && not b) ≡ true → b ≡ false
idle_flag true e = absurd (cc)
idle_flag false e = refl

idle_some : (o : Option Resident) → is_idle_page o ≡ true → is_some o ≡ true
idle_some None e = e
idle_some (Some r) e = refl

idle_free : (o : Option Resident) → is_idle_page o ≡ true → is_held o ≡ false
idle_free None e = refl
idle_free (Some r) e = idle_flag r.is_pinned e

-- where no page is idle there is none to count
none_idle : (pages : List (Option Resident)) → ((k : ℕ) → is_idle_page (get_or pages k None) ≡ false)
    → count_by is_idle_page pages ≡ 0
none_idle [] h = refl
none_idle (o ∷ os) h = omega (
  arith,
  none_idle os (λ k. h (suc k)),
  ap one_for (h zero),
  sum_by-cons (λ x. one_for (is_idle_page x)) o os,
)

small : (b : Bool) → one_for b ≤ 1
small true = omega arith
small false = omega arith

one_less : (pages : List (Option Resident)) (x : ℕ)
    → count_by is_idle_page pages ≤ count_by is_idle_page (set pages x None) + 1
one_less pages x = elim (cases_lt x (length pages)) [
  | inl lt ↦ omega (arith, count-set is_idle_page pages x None lt, small (is_idle_page (get_or pages x None)))
  | inr le ↦ rw (set_past pages x None le) (omega arith)
]

-- a page that stays idle while another leaves
still_named : (x : ℕ) (xs : List ℕ) (pages : List (Option Resident))
    → ((k : ℕ) → is_idle_page (get_or pages k None) ≡ true → contains (x ∷ xs) k ≡ true)
    → (k : ℕ) → is_idle_page (get_or (set pages x None) k None) ≡ true → contains xs k ≡ true
still_named x xs pages h k e = elim (eqb_tells x k) [
  | inl t ↦
      let m : FrameMap = record { frames = 0; pages = pages } in
      let gone : get_or (set pages x None) x None ≡ None = page_gone m x in
      let e' : is_idle_page (get_or (set pages x None) x None) ≡ true = rw (← t.1) at e in
      let n : false ≡ true = sym (ap is_idle_page gone) ∙ e' in
      absurd (cc)
  | inr t ↦
      let here : is_idle_page (get_or pages k None) ≡ true =
      sym (ap is_idle_page (get_or-set_other pages x k None None (λ w. t.1 (sym w)))) ∙ e in
      let named : (eqb x k || contains xs k) ≡ true = h k here in
      sym (ap (λ b. b || contains xs k) t.0) ∙ named
]

-- as many pages are idle as these names at most, where each idle page has one of them
few_idle : (xs : List ℕ) (pages : List (Option Resident))
    → ((k : ℕ) → is_idle_page (get_or pages k None) ≡ true → contains xs k ≡ true)
    → count_by is_idle_page pages ≤ length xs
few_idle [] pages h = omega (
  arith,
  none_idle pages (λ k. elim (cases_Bool (is_idle_page (get_or pages k None))) [
    | inl e ↦ let n : false ≡ true = h k e in absurd (cc)
    | inr e ↦ e
  ]),
)
few_idle (x ∷ xs) pages h = omega (
  arith,
  one_less pages x,
  few_idle xs (set pages x None) (still_named x xs pages h),
)

or_assoc : (a b c : Bool) → (a || (b || c)) ≡ ((a || b) || c)
or_assoc true b c = refl
or_assoc false b c = refl

pub contains-append : (xs ys : List ℕ) (k : ℕ) → contains (xs ++ ys) k ≡ (contains xs k || contains ys k)
contains-append [] ys k = refl
contains-append (x ∷ xs) ys k = ap (λ b. eqb x k || b) (contains-append xs ys k)
    ∙ or_assoc (eqb x k) (contains xs k) (contains ys k)

pub idle_cached : (s : PageCache) → IsSound s → (k : ℕ) → is_idle s.table k ≡ true → IsTrue (is_cached s.lists k)
idle_cached s h k e = h.together.unpinned_is_cached k (idle_some (page_of s.table k) e) (idle_free (page_of s.table k) e)

pub few_unpinned : (s : PageCache) → IsSound s → resident_count s.table ≤ pinned_count s.table + s.lists.c
few_unpinned s h = omega (
  arith,
  parted s.table.pages,
  few_idle (s.lists.t1 ++ s.lists.t2) s.table.pages stands,
  length-append s.lists.t1 s.lists.t2,
  h.bounds.cached,
)
  where
    stands : (k : ℕ) → is_idle_page (get_or s.table.pages k None) ≡ true
        → contains (s.lists.t1 ++ s.lists.t2) k ≡ true
    stands k e = contains-append s.lists.t1 s.lists.t2 k ∙ idle_cached s h k e

-- ---- no frame is given back

pub frames-pin : (s : PageCache) (key : ℕ) → (after_pin s key).table.frames ≡ s.table.frames
frames-pin s key = go (is_pinned s.table key)
  where
    go : (b : Bool)
        → (cond b s (record { lists = (asked s key).1; table = with_pinned s.table key true })).table.frames
        ≡ s.table.frames
    go true = refl
    go false = refl

pub frames-bring_in : (s : PageCache) (key frame : ℕ) → (after_bring_in s key frame).table.frames ≡ s.table.frames
frames-bring_in s key frame = victim_frames s.table (asked s key).0

frames-key : (s : PageCache) (key : ℕ) → (with_key s key).table.frames ≡ s.table.frames
frames-key s key = go (nat_lt key (length s.table.pages))
  where
    go : (b : Bool) → (cond b s (grown s (keys_for (length s.table.pages) key))).table.frames ≡ s.table.frames
    go true = refl
    go false = refl

wider : (b : Bool) (n : ℕ) → n ≤ cond b (n + 1) n
wider true n = omega arith
wider false n = omega arith

pub frames-room : (s : PageCache) (key : ℕ) → s.table.frames ≤ (with_room s key).table.frames
frames-room s key = omega (
  arith,
  frames-key s key,
  wider (eqb (resident_count (with_key s key).table) (with_key s key).table.frames) (with_key s key).table.frames,
)

pub frames-unpin : (s : PageCache) (key : ℕ) (discard : Bool)
    → (after_unpin s key discard).table.frames ≡ s.table.frames
frames-unpin s key discard = go (not (is_pinned s.table key)) discard (is_cached s.lists key)
  where
    go : (a b c : Bool)
        → (cond a s (cond b (dropped s key) (record s {
          table = cond c (with_pinned s.table key false) (with_page s.table key None);
        }))).table.frames ≡ s.table.frames
    go true b c = refl
    go false true c = refl
    go false false true = refl
    go false false false = refl

pub frames-rekey : (s : PageCache) (old new : ℕ) → (after_rekey s old new).table.frames ≡ s.table.frames
frames-rekey s old new = go (eqb old new) (is_some (page_of s.table old))
  where
    go : (a b : Bool) → (cond a s (cond b (moved_page s old new) s)).table.frames ≡ s.table.frames
    go true b = refl
    go false true = refl
    go false false = refl

frames-one_fewer_of : (s : PageCache) (victim last : Option ℕ)
    → (one_fewer_of s victim last).table.frames ≡ s.table.frames
frames-one_fewer_of s (Some v) last = refl
frames-one_fewer_of s None (Some page) = refl
frames-one_fewer_of s None None = refl

frames-fewer : (n : ℕ) (s : PageCache) → (fewer n s).table.frames ≡ s.table.frames
frames-fewer zero s = refl
frames-fewer (suc n) s = frames-fewer n (one_fewer s)
    ∙ frames-one_fewer_of s (given_up s.lists (is_pinned s.table)) (last_cached s.lists)

pub frames-resize : (s : PageCache) (size : ℕ) → (after_resize s size).table.frames ≡ s.table.frames
frames-resize s size = frames-fewer (cached_count s.lists - size) s

-- ---- where as many pages are pinned as stand in frames, each one is

no_one : (b : Bool) → one_for b ≡ 0 → b ≡ false
no_one true e = absurd (cc)
no_one false e = refl

none_counted : (pages : List (Option Resident)) → count_by is_idle_page pages ≡ 0
    → (k : ℕ) → is_idle_page (get_or pages k None) ≡ false
none_counted [] e k = refl
none_counted (o ∷ os) e zero = no_one (is_idle_page o)
    (omega (arith, e, sum_by-cons (λ x. one_for (is_idle_page x)) o os))
none_counted (o ∷ os) e (suc k) = none_counted os
    (omega (arith, e, sum_by-cons (λ x. one_for (is_idle_page x)) o os)) k

held_flag : (b : Bool) → (true && not b) ≡ false → b ≡ true
held_flag true e = refl
held_flag false e = absurd (cc)

held_else : (o : Option Resident) → is_some o ≡ true → is_idle_page o ≡ false → is_held o ≡ true
held_else None some e = some
held_else (Some r) some e = held_flag r.is_pinned e

pub all_held : (m : FrameMap) → resident_count m ≡ pinned_count m → (k : ℕ) → is_some (page_of m k) ≡ true
    → is_pinned m k ≡ true
all_held m e k some = held_else (page_of m k) some
    (none_counted m.pages (omega (arith, e, parted m.pages)) k)

pub all_cached_held : (s : PageCache) → IsTogether s → resident_count s.table ≡ pinned_count s.table
    → AllCachedAreBusy s.lists (is_pinned s.table)
all_cached_held s h e x cached = all_held s.table e x (h.cached_has_frame x cached)

not_cached : (s : PageCache) (key : ℕ) → IsTogether s → page_of s.table key ≡ None → is_cached s.lists key ≡ false
not_cached s key h none = elim (cases_Bool (is_cached s.lists key)) [
  | inl e ↦ let n : false ≡ true = sym (ap is_some none) ∙ h.cached_has_frame key e in absurd (cc)
  | inr e ↦ e
]

-- a request finds nobody who may leave, and changes nothing
pub nobody_leaves : (s : PageCache) (key : ℕ) → IsSound s → page_of s.table key ≡ None
    → cached_count s.lists ≡ s.lists.c → AllCachedAreBusy s.lists (is_pinned s.table) → asked s key ≡ (AllBusy, s.lists)
nobody_leaves s key h none full busy =
    let e : (asked s key).0 ≡ AllBusy =
    (RequestAnswers-request s.lists key (is_pinned s.table) h.bounds).all_busy.1
    (not_cached s key h.together none, full, busy) in
    pair_of (asked s key) e (unchanged-request s.lists key (is_pinned s.table) e)
  where
    pair_of : (p : Answer × FourLists) → p.0 ≡ AllBusy → p.1 ≡ s.lists → p ≡ (AllBusy, s.lists)
    pair_of (answer, lists) e f = rw (e, f) refl

-- what bringing a page in comes to, by what ARC answers
abbrev brought : PageCache → ℕ → ℕ → Answer × FourLists → PageCache
brought s key frame done =
    record {
      lists = done.1;
      table = with_page (without_victim s.table done.0) key (Some (record { frame = frame; is_pinned = true }));
    }

pub brought_beyond : (s : PageCache) (key frame : ℕ) → IsSound s → page_of s.table key ≡ None
    → cached_count s.lists ≡ s.lists.c → AllCachedAreBusy s.lists (is_pinned s.table)
    → after_bring_in s key frame
    ≡ record { lists = s.lists; table = with_page s.table key (Some (record { frame = frame; is_pinned = true })) }
brought_beyond s key frame h none full busy = ap (brought s key frame) (nobody_leaves s key h none full busy)

equal : (a b : ℕ) → eqb a b ≡ true → a ≡ b
equal a b e = elim (eqb_tells a b) [
  | inl t ↦ t.1
  | inr t ↦ let n : false ≡ true = sym t.0 ∙ e in absurd (cc)
]

pub all_pinned : (s : PageCache) (resident pinned : ℕ) → IsTogether s → resident ≡ resident_count s.table
    → pinned ≡ pinned_count s.table → eqb resident pinned ≡ true → AllCachedAreBusy s.lists (is_pinned s.table)
all_pinned s resident pinned h e f same = all_cached_held s h (sym e ∙ equal resident pinned same ∙ f)
