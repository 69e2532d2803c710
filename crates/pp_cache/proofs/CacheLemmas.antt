-- Lemmas on a cache: the lists and the frames speak of the same pages after each step.
use Rattle.std.proofs.Common.{◌≡◌, ◌≢◌, ◌⊎◌, ℕ, suc, ◌+◌, ◌-◌, ◌<◌, ◌≤◌, Bool, true, false, cond, eqb, ltb, leb, List, [], ◌∷◌, length}
use Rattle.std.proofs.Common.{replicate, get_or, set, refl, ap, sym, ◌∙◌, arith, inl, inr, length-append, length-set}
use Rattle.std.proofs.Common.{get_or-set_other, get_or-set_same, eq-eqb}
use Rattle.std.specs.Prelude.{Option, None, Some, is_some, IsSome, IsTrue, ◌&&◌, ◌||◌, not}
use Rattle.std.specs.List.{filter}
use Rattle.std.specs.Option.{option_map}
use Rattle.std.proofs.Math.Bool.{or-true, or-false, and-true, and-false}
use Rattle.std.proofs.lemmas.Bool.{cases_lt, cases_eq, lt-ltb, le-leb, lt-leb}
use Rattle.std.proofs.lemmas.Bool.Decides.{eqb_tells}
use Rattle.std.proofs.lemmas.List.{get_or_past, set_past, get_or_append_left, get_or-append_right, get_or-replicate}
use Rattle.std.proofs.lemmas.List.{length-replicate}
use Rattle.std.proofs.lemmas.List.Elements.{filter_agree}
use Rattle.pp_arc.specs.declared.answer.Answer.{Answer}
use Rattle.pp_arc.specs.declared.answer.Answer.TheVariants.{Hit, Free, Evict, AllBusy}
use Rattle.pp_arc.specs.declared.list.List.{List as ListName}
use Rattle.pp_arc.specs.declared.list.List.TheVariants.{T1, T2, B1, B2}
use Rattle.pp_arc.specs.Pages.{contains, without, times_in}
use Rattle.pp_arc.specs.FourLists.{FourLists, list_of, times_named, cached_count, is_cached, place}
use Rattle.pp_arc.specs.Figure.{forget, with_remembered}
use Rattle.pp_arc.specs.Laws.{CachesInstead, CachesWithout, CachesRenamed, AllCachedAreBusy}
use Rattle.pp_arc.specs.Sizes.{renamed, renamed_in, resized}
use Rattle.pp_arc.proofs.PageLemmas.{times_in-contains}
use Rattle.pp_cache.specs.declared.resident.Resident.{Resident}
use Rattle.pp_cache.specs.Frames.{FrameMap, page_of, is_held, is_pinned, resident_count, pinned_to, with_page, with_pinned}
use Rattle.pp_cache.specs.Frames.{with_keys, with_free_frame, moved, IsOneToOne}
use Rattle.pp_cache.specs.Cache.{PageCache, without_victim, dropped, lists_where, KeepsOnly, IsTogether}
use Rattle.pp_cache.specs.Cache.{IsSound, PinnedStay, one_fewer, fewer}
use Rattle.pp_cache.proofs.FrameLemmas.{count-set}

-- ---- one page of the map

pub page_here : (m : FrameMap) (k : ℕ) (o : Option Resident) → k < length m.pages → page_of (with_page m k o) k ≡ o
page_here m k o lt = get_or-set_same m.pages k o None lt

pub page_there : (m : FrameMap) (k j : ℕ) (o : Option Resident) → j ≢ k → page_of (with_page m k o) j ≡ page_of m j
page_there m k j o ne = get_or-set_other m.pages k j o None ne

pub page_gone : (m : FrameMap) (k : ℕ) → page_of (with_page m k None) k ≡ None
page_gone m k = elim (cases_lt k (length m.pages)) [
  | inl lt ↦ page_here m k None lt
  | inr le ↦ get_or_past (set m.pages k None) k None (omega (arith, le, length-set m.pages k None))
]

pub page_still_gone : (m : FrameMap) (k j : ℕ) → page_of m j ≡ None → page_of (with_page m k None) j ≡ None
page_still_gone m k j none = elim (cases_eq j k) [
  | inl e ↦ rw e (page_gone m k)
  | inr ne ↦ page_there m k j None ne ∙ none
]

pub some_below : (m : FrameMap) (k : ℕ) → IsSome (page_of m k) → k < length m.pages
some_below m k some = elim (cases_lt k (length m.pages)) [
  | inl lt ↦ lt
  | inr le ↦ let n : false ≡ true = sym (ap is_some (get_or_past m.pages k None le)) ∙ some in absurd (cc)
]

pub held_some : (o : Option Resident) → is_held o ≡ true → is_some o ≡ true
held_some None h = h
held_some (Some r) h = refl

some_pinned_to : (b : Bool) (o : Option Resident) → is_some (pinned_to b o) ≡ is_some o
some_pinned_to b None = refl
some_pinned_to b (Some r) = refl

held_pinned_to : (o : Option Resident) → is_some o ≡ true → is_held (pinned_to true o) ≡ true
held_pinned_to None some = some
held_pinned_to (Some r) some = refl

-- who stands in a frame is the same where a page is pinned or unpinned
pub some_pinned : (m : FrameMap) (k : ℕ) (b : Bool) (j : ℕ)
    → is_some (page_of (with_pinned m k b) j) ≡ is_some (page_of m j)
some_pinned m k b j = elim (cases_eq j k) [
  | inl e ↦ rw e (here k)
  | inr ne ↦ ap is_some (page_there m k j (pinned_to b (page_of m k)) ne)
]
  where
    here : (k : ℕ) → is_some (page_of (with_pinned m k b) k) ≡ is_some (page_of m k)
    here k = elim (cases_lt k (length m.pages)) [
      | inl lt ↦ ap is_some (page_here m k (pinned_to b (page_of m k)) lt) ∙ some_pinned_to b (page_of m k)
      | inr le ↦ ap (λ (pages : List (Option Resident)). is_some (get_or pages k None))
          (set_past m.pages k (pinned_to b (page_of m k)) le)
    ]

pub held_pinned : (m : FrameMap) (k : ℕ) → IsSome (page_of m k) → is_pinned (with_pinned m k true) k ≡ true
held_pinned m k some = ap is_held (page_here m k (pinned_to true (page_of m k)) (some_below m k some))
    ∙ held_pinned_to (page_of m k) some

-- ---- a page is pinned again

pub together-pin : (s : PageCache) (lists : FourLists) (k : ℕ) → IsTogether s → IsSome (page_of s.table k)
    → lists.pages ≡ s.lists.pages
    → ((x : ℕ) → IsTrue (is_cached lists x) → (x ≡ k) ⊎ IsTrue (is_cached s.lists x))
    → ((x : ℕ) → IsTrue (is_cached s.lists x) → IsTrue (is_cached lists x))
    → IsTogether (record { lists = lists; table = with_pinned s.table k true })
together-pin s lists k h some pages forth back = record {
  keys = pages ∙ h.keys ∙ sym (length-set s.table.pages k (pinned_to true (page_of s.table k)));
  cached_has_frame = λ x here. some_pinned s.table k true x ∙ frame x (forth x here);
  unpinned_is_cached = λ x there free. back x
      (h.unpinned_is_cached x (sym (some_pinned s.table k true x) ∙ there) (was_free x free));
}
  where
    frame : (x : ℕ) → (x ≡ k) ⊎ IsTrue (is_cached s.lists x) → is_some (page_of s.table x) ≡ true
    frame x (inl e) = rw e some
    frame x (inr c) = h.cached_has_frame x c

    was_free : (x : ℕ) → is_pinned (with_pinned s.table k true) x ≡ false → is_pinned s.table x ≡ false
    was_free x free = elim (cases_eq x k) [
      | inl e ↦ let free' : is_pinned (with_pinned s.table k true) k ≡ false = rw e at free in
          let n : false ≡ true = sym free' ∙ held_pinned s.table k some in absurd (cc)
      | inr ne ↦ sym (ap is_held (page_there s.table k x (pinned_to true (page_of s.table k)) ne)) ∙ free
    ]

pub stay-pin : (m : FrameMap) (k : ℕ) → is_pinned m k ≡ false → PinnedStay m (with_pinned m k true)
stay-pin m k free x held = elim (cases_eq x k) [
  | inl e ↦ let held' : is_pinned m k ≡ true = rw e at held in let n : false ≡ true = sym free ∙ held' in absurd (cc)
  | inr ne ↦ page_there m k x (pinned_to true (page_of m k)) ne
]

-- ---- a victim leaves

pub victim_back : (m : FrameMap) (answer : Answer) (x : ℕ) → answer ≢ Evict x
    → page_of (without_victim m answer) x ≡ page_of m x
victim_back m Hit x ne = refl
victim_back m Free x ne = refl
victim_back m AllBusy x ne = refl
victim_back m (Evict v) x ne = page_there m v x None (λ e. ne (ap Evict (sym e)))

pub victim_forth : (m : FrameMap) (answer : Answer) (x : ℕ) → IsSome (page_of (without_victim m answer) x)
    → answer ≢ Evict x
victim_forth m Hit x some = λ e. cc
victim_forth m Free x some = λ e. cc
victim_forth m AllBusy x some = λ e. cc
victim_forth m (Evict v) x some = λ e.
    let same : v ≡ x = cc in
    let n : page_of (with_page m v None) x ≡ None = rw same (page_gone m x) in
    let no' : false ≡ true = sym (ap is_some n) ∙ some in cc

pub victim_keys : (m : FrameMap) (answer : Answer) → length (without_victim m answer).pages ≡ length m.pages
victim_keys m Hit = refl
victim_keys m Free = refl
victim_keys m AllBusy = refl
victim_keys m (Evict v) = length-set m.pages v None

pub victim_frames : (m : FrameMap) (answer : Answer) → (without_victim m answer).frames ≡ m.frames
victim_frames m Hit = refl
victim_frames m Free = refl
victim_frames m AllBusy = refl
victim_frames m (Evict v) = refl

pub fewer_resident : (m : FrameMap) (k : ℕ) → resident_count (with_page m k None) ≤ resident_count m
fewer_resident m k = elim (cases_lt k (length m.pages)) [
  | inl lt ↦ omega (arith, count-set is_some m.pages k None lt)
  | inr le ↦ rw (set_past m.pages k None le) (omega arith)
]

pub victim_fewer : (m : FrameMap) (answer : Answer) → resident_count (without_victim m answer) ≤ resident_count m
victim_fewer m Hit = omega arith
victim_fewer m Free = omega arith
victim_fewer m AllBusy = omega arith
victim_fewer m (Evict v) = fewer_resident m v

pub victim_absent : (m : FrameMap) (answer : Answer) (k : ℕ) → page_of m k ≡ None
    → page_of (without_victim m answer) k ≡ None
victim_absent m Hit k none = none
victim_absent m Free k none = none
victim_absent m AllBusy k none = none
victim_absent m (Evict v) k none = page_still_gone m v k none

-- ---- a page is brought in

-- what the lists are after the answer
pub record Answered (old new : FourLists) (k : ℕ) (answer : Answer) : Type 0 where
  pub forth : (x : ℕ) → IsTrue (is_cached new x) → (x ≡ k) ⊎ (IsTrue (is_cached old x) × (answer ≢ Evict x))
  pub back : (x : ℕ) → IsTrue (is_cached old x) → answer ≢ Evict x → IsTrue (is_cached new x)

pub answered : (old new : FourLists) (k : ℕ) (answer : Answer) → (answer ≡ AllBusy → new ≡ old)
    → (answer ≢ AllBusy → CachesInstead old new k answer) → Answered old new k answer
answered old new k AllBusy same instead = record {
  forth = λ x c. inr (rw (same refl) at c, λ e. cc);
  back = λ x c ne. rw (same refl) c;
}
answered old new k Hit same instead = record {
  forth = λ x c. (instead (λ e. cc) x).0 c;
  back = λ x c ne. (instead (λ e. cc) x).1 (inr (c, ne));
}
answered old new k Free same instead = record {
  forth = λ x c. (instead (λ e. cc) x).0 c;
  back = λ x c ne. (instead (λ e. cc) x).1 (inr (c, ne));
}
answered old new k (Evict v) same instead = record {
  forth = λ x c. (instead (λ e. cc) x).0 c;
  back = λ x c ne. (instead (λ e. cc) x).1 (inr (c, ne));
}

pub together-bring_in : (s : PageCache) (lists : FourLists) (answer : Answer) (k : ℕ) (r : Resident) → IsTogether s
    → k < length s.table.pages → r.is_pinned ≡ true → lists.pages ≡ s.lists.pages → Answered s.lists lists k answer
    → IsTogether (record { lists = lists; table = with_page (without_victim s.table answer) k (Some r) })
together-bring_in s lists answer k r h lt held pages a = record {
  keys = pages ∙ h.keys ∙ sym (length-set (without_victim s.table answer).pages k (Some r) ∙ victim_keys s.table answer);
  cached_has_frame = λ x here. elim (cases_eq x k) [
    | inl e ↦ rw e (ap is_some (page_here (without_victim s.table answer) k (Some r) lt'))
    | inr ne ↦ ap is_some (page_there (without_victim s.table answer) k x (Some r) ne) ∙ frame x ne (a.forth x here)
  ];
  unpinned_is_cached = λ x there free. elim (cases_eq x k) [
    | inl e ↦ let free' : is_pinned (with_page (without_victim s.table answer) k (Some r)) k ≡ false = rw e at free in
        let n : false ≡ true =
        sym free' ∙ ap is_held (page_here (without_victim s.table answer) k (Some r) lt') ∙ held in absurd (cc)
    | inr ne ↦
        let e : page_of (with_page (without_victim s.table answer) k (Some r)) x
        ≡ page_of (without_victim s.table answer) x = page_there (without_victim s.table answer) k x (Some r) ne in
        let stays : answer ≢ Evict x = victim_forth s.table answer x (sym (ap is_some e) ∙ there) in
        let back : page_of (without_victim s.table answer) x ≡ page_of s.table x =
        victim_back s.table answer x stays in
        a.back x
        (h.unpinned_is_cached x (sym (ap is_some back) ∙ sym (ap is_some e) ∙ there)
        (sym (ap is_held back) ∙ sym (ap is_held e) ∙ free))
        stays
  ];
}
  where
    lt' : k < length (without_victim s.table answer).pages
    lt' = omega (arith, lt, victim_keys s.table answer)

    frame : (x : ℕ) → x ≢ k → (x ≡ k) ⊎ (IsTrue (is_cached s.lists x) × (answer ≢ Evict x))
        → is_some (page_of (without_victim s.table answer) x) ≡ true
    frame x ne (inl e) = absurd (ne e)
    frame x ne (inr c) = ap is_some (victim_back s.table answer x c.1) ∙ h.cached_has_frame x c.0

pub stay-bring_in : (m : FrameMap) (answer : Answer) (k : ℕ) (o : Option Resident) → page_of m k ≡ None
    → ((v : ℕ) → answer ≡ Evict v → is_pinned m v ≡ false)
    → PinnedStay m (with_page (without_victim m answer) k o)
stay-bring_in m answer k o none idle x held =
    page_there (without_victim m answer) k x o away ∙ victim_back m answer x stays
  where
    away : x ≢ k
    away = λ e. let held' : is_pinned m k ≡ true = rw e at held in
        let n : false ≡ true = sym (ap is_held none) ∙ held' in cc

    stays : answer ≢ Evict x
    stays = λ e. let n : false ≡ true = sym (idle x e) ∙ held in cc

-- ---- room for more keys

pub page-keys : (m : FrameMap) (keys x : ℕ) → page_of (with_keys m keys) x ≡ page_of m x
page-keys m keys x = elim (cases_lt x (length m.pages)) [
  | inl lt ↦ get_or_append_left m.pages more None x lt
  | inr le ↦ get_or-append_right m.pages more (length m.pages) x None refl le
      ∙ nothing (x - length m.pages) ∙ sym (get_or_past m.pages x None le)
]
  where
    none : Option Resident
    none = None

    more : List (Option Resident)
    more = replicate (keys - length m.pages) None

    nothing : (i : ℕ) → get_or more i None ≡ None
    nothing i = elim (cases_lt i (keys - length m.pages)) [
      | inl lt ↦ get_or-replicate (keys - length m.pages) i None None lt
      | inr past ↦ get_or_past more i None (omega (arith, past, length-replicate (keys - length m.pages) none))
    ]

pub together-grow : (s : PageCache) (lists : FourLists) (keys : ℕ) → IsTogether s → length s.table.pages ≤ keys
    → lists ≡ record s.lists { pages = keys } → IsTogether (record { lists = lists; table = with_keys s.table keys })
together-grow s lists keys h more e = rw e (record {
  keys = omega (
    arith,
    length-append s.table.pages (replicate (keys - length s.table.pages) none),
    length-replicate (keys - length s.table.pages) none,
    more,
  );
  cached_has_frame = λ x here. ap is_some (page-keys s.table keys x) ∙ h.cached_has_frame x here;
  unpinned_is_cached = λ x there free. h.unpinned_is_cached x (sym (ap is_some (page-keys s.table keys x)) ∙ there)
      (sym (ap is_held (page-keys s.table keys x)) ∙ free);
})
  where
    none : Option Resident
    none = None

-- ---- a page is let go

pub together-unpin : (s : PageCache) (k : ℕ) → IsTogether s → IsTrue (is_cached s.lists k)
    → IsTogether (record s { table = with_pinned s.table k false })
together-unpin s k h cached = record {
  keys = h.keys ∙ sym (length-set s.table.pages k (pinned_to false (page_of s.table k)));
  cached_has_frame = λ x here. some_pinned s.table k false x ∙ h.cached_has_frame x here;
  unpinned_is_cached = λ x there free. elim (cases_eq x k) [
    | inl e ↦ rw e cached
    | inr ne ↦ h.unpinned_is_cached x (sym (some_pinned s.table k false x) ∙ there)
        (sym (ap is_held (page_there s.table k x (pinned_to false (page_of s.table k)) ne)) ∙ free)
  ];
}

-- a page that is cached no more leaves its frame
pub together-release : (s : PageCache) (lists : FourLists) (k : ℕ) → IsTogether s → lists.pages ≡ s.lists.pages
    → ((x : ℕ) → IsTrue (is_cached lists x) → IsTrue (is_cached s.lists x) × (x ≢ k))
    → ((x : ℕ) → IsTrue (is_cached s.lists x) → x ≢ k → IsTrue (is_cached lists x))
    → IsTogether (record { lists = lists; table = with_page s.table k None })
together-release s lists k h pages forth back = record {
  keys = pages ∙ h.keys ∙ sym (length-set s.table.pages k None);
  cached_has_frame = λ x here. ap is_some (page_there s.table k x None (forth x here).1)
      ∙ h.cached_has_frame x (forth x here).0;
  unpinned_is_cached = λ x there free. elim (cases_eq x k) [
    | inl e ↦ let there' : is_some (page_of (with_page s.table k None) k) ≡ true = rw e at there in
        let n : false ≡ true = sym (ap is_some (page_gone s.table k)) ∙ there' in absurd (cc)
    | inr ne ↦ back x
        (h.unpinned_is_cached x (sym (ap is_some (page_there s.table k x None ne)) ∙ there)
        (sym (ap is_held (page_there s.table k x None ne)) ∙ free))
        ne
  ];
}

-- ---- no frame has two pages

pub one_to_one-keys : (m : FrameMap) (keys : ℕ) → IsOneToOne m → IsOneToOne (with_keys m keys)
one_to_one-keys m keys h = record {
  in_range = λ k f e. h.in_range k f (sym (ap frame_at (page-keys m keys k)) ∙ e);
  no_frame_twice = λ p q f e g. h.no_frame_twice p q f (sym (ap frame_at (page-keys m keys p)) ∙ e)
      (sym (ap frame_at (page-keys m keys q)) ∙ g);
}
  where
    frame_at : Option Resident → Option ℕ
    frame_at o = option_map (λ (page : Resident). page.frame) o

pub one_to_one-free_frame : (m : FrameMap) → IsOneToOne m → IsOneToOne (with_free_frame m)
one_to_one-free_frame m h = record {
  in_range = λ k f e. wider (eqb (resident_count m) m.frames) f (h.in_range k f e);
  no_frame_twice = h.no_frame_twice;
}
  where
    wider : (b : Bool) (f : ℕ) → f < m.frames → f < cond b (m.frames + 1) m.frames
    wider true f lt = omega arith
    wider false f lt = lt

-- ---- a page gets another key

pub moved_new : (m : FrameMap) (from to : ℕ) → to < length m.pages → page_of (moved m from to) to ≡ page_of m from
moved_new m from to lt = page_here (with_page m from None) to (page_of m from)
    (omega (arith, lt, length-set m.pages from None))

pub moved_old : (m : FrameMap) (from to : ℕ) → from ≢ to → page_of (moved m from to) from ≡ None
moved_old m from to ne = page_there (with_page m from None) to from (page_of m from) ne ∙ page_gone m from

pub moved_other : (m : FrameMap) (from to x : ℕ) → x ≢ from → x ≢ to → page_of (moved m from to) x ≡ page_of m x
moved_other m from to x nf nt = page_there (with_page m from None) to x (page_of m from) nt ∙ page_there m from x None nf

pub together-rekey : (s : PageCache) (lists : FourLists) (old new : ℕ) → IsTogether s → old ≢ new
    → new < length s.table.pages → lists.pages ≡ s.lists.pages → CachesRenamed s.lists lists old new
    → IsTogether (record { lists = lists; table = moved (with_page s.table new None) old new })
together-rekey s lists old new h ne low pages c = record {
  keys = pages ∙ h.keys ∙ sym (
      length-set (set (set s.table.pages new None) old None) new (page_of (with_page s.table new None) old)
      ∙ length-set (set s.table.pages new None) old None ∙ length-set s.table.pages new None
      );
  cached_has_frame = λ x here. frame x ((c x).0 here);
  unpinned_is_cached = λ x there free. elim (cases_eq x new) [
    | inl e ↦ (c x).1 (inl (
      e,
      h.unpinned_is_cached old (sym (ap is_some at_new) ∙ (rw e at there)) (sym (ap is_held at_new) ∙ (rw e at free)),
    ))
    | inr nn ↦ elim (cases_eq x old) [
      | inl e ↦ let there' : is_some (page_of (moved (with_page s.table new None) old new) old) ≡ true =
          rw e at there in
          let n : false ≡ true = sym (ap is_some (moved_old (with_page s.table new None) old new ne)) ∙ there' in
          absurd (cc)
      | inr no' ↦ (c x).1 (inr (
        h.unpinned_is_cached x (sym (ap is_some (at_other x no' nn)) ∙ there)
            (sym (ap is_held (at_other x no' nn)) ∙ free),
        no',
        nn,
      ))
    ]
  ];
}
  where
    at_new : page_of (moved (with_page s.table new None) old new) new ≡ page_of s.table old
    at_new = moved_new (with_page s.table new None) old new (omega (arith, low, length-set s.table.pages new None))
        ∙ page_there s.table new old None ne

    at_other : (x : ℕ) → x ≢ old → x ≢ new
        → page_of (moved (with_page s.table new None) old new) x ≡ page_of s.table x
    at_other x no' nn = moved_other (with_page s.table new None) old new x no' nn ∙ page_there s.table new x None nn

    frame : (x : ℕ)
        → ((x ≡ new) × IsTrue (is_cached s.lists old)) ⊎ (IsTrue (is_cached s.lists x) × (x ≢ old) × (x ≢ new))
        → is_some (page_of (moved (with_page s.table new None) old new) x) ≡ true
    frame x (inl k) = rw k.0 (ap is_some at_new ∙ h.cached_has_frame old k.1)
    frame x (inr k) = ap is_some (at_other x k.1 k.2) ∙ h.cached_has_frame x k.0

-- ---- many pages at once

pub contains-first : (k : ℕ) (ys : List ℕ) → contains (k ∷ ys) k ≡ true
contains-first k ys = rw (eq-eqb k k refl) refl

-- the test lets all of the list through
pub filter_pass : (p : ℕ → Bool) (xs : List ℕ) → ((y : ℕ) → contains xs y ≡ true → p y ≡ true) → filter p xs ≡ xs
filter_pass p [] all = refl
filter_pass p (x ∷ xs) all =
    let here : p x ≡ true = all x (contains-first x xs) in
    let rest : filter p xs ≡ xs =
    filter_pass p xs (λ y h. all y (ap (λ b. eqb x y || b) h ∙ or-true (eqb x y))) in
    rw here (ap (λ l. x ∷ l) rest)

filter_twice_one : (p q r : ℕ → Bool) (x : ℕ) (xs : List ℕ) (b c : Bool) → r x ≡ (p x && q x)
    → filter q (filter p xs) ≡ filter r xs → p x ≡ b → q x ≡ c → filter q (filter p (x ∷ xs)) ≡ filter r (x ∷ xs)
filter_twice_one p q r x xs false c same rest e f =
    let g : r x ≡ false = same ∙ ap (λ b. b && q x) e in rw (e, g) rest
filter_twice_one p q r x xs true false same rest e f =
    let g : r x ≡ false = same ∙ ap (λ b. b && q x) e ∙ f in rw (e, f, g) rest
filter_twice_one p q r x xs true true same rest e f =
    let g : r x ≡ true = same ∙ ap (λ b. b && q x) e ∙ f in rw (e, f, g) (ap (λ l. x ∷ l) rest)

pub filter_twice : (p q r : ℕ → Bool) → ((y : ℕ) → r y ≡ (p y && q y)) → (xs : List ℕ)
    → filter q (filter p xs) ≡ filter r xs
filter_twice p q r same [] = refl
filter_twice p q r same (x ∷ xs) =
    filter_twice_one p q r x xs (p x) (q x) (same x) (filter_twice p q r same xs) refl refl

-- two tests that agree on what stands in the list
filter_same_on : (p q : ℕ → Bool) (xs : List ℕ) → ((y : ℕ) → contains xs y ≡ true → p y ≡ q y)
    → filter p xs ≡ filter q xs
filter_same_on p q [] same = refl
filter_same_on p q (x ∷ xs) same =
    let here : p x ≡ q x = same x (contains-first x xs) in
    let rest : filter p xs ≡ filter q xs =
    filter_same_on p q xs (λ y h. same y (ap (λ b. eqb x y || b) h ∙ or-true (eqb x y))) in
    rw (here, rest) refl

pub keeps_all : (p : ℕ → Bool) (s : PageCache) → ((y : ℕ) → p y ≡ true) → KeepsOnly p s s
keeps_all p s all = record {
  lists = rw (
    filter_pass p s.lists.t1 (λ y here. all y),
    filter_pass p s.lists.t2 (λ y here. all y),
    filter_pass p s.lists.b1 (λ y here. all y),
    filter_pass p s.lists.b2 (λ y here. all y),
  ) refl;
  pages = λ k. rw (all k) refl;
  frames = refl;
}

pub keeps_fewer : (p q : ℕ → Bool) (old s t : PageCache) (k : ℕ) → KeepsOnly p old s → t ≡ dropped s k
    → ((y : ℕ) → q y ≡ (p y && not (eqb y k))) → KeepsOnly q old t
keeps_fewer p q old s t k h e same = rw e (record {
  lists = rw (h.lists) (four old.lists);
  pages = λ j. elim (cases_eq j k) [
    | inl w ↦ rw (w, same k, eq-eqb k k refl) (page_gone s.table k ∙ clear (p k))
    | inr ne ↦ page_there s.table k j None ne ∙ h.pages j
        ∙ ap (λ b. cond b (page_of old.table j) None) (sym (same j ∙ ap (λ b. p j && not b) (eqb_no j k ne)
        ∙ and-true (p j)))
  ];
  frames = h.frames;
})
  where
    four : (w : FourLists) → forget (lists_where p w) k ≡ lists_where q w
    four w = rw (
      filter_twice p (λ y. not (eqb y k)) q same w.t1,
      filter_twice p (λ y. not (eqb y k)) q same w.t2,
      filter_twice p (λ y. not (eqb y k)) q same w.b1,
      filter_twice p (λ y. not (eqb y k)) q same w.b2,
    ) refl

    clear : (b : Bool) → None ≡ cond (b && false) (page_of old.table k) None
    clear true = refl
    clear false = refl

    eqb_no : (j k : ℕ) → j ≢ k → eqb j k ≡ false
    eqb_no j k ne = elim (eqb_tells j k) [ inl t ↦ absurd (ne t.1) | inr t ↦ t.0 ]

-- the same pages and names pass a test that agrees on these
pub keeps_on : (p q : ℕ → Bool) (s u : PageCache) → KeepsOnly p s u
    → ((list : ListName) (y : ℕ) → contains (list_of s.lists list) y ≡ true → p y ≡ q y)
    → ((y : ℕ) → IsSome (page_of s.table y) → p y ≡ q y) → KeepsOnly q s u
keeps_on p q s u h named paged = record {
  lists = h.lists ∙ four;
  pages = λ k. h.pages k ∙ page k (page_of s.table k) refl;
  frames = h.frames;
}
  where
    four : lists_where p s.lists ≡ lists_where q s.lists
    four = rw (
      filter_same_on p q s.lists.t1 (named T1),
      filter_same_on p q s.lists.t2 (named T2),
      filter_same_on p q s.lists.b1 (named B1),
      filter_same_on p q s.lists.b2 (named B2),
    ) refl

    nothing : (a b : Bool) (none : Option Resident) → cond a none none ≡ cond b none none
    nothing true true o = refl
    nothing true false o = refl
    nothing false true o = refl
    nothing false false o = refl

    page : (k : ℕ) (o : Option Resident) → page_of s.table k ≡ o → cond (p k) o None ≡ cond (q k) o None
    page k None e = nothing (p k) (q k) None
    page k (Some r) e = ap (λ b. cond b (Some r) None) (paged k (ap is_some e))

-- a list has no name that isn't one of the four lists'
pub times_in-list : (s : FourLists) (list : ListName) (y : ℕ) → times_in (list_of s list) y ≤ times_named s y
times_in-list s T1 y = omega arith
times_in-list s T2 y = omega arith
times_in-list s B1 y = omega arith
times_in-list s B2 y = omega arith

-- the same, where it agrees on the keys that there is room for
pub keeps_same : (p q : ℕ → Bool) (old s : PageCache) → KeepsOnly p old s → IsSound old
    → ((y : ℕ) → y < length old.table.pages → p y ≡ q y) → KeepsOnly q old s
keeps_same p q old s h sound same = keeps_on p q old s h (λ list y here. same y (below list y here))
    (λ y some. same y (some_below old.table y some))
  where
    below : (list : ListName) (y : ℕ) → contains (list_of old.lists list) y ≡ true → y < length old.table.pages
    below list y here =
        let named : 0 < times_named old.lists y =
        omega (arith, times_in-contains (list_of old.lists list) y here, times_in-list old.lists list y) in
        omega (arith, sound.bounds.below y named, sound.together.keys)

-- ---- the keys that a loop has passed

leb_next : (i y : ℕ) → y ≢ i → leb (i + 1) y ≡ leb i y
leb_next i y ne = elim (cases_lt i y) [
  | inl lt ↦ le-leb (i + 1) y (omega arith) ∙ sym (le-leb i y (omega arith))
  | inr le ↦ lt-leb (i + 1) y (omega arith) ∙ sym (lt-leb i y (strict le))
]
  where
    strict : y ≤ i → y < i
    strict le = elim (cases_lt y i) [ inl lt ↦ lt | inr ge ↦ absurd (ne (omega arith)) ]

-- before the first key all pass
pub test_start : (limit y : ℕ) → (ltb y limit || leb limit y) ≡ true
test_start limit y = elim (cases_lt y limit) [
  | inl lt ↦ rw (lt-ltb y limit lt) refl
  | inr le ↦ rw (le-leb limit y le) (or-true (ltb y limit))
]

-- a key that is dropped fails from then on
pub test_dropped : (base : Bool) (i y : ℕ) → (y ≡ i → base ≡ false)
    → (base || leb (i + 1) y) ≡ ((base || leb i y) && not (eqb y i))
test_dropped base i y out = elim (eqb_tells y i) [
  | inl t ↦ rw (t.0, out t.1, lt-leb (i + 1) y (omega (arith, t.1))) (sym (and-false (leb i y)))
  | inr t ↦ rw (t.0, leb_next i y t.1) (sym (and-true (base || leb i y)))
]

-- past the last key
pub test_end : (base : Bool) (i y : ℕ) → y < i → (base || leb i y) ≡ base
test_end base i y lt = rw (lt-leb i y lt) (or-false base)

-- the same test
pub keeps_alike : (p q : ℕ → Bool) (old s : PageCache) → KeepsOnly p old s → ((y : ℕ) → p y ≡ q y) → KeepsOnly q old s
keeps_alike p q old s h same = record {
  lists = h.lists ∙ rw (
    filter_agree p q same old.lists.t1,
    filter_agree p q same old.lists.t2,
    filter_agree p q same old.lists.b1,
    filter_agree p q same old.lists.b2,
  ) refl;
  pages = λ k. h.pages k ∙ ap (λ b. cond b (page_of old.table k) None) (same k);
  frames = h.frames;
}

-- ---- a rename changes no size

pub pages-renamed_in : (s : FourLists) (name : ℕ) (list : Option ListName) → (renamed_in list s name).pages ≡ s.pages
pages-renamed_in s name None = refl
pages-renamed_in s name (Some T1) = refl
pages-renamed_in s name (Some T2) = refl
pages-renamed_in s name (Some B1) = refl
pages-renamed_in s name (Some B2) = refl

pub pages-renamed : (s : FourLists) (page name : ℕ) → (renamed s page name).pages ≡ s.pages
pages-renamed s page name = pages-renamed_in (forget (forget s page) name) name (place s page)

-- ---- one page fewer

pub stay-release : (m : FrameMap) (v : ℕ) → is_pinned m v ≡ false → PinnedStay m (with_page m v None)
stay-release m v free x held = page_there m v x None
    (λ e. let held' : is_pinned m v ≡ true = rw e at held in let n : false ≡ true = sym free ∙ held' in cc)

-- where each cached page is pinned, one leaves the lists and keeps its frame
pub together-beyond : (s : PageCache) (lists : FourLists) (page : ℕ) → IsTogether s → lists.pages ≡ s.lists.pages
    → AllCachedAreBusy s.lists (is_pinned s.table) → IsTrue (is_cached s.lists page) → CachesWithout s.lists lists page
    → IsTogether (record { lists = lists; table = s.table })
together-beyond s lists page h pages busy here c = record {
  keys = pages ∙ h.keys;
  cached_has_frame = λ x k. h.cached_has_frame x ((c x).0 k).0;
  unpinned_is_cached = λ x some free. (c x).1 (
    h.unpinned_is_cached x some free,
    λ e. let held : is_pinned s.table x ≡ true = rw e (busy page here) in
        let n : false ≡ true = sym free ∙ held in cc,
  );
}

pub pages-given_up : (s : FourLists) (v : ℕ) → (with_remembered s v).pages ≡ s.pages
pages-given_up s v = go (contains s.t1 v)
  where
    go : (b : Bool) → (cond b (record s { t1 = without s.t1 v; b1 = v ∷ s.b1 })
        (record s { t2 = without s.t2 v; b2 = v ∷ s.b2 })).pages ≡ s.pages
    go true = refl
    go false = refl

-- a step of a cache that becomes smaller
pub fewer_step : (s t : PageCache) (size : ℕ) → size < cached_count s.lists → t ≡ one_fewer s
    → cached_count t.lists + 1 ≡ cached_count s.lists
    → fewer (cached_count t.lists - size) t ≡ fewer (cached_count s.lists - size) s
fewer_step s t size more e counts =
    let n : cached_count s.lists - size ≡ suc (cached_count t.lists - size) = omega (arith, more, counts) in
    rw n (ap (fewer (cached_count t.lists - size)) e)

pub fewer_end : (s t : PageCache) (size n : ℕ) → cached_count t.lists ≤ size
    → fewer (cached_count t.lists - size) t ≡ fewer n s → t ≡ fewer n s
fewer_end s t size n less e =
    let z : cached_count t.lists - size ≡ 0 = omega (arith, less) in rw z at e

pub together-resized : (s : PageCache) (lists : FourLists) (size : ℕ) → IsTogether s → lists ≡ resized s.lists size
    → IsTogether (record { lists = lists; table = s.table })
together-resized s lists size h e = rw e (record {
  keys = h.keys;
  cached_has_frame = h.cached_has_frame;
  unpinned_is_cached = h.unpinned_is_cached;
})

-- ---- a page goes to the front of its list

pub together-first : (s : PageCache) (lists : FourLists) (k : ℕ) → IsTogether s → lists.pages ≡ s.lists.pages
    → CachesRenamed s.lists lists k k → IsTogether (record s { lists = lists })
together-first s lists k h pages moved = record {
  keys = pages ∙ h.keys;
  cached_has_frame = λ x here. elim ((moved x).0 here) [
    | inl w ↦ rw w.0 (h.cached_has_frame k w.1)
    | inr w ↦ h.cached_has_frame x w.0
  ];
  unpinned_is_cached = λ x some free.
      let was : IsTrue (is_cached s.lists x) = h.unpinned_is_cached x some free in
      elim (cases_eq x k) [
        | inl is ↦ (moved x).1 (inl (is, rw is at was))
        | inr ne ↦ (moved x).1 (inr (was, ne, ne))
      ];
}
