-- A page that is brought in under its key's name is brought in under its key.
use Rattle.std.proofs.Common.{◌≡◌, ◌≢◌, ◌⊎◌, ℕ, ◌<◌, ◌≤◌, Bool, true, false, cond, List}
use Rattle.std.proofs.Common.{length, refl, ap, sym, subst, ◌∙◌, arith, inl, inr, length-set}
use Rattle.std.specs.Prelude.{Option, None, Some, is_some, is_none, unwrap_or, ◌&&◌, ◌==◌}
use Rattle.std.specs.Option.{option_map}
use Rattle.std.proofs.lemmas.Bool.{cases_eq}
use Rattle.pp_arc.specs.declared.answer.Answer.{Answer}
use Rattle.pp_arc.specs.declared.answer.Answer.TheVariants.{Hit, Free, Evict, AllBusy}
use Rattle.pp_arc.specs.FourLists.{FourLists, place}
use Rattle.pp_arc.specs.Bounds.{IsWithinBounds}
use Rattle.pp_arc.specs.Figure.{request}
use Rattle.pp_arc.specs.Sizes.{dropped_name}
use Rattle.pp_arc.proofs.LawLemmas.{RequestAnswers-request}
use Rattle.pp_arc.proofs.RequestLemmas.{unchanged-request}
use Rattle.pp_cache.specs.declared.resident.Resident.{Resident}
use Rattle.pp_cache.specs.declared.left.Left.{Left}
use Rattle.pp_cache.specs.Frames.{FrameMap, page_of, frame_of, is_pinned, with_page, IsFree}
use Rattle.pp_cache.specs.Cache.{PageCache, IsSound, asked, after_bring_in, without_victim, left_of, PinnedStay}
use Rattle.pp_cache.specs.Names.{victim_of, lost_name}
use Rattle.pp_cache.proofs.CacheLemmas.{page_here, page_there, victim_back, victim_forth, victim_keys, held_some}
use Rattle.pp_cache.proofs.NameLemmas.{instead-request}
use Rattle.pp_names.specs.Names.{key_of}
use Rattle.pp_keyed.specs.Renamed.{IsInjective, answer_by}
use Rattle.pp_keyed.specs.Keyed.{key_count, key_or_past, placed, by_keys, stands, IsKeyed, unused_taken, key_of_left, name_of_left}
use Rattle.pp_keyed.proofs.RenamedLemmas.{answer-by, request-by}
use Rattle.pp_keyed.proofs.PlacedLemmas.{IsApart}
use Rattle.pp_keyed.proofs.ByKeysLemmas.{IsNamed, named_of, injective, key-named, page-by, same_busy, page-gone, bool_cases, or-cases}
use Rattle.pp_keyed.proofs.ByKeysLemmas.{cached-place, stands-place, stands-page, some_is, none_is, FrameName, frame-from, stay-by_keys}
use Rattle.pp_keyed.proofs.TakenLemmas.{IsTaken, IsReady, taken-unused, gone-unused, taken-named, taken-by_keys, keyed-end, taken-then}
use Rattle.pp_keyed.proofs.CallLemmas.{set-named}

-- the map of keys that a map of names stands for
abbrev map_by_keys : List (Option ℕ) → FrameMap → FrameMap
map_by_keys names m = record { frames = m.frames; pages = placed key_count names m.pages }

pub cache_of : (a b : FourLists) (m n : FrameMap) → a ≡ b → m ≡ n
    → (let s : PageCache = record { lists = a; table = m } in s) ≡ record { lists = b; table = n }
cache_of a b m n e f = rw (e, f) refl

pub map_of : (n : ℕ) (p q : List (Option Resident)) → p ≡ q
    → (let m : FrameMap = record { frames = n; pages = p } in m) ≡ record { frames = n; pages = q }
map_of n p q e = rw e refl

victim-by_keys : (names : List (Option ℕ)) (m : FrameMap) (a : Answer) → IsApart key_count names → length names ≤ length m.pages
    → map_by_keys names (without_victim m a) ≡ without_victim (map_by_keys names m) (answer_by (key_or_past names) a)
victim-by_keys names m Hit h room = refl
victim-by_keys names m Free h room = refl
victim-by_keys names m AllBusy h room = refl
victim-by_keys names m (Evict v) h room = map_of m.frames _ _ (page-gone names m.pages v h room)

-- ---- the step

pub brought-by_keys : (names : List (Option ℕ)) (c : PageCache) (x key frame : ℕ) → IsNamed names c → key_of names x ≡ Some key
    → by_keys names (after_bring_in c x frame) ≡ after_bring_in (by_keys names c) (key_or_past names x) frame
brought-by_keys names c x key frame h e = cache_of _ _ _ _
    (sym (request-by f key_count c.lists x (is_pinned c.table) (is_pinned (by_keys names c).table) inj (same_busy names c h)))
    (map_of (without_victim c.table a).frames _ _ (set-named names (without_victim c.table a).pages x key new h.apart room e)
    ∙ ap (λ (m : FrameMap). with_page m (f x) new) (victim-by_keys names c.table a h.apart h.room)
    ∙ ap (λ (b : Answer). with_page (without_victim (by_keys names c).table b) (f x) new)
    (sym (answer-by f key_count c.lists x (is_pinned c.table) (is_pinned (by_keys names c).table) inj (same_busy names c h))))
  where
    f : ℕ → ℕ
    f = key_or_past names

    inj : IsInjective f
    inj = injective names h.apart

    a : Answer
    a = (asked c x).0

    new : Option Resident
    new = Some (record { frame = frame; is_pinned = true })

    room : length names ≤ length (without_victim c.table a).pages
    room = omega (arith, h.room, victim_keys c.table a)

-- ---- who stands afterwards

victim-evicts : (a : Answer) (y : ℕ) → a ≡ Evict y → victim_of a ≡ Some y
victim-evicts a y e = ap victim_of e

evicts-victim : (a : Answer) (y : ℕ) → victim_of a ≡ Some y → a ≡ Evict y
evicts-victim Hit y e = absurd (cc)
evicts-victim Free y e = absurd (cc)
evicts-victim AllBusy y e = absurd (cc)
evicts-victim (Evict v) y e = let s : v ≡ y = cc in ap Evict s

option_tells : (o : Option ℕ) (y : ℕ) → (o ≡ Some y) ⊎ (o ≢ Some y)
option_tells None y = inr (λ e. cc)
option_tells (Some x) y = elim (cases_eq x y) [ inl e ↦ inl (ap Some e) | inr ne ↦ inr (λ e. ne (cc)) ]

all_busy_tells : (a : Answer) → (a ≡ AllBusy) ⊎ (a ≢ AllBusy)
all_busy_tells Hit = inr (λ e. cc)
all_busy_tells Free = inr (λ e. cc)
all_busy_tells (Evict v) = inr (λ e. cc)
all_busy_tells AllBusy = inl refl

-- who is named after a request
record Renames (s t : FourLists) (x : ℕ) (answer : Answer) : Type 0 where
  pub forth : (y : ℕ) → is_some (place t y) ≡ true → (y ≡ x) ⊎ (is_some (place s y) ≡ true)
  pub back : (y : ℕ) → is_some (place s y) ≡ true → dropped_name s x ≢ Some y → victim_of answer ≢ Some y
      → is_some (place t y) ≡ true

not_lost : (s : FourLists) (x y : ℕ) (answer : Answer) → dropped_name s x ≢ Some y → victim_of answer ≢ Some y
    → lost_name s x answer ≢ Some y
not_lost s x y answer n m = go (is_none (place s x) && (length s.t1 == s.c))
  where
    go : (b : Bool) → cond b (victim_of answer) (dropped_name s x) ≢ Some y
    go true = m
    go false = n

renames : (s : FourLists) (x : ℕ) (busy : ℕ → Bool) → IsWithinBounds s
    → Renames s (request s x busy).1 x (request s x busy).0
renames s x busy b = elim (all_busy_tells (request s x busy).0) [
  | inl e ↦ record {
    forth = λ y h. inr (subst (λ (t : FourLists). is_some (place t y) ≡ true) (unchanged-request s x busy e) h);
    back = λ y h n m. subst (λ (t : FourLists). is_some (place t y) ≡ true) (sym (unchanged-request s x busy e)) h;
  }
  | inr ne ↦ record {
    forth = λ y h. elim ((instead-request s x busy b ne y).0 h) [ inl i ↦ inl i | inr w ↦ inr w.0 ];
    back = λ y h n m. (instead-request s x busy b ne y).1 (inr (h, not_lost s x y (request s x busy).0 n m));
  }
]

record Moves (c d : PageCache) (x : ℕ) : Type 0 where
  pub here : stands d x ≡ true
  pub forth : (y : ℕ) → stands d y ≡ true → (y ≡ x) ⊎ (stands c y ≡ true)
  pub back : (y : ℕ) → stands c y ≡ true → dropped_name c.lists x ≢ Some y → victim_of (asked c x).0 ≢ Some y
      → stands d y ≡ true
  pub size : length d.table.pages ≡ length c.table.pages

moves : (c : PageCache) (x frame : ℕ) → IsSound c → x < length c.table.pages → Moves c (after_bring_in c x frame) x
moves c x frame s lt = record {
  here = stands-page d x (ap is_some (page_here m x new (omega (arith, lt, victim_keys c.table a))));
  forth = λ y h. elim (cases_eq y x) [
    | inl e ↦ inl e
    | inr ne ↦ elim (or-cases _ _ h) [
      | inl named ↦ elim (r.forth y named) [ inl e ↦ inl e | inr k ↦ inr (stands-place c y k) ]
      | inr some ↦
          let some' : is_some (page_of m y) ≡ true = sym (ap is_some (page_there m x y new ne)) ∙ some in
          inr (stands-page c y (sym (ap is_some (victim_back c.table a y (victim_forth c.table a y some'))) ∙ some'))
    ]
  ];
  back = λ y h n v. elim (cases_eq y x) [
    | inl e ↦ ap (stands d) e ∙ stands-page d x (ap is_some (page_here m x new (omega (arith, lt, victim_keys c.table a))))
    | inr ne ↦ elim (or-cases _ _ h) [
      | inl named ↦ stands-place d y (r.back y named n v)
      | inr some ↦ stands-page d y (ap is_some (page_there m x y new ne
          ∙ victim_back c.table a y (λ e. v (ap victim_of e))) ∙ some)
    ]
  ];
  size = length-set m.pages x new ∙ victim_keys c.table a;
}
  where
    d : PageCache
    d = after_bring_in c x frame

    a : Answer
    a = (asked c x).0

    m : FrameMap
    m = without_victim c.table a

    new : Option Resident
    new = Some (record { frame = frame; is_pinned = true })

    r : Renames c.lists (asked c x).1 x a
    r = renames c.lists x (is_pinned c.table) s.bounds

-- ---- the names afterwards

victim_left : (m : FrameMap) (a : Answer) → name_of_left (left_of m a) ≡ victim_of a
victim_left m Hit = refl
victim_left m Free = refl
victim_left m AllBusy = refl
victim_left m (Evict v) = refl

-- What holds of the names and the cache once a page was brought in, and who left has no key any more.
pub record IsBrought (old given new : List (Option ℕ)) (c d : PageCache) (x key frame : ℕ) : Type 0 where
  pub keyed : IsKeyed new d
  pub taken : IsTaken given new d
  pub same : by_keys new d ≡ after_bring_in (by_keys old c) key frame
  pub size : length new ≡ length old

-- the names from which two candidates lost their keys
abbrev pub left_names : List (Option ℕ) → PageCache → Option ℕ → Option ℕ → List (Option ℕ)
left_names given d dropped victim = unused_taken (unused_taken given d dropped) d victim

no_key : (old new : List (Option ℕ)) (c : PageCache) (y : ℕ) → IsTaken old new c → key_of old y ≡ None → key_of new y ≡ None
no_key old new c y t e = go (key_of new y) refl
  where
    go : (o : Option ℕ) → key_of new y ≡ o → key_of new y ≡ None
    go None f = f
    go (Some k) f = let n : None ≡ Some k = sym e ∙ t.fewer y k f in absurd (cc)

pub brought : (old given : List (Option ℕ)) (c d : PageCache) (x key frame : ℕ) (dropped : Option ℕ) (left : Option Left)
    → IsKeyed old c → IsReady old given c key x → key_of given x ≡ Some key → x < length c.table.pages → IsSound d
    → d ≡ after_bring_in c x frame → dropped ≡ dropped_name c.lists x → left ≡ left_of c.table (asked c x).0
    → IsBrought old given (left_names given d dropped (name_of_left left)) c d x key frame
brought old given c d x key frame dropped left k r named lt s is e f = record {
  keyed = keyed-end new d (taken-named given new d h taken) s (omega (arith, k.fits, mv.size))
      (omega (arith, k.spare, mv.size, taken.size, r.size)) gone;
  taken = taken;
  same = taken-by_keys given new d h taken ∙ ap (by_keys given) is ∙ brought-by_keys given c x key frame r.named named
      ∙ ap (λ (i : ℕ). after_bring_in (by_keys given c) i frame) (key-named given x key named)
      ∙ ap (λ (w : PageCache). after_bring_in w key frame) r.same;
  size = taken.size ∙ r.size;
}
  where
    new : List (Option ℕ)
    new = left_names given d dropped (name_of_left left)

    first : List (Option ℕ)
    first = unused_taken given d dropped

    mv : Moves c d x
    mv = subst (λ (w : PageCache). Moves c w x) (sym is) (moves c x frame k.sound lt)

    h : IsNamed given d
    h = record {
      apart = r.named.apart;
      room = omega (arith, r.named.room, mv.size);
      named = λ y st. elim (mv.forth y st) [
        | inl same ↦ ap (λ (i : ℕ). is_some (key_of given i)) same ∙ ap is_some named
        | inr was ↦ r.named.named y was
      ];
    }

    t1 : IsTaken given first d
    t1 = taken-unused given d dropped

    t2 : IsTaken first new d
    t2 = taken-unused first d (name_of_left left)

    taken : IsTaken given new d
    taken = taken-then given first new d t1 t2

    gone_dropped : (y : ℕ) → stands d y ≡ false → dropped ≡ Some y → key_of first y ≡ None
    gone_dropped y n i = ap (λ (o : Option ℕ). key_of (unused_taken given d o) y) i ∙ gone-unused given d y n

    gone_victim : (y : ℕ) → stands d y ≡ false → name_of_left left ≡ Some y → key_of new y ≡ None
    gone_victim y n i = ap (λ (o : Option ℕ). key_of (unused_taken first d o) y) i ∙ gone-unused first d y n

    gone : (y : ℕ) → stands d y ≡ false → key_of new y ≡ None
    gone y n = elim (bool_cases (stands c y)) [
      | inr was_not ↦ no_key given new d y taken (r.others y (λ same.
          let no' : true ≡ false = sym mv.here ∙ ap (stands d) (sym same) ∙ n in cc)
          ∙ none_is (key_of old y) (k.named y ∙ was_not))
      | inl was ↦ elim (option_tells (dropped_name c.lists x) y) [
        | inl i ↦ no_key first new d y t2 (gone_dropped y n (e ∙ i))
        | inr i ↦ elim (option_tells (victim_of (asked c x).0) y) [
          | inl j ↦ gone_victim y n (ap name_of_left f ∙ victim_left c.table (asked c x).0 ∙ j)
          | inr j ↦ let no' : true ≡ false = sym (mv.back y was i j) ∙ n in absurd (cc)
        ]
      ]
    ]

-- ---- who left, and the frame

pub left-by_keys : (names : List (Option ℕ)) (c : PageCache) (x key : ℕ) → IsSound c → IsNamed names c → key_of names x ≡ Some key
    → key_of_left names (left_of c.table (asked c x).0) ≡ left_of (by_keys names c).table (asked (by_keys names c) key).0
left-by_keys names c x key s h e =
    go (asked c x).0 (λ v i. h.named v (stands-place c v (cached-place c.lists v
    ((RequestAnswers-request c.lists x (is_pinned c.table) s.bounds).cached v i))))
    ∙ ap (left_of (by_keys names c).table) (sym (answer-by f key_count c.lists x (is_pinned c.table)
    (is_pinned (by_keys names c).table) (injective names h.apart) (same_busy names c h)))
    ∙ ap (λ (i : ℕ). left_of (by_keys names c).table (asked (by_keys names c) i).0) (key-named names x key e)
  where
    f : ℕ → ℕ
    f = key_or_past names

    evicted : (v : ℕ) → is_some (key_of names v) ≡ true
        → key_of_left names (left_of c.table (Evict v)) ≡ left_of (by_keys names c).table (Evict (f v))
    evicted v some =
        let w : (k : ℕ) × (key_of names v ≡ Some k) = some_is (key_of names v) some in
        ap (option_map (λ k. record { key = k; frame = unwrap_or (frame_of c.table v) 0 })) w.1
        ∙ ap (λ k. Some (record { key = k; frame = unwrap_or (frame_of c.table v) 0 })) (sym (key-named names v w.0 w.1))
        ∙ ap (λ (o : Option Resident). Some (record { key = f v; frame = unwrap_or (option_map (λ (page : Resident). page.frame) o) 0 }))
        (sym (page-by names c v h))

    go : (a : Answer) → ((v : ℕ) → a ≡ Evict v → is_some (key_of names v) ≡ true)
        → key_of_left names (left_of c.table a) ≡ left_of (by_keys names c).table (answer_by f a)
    go Hit w = refl
    go Free w = refl
    go AllBusy w = refl
    go (Evict v) w = evicted v (w v refl)

pub free-by_keys : (names : List (Option ℕ)) (c : PageCache) (x key frame : ℕ) → IsNamed names c → key_of names x ≡ Some key
    → IsFree (without_victim c.table (asked c x).0) frame
    → IsFree (without_victim (by_keys names c).table (asked (by_keys names c) key).0) frame
free-by_keys names c x key frame h e free =
    subst (λ (i : ℕ). IsFree (without_victim (by_keys names c).table (asked (by_keys names c) i).0) frame) (key-named names x key e)
    (subst (λ (a : Answer). IsFree (without_victim (by_keys names c).table a) frame)
    (sym (answer-by f key_count c.lists x (is_pinned c.table) (is_pinned (by_keys names c).table) (injective names h.apart)
    (same_busy names c h)))
    (subst (λ (m : FrameMap). IsFree m frame) (victim-by_keys names c.table (asked c x).0 h.apart h.room) (λ k i.
    let w : FrameName names (without_victim c.table (asked c x).0) k frame =
    frame-from names (without_victim c.table (asked c x).0) k frame i in
    free w.name w.here)))
  where
    f : ℕ → ℕ
    f = key_or_past names

-- pinned pages stay in their frames
pub stay-brought : (old given new : List (Option ℕ)) (c d : PageCache) → IsNamed given c → IsKeyed new d → IsTaken given new d
    → by_keys given c ≡ by_keys old c → PinnedStay c.table d.table → PinnedStay (by_keys old c).table (by_keys new d).table
stay-brought old given new c d h k t same stay =
    subst (λ (w : PageCache). PinnedStay w.table (by_keys new d).table) same
    (stay-by_keys given new c d h (named_of new d k)
    (λ y held. sym (t.kept y (stands-page d y (ap is_some (stay y held) ∙ held_some _ held)))) stay)
