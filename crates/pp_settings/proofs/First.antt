-- The refusal that reading gives is the first fault in the order.
use Rattle.std.proofs.Common.{◌≡◌, ◌≢◌, ◌⊎◌, inl, inr, ℕ, zero, suc, ◌+◌, ◌-◌, ◌≤◌, ◌<◌, max, pos, Bool, true, false}
use Rattle.std.proofs.Common.{if◌then◌else◌, not, ◌||◌, IsTrue, List, [], ◌∷◌, ◌++◌, length, get_or, All, IfErr, Option, Some, None}
use Rattle.std.proofs.Common.{option_and_then, Result, Ok, Err, codes, refl, sym, ap, subst, ◌∙◌, arith}
use Rattle.std.specs.Option.{ok_or}
use Rattle.std.specs.List.{list_any}
use Rattle.std.proofs.lemmas.Bool.{false≢true, cases_lt}
use Rattle.std.proofs.lemmas.Bool.Decides.{nat_tests}
use Rattle.std.proofs.lemmas.List.{get_or_append_left, length-append}
use Rattle.std.proofs.Math.Seq.{get_or-append_seam}
use Rattle.std.proofs.lemmas.Slice.Eq.{bytes_eq-Decides}
use Rattle.toml.specs.Parse.{parse_document}
use Rattle.toml.specs.Data.{Data, string, integer, array, table, Items, no_items, item, Members, get_member, get_item}
use Rattle.toml.specs.Data.{as_table, as_array}
use Rattle.pp_text.proofs.Steps.{must_ok}
use Rattle.pp_settings.specs.declared.extent.Extent.{Extent}
use Rattle.pp_settings.specs.Refusals.{is_settings_memory}
use Rattle.pp_settings.specs.declared.error.SettingsError.{SettingsError}
use Rattle.pp_settings.specs.declared.error.SettingsError.TheVariants.{NotToml, Missing, Unknown, Range, SameName}
use Rattle.pp_settings.specs.declared.error.SettingsError.TheVariants.{Overlap, OutOfMemory}
use Rattle.pp_settings.specs.declared.key.TopKey.TheVariants.{Frames, PageBytes, Workers, Waiting, Flushes, Region}
use Rattle.pp_settings.specs.declared.key.RegionKey.TheVariants.{Name, First, Count, Class}
use Rattle.pp_settings.specs.declared.key.Spot.{Spot}
use Rattle.pp_settings.specs.declared.key.Spot.TheVariants.{Top, InRegion}
use Rattle.pp_settings.specs.declared.version.TextVersion.{TextVersion}
use Rattle.pp_settings.specs.declared.version.TextVersion.TheVariants.{One, Two}
use Rattle.pp_settings.specs.Keys.{key_of, known_keys}
use Rattle.pp_settings.specs.Limits.{most_frames, most_page_bytes, most_workers, most_waiting}
use Rattle.pp_settings.specs.Spans.{flush_limit, span_of}
use Rattle.pp_settings.specs.Versions.{is_second, page_limit}
use Rattle.pp_settings.specs.Layout.{IsApart, shares_page}
use Rattle.pp_settings.specs.Settings.{NamedRegion, Configuration, IsNamedRegion, AreRegions, is_region_name}
use Rattle.pp_text.specs.Steps.{◌>>=◌, must, Refuses, Gives}
use Rattle.pp_settings.specs.Reading.{is_known, keys_known, only_known, value_at, as_number, number_at, as_name, name_at}
use Rattle.pp_settings.specs.Reading.{extent_at, region_at, has_name, shares_page_with, beside, next_region}
use Rattle.pp_settings.specs.Reading.{regions_from, are_tables, table_count, as_tables, tables_at, first_of, second_of}
use Rattle.pp_settings.specs.Reading.{configuration_of, reading}
use Rattle.pp_settings.specs.Spelling.{HasOnly, Holds, SpellsRegion}
use Rattle.pp_settings.specs.Faults.{table_of, home_of, IsNumber, IsNameText, IsCount, AreFlushes, AreRegionTables}
use Rattle.pp_settings.specs.Faults.{IsAllowed, HasPageAt, HasKey, IsFaultOf, HasFault, at_key, at_region, at_regions}
use Rattle.pp_settings.specs.Faults.{in_document, order}
use Rattle.pp_text.specs.First.{IsFirst}
use Rattle.pp_settings.proofs.Laws.{known_found, known_again, as_number_again, number_found, name_found, region_found}
use Rattle.pp_settings.proofs.Laws.{IsBelow, limit_within}
use Rattle.pp_settings.proofs.Clear.{nameless, some_is, value_is, not_missing, IsClear, key_clear, other_clear}
use Rattle.pp_settings.proofs.Clear.{no_waiting, region_clear, SpellsAt, name_there, first_there, count_there}
use Rattle.pp_settings.proofs.Clear.{names_clear, pages_clear}
use Rattle.pp_text.proofs.Keys.{among}
use Rattle.pp_settings.proofs.Spelled.{no_regions, IsBeside, are_more, each_fails, not_true, next_found, tables_found}
use Rattle.pp_settings.proofs.Spelled.{counted_again}

-- the refusal is the first of the list that the document has
record Told (version : TextVersion) (ms : Members) (fs : List SettingsError) (e : SettingsError) : Type 0 where
  told : IsFirst (IsFaultOf version ms) fs e

-- ---- steps that fail

-- a step that failed, or one that was passed and the rest that failed
step : {A B G : Type 0} (r : Result A SettingsError) (next : A → Result B SettingsError) (e : SettingsError)
    → (r >>= next) ≡ Err e → (r ≡ Err e → G) → ((x : A) → r ≡ Ok x → next x ≡ Err e → G) → G
step (Ok x) next e h refused passed = passed x refl h
step (Err d) next e h refused passed = let is : d ≡ e = cc in refused (ap (λ f. Err f) is)

must_err : (b : Bool) (d e : SettingsError) → must b d ≡ Err e → (b ≡ false) × (d ≡ e)
must_err true d e h = absurd cc
must_err false d e h = (refl, cc)

none_some : {A : Type 0} (o : Option A) (x : A) → o ≡ None → o ≡ Some x → ⊥
none_some o x a b = absurd cc

-- ---- one key

-- a key with a value that it may have is no fault
key_passed : (version : TextVersion) (ms : Members) (spot : Spot) (rest : List SettingsError) (e : SettingsError)
    → IsClear version ms spot → Told version ms rest e → Told version ms (at_key spot rest) e
key_passed version ms spot rest e clear more = record { told = inr (clear.there, inr (clear.good, more.told)) }

spot_passed : (version : TextVersion) (ms t : Members) (spot : Spot) (d : Data) → table_of ms (home_of spot) ≡ Some t
    → Holds t (key_of spot) d → IsAllowed version ms spot d → (rest : List SettingsError) (e : SettingsError)
    → Told version ms rest e → Told version ms (at_key spot rest) e
spot_passed version ms t spot d home held allowed rest e more =
    key_passed version ms spot rest e (key_clear version ms t spot d home held allowed) more

-- one of the keys that the version has
has_key : (version : TextVersion) (spot : Spot) → is_known version (home_of spot) (key_of spot) ≡ true
    → HasKey version spot
has_key version spot known = among (key_of spot) (known_keys version (home_of spot)) known

-- a key that is refused is a fault
spot_refused : {A : Type 0} (version : TextVersion) (ms t : Members) (spot : Spot) (test : Data → Option A)
    (rest : List SettingsError) (e : SettingsError) → HasKey version spot → table_of ms (home_of spot) ≡ Some t
    → ((d : Data) → test d ≡ None → ¬ IsAllowed version ms spot d)
    → (value_at spot t >>= λ d. ok_or (test d) (Range spot)) ≡ Err e → Told version ms (at_key spot rest) e
spot_refused {A} version ms t spot test rest e key home bad h = by_value (get_member (key_of spot) t) refl h
  where
    by_test : (d : Data) → get_member (key_of spot) t ≡ Some d → (o : Option A) → test d ≡ o
        → ok_or o (Range spot) ≡ Err e → Told version ms (at_key spot rest) e
    by_test d held None fails h =
        let there = not_missing version ms t spot d home held in
        record { told = inr (there, inl (cc, (key, (d, value_is ms t spot home ∙ held, bad d fails)))) }
    by_test d held (Some x) passes h = absurd cc

    by_value : (v : Option Data) → get_member (key_of spot) t ≡ v
        → (ok_or v (Missing spot) >>= λ d. ok_or (test d) (Range spot)) ≡ Err e → Told version ms (at_key spot rest) e
    by_value None is h = record { told = inl (cc, (key, (t, home, is))) }
    by_value (Some d) is h = by_test d is (test d) refl h

number_none : (low high : ℕ) (d : Data) → as_number low high d ≡ None → ¬ IsNumber low high d
number_none low high d none is =
    none_some (as_number low high d) is.0 none (ap (as_number low high) is.1 ∙ as_number_again low high is.0 is.2 is.3)

name_none : (d : Data) → as_name d ≡ None → ¬ IsNameText d
name_none d none is = none_some (as_name d) is.0 none (ap as_name is.1 ∙ passes is.0 is.2)
  where
    passes : (s : List ℕ) → IsTrue (is_region_name s) → as_name (string s) ≡ Some s
    passes s fits = rw fits refl

tables_none : (d : Data) → as_tables d ≡ None → ¬ AreRegionTables d
tables_none d none is = none_some (as_tables d) is.0 none (ap as_tables is.1 ∙ passes is.0 is.2 is.3 is.4)
  where
    passes : (ds : Items) → 1 ≤ table_count ds → table_count ds ≤ 64 → IsTrue (are_tables ds)
        → as_tables (array ds) ≡ Some ds
    passes ds a b c = rw (counted_again 1 64 (table_count ds) (are_tables ds) a b c) refl

number_refused : (version : TextVersion) (ms t : Members) (spot : Spot) (low high : ℕ) (rest : List SettingsError)
    (e : SettingsError) → HasKey version spot → table_of ms (home_of spot) ≡ Some t
    → ((d : Data) → as_number low high d ≡ None → ¬ IsAllowed version ms spot d)
    → number_at spot low high t ≡ Err e → Told version ms (at_key spot rest) e
unfolding number_at
number_refused version ms t spot low high rest e key home bad h =
    spot_refused version ms t spot (as_number low high) rest e key home bad h

-- a number that is refused, or one that was passed and the rest that failed
number_step : {B : Type 0} (version : TextVersion) (ms t : Members) (spot : Spot) (low high : ℕ)
    (next : ℕ → Result B SettingsError) (rest : List SettingsError) (e : SettingsError) → HasKey version spot
    → table_of ms (home_of spot) ≡ Some t
    → ((d : Data) → as_number low high d ≡ None → ¬ IsAllowed version ms spot d)
    → ((n : ℕ) → low ≤ n → n ≤ high → IsAllowed version ms spot (integer (pos n)))
    → (number_at spot low high t >>= next) ≡ Err e
    → ((n : ℕ) → Holds t (key_of spot) (integer (pos n)) → n ≤ high → next n ≡ Err e → Told version ms rest e)
    → Told version ms (at_key spot rest) e
number_step version ms t spot low high next rest e key home bad good h more =
    step (number_at spot low high t) next e h
    (λ refused. number_refused version ms t spot low high rest e key home bad refused) (λ n is left.
    let (held, a, b) = number_found spot low high n t is in
    spot_passed version ms t spot (integer (pos n)) home held (good n a b) rest e (more n held b left))

name_refused : (version : TextVersion) (ms t : Members) (i : ℕ) (rest : List SettingsError) (e : SettingsError)
    → table_of ms (Some i) ≡ Some t → name_at (InRegion i Name) t ≡ Err e
    → Told version ms (at_key (InRegion i Name) rest) e
unfolding name_at
name_refused version ms t i rest e home h =
    spot_refused version ms t (InRegion i Name) as_name rest e (has_key version (InRegion i Name) refl) home name_none h

known_refused : (version : TextVersion) (ms t : Members) (region : Option ℕ) (rest : List SettingsError)
    (e : SettingsError) → table_of ms region ≡ Some t → only_known version region t ≡ Err e
    → Told version ms (Unknown region ∷ rest) e
known_refused version ms t region rest e home h =
    let (bad, is) = must_err (keys_known version region t) (Unknown region) e h in
    let passed = λ (only : HasOnly (known_keys version region) t).
    must_ok _ (Unknown region) tt (known_again version region t only) in
    record { told = inl (is, (t, home, λ only. false≢true (sym bad ∙ passed only))) }

known_passed : (version : TextVersion) (ms t : Members) (region : Option ℕ) (rest : List SettingsError)
    (e : SettingsError) → table_of ms region ≡ Some t → HasOnly (known_keys version region) t → Told version ms rest e
    → Told version ms (Unknown region ∷ rest) e
known_passed version ms t region rest e home only more = record {
  told = inr (
    λ m. m.2 (subst (HasOnly (known_keys version region)) (some_is t m.0 (sym home ∙ m.1)) only),
    more.told,
  );
}

-- ---- one region

count_none : (version : TextVersion) (ms t : Members) (i first : ℕ) → table_of ms (Some i) ≡ Some t
    → Holds t (codes "first") (integer (pos first)) → (d : Data)
    → as_number 1 (page_limit version - first) d ≡ None → ¬ IsCount version ms i d
count_none version ms t i first home held d none (f, n, begins, is, some, ends) =
    let both : ◌≡◌ {A = Option Data} (Some (integer (pos f))) (Some (integer (pos first))) =
    sym begins ∙ value_is ms t (InRegion i First) home ∙ held in
    let same : f ≡ first = cc in
    number_none 1 (page_limit version - first) d none (n, is, some, omega (arith, same, ends))

extent_refused : (version : TextVersion) (ms t : Members) (i : ℕ) (rest : List SettingsError) (e : SettingsError)
    → table_of ms (Some i) ≡ Some t → extent_at version i t ≡ Err e
    → Told version ms (at_key (InRegion i First) (at_key (InRegion i Count) (at_key (InRegion i Class) rest))) e
unfolding extent_at
extent_refused version ms t i rest e home h =
    let limit = page_limit version in
    let some = (limit_within version).0 in
    let has_first : HasKey version (InRegion i First) = has_key version (InRegion i First) refl in
    let has_count : HasKey version (InRegion i Count) = has_key version (InRegion i Count) refl in
    let has_class : HasKey version (InRegion i Class) = has_key version (InRegion i Class) refl in
    number_step version ms t (InRegion i First) 0 (limit - 1) _ _ e has_first home (number_none 0 (limit - 1))
    (λ n a b. (n, refl, a, b)) h
    (λ first begins below h1.
    let there = value_is ms t (InRegion i First) home ∙ begins in
    number_step version ms t (InRegion i Count) 1 (limit - first) _ _ e has_count home
    (count_none version ms t i first home begins)
    (λ n a b. (first, n, there, refl, a, omega (arith, b, below, some))) h1
    (λ count counts most h2.
    number_step version ms t (InRegion i Class) 0 63 _ _ e has_class home (number_none 0 63) (λ n a b. (n, refl, a, b)) h2
    (λ class stands top h3. absurd cc)))

region_refused : (version : TextVersion) (ms t : Members) (i : ℕ) (rest : List SettingsError) (e : SettingsError)
    → table_of ms (Some i) ≡ Some t → region_at version i t ≡ Err e → Told version ms (at_region i rest) e
unfolding region_at
region_refused version ms t i rest e home h =
    step (only_known version (Some i) t) _ e h (λ bad. known_refused version ms t (Some i) _ e home bad) (λ x known h1.
    known_passed version ms t (Some i) _ e home (known_found version (Some i) t x known) (
    step (name_at (InRegion i Name) t) _ e h1 (λ bad. name_refused version ms t i _ e home bad) (λ name named h2.
    let n = name_found (InRegion i Name) name t named in
    spot_passed version ms t (InRegion i Name) (string name) home n.0 (name, refl, n.1) _ e (
    step (extent_at version i t) _ e h2 (λ bad. extent_refused version ms t i _ e home bad)
    (λ extent lies h3. absurd cc)))))

-- a region that was read has no fault of its own
region_passed : (version : TextVersion) (ms t : Members) (i : ℕ) (r : NamedRegion) (rest : List SettingsError)
    (e : SettingsError) → table_of ms (Some i) ≡ Some t → SpellsRegion t r → IsNamedRegion r
    → IsBelow version r.extent → Told version ms (SameName i ∷ Overlap i ∷ rest) e
    → Told version ms (at_region i rest) e
region_passed version ms t i r rest e home s h below more =
    let clear = region_clear version ms t i r home s h below in
    known_passed version ms t (Some i) _ e home s.keys (
    key_passed version ms (InRegion i Name) _ e (clear Name) (
    key_passed version ms (InRegion i First) _ e (clear First) (
    key_passed version ms (InRegion i Count) _ e (clear Count) (
    key_passed version ms (InRegion i Class) _ e (clear Class) more))))

-- ---- a region beside the earlier ones

-- the earlier regions are those of the first tables
abbrev Earlier : Members → List NamedRegion → Type 0
Earlier ms earlier = (j : ℕ) → j < length earlier → SpellsAt ms j (get_or earlier j nameless)

or_cases : (x y : Bool) → (x || y) ≡ true → (x ≡ true) ⊎ (y ≡ true)
or_cases true y e = inl refl
or_cases false y e = inr e

-- where some element passes, there is one
some_passes : {X : Type 0} (p : X → Bool) (d : X) (xs : List X) → list_any p xs ≡ true
    → (k : ℕ) × (k < length xs) × (p (get_or xs k d) ≡ true)
some_passes p d [] e = absurd cc
some_passes p d (x ∷ xs) e =
    elim (or_cases (p x) (list_any p xs) e) [
      | inl is ↦ (0, omega arith, is)
      | inr more ↦ let (k, within, is) = some_passes p d xs more in (suc k, omega (arith, within), is)
    ]

not_false : (b : Bool) → not b ≡ false → b ≡ true
not_false true e = refl
not_false false e = absurd cc

-- two extents with a page each share one
common_page : (d e : Extent) → 1 ≤ d.count → 1 ≤ e.count → shares_page d e ≡ true
    → (d.first ≤ max d.first e.first) × (max d.first e.first < d.first + d.count) × (e.first ≤ max d.first e.first)
    × (max d.first e.first < e.first + e.count)
common_page d e a b h = grind (arith, nat_tests)

other_names : (version : TextVersion) (ms : Members) (earlier : List NamedRegion) (r : NamedRegion) → Earlier ms earlier
    → SpellsAt ms (length earlier) r → All (λ q. q.name ≢ r.name) earlier
    → ¬ IsFaultOf version ms (SameName (length earlier))
other_names version ms earlier r before here others (j, below, (name, there, is)) =
    names_clear ms j (length earlier) (get_or earlier j nameless) r (before j below) here (others j nameless below)
    name there is

other_pages : (version : TextVersion) (ms : Members) (earlier : List NamedRegion) (r : NamedRegion) → Earlier ms earlier
    → SpellsAt ms (length earlier) r → All (λ q. IsApart q.extent r.extent) earlier
    → ¬ IsFaultOf version ms (Overlap (length earlier))
other_pages version ms earlier r before here others (j, below, (page, has, has')) =
    pages_clear ms j (length earlier) (get_or earlier j nameless) r (before j below) here (others j nameless below)
    page has has'

beside_refused : (version : TextVersion) (ms : Members) (earlier : List NamedRegion) (r : NamedRegion)
    (rest : List SettingsError) (e : SettingsError) → Earlier ms earlier → AreRegions earlier → SpellsAt ms (length earlier) r → IsNamedRegion r
    → beside earlier r ≡ Err e
    → Told version ms (SameName (length earlier) ∷ Overlap (length earlier) ∷ rest) e
unfolding beside
beside_refused version ms earlier r rest e before are here h refused =
    step (must (not (list_any (has_name r.name) earlier)) (SameName (length earlier))) _ e refused
    (λ bad.
    let (fails, is) = must_err _ (SameName (length earlier)) e bad in
    let (j, below, same) = some_passes (has_name r.name) nameless earlier (not_false _ fails) in
    let q : NamedRegion = get_or earlier j nameless in
    let named : q.name ≡ r.name = (bytes_eq-Decides q.name r.name).0 same in
    let there = name_there ms j q (before j below) ∙ ap (λ (n : List ℕ). Some (string n)) named in
    record { told = inl (is, (j, below, (r.name, there, name_there ms (length earlier) r here))) })
    (λ x named bad.
    let differ = each_fails (has_name r.name) earlier (not_true _ (must_ok _ (SameName (length earlier)) x named)) in
    let others : All (λ q. q.name ≢ r.name) earlier =
    λ k d within. λ is. false≢true (sym (differ k d within)
    ∙ (bytes_eq-Decides (get_or earlier k d).name r.name).1 is) in
    let (fails, is) = must_err _ (Overlap (length earlier)) e bad in
    let (j, below, meets) = some_passes (shares_page_with r.extent) nameless earlier (not_false _ fails) in
    let q : NamedRegion = get_or earlier j nameless in
    let s = before j below in
    let (a, b, c, d) = common_page q.extent r.extent (are.each j nameless below).extent.some h.extent.some meets in
    let page = max q.extent.first r.extent.first in
    let there : HasPageAt ms j page =
    (q.extent.first, q.extent.count, first_there ms j q s, count_there ms j q s, a, b) in
    let too : HasPageAt ms (length earlier) page =
    let n = length earlier in
    (r.extent.first, r.extent.count, first_there ms n r here, count_there ms n r here, c, d) in
    let other = other_names version ms earlier r before here others in
    record { told = inr (other, inl (is, (j, below, (page, there, too)))) })

-- ---- regions one after the other

table_inside : (t u : Members) → table t ≡ table u → t ≡ u
table_inside t u e = cc

table_there : (ms : Members) (all : Items) (i : ℕ) (t : Members) → Holds ms (codes "region") (array all)
    → get_item i all ≡ Some (table t) → table_of ms (Some i) ≡ Some t
table_there ms all i t held is =
    ap (λ (o : Option Data). option_and_then as_table (option_and_then (get_item i) (option_and_then as_array o))) held
    ∙ ap (option_and_then as_table) is

next_refused : (version : TextVersion) (ms t : Members) (earlier : List NamedRegion) (rest : List SettingsError)
    (e : SettingsError) → Earlier ms earlier → AreRegions earlier → table_of ms (Some (length earlier)) ≡ Some t
    → next_region version earlier (table t) ≡ Err e
    → Told version ms (at_region (length earlier) rest) e
unfolding next_region
next_refused version ms t earlier rest e before are home h =
    step (region_at version (length earlier) t) _ e h
    (λ bad. region_refused version ms t (length earlier) rest e home bad) (λ r read h1.
    let (s, is, below) = region_found version (length earlier) t r read in
    step (beside earlier r) _ e h1 (λ bad.
    region_passed version ms t (length earlier) r rest e home s is below
    (beside_refused version ms earlier r rest e before are (t, home, s) is bad)) (λ x fresh h2. absurd cc))

-- a region that was read, and the rest
next_passed : (version : TextVersion) (ms t : Members) (earlier : List NamedRegion) (r : NamedRegion)
    (rest : List SettingsError) (e : SettingsError) → Earlier ms earlier → table_of ms (Some (length earlier)) ≡ Some t
    → SpellsRegion t r → IsNamedRegion r → IsBeside earlier r → IsBelow version r.extent
    → Told version ms rest e → Told version ms (at_region (length earlier) rest) e
next_passed version ms t earlier r rest e before home s is b below more =
    let here : SpellsAt ms (length earlier) r = (t, home, s) in
    let names = other_names version ms earlier r before here b.names in
    let pages = other_pages version ms earlier r before here b.apart in
    region_passed version ms t (length earlier) r rest e home s is below
    (record { told = inr (names, inr (pages, more.told)) })

-- one region more
earlier_more : (ms : Members) (earlier : List NamedRegion) (r : NamedRegion) → Earlier ms earlier
    → SpellsAt ms (length earlier) r → Earlier ms (earlier ++ r ∷ [])
earlier_more ms earlier r before here j below = elim (cases_lt j (length earlier)) [
  | inl within ↦ subst (SpellsAt ms j) (sym (get_or_append_left earlier (r ∷ []) nameless j within)) (before j within)
  | inr past ↦
      let long : length (earlier ++ r ∷ []) ≡ length earlier + length (r ∷ []) = length-append earlier (r ∷ []) in
      let last : length earlier ≡ j = omega (arith, below, past, long) in
      subst (λ (k : ℕ). SpellsAt ms k (get_or (earlier ++ r ∷ []) k nameless)) last
      (subst (SpellsAt ms (length earlier)) (sym (get_or-append_seam earlier r [] nameless)) here)
]

regions_first : (version : TextVersion) (ms : Members) (all : Items) (earlier : List NamedRegion) (ds : Items) (n : ℕ)
    (e : SettingsError) → Holds ms (codes "region") (array all) → are_tables ds ≡ true
    → ((k : ℕ) → get_item (length earlier + k) all ≡ get_item k ds)
    → Earlier ms earlier → AreRegions earlier → table_count ds ≤ n → regions_from version earlier ds ≡ Err e
    → Told version ms (at_regions (length earlier) n) e
unfolding at_regions
regions_first version ms all earlier no_items n e held tables left before are room h = absurd cc
regions_first version ms all earlier (item d ds) zero e held tables left before are room h =
    absurd (omega (arith, room))
regions_first version ms all earlier (item (table t) ds) (suc n) e held tables left before are room h =
    let i = length earlier in
    let here : get_item i all ≡ Some (table t) = ap (λ (k : ℕ). get_item k all) (omega arith) ∙ left 0 in
    let home : table_of ms (Some i) ≡ Some t = table_there ms all i t held here in
    step (next_region version earlier (table t)) _ e h
    (λ bad. next_refused version ms t earlier (at_regions (i + 1) n) e before are home bad) (λ r next h1.
    let (u, is, s', good, b, below) = next_found version earlier (table t) r next in
    let s : SpellsRegion t r = subst (λ (v : Members). SpellsRegion v r) (sym (table_inside t u is)) s' in
    let long : length (earlier ++ r ∷ []) ≡ i + 1 = length-append earlier (r ∷ []) in
    let more : Told version ms (at_regions (length (earlier ++ r ∷ [])) n) e =
    regions_first version ms all (earlier ++ r ∷ []) ds n e held tables
    (λ k. ap (λ (m : ℕ). get_item m all) (omega (arith, long)) ∙ left (suc k))
    (earlier_more ms earlier r before (t, home, s)) (are_more earlier r are good b) (omega (arith, room)) h1 in
    next_passed version ms t earlier r (at_regions (i + 1) n) e before home s good b below
    (subst (λ (m : ℕ). Told version ms (at_regions m n) e) long more))
regions_first version ms all earlier (item d ds) (suc n) e held tables left before are room h = absurd cc

-- ---- the document

none_yet : (ms : Members) → Earlier ms []
none_yet ms = λ j below. absurd (omega (arith, below))

-- the regions, which come last
last_first : (version : TextVersion) (ms : Members) (made : List NamedRegion → Configuration) (e : SettingsError)
    → HasKey version (Top Region) → ((d : Data) → as_tables d ≡ None → ¬ IsAllowed version ms (Top Region) d)
    → ((d : Data) → AreRegionTables d → IsAllowed version ms (Top Region) d)
    → (tables_at (Top Region) ms >>= λ ds. regions_from version [] ds >>= λ rs. Ok (made rs)) ≡ Err e
    → Told version ms (at_key (Top Region) (at_regions 0 64)) e
unfolding tables_at
last_first version ms made e key bad good h =
    step (tables_at (Top Region) ms) _ e h
    (λ refused. spot_refused version ms ms (Top Region) as_tables _ e key refl bad refused) (λ ds t h1.
    let g = tables_found ms ds t in
    spot_passed version ms ms (Top Region) (array ds) refl g.0 (good (array ds) (ds, refl, g.1, g.2, g.3)) _ e (
    step (regions_from version [] ds) _ e h1 (λ refused.
    regions_first version ms ds [] ds 64 e g.0 g.3 (λ k. ap (λ (m : ℕ). get_item m ds) (omega arith))
    (none_yet ms) no_regions g.2 refused) (λ all read h2. absurd cc)))

first_document : (ms : Members) (e : SettingsError) → first_of ms ≡ Err e → Told One ms in_document e
unfolding first_of
first_document ms e h =
    let v = One in
    step (only_known v None ms) _ e h (λ bad. known_refused v ms ms None _ e refl bad) (λ x known h0.
    known_passed v ms ms None _ e refl (known_found v None ms x known) (
    number_step v ms ms (Top Frames) 1 4096 _ _ e (has_key v (Top Frames) refl) refl (number_none 1 4096)
    (λ n a b. (n, refl, a, b)) h0 (λ frames f fm h1.
    number_step v ms ms (Top PageBytes) 64 65536 _ _ e (has_key v (Top PageBytes) refl) refl (number_none 64 65536)
    (λ n a b. (n, refl, a, b)) h1 (λ page_bytes p pm h2.
    number_step v ms ms (Top Workers) 1 32 _ _ e (has_key v (Top Workers) refl) refl (number_none 1 32)
    (λ n a b. (n, refl, a, b)) h2 (λ workers w wm h3.
    key_passed v ms (Top Waiting) _ e (other_clear v ms (Top Waiting) no_waiting) (
    number_step v ms ms (Top Flushes) 0 100000 _ _ e (has_key v (Top Flushes) refl) refl (number_none 0 100000)
    (λ n a b. (n, refl, a, b)) h3 (λ flushes l lm h4.
    last_first v ms _ e (has_key v (Top Region) refl) tables_none (λ d are. are) h4)))))))

flushes_none : (ms : Members) (waiting : ℕ) → Holds ms (codes "waiting") (integer (pos waiting)) → (d : Data)
    → as_number 0 (flush_limit (span_of waiting)) d ≡ None → ¬ AreFlushes ms d
flushes_none ms waiting held d none (w, n, there, is, most) =
    let both : ◌≡◌ {A = Option Data} (Some (integer (pos w))) (Some (integer (pos waiting))) = sym there ∙ held in
    let same : w ≡ waiting = cc in
    number_none 0 (flush_limit (span_of waiting)) d none
    (n, is, omega arith, subst (λ (k : ℕ). n ≤ flush_limit (span_of k)) same most)

second_document : (ms : Members) (e : SettingsError) → second_of ms ≡ Err e → Told Two ms in_document e
unfolding second_of
second_document ms e h =
    let v = Two in
    step (only_known v None ms) _ e h (λ bad. known_refused v ms ms None _ e refl bad) (λ x known h0.
    known_passed v ms ms None _ e refl (known_found v None ms x known) (
    number_step v ms ms (Top Frames) 1 most_frames _ _ e (has_key v (Top Frames) refl) refl (number_none 1 most_frames)
    (λ n a b. (n, refl, a, b)) h0 (λ frames f fm h1.
    number_step v ms ms (Top PageBytes) 512 most_page_bytes _ _ e (has_key v (Top PageBytes) refl) refl
    (number_none 512 most_page_bytes) (λ n a b. (n, refl, a, b)) h1 (λ page_bytes p pm h2.
    number_step v ms ms (Top Workers) 1 most_workers _ _ e (has_key v (Top Workers) refl) refl
    (number_none 1 most_workers) (λ n a b. (n, refl, a, b)) h2 (λ workers w wm h3.
    number_step v ms ms (Top Waiting) 0 most_waiting _ _ e (has_key v (Top Waiting) refl) refl
    (number_none 0 most_waiting) (λ n a b. (n, refl, a, b)) h3 (λ waiting q qm h4.
    number_step v ms ms (Top Flushes) 0 (flush_limit (span_of waiting)) _ _ e (has_key v (Top Flushes) refl) refl
    (flushes_none ms waiting q) (λ n a b. (waiting, n, q, refl, b)) h4 (λ flushes l lm h5.
    last_first v ms _ e (has_key v (Top Region) refl) tables_none (λ d are. are) h5)))))))

document_first : (ms : Members) (e : SettingsError) → configuration_of ms ≡ Err e
    → IsFirst (HasFault (Some ms)) in_document e
document_first ms e h = by (is_second ms) h
  where
    by : (b : Bool) → (if b then second_of ms else first_of ms) ≡ Err e
        → IsFirst (IsFaultOf (if b then Two else One) ms) in_document e
    by true h = (second_document ms e h).told
    by false h = (first_document ms e h).told

pub text_first : (text : List ℕ) (e : SettingsError) → reading text ≡ Err e
    → IsFirst (HasFault (parse_document text)) order e
text_first text e h = by_document (parse_document text) h
  where
    by_document : (o : Option Members) → (ok_or o NotToml >>= configuration_of) ≡ Err e → IsFirst (HasFault o) order e
    by_document None h = inl (cc, tt)
    by_document (Some ms) h = inr (λ fault. fault, document_first ms e h)

-- what is told is the first fault, unless memory ran out
pub told_first : (text : List ℕ) (e : SettingsError) → e ≢ OutOfMemory → Refuses (is_settings_memory e) e (reading text)
    → IsFirst (HasFault (parse_document text)) order e
told_first text OutOfMemory other h = absurd (other refl)
told_first text e other h = text_first text e h

pub refused_first : (text : List ℕ) (r : Result Configuration SettingsError)
    → Gives is_settings_memory (λ (c : Configuration). c) r (reading text)
    → IfErr r (λ e. e ≢ OutOfMemory → IsFirst (HasFault (parse_document text)) order e)
refused_first text (Ok c) gives = tt
refused_first text (Err e) gives = λ other. told_first text e other gives
