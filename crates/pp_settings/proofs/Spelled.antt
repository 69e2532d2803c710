-- What is read is spelled so, and what is spelled so is read: the regions, and all settings.
use Rattle.std.proofs.Common.{◌≡◌, ◌≢◌, inl, inr, ℕ, ◌≤◌, ◌<◌, pos, Bool, true, false, not, ◌&&◌, nat_le, List, [], ◌∷◌}
use Rattle.std.proofs.Common.{if◌then◌else◌}
use Rattle.std.proofs.Common.{◌++◌, length, get_or, All, IfOk, Some, None, Result, Ok, Err, codes, refl, sym, ap, subst}
use Rattle.std.proofs.Common.{◌∙◌, append_assoc, arith}
use Rattle.std.specs.Option.{ok_or}
use Rattle.std.specs.List.{list_any}
use Rattle.std.proofs.lemmas.Option.{cond_some}
use Rattle.std.proofs.lemmas.Bool.{false≢true}
use Rattle.std.proofs.lemmas.Bool.Decides.{nat_tests}
use Rattle.std.proofs.lemmas.List.{append-nil, get_or_append_left, length-append}
use Rattle.std.proofs.Math.Seq.{get_or-append_seam}
use Rattle.std.proofs.lemmas.List.Elements.{All-push}
use Rattle.std.proofs.lemmas.List.Quantifiers.{all_pairs_push}
use Rattle.std.proofs.lemmas.List.Folds.{list_any_at, list_any_none}
use Rattle.std.proofs.lemmas.Slice.Eq.{bytes_eq-Decides}
use Rattle.toml.specs.Parse.{parse_document}
use Rattle.toml.specs.Data.{Data, string, integer, float, boolean, datetime, array, table, Items, no_items, item}
use Rattle.toml.specs.Data.{Members, as_table}
use Rattle.pp_text.proofs.Steps.{bind_ok, must_ok, ok_or_ok, ok_is}
use Rattle.pp_settings.specs.declared.extent.Extent.{Extent}
use Rattle.pp_settings.specs.Refusals.{is_settings_memory}
use Rattle.pp_settings.specs.declared.error.SettingsError.{SettingsError}
use Rattle.pp_settings.specs.declared.error.SettingsError.TheVariants.{NotToml, SameName, Range}
use Rattle.pp_settings.specs.declared.key.TopKey.TheVariants.{Frames, PageBytes, Workers, Waiting, Flushes, Region}
use Rattle.pp_settings.specs.declared.key.Spot.TheVariants.{Top}
use Rattle.pp_settings.specs.Layout.{IsApart, shares_page}
use Rattle.pp_settings.specs.declared.span.Span.{Span}
use Rattle.pp_settings.specs.declared.span.Span.TheVariants.{Bounded}
use Rattle.pp_settings.specs.declared.version.TextVersion.{TextVersion}
use Rattle.pp_settings.specs.declared.version.TextVersion.TheVariants.{One, Two}
use Rattle.pp_settings.specs.Limits.{most_frames, most_page_bytes, most_workers, most_waiting}
use Rattle.pp_settings.specs.Settings.{NamedRegion, Configuration, IsNamedRegion, AreRegions, IsConfiguration}
use Rattle.pp_settings.specs.Settings.{IsOfFirst, IsOf}
use Rattle.pp_settings.specs.Spans.{flush_limit, span_of, waiting_of}
use Rattle.pp_settings.specs.Versions.{is_second, version_of}
use Rattle.pp_text.specs.Steps.{must, Gives}
use Rattle.pp_settings.specs.Reading.{only_known, number_at, value_at, region_at, has_name, shares_page_with, beside}
use Rattle.pp_settings.specs.Reading.{next_region, regions_from, are_tables, table_count, are_regions, as_tables}
use Rattle.pp_settings.specs.Reading.{tables_at, first_of, second_of, configuration_of, reading}
use Rattle.pp_settings.specs.Spelling.{Holds, SpellsRegion, SpellsRegions, Spells, IsText}
use Rattle.pp_settings.proofs.Laws.{known_found, known_again, number_found, number_again, region_found, region_again}
use Rattle.pp_settings.proofs.Laws.{IsBelow}
use Rattle.pp_settings.proofs.Spans.{waiting_again, span_within, span_again, waiting_within}

-- ---- a region beside the earlier ones

false_from_not : (b : Bool) → ¬ (b ≡ true) → b ≡ false
false_from_not true h = absurd (h refl)
false_from_not false h = refl

pub not_true : (b : Bool) → not b ≡ true → b ≡ false
not_true true e = absurd cc
not_true false e = refl

-- where none passes, each fails
pub each_fails : {X : Type 0} (p : X → Bool) (xs : List X) → list_any p xs ≡ false → All (λ x. p x ≡ false) xs
each_fails p xs none =
    λ k d within. false_from_not (p (get_or xs k d))
    (λ passes. false≢true (sym none ∙ list_any_at p xs k d within passes))

apart : (d e : Extent) → shares_page d e ≡ false → IsApart d e
apart d e h = grind (arith, nat_tests)

apart_again : (d e : Extent) → IsApart d e → shares_page d e ≡ false
apart_again d e (inl h) = grind (arith, nat_tests)
apart_again d e (inr h) = grind (arith, nat_tests)

-- the region has another name, and no page, of each earlier one
pub record IsBeside (earlier : List NamedRegion) (r : NamedRegion) : Type 0 where
  pub names : All (λ q. q.name ≢ r.name) earlier
  pub apart : All (λ q. IsApart q.extent r.extent) earlier

beside_found : (earlier : List NamedRegion) (r : NamedRegion) (x : Unit {0}) → beside earlier r ≡ Ok x
    → IsBeside earlier r
unfolding beside
beside_found earlier r x e =
    let (y, named, e1) = bind_ok (must (not (list_any (has_name r.name) earlier)) (SameName (length earlier))) _ x e in
    let others = each_fails (has_name r.name) earlier (not_true _ (must_ok _ _ y named)) in
    let clear = each_fails (shares_page_with r.extent) earlier (not_true _ (must_ok _ _ x e1)) in
    record {
      names = λ k d within. λ is. false≢true
          (sym (others k d within) ∙ (bytes_eq-Decides (get_or earlier k d).name r.name).1 is);
      apart = λ k d within. apart (get_or earlier k d).extent r.extent (clear k d within);
    }

beside_again : (earlier : List NamedRegion) (r : NamedRegion) → IsBeside earlier r → beside earlier r ≡ Ok tt
unfolding beside
beside_again earlier r h =
    let others : list_any (has_name r.name) earlier ≡ false =
    list_any_none (has_name r.name) earlier
    (λ k d within. false_from_not _ (λ e. h.names k d within
    ((bytes_eq-Decides (get_or earlier k d).name r.name).0 e))) in
    let clear : list_any (shares_page_with r.extent) earlier ≡ false =
    list_any_none (shares_page_with r.extent) earlier
    (λ k d within. apart_again (get_or earlier k d).extent r.extent (h.apart k d within)) in
    rw (others, clear) refl

-- ---- regions one after the other

pub no_regions : AreRegions []
no_regions = record {
  each = λ k d below. absurd (omega (arith, below));
  names = λ i j d a b. absurd (omega (arith, b));
  apart = λ i j d a b. absurd (omega (arith, b));
}

-- one more region
pub are_more : (earlier : List NamedRegion) (r : NamedRegion) → AreRegions earlier → IsNamedRegion r
    → IsBeside earlier r → AreRegions (earlier ++ r ∷ [])
are_more earlier r are is b = record {
  each = All-push IsNamedRegion earlier r are.each is;
  names = all_pairs_push (λ q s. q.name ≢ s.name) earlier r are.names b.names;
  apart = all_pairs_push (λ q s. IsApart q.extent s.extent) earlier r are.apart b.apart;
}

-- the region in the middle, and the earlier ones
is_at : (earlier : List NamedRegion) (r : NamedRegion) (rs : List NamedRegion) → AreRegions (earlier ++ r ∷ rs)
    → IsNamedRegion r × IsBeside earlier r
is_at earlier r rs are =
    let n = length earlier in
    let within : n < length (earlier ++ r ∷ rs) = rw (length-append earlier (r ∷ rs)) (omega arith) in
    let here = λ (d : NamedRegion). get_or-append_seam earlier r rs d in
    let before = λ (k : ℕ) (d : NamedRegion) (below : k < n). get_or_append_left earlier (r ∷ rs) d k below in (
      subst IsNamedRegion (here r) (are.each n r within),
      record {
        names = λ k d below. subst (λ (q : NamedRegion). q.name ≢ r.name) (before k d below)
            (subst (λ (s : NamedRegion). (get_or (earlier ++ r ∷ rs) k d).name ≢ s.name) (here d)
            (are.names k n d below within));
        apart = λ k d below. subst (λ (q : NamedRegion). IsApart q.extent r.extent) (before k d below)
            (subst (λ (s : NamedRegion). IsApart (get_or (earlier ++ r ∷ rs) k d).extent s.extent) (here d)
            (are.apart k n d below within));
      },
    )

table_is : (d : Data) (ms : Members) → as_table d ≡ Some ms → d ≡ table ms
table_is (table ns) ms e = grind arith
table_is (integer z) ms e = absurd cc
table_is (string z) ms e = absurd cc
table_is (float z) ms e = absurd cc
table_is (boolean z) ms e = absurd cc
table_is (datetime z) ms e = absurd cc
table_is (array z) ms e = absurd cc

-- the pages of all are within the version's limit
abbrev pub AreBelow : TextVersion → List NamedRegion → Type 0
AreBelow version rs = All (λ r. IsBelow version r.extent) rs

below_at : (version : TextVersion) (earlier : List NamedRegion) (r : NamedRegion) (rs : List NamedRegion)
    → AreBelow version (earlier ++ r ∷ rs) → IsBelow version r.extent
below_at version earlier r rs below =
    let n = length earlier in
    let within : n < length (earlier ++ r ∷ rs) = rw (length-append earlier (r ∷ rs)) (omega arith) in
    subst (λ (q : NamedRegion). IsBelow version q.extent) (get_or-append_seam earlier r rs r) (below n r within)

pub next_found : (version : TextVersion) (earlier : List NamedRegion) (d : Data) (r : NamedRegion)
    → next_region version earlier d ≡ Ok r
    → (ms : Members) × (d ≡ table ms) × SpellsRegion ms r × IsNamedRegion r × IsBeside earlier r
    × IsBelow version r.extent
unfolding next_region
next_found version earlier d r e =
    let (ms, is, e1) = bind_ok (ok_or (as_table d) (Range (Top Region))) _ r e in
    let (q, read, e2) = bind_ok (region_at version (length earlier) ms) _ r e1 in
    let (x, fresh, e3) = bind_ok (beside earlier q) _ r e2 in
    let s = region_found version (length earlier) ms q read in
    subst (λ (p : NamedRegion). (ms : Members) × (d ≡ table ms) × SpellsRegion ms p × IsNamedRegion p
    × IsBeside earlier p × IsBelow version p.extent) (ok_is q r e3) (
      ms,
      table_is d ms (ok_or_ok _ _ ms is),
      s.0,
      s.1,
      beside_found earlier q x fresh,
      s.2,
    )

pub next_again : (version : TextVersion) (earlier : List NamedRegion) (ms : Members) (r : NamedRegion)
    → SpellsRegion ms r → IsNamedRegion r → IsBeside earlier r → IsBelow version r.extent
    → next_region version earlier (table ms) ≡ Ok r
unfolding next_region
next_again version earlier ms r s h b below =
    rw (region_again version (length earlier) ms r s h below, beside_again earlier r b) refl

spelled : (ds : Items) (d : Data) (ms : Members) (r : NamedRegion) (rs : List NamedRegion) → d ≡ table ms
    → SpellsRegion ms r → SpellsRegions ds rs → SpellsRegions (item d ds) (r ∷ rs)
spelled ds d ms r rs is s more = rw is (s, more)

regions_found : (version : TextVersion) (earlier : List NamedRegion) (ds : Items) (all : List NamedRegion)
    → regions_from version earlier ds ≡ Ok all → AreRegions earlier → AreBelow version earlier
    → (rs : List NamedRegion) × (all ≡ earlier ++ rs) × SpellsRegions ds rs × AreRegions all × AreBelow version all
regions_found version earlier no_items all e are below =
    let same : earlier ≡ all = ok_is earlier all e in
    ([], sym same ∙ sym (append-nil earlier), tt, subst AreRegions same are, subst (AreBelow version) same below)
regions_found version earlier (item d ds) all e are below =
    let (r, next, e1) = bind_ok (next_region version earlier d) _ all e in
    let (ms, is, s, h, b, low) = next_found version earlier d r next in
    let more_below = All-push (λ (q : NamedRegion). IsBelow version q.extent) earlier r below low in
    let (rs, parts, more, whole, all_below) =
    regions_found version (earlier ++ r ∷ []) ds all e1 (are_more earlier r are h b) more_below in
    (r ∷ rs, parts ∙ append_assoc earlier (r ∷ []) rs, spelled ds d ms r rs is s more, whole, all_below)

regions_again : (version : TextVersion) (earlier : List NamedRegion) (ds : Items) (rs : List NamedRegion)
    → SpellsRegions ds rs → AreRegions (earlier ++ rs) → AreBelow version (earlier ++ rs)
    → regions_from version earlier ds ≡ Ok (earlier ++ rs)
regions_again version earlier no_items [] s are below = ap (λ (x : List NamedRegion). Ok x) (sym (append-nil earlier))
regions_again version earlier no_items (r ∷ rs) s are below = absurd s
regions_again version earlier (item (table ms) ds) (r ∷ rs) s are below =
    let (h, b) = is_at earlier r rs are in
    let low = below_at version earlier r rs below in
    let parts : (earlier ++ r ∷ []) ++ rs ≡ earlier ++ r ∷ rs = append_assoc earlier (r ∷ []) rs in
    rw (
      next_again version earlier ms r s.0 h b low,
      regions_again version (earlier ++ r ∷ []) ds rs s.1
          (subst AreRegions (sym parts) are) (subst (AreBelow version) (sym parts) below),
    ) (ap (λ (x : List NamedRegion). Ok x) parts)
regions_again version earlier (item d ds) rs s are below = absurd s

none_below : (version : TextVersion) → AreBelow version []
none_below version = λ k d below. absurd (omega (arith, below))

-- ---- the document

counted : (low high n : ℕ) (b : Bool) → ((nat_le low n && nat_le n high) && b) ≡ true
    → (low ≤ n) × (n ≤ high) × (b ≡ true)
counted low high n b e = grind (arith, nat_tests)

pub counted_again : (low high n : ℕ) (b : Bool) → low ≤ n → n ≤ high → b ≡ true
    → ((nat_le low n && nat_le n high) && b) ≡ true
counted_again low high n b p q e = grind (arith, nat_tests)

pub tables_is : (d : Data) (ds : Items) → as_tables d ≡ Some ds
    → (d ≡ array ds) × (1 ≤ table_count ds) × (table_count ds ≤ 64) × (are_tables ds ≡ true)
tables_is (array es) ds e =
    let (passed, is) = cond_some (are_regions es) es ds e in
    let (a, b, c) = counted 1 64 (table_count es) (are_tables es) passed in
    subst (λ (x : Items). (array es ≡ array x) × (1 ≤ table_count x) × (table_count x ≤ 64) × (are_tables x ≡ true)) is
    (refl, a, b, c)
tables_is (integer z) ds e = absurd cc
tables_is (string z) ds e = absurd cc
tables_is (float z) ds e = absurd cc
tables_is (boolean z) ds e = absurd cc
tables_is (datetime z) ds e = absurd cc
tables_is (table z) ds e = absurd cc

pub tables_found : (ms : Members) (ds : Items) → tables_at (Top Region) ms ≡ Ok ds
    → Holds ms (codes "region") (array ds) × (1 ≤ table_count ds) × (table_count ds ≤ 64) × (are_tables ds ≡ true)
unfolding tables_at
tables_found ms ds e =
    let (d, found, tested) = bind_ok (value_at (Top Region) ms) _ ds e in
    let (is, a, b, t) = tables_is d ds (ok_or_ok _ _ ds tested) in
    (ok_or_ok _ _ d found ∙ ap (λ (x : Data). Some x) is, a, b, t)

pub spelled_tables : (ds : Items) (rs : List NamedRegion) → SpellsRegions ds rs
    → (are_tables ds ≡ true) × (table_count ds ≡ length rs)
spelled_tables no_items [] s = (refl, refl)
spelled_tables no_items (r ∷ rs) s = absurd s
spelled_tables (item (table ms) ds) (r ∷ rs) s = let (a, b) = spelled_tables ds rs s.1 in (a, omega (arith, b))
spelled_tables (item d ds) rs s = absurd s

tables_again : (ms : Members) (ds : Items) → Holds ms (codes "region") (array ds) → are_tables ds ≡ true
    → 1 ≤ table_count ds → table_count ds ≤ 64 → tables_at (Top Region) ms ≡ Ok ds
unfolding tables_at
tables_again ms ds held are a b = rw (held, counted_again 1 64 (table_count ds) (are_tables ds) a b are) refl

-- the regions of a document
read_found : (version : TextVersion) (ms : Members) (ds : Items) (all : List NamedRegion)
    → tables_at (Top Region) ms ≡ Ok ds → regions_from version [] ds ≡ Ok all
    → ((es : Items) × Holds ms (codes "region") (array es) × SpellsRegions es all)
    × ((1 ≤ length all) × (length all ≤ 64)) × AreRegions all × AreBelow version all
read_found version ms ds all t read =
    let (held, some, most, _) = tables_found ms ds t in
    let (rs, same, s, are, below) = regions_found version [] ds all read no_regions (none_below version) in
    let spelt : SpellsRegions ds all = subst (λ (x : List NamedRegion). SpellsRegions ds x) (sym same) s in
    let (_, long) = spelled_tables ds all spelt in
    ((ds, held, spelt), (omega (arith, long, some), omega (arith, long, most)), are, below)

first_found : (ms : Members) (c : Configuration) → first_of ms ≡ Ok c
    → Spells One ms c × IsConfiguration c × IsOfFirst c
unfolding first_of
first_found ms c e =
    let (x, known, e0) = bind_ok (only_known One None ms) _ c e in
    let (frames, f, e1) = bind_ok (number_at (Top Frames) 1 4096 ms) _ c e0 in
    let (page_bytes, p, e2) = bind_ok (number_at (Top PageBytes) 64 65536 ms) _ c e1 in
    let (workers, w, e3) = bind_ok (number_at (Top Workers) 1 32 ms) _ c e2 in
    let (flushes, l, e4) = bind_ok (number_at (Top Flushes) 0 100000 ms) _ c e3 in
    let (ds, t, e5) = bind_ok (tables_at (Top Region) ms) _ c e4 in
    let (all, read, e6) = bind_ok (regions_from One [] ds) _ c e5 in
    let made : Configuration =
    record {
      frames = frames;
      page_bytes = page_bytes;
      workers = workers;
      span = Bounded;
      flushes = flushes;
      regions = all;
    } in
    let (fh, fl, fm) = number_found (Top Frames) 1 4096 frames ms f in
    let (ph, pl, pm) = number_found (Top PageBytes) 64 65536 page_bytes ms p in
    let (wh, wl, wm) = number_found (Top Workers) 1 32 workers ms w in
    let (lh, ll, lm) = number_found (Top Flushes) 0 100000 flushes ms l in
    let (region, count, are, below) = read_found One ms ds all t read in
    subst (λ (u : Configuration). Spells One ms u × IsConfiguration u × IsOfFirst u) (ok_is made c e6) (
      record {
        keys = known_found One None ms x known;
        frames = fh;
        page_bytes = ph;
        workers = wh;
        span = refl;
        flushes = lh;
        region = region;
      },
      record {
        frames = (fl, omega (arith, fm));
        page_bytes = (pl, omega (arith, pm));
        workers = (wl, omega (arith, wm));
        span = tt;
        flushes = lm;
        count = count;
        regions = are;
      },
      record { frames = fm; page_bytes = pm; workers = wm; pages = below },
    )

second_found : (ms : Members) (c : Configuration) → second_of ms ≡ Ok c
    → Spells Two ms c × IsConfiguration c × (512 ≤ c.page_bytes)
unfolding second_of
second_found ms c e =
    let (x, known, e0) = bind_ok (only_known Two None ms) _ c e in
    let (frames, f, e1) = bind_ok (number_at (Top Frames) 1 most_frames ms) _ c e0 in
    let (page_bytes, p, e2) = bind_ok (number_at (Top PageBytes) 512 most_page_bytes ms) _ c e1 in
    let (workers, w, e3) = bind_ok (number_at (Top Workers) 1 most_workers ms) _ c e2 in
    let (waiting, q, e4) = bind_ok (number_at (Top Waiting) 0 most_waiting ms) _ c e3 in
    let (flushes, l, e5) = bind_ok (number_at (Top Flushes) 0 (flush_limit (span_of waiting)) ms) _ c e4 in
    let (ds, t, e6) = bind_ok (tables_at (Top Region) ms) _ c e5 in
    let (all, read, e7) = bind_ok (regions_from Two [] ds) _ c e6 in
    let made : Configuration =
    record {
      frames = frames;
      page_bytes = page_bytes;
      workers = workers;
      span = span_of waiting;
      flushes = flushes;
      regions = all;
    } in
    let (fh, fl, fm) = number_found (Top Frames) 1 most_frames frames ms f in
    let (ph, pl, pm) = number_found (Top PageBytes) 512 most_page_bytes page_bytes ms p in
    let (wh, wl, wm) = number_found (Top Workers) 1 most_workers workers ms w in
    let (qh, ql, qm) = number_found (Top Waiting) 0 most_waiting waiting ms q in
    let (lh, ll, lm) = number_found (Top Flushes) 0 (flush_limit (span_of waiting)) flushes ms l in
    let (region, count, are, below) = read_found Two ms ds all t read in
    subst (λ (u : Configuration). Spells Two ms u × IsConfiguration u × (512 ≤ u.page_bytes)) (ok_is made c e7) (
      record {
        keys = known_found Two None ms x known;
        frames = fh;
        page_bytes = ph;
        workers = wh;
        span = subst (λ (n : ℕ). Holds ms (codes "waiting") (integer (pos n))) (sym (waiting_again waiting)) qh;
        flushes = lh;
        region = region;
      },
      record {
        frames = (fl, fm);
        page_bytes = (omega (arith, pl), pm);
        workers = (wl, wm);
        span = span_within waiting qm;
        flushes = lm;
        count = count;
        regions = are;
      },
      pl,
    )

pub configuration_found : (ms : Members) (c : Configuration) → configuration_of ms ≡ Ok c
    → Spells (version_of ms) ms c × IsConfiguration c × IsOf (version_of ms) c
configuration_found ms c e = by (is_second ms) e
  where
    by : (b : Bool) → (if b then second_of ms else first_of ms) ≡ Ok c
        → Spells (if b then Two else One) ms c × IsConfiguration c × IsOf (if b then Two else One) c
    by true e = second_found ms c e
    by false e = first_found ms c e

first_again : (ms : Members) (c : Configuration) → Spells One ms c → IsConfiguration c → IsOfFirst c
    → first_of ms ≡ Ok c
unfolding first_of
first_again ms c s h o =
    let (ds, held, spelt) = s.region in
    let (tables, long) = spelled_tables ds c.regions spelt in
    let few : c.flushes ≤ 100000 = subst (λ (k : Span). c.flushes ≤ flush_limit k) s.span h.flushes in
    rw (
      known_again One None ms s.keys,
      number_again (Top Frames) 1 4096 c.frames ms s.frames h.frames.0 o.frames,
      number_again (Top PageBytes) 64 65536 c.page_bytes ms s.page_bytes h.page_bytes.0 o.page_bytes,
      number_again (Top Workers) 1 32 c.workers ms s.workers h.workers.0 o.workers,
      number_again (Top Flushes) 0 100000 c.flushes ms s.flushes (omega arith) few,
      tables_again ms ds held tables (omega (arith, long, h.count.0)) (omega (arith, long, h.count.1)),
      regions_again One [] ds c.regions spelt h.regions o.pages,
    ) (ap (λ (k : Span). Ok (record c { span = k })) (sym s.span))

-- those of all settings are within the limit of version 2
pub all_below : (c : Configuration) → IsConfiguration c → AreBelow Two c.regions
all_below c h = λ k d within. (h.regions.each k d within).extent.ends

second_again : (ms : Members) (c : Configuration) → Spells Two ms c → IsConfiguration c → 512 ≤ c.page_bytes
    → second_of ms ≡ Ok c
unfolding second_of
second_again ms c s h o =
    let (ds, held, spelt) = s.region in
    let (tables, long) = spelled_tables ds c.regions spelt in
    let n = waiting_of c.span in
    let same : span_of n ≡ c.span = span_again c.span h.span in
    let few : c.flushes ≤ flush_limit (span_of n) =
    subst (λ (k : Span). c.flushes ≤ flush_limit k) (sym same) h.flushes in
    rw (
      known_again Two None ms s.keys,
      number_again (Top Frames) 1 most_frames c.frames ms s.frames h.frames.0 h.frames.1,
      number_again (Top PageBytes) 512 most_page_bytes c.page_bytes ms s.page_bytes o h.page_bytes.1,
      number_again (Top Workers) 1 most_workers c.workers ms s.workers h.workers.0 h.workers.1,
      number_again (Top Waiting) 0 most_waiting n ms s.span (omega arith) (waiting_within c.span h.span),
      number_again (Top Flushes) 0 (flush_limit (span_of n)) c.flushes ms s.flushes (omega arith) few,
      tables_again ms ds held tables (omega (arith, long, h.count.0)) (omega (arith, long, h.count.1)),
      regions_again Two [] ds c.regions spelt h.regions (all_below c h),
    ) (ap (λ (k : Span). Ok (record c { span = k })) same)

pub configuration_again : (ms : Members) (c : Configuration) → Spells (version_of ms) ms c → IsConfiguration c
    → IsOf (version_of ms) c → configuration_of ms ≡ Ok c
configuration_again ms c s h o = by (is_second ms) s o
  where
    by : (b : Bool) → Spells (if b then Two else One) ms c → IsOf (if b then Two else One) c
        → (if b then second_of ms else first_of ms) ≡ Ok c
    by true s o = second_again ms c s h o
    by false s o = first_again ms c s h o

-- ---- the text

pub text_found : (text : List ℕ) (r : Result Configuration SettingsError)
    → Gives is_settings_memory (λ (c : Configuration). c) r (reading text) → IfOk r (IsText text)
text_found text (Ok c) gives =
    let (ms, parsed, e) = bind_ok (ok_or (parse_document text) NotToml) configuration_of c gives in
    let (s, h, o) = configuration_found ms c e in
    (ms, ok_or_ok _ _ ms parsed, s, h, o)
text_found text (Err d) gives = tt

pub text_only : (text : List ℕ) (r : Result Configuration SettingsError) (c : Configuration)
    → Gives is_settings_memory (λ (c : Configuration). c) r (reading text) → IsText text c
    → Gives is_settings_memory (λ (c : Configuration). c) r (Ok c)
text_only text r c gives (ms, parsed, s, h, o) =
    let read : reading text ≡ Ok c = rw (parsed, configuration_again ms c s h o) refl in
    subst (λ (x : Result Configuration SettingsError). Gives is_settings_memory (λ (c : Configuration). c) r x) read
    gives
