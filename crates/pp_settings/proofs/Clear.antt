-- What was read has none of the faults: a key, a region, a region beside another, and a whole text.
use Rattle.std.proofs.Common.{◌≡◌, ◌≢◌, inl, inr, ℕ, zero, suc, ◌+◌, ◌≤◌, ◌<◌, pos, List, [], ◌∷◌, length, get_or, IfOk}
use Rattle.std.proofs.Common.{Bool, true, false, if◌then◌else◌, Option, Some, None, option_and_then, Result, Ok, Err}
use Rattle.std.proofs.Common.{codes, refl, sym, ap, subst, ◌∙◌, arith}
use Rattle.std.proofs.lemmas.Bool.{false≢true}
use Rattle.std.specs.Option.{ok_or}
use Rattle.toml.specs.Parse.{parse_document}
use Rattle.toml.specs.Data.{Data, string, integer, array, table, Items, no_items, item, Members, get_member, get_item}
use Rattle.toml.specs.Data.{as_table, as_array}
use Rattle.pp_text.specs.Steps.{Gives}
use Rattle.pp_text.proofs.Steps.{bind_ok, ok_or_ok}
use Rattle.pp_settings.specs.declared.extent.Extent.{Extent}
use Rattle.pp_settings.specs.declared.error.SettingsError.{SettingsError}
use Rattle.pp_settings.specs.declared.error.SettingsError.TheVariants.{NotToml, Missing, Unknown, Range, SameName}
use Rattle.pp_settings.specs.declared.error.SettingsError.TheVariants.{Overlap, OutOfMemory}
use Rattle.pp_settings.specs.declared.key.TopKey.{TopKey}
use Rattle.pp_settings.specs.declared.key.TopKey.TheVariants.{Version, Frames, PageBytes, Workers, Waiting}
use Rattle.pp_settings.specs.declared.key.TopKey.TheVariants.{Flushes, Region}
use Rattle.pp_settings.specs.declared.key.RegionKey.{RegionKey}
use Rattle.pp_settings.specs.declared.key.RegionKey.TheVariants.{Name, First, Count, Class}
use Rattle.pp_settings.specs.declared.key.Spot.{Spot}
use Rattle.pp_settings.specs.declared.key.Spot.TheVariants.{Top, InRegion}
use Rattle.pp_settings.specs.declared.span.Span.{Span}
use Rattle.pp_settings.specs.declared.version.TextVersion.{TextVersion}
use Rattle.pp_settings.specs.declared.version.TextVersion.TheVariants.{One, Two}
use Rattle.pp_settings.specs.Keys.{key_of, document_keys}
use Rattle.pp_settings.specs.Layout.{IsApart}
use Rattle.pp_settings.specs.Settings.{NamedRegion, Configuration, IsNamedRegion, IsConfiguration, IsOfFirst, IsOf}
use Rattle.pp_settings.specs.Spans.{flush_limit, waiting_of}
use Rattle.pp_settings.specs.Versions.{is_second}
use Rattle.pp_settings.specs.Refusals.{is_settings_memory}
use Rattle.pp_settings.specs.Reading.{configuration_of, reading}
use Rattle.pp_settings.specs.Spelling.{HasOnly, Holds, SpellsRegion, SpellsRegions, Spells}
use Rattle.pp_settings.specs.Faults.{table_of, home_of, value_of, AreRegionTables, IsAllowed, HasPageAt, HasKey}
use Rattle.pp_settings.specs.Faults.{IsFaultOf, HasFault}
use Rattle.pp_settings.proofs.Laws.{IsBelow}
use Rattle.pp_settings.proofs.Spans.{two_is, span_again, waiting_within}
use Rattle.pp_settings.proofs.Spelled.{AreBelow, all_below, spelled_tables, configuration_found}
use Rattle.pp_text.proofs.Keys.{among_again}

pub nameless : NamedRegion
nameless = record { name = []; extent = record { first = 0; count = 0; class = 0 } }

pub some_is : {A : Type 0} (x y : A) → ◌≡◌ {A = Option A} (Some x) (Some y) → x ≡ y
some_is x y e = cc

none_some : {A : Type 0} (o : Option A) (x : A) → o ≡ None → o ≡ Some x → ⊥
none_some o x a b = absurd cc

-- ---- one key

pub value_is : (ms t : Members) (spot : Spot) → table_of ms (home_of spot) ≡ Some t
    → value_of ms spot ≡ get_member (key_of spot) t
value_is ms t spot home = ap (option_and_then (get_member (key_of spot))) home

-- a key with a value is not missing
pub not_missing : (version : TextVersion) (ms t : Members) (spot : Spot) (d : Data) → table_of ms (home_of spot) ≡ Some t
    → Holds t (key_of spot) d → ¬ IsFaultOf version ms (Missing spot)
not_missing version ms t spot d home held (key, (u, there, none)) =
    let same : u ≡ t = some_is u t (sym there ∙ home) in
    none_some (get_member (key_of spot) t) d
    (subst (λ (v : Members). get_member (key_of spot) v ≡ None) same none) held

-- the key is no fault
pub record IsClear (version : TextVersion) (ms : Members) (spot : Spot) : Type 0 where
  pub there : ¬ IsFaultOf version ms (Missing spot)
  pub good : ¬ IsFaultOf version ms (Range spot)

-- so it is with a key that has a value that it may have
pub key_clear : (version : TextVersion) (ms t : Members) (spot : Spot) (d : Data) → table_of ms (home_of spot) ≡ Some t
    → Holds t (key_of spot) d → IsAllowed version ms spot d → IsClear version ms spot
key_clear version ms t spot d home held allowed = record {
  there = not_missing version ms t spot d home held;
  good = λ (key, (u, there, bad)).
      bad (subst (IsAllowed version ms spot) (some_is d u (sym held ∙ sym (value_is ms t spot home) ∙ there)) allowed);
}

-- and with one that the version doesn't have
pub other_clear : (version : TextVersion) (ms : Members) (spot : Spot) → ¬ HasKey version spot
    → IsClear version ms spot
other_clear version ms spot other = record { there = λ m. other m.0; good = λ m. other m.0 }

no_version : ¬ HasKey One (Top Version)
no_version has = false≢true (among_again (codes "version") (document_keys One) has)

pub no_waiting : ¬ HasKey One (Top Waiting)
no_waiting has = false≢true (among_again (codes "waiting") (document_keys One) has)

-- the keys of a region that was read
pub region_clear : (version : TextVersion) (ms t : Members) (i : ℕ) (r : NamedRegion) → table_of ms (Some i) ≡ Some t
    → SpellsRegion t r → IsNamedRegion r → IsBelow version r.extent → (k : RegionKey)
    → IsClear version ms (InRegion i k)
region_clear version ms t i r home s h below Name =
    key_clear version ms t (InRegion i Name) (string r.name) home s.name (r.name, refl, h.name)
region_clear version ms t i r home s h below First =
    let x = h.extent in
    key_clear version ms t (InRegion i First) (integer (pos r.extent.first)) home s.first
    (r.extent.first, refl, omega arith, omega (arith, x.some, below))
region_clear version ms t i r home s h below Count =
    let x = h.extent in
    key_clear version ms t (InRegion i Count) (integer (pos r.extent.count)) home s.count
    (r.extent.first, r.extent.count, value_is ms t (InRegion i First) home ∙ s.first, refl, x.some, below)
region_clear version ms t i r home s h below Class =
    key_clear version ms t (InRegion i Class) (integer (pos r.extent.class)) home s.class
    (r.extent.class, refl, omega arith, h.extent.class)

-- ---- two regions

-- the region's table stands in the document, and spells it
abbrev pub SpellsAt : Members → ℕ → NamedRegion → Type 0
SpellsAt ms i r = (t : Members) × (table_of ms (Some i) ≡ Some t) × SpellsRegion t r

pub name_there : (ms : Members) (i : ℕ) (r : NamedRegion) → SpellsAt ms i r
    → value_of ms (InRegion i Name) ≡ Some (string r.name)
name_there ms i r (t, home, s) = value_is ms t (InRegion i Name) home ∙ s.name

pub first_there : (ms : Members) (i : ℕ) (r : NamedRegion) → SpellsAt ms i r
    → value_of ms (InRegion i First) ≡ Some (integer (pos r.extent.first))
first_there ms i r (t, home, s) = value_is ms t (InRegion i First) home ∙ s.first

pub count_there : (ms : Members) (i : ℕ) (r : NamedRegion) → SpellsAt ms i r
    → value_of ms (InRegion i Count) ≡ Some (integer (pos r.extent.count))
count_there ms i r (t, home, s) = value_is ms t (InRegion i Count) home ∙ s.count

string_is : (a b : List ℕ) → ◌≡◌ {A = Option Data} (Some (string a)) (Some (string b)) → a ≡ b
string_is a b e = cc

number_is : (a b : ℕ) → ◌≡◌ {A = Option Data} (Some (integer (pos a))) (Some (integer (pos b))) → a ≡ b
number_is a b e = cc

no_common_page : (d e : Extent) (page : ℕ) → IsApart d e → d.first ≤ page → page < d.first + d.count
    → e.first ≤ page → page < e.first + e.count → ⊥
no_common_page d e page (inl h) a b c f = omega (arith, h, a, b, c, f)
no_common_page d e page (inr h) a b c f = omega (arith, h, a, b, c, f)

-- regions of different names have no name in common
pub names_clear : (ms : Members) (j i : ℕ) (q r : NamedRegion) → SpellsAt ms j q → SpellsAt ms i r → q.name ≢ r.name
    → (name : List ℕ) → value_of ms (InRegion j Name) ≡ Some (string name)
    → value_of ms (InRegion i Name) ≡ Some (string name) → ⊥
names_clear ms j i q r s t differ name there here =
    differ (string_is _ _ (sym (name_there ms j q s) ∙ there) ∙ string_is _ _ (sym here ∙ name_there ms i r t))

-- and regions that are apart no page
pub pages_clear : (ms : Members) (j i : ℕ) (q r : NamedRegion) → SpellsAt ms j q → SpellsAt ms i r
    → IsApart q.extent r.extent → (page : ℕ) → HasPageAt ms j page → HasPageAt ms i page → ⊥
pages_clear ms j i q r s t apart page (f, c, fa, ca, low, high) (f', c', fb, cb, low', high') =
    let e1 : q.extent.first ≡ f = number_is _ _ (sym (first_there ms j q s) ∙ fa) in
    let e2 : q.extent.count ≡ c = number_is _ _ (sym (count_there ms j q s) ∙ ca) in
    let e3 : r.extent.first ≡ f' = number_is _ _ (sym (first_there ms i r t) ∙ fb) in
    let e4 : r.extent.count ≡ c' = number_is _ _ (sym (count_there ms i r t) ∙ cb) in
    no_common_page q.extent r.extent page apart (omega (arith, e1, low)) (omega (arith, e1, e2, high))
    (omega (arith, e3, low')) (omega (arith, e3, e4, high'))

-- ---- a document that spells settings

-- the table of a region is one of those that spell the regions
table_spelled : (ds : Items) (rs : List NamedRegion) (i : ℕ) (t : Members) → SpellsRegions ds rs
    → option_and_then as_table (get_item i ds) ≡ Some t → (i < length rs) × SpellsRegion t (get_or rs i nameless)
table_spelled no_items rs i t s e = absurd cc
table_spelled (item (table ms) ds) (r ∷ rs) zero t s e =
    (omega arith, subst (λ (u : Members). SpellsRegion u r) (some_is ms t e) s.0)
table_spelled (item (table ms) ds) (r ∷ rs) (suc i) t s e =
    let (within, is) = table_spelled ds rs i t s.1 e in (omega (arith, within), is)
table_spelled (item d ds) rs i t s e = absurd s

region_spelled : (version : TextVersion) (ms : Members) (c : Configuration) (i : ℕ) (t : Members)
    → Spells version ms c → table_of ms (Some i) ≡ Some t
    → (i < length c.regions) × SpellsRegion t (get_or c.regions i nameless)
region_spelled version ms c i t s home =
    let (ds, held, spelt) = s.region in
    let there : table_of ms (Some i) ≡ option_and_then as_table (get_item i ds) =
    ap (λ (o : Option Data). option_and_then as_table (option_and_then (get_item i) (option_and_then as_array o))) held
    in
    table_spelled ds c.regions i t spelt (sym there ∙ home)

-- the region in whose table a value stands
value_spelled : (version : TextVersion) (ms : Members) (c : Configuration) (i : ℕ) (k : RegionKey) (d : Data)
    → Spells version ms c → value_of ms (InRegion i k) ≡ Some d
    → (i < length c.regions) × SpellsAt ms i (get_or c.regions i nameless)
value_spelled version ms c i k d s is = by_table (table_of ms (Some i)) refl
  where
    by_table : (o : Option Members) → table_of ms (Some i) ≡ o
        → (i < length c.regions) × SpellsAt ms i (get_or c.regions i nameless)
    by_table None home =
        absurd (none_some (value_of ms (InRegion i k)) d
        (ap (option_and_then (get_member (key_of (InRegion i k)))) home) is)
    by_table (Some t) home = let (within, spelt) = region_spelled version ms c i t s home in (within, (t, home, spelt))

tables_clear : (version : TextVersion) (ms : Members) (c : Configuration) → Spells version ms c → IsConfiguration c
    → ((d : Data) → AreRegionTables d → IsAllowed version ms (Top Region) d) → IsClear version ms (Top Region)
tables_clear version ms c s h allowed =
    let (ds, held, spelt) = s.region in
    let (tables, long) = spelled_tables ds c.regions spelt in
    key_clear version ms ms (Top Region) (array ds) refl held
    (allowed (array ds) (ds, refl, omega (arith, long, h.count.0), omega (arith, long, h.count.1), tables))

first_clear : (ms : Members) (c : Configuration) → Spells One ms c → IsConfiguration c → IsOfFirst c → (k : TopKey)
    → IsClear One ms (Top k)
first_clear ms c s h o Version = other_clear One ms (Top Version) no_version
first_clear ms c s h o Frames =
    key_clear One ms ms (Top Frames) (integer (pos c.frames)) refl s.frames (c.frames, refl, h.frames.0, o.frames)
first_clear ms c s h o PageBytes =
    key_clear One ms ms (Top PageBytes) (integer (pos c.page_bytes)) refl s.page_bytes
    (c.page_bytes, refl, h.page_bytes.0, o.page_bytes)
first_clear ms c s h o Workers =
    key_clear One ms ms (Top Workers) (integer (pos c.workers)) refl s.workers
    (c.workers, refl, h.workers.0, o.workers)
first_clear ms c s h o Waiting = other_clear One ms (Top Waiting) no_waiting
first_clear ms c s h o Flushes =
    key_clear One ms ms (Top Flushes) (integer (pos c.flushes)) refl s.flushes
    (c.flushes, refl, omega arith, subst (λ (k : Span). c.flushes ≤ flush_limit k) s.span h.flushes)
first_clear ms c s h o Region = tables_clear One ms c s h (λ d are. are)

second_clear : (ms : Members) (c : Configuration) → Spells Two ms c → IsConfiguration c → 512 ≤ c.page_bytes
    → is_second ms ≡ true → (k : TopKey) → IsClear Two ms (Top k)
second_clear ms c s h o second Version =
    key_clear Two ms ms (Top Version) (integer (pos 2)) refl (two_is (get_member (codes "version") ms) second)
    (2, refl, omega arith, omega arith)
second_clear ms c s h o second Frames =
    key_clear Two ms ms (Top Frames) (integer (pos c.frames)) refl s.frames (c.frames, refl, h.frames.0, h.frames.1)
second_clear ms c s h o second PageBytes =
    key_clear Two ms ms (Top PageBytes) (integer (pos c.page_bytes)) refl s.page_bytes
    (c.page_bytes, refl, o, h.page_bytes.1)
second_clear ms c s h o second Workers =
    key_clear Two ms ms (Top Workers) (integer (pos c.workers)) refl s.workers
    (c.workers, refl, h.workers.0, h.workers.1)
second_clear ms c s h o second Waiting =
    key_clear Two ms ms (Top Waiting) (integer (pos (waiting_of c.span))) refl s.span
    (waiting_of c.span, refl, omega arith, waiting_within c.span h.span)
second_clear ms c s h o second Flushes =
    key_clear Two ms ms (Top Flushes) (integer (pos c.flushes)) refl s.flushes (
      waiting_of c.span,
      c.flushes,
      s.span,
      refl,
      subst (λ (k : Span). c.flushes ≤ flush_limit k) (sym (span_again c.span h.span)) h.flushes,
    )
second_clear ms c s h o second Region = tables_clear Two ms c s h (λ d are. are)

inner_clear : (version : TextVersion) (ms : Members) (c : Configuration) → Spells version ms c → IsConfiguration c
    → AreBelow version c.regions → (i : ℕ) (k : RegionKey) → IsClear version ms (InRegion i k)
inner_clear version ms c s h below i k = by_table (table_of ms (Some i)) refl
  where
    by_table : (o : Option Members) → table_of ms (Some i) ≡ o → IsClear version ms (InRegion i k)
    by_table None home = record {
      there = λ (key, m). none_some (table_of ms (Some i)) m.0 home m.1;
      good = λ (key, m). none_some (value_of ms (InRegion i k)) m.0
          (ap (option_and_then (get_member (key_of (InRegion i k)))) home) m.1;
    }
    by_table (Some t) home =
        let (within, spelt) = region_spelled version ms c i t s home in
        region_clear version ms t i (get_or c.regions i nameless) home spelt (h.regions.each i nameless within)
        (below i nameless within) k

document_clear : (version : TextVersion) (ms : Members) (c : Configuration) → Spells version ms c → IsConfiguration c
    → AreBelow version c.regions → ((k : TopKey) → IsClear version ms (Top k)) → (f : SettingsError)
    → ¬ IsFaultOf version ms f
document_clear version ms c s h below clear NotToml = λ m. m
document_clear version ms c s h below clear OutOfMemory = λ m. m
document_clear version ms c s h below clear (Missing (Top k)) = (clear k).there
document_clear version ms c s h below clear (Missing (InRegion i k)) = (inner_clear version ms c s h below i k).there
document_clear version ms c s h below clear (Range (Top k)) = (clear k).good
document_clear version ms c s h below clear (Range (InRegion i k)) = (inner_clear version ms c s h below i k).good
document_clear version ms c s h below clear (Unknown None) =
    λ m. m.2 (subst (HasOnly (document_keys version)) (some_is ms m.0 m.1) s.keys)
document_clear version ms c s h below clear (Unknown (Some i)) =
    λ m. m.2 (region_spelled version ms c i m.0 s m.1).1.keys
document_clear version ms c s h below clear (SameName i) = λ (j, under, (name, there, here)).
    let (_, first) = value_spelled version ms c j Name (string name) s there in
    let (within, second) = value_spelled version ms c i Name (string name) s here in
    names_clear ms j i (get_or c.regions j nameless) (get_or c.regions i nameless) first second
    (h.regions.names j i nameless under within) name there here
document_clear version ms c s h below clear (Overlap i) = λ (j, under, (page, has, has')).
    let (_, first) = value_spelled version ms c j First (integer (pos has.0)) s has.2 in
    let (within, second) = value_spelled version ms c i First (integer (pos has'.0)) s has'.2 in
    pages_clear ms j i (get_or c.regions j nameless) (get_or c.regions i nameless) first second
    (h.regions.apart j i nameless under within) page has has'

settings_clear : (ms : Members) (c : Configuration) → configuration_of ms ≡ Ok c → (f : SettingsError)
    → ¬ HasFault (Some ms) f
settings_clear ms c read f = by (is_second ms) refl (configuration_found ms c read)
  where
    by : (b : Bool) → is_second ms ≡ b
        → Spells (if b then Two else One) ms c × IsConfiguration c × IsOf (if b then Two else One) c
        → ¬ IsFaultOf (if b then Two else One) ms f
    by true second (s, h, o) =
        document_clear Two ms c s h (all_below c h) (second_clear ms c s h o second) f
    by false other (s, h, o) = document_clear One ms c s h o.pages (first_clear ms c s h o) f

text_clear : (text : List ℕ) (c : Configuration) → reading text ≡ Ok c
    → (f : SettingsError) → ¬ HasFault (parse_document text) f
text_clear text c gives f =
    let (ms, parsed, e) = bind_ok (ok_or (parse_document text) NotToml) configuration_of c gives in
    subst (λ (o : Option Members). ¬ HasFault o f) (sym (ok_or_ok _ _ ms parsed)) (settings_clear ms c e f)

-- a text that was accepted has none
pub accepted_clear : (text : List ℕ) (r : Result Configuration SettingsError)
    → Gives is_settings_memory (λ (c : Configuration). c) r (reading text)
    → IfOk r (λ c. (f : SettingsError) → ¬ HasFault (parse_document text) f)
accepted_clear text (Ok c) gives = text_clear text c gives
accepted_clear text (Err e) gives = tt
