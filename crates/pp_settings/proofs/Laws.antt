-- What is read is spelled so, and what is spelled so is read: one key, and one region.
use Rattle.std.proofs.Common.{◌≡◌, ℕ, ◌+◌, ◌-◌, ◌≤◌, pos, negsuc, true, IsTrue, List}
use Rattle.std.proofs.Common.{Option, Some, Ok, codes, refl, ap}
use Rattle.std.proofs.Common.{subst, ◌∙◌, arith}
use Rattle.std.proofs.lemmas.Option.{cond_some}
use Rattle.std.proofs.lemmas.Bool.{and_parts}
use Rattle.std.proofs.lemmas.Bool.Decides.{nat_tests}
use Rattle.toml.specs.Data.{Data, string, integer, float, boolean, datetime, array, table, Members, no_members, member}
use Rattle.pp_text.proofs.Keys.{among, among_again}
use Rattle.pp_text.proofs.Steps.{bind_ok, must_ok, ok_or_ok, ok_is}
use Rattle.pp_settings.specs.declared.extent.Extent.{Extent}
use Rattle.pp_settings.specs.declared.key.RegionKey.TheVariants.{Name, First, Count, Class}
use Rattle.pp_settings.specs.declared.key.Spot.{Spot}
use Rattle.pp_settings.specs.declared.key.Spot.TheVariants.{InRegion}
use Rattle.pp_settings.specs.declared.version.TextVersion.{TextVersion}
use Rattle.pp_settings.specs.declared.version.TextVersion.TheVariants.{One, Two}
use Rattle.pp_settings.specs.Keys.{key_of, known_keys}
use Rattle.pp_settings.specs.Limits.{page_numbers}
use Rattle.pp_settings.specs.Versions.{page_limit}
use Rattle.pp_settings.specs.Layout.{IsExtent}
use Rattle.pp_settings.specs.Settings.{NamedRegion, IsNamedRegion, is_region_name}
use Rattle.pp_settings.specs.Reading.{is_known, keys_known, only_known, value_at, as_number, number_at, as_name}
use Rattle.pp_settings.specs.Reading.{name_at, extent_at, region_at}
use Rattle.pp_settings.specs.Spelling.{HasOnly, Holds, SpellsRegion}

-- ---- keys

keys_found : (version : TextVersion) (region : Option ℕ) (ms : Members) → keys_known version region ms ≡ true
    → HasOnly (known_keys version region) ms
keys_found version region no_members e = tt
keys_found version region (member k d ms) e =
    let (here, more) = and_parts (is_known version region k) (keys_known version region ms) e in
    (among k (known_keys version region) here, keys_found version region ms more)

keys_again : (version : TextVersion) (region : Option ℕ) (ms : Members) → HasOnly (known_keys version region) ms
    → keys_known version region ms ≡ true
keys_again version region no_members h = refl
keys_again version region (member k d ms) h =
    rw (among_again k (known_keys version region) h.0) (keys_again version region ms h.1)

pub known_found : (version : TextVersion) (region : Option ℕ) (ms : Members) (x : Unit {0})
    → only_known version region ms ≡ Ok x → HasOnly (known_keys version region) ms
known_found version region ms x e = keys_found version region ms (must_ok _ _ x e)

pub known_again : (version : TextVersion) (region : Option ℕ) (ms : Members) → HasOnly (known_keys version region) ms
    → only_known version region ms ≡ Ok tt
known_again version region ms h = rw (keys_again version region ms h)

-- ---- numbers

pub number_is : (low high n : ℕ) (d : Data) → as_number low high d ≡ Some n
    → (d ≡ integer (pos n)) × (low ≤ n) × (n ≤ high)
number_is low high n (integer (pos m)) e = grind (arith, nat_tests)
number_is low high n (integer (negsuc m)) e = absurd cc
number_is low high n (string s) e = absurd cc
number_is low high n (float x) e = absurd cc
number_is low high n (boolean b) e = absurd cc
number_is low high n (datetime t) e = absurd cc
number_is low high n (array ds) e = absurd cc
number_is low high n (table ms) e = absurd cc

pub as_number_again : (low high n : ℕ) → low ≤ n → n ≤ high → as_number low high (integer (pos n)) ≡ Some n
as_number_again low high n a b = grind (arith, nat_tests)

pub number_found : (spot : Spot) (low high n : ℕ) (ms : Members) → number_at spot low high ms ≡ Ok n
    → Holds ms (key_of spot) (integer (pos n)) × (low ≤ n) × (n ≤ high)
unfolding number_at
number_found spot low high n ms e =
    let (d, found, tested) = bind_ok (value_at spot ms) _ n e in
    let (is, a, b) = number_is low high n d (ok_or_ok _ _ n tested) in
    (ok_or_ok _ _ d found ∙ ap Some is, a, b)

pub number_again : (spot : Spot) (low high n : ℕ) (ms : Members) → Holds ms (key_of spot) (integer (pos n)) → low ≤ n
    → n ≤ high → number_at spot low high ms ≡ Ok n
unfolding number_at
number_again spot low high n ms held a b = rw (held, as_number_again low high n a b)

-- ---- names

pub name_is : (n : List ℕ) (d : Data) → as_name d ≡ Some n → (d ≡ string n) × IsTrue (is_region_name n)
name_is n (string s) e =
    let (passed, is) = cond_some (is_region_name s) s n e in
    (ap string is, subst (λ x. is_region_name x ≡ true) is passed)
name_is n (integer z) e = absurd cc
name_is n (float x) e = absurd cc
name_is n (boolean b) e = absurd cc
name_is n (datetime t) e = absurd cc
name_is n (array ds) e = absurd cc
name_is n (table ms) e = absurd cc

pub name_found : (spot : Spot) (n : List ℕ) (ms : Members) → name_at spot ms ≡ Ok n
    → Holds ms (key_of spot) (string n) × IsTrue (is_region_name n)
unfolding name_at
name_found spot n ms e =
    let (d, found, tested) = bind_ok (value_at spot ms) _ n e in
    let (is, fits) = name_is n d (ok_or_ok _ _ n tested) in
    (ok_or_ok _ _ d found ∙ ap Some is, fits)

pub name_again : (spot : Spot) (n : List ℕ) (ms : Members) → Holds ms (key_of spot) (string n)
    → IsTrue (is_region_name n) → name_at spot ms ≡ Ok n
unfolding name_at
name_again spot n ms held fits = rw (held, fits) refl

-- ---- one region

-- the three numbers of an extent stand at their keys
pub record SpellsExtent (ms : Members) (e : Extent) : Type 0 where
  pub first : Holds ms (codes "first") (integer (pos e.first))
  pub count : Holds ms (codes "count") (integer (pos e.count))
  pub class : Holds ms (codes "class") (integer (pos e.class))

pub limit_within : (version : TextVersion) → (1 ≤ page_limit version) × (page_limit version ≤ page_numbers)
limit_within One = (omega arith, omega arith)
limit_within Two = (omega arith, omega arith)

-- its pages are within the version's limit
abbrev pub IsBelow : TextVersion → Extent → Type 0
IsBelow version x = x.first + x.count ≤ page_limit version

pub extent_found : (version : TextVersion) (i : ℕ) (ms : Members) (x : Extent) → extent_at version i ms ≡ Ok x
    → SpellsExtent ms x × IsExtent x × IsBelow version x
unfolding extent_at
extent_found version i ms x e =
    let limit = page_limit version in
    let (some, most) = limit_within version in
    let (first, begins, e1) = bind_ok (number_at (InRegion i First) 0 (limit - 1) ms) _ x e in
    let (count, counts, e2) = bind_ok (number_at (InRegion i Count) 1 (limit - first) ms) _ x e1 in
    let (class, stands, e3) = bind_ok (number_at (InRegion i Class) 0 63 ms) _ x e2 in
    let made : Extent = record { first = first; count = count; class = class } in
    let f = number_found (InRegion i First) 0 (limit - 1) first ms begins in
    let n = number_found (InRegion i Count) 1 (limit - first) count ms counts in
    let c = number_found (InRegion i Class) 0 63 class ms stands in
    let below : first + count ≤ page_limit version = omega (arith, n.2, f.2, some) in
    subst (λ (y : Extent). SpellsExtent ms y × IsExtent y × IsBelow version y) (ok_is made x e3) (
      record { first = f.0; count = n.0; class = c.0 },
      record { some = n.1; ends = omega (arith, below, most); class = c.2 },
      below,
    )

pub extent_again : (version : TextVersion) (i : ℕ) (ms : Members) (x : Extent) → SpellsExtent ms x → IsExtent x
    → IsBelow version x → extent_at version i ms ≡ Ok x
unfolding extent_at
extent_again version i ms x s h below =
    let limit = page_limit version in
    rw (
      number_again (InRegion i First) 0 (limit - 1) x.first ms s.first (omega arith) (omega (arith, h.some, below)),
      number_again (InRegion i Count) 1 (limit - x.first) x.count ms s.count h.some (omega (arith, below)),
      number_again (InRegion i Class) 0 63 x.class ms s.class (omega arith) h.class,
    ) refl

pub region_found : (version : TextVersion) (i : ℕ) (ms : Members) (r : NamedRegion) → region_at version i ms ≡ Ok r
    → SpellsRegion ms r × IsNamedRegion r × IsBelow version r.extent
unfolding region_at
region_found version i ms r e =
    let (x, known, e1) = bind_ok (only_known version (Some i) ms) _ r e in
    let (name, named, e2) = bind_ok (name_at (InRegion i Name) ms) _ r e1 in
    let (extent, lies, e3) = bind_ok (extent_at version i ms) _ r e2 in
    let made : NamedRegion = record { name = name; extent = extent } in
    let n = name_found (InRegion i Name) name ms named in
    let l = extent_found version i ms extent lies in
    subst (λ (q : NamedRegion). SpellsRegion ms q × IsNamedRegion q × IsBelow version q.extent) (ok_is made r e3) (
      record {
        keys = known_found
            version (Some i) ms x known;
        name = n.0;
        first = l.0.first;
        count = l.0.count;
        class = l.0.class;
      },
      record { name = n.1; extent = l.1 },
      l.2,
    )

pub region_again : (version : TextVersion) (i : ℕ) (ms : Members) (r : NamedRegion) → SpellsRegion ms r
    → IsNamedRegion r → IsBelow version r.extent → region_at version i ms ≡ Ok r
unfolding region_at
region_again version i ms r s h below =
    let x =
    extent_again version i ms r.extent (record { first = s.first; count = s.count; class = s.class }) h.extent below in
    rw (known_again version (Some i) ms s.keys, name_again (InRegion i Name) r.name ms s.name h.name, x) refl
