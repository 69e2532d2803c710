-- An object that was read has its keys in byte order, each once.
use Rattle.std.proofs.Common.{◌≡◌, ℕ, List, Option, Some, None, option_map, Ordering, Less, Equal, Greater, nat_cmp}
use Rattle.std.proofs.Common.{refl, ap, subst, ◌∙◌}
use Rattle.std.specs.Prelude.{option_and_then}
use Rattle.std.specs.Ordering.{match_ordering, ordering_reverse}
use Rattle.std.specs.Cmp.Lexicographic.{slice_cmp}
use Rattle.std.proofs.lemmas.Cmp.{nat_list_cmp_total}
use Rattle.json.specs.Json as json
use Rattle.json.specs.Lex.{tokens}
use Rattle.serde_json.specs.Data.{Num, Data, null, boolean, number, string, array, object, Items, no_items, item}
use Rattle.serde_json.specs.Data.{Members, no_members, member, put}
use Rattle.serde_json.specs.Read.{number_of, of_json, of_items, of_members, max_depth, read}

-- The first key stands before the second.
abbrev pub IsBefore : List ℕ → List ℕ → Type 0
IsBefore k l = slice_cmp nat_cmp k l ≡ Less

-- The key stands before each key of the members.
abbrev pub IsBeforeAll : List ℕ → Members → Type 0
IsBeforeAll k no_members = Unit {0}
IsBeforeAll k (member l d ms) = IsBefore k l × IsBeforeAll k ms

-- Keys rise, at each level of a value.
abbrev mutual
  pub IsInOrder : Data → Type 0
  IsInOrder null = Unit {0}
  IsInOrder (boolean b) = Unit {0}
  IsInOrder (number n) = Unit {0}
  IsInOrder (string s) = Unit {0}
  IsInOrder (array ds) = AreInOrder ds
  IsInOrder (object ms) = MembersInOrder ms

  pub AreInOrder : Items → Type 0
  AreInOrder no_items = Unit {0}
  AreInOrder (item d ds) = IsInOrder d × AreInOrder ds

  pub MembersInOrder : Members → Type 0
  MembersInOrder no_members = Unit {0}
  MembersInOrder (member k d ms) = IsBeforeAll k ms × IsInOrder d × MembersInOrder ms

-- ---- put

before_all_later : (k l : List ℕ) (ms : Members) → IsBefore k l → IsBeforeAll l ms → IsBeforeAll k ms
before_all_later k l no_members b h = tt
before_all_later k l (member m d ms) b h = (nat_list_cmp_total.trans k l m b h.0, before_all_later k l ms b h.1)

before_all_at : (o : Ordering) (k l : List ℕ) (d e : Data) (ms : Members) (j : List ℕ) → slice_cmp nat_cmp k l ≡ o
    → IsBefore j k → IsBeforeAll j (member l e ms) → IsBeforeAll j (put k d ms)
    → IsBeforeAll j (match_ordering o (member k d (member l e ms)) (member l d ms) (member l e (put k d ms)))
before_all_at Less k l d e ms j is b h later = (b, h)
before_all_at Equal k l d e ms j is b h later = h
before_all_at Greater k l d e ms j is b h later = (h.0, later)

before_all-put : (j k : List ℕ) (d : Data) (ms : Members) → IsBefore j k → IsBeforeAll j ms → IsBeforeAll j (put k d ms)
before_all-put j k d no_members b h = (b, tt)
before_all-put j k d (member l e ms) b h =
    before_all_at (slice_cmp nat_cmp k l) k l d e ms j refl b h (before_all-put j k d ms b h.1)

in_order_at : (o : Ordering) (k l : List ℕ) (d e : Data) (ms : Members) → slice_cmp nat_cmp k l ≡ o → IsInOrder d
    → MembersInOrder (member l e ms) → MembersInOrder (put k d ms)
    → MembersInOrder (match_ordering o (member k d (member l e ms)) (member l d ms) (member l e (put k d ms)))
in_order_at Less k l d e ms is dh h later = ((is, before_all_later k l ms is h.0), dh, h)
in_order_at Equal k l d e ms is dh h later = (h.0, dh, h.2)
in_order_at Greater k l d e ms is dh h later =
    let after : IsBefore l k = nat_list_cmp_total.antisymm l k ∙ ap ordering_reverse is in
    (before_all-put l k d ms after h.0, h.1, later)

pub in_order-put : (k : List ℕ) (d : Data) (ms : Members) → IsInOrder d → MembersInOrder ms
    → MembersInOrder (put k d ms)
in_order-put k d no_members dh h = (tt, dh, tt)
in_order-put k d (member l e ms) dh h =
    in_order_at (slice_cmp nat_cmp k l) k l d e ms refl dh h (in_order-put k d ms dh h.2)

-- ---- reading

then_some : {A B : Type 0} (f : A → Option B) (o : Option A) (y : B) → option_and_then f o ≡ Some y → (x : A)
    × (o ≡ Some x) × (f x ≡ Some y)
then_some f None y e = absurd cc
then_some f (Some x) y e = (x, refl, e)

map_some : {A B : Type 0} (f : A → B) (o : Option A) (y : B) → option_map f o ≡ Some y → (x : A) × (o ≡ Some x)
    × (f x ≡ y)
map_some f None y e = absurd cc
map_some f (Some x) y e = (x, refl, cc)

mutual
  data_in_order : (j : json.Json) (d : Data) → of_json j ≡ Some d → IsInOrder d
  data_in_order json.null d e = let is : null ≡ d = cc in subst IsInOrder is tt
  data_in_order (json.boolean b) d e = let is : boolean b ≡ d = cc in subst IsInOrder is tt
  data_in_order (json.number s) d e =
      let (n, _, is) = map_some (λ (m : Num). number m) (number_of s) d e in
      subst IsInOrder is tt
  data_in_order (json.string s) d e = let is : string s ≡ d = cc in subst IsInOrder is tt
  data_in_order (json.array js) d e =
      let (ds, read, is) = map_some (λ (x : Items). array x) (of_items js) d e in
      subst IsInOrder is (items_in_order js ds read)
  data_in_order (json.object ns) d e =
      let (ms, read, is) = map_some (λ (x : Members). object x) (of_members ns no_members) d e in
      subst IsInOrder is (members_in_order ns no_members ms tt read)

  items_in_order : (js : json.Items) (ds : Items) → of_items js ≡ Some ds → AreInOrder ds
  items_in_order json.no_items ds e = let is : no_items ≡ ds = cc in subst AreInOrder is tt
  items_in_order (json.item j js) ds e =
      let (d, first, e1) = then_some (λ (x : Data). option_map (item x) (of_items js)) (of_json j) ds e in
      let (es, rest, is) = map_some (item d) (of_items js) ds e1 in
      subst AreInOrder is (data_in_order j d first, items_in_order js es rest)

  members_in_order : (ns : json.Members) (found ms : Members) → MembersInOrder found → of_members ns found ≡ Some ms
      → MembersInOrder ms
  members_in_order json.no_members found ms h e = let is : found ≡ ms = cc in subst MembersInOrder is h
  members_in_order (json.member k j ns) found ms h e =
      let (d, first, rest) = then_some (λ (x : Data). of_members ns (put k x found)) (of_json j) ms e in
      members_in_order ns (put k d found) ms (in_order-put k d found (data_in_order j d first) h) rest

pub read_in_order : (text : List ℕ) (d : Data) → read text ≡ Some d → IsInOrder d
read_in_order text d e =
    let (j, _, is) =
    then_some of_json (option_and_then (λ p. json.if_last p.0 p.1) (json.value max_depth (tokens text))) d e in
    data_in_order j d is
