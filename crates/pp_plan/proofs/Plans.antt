-- What is read is a plan.
use Rattle.std.proofs.Common.{◌≡◌, ◌⊎◌, inl, inr, ℕ, ◌<◌, ◌≤◌, nat_lt, ◌&&◌, Bool, true, false, IsTrue, List, []}
use Rattle.std.proofs.Common.{length, map, Some, Ok, sym, ap, subst, ◌∙◌}
use Rattle.std.proofs.Common.{arith}
use Rattle.std.specs.List.{slice_get, slice_index_or}
use Rattle.std.proofs.lemmas.Bool.{lt-ltb, le-ltb, cases_lt}
use Rattle.std.proofs.lemmas.List.{get_or-map, length-map, length-replicate}
use Rattle.std.proofs.lemmas.List.Elements.{All-map}
use Rattle.std.proofs.lemmas.Option.{slice_get_within}
use Rattle.serde_json.specs.Data.{Items}
use Rattle.pp_settings.specs.Layout.{IsExtent, IsLayout}
use Rattle.pp_settings.specs.Settings.{NamedRegion, Configuration, IsConfiguration, region_named, geometry_of}
use Rattle.pp_plan.specs.Tree.{Sequence, skip}
use Rattle.pp_plan.specs.Names.{is_slot_name}
use Rattle.pp_plan.specs.Rules.{IsSequence, uses_bundle}
use Rattle.pp_plan.specs.Progress.{Progress}
use Rattle.pp_plan.specs.Terms.{IsPlan}
use Rattle.pp_plan.specs.Numbering.{in_byte_order, place_in, numbered}
use Rattle.pp_plan.specs.Reading.{start, sequence_from, statement_at, plan_of}
use Rattle.pp_plan.specs.Rules.{IsUsed}
use Rattle.pp_plan.proofs.Places.{has_at, at_has, filled}
use Rattle.pp_plan.proofs.Order.{rises_apart, rises_pairs, all_of, order_rises, order_length, order_from, order_has}
use Rattle.pp_plan.proofs.Found.{AreNames, AreSlots, kind_at, IsKind, IsBundle, IsPlain, ReadSequence, whole_found}
use Rattle.pp_plan.proofs.Found.{statement_found}
use Rattle.pp_plan.proofs.Numbered.{sequence_counted, sequence_deep, sequence_parts, sequence_used, placed, Moves}
use Rattle.pp_plan.proofs.Bundles.{Marks, numbered_ways, marks_apart, marks_none, marks_are}

-- the layout of settings within the limits is a layout
pub layout_is : (c : Configuration) → IsConfiguration c → IsLayout (geometry_of c)
layout_is c h =
    let extent_of = λ (r : NamedRegion). r.extent in
    let nameless : NamedRegion = record { name = []; extent = record { first = 0; count = 0; class = 0 } } in
    let long : length (map extent_of c.regions) ≡ length c.regions = length-map c.regions extent_of in
    record {
      frames = h.frames;
      count = (omega (arith, long, h.count.0), omega (arith, long, h.count.1));
      extents = All-map IsExtent extent_of c.regions (λ k d within. (h.regions.each k d within).extent);
      apart = λ i j d a b.
          let within : j < length c.regions = omega (arith, long, b) in
          rw (
            get_or-map extent_of c.regions i nameless d (omega (arith, a, within)),
            get_or-map extent_of c.regions j nameless d within,
          ) (h.regions.apart i j nameless a within);
    }

pub start_slots : AreSlots start
start_slots = record {
  names = record { few = omega arith; form = λ n h. absurd h; apart = λ i j n a b. absurd cc };
  table = length-replicate 32 false;
}

-- the place of each name in byte order
pub in_order : (names : List (List ℕ)) → AreNames names
    → Moves (λ k. place_in (in_byte_order names) names k) names (in_byte_order names)
in_order names are k n is =
    let (j, there) = has_at (in_byte_order names) n (order_has names n (at_has names k n is)) in
    let e =
    placed (in_byte_order names) names j k n (rises_apart (in_byte_order names) (order_rises names are.apart)) is
    there in
    ap (λ (i : ℕ). slice_get (in_byte_order names) i) e ∙ there

-- each slot is used
pub slots_used : (settings : Configuration) (version : ℕ) (items : Items) (r : Progress × Sequence)
    → ReadSequence settings version 16 start items r → (k : ℕ) → k < length (in_byte_order r.0.names)
    → IsUsed (numbered (λ i. place_in (in_byte_order r.0.names) r.0.names i) r.1) k
slots_used settings version items r s k within =
    let names : List (List ℕ) = r.0.names in
    let slots : List (List ℕ) = in_byte_order names in
    let new : ℕ → ℕ = λ i. place_in slots names i in
    let (n, there) = filled slots k within in
    let (j, is) = has_at names n (order_from names n (at_has slots k n there)) in
    let e : new j ≡ k = placed slots names k j n (rises_apart slots (order_rises names s.slots.names.apart)) is there in
    elim (s.used j n is) as (λ _. IsUsed (numbered new r.1) k)
    [ inl old ↦ absurd cc | inr u ↦ subst (λ (i : ℕ). IsUsed (numbered new r.1) i) e (sequence_used new r.1 j u) ]

-- the kind of the slot with this new number
abbrev pub kind_in : Progress → ℕ → Bool
kind_in p j = kind_at p (place_in p.names (in_byte_order p.names) j)

-- which of the slots is a bundle, by the new numbers
abbrev pub marked : Progress → ℕ → Bool
marked p j = nat_lt j (length (in_byte_order p.names)) && kind_in p j

kind_moved : (p : Progress) (k : ℕ) (b : Bool) → AreNames p.names → IsKind p k b
    → marked p (place_in (in_byte_order p.names) p.names k) ≡ b
kind_moved p k b are is =
    let slots : List (List ℕ) = in_byte_order p.names in
    let new : ℕ = place_in slots p.names k in
    let (n, at) = filled p.names k is.within in
    let there : slice_get slots new ≡ Some n = in_order p.names are k n at in
    let within : nat_lt new (length slots) ≡ true = lt-ltb new (length slots) (slice_get_within slots new n there) in
    let back : place_in p.names slots new ≡ k = placed p.names slots k new n are.apart there at in
    ap (λ (b : Bool). b && kind_in p new) within ∙ ap (kind_at p) back ∙ is.kind

-- the bundles of what was read are marked
pub read_marks : (settings : Configuration) (version : ℕ) (items : Items) (r : Progress × Sequence)
    → ReadSequence settings version 16 start items r
    → Marks version (marked r.0) (numbered (λ k. place_in (in_byte_order r.0.names) r.0.names k) r.1)
read_marks settings version items r s =
    numbered_ways (IsBundle version r.0) (IsPlain r.0) (λ k. (marked r.0 k ≡ true) × (version ≡ 2))
    (λ k. marked r.0 k ≡ false) (λ k. place_in (in_byte_order r.0.names) r.0.names k)
    (λ k h. (kind_moved r.0 k true s.slots.names h.0, h.1)) (λ k h. kind_moved r.0 k false s.slots.names h) r.1 s.ways

-- what was read keeps the rules of a plan
pub read_is_plan : (settings : Configuration) (version : ℕ) (items : Items) (r : Progress × Sequence)
    → IsConfiguration settings → (version ≡ 1) ⊎ (version ≡ 2) → ReadSequence settings version 16 start items r
    → IsPlan (plan_of settings version r)
read_is_plan settings version items r within known s =
    let names : List (List ℕ) = r.0.names in
    let slots : List (List ℕ) = in_byte_order names in
    let new : ℕ → ℕ = λ k. place_in slots names k in
    let are : AreNames names = s.slots.names in
    let long : length slots ≡ length names = order_length names in
    let regions : length (map (λ (q : NamedRegion). q.extent) settings.regions) ≡ length settings.regions =
    length-map settings.regions (λ (q : NamedRegion). q.extent) in
    let below : (k : ℕ) → k < length names → new k < length slots = λ k h. let (n, is) = filled names k h in
    slice_get_within slots (new k) n (in_order names are k n is) in
    let marks = read_marks settings version items r s in
    record {
      version = known;
      layout = layout_is settings within;
      count = omega (arith, long, are.few);
      names = all_of (λ (n : List ℕ). IsTrue (is_slot_name n)) slots (λ n h. are.form n (order_from names n h));
      order = rises_pairs slots (order_rises names are.apart);
      used = slots_used settings version items r s;
      unmixed = marks_apart version (marked r.0) (numbered new r.1) marks;
      plain = marks_none version (marked r.0) (numbered new r.1) marks;
      body = record {
        parts =
            subst (λ (m : ℕ). IsSequence (length slots) m (numbered new r.1)) (sym regions)
            (sequence_parts new (length names) (length slots) (length settings.regions) below r.1 s.parts);
        count = let e = sequence_counted new r.1 in omega (arith, e, s.count, s.most);
        depth = let e = sequence_deep new r.1 in omega (arith, e, s.depth);
      };
    }

-- the statements that are read keep the rules, and spell what they are read from
pub body_found : (settings : Configuration) (version : ℕ) (items : Items) (r : Progress × Sequence)
    → sequence_from (statement_at version (region_named settings) 16) skip start items ≡ Ok r
    → ReadSequence settings version 16 start items r
body_found settings version items r e =
    whole_found settings version 16 (statement_at version (region_named settings) 16)
    (statement_found settings version 16) items start r start_slots (omega arith) e

-- what the reading of the statements gives makes a plan
pub sequence_is_plan : (settings : Configuration) (version : ℕ) (items : Items) (r : Progress × Sequence)
    → IsConfiguration settings → (version ≡ 1) ⊎ (version ≡ 2)
    → sequence_from (statement_at version (region_named settings) 16) skip start items ≡ Ok r
    → IsPlan (plan_of settings version r)
sequence_is_plan settings version items r within known e =
    read_is_plan settings version items r within known (body_found settings version items r e)

-- and a table that marks the slots that were read as bundles says which slots the plan uses as bundles
pub sequence_table : (settings : Configuration) (version : ℕ) (items : Items) (r : Progress × Sequence)
    → IsConfiguration settings → (version ≡ 1) ⊎ (version ≡ 2)
    → sequence_from (statement_at version (region_named settings) 16) skip start items ≡ Ok r
    → (table : List Bool)
    → ((k : ℕ) → k < length (in_byte_order r.0.names) → slice_index_or table k false ≡ kind_in r.0 k)
    → ((k : ℕ) → length (in_byte_order r.0.names) ≤ k → slice_index_or table k false ≡ false)
    → (k : ℕ) → slice_index_or table k false ≡ uses_bundle (plan_of settings version r).body k
sequence_table settings version items r within known e table slots past =
    let s = body_found settings version items r e in
    let size : ℕ = length (in_byte_order r.0.names) in
    let same : (k : ℕ) → marked r.0 k ≡ slice_index_or table k false = λ k. elim (cases_lt k size)
    as (λ _. marked r.0 k ≡ slice_index_or table k false) [
      | inl below ↦ ap (λ (b : Bool). b && kind_in r.0 k) (lt-ltb k size below) ∙ sym (slots k below)
      | inr above ↦ ap (λ (b : Bool). b && kind_in r.0 k) (le-ltb k size above) ∙ sym (past k above)
    ] in
    λ k. sym (same k) ∙ marks_are version (marked r.0) size (plan_of settings version r).body
    (read_marks settings version items r s) (read_is_plan settings version items r within known s).used
    (λ j above. same j ∙ past j above) k

-- the kinds by the first numbers, put in the order of the new ones
pub table_kinds : (p : Progress) (slots names : List (List ℕ)) (kinds table : List Bool) (old : List ℕ) (count : ℕ)
    → names ≡ p.names → slots ≡ in_byte_order names → kinds ≡ p.bundles → count ≡ length slots
    → ((k : ℕ) → slice_index_or old k 0 ≡ place_in names slots k)
    → ((k : ℕ) → k < count → slice_index_or table k false ≡ slice_index_or kinds (slice_index_or old k 0) false)
    → (k : ℕ) → k < length (in_byte_order p.names) → slice_index_or table k false ≡ kind_in p k
table_kinds p slots names kinds table old count en es ek ec numbers made k within =
    let all : slots ≡ in_byte_order p.names = es ∙ ap in_byte_order en in
    let long : length slots ≡ length (in_byte_order p.names) = ap length all in
    made k (omega (arith, within, long, ec)) ∙ ap (λ (j : ℕ). slice_index_or kinds j false) (numbers k)
    ∙ (λ i. slice_index_or (ek i) (place_in (en i) (all i) k) false)
