-- What is spelled by the text is read.
use Rattle.std.proofs.Common.{◌≡◌, ◌⊎◌, inl, inr, ℕ, ◌<◌, Bool, IsTrue, List, [], length, Some, Result, Ok, codes}
use Rattle.std.proofs.Common.{refl, sym, ap, subst, ◌∙◌}
use Rattle.std.proofs.Common.{arith}
use Rattle.std.specs.List.{slice_get}
use Rattle.std.proofs.lemmas.List.{length-map}
use Rattle.std.proofs.lemmas.Option.{slice_get_within, get_or_from_slice_get, same_Some}
use Rattle.serde_json.specs.Data.{Data, number, unsigned, Items}
use Rattle.pp_settings.specs.Layout.{Geometry}
use Rattle.pp_settings.specs.Settings.{NamedRegion, Configuration, region_named, geometry_of}
use Rattle.pp_plan.specs.declared.error.PlanError.{PlanError}
use Rattle.pp_plan.specs.Tree.{Sequence, skip}
use Rattle.pp_plan.specs.Names.{is_slot_name}
use Rattle.pp_plan.specs.Rules.{IsSequence}
use Rattle.pp_plan.specs.Progress.{Progress}
use Rattle.pp_plan.specs.Terms.{Terms, IsPlan}
use Rattle.pp_text.specs.Steps.{Gives}
use Rattle.pp_plan.specs.Numbering.{in_byte_order, place_in, numbered}
use Rattle.pp_plan.specs.Reading.{start, sequence_from, statement_at, as_version, statements_at, plan_of, reading}
use Rattle.pp_plan.specs.Spelling.{Spells, IsText}
use Rattle.pp_plan.specs.Rules.{IsUsed, uses_bundle}
use Rattle.pp_plan.proofs.Places.{Has, has_at, at_has, filled}
use Rattle.pp_plan.proofs.Order.{Rises, rises_apart, pairs_rise, rises_same, order_rises, order_from, order_has}
use Rattle.pp_text.proofs.Keys.{only_again}
use Rattle.pp_plan.specs.Keys.{top_keys}
use Rattle.pp_plan.specs.Refusals.{is_plan_memory}
use Rattle.pp_plan.proofs.Forms.{list_again, value_again}
use Rattle.pp_plan.proofs.Found.{AreNames}
use Rattle.pp_plan.proofs.Numbered.{used_from, used_within, placed}
use Rattle.pp_plan.proofs.Bundles.{plan_ways}
use Rattle.pp_plan.proofs.Plans.{start_slots, body_found}
use Rattle.pp_plan.proofs.Accepting.{IsTop}
use Rattle.pp_plan.proofs.Again.{AreKnown, sequence_again}

version_again : (v : ℕ) → (v ≡ 1) ⊎ (v ≡ 2) → as_version (number (unsigned v)) ≡ Some v
version_again v (inl e) = rw e refl
version_again v (inr e) = rw e refl

top_again : (d : Data) (version : ℕ) (items : Items) → IsTop d version items → statements_at d ≡ Ok (version, items)
unfolding statements_at
top_again d version items top =
    rw (
      only_again top_keys d top.keys,
      list_again (codes "body") 0 d items top.body,
      value_again (codes "version") 0 d (number (unsigned version)) top.version,
      version_again version top.known,
    ) refl

-- the slot names of a plan
slots_of : (t : Terms) → IsPlan t → AreNames t.slots
slots_of t is = record {
  few = is.count;
  form = λ n h.
      let (k, at) = has_at t.slots n h in
      subst (λ (x : List ℕ). IsTrue (is_slot_name x)) (get_or_from_slice_get t.slots k n [] at)
      (is.names k [] (slice_get_within t.slots k n at));
  apart = rises_apart t.slots (pairs_rise t.slots is.order);
}

-- a slot that is used has its name among those that were read
name_read : (t : Terms) (names : List (List ℕ)) (read_body : Sequence) (regions : ℕ) → IsPlan t
    → ((n : List ℕ) → Has names n → Has t.slots n) → IsSequence (length names) regions read_body
    → numbered (λ k. place_in t.slots names k) read_body ≡ t.body
    → ((k : ℕ) → k < length t.slots → IsUsed t.body k) → (n : List ℕ) → Has t.slots n → Has names n
name_read t names read_body regions is within parts same used n h =
    let apart = rises_apart t.slots (pairs_rise t.slots is.order) in
    let (k, at) = has_at t.slots n h in
    let new : ℕ → ℕ = λ j. place_in t.slots names j in
    let (j, uses, e) =
    used_from new read_body k (subst (λ (b : Sequence). IsUsed b k) (sym same)
    (used k (slice_get_within t.slots k n at))) in
    let (m, there) = filled names j (used_within (length names) regions read_body j parts uses) in
    let (i, stands) = has_at t.slots m (within m (at_has names j m there)) in
    let moved : k ≡ i = sym e ∙ placed t.slots names i j m apart there stands in
    let named : n ≡ m = same_Some n m (sym at ∙ ap (λ (x : ℕ). slice_get t.slots x) moved ∙ stands) in
    subst (λ (x : List ℕ). Has names x) (sym named) (at_has names j m there)

-- two plans are the same by their parts
same_plan : (settings : Configuration) (r : Progress × Sequence) (t : Terms) → t.layout ≡ geometry_of settings
    → in_byte_order r.0.names ≡ t.slots → numbered (λ k. place_in t.slots r.0.names k) r.1 ≡ t.body
    → plan_of settings t.version r ≡ t
same_plan settings r t layout slots body =
    let whole : numbered (λ k. place_in (in_byte_order r.0.names) r.0.names k) r.1 ≡ t.body =
    ap (λ (xs : List (List ℕ)). numbered (λ k. place_in xs r.0.names k) r.1) slots ∙ body in
    let back : geometry_of settings ≡ t.layout = sym layout in
    λ i. record { version = t.version; layout = back i; slots = slots i; body = whole i }

start_known : (slots : List (List ℕ)) (kind : ℕ → Bool) → AreKnown slots kind start
start_known slots kind = record { within = λ n h. absurd h; kinds = λ k j n at there. absurd cc }

pub body_again : (settings : Configuration) (d : Data) (t : Terms) → Spells settings d t → IsPlan t
    → (items : Items) × IsTop d t.version items
    × ((r : Progress × Sequence)
    × (sequence_from (statement_at t.version (region_named settings) 16) skip start items ≡ Ok r)
    × (plan_of settings t.version r ≡ t))
body_again settings d t s is =
    let (ds, held, spelled) = s.body in
    let regions : length t.layout.extents ≡ length settings.regions = ap (λ (g : Geometry). length g.extents) s.layout
    ∙ length-map settings.regions (λ (q : NamedRegion). q.extent) in
    let parts : IsSequence (length t.slots) (length settings.regions) t.body =
    subst (λ (m : ℕ). IsSequence (length t.slots) m t.body) regions is.body.parts in
    let up : Rises t.slots = pairs_rise t.slots is.order in
    let (r, e, a) =
    sequence_again settings t.version t.slots (uses_bundle t.body) up (slots_of t is) t.body 16 ds skip start
    start_slots (start_known t.slots (uses_bundle t.body)) (omega (arith, is.body.count)) parts is.body.depth spelled
    (plan_ways t.version t.body is.version is.unmixed is.plain) in
    let found = body_found settings t.version ds r e in
    let same : numbered (λ k. place_in t.slots r.0.names k) r.1 ≡ t.body = a.same r.0.names (λ j n w. w) in
    let within = a.known.within in
    let back = name_read t r.0.names r.1 (length settings.regions) is within found.parts same is.used in
    let slots : in_byte_order r.0.names ≡ t.slots =
    rises_same (in_byte_order r.0.names) t.slots (order_rises r.0.names a.read.names.apart) up
    (λ n h. within n (order_from r.0.names n h)) (λ n h. order_has r.0.names n (back n h)) in
    let whole = same_plan settings r t s.layout slots same in
    (ds, record { keys = s.keys; version = s.version; known = is.version; body = held }, (r, e, whole))

-- What is spelled so, and keeps the rules, is read.
pub reading_only : (settings : Configuration) (text : List ℕ) (t : Terms) → IsText settings text t
    → reading settings text ≡ Ok t
unfolding reading
reading_only settings text t (d, parsed, s, is) =
    let (items, top, (r, e, same)) = body_again settings d t s is in
    rw (parsed, top_again d t.version items top, e) (ap (λ (u : Terms). Ok u) same)

pub is_only : (settings : Configuration) (text : List ℕ) (r : Result Terms PlanError) (t : Terms)
    → Gives is_plan_memory (λ (u : Terms). u) r (reading settings text) → IsText settings text t
    → Gives is_plan_memory (λ (u : Terms). u) r (Ok t)
is_only settings text r t gives spelled =
    subst (λ (x : Result Terms PlanError). Gives is_plan_memory (λ (u : Terms). u) r x)
    (reading_only settings text t spelled) gives
