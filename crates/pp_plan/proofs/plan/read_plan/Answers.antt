use Rattle.std.proofs.Common.{◌≡◌, ℕ, length, List, String, Global, Ok, map, string_bytes}
use Rattle.std.proofs.Common.{slice_index_or, ap, ◌∙◌, subst, arith}
use Rattle.std.proofs.lemmas.List.{length-map}
use Rattle.serde_json.specs.View.{view, items_view}
use Rattle.pp_settings.specs.Settings.{region_named}
use Rattle.pp_plan.specs.Tree.{skip}
use Rattle.pp_plan.specs.Terms.{Terms, IsPlan}
use Rattle.pp_plan.specs.Rules.{uses_bundle}
use Rattle.pp_plan.specs.Reading.{start, sequence_from, statement_at, statements_at}
use Rattle.pp_plan.specs.Numbering.{in_byte_order, place_in, numbered}
use Rattle.pp_plan.proofs.Accepting.{top_found}
use Rattle.pp_plan.proofs.Plans.{sequence_is_plan, sequence_table, table_kinds}
use Rattle.pp_plan.proofs.Renumbering.{plan_made}
use Rattle.pp_plan.proofs.plan.read_plan.Goals as goal

pub invariant_of-result : goal.invariant_of-result
invariant_of-result c =
    let settings = c.args.settings.now in
    let version = c.in_ok-version.version in
    let items = items_view c.in_ok-version.items.now in
    let slots = map string_bytes c.in_ok-slots.slots.items in
    let names = map string_bytes c.into_names-names.result.items in
    let progress = c.read_body.new.progress in
    let draft = c.in_ok-body.body in
    let top : statements_at (view c.in_ok-value.value) ≡ Ok (version, items) = c.in_ok-version.ensures in
    let known = (top_found (view c.in_ok-value.value) (version, items) top).known in
    let read : sequence_from (statement_at version (region_named settings) 16) skip start items ≡ Ok (progress, draft) =
    rw c.new-progress.ensures at c.in_ok-body.ensures in
    let new : (k : ℕ) → slice_index_or c.new_numbers.result k 0 ≡ place_in slots names k =
    λ k. c.new_numbers.ensures k
    ∙ ap (λ (xs : List (String Global)). place_in (map string_bytes xs) (map string_bytes c.deref-2.result.now) k)
    c.deref.ensures.value
    ∙ ap (λ (xs : List (String Global)). place_in slots (map string_bytes xs) k) c.deref-2.ensures.value in
    let old : (k : ℕ) → slice_index_or c.new_numbers-2.result k 0 ≡ place_in names slots k =
    λ k. c.new_numbers-2.ensures k
    ∙ ap (λ (xs : List (String Global)). place_in (map string_bytes xs) (map string_bytes c.deref-4.result.now) k)
    c.deref-3.ensures.value
    ∙ ap (λ (xs : List (String Global)). place_in names (map string_bytes xs) k) c.deref-4.ensures.value in
    let made : c.renumber.new.body ≡ numbered (place_in slots names) draft =
    c.renumber.ensures ∙ (λ i. numbered (λ k. new k i) draft) in
    let same =
    plan_made settings version progress draft c.renumber.new.body c.layout.result slots names c.layout.ensures.is
    c.into_names-names.ensures.names c.in_ok-slots.ensures.names made in
    let ordered : slots ≡ in_byte_order progress.names = c.in_ok-slots.ensures.names
    ∙ ap in_byte_order c.into_names-names.ensures.names in
    let size : c.len.result ≡ length slots =
    let long = length-map c.in_ok-slots.slots.items string_bytes in omega (arith, long) in
    let within = c.layout.ensures.settings in
    let table =
    sequence_table settings version items (progress, draft) within known read c.new_bundles-bundles.result
    (table_kinds progress slots names c.bundles-bundles.result c.new_bundles-bundles.result c.new_numbers-2.result
    c.len.result c.into_names-names.ensures.names c.in_ok-slots.ensures.names c.bundles-bundles.ensures size old
    c.new_bundles-bundles.ensures.slots)
    (λ k above. let all = ap length ordered in c.new_bundles-bundles.ensures.past k (omega (arith, size, all, above)))
    in
    record {
      plan = subst (λ (t : Terms). IsPlan t) same
          (sequence_is_plan settings version items (progress, draft) within known read);
      bundles = λ k. table k ∙ ap (λ (t : Terms). uses_bundle t.body k) same;
      steps = c.in_ok-steps.ensures;
    }
