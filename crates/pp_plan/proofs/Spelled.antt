-- The value that is written spells the plan, so reading gives the plan again.
use Rattle.std.proofs.Common.{◌≡◌, ℕ, ◌<◌, ◌≤◌, List, [], length, get_or, Some, refl, sym, ap, subst}
use Rattle.std.proofs.Common.{◌∙◌, arith}
use Rattle.std.specs.Prelude.{Ok, slice_get}
use Rattle.std.specs.Str.{bytes_eq}
use Rattle.std.proofs.lemmas.List.{length-map}
use Rattle.std.proofs.lemmas.Option.{slice_get-get_or, unwrap_or-slice_get}
use Rattle.std.proofs.lemmas.Slice.Eq.{bytes_eq-Decides}
use Rattle.serde_json.specs.Data.{Data, object, depth}
use Rattle.serde_json.specs.Read.{read}
use Rattle.serde_json.specs.View.{items_of}
use Rattle.pp_text.proofs.Positions.{position_only, same_text}
use Rattle.pp_settings.specs.Layout.{Geometry}
use Rattle.pp_settings.specs.Settings.{NamedRegion, Configuration, IsConfiguration, region_named, geometry_of}
use Rattle.pp_plan.specs.Tree.{Step, fix, unfix, latch, unlatch, gather, scatter, Statement, step, loop, choice}
use Rattle.pp_plan.specs.Tree.{Sequence, skip, andthen}
use Rattle.pp_plan.specs.Tree.{Alternatives, none, either}
use Rattle.pp_plan.specs.Rules.{IsStep, IsStatement, IsSequence, AreAlternatives}
use Rattle.pp_plan.specs.Terms.{Terms, IsPlan}
use Rattle.pp_plan.specs.Reading.{reading}
use Rattle.pp_plan.specs.Spelling.{SpellsStep, SpellsStatement, SpellsSequence, SpellsAlternatives, Spells}
use Rattle.pp_plan.specs.Writing.{slot_name, region_name}
use Rattle.pp_plan.specs.Values.{step_value, statement_value, statement_values, branch_values, plan_members}
use Rattle.pp_plan.proofs.Only.{reading_only}
use Rattle.pp_plan.proofs.Written.{nameless, region_at, few_levels}

-- ---- names

slot_at : (slots : List (List ℕ)) (k : ℕ) → k < length slots → slice_get slots k ≡ Some (slot_name slots k)
slot_at slots k within = slice_get-get_or slots k [] within
    ∙ ap (λ (n : List ℕ). Some n) (sym (unwrap_or-slice_get slots k []))

-- The name of a region gives its number again.
pub region_named_again : (c : Configuration) → IsConfiguration c → (r : ℕ) → r < length c.regions
    → region_named c (region_name c r) ≡ Some r
region_named_again c settings r within =
    let at = region_at c r within in
    position_only (λ q. bytes_eq q.name (region_name c r)) c.regions r nameless within
    ((bytes_eq-Decides (get_or c.regions r nameless).name (region_name c r)).1 (sym at))
    (λ k below same. settings.regions.names k r nameless below within
    (same_text (get_or c.regions k nameless).name (region_name c r) same ∙ at))

-- ---- the value of each statement

step_spelled : (c : Configuration) (ss : List (List ℕ)) → IsConfiguration c → (s : Step)
    → IsStep (length ss) (length c.regions) s → SpellsStep c ss (step_value c ss s) s
step_spelled c ss settings (fix k r) (within, there) = (
  (_, refl, ((0, omega arith, refl), ((1, omega arith, refl), tt))),
  (slot_name ss k, refl, slot_at ss k within),
  (region_name c r, refl, region_named_again c settings r there),
)
step_spelled c ss settings (unfix k) within =
    ((_, refl, ((0, omega arith, refl), tt)), (slot_name ss k, refl, slot_at ss k within))
step_spelled c ss settings (latch k m) within = (
  (_, refl, ((0, omega arith, refl), ((1, omega arith, refl), tt))),
  (slot_name ss k, refl, slot_at ss k within),
  refl,
)
step_spelled c ss settings (unlatch k) within =
    ((_, refl, ((0, omega arith, refl), tt)), (slot_name ss k, refl, slot_at ss k within))
step_spelled c ss settings (gather k r) (within, there) = (
  (_, refl, ((0, omega arith, refl), ((1, omega arith, refl), tt))),
  (slot_name ss k, refl, slot_at ss k within),
  (region_name c r, refl, region_named_again c settings r there),
)
step_spelled c ss settings (scatter k) within =
    ((_, refl, ((0, omega arith, refl), tt)), (slot_name ss k, refl, slot_at ss k within))

mutual
  statement_spelled : (c : Configuration) (ss : List (List ℕ)) → IsConfiguration c → (s : Statement)
      → IsStatement (length ss) (length c.regions) s → SpellsStatement c ss (statement_value c ss s) s
  statement_spelled c ss settings (step s) keeps = step_spelled c ss settings s keeps
  statement_spelled c ss settings (loop n b) keeps = (
    (_, refl, ((1, omega arith, refl), ((0, omega arith, refl), tt))),
    refl,
    (items_of (statement_values c ss b), refl, sequence_spelled c ss settings b keeps.3),
  )
  statement_spelled c ss settings (choice bs) keeps = (
    (_, refl, ((0, omega arith, refl), tt)),
    (items_of (branch_values c ss bs), refl, branches_spelled c ss settings bs keeps.2),
  )

  sequence_spelled : (c : Configuration) (ss : List (List ℕ)) → IsConfiguration c → (b : Sequence)
      → IsSequence (length ss) (length c.regions) b → SpellsSequence c ss (items_of (statement_values c ss b)) b
  sequence_spelled c ss settings skip keeps = tt
  sequence_spelled c ss settings (andthen s b) keeps =
      (statement_spelled c ss settings s keeps.0, sequence_spelled c ss settings b keeps.1)

  branches_spelled : (c : Configuration) (ss : List (List ℕ)) → IsConfiguration c → (bs : Alternatives)
      → AreAlternatives (length ss) (length c.regions) bs
      → SpellsAlternatives c ss (items_of (branch_values c ss bs)) bs
  branches_spelled c ss settings none keeps = tt
  branches_spelled c ss settings (either b bs) keeps = (
    (items_of (statement_values c ss b), refl, sequence_spelled c ss settings b keeps.0),
    branches_spelled c ss settings bs keeps.1,
  )

-- ---- the whole

-- The statements keep the rules under the settings too, whose layout is the plan's.
pub keeps_rules : (c : Configuration) (t : Terms) → IsPlan t → t.layout ≡ geometry_of c
    → IsSequence (length t.slots) (length c.regions) t.body
keeps_rules c t plan layout =
    let regions : length t.layout.extents ≡ length c.regions = ap (λ (g : Geometry). length g.extents) layout
    ∙ length-map c.regions (λ (q : NamedRegion). q.extent) in
    subst (λ (m : ℕ). IsSequence (length t.slots) m t.body) regions plan.body.parts

value_spelled : (c : Configuration) (t : Terms) → IsConfiguration c → IsPlan t → t.layout ≡ geometry_of c
    → Spells c (object (plan_members c t)) t
value_spelled c t settings plan layout = record {
  keys = (_, refl, ((0, omega arith, refl), ((1, omega arith, refl), tt)));
  version = refl;
  body = (
    items_of (statement_values c t.slots t.body),
    refl,
    sequence_spelled c t.slots settings t.body (keeps_rules c t plan layout),
  );
  layout = layout;
}

-- What the writer gives of the value reads as the plan.
pub reads_as : (c : Configuration) (t : Terms) → IsConfiguration c → IsPlan t → t.layout ≡ geometry_of c
    → (d : Data) (text : List ℕ) → d ≡ object (plan_members c t) → (depth d ≤ 127 → read text ≡ Some d)
    → reading c text ≡ Ok t
reads_as c t settings plan layout d text is parses =
    let within : depth d ≤ 127 = subst (λ (x : Data). depth x ≤ 127) (sym is) (few_levels c t plan) in
    let parsed = parses within ∙ ap (λ (x : Data). Some x) is in
    reading_only c text t (object (plan_members c t), parsed, value_spelled c t settings plan layout, plan)
