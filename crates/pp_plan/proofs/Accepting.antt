-- What is read is spelled by the text.
use Rattle.std.proofs.Common.{◌≡◌, ◌⊎◌, inl, inr, ℕ, ◌==◌, ◌||◌, Bool, true, false, List, Some, None, Result, Ok, Err}
use Rattle.std.proofs.Common.{codes, refl, sym, ap, subst, ◌∙◌}
use Rattle.std.specs.Prelude.{IfOk, if◌then◌else◌}
use Rattle.std.specs.Option.{ok_or}
use Rattle.std.proofs.lemmas.Bool.{eqb-true}
use Rattle.serde_json.specs.Data.{Data, null, boolean, number, string, array, object, unsigned, negative, float, Items}
use Rattle.serde_json.specs.Read.{read}
use Rattle.pp_settings.specs.Settings.{Configuration, IsConfiguration, region_named, geometry_of}
use Rattle.pp_plan.specs.declared.error.PlanError.{PlanError}
use Rattle.pp_plan.specs.declared.error.PlanError.TheVariants.{NotJson, WrongField, Range}
use Rattle.pp_plan.specs.Tree.{Sequence, skip}
use Rattle.pp_plan.specs.Progress.{Progress}
use Rattle.pp_plan.specs.Terms.{Terms, IsPlan}
use Rattle.pp_text.specs.Steps.{must, Gives}
use Rattle.pp_text.specs.Objects.{has_only_keys, HasOnly, Holds}
use Rattle.pp_plan.specs.Keys.{top_keys}
use Rattle.pp_plan.specs.Refusals.{is_plan_memory}
use Rattle.pp_plan.specs.Shapes.{value_at, list_at}
use Rattle.pp_plan.specs.Numbering.{in_byte_order, place_in}
use Rattle.pp_plan.specs.Reading.{start, sequence_from, statement_at, as_version, statements_at, plan_of, reading}
use Rattle.pp_plan.specs.Spelling.{Spells, IsText}
use Rattle.pp_text.proofs.Steps.{bind_ok, must_ok, ok_or_ok, ok_is}
use Rattle.pp_text.proofs.Keys.{only_found}
use Rattle.pp_plan.proofs.Forms.{list_found, value_found}
use Rattle.pp_plan.proofs.Found.{ReadSequence}
use Rattle.pp_plan.proofs.Numbered.{moved_sequence}
use Rattle.pp_plan.proofs.Plans.{in_order, read_is_plan, body_found}

-- ---- the top of the text

-- the versions that there are
known_is : (a b : Bool) (n v : ℕ) → (n == 1) ≡ a → (n == 2) ≡ b → (if a || b then Some n else None) ≡ Some v
    → (n ≡ v) × ((v ≡ 1) ⊎ (v ≡ 2))
known_is true b n v one two e = let same : n ≡ v = cc in (same, inl (sym same ∙ eqb-true n 1 one))
known_is false true n v one two e = let same : n ≡ v = cc in (same, inr (sym same ∙ eqb-true n 2 two))
known_is false false n v one two e = absurd cc

version_is : (d : Data) (v : ℕ) → as_version d ≡ Some v → (d ≡ number (unsigned v)) × ((v ≡ 1) ⊎ (v ≡ 2))
version_is (number (unsigned n)) v e =
    let (same, known) = known_is (n == 1) (n == 2) n v refl refl e in
    (ap (λ (k : ℕ). number (unsigned k)) same, known)
version_is (number (negative z)) v e = absurd cc
version_is (number (float x)) v e = absurd cc
version_is null v e = absurd cc
version_is (boolean b) v e = absurd cc
version_is (string s) v e = absurd cc
version_is (array ds) v e = absurd cc
version_is (object ms) v e = absurd cc

-- an object of these two keys, the version 1 or 2
pub record IsTop (d : Data) (n : ℕ) (items : Items) : Type 0 where
  pub keys : HasOnly top_keys d
  pub version : Holds d (codes "version") (number (unsigned n))
  pub known : (n ≡ 1) ⊎ (n ≡ 2)
  pub body : Holds d (codes "body") (array items)

pub top_found : (d : Data) (top : ℕ × Items) → statements_at d ≡ Ok top → IsTop d top.0 top.1
unfolding statements_at
top_found d top e =
    let (x, only, e1) = bind_ok (must (has_only_keys top_keys d) (WrongField 0)) _ top e in
    let (ds, listed, e2) = bind_ok (list_at (codes "body") 0 d) _ top e1 in
    let (v, stands, e3) = bind_ok (value_at (codes "version") 0 d) _ top e2 in
    let (version, is, e4) = bind_ok (ok_or (as_version v) (Range 0)) _ top e3 in
    let (same, known) = version_is v version (ok_or_ok (as_version v) (Range 0) version is) in
    subst (λ (t : ℕ × Items). IsTop d t.0 t.1) (ok_is {A = ℕ × Items} (version, ds) top e4) (record {
      keys = only_found top_keys d (must_ok (has_only_keys top_keys d) (WrongField 0) x only);
      version = value_found (codes "version") 0 d v stands ∙ ap (λ (z : Data). Some z) same;
      known = known;
      body = list_found (codes "body") 0 d ds listed;
    })

-- ---- the plan

pub plan_spelled : (settings : Configuration) (d : Data) (version : ℕ) (items : Items) (r : Progress × Sequence)
    → IsTop d version items → ReadSequence settings version 16 start items r
    → Spells settings d (plan_of settings version r)
plan_spelled settings d version items r top s =
    let names : List (List ℕ) = r.0.names in
    let slots : List (List ℕ) = in_byte_order names in
    let new : ℕ → ℕ = λ k. place_in slots names k in
    record {
      keys = top.keys;
      version = top.version;
      body = (
        items,
        top.body,
        moved_sequence settings new names slots (in_order names s.slots.names) items r.1 s.spelled,
      );
      layout = refl;
    }

-- What is read is spelled so, and keeps the rules.
pub reading_found : (settings : Configuration) → IsConfiguration settings → (text : List ℕ) (t : Terms)
    → reading settings text ≡ Ok t → IsText settings text t
unfolding reading
reading_found settings within text t e =
    let (d, parsed, e1) = bind_ok (ok_or (read text) NotJson) _ t e in
    let (head, stands, e2) = bind_ok (statements_at d) _ t e1 in
    let (r, body, e3) =
    bind_ok (sequence_from (statement_at head.0 (region_named settings) 16) skip start head.1) _ t e2 in
    let top = top_found d head stands in
    let s = body_found settings head.0 head.1 r body in
    let same : plan_of settings head.0 r ≡ t = ok_is (plan_of settings head.0 r) t e3 in (
      d,
      ok_or_ok (read text) NotJson d parsed,
      subst (λ (u : Terms). Spells settings d u) same (plan_spelled settings d head.0 head.1 r top s),
      subst (λ (u : Terms). IsPlan u) same (read_is_plan settings head.0 head.1 r within top.known s),
    )

pub is_found : (settings : Configuration) → (text : List ℕ) (r : Result Terms PlanError)
    → IfOk r (λ _. IsConfiguration settings) → Gives is_plan_memory (λ (t : Terms). t) r (reading settings text)
    → IfOk r (IsText settings text)
is_found settings text (Ok t) within gives = reading_found settings within text t gives
is_found settings text (Err d) within gives = tt

-- What is read has the layout of the settings.
pub has_layout : (settings : Configuration) → (text : List ℕ) (r : Result Terms PlanError)
    → IfOk r (λ _. IsConfiguration settings) → Gives is_plan_memory (λ (t : Terms). t) r (reading settings text)
    → IfOk r (λ t. t.layout ≡ geometry_of settings)
has_layout settings text (Ok t) within gives = let (d, parsed, s, is) = reading_found settings within text t gives in
    s.layout
has_layout settings text (Err d) within gives = tt
