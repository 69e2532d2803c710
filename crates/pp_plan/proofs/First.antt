-- The refusal that reading gives is the first fault in the order.
use Rattle.std.proofs.Common.{◌≡◌, ◌≢◌, ◌⊎◌, inl, inr, ℕ, zero, suc, ◌+◌, ◌-◌, ◌<◌, ◌≤◌, Bool, List, [], length, IfOk}
use Rattle.std.proofs.Common.{IfErr, Option, Some, None, Result, Ok, Err, codes, refl, sym, ap, subst, ◌∙◌, arith}
use Rattle.std.specs.Option.{ok_or, option_map_or, unwrap_or, option_and_then}
use Rattle.std.specs.List.{slice_get, flat_map}
use Rattle.std.proofs.lemmas.Bool.{cases_lt}
use Rattle.std.proofs.lemmas.Option.{slice_get_past, slice_get_within}
use Rattle.serde_json.specs.Data.{Data, number, unsigned, array, Items}
use Rattle.serde_json.specs.Read.{read}
use Rattle.pp_settings.specs.Settings.{Configuration, region_named}
use Rattle.pp_plan.specs.declared.error.PlanError.{PlanError}
use Rattle.pp_plan.specs.declared.error.PlanError.TheVariants.{NotJson, WrongField, Range, OutOfMemory}
use Rattle.pp_plan.specs.Tree.{Sequence, skip}
use Rattle.pp_plan.specs.Progress.{Progress}
use Rattle.pp_plan.specs.Terms.{Terms}
use Rattle.pp_text.specs.Steps.{◌>>=◌, must, Refuses, Gives}
use Rattle.pp_plan.specs.Shapes.{value_at, list_at}
use Rattle.pp_plan.specs.Reading.{start, sequence_from, statement_at, statements_at, plan_of, reading, as_version}
use Rattle.pp_text.specs.Objects.{has_only_keys, Holds, elements}
use Rattle.pp_plan.specs.Keys.{top_keys}
use Rattle.pp_plan.specs.Refusals.{is_plan_memory}
use Rattle.pp_plan.specs.Faults.{Written, listed, statements_in, statements_of, Cause, one_too_many, too_deep}
use Rattle.pp_plan.specs.Faults.{no_kind, other_form, bad_name, no_region, out_of_range, name_too_many, Fault}
use Rattle.pp_plan.specs.Faults.{not_json, other_top, other_version, in_statement, IsTopForm, HasFault, at_statements}
use Rattle.pp_plan.specs.Faults.{TellsFirst, mixed, HasVersion, version_of}
use Rattle.pp_text.proofs.Steps.{bind_ok, must_ok, ok_or_ok, ok_is}
use Rattle.pp_text.proofs.Keys.{only_found, only_again}
use Rattle.pp_plan.proofs.Forms.{list_found, list_again, value_found, value_again, none_some}
use Rattle.pp_plan.proofs.Found.{next}
use Rattle.pp_plan.proofs.Accepting.{top_found, IsTop}
use Rattle.pp_plan.proofs.Causes.{err_is, ok_err, FailsAs, must_fails, value_fails, list_fails, or_fails}
use Rattle.pp_plan.proofs.Plans.{start_slots}
use Rattle.serde_json.specs.Find.{as_number, as_u64}
use Rattle.pp_plan.proofs.Told.{rest, Faulty, HasNone, Told, IsAt, Passed, Walked, sequence_walked, statement_walked}

-- ---- steps that fail

-- a step that failed, or one that was passed and the rest that failed
failed : {A B G : Type 0} (r : Result A PlanError) (next : A → Result B PlanError) (e : PlanError)
    → (r >>= next) ≡ Err e → (r ≡ Err e → G) → ((x : A) → r ≡ Ok x → next x ≡ Err e → G) → G
failed (Ok x) next e h refused passed = passed x refl h
failed (Err d) next e h refused passed = let is : d ≡ e = cc in refused (ap (λ f. Err f) is)

fails_is : {A : Type 0} (d e : PlanError) (r : Result A PlanError) → FailsAs d r → r ≡ Err e → d ≡ e
fails_is {A} d e r h is = subst (λ (q : Result A PlanError). FailsAs d q) is h

-- ---- the document

start_at : (settings : Configuration) (doc : Data) → IsAt settings doc start
start_at settings doc =
    record {
      most = omega arith;
      slots = start_slots;
      known = λ k n there. absurd cc;
      all =
          λ b n before. absurd (omega (arith, before.1));
    }

body_walked : (settings : Configuration) (doc : Data) (items : Items) → Holds doc (codes "body") (array items)
    → Walked settings doc (at_statements 0 4097) 0 (statements_of doc)
    (sequence_from (statement_at (version_of doc) (region_named settings) 16) skip start items)
unfolding statements_of
body_walked settings doc items held =
    let all : flat_map (statements_in 17 1) (elements items) ≡ statements_of doc =
    ap (λ (o : Option Data). flat_map (statements_in 17 1) (option_map_or listed o [])) (sym held) in
    subst (λ (ss : List Written). Walked settings doc (at_statements 0 4097) 0 ss
    (sequence_from (statement_at (version_of doc) (region_named settings) 16) skip start items)) all (
    sequence_walked settings doc (statement_at (version_of doc) (region_named settings) 16) (statements_in 17 1)
    (statement_walked settings doc 16 1 (omega arith)) items skip start (start_at settings doc)
    (λ k s is. ap (λ (ss : List Written). slice_get ss (0 + k)) (sym all)
    ∙ ap (slice_get (flat_map (statements_in 17 1) (elements items))) (omega arith) ∙ is))

body_first : (settings : Configuration) (doc : Data) (items : Items) (e : PlanError)
    → Holds doc (codes "body") (array items)
    → sequence_from (statement_at (version_of doc) (region_named settings) 16) skip start items ≡ Err e
    → Told settings doc (at_statements 0 4097) (Some e)
body_first settings doc items e held h =
    subst (λ (r : Result (Progress × Sequence) PlanError). Walked settings doc (at_statements 0 4097) 0
    (statements_of doc) r) h (body_walked settings doc items held)

-- past the last statement there is no fault
none_past : (settings : Configuration) (doc : Data) (n m : ℕ) → length (statements_of doc) ≤ n
    → HasNone settings doc (at_statements n m)
unfolding at_statements
none_past settings doc n zero past = tt
none_past settings doc n (suc m) past =
    let absent : (c : Cause) → ¬ Faulty settings doc (in_statement n c) =
    λ c f. none_some (slice_get (statements_of doc) n) f.0 (slice_get_past (statements_of doc) n past) f.1 in (
      absent one_too_many,
      (
        absent too_deep,
        (
          absent no_kind,
          (
            absent other_form,
            (
              absent bad_name,
              (
                absent no_region,
                (
                  absent out_of_range,
                  (absent name_too_many, (absent mixed, none_past settings doc (n + 1) m (omega (arith, past)))),
                ),
              ),
            ),
          ),
        ),
      ),
    )

-- a fault of these that the document doesn't have
none_of : (settings : Configuration) (doc : Data) (n k m : ℕ) (c : Cause) → n ≤ k → k < n + m
    → HasNone settings doc (at_statements n m) → ¬ Faulty settings doc (in_statement k c)
unfolding at_statements
none_of settings doc n k zero c low high clear f = omega (arith, low, high)
none_of settings doc n k (suc m) c low high clear f = by (cases_lt n k) (none_of settings doc (n + 1) k m c)
  where
    here : (c : Cause) → ¬ Faulty settings doc (in_statement n c)
    here one_too_many = clear.0
    here too_deep = clear.1.0
    here no_kind = clear.1.1.0
    here other_form = clear.1.1.1.0
    here bad_name = clear.1.1.1.1.0
    here no_region = clear.1.1.1.1.1.0
    here out_of_range = clear.1.1.1.1.1.1.0
    here name_too_many = clear.1.1.1.1.1.1.1.0
    here mixed = clear.1.1.1.1.1.1.1.1.0

    by : (n < k) ⊎ (k ≤ n) → (n + 1 ≤ k → k < n + 1 + m → HasNone settings doc (at_statements (n + 1) m)
        → ¬ Faulty settings doc (in_statement k c)) → ⊥
    by (inl later) more = more (omega (arith, later)) (omega (arith, high)) clear.1.1.1.1.1.1.1.1.1 f
    by (inr same) more = let e : k ≡ n = omega (arith, low, same) in
        here c (subst (λ (j : ℕ). Faulty settings doc (in_statement j c)) e f)

-- statements that were read have no fault
body_clear : (settings : Configuration) (doc : Data) (items : Items) (r : Progress × Sequence)
    → Holds doc (codes "body") (array items)
    → sequence_from (statement_at (version_of doc) (region_named settings) 16) skip start items ≡ Ok r → (n : ℕ) (c : Cause)
    → ¬ Faulty settings doc (in_statement n c)
body_clear settings doc items r held h n c f =
    let w : Passed settings doc (at_statements 0 4097) 0 (statements_of doc) r.0 =
    subst (λ (q : Result (Progress × Sequence) PlanError). Walked settings doc (at_statements 0 4097) 0
    (statements_of doc) q) h (body_walked settings doc items held) in
    let past : Told settings doc (rest r.0.count) None =
    record { told = none_past settings doc r.0.count (4097 - r.0.count) (omega (arith, w.count)) } in
    let within : n < length (statements_of doc) = slice_get_within (statements_of doc) n f.0 f.1 in
    none_of settings doc 0 n 4097 c (omega arith) (omega (arith, within, w.count, w.at.most)) (w.more None past).told f

-- ---- the top

version_read : (d v : Data) (n : ℕ) → value_at (codes "version") 0 d ≡ Ok v → Holds d (codes "version") (number (unsigned n))
    → v ≡ number (unsigned n)
version_read d v n there held =
    ok_is v (number (unsigned n)) (sym there ∙ value_again (codes "version") 0 d (number (unsigned n)) held)

-- a version that isn't read is none
no_version : (d v : Data) (e : PlanError) → value_at (codes "version") 0 d ≡ Ok v
    → ok_or (as_version v) (Range 0) ≡ Err e → ¬ HasVersion d
no_version d v e there bad (inl held) =
    ok_err _ 1 e (ap (λ (w : Data). ok_or (as_version w) (Range 0)) (version_read d v 1 there held)) bad
no_version d v e there bad (inr held) =
    ok_err _ 2 e (ap (λ (w : Data). ok_or (as_version w) (Range 0)) (version_read d v 2 there held)) bad

-- a top that is refused
top_refused : (d : Data) (e : PlanError) → statements_at d ≡ Err e
    → ((WrongField 0 ≡ e) × ¬ IsTopForm d) ⊎ (IsTopForm d × (Range 0 ≡ e) × ¬ HasVersion d)
unfolding statements_at
top_refused d e h =
    failed (must (has_only_keys top_keys d) (WrongField 0)) _ e h
    (λ bad. inl (
      fails_is (WrongField 0) e _ (must_fails (has_only_keys top_keys d) (WrongField 0)) bad,
      λ form. ok_err _ tt e (ap (λ (b : Bool). must b (WrongField 0)) (only_again top_keys d form.0)) bad,
    ))
    (λ x only h1.
    failed (list_at (codes "body") 0 d) _ e h1
    (λ bad. inl (
      fails_is (WrongField 0) e _ (list_fails (codes "body") 0 d) bad,
      λ form. ok_err _ form.1.0 e (list_again (codes "body") 0 d form.1.0 form.1.1) bad,
    ))
    (λ ds stands h2.
    failed (value_at (codes "version") 0 d) _ e h2
    (λ bad. inl (
      fails_is (WrongField 0) e _ (value_fails (codes "version") 0 d) bad,
      λ form. ok_err _ form.2.0 e (value_again (codes "version") 0 d form.2.0 form.2.1) bad,
    ))
    (λ v there h3.
    failed (ok_or (as_version v) (Range 0)) _ e h3
    (λ bad.
    inr (
      (
        only_found top_keys d (must_ok (has_only_keys top_keys d) (WrongField 0) x only),
        (ds, list_found (codes "body") 0 d ds stands),
        (v, value_found (codes "version") 0 d v there),
      ),
      fails_is (Range 0) e _ (or_fails (as_version v) (Range 0)) bad,
      no_version d v e there bad,
    ))
    (λ version is h4. absurd cc))))

-- what is known of a top that is read
top_form : (d : Data) (version : ℕ) (items : Items) → IsTop d version items → IsTopForm d
top_form d version items top = (top.keys, (items, top.body), (number (unsigned version), top.version))

top_version : (d : Data) (version : ℕ) (items : Items) → IsTop d version items → HasVersion d
top_version d version items top =
    elim top.known as (λ _. HasVersion d) [
      | inl one ↦ inl (subst (λ (n : ℕ). Holds d (codes "version") (number (unsigned n))) one top.version)
      | inr two ↦ inr (subst (λ (n : ℕ). Holds d (codes "version") (number (unsigned n))) two top.version)
    ]

top_is : (d : Data) (version : ℕ) (items : Items) → IsTop d version items → version ≡ version_of d
top_is d version items top =
    sym (ap (λ (o : Option Data). unwrap_or (option_and_then as_u64 (option_and_then as_number o)) 0) top.version)

-- ---- the whole

-- the plan of a document whose top is read
abbrev planned : Configuration → ℕ × Items → Result Terms PlanError
planned settings top =
    sequence_from (statement_at top.0 (region_named settings) 16) skip start top.1 >>= λ r. Ok
    (plan_of settings top.0 r)

-- its statements, by the version that stands in it
by_version : (settings : Configuration) (d : Data) (top : ℕ × Items)
    (made : Result (Progress × Sequence) PlanError) → IsTop d top.0 top.1
    → sequence_from (statement_at top.0 (region_named settings) 16) skip start top.1 ≡ made
    → sequence_from (statement_at (version_of d) (region_named settings) 16) skip start top.1 ≡ made
by_version settings d top made is e =
    subst (λ (v : ℕ). sequence_from (statement_at v (region_named settings) 16) skip start top.1 ≡ made)
    (top_is d top.0 top.1 is) e

document_first : (settings : Configuration) (d : Data) (e : PlanError)
    → (statements_at d >>= planned settings) ≡ Err e → TellsFirst settings (Some d) e
document_first settings d e h =
    failed (statements_at d) (planned settings) e h
    (λ bad. elim (top_refused d e bad) [
      | inl top ↦ (other_top, top.0, inr (λ x. x, inl (refl, top.1)))
      | inr version ↦ (
        other_version,
        version.1,
        inr (λ x. x, inr (λ missing. missing version.0, inl (refl, version.2))),
      )
    ])
    (λ head stands h1.
    let top = top_found d head stands in
    failed (sequence_from (statement_at head.0 (region_named settings) 16) skip start head.1) _ e h1
    (λ bad.
    let (f, is, first) = (body_first settings d head.1 e top.body (by_version settings d head (Err e) top bad)).told in (
      f,
      is,
      inr (
        λ x. x,
        inr (
          λ missing. missing (top_form d head.0 head.1 top),
          inr (λ other. other (top_version d head.0 head.1 top), first),
        ),
      ),
    ))
    (λ r made h2. absurd cc))

document_clear : (settings : Configuration) (d : Data) (head : ℕ × Items) (r : Progress × Sequence)
    → statements_at d ≡ Ok head
    → sequence_from (statement_at head.0 (region_named settings) 16) skip start head.1 ≡ Ok r
    → (f : Fault) → ¬ HasFault settings (Some d) f
document_clear settings d head r stands made not_json has = has
document_clear settings d head r stands made other_top has =
    has (top_form d head.0 head.1 (top_found d head stands))
document_clear settings d head r stands made other_version has =
    has (top_version d head.0 head.1 (top_found d head stands))
document_clear settings d head r stands made (in_statement n c) has =
    let top = top_found d head stands in
    body_clear settings d head.1 r top.body (by_version settings d head (Ok r) top made) n c has

text_clear : (settings : Configuration) (text : List ℕ) (t : Terms) → reading settings text ≡ Ok t → (f : Fault)
    → ¬ HasFault settings (read text) f
unfolding reading
text_clear settings text t e f has =
    let (d, parsed, e1) = bind_ok (ok_or (read text) NotJson) _ t e in
    let (head, stands, e2) = bind_ok (statements_at d) _ t e1 in
    let (r, made, _) =
    bind_ok (sequence_from (statement_at head.0 (region_named settings) 16) skip start head.1) _ t e2 in
    document_clear settings d head r stands made f
    (subst (λ (o : Option Data). HasFault settings o f) (ok_or_ok (read text) NotJson d parsed) has)

text_first : (settings : Configuration) (text : List ℕ) (e : PlanError) → reading settings text ≡ Err e
    → TellsFirst settings (read text) e
unfolding reading
text_first settings text e h = by (read text) h
  where
    by : (o : Option Data) → (ok_or o NotJson >>= λ d. statements_at d >>= planned settings) ≡ Err e
        → TellsFirst settings o e
    by None h = (not_json, err_is NotJson e h, inl (refl, tt))
    by (Some d) h = document_first settings d e h

-- what is told is the first fault, unless memory ran out
told_first : (settings : Configuration) (text : List ℕ) (e : PlanError) → e ≢ OutOfMemory
    → Refuses {Y = Terms} (is_plan_memory e) e (reading settings text) → TellsFirst settings (read text) e
told_first settings text OutOfMemory other h = absurd (other refl)
told_first settings text e other h = text_first settings text e h

pub refused_first : (settings : Configuration) (text : List ℕ) (r : Result Terms PlanError)
    → Gives is_plan_memory (λ (t : Terms). t) r (reading settings text)
    → IfErr r (λ e. e ≢ OutOfMemory → TellsFirst settings (read text) e)
refused_first settings text (Ok t) gives = tt
refused_first settings text (Err e) gives = λ other. told_first settings text e other gives

pub accepted_clear : (settings : Configuration) (text : List ℕ) (r : Result Terms PlanError)
    → Gives is_plan_memory (λ (t : Terms). t) r (reading settings text)
    → IfOk r (λ t. (f : Fault) → ¬ HasFault settings (read text) f)
accepted_clear settings text (Ok t) gives = text_clear settings text t gives
accepted_clear settings text (Err e) gives = tt
