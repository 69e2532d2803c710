-- The only kind whose first key a value has.
use Rattle.std.proofs.Common.{◌≡◌, ◌⊎◌, inl, inr, ℕ, Bool, true, false, cond, List, [], ◌∷◌, Option, Some, None}
use Rattle.std.proofs.Common.{is_some, refl, sym, ap, ◌∙◌}
use Rattle.std.specs.List.{filter}
use Rattle.std.proofs.lemmas.Bool.{false≢true, false_from_ne_true, and_parts, and_from, eqb-true}
use Rattle.serde_json.specs.Data.{Data}
use Rattle.serde_json.specs.Find.{get}
use Rattle.pp_plan.specs.declared.kind.Kind.{Kind}
use Rattle.pp_plan.specs.declared.kind.Kind.TheVariants.{Fix, Unfix, Latch, Unlatch, Gather, Scatter, Loop, Choice}
use Rattle.pp_plan.specs.Keys.{first_key, IsKindOf, is_kind_of}
use Rattle.pp_plan.specs.Shapes.{kinds, has_kind, only_one, kind_of}
use Rattle.pp_plan.specs.Faults.{IsOfKind}

-- ---- the kinds of a version

version_has : (version : ℕ) (k : Kind) → is_kind_of version k ≡ true → IsKindOf version k
version_has version Gather e = eqb-true version 2 e
version_has version Scatter e = eqb-true version 2 e
version_has version Fix e = tt
version_has version Unfix e = tt
version_has version Latch e = tt
version_has version Unlatch e = tt
version_has version Loop e = tt
version_has version Choice e = tt

has_version : (version : ℕ) (k : Kind) → IsKindOf version k → is_kind_of version k ≡ true
has_version version Gather e = rw e refl
has_version version Scatter e = rw e refl
has_version version Fix e = refl
has_version version Unfix e = refl
has_version version Latch e = refl
has_version version Unlatch e = refl
has_version version Loop e = refl
has_version version Choice e = refl

-- ---- lists of kinds

-- the kind stands among these
Among : List Kind → Kind → Type 0
Among [] k = ⊥
Among (j ∷ js) k = (j ≡ k) ⊎ Among js k

among_kinds : (k : Kind) → Among kinds k
unfolding Among
among_kinds Fix = inl refl
among_kinds Unfix = inr (inl refl)
among_kinds Latch = inr (inr (inl refl))
among_kinds Unlatch = inr (inr (inr (inl refl)))
among_kinds Gather = inr (inr (inr (inr (inl refl))))
among_kinds Scatter = inr (inr (inr (inr (inr (inl refl)))))
among_kinds Loop = inr (inr (inr (inr (inr (inr (inl refl))))))
among_kinds Choice = inr (inr (inr (inr (inr (inr (inr (inl refl)))))))

passing : (p : Kind → Bool) (k : Kind) → p k ≡ true → (js : List Kind) → Among js k → Among (filter p js) k
unfolding Among
passing p k is [] h = h
passing p k is (j ∷ js) h = by (p j) refl h (passing p k is js)
  where
    by : (b : Bool) → p j ≡ b → (j ≡ k) ⊎ Among js k → (Among js k → Among (filter p js) k)
        → Among (filter p (j ∷ js)) k
    by true e (inl same) rest = rw e (inl same)
    by true e (inr more) rest = rw e (inr (rest more))
    by false e (inl same) rest = absurd (false≢true (sym e ∙ ap p same ∙ is))
    by false e (inr more) rest = rw e (rest more)

passed : (p : Kind → Bool) (js : List Kind) (k : Kind) → Among (filter p js) k → p k ≡ true
unfolding Among
passed p [] k h = absurd h
passed p (j ∷ js) k h = by (p j) refl h (passed p js k)
  where
    by : (b : Bool) → p j ≡ b → Among (cond b (j ∷ filter p js) (filter p js)) k → (Among (filter p js) k → p k ≡ true)
        → p k ≡ true
    by true e (inl same) rest = ap p (sym same) ∙ e
    by true e (inr more) rest = rest more
    by false e h rest = rest h

-- the only one of a list stands in it, and no other does
one_there : (js : List Kind) (k : Kind) → only_one js ≡ Some k → Among js k
unfolding Among
one_there [] k e = absurd cc
one_there (j ∷ []) k e = inl cc
one_there (j ∷ i ∷ js) k e = absurd cc

one_alone : (js : List Kind) (j k : Kind) → only_one js ≡ Some k → Among js j → j ≡ k
unfolding Among
one_alone [] j k e h = absurd h
one_alone (i ∷ []) j k e (inl same) = let is : i ≡ k = cc in sym same ∙ is
one_alone (i ∷ []) j k e (inr more) = absurd more
one_alone (i ∷ h ∷ js) j k e a = absurd cc

-- a kind that passes, where no other does, is the only one
alone : (p : Kind → Bool) (k : Kind) → p k ≡ true → ((j : Kind) → (j ≡ k → ⊥) → p j ≡ false)
    → only_one (filter p kinds) ≡ Some k
alone p Fix is fails =
    rw (
      is,
      fails Unfix (λ e. cc),
      fails Latch (λ e. cc),
      fails Unlatch (λ e. cc),
      fails Gather (λ e. cc),
      fails Scatter (λ e. cc),
      fails Loop (λ e. cc),
      fails Choice (λ e. cc),
    ) refl
alone p Unfix is fails =
    rw (
      is,
      fails Fix (λ e. cc),
      fails Latch (λ e. cc),
      fails Unlatch (λ e. cc),
      fails Gather (λ e. cc),
      fails Scatter (λ e. cc),
      fails Loop (λ e. cc),
      fails Choice (λ e. cc),
    ) refl
alone p Latch is fails =
    rw (
      is,
      fails Fix (λ e. cc),
      fails Unfix (λ e. cc),
      fails Unlatch (λ e. cc),
      fails Gather (λ e. cc),
      fails Scatter (λ e. cc),
      fails Loop (λ e. cc),
      fails Choice (λ e. cc),
    ) refl
alone p Unlatch is fails =
    rw (
      is,
      fails Fix (λ e. cc),
      fails Unfix (λ e. cc),
      fails Latch (λ e. cc),
      fails Gather (λ e. cc),
      fails Scatter (λ e. cc),
      fails Loop (λ e. cc),
      fails Choice (λ e. cc),
    ) refl
alone p Gather is fails =
    rw (
      is,
      fails Fix (λ e. cc),
      fails Unfix (λ e. cc),
      fails Latch (λ e. cc),
      fails Unlatch (λ e. cc),
      fails Scatter (λ e. cc),
      fails Loop (λ e. cc),
      fails Choice (λ e. cc),
    ) refl
alone p Scatter is fails =
    rw (
      is,
      fails Fix (λ e. cc),
      fails Unfix (λ e. cc),
      fails Latch (λ e. cc),
      fails Unlatch (λ e. cc),
      fails Gather (λ e. cc),
      fails Loop (λ e. cc),
      fails Choice (λ e. cc),
    ) refl
alone p Loop is fails =
    rw (
      is,
      fails Fix (λ e. cc),
      fails Unfix (λ e. cc),
      fails Latch (λ e. cc),
      fails Unlatch (λ e. cc),
      fails Gather (λ e. cc),
      fails Scatter (λ e. cc),
      fails Choice (λ e. cc),
    ) refl
alone p Choice is fails =
    rw (
      is,
      fails Fix (λ e. cc),
      fails Unfix (λ e. cc),
      fails Latch (λ e. cc),
      fails Unlatch (λ e. cc),
      fails Gather (λ e. cc),
      fails Scatter (λ e. cc),
      fails Loop (λ e. cc),
    ) refl

-- ---- the kind of a value

some_there : (o : Option Data) → is_some o ≡ true → (v : Data) × (o ≡ Some v)
some_there None e = absurd (false≢true e)
some_there (Some v) e = (v, refl)

pub kind_found : (version : ℕ) (d : Data) (k : Kind) → kind_of version d ≡ Some k → IsOfKind version d k
kind_found version d k e =
    let p : Kind → Bool = has_kind version d in
    let (of, here) =
    and_parts (is_kind_of version k) (is_some (get (first_key k) d))
    (passed p kinds k (one_there (filter p kinds) k e)) in (
      version_has version k of,
      some_there (get (first_key k) d) here,
      λ j v is held. one_alone (filter p kinds) j k e
          (passing p j
          (and_from (is_kind_of version j) (is_some (get (first_key j) d)) (has_version version j is) (ap is_some held))
          kinds (among_kinds j)),
    )

pub kind_again : (version : ℕ) (d : Data) (k : Kind) → IsOfKind version d k → kind_of version d ≡ Some k
kind_again version d k (of, (v, held), only) =
    alone (has_kind version d) k
    (and_from (is_kind_of version k) (is_some (get (first_key k) d)) (has_version version k of) (ap is_some held))
    (λ j other. false_from_ne_true (has_kind version d j)
    (λ is.
    let (has, here) = and_parts (is_kind_of version j) (is_some (get (first_key j) d)) is in
    let (w, there) = some_there (get (first_key j) d) here in
    other (only j w (version_has version j has) there)))
