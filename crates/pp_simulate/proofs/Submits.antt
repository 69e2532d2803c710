-- Plans that are taken in in turn.
use Rattle.std.proofs.Common.{◌≡◌, ◌≢◌, ◌≤◌, ◌<◌, ◌+◌, ℕ, List, [], ◌∷◌, ◌++◌, length, take, Option, None, Some}
use Rattle.std.proofs.Common.{Result, Ok, Err, IfErr, IsErrAnd, reverse, refl, sym, ap, subst, ◌∙◌, inl, inr, arith}
use Rattle.std.specs.Prelude.{slice_get}
use Rattle.std.proofs.Common.{append_assoc}
use Rattle.std.proofs.Math.Seq.{take-append_seam}
use Rattle.std.proofs.lemmas.List.{length-append, reverse-append}
use Rattle.pp_settings.specs.declared.span.Span.TheVariants.{Bounded}
use Rattle.pp_cert.specs.Accepted.{Acceptance}
use Rattle.pp_cert.specs.Walk.{same_layout}
use Rattle.pp_core.specs.Limits.{most_kept}
use Rattle.pp_core.specs.Parts as core
use Rattle.pp_core.specs.StandsFor as core_stands
use Rattle.pp_core.specs.Submits.{PreparedFails}
use Rattle.pp_model.proofs.Alone.{submit_leaves}
use Rattle.pp_model.specs.Pool.{Settings, State}
use Rattle.pp_model.specs.Submitting.{after_submit, after_submits, submit_error, submitted, unless_refused}
use Rattle.pp_model.specs.declared.refusals.SubmitError.{SubmitError}
use Rattle.pp_model.specs.declared.refusals.SubmitError.TheVariants.{OtherSettings, TooManyPlans, JournalLimit, NotPrepared}
use Rattle.pp_text.specs.Steps.{◌>>=◌}
use Rattle.pp_vault.specs.Parts.{Parts}
use Rattle.pp_vault.specs.StandsFor.{StandsFor}
use Rattle.pp_vault.specs.Submits.{Prepares, TakesIn, TakesPrepared}
use Rattle.pp_simulate.specs.Simulating.{IsSimulateError, Keeps, TakeFails}
use Rattle.pp_simulate.specs.declared.error.SimulateError.{SimulateError}
use Rattle.pp_simulate.specs.declared.error.SimulateError.TheVariants.{Submit, TooManyPrepared, OutOfMemory}

-- The last that waits is the first in the other order.
pub last_first : (waiting before : List Acceptance) (plan : Acceptance) → waiting ≡ before ++ plan ∷ []
    → reverse waiting ≡ plan ∷ reverse before
last_first waiting before plan is = ap reverse is ∙ reverse-append before (plan ∷ [])

-- ---- one plan

-- The plan behind the others.
get_seam : (xs ys : List Acceptance) (a : Acceptance) → slice_get (xs ++ a ∷ ys) (length xs) ≡ Some a
get_seam [] ys a = refl
get_seam (x ∷ xs) ys a = get_seam xs ys a

-- The plan that was prepared stands at its place.
at_its_place : (old mid : Parts) (a : Acceptance) (place : ℕ) → Prepares old a place mid
    → slice_get mid.core.plans place ≡ Some a
at_its_place old mid a place p =
    ap (λ (k : core.Parts). slice_get k.plans place) p.core.parts
    ∙ ap (slice_get (old.core.plans ++ a ∷ [])) p.core.place
    ∙ get_seam old.core.plans [] a

-- A plan that was prepared and submitted is taken in.
pub prepared_in : (old mid new : Parts) (a b : Acceptance) (place number : ℕ) → Prepares old a place mid
    → TakesPrepared mid place number b new → TakesIn old a number new
prepared_in old mid new a b place number p t =
    let same : b ≡ a = cc (t.core.plan, at_its_place old mid a place p) in
    let takes : TakesIn mid a number new = subst (λ x. TakesIn mid x number new) same t.takes in
    record {
      allowed = λ s st. takes.allowed s (p.stands s st);
      numbered = λ s st. takes.numbered s (p.stands s st);
      stands = λ s st. takes.stands s (p.stands s st);
      rest = takes.rest ∙ ap (λ (v : Parts). record v { core = new.core }) p.rest;
    }

-- Where a plan was prepared and isn't taken in, the model refuses it so.
pub prepared_not : (old mid : Parts) (a : Acceptance) (place : ℕ) (e : SubmitError) → Prepares old a place mid
    → PreparedFails mid.core place e → TakeFails old a (Submit e)
prepared_not old mid a place e p fails = go e fails
  where
    span : mid.core.span ≡ old.core.span
    span = ap (λ (k : core.Parts). k.span) p.core.parts

    refused : (e : SubmitError) (b : Acceptance) → slice_get mid.core.plans place ≡ Some b
        → ((s : State) → core_stands.StandsFor mid.core s → submit_error s b ≡ Some e) → TakeFails old a (Submit e)
    refused e b there told s st =
        let same : b ≡ a = cc (there, at_its_place old mid a place p) in
        subst (λ x. submit_error s x ≡ Some e) same (told s (p.stands s st).core)

    go : (e : SubmitError) → PreparedFails mid.core place e → TakeFails old a (Submit e)
    go OtherSettings (endless, b, there, told) = refused OtherSettings b there told
    go TooManyPlans (endless, b, there, told) = refused TooManyPlans b there told
    go JournalLimit (endless, b, there, told) = refused JournalLimit b there told
    go NotPrepared (inl bounded) = absurd (p.core.endless (sym span ∙ bounded))
    go NotPrepared (inr none) = absurd cc (none, at_its_place old mid a place p)

-- A refusal that is handed on.
pub handed_on : {A : Type 0} (P : SimulateError → Type 0) (r : Result A SimulateError) (e : SimulateError)
    → IsErrAnd r (λ f. f ≡ e) → P e → IfErr r P
handed_on P (Ok x) e same told = absurd same
handed_on P (Err f) e same told = subst P (sym same) told

-- ---- plan by plan

taken_next : (s : State) (plan : Acceptance) (plans : List Acceptance) → submit_error s plan ≡ None
    → after_submits s (plan ∷ plans) ≡ after_submits (after_submit s plan) plans
taken_next s plan plans allowed = rw allowed refl

refused_next : (s : State) (plan : Acceptance) (plans : List Acceptance) (error : SubmitError)
    → submit_error s plan ≡ Some error → after_submits s (plan ∷ plans) ≡ Err error
refused_next s plan plans error refused = rw refused refl

-- Plans behind those that are taken in.
taken_behind : (s : State) (xs ys : List Acceptance) (t : State) → after_submits s xs ≡ Ok t
    → after_submits s (xs ++ ys) ≡ after_submits t ys
taken_behind s [] ys t is = ap (λ r. r >>= λ u. after_submits u ys) is
taken_behind s (x ∷ xs) ys t is = go (submit_error s x) (λ same. taken_behind (submitted s x) xs ys t same) is
  where
    go : (o : Option SubmitError)
        → (after_submits (submitted s x) xs ≡ Ok t → after_submits (submitted s x) (xs ++ ys) ≡ after_submits t ys)
        → (unless_refused o (submitted s x) >>= λ u. after_submits u xs) ≡ Ok t
        → (unless_refused o (submitted s x) >>= λ u. after_submits u (xs ++ ys)) ≡ after_submits t ys
    go None rest is = rest is
    go (Some e) rest is = absurd cc

-- The plans before those that are left are kept, and were taken in.
pub record AreKept (s : State) (plans kept : List Acceptance) (now : State) (left : List Acceptance) : Type 0 where
  pub split : plans ≡ kept ++ left
  pub few : length kept ≤ most_kept s.settings.span
  pub taken : after_submits s kept ≡ Ok now

-- So far the plans before those that are left were taken in. In an endless life they are those that are kept.
pub record SoFar (s : State) (plans : List Acceptance) (v : Parts) (left : List Acceptance) : Type 0 where
  pub now : State
  pub stands : StandsFor v now
  pub same : now.settings ≡ s.settings
  pub leads : after_submits s plans ≡ after_submits now left
  pub kept : s.settings.span ≢ Bounded → AreKept s plans v.core.plans now left

-- The vault has the life of the states.
span_of : (s : State) (plans : List Acceptance) (v : Parts) (left : List Acceptance) (so : SoFar s plans v left)
    → v.core.span ≡ s.settings.span
span_of s plans v left so = so.stands.core.span ∙ ap (λ (k : Settings). k.span) so.same

-- One more was taken in.
pub one_more : (s : State) (plans : List Acceptance) (v w : Parts) (left rest : List Acceptance) (plan : Acceptance)
    (number : ℕ)
    → SoFar s plans v left → left ≡ plan ∷ rest → TakesIn v plan number w → Keeps v plan w → SoFar s plans w rest
one_more s plans v w left rest plan number so is takes keeps =
    let allowed = takes.allowed so.now so.stands in
    let leads : after_submits so.now left ≡ after_submits (after_submit so.now plan) rest =
    ap (after_submits so.now) is ∙ taken_next so.now plan rest allowed in
    record {
      now = after_submit so.now plan;
      stands = takes.stands so.now so.stands;
      same = (submit_leaves so.now plan).1 ∙ so.same;
      leads = so.leads ∙ leads;
      kept = λ endless.
          let now = keeps (λ bounded. endless (sym (span_of s plans v left so) ∙ bounded)) in
          let before = so.kept endless in
          subst (λ kept. AreKept s plans kept (after_submit so.now plan) rest) (sym now.1)
          (record {
            split =
                before.split ∙ ap (λ xs. v.core.plans ++ xs) is
                ∙ sym (append_assoc v.core.plans (plan ∷ []) rest);
            few =
                let long : length (v.core.plans ++ plan ∷ []) ≡ length v.core.plans + 1 =
                length-append v.core.plans (plan ∷ []) in
                let below : length v.core.plans < most_kept s.settings.span =
                subst (λ k. length v.core.plans < most_kept k) (span_of s plans v left so) now.0 in
                omega (arith, long, below);
            taken =
                taken_behind s v.core.plans (plan ∷ []) so.now before.taken
                ∙ taken_next so.now plan [] allowed;
          });
    }

-- The next is refused.
pub not_taken : (s : State) (plans : List Acceptance) (v : Parts) (left rest : List Acceptance) (plan : Acceptance)
    (e : SimulateError)
    → SoFar s plans v left → left ≡ plan ∷ rest → TakeFails v plan e → IsSimulateError s plans e
not_taken s plans v left rest plan (Submit error) so is fails =
    so.leads ∙ ap (after_submits so.now) is ∙ refused_next so.now plan rest error (fails so.now so.stands)
not_taken s plans v left rest plan OutOfMemory so is fails = absurd fails
not_taken s plans v left rest plan TooManyPrepared so is (unbounded, layout, most) =
    let span = span_of s plans v left so in
    let endless : s.settings.span ≢ Bounded = λ bounded. unbounded (span ∙ bounded) in
    let kept = so.kept endless in
    let few : most_kept v.core.span ≡ most_kept s.settings.span = ap most_kept span in
    let count : length v.core.plans ≡ most_kept s.settings.span = omega (arith, kept.few, most, few) in
    let split : plans ≡ v.core.plans ++ plan ∷ rest = kept.split ∙ ap (λ xs. v.core.plans ++ xs) is in
    record {
      endless = endless;
      after = so.now;
      taken_in =
          ap (λ n. after_submits s (take n plans)) (sym count)
          ∙ ap (λ xs. after_submits s (take (length v.core.plans) xs)) split
          ∙ ap (after_submits s) (take-append_seam v.core.plans (plan ∷ rest))
          ∙ kept.taken;
      next = plan;
      there =
          ap (slice_get plans) (sym count)
          ∙ ap (λ xs. slice_get xs (length v.core.plans)) split
          ∙ get_seam v.core.plans rest plan;
      same =
          ap (λ (k : Settings). same_layout k.layout plan.plan.layout) (sym so.same)
          ∙ ap (λ g. same_layout g plan.plan.layout) (sym so.stands.core.layout)
          ∙ layout;
    }
