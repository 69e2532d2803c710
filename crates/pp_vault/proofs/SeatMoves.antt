-- Take, choose, finish and end are done, and the worker acts after the first two.
use Rattle.std.proofs.Common.{◌≡◌, ◌∙◌, ℕ, Bool, true, Option, Some, None, refl, sym, ap, subst}
use Rattle.std.specs.Prelude.{if◌then◌else◌, IsSome}
use Rattle.std.proofs.lemmas.Bool.{false≢true}
use Rattle.pp_plan.specs.declared.action.Ask.{Ask}
use Rattle.pp_model.specs.declared.moves.Move.{Move}
use Rattle.pp_model.specs.declared.moves.Move.TheVariants.{Take, Choose, Finish}
use Rattle.pp_model.specs.declared.reply.Ending.{Ending}
use Rattle.pp_model.specs.declared.reply.Reply.{Reply}
use Rattle.pp_model.specs.declared.reply.Reply.TheVariants as reply
use Rattle.pp_model.specs.Pool.{State}
use Rattle.pp_model.specs.Moves.{reply_of, next_of}
use Rattle.pp_model.specs.Ready.{is_still}
use Rattle.pp_model.specs.Shapes.{is_answer}
use Rattle.pp_core.specs.Queries.{is_idle, ask_of}
use Rattle.pp_core.specs.StandsFor as core
use Rattle.pp_core.proofs.AfterMoves.{after_moves}
use Rattle.pp_core.proofs.Alike.{same_idle}
use Rattle.pp_vault.specs.declared.refusal.Refusal.{Refusal}
use Rattle.pp_vault.specs.Parts.{Parts}
use Rattle.pp_vault.specs.StandsFor.{StandsFor, IsKept}
use Rattle.pp_vault.specs.Calls.{Call, asks, stranger, after_call}
use Rattle.pp_vault.specs.Fits.{take_call, choose_call, is_acting, is_acting_by}
use Rattle.pp_vault.specs.Steps.{Stepped, Refused}
use Rattle.pp_vault.specs.Events.{Refuses, Does}
use Rattle.pp_vault.specs.ImageMoves.{ImagesStay}
use Rattle.pp_vault.specs.Tokens.{ActsIn, HoldsNothing}
use Rattle.pp_vault.proofs.Actors.{acts_in_each}
use Rattle.pp_vault.proofs.Done.{refuses}
use Rattle.pp_vault.proofs.FitTests.{none_gathered}
use Rattle.pp_vault.proofs.Plain.{answered, taken, chosen, finished, plain}

-- ---- calls of a worker that has to be idle, or to leave, or to act

abbrev tested : (State → Bool) → Move → State → Call
tested test m s = if test s then asks m else stranger

abbrev AllPass : Parts → (State → Bool) → Type 0
AllPass v test = (s : State) → StandsFor v s → test s ≡ true

asked : (v : Parts) (test : State → Bool) (m : Move) → AllPass v test → (s : State) → StandsFor v s
    → tested test m s ≡ asks m
asked v test m all s st = ap (λ b. if b then asks m else stranger) (all s st)

-- Such a call is refused as its move is.
pub tested_refuses : (old new : Parts) (test : State → Bool) (m : Move) (why : Refusal) → Refused old new m why
    → AllPass old test → Refuses old (tested test m) why
tested_refuses old new test m why h all = refuses old new (tested test m) m why h (asked old test m all)

pub all_pass : (v : Parts) (test : State → Bool) (b : Bool) → b ≡ true
    → ((s : State) → core.StandsFor v.core s → b ≡ test s) → AllPass v test
all_pass v test b e told s st = sym (told s st.core) ∙ e

-- A worker whose plan asks something acts.
acting_by : (o : Option Ask) → IsSome o → is_acting_by o ≡ true
acting_by None e = absurd (false≢true e)
acting_by (Some a) e = refl

pub all_act : (v : Parts) (w : ℕ) (o : Option Ask) → IsSome o
    → ((s : State) → core.StandsFor v.core s → o ≡ ask_of s w) → AllPass v (λ s. is_acting s w)
all_act v w o some told s st = ap is_acting_by (sym (told s st.core)) ∙ acting_by o some

-- ---- images

-- The core's step leaves them.
pub stepped_stays : (old new : Parts) (m : Move) (r : Reply) → Stepped old new m r → ImagesStay old new
stepped_stays old new m r step =
    record {
      images = ap (λ (v : Parts). v.images) step.rest;
      spare = ap (λ (v : Parts). v.spare) step.rest;
    }

-- ---- what stands after a call

module _ (old new : Parts) (w : ℕ) (test : State → Bool) (m : Move) (r : Reply) (kept : IsKept old)
    (all : AllPass old test) (step : Stepped old new m r) where
  told : reply_of kept.state m ≡ r
  told = sym (step.moves.replies kept.state kept.stands.core)

  answer : is_answer m r ≡ true
  answer = answered kept.state m r told step.done

  acts_after : Does old (tested test m) new → IsSome (ask_of (next_of kept.state m) w) → ActsIn new w
  acts_after does acts =
      let s = kept.state in
      let stands =
      subst (StandsFor new) (ap (after_call s) (asked old test m all s kept.stands)) (does.stands s kept.stands) in
      acts_in_each new (next_of s m) w stands acts

module _ (old new : Parts) (w : ℕ) (r : Reply) (kept : IsKept old) where
  -- ---- take

  module _ (all : AllPass old (λ s. is_idle s w)) (step : Stepped old new (Take w) r) where
    plan_taken : (plan : ℕ) × (r ≡ reply.Taken plan)
    plan_taken = taken w r (answer old new w (λ s. is_idle s w) (Take w) r kept all step)

    pub take_does : Does old (take_call w) new
    take_does =
        plain old new (take_call w) (Take w) r w step refl (ap is_still plan_taken.1)
        (asked old (λ s. is_idle s w) (Take w) all)

    pub take_acts : ActsIn new w
    take_acts =
        let is = told old new w (λ s. is_idle s w) (Take w) r kept all step ∙ plan_taken.1 in
        let after = (after_moves kept.state kept.stands.core.reached).taken w plan_taken.0 is in
        acts_after old new w (λ s. is_idle s w) (Take w) r kept all step take_does after.acts

  -- ---- choose

  module _ (i : ℕ) (all : AllPass old (λ s. is_acting s w)) (step : Stepped old new (Choose w i) r) where
    branch_chosen : r ≡ reply.Did
    branch_chosen = chosen w i r (answer old new w (λ s. is_acting s w) (Choose w i) r kept all step)

    pub choose_does : Does old (choose_call w i) new
    choose_does =
        plain old new (choose_call w i) (Choose w i) r w step refl (ap is_still branch_chosen)
        (asked old (λ s. is_acting s w) (Choose w i) all)

    pub choose_acts : ActsIn new w
    choose_acts =
        let is = told old new w (λ s. is_acting s w) (Choose w i) r kept all step ∙ branch_chosen in
        let after = (after_moves kept.state kept.stands.core.reached).chosen w i is in
        acts_after old new w (λ s. is_acting s w) (Choose w i) r kept all step choose_does after.acts

  -- ---- finish and end

  module _ (test : State → Bool) (all : AllPass old test) (step : Stepped old new (Finish w) r) where
    has_finished : (by : Ending) × (r ≡ reply.Finished by)
    has_finished = finished w r (answer old new w test (Finish w) r kept all step)

    pub finish_does : Does old (tested test (Finish w)) new
    finish_does =
        plain old new (tested test (Finish w)) (Finish w) r w step refl (ap is_still has_finished.1)
        (asked old test (Finish w) all)

    -- It is idle, in each state that is stood for then.
    pub finish_idle : (s : State) → StandsFor new s → is_idle s w ≡ true
    finish_idle t st =
        let s = kept.state in
        let is = sym (step.moves.replies s kept.stands.core) ∙ has_finished.1 in
        same_idle new.core t (next_of s (Finish w)) st.core (step.moves.stands s kept.stands.core) w
        ∙ ((after_moves s kept.stands.core.reached).finished w has_finished.0 is).idle

    -- It held nothing, in each state that is stood for.
    pub finish_empty : HoldsNothing old w
    finish_empty s st slot =
        let is = sym (step.moves.replies s st.core) ∙ has_finished.1 in
        let after = (after_moves s st.core.reached).finished w has_finished.0 is in
        record { no_page = after.empty slot; no_bundle = none_gathered s w slot (after.no_bundle slot) }
