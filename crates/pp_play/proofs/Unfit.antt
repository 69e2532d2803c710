-- Cues that a worker at another stage is refused.
use Rattle.std.proofs.Common.{◌≡◌, ◌⊎◌, ℕ, true, Option, Some, None, List, refl, sym, subst, inl, inr, rules}
use Rattle.std.specs.Prelude.{IsSome, slice_get}
use Rattle.std.proofs.lemmas.Bool.{false≢true}
use Rattle.pp_plan.specs.declared.action.Ask.{Ask}
use Rattle.pp_cert.specs.Accepted.{Acceptance}
use Rattle.pp_model.specs.declared.refusals.Cause.TheVariants.{NotIdle, NotActing}
use Rattle.pp_model.specs.Pool.{Stage as At, acting, writing, reading, leaving, Running, State}
use Rattle.pp_model.specs.declared.moves.Move.TheVariants as move
use Rattle.pp_model.specs.Moves.{reply_of, seat_of, act_in, act_by, asked_by}
use Rattle.pp_model.specs.Using.{choose_asked}
use Rattle.pp_model.specs.Outcome.{Outcome}
use Rattle.pp_model.specs.Taking.{take_by}
use Rattle.pp_model.specs.Leaving.{finish_in, finish_by}
use Rattle.pp_core.specs.Queries.{idle_by, leaving_by, leaves, ask_by, errand_of}
use Rattle.pp_core.specs.Queries.{errand_by, errand_in}
use Rattle.pp_vault.specs.declared.refusal.Refusal.TheVariants.{OffPlan}
use Rattle.pp_vault.specs.declared.tokens.Chair.{Chair}
use Rattle.pp_vault.specs.declared.tokens.Leaver.{Leaver}
use Rattle.pp_vault.specs.declared.tokens.Session.{Session}
use Rattle.pp_vault.specs.declared.tokens.Duty.{Duty}
use Rattle.pp_vault.specs.declared.tokens.Duty.TheVariants as duty
use Rattle.pp_vault.specs.declared.stage.Stage.{Stage}
use Rattle.pp_vault.specs.declared.stage.Stage.TheVariants.{Idle, In, Out, Back, Leaving}
use Rattle.pp_vault.specs.Calls.{refusal_in}
use Rattle.pp_vault.specs.Hands.{StageFits, IsAway}
use Rattle.pp_play.proofs.Asked.{same}

-- ---- what a seat is at, by the token

-- The worker is in a plan.
abbrev pub InPlan : Option (Option Running) → Type 0
InPlan None = ⊥
InPlan (Some None) = ⊥
InPlan (Some (Some r)) = Unit {0}

asks_in_plan : (o : Option (Option Running)) (a : Ask) → ask_by o ≡ Some a → InPlan o
asks_in_plan None a e = absurd (search rules)
asks_in_plan (Some None) a e = absurd (search rules)
asks_in_plan (Some (Some r)) a e = tt

works_in_plan : (o : Option (Option Running)) → IsSome (errand_by o) → InPlan o
works_in_plan None e = absurd (false≢true e)
works_in_plan (Some None) e = absurd (false≢true e)
works_in_plan (Some (Some r)) e = tt

leaves_in_plan : (o : Option (Option Running)) → leaving_by o ≡ true → InPlan o
leaves_in_plan None e = absurd (false≢true e)
leaves_in_plan (Some None) e = absurd (false≢true e)
leaves_in_plan (Some (Some r)) e = tt

-- An errand of a worker is out for it.
pub away : (n : ℕ) (s : State) (w : ℕ) (d : Duty) (image : List ℕ) → IsAway n s w d image → IsSome (errand_of s w)
away n s w (duty.Read v slot page) image a =
    subst (λ u. IsSome (errand_of s u)) (same v w a.worker) (subst IsSome (sym a.out) refl)
away n s w (duty.Write v slot page victim) image a =
    subst (λ u. IsSome (errand_of s u)) (same v w a.worker) (subst IsSome (sym a.out) refl)
away n s w (duty.Flush page) image a = absurd (search rules)

-- ---- take

take_off : (s : State) (w : ℕ) (o : Option (Option Running)) (next : Option Acceptance) → InPlan o
    → refusal_in (take_by s w o next).reply ≡ Some (OffPlan NotIdle)
take_off s w None next in_plan = absurd in_plan
take_off s w (Some None) next in_plan = absurd in_plan
take_off s w (Some (Some r)) next in_plan = refl

module _ (n : ℕ) (s : State) (w : ℕ) where
  in_plan : (x : Stage) → ((chair : Chair) → x ≡ Idle chair → ⊥) → StageFits n s w x → InPlan (seat_of s w)
  in_plan (Idle chair) apart fits = absurd (apart chair refl)
  in_plan (In session) apart fits = asks_in_plan (seat_of s w) session.ask fits.1
  in_plan (Out errand) apart fits = works_in_plan (seat_of s w) (away n s w errand.duty errand.image fits)
  in_plan (Back returned) apart fits = works_in_plan (seat_of s w) (away n s w returned.duty returned.image fits)
  in_plan (Leaving leaver) apart fits = leaves_in_plan (seat_of s w) fits.1

  pub take_unfit : (x : Stage) → ((chair : Chair) → x ≡ Idle chair → ⊥) → StageFits n s w x
      → refusal_in (reply_of s (move.Take w)) ≡ Some (OffPlan NotIdle)
  take_unfit x apart fits = take_off s w (seat_of s w) (slice_get s.plans s.taken) (in_plan x apart fits)

-- ---- moves of a worker that acts

-- The worker is idle, or an errand is out for it, or it leaves.
abbrev IsElsewhere : Option (Option Running) → Type 0
IsElsewhere None = ⊥
IsElsewhere (Some None) = Unit {0}
IsElsewhere (Some (Some r)) = IsSome (errand_in r.stage) ⊎ (leaves r.stage ≡ true)

act_off_in : (s : State) (act : Running → Outcome) (r : Running) (x : At)
    → IsSome (errand_in x) ⊎ (leaves x ≡ true) → refusal_in (act_in s act r x).reply ≡ Some (OffPlan NotActing)
act_off_in s act r acting (inl e) = absurd (false≢true e)
act_off_in s act r acting (inr e) = absurd (false≢true e)
act_off_in s act r (writing slot page victim) e = refl
act_off_in s act r (reading slot page) e = refl
act_off_in s act r (leaving given) e = refl

act_off : (s : State) (act : Running → Outcome) (o : Option (Option Running)) → IsElsewhere o
    → refusal_in (act_by s act o).reply ≡ Some (OffPlan NotActing)
act_off s act None e = absurd e
act_off s act (Some None) e = refl
act_off s act (Some (Some r)) e = act_off_in s act r r.stage e

idle_elsewhere : (o : Option (Option Running)) → idle_by o ≡ true → IsElsewhere o
idle_elsewhere None e = absurd (false≢true e)
idle_elsewhere (Some None) e = tt
idle_elsewhere (Some (Some r)) e = absurd (false≢true e)

works_elsewhere : (o : Option (Option Running)) → IsSome (errand_by o) → IsElsewhere o
works_elsewhere None e = absurd (false≢true e)
works_elsewhere (Some None) e = absurd (false≢true e)
works_elsewhere (Some (Some r)) e = inl e

leaves_elsewhere : (o : Option (Option Running)) → leaving_by o ≡ true → IsElsewhere o
leaves_elsewhere None e = absurd (false≢true e)
leaves_elsewhere (Some None) e = absurd (false≢true e)
leaves_elsewhere (Some (Some r)) e = inr e

module _ (n : ℕ) (s : State) (w : ℕ) where
  elsewhere : (x : Stage) → ((session : Session) → x ≡ In session → ⊥) → StageFits n s w x → IsElsewhere (seat_of s w)
  elsewhere (Idle chair) apart fits = idle_elsewhere (seat_of s w) fits.1
  elsewhere (In session) apart fits = absurd (apart session refl)
  elsewhere (Out errand) apart fits = works_elsewhere (seat_of s w) (away n s w errand.duty errand.image fits)
  elsewhere (Back returned) apart fits = works_elsewhere (seat_of s w) (away n s w returned.duty returned.image fits)
  elsewhere (Leaving leaver) apart fits = leaves_elsewhere (seat_of s w) fits.1

  pub act_unfit : (x : Stage) → ((session : Session) → x ≡ In session → ⊥) → StageFits n s w x → (act : Running → Outcome)
      → refusal_in (act_by s act (seat_of s w)).reply ≡ Some (OffPlan NotActing)
  act_unfit x apart fits act = act_off s act (seat_of s w) (elsewhere x apart fits)

  pub choose_unfit : (x : Stage) → ((session : Session) → x ≡ In session → ⊥) → StageFits n s w x → (branch : ℕ)
      → refusal_in (reply_of s (move.Choose w branch)) ≡ Some (OffPlan NotActing)
  choose_unfit x apart fits branch = act_unfit x apart fits (λ r. choose_asked s w r branch (asked_by r))

-- ---- finish

finish_off_in : (s : State) (w : ℕ) (r : Running) (x : At) → IsSome (errand_in x)
    → refusal_in (finish_in s w r x).reply ≡ Some (OffPlan NotActing)
finish_off_in s w r acting e = absurd (false≢true e)
finish_off_in s w r (writing slot page victim) e = refl
finish_off_in s w r (reading slot page) e = refl
finish_off_in s w r (leaving given) e = absurd (false≢true e)

finish_works : (s : State) (w : ℕ) (o : Option (Option Running)) → IsSome (errand_by o)
    → refusal_in (finish_by s w o).reply ≡ Some (OffPlan NotActing)
finish_works s w None e = absurd (false≢true e)
finish_works s w (Some None) e = absurd (false≢true e)
finish_works s w (Some (Some r)) e = finish_off_in s w r r.stage e

finish_idle : (s : State) (w : ℕ) (o : Option (Option Running)) → idle_by o ≡ true
    → refusal_in (finish_by s w o).reply ≡ Some (OffPlan NotActing)
finish_idle s w None e = absurd (false≢true e)
finish_idle s w (Some None) e = refl
finish_idle s w (Some (Some r)) e = absurd (false≢true e)

module _ (n : ℕ) (s : State) (w : ℕ) where
  pub finish_unfit : (x : Stage) → ((session : Session) → x ≡ In session → ⊥)
      → ((leaver : Leaver) → x ≡ Leaving leaver → ⊥) → StageFits n s w x
      → refusal_in (reply_of s (move.Finish w)) ≡ Some (OffPlan NotActing)
  finish_unfit (Idle chair) a b fits = finish_idle s w (seat_of s w) fits.1
  finish_unfit (In session) a b fits = absurd (a session refl)
  finish_unfit (Out errand) a b fits = finish_works s w (seat_of s w) (away n s w errand.duty errand.image fits)
  finish_unfit (Back returned) a b fits = finish_works s w (seat_of s w) (away n s w returned.duty returned.image fits)
  finish_unfit (Leaving leaver) a b fits = absurd (b leaver refl)
