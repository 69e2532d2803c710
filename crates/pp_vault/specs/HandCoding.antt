-- The code of hands, by which proofs tell them apart.
use Rattle.std.specs.Prelude.{◌≡◌, ℕ, Bool, true, false, ◌⊎◌, Option, None, Some, List, refl, Ok, Err}
use Rattle.std.proofs.Common.{inl, inr}
use Rattle.std.specs.Coded.{Coded, code_by, coded×, coded⊎, coded_ℕ, coded_bool, coded_list, coded_option}
use Rattle.pp_plan.specs.declared.action.Ask.{Ask}
use Rattle.pp_device.specs.declared.fault.Fault.{Fault}
use Rattle.pp_device.specs.declared.fault.Fault.TheVariants as fault
use Rattle.pp_device.specs.Answers.{Answer}
use Rattle.pp_vault.specs.declared.tokens.Duty.{Duty}
use Rattle.pp_vault.specs.declared.tokens.Duty.TheVariants as duty
use Rattle.pp_vault.specs.declared.guards.Guard.{Guard}
use Rattle.pp_vault.specs.declared.stage.Stage.{Stage}
use Rattle.pp_vault.specs.declared.stage.Stage.TheVariants as stage
use Rattle.pp_vault.specs.declared.stage.Hand.{Hand}
use Rattle.pp_core.specs.Coding.{coded_ask}
use Rattle.pp_vault.specs.GuardCoding.{coded_guards}

-- ---- a duty and a fault

-- The page, and of a worker's duty the worker, the slot and the victim, if there is one.
abbrev DutyParts : Type 0
DutyParts = ℕ × Option (ℕ × (ℕ × Option ℕ))

abbrev duty_to : Duty → DutyParts
duty_to (duty.Read w slot page) = (page, Some (w, (slot, None)))
duty_to (duty.Write w slot page victim) = (page, Some (w, (slot, Some victim)))
duty_to (duty.Flush page) = (page, None)

abbrev duty_from : DutyParts → Duty
duty_from (page, None) = duty.Flush page
duty_from (page, Some (w, (slot, None))) = duty.Read w slot page
duty_from (page, Some (w, (slot, Some victim))) = duty.Write w slot page victim

pub duty_back : (x : Duty) → duty_from (duty_to x) ≡ x
duty_back (duty.Read w slot page) = refl
duty_back (duty.Write w slot page victim) = refl
duty_back (duty.Flush page) = refl

abbrev coded_duty : Coded Duty
coded_duty =
    code_by DutyParts (coded× coded_ℕ (coded_option (coded× coded_ℕ (coded× coded_ℕ (coded_option coded_ℕ))))) duty_to
    duty_from duty_back

abbrev fault_to : Fault → Bool
fault_to fault.Read = false
fault_to fault.Write = true

abbrev fault_from : Bool → Fault
fault_from false = fault.Read
fault_from true = fault.Write

pub fault_back : (x : Fault) → fault_from (fault_to x) ≡ x
fault_back fault.Read = refl
fault_back fault.Write = refl

-- What a device answered: nothing, or its fault.
abbrev answer_to : Answer → Option Bool
answer_to (Ok x) = None
answer_to (Err x) = Some (fault_to x)

abbrev answer_from : Option Bool → Answer
answer_from None = Ok tt
answer_from (Some b) = Err (fault_from b)

pub answer_back : (x : Answer) → answer_from (answer_to x) ≡ x
answer_back (Ok x) = refl
answer_back (Err fault.Read) = refl
answer_back (Err fault.Write) = refl

abbrev coded_answer : Coded Answer
coded_answer = code_by (Option Bool) (coded_option coded_bool) answer_to answer_from answer_back

-- ---- hands

-- A worker that is idle, or leaves; a worker in its plan, with what that asks; or a duty with its image, and the answer
-- where there is one.
abbrev StageParts : Type 0
StageParts = (ℕ × Bool) ⊎ ((ℕ × Ask) ⊎ ((Duty × List ℕ) × Option Answer))

abbrev coded_stage_parts : Coded StageParts
coded_stage_parts =
    coded⊎ (coded× coded_ℕ coded_bool)
    (coded⊎ (coded× coded_ℕ coded_ask) (coded× (coded× coded_duty (coded_list coded_ℕ)) (coded_option coded_answer)))

abbrev stage_to : Stage → StageParts
stage_to (stage.Idle x) = inl (x.worker, false)
stage_to (stage.Leaving x) = inl (x.worker, true)
stage_to (stage.In x) = inr (inl (x.worker, x.ask))
stage_to (stage.Out x) = inr (inr ((x.duty, x.image), None))
stage_to (stage.Back x) = inr (inr ((x.duty, x.image), Some x.answer))

abbrev stage_from : StageParts → Stage
stage_from (inl (w, false)) = stage.Idle (record { worker = w })
stage_from (inl (w, true)) = stage.Leaving (record { worker = w })
stage_from (inr (inl (w, a))) = stage.In (record { worker = w; ask = a })
stage_from (inr (inr (p, None))) = stage.Out (record { duty = p.0; image = p.1 })
stage_from (inr (inr (p, Some answer))) = stage.Back (record { duty = p.0; image = p.1; answer = answer })

pub stage_back : (x : Stage) → stage_from (stage_to x) ≡ x
stage_back (stage.Idle x) = refl
stage_back (stage.Leaving x) = refl
stage_back (stage.In x) = refl
stage_back (stage.Out x) = refl
stage_back (stage.Back x) = refl

abbrev coded_stage : Coded Stage
coded_stage = code_by StageParts coded_stage_parts stage_to stage_from stage_back

abbrev pub coded_hand : Coded Hand
coded_hand =
    code_by (Stage × List (Option Guard)) (coded× coded_stage coded_guards) (λ h. (h.stage, h.guards))
    (λ p. record { stage = p.0; guards = p.1 }) (λ _. refl)

abbrev pub coded_workers : Coded (List (Option Hand))
coded_workers = coded_list (coded_option coded_hand)
