-- What came back from a device, where the token of its worker fits.
use Rattle.std.proofs.Common.{◌≡◌, ◌∙◌, ℕ, true, Option, List, length, refl, sym, ap, subst}
use Rattle.std.specs.Prelude.{IsSome, is_some, is_ok}
use Rattle.std.proofs.lemmas.Bool.{false≢true}
use Rattle.pp_model.specs.Pool.{State}
use Rattle.pp_device.specs.Answers.{Answer}
use Rattle.pp_vault.specs.declared.refusal.Refusal.{Refusal}
use Rattle.pp_vault.specs.declared.tokens.Duty.{Duty}
use Rattle.pp_vault.specs.declared.tokens.Duty.TheVariants as duty
use Rattle.pp_vault.specs.declared.tokens.Returned.{Returned}
use Rattle.pp_vault.specs.declared.guards.Guard.{Guard}
use Rattle.pp_vault.specs.declared.stage.Hand.{Hand}
use Rattle.pp_vault.specs.declared.stage.Stage.TheVariants.{Back}
use Rattle.pp_vault.specs.Parts.{Parts}
use Rattle.pp_vault.specs.StandsFor.{StandsFor, IsKept}
use Rattle.pp_vault.specs.Events.{Refuses}
use Rattle.pp_vault.specs.Answers.{answer_call}
use Rattle.pp_vault.specs.Carrying.{CarriesOut}
use Rattle.pp_vault.specs.Hands.{IsAway}
use Rattle.pp_vault.specs.HandLaws.{FitsIn}
use Rattle.pp_core.specs.Queries.{errand_of}
use Rattle.pp_script.specs.declared.cue.Cue.TheVariants as cue
use Rattle.pp_play.specs.declared.line.Line.{Line}
use Rattle.pp_play.specs.declared.line.Line.TheVariants.{Did, Refused, Wrote, Looked, NoLatch}
use Rattle.pp_play.specs.Doing.{HandPlays}
use Rattle.pp_play.specs.Exact.{unless_out, IsLineOf}
use Rattle.pp_play.proofs.Errands.{answer_taken}
use Rattle.pp_play.proofs.Leaves.{is_done, hand_done}
use Rattle.pp_play.proofs.Unfit as unfit

-- The hand with what a device gave back.
abbrev pub back_hand : Returned → List (Option Guard) → Hand
back_hand returned guards = record { stage = Back returned; guards = guards }

-- The answer to a token that fits is never refused.
pub not_refused : (old : Parts) (w : ℕ) (returned : Returned) (refusal : Refusal) → IsKept old
    → ((s : State) → StandsFor old s → IsAway old.page_bytes s w returned.duty returned.image)
    → Refuses old (answer_call old.page_bytes returned) refusal → ⊥
not_refused old w returned refusal kept away refuses =
    let s = kept.state in
    let a = away s kept.stands in
    let taken =
    answer_taken s old.page_bytes returned.image returned.duty (is_ok returned.answer) a.out a.headed a.long in
    false≢true (ap is_some (sym taken ∙ refuses s kept.stands))

-- What a device leaves of an image that was away is away too.
carried_by : {D : Type 0} (reads : D → ℕ → List ℕ → Answer → List ℕ → D → Type 0)
    (writes : D → ℕ → List ℕ → Answer → D → Type 0) (device next : D) (answer : Answer) (n : ℕ) (s : State) (w : ℕ)
    (image given : List ℕ) (d : Duty) → CarriesOut reads writes d device image answer given next
    → length given ≡ length image → IsAway n s w d image → IsAway n s w d given
carried_by reads writes device next answer n s w image given (duty.Read v slot page) made same away =
    record { worker = away.worker; out = away.out; headed = tt; long = same ∙ away.long }
carried_by reads writes device next answer n s w image given (duty.Write v slot page victim) made same away =
    subst (λ l. IsAway n s w (duty.Write v slot page victim) l) (sym made.1) away
carried_by reads writes device next answer n s w image given (duty.Flush page) made same away =
    absurd (false≢true (ap is_some away.worker))

pub carried : {D : Type 0} (reads : D → ℕ → List ℕ → Answer → List ℕ → D → Type 0)
    (writes : D → ℕ → List ℕ → Answer → D → Type 0) (device next : D) (answer : Answer) (n : ℕ) (s : State) (w : ℕ)
    (image given : List ℕ) (d e : Duty) → e ≡ d → CarriesOut reads writes d device image answer given next
    → length given ≡ length image → IsAway n s w d image → IsAway n s w e given
carried reads writes device next answer n s w image given d e same_duty made same away =
    subst (λ x. IsAway n s w x given) (sym same_duty)
    (carried_by reads writes device next answer n s w image given d made same away)

-- The hand with what a device gave back fits too.
pub back_fits : (old : Parts) (w : ℕ) (hand : Hand) (returned : Returned) → FitsIn old w hand
    → ((s : State) → StandsFor old s → IsAway old.page_bytes s w returned.duty returned.image)
    → FitsIn old w (back_hand returned hand.guards)
back_fits old w hand returned fits away s st =
    let f = fits s st in
    record { stage = away s st; places = f.places; guards = f.guards }

-- Where an errand is out, what the device answers is done.
device_done : (v : Parts) (s : State) (was now : List (Option Guard)) (w : ℕ) (line : Line) → IsSome (errand_of s w)
    → IsLineOf v s was now (cue.Device w) line → is_done line ≡ true
device_done v s was now w (Did m reply) out line = refl
device_done v s was now w (Refused asked why) out line =
    absurd (false≢true (ap is_some (ap unless_out (sym out) ∙ line)))
device_done v s was now w Wrote out line = absurd line
device_done v s was now w (Looked byte) out line = absurd line
device_done v s was now w NoLatch out line = absurd line

-- Which token it was makes no difference to what is played.
pub back_plays : (old : Parts) (w : ℕ) (hand : Hand) (returned : Returned) (line : Line) (new : Parts) (left : Hand)
    → IsKept old → FitsIn old w (back_hand returned hand.guards)
    → HandPlays old w (back_hand returned hand.guards) (cue.Device w) line new left
    → HandPlays old w hand (cue.Device w) line new left
back_plays old w hand returned line new left kept fits plays =
    let s = kept.state in
    let out = unfit.away old.page_bytes s w returned.duty returned.image (fits s kept.stands).stage in
    record {
      exact = plays.exact;
      leaves =
          hand_done old new hand left line
          (device_done old s hand.guards left.guards w line out (plays.exact s kept.stands));
      fit = plays.fit;
      others = plays.others;
    }
