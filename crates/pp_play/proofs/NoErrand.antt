-- Hands that fit, where no errand is out for their worker, and where one is.
use Rattle.std.proofs.Common.{◌≡◌, ◌≢◌, ℕ, true, Option, Some, None, refl, ap}
use Rattle.std.specs.Prelude.{is_some}
use Rattle.std.proofs.lemmas.Bool.{false≢true}
use Rattle.pp_plan.specs.declared.action.Ask.{Ask}
use Rattle.pp_model.specs.Pool.{Stage, acting, writing, reading, leaving, Running, State}
use Rattle.pp_model.specs.Moves.{seat_of}
use Rattle.pp_core.specs.Queries.{idle_by, leaves, leaving_by, ask_in, ask_by, errand_in, errand_by, errand_of}
use Rattle.pp_vault.specs.declared.tokens.Errand.{Errand}
use Rattle.pp_vault.specs.declared.tokens.Returned.{Returned}
use Rattle.pp_vault.specs.declared.stage.Hand.{Hand}
use Rattle.pp_vault.specs.declared.stage.Stage as token
use Rattle.pp_vault.specs.declared.stage.Stage.TheVariants.{Idle, In, Out, Back, Leaving}
use Rattle.pp_vault.specs.Parts.{Parts}
use Rattle.pp_vault.specs.Hands.{StageFits}
use Rattle.pp_vault.specs.HandLaws.{FitsIn}
use Rattle.pp_play.specs.Doing.{ErrandHasPlace}
use Rattle.pp_play.proofs.AskedSlots.{errand_takes}
use Rattle.pp_play.proofs.Room.{room_fits}

-- ---- where no errand is out

idle_none : (o : Option (Option Running)) → idle_by o ≡ true → errand_by o ≡ None
idle_none None e = refl
idle_none (Some None) e = refl
idle_none (Some (Some r)) e = absurd (false≢true e)

acting_none : (r : Running) (x : Stage) (a : Ask) → ask_in r x ≡ Some a → errand_in x ≡ None
acting_none r acting a e = refl
acting_none r (writing k p v) a e = absurd (false≢true (ap is_some e))
acting_none r (reading k p) a e = absurd (false≢true (ap is_some e))
acting_none r (leaving given) a e = refl

ask_none : (o : Option (Option Running)) (a : Ask) → ask_by o ≡ Some a → errand_by o ≡ None
ask_none None a e = refl
ask_none (Some None) a e = refl
ask_none (Some (Some r)) a e = acting_none r r.stage a e

leaves_none : (x : Stage) → leaves x ≡ true → errand_in x ≡ None
leaves_none acting e = refl
leaves_none (writing k p v) e = absurd (false≢true e)
leaves_none (reading k p) e = absurd (false≢true e)
leaves_none (leaving given) e = refl

leaving_none : (o : Option (Option Running)) → leaving_by o ≡ true → errand_by o ≡ None
leaving_none None e = refl
leaving_none (Some None) e = refl
leaving_none (Some (Some r)) e = leaves_none r.stage e

-- A worker whose token isn't an errand's has none.
pub none_out : (n : ℕ) (s : State) (w : ℕ) (x : token.Stage) → ((errand : Errand) → x ≢ Out errand)
    → ((returned : Returned) → x ≢ Back returned) → StageFits n s w x → errand_of s w ≡ None
none_out n s w (Idle chair) a b fits = idle_none (seat_of s w) fits.1
none_out n s w (In session) a b fits = ask_none (seat_of s w) session.ask fits.1
none_out n s w (Out errand) a b fits = absurd (a errand refl)
none_out n s w (Back returned) a b fits = absurd (b returned refl)
none_out n s w (Leaving leaver) a b fits = leaving_none (seat_of s w) fits.1

-- ---- where one is

-- The slot of a worker's errand has room for its page.
pub place_is_free : (old : Parts) (w : ℕ) (hand : Hand) → FitsIn old w hand → ErrandHasPlace old w hand.guards
place_is_free old w hand fits s st slot page victim e =
    let f = fits s st in
    let takes = errand_takes old s st w slot page victim e in
    room_fits old.page_bytes s w hand.guards slot f.places takes.0 takes.1 (f.guards slot)
