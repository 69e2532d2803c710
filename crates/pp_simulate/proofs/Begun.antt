-- A vault to which plans were submitted, and in which nothing else was done, agrees with any device.
use Rattle.std.proofs.Common.{◌≡◌, ℕ, zero, suc, Option, Some, None, List, [], ◌∷◌, false, Ok, Err, refl, subst}
use Rattle.std.specs.Prelude.{slice_get, replicate, Result}
use Rattle.pp_text.specs.Steps.{◌>>=◌}
use Rattle.pp_arc.specs.FourLists.{is_cached}
use Rattle.pp_cert.specs.Accepted.{Acceptance}
use Rattle.pp_core.specs.Queries.{errand_by, errand_of}
use Rattle.pp_model.specs.Pool.{Running, Settings, State, opening}
use Rattle.pp_model.specs.Submitting.{submit_error, submitted, unless_refused, after_submits}
use Rattle.pp_model.specs.declared.refusals.SubmitError.{SubmitError}
use Rattle.pp_contents.specs.Agreeing.{Agrees}
use Rattle.pp_contents.specs.ContentLaws.{EmptyAgree}
use Rattle.pp_vault.specs.Hands.{HandsFit}
use Rattle.pp_vault.specs.Parts.{Parts}
use Rattle.pp_vault.specs.StandsFor.{StandsFor}
use Rattle.pp_vault.specs.declared.hands.Hands.{Hands}

-- No errand is out, no page is cached, and no flush is in flight.
record Rests (s : State) : Type 0 where
  none_out : (w : ℕ) → errand_of s w ≡ None
  none_cached : (page : ℕ) → is_cached s.lists page ≡ false
  no_flush : s.flush ≡ None

idle_seats : (n w : ℕ) → errand_by (slice_get {X = Option Running} (replicate n None) w) ≡ None
idle_seats zero w = refl
idle_seats (suc n) zero = refl
idle_seats (suc n) (suc w) = idle_seats n w

opening_rests : (k : Settings) → Rests (opening k)
opening_rests k =
    record { none_out = λ w. idle_seats k.workers w; none_cached = λ page. refl; no_flush = refl }

submitted_rests : (s : State) (a : Acceptance) → Rests s → Rests (submitted s a)
submitted_rests s a r =
    record { none_out = r.none_out; none_cached = r.none_cached; no_flush = r.no_flush }

abbrev Rest : Result State SubmitError → Type 0
Rest (Ok t) = Rests t
Rest (Err error) = Unit {0}

one_rests : (s : State) (plan : Acceptance) (plans : List Acceptance) (o : Option SubmitError)
    → Rest (after_submits (submitted s plan) plans)
    → Rest (unless_refused o (submitted s plan) >>= λ after. after_submits after plans)
one_rests s plan plans None rest = rest
one_rests s plan plans (Some error) rest = tt

all_rest : (s : State) (plans : List Acceptance) → Rests s → Rest (after_submits s plans)
all_rest s [] r = r
all_rest s (plan ∷ plans) r =
    one_rests s plan plans (submit_error s plan) (all_rest (submitted s plan) plans (submitted_rests s plan r))

pub begun_agrees : (k : Settings) (plans : List Acceptance) (s : State) (v : Parts) (hands : Hands)
    (told : ℕ → List ℕ) → EmptyAgree → after_submits (opening k) plans ≡ Ok s → StandsFor v s → HandsFit v hands
    → Agrees v s hands told
begun_agrees k plans s v hands told empty is st fits =
    let r : Rests s = subst Rest is (all_rest (opening k) plans (opening_rests k)) in
    empty v s hands told (record { stands = st; fit = fits s st }) r.none_out r.none_cached r.no_flush
