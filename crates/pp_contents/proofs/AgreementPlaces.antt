-- Hands in their places: whose they are, and what is in each place after one was put back.
use Rattle.std.proofs.Common.{◌≡◌, ◌≢◌, ◌∙◌, ◌⊎◌, ℕ, ◌<◌, ◌≤◌, true, false, Option, Some, None, List, length, refl, sym}
use Rattle.std.proofs.Common.{ap, subst, inl, inr}
use Rattle.std.specs.Prelude.{slice_set}
use Rattle.std.proofs.lemmas.Bool.{cases_lt, false≢true}
use Rattle.std.proofs.lemmas.List.{get_or-set_same, get_or-set_other, get_or_past, length-set}
use Rattle.pp_plan.specs.declared.action.Ask.{Ask}
use Rattle.pp_model.specs.Pool as pool
use Rattle.pp_model.specs.Pool.{acting, writing, reading, leaving, Running, State}
use Rattle.pp_model.specs.Moves.{seat_of}
use Rattle.pp_model.proofs.Requests.{Which, same, other, which}
use Rattle.pp_core.specs.Queries.{idle_by, leaves, leaving_by, ask_in, ask_by, errand_in, errand_by, errand_of}
use Rattle.pp_vault.specs.declared.stage.Stage.{Stage}
use Rattle.pp_vault.specs.declared.stage.Stage.TheVariants.{Idle, In, Out, Back, Leaving}
use Rattle.pp_vault.specs.declared.stage.Hand.{Hand}
use Rattle.pp_vault.specs.declared.hands.Hands.{Hands}
use Rattle.pp_vault.specs.Parts.{Parts}
use Rattle.pp_vault.specs.Holding.{placed}
use Rattle.pp_vault.specs.Hands.{StageFits, HandFits, HasHand}
use Rattle.pp_vault.specs.Stages.{stage_worker}
use Rattle.pp_contents.specs.ContentLaws.{Held, HandsBack}
use Rattle.pp_vault.proofs.FitTests.{none_some, some_some}
use Rattle.pp_contents.proofs.AgreementCallers.{is_abroad}

-- A place with something in it is there.
pub place_low : {T : Type 0} (places : List (Option T)) (n : ℕ) (x : T) → placed places n ≡ Some x → n < length places
place_low places n x is = go (cases_lt n (length places))
  where
    go : (n < length places) ⊎ (length places ≤ n) → n < length places
    go (inl low) = low
    go (inr past) = absurd (none_some (sym (get_or_past places n None past) ∙ is))

-- ---- hands that fit

pub hand_fits : (v : Parts) (s : State) (hands : Hands) (w : ℕ) (hand : Hand) → Held v s hands
    → placed hands.workers w ≡ Some hand → HandFits v.page_bytes s w hand
hand_fits v s hands w hand held is =
    let low = subst (λ n. w < n) held.fit.places (place_low hands.workers w hand is) in
    let has : HasHand v.page_bytes s hands.workers w = held.fit.each w low in
    subst (HandFits v.page_bytes s w) (some_some hand has.hand hand (sym has.there ∙ is)) has.fits

pub stage_fits : (n : ℕ) (s : State) (w : ℕ) (x : Stage) → StageFits n s w x → stage_worker x ≡ Some w
stage_fits n s w (Idle chair) fits = ap (λ v. Some v) fits.0
stage_fits n s w (In session) fits = ap (λ v. Some v) fits.0
stage_fits n s w (Out errand) fits = fits.worker
stage_fits n s w (Back returned) fits = fits.worker
stage_fits n s w (Leaving leaver) fits = ap (λ v. Some v) fits.0

-- ---- a worker for which no device works

idle_home : (o : Option (Option Running)) → idle_by o ≡ true → errand_by o ≡ None
idle_home None e = absurd (false≢true e)
idle_home (Some None) e = refl
idle_home (Some (Some r)) e = absurd (false≢true e)

ask_home : (o : Option (Option Running)) (a : Ask) → ask_by o ≡ Some a → errand_by o ≡ None
ask_home None a e = absurd (none_some e)
ask_home (Some None) a e = absurd (none_some e)
ask_home (Some (Some r)) a e = go r.stage e
  where
    go : (g : pool.Stage) → ask_in r g ≡ Some a → errand_in g ≡ None
    go acting e = refl
    go (writing slot page victim) e = absurd (none_some e)
    go (reading slot page) e = absurd (none_some e)
    go (leaving given) e = refl

leaving_home : (o : Option (Option Running)) → leaving_by o ≡ true → errand_by o ≡ None
leaving_home None e = absurd (false≢true e)
leaving_home (Some None) e = absurd (false≢true e)
leaving_home (Some (Some r)) e = go r.stage e
  where
    go : (g : pool.Stage) → leaves g ≡ true → errand_in g ≡ None
    go acting e = refl
    go (writing slot page victim) e = absurd (false≢true e)
    go (reading slot page) e = absurd (false≢true e)
    go (leaving given) e = refl

pub home_errand : (n : ℕ) (s : State) (w : ℕ) (x : Stage) → StageFits n s w x → is_abroad x ≡ false
    → errand_of s w ≡ None
home_errand n s w (Idle chair) fits home = idle_home (seat_of s w) fits.1
home_errand n s w (In session) fits home = ask_home (seat_of s w) session.ask fits.1
home_errand n s w (Out errand) fits home = absurd (false≢true (sym home))
home_errand n s w (Back returned) fits home = absurd (false≢true (sym home))
home_errand n s w (Leaving leaver) fits home = leaving_home (seat_of s w) fits.1

-- ---- a hand that was put back

module _ (hands after : Hands) (w : ℕ) (hand left : Hand) (is : placed hands.workers w ≡ Some hand)
    (back : HandsBack hands w left after) where
  pub back_here : placed after.workers w ≡ Some left
  back_here =
      let low = place_low hands.workers w hand is in
      ap (λ xs. placed xs w) back.workers
      ∙ get_or-set_same (slice_set hands.workers w None) w (Some left) None
      (subst (λ n. w < n) (sym (length-set hands.workers w None)) low)

  pub back_there : (v : ℕ) → v ≢ w → placed after.workers v ≡ placed hands.workers v
  back_there v apart =
      ap (λ xs. placed xs v) back.workers
      ∙ get_or-set_other (slice_set hands.workers w None) w v (Some left) None apart
      ∙ get_or-set_other hands.workers w v None None apart

  -- Whatever holds of the hand that came back, and of each hand before, holds of each hand now.
  pub back_all : (P : Hand → Type 0) → P left → ((v : ℕ) (x : Hand) → placed hands.workers v ≡ Some x → P x)
      → (v : ℕ) (x : Hand) → placed after.workers v ≡ Some x → P x
  back_all P mine others v x there = go (which v w)
    where
      go : Which v w → P x
      go (same d e) = subst P (some_some left left x (sym back_here ∙ ap (placed after.workers) (sym d) ∙ there)) mine
      go (other d e) = others v x (sym (back_there v d) ∙ there)
