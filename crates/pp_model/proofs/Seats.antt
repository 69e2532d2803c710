-- In every reached state each worker's plan is accepted and of the pool's layout, what the worker has done begins a
-- trace of the plan, and an errand is for a fix that the plan asks.
use Rattle.std.proofs.Common.{◌≡◌, ℕ, zero, suc, Bool, true, false, Option, Some, None, List, [], ◌∷◌, ◌++◌}
use Rattle.std.proofs.Common.{length, refl, sym, append_assoc, subst}
use Rattle.std.specs.Prelude.{slice_get, slice_set, replicate}
use Rattle.pp_settings.specs.Layout.{Geometry}
use Rattle.pp_plan.specs.declared.action.Action.{Action}
use Rattle.pp_plan.specs.declared.action.Action.TheVariants as action
use Rattle.pp_plan.specs.Traces.{IsTrace, Begins as BeginsTrace}
use Rattle.pp_cursor.proofs.Lasting.{body_lasts}
use Rattle.pp_cert.specs.Accepted.{Acceptance, IsAccepted}
use Rattle.pp_cert.specs.Walk.{same_layout}
use Rattle.pp_model.specs.declared.refusals.SubmitError.{SubmitError}
use Rattle.pp_model.specs.Pool.{Stage, acting, writing, reading, leaving, Running, State}
use Rattle.pp_model.specs.Outcome.{at_stage, having_done}
use Rattle.pp_model.specs.Submitting.{error_where}
use Rattle.pp_model.specs.Turns.{Asks}
use Rattle.pp_model.specs.Reached.{IsReached}
use Rattle.pp_model.specs.Fixing.{fixes}
use Rattle.pp_model.specs.Moves.{asked_by}
use Rattle.pp_cursor.proofs.Asking.{asks_named}
use Rattle.pp_model.proofs.Layouts.{layouts_same}
use Rattle.pp_model.proofs.Crews.{AsksNow, IsErrand, Goes, acts, sends, reads, loads, loses, gives, ends, Crew, crew_of}
use Rattle.pp_model.proofs.Crews.{Begins, begins}
use Rattle.pp_model.proofs.Crews.{Turn, stays, turns, takes, turn}
use Rattle.pp_model.proofs.Reaching.{IsKept, holds}

-- ---- one worker

abbrev pub Sends : Running → Stage → Type 0
Sends r acting = Unit {0}
Sends r (writing slot page v) = Asks r (fixes (asked_by r) slot page)
Sends r (reading slot page) = Asks r (fixes (asked_by r) slot page)
Sends r (leaving given) = Unit {0}

pub record IsSeat (g : Geometry) (r : Running) : Type 0 where
  pub accepted : IsAccepted r.accepted
  pub layout : g ≡ r.accepted.plan.layout
  pub begun : BeginsTrace r.accepted.plan.layout r.accepted.plan.body r.done
  pub errand : Sends r r.stage

abbrev pub OkSeat : Geometry → Option Running → Type 0
OkSeat g None = Unit {0}
OkSeat g (Some r) = IsSeat g r

-- What is asked by the computed ask is asked by the traces.
pub asks_now : (g : Geometry) (r : Running) (a : Action) → IsSeat g r → AsksNow r a → Asks r a
asks_now g r a h n = (asks_named r.accepted.plan r.done a h.accepted.plan).1 n

-- The actions done and one that is asked begin a trace.
pub begins_more : (r : Running) (a : Action) → Asks r a
    → BeginsTrace r.accepted.plan.layout r.accepted.plan.body (r.done ++ a ∷ [])
begins_more r a asks = (
  asks.0,
  subst (IsTrace r.accepted.plan.layout r.accepted.plan.body)
      (sym (append_assoc r.done (a ∷ []) asks.0)) asks.1,
)

did_seat : (g : Geometry) (r : Running) (a : Action) → IsSeat g r → Asks r a → IsSeat g (having_done r a)
did_seat g r a h asks = record { accepted = h.accepted; layout = h.layout; begun = begins_more r a asks; errand = tt }

sent : (r : Running) (slot page : ℕ) (g : Stage) → IsErrand slot page g → Asks r (fixes (asked_by r) slot page)
    → Sends (at_stage r g) g
sent r slot page acting i asks = tt
sent r slot page (writing t x v) i asks =
    subst (λ n. Asks r (fixes (asked_by r) n x)) (sym i.0)
    (subst (λ n. Asks r (fixes (asked_by r) slot n)) (sym i.1) asks)
sent r slot page (reading t x) i asks =
    subst (λ n. Asks r (fixes (asked_by r) n x)) (sym i.0)
    (subst (λ n. Asks r (fixes (asked_by r) slot n)) (sym i.1) asks)
sent r slot page (leaving given) i asks = tt

staged : (g : Geometry) (r : Running) (stage : Stage) → IsSeat g r → Sends (at_stage r stage) stage
    → IsSeat g (at_stage r stage)
staged g r stage h s = record { accepted = h.accepted; layout = h.layout; begun = h.begun; errand = s }

goes_seat : (g : Geometry) (r : Running) (x : Option Running) → IsSeat g r → Goes r x → OkSeat g x
goes_seat g r x h (acts a f n e) = subst (OkSeat g) (sym e) (did_seat g r a h (asks_now g r a h n))
goes_seat g r x h (sends slot page stage f n i e) =
    subst (OkSeat g) (sym e) (staged g r stage h (sent r slot page stage i (asks_now g r (fixes (asked_by r) slot page) h n)))
goes_seat g r x h (reads slot page v f e) =
    let asks : Asks r (fixes (asked_by r) slot page) = subst (Sends r) f h.errand in
    subst (OkSeat g) (sym e) (staged g r (reading slot page) h asks)
goes_seat g r x h (loads slot page f e) =
    let asks : Asks r (fixes (asked_by r) slot page) = subst (Sends r) f h.errand in
    subst (OkSeat g) (sym e) (did_seat g r (fixes (asked_by r) slot page) h asks)
goes_seat g r x h (loses slot page i e) = subst (OkSeat g) (sym e) (staged g r (leaving []) h tt)
goes_seat g r x h (gives given slot k f i e) = subst (OkSeat g) (sym e) (staged g r (leaving (slot ∷ given)) h tt)
goes_seat g r x h (ends e) = subst (OkSeat g) (sym e) tt

begins_seat : (g : Geometry) (a : Acceptance) (x : Option Running) → IsAccepted a → g ≡ a.plan.layout → Begins a x
    → OkSeat g x
begins_seat g a x ok same (begins number e) =
    let begun = body_lasts a.plan.layout (length a.plan.slots) a.plan.body ok.plan.layout ok.plan.body.parts in
    subst (OkSeat g) (sym e) (record { accepted = ok; layout = same; begun = begun; errand = tt })

-- ---- all workers, and all plans

abbrev AreSeats : Geometry → List (Option Running) → Type 0
AreSeats g seats = (w : ℕ) (x : Option Running) → slice_get seats w ≡ Some x → OkSeat g x

pub record IsPlanOf (g : Geometry) (a : Acceptance) : Type 0 where
  pub accepted : IsAccepted a
  pub layout : g ≡ a.plan.layout

pub record AreGood (c : Crew) : Type 0 where
  pub plans : (k : ℕ) (a : Acceptance) → slice_get c.plans k ≡ Some a → IsPlanOf c.settings.layout a
  pub seats : (w : ℕ) (x : Option Running) → slice_get c.seats w ≡ Some x → OkSeat c.settings.layout x

set_seat : (g : Geometry) (seats : List (Option Running)) (i : ℕ) (y : Option Running) → AreSeats g seats → OkSeat g y
    → AreSeats g (slice_set seats i y)
set_seat g [] i y h ok w x e = h w x e
set_seat g (z ∷ ws) zero y h ok zero x e = let same : y ≡ x = cc in subst (OkSeat g) same ok
set_seat g (z ∷ ws) zero y h ok (suc w) x e = h (suc w) x e
set_seat g (z ∷ ws) (suc i) y h ok zero x e = h zero x e
set_seat g (z ∷ ws) (suc i) y h ok (suc w) x e = set_seat g ws i y (λ v. h (suc v)) ok w x e

turn_good : (c d : Crew) → Turn c d → AreGood c → AreGood d
turn_good c d (stays e) h = subst AreGood (sym e) h
turn_good c d (turns w r x has f e) h =
    let g = c.settings.layout in
    let seats = set_seat g c.seats w x h.seats (goes_seat g r x (h.seats w (Some r) has) f) in
    subst AreGood (sym e) (record { plans = h.plans; seats = seats })
turn_good c d (takes w k a x idle next fits begun e) h =
    let g = c.settings.layout in
    let ok = h.plans k a next in
    let seats = set_seat g c.seats w x h.seats (begins_seat g a x ok.accepted ok.layout begun) in
    subst AreGood (sym e) (record { plans = h.plans; seats = seats })

-- ---- all states

pushed : (g : Geometry) (ps : List Acceptance) (a : Acceptance)
    → ((k : ℕ) (b : Acceptance) → slice_get ps k ≡ Some b → IsPlanOf g b) → IsPlanOf g a
    → (k : ℕ) (b : Acceptance) → slice_get (ps ++ a ∷ []) k ≡ Some b → IsPlanOf g b
pushed g [] a h ok zero b e = let same : a ≡ b = cc in subst (IsPlanOf g) same ok
pushed g [] a h ok (suc k) b e = cc
pushed g (p ∷ ps) a h ok zero b e = h zero b e
pushed g (p ∷ ps) a h ok (suc k) b e = pushed g ps a (λ j. h (suc j)) ok k b e

idle_seats : (g : Geometry) (n : ℕ) → AreSeats g (replicate n None)
idle_seats g zero w x e = cc
idle_seats g (suc n) zero x e = let idle : None ≡ x = cc in subst (OkSeat g) idle tt
idle_seats g (suc n) (suc w) x e = idle_seats g n w x e

same_where : (a b c : Bool) → ◌≡◌ {A = Option SubmitError} (error_where a b c) None → a ≡ true
same_where true b c e = refl
same_where false b c e = cc

abbrev pub GoodSeats : State → Type 0
GoodSeats s = AreGood (crew_of s)

pub good_kept : IsKept GoodSeats
good_kept = record {
  opens = λ k ok. record { plans = λ j a e. cc; seats = idle_seats k.layout k.workers };
  moves = λ s t c h. turn_good (crew_of s) (crew_of t) (turn s t c) h;
  submits = λ s a ok e h.
      let same : same_layout s.settings.layout a.plan.layout ≡ true = same_where _ _ _ e in
      let g = s.settings.layout in
      let plan : IsPlanOf g a = record { accepted = ok; layout = layouts_same g a.plan.layout same } in
      record { plans = pushed g s.plans a h.plans plan; seats = h.seats };
  renews = λ s ok e h. record { plans = λ j a f. cc; seats = h.seats };
}

pub good : (s : State) → IsReached s → AreGood (crew_of s)
good s h = holds GoodSeats s good_kept h
