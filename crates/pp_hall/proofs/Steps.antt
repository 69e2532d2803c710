-- What calls leave of a state in which no plan waits: none waits, and no worker's plan has a greater peak.
use Rattle.std.proofs.Common.{◌≡◌, ◌∙◌, ℕ, ◌≤◌, List, [], ◌∷◌, Option, Some, None, refl, sym, ap, subst, arith}
use Rattle.std.specs.Prelude.{slice_get, slice_set, slice_index_or, drop}
use Rattle.pp_settings.specs.declared.span.Span.TheVariants.{Bounded}
use Rattle.pp_cert.specs.declared.note.Held.{Held}
use Rattle.pp_cert.specs.declared.note.Held.TheVariants.{Free, S, X}
use Rattle.pp_model.specs.Pool.{leaving, Running, State, Settings, waiting}
use Rattle.pp_plan.specs.declared.action.Action.TheVariants as action
use Rattle.pp_model.specs.Budget.{peak_of}
use Rattle.pp_model.specs.Holders.{held_in, page_in}
use Rattle.pp_model.specs.Outcome.{at_stage, having_done, released}
use Rattle.pp_model.specs.Moves.{seat_of, next_of}
use Rattle.pp_model.proofs.Changes as change
use Rattle.pp_model.proofs.Changes.{Change}
use Rattle.pp_vault.specs.Parts as vault
use Rattle.pp_vault.specs.StandsFor.{StandsFor}
use Rattle.pp_vault.specs.Calls.{Call, stranger, refused, asks, after_call}
use Rattle.pp_hall.specs.declared.counts.Counts.{Counts}
use Rattle.pp_hall.specs.Seatings.{Parts, IsSeating, NoPlanWaits, peak_at}
use Rattle.pp_hall.proofs.Sums.{at_set, none_at}

pub record Quiet (s t : State) : Type 0 where
  pub plans : t.plans ≡ s.plans
  pub taken : t.taken ≡ s.taken
  pub settings : t.settings ≡ s.settings
  pub peaks : (w : ℕ) → peak_at t w ≤ peak_at s w

itself : (n : ℕ) → n ≤ n
itself n = omega arith

pub still : (s : State) → Quiet s s
still s = record { plans = refl; taken = refl; settings = refl; peaks = λ w. itself (peak_at s w) }

-- One worker goes on, with a plan of no greater peak, or rests.
turned : (s t : State) (w : ℕ) (r : Running) (x : Option Running) → seat_of s w ≡ Some (Some r)
    → peak_of x ≤ r.accepted.peak → t.plans ≡ s.plans → t.taken ≡ s.taken → t.settings ≡ s.settings
    → t.seats ≡ slice_set s.seats w x → Quiet s t
turned s t w r x seat le plans taken settings e = record {
  plans = plans;
  taken = taken;
  settings = settings;
  peaks = λ v.
      subst (λ (seats : List (Option Running)). peak_of (slice_index_or seats v None) ≤ peak_at s v) (sym e)
      (at_set peak_of s.seats w x v (Some r) None seat le);
}

-- No worker does.
sits : (s t : State) → t.plans ≡ s.plans → t.taken ≡ s.taken → t.settings ≡ s.settings → t.seats ≡ s.seats → Quiet s t
sits s t plans taken settings e = record {
  plans = plans;
  taken = taken;
  settings = settings;
  peaks = λ v.
      subst (λ (seats : List (Option Running)). peak_of (slice_index_or seats v None) ≤ peak_at s v) (sym e)
      (itself (peak_at s v));
}

-- A latch that goes off changes a page alone.
record IsAlike (s t : State) : Type 0 where
  plans : t.plans ≡ s.plans
  taken : t.taken ≡ s.taken
  settings : t.settings ≡ s.settings
  seats : t.seats ≡ s.seats

alike : (s : State) (h : Held) (page : ℕ) → IsAlike s (released s h page)
alike s Free page = record { plans = refl; taken = refl; settings = refl; seats = refl }
alike s S page = record { plans = refl; taken = refl; settings = refl; seats = refl }
alike s X page = record { plans = refl; taken = refl; settings = refl; seats = refl }

quiet : (s t : State) → Change s t → waiting s ≡ [] → Quiet s t
quiet s t (change.stays e) none =
    sits s t (ap (λ x. x.plans) e) (ap (λ x. x.taken) e) (ap (λ x. x.settings) e) (ap (λ x. x.seats) e)
quiet s t (change.takes w a idle next fits e) none = let nothing = none_at s.plans s.taken none in cc
quiet s t (change.hits w r slot page l asked is e) none =
    turned s t w r _ asked.at.seat (itself r.accepted.peak) (ap (λ x. x.plans) e) (ap (λ x. x.taken) e)
    (ap (λ x. x.settings) e) (ap (λ x. x.seats) e)
quiet s t (change.fills w r slot page l asked is e) none =
    turned s t w r _ asked.at.seat (itself r.accepted.peak) (ap (λ x. x.plans) e) (ap (λ x. x.taken) e)
    (ap (λ x. x.settings) e) (ap (λ x. x.seats) e)
quiet s t (change.evicts w r slot page v l asked is clean e) none =
    turned s t w r _ asked.at.seat (itself r.accepted.peak) (ap (λ x. x.plans) e) (ap (λ x. x.taken) e)
    (ap (λ x. x.settings) e) (ap (λ x. x.seats) e)
quiet s t (change.sends w r slot page v l asked is dirty e) none =
    turned s t w r _ asked.at.seat (itself r.accepted.peak) (ap (λ x. x.plans) e) (ap (λ x. x.taken) e)
    (ap (λ x. x.settings) e) (ap (λ x. x.seats) e)
quiet s t (change.writes w r slot page v at e) none =
    turned s t w r _ at.seat (itself r.accepted.peak) (ap (λ x. x.plans) e) (ap (λ x. x.taken) e)
    (ap (λ x. x.settings) e) (ap (λ x. x.seats) e)
quiet s t (change.brings w r slot page v at e) none =
    turned s t w r _ at.seat (itself r.accepted.peak) (ap (λ x. x.plans) e) (ap (λ x. x.taken) e)
    (ap (λ x. x.settings) e) (ap (λ x. x.seats) e)
quiet s t (change.forgets w r slot page at e) none =
    turned s t w r _ at.seat (itself r.accepted.peak) (ap (λ x. x.plans) e) (ap (λ x. x.taken) e)
    (ap (λ x. x.settings) e) (ap (λ x. x.seats) e)
quiet s t (change.loads w r slot page stamp at good e) none =
    turned s t w r _ at.seat (itself r.accepted.peak) (ap (λ x. x.plans) e) (ap (λ x. x.taken) e)
    (ap (λ x. x.settings) e) (ap (λ x. x.seats) e)
quiet s t (change.unfixes w r slot a back asked e) none =
    turned s t w r _ asked.at.seat (itself r.accepted.peak) (ap (λ x. x.plans) e) (ap (λ x. x.taken) e)
    (ap (λ x. x.settings) e) (ap (λ x. x.seats) e)
quiet s t (change.latches w r slot m asked goes e) none =
    turned s t w r _ asked.at.seat (itself r.accepted.peak) (ap (λ x. x.plans) e) (ap (λ x. x.taken) e)
    (ap (λ x. x.settings) e) (ap (λ x. x.seats) e)
quiet s t (change.unlatches w r slot asked e) none =
    let u = alike s (held_in r slot) (page_in r slot) in
    let x = Some (having_done r (action.Unlatch slot)) in
    turned s t w r x asked.at.seat (itself r.accepted.peak) (ap (λ x. x.plans) e ∙ u.plans)
    (ap (λ x. x.taken) e ∙ u.taken) (ap (λ x. x.settings) e ∙ u.settings)
    (ap (λ x. x.seats) e ∙ ap (λ (seats : List (Option Running)). slice_set seats w x) u.seats)
quiet s t (change.chooses w r i asked e) none =
    turned s t w r _ asked.at.seat (itself r.accepted.peak) (ap (λ x. x.plans) e) (ap (λ x. x.taken) e)
    (ap (λ x. x.settings) e) (ap (λ x. x.seats) e)
quiet s t (change.unwinds w r slot given h at held e) none =
    let u = alike s h.held h.page in
    let x = Some (at_stage r (leaving (slot ∷ given))) in
    turned s t w r x at.seat (itself r.accepted.peak) (ap (λ x. x.plans) e ∙ u.plans)
    (ap (λ x. x.taken) e ∙ u.taken) (ap (λ x. x.settings) e ∙ u.settings)
    (ap (λ x. x.seats) e ∙ ap (λ (seats : List (Option Running)). slice_set seats w x) u.seats)
quiet s t (change.ends w r at asked e) none =
    turned s t w r None at.seat (omega arith) (ap (λ x. x.plans) e) (ap (λ x. x.taken) e) (ap (λ x. x.settings) e)
    (ap (λ x. x.seats) e)
quiet s t (change.leaves w r given at gone e) none =
    turned s t w r None at.seat (omega arith) (ap (λ x. x.plans) e) (ap (λ x. x.taken) e) (ap (λ x. x.settings) e)
    (ap (λ x. x.seats) e)
quiet s t (change.flushes page can e) none =
    sits s t (ap (λ x. x.plans) e) (ap (λ x. x.taken) e) (ap (λ x. x.settings) e) (ap (λ x. x.seats) e)
quiet s t (change.cleans f is e) none =
    sits s t (ap (λ x. x.plans) e) (ap (λ x. x.taken) e) (ap (λ x. x.settings) e) (ap (λ x. x.seats) e)
quiet s t (change.drops f is e) none =
    sits s t (ap (λ x. x.plans) e) (ap (λ x. x.taken) e) (ap (λ x. x.settings) e) (ap (λ x. x.seats) e)

pub quiet_call : (s : State) (call : Call) → waiting s ≡ [] → Quiet s (after_call s call)
quiet_call s stranger none = still s
quiet_call s (refused why) none = still s
quiet_call s (asks m) none = quiet s (next_of s m) (change.change s m) none

-- ---- seatings

-- Whoever is no worse off than the state of a seating is one's state too.
pub goes_on : (x : Parts) (new : vault.Parts) (counts : Counts) (h : IsSeating x) (t : State) → StandsFor new t
    → Quiet h.state t → IsSeating (record x { vault = new; counts = counts })
goes_on x new counts h t stands q = record {
  state = t;
  stands = stands;
  endless = subst (λ (k : Settings). k.span ≡ Bounded → ⊥) (sym q.settings) h.endless;
  straight = (λ i. drop (q.taken i) (q.plans i)) ∙ h.straight;
  frames = h.frames ∙ ap (λ (k : Settings). k.layout.frames) (sym q.settings);
  fits = λ w. omega (arith, q.peaks w, h.fits w);
  within = h.within;
}

-- A call of the vault leaves a seating one.
pub called : (x : Parts) (new : vault.Parts) (counts : Counts) (h : IsSeating x) (call : State → Call)
    → StandsFor new (after_call h.state (call h.state)) → IsSeating (record x { vault = new; counts = counts })
called x new counts h call stands =
    goes_on x new counts h (after_call h.state (call h.state)) stands
    (quiet_call h.state (call h.state) h.straight)
