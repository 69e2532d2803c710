-- What a move does to the workers' seats alone: one worker goes on in one of seven ways, or an idle one takes a plan,
-- or none changes.
use Rattle.std.proofs.Common.{◌≡◌, ◌∙◌, ℕ, ◌+◌, true, Option, Some, None, List, [], ◌∷◌, refl, sym, ap, subst}
use Rattle.std.specs.Prelude.{slice_get, slice_set, sum_by, nat_le}
use Rattle.pp_plan.specs.declared.action.Action.{Action}
use Rattle.pp_plan.specs.declared.action.Action.TheVariants as action
use Rattle.pp_cursor.specs.Cursor.{NamesAction}
use Rattle.pp_cert.specs.declared.note.Held.{Held}
use Rattle.pp_cert.specs.declared.note.Held.TheVariants.{Free, S, X}
use Rattle.pp_cert.specs.Accepted.{Acceptance}
use Rattle.pp_cert.specs.Held.{Holding, holding_at}
use Rattle.pp_model.specs.Pool.{Stage, acting, writing, reading, leaving, Running, State, Settings}
use Rattle.pp_model.specs.Holders.{holdings, page_in, held_in}
use Rattle.pp_model.specs.Budget.{peak_of}
use Rattle.pp_model.specs.Outcome.{at_stage, having_done, released}
use Rattle.pp_model.specs.Using.{unlatched}
use Rattle.pp_model.specs.Moves.{asked_by}
use Rattle.pp_model.specs.Fixing.{fixes}
use Rattle.pp_model.proofs.Changes as change
use Rattle.pp_model.proofs.Changes.{Change}

-- ---- one worker

abbrev pub AsksNow : Running → Action → Type 0
AsksNow r a = NamesAction r.accepted.plan.layout (asked_by r) a

-- An errand for a fix of the page into the slot.
abbrev pub IsErrand : (slot page : ℕ) → Stage → Type 0
IsErrand slot page acting = ⊥
IsErrand slot page (writing t x v) = (t ≡ slot) × (x ≡ page)
IsErrand slot page (reading t x) = (t ≡ slot) × (x ≡ page)
IsErrand slot page (leaving given) = ⊥

-- How a worker in its plan can go on.
pub data Goes (r : Running) (x : Option Running) : Type 0 where
  acts : (a : Action) → r.stage ≡ acting → AsksNow r a → x ≡ Some (having_done r a) → Goes r x
  sends : (slot page : ℕ) (g : Stage) → r.stage ≡ acting → AsksNow r (fixes (asked_by r) slot page) → IsErrand slot page g
      → x ≡ Some (at_stage r g) → Goes r x
  reads : (slot page v : ℕ) → r.stage ≡ writing slot page v → x ≡ Some (at_stage r (reading slot page)) → Goes r x
  loads : (slot page : ℕ) → r.stage ≡ reading slot page → x ≡ Some (having_done r (fixes (asked_by r) slot page)) → Goes r x
  loses : (slot page : ℕ) → IsErrand slot page r.stage → x ≡ Some (at_stage r (leaving [])) → Goes r x
  gives : (given : List ℕ) (slot : ℕ) (h : Holding) → r.stage ≡ leaving given → holding_at (holdings r) slot ≡ Some h
      → x ≡ Some (at_stage r (leaving (slot ∷ given))) → Goes r x
  ends : x ≡ None → Goes r x

-- ---- all workers

-- What this is about of a state.
pub record Crew : Type 0 where
  pub settings : Settings
  pub plans : List Acceptance
  pub seats : List (Option Running)

abbrev pub crew_of : State → Crew
crew_of s = record { settings = s.settings; plans = s.plans; seats = s.seats }

abbrev pub seated : Crew → ℕ → Option Running → Crew
seated c w x = record c { seats = slice_set c.seats w x }

-- A worker that begins the plan; its number doesn't matter here.
pub data Begins (a : Acceptance) (x : Option Running) : Type 0 where
  begins : (number : ℕ) → x ≡ Some (record { number = number; accepted = a; done = []; stage = acting }) → Begins a x

pub data Turn (c d : Crew) : Type 0 where
  stays : d ≡ c → Turn c d
  turns : (w : ℕ) (r : Running) (x : Option Running) → slice_get c.seats w ≡ Some (Some r) → Goes r x → d ≡ seated c w x
      → Turn c d
  takes : (w k : ℕ) (a : Acceptance) (x : Option Running) → slice_get c.seats w ≡ Some None
      → slice_get c.plans k ≡ Some a
      → nat_le (a.peak + sum_by peak_of c.seats) c.settings.layout.frames ≡ true → Begins a x → d ≡ seated c w x
      → Turn c d

released_crew : (s : State) (h : Held) (page : ℕ) → crew_of (released s h page) ≡ crew_of s
released_crew s Free page = refl
released_crew s S page = refl
released_crew s X page = refl

pub turn : (s t : State) → Change s t → Turn (crew_of s) (crew_of t)
turn s t (change.stays e) = stays (ap crew_of e)
turn s t (change.takes w a idle next fits e) = takes w s.taken a _ idle next fits (begins s.taken refl) (ap crew_of e)
turn s t (change.hits w r slot page l asked is e) =
    turns w r _ asked.at.seat (acts (fixes (asked_by r) slot page) asked.at.stage asked.names refl) (ap crew_of e)
turn s t (change.fills w r slot page l asked is e) =
    turns w r _ asked.at.seat (sends slot page (reading slot page) asked.at.stage asked.names (refl, refl) refl)
    (ap crew_of e)
turn s t (change.evicts w r slot page v l asked is clean e) =
    turns w r _ asked.at.seat (sends slot page (reading slot page) asked.at.stage asked.names (refl, refl) refl)
    (ap crew_of e)
turn s t (change.sends w r slot page v l asked is dirty e) =
    turns w r _ asked.at.seat (sends slot page (writing slot page v) asked.at.stage asked.names (refl, refl) refl)
    (ap crew_of e)
turn s t (change.writes w r slot page v at e) = turns w r _ at.seat (reads slot page v at.stage refl) (ap crew_of e)
turn s t (change.brings w r slot page v at e) =
    turns w r _ at.seat (loses slot page (subst (IsErrand slot page) (sym at.stage) (refl, refl)) refl) (ap crew_of e)
turn s t (change.forgets w r slot page at e) =
    turns w r _ at.seat (loses slot page (subst (IsErrand slot page) (sym at.stage) (refl, refl)) refl) (ap crew_of e)
turn s t (change.loads w r slot page stamp at good e) = turns w r _ at.seat (loads slot page at.stage refl)
    (ap crew_of e)
turn s t (change.unfixes w r slot a back asked e) =
    turns w r _ asked.at.seat (acts a asked.at.stage asked.names refl) (ap crew_of e)
turn s t (change.latches w r slot m asked goes e) =
    turns w r _ asked.at.seat (acts (action.Latch slot m) asked.at.stage asked.names refl) (ap crew_of e)
turn s t (change.unlatches w r slot asked e) =
    let x = Some (having_done r (action.Unlatch slot)) in
    let same : crew_of (unlatched s r slot) ≡ crew_of s = released_crew s (held_in r slot) (page_in r slot) in
    turns w r x asked.at.seat (acts (action.Unlatch slot) asked.at.stage asked.names refl)
    (ap crew_of e ∙ ap (λ c. seated c w x) same)
turn s t (change.chooses w r i asked e) =
    turns w r _ asked.at.seat (acts (action.Choose i) asked.at.stage asked.names refl) (ap crew_of e)
turn s t (change.unwinds w r slot given h at held e) =
    let x = Some (at_stage r (leaving (slot ∷ given))) in
    turns w r x at.seat (gives given slot h at.stage held refl)
    (ap crew_of e ∙ ap (λ c. seated c w x) (released_crew s h.held h.page))
turn s t (change.ends w r at asked e) = turns w r None at.seat (ends refl) (ap crew_of e)
turn s t (change.leaves w r given at none e) = turns w r None at.seat (ends refl) (ap crew_of e)
turn s t (change.flushes page can e) = stays (ap crew_of e)
turn s t (change.cleans f is e) = stays (ap crew_of e)
turn s t (change.drops f is e) = stays (ap crew_of e)

-- No move changes the plans or the settings.
pub turn_plans : (c d : Crew) → Turn c d → (d.plans ≡ c.plans) × (d.settings ≡ c.settings)
turn_plans c d (stays e) = (ap (λ x. x.plans) e, ap (λ x. x.settings) e)
turn_plans c d (turns w r x has g e) = (ap (λ x. x.plans) e, ap (λ x. x.settings) e)
turn_plans c d (takes w k a x idle next fits begun e) = (ap (λ x. x.plans) e, ap (λ x. x.settings) e)
