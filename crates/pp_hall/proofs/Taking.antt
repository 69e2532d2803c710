-- A prepared plan that is submitted and taken at once.
use Rattle.std.proofs.Common.{◌≡◌, ◌∙◌, ℕ, zero, suc, ◌+◌, ◌≤◌, Bool, true, false, cond, List, [], ◌∷◌, ◌++◌, length}
use Rattle.std.proofs.Common.{Option, Some}
use Rattle.std.proofs.Common.{None, refl, sym, ap, subst, arith, add-one}
use Rattle.std.specs.Prelude.{slice_get, slice_set, slice_index_or, drop, map, nat_le, unwrap_or, sum_by, ◌&&◌}
use Rattle.std.proofs.lemmas.Bool.Decides.{nat_tests}
use Rattle.pp_cert.specs.Accepted.{Acceptance}
use Rattle.pp_model.specs.declared.refusals.SubmitError.{SubmitError}
use Rattle.pp_model.specs.declared.moves.Move.TheVariants.{Take}
use Rattle.pp_model.specs.declared.reply.Reply.TheVariants.{Taken}
use Rattle.pp_model.specs.Pool.{Running, State, waiting}
use Rattle.pp_model.specs.Budget.{peak_of, running_peaks}
use Rattle.pp_model.specs.Outcome.{Outcome}
use Rattle.pp_model.specs.Submitting.{submit_error, submitted, submitted_unless, after_submit}
use Rattle.pp_model.specs.Taking.{has_room, beginning, began, take_by, take_where}
use Rattle.pp_model.specs.Moves.{seat_of, outcome_of, reply_of, next_of}
use Rattle.pp_model.proofs.Sums.{sum_by-slice_set}
use Rattle.pp_core.specs.Queries.{is_idle, idle_by}
use Rattle.pp_vault.specs.declared.tokens.Chair.{Chair}
use Rattle.pp_vault.specs.declared.tokens.Session.{Session}
use Rattle.pp_vault.specs.declared.refusal.Refusal.{Refusal}
use Rattle.pp_vault.specs.Parts as vault
use Rattle.pp_vault.specs.StandsFor.{StandsFor}
use Rattle.pp_vault.specs.Submits as vault_submits
use Rattle.pp_vault.specs.Calls.{Call, stranger, asks, after_call, refusal_of, refusal_in}
use Rattle.pp_vault.specs.Fits.{take_call}
use Rattle.pp_pool.specs.declared.request.Request.TheVariants as request
use Rattle.pp_pool.specs.declared.response.Response.{Response}
use Rattle.pp_pool.specs.declared.response.BookAnswer.{BookAnswer}
use Rattle.pp_pool.specs.declared.response.BookAnswer.TheVariants as answer
use Rattle.pp_pool.specs.Performing.{ComesTo, is_no}
use Rattle.pp_ledger.specs.Sites.{Answers}
use Rattle.pp_hall.specs.Seatings.{Parts, IsSeating, NoPlanWaits, TakesPlan, pages_out, peak_at, peak_out, may_take}
use Rattle.pp_hall.specs.Seatings.{is_out_for}
use Rattle.pp_hall.proofs.Sums.{within_set, sums_below}

-- ---- no plan waits in any state, if none does in one

map_nil : {A B : Type 0} (f : A → B) (xs : List A) → map f xs ≡ [] → xs ≡ []
map_nil f [] e = refl
map_nil f (x ∷ xs) e = cc

pub none_waits : (v : vault.Parts) (s : State) → StandsFor v s → waiting s ≡ [] → NoPlanWaits v
none_waits v s stands none = λ t other.
    let same : map Some (waiting t) ≡ map Some (waiting s) =
    sym other.core.plans.waits ∙ stands.core.plans.waits in
    map_nil Some (waiting t) (same ∙ ap (map Some) none)

-- Then all plans were taken.
all_taken : (v : vault.Parts) (s : State) → StandsFor v s → waiting s ≡ [] → s.taken ≡ length s.plans
all_taken v s stands none =
    let places : v.core.waiting ≡ [] =
    map_nil (slice_get v.core.plans) v.core.waiting (stands.core.plans.waits ∙ ap (map Some) none) in
    omega (arith, stands.core.plans.submitted, ap length places)

-- ---- the first plan that waits

at_end : {A : Type 0} (xs : List A) (n : ℕ) (a : A) → n ≡ length xs → slice_get (xs ++ a ∷ []) n ≡ Some a
at_end [] zero a e = refl
at_end [] (suc n) a e = absurd (omega (arith, e))
at_end (x ∷ xs) zero a e = absurd (omega (arith, e))
at_end (x ∷ xs) (suc n) a e = at_end xs n a (omega (arith, e))

drop_end : {A : Type 0} (xs : List A) (n : ℕ) (a : A) → n ≡ length xs → drop (n + 1) (xs ++ a ∷ []) ≡ []
drop_end {A = A} xs n a e = rw add-one (go xs n e)
  where
    go : (ys : List A) (k : ℕ) → k ≡ length ys → drop (suc k) (ys ++ a ∷ []) ≡ []
    go [] zero e = refl
    go [] (suc k) e = absurd (omega (arith, e))
    go (y ∷ ys) zero e = absurd (omega (arith, e))
    go (y ∷ ys) (suc k) e = go ys k (omega (arith, e))

-- A worker that is idle has a seat with nothing in it.
seated : (s : State) (w : ℕ) → is_idle s w ≡ true → seat_of s w ≡ Some None
seated s w idle = go (seat_of s w) refl
  where
    go : (seat : Option (Option Running)) → seat_of s w ≡ seat → seat_of s w ≡ Some None
    go None e = let isnt : is_idle s w ≡ false = ap idle_by e in cc
    go (Some None) e = e
    go (Some (Some r)) e = let isnt : is_idle s w ≡ false = ap idle_by e in cc

-- The chair is out with the plan's peak at least.
out_for : (p : Option ℕ) (a : Acceptance) → is_out_for p (Some a) ≡ true → a.peak ≤ unwrap_or p 0
out_for None a e = cc
out_for (Some p) a e = grind (arith, nat_tests)

both : (a b : Bool) → (a && b) ≡ true → (a ≡ true) × (b ≡ true)
both true true e = (refl, refl)
both true false e = cc
both false b e = cc

module _ (x : Parts) (h : IsSeating x) (chair : Chair) (place number : ℕ) (a : Acceptance) (between : vault.Parts)
    (may : (s : State) → StandsFor x.vault s → may_take x chair.worker place s ≡ true)
    (submits : vault_submits.TakesPrepared x.vault place number a between) where
  abbrev w : ℕ
  w = chair.worker

  abbrev s : State
  s = h.state

  -- the state in which the plan waits, and the one in which the chair has it
  abbrev s1 : State
  s1 = submitted s a

  abbrev t : State
  t = began s1 w a

  may_here : (is_out_for (slice_index_or x.peaks w None) (slice_get x.vault.core.plans place) ≡ true)
      × (is_idle s w ≡ true)
  may_here = both _ _ (may s h.stands)

  peak : a.peak ≤ peak_out x.peaks w
  peak =
      out_for (slice_index_or x.peaks w None) a
      (ap (is_out_for (slice_index_or x.peaks w None)) (sym submits.core.plan) ∙ may_here.0)

  idle : seat_of s w ≡ Some None
  idle = seated s w may_here.1

  fits : (v : ℕ) → peak_at t v ≤ peak_out x.peaks v
  fits = within_set peak_of None s.seats w (Some (beginning s1 a)) (peak_out x.peaks) h.fits peak

  room : has_room s1 a ≡ true
  room =
      let sum = sum_by-slice_set peak_of s.seats w None (Some (beginning s1 a)) idle in
      let below : sum_by peak_of t.seats ≤ pages_out x.peaks = sums_below t.seats x.peaks fits in
      let frames : x.frames ≡ s.settings.layout.frames = h.frames in
      let fit : a.peak + running_peaks s ≤ s.settings.layout.frames = omega (arith, h.within) in
      grind (arith, nat_tests)

  -- Taking is answered so.
  answered : outcome_of s1 (Take w) ≡ record { reply = Taken s.taken; state = t }
  answered =
      (λ i. take_by s1 w (idle i) (at_end s.plans s.taken a (all_taken x.vault s h.stands h.straight) i))
      ∙ ap (take_where s1 w a) room

  asked : take_call w s1 ≡ asks (Take w)
  asked = ap (λ (b : Bool). cond b (asks (Take w)) stranger) may_here.1

  unrefused : refusal_of s1 (take_call w s1) ≡ None
  unrefused = ap (refusal_of s1) asked ∙ ap (λ (o : Outcome). refusal_in o.reply) answered

  after : after_call s1 (take_call w s1) ≡ t
  after = ap (after_call s1) asked ∙ ap (λ (o : Outcome). o.state) answered

  stands_between : StandsFor between s1
  stands_between =
      subst (StandsFor between) (ap (λ (e : Option SubmitError). submitted_unless e s a) (submits.takes.allowed s h.stands))
      (submits.takes.stands s h.stands)

  acts : (out : BookAnswer) (new : vault.Parts) → ComesTo between (request.Take chair) out new
      → (session : Session) × (out ≡ answer.Acts session)
  acts (answer.Acts y) new c = (y, refl)
  acts (answer.No back why) new c = let refused = c.refuses s1 stands_between in cc (refused, unrefused)
  acts (answer.Idle y) new c = absurd c
  acts (answer.Leaves y) new c = absurd c
  acts (answer.Pinned y g) new c = absurd c
  acts (answer.Opened y g) new c = absurd c
  acts (answer.Joined y) new c = absurd c
  acts (answer.Shared y g) new c = absurd c
  acts (answer.Exclusive y g) new c = absurd c
  acts (answer.Away e) new c = absurd c
  acts (answer.Flushed clean) new c = absurd c

  module _ (response : Response) (new : vault.Parts) (answers : Answers between (request.Take chair) response new) where
    pub taken_seats : IsSeating (record x { vault = new })
    taken_seats = record {
      state = t;
      stands = subst (StandsFor new) after (answers.stands s1 stands_between);
      endless = h.endless;
      straight = drop_end s.plans s.taken a (all_taken x.vault s h.stands h.straight);
      frames = h.frames;
      fits = fits;
      within = h.within;
    }

    pub not_refused : {A : Type 0} → is_no response.answer ≡ true → A
    not_refused refused =
        let acting = acts response.answer new answers.answer in
        let done : is_no response.answer ≡ false = ap is_no acting.1 in
        cc

    pub takes_plan : TakesPlan x chair place response (record x { vault = new })
    takes_plan =
        let acting = acts response.answer new answers.answer in
        record {
          plan = a;
          number = number;
          between = between;
          may = may;
          submits = submits;
          answers = answers;
          session = acting.0;
          acts = acting.1;
          straight = none_waits new t (subst (StandsFor new) after (answers.stands s1 stands_between))
              (drop_end s.plans s.taken a (all_taken x.vault s h.stands h.straight));
          rest = refl;
        }

-- ---- as the code has it

-- A test of the seating as it was, of the chair's number, tells of the seating's parts.
pub may_is : (x0 x : Parts) → x ≡ x0 → (b : Bool) (n chair place : ℕ) → n ≡ chair → b ≡ true
    → ((state : State) → StandsFor x0.vault state → b ≡ may_take x0 n place state)
    → (state : State) → StandsFor x.vault state → may_take x chair place state ≡ true
may_is x0 x e b n chair place same is_so told state stands =
    subst (λ (p : Parts). may_take p chair place state ≡ true) (sym e)
    (subst (λ (v : ℕ). may_take x0 v place state ≡ true) same
    (sym (told state (subst (λ (p : Parts). StandsFor p.vault state) e stands)) ∙ is_so))
