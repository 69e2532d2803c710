-- What each call keeps of a vault and its chairs.
use Rattle.std.proofs.Common.{◌≡◌, ◌∙◌, ℕ, zero, suc, ◌+◌, ◌-◌, ◌≤◌, Bool, true, false, List, [], ◌∷◌, Option, Some}
use Rattle.std.proofs.Common.{None, Result, Ok, Err}
use Rattle.std.proofs.Common.{refl, sym, ap, subst, arith}
use Rattle.std.specs.Prelude.{slice_get, slice_set, slice_index_or, unwrap_or, replicate, IfOk, OnErr, IfErr, OnOk}
use Rattle.std.specs.Prelude.{sum_by}
use Rattle.std.proofs.lemmas.List.Sums.{sum_by-cons}
use Rattle.pp_settings.specs.declared.span.Span.TheVariants.{Bounded}
use Rattle.pp_settings.specs.Settings.{Configuration}
use Rattle.pp_model.specs.Pool.{Running, State, opening}
use Rattle.pp_model.specs.Budget.{peak_of}
use Rattle.pp_model.specs.Moves.{seat_of}
use Rattle.pp_core.specs.Opening.{kept_of}
use Rattle.pp_core.specs.Queries.{is_idle, idle_by}
use Rattle.pp_vault.specs.declared.tokens.Session.{Session}
use Rattle.pp_vault.specs.declared.guards.ReadGuard.{ReadGuard}
use Rattle.pp_vault.specs.Parts as vault
use Rattle.pp_vault.specs.StandsFor.{StandsFor}
use Rattle.pp_vault.specs.Calls.{Call, after_call}
use Rattle.pp_vault.specs.Reads.{Reads, EndsRead}
use Rattle.pp_pool.specs.declared.request.Request.{Request}
use Rattle.pp_pool.specs.declared.response.Response.{Response}
use Rattle.pp_pool.specs.Requests.{call_of}
use Rattle.pp_ledger.specs.Sites.{Answers}
use Rattle.pp_hall.specs.declared.counts.Counts.{Counts}
use Rattle.pp_hall.specs.Seatings.{Parts, IsSeating, pages_out, peak_at, peak_out, room_of, room_with, first_home}
use Rattle.pp_hall.specs.Seatings.{out_with}
use Rattle.pp_hall.specs.Seatings.{come_home}
use Rattle.pp_hall.specs.Inside.{SeatingKeeps}
use Rattle.pp_hall.proofs.Sums.{sent_out, taken_in, placed_get, get_placed}
use Rattle.pp_hall.proofs.Steps.{called}

-- ---- requests

pub performed : (x : Parts) (out : ℕ) (k : SeatingKeeps x out) (asked : Request) (response : Response) (new : vault.Parts)
    (counts : Counts) → Answers x.vault asked response new → SeatingKeeps (record x { vault = new; counts = counts }) out
performed x out k asked response new counts answers = record {
  seating =
      called x new counts k.seating (call_of x.vault asked)
      (answers.stands k.seating.state k.seating.stands);
  sum = k.sum;
}

-- Two calls, one behind the other.
two : (x : Parts) (out : ℕ) (k : SeatingKeeps x out) (between new : vault.Parts) (counts : Counts) (first second : State → Call)
    → ((s : State) → StandsFor x.vault s → StandsFor between (after_call s (first s)))
    → ((s : State) → StandsFor between s → StandsFor new (after_call s (second s)))
    → SeatingKeeps (record x { vault = new; counts = counts }) out
two x out k between new counts first second to on =
    let h = called x between x.counts k.seating first (to k.seating.state k.seating.stands) in
    record { seating = called (record x { vault = between }) new counts h second (on h.state h.stands); sum = k.sum }

pub reads_keep : (x : Parts) (out : ℕ) (k : SeatingKeeps x out) (session : Session) (page : ℕ) (new : vault.Parts) (y : Session)
    (h : ReadGuard) (frame : ℕ) (counts : Counts) → Reads x.vault session page new y h frame
    → SeatingKeeps (record x { vault = new; counts = counts }) out
reads_keep x out k session page new y h frame counts r =
    two x out k r.between new counts _ _ r.fixes.0.stands r.latches.does.stands

pub ends_keep : (x : Parts) (out : ℕ) (k : SeatingKeeps x out) (session : Session) (guard : ReadGuard)
    (result : Result (Session × ℕ) (Session × ReadGuard)) (new : vault.Parts)
    → IfOk result (λ now. EndsRead x.vault session guard new now.0 now.1) → OnErr result (new ≡ x.vault)
    → SeatingKeeps (record x { vault = new }) out
ends_keep x out k session guard (Ok now) new r same =
    two x out k r.between new x.counts _ _ r.unlatches.does.stands r.unfixes.does.stands
ends_keep x out k session guard (Err e) new r same =
    subst (λ (v : vault.Parts). SeatingKeeps (record x { vault = v }) out) (sym same) k

-- ---- a new one

none_out : (n : ℕ) → pages_out (replicate n None) ≡ 0
none_out zero = refl
none_out (suc n) = omega (arith, sum_by-cons (λ (q : Option ℕ). unwrap_or q 0) None (replicate n None), none_out n)

nobody_at : (n w : ℕ) → peak_of (slice_index_or (replicate n None) w None) ≡ 0
nobody_at zero w = refl
nobody_at (suc n) zero = refl
nobody_at (suc n) (suc w) = nobody_at n w

pub opened : (c : Configuration) (v : vault.Parts) (frames : ℕ) (peaks : List (Option ℕ)) (counts : Counts)
    → StandsFor v (opening (kept_of c)) → (c.span ≡ Bounded → ⊥) → frames ≡ c.frames → peaks ≡ replicate c.workers None
    → SeatingKeeps (record { vault = v; frames = frames; peaks = peaks; counts = counts }) 0
opened c v frames peaks counts stands endless same none =
    let nothing : pages_out peaks ≡ 0 = ap pages_out none ∙ none_out c.workers in
    record {
      seating = record {
        state = opening (kept_of c);
        stands = stands;
        endless = endless;
        straight = refl;
        frames = same;
        fits = λ w. omega (arith, nobody_at c.workers w);
        within = omega arith;
      };
      sum = sym nothing;
    }

-- ---- chairs

-- A chair that is sent out has no smaller a peak than it had at home.
raises : (peaks : List (Option ℕ)) (chair peak w : ℕ) → slice_get peaks chair ≡ Some None
    → peak_out peaks w ≤ peak_out (slice_set peaks chair (Some peak)) w
raises [] chair peak w home = cc
raises (p ∷ ps) zero peak zero home = let none : p ≡ None = cc in omega (arith, ap (λ (q : Option ℕ). unwrap_or q 0) none)
raises (p ∷ ps) zero peak (suc w) home = omega arith
raises (p ∷ ps) (suc c) peak zero home = omega arith
raises (p ∷ ps) (suc c) peak (suc w) home = raises ps c peak w home

pub sent_keeps : (x : Parts) (out : ℕ) (k : SeatingKeeps x out) (chair peak : ℕ) → slice_get x.peaks chair ≡ Some None
    → peak ≤ room_of x → first_home x.peaks ≡ Some chair → SeatingKeeps (out_with x chair peak) (out + peak)
sent_keeps x out k chair peak home fits first =
    let h = k.seating in
    let le : peak ≤ x.frames - pages_out x.peaks =
    subst (λ (o : Option ℕ). peak ≤ room_with o (x.frames - pages_out x.peaks)) first fits in
    let within : pages_out x.peaks ≤ x.frames = h.within in
    let sum : pages_out (slice_set x.peaks chair (Some peak)) ≡ pages_out x.peaks + peak = sent_out x.peaks chair peak home in
    record {
      seating = record {
        state = h.state;
        stands = h.stands;
        endless = h.endless;
        straight = h.straight;
        frames = h.frames;
        fits = λ w. omega (arith, h.fits w, raises x.peaks chair peak w home);
        within = omega arith;
      };
      sum = omega (arith, k.sum);
    }

-- Where a bound is zero at a chair, it holds though that chair comes home.
lowered : (bound : ℕ → ℕ) (peaks : List (Option ℕ)) (chair : ℕ) → ((w : ℕ) → bound w ≤ peak_out peaks w) → bound chair ≡ 0
    → (w : ℕ) → bound w ≤ peak_out (slice_set peaks chair None) w
lowered bound [] chair le none w = le w
lowered bound (p ∷ ps) zero le none zero = omega (arith, none)
lowered bound (p ∷ ps) zero le none (suc w) = le (suc w)
lowered bound (p ∷ ps) (suc c) le none zero = le zero
lowered bound (p ∷ ps) (suc c) le none (suc w) = lowered (λ k. bound (suc k)) ps c (λ k. le (suc k)) none w

idle_peak : (s : State) (w : ℕ) → is_idle s w ≡ true → peak_at s w ≡ 0
idle_peak s w idle = go (seat_of s w) refl
  where
    go : (seat : Option (Option Running)) → seat_of s w ≡ seat → peak_at s w ≡ 0
    go None e = let isnt : is_idle s w ≡ false = ap idle_by e in cc
    go (Some None) e = ap peak_of (get_placed s.seats w None e)
    go (Some (Some r)) e = let isnt : is_idle s w ≡ false = ap idle_by e in cc

pub home_keeps : (x : Parts) (out : ℕ) (k : SeatingKeeps x out) (chair peak : ℕ) → slice_index_or x.peaks chair None ≡ Some peak
    → ((s : State) → StandsFor x.vault s → is_idle s chair ≡ true) → SeatingKeeps (come_home x chair) (out - peak)
home_keeps x out k chair peak away idle =
    let h = k.seating in
    let sum : pages_out (slice_set x.peaks chair None) + peak ≡ pages_out x.peaks =
    taken_in x.peaks chair peak (placed_get x.peaks chair peak away) in
    record {
      seating = record {
        state = h.state;
        stands = h.stands;
        endless = h.endless;
        straight = h.straight;
        frames = h.frames;
        fits = lowered (peak_at h.state) x.peaks chair h.fits (idle_peak h.state chair (idle h.state h.stands));
        within = omega (arith, h.within);
      };
      sum = omega (arith, k.sum);
    }
