-- Renewing, on the core's side and on the state's.
use Rattle.std.proofs.Common.{◌≡◌, ◌∙◌, suc, ◌^◌, ◌≤◌, ◌&&◌, Option, Some, None, List, [], ◌∷◌}
use Rattle.std.proofs.Common.{length, refl, sym, ap, subst, arith}
use Rattle.std.specs.Prelude.{slice_get, option_map, is_none}
use Rattle.std.specs.List.{list_all}
use Rattle.pp_cert.specs.Accepted.{Acceptance}
use Rattle.pp_frames.specs.Least.{least_below}
use Rattle.pp_frames.specs.Marks.{page_count, stamp_of, has_reached, first_stamped}
use Rattle.pp_model.specs.Pool.{Running, State}
use Rattle.pp_model.specs.Turns.{is_idle}
use Rattle.pp_settings.specs.Limits.{mark_limit}
use Rattle.pp_model.specs.Renewing.{is_at_rest, first_high_page, renew_error_where, renew_error, renewed}
use Rattle.pp_model.proofs.Journeys.{renewed_reached}
use Rattle.pp_model.proofs.MarkChanges.{count_told}
use Rattle.pp_model.proofs.Rest.{Rests, can_renew, bound_renews}
use Rattle.pp_model.proofs.Spans.{flushes_small}
use Rattle.pp_core.specs.declared.seat.Seat.{Seat}
use Rattle.pp_core.specs.declared.table.Flush.{Flush}
use Rattle.pp_core.specs.Parts.{Parts}
use Rattle.pp_core.specs.StandsFor.{in_flight_as, FitsSeat, FitsCrew, StandsFor, IsKept}
use Rattle.pp_core.specs.Renewals.{is_resting, renew_fault, kept_plans, renewed_parts, Renews}
use Rattle.pp_core.proofs.PlanTies.{none_told}
use Rattle.pp_core.proofs.Gathered.{bundles_kept}
use Rattle.pp_core.proofs.OpeningTies.{equal_places}
use Rattle.pp_core.proofs.QueryTies.{mark_told}

-- ---- why a core isn't renewed

seat_idle : (ps : List Acceptance) (x : Option Seat) (y : Option Running) → FitsSeat ps x y → is_none x ≡ is_idle y
seat_idle ps None None h = refl
seat_idle ps None (Some r) h = absurd h
seat_idle ps (Some x) None h = absurd h
seat_idle ps (Some x) (Some r) h = refl

seats_idle : (ps : List Acceptance) (xs : List (Option Seat)) (ys : List (Option Running)) → FitsCrew ps xs ys
    → list_all is_none xs ≡ list_all is_idle ys
seats_idle ps [] [] h = refl
seats_idle ps [] (y ∷ ys) h = let size = h.size in absurd (omega (arith, size))
seats_idle ps (x ∷ xs) [] h = let size = h.size in absurd (omega (arith, size))
seats_idle ps (x ∷ xs) (y ∷ ys) h =
    let rest : FitsCrew ps xs ys = record { size = omega (arith, h.size); each = λ w. h.each (suc w) } in
    λ i. seat_idle ps x y (h.each 0 x y refl refl) i && seats_idle ps xs ys rest i

flush_idle : (f : Option Flush) → is_none (option_map in_flight_as f) ≡ is_none f
flush_idle None = refl
flush_idle (Some x) = refl

rests_alike : (f : Parts) (s : State) → StandsFor f s → is_at_rest s ≡ is_resting f
rests_alike f s st = λ i.
    none_told f s st i && sym (seats_idle f.plans f.seats s.seats st.seats) i
    && (ap is_none (sym st.flush) ∙ flush_idle f.flush) i

high_alike : (f : Parts) (s : State) → StandsFor f s → first_high_page s ≡ first_stamped f.marks mark_limit
high_alike f s st =
    (λ i. least_below (λ q. has_reached mark_limit (sym (mark_told f s st q) i)) (length s.notes))
    ∙ ap (least_below (λ q. has_reached mark_limit (stamp_of f.marks q)))
    (sym (count_told s) ∙ ap page_count (sym st.marks))

pub fault_is : (f : Parts) (s : State) → StandsFor f s → renew_error s ≡ renew_fault f
fault_is f s st = λ i. renew_error_where (rests_alike f s st i) (high_alike f s st i)

-- ---- a core that is renewed

-- Twice the flushes of a life fit 64 bits.
pub flushes_few : (f : Parts) → IsKept f → f.flushes ≤ 2 ^ 59
flushes_few f k =
    let settings = k.state.settings in
    omega (arith, k.stands.flushes, flushes_small settings.span settings.flushes k.stands.reached.settings.flushes)

empty_seat : (ps qs : List Acceptance) (x : Option Seat) → FitsSeat ps x None → FitsSeat qs x None
empty_seat ps qs None h = tt
empty_seat ps qs (Some x) h = absurd h

empty_crew : (ps qs : List Acceptance) (s : State) (xs : List (Option Seat)) → Rests s → FitsCrew ps xs s.seats
    → FitsCrew qs xs s.seats
empty_crew ps qs s xs r h = record {
  size = h.size;
  each = λ w x y l e.
      let idle : None ≡ y = equal_places (length s.seats) w None y (sym (ap (λ ys. slice_get ys w) r.seats) ∙ e) in
      subst (FitsSeat qs x) idle (empty_seat ps qs x (subst (FitsSeat ps x) (sym idle) (h.each w x y l e)));
}

renewed_stands : (f : Parts) (s : State) → StandsFor f s → renew_error s ≡ None → StandsFor (renewed_parts f) (renewed s)
renewed_stands f s st e = record {
  reached = renewed_reached s st.reached e;
  layout = st.layout;
  span = st.span;
  flushes = st.flushes;
  flushes_left = st.flushes;
  plans = record { waits = refl; submitted = refl; all = λ q. ap (λ k. kept_plans k f.plans) (st.span ∙ q) };
  taken = refl;
  seats = empty_crew f.plans (kept_plans f.span f.plans) s f.seats (can_renew s e).rests st.seats;
  lists = st.lists;
  marks = st.marks;
  bundles = bundles_kept f.bundles s (renewed s) st.bundles refl refl;
  pages = st.pages;
  in_flight = st.in_flight;
  flush = st.flush;
  running = st.running;
  need = omega (arith, st.flushes);
  budget = omega (arith, st.flushes, bound_renews s e);
}

pub renews : (f g : Parts) → renew_fault f ≡ None → g ≡ renewed_parts f → Renews f g
renews f g e is = record {
  allowed = λ s st. fault_is f s st ∙ e;
  stands = λ s st. subst (λ (h : Parts). StandsFor h (renewed s)) (sym is) (renewed_stands f s st (fault_is f s st ∙ e));
  parts = is;
}
