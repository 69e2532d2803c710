-- What a move does to the totals over all workers: of holdings by any weight, of pages that are loaded, and of victims
-- that are written back.
use Rattle.std.proofs.Common.{◌≡◌, ◌∙◌, ℕ, ◌+◌, Bool, true, false, eqb, cond, Option, Some, None}
use Rattle.std.proofs.Common.{List, [], ◌∷◌, refl, sym, ap, arith}
use Rattle.std.specs.Prelude.{slice_get, slice_set, sum_by, filter, unwrap_or, not}
use Rattle.std.proofs.lemmas.List.Sums.{sum_by-cons}
use Rattle.pp_plan.specs.declared.action.Action.{Action}
use Rattle.pp_cert.specs.declared.note.Held.{Held}
use Rattle.pp_cert.specs.Held.{Holding, Holdings, held}
use Rattle.pp_model.specs.Holders.{times}
use Rattle.pp_model.specs.Pool.{Stage, acting, writing, reading, leaving, Running, State}
use Rattle.pp_model.specs.Holders.{given_back, is_among, holdings, loading, in_flight, held_pages, is_shared}
use Rattle.pp_model.specs.Holders.{is_exclusive, takes, latched_by, flies, pins_of, readers_of, writers_of, errands_of}
use Rattle.pp_model.specs.Outcome.{at_stage, having_done}
use Rattle.pp_model.proofs.Sums.{sum_by-slice_set, times-cons, times-append}

-- ---- the totals

abbrev pub seat_weight : (Holding → ℕ) → Option Running → ℕ
seat_weight f None = 0
seat_weight f (Some r) = sum_by f (holdings r)

abbrev pub weight : State → (Holding → ℕ) → ℕ
weight s f = sum_by (seat_weight f) s.seats

abbrev pub seat_loads : Option Running → List ℕ
seat_loads None = []
seat_loads (Some r) = loading r.stage

abbrev pub loads_of : State → ℕ → ℕ
loads_of s q = sum_by (λ x. times q (seat_loads x)) s.seats

abbrev pub sent_in : Stage → List ℕ
sent_in acting = []
sent_in (writing slot page victim) = victim ∷ []
sent_in (reading slot page) = []
sent_in (leaving given) = []

abbrev pub seat_victims : Option Running → List ℕ
seat_victims None = []
seat_victims (Some r) = sent_in r.stage

abbrev pub victims_of : State → ℕ → ℕ
victims_of s q = sum_by (λ x. times q (seat_victims x)) s.seats

-- One for a holding of this page; and for one that is latched so.
abbrev pub on_page : ℕ → Holding → ℕ
on_page q h = cond (eqb h.page q) 1 0

abbrev pub latched_on : (Held → Bool) → ℕ → Holding → ℕ
latched_on is q h = cond (is h.held) (cond (eqb h.page q) 1 0) 0

-- ---- the definitions' counts are these totals

pub same_sums : {A : Type 0} (f g : A → ℕ) (xs : List A) → ((x : A) → f x ≡ g x) → sum_by f xs ≡ sum_by g xs
same_sums f g [] e = refl
same_sums f g (x ∷ xs) e = omega (arith, sum_by-cons f x xs, sum_by-cons g x xs, e x, same_sums f g xs e)

two_sums : {A : Type 0} (f g h : A → ℕ) (xs : List A) → ((x : A) → f x ≡ g x + h x)
    → sum_by f xs ≡ sum_by g xs + sum_by h xs
two_sums f g h [] e = refl
two_sums f g h (x ∷ xs) e =
    omega (arith, sum_by-cons f x xs, sum_by-cons g x xs, sum_by-cons h x xs, e x, two_sums f g h xs e)

times_held : (q : ℕ) (hs : Holdings) → times q (held_pages hs) ≡ sum_by (on_page q) hs
times_held q [] = refl
times_held q (h ∷ hs) = omega (
  arith,
  times-cons q h.page (held_pages hs),
  sum_by-cons
      (on_page q) h hs,
  times_held q hs,
)

times_latched : (is : Held → Bool) (q : ℕ) (hs : Holdings)
    → times q (held_pages (filter (λ h. is h.held) hs)) ≡ sum_by (latched_on is q) hs
times_latched is q [] = refl
times_latched is q (h ∷ hs) = go (is h.held) (times_latched is q hs) ∙ sym (sum_by-cons (latched_on is q) h hs)
  where
    go : (b : Bool) → times q (held_pages (filter (λ h. is h.held) hs)) ≡ sum_by (latched_on is q) hs
        → times q (held_pages (cond b (h ∷ filter (λ h. is h.held) hs) (filter (λ h. is h.held) hs)))
        ≡ cond b (cond (eqb h.page q) 1 0) 0 + sum_by (latched_on is q) hs
    go true e = omega (arith, times-cons q h.page (held_pages (filter (λ h. is h.held) hs)), e)
    go false e = omega (arith, e)

seat_takes : (q : ℕ) (x : Option Running) → times q (takes x) ≡ seat_weight (on_page q) x + times q (seat_loads x)
seat_takes q None = refl
seat_takes q (Some r) =
    omega (arith, times-append q (held_pages (holdings r)) (loading r.stage), times_held q (holdings r))

pub pins_are : (s : State) (q : ℕ) → pins_of s q ≡ weight s (on_page q) + loads_of s q
pins_are s q = two_sums (λ x. times q (takes x)) (seat_weight (on_page q)) (λ x. times q (seat_loads x)) s.seats
    (seat_takes q)

seat_flies : (q : ℕ) (x : Option Running) → times q (flies x) ≡ times q (seat_loads x) + times q (seat_victims x)
seat_flies q None = refl
seat_flies q (Some r) = go r.stage
  where
    go : (g : Stage) → times q (in_flight g) ≡ times q (loading g) + times q (sent_in g)
    go acting = refl
    go (writing slot page v) = omega (arith, times-cons q page (v ∷ []), times-cons q page [])
    go (reading slot page) = omega arith
    go (leaving given) = refl

pub errands_are : (s : State) (q : ℕ) → errands_of s q ≡ loads_of s q + victims_of s q
errands_are s q = two_sums (λ x. times q (flies x)) (λ x. times q (seat_loads x))
    (λ x. times q (seat_victims x)) s.seats (seat_flies q)

seat_latched : (is : Held → Bool) (q : ℕ) (x : Option Running)
    → times q (latched_by is x) ≡ seat_weight (latched_on is q) x
seat_latched is q None = refl
seat_latched is q (Some r) = times_latched is q (holdings r)

pub readers_are : (s : State) (q : ℕ) → readers_of s q ≡ weight s (latched_on is_shared q)
readers_are s q = same_sums (λ x. times q (latched_by is_shared x)) (seat_weight (latched_on is_shared q)) s.seats
    (seat_latched is_shared q)

pub writers_are : (s : State) (q : ℕ) → writers_of s q ≡ weight s (latched_on is_exclusive q)
writers_are s q = same_sums (λ x. times q (latched_by is_exclusive x)) (seat_weight (latched_on is_exclusive q)) s.seats
    (seat_latched is_exclusive q)

-- ---- one seat changes

-- The holdings of y are those of x without `out` and with `into`; loads and victims likewise.
pub record Swapped (x y : Option Running) (out into : Holdings) (lo li vo vi : List ℕ) : Type 0 where
  pub holds : (f : Holding → ℕ) → seat_weight f y + sum_by f out ≡ seat_weight f x + sum_by f into
  pub loads : (q : ℕ) → times q (seat_loads y) + times q lo ≡ times q (seat_loads x) + times q li
  pub victims : (q : ℕ) → times q (seat_victims y) + times q vo ≡ times q (seat_victims x) + times q vi

-- The same of all seats.
pub record Totals (s t : State) (out into : Holdings) (lo li vo vi : List ℕ) : Type 0 where
  pub holds : (f : Holding → ℕ) → weight t f + sum_by f out ≡ weight s f + sum_by f into
  pub loads : (q : ℕ) → loads_of t q + times q lo ≡ loads_of s q + times q li
  pub victims : (q : ℕ) → victims_of t q + times q vo ≡ victims_of s q + times q vi

pub totals : (s t : State) (w : ℕ) (x y : Option Running) (out into : Holdings) (lo li vo vi : List ℕ)
    → slice_get s.seats w ≡ Some x → t.seats ≡ slice_set s.seats w y → Swapped x y out into lo li vo vi
    → Totals s t out into lo li vo vi
totals s t w x y out into lo li vo vi has e c = record {
  holds = λ f. omega (
    arith,
    ap (sum_by (seat_weight f)) e,
    sum_by-slice_set
        (seat_weight f) s.seats w x y has,
    c.holds f,
  );
  loads = λ q.
      let f : Option Running → ℕ = λ z. times q (seat_loads z) in
      omega (arith, ap (sum_by f) e, sum_by-slice_set f s.seats w x y has, c.loads q);
  victims = λ q.
      let f : Option Running → ℕ = λ z. times q (seat_victims z) in
      omega (arith, ap (sum_by f) e, sum_by-slice_set f s.seats w x y has, c.victims q);
}

-- No seat changes.
pub no_totals : (s t : State) → t.seats ≡ s.seats → Totals s t [] [] [] [] [] []
no_totals s t e = record {
  holds = λ f. omega (arith, ap (sum_by (seat_weight f)) e);
  loads = λ q. omega (arith, ap (sum_by (λ z. times q (seat_loads z))) e);
  victims = λ q. omega (arith, ap (sum_by (λ z. times q (seat_victims z))) e);
}

-- A worker goes on to another stage, and has given the same slots back.
pub stage_swapped : (r : Running) (g : Stage) → given_back g ≡ given_back r.stage
    → Swapped (Some r) (Some (at_stage r g)) [] [] (loading r.stage) (loading g) (sent_in r.stage) (sent_in g)
stage_swapped r g e =
    let same : holdings (at_stage r g) ≡ holdings r = ap
    (λ given. filter (λ h. not (is_among given h)) (unwrap_or (held r.done) [])) e in
    record {
      holds = λ f. omega (arith, ap (sum_by f) same);
      loads = λ q. omega arith;
      victims = λ q. omega arith;
    }

-- A worker has done one action more.
pub did_swapped : (r : Running) (a : Action) (out into : Holdings)
    → ((f : Holding → ℕ) → sum_by f (holdings (having_done r a)) + sum_by f out ≡ sum_by f (holdings r) + sum_by f into)
    → Swapped (Some r) (Some (having_done r a)) out into (loading r.stage) [] (sent_in r.stage) []
did_swapped r a out into e = record { holds = e; loads = λ q. omega arith; victims = λ q. omega arith }

-- A worker has become idle.
pub idle_swapped : (r : Running) → Swapped (Some r) None (holdings r) [] (loading r.stage) [] (sent_in r.stage) []
idle_swapped r = record { holds = λ f. omega arith; loads = λ q. omega arith; victims = λ q. omega arith }
