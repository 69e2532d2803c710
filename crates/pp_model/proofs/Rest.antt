-- What holds where a pool is at rest, and where it can be renewed: no plan waits, all seats are empty, no flush is in
-- flight, and every known mark is below the limit.
use Rattle.std.proofs.Common.{◌≡◌, ◌∙◌, ℕ, zero, suc, ◌+◌, ◌*◌, ◌^◌, ◌<◌, ◌≤◌, ◌&&◌, ◌⊎◌, Bool, true, false, cond, Option, Some, None}
use Rattle.std.proofs.Common.{List, [], ◌∷◌, length, refl, sym, ap, subst, inl, inr, arith}
use Rattle.std.specs.Prelude.{slice_get, sum_by, replicate, nat_le, nat_lt, option_map, is_none, IsSome}
use Rattle.std.specs.List.{list_all}
use Rattle.std.proofs.lemmas.Bool.{cases_lt, false≢true}
use Rattle.std.proofs.lemmas.Bool.Decides.{nat_tests}
use Rattle.std.proofs.lemmas.List.{get_or_past}
use Rattle.std.proofs.lemmas.List.Sums.{sum_by-cons}
use Rattle.pp_frames.specs.Least.{least_below, or_next}
use Rattle.pp_frames.specs.Marks.{has_reached}
use Rattle.pp_model.specs.declared.refusals.RenewError.{RenewError}
use Rattle.pp_model.specs.declared.refusals.RenewError.TheVariants.{NotAtRest, MarkTooHigh}
use Rattle.pp_model.specs.declared.turn.Turn.{Turn}
use Rattle.pp_model.specs.Pool.{Note, untouched, Running, Flush, State, known_mark}
use Rattle.pp_model.specs.Budget.{left_to, left_to_flush, bound}
use Rattle.pp_model.specs.Moves.{seat_of}
use Rattle.pp_model.specs.Turns.{is_idle, IsUnderWay}
use Rattle.pp_model.specs.Renewing.{is_at_rest, first_high_page, renew_error_where, renew_error, renewed, renewed_unless}
use Rattle.pp_model.specs.Laws.{RenewalSetsBound, RenewalLeaves, RenewalAnswers}
use Rattle.pp_model.specs.Ready.{RenewalKeeps}
use Rattle.pp_model.specs.Ready.{Keeps}

-- ---- at rest

both_true : (a b : Bool) → a && b ≡ true → (a ≡ true) × (b ≡ true)
both_true true b e = (refl, e)
both_true false b e = absurd (false≢true e)

idle_seats : (xs : List (Option Running)) → list_all is_idle xs ≡ true → xs ≡ replicate (length xs) None
idle_seats [] e = refl
idle_seats (None ∷ xs) e = ap (λ ys. None ∷ ys) (idle_seats xs e)
idle_seats (Some r ∷ xs) e = absurd (false≢true e)

no_flush : (o : Option Flush) → is_none o ≡ true → o ≡ None
no_flush None e = refl
no_flush (Some f) e = absurd (false≢true e)

pub record Rests (s : State) : Type 0 where
  pub waits : length s.plans ≤ s.taken
  pub seats : s.seats ≡ replicate (length s.seats) None
  pub flush : s.flush ≡ None

pub rests : (s : State) → is_at_rest s ≡ true → Rests s
rests s e =
    let both = both_true (nat_le (length s.plans) s.taken && list_all is_idle s.seats) (is_none s.flush) e in
    let first = both_true (nat_le (length s.plans) s.taken) (list_all is_idle s.seats) both.0 in
    let le = first.0 in
    record {
      waits = grind (arith, nat_tests);
      seats = idle_seats s.seats first.1;
      flush = no_flush s.flush both.1;
    }

none_runs : (n w : ℕ) (r : Running) → slice_get (replicate n None) w ≡ Some (Some r) → ⊥
none_runs zero w r e = cc
none_runs (suc n) zero r e = cc
none_runs (suc n) (suc w) r e = none_runs n w r e

-- No worker is in a plan.
pub nobody_runs : (s : State) → Rests s → (w : ℕ) (r : Running) → seat_of s w ≡ Some (Some r) → ⊥
nobody_runs s h w r e = none_runs (length s.seats) w r (sym (ap (λ xs. slice_get xs w) h.seats) ∙ e)

-- Nothing is under way.
pub nothing_under_way : (s : State) → Rests s → IsUnderWay s → ⊥
nothing_under_way s h (inl lt) = absurd (omega (arith, lt, h.waits))
nothing_under_way s h (inr (inl (w, r, e))) = nobody_runs s h w r e
nothing_under_way s h (inr (inr some)) =
    false≢true (subst (λ (o : Option Flush). IsSome o) h.flush some)

all_idle : (xs : List (Option Running)) → ((w : ℕ) (r : Running) → slice_get xs w ≡ Some (Some r) → ⊥)
    → list_all is_idle xs ≡ true
all_idle [] none = refl
all_idle (None ∷ xs) none = all_idle xs (λ w. none (suc w))
all_idle (Some r ∷ xs) none = absurd (none 0 r refl)

-- A pool of which nothing is under way is at rest.
pub is_rest : (s : State) → (IsUnderWay s → ⊥) → is_at_rest s ≡ true
is_rest s none = go (nat_le (length s.plans) s.taken) refl s.flush refl (all_idle s.seats (λ w r e. none (inr (inl (w, r, e)))))
  where
    go : (b : Bool) → nat_le (length s.plans) s.taken ≡ b → (o : Option Flush) → s.flush ≡ o
        → list_all is_idle s.seats ≡ true → b && list_all is_idle s.seats && is_none o ≡ true
    go false e o f idle = absurd (none (inl (grind (arith, nat_tests))))
    go true e None f idle = ap (λ b. b && true) idle
    go true e (Some x) f idle = absurd (none (inr (inr (subst (λ (p : Option Flush). IsSome p) (sym f) refl))))

-- ---- renewals

passed : (rests : Bool) (high : Option ℕ) → renew_error_where rests high ≡ None → (rests ≡ true) × (high ≡ None)
passed false high e = cc
passed true None e = (refl, refl)
passed true (Some page) e = cc

below : (o : Option ℕ) (m : ℕ) → o ≡ Some m → has_reached (2 ^ 63) o ≡ false → m < 2 ^ 63
below None m e low = cc
below (Some k) m e low = let same : k ≡ m = cc in grind (arith, nat_tests)

none_next : (test : ℕ → Bool) (n : ℕ) (o : Option ℕ) → or_next test n o ≡ None → (o ≡ None) × (test n ≡ false)
none_next test n None e = go (test n) refl e
  where
    go : (b : Bool) → test n ≡ b → cond b (Some n) None ≡ None → (◌≡◌ {A = Option ℕ} None None) × (test n ≡ false)
    go true f g = cc
    go false f g = (refl, f)
none_next test n (Some k) e = cc

one_below : (test : ℕ → Bool) (n k : ℕ) → (k < n → test k ≡ false) → test n ≡ false → k < suc n → (k < n) ⊎ (n ≤ k)
    → test k ≡ false
one_below test n k below here lt (inl less) = below less
one_below test n k below here lt (inr past) = let same : k ≡ n = omega (arith, lt, past) in ap test same ∙ here

none_below : (test : ℕ → Bool) (n : ℕ) → least_below test n ≡ None → (k : ℕ) → k < n → test k ≡ false
none_below test zero e k lt = absurd (omega (arith, lt))
none_below test (suc n) e k lt =
    let next = none_next test n (least_below test n) e in
    one_below test n k (λ less. none_below test n next.0 k less) next.1 lt (cases_lt k n)

pub record CanRenew (s : State) : Type 0 where
  pub rests : Rests s
  pub low : (q m : ℕ) → known_mark s q ≡ Some m → m < 2 ^ 63

pub can_renew : (s : State) → renew_error s ≡ None → CanRenew s
can_renew s e =
    let both = passed (is_at_rest s) (first_high_page s) e in
    record { rests = rests s both.0; low = λ q m f. go q m both.1 f (cases_lt q (length s.notes)) }
  where
    go : (q m : ℕ) → first_high_page s ≡ None → known_mark s q ≡ Some m → (q < length s.notes) ⊎ (length s.notes ≤ q)
        → m < 2 ^ 63
    go q m none f (inl less) =
        below (known_mark s q) m f
        (none_below (λ page. has_reached (2 ^ 63) (known_mark s page)) (length s.notes) none q less)
    go q m none f (inr past) =
        let unknown : None ≡ Some m = sym (ap (λ (n : Note). n.mark) (get_or_past s.notes q untouched past)) ∙ f in cc

pub idle_left : (n : ℕ) → sum_by left_to (replicate n None) ≡ 0
idle_left zero = refl
idle_left (suc n) = omega (arith, sum_by-cons left_to None (replicate n None), idle_left n)

-- The bound of a pool that is renewed is that of its flushes.
pub bound_renews : (s : State) → renew_error s ≡ None → bound (renewed s) ≡ 2 * s.settings.flushes
bound_renews s e =
    let r = (can_renew s e).rests in
    let none : sum_by left_to s.seats ≡ 0 = ap (sum_by left_to) r.seats ∙ idle_left (length s.seats) in
    omega (arith, none, ap left_to_flush r.flush)

pub renewal_sets_bound : (s : State) → RenewalSetsBound s
renewal_sets_bound s e = ap (λ o. bound (renewed_unless o s)) e ∙ bound_renews s e

-- ---- when it is done, and why it isn't

some_high : (o : Option ℕ) → has_reached (2 ^ 63) o ≡ true → (m : ℕ) × (o ≡ Some m) × (2 ^ 63 ≤ m)
some_high None e = absurd (false≢true e)
some_high (Some m) e = (m, refl, (let le = e in grind (arith, nat_tests)))

not_high : (o : Option ℕ) → ((m : ℕ) → o ≡ Some m → m < 2 ^ 63) → has_reached (2 ^ 63) o ≡ false
not_high None low = refl
not_high (Some m) low = let lt = low m refl in grind (arith, nat_tests)

all_low : (s : State) → ((page mark : ℕ) → known_mark s page ≡ Some mark → mark < 2 ^ 63) → first_high_page s ≡ None
all_low s low = go (length s.notes)
  where
    go : (n : ℕ) → least_below (λ page. has_reached (2 ^ 63) (known_mark s page)) n ≡ None
    go zero = refl
    go (suc n) =
        ap (or_next (λ page. has_reached (2 ^ 63) (known_mark s page)) n) (go n)
        ∙ ap (λ b. cond b (Some n) None) (not_high (known_mark s n) (low n))

-- The first that is found passes, and none below it does.
record Found (test : ℕ → Bool) (n i : ℕ) : Type 0 where
  passes : test i ≡ true
  below : i < n
  fails : (k : ℕ) → k < i → test k ≡ false

found_here : (test : ℕ → Bool) (n i : ℕ) (b : Bool) → test n ≡ b → least_below test n ≡ None
    → cond b (Some n) None ≡ Some i → Found test (suc n) i
found_here test n i true f none g =
    let same : n ≡ i = cc in
    subst (Found test (suc n)) same (record { passes = f; below = omega arith; fails = none_below test n none })
found_here test n i false f none g = cc

found_next : (test : ℕ → Bool) (n i : ℕ) (o : Option ℕ) → least_below test n ≡ o
    → ((k : ℕ) → least_below test n ≡ Some k → Found test n k) → or_next test n o ≡ Some i → Found test (suc n) i
found_next test n i None f found g = found_here test n i (test n) refl f g
found_next test n i (Some k) f found g =
    let same : k ≡ i = cc in
    let before : Found test n i = subst (Found test n) same (found k f) in
    record { passes = before.passes; below = omega (arith, before.below); fails = before.fails }

found_below : (test : ℕ → Bool) (n i : ℕ) → least_below test n ≡ Some i → Found test n i
found_below test zero i e = cc
found_below test (suc n) i e = found_next test n i (least_below test n) refl (λ k f. found_below test n k f) e

not_both : (top m : ℕ) → m < top → top ≤ m → ⊥
not_both top m a b = absurd (omega arith)

high_of : (s : State) (page : ℕ) → first_high_page s ≡ Some page
    → ((mark : ℕ) × (known_mark s page ≡ Some mark) × (2 ^ 63 ≤ mark))
    × ((q mark : ℕ) → known_mark s q ≡ Some mark → 2 ^ 63 ≤ mark → page ≤ q)
high_of s page e =
    let found = found_below (λ q. has_reached (2 ^ 63) (known_mark s q)) (length s.notes) page e in (
      some_high (known_mark s page) found.passes,
      λ q mark is high. least q mark is high found.fails (cases_lt q page),
    )
  where
    least : (q mark : ℕ) → known_mark s q ≡ Some mark → 2 ^ 63 ≤ mark
        → ((k : ℕ) → k < page → has_reached (2 ^ 63) (known_mark s k) ≡ false) → (q < page) ⊎ (page ≤ q) → page ≤ q
    least q mark is high fails (inl lt) =
        let low = below (known_mark s q) mark is (fails q lt) in absurd (not_both (2 ^ 63) mark low high)
    least q mark is high fails (inr le) = le

named : (rests : Bool) (high : Option ℕ) (page : ℕ) → renew_error_where rests high ≡ Some (MarkTooHigh page)
    → high ≡ Some page
named false high page e = cc
named true None page e = cc
named true (Some q) page e = let same : q ≡ page = cc in ap (λ (p : ℕ). Some p) same

not_resting : (rests : Bool) (high : Option ℕ) → renew_error_where rests high ≡ Some NotAtRest → rests ≡ false
not_resting false high e = refl
not_resting true None e = cc
not_resting true (Some page) e = cc

pub renewal_answers : (s : State) → RenewalAnswers s
renewal_answers s = record {
  done = (
    λ e. ((passed (is_at_rest s) (first_high_page s) e).0, (can_renew s e).low),
    λ h. (λ i. renew_error_where (h.0 i) (all_low s h.1 i)),
  );
  under_way = (not_resting (is_at_rest s) (first_high_page s), λ e. ap (λ b. renew_error_where b (first_high_page s)) e);
  high = λ page e. high_of s page (named (is_at_rest s) (first_high_page s) page e);
}

-- ---- what it leaves

pub renewal_leaves : (s : State) → RenewalLeaves s
renewal_leaves s = go (renew_error s) refl
  where
    go : (o : Option RenewError) → renew_error s ≡ o → RenewalLeaves s
    go o e = record {
      settings = ap (λ p. (renewed_unless p s).settings) e ∙ settings o;
      seats = ap (λ p. (renewed_unless p s).seats) e ∙ seats o;
      flush = ap (λ p. (renewed_unless p s).flush) e ∙ flush o;
      lists = ap (λ p. (renewed_unless p s).lists) e ∙ lists o;
      notes = ap (λ p. (renewed_unless p s).notes) e ∙ notes o;
    }
      where
        settings : (o : Option RenewError) → (renewed_unless o s).settings ≡ s.settings
        settings None = refl
        settings (Some x) = refl

        seats : (o : Option RenewError) → (renewed_unless o s).seats ≡ s.seats
        seats None = refl
        seats (Some x) = refl

        flush : (o : Option RenewError) → (renewed_unless o s).flush ≡ s.flush
        flush None = refl
        flush (Some x) = refl

        lists : (o : Option RenewError) → (renewed_unless o s).lists ≡ s.lists
        lists None = refl
        lists (Some x) = refl

        notes : (o : Option RenewError) → (renewed_unless o s).notes ≡ s.notes
        notes None = refl
        notes (Some x) = refl

pub renewal_keeps : (s : State) → RenewalKeeps s
renewal_keeps s = go (renew_error s)
  where
    go : (o : Option RenewError) → Keeps s (renewed_unless o s)
    go None = record { ready = λ q. refl; away = λ f. refl }
    go (Some error) = record { ready = λ q. refl; away = λ f. refl }
