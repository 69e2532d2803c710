-- Each plan that was taken is with one worker or was ended once, and no other is.
use Rattle.std.proofs.Common.{◌≡◌, ◌∙◌, ℕ, zero, suc, ◌+◌, ◌≤◌, ◌<◌, eqb, cond, Option, Some, None}
use Rattle.std.proofs.Common.{List, [], ◌∷◌, ◌++◌, length, length-append, refl, sym, ap, subst, arith}
use Rattle.std.specs.Prelude.{slice_get, slice_set, replicate, count_by, nat_lt}
use Rattle.std.proofs.lemmas.Bool.Decides.{nat_tests}
use Rattle.std.proofs.lemmas.List.Sums.{sum_by-cons, sum_by-append}
use Rattle.std.proofs.lemmas.Option.{slice_get_within}
use Rattle.pp_plan.specs.declared.action.Action.TheVariants as action
use Rattle.pp_cert.specs.Accepted.{Acceptance}
use Rattle.pp_cert.specs.declared.note.Held.{Held}
use Rattle.pp_cert.specs.declared.note.Held.TheVariants.{Free, S, X}
use Rattle.pp_model.specs.declared.reply.Ending.{Ending}
use Rattle.pp_model.specs.Pool.{leaving, Running, Finished, State}
use Rattle.pp_model.specs.Holders.{page_in, held_in}
use Rattle.pp_model.specs.Outcome.{at_stage, having_done, released}
use Rattle.pp_model.specs.Reached.{IsReached}
use Rattle.pp_model.specs.Laws.{is_with, is_end_of, PlansAreAccounted}
use Rattle.pp_model.proofs.Changes as change
use Rattle.pp_model.proofs.Changes.{Change}
use Rattle.pp_model.proofs.Reaching.{IsKept, holds}
use Rattle.pp_model.proofs.Journeys.{get_more}
use Rattle.pp_model.proofs.Sums.{sum_by-slice_set}
use Rattle.pp_model.proofs.Rest.{can_renew}

-- ---- what a move does to plans

-- What this is about of a state.
record Accounts : Type 0 where
  pub plans : List Acceptance
  pub taken : ℕ
  pub seats : List (Option Running)
  pub finished : List Finished

abbrev accounts_of : State → Accounts
accounts_of s = record { plans = s.plans; taken = s.taken; seats = s.seats; finished = s.finished }

abbrev seated : Accounts → ℕ → Option Running → Accounts
seated c w x = record c { seats = slice_set c.seats w x }

-- Nothing; or a worker goes on with its plan, takes the next one, or ends its own.
data Entry (c d : Accounts) : Type 0 where
  stays : d ≡ c → Entry c d
  goes : (w : ℕ) (r q : Running) → slice_get c.seats w ≡ Some (Some r) → q.number ≡ r.number
      → q.accepted ≡ r.accepted → d ≡ seated c w (Some q) → Entry c d
  takes : (w : ℕ) (a : Acceptance) (q : Running) → slice_get c.seats w ≡ Some None
      → slice_get c.plans c.taken ≡ Some a → q.number ≡ c.taken → q.accepted ≡ a
      → d ≡ record (seated c w (Some q)) { taken = c.taken + 1 } → Entry c d
  ends : (w : ℕ) (r : Running) (ending : Ending) → slice_get c.seats w ≡ Some (Some r)
      → d
      ≡ record (seated c w None) { finished = c.finished ++ record { number = r.number; ending = ending } ∷ [] }
      → Entry c d

released_accounts : (s : State) (k : Held) (page : ℕ) → accounts_of (released s k page) ≡ accounts_of s
released_accounts s Free page = refl
released_accounts s S page = refl
released_accounts s X page = refl

entry : (s t : State) → Change s t → Entry (accounts_of s) (accounts_of t)
entry s t (change.stays e) = stays (ap accounts_of e)
entry s t (change.takes w a idle next fits e) = takes w a _ idle next refl refl (ap accounts_of e)
entry s t (change.hits w r slot page l asked is e) = goes w r _ asked.at.seat refl refl (ap accounts_of e)
entry s t (change.fills w r slot page l asked is e) = goes w r _ asked.at.seat refl refl (ap accounts_of e)
entry s t (change.evicts w r slot page v l asked is clean e) = goes w r _ asked.at.seat refl refl (ap accounts_of e)
entry s t (change.sends w r slot page v l asked is dirty e) = goes w r _ asked.at.seat refl refl (ap accounts_of e)
entry s t (change.writes w r slot page v at e) = goes w r _ at.seat refl refl (ap accounts_of e)
entry s t (change.brings w r slot page v at e) = goes w r _ at.seat refl refl (ap accounts_of e)
entry s t (change.forgets w r slot page at e) = goes w r _ at.seat refl refl (ap accounts_of e)
entry s t (change.loads w r slot page stamp at good e) = goes w r _ at.seat refl refl (ap accounts_of e)
entry s t (change.unfixes w r slot a back asked e) = goes w r _ asked.at.seat refl refl (ap accounts_of e)
entry s t (change.latches w r slot m asked fits e) = goes w r _ asked.at.seat refl refl (ap accounts_of e)
entry s t (change.unlatches w r slot asked e) =
    let q = having_done r (action.Unlatch slot) in
    goes w r q asked.at.seat refl refl
    (ap accounts_of e ∙ ap (λ c. seated c w (Some q)) (released_accounts s (held_in r slot) (page_in r slot)))
entry s t (change.chooses w r i asked e) = goes w r _ asked.at.seat refl refl (ap accounts_of e)
entry s t (change.unwinds w r slot given h at held e) =
    let q = at_stage r (leaving (slot ∷ given)) in
    goes w r q at.seat refl refl
    (ap accounts_of e ∙ ap (λ c. seated c w (Some q)) (released_accounts s h.held h.page))
entry s t (change.ends w r at asked e) = ends w r _ at.seat (ap accounts_of e)
entry s t (change.leaves w r given at none e) = ends w r _ at.seat (ap accounts_of e)
entry s t (change.flushes page can e) = stays (ap accounts_of e)
entry s t (change.cleans f is e) = stays (ap accounts_of e)
entry s t (change.drops f is e) = stays (ap accounts_of e)

-- ---- what is kept

-- The plan of a worker is the one of its number.
abbrev HasItsPlan : List Acceptance → Option Running → Type 0
HasItsPlan plans None = Unit {0}
HasItsPlan plans (Some r) = slice_get plans r.number ≡ Some r.accepted

abbrev HaveTheirPlans : List Acceptance → List (Option Running) → Type 0
HaveTheirPlans plans seats = (w : ℕ) (x : Option Running) → slice_get seats w ≡ Some x → HasItsPlan plans x

-- How often the plan is with a worker, and how often it was ended.
abbrev with_workers : ℕ → List (Option Running) → ℕ
with_workers k seats = count_by (is_with k) seats

abbrev ended_times : ℕ → List Finished → ℕ
ended_times k finished = count_by (is_end_of k) finished

record AreRight (c : Accounts) : Type 0 where
  pub once : (k : ℕ) → with_workers k c.seats + ended_times k c.finished ≡ cond (nat_lt k c.taken) 1 0
  pub submitted : c.taken ≤ length c.plans
  pub named : HaveTheirPlans c.plans c.seats

set_seat : (plans : List Acceptance) (seats : List (Option Running)) (i : ℕ) (y : Option Running)
    → HaveTheirPlans plans seats → HasItsPlan plans y → HaveTheirPlans plans (slice_set seats i y)
set_seat plans [] i y h ok w x e = h w x e
set_seat plans (z ∷ ws) zero y h ok zero x e = let same : y ≡ x = cc in subst (HasItsPlan plans) same ok
set_seat plans (z ∷ ws) zero y h ok (suc w) x e = h (suc w) x e
set_seat plans (z ∷ ws) (suc i) y h ok zero x e = h zero x e
set_seat plans (z ∷ ws) (suc i) y h ok (suc w) x e = set_seat plans ws i y (λ v. h (suc v)) ok w x e

-- A worker's seat is written: the counts change by the plan that it had and the one that it has.
counts_set : (k : ℕ) (seats : List (Option Running)) (w : ℕ) (x y : Option Running) → slice_get seats w ≡ Some x
    → with_workers k (slice_set seats w y) + cond (is_with k x) 1 0
    ≡ with_workers k seats + cond (is_with k y) 1 0
counts_set k seats w x y e = sum_by-slice_set (λ z. cond (is_with k z) 1 0) seats w x y e

next_taken : (k n : ℕ) → ◌≡◌ {A = ℕ} (cond (nat_lt k (n + 1)) 1 0) (cond (nat_lt k n) 1 0 + cond (eqb n k) 1 0)
next_taken k n = grind (arith, nat_tests)

ended_more : (k : ℕ) (fs : List Finished) (f : Finished)
    → ended_times k (fs ++ f ∷ []) ≡ ended_times k fs + cond (eqb f.number k) 1 0
ended_more k fs f =
    omega (
      arith,
      sum_by-append (λ (x : Finished). cond (eqb x.number k) 1 0) fs (f ∷ []),
      sum_by-cons (λ (x : Finished). cond (eqb x.number k) 1 0) f [],
    )

goes_right : (c : Accounts) (w : ℕ) (r q : Running) → AreRight c → slice_get c.seats w ≡ Some (Some r)
    → q.number ≡ r.number → q.accepted ≡ r.accepted → AreRight (seated c w (Some q))
goes_right c w r q h has number plan = record {
  once = λ k.
      let same = ap {B = ℕ} (λ n. cond (eqb n k) 1 0) number in
      omega (arith, h.once k, counts_set k c.seats w (Some r) (Some q) has, same);
  submitted = h.submitted;
  named = set_seat c.plans c.seats w (Some q) h.named
      (ap (slice_get c.plans) number ∙ h.named w (Some r) has ∙ ap (λ (a : Acceptance). Some a) (sym plan));
}

takes_right : (c : Accounts) (w : ℕ) (a : Acceptance) (q : Running) → AreRight c → slice_get c.seats w ≡ Some None
    → slice_get c.plans c.taken ≡ Some a → q.number ≡ c.taken → q.accepted ≡ a
    → AreRight (record (seated c w (Some q)) { taken = c.taken + 1 })
takes_right c w a q h idle next number plan = record {
  once = λ k.
      let same = ap {B = ℕ} (λ n. cond (eqb n k) 1 0) number in
      omega (arith, h.once k, counts_set k c.seats w None (Some q) idle, same, next_taken k c.taken);
  submitted = omega (arith, slice_get_within c.plans c.taken a next);
  named = set_seat c.plans c.seats w (Some q) h.named
      (ap (slice_get c.plans) number ∙ next ∙ ap (λ (b : Acceptance). Some b) (sym plan));
}

ends_right : (c : Accounts) (w : ℕ) (r : Running) (ending : Ending) → AreRight c
    → slice_get c.seats w ≡ Some (Some r)
    → AreRight (record (seated c w None)
    { finished = c.finished ++ record { number = r.number; ending = ending } ∷ [] })
ends_right c w r ending h has = record {
  once = λ k.
      omega (
        arith,
        h.once k,
        counts_set k c.seats w (Some r) None has,
        ended_more k c.finished (record { number = r.number; ending = ending }),
      );
  submitted = h.submitted;
  named = set_seat c.plans c.seats w None h.named tt;
}

entry_right : (c d : Accounts) → Entry c d → AreRight c → AreRight d
entry_right c d (stays e) h = subst AreRight (sym e) h
entry_right c d (goes w r q has number plan e) h = subst AreRight (sym e) (goes_right c w r q h has number plan)
entry_right c d (takes w a q idle next number plan e) h =
    subst AreRight (sym e) (takes_right c w a q h idle next number plan)
entry_right c d (ends w r ending has e) h = subst AreRight (sym e) (ends_right c w r ending h has)

-- ---- all reached states

idle_counts : (k n : ℕ) → with_workers k (replicate n None) ≡ 0
idle_counts k zero = refl
idle_counts k (suc n) =
    omega (arith, sum_by-cons (λ z. cond (is_with k z) 1 0) None (replicate n None), idle_counts k n)

idle_plans : (n : ℕ) → HaveTheirPlans [] (replicate n None)
idle_plans zero w x e = cc
idle_plans (suc n) zero x e = let idle : None ≡ x = cc in subst (HasItsPlan []) idle tt
idle_plans (suc n) (suc w) x e = idle_plans n w x e

none_taken : (k : ℕ) → ◌≡◌ {A = ℕ} (cond (nat_lt k 0) 1 0) 0
none_taken k = grind (arith, nat_tests)

more_plans : (plans more : List Acceptance) (x : Option Running) → HasItsPlan plans x → HasItsPlan (plans ++ more) x
more_plans plans more None h = tt
more_plans plans more (Some r) h = get_more plans more r.number r.accepted h

accounts_kept : IsKept (λ s. AreRight (accounts_of s))
accounts_kept = record {
  opens = λ k ok. record {
    once = λ n. omega (arith, idle_counts n k.workers, none_taken n);
    submitted = omega arith;
    named = idle_plans k.workers;
  };
  moves = λ s t c h. entry_right (accounts_of s) (accounts_of t) (entry s t c) h;
  submits = λ s a ok e h. record {
    once = h.once;
    submitted = omega (arith, length-append s.plans (a ∷ []), h.submitted);
    named = λ w x has. more_plans s.plans (a ∷ []) x (h.named w x has);
  };
  renews = λ s ok e h.
      let seats = (can_renew s e).rests.seats in
      let n = length s.seats in
      record {
        once = λ k. omega (arith, ap (with_workers k) seats ∙ idle_counts k n, none_taken k);
        submitted = omega arith;
        named = subst (HaveTheirPlans []) (sym seats) (idle_plans n);
      };
}

below : (k n sum : ℕ) → sum ≡ cond (nat_lt k n) 1 0 → k < n → sum ≡ 1
below k n sum e lt = grind (arith, nat_tests)

from_there : (k n sum : ℕ) → sum ≡ cond (nat_lt k n) 1 0 → n ≤ k → sum ≡ 0
from_there k n sum e le = grind (arith, nat_tests)

pub plans_are_accounted : (s : State) → IsReached s → PlansAreAccounted s
plans_are_accounted s h =
    let right = holds (λ x. AreRight (accounts_of x)) s accounts_kept h in
    record {
      taken = λ k lt. below k s.taken _ (right.once k) lt;
      others = λ k le. from_there k s.taken _ (right.once k) le;
      submitted = right.submitted;
      named = λ w r has. right.named w (Some r) has;
    }
