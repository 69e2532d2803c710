-- Lemmas on ARC's bounds: each small step of a request keeps them.
use Rattle.std.proofs.Common.{◌≡◌, ℕ, ◌+◌, ◌-◌, ◌*◌, ◌<◌, ◌≤◌, true, cond, eqb, ◌∷◌, length, arith}
use Rattle.pp_arc.specs.Pages.{contains, times_in, without}
use Rattle.pp_arc.specs.FourLists.{FourLists, cached_count, recent_count, total_count, times_named}
use Rattle.pp_arc.specs.Bounds.{IsWithinBounds}
use Rattle.pp_arc.specs.Figure.{forget, with_front_of_t1, without_last_of_b1, without_last_of_b2}
use Rattle.pp_arc.proofs.PageLemmas.{once_with_front, below_with_front, times_in-moved, length-without}
use Rattle.pp_arc.proofs.PageLemmas.{times_in-without_same, times_in-without, times_in-take, length-without_last}
use Rattle.pp_arc.proofs.PageLemmas.{times_in-contains}

-- the counts after a page was forgotten
pub cached_count-forget : (s : FourLists) (x : ℕ)
    → cached_count (forget s x) + (times_in s.t1 x + times_in s.t2 x) ≡ cached_count s
cached_count-forget s x = omega (arith, length-without s.t1 x, length-without s.t2 x)

pub recent_count-forget : (s : FourLists) (x : ℕ)
    → recent_count (forget s x) + (times_in s.t1 x + times_in s.b1 x) ≡ recent_count s
recent_count-forget s x = omega (arith, length-without s.t1 x, length-without s.b1 x)

pub total_count-forget : (s : FourLists) (x : ℕ) → total_count (forget s x) + times_named s x ≡ total_count s
total_count-forget s x = omega (
  arith,
  length-without s.t1 x,
  length-without s.t2 x,
  length-without s.b1 x,
  length-without s.b2 x,
)

pub times_named-forget : (s : FourLists) (x q : ℕ) → times_named (forget s x) q ≤ times_named s q
times_named-forget s x q = omega (
  arith,
  times_in-without s.t1 x q,
  times_in-without s.t2 x q,
  times_in-without s.b1 x
      q,
  times_in-without s.b2 x q,
)

pub times_named-forget_same : (s : FourLists) (x : ℕ) → times_named (forget s x) x ≡ 0
times_named-forget_same s x = omega (
  arith,
  times_in-without_same s.t1 x,
  times_in-without_same s.t2 x,
  times_in-without_same s.b1 x,
  times_in-without_same s.b2 x,
)

-- a page that is forgotten leaves the bounds
pub bounds-forget : (s : FourLists) (x : ℕ) → IsWithinBounds s → IsWithinBounds (forget s x)
bounds-forget s x h = record {
  holds_a_page = h.holds_a_page;
  cached = omega (arith, cached_count-forget s x, h.cached);
  recent = omega (arith, recent_count-forget s x, h.recent);
  total = omega (arith, total_count-forget s x, h.total);
  once = λ q. omega (arith, times_named-forget s x q, h.once q);
  below = λ q stands. h.below q (omega (arith, times_named-forget s x q));
  aimed = h.aimed;
}

-- a page that stood nowhere goes to the front of T2
pub bounds-put_in_t2 : (s : FourLists) (x : ℕ) → IsWithinBounds s → x < s.pages → times_named s x ≡ 0
    → cached_count s < s.c → total_count s < 2 * s.c → IsWithinBounds (record s { t2 = x ∷ s.t2 })
bounds-put_in_t2 s x h named absent room all =
    record {
      holds_a_page = h.holds_a_page;
      cached = omega arith;
      recent = h.recent;
      total = omega arith;
      once = λ q.
          let k : cond (eqb x q) 1 0 + times_named s q ≤ 1 =
          once_with_front x q (times_named s q) (λ e. rw (← e) absent) (h.once q) in
          omega (arith, k);
      below = λ q stands.
          below_with_front x q (times_named s q) s.pages named (h.below q) (omega (arith, stands));
      aimed = h.aimed;
    }

-- a page that stood nowhere goes to the front of T1
pub bounds-with_front_of_t1 : (s : FourLists) (x : ℕ) → IsWithinBounds s → x < s.pages → times_named s x ≡ 0
    → cached_count s < s.c → recent_count s < s.c → total_count s < 2 * s.c → IsWithinBounds (with_front_of_t1 s x)
bounds-with_front_of_t1 s x h named absent room recent all =
    record {
      holds_a_page = h.holds_a_page;
      cached = omega arith;
      recent = omega arith;
      total = omega arith;
      once = λ q.
          let k : cond (eqb x q) 1 0 + times_named s q ≤ 1 =
          once_with_front x q (times_named s q) (λ e. rw (← e) absent) (h.once q) in
          omega (arith, k);
      below = λ q stands.
          below_with_front x q (times_named s q) s.pages named (h.below q) (omega (arith, stands));
      aimed = h.aimed;
    }

-- a page of T1 or T2 is remembered: from T1 it goes to B1, from T2 to B2
abbrev pub from_t1 : FourLists → ℕ → FourLists
from_t1 s v = record s { t1 = without s.t1 v; b1 = v ∷ s.b1 }

abbrev pub from_t2 : FourLists → ℕ → FourLists
from_t2 s v = record s { t2 = without s.t2 v; b2 = v ∷ s.b2 }

pub times_named-from_t1 : (s : FourLists) (v q : ℕ) → times_in s.t1 v ≡ 1
    → times_named (from_t1 s v) q ≡ times_named s q
times_named-from_t1 s v q one = omega (arith, times_in-moved s.t1 v q one)

pub times_named-from_t2 : (s : FourLists) (v q : ℕ) → times_in s.t2 v ≡ 1
    → times_named (from_t2 s v) q ≡ times_named s q
times_named-from_t2 s v q one = omega (arith, times_in-moved s.t2 v q one)

pub bounds-from_t1 : (s : FourLists) (v : ℕ) → IsWithinBounds s → times_in s.t1 v ≡ 1 → IsWithinBounds (from_t1 s v)
bounds-from_t1 s v h one =
    let e : length (without s.t1 v) + 1 ≡ length s.t1 = omega (arith, length-without s.t1 v) in
    record {
      holds_a_page = h.holds_a_page;
      cached = omega (arith, h.cached);
      recent = omega (arith, h.recent);
      total = omega (arith, h.total);
      once = λ q. rw (times_named-from_t1 s v q one) (h.once q);
      below = λ q stands. h.below q (rw (times_named-from_t1 s v q one) at stands);
      aimed = h.aimed;
    }

pub bounds-from_t2 : (s : FourLists) (v : ℕ) → IsWithinBounds s → times_in s.t2 v ≡ 1 → IsWithinBounds (from_t2 s v)
bounds-from_t2 s v h one =
    let e : length (without s.t2 v) + 1 ≡ length s.t2 = omega (arith, length-without s.t2 v) in
    record {
      holds_a_page = h.holds_a_page;
      cached = omega (arith, h.cached);
      recent = omega (arith, h.recent);
      total = omega (arith, h.total);
      once = λ q. rw (times_named-from_t2 s v q one) (h.once q);
      below = λ q stands. h.below q (rw (times_named-from_t2 s v q one) at stands);
      aimed = h.aimed;
    }

-- where a page stands: once in its own list, and in no other
pub once_in_t1 : (s : FourLists) (v : ℕ) → IsWithinBounds s → contains s.t1 v ≡ true → times_in s.t1 v ≡ 1
once_in_t1 s v h here = omega (arith, times_in-contains s.t1 v here, h.once v)

pub once_in_t2 : (s : FourLists) (v : ℕ) → IsWithinBounds s → contains s.t2 v ≡ true → times_in s.t2 v ≡ 1
once_in_t2 s v h here = omega (arith, times_in-contains s.t2 v here, h.once v)

-- the last name of B1, or of B2, is dropped
pub bounds-without_last_of_b1 : (s : FourLists) → IsWithinBounds s → IsWithinBounds (without_last_of_b1 s)
bounds-without_last_of_b1 s h = record {
  holds_a_page = h.holds_a_page;
  cached = h.cached;
  recent = omega (arith, length-without_last s.b1, h.recent);
  total = omega (arith, length-without_last s.b1, h.total);
  once = λ q. omega (arith, times_in-take s.b1 (length s.b1 - 1) q, h.once q);
  below = λ q stands. h.below q (omega (arith, times_in-take s.b1 (length s.b1 - 1) q, stands));
  aimed = h.aimed;
}

pub bounds-without_last_of_b2 : (s : FourLists) → IsWithinBounds s → IsWithinBounds (without_last_of_b2 s)
bounds-without_last_of_b2 s h = record {
  holds_a_page = h.holds_a_page;
  cached = h.cached;
  recent = h.recent;
  total = omega (arith, length-without_last s.b2, h.total);
  once = λ q. omega (arith, times_in-take s.b2 (length s.b2 - 1) q, h.once q);
  below = λ q stands. h.below q (omega (arith, times_in-take s.b2 (length s.b2 - 1) q, stands));
  aimed = h.aimed;
}

pub times_named-without_last_of_b1 : (s : FourLists) (x : ℕ) → times_named (without_last_of_b1 s) x ≤ times_named s x
times_named-without_last_of_b1 s x = omega (arith, times_in-take s.b1 (length s.b1 - 1) x)

pub times_named-without_last_of_b2 : (s : FourLists) (x : ℕ) → times_named (without_last_of_b2 s) x ≤ times_named s x
times_named-without_last_of_b2 s x = omega (arith, times_in-take s.b2 (length s.b2 - 1) x)
