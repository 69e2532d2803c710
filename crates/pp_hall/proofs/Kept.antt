-- What the calls of a hall keep.
use Rattle.std.proofs.Common.{◌≡◌, ℕ, zero, suc, ◌+◌, Bool, true, false, List, Option, Some, None, refl, sym, ap, subst}
use Rattle.std.proofs.Common.{arith}
use Rattle.std.specs.Prelude.{◌==◌, nat_lt, slice_set, slice_index_or, replicate}
use Rattle.std.proofs.lemmas.Bool.Decides.{nat_tests}
use Rattle.pp_settings.specs.Settings.{Configuration}
use Rattle.pp_settings.specs.Spans.{is_bounded}
use Rattle.pp_vault.specs.Holding.{placed}
use Rattle.pp_admission.specs.Queues.{empty_queue, started}
use Rattle.pp_wants.specs.declared.sleepers.Sleeper.{Sleeper}
use Rattle.pp_wants.specs.Sleepers.{untold}
use Rattle.pp_hall.specs.declared.policy.Policy.{Policy}
use Rattle.pp_vault.specs.declared.tokens.Chair.{Chair}
use Rattle.pp_pool.specs.declared.response.Response.{Response}
use Rattle.pp_pool.specs.Performing.{is_no}
use Rattle.pp_hall.specs.declared.told.Told.{Told}
use Rattle.pp_hall.specs.Seatings as seatings
use Rattle.pp_hall.specs.Seatings.{TakesPlan, CannotTake}
use Rattle.pp_hall.specs.Waiters as waiters
use Rattle.pp_hall.specs.Waiters.{NobodyIsForgotten}
use Rattle.pp_hall.specs.Posts as posts
use Rattle.pp_hall.specs.Halls.{Parts, IsKept, HomesHavePosts}
use Rattle.pp_hall.specs.Calls.{Settles, TakeIs, open_fault, fault_by, begun}
use Rattle.pp_hall.proofs.Places.{homes_but, homes_and, stays_there, homes_at_first}

-- Where the same chairs are out, and nobody is forgotten, a hall is kept.
pub kept : (h : Parts) → IsKept h → (x : seatings.Parts) (w : waiters.Parts) → NobodyIsForgotten x h.policy.flush_from w
    → x.peaks ≡ h.seating.peaks → IsKept (record h { seating = x; waiters = w })
kept h k x w awake same = record {
  awake = awake;
  posts = subst (λ (peaks : List (Option ℕ)). HomesHavePosts peaks h.posts.there) (sym same) k.posts;
}

-- What is settled of a hall.
pub settled : (before : Parts) (w after : waiters.Parts) (told : Told) → w ≡ before.waiters
    → waiters.Settles before.seating before.policy.flush_from w told after
    → Settles before told (record before { waiters = after })
settled before w after told same s = record {
  tells = subst (λ (v : waiters.Parts). waiters.Settles before.seating before.policy.flush_from v told after) same s;
  rest = refl;
}

-- ---- a plan that is taken

pub taken_peaks : (x : seatings.Parts) (chair : Chair) (place : ℕ) (response : Response) (y : seatings.Parts)
    → (is_no response.answer ≡ false → TakesPlan x chair place response y) → (is_no response.answer ≡ true → y ≡ x)
    → y.peaks ≡ x.peaks
taken_peaks x chair place response y takes same = go (is_no response.answer) refl
  where
    go : (b : Bool) → is_no response.answer ≡ b → y.peaks ≡ x.peaks
    go true e = ap (λ (p : seatings.Parts). p.peaks) (same e)
    go false e = ap (λ (p : seatings.Parts). p.peaks) (takes e).rest

pub take_is : (h : Parts) (chair : Chair) (place : ℕ) (response : Response) (y : seatings.Parts) (told : Told)
    (w : waiters.Parts) → (is_no response.answer ≡ false → TakesPlan h.seating chair place response y)
    → (is_no response.answer ≡ true → CannotTake h.seating chair place response.answer)
    → (is_no response.answer ≡ true → response.event ≡ None) → (is_no response.answer ≡ true → y ≡ h.seating)
    → waiters.Settles y h.policy.flush_from h.waiters told w
    → TakeIs (is_no response.answer) h chair place response told (record h { seating = y; waiters = w })
take_is h chair place response y told w takes cannot none same settles = go (is_no response.answer) refl
  where
    go : (b : Bool) → is_no response.answer ≡ b
        → TakeIs b h chair place response told (record h { seating = y; waiters = w })
    go false e = record {
      seating = y;
      takes = takes e;
      settles = settled (record h { seating = y }) h.waiters w told refl settles;
    }
    go true e = record {
      cannot = cannot e;
      back = (none e, e);
      settles =
          subst (λ (x : seatings.Parts). Settles h told (record h { seating = x; waiters = w })) (sym (same e))
          (settled h h.waiters w told refl
          (subst (λ (x : seatings.Parts). waiters.Settles x h.policy.flush_from h.waiters told w) (same e) settles));
    }

-- ---- chairs

-- A hall whose chairs that are home have their workers, and in which nobody is forgotten.
pub kept_with : (h : Parts) → NobodyIsForgotten h.seating h.policy.flush_from h.waiters
    → HomesHavePosts h.seating.peaks h.posts.there → IsKept h
kept_with h awake posts = record { awake = awake; posts = posts }

-- One was sent out.
pub sent_homes : (h : Parts) → IsKept h → (x : seatings.Parts) (p : posts.Parts) (chair peak : ℕ)
    → x ≡ seatings.out_with h.seating chair peak → p ≡ record h.posts { there = slice_set h.posts.there chair false }
    → HomesHavePosts x.peaks p.there
sent_homes h k x p chair peak out gone =
    subst (λ (y : seatings.Parts). HomesHavePosts y.peaks p.there) (sym out)
    (subst (λ (q : posts.Parts). HomesHavePosts (slice_set h.seating.peaks chair (Some peak)) q.there) (sym gone)
    (λ w e. homes_but h.seating.peaks h.posts.there k.posts chair peak w e))

-- One came home.
pub came_homes : (h : Parts) → IsKept h → (x : seatings.Parts) (p : posts.Parts) (chair : ℕ)
    → x ≡ seatings.come_home h.seating chair → slice_index_or h.posts.there chair true ≡ false
    → p ≡ record h.posts { there = slice_set h.posts.there chair true } → HomesHavePosts x.peaks p.there
came_homes h k x p chair home free there =
    subst (λ (y : seatings.Parts). HomesHavePosts y.peaks p.there) (sym home)
    (subst (λ (q : posts.Parts). HomesHavePosts (slice_set h.seating.peaks chair None) q.there) (sym there)
    (λ w e. homes_and h.seating.peaks h.posts.there k.posts chair free w e))

-- One came, and stays out.
pub stayed_homes : (h : Parts) → IsKept h → (p : posts.Parts) (chair : ℕ)
    → p ≡ record h.posts { there = slice_set h.posts.there chair true } → HomesHavePosts h.seating.peaks p.there
stayed_homes h k p chair there =
    subst (λ (q : posts.Parts). HomesHavePosts h.seating.peaks q.there) (sym there)
    (λ w e. stays_there h.posts.there chair w (k.posts w e))

-- ---- a new one

ends_by : (bounded none many ends : Bool) → fault_by bounded none many ends ≡ None → ends ≡ true
ends_by true none many ends e = cc
ends_by false true many ends e = cc
ends_by false false true ends e = cc
ends_by false false false true e = refl
ends_by false false false false e = cc

pub ends_fit : (c : Configuration) (devices : ℕ) → open_fault c devices ≡ None → devices ≡ c.workers + 1
ends_fit c devices e =
    let same = ends_by (is_bounded c.span) (c.flushes == 0) (nat_lt 32 c.workers) (devices == c.workers + 1) e in
    grind (arith, nat_tests)

abbrev nobody : ℕ → List (Option Sleeper)
nobody n = replicate n None

nobody_at : (n w : ℕ) (x : Sleeper) → placed (nobody n) w ≡ Some x → ⊥
nobody_at zero w x e = cc
nobody_at (suc n) zero x e = cc
nobody_at (suc n) (suc w) x e = nobody_at n w x e

pub fresh_kept : (x : seatings.Parts) (w : waiters.Parts) (p : posts.Parts) (policy : Policy) (n chairs most bypass : ℕ)
    → x.peaks ≡ replicate n None
    → w ≡ record {
      queue = empty_queue most bypass;
      sleepers = nobody chairs;
      is_flusher_asleep = false;
      is_stopped = false;
    } → p.there ≡ replicate n true → IsKept (record { seating = x; waiters = w; posts = p; policy = policy })
fresh_kept x w p policy n chairs most bypass home first there = record {
  awake = subst (λ (v : waiters.Parts). NobodyIsForgotten x policy.flush_from v) (sym first) (record {
    workers = λ s stands worker want e. absurd (nobody_at chairs worker (untold want) e);
    next = λ ticket e. cc;
    flusher = λ e. cc;
  });
  posts =
      subst (λ (peaks : List (Option ℕ)). HomesHavePosts peaks p.there) (sym home)
      (subst (λ (bs : List Bool). HomesHavePosts (replicate n None) bs) (sym there) (λ v e. homes_at_first n v e));
}

-- ---- a start

pub begun_settles : (h : Parts) (ticket chair peak : ℕ) (x : seatings.Parts) (p : posts.Parts) (w after : waiters.Parts)
    (told : Told) → x ≡ seatings.out_with h.seating chair peak
    → p ≡ record h.posts { there = slice_set h.posts.there chair false }
    → w ≡ waiters.with_queue h.waiters (started h.waiters.queue ticket)
    → waiters.Settles x h.policy.flush_from w told after
    → Settles (begun h ticket chair peak) told (record h { seating = x; waiters = after; posts = p })
begun_settles h ticket chair peak x p w after told out gone same s = record {
  tells =
      subst (λ (y : seatings.Parts). waiters.Settles y h.policy.flush_from
      (waiters.with_queue h.waiters (started h.waiters.queue ticket)) told after) out
      (subst (λ (v : waiters.Parts). waiters.Settles x h.policy.flush_from v told after) same s);
  rest = λ i. record h { seating = out i; waiters = after; posts = gone i };
}
