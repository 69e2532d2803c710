-- What clauses see of a hall, and what holds of each.
use Rattle.std.specs.Prelude.{◌≡◌, ℕ, true, None, Some, List, Bool, Option, slice_get}
use Rattle.pp_hall.specs.declared.policy.Policy.{Policy}
use Rattle.pp_hall.specs.Seatings as seatings
use Rattle.pp_hall.specs.Seatings.{IsSeating}
use Rattle.pp_hall.specs.Waiters as waiters
use Rattle.pp_hall.specs.Waiters.{IsWaiters, NobodyIsForgotten}
use Rattle.pp_hall.specs.Posts as posts

-- What a hall keeps.
pub record Parts : Type 0 where
  -- its vault, and with which peaks its chairs are out
  pub seating : seatings.Parts
  -- who waits
  pub waiters : waiters.Parts
  -- which parked workers are there
  pub posts : posts.Parts
  pub policy : Policy

-- The parked worker of each chair that is home is there.
abbrev pub HomesHavePosts : List (Option ℕ) → List Bool → Type 0
HomesHavePosts peaks there = (w : ℕ) → slice_get peaks w ≡ Some None → slice_get there w ≡ Some true

-- What a hall keeps besides: nobody is forgotten, and a chair that is home has its worker.
pub record IsKept (h : Parts) : Type 0 where
  pub awake : NobodyIsForgotten h.seating h.policy.flush_from h.waiters
  pub posts : HomesHavePosts h.seating.peaks h.posts.there

-- What holds of every hall whenever no call is under way.
pub record IsHall (h : Parts) : Type 0 where
  pub seating : IsSeating h.seating
  pub waiters : IsWaiters h.waiters
  pub kept : IsKept h
