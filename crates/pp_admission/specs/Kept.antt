-- How a queue is kept.
use Rattle.std.specs.Prelude.{◌≤◌, ◌<◌, ◌^◌, vec_capacity}
use Rattle.pp_admission.specs.declared.queue.AdmissionQueue.TheInside.{Inside}
use Rattle.pp_admission.specs.Queues.{Parts, IsSound}

-- the fields, with those that wait as a list
abbrev pub parts_of : Inside → Parts
parts_of q = record { waiting = q.waiting.items; next = q.next; most = q.most; bypass = q.bypass }

-- What is always true of the fields.
pub record IsKept (q : Inside) : Type 0 where
  pub sound : IsSound (parts_of q)
  -- the memory for all that may wait is there
  pub room : q.most ≤ vec_capacity q.waiting
  pub most_fits : q.most < 2 ^ 32
  pub bypass_fits : q.bypass < 2 ^ 32
