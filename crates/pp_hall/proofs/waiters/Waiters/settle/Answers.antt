use Rattle.std.proofs.Common.{◌≡◌, ℕ, true, false, refl, subst}
use Rattle.pp_model.specs.Pool.{State}
use Rattle.pp_vault.specs.Parts as vault
use Rattle.pp_vault.specs.StandsFor.{StandsFor}
use Rattle.pp_wants.specs.WakeUps.{NoWakeUpIsLost, IsForgotten}
use Rattle.pp_wants.specs.Sleepers.{is_told_anew}
use Rattle.pp_hall.specs.declared.told.Told.{Told}
use Rattle.pp_hall.specs.Seatings.{room_of}
use Rattle.pp_hall.specs.Waiters.{Parts, Settles}
use Rattle.pp_hall.proofs.Settling.{settled_waiters, woken_is}
use Rattle.pp_hall.proofs.waiters.Waiters.settle.Goals as goal

pub invariant_of-self : goal.invariant_of-self
invariant_of-self c =
    let w : Parts = record {
      queue = c.self.inside.queue;
      sleepers = c.self.inside.sleepers;
      is_flusher_asleep = c.self.inside.is_flusher_asleep;
      is_stopped = c.self.inside.is_stopped;
    } in
    settled_waiters w c.self.invariant c.wake_next-next.new.queue (room_of c.args.seating.now) c.wake_next-next.result
    c.settle-workers.new.self c.flusher_after-flusher.result.1 c.wake_next-next.ensures.told c.wake_next-next.ensures.woken
    c.wake_next-next.ensures.unchanged c.flusher_after-flusher.ensures.only

pub returns-clause-awake : goal.returns-clause-awake
returns-clause-awake c = record {
  workers =
      subst (λ (v : vault.Parts). NoWakeUpIsLost v c.settle-workers.new.self) c.vault.ensures
      c.settle-workers.ensures.settled;
  next = c.wake_next-next.ensures.awake;
  flusher = c.flusher_after-flusher.ensures.rests;
}

pub returns-clause-settles : goal.returns-clause-settles
returns-clause-settles c =
    let w : Parts = record {
      queue = c.self.inside.queue;
      sleepers = c.self.inside.sleepers;
      is_flusher_asleep = c.self.inside.is_flusher_asleep;
      is_stopped = c.self.inside.is_stopped;
    } in
    let told : Told = record {
      workers = c.settle-workers.result;
      next = c.wake_next-next.result;
      all = false;
      flusher = c.flusher_after-flusher.result.0;
    } in
    let after : Parts = record {
      queue = c.wake_next-next.new.queue;
      sleepers = c.settle-workers.new.self;
      is_flusher_asleep = c.flusher_after-flusher.result.1;
      is_stopped = c.self.inside.is_stopped;
    } in
    subst (λ (p : Parts). Settles c.args.seating.now c.args.flush_from p told after) c.self.view_is (record {
      keeps = c.settle-workers.ensures.rest;
      workers = c.settle-workers.ensures.told;
      only = c.settle-workers.ensures.only;
      needed =
          subst (λ (v : vault.Parts). (n : ℕ) → is_told_anew c.self.inside.sleepers c.settle-workers.new.self n ≡ true
          → (s : State) → StandsFor v s → IsForgotten s c.self.inside.sleepers n) c.vault.ensures
          c.settle-workers.ensures.needed;
      next = c.wake_next-next.ensures.told;
      queue =
          woken_is c.self.inside.queue c.wake_next-next.new.queue c.wake_next-next.result c.wake_next-next.ensures.woken
          c.wake_next-next.ensures.unchanged;
      flusher = c.flusher_after-flusher.ensures.told;
      wanted = c.flusher_after-flusher.ensures.wanted;
      one = refl;
      stopped = refl;
    })
