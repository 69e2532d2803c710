use Rattle.std.proofs.Common.{refl, ap, ◌∙◌, arith}
use Rattle.pp_admission.specs.Queues.{left, with_waiting, without}
use Rattle.pp_admission.specs.Kept.{parts_of}
use Rattle.pp_admission.proofs.Calls.{sound_as, sound_left, removed_by, none_by}
use Rattle.pp_admission.proofs.queue.AdmissionQueue.take_out.Goals as goal

pub invariant_of-self : goal.invariant_of-self
invariant_of-self c = record {
  sound = sound_as (parts_of c.self.inside) (without c.args.ticket c.self.inside.waiting.items) _
      (sound_left (parts_of c.self.inside) c.args.ticket c.self.invariant.sound)
      (removed_by (parts_of c.self.inside) c.number.result c.args.ticket c.in-Some.place c.deref.result.now
      c.remove.new.self.items c.self.invariant.sound c.number.ensures c.deref.ensures.value c.in-Some.ensures.some
      c.remove.ensures.items);
  room = omega (arith, c.remove.ensures.capacity, c.self.invariant.room);
  most_fits = c.self.invariant.most_fits;
  bypass_fits = c.self.invariant.bypass_fits;
}

pub returns-in-Some-clause-left : goal.returns-in-Some-clause-left
returns-in-Some-clause-left c =
    ap (with_waiting (parts_of c.self.inside))
    (removed_by (parts_of c.self.inside) c.number.result c.args.ticket c.in-Some.place c.deref.result.now
    c.remove.new.self.items c.self.invariant.sound c.number.ensures c.deref.ensures.value c.in-Some.ensures.some
    c.remove.ensures.items)
    ∙ ap (λ q. left q c.args.ticket) c.self.view_is

pub returns-in-Some-clause-sound : goal.returns-in-Some-clause-sound
returns-in-Some-clause-sound c =
    sound_as (parts_of c.self.inside) (without c.args.ticket c.self.inside.waiting.items) _
    (sound_left (parts_of c.self.inside) c.args.ticket c.self.invariant.sound)
    (removed_by (parts_of c.self.inside) c.number.result c.args.ticket c.in-Some.place c.deref.result.now
    c.remove.new.self.items c.self.invariant.sound c.number.ensures c.deref.ensures.value c.in-Some.ensures.some
    c.remove.ensures.items)

pub returns-in-None-clause-left : goal.returns-in-None-clause-left
returns-in-None-clause-left c = none_by (parts_of c.self.inside) c.args.self.now c.number.result c.args.ticket
    c.deref.result.now c.self.view_is c.number.ensures c.deref.ensures.value (c.in-None.ensures.none refl)
