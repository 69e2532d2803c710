use Rattle.std.proofs.Common.{◌≡◌, length, map, ap, ◌∙◌, arith}
use Rattle.std.proofs.lemmas.List.{with_items_is}
use Rattle.pp_admission.specs.declared.waiting.Waiting.{Waiting}
use Rattle.pp_admission.specs.Queues.{marked}
use Rattle.pp_admission.specs.Kept.{parts_of}
use Rattle.pp_admission.proofs.Calls.{sound_as, sound_marked, mapped_by}
use Rattle.pp_admission.proofs.queue.AdmissionQueue.set_asleep.Goals as goal

pub invariant_of-self : goal.invariant_of-self
invariant_of-self c =
    let long : length c.mark.new.line ≡ c.self.inside.waiting.len = omega
    (arith, c.mark.auto.line, ap (length {A = Waiting}) c.deref_mut.ensures.value, c.self.inside.waiting.ok.0) in
    record {
      sound = sound_as (parts_of c.self.inside)
          (map (marked c.args.ticket c.args.is_asleep) c.self.inside.waiting.items) _
          (sound_marked (parts_of c.self.inside) c.args.ticket c.args.is_asleep c.self.invariant.sound)
          (with_items_is c.self.inside.waiting c.mark.new.line long
          ∙ mapped_by (λ n. marked n c.args.is_asleep) c.number.result c.args.ticket c.deref_mut.result.now
          c.self.inside.waiting.items c.mark.new.line c.number.ensures c.deref_mut.ensures.value c.mark.ensures);
      room = c.self.invariant.room;
      most_fits = c.self.invariant.most_fits;
      bypass_fits = c.self.invariant.bypass_fits;
    }

pub returns-clause-sound : goal.returns-clause-sound
returns-clause-sound c =
    let long : length c.mark.new.line ≡ c.self.inside.waiting.len = omega
    (arith, c.mark.auto.line, ap (length {A = Waiting}) c.deref_mut.ensures.value, c.self.inside.waiting.ok.0) in
    sound_as (parts_of c.self.inside) (map (marked c.args.ticket c.args.is_asleep) c.self.inside.waiting.items) _
    (sound_marked (parts_of c.self.inside) c.args.ticket c.args.is_asleep c.self.invariant.sound)
    (with_items_is c.self.inside.waiting c.mark.new.line long
    ∙ mapped_by (λ n. marked n c.args.is_asleep) c.number.result c.args.ticket c.deref_mut.result.now
    c.self.inside.waiting.items c.mark.new.line c.number.ensures c.deref_mut.ensures.value c.mark.ensures)
