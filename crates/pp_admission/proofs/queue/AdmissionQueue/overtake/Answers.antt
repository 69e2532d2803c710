use Rattle.std.proofs.Common.{◌≡◌, length, map, subst, sym, ap, ◌∙◌, arith}
use Rattle.std.proofs.lemmas.List.{with_items_is}
use Rattle.pp_admission.specs.declared.waiting.Waiting.{Waiting}
use Rattle.pp_admission.specs.Queues.{Parts, overtaken_by}
use Rattle.pp_admission.specs.Places.{AreOvertakenBelow}
use Rattle.pp_admission.specs.Kept.{parts_of}
use Rattle.pp_admission.proofs.Calls.{sound_as, sound_overtaken, mapped_by, may_by}
use Rattle.pp_admission.proofs.queue.AdmissionQueue.overtake.Goals as goal

pub overtake-requires : goal.overtake-requires
overtake-requires c =
    may_by (parts_of c.self.inside) c.args.self.now c.number.result c.args.ticket c.deref_mut.result.now
    c.self.view_is c.number.ensures c.deref_mut.ensures.value c.self.invariant.bypass_fits c.requires

pub invariant_of-self : goal.invariant_of-self
invariant_of-self c =
    let long : length c.overtake.new.line ≡ c.self.inside.waiting.len = omega
    (arith, c.overtake.auto.line, ap (length {A = Waiting}) c.deref_mut.ensures.value, c.self.inside.waiting.ok.0) in
    record {
      sound = sound_as (parts_of c.self.inside) (map (overtaken_by c.args.ticket) c.self.inside.waiting.items) _
          (sound_overtaken (parts_of c.self.inside) c.args.ticket c.self.invariant.sound
          (subst (λ (q : Parts). AreOvertakenBelow q.bypass c.args.ticket q.waiting) (sym c.self.view_is) c.requires))
          (with_items_is c.self.inside.waiting c.overtake.new.line long
          ∙ mapped_by overtaken_by c.number.result c.args.ticket c.deref_mut.result.now c.self.inside.waiting.items
          c.overtake.new.line c.number.ensures c.deref_mut.ensures.value c.overtake.ensures);
      room = c.self.invariant.room;
      most_fits = c.self.invariant.most_fits;
      bypass_fits = c.self.invariant.bypass_fits;
    }

pub returns-clause-sound : goal.returns-clause-sound
returns-clause-sound c =
    let long : length c.overtake.new.line ≡ c.self.inside.waiting.len = omega
    (arith, c.overtake.auto.line, ap (length {A = Waiting}) c.deref_mut.ensures.value, c.self.inside.waiting.ok.0) in
    sound_as (parts_of c.self.inside) (map (overtaken_by c.args.ticket) c.self.inside.waiting.items) _
    (sound_overtaken (parts_of c.self.inside) c.args.ticket c.self.invariant.sound
    (subst (λ (q : Parts). AreOvertakenBelow q.bypass c.args.ticket q.waiting) (sym c.self.view_is) c.requires))
    (with_items_is c.self.inside.waiting c.overtake.new.line long
    ∙ mapped_by overtaken_by c.number.result c.args.ticket c.deref_mut.result.now c.self.inside.waiting.items
    c.overtake.new.line c.number.ensures c.deref_mut.ensures.value c.overtake.ensures)
