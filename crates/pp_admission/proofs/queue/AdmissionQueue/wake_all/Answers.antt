use Rattle.std.proofs.Common.{◌≡◌, length, map, ap, ◌∙◌, arith}
use Rattle.std.proofs.lemmas.List.{with_items_is}
use Rattle.pp_admission.specs.declared.waiting.Waiting.{Waiting}
use Rattle.pp_admission.specs.Queues.{awakened, with_waiting, next_in, is_asleep_at}
use Rattle.pp_admission.specs.Kept.{parts_of}
use Rattle.pp_admission.proofs.Calls.{sound_as, sound_all_woken, all_woken_next, all_woken_awake}
use Rattle.pp_admission.proofs.queue.AdmissionQueue.wake_all.Goals as goal

pub invariant_of-self : goal.invariant_of-self
invariant_of-self c =
    let long : length c.wake.new.line ≡ c.self.inside.waiting.len = omega
    (arith, c.wake.auto.line, ap (length {A = Waiting}) c.deref_mut.ensures.value, c.self.inside.waiting.ok.0) in
    record {
      sound = sound_as (parts_of c.self.inside) (map awakened c.self.inside.waiting.items) _
          (sound_all_woken (parts_of c.self.inside) c.self.invariant.sound)
          (with_items_is c.self.inside.waiting c.wake.new.line long ∙ c.wake.ensures.woken
          ∙ ap (map awakened) c.deref_mut.ensures.value);
      room = c.self.invariant.room;
      most_fits = c.self.invariant.most_fits;
      bypass_fits = c.self.invariant.bypass_fits;
    }

pub returns-clause-sound : goal.returns-clause-sound
returns-clause-sound c =
    let long : length c.wake.new.line ≡ c.self.inside.waiting.len = omega
    (arith, c.wake.auto.line, ap (length {A = Waiting}) c.deref_mut.ensures.value, c.self.inside.waiting.ok.0) in
    sound_as (parts_of c.self.inside) (map awakened c.self.inside.waiting.items) _
    (sound_all_woken (parts_of c.self.inside) c.self.invariant.sound)
    (with_items_is c.self.inside.waiting c.wake.new.line long ∙ c.wake.ensures.woken
    ∙ ap (map awakened) c.deref_mut.ensures.value)

pub returns-clause-next : goal.returns-clause-next
returns-clause-next c = λ r.
    let long : length c.wake.new.line ≡ c.self.inside.waiting.len = omega
    (arith, c.wake.auto.line, ap (length {A = Waiting}) c.deref_mut.ensures.value, c.self.inside.waiting.ok.0) in
    ap (λ ws. next_in (with_waiting (parts_of c.self.inside) ws) r)
    (with_items_is c.self.inside.waiting c.wake.new.line long ∙ c.wake.ensures.woken
    ∙ ap (map awakened) c.deref_mut.ensures.value)
    ∙ all_woken_next (parts_of c.self.inside) r ∙ ap (λ q. next_in q r) c.self.view_is

pub returns-clause-awake : goal.returns-clause-awake
returns-clause-awake c = λ t.
    let long : length c.wake.new.line ≡ c.self.inside.waiting.len = omega
    (arith, c.wake.auto.line, ap (length {A = Waiting}) c.deref_mut.ensures.value, c.self.inside.waiting.ok.0) in
    ap (λ ws. is_asleep_at (with_waiting (parts_of c.self.inside) ws) t)
    (with_items_is c.self.inside.waiting c.wake.new.line long ∙ c.wake.ensures.woken
    ∙ ap (map awakened) c.deref_mut.ensures.value)
    ∙ all_woken_awake (parts_of c.self.inside) t
