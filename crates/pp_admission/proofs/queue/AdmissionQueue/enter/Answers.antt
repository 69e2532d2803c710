use Rattle.std.proofs.Common.{◌≡◌, ◌≢◌, ℕ, true, Some, length, subst, sym, ap, ◌∙◌, inl, arith}
use Rattle.pp_admission.specs.Queues.{Parts, IsSound, NextIsAwake, next_in, waiting_at, newcomer}
use Rattle.pp_admission.specs.Kept.{parts_of}
use Rattle.pp_admission.proofs.Calls.{sound_entered, with_one_more, entered_by, entered_next_by, entered_stays}
use Rattle.pp_admission.proofs.Calls.{entered_waits, entered_others, entered_awake}
use Rattle.pp_admission.proofs.queue.AdmissionQueue.enter.Goals as goal

pub invariant_of-self : goal.invariant_of-self
invariant_of-self c =
    let exact = entered_by (parts_of c.self.inside) c.args.self.now c.args.peak c.push_reserved.new.self.items
    c.self.view_is c.push_reserved.ensures.items in
    let few : length c.args.self.now.waiting ≢ c.args.self.now.most =
    (λ e. let full : c.is_full.result ≡ true = c.is_full.ensures.full.1 (inl e) in absurd cc) in
    record {
      sound = subst IsSound (sym exact) (sound_entered c.args.self.now c.args.peak c.is_full.ensures.sound few);
      room = omega (arith, c.push_reserved.ensures.capacity, c.self.invariant.room);
      most_fits = c.self.invariant.most_fits;
      bypass_fits = c.self.invariant.bypass_fits;
    }

pub returns-clause-next : goal.returns-clause-next
returns-clause-next c =
    let exact = entered_by (parts_of c.self.inside) c.args.self.now c.args.peak c.push_reserved.new.self.items
    c.self.view_is c.push_reserved.ensures.items in
    entered_next_by c.args.self.now _ c.args.peak c.new.result exact
    (c.new.ensures ∙ ap (λ (q : Parts). q.next) c.self.view_is)

pub returns-clause-waits : goal.returns-clause-waits
returns-clause-waits c =
    let exact = entered_by (parts_of c.self.inside) c.args.self.now c.args.peak c.push_reserved.new.self.items
    c.self.view_is c.push_reserved.ensures.items in
    let given : c.new.result ≡ c.args.self.now.next = c.new.ensures ∙ ap (λ (q : Parts). q.next) c.self.view_is in
    subst (λ (n : ℕ). waiting_at (with_one_more (parts_of c.self.inside) c.push_reserved.new.self.items) n
    ≡ Some (newcomer n c.args.peak)) (sym given)
    (ap (λ q. waiting_at q c.args.self.now.next) exact
    ∙ entered_waits c.args.self.now c.args.peak c.is_full.ensures.sound)

pub returns-clause-others : goal.returns-clause-others
returns-clause-others c = λ t d.
    let exact = entered_by (parts_of c.self.inside) c.args.self.now c.args.peak c.push_reserved.new.self.items
    c.self.view_is c.push_reserved.ensures.items in
    let given : c.new.result ≡ c.args.self.now.next = c.new.ensures ∙ ap (λ (q : Parts). q.next) c.self.view_is in
    ap (λ q. waiting_at q t) exact ∙ entered_others c.args.self.now c.args.peak t (λ e. d (e ∙ sym given))

pub returns-clause-stays : goal.returns-clause-stays
returns-clause-stays c = λ room t e.
    let exact = entered_by (parts_of c.self.inside) c.args.self.now c.args.peak c.push_reserved.new.self.items
    c.self.view_is c.push_reserved.ensures.items in
    ap (λ q. next_in q room) exact ∙ entered_stays c.args.self.now c.args.peak room t e

pub returns-clause-awake : goal.returns-clause-awake
returns-clause-awake c = λ room h.
    let exact = entered_by (parts_of c.self.inside) c.args.self.now c.args.peak c.push_reserved.new.self.items
    c.self.view_is c.push_reserved.ensures.items in
    subst (λ (q : Parts). NextIsAwake q room) (sym exact)
    (entered_awake c.args.self.now c.args.peak room c.is_full.ensures.sound h)

pub returns-clause-sound : goal.returns-clause-sound
returns-clause-sound c =
    let exact = entered_by (parts_of c.self.inside) c.args.self.now c.args.peak c.push_reserved.new.self.items
    c.self.view_is c.push_reserved.ensures.items in
    let few : length c.args.self.now.waiting ≢ c.args.self.now.most =
    (λ e. let full : c.is_full.result ≡ true = c.is_full.ensures.full.1 (inl e) in absurd cc) in
    subst IsSound (sym exact) (sound_entered c.args.self.now c.args.peak c.is_full.ensures.sound few)
