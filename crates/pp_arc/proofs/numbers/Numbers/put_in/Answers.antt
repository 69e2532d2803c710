-- What is left to show of Numbers::put_in: the slot that is taken was free.
use Rattle.std.proofs.Common.{◌≡◌, ◌<◌, arith, length, subst}
use Rattle.pp_arc.specs.Slots.{Slotted, slotted_of}
use Rattle.pp_arc.proofs.SlotLemmas.{puts}
use Rattle.pp_arc.proofs.numbers.Numbers.put_in.Goals as goal

pub returns-then-self-eq0-clause-full : goal.returns-then-self-eq0-clause-full
returns-then-self-eq0-clause-full c = λ e.
    let none : (slotted_of c.self.inside).spare ≡ 0 = omega (arith, c.if-self-eq0.true) in
    (subst (λ (w : Slotted). w.spare ≡ 0) c.self.view_is none, c.requires.none)

pub index-slot-requires : goal.index-slot-requires
index-slot-requires c = omega (arith, c.self.invariant.used, c.if-self-eq0.false)

pub index_mut-requires-2 : goal.index_mut-requires-2
index_mut-requires-2 c = omega (
  arith,
  (puts (slotted_of c.self.inside) c.args.self.now c.args.page c.index-slot.result.now
      c.args.number c.self.invariant c.self.view_is (omega (arith, c.if-self-eq0.false)) c.index-slot.ensures
      c.requires.below c.requires.none c.requires.number).below,
)

pub index_mut-requires-3 : goal.index_mut-requires-3
index_mut-requires-3 c = omega (
  arith,
  (puts (slotted_of c.self.inside) c.args.self.now c.args.page c.index-slot.result.now
      c.args.number c.self.invariant c.self.view_is (omega (arith, c.if-self-eq0.false)) c.index-slot.ensures
      c.requires.below c.requires.none c.requires.number).below,
  c.self.invariant.numbers.size,
)

pub invariant_of-self : goal.invariant_of-self
invariant_of-self c = (puts (slotted_of c.self.inside) c.args.self.now c.args.page c.index-slot.result.now
    c.args.number c.self.invariant c.self.view_is (omega (arith, c.if-self-eq0.false)) c.index-slot.ensures
    c.requires.below c.requires.none c.requires.number).slotted

pub returns-clause-set : goal.returns-clause-set
returns-clause-set c = λ e. (puts (slotted_of c.self.inside) c.args.self.now c.args.page c.index-slot.result.now
    c.args.number c.self.invariant c.self.view_is (omega (arith, c.if-self-eq0.false)) c.index-slot.ensures
    c.requires.below c.requires.none c.requires.number).numbers

pub returns-clause-freed : goal.returns-clause-freed
returns-clause-freed c =
    let p = puts (slotted_of c.self.inside) c.args.self.now c.args.page c.index-slot.result.now
    c.args.number c.self.invariant c.self.view_is (omega (arith, c.if-self-eq0.false)) c.index-slot.ensures
    c.requires.below c.requires.none c.requires.number in
    (p.t1, p.t2)
