-- What is left to show of find.
use Rattle.std.proofs.Common.{◌≡◌, length, get_or, ap, refl, sym, ◌∙◌}
use Rattle.pp_names.specs.Slots.{at, home_of}
use Rattle.pp_names.proofs.SlotLemmas.{IsOther, IsRead, read_slot, read_key, read_other, read_empty}
use Rattle.pp_names.proofs.SlotLemmas.{passed_next, less_next, not_all, not_found}
use Rattle.pp_names.proofs.slots.find.Goals as goal

pub bounds-keys-name : goal.bounds-keys-name
bounds-keys-name c = (read_key c.args.keys.now c.args.slots.now c.loop-place.place c.requires.table.laid.named
    c.loop-place.invariant.low c.loop-place-test.true).below

pub returns-then-keys-name-clause-some : goal.returns-then-keys-name-clause-some
returns-then-keys-name-clause-some c = λ name is.
    let read : IsRead c.args.keys.now c.args.slots.now c.loop-place.place = read_key c.args.keys.now c.args.slots.now
    c.loop-place.place c.requires.table.laid.named c.loop-place.invariant.low c.loop-place-test.true in
    let this : get_or c.args.slots.now c.loop-place.place 0 ≡ name = cc in
    let there : at c.args.slots.now c.loop-place.place ≡ name =
    sym (read_slot c.args.slots.now c.loop-place.place c.loop-place.invariant.low) ∙ this in
    let key : at c.args.keys.now (at c.args.slots.now c.loop-place.place) ≡ c.args.key =
    sym read.key ∙ c.if-keys-name.true in
    (ap (at c.args.keys.now) (sym there) ∙ key, λ z. read.used (key ∙ z))

pub loop-place-smaller : goal.loop-place-smaller
loop-place-smaller c = less_next (length c.args.slots.now) (length c.args.slots.now)
    (IsOther c.args.keys.now c.args.slots.now c.args.key) (home_of (length c.args.keys.now) c.args.key) c.loop-place.place
    c.next-place.result c.loop-place.invariant
    (read_other c.args.keys.now c.args.slots.now c.args.key c.loop-place.place c.requires.table c.loop-place.invariant.low
    c.loop-place-test.true c.if-keys-name.false)
    (λ all. not_all c.args.keys.now c.args.slots.now c.requires.table.size c.requires.table.count (λ j low. (all j low).0))
    refl c.next-place.ensures.value

pub loop-place-preserved : goal.loop-place-preserved
loop-place-preserved c = rw c.next-place.ensures.value (passed_next (length c.args.slots.now)
    (IsOther c.args.keys.now c.args.slots.now c.args.key) (home_of (length c.args.keys.now) c.args.key) c.loop-place.place
    c.loop-place.invariant
    (read_other c.args.keys.now c.args.slots.now c.args.key c.loop-place.place c.requires.table c.loop-place.invariant.low
    c.loop-place-test.true c.if-keys-name.false)
    (λ all. not_all c.args.keys.now c.args.slots.now c.requires.table.size c.requires.table.count (λ j low. (all j low).0)))

pub returns-clause-none : goal.returns-clause-none
returns-clause-none c = λ is. not_found c.args.keys.now c.args.slots.now c.args.key c.loop-place.place c.requires.table
    (read_empty c.args.slots.now c.loop-place.place c.loop-place.invariant.low c.loop-place-test.false)
    c.loop-place.invariant
