-- What is left to show of Numbers::last_freed_t1: the page of the slot that wins.
use Rattle.std.proofs.Common.{◌≡◌, ◌<◌, ◌≤◌, ℕ, length, get_or, arith, sym, subst, ◌∙◌}
use Rattle.std.proofs.lemmas.List.{get_or_read}
use Rattle.std.specs.Prelude.{Some, None}
use Rattle.pp_arc.specs.Slots.{Slotted, slotted_of, freed_t1_of}
use Rattle.pp_arc.proofs.NamingLemmas.{in_range}
use Rattle.pp_arc.proofs.SlotLemmas.{IsGreatest, greatest, none_greatest}
use Rattle.pp_arc.proofs.numbers.Numbers.last_freed_t1.Goals as goal

pub index-requires : goal.index-requires
index-requires c =
    let won : c.greatest.result ≡ Some c.in_ok-slot.slot = cc in
    omega (
      arith,
      in_range c.self.inside.freed_t1 c.in_ok-slot.slot (c.greatest.ensures.some c.in_ok-slot.slot won).0,
      c.self.invariant.freed_t1.size,
    )

pub returns-in_err-slot-clause-none : goal.returns-in_err-slot-clause-none
returns-in_err-slot-clause-none c = λ e.
    let lost : c.greatest.result ≡ None = cc in
    subst (λ (w : Slotted). (x : ℕ) → get_or (freed_t1_of w) x 0 ≡ 0) c.self.view_is
    (none_greatest (slotted_of c.self.inside) c.self.inside.freed_t1 c.self.invariant.freed_t1
    (c.greatest.ensures.none lost))

pub returns-clause-some : goal.returns-clause-some
returns-clause-some c = λ page e.
    let won : c.greatest.result ≡ Some c.in_ok-slot.slot = cc in
    let low : c.in_ok-slot.slot < length c.self.inside.pages.items =
    omega (
      arith,
      in_range c.self.inside.freed_t1 c.in_ok-slot.slot (c.greatest.ensures.some c.in_ok-slot.slot won).0,
      c.self.invariant.freed_t1.size,
    ) in
    let at : page ≡ get_or c.self.inside.pages.items c.in_ok-slot.slot 0 =
    cc (e, get_or_read c.self.inside.pages.items _ _ low c.index.ensures 0) in
    let g : IsGreatest (slotted_of c.self.inside) c.self.inside.freed_t1 c.in_ok-slot.slot page =
    greatest (slotted_of c.self.inside) c.self.inside.freed_t1 c.in_ok-slot.slot page c.self.invariant.freed_t1
    (c.greatest.ensures.some c.in_ok-slot.slot won).0 (c.greatest.ensures.some c.in_ok-slot.slot won).1 at in
    subst (λ (w : Slotted). (0 < get_or (freed_t1_of w) page 0)
    × ((y : ℕ) → get_or (freed_t1_of w) y 0 ≤ get_or (freed_t1_of w) page 0)) c.self.view_is (g.some, g.most)
