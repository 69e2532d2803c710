-- What is left to show of Names::give: the first of the names behind the used ones has no key.
use Rattle.std.proofs.Common.{ℕ, ◌<◌, List, length, Option, sym, subst}
use Rattle.std.proofs.lemmas.List.{get_or_read}
use Rattle.pp_names.specs.Names.{named_count}
use Rattle.pp_names.proofs.OrderLemmas.{room_of, open_first, ordered-give}
use Rattle.pp_names.proofs.names.Names.give.Goals as goal

pub insert-requires-clause-name : goal.insert-requires-clause-name
insert-requires-clause-name c =
    let room : named_count c.self.inside.table < length c.self.inside.table =
    subst (λ (w : List (Option ℕ)). named_count w < length w) (sym c.self.view_is) c.requires.room in
    let lt : c.self.inside.used < length c.self.inside.order.items =
    room_of c.self.inside.table c.self.inside.order.items c.self.inside.used c.self.invariant room in
    (open_first c.self.inside.table c.self.inside.order.items c.self.inside.used c.index-name.result.now c.self.invariant room
    (get_or_read c.self.inside.order.items c.self.inside.used c.index-name.result.now lt c.index-name.ensures 0)).below

pub invariant_of-self : goal.invariant_of-self
invariant_of-self c =
    let room : named_count c.self.inside.table < length c.self.inside.table =
    subst (λ (w : List (Option ℕ)). named_count w < length w) (sym c.self.view_is) c.requires.room in
    let lt : c.self.inside.used < length c.self.inside.order.items =
    room_of c.self.inside.table c.self.inside.order.items c.self.inside.used c.self.invariant room in
    rw c.insert.ensures.exact
    (ordered-give c.self.inside.table c.self.inside.order.items c.self.inside.used c.index-name.result.now c.args.key
    c.self.invariant room
    (get_or_read c.self.inside.order.items c.self.inside.used c.index-name.result.now lt c.index-name.ensures 0))

pub returns-clause-below : goal.returns-clause-below
returns-clause-below c =
    let room : named_count c.self.inside.table < length c.self.inside.table =
    subst (λ (w : List (Option ℕ)). named_count w < length w) (sym c.self.view_is) c.requires.room in
    let lt : c.self.inside.used < length c.self.inside.order.items =
    room_of c.self.inside.table c.self.inside.order.items c.self.inside.used c.self.invariant room in
    subst (λ (w : List (Option ℕ)). c.index-name.result.now < length w) c.self.view_is
    (open_first c.self.inside.table c.self.inside.order.items c.self.inside.used c.index-name.result.now c.self.invariant room
    (get_or_read c.self.inside.order.items c.self.inside.used c.index-name.result.now lt c.index-name.ensures 0)).below
