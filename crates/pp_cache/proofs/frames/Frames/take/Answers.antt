-- What is left to show of Frames::take: the first of the free frames has no page, and then has this one.
use Rattle.std.proofs.Common.{◌≡◌, ◌<◌, length, get_or, subst, sym, ap, ◌∙◌}
use Rattle.std.specs.Prelude.{None}
use Rattle.std.proofs.lemmas.List.{get_or_read}
use Rattle.pp_cache.specs.Frames.{FrameMap, page_of, IsFree}
use Rattle.pp_cache.specs.Kept.{Parts}
use Rattle.pp_cache.specs.KeptInside.{parts_of}
use Rattle.pp_cache.proofs.FrameLemmas.{kept-take, taken_room, open_first, one_to_one}
use Rattle.pp_cache.proofs.frames.Frames.take.Goals as goal

pub invariant_of-self : goal.invariant_of-self
invariant_of-self c =
    let p : Parts = parts_of c.self.inside in
    let lt : c.args.key < length c.self.inside.pages.items =
    subst (λ (w : FrameMap). c.args.key < length w.pages) (sym c.self.view_is) c.requires.key in
    let absent : get_or c.self.inside.pages.items c.args.key None ≡ None =
    ap (λ (w : FrameMap). page_of w c.args.key) c.self.view_is ∙ c.requires.absent in
    let room : c.self.inside.taken < length c.self.inside.order.items =
    taken_room (parts_of c.self.inside) c.args.self.now c.self.invariant c.self.view_is c.requires.room in
    kept-take p c.args.key c.index-frame.result.now c.self.invariant lt absent room
    (get_or_read c.self.inside.order.items c.self.inside.taken c.index-frame.result.now room c.index-frame.ensures 0)

pub returns-clause-below : goal.returns-clause-below
returns-clause-below c =
    let room : c.self.inside.taken < length c.self.inside.order.items =
    taken_room (parts_of c.self.inside) c.args.self.now c.self.invariant c.self.view_is c.requires.room in
    subst (λ (w : FrameMap). c.index-frame.result.now < w.frames) c.self.view_is
    (open_first (parts_of c.self.inside) c.index-frame.result.now c.self.invariant room
    (get_or_read c.self.inside.order.items c.self.inside.taken c.index-frame.result.now room c.index-frame.ensures 0)).low

pub returns-clause-free : goal.returns-clause-free
returns-clause-free c =
    let room : c.self.inside.taken < length c.self.inside.order.items =
    taken_room (parts_of c.self.inside) c.args.self.now c.self.invariant c.self.view_is c.requires.room in
    subst (λ (w : FrameMap). IsFree w c.index-frame.result.now) c.self.view_is
    (open_first (parts_of c.self.inside) c.index-frame.result.now c.self.invariant room
    (get_or_read c.self.inside.order.items c.self.inside.taken c.index-frame.result.now room c.index-frame.ensures
    0)).free

pub returns-clause-one_to_one : goal.returns-clause-one_to_one
returns-clause-one_to_one c = one_to_one _ (invariant_of-self c)
