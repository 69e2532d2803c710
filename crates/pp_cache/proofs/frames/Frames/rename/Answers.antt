-- What is left to show of Frames::rename: the frame still has one page.
use Rattle.std.proofs.Common.{◌≡◌, ◌<◌, length, get_or, subst, sym, ap, ◌∙◌}
use Rattle.std.specs.Prelude.{None, Some}
use Rattle.pp_cache.specs.Frames.{FrameMap, page_of}
use Rattle.pp_cache.specs.KeptInside.{parts_of}
use Rattle.pp_cache.proofs.FrameLemmas.{kept-move, one_to_one}
use Rattle.pp_cache.proofs.frames.Frames.rename.Goals as goal

pub returns-in-Some-clause-one_to_one : goal.returns-in-Some-clause-one_to_one
returns-in-Some-clause-one_to_one c =
    let lt : c.args.to < length c.self.inside.pages.items =
    subst (λ (w : FrameMap). c.args.to < length w.pages) (sym c.self.view_is) c.requires.key in
    let absent : get_or c.self.inside.pages.items c.args.to None ≡ None =
    ap (λ (w : FrameMap). page_of w c.args.to) c.self.view_is ∙ c.requires.absent in
    let here : get_or c.self.inside.pages.items c.args.from None ≡ Some c.in-Some.page =
    ap (λ (w : FrameMap). page_of w c.args.from) c.self.view_is ∙ sym c.in-Some.ensures.value in
    one_to_one _ (kept-move (parts_of c.self.inside) c.args.from c.args.to c.in-Some.page c.self.invariant here absent lt)
