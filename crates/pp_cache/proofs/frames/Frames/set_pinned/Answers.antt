-- What is left to show of Frames::set_pinned: the frame still has one page.
use Rattle.std.proofs.Common.{◌≡◌, get_or, sym, ap, ◌∙◌}
use Rattle.std.specs.Prelude.{None, Some}
use Rattle.pp_cache.specs.Frames.{FrameMap, page_of}
use Rattle.pp_cache.specs.KeptInside.{parts_of}
use Rattle.pp_cache.proofs.FrameLemmas.{kept-pin, one_to_one}
use Rattle.pp_cache.proofs.frames.Frames.set_pinned.Goals as goal

pub returns-in-Some-clause-one_to_one : goal.returns-in-Some-clause-one_to_one
returns-in-Some-clause-one_to_one c =
    let here : get_or c.self.inside.pages.items c.args.key None ≡ Some c.in-Some.page =
    ap (λ (w : FrameMap). page_of w c.args.key) c.self.view_is ∙ sym c.in-Some.ensures.value in
    one_to_one _ (kept-pin (parts_of c.self.inside) c.args.key c.in-Some.page c.args.is_pinned c.self.invariant here)
