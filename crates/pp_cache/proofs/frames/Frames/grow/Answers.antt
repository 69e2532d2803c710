-- What is left to show of Frames::grow: keys without a page change no count.
use Rattle.std.proofs.Common.{◌≤◌, length, subst, sym}
use Rattle.std.specs.Prelude.{is_ok}
use Rattle.pp_cache.specs.Frames.{FrameMap}
use Rattle.pp_cache.specs.KeptInside.{parts_of}
use Rattle.pp_cache.proofs.FrameLemmas.{kept-resized}
use Rattle.pp_cache.proofs.frames.Frames.grow.Goals as goal

pub invariant_of-self : goal.invariant_of-self
invariant_of-self c =
    let more : length c.self.inside.pages.items ≤ c.args.keys =
    subst (λ (w : FrameMap). length w.pages ≤ c.args.keys) (sym c.self.view_is) c.requires.more in
    kept-resized (parts_of c.self.inside) c.resize.new.self.items (is_ok c.resize.result) c.args.keys _
    c.self.invariant c.resize.ensures.items c.self.inside.pages.ok.0 more c.requires.fits
