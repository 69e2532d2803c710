-- What is left to show of Frames::make_free: the new frame is free.
use Rattle.std.proofs.Common.{◌≡◌, length, arith}
use Rattle.std.specs.Prelude.{is_ok}
use Rattle.pp_cache.specs.KeptInside.{parts_of}
use Rattle.pp_cache.proofs.FrameLemmas.{kept-pushed}
use Rattle.pp_cache.proofs.frames.Frames.make_free.Goals as goal

pub invariant_of-self : goal.invariant_of-self
invariant_of-self c =
    let full : c.self.inside.taken ≡ length c.self.inside.order.items = omega (arith, c.self.inside.order.ok.0) in
    kept-pushed (parts_of c.self.inside) c.push.new.self.items (is_ok c.push.result) c.self.invariant
    c.push.ensures.items full
