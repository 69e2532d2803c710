-- What is left to show of Cache::unfix: every other page stays pinned, and the search was told of this one.
use Rattle.std.proofs.Common.{◌≡◌, ◌≢◌, ℕ, ◌-◌, true, ap, sym, subst, ◌∙◌}
use Rattle.std.specs.Prelude.{nat_lt}
use Rattle.pp_frames.specs.Marks.{PageMap, pins_of}
use Rattle.pp_callers.specs.Cache.{is_pinned}
use Rattle.pp_callers.proofs.CacheLemmas.{pins_there}
use Rattle.pp_callers.proofs.cache.Cache.unfix.Goals as goal

pub returns-then-pins-gt0-clause-knows : goal.returns-then-pins-gt0-clause-knows
returns-then-pins-gt0-clause-knows c =
    c.freed.ensures.knows (is_pinned c.args.self.now.marks) (is_pinned c.unpin.new.self) c.requires.knows
    (λ x ne held. subst (λ (m : PageMap). is_pinned m x ≡ true) (sym c.unpin.ensures.exact)
    (ap (nat_lt 0) (pins_there c.args.self.now.marks c.args.page (pins_of c.args.self.now.marks c.args.page - 1) x ne) ∙ held))
