use Rattle.std.proofs.Common.{◌≡◌, ℕ, ◌<◌, sym, subst}
use Rattle.pp_settings.specs.Layout.{page_count}
use Rattle.pp_settings.proofs.Pages.{pages_are, pages_above, pages_last}
use Rattle.pp_settings.proofs.layout.Layout.pages.Goals as goal

pub returns-clause-above : goal.returns-clause-above
returns-clause-above c =
    let is : c.loop-extent.pages ≡ page_count c.args.self.now =
    rw (← c.extents-extent-items.ensures.are) (pages_are _ _ _ c.loop-extent-test.false c.loop-extent.invariant.left) in
    λ r page has. subst (λ (n : ℕ). page < n) (sym is) (pages_above c.args.self.now r page has)

pub returns-clause-last : goal.returns-clause-last
returns-clause-last c =
    let is : c.loop-extent.pages ≡ page_count c.args.self.now =
    rw (← c.extents-extent-items.ensures.are) (pages_are _ _ _ c.loop-extent-test.false c.loop-extent.invariant.left) in
    rw is (pages_last c.args.self.now c.extents-extent-items.ensures.facts)
