use Rattle.std.proofs.Common.{◌≡◌, length}
use Rattle.pp_test_durable.proofs.Steps.{map-more, All-more}
use Rattle.pp_test_durable.proofs.crashing.Crashing.new.Goals as goal

pub loop-page-preserved : goal.loop-page-preserved
loop-page-preserved c =
    rw c.in_ok-push.ensures.items (
      map-more _ _ _ _ c.loop-page.invariant.0 c.in_ok-new.ensures.exact,
      All-more (λ image. length image.shown ≡ c.args.page_bytes) _ _ c.loop-page.invariant.1 c.in_ok-new.ensures.length,
    )
