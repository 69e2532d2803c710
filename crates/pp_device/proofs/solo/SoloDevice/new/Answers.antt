use Rattle.std.proofs.Common.{◌≡◌, vec_len}
use Rattle.pp_device.proofs.DiskLemmas.{map-more, All-more}
use Rattle.pp_device.proofs.solo.SoloDevice.new.Goals as goal

pub loop-page-preserved : goal.loop-page-preserved
loop-page-preserved c =
    rw c.in_ok-push.ensures.items (
      map-more _ _ _ _ _ c.loop-page.invariant.0 c.in_ok-blank_image.ensures.exact,
      All-more (λ v. vec_len v ≡ c.args.page_bytes) _ _ c.loop-page.invariant.1 c.in_ok-blank_image.ensures.len,
    )
