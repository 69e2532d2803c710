use Rattle.std.proofs.Common.{◌≡◌, All, map, vec_len}
use Rattle.std.specs.List.{range_with_len}
use Rattle.pp_device.specs.Image.{blank_image}
use Rattle.pp_device.proofs.solo.SoloDevice.new.Given as goal

abbrev pub invariant-loop-page : goal.invariant-loop-page
invariant-loop-page l =
    (map (λ v. v.items) l.images.items ≡ map (blank_image l.page_bytes) (range_with_len 0 l.page)) × All (λ v. vec_len v ≡ l.page_bytes) l.images.items
