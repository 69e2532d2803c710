use Rattle.std.proofs.Common.{◌≡◌, ℕ, vec_len}
use Rattle.std.specs.Io.KnownBytes.{Appends}
use Rattle.pp_device.specs.Image.{blank_image, with_head}
use Rattle.pp_device.specs.DeviceFile.{blank_file}
use Rattle.pp_device.proofs.format.format_onto.Given as goal

abbrev pub invariant-loop-page : goal.invariant-loop-page
invariant-loop-page g l =
    (vec_len l.image ≡ vec_len l.initial.image) × ((page : ℕ) → with_head l.image.items page 0 ≡ blank_image (vec_len l.initial.image) page) ×
    Appends (g.W.Write.contents l.initial.out) (g.W.Write.contents l.out) (blank_file l.page (vec_len l.initial.image))
