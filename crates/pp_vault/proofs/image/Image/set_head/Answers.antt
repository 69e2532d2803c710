use Rattle.std.proofs.Common.{rules, ◌≡◌, ◌∙◌, ap, length, drop}
use Rattle.std.proofs.lemmas.List.{take_at}
use Rattle.pp_device.specs.Image.{head_of}
use Rattle.pp_vault.proofs.Heads.{head_written}
use Rattle.pp_vault.proofs.image.Image.set_head.Goals as goal

pub returns-clause-head : goal.returns-clause-head
returns-clause-head c =
    let long : length c.make.new.image ≡ c.self.inside.bytes.len = search rules in
    ap head_of
    (take_at c.make.new.image (drop (length c.make.new.image) c.self.inside.bytes.items) c.self.inside.bytes.len long
    ∙ c.make.ensures)
    ∙ head_written c.deref_mut.result.now c.args.page c.args.stamp c.ranges.page.fits c.ranges.stamp.fits
