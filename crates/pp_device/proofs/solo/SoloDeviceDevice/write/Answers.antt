use Rattle.std.proofs.Common.{rules, ◌≡◌, sym, ◌∙◌, true, length, refl}
use Rattle.std.proofs.lemmas.List.{map-set}
use Rattle.pp_device.specs.Disk.{is_served}
use Rattle.pp_device.proofs.solo.SoloDeviceDevice.write.Goals as goal

pub returns-clause-left : goal.returns-clause-left
returns-clause-left c =
    let served : is_served c.args.self.now c.args.page (length c.args.image.now) ≡ true = sym c.serves-serves.ensures ∙ c.if-not-serves.false in
    record {
      answer_is = search rules;
      after = rw (served, ← c.self.view_is, map-set (λ v. v.items) c.self.inside.images.items c.args.page c.copy_from_slice.new.self, c.copy_from_slice.ensures.items, c.raise.ensures) refl;
    }
