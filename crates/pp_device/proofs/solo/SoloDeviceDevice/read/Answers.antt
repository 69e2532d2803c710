use Rattle.std.proofs.Common.{rules, ◌≡◌, sym, ◌∙◌, ap, true, length}
use Rattle.pp_device.specs.Disk.{is_served}
use Rattle.pp_device.proofs.DiskLemmas.{image_of-served}
use Rattle.pp_device.proofs.solo.SoloDeviceDevice.read.Goals as goal

pub returns-clause-given : goal.returns-clause-given
returns-clause-given c =
    let served : is_served c.args.self.now c.args.page (length c.args.image.now) ≡ true = sym c.serves-serves.ensures ∙ c.if-not-serves.false in
    record {
      answer_is = search rules;
      given_is =
          c.copy_from_slice.ensures.after ∙ c.deref.ensures.value ∙ rw served
          (sym (image_of-served (λ v. v.items) c.self.inside.images.items c.args.self.now c.args.page (length c.args.image.now) c.index.result.now (ap (λ d. d.images) c.self.view_is) served c.index.ensures));
      after = search rules;
    }
