use Rattle.std.proofs.Common.{◌∙◌, ap, Option, Some, List, ℕ}
use Rattle.pp_core.specs.Opening.{kept_of}
use Rattle.pp_vault.specs.Parts.{Parts}
use Rattle.pp_vault.specs.Opening.{opening_images}
use Rattle.pp_vault.proofs.OpeningFits.{opening_stands}
use Rattle.pp_vault.proofs.store.Store.new.Goals as goal

pub returns-clause-opens : goal.returns-clause-opens
returns-clause-opens c =
    let n = c.page_bytes-page_bytes.result in
    let v : Parts =
    record {
      core = c.in_ok-core.core;
      images = c.in_ok-images.images.items;
      spare = Some c.in_ok-new.field-0;
      page_bytes = n;
    } in
    opening_stands (kept_of c.args.settings.now) v c.in_ok-core.ensures.opens c.page_bytes-page_bytes.ensures.within.0
    (c.in_ok-images.ensures ∙ ap (λ f. opening_images f n) c.frames.ensures.is)
    (ap {B = Option (List ℕ)} Some c.in_ok-new.ensures)
