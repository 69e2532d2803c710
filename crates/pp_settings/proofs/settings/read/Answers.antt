use Rattle.toml.specs.View.{table_view}
use Rattle.pp_settings.specs.Views.{drafted}
use Rattle.pp_settings.proofs.Spelled.{configuration_found}
use Rattle.pp_settings.proofs.settings.read.Goals as goal

pub settled-requires : goal.settled-requires
settled-requires c =
    (configuration_found (table_view c.in_ok-document.document) (drafted c.in_ok-draft.draft) c.in_ok-draft.ensures).1
