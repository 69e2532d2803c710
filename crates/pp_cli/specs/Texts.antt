-- The texts of a command that reads several plans.
use Rattle.std.specs.Prelude.{◌∷◌, ◌++◌, List}
use Rattle.pp_words.specs.CommandLine.{Text, texts}
use Rattle.pp_explain.specs.Paragraphs.{path_in}
use Rattle.pp_cli.specs.declared.explaining.Texts.{Texts}

-- their paths: that of the settings, of the script or the journal, and of the plans
abbrev pub paths_at : Texts → List Text
paths_at files = (files.settings.path.now ∷ path_in files.other) ++ texts files.paths.now
