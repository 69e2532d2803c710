use Rattle.std.proofs.Common.{[], ◌-◌, length}
use Rattle.std.specs.Borrow.{Bor}
use Rattle.pp_words.specs.CommandLine.{Text, texts}
use Rattle.pp_cli.proofs.Segmented.{first_path, its_path, last_low}
use Rattle.pp_cli.proofs.Stopping.{behind_one}
use Rattle.pp_cli.proofs.segments.last_of.Goals as goal

abbrev none : Bor Text
none = record { ref_ptr = (0, 0); now = [] }

pub returns-then-is_empty : goal.returns-then-is_empty
returns-then-is_empty c = first_path c.args.settings.now (texts c.args.files.now)

pub returns : goal.returns
returns c =
    behind_one c.args.settings.now (texts c.args.files.now) _
    (its_path c.args.files.now (length c.args.files.now - 1) none
    (last_low (length c.args.files.now) c.is_empty.result c.is_empty.ensures c.if-is_empty.false))
