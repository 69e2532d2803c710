use Rattle.std.proofs.Common.{[], ◌∷◌, get_or}
use Rattle.std.specs.Borrow.{Bor}
use Rattle.pp_words.specs.CommandLine.{Text, texts}
use Rattle.pp_cli.proofs.Stopping.{handed_stop, one_of, stopped_among}
use Rattle.pp_cli.proofs.files.contents_of_all.Goals as goal

pub returns-in_err-bytes-clause-stopped : goal.returns-in_err-bytes-clause-stopped
returns-in_err-bytes-clause-stopped g c =
    let none : Bor Text = record { ref_ptr = (0, 0); now = [] } in
    handed_stop (texts c.args.paths.now) c.from_residual.result c.in_err-bytes.field-0.0 c.from_residual.ensures.1
    (stopped_among ((get_or c.args.paths.now c.loop-path.path-index none).now ∷ []) (texts c.args.paths.now)
    c.in_err-bytes.field-0.0
    (λ path. one_of c.args.paths.now c.loop-path.path-index none path c.loop-path-test.true)
    c.in_err-bytes.ensures)
