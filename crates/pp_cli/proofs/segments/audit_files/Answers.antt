use Rattle.std.proofs.Common.{◌++◌, ◌∷◌, [], refl, arith, length-append, rules}
use Rattle.std.specs.Borrow.{Bor}
use Rattle.pp_judge.specs.Answers.{seen}
use Rattle.pp_judge.specs.Steps.{is_want_of_memory}
use Rattle.pp_words.specs.CommandLine.{Asked, Text, texts}
use Rattle.pp_cli.proofs.Segmented.{ended_at, handed_on, its_path, refused_at, unread_at}
use Rattle.pp_cli.proofs.Stopping.{behind_one}
use Rattle.pp_cli.proofs.segments.audit_files.Goals as goal

abbrev none : Bor Text
none = record { ref_ptr = (0, 0); now = [] }

pub loop-path-init : goal.loop-path-init
loop-path-init g c = λ bytes plans h. ([], h, refl)

pub loop-path-preserved : goal.loop-path-preserved
loop-path-preserved g c = λ bytes plans h.
    let (done, passed, here) = c.loop-path.invariant bytes plans h in (
      done ++ c.deref.result.now ∷ [],
      c.in-Ok.ensures.passed bytes plans done passed,
      omega (arith, here, length-append done (c.deref.result.now ∷ [])),
    )

pub returns-in_err-bytes-clause-comes : goal.returns-in_err-bytes-clause-comes
returns-in_err-bytes-clause-comes g c = λ path plan_paths bytes plans long h.
    let (done, passed, here) = c.loop-path.invariant bytes plans h in
    handed_on (λ found. seen found.0) (Asked.segments c.args.ended path plan_paths (texts c.args.files.now))
    c.from_residual.result c.in_err-bytes.field-0.0 c.from_residual.ensures.1
    (unread_at c.args.ended path plan_paths c.args.files.now bytes plans done c.loop-path.auditor c.loop-path.path-index
    none c.in_err-bytes.field-0.0 long passed here c.loop-path-test.true c.in_err-bytes.ensures)

pub returns-in-Err-clause-place : goal.returns-in-Err-clause-place
returns-in-Err-clause-place g c =
    behind_one c.args.settings.now (texts c.args.files.now) _
    (its_path c.args.files.now c.loop-path.path-index none c.loop-path-test.true)

pub returns-in-Err-clause-comes : goal.returns-in-Err-clause-comes
returns-in-Err-clause-comes g c = λ path plan_paths bytes plans long h.
    let (done, passed, here) = c.loop-path.invariant bytes plans h in
    refused_at (is_want_of_memory c.in-Err.refusal) c.args.ended path plan_paths c.args.files.now bytes plans done
    c.deref.result.now c.loop-path.path-index c.in-Err.refusal c.from.result long here c.loop-path-test.true
    c.from.ensures (c.in-Err.ensures.error bytes plans done passed c.args.ended)

pub returns-clause-comes : goal.returns-clause-comes
returns-clause-comes g c = λ path plan_paths bytes plans long h.
    let (done, passed, here) = c.loop-path.invariant bytes plans h in
    ended_at c.args.ended path plan_paths c.args.files.now bytes plans done c.loop-path.path-index c.segments_exit.result
    long here (search rules) c.loop-path-test.false (c.segments_exit.ensures bytes plans done passed)
