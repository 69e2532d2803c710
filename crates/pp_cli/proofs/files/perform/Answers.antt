use Rattle.std.proofs.Common.{◌≡◌, Err, ap, rules}
use Rattle.pp_words.specs.CommandLine.{asked_annotate, asked_audit, asked_by, asked_check, asked_draw}
use Rattle.pp_words.specs.CommandLine.{asked_format, asked_run, asked_segments, asked_simulate}
use Rattle.pp_cli.specs.declared.files.Unread.TheVariants.{File}
use Rattle.pp_cli.proofs.Stopping.{stops_job}
use Rattle.pp_cli.proofs.files.perform.Goals as goal
use Rattle.pp_cli.proofs.files.perform.Goals.{in-Check, in-Annotate, in-Simulate, in-Format, in-Run}
use Rattle.pp_cli.proofs.files.perform.Goals.{in-Audit, in-AuditSegments, in-Draw}

pub returns-in-Err-File-clause-comes : goal.returns-in-Err-File-clause-comes
returns-in-Err-File-clause-comes g c =
    let why = File c.in-Err-File.fault in
    elim c.match-job.branch [
      | in-Check w ↦ (
          let stopped : w.check-ended.result ≡ Err why = search rules in
          stops_job c.args.job (asked_check w.in-Check.paths) w.check-ended.result why
          (ap asked_by w.in-Check.is) stopped w.check-ended.ensures.comes)
      | in-Annotate w ↦ (
          let stopped : w.annotate-ended.result ≡ Err why = search rules in
          stops_job c.args.job (asked_annotate w.in-Annotate.paths) w.annotate-ended.result why
          (ap asked_by w.in-Annotate.is) stopped w.annotate-ended.ensures.comes)
      | in-Simulate w ↦ (
          let stopped : w.simulate-ended.result ≡ Err why = search rules in
          stops_job c.args.job (asked_simulate w.in-Simulate.paths) w.simulate-ended.result why
          (ap asked_by w.in-Simulate.is) stopped w.simulate-ended.ensures.comes)
      | in-Format w ↦ (
          let stopped : w.format-ended.result ≡ Err why = search rules in
          stops_job c.args.job (asked_format w.in-Format.paths) w.format-ended.result why
          (ap asked_by w.in-Format.is) stopped w.format-ended.ensures.comes)
      | in-Run w ↦ (
          let stopped : w.run-ended.result ≡ Err why = search rules in
          stops_job c.args.job (asked_run w.in-Run.paths) w.run-ended.result why
          (ap asked_by w.in-Run.is) stopped w.run-ended.ensures.comes)
      | in-Audit w ↦ (
          let stopped : w.audit-ended.result ≡ Err why = search rules in
          stops_job c.args.job (asked_audit w.in-Audit.paths) w.audit-ended.result why
          (ap asked_by w.in-Audit.is) stopped w.audit-ended.ensures.comes)
      | in-AuditSegments w ↦ (
          let stopped : w.audit_segments-ended.result ≡ Err why = search rules in
          stops_job c.args.job (asked_segments w.in-AuditSegments.paths) w.audit_segments-ended.result why
          (ap asked_by w.in-AuditSegments.is) stopped w.audit_segments-ended.ensures.comes)
      | in-Draw w ↦ (
          let stopped : w.draw-ended.result ≡ Err why = search rules in
          stops_job c.args.job (asked_draw w.in-Draw.paths) w.draw-ended.result why
          (ap asked_by w.in-Draw.is) stopped w.draw-ended.ensures.comes)
    ]
