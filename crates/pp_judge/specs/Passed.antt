-- How far an audit of segments has come whose files are read one after the other.
use Rattle.std.specs.Prelude.{◌≡◌, ℕ, false, List, None, Ok, flat_map}
use Rattle.pp_settings.specs.Settings.{Configuration}
use Rattle.pp_cert.specs.Accepted.{Acceptance}
use Rattle.pp_report.specs.Journals.{journal_lines}
use Rattle.pp_segments.specs.Auditing.{Progress, begin_fault, counts_of, outset, pass_lines}
use Rattle.pp_segments.specs.Auditors.{IsAt}
use Rattle.pp_segments.specs.declared.auditor.SegmentAuditor.{SegmentAuditor}
use Rattle.pp_judge.specs.Judgement.{prepared_in, segments_audited_in}

-- The auditor has passed the files of these bytes, with the settings and the prepared plans of those: so far there is
-- no fault.
pub record HasPassed (settings : List ℕ) (plans files : List (List ℕ)) (auditor : SegmentAuditor) : Type 0 where
  pub pool : Configuration × List Acceptance
  pub progress : Progress
  pub read : prepared_in settings plans ≡ Ok pool
  pub begins : begin_fault pool.0 pool.1 ≡ None
  pub passed : pass_lines pool.1 (outset pool.0) (flat_map journal_lines files) ≡ Ok progress
  pub stands : IsAt pool.1 auditor progress
  pub right : segments_audited_in false settings plans files ≡ Ok (counts_of progress)
