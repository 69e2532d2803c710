-- What is printed where texts aren't the segments of a true journal, and which error is want of memory.
use Rattle.std.specs.Prelude.{Bool, false, codes}
use Rattle.pp_text.specs.Refusals.{Row, row, at}
use Rattle.pp_settings.specs.Refusals.{other_life_row}
use Rattle.pp_core.specs.CoreErrors.{prepare_error_row}
use Rattle.pp_report.specs.Refusals.{audit_error_row, is_audit_memory}
use Rattle.pp_segments.specs.declared.error.SegmentError.{SegmentError}
use Rattle.pp_segments.specs.declared.error.SegmentError.TheVariants.{Audit, OtherSegment, NotPrepared, OtherLife}
use Rattle.pp_segments.specs.declared.error.SegmentError.TheVariants.{Prepare}

-- The number and the name of an error, and the line that it is about.
abbrev pub segment_error_row : SegmentError → Row
segment_error_row (Audit error) = audit_error_row error
segment_error_row (OtherSegment line) = row 96 (codes "OtherSegment") (at line)
segment_error_row (NotPrepared line) = row 97 (codes "NotPrepared") (at line)
segment_error_row OtherLife = other_life_row
segment_error_row (Prepare error) = prepare_error_row error

-- Want of memory says nothing of the texts.
abbrev pub is_segment_memory : SegmentError → Bool
is_segment_memory (Audit error) = is_audit_memory error
is_segment_memory (OtherSegment line) = false
is_segment_memory (NotPrepared line) = false
is_segment_memory OtherLife = false
is_segment_memory (Prepare error) = false
