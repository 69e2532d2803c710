-- The texts that are written of segments spell them.
use Rattle.std.proofs.Common.{◌≡◌, ◌+◌, ℕ, Bool, List, [], ◌∷◌, ◌++◌, length, flat_map, None, inl, refl, ap}
use Rattle.std.specs.List.{AllByRecursion}
use Rattle.pp_settings.specs.Settings.{Configuration}
use Rattle.pp_cert.specs.Accepted.{Acceptance}
use Rattle.pp_model.specs.Pool.{State}
use Rattle.pp_segments.specs.declared.line.SegmentLine.{SegmentLine}
use Rattle.pp_segments.specs.Lines.{FitsLine}
use Rattle.pp_segments.specs.Segments.{ToldSegment, segment_lines, lines_from, all_lines, texts_from, SpellEach}
use Rattle.pp_segments.specs.Auditing.{told_count, begin_fault}
use Rattle.pp_segments.specs.Audits.{EndsSo, AreTrueSegments, IsAuditedSegments}
use Rattle.pp_segments.proofs.Splitting.{fits_parts}

parts_from : (n k : ℕ) → List ToldSegment → List (List SegmentLine)
parts_from n k [] = []
parts_from n k (x ∷ xs) = segment_lines n k x ∷ parts_from (n + 1) (k + length x.prepared) xs

each_written : (n k : ℕ) (xs : List ToldSegment) → AllByRecursion FitsLine (lines_from n k xs)
    → SpellEach (texts_from n k xs) (parts_from n k xs)
unfolding parts_from
each_written n k [] h = tt
each_written n k (x ∷ xs) h =
    let (here, more) = fits_parts (segment_lines n k x) (lines_from (n + 1) (k + length x.prepared) xs) h in
    (record { fits = here; text_is = inl refl }, each_written (n + 1) (k + length x.prepared) xs more)

all_written : (n k : ℕ) (xs : List ToldSegment) → flat_map (λ part. part) (parts_from n k xs) ≡ lines_from n k xs
unfolding parts_from
all_written n k [] = refl
all_written n k (x ∷ xs) = ap (λ ls. segment_lines n k x ++ ls) (all_written (n + 1) (k + length x.prepared) xs)

pub written_audited : (c : Configuration) (prepared : List Acceptance) (ended : Bool) (told : List ToldSegment)
    (s : State)
    → begin_fault c prepared ≡ None → AreTrueSegments c prepared told s → AllByRecursion FitsLine (all_lines told)
    → EndsSo ended s
    → IsAuditedSegments c prepared ended (texts_from 0 0 told) (told_count (length (all_lines told)))
    (told_count (length told))
written_audited c prepared ended told s begins are fits ends = record {
  begins = begins;
  told = told;
  state = s;
  spelled = record { parts = parts_from 0 0 told; each = each_written 0 0 told fits; whole = all_written 0 0 told };
  are_true = are;
  ends = ends;
  lines_are = refl;
  segments_are = refl;
}
