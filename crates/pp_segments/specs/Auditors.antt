-- What an auditor of segments keeps, and what its steps do.
use Rattle.std.specs.Prelude.{◌≡◌, ◌≢◌, ℕ, ◌^◌, nat_lt, if◌then◌else◌, List, length, Option, Some, None, Result, Ok}
use Rattle.std.specs.Prelude.{Err}
use Rattle.std.specs.List.{range_with_len}
use Rattle.pp_settings.specs.declared.span.Span.TheVariants.{Bounded}
use Rattle.pp_cert.specs.Accepted.{Acceptance}
use Rattle.pp_core.specs.StandsFor.{StandsFor}
use Rattle.pp_segments.specs.declared.auditor.SegmentAuditor.{SegmentAuditor}
use Rattle.pp_segments.specs.declared.error.SegmentError.{SegmentError}
use Rattle.pp_segments.specs.Auditing.{Progress, told_count}

-- The number of the next segment, if it has 64 bits; no head has a larger one.
abbrev pub next_segment : ℕ → Option ℕ
next_segment n = if nat_lt n (2 ^ 64) then Some n else None

-- The auditor has come so far, and found no fault: its core stands for the state, whose life is endless, and keeps the
-- prepared plans.
pub record IsAt (prepared : List Acceptance) (a : SegmentAuditor) (p : Progress) : Type 0 where
  pub stands : StandsFor a.core p.state
  pub endless : a.core.span ≢ Bounded
  pub plans : a.core.plans ≡ prepared
  pub places : a.places.items ≡ range_with_len 0 (length prepared)
  pub lines : a.lines ≡ told_count p.lines
  pub next : a.next ≡ next_segment p.segments
  pub sound : a.fault ≡ None

-- The auditor has found this fault, and keeps it.
abbrev pub HasStopped : SegmentAuditor → SegmentError → Type 0
HasStopped a fault = a.fault ≡ Some fault

-- The line is passed, and the auditor has come past it; or its fault is told.
abbrev pub Passes : List Acceptance → SegmentAuditor → Result Progress SegmentError → Result (Unit {0}) SegmentError
    → Type 0
Passes prepared a (Ok p) (Ok done) = IsAt prepared a p
Passes prepared a (Err e) (Err told) = told ≡ e
Passes prepared a _ _ = ⊥

-- The lines of a text are passed, and how many lines there were so far is told; or their first fault.
abbrev pub PassesAll : List Acceptance → SegmentAuditor → Result Progress SegmentError → Result ℕ SegmentError → Type 0
PassesAll prepared a (Ok p) (Ok lines) = IsAt prepared a p × (lines ≡ told_count p.lines)
PassesAll prepared a (Err e) (Err told) = told ≡ e
PassesAll prepared a _ _ = ⊥
