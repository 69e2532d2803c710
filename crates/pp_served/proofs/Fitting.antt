-- The lines of segments have no larger numbers than a line may have.
use Rattle.std.proofs.Common.{◌≡◌, ◌<◌, ◌^◌, ℕ, true, List, [], ◌∷◌, ◌++◌, sym, subst}
use Rattle.std.specs.Prelude.{not}
use Rattle.std.specs.List.{AllByRecursion}
use Rattle.pp_cert.specs.Accepted.{Acceptance}
use Rattle.pp_model.specs.declared.moves.Move.{Move}
use Rattle.pp_model.specs.declared.reply.Reply.{Reply}
use Rattle.pp_model.specs.declared.reply.Reply.TheVariants.{Taken, Hit, MustRead, MustWrite, Failed, Loaded, Did}
use Rattle.pp_model.specs.declared.reply.Reply.TheVariants.{Latched, Unlatched, Finished, Flushing, Flushed}
use Rattle.pp_model.specs.declared.reply.Reply.TheVariants.{NotNow, OffPlan}
use Rattle.pp_model.specs.declared.event.Event.{Event}
use Rattle.pp_model.specs.declared.event.Event.TheVariants as event
use Rattle.pp_model.specs.Pool.{State}
use Rattle.pp_model.specs.Moves.{is_refusal}
use Rattle.pp_model.specs.Journals.{after_event, IsTrueFrom}
use Rattle.pp_report.specs.declared.line.Told.TheVariants.{Answer}
use Rattle.pp_report.specs.Lines.{FitsMove, HasNumbersOf, HasNumbers}
use Rattle.pp_segments.specs.declared.line.SegmentLine.{SegmentLine}
use Rattle.pp_segments.specs.declared.line.SegmentLine.TheVariants.{Step}
use Rattle.pp_segments.specs.Lines.{FitsLine}
use Rattle.pp_segments.specs.Segments.{event_lines, segment_lines}
use Rattle.pp_ledger.specs.Segments.{Segment}
use Rattle.pp_served.specs.Texts.{told_of, IsPlace, HasAllNumbers}

-- A move and what it is told, which is no refusal.
step_fits : (did : Move) (reply : Reply) → FitsMove did → HasNumbersOf reply → not (is_refusal reply) ≡ true
    → FitsLine (Step did (Answer reply))
step_fits did (Taken plan) m h told = (m, h)
step_fits did (Hit frame mark) m h told = (m, h)
step_fits did (MustRead frame) m h told = (m, h)
step_fits did (MustWrite frame victim) m h told = (m, h)
step_fits did (Failed failure) m h told = (m, h)
step_fits did (Loaded mark) m h told = (m, h)
step_fits did Did m h told = (m, h)
step_fits did (Latched mark) m h told = (m, h)
step_fits did (Unlatched mark) m h told = (m, h)
step_fits did (Finished ending) m h told = (m, h)
step_fits did (Flushing mark) m h told = (m, h)
step_fits did (Flushed clean) m h told = (m, h)
step_fits did (NotNow delay) m h told = absurd cc
step_fits did (OffPlan cause) m h told = absurd cc

-- True events tell no refusal.
events_fit : (plans : List Acceptance) (s : State) (es : List Event) (places : List ℕ) → IsTrueFrom plans s es
    → AllByRecursion HasNumbers es → AllByRecursion IsPlace places
    → AllByRecursion FitsLine (event_lines es places)
events_fit plans s [] places t h k = tt
events_fit plans s (event.Submit n ∷ es) [] t h k =
    events_fit plans (after_event plans s (event.Submit n)) es [] t.1 h.1 k
events_fit plans s (event.Submit n ∷ es) (place ∷ places) t h k =
    ((h.0, k.0), events_fit plans (after_event plans s (event.Submit n)) es places t.1 h.1 k.1)
events_fit plans s (event.Step did reply ∷ es) places t h k = (
  step_fits did reply h.0.0 h.0.1 (subst (λ r. not (is_refusal r) ≡ true) (sym t.0.1) t.0.0),
  events_fit plans (after_event plans s (event.Step did reply)) es places t.1 h.1 k,
)

-- The lines of a segment whose events are true, under the numbers that it tells.
pub segment_fits : (g : Segment) (number before : ℕ) (plans : List Acceptance) (s : State) → HasAllNumbers g
    → g.number ≡ number → g.plans_before ≡ before → IsTrueFrom plans s g.events
    → AllByRecursion FitsLine (segment_lines number before (told_of g))
segment_fits g number before plans s h n b t = (
  (subst (λ k. k < 2 ^ 64) n h.number, subst (λ k. k < 2 ^ 64) b h.plans_before),
  events_fit plans s g.events g.prepared t h.events h.prepared,
)

pub both_fit : (ls ms : List SegmentLine) → AllByRecursion FitsLine ls → AllByRecursion FitsLine ms
    → AllByRecursion FitsLine (ls ++ ms)
both_fit [] ms h k = k
both_fit (l ∷ ls) ms h k = (h.0, both_fit ls ms h.1 k)
