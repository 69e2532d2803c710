-- A ledger after a request.
use Rattle.std.proofs.Common.{◌≡◌, ◌∙◌, ℕ, ◌+◌, ◌≤◌, ◌<◌, Bool, true, false, Option, Some, None, List, [], ◌∷◌, ◌++◌}
use Rattle.std.proofs.Common.{length, drop, refl, sym, ap, subst, arith, append-nil, length-append, if◌then◌else◌}
use Rattle.std.specs.Prelude.{option_map}
use Rattle.pp_model.specs.declared.moves.Move.{Move}
use Rattle.pp_model.specs.declared.reply.Reply.{Reply}
use Rattle.pp_model.specs.declared.event.Event.{Event}
use Rattle.pp_model.specs.declared.event.Event.TheVariants.{Step}
use Rattle.pp_model.specs.Pool.{State, Settings}
use Rattle.pp_model.specs.Moves.{reply_of, next_of, is_possible}
use Rattle.pp_model.specs.Journals.{IsJournalFrom}
use Rattle.pp_model.proofs.Alone.{settings_stay}
use Rattle.pp_model.proofs.Changes.{refused_by}
use Rattle.pp_model.proofs.Journeys.{same_plans, step_told}
use Rattle.pp_core.proofs.PlanTies.{Places}
use Rattle.pp_vault.specs.Parts as vault
use Rattle.pp_vault.specs.StandsFor.{StandsFor}
use Rattle.pp_vault.specs.Calls.{Call, stranger, refused, asks, after_call}
use Rattle.pp_pool.specs.declared.request.Request.{Request}
use Rattle.pp_pool.specs.declared.response.BookAnswer.{BookAnswer}
use Rattle.pp_pool.specs.declared.response.BookAnswer.TheVariants.{Acts, Idle, Leaves, Pinned, Shared, Exclusive, Away}
use Rattle.pp_pool.specs.declared.response.BookAnswer.TheVariants.{Opened, Joined, Flushed, No}
use Rattle.pp_pool.specs.Requests.{call_of, event_of, events_in}
use Rattle.pp_pool.specs.Performing.{ComesTo, DoesUnless, TellsOf}
use Rattle.pp_pool.specs.Books.{greatest_cost}
use Rattle.pp_pool.proofs.Noted.{IsNoted, noted}
use Rattle.pp_ledger.specs.Segments.{Segment, with_event}
use Rattle.pp_ledger.specs.Ledgers.{Parts, IsSegment, IsLedger}
use Rattle.pp_ledger.specs.Inside.{LedgerKeeps}
use Rattle.pp_ledger.proofs.Going.{ledger_of}

-- ---- what a call leaves

after_settings : (s : State) (call : Call) → (after_call s call).settings ≡ s.settings
after_settings s stranger = refl
after_settings s (refused why) = refl
after_settings s (asks m) = settings_stay s m

after_plans : (s : State) (call : Call) → (after_call s call).plans ≡ s.plans
after_plans s stranger = refl
after_plans s (refused why) = refl
after_plans s (asks m) = same_plans s m

-- The prepared plans stay.
pub kept_plans : (old new : vault.Parts) (asked : Request) (out : BookAnswer) → ComesTo old asked out new
    → DoesUnless old asked out new → (s : State) → StandsFor old s → new.core.plans ≡ old.core.plans
kept_plans old new asked (No back why) h d s st = ap (λ (v : vault.Parts). v.core.plans) h.unchanged
kept_plans old new asked (Acts x) h d s st = (d refl).plans s st
kept_plans old new asked (Idle chair) h d s st = (d refl).plans s st
kept_plans old new asked (Leaves x) h d s st = (d refl).plans s st
kept_plans old new asked (Pinned x g) h d s st = (d refl).plans s st
kept_plans old new asked (Opened x g) h d s st = (d refl).plans s st
kept_plans old new asked (Joined x) h d s st = (d refl).plans s st
kept_plans old new asked (Shared x g) h d s st = (d refl).plans s st
kept_plans old new asked (Exclusive x g) h d s st = (d refl).plans s st
kept_plans old new asked (Away errand) h d s st = (d refl).plans s st
kept_plans old new asked (Flushed clean) h d s st = (d refl).plans s st

-- ---- the journal

-- What is told of a call, as an event.
abbrev pub event_in : Option (Move × Reply) → Option Event
event_in = option_map (λ (t : Move × Reply). Step t.0 t.1)

told_by : (o s : State) (es : List Event) (m : Move) (p : Bool) → is_possible s m ≡ p → IsJournalFrom o s es
    → IsJournalFrom o (next_of s m) (es ++ events_in (event_in (if p then Some (m, reply_of s m) else None)))
told_by o s es m true e h = step_told s o es m h e
told_by o s es m false e h =
    subst (λ t. IsJournalFrom o t (es ++ [])) (sym (refused_by s m e)) (subst (IsJournalFrom o s) (sym (append-nil es)) h)

told_after : (o s : State) (es : List Event) (call : Call) → IsJournalFrom o s es
    → IsJournalFrom o (after_call s call) (es ++ events_in (event_of s call))
told_after o s es stranger h = subst (IsJournalFrom o s) (sym (append-nil es)) h
told_after o s es (refused why) h = subst (IsJournalFrom o s) (sym (append-nil es)) h
told_after o s es (asks m) h = told_by o s es m (is_possible s m) refl h

one_more : (es : List Event) (e : Option Event) → length (es ++ events_in e) ≤ length es + 1
one_more es None = omega (arith, ap length (append-nil es))
one_more es (Some e) = omega (arith, length-append es (e ∷ []))

-- ---- the ledger

module _ (l : Parts) (asked : Request) (out : BookAnswer) (v : vault.Parts) (done : Option (Move × Reply))
    (comes : ComesTo l.vault asked out v) (does : DoesUnless l.vault asked out v) (tells : TellsOf l.vault asked out done)
    (e : Option Event) (is : e ≡ event_in done) where
  is_noted : IsNoted l.vault (call_of l.vault asked) done v
  is_noted = noted l.vault v asked out done comes does tells

  pub event_is : (s : State) → StandsFor l.vault s → e ≡ event_of s (call_of l.vault asked s)
  event_is s st = is ∙ ap event_in (sym (is_noted.is_told s st))

  pub performed_then : (o s : State) → IsSegment l o s
      → IsSegment (ledger_of v (with_event l.segment e)) o (after_call s (call_of l.vault asked s))
  performed_then o s k = record {
    opened = k.opened;
    told =
        subst (λ x. IsJournalFrom o (after_call s (call_of l.vault asked s)) (l.segment.events ++ events_in x))
        (sym (event_is s k.stands)) (told_after o s l.segment.events (call_of l.vault asked s) k.told);
    stands = is_noted.stands s k.stands;
    plans_before = k.plans_before;
    prepared =
        subst (λ ps. Places ps l.segment.prepared (drop (length o.plans) (after_call s (call_of l.vault asked s)).plans))
        (sym (kept_plans l.vault v asked out comes does s k.stands))
        (subst (λ qs. Places l.vault.core.plans l.segment.prepared (drop (length o.plans) qs))
        (sym (after_plans s (call_of l.vault asked s))) k.prepared);
  }

  performed_ledger : IsLedger l → length l.segment.events < l.segment.capacity
      → IsLedger (ledger_of v (with_event l.segment e))
  performed_ledger k room =
      let s = k.present in
      let after = after_call s (call_of l.vault asked s) in
      let now = performed_then k.opening s k.segment in
      record {
        endless = λ bounded. k.endless (
            k.segment.stands.core.span
            ∙ sym (ap (λ (j : Settings). j.span) (after_settings s (call_of l.vault asked s)))
            ∙ sym now.stands.core.span ∙ bounded
            );
        opening = k.opening;
        present = after;
        segment = now;
        room = omega (arith, room, one_more l.segment.events e);
      }

  -- The same of the segment that was left.
  pub performed_is : (g : Segment) → g ≡ with_event l.segment e → IsLedger l
      → length l.segment.events < l.segment.capacity → IsLedger (ledger_of v g)
  performed_is g same k room = subst (λ x. IsLedger (ledger_of v x)) (sym same) (performed_ledger k room)

  pub performed_keeps : (g : Segment) → g ≡ with_event l.segment e → (most : ℕ) → LedgerKeeps l most
      → length l.segment.events < l.segment.capacity → LedgerKeeps (ledger_of v g) most
  performed_keeps g same most k room = record {
    ledger = performed_is g same k.ledger room;
    greatest =
        k.greatest
        ∙ ap greatest_cost (sym (kept_plans l.vault v asked out comes does k.ledger.present k.ledger.segment.stands));
  }
