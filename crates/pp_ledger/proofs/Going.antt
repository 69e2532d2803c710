-- A ledger after a plan was prepared or submitted, and after its segment was taken out.
use Rattle.std.proofs.Common.{◌≡◌, ◌∙◌, ℕ, ◌+◌, ◌≤◌, ◌<◌, Some, List, [], ◌∷◌, ◌++◌, length, map, drop}
use Rattle.std.proofs.Common.{refl, sym, ap, subst, arith, length-append, suc, true, false, max}
use Rattle.std.proofs.lemmas.Bool.{false≢true}
use Rattle.std.proofs.lemmas.Bool.Decides.{nat_tests}
use Rattle.std.proofs.lemmas.List.{drop_all}
use Rattle.std.specs.Prelude.{slice_get, ◌==◌, ◌&&◌, nat_le}
use Rattle.pp_cert.specs.Accepted.{Acceptance}
use Rattle.pp_model.specs.declared.event.Event.{Event}
use Rattle.pp_model.specs.declared.event.Event.TheVariants.{Submit}
use Rattle.pp_model.specs.Pool.{State}
use Rattle.pp_model.specs.Budget.{cost_of}
use Rattle.pp_model.specs.Submitting.{submitted_unless, after_submit}
use Rattle.pp_model.specs.Journals.{IsJournalFrom}
use Rattle.pp_model.proofs.Journeys.{submit_told}
use Rattle.pp_core.specs.Parts as core
use Rattle.pp_core.proofs.PlanTies.{Places, more_places}
use Rattle.pp_vault.specs.Parts as vault
use Rattle.pp_vault.specs.StandsFor.{StandsFor}
use Rattle.pp_vault.specs.Headline.{Holds}
use Rattle.pp_vault.specs.Submits as vault_submits
use Rattle.pp_vault.proofs.Kept.{headline}
use Rattle.pp_pool.specs.Books.{greatest_from, greatest_cost}
use Rattle.pp_ledger.specs.Segments.{Segment, begun, is_full, is_ready, count_submits, with_submit, numbered}
use Rattle.pp_ledger.specs.Ledgers.{Parts, IsSegment, IsLedger}
use Rattle.pp_ledger.specs.Calls.{Prepares, TakesPrepared, going_on}
use Rattle.pp_ledger.specs.Inside.{LedgerKeeps}
use Rattle.pp_ledger.proofs.Added.{plans_before, plans_counted, named_behind}

abbrev pub ledger_of : vault.Parts → Segment → Parts
ledger_of v g = record { vault = v; segment = g }

-- The whole sentence holds of each state that its vault stands for.
pub holds : (l : Parts) → IsLedger l → Holds l.vault
holds l k = record {
  kept = record { state = k.present; stands = k.segment.stands };
  headline = headline l.vault;
}

-- ---- a plan is prepared

greatest_more : (n : ℕ) (plans : List Acceptance) (a : Acceptance)
    → greatest_from n (plans ++ a ∷ []) ≡ max (greatest_from n plans) (cost_of a)
greatest_more n [] a = refl
greatest_more n (p ∷ plans) a = greatest_more (max n (cost_of p)) plans a

module _ (l : Parts) (a : Acceptance) (place : ℕ) (v : vault.Parts) (t : vault_submits.Prepares l.vault a place v) where
  prepared_then : (o s : State) → IsSegment l o s → IsSegment (ledger_of v l.segment) o s
  prepared_then o s k = record {
    opened = k.opened;
    told = k.told;
    stands = t.stands s k.stands;
    plans_before = k.plans_before;
    prepared =
        subst (λ ps. Places ps l.segment.prepared (drop (length o.plans) s.plans))
        (sym (ap (λ (f : core.Parts). f.plans) t.core.parts))
        (more_places l.vault.core.plans (a ∷ []) l.segment.prepared (drop (length o.plans) s.plans) k.prepared);
  }

  pub prepared_ledger : IsLedger l → IsLedger (ledger_of v l.segment)
  prepared_ledger k = record {
    endless = λ bounded. k.endless (sym (ap (λ (f : core.Parts). f.span) t.core.parts) ∙ bounded);
    opening = k.opening;
    present = k.present;
    segment = prepared_then k.opening k.present k.segment;
    room = k.room;
  }

  pub prepares : Prepares l a place (ledger_of v l.segment)
  prepares = record { vault = t; parts = refl; segment = prepared_then }

  -- The greatest cost rises where this plan's is greater.
  pub prepared_keeps : (most after : ℕ) → after ≡ max most (cost_of a) → LedgerKeeps l most
      → LedgerKeeps (ledger_of v l.segment) after
  prepared_keeps most after is k = record {
    ledger = prepared_ledger k.ledger;
    greatest =
        is ∙ ap (λ n. max n (cost_of a)) k.greatest ∙ sym (greatest_more 0 l.vault.core.plans a)
        ∙ ap greatest_cost (sym (ap (λ (f : core.Parts). f.plans) t.core.parts));
  }

-- ---- a prepared plan is submitted

module _ (l : Parts) (place number : ℕ) (a : Acceptance) (v : vault.Parts) (has_room : is_full l.segment ≡ false)
    (t : vault_submits.TakesPrepared l.vault place number a v) where
  abbrev segment_with : Segment
  segment_with = with_submit l.segment number place

  plans_with : (s : State) → StandsFor l.vault s → (after_submit s a).plans ≡ s.plans ++ a ∷ []
  plans_with s st = ap (λ e. (submitted_unless e s a).plans) (t.takes.allowed s st)

  told_with : (o s : State) → IsSegment l o s → IsJournalFrom o (after_submit s a) segment_with.events
  told_with o s k =
      let allowed = t.takes.allowed s k.stands in
      subst (λ n. IsJournalFrom o (after_submit s a) (l.segment.events ++ Submit n ∷ []))
      (sym (t.takes.numbered s k.stands))
      (subst (λ e. IsJournalFrom o (submitted_unless e s a) (l.segment.events ++ Submit (length s.plans) ∷ []))
      (sym allowed) (submit_told s o l.segment.events a k.told allowed))

  submitted_then : (o s : State) → IsSegment l o s → IsSegment (ledger_of v segment_with) o (after_submit s a)
  submitted_then o s k = record {
    opened = k.opened;
    told = told_with o s k;
    stands = t.takes.stands s k.stands;
    plans_before = k.plans_before;
    prepared =
        subst (λ ps. Places ps segment_with.prepared (drop (length o.plans) (after_submit s a).plans))
        (sym (ap (λ (f : core.Parts). f.plans) t.core.parts))
        (subst (λ qs. Places l.vault.core.plans segment_with.prepared (drop (length o.plans) qs)) (sym (plans_with s k.stands))
        (named_behind l.vault.core.plans l.segment.prepared s.plans (length o.plans) place a k.prepared
        (plans_before o s l.segment.events k.told) t.core.plan));
  }

  submitted_ledger : IsLedger l → length l.segment.events < l.segment.capacity
      → IsLedger (ledger_of v segment_with)
  submitted_ledger k room = record {
    endless = λ bounded. k.endless (sym (ap (λ (f : core.Parts). f.span) t.core.parts) ∙ bounded);
    opening = k.opening;
    present = after_submit k.present a;
    segment = submitted_then k.opening k.present k.segment;
    room = omega (arith, room, length-append l.segment.events (Submit number ∷ []));
  }

  takes_prepared : TakesPrepared l place number a (ledger_of v segment_with)
  takes_prepared = record { room = has_room; vault = t; parts = refl; segment = submitted_then }

  -- The same of the segment that was left.
  module _ (g : Segment) (is : g ≡ segment_with) where
    pub submitted_is : IsLedger l → length l.segment.events < l.segment.capacity → IsLedger (ledger_of v g)
    submitted_is k room = subst (λ x. IsLedger (ledger_of v x)) (sym is) (submitted_ledger k room)

    pub submitted_keeps : (most : ℕ) → LedgerKeeps l most → length l.segment.events < l.segment.capacity
        → LedgerKeeps (ledger_of v g) most
    submitted_keeps most k room = record {
      ledger = submitted_is k.ledger room;
      greatest = k.greatest ∙ ap greatest_cost (sym (ap (λ (f : core.Parts). f.plans) t.core.parts));
    }

    pub takes_is : TakesPrepared l place number a (ledger_of v g)
    takes_is = subst (λ x. TakesPrepared l place number a (ledger_of v x)) (sym is) takes_prepared

-- ---- a segment is taken out

-- What is ready has no event and, where it has a place for each submit alone, no place.
pub ready_events : (g : Segment) → is_ready g ≡ true → g.events ≡ []
ready_events g ready = by g.events ready
  where
    by : (es : List Event) → ((length es == 0) && nat_le 1 g.capacity) ≡ true → es ≡ []
    by [] h = refl
    by (e ∷ es) h =
        let some : (suc (length es) == 0) ≡ false = grind (arith, nat_tests) in
        absurd (false≢true (sym (ap (λ b. b && nat_le 1 g.capacity) some) ∙ h))

pub ready_prepared : (g : Segment) → length g.prepared ≡ count_submits g.events → is_ready g ≡ true → g.prepared ≡ []
ready_prepared g named ready = by g.prepared (omega (arith, named, ap count_submits (ready_events g ready)))
  where
    by : (ns : List ℕ) → length ns ≤ 0 → ns ≡ []
    by [] h = refl
    by (n ∷ ns) h = absurd (omega (arith, h))

-- The ledger goes on in the next segment, under the next number, behind the plans that were submitted.
module _ (l : Parts) (next : Segment) (ready : is_ready next ≡ true) (none_prepared : next.prepared ≡ [])
    (before : ℕ) (numbers : before ≡ l.segment.number)
    (plans : ℕ) (counts : (s : State) → StandsFor l.vault s → plans ≡ length s.plans)
    (g : Segment) (is : g ≡ numbered next (before + 1) plans) where
  chained : (o s : State) → IsSegment l o s → IsSegment (ledger_of l.vault (numbered next (before + 1) plans)) s s
  chained o s k = record {
    opened = k.stands.core.reached;
    told = subst (IsJournalFrom s s) (sym (ready_events next ready)) (record { is_true = tt; leads_here = refl });
    stands = k.stands;
    plans_before = counts s k.stands;
    prepared =
        ap (map (slice_get l.vault.core.plans)) none_prepared
        ∙ ap (map Some) (sym (drop_all (length s.plans) s.plans (omega arith)));
  }

  pub chain_is : (o s : State) → IsSegment l o s → IsSegment (ledger_of l.vault g) s s
  chain_is o s k = subst (λ x. IsSegment (ledger_of l.vault x) s s) (sym is) (chained o s k)

  pub next_ledger : IsLedger l → IsLedger (ledger_of l.vault g)
  next_ledger k = record {
    endless = k.endless;
    opening = k.present;
    present = k.present;
    segment = chain_is k.opening k.present k.segment;
    room = omega (arith, ap (λ (x : Segment). length x.events) is, ap length (ready_events next ready));
  }

  pub next_keeps : (most : ℕ) → LedgerKeeps l most → LedgerKeeps (ledger_of l.vault g) most
  next_keeps most k = record { ledger = next_ledger k.ledger; greatest = k.greatest }

  -- It has begun: nothing is noted in it.
  has_begun : numbered next (before + 1) plans ≡ begun next.capacity (before + 1) plans
  has_begun i =
      record (numbered next (before + 1) plans) { events = ready_events next ready i; prepared = none_prepared i }

  pub goes_on : IsLedger l → ledger_of l.vault g ≡ going_on l next
  goes_on k =
      let s = k.present in
      ap (ledger_of l.vault) (
      is ∙ has_begun ∙ ap (λ n. begun next.capacity (n + 1) plans) numbers
      ∙ ap (begun next.capacity (l.segment.number + 1))
      (counts s k.segment.stands ∙ sym (plans_counted l k.opening s k.segment))
      )
