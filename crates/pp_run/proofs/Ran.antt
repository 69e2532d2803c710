-- A book that is over leaves a run.
use Rattle.std.proofs.Common.{◌≡◌, ◌∙◌, ℕ, ◌<◌, true, Option, None, Some, List, length, take, drop, refl, sym, subst, ap}
use Rattle.std.specs.Prelude.{is_none}
use Rattle.std.specs.List.{list_all}
use Rattle.pp_cert.specs.Accepted.{Acceptance}
use Rattle.pp_model.specs.Pool.{State, Settings, opening, dirty_pages}
use Rattle.pp_model.specs.Journals.{IsTrueFrom, replay}
use Rattle.pp_model.specs.Turns.{next_turn, IsUnderWay}
use Rattle.pp_outset.specs.Outsets.{Outset, new_outset, opens_with}
use Rattle.pp_pool.specs.Parts.{Parts, settings_of, plans_of, opening_of, state_of}
use Rattle.pp_pool.specs.Books.{IsBook}
use Rattle.pp_pool.proofs.Growing.{plans_are}
use Rattle.pp_settings.specs.Settings.{Configuration}
use Rattle.pp_core.specs.Opening.{kept_of}
use Rattle.pp_report.specs.declared.record.RunRecord.{RunRecord}
use Rattle.pp_report.specs.Audits.{IsOver, IsWhole}
use Rattle.pp_report.specs.Reports.{is_move}
use Rattle.pp_run.specs.Calling.{begun_flushes_in}
use Rattle.pp_run.specs.Rested.{Rested, IsEnd}
use Rattle.pp_run.specs.Rested as rested
use Rattle.pp_run.specs.Runs.{submits, IsRunFrom}
use Rattle.pp_run.specs.declared.judging.Left.{Left}

-- The life of a pool with a new pool's outset begins in the opening state of its settings.
pub opened_new : (k : Settings) (p : Rested) → p.settings ≡ k → p.began ≡ new_outset k → rested.opening_of p ≡ opening k
opened_new k p of_settings began = ap (opens_with p.settings) began ∙ ap (λ j. opens_with j (new_outset k)) of_settings

-- What a book is replayed to, from the state and with the plans that are named.
pub same_end : (o : State) (plans : List Acceptance) (b : Parts) → opening_of b ≡ o → plans_of b ≡ plans
    → state_of b ≡ replay plans o b.journal
same_end o plans b opened planned =
    ap (λ s. replay (plans_of b) s b.journal) opened ∙ ap (λ ps. replay ps o b.journal) planned

pub true_from : (o : State) (plans : List Acceptance) (b : Parts) → opening_of b ≡ o → plans_of b ≡ plans → IsBook b
    → IsTrueFrom plans o b.journal
true_from o plans b opened planned book =
    subst (λ ps. IsTrueFrom ps o b.journal) planned
    (subst (λ s. IsTrueFrom (plans_of b) s b.journal) opened book.is_true)

pub all_submitted : (o : State) (plans : List Acceptance) (b : Parts) → opening_of b ≡ o → plans_of b ≡ plans → IsBook b
    → (replay plans o b.journal).plans ≡ plans
all_submitted o plans b opened planned book =
    ap (λ s. s.plans) (sym (same_end o plans b opened planned)) ∙ (sym (plans_are b book) ∙ planned)

pub ran : (o : State) (plans : List Acceptance) (b : Parts) (dirty : ℕ) (r : RunRecord) → IsEnd o plans b dirty → IsBook b
    → r.events.items ≡ b.journal → r.plans ≡ length plans → r.dirty ≡ dirty → IsRunFrom o plans r
ran o plans b dirty r end book journal count dirt =
    let same = same_end o plans b end.opened end.planned in
    record {
      is_true = subst (λ es. IsTrueFrom plans o es) (sym journal) (true_from o plans b end.opened end.planned book);
      submits_first = ap (take (length plans)) journal ∙ end.submits_first;
      then_moves = ap (λ es. list_all is_move (drop (length plans) es)) journal ∙ end.then_moves;
      submitted = ap (λ es. (replay plans o es).plans) journal ∙ all_submitted o plans b end.opened end.planned book;
      over = subst (λ s. IsUnderWay s → ⊥) (same ∙ ap (replay plans o) (sym journal)) end.over;
      count = count;
      dirty = dirt ∙ (end.newer ∙ ap dirty_pages (same ∙ ap (replay plans o) (sym journal)));
      flushed = λ some. ap begun_flushes_in journal ∙ end.flushed (subst (λ d. 0 < d) dirt some);
    }

-- Its plans are all submitted and ended.
pub ran_over : (o : State) (plans : List Acceptance) (b : Parts) (dirty : ℕ) → IsEnd o plans b dirty → IsBook b
    → IsOver plans (replay plans o b.journal)
ran_over o plans b dirty end book = record {
  submitted = all_submitted o plans b end.opened end.planned book;
  ended = ap next_turn (sym (same_end o plans b end.opened end.planned)) ∙ end.ended;
}

-- Of a new pool its journal is whole.
pub ran_whole : (c : Configuration) (plans : List Acceptance) (b : Parts) (dirty : ℕ) → IsEnd (opening (kept_of c)) plans b dirty
    → IsBook b → IsWhole c plans b.journal
ran_whole c plans b dirty end book = record {
  is_true = true_from (opening (kept_of c)) plans b end.opened end.planned book;
  over = ran_over (opening (kept_of c)) plans b dirty end book;
}

pub none : {A : Type 0} (o : Option A) → is_none o ≡ true → o ≡ None
none None h = refl
none (Some x) h = absurd cc

-- A book whose threads are joined is at its end.
pub ended : (o : State) (plans : List Acceptance) (b : Parts) (left : Left) → opening_of b ≡ o → plans_of b ≡ plans
    → take (length plans) b.journal ≡ submits 0 (length plans)
    → list_all is_move (drop (length plans) b.journal) ≡ true → left.over ≡ true
    → left.over ≡ is_none (next_turn (state_of b)) → (left.over ≡ true → IsUnderWay (state_of b) → ⊥)
    → left.dirty ≡ dirty_pages (state_of b) → left.flushes ≡ (settings_of b).flushes
    → (0 < left.dirty → begun_flushes_in b.journal ≡ left.flushes) → IsEnd o plans b left.dirty
ended o plans b left opened planned first moves over is under dirty flushes flushed = record {
  opened = opened;
  planned = planned;
  submits_first = first;
  then_moves = moves;
  ended = none (next_turn (state_of b)) (sym is ∙ over);
  over = under over;
  newer = dirty;
  flushed = λ some. flushed some ∙ (flushes ∙ ap (λ s. s.settings.flushes) opened);
}

-- The opening state of a book's life, by its settings and its outset.
pub opened_as : (k : Settings) (o : Outset) (b : Parts) → settings_of b ≡ k → b.began ≡ o → opening_of b ≡ opens_with k o
opened_as k o b of_settings began = ap (λ x. opens_with x b.began) of_settings ∙ ap (opens_with k) began

-- The end of a life that a pool began whose settings and outset its book had, of plans that are named otherwise.
pub ends_from : (p : Rested) (plans given : List Acceptance) (first b : Parts) (dirty : ℕ) → settings_of first ≡ p.settings
    → first.began ≡ p.began → given ≡ plans → IsEnd (opening_of first) given b dirty → IsEnd (rested.opening_of p) plans b dirty
ends_from p plans given first b dirty of_settings began named end =
    subst (λ ps. IsEnd (rested.opening_of p) ps b dirty) named
    (subst (λ o. IsEnd o given b dirty) (opened_as p.settings p.began first of_settings began) end)
