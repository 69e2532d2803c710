-- How far a log agrees with its worker's part, one event after the other.
use Rattle.std.proofs.Common.{◌≡◌, ◌≢◌, ◌∙◌, ℕ, ◌+◌, ◌<◌, ◌≤◌, true, false, List, [], ◌∷◌, ◌++◌, length, take, drop, get_or, refl}
use Rattle.std.proofs.Common.{Bool, ap, sym, arith}
use Rattle.std.specs.Prelude.{◌↔◌, Option, None, Some, zero, suc, replicate, slice_get}
use Rattle.std.proofs.lemmas.List.{take_all, length-take-le}
use Rattle.std.proofs.lemmas.Option.{get_or_from_slice_get, slice_get_within}
use Rattle.pp_model.specs.declared.event.Event.{Event}
use Rattle.pp_model.specs.WorkerParts.{part_of, names_worker}
use Rattle.pp_run.specs.Agreeing.{Agrees}
use Rattle.pp_run.proofs.Parts.{part_taken, part_skipped, part_at}

-- Before the first event nothing is compared.
pub agrees_first : (log : List Event) (w : ℕ) (events : List Event) → Agrees (Some 0) log w events 0
agrees_first log w events = (omega arith, refl)

-- The event of another worker.
pub agrees_other : (c : Option ℕ) (log : List Event) (w : ℕ) (events : List Event) (i : ℕ) (e : Event)
    → slice_get events i ≡ Some e → names_worker w e ≡ false → Agrees c log w events i → Agrees c log w events (i + 1)
agrees_other None log w events i e here other h = h
agrees_other (Some n) log w events i e here other h = (
  h.0,
  part_skipped log events n i w e (slice_get_within events i e here) h.1
      (ap (names_worker w) (get_or_from_slice_get events i e e here) ∙ other),
)

-- The worker's own event, which stands next in the log.
pub agrees_next : (n : ℕ) (log : List Event) (w : ℕ) (events : List Event) (i : ℕ) (e : Event)
    → slice_get events i ≡ Some e → names_worker w e ≡ true → slice_get log n ≡ Some e
    → Agrees (Some n) log w events i → Agrees (Some (n + 1)) log w events (i + 1)
agrees_next n log w events i e here named at h =
    let same : get_or events i e ≡ e = get_or_from_slice_get events i e e here in
    let within = slice_get_within log n e at in (
      omega (arith, within),
      part_taken log events n i w e (slice_get_within events i e here) h.1 (ap (names_worker w) same ∙ named)
          (at ∙ ap Some (sym same)),
    )

-- The worker's own event, which doesn't.
pub agrees_no_more : (n : ℕ) (log : List Event) (w : ℕ) (events : List Event) (i : ℕ) (e : Event)
    → slice_get events i ≡ Some e → names_worker w e ≡ true → slice_get log n ≢ Some e
    → Agrees (Some n) log w events i → Agrees None log w events (i + 1)
agrees_no_more n log w events i e here named away h part =
    let same : get_or events i e ≡ e = get_or_from_slice_get events i e e here in
    away (part_at log events n i w e (slice_get_within events i e here) h.0 h.1 (ap (names_worker w) same ∙ named) part
    ∙ ap Some same)

none_left : (events : List Event) → drop (length events) events ≡ []
none_left [] = refl
none_left (e ∷ es) = none_left es

append_none : (xs : List Event) → xs ++ [] ≡ xs
append_none [] = refl
append_none (x ∷ xs) = ap (λ l. x ∷ l) (append_none xs)

-- Behind the last event a log is the part where all of it agrees.
at_end : (n : ℕ) (log : List Event) (w : ℕ) (events : List Event) → Agrees (Some n) log w events (length events)
    → part_of w events ≡ take n log
at_end n log w events h =
    h.1 ∙ (ap (λ r. take n log ++ part_of w r) (none_left events) ∙ append_none (take n log))

take_long : (n : ℕ) (log : List Event) → n ≤ length log → length (take n log) ≡ n
take_long n log low = length-take-le n log low

pub agrees_last : (c : Option ℕ) (log : List Event) (w : ℕ) (events : List Event)
    → Agrees c log w events (length events) → (c ≡ Some (length log)) ↔ (log ≡ part_of w events)
agrees_last None log w events h = (λ e. absurd cc, λ same. absurd (h same))
agrees_last (Some n) log w events h = (
  λ e. let all : n ≡ length log = cc in
      sym (at_end n log w events h ∙ take_all n log (omega (arith, all))),
  λ same.
      let long : length log ≡ n = ap length (same ∙ at_end n log w events h) ∙ take_long n log h.0 in ap Some (sym long),
)

pub else_false : (b : Bool) → (b ≡ true → ⊥) → b ≡ false
else_false true away = absurd (away refl)
else_false false away = refl

-- At first none of so many logs is looked at.
pub none_yet : (m w : ℕ) (c : Option ℕ) → w < m → get_or (replicate m (Some 0)) w c ≡ Some 0
none_yet zero w c low = absurd (omega (arith, low))
none_yet (suc m) zero c low = refl
none_yet (suc m) (suc w) c low = none_yet m w c (omega (arith, low))
