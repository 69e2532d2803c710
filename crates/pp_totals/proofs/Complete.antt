-- Totals leave no plan out.
use Rattle.std.proofs.Common.{◌≡◌, ◌∙◌, ℕ, zero, suc, cond, Option, Some, None, List, [], ◌∷◌}
use Rattle.std.proofs.Common.{length, length-append, count_by, refl, sym, ap, subst, arith}
use Rattle.std.specs.Prelude.{slice_get, replicate, IsSome}
use Rattle.std.proofs.lemmas.List.{length-drop}
use Rattle.std.proofs.lemmas.List.Sums.{sum_by-cons}
use Rattle.pp_cert.specs.Accepted.{Acceptance}
use Rattle.pp_model.specs.declared.event.Event.{Event}
use Rattle.pp_model.specs.declared.event.Event.TheVariants.{Submit, Step}
use Rattle.pp_model.specs.declared.moves.Move.{Move}
use Rattle.pp_model.specs.declared.reply.Reply.{Reply}
use Rattle.pp_model.specs.declared.turn.Turn.{Turn}
use Rattle.pp_model.specs.Pool.{Running, State, Settings, opening}
use Rattle.pp_model.specs.Moves.{next_of}
use Rattle.pp_model.specs.Submitting.{submitted, submitted_unless}
use Rattle.pp_model.specs.Journals.{after_plan, after_event, replay, IsNextPlan, IsTrueAt, IsTrueFrom, IsJournalFrom}
use Rattle.pp_model.specs.Segments.{Segment, AreSegments, segments_end}
use Rattle.pp_model.specs.Renewing.{renew_error, renewed}
use Rattle.pp_model.specs.Reached.{IsReached}
use Rattle.pp_model.specs.Turns.{next_turn, IsUnderWay}
use Rattle.pp_model.proofs.BoundSteps.{taken_are_few}
use Rattle.pp_model.proofs.Rest.{Rests, rests, is_rest, can_renew}
use Rattle.pp_model.proofs.Turns.{next_while_under_way}
use Rattle.pp_totals.specs.declared.totals.Totals.{Totals}
use Rattle.pp_totals.specs.Counting.{is_submit, is_take, is_done, is_gone, totals_of, none_counted, plus}
use Rattle.pp_totals.specs.Complete.{has_plan, busy, segment_totals, AreComplete, BeginsALife, AreAccounted}
use Rattle.pp_totals.specs.Complete.{AllAreEnded}
use Rattle.pp_totals.proofs.Sums.{count_one, add_up}
use Rattle.pp_totals.proofs.Effects.{Effect, effect_of}

-- ---- no events, and two parts

nothing : (s : State) → AreComplete s s none_counted
nothing s = record {
  submitted = omega arith;
  taken = omega arith;
  done = omega arith;
  gone = omega arith;
  with_workers = omega arith;
}

in_two : (o s t : State) (x y : Totals) → AreComplete o s x → AreComplete s t y → AreComplete o t (plus x y)
in_two o s t x y a b = record {
  submitted = omega (arith, a.submitted, b.submitted);
  taken = omega (arith, a.taken, b.taken);
  done = omega (arith, a.done, b.done);
  gone = omega (arith, a.gone, b.gone);
  with_workers = omega (arith, a.with_workers, b.with_workers);
}

-- ---- one event

step : (s t : State) (m : Move) (x : Reply) → Effect s t m x → AreComplete s t (totals_of (Step m x ∷ []))
step s t m x f =
    let e = Step m x in
    let submits : count_by is_submit (e ∷ []) ≡ 0 = count_one is_submit e in
    let takes = count_one is_take e in
    let dones = count_one is_done e in
    let gones = count_one is_gone e in
    record {
      submitted = omega (arith, submits, ap length f.plans);
      taken = omega (arith, takes, f.taken);
      done = omega (arith, dones, f.done);
      gone = omega (arith, gones, f.gone);
      with_workers = omega (arith, takes, dones, gones, f.with_workers);
    }

submit : (s : State) (k : ℕ) (a : Acceptance) → AreComplete s (submitted s a) (totals_of (Submit k ∷ []))
submit s k a =
    let e = Submit k in
    let submits : count_by is_submit (e ∷ []) ≡ 1 = count_one is_submit e in
    let takes : count_by is_take (e ∷ []) ≡ 0 = count_one is_take e in
    let dones : count_by is_done (e ∷ []) ≡ 0 = count_one is_done e in
    let gones : count_by is_gone (e ∷ []) ≡ 0 = count_one is_gone e in
    record {
      submitted = omega (arith, submits, length-append s.plans (a ∷ []));
      taken = omega (arith, takes);
      done = omega (arith, dones);
      gone = omega (arith, gones);
      with_workers = omega (arith, takes, dones, gones);
    }

-- A plan that is the next and isn't refused waits behind the others.
pub submits : (plans : List Acceptance) (s : State) (k : ℕ) (is : IsNextPlan plans s k)
    → after_plan s (slice_get plans k) ≡ submitted s is.plan
submits plans s k is = ap (after_plan s) is.named ∙ ap (λ o. submitted_unless o s is.plan) is.taken_in

one_event : (plans : List Acceptance) (s : State) (e : Event) → IsTrueAt plans s e
    → AreComplete s (after_event plans s e) (totals_of (e ∷ []))
one_event plans s (Submit k) is =
    subst (λ t. AreComplete s t (totals_of (Submit k ∷ []))) (sym (submits plans s k is)) (submit s k is.plan)
one_event plans s (Step m reply) is =
    subst (λ x. AreComplete s (next_of s m) (totals_of (Step m x ∷ []))) (sym is.1)
    (step s (next_of s m) m _ (effect_of s m is.0))

-- ---- journals and segments

all_events : (plans : List Acceptance) (s : State) (es : List Event) → IsTrueFrom plans s es
    → AreComplete s (replay plans s es) (totals_of es)
all_events plans s [] is = nothing s
all_events plans s (e ∷ es) is =
    let t = after_event plans s e in
    let u = replay plans t es in
    subst (AreComplete s u) (sym (add_up (e ∷ []) es))
    (in_two s t u (totals_of (e ∷ [])) (totals_of es) (one_event plans s e is.0) (all_events plans t es is.1))

pub complete : (o t : State) (es : List Event) → IsJournalFrom o t es → AreComplete o t (totals_of es)
complete o t es h =
    subst (λ u. AreComplete o u (totals_of es)) h.leads_here (all_events t.plans o es h.is_true)

pub segments_complete : (o : State) (xs : List Segment) → AreSegments o xs
    → AreComplete o (segments_end o xs) (segment_totals xs)
segments_complete o [] h = nothing o
segments_complete o (x ∷ xs) h =
    in_two o x.end (segments_end x.end xs) (totals_of x.events) (segment_totals xs) (complete o x.end x.events h.0)
    (segments_complete x.end xs h.1)

-- ---- where lives begin

idle_seats : (n : ℕ) → count_by has_plan (replicate n None) ≡ 0
idle_seats zero = refl
idle_seats (suc n) =
    omega (arith, sum_by-cons (λ x. cond (has_plan x) 1 0) None (replicate n None), idle_seats n)

pub opens : (k : Settings) → BeginsALife (opening k)
opens k = record { plans = refl; taken = refl; idle = idle_seats k.workers }

at_rest : (s : State) → Rests s → busy s ≡ 0
at_rest s h = ap (λ (seats : List (Option Running)). count_by has_plan seats) h.seats ∙ idle_seats (length s.seats)

pub renews : (s : State) → renew_error s ≡ None → BeginsALife (renewed s)
renews s e = record { plans = refl; taken = refl; idle = at_rest s (can_renew s e).rests }

-- ---- from there on

pub accounted : (o t : State) (x : Totals) → BeginsALife o → IsReached t → AreComplete o t x → AreAccounted t x
accounted o t x begins h c =
    let none : length o.plans ≡ 0 = ap length begins.plans in
    record {
      submitted =
          omega (
            arith,
            c.submitted,
            none,
            c.taken,
            begins.taken,
            length-drop t.taken t.plans,
            taken_are_few t h,
          );
      taken = omega (arith, c.with_workers, begins.idle);
    }

some_turn : (o : Option Turn) → o ≡ None → IsSome o → ⊥
some_turn None e some = cc
some_turn (Some turn) e some = cc

pub all_ended : (t : State) (x : Totals) → IsReached t → next_turn t ≡ None → AreAccounted t x → AllAreEnded x
all_ended t x h none c =
    let over : IsUnderWay t → ⊥ = λ way. some_turn (next_turn t) none ((next_while_under_way t h).1 way) in
    let rest = rests t (is_rest t over) in
    record {
      taken = omega (arith, c.submitted, length-drop t.taken t.plans, rest.waits);
      ended = omega (arith, c.taken, at_rest t rest);
    }
