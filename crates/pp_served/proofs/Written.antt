-- What is written of segments that were taken out one after the other.
use Rattle.std.proofs.Common.{◌≡◌, ◌∙◌, ℕ, ◌+◌, List, [], ◌∷◌, ◌++◌, length, map}
use Rattle.std.proofs.Common.{refl, sym, ap, subst, arith, length-append}
use Rattle.std.specs.List.{AllByRecursion}
use Rattle.pp_cert.specs.Accepted.{Acceptance}
use Rattle.pp_model.specs.declared.event.Event.{Event}
use Rattle.pp_model.specs.declared.event.Event.TheVariants as event
use Rattle.pp_model.specs.Pool.{State}
use Rattle.pp_model.specs.Segments as model
use Rattle.pp_ledger.specs.Segments.{Segment, count_submits}
use Rattle.pp_ledger.specs.Taken.{Taken, AreTaken, segments_of, all_prepared, AreHeaded}
use Rattle.pp_segments.specs.Lines.{FitsLine}
use Rattle.pp_segments.specs.Segments.{ToldSegment, IsNamed, all_events, all_names, event_lines, segment_lines}
use Rattle.pp_segments.specs.Segments.{lines_from, segment_words, texts_from}
use Rattle.pp_served.specs.Texts.{told_of, text_words, count_lines, HasAllNumbers}
use Rattle.pp_served.specs.Served.{ledgers_of, segments_in}
use Rattle.pp_served.proofs.Named.{is_named}
use Rattle.pp_served.proofs.Fitting.{segment_fits, both_fit}

abbrev pub taken_out : List Taken → List Segment
taken_out xs = segments_in (ledgers_of xs)

abbrev pub told_in : List Taken → List ToldSegment
told_in xs = map told_of (taken_out xs)

-- ---- the same words

pub events_alike : (xs : List Taken) → model.all_events (segments_of xs) ≡ all_events (told_in xs)
events_alike [] = refl
events_alike (x ∷ xs) = ap (λ es. x.ledger.segment.events ++ es) (events_alike xs)

pub places_alike : (xs : List Taken) → all_prepared xs ≡ all_names (told_in xs)
places_alike [] = refl
places_alike (x ∷ xs) = ap (λ ns. x.ledger.segment.prepared ++ ns) (places_alike xs)

-- ---- by what they tell

pub all_named : (number before : ℕ) (xs : List Taken) → AreHeaded number before xs
    → AllByRecursion IsNamed (told_in xs)
all_named number before [] h = tt
all_named number before (x ∷ xs) h =
    let g = x.ledger.segment in
    (is_named g h.0.places, all_named (number + 1) (before + count_submits g.events) xs h.1)

-- Each begins behind the places of those before it.
follow : (number before : ℕ) (x : Taken) (xs : List Taken) → AreHeaded number before (x ∷ xs)
    → AreHeaded (number + 1) (before + length x.ledger.segment.prepared) xs
follow number before x xs h = subst (λ n. AreHeaded (number + 1) (before + n) xs) (sym h.0.places) h.1

pub texts_alike : (number before : ℕ) (xs : List Taken) → AreHeaded number before xs
    → map text_words (taken_out xs) ≡ texts_from number before (told_in xs)
texts_alike number before [] h = refl
texts_alike number before (x ∷ xs) h =
    let g = x.ledger.segment in
    let rest = texts_alike (number + 1) (before + length g.prepared) xs (follow number before x xs h) in
    ap (λ n. segment_words n g.plans_before (told_of g) ∷ map text_words (taken_out xs)) h.0.number
    ∙ ap (λ n. segment_words number n (told_of g) ∷ map text_words (taken_out xs)) h.0.plans_before
    ∙ ap (λ ts. segment_words number before (told_of g) ∷ ts) rest

pub lines_fit : (o : State) (number before : ℕ) (plans : List Acceptance) (xs : List Taken)
    → AreTaken o number plans xs → AreHeaded number before xs → AllByRecursion HasAllNumbers (taken_out xs)
    → AllByRecursion FitsLine (lines_from number before (told_in xs))
lines_fit o number before plans [] are headed h = tt
lines_fit o number before plans (x ∷ xs) are headed h =
    let g = x.ledger.segment in
    both_fit (segment_lines number before (told_of g))
    (lines_from (number + 1) (before + length g.prepared) (told_in xs))
    (segment_fits g number before x.end.plans o h.0 headed.0.number headed.0.plans_before are.0.segment.told.is_true)
    (lines_fit x.end (number + 1) (before + length g.prepared) x.ledger.vault.core.plans xs are.1
    (follow number before x xs headed) h.1)

-- ---- how many lines

events_counted : (es : List Event) (places : List ℕ) → length places ≡ count_submits es
    → length (event_lines es places) ≡ length es
events_counted [] places h = refl
events_counted (event.Submit k ∷ es) [] h = absurd (omega (arith, h))
events_counted (event.Submit k ∷ es) (place ∷ places) h =
    omega (arith, events_counted es places (omega (arith, h)))
events_counted (event.Step did reply ∷ es) places h = omega (arith, events_counted es places h)

pub lines_counted : (number before : ℕ) (xs : List Taken) → AreHeaded number before xs
    → length (lines_from number before (told_in xs)) ≡ count_lines (taken_out xs)
lines_counted number before [] h = refl
lines_counted number before (x ∷ xs) h =
    let g = x.ledger.segment in
    let more = lines_from (number + 1) (before + length g.prepared) (told_in xs) in
    omega (
      arith,
      length-append (segment_lines number before (told_of g)) more,
      events_counted g.events g.prepared h.0.places,
      lines_counted (number + 1) (before + length g.prepared) xs (follow number before x xs h),
    )
