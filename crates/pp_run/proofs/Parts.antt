-- A log that is a worker's part of a journal.
use Rattle.std.proofs.Common.{◌≡◌, ◌∙◌, ℕ, ◌+◌, ◌<◌, ◌≤◌, true, false, List, [], ◌∷◌, ◌++◌, length, take, drop, get_or}
use Rattle.std.proofs.Common.{add-one, ap, sym, append_assoc, arith}
use Rattle.std.specs.Prelude.{slice_get, Some, if◌then◌else◌}
use Rattle.std.proofs.Math.Seq.{drop-cons, get_or-append_seam}
use Rattle.std.proofs.lemmas.List.{take_more, length-append, length-take-le}
use Rattle.std.proofs.lemmas.Option.{get_or_from_slice_get, slice_get-get_or, slice_get_within}
use Rattle.pp_model.specs.declared.event.Event.{Event}
use Rattle.pp_model.specs.WorkerParts.{part_of, names_worker}

dropped : (events : List Event) (i : ℕ) (d : Event) → i < length events
    → drop i events ≡ get_or events i d ∷ drop (i + 1) events
dropped events i d low = drop-cons events i d low ∙ ap (λ n. get_or events i d ∷ drop n events) (sym (add-one i))

part_next : (before : List Event) (e : Event) (rest : List Event) (w : ℕ) (whole : List Event)
    → whole ≡ before ++ part_of w (e ∷ rest) → names_worker w e ≡ true → whole ≡ (before ++ e ∷ []) ++ part_of w rest
part_next before e rest w whole h here =
    h ∙ (ap (λ b. before ++ (if b then e ∷ part_of w rest else part_of w rest)) here
    ∙ sym (append_assoc before (e ∷ []) (part_of w rest)))

part_skip : (before : List Event) (e : Event) (rest : List Event) (w : ℕ) (whole : List Event)
    → whole ≡ before ++ part_of w (e ∷ rest) → names_worker w e ≡ false → whole ≡ before ++ part_of w rest
part_skip before e rest w whole h away =
    h ∙ ap (λ b. before ++ (if b then e ∷ part_of w rest else part_of w rest)) away

pub part_taken : (log events : List Event) (n i w : ℕ) (d : Event) → i < length events
    → part_of w events ≡ take n log ++ part_of w (drop i events) → names_worker w (get_or events i d) ≡ true
    → slice_get log n ≡ Some (get_or events i d)
    → part_of w events ≡ take (n + 1) log ++ part_of w (drop (i + 1) events)
part_taken log events n i w d low so_far named at =
    let e : Event = get_or events i d in
    let same : get_or log n e ≡ e = get_or_from_slice_get log n e e at in
    let more : take (n + 1) log ≡ take n log ++ get_or events i d ∷ []
    = take_more log n e (slice_get_within log n e at) ∙ ap (λ e. take n log ++ e ∷ []) same in
    part_next (take n log) (get_or events i d) (drop (i + 1) events) w (part_of w events)
    (so_far ∙ ap (λ r. take n log ++ part_of w r) (dropped events i d low)) named
    ∙ ap (λ t. t ++ part_of w (drop (i + 1) events)) (sym more)

pub part_skipped : (log events : List Event) (n i w : ℕ) (d : Event) → i < length events
    → part_of w events ≡ take n log ++ part_of w (drop i events) → names_worker w (get_or events i d) ≡ false
    → part_of w events ≡ take n log ++ part_of w (drop (i + 1) events)
part_skipped log events n i w d low so_far other =
    part_skip (take n log) (get_or events i d) (drop (i + 1) events) w (part_of w events)
    (so_far ∙ ap (λ r. take n log ++ part_of w r) (dropped events i d low)) other

-- Behind so many events of a list stands the next one.
at_seam : (before : List Event) (e : Event) (rest whole : List Event) (n : ℕ) → length before ≡ n
    → whole ≡ before ++ e ∷ rest → slice_get whole n ≡ Some e
at_seam before e rest whole n long is =
    let many : length whole ≡ n + (1 + length rest)
    = ap length is ∙ (length-append before (e ∷ rest) ∙ omega (arith, long)) in
    let here : get_or whole n e ≡ e
    = ap (λ xs. get_or xs n e) is ∙ (ap (λ k. get_or (before ++ e ∷ rest) k e) (sym long)
    ∙ get_or-append_seam before e rest e) in
    slice_get-get_or whole n e (omega (arith, many)) ∙ ap (λ x. Some x) here

-- Where the worker's part has an event next, so has a log that is that part.
pub part_at : (log events : List Event) (n i w : ℕ) (d : Event) → i < length events → n ≤ length log
    → part_of w events ≡ take n log ++ part_of w (drop i events) → names_worker w (get_or events i d) ≡ true
    → log ≡ part_of w events → slice_get log n ≡ Some (get_or events i d)
part_at log events n i w d low within so_far named same =
    at_seam (take n log) (get_or events i d) (part_of w (drop (i + 1) events)) log n (length-take-le n log within)
    (same ∙ (so_far ∙ (ap (λ r. take n log ++ part_of w r) (dropped events i d low)
    ∙ ap (λ b. take n log ++ (if b then get_or events i d ∷ part_of w (drop (i + 1) events) else part_of w (drop (i + 1) events)))
    named)))
