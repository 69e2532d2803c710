-- A journal that begins with the submits of all plans.
use Rattle.std.proofs.Common.{◌≡◌, ◌∙◌, ℕ, zero, suc, ◌+◌, ◌≤◌, ◌&&◌, true, Option, None, Some, List, [], ◌∷◌, ◌++◌, length, take, drop}
use Rattle.std.proofs.Common.{refl, sym, ap, arith, add-one, append_assoc}
use Rattle.std.specs.Prelude.{option_map}
use Rattle.std.specs.List.{list_all}
use Rattle.std.proofs.lemmas.List.{take_all, take-append-le, drop-append-le}
use Rattle.std.proofs.lemmas.List.Folds.{list_all-append}
use Rattle.pp_model.specs.declared.event.Event.{Event}
use Rattle.pp_model.specs.declared.event.Event.TheVariants.{Submit, Step}
use Rattle.pp_model.specs.declared.moves.Move.{Move}
use Rattle.pp_model.specs.declared.reply.Reply.{Reply}
use Rattle.pp_vault.specs.Calls.{told}
use Rattle.pp_pool.specs.declared.request.Request.{Request}
use Rattle.pp_pool.specs.declared.response.Response.{Response}
use Rattle.pp_pool.specs.Parts.{Parts, state_of}
use Rattle.pp_pool.specs.Requests.{call_of, events_in}
use Rattle.pp_pool.specs.Performs.{Performs}
use Rattle.pp_report.specs.Reports.{is_move}
use Rattle.pp_run.specs.Runs.{submits}

pub submits_long : (first n : ℕ) → length (submits first n) ≡ n
submits_long first zero = refl
submits_long first (suc n) = let h = submits_long (first + 1) n in omega (arith, h)

-- ---- one submit more

pub submits_next : (first n : ℕ) → submits first (n + 1) ≡ Submit first ∷ submits (first + 1) n
submits_next first n = ap (submits first) (add-one n)

-- Where one plan more is submitted, the rest of the submits is one shorter.
pub submitted_next : (before : List Event) (first n : ℕ) (whole : List Event) → whole ≡ before ++ submits first (n + 1)
    → whole ≡ (before ++ Submit first ∷ []) ++ submits (first + 1) n
submitted_next before first n whole is =
    is ∙ (ap (λ es. before ++ es) (submits_next first n)
    ∙ sym (append_assoc before (Submit first ∷ []) (submits (first + 1) n)))

pub submit_next : (before after : List Event) (first next number n m : ℕ) (whole : List Event) → number ≡ first
    → after ≡ before ++ Submit number ∷ [] → next ≡ first + 1 → n ≡ m + 1 → whole ≡ before ++ submits first n
    → whole ≡ after ++ submits next m
submit_next before after first next number n m whole numbered journal longer left is =
    let step : before ++ submits first n ≡ (before ++ Submit first ∷ []) ++ submits (first + 1) m
    = submitted_next before first m (before ++ submits first n) (ap (λ k. before ++ submits first k) left) in
    is ∙ (step ∙ (ap (λ k. (before ++ Submit k ∷ []) ++ submits (first + 1) m) (sym numbered)
    ∙ (ap (λ es. es ++ submits (first + 1) m) (sym journal) ∙ ap (λ k. after ++ submits k m) (sym longer))))

-- ---- all submits, and nothing else

pub begins_with_submits : (n : ℕ) (es : List Event) → es ≡ submits 0 n → take n es ≡ submits 0 n
begins_with_submits n es is =
    ap (take n) is ∙ take_all n (submits 0 n) (let h = submits_long 0 n in omega (arith, h))

nothing_after : (n : ℕ) (es : List Event) → length es ≤ n → list_all is_move (drop n es) ≡ true
nothing_after zero [] low = refl
nothing_after zero (e ∷ es) low = absurd (omega (arith, low))
nothing_after (suc n) [] low = refl
nothing_after (suc n) (e ∷ es) low = nothing_after n es (omega (arith, low))

pub ends_with_submits : (n : ℕ) (es : List Event) → es ≡ submits 0 n → list_all is_move (drop n es) ≡ true
ends_with_submits n es is = nothing_after n es (let h = ap length is ∙ submits_long 0 n in omega (arith, h))

-- ---- moves behind them

long_enough : (n : ℕ) (es : List Event) → length (take n es) ≡ n → n ≤ length es
long_enough zero es h = omega arith
long_enough (suc n) [] h = absurd (omega (arith, h))
long_enough (suc n) (e ∷ es) h = let k = long_enough n es (omega (arith, h)) in omega (arith, k)

reaches : (n : ℕ) (es : List Event) → take n es ≡ submits 0 n → n ≤ length es
reaches n es h = long_enough n es (ap length h ∙ submits_long 0 n)

-- What a request adds is a move.
adds_a_move : (o : Option (Move × Reply)) → list_all is_move (events_in (option_map (λ t. Step t.0 t.1) o)) ≡ true
adds_a_move None = refl
adds_a_move (Some t) = refl

pub performs_adds : (old : Parts) (asked : Request) (response : Response) (new : Parts) → Performs old asked response new
    → list_all is_move (events_in response.event) ≡ true
performs_adds old asked response new p =
    ap (λ e. list_all is_move (events_in e)) p.event
    ∙ adds_a_move (told (state_of old) (call_of old.vault asked (state_of old)))

pub performs_submits : (n : ℕ) (old : Parts) (asked : Request) (response : Response) (new : Parts)
    → Performs old asked response new → take n old.journal ≡ submits 0 n → take n new.journal ≡ submits 0 n
performs_submits n old asked response new p begins =
    ap (take n) p.journal
    ∙ (take-append-le n old.journal (events_in response.event) (reaches n old.journal begins) ∙ begins)

pub performs_moves : (n : ℕ) (old : Parts) (asked : Request) (response : Response) (new : Parts)
    → Performs old asked response new → take n old.journal ≡ submits 0 n
    → list_all is_move (drop n old.journal) ≡ true → list_all is_move (drop n new.journal) ≡ true
performs_moves n old asked response new p begins moves =
    let added : list_all is_move (events_in response.event) ≡ true = performs_adds old asked response new p in
    ap (λ es. list_all is_move (drop n es)) p.journal
    ∙ (ap (list_all is_move) (drop-append-le n old.journal (events_in response.event) (reaches n old.journal begins))
    ∙ (list_all-append is_move (drop n old.journal) (events_in response.event)
    ∙ (ap (λ b. b && list_all is_move (events_in response.event)) moves ∙ added)))
