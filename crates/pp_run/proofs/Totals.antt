-- Sums over events.
use Rattle.std.proofs.Common.{◌≡◌, ◌∙◌, ◌+◌, ◌<◌, ◌++◌, ℕ, List, [], ◌∷◌, length, drop, get_or, refl, sym, ap, arith, zero-add, add_assoc, add-one, drop-cons}
use Rattle.pp_model.specs.declared.event.Event.{Event}
use Rattle.pp_model.specs.declared.moves.Move.{Move}
use Rattle.std.specs.Prelude.{Some}
use Rattle.pp_pool.specs.Flushings.{from_after}
use Rattle.pp_run.specs.Calling.{at_event, total, sought_behind}

pub total_append : (number : Move → ℕ) (a b : List Event) → total number (a ++ b) ≡ total number a + total number b
total_append number [] b = sym (zero-add (total number b))
total_append number (e ∷ es) b =
    ap (λ n. at_event number e + n) (total_append number es b)
    ∙ sym (add_assoc (at_event number e) (total number es) (total number b))

-- The number of the event at a place is a summand of what stands from there on.
total_at : (number : Move → ℕ) (es : List Event) (place : ℕ) (e : Event) → place < length es → e ≡ get_or es place e
    → total number (drop place es) ≡ at_event number e + total number (drop (place + 1) es)
total_at number es place e low is = rw (add-one, drop-cons es place e low, ← is) refl

-- Who has counted up to a place, and adds what the event there tells, has counted up to the next one.
pub counted_on : (number : Move → ℕ) (es : List Event) (place count next : ℕ) (e : Event) → place < length es
    → e ≡ get_or es place e → total number es ≡ count + total number (drop place es) → next ≡ count + at_event number e
    → total number es ≡ next + total number (drop (place + 1) es)
counted_on number es place count next e low is was now =
    let here : total number (drop place es) ≡ at_event number e + total number (drop (place + 1) es)
    = total_at number es place e low is in
    omega (arith, here, was, now)

-- ---- where the next flush is sought

sought_at : (es : List Event) (place sought : ℕ) (e : Event) → place < length es → e ≡ get_or es place e
    → sought_behind sought (drop place es) ≡ sought_behind (from_after sought (Some e)) (drop (place + 1) es)
sought_at es place sought e low is = rw (add-one, drop-cons es place e low, ← is) refl

-- Who has looked up to a place, and at the event there, has looked up to the next one.
pub sought_on : (es : List Event) (place from sought next : ℕ) (e : Event) → place < length es → e ≡ get_or es place e
    → sought_behind from es ≡ sought_behind sought (drop place es) → next ≡ from_after sought (Some e)
    → sought_behind from es ≡ sought_behind next (drop (place + 1) es)
sought_on es place from sought next e low is was now =
    was ∙ (sought_at es place sought e low is ∙ ap (λ n. sought_behind n (drop (place + 1) es)) (sym now))
