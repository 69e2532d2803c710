-- The text of a journal as it grows, event by event.
use Rattle.std.proofs.Common.{◌≡◌, ℕ, suc, ◌+◌, ◌<◌, List, ◌++◌, length, get_or, drop, sym, ap, ◌∙◌}
use Rattle.std.proofs.Common.{arith, append_assoc}
use Rattle.std.proofs.Math.Seq.{drop-cons}
use Rattle.pp_model.specs.declared.event.Event.{Event}
use Rattle.pp_report.specs.Lines.{event_words, journal_words}

-- The whole text is what stands there, then what is added, then what is left.
pub grown : (whole text added after left : List ℕ) → after ≡ text ++ added → whole ≡ text ++ (added ++ left)
    → whole ≡ after ++ left
grown whole text added after left is now =
    now ∙ sym (append_assoc text added left) ∙ ap (λ xs. xs ++ left) (sym is)

pub event_step : (es : List Event) (i : ℕ) (e : Event) → i < length es
    → journal_words (drop i es) ≡ event_words (get_or es i e) ++ journal_words (drop (i + 1) es)
event_step es i e below =
    let next : suc i ≡ i + 1 = omega arith in
    rw (drop-cons es i e below) (ap (λ k. event_words (get_or es i e) ++ journal_words (drop k es)) next)
