use Rattle.std.proofs.Common.{◌≡◌, ◌∙◌, ◌-◌, ℕ, List, [], Option, None, slice_get, slice_index_or, option_map, sym, ap, subst}
use Rattle.std.proofs.lemmas.Option.{unwrap_or-slice_get}
use Rattle.std.specs.Borrow.{Bor}
use Rattle.std.specs.Option.{unwrap_or}
use Rattle.pp_locate.specs.Places.{lines}
use Rattle.pp_locate.proofs.lines.line_at.Goals as goal

missing : (ls : List (List ℕ)) (k n : ℕ) → None ≡ slice_get ls k → k ≡ n → [] ≡ slice_index_or ls n []
missing ls k n none same =
    ap (λ (o : Option (List ℕ)). unwrap_or o []) none ∙ unwrap_or-slice_get ls k [] ∙ ap (λ i. slice_index_or ls i []) same

pub returns-in-None : goal.returns-in-None
returns-in-None c =
    missing (lines c.args.text.now) c.saturating_sub.result (c.args.number - 1)
    (sym (ap (option_map (λ (line : Bor (List ℕ)). line.now)) c.in-None.is) ∙ c.nth_line.ensures) c.saturating_sub.ensures
