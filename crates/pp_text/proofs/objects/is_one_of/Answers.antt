use Rattle.std.proofs.Common.{Bor, List, ℕ, rules, tests}
use Rattle.std.specs.Str.{bytes_eq}
use Rattle.std.proofs.lemmas.Iterator.{YieldsList-from_slice}
use Rattle.std.proofs.lemmas.Iterator.Search.{any_from_yields_List}
use Rattle.pp_text.proofs.Keys.{list_any_map}
use Rattle.pp_text.proofs.objects.is_one_of.Goals as goal

pub returns : goal.returns
returns c =
    rw (list_any_map (bytes_eq c.args.key.now) (λ (w : Bor (List ℕ)). w.now) c.args.known.now)
    (any_from_yields_List (λ (w : Bor (List ℕ)). bytes_eq c.args.key.now w.now) _ _ _ c.any.ensures.ran
    (YieldsList-from_slice c.args.known.now cc) (λ x b q k. search (rules, tests)))
