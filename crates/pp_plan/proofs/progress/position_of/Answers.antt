use Rattle.std.proofs.Common.{rules, tests, string_bytes, sym, ◌∙◌}
use Rattle.std.specs.Str.{bytes_eq}
use Rattle.std.proofs.lemmas.Iterator.{YieldsList-from_slice}
use Rattle.std.proofs.lemmas.Iterator.Search.{position_from_yields_List}
use Rattle.pp_plan.proofs.Trees.{place_map}
use Rattle.pp_plan.proofs.progress.position_of.Goals as goal

pub returns-in-Some : goal.returns-in-Some
returns-in-Some c =
    let found =
    position_from_yields_List (λ n. bytes_eq (string_bytes n) c.args.name.now) _ _ c.position.result
    c.position.ensures.ran (YieldsList-from_slice c.args.names.now cc) (λ x b q k. search (rules, tests)) in
    sym c.in-Some.is ∙ found ∙ place_map (λ n. bytes_eq n c.args.name.now) c.args.names.now

pub returns-in-None : goal.returns-in-None
returns-in-None c =
    let found =
    position_from_yields_List (λ n. bytes_eq (string_bytes n) c.args.name.now) _ _ c.position.result
    c.position.ensures.ran (YieldsList-from_slice c.args.names.now cc) (λ x b q k. search (rules, tests)) in
    sym c.in-None.is ∙ found ∙ place_map (λ n. bytes_eq n c.args.name.now) c.args.names.now
