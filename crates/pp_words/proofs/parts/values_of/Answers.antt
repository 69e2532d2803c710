use Rattle.std.proofs.Common.{List, [], Option, unwrap_or, option_map, ap, sym, ◌∙◌}
use Rattle.clap.specs.Walk.{Text}
use Rattle.clap.specs.Words.{found_of}
use Rattle.clap.proofs.WalkLemmas.{raw_values-rows}
use Rattle.pp_words.specs.CommandLine.{texts}
use Rattle.pp_words.proofs.parts.values_of.Goals as goal

pub returns-in_ok-copies-in-Some : goal.returns-in_ok-copies-in-Some
returns-in_ok-copies-in-Some c =
    ap texts (c.in_ok-copies-in-Some.ensures.items_if_clones_equal (λ x y same. same))
    ∙ ap (λ (found : Option (List Text)). unwrap_or found [])
    (sym (ap (option_map (λ values. texts values.now)) c.in-Some.is)
    ∙ c.get_raw.ensures ∙ raw_values-rows (found_of c.args.matches.now) c.args.id.now)

pub returns-in-None : goal.returns-in-None
returns-in-None c =
    ap texts c.new.ensures.items
    ∙ ap (λ (found : Option (List Text)). unwrap_or found [])
    (sym (ap (option_map (λ values. texts values.now)) c.in-None.is)
    ∙ c.get_raw.ensures ∙ raw_values-rows (found_of c.args.matches.now) c.args.id.now)
