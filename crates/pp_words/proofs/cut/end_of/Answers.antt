use Rattle.std.proofs.Common.{◌≡◌, ◌∙◌, rules, sym, tests, map}
use Rattle.std.specs.List.{position_or_len}
use Rattle.std.proofs.lemmas.Iterator.{YieldsList-from_slice}
use Rattle.std.proofs.lemmas.Iterator.Search.{position_from_yields_List}
use Rattle.pp_words.specs.CommandLine.{is_dashes}
use Rattle.pp_words.proofs.Cutting.{place-map, place_or_len, place_within}
use Rattle.pp_words.proofs.cut.end_of.Goals as goal

pub returns-clause-place : goal.returns-clause-place
returns-clause-place g c =
    c.unwrap_or.ensures
    ∙ place_or_len (λ word. is_dashes (g.S.AsStr.text word)) c.args.words.now c.position.result
    (position_from_yields_List (λ word. is_dashes (g.S.AsStr.text word)) _ _ _ c.position.ensures.ran
    (YieldsList-from_slice c.args.words.now cc) (λ x b q k. search (rules, tests)))
    ∙ sym (place-map is_dashes g.S.AsStr.text c.args.words.now)

pub returns-clause-within : goal.returns-clause-within
returns-clause-within g c =
    let place : c.unwrap_or.result ≡ position_or_len is_dashes (map g.S.AsStr.text c.args.words.now) =
    c.unwrap_or.ensures
    ∙ place_or_len (λ word. is_dashes (g.S.AsStr.text word)) c.args.words.now c.position.result
    (position_from_yields_List (λ word. is_dashes (g.S.AsStr.text word)) _ _ _ c.position.ensures.ran
    (YieldsList-from_slice c.args.words.now cc) (λ x b q k. search (rules, tests)))
    ∙ sym (place-map is_dashes g.S.AsStr.text c.args.words.now) in
    place_within g.S.AsStr.text c.args.words.now c.unwrap_or.result place
