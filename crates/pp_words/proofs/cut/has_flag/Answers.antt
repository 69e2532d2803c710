use Rattle.std.proofs.Common.{rules, tests}
use Rattle.std.proofs.lemmas.Iterator.{YieldsList-from_slice}
use Rattle.std.proofs.lemmas.Iterator.Search.{any_from_yields_List}
use Rattle.pp_words.specs.CommandLine.{is_segments_flag}
use Rattle.pp_words.proofs.Cutting.{any-map}
use Rattle.pp_words.proofs.cut.has_flag.Goals as goal

pub returns : goal.returns
returns g c =
    rw (any-map is_segments_flag g.S.AsStr.text c.args.words.now)
    (any_from_yields_List (λ word. is_segments_flag (g.S.AsStr.text word)) _ _ _ c.any.ensures.ran
    (YieldsList-from_slice c.args.words.now cc) (λ x b q k. search (rules, tests)))
