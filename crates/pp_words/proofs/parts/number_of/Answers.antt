use Rattle.std.proofs.Common.{ap, ◌∙◌}
use Rattle.std.specs.Option.{option_map_or}
use Rattle.std.specs.Str.Parse.{ParsesUnsigned, ExplainsUnsignedError, HasUnsignedDigitsIfOk}
use Rattle.clap.specs.Words.{found_of, one_text}
use Rattle.clap.proofs.WalkLemmas.{one_text-rows}
use Rattle.pp_words.specs.CommandLine.{number_in}
use Rattle.pp_words.proofs.Numbers.{number_given}
use Rattle.pp_words.proofs.parts.number_of.Goals as goal

pub returns : goal.returns
returns c =
    let found = found_of c.args.matches.now in
    c.unwrap_or.ensures
    ∙ number_given (λ bs r. ParsesUnsigned 32 10 bs r × ExplainsUnsignedError 10 bs r × HasUnsignedDigitsIfOk bs r)
    (one_text found c.args.id.now) c.get_one.result (λ u x g. g.0) c.get_one.ensures.none c.get_one.ensures.value
    ∙ ap (λ o. option_map_or number_in o 0) (one_text-rows found c.args.id.now)
