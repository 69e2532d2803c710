use Rattle.std.proofs.Common.{◌≡◌, List, ℕ, [], Option, None, Some, unwrap_or, option_map, refl, ap, ◌∙◌}
use Rattle.clap.specs.Words.{found_of}
use Rattle.clap.proofs.WalkLemmas.{first_value-rows}
use Rattle.pp_words.proofs.parts.value_of.Goals as goal

-- what is seen of a value or of the one in its place
seen_or : {A B : Type 0} (see : A → B) (found : Option A) (other : A)
    → see (unwrap_or found other) ≡ unwrap_or (option_map see found) (see other)
seen_or see None other = refl
seen_or see (Some x) other = refl

pub returns : goal.returns
returns c =
    rw c.unwrap_or.ensures (seen_or (λ text. text.now) c.get_str.result _
    ∙ ap (λ (found : Option (List ℕ)). unwrap_or found [])
    (c.get_str.ensures ∙ first_value-rows (found_of c.args.matches.now) c.args.id.now))
