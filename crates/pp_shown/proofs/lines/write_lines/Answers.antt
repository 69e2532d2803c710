use Rattle.std.proofs.Common.{rules, [], ap, sym, ◌∙◌}
use Rattle.std.proofs.Output.{has_written_append, has_written_of_eq}
use Rattle.std.proofs.lemmas.Iterator.{YieldsList-from_chars}
use Rattle.std.proofs.lemmas.Iterator.Consumers.{YieldsList-end}
use Rattle.std.proofs.lemmas.List.{flat_map_more, map-id}
use Rattle.std.specs.List.{flat_map}
use Rattle.pp_shown.specs.Shown.{shown_in_lines}
use Rattle.pp_shown.proofs.lines.write_lines.Goals as goal

pub loop-character-preserved : goal.loop-character-preserved
loop-character-preserved g c = λ plain. has_written_of_eq _ _ _ _ _ (flat_map_more shown_in_lines [] c.loop-character.yielded c.in-Some.character)
    (has_written_append _ _ _ _ _ _ (c.loop-character.invariant plain) (search rules))

pub returns : goal.returns
returns g c =
    let t = YieldsList-end (YieldsList-from_chars c.args.text.now c.utf8.text cc) c.loop-character.yielded _ c.loop-character.yielded_by _ _ c.in-None.is c.next.ensures.steps in
    λ plain ok. has_written_of_eq _ _ _ _ _ (ap (flat_map shown_in_lines) (sym (map-id c.loop-character.yielded) ∙ t.0)) (c.loop-character.invariant plain)
