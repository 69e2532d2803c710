use Rattle.std.proofs.Common.{rules, ◌≡◌, ℕ, ◌<◌, ◌≤◌, List, [], length, sym, ◌∙◌, arith}
use Rattle.std.proofs.Output.{has_written_append, has_written_of_eq}
use Rattle.std.proofs.lemmas.Iterator.{YieldsList-from_chars}
use Rattle.std.proofs.lemmas.Iterator.Consumers.{YieldsList-end, YieldsList-so_far, YieldsList-turn}
use Rattle.std.proofs.lemmas.List.{flat_map_more, length_push, map-id}
use Rattle.std.specs.Str.{chars}
use Rattle.pp_shown.specs.Shown.{most_shown, shown_char}
use Rattle.pp_shown.proofs.Cutting.{more_behind, none_behind}
use Rattle.pp_shown.proofs.path.write_path.Goals as goal

pub returns-then-count-eq-MOST_SHOWN : goal.returns-then-count-eq-MOST_SHOWN
returns-then-count-eq-MOST_SHOWN g c =
    let shown : List ℕ = c.loop-character.yielded in
    let all : List ℕ = chars c.args.path.now in
    let list = YieldsList-from_chars c.args.path.now c.utf8.path cc in
    let far = YieldsList-so_far list shown _ c.loop-character.yielded_by in
    let turn = YieldsList-turn list shown _ c.loop-character.yielded_by _ _ c.in-Some.character c.in-Some.is c.next.ensures.steps in
    let long : length shown ≡ most_shown = omega (arith, c.loop-character.invariant.0, c.if-count-eq-MOST_SHOWN.true) in
    let more : most_shown < length all = omega (arith, long, turn.0) in
    λ plain ok. has_written_of_eq _ _ _ _ _ (more_behind all shown (sym (map-id shown) ∙ far) long more)
    (has_written_append _ _ _ _ _ _ (c.loop-character.invariant.2 plain) (search rules))

pub loop-character-preserved : goal.loop-character-preserved
loop-character-preserved g c = (
  omega (arith, c.loop-character.invariant.0, length_push c.loop-character.yielded c.in-Some.character),
  omega (arith, c.loop-character.invariant.1, c.if-count-eq-MOST_SHOWN.false),
  λ plain. has_written_of_eq _ _ _ _ _ (flat_map_more shown_char [] c.loop-character.yielded c.in-Some.character)
      (has_written_append _ _ _ _ _ _ (c.loop-character.invariant.2 plain) (search rules)),
)

pub returns : goal.returns
returns g c =
    let shown : List ℕ = c.loop-character.yielded in
    let all : List ℕ = chars c.args.path.now in
    let list = YieldsList-from_chars c.args.path.now c.utf8.path cc in
    let end = YieldsList-end list shown _ c.loop-character.yielded_by _ _ c.in-None.is c.next.ensures.steps in
    let few : length all ≤ most_shown = omega (arith, c.loop-character.invariant.0, c.loop-character.invariant.1, end.1) in
    λ plain ok. has_written_of_eq _ _ _ _ _ (none_behind all shown (sym (map-id shown) ∙ end.0) few) (c.loop-character.invariant.2 plain)
