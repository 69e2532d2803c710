use Rattle.std.proofs.Common.{◌≡◌, ◌∙◌, false, codes, rules}
use Rattle.std.specs.Str.{bytes_eq}
use Rattle.pp_text.specs.Parts.{ahead}
use Rattle.pp_segments.proofs.Spoken.{line_default}
use Rattle.pp_segments.proofs.reading.line_from.Goals as goal

pub returns-in_default : goal.returns-in_default
returns-in_default c =
    let a : bytes_eq (ahead 32 c.args.asked.now) (codes "segment") ≡ false = search rules in
    let b : bytes_eq (ahead 32 c.args.asked.now) (codes "submit") ≡ false = search rules in
    c.step_in.ensures ∙ line_default c.args.asked.now c.args.told.now a b
