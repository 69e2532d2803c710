use Rattle.std.proofs.Common.{◌∙◌}
use Rattle.pp_explain.proofs.About.{made}
use Rattle.pp_explain.proofs.paragraph.told.Goals as goal

pub returns : goal.returns
returns c =
    made c.args.path.now c.args.text.now c.as_str.result.now c.as_str-2.result.now c.in_ok-bytes.bytes.items
    (c.as_str.ensures.value ∙ c.in_ok-shown.ensures.ok) (c.as_str-2.ensures.value ∙ c.in_ok-lines.ensures.ok)
    c.in_ok-bytes.ensures
