-- What the check leaves to show of NumberSet::new.
use Rattle.std.proofs.Common.{◌∙◌, ap}
use Rattle.pp_frames.specs.Words.{members_of}
use Rattle.pp_frames.proofs.Spelling.{members_none}
use Rattle.pp_frames.proofs.number_set.NumberSet.+new.Goals as goal

pub returns-then-count-le1 : goal.returns-then-count-le1
returns-then-count-le1 t c =
    c.of.ensures ∙ ap (members_of c.args.limit) c.in_ok-words.ensures
    ∙ members_none c.args.limit c.div_ceil-count.result

pub returns : goal.returns
returns t c =
    c.of-2.ensures ∙ ap (members_of c.args.limit) c.in_ok-words.ensures
    ∙ members_none c.args.limit c.div_ceil-count.result
