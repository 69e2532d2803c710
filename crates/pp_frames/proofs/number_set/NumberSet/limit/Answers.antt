-- What the check leaves to show of NumberSet::limit.
use Rattle.std.proofs.Common.{◌∙◌, sym, ap, length}
use Rattle.pp_frames.proofs.Spelling.{length_members}
use Rattle.pp_frames.proofs.number_set.NumberSet.limit.Goals as goal

pub returns : goal.returns
returns c = sym (length_members c.self.inside.limit c.self.inside.words.items) ∙ ap length c.self.view_is
