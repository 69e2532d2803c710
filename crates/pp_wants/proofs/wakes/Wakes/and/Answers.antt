use Rattle.pp_wants.proofs.Masks.{has_either}
use Rattle.pp_wants.proofs.wakes.Wakes.and.Goals as goal

pub returns : goal.returns
returns c = λ w. rw (c.into_mask.ensures, c.into_mask-2.ensures) (has_either c.args.self c.args.other w)
