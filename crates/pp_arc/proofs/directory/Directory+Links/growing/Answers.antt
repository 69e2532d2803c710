-- What is left to show of Directory::growing: an empty directory is sound.
use Rattle.std.proofs.Common.{arith, inr}
use Rattle.pp_arc.proofs.MoveLemmas.{new_sound}
use Rattle.pp_arc.proofs.directory.Directory+Links.growing.Goals as goal

pub invariant_of-result : goal.invariant_of-result
invariant_of-result c = new_sound c.in_ok-new.field-0 c.args.pages c.args.c c.args.pages c.in_ok-new.ensures.empty
    c.requires.holds_a_page (inr (omega arith))
