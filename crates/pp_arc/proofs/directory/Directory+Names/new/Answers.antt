-- What is left to show of Directory::new: an empty directory is sound.
use Rattle.pp_arc.proofs.MoveLemmas.{new_sound}
use Rattle.pp_arc.proofs.directory.Directory+Names.new.Goals as goal

pub invariant_of-result : goal.invariant_of-result
invariant_of-result c = new_sound c.in_ok-new.field-0 c.nodes_for.result c.args.c c.args.pages
    c.in_ok-new.ensures.empty c.requires.holds_a_page c.nodes_for.ensures.room
