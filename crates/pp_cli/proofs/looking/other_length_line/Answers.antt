use Rattle.pp_cli.proofs.looking.other_length_line.Goals as goal

pub returns : goal.returns
returns c = simp c.bytes_of-wanted.ensures at c.in_ok-format.ensures.ok
