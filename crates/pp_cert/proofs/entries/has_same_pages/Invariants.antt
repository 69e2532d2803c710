use Rattle.std.proofs.Common.{◌≡◌, drop}
use Rattle.pp_cert.specs.Notes.{same_note, plain_part}
use Rattle.pp_cert.proofs.entries.has_same_pages.Given as goal

abbrev pub invariant-loop-entry : goal.invariant-loop-entry
invariant-loop-entry l =
    same_note (plain_part (drop l.entry-index l.fn.left)) (plain_part l.rest)
    ≡ same_note (plain_part l.fn.left) (plain_part l.fn.right)
