use Rattle.std.proofs.Common.{◌≡◌, ◌≤◌, drop}
use Rattle.pp_cert.specs.Notes.{is_rising}
use Rattle.pp_cert.proofs.entries.is_in_form.Given as goal

abbrev pub invariant-loop-entry : goal.invariant-loop-entry
invariant-loop-entry l = record {
  goes_on : is_rising l.least (drop l.entry-index l.note) ≡ is_rising 0 l.note;
  small : l.least ≤ 256;
}
