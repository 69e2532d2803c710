use Rattle.std.proofs.Common.{◌≡◌, ◌++◌, [], ◌∷◌, subst}
use Rattle.std.specs.Prelude.{map}
use Rattle.pp_journal.specs.Entries.{event_of}
use Rattle.pp_journal.proofs.Growing.{pushed, packed_more}
use Rattle.pp_journal.proofs.journal.Journal.push_reserved.Goals as goal

pub invariant_of-self : goal.invariant_of-self
invariant_of-self c =
    packed_more c.self.inside.entries c.push_reserved.new.self c.self.inside.others c.entry_for-entry.new.others
    c.self.inside.capacity c.entry_for-entry.result c.self.invariant c.entry_for-entry.ensures.others
    c.entry_for-entry.ensures.inside c.push_reserved.ensures.items c.push_reserved.ensures.capacity
    c.entry_for-entry.ensures.memory

pub returns-clause-items : goal.returns-clause-items
returns-clause-items c =
    subst (λ old. map (event_of c.entry_for-entry.new.others.items) c.push_reserved.new.self.items
    ≡ old.items ++ c.args.event ∷ []) c.self.view_is
    (pushed c.self.inside.others.items c.entry_for-entry.new.others.items c.self.inside.entries.items
    c.push_reserved.new.self.items c.entry_for-entry.result c.args.event c.entry_for-entry.ensures.others
    c.self.invariant.inside c.entry_for-entry.ensures.event c.push_reserved.ensures.items)
