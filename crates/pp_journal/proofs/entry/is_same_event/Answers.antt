use Rattle.std.proofs.Common.{◌∙◌, sym}
use Rattle.pp_journal.proofs.SameEvents.{same_events}
use Rattle.pp_journal.proofs.entry.is_same_event.Goals as goal

pub returns : goal.returns
returns c =
    let same = same_events c.event_of-first.result c.event_of-second.result in (
      λ yes. sym c.event_of-first.ensures ∙ same.0 (sym c.eq.ensures ∙ yes) ∙ c.event_of-second.ensures,
      λ is. c.eq.ensures ∙ same.1 (c.event_of-first.ensures ∙ is ∙ sym c.event_of-second.ensures),
    )
