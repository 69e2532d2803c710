use Rattle.std.proofs.Common.{◌≡◌, [], drop}
use Rattle.serde_json.specs.View.{items_view}
use Rattle.pp_cert.specs.Reading.{notes_from}
use Rattle.pp_cert.proofs.reading.notes_of.Given as goal

abbrev pub invariant-loop-value : goal.invariant-loop-value
invariant-loop-value l =
    notes_from l.settings l.plan l.notes.items (items_view (drop l.value-index l.items))
    ≡ notes_from l.settings l.plan [] (items_view l.items)
