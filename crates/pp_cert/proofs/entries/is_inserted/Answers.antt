use Rattle.std.proofs.Common.{◌∷◌, ◌++◌, sym, ap, ◌∙◌}
use Rattle.pp_cert.specs.Notes.{same_note}
use Rattle.pp_cert.proofs.Splices.{insert_at, insert_last}
use Rattle.pp_cert.proofs.entries.is_inserted.Goals as goal

pub returns-in-Some : goal.returns-in-Some
returns-in-Some c =
    c.is_joined.ensures
    ∙ (λ i. same_note c.args.after.now (c.split_at.ensures.front i ++ c.args.entry ∷ c.split_at.ensures.back i))
    ∙ ap (same_note c.args.after.now) (sym (insert_at c.args.entry c.slot.result c.args.before.now c.in-Some.place
    c.slot.ensures (sym c.position_after.ensures ∙ c.in-Some.is)))

pub returns-in-None : goal.returns-in-None
returns-in-None c =
    c.is_joined-in-None.ensures
    ∙ ap (same_note c.args.after.now) (sym (insert_last c.args.entry c.slot.result c.args.before.now c.slot.ensures
    (sym c.position_after.ensures ∙ c.in-None.is)))
