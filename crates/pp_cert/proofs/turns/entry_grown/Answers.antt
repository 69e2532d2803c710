use Rattle.std.proofs.Common.{ℕ, sym, ap, ◌∙◌}
use Rattle.std.specs.Prelude.{◌||◌, not}
use Rattle.pp_plan.specs.Tree.{scatters}
use Rattle.pp_cert.specs.Notes.{entry_slot, bound_at, has_grown}
use Rattle.pp_cert.proofs.turns.entry_grown.Goals as goal

pub returns : goal.returns
returns c =
    let s : ℕ = entry_slot c.args.entry.now in
    let is = sym c.is_bundle.ensures ∙ c.if-not-is_bundle.false in
    c.has_grown.ensures
    ∙ (λ i. has_grown c.args.turns (scatters c.args.body.now c.slot-slot.result) (c.bound_at.ensures i) (c.bound_at-2.ensures i) (c.bound_at-3.ensures i))
    ∙ ap (λ s. has_grown c.args.turns (scatters c.args.body.now s) (bound_at c.args.before.now s) (bound_at c.args.first.now s) (bound_at c.args.last.now s)) c.slot-slot.ensures
    ∙ sym (ap (λ b. not b || has_grown c.args.turns (scatters c.args.body.now s) (bound_at c.args.before.now s) (bound_at c.args.first.now s) (bound_at c.args.last.now s)) is)
