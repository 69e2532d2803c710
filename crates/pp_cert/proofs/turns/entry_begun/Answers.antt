use Rattle.std.proofs.Common.{ℕ, sym, ap, ◌∙◌}
use Rattle.std.specs.Prelude.{◌||◌, not}
use Rattle.pp_plan.specs.Tree.{scatters}
use Rattle.pp_cert.specs.Notes.{entry_slot, bound_at, is_begun}
use Rattle.pp_cert.proofs.turns.entry_begun.Goals as goal

pub returns : goal.returns
returns c =
    let s : ℕ = entry_slot c.args.entry.now in
    let is = sym c.is_bundle.ensures ∙ c.if-not-is_bundle.false in
    c.is_begun.ensures
    ∙ (λ i. is_begun (scatters c.args.body.now c.slot-slot.result) (c.bound_at.ensures i) (c.bound_at-2.ensures i))
    ∙ ap (λ s. is_begun (scatters c.args.body.now s) (bound_at c.args.before.now s) (bound_at c.args.first.now s)) c.slot-slot.ensures
    ∙ sym (ap (λ b. not b || is_begun (scatters c.args.body.now s) (bound_at c.args.before.now s) (bound_at c.args.first.now s)) is)
