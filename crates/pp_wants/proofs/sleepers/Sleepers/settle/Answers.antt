use Rattle.std.proofs.Common.{◌≡◌, ap, sym, ◌∙◌}
use Rattle.pp_wants.specs.Masks.{has_bell, bell_of}
use Rattle.pp_wants.proofs.Settling.{none_lost, none_waits_in, settled_none}
use Rattle.pp_wants.proofs.Places.{keeps_same}
use Rattle.pp_wants.proofs.sleepers.Sleepers.settle.Goals as goal

pub returns-then-self-eq0-clause-settled : goal.returns-then-self-eq0-clause-settled
returns-then-self-eq0-clause-settled c =
    let same : c.self.inside.places.items ≡ c.args.self.now = cc in
    none_lost c.args.vault.now c.args.self.now
    (none_waits_in c.self.inside.places.items c.args.self.now c.self.inside.untold c.self.invariant c.if-self-eq0.true same)

pub returns-then-self-eq0-clause-told : goal.returns-then-self-eq0-clause-told
returns-then-self-eq0-clause-told c = λ w h.
    ap (λ m. has_bell m (bell_of w)) c.none.ensures ∙ (settled_none c.args.vault.now c.args.self.now).told w h

pub returns-then-self-eq0-clause-only : goal.returns-then-self-eq0-clause-only
returns-then-self-eq0-clause-only c = λ b h.
    (settled_none c.args.vault.now c.args.self.now).only b (ap (λ m. has_bell m b) (sym c.none.ensures) ∙ h)

pub returns-then-self-eq0-clause-needed : goal.returns-then-self-eq0-clause-needed
returns-then-self-eq0-clause-needed c = (settled_none c.args.vault.now c.args.self.now).needed

pub returns-then-self-eq0-clause-rest : goal.returns-then-self-eq0-clause-rest
returns-then-self-eq0-clause-rest c = keeps_same c.args.self.now
