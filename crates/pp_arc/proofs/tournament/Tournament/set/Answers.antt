-- What is left to show of Tournament::set: a key is written in the tree.
use Rattle.std.proofs.Common.{◌≡◌, ℕ, ◌+◌, List, length, set, drop, ap, ◌∙◌, arith}
use Rattle.std.proofs.lemmas.List.{with_items_is}
use Rattle.pp_arc.proofs.TournamentLemmas.{rewritten}
use Rattle.pp_arc.proofs.tournament.Tournament.set.Goals as goal

pub returns-else-key-self : goal.returns-else-key-self
returns-else-key-self c =
    let v : c.deref_mut.result.now ≡ c.self.inside.nodes.items = cc (c.deref_mut.ensures.value) in
    let f = rw v at c.write.ensures.leaves in
    let len : length c.write.new.nodes ≡ c.self.inside.nodes.len = omega
    (arith, c.write.auto.nodes, ap (length {A = ℕ}) v, c.self.inside.nodes.ok.0) in
    ap (λ (xs : List ℕ). set (drop c.self.inside.entrants xs) c.self.inside.waiting c.self.inside.key)
    (with_items_is c.self.inside.nodes c.write.new.nodes len)
    ∙ rewritten c.self.inside.nodes.items c.write.new.nodes c.self.inside.entrants c.self.inside.waiting
    c.self.inside.key c.args.entrant c.args.key (c.self.inside.entrants + c.args.entrant) (omega arith) (omega arith)
    (omega arith) f
    ∙ ap (λ (ks : List ℕ). set ks c.args.entrant c.args.key) c.self.view_is
