-- What is left to show of Tournament::greatest: who wins.
use Rattle.std.proofs.Common.{◌≡◌, ◌-◌, ◌<◌, ◌≤◌, ℕ, List, ap, subst, ◌∙◌, get_or, arith}
use Rattle.pp_arc.proofs.TournamentLemmas.{greatest_in, greatest_outside, greatest_none}
use Rattle.pp_arc.proofs.tournament.Tournament.greatest.Goals as goal

pub returns-then-root_of-self-clause-some : goal.returns-then-root_of-self-clause-some
returns-then-root_of-self-clause-some c = λ entrant e.
    let at : c.winner.result - c.self.inside.entrants ≡ entrant = cc in
    let xs : List ℕ = c.self.inside.nodes.items in
    let v : c.deref.result.now ≡ c.self.inside.nodes.items = cc (c.deref.ensures.value) in
    let v2 : c.deref-then-root_of-self.result.now ≡ c.self.inside.nodes.items =
    cc (c.deref-then-root_of-self.ensures.value) in
    let root : c.root_of.result ≡ get_or c.self.inside.nodes.items 1 0 =
    c.root_of.ensures ∙ ap (λ (l : List ℕ). get_or l 1 0) v in
    subst (λ (ks : List ℕ). (0 < get_or ks entrant 0) × ((q : ℕ) → get_or ks q 0 ≤ get_or ks entrant 0)) c.self.view_is
    (greatest_in c.self.inside.nodes.items c.self.inside.entrants c.self.inside.waiting c.self.inside.key
    c.winner.result entrant c.self.invariant.size c.self.invariant.wins c.self.invariant.outside
    (omega (arith, c.if-root_of-self.true, root)) (rw v2 at c.winner.ensures.below) (rw v2 at c.winner.ensures.leaf)
    (rw v2 at c.winner.ensures.key) at)

pub returns-then-self-gt0-clause-some : goal.returns-then-self-gt0-clause-some
returns-then-self-gt0-clause-some c = λ entrant e.
    let at : c.self.inside.waiting ≡ entrant = cc in
    let v : c.deref.result.now ≡ c.self.inside.nodes.items = cc (c.deref.ensures.value) in
    let root : c.root_of.result ≡ get_or c.self.inside.nodes.items 1 0 =
    c.root_of.ensures ∙ ap (λ (l : List ℕ). get_or l 1 0) v in
    subst (λ (ks : List ℕ). (0 < get_or ks entrant 0) × ((q : ℕ) → get_or ks q 0 ≤ get_or ks entrant 0)) c.self.view_is
    (greatest_outside c.self.inside.nodes.items c.self.inside.entrants c.self.inside.waiting c.self.inside.key
    entrant c.self.invariant.size c.self.invariant.wins (omega (arith, c.if-root_of-self.false, root))
    c.if-self-gt0.true (omega (
      arith,
      c.self.invariant.entrant (omega (arith, c.if-self-gt0.true)),
      c.if-self-gt0.true,
      c.self.invariant.outside,
    )) at)

pub returns-else-self-gt0-clause-none : goal.returns-else-self-gt0-clause-none
returns-else-self-gt0-clause-none c = λ e entrant.
    let v : c.deref.result.now ≡ c.self.inside.nodes.items = cc (c.deref.ensures.value) in
    let root : c.root_of.result ≡ get_or c.self.inside.nodes.items 1 0 =
    c.root_of.ensures ∙ ap (λ (l : List ℕ). get_or l 1 0) v in
    subst (λ (ks : List ℕ). get_or ks entrant 0 ≡ 0) c.self.view_is
    (greatest_none c.self.inside.nodes.items c.self.inside.entrants c.self.inside.waiting c.self.inside.key
    entrant c.self.invariant.size c.self.invariant.wins (omega (arith, c.if-root_of-self.false, root))
    c.if-self-gt0.false)
