-- What is left to show of NamedLinks::before.
use Rattle.std.proofs.Common.{refl, subst, ℕ}
use Rattle.pp_arc.specs.Links.{SomeAhead, NoneAhead}
use Rattle.pp_arc.specs.Names.{lists_named}
use Rattle.pp_arc.proofs.NamingLemmas.{placed-node}
use Rattle.pp_arc.proofs.named.NamedLinks.before.Goals as goal

pub page_before-requires : goal.page_before-requires
page_before-requires c = record { stands = (c.in-Some.ensures.some c.in-Some.node refl).stands }

pub returns-in-Some : goal.returns-in-Some
returns-in-Some c = record {
  some = subst (λ (y : ℕ). SomeAhead (lists_named c.args.self.now) y c.page_before.result)
      (c.in-Some.ensures.some c.in-Some.node refl).page c.page_before.ensures.some;
  none = subst (λ (y : ℕ). NoneAhead (lists_named c.args.self.now) y c.page_before.result)
      (c.in-Some.ensures.some c.in-Some.node refl).page c.page_before.ensures.none;
}

pub returns-in-None-clause-some : goal.returns-in-None-clause-some
returns-in-None-clause-some c = λ list ahead at e.
    absurd (placed-node (lists_named c.args.self.now) c.args.page c.requires (c.in-None.ensures.none refl))

pub returns-in-None-clause-none : goal.returns-in-None-clause-none
returns-in-None-clause-none c = λ list at e.
    absurd (placed-node (lists_named c.args.self.now) c.args.page c.requires (c.in-None.ensures.none refl))
