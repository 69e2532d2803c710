use Rattle.std.proofs.Common.{◌∙◌, length, Some, refl, sym, ap, subst, arith}
use Rattle.std.proofs.lemmas.Bool.{false≢true}
use Rattle.pp_pool.specs.Together.{ChangesAt}
use Rattle.pp_pool.proofs.Bodies.{others_changed}
use Rattle.pp_pool.proofs.Lookups.{found, missing, place_same, places_differ}
use Rattle.pp_pool.proofs.held.Held.two.Goals as goal

pub returns-in_default-clause-there : goal.returns-in_default-clause-there
returns-in_default-clause-there g c = (
  λ t. absurd (false≢true t),
  λ h. sym (missing c.args.self.now c.args.first (sym c.place.ensures ∙ c.in_default.is)).0 ∙ h.1,
)

pub returns-in_default-place-clause-there : goal.returns-in_default-place-clause-there
returns-in_default-place-clause-there g c = (
  λ t. absurd (false≢true t),
  λ h. sym (missing c.args.self.now c.args.second (sym c.place-2.ensures ∙ c.in_default-place.is)).0 ∙ h.2,
)

pub returns-then-one-other-clause-there : goal.returns-then-one-other-clause-there
returns-then-one-other-clause-there g c = (
  λ t. absurd (false≢true t),
  λ h. absurd (h.0 (place_same c.args.self.now c.args.first c.args.second c.in-Some.one (sym c.place.ensures ∙ c.in-Some.is)
      (sym c.place-2.ensures ∙ c.in-Some-place.is ∙ ap (λ (n : _). Some n) (sym c.if-one-other.true)))),
)

pub returns-then-one-other-2-clause-there : goal.returns-then-one-other-2-clause-there
returns-then-one-other-2-clause-there g c =
    let guards = c.args.self.now in
    let one = sym c.place.ensures ∙ c.in-Some.is in
    let other = sym c.place-2.ensures ∙ c.in-Some-place.is in (
      λ _. (
        places_differ guards c.args.first c.args.second c.in-Some.one c.in-Some-place.other one other c.if-one-other.false,
        (found guards c.args.first c.in-Some.one one).is_there,
        (found guards c.args.second c.in-Some-place.other other).is_there,
      ),
      λ _. refl,
    )

pub returns-clause-there : goal.returns-clause-there
returns-clause-there g c =
    let guards = c.args.self.now in
    let one = sym c.place.ensures ∙ c.in-Some.is in
    let other = sym c.place-2.ensures ∙ c.in-Some-place.is in (
      λ _. (
        places_differ guards c.args.first c.args.second c.in-Some.one c.in-Some-place.other one other c.if-one-other.false,
        (found guards c.args.first c.in-Some.one one).is_there,
        (found guards c.args.second c.in-Some-place.other other).is_there,
      ),
      λ _. refl,
    )

pub invariant_of-self : goal.invariant_of-self
invariant_of-self g c =
    let guards = c.self.inside.guards.items in
    let long = ap length c.self.view_is in
    let one = (found c.args.self.now c.args.first c.in-Some.one (sym c.place.ensures ∙ c.in-Some.is)).within in
    let other = (found c.args.self.now c.args.second c.in-Some-place.other (sym c.place-2.ensures ∙ c.in-Some-place.is)).within in
    record {
      others =
          others_changed g.F.FnOnce c.args.change g.L.Loan.began guards c.in-Some.one c.in-Some-place.other
          c.change_rising-answer.result c.change_rising-answer.new.guards.items c.if-one-other.false
          (omega (arith, long, one)) (omega (arith, long, other)) c.change_rising-answer.ensures.changed c.self.invariant.others;
      places =
          (let wide = c.self.invariant.places in let same = c.change_rising-answer.ensures.capacity in omega (arith, wide, same));
    }

pub invariant_of-self-2 : goal.invariant_of-self-2
invariant_of-self-2 g c =
    let guards = c.self.inside.guards.items in
    let long = ap length c.self.view_is in
    let one = (found c.args.self.now c.args.first c.in-Some.one (sym c.place.ensures ∙ c.in-Some.is)).within in
    let other = (found c.args.self.now c.args.second c.in-Some-place.other (sym c.place-2.ensures ∙ c.in-Some-place.is)).within in
    record {
      others =
          others_changed g.F.FnOnce c.args.change g.L.Loan.began guards c.in-Some.one c.in-Some-place.other
          c.change_falling-answer.result c.change_falling-answer.new.guards.items c.if-one-other.false
          (omega (arith, long, one)) (omega (arith, long, other)) c.change_falling-answer.ensures.changed c.self.invariant.others;
      places =
          (let wide = c.self.invariant.places in let same = c.change_falling-answer.ensures.capacity in omega (arith, wide, same));
    }

pub returns-then-one-other-2-clause-changes : goal.returns-then-one-other-2-clause-changes
returns-then-one-other-2-clause-changes g c = record {
  one = c.in-Some.one;
  other = c.in-Some-place.other;
  finds = (sym c.place.ensures ∙ c.in-Some.is, sym c.place-2.ensures ∙ c.in-Some-place.is);
  changes =
      subst (λ ws. ChangesAt g.F.FnOnce c.args.change c.in-Some.one c.in-Some-place.other ws c.change_rising-answer.result
      c.change_rising-answer.new.guards.items) c.self.view_is c.change_rising-answer.ensures.changed;
}

pub returns-clause-changes : goal.returns-clause-changes
returns-clause-changes g c = record {
  one = c.in-Some.one;
  other = c.in-Some-place.other;
  finds = (sym c.place.ensures ∙ c.in-Some.is, sym c.place-2.ensures ∙ c.in-Some-place.is);
  changes =
      subst (λ ws. ChangesAt g.F.FnOnce c.args.change c.in-Some.one c.in-Some-place.other ws c.change_falling-answer.result
      c.change_falling-answer.new.guards.items) c.self.view_is c.change_falling-answer.ensures.changed;
}
