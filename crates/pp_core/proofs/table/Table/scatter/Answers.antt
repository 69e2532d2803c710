use Rattle.std.proofs.Common.{◌≡◌, ◌∙◌, drop, ap, sym, subst, arith}
use Rattle.pp_bundles.specs.Bundles.{PageStacks, place_count, pages_at}
use Rattle.pp_core.specs.Parts.{Parts, parts_of}
use Rattle.pp_core.specs.Effects.{CanUnpinAll, unpinned, scattered}
use Rattle.pp_core.proofs.Crew.{set_length}
use Rattle.pp_core.proofs.Scattering.{scattered_step, spare_step}
use Rattle.pp_core.proofs.table.Table.scatter.Goals as goal

pub loop-page-preserved : goal.loop-page-preserved
loop-page-preserved c =
    let f = parts_of c.loop-page.self in
    let m = c.loop-page.self.marks in
    let place = c.args.place in
    let top = c.in-Some.ensures.here in
    let stacks : c.unpin.new.self.bundles ≡ c.pop.new.self = ap (λ (p : Parts). p.bundles) c.unpin.ensures in
    record {
      place = omega (
        arith,
        c.loop-page.invariant.place,
        ap place_count c.pop.ensures.exact,
        ap place_count stacks,
        set_length c.loop-page.self.bundles.stacks c.args.place
            (drop 1 (pages_at c.loop-page.self.bundles c.args.place)),
      );
      spare = subst (λ (b : PageStacks). CanUnpinAll (pages_at b place) c.unpin.new.self.marks) (sym stacks)
          (spare_step (pages_at f.bundles place) (pages_at c.pop.new.self place) c.in-Some.page m
          c.unpin.new.self.marks top (ap (λ (p : Parts). p.marks) c.unpin.ensures) c.loop-page.invariant.spare);
      goes = ap (λ (p : Parts). scattered p place) c.unpin.ensures
          ∙ scattered_step f (record f { marks = unpinned m c.in-Some.page; bundles = c.pop.new.self }) place
          c.in-Some.page top (λ i. record f { marks = unpinned m c.in-Some.page; bundles = c.pop.ensures.exact i })
          ∙ c.loop-page.invariant.goes;
    }
