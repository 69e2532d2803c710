-- What is left to show of Bundles::pop.
use Rattle.std.proofs.Common.{◌≡◌, sym, ap, ◌∙◌}
use Rattle.std.specs.Prelude.{slice_get, Some, None, ◌∷◌}
use Rattle.pp_bundles.specs.Bundles.{pages_at}
use Rattle.pp_bundles.proofs.PlaceLemmas.{first_at, popped_none, popped_by, pages_before}
use Rattle.pp_bundles.proofs.bundles.Bundles.pop.Goals as goal

pub returns-in_err-page-clause-exact : goal.returns-in_err-page-clause-exact
returns-in_err-page-clause-exact c =
    let none : slice_get (pages_at c.args.self.now c.args.place) 0 ≡ None =
    first_at c.self.inside.stacks c.args.self.now c.args.place c.stack_of-stack.result c.first.result c.self.view_is
    c.stack_of-stack.ensures c.first.ensures ∙ c.in_err-page.was in
    sym (popped_none c.args.self.now c.args.place none)

pub returns-clause-exact : goal.returns-clause-exact
returns-clause-exact c =
    let some : slice_get (pages_at c.args.self.now c.args.place) 0 ≡ Some c.in_ok-page.page =
    first_at c.self.inside.stacks c.args.self.now c.args.place c.stack_of-stack.result c.first.result c.self.view_is
    c.stack_of-stack.ensures c.first.ensures ∙ c.in_ok-page.was in
    popped_by c.self.inside.stacks c.move_record.new.self c.args.self.now c.args.place c.stack_of-stack.result
    c.in_ok-page.page c.self.view_is c.stack_of-stack.ensures c.move_record.ensures some

pub returns-clause-here : goal.returns-clause-here
returns-clause-here c =
    let some : slice_get (pages_at c.args.self.now c.args.place) 0 ≡ Some c.in_ok-page.page =
    first_at c.self.inside.stacks c.args.self.now c.args.place c.stack_of-stack.result c.first.result c.self.view_is
    c.stack_of-stack.ensures c.first.ensures ∙ c.in_ok-page.was in
    let exact =
    popped_by c.self.inside.stacks c.move_record.new.self c.args.self.now c.args.place c.stack_of-stack.result
    c.in_ok-page.page c.self.view_is c.stack_of-stack.ensures c.move_record.ensures some in
    pages_before c.args.self.now c.args.place c.in_ok-page.page some
    ∙ ap (λ s. c.in_ok-page.page ∷ pages_at s c.args.place) (sym exact)
